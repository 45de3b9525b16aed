use Rattle.std.proofs.Common.{◌≡◌, All, vec_len}
use Rattle.cilk_program.specs.Syntax.{Source}
use Rattle.cilk_helpers.specs.Replayed.{AreFitting, AreNumbered, IsOwn}
use Rattle.cilk_helpers.proofs.depths.empty.Given as goal

abbrev pub invariant-each : goal.invariant-each
invariant-each l = record {
  count : vec_len l.shares ≡ l.place;
  numbers : AreNumbered l.shares.items;
  none : All (IsOwn l.helpers) l.shares.items;
  fits : (p : Source) → All (AreFitting p) l.shares.items;
}
