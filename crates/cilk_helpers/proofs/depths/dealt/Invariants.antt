use Rattle.std.proofs.Common.{◌≡◌, ◌<◌, All, vec_len}
use Rattle.cilk_program.specs.Syntax.{Source}
use Rattle.cilk_helpers.specs.Replayed.{AreFitting, AreNumbered, IsFitting, IsOwn}
use Rattle.cilk_helpers.proofs.depths.dealt.Given as goal

abbrev pub invariant-dues : goal.invariant-dues
invariant-dues l = record {
  some : 0 < vec_len l.shares;
  count : vec_len l.shares ≡ l.helpers;
  numbers : AreNumbered l.shares.items;
  own : All (IsOwn l.helpers) l.shares.items;
  rest : (p : Source) → All (IsFitting p) l.fn.dues.items → All (IsFitting p) l.dues.items;
  fits : (p : Source) → All (IsFitting p) l.fn.dues.items → All (AreFitting p) l.shares.items;
}
