use Rattle.std.proofs.Common.{◌≡◌, ◌≤◌, ◌+◌, length}
use Rattle.std.specs.Io.KnownBytes.{Consumes}
use Rattle.cilk_commands.proofs.streams.receive.Given as goal

abbrev pub invariant-loop-turn : goal.invariant-loop-turn
invariant-loop-turn g l = record {
  within : length l.text.items ≤ 262145;
  far : l._turn ≤ length l.text.items;
  few : g.R.CountedRead.reads l.input ≤ g.R.CountedRead.reads l.initial.input + l._turn;
  unfailed : g.R.CountedRead.failed l.input ≡ g.R.CountedRead.failed l.initial.input;
  read : Consumes (g.R.CountedRead.remaining l.initial.input) (g.R.CountedRead.remaining l.input) l.text.items;
}
