-- The arguments so far, and those that are left.
use Rattle.std.proofs.Common.{◌≡◌, ◌++◌, map, drop}
use Rattle.cilk_syntax.specs.Trees.{arguments_of}
use Rattle.cilk_program.specs.Programs.{expression}
use Rattle.cilk_names.specs.Faults.{earliest}
use Rattle.cilk_names.specs.Misnamings.{arguments_faults}
use Rattle.cilk_names.specs.Pass.{words_of, reducers_of}
use Rattle.cilk_names.specs.Tables.{names_of}
use Rattle.cilk_names.proofs.calls.arguments.Given as goal

abbrev pub invariant-each : goal.invariant-each
invariant-each l = record {
  faults : earliest l.first (arguments_faults (names_of l.table) (drop l.index l.kinds) (arguments_of (drop l.index l.list)))
      ≡ earliest l.initial.first (arguments_faults (names_of l.table) l.kinds (arguments_of l.list));
  words : map expression l.found.words.items ++ words_of (names_of l.table) (drop l.index l.kinds) (arguments_of (drop l.index l.list))
      ≡ words_of (names_of l.table) l.kinds (arguments_of l.list);
  reducers : l.found.reducers.items ++ reducers_of (names_of l.table) (drop l.index l.kinds) (arguments_of (drop l.index l.list))
      ≡ reducers_of (names_of l.table) l.kinds (arguments_of l.list);
}
