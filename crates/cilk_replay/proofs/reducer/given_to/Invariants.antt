use Rattle.std.proofs.Common.{◌≡◌, map, take}
use Rattle.cilk_program.specs.declared.syntax.Reducer.{Reducer}
use Rattle.cilk_replay.specs.Reducing.{reducer_in}
use Rattle.cilk_replay.specs.Sights.{layouts_of}
use Rattle.cilk_replay.proofs.reducer.given_to.Given as goal

abbrev pub invariant-each : goal.invariant-each
invariant-each l = l.numbers.items ≡ map (λ (r : Reducer). reducer_in (layouts_of l.sight) l.sight.given.items r.place) (take l.reducer-index l.reducers)
