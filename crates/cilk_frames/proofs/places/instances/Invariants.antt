use Rattle.std.proofs.Common.{◌≡◌, ℕ, take}
use Rattle.cilk_types.specs.declared.event.Instance.{Instance}
use Rattle.cilk_program.specs.Scopes.{Scope, instances_in}
use Rattle.cilk_program.specs.SerialRun.{global_reducer}
use Rattle.cilk_frames.specs.Sight.{HasScope}
use Rattle.cilk_frames.proofs.places.instances.Given as goal

abbrev pub invariant-each : goal.invariant-each
invariant-each g l = (scope : Scope ℕ Instance) → HasScope l.frames l.top scope → l.list.items ≡ instances_in global_reducer scope (take l.reducer-index l.reducers)
