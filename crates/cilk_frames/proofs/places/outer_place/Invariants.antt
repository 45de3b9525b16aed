use Rattle.std.proofs.Common.{ℕ, drop}
use Rattle.cilk_types.specs.declared.event.Instance.{Instance}
use Rattle.cilk_program.specs.Scopes.{Scope}
use Rattle.cilk_frames.specs.Sight.{HasScope, LinksTo}
use Rattle.cilk_frames.proofs.places.outer_place.Given as goal

abbrev pub invariant-each : goal.invariant-each
invariant-each g l = (scope : Scope ℕ Instance) → HasScope l.frames l.top scope → LinksTo l.frames l.place (drop l.counter scope)
