use Rattle.std.proofs.Common.{◌≡◌, map, take}
use Rattle.cilk_program.specs.Programs.{function}
use Rattle.cilk_lower.specs.Layout.{frame_of}
use Rattle.cilk_lower.proofs.layout.function_frames.Given as goal

abbrev pub invariant-each : goal.invariant-each
invariant-each l = l.frames.items ≡ map (λ f. frame_of (function f)) (take l.f-index l.functions)
