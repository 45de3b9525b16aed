-- The child that a frame requests.
use Rattle.std.specs.Prelude.{◌≡◌, true, false}
use Rattle.cilk_program.specs.declared.ask.Ask.{Ask}
use Rattle.cilk_program.specs.declared.ask.Ask.TheVariants as asks
use Rattle.cilk_program.specs.declared.ask.Callee.TheVariants as callees
use Rattle.cilk_program.specs.declared.program.Body.{Body}
use Rattle.cilk_program.specs.declared.program.Body.TheVariants as bodies
use Rattle.cilk_replay.specs.Frames.{same_body}
use Rattle.cilk_replay.specs.declared.plan_match.PlanMatch.{PlanMatch}
use Rattle.cilk_replay.specs.declared.plan_match.PlanMatch.TheVariants as matches

-- the function or loop of the child
abbrev pub body_asked : Ask → Body
body_asked (asks.Invoke how (callees.Function c)) = bodies.Function c.function
body_asked (asks.Invoke how (callees.Loop l)) = bodies.Loop l.number
body_asked k = bodies.Function 0

-- the comparison with the function or loop of the plan's child
abbrev pub MatchesBody : Body → Body → PlanMatch → Type 0
MatchesBody planned asked matches.Follows = same_body planned asked ≡ true
MatchesBody planned asked matches.Departs = same_body planned asked ≡ false
