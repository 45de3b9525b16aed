use Rattle.std.proofs.Common.{◌≡◌, Option, Some, None, option_map, sym, ap, ◌∙◌}
use Rattle.cilk_lower.specs.declared.layout.Layout.{Layout}
use Rattle.cilk_program.specs.Syntax.{Source}
use Rattle.cilk_program.specs.declared.ask.Callee.{Callee}
use Rattle.cilk_program.specs.declared.ask.Callee.TheVariants.{Root, Function, Loop}
use Rattle.cilk_serial.specs.SoFar.{BeginsTarget, IsTargetOf, RunView}
use Rattle.cilk_serial.specs.declared.serial_run.Target.{Target}
use Rattle.cilk_checker.specs.declared.frames.Own.{Own}
use Rattle.cilk_checker.specs.Frames.{BeginsOwn, own_by, own_of}
use Rattle.cilk_checker.proofs.frames.of_next.Goals as goal

same_own : (p : Source) (l : Layout) (callee : Option Callee) (t : Option Target) → IsTargetOf callee t → option_map (own_by l) t ≡ option_map (own_of p l) callee
same_own p l None t is = ap (option_map (own_by l)) is
same_own p l (Some Root) t is = absurd is
same_own p l (Some (Function call)) t is = ap (option_map (own_by l)) is
same_own p l (Some (Loop part)) t is = ap (option_map (own_by l)) is

begins_own : (p : Source) (l : Layout) (v : RunView) (t : Option Target) → BeginsTarget v t → (own : Option Own) → own ≡ option_map (own_by l) t → BeginsOwn p l v own
begins_own p l v t b own is = record { callee = b.callee; is = is ∙ same_own p l b.callee t b.is; begins = b.begins }

pub returns-in-Some : goal.returns-in-Some
returns-in-Some c = λ p.
    begins_own p c.args.layout.now c.args.serial.now c.target.result c.target.ensures (Some c.of_target.result)
    (ap (λ (o : Own). Some o) c.of_target.ensures ∙ ap (option_map (own_by c.args.layout.now)) (sym c.in-Some.is))

pub returns-in-None : goal.returns-in-None
returns-in-None c = λ p.
    begins_own p c.args.layout.now c.args.serial.now c.target.result c.target.ensures None (ap (option_map (own_by c.args.layout.now)) (sym c.in-None.is))
