use Rattle.std.proofs.Common.{◌≡◌, Bool, true, false, not, Option, Some, None, IsTrue, refl, sym, ap, ◌∙◌}
use Rattle.std.specs.Option.{is_some}
use Rattle.cilk_scheduler.proofs.Placed.{get_some}
use Rattle.cilk_schedule.proofs.stretch.may_make.Goals as goal

none_of : {A : Type 0} (o : Option A) (b : Bool) → is_some o ≡ not b → IsTrue b → o ≡ None
none_of None b e h = refl
none_of (Some x) b e h = let f : true ≡ false = e ∙ ap not h in cc

pub returns-then-len-capacity-clause-accepted : goal.returns-then-len-capacity-clause-accepted
returns-then-len-capacity-clause-accepted c = λ is.
    let it = get_some c.args.scheduler.now.frames.items c.args.frame c.requires.asked.1.here in
    record { frame_state = it.0; sits = it.1; accepted = sym (c.refused.ensures it.0 it.1) ∙ none_of c.refused.result c.is_none.result c.is_none.ensures is }
