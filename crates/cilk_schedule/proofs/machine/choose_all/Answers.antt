use Rattle.std.proofs.Common.{◌<◌, ◌++◌, suc, drop, length, sym, ap, ◌∙◌, subst, arith, take}
use Rattle.std.proofs.Math.Seq.{drop-cons}
use Rattle.std.proofs.lemmas.List.{take-append-drop, take_more}
use Rattle.cilk_schedule.specs.Played.{HaltAt, LeadOn}
use Rattle.cilk_schedule.proofs.Played.{halt_more, lead_more, lead_same}
use Rattle.cilk_schedule.proofs.machine.choose_all.Goals as goal

pub each-init : goal.each-init
each-init c = record { going = c.requires; led = lead_same c.args.machine.now }

pub each-preserved : goal.each-preserved
each-preserved c =
    let list = c.args.choices.now in
    let e = c.in_default.ensures in
    let low : c.each.choice-index < length c.args.choices.now = omega arith in
    record {
      going = (e.going.1, e.runs e.going.1);
      led = subst (λ l. LeadOn l c.args.machine.now c.choose.new.self) (sym (take_more list c.each.choice-index _ low))
          (lead_more (take c.each.choice-index list) _ c.args.machine.now c.each.machine c.choose.new.self c.each.invariant.led e.same.0 e.same.1 c.in_default.field-0 e.reached);
    }

pub returns-in-Err-clause-halted : goal.returns-in-Err-clause-halted
returns-in-Err-clause-halted c =
    let list = c.args.choices.now in
    let i = c.each.choice-index in
    let e = c.in-Err.ensures in
    let low : c.each.choice-index < length c.args.choices.now = omega arith in
    subst (λ l. HaltAt l c.args.machine.now c.choose.new.self c.in-Err.stop) (ap (λ r. take i list ++ r) (sym (drop-cons list i _ low)) ∙ take-append-drop i list)
    (halt_more (take i list) _ c.args.machine.now c.each.machine c.choose.new.self c.each.invariant.led e.same.0 e.same.1 (drop (suc i) list) c.in-Err.stop (e.stops c.each.invariant.going.0))
