use Rattle.std.proofs.Common.{⊎_elim, sym, subst}
use Rattle.cilk_schedule.specs.Played.{HaltAt, IsStop}
use Rattle.cilk_schedule.proofs.Played.{played_by, stopped_by}
use Rattle.cilk_schedule.proofs.machine.play.Goals as goal

pub returns-in-Err-clause-stopped : goal.returns-in-Err-clause-stopped
returns-in-Err-clause-stopped c = λ p is.
    let made = c.in-Ok.ensures in
    let e = c.named.ensures in
    let list = c.args.choices.now in
    ⊎_elim
    (λ q. stopped_by c.args.code.now p c.args.input.now c.args.workers c.in-Ok.machine list c.choose_all.new.machine c.named.result.0 c.named.result.1.items is made.of.0 made.of.1 (made.opened p is)
    (subst (λ z. HaltAt list c.in-Ok.machine c.choose_all.new.machine z) (sym q) c.in-Err.ensures.halted) e.unnamed e.named)
    (λ q. subst (λ z. IsStop p c.args.input.now c.args.workers list z c.named.result.1.items) (sym q) (e.unnamed q)) e.same

pub returns-in-Ok-shown-clause-played : goal.returns-in-Ok-shown-clause-played
returns-in-Ok-shown-clause-played c = λ p is.
    let made = c.in-Ok.ensures in
    played_by c.args.code.now p c.args.input.now c.args.workers c.in-Ok.machine c.args.choices.now c.choose_all.new.machine c.in-Ok-shown.shown is made.of.0 made.of.1 (made.opened p is) c.in_default-choose_all.ensures.led c.in-Ok-shown.ensures.run
