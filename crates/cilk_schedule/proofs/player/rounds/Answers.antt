use Rattle.std.proofs.Common.{◌≡◌, ◌+◌, ◌-◌, ◌∷◌, [], suc, sym, subst, arith}
use Rattle.cilk_schedule.specs.Playing.{ComesToFault, Leads, Rounds}
use Rattle.cilk_schedule.proofs.Following.{handed}
use Rattle.cilk_schedule.proofs.Keeping.{comes_round, done_rounds, leads_on, leads_round, leads_same, over_rounds}
use Rattle.cilk_schedule.proofs.player.rounds.Goals as goal

pub returns-then-ended-clause-made : goal.returns-then-ended-clause-made
returns-then-ended-clause-made c =
    leads_on c.args.workers (Rounds 4000000 ∷ []) (Rounds (4000000 - c.rounds._made) ∷ []) c.args.machine.now c.rounds.machine c.rounds.invariant.led [] c.rounds.machine
    (over_rounds c.args.workers (4000000 - c.rounds._made) c.rounds.machine (sym c.if-ended.ensures))

pub returns-in_err-round-clause-fault : goal.returns-in_err-round-clause-fault
returns-in_err-round-clause-fault c =
    let more : 4000000 - c.rounds._made ≡ suc (4000000 - (c.rounds._made + 1)) = omega arith in
    handed c.from_residual.result c.in_err-round.field-0.0 (λ f. ComesToFault c.args.workers (Rounds 4000000 ∷ []) c.args.machine.now f) c.from_residual.ensures.1
    (comes_round c.args.workers 4000000 (4000000 - c.rounds._made) (4000000 - (c.rounds._made + 1)) c.args.machine.now c.rounds.machine
    c.in_err-round.field-0.0 c.rounds.invariant.led more (sym c.if-ended.ensures) c.in_err-round.ensures.fault)

pub rounds-preserved : goal.rounds-preserved
rounds-preserved c =
    let more : 4000000 - c.rounds._made ≡ suc (4000000 - (c.rounds._made + 1)) = omega arith in
    record {
      going = c.in_ok-round.ensures.going;
      led =
          leads_round c.args.workers 4000000 (4000000 - c.rounds._made) (4000000 - (c.rounds._made + 1)) c.args.machine.now c.rounds.machine
          c.round.new.machine c.rounds.invariant.led more (sym c.if-ended.ensures) c.in_ok-round.ensures.made;
    }

pub returns-clause-made : goal.returns-clause-made
returns-clause-made c =
    let none : 4000000 - c.rounds._made ≡ 0 = omega arith in
    leads_on c.args.workers (Rounds 4000000 ∷ []) (Rounds 0 ∷ []) c.args.machine.now c.rounds.machine
    (subst (λ n. Leads c.args.workers (Rounds 4000000 ∷ []) c.args.machine.now (Rounds n ∷ []) c.rounds.machine) none c.rounds.invariant.led) [] c.rounds.machine
    (done_rounds c.args.workers c.rounds.machine)

pub rounds-init : goal.rounds-init
rounds-init c = record { going = c.requires; led = leads_same c.args.workers (Rounds 4000000 ∷ []) c.args.machine.now }
