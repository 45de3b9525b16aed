use Rattle.std.proofs.Common.{◌≡◌, ◌+◌, ◌-◌, [], ℕ, suc, subst, arith}
use Rattle.cilk_schedule.specs.Playing.{ComesToFault, Leads, turns}
use Rattle.cilk_schedule.proofs.Following.{handed}
use Rattle.cilk_schedule.proofs.Keeping.{comes_turn, leads_same, leads_turn}
use Rattle.cilk_schedule.proofs.player.round.Goals as goal

pub returns-in_err-turn-clause-fault : goal.returns-in_err-turn-clause-fault
returns-in_err-turn-clause-fault c =
    let more : c.args.workers - c.turns.number ≡ suc (c.args.workers - (c.turns.number + 1)) = omega arith in
    handed c.from_residual.result c.in_err-turn.field-0.0 (λ f. ComesToFault c.args.workers (turns 1 c.args.workers) c.args.machine.now f) c.from_residual.ensures.1
    (comes_turn c.args.workers (turns 1 c.args.workers) (c.turns.number + 1) (c.args.workers - c.turns.number) (c.args.workers - (c.turns.number + 1))
    c.args.machine.now c.turns.machine c.in_err-turn.field-0.0 c.turns.invariant.led more (c.in_err-turn.ensures.fault c.args.workers))

pub turns-preserved : goal.turns-preserved
turns-preserved c =
    let more : c.args.workers - c.turns.number ≡ suc (c.args.workers - (c.turns.number + 1)) = omega arith in
    record {
      going = c.in_ok-turn.ensures.going;
      led =
          leads_turn c.args.workers (turns 1 c.args.workers) (c.turns.number + 1) (c.args.workers - c.turns.number) (c.args.workers - (c.turns.number + 1))
          c.args.machine.now c.turns.machine c.turn.new.machine c.turns.invariant.led more (c.in_ok-turn.ensures.made c.args.workers);
    }

pub turns-init : goal.turns-init
turns-init c =
    let all : c.args.workers ≡ c.args.workers - 0 = omega arith in
    record {
      going = c.requires;
      led = subst (λ n. Leads c.args.workers (turns 1 c.args.workers) c.args.machine.now (turns 1 n) c.args.machine.now) all (leads_same c.args.workers (turns 1 c.args.workers) c.args.machine.now);
    }

pub returns-clause-made : goal.returns-clause-made
returns-clause-made c = last (c.args.workers - c.turns.number) (omega arith) c.turns.invariant.led
  where
    last : (n : ℕ) → n ≡ 0 → Leads c.args.workers (turns 1 c.args.workers) c.args.machine.now (turns (c.turns.number + 1) n) c.turns.machine → Leads c.args.workers (turns 1 c.args.workers) c.args.machine.now [] c.turns.machine
    last n e h = subst (λ k. Leads c.args.workers (turns 1 c.args.workers) c.args.machine.now (turns (c.turns.number + 1) k) c.turns.machine) e h
