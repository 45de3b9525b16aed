use Rattle.std.proofs.Common.{◌≡◌, ◌+◌, ◌-◌, ◌≤◌, ◌∷◌, [], ℕ, suc, sym, subst, arith}
use Rattle.cilk_schedule.specs.Playing.{ComesToFault, Leads, Rounds}
use Rattle.cilk_schedule.specs.Repeating.{RunsOn}
use Rattle.cilk_schedule.specs.declared.machine.Machine.{Machine}
use Rattle.cilk_schedule.proofs.Following.{handed}
use Rattle.cilk_schedule.proofs.Keeping.{comes_later, comes_round, done_rounds, leads_on, leads_round, leads_same, over_rounds}
use Rattle.cilk_schedule.proofs.Rounds.{comes_into, leads_runs}
use Rattle.cilk_schedule.proofs.player.rounds_of_one.Goals as goal

-- after the choices of a stretch
behind : (first m m1 : Machine) (left made : ℕ) → made ≤ left → Leads 1 (Rounds 4000000 ∷ []) first (Rounds left ∷ []) m → m1.code ≡ m.code → m1.input ≡ m.input
    → RunsOn (let c = m.code in c.now) (let i = m.input in i.now) 1 made m.scheduler m1.scheduler → Leads 1 (Rounds 4000000 ∷ []) first (Rounds (left - made) ∷ []) m1
behind first m m1 left made few led same_code same_input runs =
    let all : left ≡ (left - made) + made = omega (arith, few) in
    leads_on 1 (Rounds 4000000 ∷ []) (Rounds left ∷ []) first m led (Rounds (left - made) ∷ []) m1 (leads_runs made (left - made) left m m1 all same_code same_input runs)

done : (first m : Machine) (left : ℕ) → left ≡ 0 → Leads 1 (Rounds 4000000 ∷ []) first (Rounds left ∷ []) m → Leads 1 (Rounds 4000000 ∷ []) first [] m
done first m left none led =
    leads_on 1 (Rounds 4000000 ∷ []) (Rounds 0 ∷ []) first m (subst (λ n. Leads 1 (Rounds 4000000 ∷ []) first (Rounds n ∷ []) m) none led) [] m (done_rounds 1 m)

pub stretches-init : goal.stretches-init
stretches-init c = record { going = c.requires; few = omega arith; led = leads_same 1 (Rounds 4000000 ∷ []) c.args.machine.now }

pub returns-in-Err-clause-fault : goal.returns-in-Err-clause-fault
returns-in-Err-clause-fault c =
    let m = c.stretches.machine in
    comes_later 1 (Rounds 4000000 ∷ []) (Rounds c.stretches.left ∷ []) c.args.machine.now m c.stretches.invariant.led c.stopped.result
    (comes_into c.stretches.left m c.choose_many.new.self c.in-Err.stop c.stopped.result c.in-Err.ensures.halted c.stopped.ensures)

pub returns-then-ended-clause-made : goal.returns-then-ended-clause-made
returns-then-ended-clause-made c =
    let i = c.stretches.invariant in
    let m1 = c.choose_many.new.self in
    let made = c.in-Ok.made in
    let l = behind c.args.machine.now c.stretches.machine m1 c.stretches.left made c.in-Ok.ensures.few i.led c.choose_many.ensures.same.0 c.choose_many.ensures.same.1 c.in-Ok.ensures.led in
    leads_on 1 (Rounds 4000000 ∷ []) (Rounds (c.stretches.left - made) ∷ []) c.args.machine.now m1 l [] m1 (over_rounds 1 (c.stretches.left - made) m1 (sym c.if-ended.ensures))

pub returns-in_err-round-clause-fault : goal.returns-in_err-round-clause-fault
returns-in_err-round-clause-fault c =
    let i = c.stretches.invariant in
    let m1 = c.choose_many.new.self in
    let made = c.in-Ok.made in
    let left : ℕ = c.stretches.left - made in
    let l = behind c.args.machine.now c.stretches.machine m1 c.stretches.left made c.in-Ok.ensures.few i.led c.choose_many.ensures.same.0 c.choose_many.ensures.same.1 c.in-Ok.ensures.led in
    let more : left ≡ suc (left - 1) = omega arith in
    handed c.from_residual.result c.in_err-round.field-0.0 (λ f. ComesToFault 1 (Rounds 4000000 ∷ []) c.args.machine.now f) c.from_residual.ensures.1
    (comes_round 1 4000000 left (left - 1) c.args.machine.now m1 c.in_err-round.field-0.0 l more (sym c.if-ended.ensures) c.in_err-round.ensures.fault)

pub stretches-preserved : goal.stretches-preserved
stretches-preserved c =
    let i = c.stretches.invariant in
    let m1 = c.choose_many.new.self in
    let made = c.in-Ok.made in
    let left : ℕ = c.stretches.left - made in
    let few = c.in-Ok.ensures.few in
    let l = behind c.args.machine.now c.stretches.machine m1 c.stretches.left made few i.led c.choose_many.ensures.same.0 c.choose_many.ensures.same.1 c.in-Ok.ensures.led in
    let more : left ≡ suc (left - 1) = omega arith in
    record {
      going = c.in_ok-round.ensures.going;
      few = (let top = i.few in omega (arith, top));
      led = leads_round 1 4000000 left (left - 1) c.args.machine.now m1 c.round.new.machine l more (sym c.if-ended.ensures) c.in_ok-round.ensures.made;
    }

pub returns-clause-made : goal.returns-clause-made
returns-clause-made c = done c.args.machine.now c.stretches.machine c.stretches.left (omega arith) c.stretches.invariant.led

pub returns-then-left-eq0-clause-made : goal.returns-then-left-eq0-clause-made
returns-then-left-eq0-clause-made c =
    let m1 = c.choose_many.new.self in
    let made = c.in-Ok.made in
    let left : ℕ = c.stretches.left - made in
    let none : left ≡ 0 = omega arith in
    let l = behind c.args.machine.now c.stretches.machine m1 c.stretches.left made c.in-Ok.ensures.few c.stretches.invariant.led c.choose_many.ensures.same.0 c.choose_many.ensures.same.1 c.in-Ok.ensures.led in
    done c.args.machine.now m1 left none l
