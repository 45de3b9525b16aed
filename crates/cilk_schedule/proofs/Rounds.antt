-- Rounds of one worker, by a number of its choices.
--
-- - `rounds_continue`: that many rounds are done;
-- - `leads_runs`: of a machine;
-- - `comes_into`: the next one stops the run.
use Rattle.std.proofs.Common.{◌≡◌, ◌+◌, ◌-◌, ℕ, zero, suc, true, ℤ, List, [], ◌∷◌, ◌++◌, refl, sym, ap, subst, arith}
use Rattle.std.specs.Prelude.{if◌then◌else◌}
use Rattle.std.specs.Option.{is_some}
use Rattle.cilk_program.specs.Syntax.{Source}
use Rattle.cilk_determinacy.specs.Machine.{State}
use Rattle.cilk_determinacy.specs.Reducers.{View}
use Rattle.cilk_determinacy.specs.FrameEnvs.{FrameEnv}
use Rattle.cilk_scheduler.specs.WorkerTables.{WorkerTable}
use Rattle.cilk_scheduler.specs.declared.choice.Choice.TheVariants as choices
use Rattle.cilk_scheduler.specs.declared.choice.Stop.{Stop}
use Rattle.cilk_schedule.specs.Playing.{ComesToFault, Follows, IsFaultOf, Leads, Rounds, Turn}
use Rattle.cilk_schedule.specs.Repeating.{Continues, RunsInto, RunsOn}
use Rattle.cilk_schedule.specs.declared.fault.PlayFault.{PlayFault}
use Rattle.cilk_schedule.specs.declared.machine.Machine.{Machine}
use Rattle.cilk_schedule.proofs.Following.{all_ahead, chosen, follows_on, round_begins, turned, turns_more}
use Rattle.cilk_schedule.proofs.Keeping.{comes_round, comes_turned, refused_at, turn_runs}
use Rattle.cilk_schedule.proofs.Played.{at_moved}

module _ (p : Source) (inputs : List ℤ) where
  rounds_continue : (n count total : ℕ) (s t : State FrameEnv View) (d d' : WorkerTable) → total ≡ count + n → Continues p inputs 1 n s d t d' → Follows p inputs 1 (Rounds total ∷ []) s d (Rounds count ∷ []) t d'
  rounds_continue zero count total s t d d' e (same, at) =
      let all : count ≡ total = omega (arith, e) in
      subst (λ z. Follows p inputs 1 (Rounds total ∷ []) s d (Rounds count ∷ []) z d') (sym same)
      (subst (λ z. Follows p inputs 1 (Rounds total ∷ []) s d (Rounds count ∷ []) s z) (sym at)
      (subst (λ k. Follows p inputs 1 (Rounds total ∷ []) s d (Rounds k ∷ []) s d) (sym all) (λ rest end q. q)))
  rounds_continue (suc n) count total s t d d' e (told, u, g, first, going, busy, last) =
      let more : total ≡ suc count + n = omega (arith, e) in
      let ahead = rounds_continue n (suc count) total s u d g more first in
      let runs : choices.Run 1 ≡ (if true then choices.Run 1 else choices.Steal 1 0) = refl in
      let one = turned p inputs 1 1 (choices.Run 1) u t g d' (sym (ap (λ z. if z then choices.Run 1 else choices.Steal 1 0) busy)) (chosen p inputs 1 (choices.Run 1) told u t g d' last) in
      let round = all_ahead p inputs 1 (Turn 1 ∷ []) (Rounds count ∷ []) u t g d' one in
      let begins = subst (λ ts. Follows p inputs 1 (Rounds (suc count) ∷ []) u g (ts ++ (Rounds count ∷ [])) u g) (turns_more 1 1 0 refl) (round_begins p inputs 1 count u g going) in
      follows_on p inputs 1 (Rounds total ∷ []) (Rounds (suc count) ∷ []) (Rounds count ∷ []) s u t d g d' ahead
      (follows_on p inputs 1 (Rounds (suc count) ∷ []) (Turn 1 ∷ Rounds count ∷ []) (Rounds count ∷ []) u u t g g d' begins round)

pub leads_runs : (n count total : ℕ) (m m' : Machine) → total ≡ count + n → m'.code ≡ m.code → m'.input ≡ m.input → RunsOn (let c = m.code in c.now) (let i = m.input in i.now) 1 n m.scheduler m'.scheduler → Leads 1 (Rounds total ∷ []) m (Rounds count ∷ []) m'
leads_runs n count total m m' e same_code same_input led = record {
  code = same_code;
  input = same_input;
  reached = λ p is h.
      let i = m.input in
      let r = led p is h in
      let x = r.0 in
      at_moved m.code m'.code m.input m'.input same_code same_input p m'.scheduler (λ s d. Follows p i.now 1 (Rounds total ∷ []) h.state h.worker_table (Rounds count ∷ []) s d)
      (x, rounds_continue p i.now n count total h.state x.state h.worker_table x.worker_table e r.1);
}

pub comes_into : (most : ℕ) (m m' : Machine) (stop : Stop) (f : PlayFault) → RunsInto (let c = m.code in c.now) (let i = m.input in i.now) 1 most m.scheduler m'.scheduler stop → IsFaultOf m'.scheduler stop f → ComesToFault 1 (Rounds most ∷ []) m f
comes_into most m m' stop f r told =
    let mid : Machine = record m { scheduler = r.between } in
    let few = r.few in
    let all : most ≡ (most - r.count) + r.count = omega (arith, few) in
    let more : most - r.count ≡ suc (most - r.count - 1) = omega (arith, few) in
    let one = comes_turned 1 1 (choices.Run 1) mid f (turn_runs mid.scheduler 1 r.busy) (refused_at 1 mid m' (choices.Run 1) stop f r.faults told) in
    comes_round 1 most (most - r.count) (most - r.count - 1) m mid f (leads_runs r.count (most - r.count) most m mid all refl refl r.led) more (ap is_some r.going)
    (subst (λ ts. ComesToFault 1 ts mid f) (sym (turns_more 1 1 0 refl)) one)
