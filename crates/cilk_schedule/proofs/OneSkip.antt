-- A script has at most one first choice that can't be made, for one reason.
--
-- - `by_hand`, `why_by`, `why_once`: the reason is decided by state and worker table;
-- - `same_choice`, `one_skip`, `skips_are_one`: the law.
use Rattle.std.proofs.Common.{◌≡◌, ◌⊎◌, inl, inr, ◌-◌, ℕ, ℤ, List, length, Option, Some, None, refl, sym, ap, ◌∙◌, subst}
use Rattle.std.specs.Prelude.{map}
use Rattle.cilk_program.specs.Syntax.{Source}
use Rattle.cilk_determinacy.specs.Machine.{State}
use Rattle.cilk_determinacy.specs.Runs.{Name}
use Rattle.cilk_determinacy.specs.Reducers.{View}
use Rattle.cilk_determinacy.specs.FrameEnvs.{FrameEnv}
use Rattle.cilk_scheduler.specs.WorkerTables.{IsOver, WorkerTable, all_offered}
use Rattle.cilk_scheduler.specs.Openings.{first_worker_table}
use Rattle.cilk_scheduler.specs.declared.choice.Choice.{Choice}
use Rattle.cilk_scheduler.specs.declared.choice.Choice.TheVariants as choices
use Rattle.cilk_schedule.specs.Deciding.{Agree}
use Rattle.cilk_schedule.specs.Playing.{Choose, Done, Plays}
use Rattle.cilk_schedule.specs.Strict.{IsFirstSkip, IsWhy, LineTask, SkipsAreOne, hand_at, task_in}
use Rattle.cilk_schedule.specs.declared.unmade.Reason.{Reason}
use Rattle.cilk_schedule.specs.declared.unmade.Reason.TheVariants as reasons
use Rattle.cilk_schedule.specs.declared.unmade.Skip.{Skip}
use Rattle.cilk_schedule.proofs.Strictly.{Parts, over_moves, parts, same_behind}

-- by what a worker has in hand, and by the number of continuations that are offered
abbrev by_hand : Choice → WorkerTable → Option (Option Name) → Reason
by_hand (choices.Run w) d None = reasons.NoWorker
by_hand (choices.Run w) d (Some None) = reasons.NoFrame
by_hand (choices.Run w) d (Some (Some n)) = reasons.HasFrame
by_hand (choices.Steal w k) d None = reasons.NoWorker
by_hand (choices.Steal w k) d (Some None) = reasons.Offers (length (all_offered d.offered))
by_hand (choices.Steal w k) d (Some (Some n)) = reasons.HasFrame

abbrev worker_in : Choice → ℕ
worker_in (choices.Run w) = w
worker_in (choices.Steal w k) = w

module _ (s : State FrameEnv View) (d : WorkerTable) where
  abbrev By : Choice → Reason → Type 0
  By c r = (IsOver s × (r ≡ reasons.Ended)) ⊎ (¬ (IsOver s) × (r ≡ by_hand c d (hand_at d (worker_in c))))

  why_by : (c : Choice) (r : Reason) → IsWhy s d c r → By c r
  why_by (choices.Run w) reasons.Ended h = inl (h, refl)
  why_by (choices.Run w) reasons.NoWorker h = inr (h.0, ap (by_hand (choices.Run w) d) (sym h.1))
  why_by (choices.Run w) reasons.NoFrame h = inr (h.0, ap (by_hand (choices.Run w) d) (sym h.1))
  why_by (choices.Run w) reasons.HasFrame h = absurd h
  why_by (choices.Run w) (reasons.Offers n) h = absurd h
  why_by (choices.Steal w k) reasons.Ended h = inl (h, refl)
  why_by (choices.Steal w k) reasons.NoWorker h = inr (h.0, ap (by_hand (choices.Steal w k) d) (sym h.1))
  why_by (choices.Steal w k) reasons.NoFrame h = absurd h
  why_by (choices.Steal w k) reasons.HasFrame h = let q = h.1 in inr (h.0, ap (by_hand (choices.Steal w k) d) (sym q.1))
  why_by (choices.Steal w k) (reasons.Offers n) h = inr (h.0, ap reasons.Offers h.2 ∙ ap (by_hand (choices.Steal w k) d) (sym h.1))

why_once : (s t : State FrameEnv View) (d d' : WorkerTable) (c : Choice) (r r' : Reason) → d' ≡ d → Agree s t → IsWhy s d c r → IsWhy t d' c r' → r' ≡ r
why_once s t d d' c r r' e agree h k = by (why_by s d c r h) (why_by t d c r' (subst (λ z. IsWhy t z c r') e k))
  where
    over_back : IsOver s → IsOver t
    over_back h = subst (λ z. IsOver (record s { frames = z })) (sym agree.frames) h

    by : By s d c r → By t d c r' → r' ≡ r
    by (inl a) (inl b) = b.1 ∙ sym a.1
    by (inl a) (inr b) = absurd (b.0 (over_back a.0))
    by (inr a) (inl b) = absurd (a.0 (over_moves s t agree b.0))
    by (inr a) (inr b) = b.1 ∙ sym a.1

module _ (p : Source) (inputs : List ℤ) (workers : ℕ) (tasks : List LineTask) where
  same_choice : (line line' : ℕ) (c c' : Choice) → (let x : LineTask = record { line = line'; task = Choose c' } in let y : LineTask = record { line = line; task = Choose c } in x ≡ y) → (line' ≡ line) × (c' ≡ c)
  same_choice line line' c c' e = (ap (λ (z : LineTask). z.line) e, chosen (ap task_in e))
    where
      chosen : Choose c' ≡ Choose c → c' ≡ c
      chosen q = cc

  pub one_skip : (a b : Skip) → IsFirstSkip p inputs workers tasks a → IsFirstSkip p inputs workers tasks b → b ≡ a
  one_skip a b h k =
      by (parts h.before (record { line = a.line; task = Choose a.choice }) h.behind k.before (record { line = b.line; task = Choose b.choice }) k.behind (sym h.stands ∙ k.stands))
    where
      skip_is : (line line' : ℕ) (c c' : Choice) (r r' : Reason) → line' ≡ line → c' ≡ c → r' ≡ r
          → (let x : Skip = record { line = line'; choice = c'; reason = r' } in let y : Skip = record { line = line; choice = c; reason = r } in x ≡ y)
      skip_is line line' c c' r r' e q z = cc

      by : Parts h.before (record { line = a.line; task = Choose a.choice }) h.behind k.before (record { line = b.line; task = Choose b.choice }) k.behind → b ≡ a
      by (inl (same, is)) =
          let x = h.skipped in
          let y = k.skipped in
          let e = same_choice a.line b.line a.choice b.choice is in
          let plays = subst (λ ts. Plays p inputs workers (map task_in ts) y.first (first_worker_table (workers - 1)) (Done y.state y.worker_table)) same y.plays in
          let r = same_behind p inputs workers (map task_in h.before) x.first y.first x.state y.state x.worker_table y.worker_table x.opens y.opens x.plays plays in
          skip_is a.line b.line a.choice b.choice a.reason b.reason e.0 e.1
          (why_once x.state y.state x.worker_table y.worker_table a.choice a.reason b.reason r.0 r.1 h.why (subst (λ z. IsWhy y.state y.worker_table z b.reason) e.1 k.why))
      by (inr (inl (r, e))) = absurd (h.made k.before r b.line b.choice e k.skipped)
      by (inr (inr (r, e, z))) = absurd (k.made h.before r a.line a.choice e h.skipped)

pub skips_are_one : (p : Source) (inputs : List ℤ) → SkipsAreOne p inputs
skips_are_one p inputs = record {
  one = λ workers tasks a b h k. one_skip p inputs workers tasks a b h k;
  apart = λ workers tasks a h all. all h.before h.behind a.line a.choice h.stands h.skipped;
}
