-- A script has at most one end.
--
-- - `plays_once`: from states that agree;
-- - `one_end`: the law;
-- - `reached_end`: it is reachable;
-- - `one_left`, `one_stop`, `one_line`, `left_or_past`, `left_or_stopped`, `stopped_or_past`: its
--   report is one;
-- - `settled_end`, `settled_fault`: if one serial run settles every parallel one, it is that run's.
use Rattle.std.proofs.Common.{◌≡◌, ◌-◌, ℕ, ℤ, List, [], ◌∷◌, ◌++◌, Option, Some, None, refl, sym, ap, ◌∙◌, subst}
use Rattle.cilk_types.specs.declared.fault.Fault.{Fault}
use Rattle.cilk_types.specs.declared.outcome.Outcome.{Outcome}
use Rattle.cilk_program.specs.Syntax.{Source}
use Rattle.cilk_determinacy.specs.Machine.{State, Stop}
use Rattle.cilk_determinacy.specs.Runs.{Name}
use Rattle.cilk_determinacy.specs.Reducers.{View}
use Rattle.cilk_determinacy.specs.Steps.{Reaches}
use Rattle.cilk_determinacy.specs.FrameEnvs.{FrameEnv}
use Rattle.cilk_scheduler.specs.WorkerTables.{WorkerTable, IsOver}
use Rattle.cilk_scheduler.specs.Openings.{first_worker_table}
use Rattle.cilk_schedule.specs.Deciding.{Agree}
use Rattle.cilk_schedule.specs.Deciding as deciding
use Rattle.cilk_schedule.specs.Played.{Leaves}
use Rattle.cilk_schedule.proofs.Deciding.{choices_decide}
use Rattle.cilk_parser.specs.declared.script.Step.{Step}
use Rattle.cilk_schedule.specs.Playing.{Chosen, Done, End, Ended, Ends, Enough, FailsAsSettled, Finished, IsFault, IsLeft, LeavesAsSettled, Passed, Passes, Plays, Round, SameEnd, ScriptsHaveOneEnd, Stopped, Stops, StopsBy, Task, Turns, tasks_of}
use Rattle.cilk_schedule.specs.declared.fault.PlayFault.{PlayFault}
use Rattle.cilk_schedule.specs.declared.fault.PlayFault.TheVariants as faults

some_is : {A : Type 0} (x y : A) → Some x ≡ Some y → x ≡ y
some_is x y e = cc

module _ (p : Source) (inputs : List ℤ) (workers : ℕ) where
  pub plays_once : (tasks : List Task) (s t : State FrameEnv View) (d : WorkerTable) (e e' : End) → deciding.IsGoing p inputs s → Agree s t → Plays p inputs workers tasks s d e → Plays p inputs workers tasks t d e' → SameEnd p inputs e e'
  plays_once tasks s t d e e' going agree (Finished _ _) (Finished _ _) = (refl, agree)
  plays_once tasks s t d e e' going agree (Chosen choice told rest _ s' _ d' _ h k) (Chosen _ told' _ _ t' _ d'' _ h' k') =
      let law = choices_decide p inputs in
      let r = law.leads s t s' t' d d' d'' choice told told' going agree h h' in
      plays_once rest s' t' d' e e' (law.goes_on s s' d d' choice told going h) r.2 k (subst (λ z. Plays p inputs workers rest t' z e') r.1 k')
  plays_once tasks s t d e e' going agree (Chosen choice told rest _ s' _ d' _ h k) (Stops _ stop _ _ t' _ h' is) =
      let law = choices_decide p inputs in absurd (law.leads_apart s t s' t' d d' choice told going agree h h')
  plays_once tasks s t d e e' going agree (Stops choice stop rest _ s' _ h is) (Chosen _ told' _ _ t' _ d'' _ h' k') =
      let law = choices_decide p inputs in absurd (law.apart s t s' t' d d'' choice told' going agree h h')
  plays_once tasks s t d e e' going agree (Stops choice stop rest _ s' _ h is) (Stops _ stop' _ _ t' _ h' is') =
      let law = choices_decide p inputs in some_is stop' stop (sym is' ∙ law.stops s t s' t' d choice going agree h h' ∙ is)
  plays_once tasks s t d e e' going agree (Turns worker rest _ _ _ k) (Turns _ _ _ _ _ k') = plays_once _ s t d e e' going agree k k'
  plays_once tasks s t d e e' going agree (Ended count rest _ _ _ over k) (Ended _ _ _ _ _ over' k') = plays_once rest s t d e e' going agree k k'
  plays_once tasks s t d e e' going agree (Ended count rest _ _ _ over k) (Enough _ _ _ _ k') = plays_once rest s t d e e' going agree k k'
  plays_once tasks s t d e e' going agree (Ended count rest _ _ _ over k) (Round more _ _ _ _ on k') = absurd (on (over_moves over))
    where
      over_moves : IsOver s → IsOver t
      over_moves h = subst (λ z. IsOver (record s { frames = z })) (sym agree.frames) h
  plays_once tasks s t d e e' going agree (Enough rest _ _ _ k) (Ended _ _ _ _ _ over' k') = plays_once rest s t d e e' going agree k k'
  plays_once tasks s t d e e' going agree (Enough rest _ _ _ k) (Enough _ _ _ _ k') = plays_once rest s t d e e' going agree k k'
  plays_once tasks s t d e e' going agree (Round more rest _ _ _ on k) (Ended _ _ _ _ _ over' k') = absurd (on (over_back over'))
    where
      over_back : IsOver t → IsOver s
      over_back h = subst (λ z. IsOver (record s { frames = z })) agree.frames h
  plays_once tasks s t d e e' going agree (Round more rest _ _ _ on k) (Round _ _ _ _ _ on' k') = plays_once _ s t d e e' going agree k k'
  plays_once tasks s t d e e' going agree (Passes line rest _ _) (Passes _ _ _ _) = refl

  -- the end of a script is reachable
  abbrev pub IsReached : End → Type 0
  IsReached (Done s d) = deciding.IsGoing p inputs s
  IsReached (Stopped stop) = (ns : List Name) × (s : State FrameEnv View) × Reaches p inputs ns s × (s.stopped ≡ Some stop)
  IsReached (Passed line) = Unit {0}

  reached_by : (tasks : List Task) (s : State FrameEnv View) (d : WorkerTable) (e : End) → deciding.IsGoing p inputs s → Plays p inputs workers tasks s d e → IsReached e
  reached_by tasks s d e going (Finished _ _) = going
  reached_by tasks s d e going (Chosen choice told rest _ s' _ d' _ h k) = let law = choices_decide p inputs in reached_by rest s' d' e (law.goes_on s s' d d' choice told going h) k
  reached_by tasks s d e going (Stops choice stop rest _ s' _ h is) = let law = choices_decide p inputs in let r = law.halts s s' d choice going h in (r.0, s', r.1, is)
  reached_by tasks s d e going (Turns worker rest _ _ _ k) = reached_by _ s d e going k
  reached_by tasks s d e going (Ended count rest _ _ _ over k) = reached_by rest s d e going k
  reached_by tasks s d e going (Enough rest _ _ _ k) = reached_by rest s d e going k
  reached_by tasks s d e going (Round more rest _ _ _ on k) = reached_by _ s d e going k
  reached_by tasks s d e going (Passes line rest _ _) = tt

  pub reached_end : (steps : List Step) (e : End) → Ends p inputs workers steps e → IsReached e
  reached_end steps e h = let law = choices_decide p inputs in reached_by (tasks_of steps) h.0 (first_worker_table (workers - 1)) e (law.first h.0 h.1) h.2

  pub settled_end : (steps : List Step) (s : State FrameEnv View) (d : WorkerTable) → Ends p inputs workers steps (Done s d) → (left : Option Outcome) → Leaves p s left → LeavesAsSettled p inputs left
  settled_end steps s d h None leaves outcome settled = tt
  settled_end steps s d h (Some o) leaves outcome settled =
      let r = reached_end steps (Done s d) h in
      let x = settled.parallel r.steps s r.reaches in
      leaves.1 ∙ x.outcome_is leaves.0

  pub settled_fault : (steps : List Step) (f : PlayFault) → IsFault (Ends p inputs workers steps) f → FailsAsSettled p inputs f
  settled_fault steps (faults.Line line) h outcome settled = tt
  settled_fault steps (faults.Stop fault name) h outcome settled =
      let r = reached_end steps (Stopped h.0) h.1 in
      let x = settled.parallel r.0 r.1 r.2 in
      let e : None ≡ Some h.0 = sym x.not_stopped ∙ r.3 in
      let b : ⊥ = cc in
      b
  settled_fault steps faults.Memory h outcome settled = tt

pub one_end : (p : Source) (inputs : List ℤ) → ScriptsHaveOneEnd p inputs
one_end p inputs workers steps e e' h k =
    let law = choices_decide p inputs in
    plays_once p inputs workers (tasks_of steps) h.0 k.0 (first_worker_table (workers - 1)) e e' (law.first h.0 h.1) (law.opens h.0 k.0 h.1 k.1) h.2 k.2

-- ---- its report is one

module _ (p : Source) (inputs : List ℤ) (workers : ℕ) (steps : List Step) where
  one_outcome : (s t : State FrameEnv View) → deciding.IsGoing p inputs s → Agree s t → (left left' : Option Outcome) → Leaves p s left → Leaves p t left' → left' ≡ left
  one_outcome s t going agree None None h k = refl
  one_outcome s t going agree None (Some o) h k = absurd (h (subst (λ z. IsOver (record t { frames = z })) agree.frames k.0))
  one_outcome s t going agree (Some o) None h k = absurd (k (subst (λ z. IsOver (record s { frames = z })) (sym agree.frames) h.0))
  one_outcome s t going agree (Some o) (Some o') h k = let law = choices_decide p inputs in ap Some (k.1 ∙ law.outcome s t going agree h.0 ∙ sym h.1)

  pub one_left : (left left' : Option Outcome) → IsLeft p inputs workers steps left → IsLeft p inputs workers steps left' → left' ≡ left
  one_left left left' (s, d, h, l) (t, d', k, l') =
      let r = one_end p inputs workers steps (Done s d) (Done t d') h k in
      one_outcome s t (reached_end p inputs workers steps (Done s d) h) r.1 left left' l l'

  pub one_stop : (f g : Fault) (name more : List ℕ) → StopsBy (Ends p inputs workers steps) f name → StopsBy (Ends p inputs workers steps) g more → (g ≡ f) × (more ≡ name)
  one_stop f g name more (x, h, a, b) (y, k, c, e) =
      let r : y ≡ x = one_end p inputs workers steps (Stopped x) (Stopped y) h k in
      (c ∙ ap (λ (z : Stop). z.fault) r ∙ sym a, e ∙ ap (λ (z : Stop). z.frame ++ z.strand ∷ []) r ∙ sym b)

  pub one_line : (line at : ℕ) → Ends p inputs workers steps (Passed line) → Ends p inputs workers steps (Passed at) → at ≡ line
  one_line line at h k = one_end p inputs workers steps (Passed line) (Passed at) h k

  pub left_or_past : (left : Option Outcome) (line : ℕ) → IsLeft p inputs workers steps left → Ends p inputs workers steps (Passed line) → ⊥
  left_or_past left line (s, d, h, l) k = one_end p inputs workers steps (Done s d) (Passed line) h k

  pub left_or_stopped : (left : Option Outcome) (f : Fault) (name : List ℕ) → IsLeft p inputs workers steps left → StopsBy (Ends p inputs workers steps) f name → ⊥
  left_or_stopped left f name (s, d, h, l) (x, k, a, b) = one_end p inputs workers steps (Done s d) (Stopped x) h k

  pub stopped_or_past : (f : Fault) (name : List ℕ) (line : ℕ) → StopsBy (Ends p inputs workers steps) f name → Ends p inputs workers steps (Passed line) → ⊥
  stopped_or_past f name line (x, k, a, b) h = one_end p inputs workers steps (Stopped x) (Passed line) k h
