-- A machine that makes a script's tasks, and notes which choices are skipped.
--
-- - `none_played`, `more_played`, `skip_played`: one more task;
-- - `fails_behind`: an error of the next task;
-- - `played_skips`: a whole script.
use Rattle.std.proofs.Common.{◌≡◌, inl, inr, ◌-◌, ℕ, ℤ, List, [], ◌∷◌, ◌++◌, Option, Some, None, MatchOption, refl, sym, ap, ◌∙◌, subst, append_assoc}
use Rattle.std.specs.Prelude.{map}
use Rattle.std.proofs.lemmas.List.{map-append}
use Rattle.cilk_program.specs.Syntax.{Source}
use Rattle.cilk_lower.specs.Behaves.{IsCodeOf}
use Rattle.cilk_lower.specs.Code.{CodeView}
use Rattle.cilk_scheduler.specs.declared.choice.Choice.{Choice}
use Rattle.cilk_schedule.specs.Playing.{Choose, ComesToFault, Leads}
use Rattle.cilk_schedule.specs.Reached.{HasOpened}
use Rattle.cilk_schedule.specs.Strict.{AllCanBeMade, AreSkips, CanBeMade, CanNotBeMade, HasPlayed, IsFirstSkip, IsSkippedBehind, LineTask, Makes, Misses, NoTask, first_of, noted, task_in}
use Rattle.cilk_schedule.specs.declared.fault.PlayFault.{PlayFault}
use Rattle.cilk_schedule.specs.declared.machine.Machine.{Machine}
use Rattle.cilk_schedule.specs.declared.unmade.Reason.{Reason}
use Rattle.cilk_schedule.specs.declared.unmade.Skip.{Skip}
use Rattle.cilk_schedule.specs.declared.unmade.Skips.{Skips}
use Rattle.cilk_schedule.proofs.Keeping.{comes_ahead, comes_later, leads_ahead, leads_same}
use Rattle.cilk_schedule.proofs.Strictly.{Parts, can_behind, led_more, not_empty, parts, skip_behind}

pub none_played : (workers : ℕ) (m : Machine) → HasPlayed workers m [] m (record { count = 0; first = None })
none_played workers m = record { led = leads_same workers [] m; skipped = λ p is o. record { count = NoTask; first = λ before behind line choice e k. not_empty before _ behind e } }

-- more tasks come behind the first one that is skipped
first_stays : (p : Source) (inputs : List ℤ) (workers : ℕ) (tasks more : List LineTask) (skip : Skip) → IsFirstSkip p inputs workers tasks skip → IsFirstSkip p inputs workers (tasks ++ more) skip
first_stays p inputs workers tasks more skip h = record {
  before = h.before;
  behind = h.behind ++ more;
  stands = ap (λ ts. ts ++ more) h.stands ∙ append_assoc h.before (record { line = skip.line; task = Choose skip.choice } ∷ h.behind) more;
  made = h.made;
  skipped = h.skipped;
  why = h.why;
}

-- one more can be made
all_more : (p : Source) (inputs : List ℤ) (workers : ℕ) (tasks : List LineTask) (x : LineTask) → ((choice : Choice) → x.task ≡ Choose choice → ¬ (IsSkippedBehind p inputs workers tasks choice)) → AllCanBeMade p inputs workers tasks
    → AllCanBeMade p inputs workers (tasks ++ x ∷ [])
all_more p inputs workers tasks x can all = λ before behind line choice e k. by before behind line choice k (parts tasks x [] before (record { line = line; task = Choose choice }) behind e)
  where
    by : (before behind : List LineTask) (line : ℕ) (choice : Choice) → IsSkippedBehind p inputs workers before choice → Parts tasks x [] before (record { line = line; task = Choose choice }) behind → ⊥
    by before behind line choice k (inl (same, is_x)) = can choice (sym (ap task_in is_x)) (subst (λ ts. IsSkippedBehind p inputs workers ts choice) same k)
    by before behind line choice k (inr (inl (r, e))) = all before r line choice e k
    by before behind line choice k (inr (inr (r, e, z))) = not_empty r _ behind z

module _ (workers : ℕ) (first m : Machine) (done : List LineTask) (skips : Skips) (played : HasPlayed workers first done m skips) where
  pub more_played : (x : LineTask) (m' : Machine) → Leads workers (x.task ∷ []) m [] m' → ((choice : Choice) → x.task ≡ Choose choice → CanBeMade m choice) → HasPlayed workers first (done ++ x ∷ []) m' skips
  more_played x m' next can = record {
    led = led_more workers first m done played.led x m' next;
    skipped = λ p is o.
        let i = first.input in
        let h = played.skipped p is o in
        let not = can_behind workers first m done played.led x can p is o in
        record { count = Makes done x skips.count h.count not; first = by p i.now not skips.first h.first };
  }
    where
      by : (p : Source) (inputs : List ℤ) → ((choice : Choice) → x.task ≡ Choose choice → ¬ (IsSkippedBehind p inputs workers done choice)) → (o : Option Skip)
          → MatchOption o (AllCanBeMade p inputs workers done) (λ skip. IsFirstSkip p inputs workers done skip)
          → MatchOption o (AllCanBeMade p inputs workers (done ++ x ∷ [])) (λ skip. IsFirstSkip p inputs workers (done ++ x ∷ []) skip)
      by p inputs not None h = all_more p inputs workers done x not h
      by p inputs not (Some skip) h = first_stays p inputs workers done (x ∷ []) skip h

  pub skip_played : (line : ℕ) (choice : Choice) (why : Reason) (m' : Machine) → Leads workers (Choose choice ∷ []) m [] m' → CanNotBeMade m choice why
      → HasPlayed workers first (done ++ (record { line = line; task = Choose choice }) ∷ []) m' (noted skips (record { line = line; choice = choice; reason = why }))
  skip_played line choice why m' next not_made = record {
    led = led_more workers first m done played.led (record { line = line; task = Choose choice }) m' next;
    skipped = λ p is o.
        let i = first.input in
        let h = played.skipped p is o in
        let k = skip_behind workers first m done played.led choice why not_made p is o in
        record {
          count = Misses done line choice skips.count h.count k.0;
          first = by p i.now skips.first h.first (λ all. record { before = done; behind = []; stands = refl; made = all; skipped = k.0; why = k.1 });
        };
  }
    where
      by : (p : Source) (inputs : List ℤ) (o : Option Skip) → MatchOption o (AllCanBeMade p inputs workers done) (λ skip. IsFirstSkip p inputs workers done skip)
          → (AllCanBeMade p inputs workers done → IsFirstSkip p inputs workers (done ++ (record { line = line; task = Choose choice }) ∷ []) (record { line = line; choice = choice; reason = why }))
          → MatchOption (first_of o (record { line = line; choice = choice; reason = why })) (AllCanBeMade p inputs workers (done ++ (record { line = line; task = Choose choice }) ∷ []))
          (λ skip. IsFirstSkip p inputs workers (done ++ (record { line = line; task = Choose choice }) ∷ []) skip)
      by p inputs None h now = now h
      by p inputs (Some skip) h now = first_stays p inputs workers done ((record { line = line; task = Choose choice }) ∷ []) skip h

  pub fails_behind : (x : LineTask) (behind : List LineTask) (f : PlayFault) → ComesToFault workers (x.task ∷ []) m f → ComesToFault workers (map task_in (done ++ x ∷ behind)) first f
  fails_behind x behind f comes =
      subst (λ ts. ComesToFault workers ts first f) (sym (map-append task_in done (x ∷ behind)))
      (comes_later workers (map task_in done ++ x.task ∷ map task_in behind) (x.task ∷ map task_in behind) first m (leads_ahead workers (map task_in done) (x.task ∷ map task_in behind) first m played.led) f
      (comes_ahead workers (x.task ∷ []) (map task_in behind) m f comes))

-- of a whole script
pub played_skips : (code : CodeView) (p : Source) (inputs : List ℤ) (workers : ℕ) (tasks : List LineTask) (m m' : Machine) (skips : Skips) → IsCodeOf p code → (let c = m.code in c.now ≡ code) → (let i = m.input in i.now ≡ inputs)
    → HasOpened code p inputs m.scheduler (workers - 1) → HasPlayed workers m tasks m' skips → AreSkips p inputs workers tasks skips
played_skips code p inputs workers tasks m m' skips is e d o k =
    let c = m.code in
    let i = m.input in
    let opened = subst (λ (x : CodeView). HasOpened x p i.now m.scheduler (workers - 1)) (sym e) (subst (λ (y : List ℤ). HasOpened code p y m.scheduler (workers - 1)) (sym d) o) in
    subst (λ (y : List ℤ). AreSkips p y workers tasks skips) d (k.skipped p (subst (λ (x : CodeView). IsCodeOf p x) (sym e) is) opened)
