-- Lines that a trace begins with: `begins_trace` closes the frames that are open. `ends_noted`: a trace's text ends with its root.
use Rattle.std.proofs.Common.{◌≡◌, ℕ, zero, suc, List, [], ◌∷◌, ◌++◌, length, Bool, true, false, Some, refl, sym, ◌∙◌, ap, subst, arith, append-nil, append_assoc}
use Rattle.std.specs.Prelude.{set}
use Rattle.std.proofs.lemmas.Option.{slice_get_within}
use Rattle.cilk_tree.specs.declared.mark.Mark.{Mark}
use Rattle.cilk_tree.specs.declared.mark.Mark.TheVariants.{Begin, End, Sync, Resume, Spawn, Call}
use Rattle.cilk_trace.specs.declared.line.Line.{Line}
use Rattle.cilk_trace.specs.declared.line.Line.TheVariants as lines
use Rattle.cilk_trace.specs.declared.survey.Survey.{Survey}
use Rattle.cilk_trace.specs.Frames.{Nests}
use Rattle.cilk_trace.specs.Structures.{Noted, noted, opening}
use Rattle.cilk_trace.specs.Reducers.{Suits, is_alive, KeepsReducers}
use Rattle.cilk_trace.specs.Surveys.{IsSurvey, IsTrace}
use Rattle.cilk_trace.proofs.Appended.{each_of, alive_front}
use Rattle.cilk_trace.proofs.Keeping.{keep_marks, state}
use Rattle.cilk_trace.proofs.ReducerReads.{suits_along}
use Rattle.cilk_trace.specs.Texts.{EndsOnce}
use Rattle.cilk_commands.specs.TraceTexts.{BeginsTrace}

-- the ends of this many frames, and of the root
abbrev closing : ℕ → List Line
closing zero = lines.End ∷ []
closing (suc d) = lines.Called ∷ closing d

closing_nests : (d : ℕ) → Nests d (closing d)
closing_nests zero = tt
closing_nests (suc d) = closing_nests d

closed_nests : (ls : List Line) (bs : List ℕ) (ms : List Mark) (m : Noted) → noted ls (state ms bs) ≡ Some m → m.ended ≡ false
    → Nests (length bs) (ls ++ closing (length m.begun))
closed_nests [] bs ms m h e =
    let same : state ms bs ≡ m = cc h in
    subst (λ (n : Noted). Nests (length bs) (closing (length n.begun))) same (closing_nests (length bs))
closed_nests (lines.Enter s ∷ ls) bs ms m h e = closed_nests ls (length ms ∷ bs) (ms ++ Call ∷ Begin ∷ []) m h e
closed_nests (lines.Spawned ∷ ls) [] ms m h e = absurd (cc h)
closed_nests (lines.Spawned ∷ ls) (k ∷ ks) ms m h e = closed_nests ls ks (set ms k Spawn ++ Sync ∷ End ∷ Resume ∷ []) m h e
closed_nests (lines.Called ∷ ls) [] ms m h e = absurd (cc h)
closed_nests (lines.Called ∷ ls) (k ∷ ks) ms m h e = closed_nests ls ks (set ms k Call ++ Sync ∷ End ∷ Resume ∷ []) m h e
closed_nests (lines.Sync ∷ ls) bs ms m h e = closed_nests ls bs (ms ++ Sync ∷ []) m h e
closed_nests (lines.Read c s ∷ ls) bs ms m h e = closed_nests ls bs ms m h e
closed_nests (lines.Write c s ∷ ls) bs ms m h e = closed_nests ls bs ms m h e
closed_nests (lines.Clear c ∷ ls) bs ms m h e = closed_nests ls bs ms m h e
closed_nests (lines.Unseen c ∷ ls) bs ms m h e = closed_nests ls bs ms m h e
closed_nests (lines.Create i s ∷ ls) bs ms m h e = closed_nests ls bs ms m h e
closed_nests (lines.Update i s ∷ ls) bs ms m h e = closed_nests ls bs ms m h e
closed_nests (lines.Value i s ∷ ls) bs ms m h e = closed_nests ls bs ms m h e
closed_nests (lines.Retire i s ∷ ls) bs ms m h e = closed_nests ls bs ms m h e
closed_nests (lines.End ∷ []) [] ms m h e =
    let same : record { marks = ms ++ Sync ∷ End ∷ []; begun = []; ended = true } ≡ m = cc h in
    let c : true ≡ false = ap (λ (n : Noted). n.ended) same ∙ e in absurd (cc c)
closed_nests (lines.End ∷ (l ∷ ls)) [] ms m h e = absurd (cc h)
closed_nests (lines.End ∷ ls) (k ∷ ks) ms m h e = absurd (cc h)

-- a line that suits any reducers
quiet_next : (ls : List Line) (l : Line) → ((alive : ℕ → Bool) → Suits l alive) → KeepsReducers ls → KeepsReducers (ls ++ l ∷ [])
quiet_next ls l quiet h =
    each_of (λ i x. Suits x (is_alive (ls ++ l ∷ []) i)) ls l
    (λ i x at. let w = slice_get_within ls i x at in
    suits_along x (is_alive ls i) (is_alive (ls ++ l ∷ []) i) (λ r. sym (alive_front ls (l ∷ []) r i false (omega (arith, w)))) (h i x at))
    (quiet (is_alive (ls ++ l ∷ []) (length ls)))

closed_reducers : (d : ℕ) (ls : List Line) → KeepsReducers ls → KeepsReducers (ls ++ closing d)
closed_reducers zero ls h = quiet_next ls lines.End (λ alive. tt) h
closed_reducers (suc d) ls h =
    subst KeepsReducers (append_assoc ls (lines.Called ∷ []) (closing d))
    (closed_reducers d (ls ++ lines.Called ∷ []) (quiet_next ls lines.Called (λ alive. tt) h))

begins_by : (b : Bool) (ls : List Line) (v : Survey) → IsSurvey ls v → v.structure.ended ≡ b → BeginsTrace ls
begins_by true ls v s e =
    ([], subst IsTrace (sym (append-nil ls)) (record { nests = (keep_marks ls v.structure s.structure e).0; reducers = s.reducers }), s.limits)
begins_by false ls v s e = (
  closing (length v.structure.begun),
  record {
    nests = closed_nests ls [] (Begin ∷ []) v.structure s.structure e;
    reducers = closed_reducers (length v.structure.begun) ls s.reducers;
  },
  s.limits,
)

pub begins_trace : (ls : List Line) (v : Survey) → IsSurvey ls v → BeginsTrace ls
begins_trace ls v s = begins_by v.structure.ended ls v s refl

ends : (ls : List Line) (bs : List ℕ) (ms : List Mark) (m : Noted) → EndsOnce ls → noted ls (state ms bs) ≡ Some m → m.ended ≡ true
ends [] bs ms m n h = absurd n
ends (lines.Enter s ∷ ls) bs ms m n h = ends ls (length ms ∷ bs) (ms ++ Call ∷ Begin ∷ []) m n h
ends (lines.Spawned ∷ ls) [] ms m n h = absurd (cc h)
ends (lines.Spawned ∷ ls) (k ∷ ks) ms m n h = ends ls ks (set ms k Spawn ++ Sync ∷ End ∷ Resume ∷ []) m n h
ends (lines.Called ∷ ls) [] ms m n h = absurd (cc h)
ends (lines.Called ∷ ls) (k ∷ ks) ms m n h = ends ls ks (set ms k Call ++ Sync ∷ End ∷ Resume ∷ []) m n h
ends (lines.Sync ∷ ls) bs ms m n h = ends ls bs (ms ++ Sync ∷ []) m n h
ends (lines.Read c s ∷ ls) bs ms m n h = ends ls bs ms m n h
ends (lines.Write c s ∷ ls) bs ms m n h = ends ls bs ms m n h
ends (lines.Clear c ∷ ls) bs ms m n h = ends ls bs ms m n h
ends (lines.Unseen c ∷ ls) bs ms m n h = ends ls bs ms m n h
ends (lines.Create i s ∷ ls) bs ms m n h = ends ls bs ms m n h
ends (lines.Update i s ∷ ls) bs ms m n h = ends ls bs ms m n h
ends (lines.Value i s ∷ ls) bs ms m n h = ends ls bs ms m n h
ends (lines.Retire i s ∷ ls) bs ms m n h = ends ls bs ms m n h
ends (lines.End ∷ []) [] ms m n h =
    let e : record { marks = ms ++ Sync ∷ End ∷ []; begun = []; ended = true } ≡ m = cc h in sym (ap (λ (x : Noted). x.ended) e)
ends (lines.End ∷ (l ∷ ls)) [] ms m n h = absurd n
ends (lines.End ∷ ls) (k ∷ ks) ms m n h = absurd (cc h)

pub ends_noted : (ls : List Line) (m : Noted) → EndsOnce ls → noted ls opening ≡ Some m → m.ended ≡ true
ends_noted ls m n h = ends ls [] (Begin ∷ []) m n h
