-- Lines after others: `get_last`, `get_front` and `each_of` for lists, `alive_front` for reducers, `noted_more` and `refused_more` for
-- the structure.
use Rattle.std.proofs.Common.{◌≡◌, ℕ, zero, suc, ◌<◌, ◌≤◌, List, [], ◌∷◌, ◌++◌, length, Bool, true, inl, inr, refl, sym, ◌∙◌, ap, subst, arith, append_assoc, length-append, Option, Some, None, slice_get}
use Rattle.std.specs.Prelude.{set}
use Rattle.std.proofs.lemmas.Bool.{cases_lt}
use Rattle.std.proofs.lemmas.Option.{slice_get_within}
use Rattle.cilk_tree.specs.declared.mark.Mark.{Mark}
use Rattle.cilk_tree.specs.declared.mark.Mark.TheVariants.{Begin, End, Sync, Resume, Spawn, Call}
use Rattle.cilk_trace.specs.declared.line.Line.{Line}
use Rattle.cilk_trace.specs.declared.line.Line.TheVariants as lines
use Rattle.cilk_trace.specs.Frames.{Nests}
use Rattle.cilk_trace.specs.Structures.{Noted, opening, noting, on, noted}
use Rattle.cilk_trace.specs.Reducers.{lives, lives_on}
use Rattle.cilk_trace.proofs.Keeping.{no_trace, state}

pub get_last : (ls : List Line) (l : Line) (more : List Line) → slice_get (ls ++ l ∷ more) (length ls) ≡ Some l
get_last [] l more = refl
get_last (k ∷ ls) l more = get_last ls l more

pub get_front : (ls more : List Line) (i : ℕ) → i < length ls → slice_get (ls ++ more) i ≡ slice_get ls i
get_front [] more i h = absurd (omega (arith, h))
get_front (k ∷ ls) more zero h = refl
get_front (k ∷ ls) more (suc i) h = get_front ls more i (omega (arith, h))

pub alive_front : (ls more : List Line) (r i : ℕ) (b : Bool) → i ≤ length ls → lives_on (ls ++ more) r i b ≡ lives_on ls r i b
alive_front [] [] r i b h = refl
alive_front [] (k ∷ more) r zero b h = refl
alive_front [] (k ∷ more) r (suc i) b h = absurd (omega (arith, h))
alive_front (k ∷ ls) more r zero b h = refl
alive_front (k ∷ ls) more r (suc i) b h = alive_front ls more r i (lives k r b) (omega (arith, h))

pub same_line : (ls : List Line) (i : ℕ) (k l : Line) → slice_get ls i ≡ Some k → slice_get ls i ≡ Some l → k ≡ l
same_line ls i k l e f = let g : Some k ≡ Some l = sym e ∙ f in cc g

-- what holds of all lines and of the one after them
pub each_of : (P : ℕ → Line → Type 0) (ls : List Line) (l : Line) → ((i : ℕ) (x : Line) → slice_get ls i ≡ Some x → P i x) → P (length ls) l
    → (i : ℕ) (x : Line) → slice_get (ls ++ l ∷ []) i ≡ Some x → P i x
each_of P ls l all one i x at = elim (cases_lt i (length ls)) [
  | inl m ↦ all i x (sym (get_front ls (l ∷ []) i m) ∙ at)
  | inr m ↦ (let w = slice_get_within (ls ++ l ∷ []) i x at in
      let a = length-append ls (l ∷ []) in
      let e : i ≡ length ls = omega (arith, w, a, m) in
      let same = same_line (ls ++ l ∷ []) (length ls) x l (ap (slice_get (ls ++ l ∷ [])) (sym e) ∙ at) (get_last ls l []) in
      subst (λ (k : ℕ). P k x) (sym e) (subst (P (length ls)) (sym same) one))
]

on_last : (o : Option Noted) → on (noted []) o ≡ o
on_last None = refl
on_last (Some n) = refl

on_more : (f g : Noted → Option Noted) (l : Line) (m : Noted) → ((n : Noted) → f n ≡ Some m → g n ≡ noting l m) → (o : Option Noted) → on f o ≡ Some m → on g o ≡ noting l m
on_more f g l m each None h = absurd (let q : None ≡ Some m = h in cc q)
on_more f g l m each (Some n) h = each n h

pub noted_more : (ls : List Line) (l : Line) (n m : Noted) → noted ls n ≡ Some m → noted (ls ++ l ∷ []) n ≡ noting l m
noted_more [] l n m h = let e : n ≡ m = cc h in on_last (noting l n) ∙ ap (noting l) e
noted_more (k ∷ ls) l n m h = on_more (noted ls) (noted (ls ++ l ∷ [])) l m (λ x. noted_more ls l x m) (noting k n) h

-- a line that may not come refuses all that follows
pub refused_more : (ls more : List Line) (l : Line) (m : Noted) → noted ls opening ≡ Some m → noting l m ≡ None → Nests 0 (ls ++ l ∷ more) → ⊥
refused_more ls more l m h none n =
    no_trace (ls ++ l ∷ []) more (noted_more ls l opening m h ∙ none) (subst (Nests 0) (sym (append_assoc ls (l ∷ []) more)) n)

ends : (ls : List Line) (bs : List ℕ) (ms : List Mark) (m : Noted) → Nests (length bs) ls → noted ls (state ms bs) ≡ Some m → m.ended ≡ true
ends [] bs ms m n h = absurd n
ends (lines.Enter s ∷ ls) bs ms m n h = ends ls (length ms ∷ bs) (ms ++ Call ∷ Begin ∷ []) m n h
ends (lines.Spawned ∷ ls) [] ms m n h = absurd n
ends (lines.Spawned ∷ ls) (k ∷ ks) ms m n h = ends ls ks (set ms k Spawn ++ Sync ∷ End ∷ Resume ∷ []) m n h
ends (lines.Called ∷ ls) [] ms m n h = absurd n
ends (lines.Called ∷ ls) (k ∷ ks) ms m n h = ends ls ks (set ms k Call ++ Sync ∷ End ∷ Resume ∷ []) m n h
ends (lines.Sync ∷ ls) bs ms m n h = ends ls bs (ms ++ Sync ∷ []) m n h
ends (lines.Read c s ∷ ls) bs ms m n h = ends ls bs ms m n h
ends (lines.Write c s ∷ ls) bs ms m n h = ends ls bs ms m n h
ends (lines.Clear c ∷ ls) bs ms m n h = ends ls bs ms m n h
ends (lines.Unseen c ∷ ls) bs ms m n h = ends ls bs ms m n h
ends (lines.Create i s ∷ ls) bs ms m n h = ends ls bs ms m n h
ends (lines.Update i s ∷ ls) bs ms m n h = ends ls bs ms m n h
ends (lines.Value i s ∷ ls) bs ms m n h = ends ls bs ms m n h
ends (lines.Retire i s ∷ ls) bs ms m n h = ends ls bs ms m n h
ends (lines.End ∷ []) [] ms m n h =
    let e : record { marks = ms ++ Sync ∷ End ∷ []; begun = []; ended = true } ≡ m = cc h in sym (ap (λ (x : Noted). x.ended) e)
ends (lines.End ∷ (l ∷ ls)) [] ms m n h = absurd n
ends (lines.End ∷ ls) (k ∷ ks) ms m n h = absurd n
