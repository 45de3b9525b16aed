-- The lines of a binary form are within the limits: `number_within` is the step of a number.
use Rattle.std.proofs.Common.{◌≡◌, ℕ, zero, suc, ◌+◌, ◌-◌, Bool, true, false, cond, List, [], ◌∷◌, ◌++◌, length, Option, Some, None, refl, subst, ◌^◌, eqb, ltb}
use Rattle.std.specs.Prelude.{⊤, IfSome, option_map, set, slice_get}
use Rattle.std.proofs.lemmas.Bool.{ltb-true}
use Rattle.cilk_trace.specs.declared.line.Cells.{Cells}
use Rattle.cilk_trace.specs.declared.line.Line.{Line}
use Rattle.cilk_trace.specs.declared.line.Line.TheVariants as lines
use Rattle.cilk_trace.specs.declared.event.Deed.{Deed}
use Rattle.cilk_trace.specs.declared.event.Deed.TheVariants as deeds
use Rattle.cilk_trace.specs.declared.event.Due.{Due}
use Rattle.cilk_trace.specs.declared.event.Due.TheVariants as due
use Rattle.cilk_trace.specs.declared.event.Kind.{Kind}
use Rattle.cilk_trace.specs.declared.event.Step.{Step}
use Rattle.cilk_trace.specs.declared.event.Step.TheVariants.{More, Declares, Says, Uses}
use Rattle.cilk_trace.specs.declared.event.Touch.{Touch}
use Rattle.cilk_trace.specs.declared.event.Touch.TheVariants as touches
use Rattle.cilk_trace.specs.declared.place.Place.{Place}
use Rattle.cilk_trace.specs.declared.place.Place.TheVariants.{Header, Lines, Over}
use Rattle.cilk_trace.specs.Binary.{Events, after_number, after_step, unless_over, used}
use Rattle.cilk_trace.specs.Events.{access_line, deed_of, moved, reducer_line, small, step_of, tag_step, touch_of, uses}
use Rattle.cilk_trace.specs.Lines.{AreCells, IsNumber, IsWithin, are_cells}
use Rattle.cilk_cert_text.specs.Words.{◌>>=◌}
use Rattle.cilk_trace.proofs.LineWords.{within}
use Rattle.cilk_cert_text.proofs.Spellings.{cond_none, map_some, some_is}

-- ---- what a number says

abbrev IsDueWithin : Due → Type 0
IsDueWithin (due.ReducerSite deed reducer) = IsNumber reducer
IsDueWithin _ = ⊤

abbrev IsStepWithin : Step → Type 0
IsStepWithin (More d) = IsDueWithin d
IsStepWithin (Declares k) = IsNumber k.site
IsStepWithin (Says l) = IsWithin l
IsStepWithin (Uses i cells) = AreCells cells

Fits : Option Step → Type 0
Fits o = IfSome o IsStepWithin

none : Fits None
unfolding Fits
none = tt

fit : (x : Step) → IsStepWithin x → Fits (Some x)
unfolding Fits
fit x h = h

either : (b : Bool) (x y : Option Step) → Fits x → Fits y → Fits (cond b x y)
either true x y h k = h
either false x y h k = k

bound : {A : Type 0} (o : Option A) (f : A → Option Step) → ((a : A) → o ≡ Some a → Fits (f a)) → Fits (o >>= f)
bound None f h = none
bound (Some a) f h = h a refl

small_number : (n m : ℕ) → small n ≡ Some m → IsNumber m
small_number n m e =
    let t = cond_none (ltb n (2 ^ 32)) (Some n) m e in
    subst IsNumber (some_is n m t.1) (ltb-true n 4294967296 t.0)

uses_fit : (kind first count : ℕ) → Fits (uses kind first count)
uses_fit kind first count = by (are_cells first count) refl
  where
    by : (b : Bool) → are_cells first count ≡ b → Fits (cond b (Some (Uses kind (record { first = first; count = count }))) None)
    by true e = fit _ (within first count e)
    by false e = none

reducer_within : (d : Deed) (r s : ℕ) → IsNumber r → IsNumber s → IsWithin (reducer_line d r s)
reducer_within deeds.Create r s h k = (h, k)
reducer_within deeds.Update r s h k = (h, k)
reducer_within deeds.Value r s h k = (h, k)
reducer_within deeds.Retire r s h k = (h, k)

tag_fits : (count n : ℕ) → Fits (tag_step count n)
tag_fits count n =
    either (eqb n 0) (Some (More due.Kind)) _ (fit (More due.Kind) tt)
    (either (eqb n 1) (Some (More due.Site)) _ (fit (More due.Site) tt)
    (either (eqb n 2) (Some (Says lines.Spawned)) _ (fit (Says lines.Spawned) tt)
    (either (eqb n 3) (Some (Says lines.Called)) _ (fit (Says lines.Called) tt)
    (either (eqb n 4) (Some (Says lines.Sync)) _ (fit (Says lines.Sync) tt)
    (either (eqb n 5) (Some (Says lines.End)) _ (fit (Says lines.End) tt)
    (either (eqb n 6) (Some (More due.Deed)) _ (fit (More due.Deed) tt)
    (either (eqb n 7) (Some (More due.Unseen)) _ (fit (More due.Unseen) tt)
    (either (ltb (n - 8) count) (Some (More (due.Moved (n - 8)))) None (fit (More (due.Moved (n - 8))) tt) none))))))))

step_fits : (kinds : List Kind) (last : ℕ) (d : Due) (n : ℕ) → IsDueWithin d → Fits (step_of kinds last d n)
unfolding step_of
step_fits kinds last due.Tag n h = tag_fits (length kinds) n
step_fits kinds last due.Kind n h = bound (touch_of n) _ (λ t e. fit _ tt)
step_fits kinds last (due.KindCount touch) n h = bound (small n) _ (λ c e. fit _ tt)
step_fits kinds last (due.KindSite touch count) n h = bound (small n) _ (λ s e. fit _ (small_number n s e))
step_fits kinds last due.Site n h = bound (small n) _ (λ s e. fit _ (small_number n s e))
step_fits kinds last due.Unseen n h = bound (small n) _ (λ s e. fit _ (small_number n s e))
step_fits kinds last due.Deed n h = bound (deed_of n) _ (λ d e. fit _ tt)
step_fits kinds last (due.Reducer deed) n h = bound (small n) _ (λ r e. fit _ (small_number n r e))
step_fits kinds last (due.ReducerSite deed reducer) n h = bound (small n) _ (λ s e. fit _ (reducer_within deed reducer s h (small_number n s e)))
step_fits kinds last (due.Moved kind) n h =
    bound (slice_get kinds kind) _ (λ k e. bound (moved (k.last.first + k.last.count) n) _ (λ first f. either _ _ _ (fit _ tt) (uses_fit kind first k.count)))
step_fits kinds last (due.UsedCount kind first) n h = bound (small n) _ (λ c e. uses_fit kind first c)

-- ---- the kinds of lines

abbrev AreSites : List Kind → Type 0
AreSites [] = ⊤
AreSites (k ∷ ks) = IsNumber k.site × AreSites ks

sites_more : (ks : List Kind) (k : Kind) → AreSites ks → IsNumber k.site → AreSites (ks ++ k ∷ [])
sites_more [] k h n = (n, tt)
sites_more (x ∷ ks) k h n = (h.0, sites_more ks k h.1 n)

sites_set : (ks : List Kind) (i : ℕ) (k : Kind) → AreSites ks → IsNumber k.site → AreSites (set ks i k)
sites_set [] i k h n = h
sites_set (x ∷ ks) zero k h n = (n, h.1)
sites_set (x ∷ ks) (suc i) k h n = (h.0, sites_set ks i k h.1 n)

site_of : (ks : List Kind) (i : ℕ) (k : Kind) → AreSites ks → slice_get ks i ≡ Some k → IsNumber k.site
site_of [] i k h e = absurd cc
site_of (x ∷ ks) zero k h e = subst (λ (y : Kind). IsNumber y.site) (some_is x k e) h.0
site_of (x ∷ ks) (suc i) k h e = site_of ks i k h.1 e

-- ---- the step

-- the numbers of what is declared and due are within the limits
pub record IsRanged (s : Events) : Type 0 where
  pub sites : AreSites s.kinds
  pub due_is : IsDueWithin s.due

-- a line within the limits, if one is complete, and what follows
unfoldable pub AreRanged : Option Line × Events → Type 0
AreRanged (None, t) = IsRanged t
AreRanged (Some l, t) = IsWithin l × IsRanged t

access_within : (t : Touch) (cells : Cells) (site : ℕ) → AreCells cells → IsNumber site → IsWithin (access_line t cells site)
access_within touches.Read cells site h k = (h, k)
access_within touches.Write cells site h k = (h, k)
access_within touches.Clear cells site h k = h

step_within : (s : Events) (n : ℕ) (x : Step) (p : Option Line × Events) → IsRanged s → IsStepWithin x → after_step s n x ≡ Some p → AreRanged p
unfolding AreRanged
step_within s n (More d) p h w e =
    let made : Option Line × Events = (None, record s { due = d }) in
    subst AreRanged (some_is made p e) (record { sites = h.sites; due_is = w })
step_within s n (Declares k) p h w e =
    let t = cond_none (ltb (length s.kinds) 16777216) _ p e in
    subst AreRanged (some_is _ p t.1) (record { sites = sites_more s.kinds k h.sites w; due_is = tt })
step_within s n (Says l) p h w e =
    let t = cond_none (ltb n 4294967295) _ p e in
    subst AreRanged (some_is _ p t.1) (w, record { sites = h.sites; due_is = tt })
step_within s n (Uses i cells) p h w e =
    let t = cond_none (ltb n 4294967295) (option_map (used s i cells) (slice_get s.kinds i)) p e in
    let k = map_some (used s i cells) (slice_get s.kinds i) p t.1 in
    let site = site_of s.kinds i k.0 h.sites k.1 in
    subst AreRanged k.2 (access_within k.0.touch cells k.0.site w site, record { sites = sites_set s.kinds i (record k.0 { last = cells }) h.sites site; due_is = tt })

by_step : (s : Events) (n : ℕ) (o : Option Step) (p : Option Line × Events) → IsRanged s → Fits o → (o >>= after_step s n) ≡ Some p → AreRanged p
unfolding Fits
by_step s n None p h w e = absurd cc
by_step s n (Some x) p h w e = step_within s n x p h w e

by_place : (q : Place) (o : Option (Option Line × Events)) (p : Option Line × Events) → unless_over q o ≡ Some p → o ≡ Some p
by_place Header o p e = e
by_place Lines o p e = e
by_place Over o p e = absurd cc

pub number_within : (s : Events) (n m : ℕ) (p : Option Line × Events) → IsRanged s → after_number s n m ≡ Some p → AreRanged p
number_within s n m p h e =
    by_step s n (step_of s.kinds s.last s.due m) p h (step_fits s.kinds s.last s.due m h.due_is)
    (by_place s.place (step_of s.kinds s.last s.due m >>= after_step s n) p e)
