-- Facts that are shown by computation.
--
-- - `right_reads`: each read has the value last written to its cell, if a test of each event holds;
-- - `valued`: an event order that begins has values;
-- - `met_resumes`, `none_resumes`: a frame that requests a spawn requests the `resume` after it, if
--   each `resume` is requested or there is no spawn.
use Rattle.std.proofs.Common.{◌≡◌, ℕ, zero, suc, ◌+◌, ◌-◌, ◌^◌, ◌<◌, ◌⊎◌, ⊎_elim, ℤ, pos, negsuc, nat_lt, Bool, true, false, ◌&&◌, List, [], ◌∷◌, Option, Some, None, slice_get, slice_index_or, refl, sym, ap, ◌∙◌, subst, arith}
use Rattle.std.specs.Prelude.{FitsSigned}
use Rattle.std.specs.Int.{w64}
use Rattle.std.specs.Ordering.{int_eq}
use Rattle.std.proofs.lemmas.Bool.{and_parts, ltb-true}
use Rattle.std.proofs.lemmas.Bool.Decides.{Decides-int_eq}
use Rattle.std.proofs.lemmas.Int.{fits_signed_from_abs}
use Rattle.cilk_types.specs.declared.event.Event.{Event}
use Rattle.cilk_types.specs.declared.event.Event.TheVariants.{Read, Resume, Spawn, Write}
use Rattle.cilk_tree.specs.declared.mark.Mark.TheVariants as mark
use Rattle.cilk_tree.specs.Races.{event_at, Writes}
use Rattle.cilk_tree.specs.Sources.{last_write}
use Rattle.cilk_tree.proofs.Sources.{sources_last}
use Rattle.cilk_tree.specs.declared.event_order.EventOrder.{EventOrder}
use Rattle.cilk_tree.specs.Word.{event, is_spawn, predecessors_of}
use Rattle.cilk_tree.proofs.Events.{mark_at, resume_mark}
use Rattle.cilk_shared.specs.Values.{SpawnsResume}
use Rattle.cilk_tree.specs.Values.{HasValue, HasValues}
use Rattle.cilk_tree.specs.Runs.{IsAsked}

abbrev written : Option Event → ℤ
written (Some (Write c v)) = v
written _ = pos 0

-- the value of a cell whose last write is at this position, 0 for none
abbrev shown : List Event → List ℤ → ℕ → ℕ → ℤ
shown es opening c zero = slice_index_or opening c (pos 0)
shown es opening c (suc q) = written (event_at es (suc q))

abbrev is_right : List Event → List ℤ → ℕ → Event → Bool
is_right es opening n (Read c v) = int_eq v (shown es opening c (last_write es c n))
is_right es opening n _ = true

abbrev is_small : ℤ → Bool
is_small (pos n) = nat_lt n (2 ^ 62)
is_small (negsuc n) = false

abbrev has_word : Event → Bool
has_word (Read c v) = is_small v
has_word (Write c v) = is_small v
has_word _ = true

-- a test of each event of a list, after n others
abbrev each : (ℕ → Event → Bool) → List Event → ℕ → Bool
each f [] n = true
each f (e ∷ es) n = f n e && each f es (suc n)

each_at : (f : ℕ → Event → Bool) (es : List Event) (n i : ℕ) (e : Event) → each f es n ≡ true → slice_get es i ≡ Some e → f (n + i) e ≡ true
each_at f [] n i e h is = absurd (let z : None ≡ Some e = is in cc z)
each_at f (x ∷ xs) n zero e h is =
    let z : Some x ≡ Some e = is in
    let same : x ≡ e = cc z in
    let at : n ≡ n + 0 = omega arith in
    subst (λ (k : ℕ). f k e ≡ true) at (subst (λ (y : Event). f n y ≡ true) same (and_parts (f n x) (each f xs (suc n)) h).0)
each_at f (x ∷ xs) n (suc i) e h is =
    let at : suc n + i ≡ n + suc i = omega arith in
    subst (λ (k : ℕ). f k e ≡ true) at (each_at f xs (suc n) i e (and_parts (f n x) (each f xs (suc n)) h).1 is)

here : (f : ℕ → Event → Bool) (es : List Event) (p : ℕ) (e : Event) → each f es 0 ≡ true → event_at es p ≡ Some e → f (p - 1) e ≡ true
here f es p e h is = let at : 0 + (p - 1) ≡ p - 1 = omega arith in subst (λ (k : ℕ). f k e ≡ true) at (each_at f es 0 (p - 1) e h is)

write_from : (o : Option Event) (c : ℕ) → Writes o c → o ≡ Some (Write c (written o))
write_from (Some (Write d v)) c h = ap (λ (x : ℕ). Some (Write x v)) h
write_from o c h = absurd h

-- the cell's last write has its value
has_value : (s : EventOrder) (c n m : ℕ) (v : ℤ) → last_write s.events c n ≡ m → v ≡ shown s.events s.opening c m → HasValue s c n v
has_value s c n zero v last is = record { opened = λ _. is; written = λ q h. absurd (omega (arith, last, h)) }
has_value s c n (suc k) v last is = record {
  opened = λ h. absurd (omega (arith, last, h));
  written = λ q h. (let same : suc k ≡ suc q = sym last ∙ h in subst (λ (j : ℕ). event s j ≡ Some (Write c v)) same stands);
}
  where
    wrote : Writes (event_at s.events (suc k)) c
    wrote =
        let at : suc n - 1 ≡ n = omega arith in
        let source = subst (λ (j : ℕ). (last_write s.events c j ≡ 0) ⊎ Writes (event_at s.events (last_write s.events c j)) c) at (sources_last s.events c (suc n) (omega arith)).written in
        ⊎_elim
        (λ (none : last_write s.events c n ≡ 0). absurd (omega (arith, last, none)))
        (λ (w : Writes (event_at s.events (last_write s.events c n)) c). subst (λ (j : ℕ). Writes (event_at s.events j) c) last w)
        source

    stands : event s (suc k) ≡ Some (Write c v)
    stands = write_from (event s (suc k)) c wrote ∙ ap (λ (x : ℤ). Some (Write c x)) (sym is)

pub right_reads : (s : EventOrder) → each (is_right s.events s.opening) s.events 0 ≡ true → (p c : ℕ) (v : ℤ) → event s p ≡ Some (Read c v) → HasValue s c (p - 1) v
right_reads s h p c v is =
    let right : int_eq v (shown s.events s.opening c (last_write s.events c (p - 1))) ≡ true = here (is_right s.events s.opening) s.events p (Read c v) h is in
    has_value s c (p - 1) (last_write s.events c (p - 1)) v refl ((Decides-int_eq v (shown s.events s.opening c (last_write s.events c (p - 1)))).0 right)

small : (v : ℤ) → is_small v ≡ true → FitsSigned w64 v
small (pos n) h = let low : n < 2 ^ 62 = ltb-true n (2 ^ 62) h in let less : n < 2 ^ 63 = omega (arith, low) in fits_signed_from_abs w64 (pos n) less
small (negsuc n) h = absurd (let z : false ≡ true = h in cc z)

pub valued : (s plan : EventOrder) → s.opening ≡ plan.opening → HasValues plan → IsAsked s 1 → each (is_right s.events s.opening) s.events 0 ≡ true → each (λ n. has_word) s.events 0 ≡ true → HasValues s
valued s plan same values begins right words = record {
  begins = begins;
  reads = λ p c v up is. right_reads s right p c v is;
  read_words = λ p c v is. small v (here (λ n. has_word) s.events p (Read c v) words is);
  written_words = λ p c v is. small v (here (λ n. has_word) s.events p (Write c v) words is);
  opening_words = λ c. subst (λ (opening : List ℤ). FitsSigned w64 (slice_index_or opening c (pos 0))) (sym same) (values.opening_words c);
}

-- ---- after each spawn

abbrev is_met : EventOrder → ℕ → Event → Bool
is_met s n (Resume f) = slice_index_or s.asked n false
is_met s n _ = true

abbrev is_no_spawn : Event → Bool
is_no_spawn (Spawn f) = false
is_no_spawn _ = true

resume_there : (o : Option Event) → mark_at o ≡ mark.Resume → (f : ℕ) × (o ≡ Some (Resume f))
resume_there (Some (Resume f)) is = (f, refl)
resume_there o is = absurd (cc is)

spawn_there : (o : Option Event) → is_spawn o ≡ true → (f : ℕ) × (o ≡ Some (Spawn f))
spawn_there (Some (Spawn f)) is = (f, refl)
spawn_there o is = absurd (cc is)

pub met_resumes : (s : EventOrder) → each (is_met s) s.events 0 ≡ true → SpawnsResume s
met_resumes s h k p is asked =
    let r = resume_mark s.events p (event s p) (predecessors_of s p) k is in
    let e = resume_there (event s p) r.mark in
    here (is_met s) s.events p (Resume e.0) h e.1

pub none_resumes : (s : EventOrder) → each (λ n. is_no_spawn) s.events 0 ≡ true → SpawnsResume s
none_resumes s h k p is asked =
    let r = resume_mark s.events p (event s p) (predecessors_of s p) k is in
    let e = spawn_there (event s k) r.spawned in
    let no : false ≡ true = here (λ n. is_no_spawn) s.events k (Spawn e.0) h e.1 in
    absurd (cc no)
