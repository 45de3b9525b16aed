-- The frames and the kinds of events.
--
-- - `one_frame`: an event is in one frame;
-- - `sync_kind`, `not_sync_kind`, `not_spawn`, `not_resume`: an event's effect, by its kind;
-- - `kind_there`: the column of kinds; `resumes_none`: where it has no `resume`.
use Rattle.std.proofs.Common.{◌≡◌, ◌≢◌, nat_eq, Bool, true, false, if◌then◌else◌, ℕ, zero, suc, ◌+◌, ◌-◌, ◌<◌, List, [], ◌∷◌, length, map, Option, Some, slice_get, refl, sym, ap, ◌∙◌, subst, arith}
use mathlib.Core.Logic.{dite}
use native.Mathlib.Decide.{ℕ_discrete, dec_lt}
use Rattle.cilk_types.specs.declared.event.Event.{Event}
use Rattle.cilk_types.specs.declared.event.Event.TheVariants as events
use Rattle.cilk_tree.specs.Races.{event_at}
use Rattle.cilk_tree.specs.declared.event_order.EventOrder.{EventOrder}
use Rattle.cilk_tree.specs.Word.{WordEvent, event, predecessors_of, plain, spawn, resume, finish, word_event, resumption, is_spawn, word_step}
use Rattle.cilk_tree.specs.declared.kind.Kind.{Kind}
use Rattle.cilk_tree.specs.declared.kind.Kind.TheVariants as kinds
use Rattle.cilk_tree.specs.Frames.{Enters, IsInFrame}
use Rattle.cilk_tree.specs.Kinds.{kind_of, kind_of_event}

one_entry : (o : Option Event) (f g : ℕ) → Enters o f → Enters o g → f ≡ g
one_entry (Some (events.Begin h)) f g a b = sym a ∙ b
one_entry (Some (events.Resume h)) f g a b = sym a ∙ b
one_entry o f g a b = absurd a

pub one_frame : (es : List Event) (p f g : ℕ) → IsInFrame es p f → IsInFrame es p g → f ≡ g
one_frame es p f g a b = dite (ℕ_discrete a.since b.since)
    (λ (same : a.since ≡ b.since). one_entry (event_at es b.since) f g (subst (λ (q : ℕ). Enters (event_at es q) f) same a.entered) b.entered)
    (λ (apart : a.since ≢ b.since). dite (dec_lt a.since b.since)
    (λ (less : a.since < b.since). absurd (a.last b.since g less b.upto b.entered))
    (λ past. absurd (b.last a.since f (omega (arith, apart, past)) a.upto a.entered)))

pub sync_kind : (o : Option Event) → kind_of_event o ≡ Some kinds.Sync → o ≡ Some events.Sync
sync_kind (Some events.Sync) is = refl
sync_kind o is = absurd (cc is)

pub not_sync_kind : (o : Option Event) (k : Kind) → kind_of_event o ≡ Some k → k ≢ kinds.Sync → o ≢ Some events.Sync
not_sync_kind o k is other same = other (let e : Some k ≡ Some kinds.Sync = sym is ∙ ap kind_of_event same in cc e)

-- ---- kinds

no_resumption : (es : List Event) (ps : List ℕ) → resumption es ps ≢ spawn
no_resumption es [] h = cc h
no_resumption es (q ∷ r ∷ ps) h = cc h
no_resumption es (q ∷ []) h = by (is_spawn (event_at es q)) h
  where
    by : (b : Bool) → (if b then resume q else plain) ≢ spawn
    by true h = cc h
    by false h = cc h

ends_none : (b : Bool) (w : WordEvent) → w ≢ plain → w ≢ finish → (if b then finish else plain) ≢ w
ends_none true w not_plain not_finish h = not_finish (sym h)
ends_none false w not_plain not_finish h = not_plain (sym h)

pub not_spawn : (es : List Event) (p : ℕ) (o : Option Event) (ps : List ℕ) (kind : Kind) → kind_of_event o ≡ Some kind → ((f : ℕ) → kind ≢ kinds.Spawn f) → word_event es p o ps ≢ spawn
not_spawn es p (Some (events.Spawn f)) ps kind is other h = other f (let e : Some (kinds.Spawn f) ≡ Some kind = is in sym (cc e))
not_spawn es p (Some (events.Resume f)) ps kind is other h = no_resumption es ps h
not_spawn es p (Some events.End) ps kind is other h = ends_none (nat_eq p (length es)) spawn (λ e. cc e) (λ e. cc e) h
not_spawn es p o ps kind is other h = cc h

pub not_resume : (es : List Event) (p : ℕ) (o : Option Event) (ps : List ℕ) (kind : Kind) → kind_of_event o ≡ Some kind → ((f : ℕ) → kind ≢ kinds.Resume f) → (k : ℕ) → word_event es p o ps ≢ resume k
not_resume es p (Some (events.Resume f)) ps kind is other k h = other f (let e : Some (kinds.Resume f) ≡ Some kind = is in sym (cc e))
not_resume es p (Some events.End) ps kind is other k h = ends_none (nat_eq p (length es)) (resume k) (λ e. cc e) (λ e. cc e) h
not_resume es p o ps kind is other k h = cc h

pub kind_there : (es : List Event) (k : ℕ) → slice_get (map kind_of es) k ≡ kind_of_event (slice_get es k)
kind_there [] k = refl
kind_there (e ∷ es) zero = refl
kind_there (e ∷ es) (suc k) = kind_there es k

-- where the column of kinds has no `resume`, no spawn's continuation is resumed
pub resumes_none : (s : EventOrder) (i : ℕ) (column : List Kind) (kind : Kind) → column ≡ map kind_of s.events → slice_get column i ≡ Some kind → ((f : ℕ) → kind ≢ kinds.Resume f)
    → (k : ℕ) → word_step s (i + 1) ≡ resume k → ⊥
resumes_none s i column kind same is other k resumed =
    let place : i + 1 - 1 ≡ i = omega arith in
    let here : kind_of_event (event s (i + 1)) ≡ Some kind =
    ap (λ (n : ℕ). kind_of_event (slice_get s.events n)) place ∙ (sym (kind_there s.events i) ∙ (sym (ap (λ (l : List Kind). slice_get l i) same) ∙ is)) in
    not_resume s.events (i + 1) (event s (i + 1)) (predecessors_of s (i + 1)) kind here other k resumed
