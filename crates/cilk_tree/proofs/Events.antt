-- An event's effect on the shared words, by its mark.
--
-- - `mark_at`: the mark of an event;
-- - `begin_what`, `spawn_what`, `end_what`, `return_what`: the effect of an event with such a mark;
-- - `read_what`, `write_what`: the effect of a read and of a write;
-- - `line_not_sync`, `line_not_resume`, `spawn_mark`, `resume_mark`, `read_event`, `write_event`,
--   `finish_at`: the other way round.
use Rattle.std.proofs.Common.{◌≡◌, ℕ, List, [], ◌∷◌, length, ℤ, Option, Some, None, Bool, nat_eq, true, false, if◌then◌else◌, refl, sym, ap, ◌∙◌, eqb-true}
use Rattle.cilk_types.specs.declared.event.Event.{Event}
use Rattle.cilk_types.specs.declared.event.Event.TheVariants as events
use Rattle.cilk_tree.specs.declared.mark.Mark.{Mark}
use Rattle.cilk_tree.specs.declared.mark.Mark.TheVariants as mark
use Rattle.cilk_tree.specs.Marks.{mark_of}
use Rattle.cilk_tree.specs.Races.{event_at}
use Rattle.cilk_tree.specs.Word.{WordEvent, plain, read, write, spawn, resume, finish, word, is_spawn, resumption, word_event, IsLine}

abbrev pub mark_at : Option Event → Mark
mark_at (Some e) = mark_of e
mark_at None = mark.Plain

-- ---- choices by a test
chosen : (b : Bool) (w : WordEvent) (P : WordEvent → Type 0) → P w → P plain → P (if b then w else plain)
chosen true w P h g = h
chosen false w P h g = g

resumption_by : (es : List Event) (ps : List ℕ) (P : WordEvent → Type 0) → ((q : ℕ) → P (resume q)) → P plain → P (resumption es ps)
resumption_by es [] P h g = g
resumption_by es (q ∷ []) P h g = chosen (is_spawn (event_at es q)) (resume q) P (h q) g
resumption_by es (q ∷ r ∷ ps) P h g = g

-- ---- from the mark
pub begin_what : (es : List Event) (p : ℕ) (o : Option Event) (ps : List ℕ) → mark_at o ≡ mark.Begin → word_event es p o ps ≡ plain
begin_what es p (Some (events.Begin f)) ps e = refl
begin_what es p o ps e = absurd (cc e)

pub spawn_what : (es : List Event) (p : ℕ) (o : Option Event) (ps : List ℕ) → mark_at o ≡ mark.Spawn → (is_spawn o ≡ true) × (word_event es p o ps ≡ spawn)
spawn_what es p (Some (events.Spawn f)) ps e = (refl, refl)
spawn_what es p o ps e = absurd (cc e)

pub end_what : (es : List Event) (p : ℕ) (o : Option Event) (ps : List ℕ) → mark_at o ≡ mark.End → nat_eq p (length es) ≡ true → word_event es p o ps ≡ finish
end_what es p (Some events.End) ps e h = ap (λ (b : Bool). if b then finish else plain) h
end_what es p o ps e h = absurd (cc e)

pub return_what : (es : List Event) (p : ℕ) (o : Option Event) (ps : List ℕ) (k : ℕ) → mark_at o ≡ mark.Resume → ps ≡ k ∷ [] → is_spawn (event_at es k) ≡ true → word_event es p o ps ≡ resume k
return_what es p (Some (events.Resume f)) ps k e h t = ap (resumption es) h ∙ ap (λ (b : Bool). if b then resume k else plain) t
return_what es p o ps k e h t = absurd (cc e)

pub sync_event : (o : Option Event) → mark_at o ≡ mark.Sync → o ≡ Some events.Sync
sync_event (Some events.Sync) e = refl
sync_event o e = absurd (cc e)

-- ---- from the effect
pub line_not_sync : (es : List Event) (p : ℕ) (o : Option Event) (ps : List ℕ) → IsLine (word_event es p o ps) → mark_at o ≡ mark.Sync → ⊥
line_not_sync es p (Some events.Sync) ps h e = h
line_not_sync es p o ps h e = absurd (cc e)

pub line_not_resume : (es : List Event) (p : ℕ) (o : Option Event) (ps : List ℕ) → IsLine (word_event es p o ps) → mark_at o ≡ mark.Resume → ⊥
line_not_resume es p (Some (events.Resume f)) ps h e = resumption_by es ps (λ x. IsLine x → ⊥) (λ q g. g) (λ g. g) h
line_not_resume es p o ps h e = absurd (cc e)

pub spawn_of : (es : List Event) (p : ℕ) (o : Option Event) (ps : List ℕ) → is_spawn o ≡ true → (mark_at o ≡ mark.Spawn) × (word_event es p o ps ≡ spawn)
spawn_of es p (Some (events.Spawn f)) ps e = (refl, refl)
spawn_of es p o ps e = absurd (cc e)

pub spawn_mark : (es : List Event) (p : ℕ) (o : Option Event) (ps : List ℕ) → word_event es p o ps ≡ spawn → mark_at o ≡ mark.Spawn
spawn_mark es p (Some (events.Spawn f)) ps e = refl
spawn_mark es p (Some (events.Resume f)) ps e = absurd (resumption_by es ps (λ x. x ≡ spawn → ⊥) (λ q g. cc g) (λ g. cc g) e)
spawn_mark es p (Some events.End) ps e = absurd (chosen (nat_eq p (length es)) finish (λ x. x ≡ spawn → ⊥) (λ g. cc g) (λ g. cc g) e)
spawn_mark es p o ps e = absurd (cc e)

pub record IsResumption (es : List Event) (o : Option Event) (ps : List ℕ) (k : ℕ) : Type 0 where
  pub mark : mark_at o ≡ mark.Resume
  pub alone : ps ≡ k ∷ []
  pub spawned : is_spawn (event_at es k) ≡ true

resumption_is : (es : List Event) (ps : List ℕ) (k : ℕ) → resumption es ps ≡ resume k → (ps ≡ k ∷ []) × (is_spawn (event_at es k) ≡ true)
resumption_is es [] k e = absurd (cc e)
resumption_is es (q ∷ r ∷ ps) k e = absurd (cc e)
resumption_is es (q ∷ []) k e = by (is_spawn (event_at es q)) refl e
  where
    by : (b : Bool) → is_spawn (event_at es q) ≡ b → (if b then resume q else plain) ≡ resume k → (q ∷ [] ≡ k ∷ []) × (is_spawn (event_at es k) ≡ true)
    by true is h = let same : q ≡ k = cc h in (ap (λ (x : ℕ). x ∷ []) same, ap (λ (x : ℕ). is_spawn (event_at es x)) (sym same) ∙ is)
    by false is h = absurd (cc h)

pub resume_mark : (es : List Event) (p : ℕ) (o : Option Event) (ps : List ℕ) (k : ℕ) → word_event es p o ps ≡ resume k → IsResumption es o ps k
resume_mark es p (Some (events.Resume f)) ps k e = let r = resumption_is es ps k e in record { mark = refl; alone = r.0; spawned = r.1 }
resume_mark es p (Some events.End) ps k e = absurd (chosen (nat_eq p (length es)) finish (λ x. x ≡ resume k → ⊥) (λ g. cc g) (λ g. cc g) e)
resume_mark es p o ps k e = absurd (cc e)

pub read_event : (es : List Event) (p : ℕ) (o : Option Event) (ps : List ℕ) (c n : ℕ) → word_event es p o ps ≡ read c n → (v : ℤ) × (o ≡ Some (events.Read c v)) × (word v ≡ n)
read_event es p (Some (events.Read d v)) ps c n e = let a : d ≡ c = cc e in let b : word v ≡ n = cc e in (v, ap (λ (x : ℕ). Some (events.Read x v)) a, b)
read_event es p (Some (events.Resume f)) ps c n e = absurd (resumption_by es ps (λ x. x ≡ read c n → ⊥) (λ q g. cc g) (λ g. cc g) e)
read_event es p (Some events.End) ps c n e = absurd (chosen (nat_eq p (length es)) finish (λ x. x ≡ read c n → ⊥) (λ g. cc g) (λ g. cc g) e)
read_event es p o ps c n e = absurd (cc e)

pub write_event : (es : List Event) (p : ℕ) (o : Option Event) (ps : List ℕ) (c n : ℕ) → word_event es p o ps ≡ write c n → (v : ℤ) × (o ≡ Some (events.Write c v)) × (word v ≡ n)
write_event es p (Some (events.Write d v)) ps c n e = let a : d ≡ c = cc e in let b : word v ≡ n = cc e in (v, ap (λ (x : ℕ). Some (events.Write x v)) a, b)
write_event es p (Some (events.Resume f)) ps c n e = absurd (resumption_by es ps (λ x. x ≡ write c n → ⊥) (λ q g. cc g) (λ g. cc g) e)
write_event es p (Some events.End) ps c n e = absurd (chosen (nat_eq p (length es)) finish (λ x. x ≡ write c n → ⊥) (λ g. cc g) (λ g. cc g) e)
write_event es p o ps c n e = absurd (cc e)

pub finish_at : (es : List Event) (p : ℕ) (o : Option Event) (ps : List ℕ) → word_event es p o ps ≡ finish → p ≡ length es
finish_at es p (Some events.End) ps e = by (nat_eq p (length es)) refl e
  where
    by : (b : Bool) → nat_eq p (length es) ≡ b → (if b then finish else plain) ≡ finish → p ≡ length es
    by true is h = eqb-true p (length es) is
    by false is h = absurd (cc h)
finish_at es p (Some (events.Resume f)) ps e = absurd (resumption_by es ps (λ x. x ≡ finish → ⊥) (λ q g. cc g) (λ g. cc g) e)
finish_at es p o ps e = absurd (cc e)

pub read_what : (es : List Event) (p : ℕ) (o : Option Event) (ps : List ℕ) (c : ℕ) (v : ℤ) → o ≡ Some (events.Read c v) → word_event es p o ps ≡ read c (word v)
read_what es p o ps c v e = ap (λ (x : Option Event). word_event es p x ps) e

pub write_what : (es : List Event) (p : ℕ) (o : Option Event) (ps : List ℕ) (c : ℕ) (v : ℤ) → o ≡ Some (events.Write c v) → word_event es p o ps ≡ write c (word v)
write_what es p o ps c v e = ap (λ (x : Option Event). word_event es p x ps) e
