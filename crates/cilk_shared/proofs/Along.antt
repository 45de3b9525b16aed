-- Events of the same kinds are in the same frames: `frames_along`.
use Rattle.std.proofs.Common.{◌≡◌, ℕ, zero, suc, ◌-◌, List, [], ◌∷◌, map, Option, Some, slice_get, refl, sym, ap, ◌∙◌}
use Rattle.cilk_types.specs.declared.event.Event.{Event}
use Rattle.cilk_types.specs.declared.event.Event.TheVariants as events
use Rattle.cilk_tree.specs.Frames.{Enters}
use Rattle.cilk_tree.specs.Kinds.{kind_of, kind_of_event}
use Rattle.cilk_tree.specs.Races.{event_at}
use Rattle.cilk_shared.specs.Along.{FramesAreAlong}

kind_at : (es : List Event) (n : ℕ) → kind_of_event (slice_get es n) ≡ slice_get (map kind_of es) n
kind_at [] zero = refl
kind_at [] (suc n) = refl
kind_at (e ∷ es) zero = refl
kind_at (e ∷ es) (suc n) = kind_at es n

same_kind_at : (es fs : List Event) → map kind_of es ≡ map kind_of fs → (p : ℕ) → kind_of_event (event_at es p) ≡ kind_of_event (event_at fs p)
same_kind_at es fs same p = kind_at es (p - 1) ∙ ap (λ ks. slice_get ks (p - 1)) same ∙ sym (kind_at fs (p - 1))

begins_along : (f g : ℕ) (o : Option Event) → kind_of_event (Some (events.Begin g)) ≡ kind_of_event o → g ≡ f → Enters o f
begins_along f g (Some (events.Begin h)) same is = let e : g ≡ h = cc same in sym e ∙ is
begins_along f g o same is = absurd (cc same)

resumes_along : (f g : ℕ) (o : Option Event) → kind_of_event (Some (events.Resume g)) ≡ kind_of_event o → g ≡ f → Enters o f
resumes_along f g (Some (events.Resume h)) same is = let e : g ≡ h = cc same in sym e ∙ is
resumes_along f g o same is = absurd (cc same)

enters_along : (f : ℕ) (o o' : Option Event) → kind_of_event o ≡ kind_of_event o' → Enters o f → Enters o' f
enters_along f (Some (events.Begin g)) o' same is = begins_along f g o' same is
enters_along f (Some (events.Resume g)) o' same is = resumes_along f g o' same is
enters_along f o o' same is = absurd is

pub frames_along : FramesAreAlong
frames_along plan s along p f h = record {
  since = h.since;
  upto = h.upto;
  entered = enters_along f (event_at plan.events h.since) (event_at s.events h.since) (same_kind_at plan.events s.events (sym along.kinds) h.since) h.entered;
  last = λ q other lt le enters. h.last q other lt le (enters_along other (event_at s.events q) (event_at plan.events q) (same_kind_at s.events plan.events along.kinds q) enters);
}
