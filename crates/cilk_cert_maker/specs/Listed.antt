-- The event of a run that an entry of a certificate lists.
use Rattle.std.specs.Prelude.{◌≡◌, ℕ, zero, suc, List, [], ◌∷◌, take, Option, Some, None, slice_get, option_map, flat_map}
use Rattle.cilk_types.specs.declared.event.Event.{Event}
use Rattle.cilk_types.specs.declared.event.Event.TheVariants as events
use Rattle.cilk_types.specs.declared.event.Instance.{Instance}
use Rattle.cilk_cert_text.specs.declared.line.Reducer.{Reducer}
use Rattle.cilk_cert_text.specs.declared.line.Reducer.TheVariants.{Number, Place}
use Rattle.cilk_cert_text.specs.declared.line.Entry.{Entry}
use Rattle.cilk_cert_text.specs.declared.line.Entry.TheVariants as entries
use Rattle.cilk_tree.specs.Sources.{last_write}

abbrev pub created_by : Event → List Instance
created_by (events.Create i) = i ∷ []
created_by _ = []

-- the reducers that these events create, in order
abbrev pub creations : List Event → List Instance
creations es = flat_map created_by es

-- the item with a number, counted from 1
abbrev pub numbered : List Instance → ℕ → Option Instance
numbered made zero = None
numbered made (suc n) = slice_get made n

-- The reducer that a name means once these reducers are created. Version 1 counts creations;
-- version 2 gives frame and place.
abbrev pub named : List Instance → Reducer → Option Instance
named made (Number n) = numbered made n
named made (Place i) = Some i

-- the event that an entry lists, apart from a read's source; none if its reducer hasn't been
-- created
abbrev pub event_in : List Instance → Entry → Option Event
event_in made (entries.Begin f) = Some (events.Begin f)
event_in made (entries.Spawn f) = Some (events.Spawn f)
event_in made (entries.Call f) = Some (events.Call f)
event_in made (entries.Resume f) = Some (events.Resume f)
event_in made entries.Sync = Some events.Sync
event_in made entries.End = Some events.End
event_in made (entries.Read c v s) = Some (events.Read c v)
event_in made (entries.Write c v) = Some (events.Write c v)
event_in made (entries.Create r) = option_map (λ i. events.Create i) (named made r)
event_in made (entries.Update r v) = option_map (λ i. events.Update i v) (named made r)
event_in made (entries.Set r v) = option_map (λ i. events.Set i v) (named made r)
event_in made (entries.Value r v) = option_map (λ i. events.Value i v) (named made r)
event_in made (entries.Print v) = Some (events.Print v)

-- the source that an entry gives, if it lists a read
abbrev pub source_in : Entry → Option ℕ
source_in (entries.Read c v s) = Some s
source_in _ = None

-- the source of the event after the first n, if it is a read: the last earlier write of its cell
abbrev pub source_at : List Event → ℕ → Event → Option ℕ
source_at es n (events.Read c v) = Some (last_write es c n)
source_at es n _ = None

-- The entry lists the event after the first n. The name of a reducer may be that of this creation.
abbrev pub ListsEvent : List Event → ℕ → Entry → Type 0
ListsEvent es n x = (e : Event) × (slice_get es n ≡ Some e) × (event_in (creations (take (suc n) es)) x ≡ Some e)

-- the entry has the source of the event after the first n
abbrev pub HasSource : List Event → ℕ → Entry → Type 0
HasSource es n x = (e : Event) × (slice_get es n ≡ Some e) × (source_in x ≡ source_at es n e)
