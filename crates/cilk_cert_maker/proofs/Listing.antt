-- The state of the pass that makes the entries.
--
-- - `Lists`: the first n events are listed;
-- - `lists_first`, `lists_next`: the pass begins, and one event more.
use Rattle.std.proofs.Common.{◌≡◌, ℕ, suc, ◌+◌, ◌<◌, ◌≤◌, List, [], ◌∷◌, ◌++◌, length, get_or, take, Some, slice_get, refl, sym, subst, arith, length-append}
use Rattle.std.proofs.lemmas.Option.{slice_get-get_or}
use Rattle.std.specs.List.{AllByRecursion}
use Rattle.cilk_types.specs.declared.event.Event.{Event}
use Rattle.cilk_types.specs.declared.event.Instance.{Instance}
use Rattle.cilk_cert_text.specs.declared.line.Entry.{Entry}
use Rattle.cilk_cert_text.specs.declared.line.Version.TheVariants.{Two}
use Rattle.cilk_cert_text.specs.Certificates.{IsEntry}
use Rattle.cilk_cert_maker.specs.Sources.{AllFit, AreLast, Fits}
use Rattle.cilk_cert_maker.specs.Listed.{creations, event_in, source_in, source_at, ListsEvent, HasSource}
use Rattle.cilk_cert_maker.specs.Right.{EachAt}
use Rattle.cilk_cert_maker.proofs.Placed.{each_none, each_more, all_both}

-- the entries of the first n events, and the last writes among them
pub record Lists (es : List Event) (n : ℕ) (xs : List Entry) (positions : List ℕ) : Type 0 where
  pub within : n ≤ length es
  pub many : length xs ≡ n
  pub events : EachAt (ListsEvent es) xs
  pub sources : EachAt (HasSource es) xs
  pub small : AllByRecursion (IsEntry Two) xs
  pub last : AreLast es n positions
  pub fit : AllFit (length positions) es

pub lists_first : (es : List Event) (xs : List Entry) (last : List ℕ) (cells : ℕ) → xs ≡ [] → AreLast es 0 last → length last ≡ cells → AllFit cells es → Lists es 0 xs last
lists_first es xs last cells e none long fit =
    subst (λ (l : List Entry). Lists es 0 l last) (sym e) (record {
      within = omega arith;
      many = refl;
      events = each_none (ListsEvent es);
      sources = each_none (HasSource es);
      small = tt;
      last = none;
      fit = subst (λ (n : ℕ). AllFit n es) (sym long) fit;
    })

-- the current event's write has a place
pub fits_here : (es : List Event) (i : ℕ) (d : Event) (xs : List Entry) (last : List ℕ) → Lists es i xs last → i < length es → Fits (length last) (get_or es i d)
fits_here es i d xs last h lt = h.fit i (get_or es i d) (slice_get-get_or es i d lt)

pub lists_next : (es : List Event) (i at : ℕ) (d : Event) (x : Entry) (xs xs' : List Entry) (last last' : List ℕ) → Lists es i xs last → i < length es
    → ((made : List Instance) → event_in made x ≡ Some (get_or es i d))
    → ((all : List Event) (n : ℕ) → AreLast all n last → source_in x ≡ source_at all n (get_or es i d))
    → IsEntry Two x → xs' ≡ xs ++ x ∷ [] → at ≡ i + 1
    → ((all : List Event) (n : ℕ) → AreLast all n last → slice_get all n ≡ Some (get_or es i d) → at ≡ n + 1 → AreLast all (n + 1) last')
    → length last' ≡ length last → Lists es (i + 1) xs' last'
lists_next es i at d x xs xs' last last' h lt event source small e place meets cells =
    let here = slice_get-get_or es i d lt in
    let many = h.many in
    let long = length-append xs (x ∷ []) in
    let listed : ListsEvent es i x = (get_or es i d, here, event (creations (take (suc i) es))) in
    let sourced : HasSource es i x = (get_or es i d, here, source es i h.last) in
    subst (λ (l : List Entry). Lists es (i + 1) l last') (sym e) (record {
      within = omega (arith, lt);
      many = omega (arith, many, long);
      events = each_more (ListsEvent es) xs x h.events (subst (λ (n : ℕ). ListsEvent es n x) (sym many) listed);
      sources = each_more (HasSource es) xs x h.sources (subst (λ (n : ℕ). HasSource es n x) (sym many) sourced);
      small = all_both (IsEntry Two) xs (x ∷ []) h.small (small, tt);
      last = meets es i h.last here place;
      fit = subst (λ (n : ℕ). AllFit n es) (sym cells) h.fit;
    })
