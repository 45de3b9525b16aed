-- The code's store after an event.
use Rattle.std.proofs.Common.{◌≡◌, ℕ, zero, suc, ◌+◌, ◌-◌, ◌<◌, ℤ, pos, Bool, true, false, cond, ◌&&◌, if◌then◌else◌, List, [], ◌∷◌, ◌++◌, length, take, get_or, Option, Some, refl, sym, ap, ◌∙◌, subst, arith, length-append, length-take}
use Rattle.std.proofs.lemmas.Bool.{and_parts}
use Rattle.std.proofs.lemmas.List.{take_more}
use Rattle.cilk_types.specs.declared.event.Event.{Event}
use Rattle.cilk_types.specs.declared.event.Event.TheVariants.{Value}
use Rattle.cilk_types.specs.declared.event.Instance.{Instance}
use Rattle.cilk_types.specs.declared.limits.TheConstants.{MAX_EVENTS}
use Rattle.cilk_monoid.specs.declared.kind.MonoidKind.{MonoidKind}
use Rattle.cilk_monoid.specs.Kinds.{structure_of, same_kind}
use Rattle.cilk_monoid.specs.Laws.{MonoidStructure}
use Rattle.cilk_monoid.specs.Ranges.{same_instance}
use Rattle.cilk_monoid.specs.Values.{ViewValue}
use Rattle.cilk_monoid.proofs.RangeLaws.{same_from_true}
use Rattle.cilk_monoid.proofs.SameKinds.{same_kind-eq}
use Rattle.cilk_hypermap.specs.declared.hypermap.Hypermap.{Hypermap}
use Rattle.cilk_hypermap.specs.Hypermap.{ChangesIn, view_in, value_in}
use Rattle.cilk_hypermap.specs.Views.{or_unit}
use Rattle.cilk_hypermap.proofs.Merges.{each_kind}
use Rattle.cilk_program.specs.Store.{Store, put_view, clear, clear_all, update, set, number_at}
use Rattle.cilk_program.specs.SerialRun.{Memory, with_store}
use Rattle.cilk_serial.specs.declared.state.State.{State}
use Rattle.cilk_serial.specs.States.{Shows, EventMade}

chosen_view : (b : Bool) (S : MonoidStructure ViewValue) (w : ViewValue) (o : Option ViewValue) → or_unit S (cond b (Some w) o) ≡ (if b then w else or_unit S o)
chosen_view true S w o = refl
chosen_view false S w o = refl

one_fewer : (l l' : ℕ) (room : ℕ) → room ≡ MAX_EVENTS - l → l' ≡ l + 1 → room - 1 ≡ MAX_EVENTS - l'
one_fewer l l' room e e' = omega (arith, e, e')

-- a view changes
pub view_changes : (s s' : State) (e : Event) (k : MonoidKind) (i : Instance) (w : ViewValue) (m : Memory) → Shows s m
    → s'.cells ≡ s.cells → s'.output ≡ s.output → s'.frames ≡ s.frames → s'.events.items ≡ s.events.items ++ e ∷ []
    → ChangesIn s.views s'.views k i (Some w) → EventMade s s' e (with_store m (put_view same_instance k i w m.store))
view_changes s s' e k i w m h cells output frames events changes = record {
  shows = record {
    cell = λ n. h.cell n ∙ ap (λ v. get_or v.items n (pos 0)) (sym cells);
    view = λ k' j. ap (λ v. if same_kind k k' && same_instance i j then w else v) (h.view k' j)
        ∙ sym (chosen_view (same_kind k k' && same_instance i j) (structure_of k') w (view_in s.views k' j))
        ∙ sym (ap (or_unit (structure_of k')) (each_kind (λ k'. (j : Instance) → view_in s'.views k' j ≡ cond (same_kind k k' && same_instance i j) (Some w) (view_in s.views k' j)) changes k' j));
    printed = h.printed ∙ ap (λ v. v.items) (sym output);
    frames = h.frames ∙ sym frames;
    cells = h.cells ∙ ap (λ v. length v.items) (sym cells);
    room = one_fewer (length s.events.items) (length s'.events.items) m.room h.room (ap length events ∙ length-append s.events.items (e ∷ []));
  };
  events = events;
}

-- a view is set to its own value
same_chosen : (v : MonoidKind → Instance → ViewValue) (k k' : MonoidKind) (i j : Instance) (b : Bool) → same_kind k k' && same_instance i j ≡ b → (if b then v k i else v k' j) ≡ v k' j
same_chosen v k k' i j true h = let q = and_parts (same_kind k k') (same_instance i j) h in ap (λ k. v k i) (same_kind-eq k k' q.0) ∙ ap (v k') (same_from_true i j q.1)
same_chosen v k k' i j false h = refl

pub views_stay : (h h' : Hypermap) (k : MonoidKind) (i : Instance) → ChangesIn h h' k i (Some (value_in h k i)) → (k' : MonoidKind) (j : Instance) → value_in h' k' j ≡ value_in h k' j
views_stay h h' k i changes k' j =
    ap (or_unit (structure_of k')) (each_kind (λ k'. (j : Instance) → view_in h' k' j ≡ cond (same_kind k k' && same_instance i j) (Some (value_in h k i)) (view_in h k' j)) changes k' j)
    ∙ chosen_view (same_kind k k' && same_instance i j) (structure_of k') (value_in h k i) (view_in h k' j)
    ∙ same_chosen (value_in h) k k' i j (same_kind k k' && same_instance i j) refl

-- a view is read
pub view_tells : (s s' : State) (k : MonoidKind) (i : Instance) (x y : ℤ) (m : Memory) → Shows s m
    → s'.cells ≡ s.cells → s'.output ≡ s.output → s'.frames ≡ s.frames
    → y ≡ x → x ≡ (structure_of k).number (value_in s.views k i)
    → s'.events.items ≡ s.events.items ++ Value i y ∷ []
    → ChangesIn s.views s'.views k i (Some (value_in s.views k i)) → (y ≡ number_at k i m.store) × EventMade s s' (Value i (number_at k i m.store)) (with_store m m.store)
view_tells s s' k i x y m h cells output frames same number events changes =
    let told : y ≡ number_at k i m.store = same ∙ number ∙ ap (structure_of k).number (sym (h.view k i)) in (
      told,
      record {
        shows = record {
          cell = λ n. h.cell n ∙ ap (λ v. get_or v.items n (pos 0)) (sym cells);
          view = λ k' j. h.view k' j ∙ sym (views_stay s.views s'.views k i changes k' j);
          printed = h.printed ∙ ap (λ v. v.items) (sym output);
          frames = h.frames ∙ sym frames;
          cells = h.cells ∙ ap (λ v. length v.items) (sym cells);
          room = one_fewer (length s.events.items) (length s'.events.items) m.room h.room (ap length events ∙ length-append s.events.items (Value i y ∷ []));
        };
        events = events ∙ ap (λ z. s.events.items ++ Value i z ∷ []) told;
      },
    )

-- one more cell
pub zero_more : (cells : List ℤ) (n : ℕ) → get_or (cells ++ pos 0 ∷ []) n (pos 0) ≡ get_or cells n (pos 0)
zero_more [] zero = refl
zero_more [] (suc n) = refl
zero_more (x ∷ cells) zero = refl
zero_more (x ∷ cells) (suc n) = zero_more cells n

-- one more reducer is retired
cleared_more : (own : ℕ → Instance) (from : ℕ) (ks : List MonoidKind) (k : MonoidKind) (m : Store Instance) → clear_all same_instance own from (ks ++ k ∷ []) m ≡ clear same_instance k (own (from + length ks)) (clear_all same_instance own from ks m)
cleared_more own from [] k m = let e : from ≡ from + 0 = omega arith in ap (λ n. clear same_instance k (own n) m) e
cleared_more own from (k' ∷ ks) k m =
    let e : suc from + length ks ≡ from + suc (length ks) = omega arith in
    cleared_more own (suc from) ks k (clear same_instance k' (own from) m)
    ∙ ap (λ n. clear same_instance k (own n) (clear_all same_instance own (suc from) ks (clear same_instance k' (own from) m))) e

pub cleared_next : (own : ℕ → Instance) (ks : List MonoidKind) (n : ℕ) (d : MonoidKind) (m : Store Instance) → n < length ks
    → clear_all same_instance own 0 (take (n + 1) ks) m ≡ clear same_instance (get_or ks n d) (own n) (clear_all same_instance own 0 (take n ks) m)
cleared_next own ks n d m low =
    let l : 0 + length (take n ks) ≡ n = omega (arith, length-take n ks) in
    ap (λ l. clear_all same_instance own 0 l m) (take_more ks n d low)
    ∙ cleared_more own 0 (take n ks) (get_or ks n d) m
    ∙ ap (λ j. clear same_instance (get_or ks n d) (own j) (clear_all same_instance own 0 (take n ks) m)) l

pub sets : (s s' : State) (e : Event) (k : MonoidKind) (i : Instance) (x y : ℤ) (m : Memory) → Shows s m
    → s'.cells ≡ s.cells → s'.output ≡ s.output → s'.frames ≡ s.frames → s'.events.items ≡ s.events.items ++ e ∷ [] → x ≡ y
    → ChangesIn s.views s'.views k i (Some ((structure_of k).single x)) → EventMade s s' e (with_store m (set same_instance k i y m.store))
sets s s' e k i x y m h cells output frames events same changes =
    subst (λ z. EventMade s s' e (with_store m (set same_instance k i z m.store))) same (view_changes s s' e k i ((structure_of k).single x) m h cells output frames events changes)

pub updates : (s s' : State) (e : Event) (k : MonoidKind) (i : Instance) (x y : ℤ) (m : Memory) → Shows s m
    → s'.cells ≡ s.cells → s'.output ≡ s.output → s'.frames ≡ s.frames → s'.events.items ≡ s.events.items ++ e ∷ [] → x ≡ y
    → ChangesIn s.views s'.views k i (Some ((structure_of k).combine (value_in s.views k i) ((structure_of k).single x))) → EventMade s s' e (with_store m (update same_instance k i y m.store))
updates s s' e k i x y m h cells output frames events same changes =
    subst (λ z. EventMade s s' e (with_store m (update same_instance k i z m.store))) same
    (subst (λ v. EventMade s s' e (with_store m (put_view same_instance k i ((structure_of k).combine v ((structure_of k).single x)) m.store))) (sym (h.view k i))
    (view_changes s s' e k i ((structure_of k).combine (value_in s.views k i) ((structure_of k).single x)) m h cells output frames events changes))

-- an event with an equal value
pub event_is : (s s' : State) (e e' : Event) (m' : Memory) → e ≡ e' → EventMade s s' e m' → EventMade s s' e' m'
event_is s s' e e' m' same made = subst (λ e. EventMade s s' e m') same made
