-- Two right certificates of a run are one.
--
-- - `not_wrong`, `as_many`: if no place of a column is wrong, each item is right up to a double
--   negation, and none is missing or extra;
-- - `same_lists`: two lists are equal, up to a double negation, if their items are at each place;
-- - `same_entry`: two entries of one version that list one event with one source;
-- - `one_right`: the law. Texts are compared byte by byte, which removes the double negation.
use Rattle.std.proofs.Common.{◌≡◌, ℕ, zero, suc, ◌+◌, ◌-◌, ◌<◌, ◌≤◌, ℤ, Bool, true, false, List, [], ◌∷◌, length, take, Option, Some, None, slice_get, option_map, refl, sym, ap, subst, ◌∙◌, arith, inl, inr}
use Rattle.std.specs.List.{AllByRecursion}
use Rattle.std.specs.Str.{bytes_eq}
use Rattle.std.proofs.lemmas.Bool.{cases_lt}
use Rattle.std.proofs.lemmas.Option.{same_Some, slice_get_within, slice_get_cases}
use Rattle.std.proofs.lemmas.Slice.Eq.{bytes_eq-Decides}
use Rattle.cilk_types.specs.declared.event.Event.{Event}
use Rattle.cilk_types.specs.declared.event.Event.TheVariants as events
use Rattle.cilk_types.specs.declared.event.Instance.{Instance}
use Rattle.cilk_tree.specs.Shape.{Shape}
use Rattle.cilk_tree.specs.Tree.{tree}
use Rattle.cilk_tree.specs.Hebrew.{hebrews}
use Rattle.cilk_peers.specs.Peers.{class_numbers}
use Rattle.cilk_peers.specs.ViewRaces.{AreCreatedBeforeUse}
use Rattle.cilk_cert_text.specs.declared.line.Entry.{Entry}
use Rattle.cilk_cert_text.specs.declared.line.Entry.TheVariants as entries
use Rattle.cilk_cert_text.specs.declared.line.Frame.{Frame}
use Rattle.cilk_cert_text.specs.declared.line.Reducer.{Reducer}
use Rattle.cilk_cert_text.specs.declared.line.Reducer.TheVariants.{Number, Place}
use Rattle.cilk_cert_text.specs.declared.line.Strand.{Strand}
use Rattle.cilk_cert_text.specs.declared.line.Version.{Version}
use Rattle.cilk_cert_text.specs.declared.line.Version.TheVariants.{One, Two}
use Rattle.cilk_cert_text.specs.Certificates.{Contents, IsCertificate, IsEntry, NamesReducer, text_of}
use Rattle.cilk_cert_text.proofs.Texts.{one_certificate}
use Rattle.cilk_cert_maker.specs.Frames.{frames_of, owners_of}
use Rattle.cilk_cert_maker.specs.ListingLaws.{HasOneCertificate}
use Rattle.cilk_cert_maker.specs.Listed.{creations, named, event_in, source_in, source_at, ListsEvent, HasSource}
use Rattle.cilk_cert_maker.specs.Right.{is_wrong, IsWrongAt, IsNowhere, IsAt, IsRight}

-- ---- a column

not_wrong : {A : Type 0} (P : ℕ → A → Type 0) (given : List A) (count : ℕ) → IsNowhere (IsWrongAt P given count) → (k : ℕ) (x : A) → slice_get given k ≡ Some x → ¬ (¬ (P k x))
not_wrong {A = A} P given count nowhere k x is never =
    let at : (k + 1) - 1 ≡ k = omega arith in
    let here : is_wrong P (slice_get given k) k count = subst (λ (o : Option A). is_wrong P o k count) (sym is) never in
    nowhere (k + 1) (omega arith, subst (λ (n : ℕ). is_wrong P (slice_get given n) n count) (sym at) here)

not_missing : {A : Type 0} (P : ℕ → A → Type 0) (given : List A) (count : ℕ) → IsNowhere (IsWrongAt P given count) → (k : ℕ) → slice_get given k ≡ None → k < count → ⊥
not_missing {A = A} P given count nowhere k is less =
    let at : (k + 1) - 1 ≡ k = omega arith in
    let here : is_wrong P (slice_get given k) k count = subst (λ (o : Option A). is_wrong P o k count) (sym is) less in
    nowhere (k + 1) (omega arith, subst (λ (n : ℕ). is_wrong P (slice_get given n) n count) (sym at) here)

as_many : {A : Type 0} (P : ℕ → A → Type 0) (given : List A) (count : ℕ) → ((k : ℕ) (x : A) → P k x → k < count) → IsNowhere (IsWrongAt P given count) → length given ≡ count
as_many {A = A} P given count within nowhere =
    let few : length given ≤ count =
    elim (slice_get_cases given count).1 [
      | inl s ↦ absurd (not_wrong P given count nowhere count s.0 s.2 (λ p. let l = within count s.0 p in absurd (omega (arith, l))))
      | inr s ↦ s.0
    ] in
    let all : count ≤ length given =
    elim (slice_get_cases given (length given)).1 [
      | inl s ↦ (let l = s.1 in absurd (omega (arith, l)))
      | inr s ↦
          elim (cases_lt (length given) count) [
            | inl less ↦ absurd (not_missing P given count nowhere (length given) s.1 less)
            | inr more ↦ more
          ]
    ] in
    omega (arith, few, all)

same_lists : {A : Type 0} (xs ys : List A) → length xs ≡ length ys → ((k : ℕ) (x y : A) → slice_get xs k ≡ Some x → slice_get ys k ≡ Some y → ¬ (¬ (x ≡ y))) → ¬ (¬ (xs ≡ ys))
same_lists [] [] e h never = never refl
same_lists [] (y ∷ ys) e h never = absurd (omega (arith, e))
same_lists (x ∷ xs) [] e h never = absurd (omega (arith, e))
same_lists (x ∷ xs) (y ∷ ys) e h never =
    h zero x y refl refl (λ p. same_lists xs ys (omega (arith, e)) (λ k a b i j. h (suc k) a b i j) (λ q. never (let r : x ∷ xs ≡ y ∷ ys = cc in r)))

-- ---- an entry, by its event, its source and the name of its reducer

abbrev name_in : Entry → Option Reducer
name_in (entries.Create r) = Some r
name_in (entries.Update r v) = Some r
name_in (entries.Set r v) = Some r
name_in (entries.Value r v) = Some r
name_in _ = None

abbrev instance_in : Event → Option Instance
instance_in (events.Create i) = Some i
instance_in (events.Update i v) = Some i
instance_in (events.Set i v) = Some i
instance_in (events.Value i v) = Some i
instance_in _ = None

abbrev sourced : (ℕ → Entry) → Option ℕ → Entry
sourced f None = entries.Sync
sourced f (Some s) = f s

abbrev called : (Reducer → Entry) → Option Reducer → Entry
called f None = entries.Sync
called f (Some r) = f r

abbrev entry_of : Event → Option ℕ → Option Reducer → Entry
entry_of (events.Begin f) s n = entries.Begin f
entry_of (events.Spawn f) s n = entries.Spawn f
entry_of (events.Call f) s n = entries.Call f
entry_of (events.Resume f) s n = entries.Resume f
entry_of events.Sync s n = entries.Sync
entry_of events.End s n = entries.End
entry_of (events.Read c v) s n = sourced (λ k. entries.Read c v k) s
entry_of (events.Write c v) s n = entries.Write c v
entry_of (events.Create i) s n = called (λ r. entries.Create r) n
entry_of (events.Update i v) s n = called (λ r. entries.Update r v) n
entry_of (events.Set i v) s n = called (λ r. entries.Set r v) n
entry_of (events.Value i v) s n = called (λ r. entries.Value r v) n
entry_of (events.Print v) s n = entries.Print v

-- a property of every reducer's event holds for the event of a name
through : (o : Option Instance) (f : Instance → Event) (e : Event) (P : Option Instance → Event → Type 0) → ((i : Instance) → P (Some i) (f i)) → option_map f o ≡ Some e → P o e
through None f e P h q = absurd (let t : ◌≡◌ {A = Option Event} None (Some e) = q in cc)
through (Some i) f e P h q = subst (P (Some i)) (same_Some (f i) e q) (h i)

again : (made : List Instance) (x : Entry) (e : Event) → event_in made x ≡ Some e → x ≡ entry_of e (source_in x) (name_in x)
again made (entries.Begin f) e h = ap (λ (d : Event). entry_of d None None) (same_Some (events.Begin f) e h)
again made (entries.Spawn f) e h = ap (λ (d : Event). entry_of d None None) (same_Some (events.Spawn f) e h)
again made (entries.Call f) e h = ap (λ (d : Event). entry_of d None None) (same_Some (events.Call f) e h)
again made (entries.Resume f) e h = ap (λ (d : Event). entry_of d None None) (same_Some (events.Resume f) e h)
again made entries.Sync e h = ap (λ (d : Event). entry_of d None None) (same_Some events.Sync e h)
again made entries.End e h = ap (λ (d : Event). entry_of d None None) (same_Some events.End e h)
again made (entries.Read c v s) e h = ap (λ (d : Event). entry_of d (Some s) None) (same_Some (events.Read c v) e h)
again made (entries.Write c v) e h = ap (λ (d : Event). entry_of d None None) (same_Some (events.Write c v) e h)
again made (entries.Create r) e h = through (named made r) (λ i. events.Create i) e (λ o d. entries.Create r ≡ entry_of d None (Some r)) (λ i. refl) h
again made (entries.Update r v) e h = through (named made r) (λ i. events.Update i v) e (λ o d. entries.Update r v ≡ entry_of d None (Some r)) (λ i. refl) h
again made (entries.Set r v) e h = through (named made r) (λ i. events.Set i v) e (λ o d. entries.Set r v ≡ entry_of d None (Some r)) (λ i. refl) h
again made (entries.Value r v) e h = through (named made r) (λ i. events.Value i v) e (λ o d. entries.Value r v ≡ entry_of d None (Some r)) (λ i. refl) h
again made (entries.Print v) e h = ap (λ (d : Event). entry_of d None None) (same_Some (events.Print v) e h)

abbrev named_by : List Instance → Option Reducer → Option Instance
named_by made None = None
named_by made (Some r) = named made r

means : (made : List Instance) (x : Entry) (e : Event) → event_in made x ≡ Some e → named_by made (name_in x) ≡ instance_in e
means made (entries.Begin f) e h = ap instance_in (same_Some (events.Begin f) e h)
means made (entries.Spawn f) e h = ap instance_in (same_Some (events.Spawn f) e h)
means made (entries.Call f) e h = ap instance_in (same_Some (events.Call f) e h)
means made (entries.Resume f) e h = ap instance_in (same_Some (events.Resume f) e h)
means made entries.Sync e h = ap instance_in (same_Some events.Sync e h)
means made entries.End e h = ap instance_in (same_Some events.End e h)
means made (entries.Read c v s) e h = ap instance_in (same_Some (events.Read c v) e h)
means made (entries.Write c v) e h = ap instance_in (same_Some (events.Write c v) e h)
means made (entries.Create r) e h = through (named made r) (λ i. events.Create i) e (λ o d. o ≡ instance_in d) (λ i. refl) h
means made (entries.Update r v) e h = through (named made r) (λ i. events.Update i v) e (λ o d. o ≡ instance_in d) (λ i. refl) h
means made (entries.Set r v) e h = through (named made r) (λ i. events.Set i v) e (λ o d. o ≡ instance_in d) (λ i. refl) h
means made (entries.Value r v) e h = through (named made r) (λ i. events.Value i v) e (λ o d. o ≡ instance_in d) (λ i. refl) h
means made (entries.Print v) e h = ap instance_in (same_Some (events.Print v) e h)

abbrev Writes : Version → Option Reducer → Type 0
Writes v None = Unit {0}
Writes v (Some r) = NamesReducer v r

writes : (v : Version) (x : Entry) → IsEntry v x → Writes v (name_in x)
writes v (entries.Begin f) h = tt
writes v (entries.Spawn f) h = tt
writes v (entries.Call f) h = tt
writes v (entries.Resume f) h = tt
writes v entries.Sync h = tt
writes v entries.End h = tt
writes v (entries.Read c z s) h = tt
writes v (entries.Write c z) h = tt
writes v (entries.Create r) h = h
writes v (entries.Update r z) h = h.0
writes v (entries.Set r z) h = h.0
writes v (entries.Value r z) h = h.0
writes v (entries.Print z) h = tt

-- each is at one place
abbrev AreOnce : List Instance → Type 0
AreOnce made = (a b : ℕ) (i : Instance) → slice_get made a ≡ Some i → slice_get made b ≡ Some i → a ≡ b

no_instance : {P : Type 0} (i : Instance) → ◌≡◌ {A = Option Instance} None (Some i) → P
no_instance i e = absurd cc

same_name : (v : Version) (made : List Instance) → (v ≡ One → AreOnce made) → (n m : Option Reducer) (i : Instance) → Writes v n → Writes v m → named_by made n ≡ Some i → named_by made m ≡ Some i → n ≡ m
same_name v made once None m i a b p q = no_instance i p
same_name v made once (Some n) None i a b p q = no_instance i q
same_name One made once (Some (Number zero)) (Some m) i a b p q = no_instance i p
same_name One made once (Some (Number (suc n))) (Some (Number zero)) i a b p q = no_instance i q
same_name One made once (Some (Number (suc n))) (Some (Number (suc m))) i a b p q = ap (λ (k : ℕ). Some (Number (suc k))) (once refl n m i p q)
same_name One made once (Some (Number (suc n))) (Some (Place j)) i a b p q = absurd b
same_name One made once (Some (Place j)) (Some m) i a b p q = absurd a
same_name Two made once (Some (Number n)) (Some m) i a b p q = absurd a
same_name Two made once (Some (Place j)) (Some (Number m)) i a b p q = absurd b
same_name Two made once (Some (Place j)) (Some (Place k)) i a b p q = ap (λ (l : Instance). Some (Place l)) (same_Some j i p ∙ sym (same_Some k i q))

renamed : (e : Event) (s : Option ℕ) (n m : Option Reducer) → ((i : Instance) → instance_in e ≡ Some i → n ≡ m) → entry_of e s n ≡ entry_of e s m
renamed (events.Begin f) s n m h = refl
renamed (events.Spawn f) s n m h = refl
renamed (events.Call f) s n m h = refl
renamed (events.Resume f) s n m h = refl
renamed events.Sync s n m h = refl
renamed events.End s n m h = refl
renamed (events.Read c v) s n m h = refl
renamed (events.Write c v) s n m h = refl
renamed (events.Create i) s n m h = ap (called (λ r. entries.Create r)) (h i refl)
renamed (events.Update i v) s n m h = ap (called (λ r. entries.Update r v)) (h i refl)
renamed (events.Set i v) s n m h = ap (called (λ r. entries.Set r v)) (h i refl)
renamed (events.Value i v) s n m h = ap (called (λ r. entries.Value r v)) (h i refl)
renamed (events.Print v) s n m h = refl

same_entry : (v : Version) (made : List Instance) → (v ≡ One → AreOnce made) → (x y : Entry) (e : Event) → IsEntry v x → IsEntry v y
    → event_in made x ≡ Some e → event_in made y ≡ Some e → source_in x ≡ source_in y → x ≡ y
same_entry v made once x y e a b p q s =
    again made x e p
    ∙ ap (λ (o : Option ℕ). entry_of e o (name_in x)) s
    ∙ renamed e (source_in y) (name_in x) (name_in y) (λ i is. same_name v made once (name_in x) (name_in y) i (writes v x a) (writes v y b) (means made x e p ∙ is) (means made y e q ∙ is))
    ∙ sym (again made y e q)

-- ---- each reducer is created once

-- at most one event creates a reducer
abbrev AreApart : List Event → Type 0
AreApart es = (p q : ℕ) (i : Instance) → p < q → slice_get es p ≡ Some (events.Create i) → slice_get es q ≡ Some (events.Create i) → ⊥

apart_rest : (e : Event) (es : List Event) → AreApart (e ∷ es) → AreApart es
apart_rest e es h p q i less a b = h (suc p) (suc q) i (omega (arith, less)) a b

-- the place of the event that creates the reducer
created_at : (es : List Event) (a : ℕ) (i : Instance) → slice_get (creations es) a ≡ Some i → (p : ℕ) × (slice_get es p ≡ Some (events.Create i))
created_at [] a i h = no_instance i h
created_at (events.Create j ∷ es) zero i h = (zero, ap (λ (k : Instance). Some (events.Create k)) (same_Some j i h))
created_at (events.Create j ∷ es) (suc a) i h = let r = created_at es a i h in (suc r.0, r.1)
created_at (e ∷ es) a i h = let r = created_at es a i h in (suc r.0, r.1)

not_twice : (es : List Event) → AreApart es → (a b : ℕ) (i : Instance) → a < b → slice_get (creations es) a ≡ Some i → slice_get (creations es) b ≡ Some i → ⊥
not_twice [] h a b i less p q = no_instance i p
not_twice (events.Create j ∷ es) h zero zero i less p q = absurd (omega (arith, less))
not_twice (events.Create j ∷ es) h zero (suc b) i less p q =
    let r = created_at es b i q in
    h zero (suc r.0) i (omega arith) (ap (λ (k : Instance). Some (events.Create k)) (same_Some j i p)) r.1
not_twice (events.Create j ∷ es) h (suc a) zero i less p q = absurd (omega (arith, less))
not_twice (events.Create j ∷ es) h (suc a) (suc b) i less p q = not_twice es (apart_rest (events.Create j) es h) a b i (omega (arith, less)) p q
not_twice (e ∷ es) h a b i less p q = not_twice es (apart_rest e es h) a b i less p q

are_once : (es : List Event) → AreApart es → AreOnce (creations es)
are_once es h a b i p q =
    elim (cases_lt a b) [
      | inl less ↦ absurd (not_twice es h a b i less p q)
      | inr ge ↦
          elim (cases_lt b a) [
            | inl less ↦ absurd (not_twice es h b a i less q p)
            | inr le ↦ omega (arith, ge, le)
          ]
    ]

taken_from : (n : ℕ) (es : List Event) (p : ℕ) (e : Event) → slice_get (take n es) p ≡ Some e → slice_get es p ≡ Some e
taken_from zero es p e h = absurd (let t : ◌≡◌ {A = Option Event} None (Some e) = h in cc)
taken_from (suc n) [] p e h = h
taken_from (suc n) (d ∷ es) zero e h = h
taken_from (suc n) (d ∷ es) (suc p) e h = taken_from n es p e h

taken_apart : (n : ℕ) (es : List Event) → AreApart es → AreApart (take n es)
taken_apart n es h p q i less a b = h p q i less (taken_from n es p (events.Create i) a) (taken_from n es q (events.Create i) b)

apart : (es : List Event) → AreCreatedBeforeUse es → AreApart es
apart es h p q i less a b =
    let at : (p + 1) - 1 ≡ p = omega arith in
    let to : (q + 1) - 1 ≡ q = omega arith in
    h.once (p + 1) (q + 1) i (omega arith) (omega (arith, less)) (ap (slice_get es) at ∙ a) (ap (slice_get es) to ∙ b)

-- ---- the law

same_events : (v : Version) (es : List Event) → (v ≡ One → AreCreatedBeforeUse es) → (k : ℕ) (x y : Entry) → IsEntry v x → IsEntry v y
    → ListsEvent es k x → ListsEvent es k y → HasSource es k x → HasSource es k y → x ≡ y
same_events v es once k x y a b lx ly sx sy =
    let e = lx.0 in
    let made = creations (take (suc k) es) in
    let second : ly.0 ≡ e = same_Some ly.0 e (sym ly.1 ∙ lx.1) in
    let third : sx.0 ≡ e = same_Some sx.0 e (sym sx.1 ∙ lx.1) in
    let fourth : sy.0 ≡ e = same_Some sy.0 e (sym sy.1 ∙ lx.1) in
    let listed : event_in made y ≡ Some e = ly.2 ∙ ap (λ (d : Event). Some d) second in
    let source : source_in x ≡ source_in y = sx.2 ∙ ap (source_at es k) third ∙ sym (sy.2 ∙ ap (source_at es k) fourth) in
    same_entry v made (λ one. are_once (take (suc k) es) (taken_apart (suc k) es (apart es (once one)))) x y e a b lx.2 listed source

all_at : {A : Type 0} (P : A → Type 0) (xs : List A) (k : ℕ) (x : A) → AllByRecursion P xs → slice_get xs k ≡ Some x → P x
all_at {A = A} P [] k x h e = absurd (let t : ◌≡◌ {A = Option A} None (Some x) = e in cc)
all_at P (y ∷ xs) zero x h e = subst P (same_Some y x e) h.0
all_at P (y ∷ xs) (suc k) x h e = all_at P xs k x h.1 e

same_strand : (x y : Strand) → x.frame ≡ y.frame → x.hebrew ≡ y.hebrew → x.class ≡ y.class → x ≡ y
same_strand x y e f g =
    ap (λ (n : ℕ). record x { frame = n }) e ∙ ap (λ (n : ℕ). record x { frame = y.frame; hebrew = n }) f ∙ ap (λ (n : ℕ). record y { class = n }) g

same_contents : (c d : Contents) → c.version ≡ d.version → c.frames ≡ d.frames → c.strands ≡ d.strands → c.events ≡ d.events → c.result ≡ d.result → c ≡ d
same_contents c d v f s e r =
    ap (λ (x : Version). record c { version = x }) v
    ∙ ap (λ (x : List Frame). record c { version = d.version; frames = x }) f
    ∙ ap (λ (x : List Strand). record c { version = d.version; frames = d.frames; strands = x }) s
    ∙ ap (λ (x : List Entry). record d { events = x; result = c.result }) e
    ∙ ap (λ (x : ℤ). record d { result = x }) r

by_test : (b : Bool) (P : Type 0) → (b ≡ true → P) → (P → b ≡ true) → ¬ (¬ P) → P
by_test true P yes_ no_ h = yes_ refl
by_test false P yes_ no_ h = absurd (h (λ p. let e : ◌≡◌ {A = Bool} false true = no_ p in absurd cc))

same_text : (xs ys : List ℕ) → ¬ (¬ (xs ≡ ys)) → xs ≡ ys
same_text xs ys = by_test (bytes_eq xs ys) (xs ≡ ys) (bytes_eq-Decides xs ys).0 (bytes_eq-Decides xs ys).1

-- the items of two columns at one place
same_at : {A B : Type 0} (column : List B) (f : A → B) (xs ys : List A) (count : ℕ) (k : ℕ) (x y : A)
    → IsNowhere (IsWrongAt (λ n z. IsAt column n (f z)) xs count) → IsNowhere (IsWrongAt (λ n z. IsAt column n (f z)) ys count)
    → slice_get xs k ≡ Some x → slice_get ys k ≡ Some y → ¬ (¬ (f x ≡ f y))
same_at column f xs ys count k x y g h p q never =
    not_wrong (λ n z. IsAt column n (f z)) xs count g k x p (λ a. not_wrong (λ n z. IsAt column n (f z)) ys count h k y q (λ b. never (same_Some (f x) (f y) (sym a ∙ b))))

module _ (s : Shape) (es : List Event) (value : ℤ) (c d : Contents) (g : IsRight s es value c) (h : IsRight s es value d) where
  frames_same : ¬ (¬ (c.frames ≡ d.frames))
  frames_same =
      let column = frames_of s in
      let many = as_many (IsAt column) c.frames (length column) (λ k x. slice_get_within column k x) g.frames in
      let more = as_many (IsAt column) d.frames (length column) (λ k x. slice_get_within column k x) h.frames in
      same_lists c.frames d.frames (many ∙ sym more) (λ k x y. same_at column (λ z. z) c.frames d.frames (length column) k x y g.frames h.frames)

  strands_same : ¬ (¬ (c.strands ≡ d.strands))
  strands_same =
      let own = owners_of s in
      let heb = hebrews (tree s) 1 in
      let cls = class_numbers (tree s) 0 1 in
      let many = as_many (λ k x. IsAt own k x.frame) c.strands (length own) (λ k x. slice_get_within own k x.frame) g.owners in
      let more = as_many (λ k x. IsAt own k x.frame) d.strands (length own) (λ k x. slice_get_within own k x.frame) h.owners in
      same_lists c.strands d.strands (many ∙ sym more) (λ k x y p q never.
      same_at own (λ z. z.frame) c.strands d.strands (length own) k x y g.owners h.owners p q (λ a.
      same_at heb (λ z. z.hebrew) c.strands d.strands (length heb) k x y g.hebrews h.hebrews p q (λ b.
      same_at cls (λ z. z.class) c.strands d.strands (length cls) k x y g.classes h.classes p q (λ e. never (same_strand x y a b e)))))

  events_same : IsCertificate c → IsCertificate d → c.version ≡ d.version → (c.version ≡ One → AreCreatedBeforeUse es) → ¬ (¬ (c.events ≡ d.events))
  events_same fits fits' v once =
      let n = length es in
      let many = as_many (ListsEvent es) c.events n (λ k x l. slice_get_within es k l.0 l.1) g.events in
      let more = as_many (ListsEvent es) d.events n (λ k x l. slice_get_within es k l.0 l.1) h.events in
      let written : AllByRecursion (IsEntry c.version) d.events = subst (λ (w : Version). AllByRecursion (IsEntry w) d.events) (sym v) fits'.events in
      same_lists c.events d.events (many ∙ sym more) (λ k x y p q never.
      not_wrong (ListsEvent es) c.events n g.events k x p (λ lx.
      not_wrong (ListsEvent es) d.events n h.events k y q (λ ly.
      not_wrong (HasSource es) c.events n g.sources k x p (λ sx.
      not_wrong (HasSource es) d.events n h.sources k y q (λ sy.
      never (same_events c.version es once k x y (all_at (IsEntry c.version) c.events k x fits.events p) (all_at (IsEntry c.version) d.events k y written q) lx ly sx sy))))))

pub one_right : (s : Shape) (es : List Event) (value : ℤ) → HasOneCertificate s es value
one_right s es value c d fits fits' v once g h =
    one_certificate c d fits fits' (same_text (text_of c) (text_of d) (λ never.
    frames_same s es value c d g h (λ f.
    strands_same s es value c d g h (λ t.
    events_same s es value c d g h fits fits' v once (λ e.
    never (ap text_of (same_contents c d v f t e (g.result ∙ sym h.result))))))))
