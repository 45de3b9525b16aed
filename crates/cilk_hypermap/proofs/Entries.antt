-- Maps as lists of entries: what is found, by places.
use Rattle.std.proofs.Common.{◌≡◌, ℕ, zero, suc, ◌+◌, ◌<◌, Bool, true, false, cond, List, [], ◌∷◌, ◌++◌, map, length, slice_get, Option, Some, None, Box, IsSome, IfSome, option_to_list, is_some, sym, ap, ◌∙◌, refl, subst, true≢false, arith, below_more}
use Rattle.std.specs.Map.{lookup, keys_of}
use Rattle.std.specs.Option.{option_map, unwrap_or}
use Rattle.indexmap.specs.IndexMap.{IndexMap}
use Rattle.cilk_types.specs.declared.event.Instance.{Instance}
use Rattle.cilk_monoid.specs.Ranges.{same_instance}
use Rattle.cilk_hypermap.specs.Views.{entries_in}
use Rattle.cilk_monoid.proofs.RangeLaws.{same_from_true, same_self}

pub slice_get-map : {X Y : Type 0} (f : X → Y) (xs : List X) (i : ℕ) → slice_get (map f xs) i ≡ option_map f (slice_get xs i)
slice_get-map f [] i = refl
slice_get-map f (x ∷ xs) zero = refl
slice_get-map f (x ∷ xs) (suc i) = slice_get-map f xs i

-- the key at a place, from the entry there
pub key_at : {X : Type 0} (es : List (Instance × X)) (i : ℕ) (k : Instance) (v : X) → slice_get es i ≡ Some (k, v) → slice_get (keys_of es) i ≡ Some k
key_at {X} es i k v h = slice_get-map (λ (e : Instance × X). e.0) es i ∙ ap (option_map (λ (e : Instance × X). e.0)) h

-- a fact about the key at each place is one about each key that is found
pub every_key : {X : Type 0} (P : Instance → Type 0) (es : List (Instance × X)) → ((k : ℕ) (q : Instance) → k < length es → slice_get (keys_of es) k ≡ Some q → P q) → (q : Instance) → IsSome (lookup (same_instance q) es) → P q
every_key P [] all q h = absurd (true≢false (sym h))
every_key {X} P (e ∷ es) all q h =
    by (same_instance q e.0) refl (every_key P es (λ k r below at. all (suc k) r (omega arith) at) q) h
  where
    by : (b : Bool) → same_instance q e.0 ≡ b → (IsSome (lookup (same_instance q) es) → P q) → IsSome (cond b (Some e.1) (lookup (same_instance q) es)) → P q
    by true p rest found = subst P (sym (same_from_true q e.0 p)) (all 0 e.0 (omega arith) refl)
    by false p rest found = rest found

-- a key that isn't found in a list is searched after it
pub lookup-append_none : {X : Type 0} (test : Instance → Bool) (es fs : List (Instance × X)) → lookup test es ≡ None → lookup test (es ++ fs) ≡ lookup test fs
lookup-append_none test [] fs h = refl
lookup-append_none {X} test (e ∷ es) fs h = by (test e.0) (lookup-append_none test es fs) h
  where
    by : (b : Bool) → (lookup test es ≡ None → lookup test (es ++ fs) ≡ lookup test fs) → cond b (Some e.1) (lookup test es) ≡ None → cond b (Some e.1) (lookup test (es ++ fs)) ≡ lookup test fs
    by true rest g = absurd (true≢false (ap is_some g))
    by false rest g = rest g

-- the last entry is found by its key, where no earlier one has that key
pub lookup_last : {X : Type 0} (es : List (Instance × X)) (k : Instance) (v : X) → lookup (same_instance k) es ≡ None → lookup (same_instance k) (es ++ (k, v) ∷ []) ≡ Some v
lookup_last es k v h = lookup-append_none (same_instance k) es ((k, v) ∷ []) h ∙ ap (λ b. cond b (Some v) None) (same_self k)

-- a fact of the keys at the first places and of the next one, for all of them
pub each_so_far : (ks : List Instance) (i : ℕ) (key : Instance) (P : Instance → Type 0) → slice_get ks i ≡ Some key → P key
    → ((k : ℕ) (q : Instance) → k < i → slice_get ks k ≡ Some q → P q) → (k : ℕ) (q : Instance) → k < i + 1 → slice_get ks k ≡ Some q → P q
each_so_far ks i key P place here before k q below at =
    let At : ℕ → Type 0 = λ n. (r : Instance) → slice_get ks n ≡ Some r → P r in
    below_more At i (λ n lt r h. before n r lt h) (λ r h. subst P (ap (λ o. unwrap_or o key) (sym place ∙ h)) here) k below q at

-- a function of a value is there where the value is
pub is_some-option_map : {X Y : Type 0} (f : X → Y) (o : Option X) → is_some (option_map f o) ≡ is_some o
is_some-option_map f None = refl
is_some-option_map f (Some x) = refl

-- the entry popped from the end of a map was found by its key
pub found_last : {X : Type 0} (es fs : List (Instance × X)) (k : Instance) (v : X) → es ≡ fs ++ (k, v) ∷ [] → lookup (same_instance k) fs ≡ cond (same_instance k k) None (lookup (same_instance k) es) → lookup (same_instance k) es ≡ Some v
found_last es fs k v e gone =
    ap (lookup (same_instance k)) e ∙ lookup_last fs k v (gone ∙ ap (λ b. cond b None (lookup (same_instance k) es)) (same_self k))

-- what is popped from the end of a map was found by its key
pub popped : {X : Type 0} (o : Option (Instance × X)) (es fs : List (Instance × X)) → es ≡ fs ++ option_to_list o
    → IfSome o (λ p. (q : Instance) → lookup (same_instance q) fs ≡ cond (same_instance p.0 q) None (lookup (same_instance q) es)) → IfSome o (λ p. lookup (same_instance p.0) es ≡ Some p.1)
popped None es fs e gone = tt
popped (Some p) es fs e gone = found_last es fs p.0 p.1 e (gone p.0)

-- a fact of what is there gives another one
pub if_some : {X : Type 0} {P Q : X → Type 0} (o : Option X) → ((x : X) → P x → Q x) → IfSome o P → IfSome o Q
if_some None f h = tt
if_some (Some x) f h = f x h

-- a function of one of two
pub option_map-cond : {X Y : Type 0} (f : X → Y) (b : Bool) (o p : Option X) → option_map f (cond b o p) ≡ cond b (option_map f o) (option_map f p)
option_map-cond f true o p = refl
option_map-cond f false o p = refl

-- the entries of a map behind its box
pub behind : {K X S A : Type 0} (o : Option (Box (IndexMap K X S) A)) (b : Box (IndexMap K X S) A) (m : IndexMap K X S) → o ≡ Some b → m ≡ b.value → m.entries ≡ entries_in o
behind o b m is at = ap (λ (h : IndexMap _ _ _). h.entries) at ∙ ap entries_in (sym is)
