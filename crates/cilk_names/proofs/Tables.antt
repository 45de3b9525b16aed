-- Look-ups of names in a stack of scopes.
-- found_last               the innermost scope decides, then the outer ones
-- found_some, found_none   one step of the search from the innermost scope out
-- put_entry                an insertion into a scope
-- map_append, take_more    lists: a map of two lists, one more of the first n items
use Rattle.std.proofs.Common.{◌≡◌, ℕ, ◌+◌, ◌-◌, ◌<◌, ◌≤◌, List, [], ◌∷◌, ◌++◌, length, take, get_or, map, Option, Some, None, refl, sym, ap, ◌∙◌, bytes_eq, add-one, arith, Bor}
use Rattle.std.specs.Option.{option_or}
use Rattle.std.proofs.Math.Path.{fun_ext}
use Rattle.std.proofs.Math.Seq.{take-suc}
use Rattle.std.proofs.lemmas.Map.Text.{hash_map_updates_str}
use Rattle.std.specs.HashMap as hash
use Rattle.std.specs.HashMap.{HashMap}
use Rattle.cilk_names.specs.declared.table.Binding.{Binding}
use Rattle.cilk_names.specs.Names.{Scope, found_in, with_entry}
use Rattle.cilk_names.specs.Tables.{scope_of}

or_none : {A : Type 0} (o : Option A) → o ≡ option_or o None
or_none None = refl
or_none (Some x) = refl

or_assoc : {A : Type 0} (a b c : Option A) → option_or (option_or a b) c ≡ option_or a (option_or b c)
or_assoc None b c = refl
or_assoc (Some x) b c = refl

-- the innermost scope is last
pub found_last : (xs : List Scope) (s : Scope) (q : List ℕ) → found_in (xs ++ s ∷ []) q ≡ option_or (s q) (found_in xs q)
found_last [] s q = or_none (s q)
found_last (x ∷ xs) s q = ap (λ o. option_or o (x q)) (found_last xs s q) ∙ or_assoc (s q) (found_in xs q) (x q)

pub map_append : {A B : Type 0} (f : A → B) (xs ys : List A) → map f (xs ++ ys) ≡ map f xs ++ map f ys
map_append f [] ys = refl
map_append f (x ∷ xs) ys = ap (λ zs. f x ∷ zs) (map_append f xs ys)

-- one more item of a list
pub take_more : {A : Type 0} (list : List A) (i : ℕ) (x : A) → i < length list → x ≡ get_or list i x → take (i + 1) list ≡ take i list ++ x ∷ []
take_more list i x h e = rw add-one (take-suc list i x h ∙ ap (λ y. take i list ++ y ∷ []) (sym e))

-- one more of a stack of maps
found_next : {S : Type 0} (ms : List (HashMap (Bor (List ℕ)) Binding S)) (n : ℕ) (m : HashMap (Bor (List ℕ)) Binding S) (q : List ℕ)
    → n < length ms → m ≡ get_or ms n m
    → found_in (map scope_of (take (n + 1) ms)) q ≡ option_or (scope_of m q) (found_in (map scope_of (take n ms)) q)
found_next ms n m q h e =
    ap (λ xs. found_in (map scope_of xs) q) (take_more ms n m h e)
    ∙ ap (λ xs. found_in xs q) (map_append scope_of (take n ms) (m ∷ []))
    ∙ found_last (map scope_of (take n ms)) (scope_of m) q

-- the last of the first items
found_here : {S : Type 0} (ms : List (HashMap (Bor (List ℕ)) Binding S)) (d : ℕ) (m : HashMap (Bor (List ℕ)) Binding S) (q : List ℕ)
    → 0 < d → d ≤ length ms → m ≡ get_or ms (d - 1) m
    → found_in (map scope_of (take d ms)) q ≡ option_or (scope_of m q) (found_in (map scope_of (take (d - 1) ms)) q)
found_here ms d m q p h e =
    let lt : d - 1 < length ms = omega arith in
    let same : d ≡ (d - 1) + 1 = omega arith in
    ap (λ n. found_in (map scope_of (take n ms)) q) same ∙ found_next ms (d - 1) m q lt e

-- the scope has the name
pub found_some : {S : Type 0} (ms : List (HashMap (Bor (List ℕ)) Binding S)) (d : ℕ) (m : HashMap (Bor (List ℕ)) Binding S) (q : List ℕ) (o : Option Binding) (e : Binding)
    → 0 < d → d ≤ length ms → m ≡ get_or ms (d - 1) m → o ≡ None → Some e ≡ scope_of m q
    → found_in (map scope_of ms) q ≡ found_in (map scope_of (take d ms)) q → Some e ≡ option_or o (found_in (map scope_of ms) q)
found_some ms d m q o e p h k n f r =
    sym (ap (λ x. option_or x (found_in (map scope_of ms) q)) n ∙ r ∙ found_here ms d m q p h k ∙ ap (λ x. option_or x (found_in (map scope_of (take (d - 1) ms)) q)) (sym f))

-- the scope doesn't have it
pub found_none : {S : Type 0} (ms : List (HashMap (Bor (List ℕ)) Binding S)) (d : ℕ) (m : HashMap (Bor (List ℕ)) Binding S) (q : List ℕ)
    → 0 < d → d ≤ length ms → m ≡ get_or ms (d - 1) m → scope_of m q ≡ None
    → found_in (map scope_of ms) q ≡ found_in (map scope_of (take d ms)) q
    → found_in (map scope_of ms) q ≡ found_in (map scope_of (take (d - 1) ms)) q
found_none ms d m q p h k f r =
    r ∙ found_here ms d m q p h k ∙ ap (λ x. option_or x (found_in (map scope_of (take (d - 1) ms)) q)) f

-- an insertion
pub put_entry : {S : Type 0} (m n : HashMap (Bor (List ℕ)) Binding S) (bs bs' : List ℕ) (e : Binding) → bs' ≡ bs
    → hash.UpdatesBy (λ x y. bytes_eq x.now y.now) (λ k. bytes_eq bs' k.now) m n (Some e)
    → scope_of n ≡ with_entry (scope_of m) bs e
put_entry m n bs bs' e same h =
    fun_ext (λ (q : List ℕ). hash_map_updates_str bs' m n _ h q ∙ ap (λ b. with_entry (scope_of m) b e q) same)
