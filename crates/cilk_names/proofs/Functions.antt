-- The known functions of a text, item by item.
use Rattle.std.proofs.Common.{◌≡◌, ℕ, suc, ◌+◌, ◌<◌, ◌≤◌, Bool, true, false, if◌then◌else◌, List, [], ◌∷◌, length, drop, get_or, Option, Some, None, refl, sym, ap, ◌∙◌, subst, add-one, bytes_eq, arith}
use Rattle.std.specs.Option.{is_some, option_or}
use Rattle.std.proofs.Math.Path.{fun_ext}
use Rattle.std.proofs.lemmas.List.{drop_all}
use Rattle.std.proofs.lemmas.Slice.Eq.{bytes_eq-Decides}
use Rattle.std.proofs.Math.Seq.{drop-cons}
use Rattle.cilk_syntax.specs.declared.tree.Item as code
use Rattle.cilk_syntax.specs.Trees as trees
use Rattle.cilk_syntax.specs.Trees.{Item, items_of, bytes_of}
use Rattle.cilk_names.specs.declared.signature.Signature.{Signature}
use Rattle.cilk_names.specs.declared.table.Binding.{Binding}
use Rattle.cilk_names.specs.declared.table.Meaning.TheVariants as meanings
use Rattle.cilk_names.specs.Names.{Names, Scope, with_entry}
use Rattle.cilk_names.specs.Contexts.{functions_known, functions_behind, with_item}
use Rattle.cilk_names.specs.Globals.{is_main_item, main_of}

pub same_bytes : (a b : List ℕ) → bytes_eq a b ≡ true → a ≡ b
same_bytes a b h = grind (arith, bytes_eq-Decides a b)

left : (list : List code.Item) (i : ℕ) (x : code.Item) → i < length list → x ≡ get_or list i x → items_of (drop i list) ≡ trees.item x ∷ items_of (drop (suc i) list)
left list i x h e = ap items_of (drop-cons list i x h ∙ ap (λ y. y ∷ drop (suc i) list) (sym e))

none : (list : List code.Item) (i : ℕ) → length list ≤ i → items_of (drop i list) ≡ []
none list i h = ap items_of (drop_all i list h)

-- known functions: a name that is known already keeps its meaning
known_cases : (s : Scope) (name q : List ℕ) (e : Binding) (later : Option Binding) (b c : Bool) → is_some (s name) ≡ b → bytes_eq name q ≡ c
    → option_or ((if b then s else with_entry s name e) q) later ≡ option_or (s q) (if c then Some e else later)
known_cases s name q e later true true h k = known_some (s q) (subst (λ (x : List ℕ). is_some (s x) ≡ true) (same_bytes name q k) h)
  where
    known_some : (o : Option Binding) → is_some o ≡ true → option_or o later ≡ option_or o (Some e)
    known_some None g = cc
    known_some (Some x) g = refl
known_cases s name q e later true false h k = refl
known_cases s name q e later false true h k =
    ap (λ (c : Bool). option_or (if c then Some e else s q) later) k ∙ known_none (s q) (subst (λ (x : List ℕ). is_some (s x) ≡ false) (same_bytes name q k) h)
  where
    known_none : (o : Option Binding) → is_some o ≡ false → Some e ≡ option_or o (Some e)
    known_none None g = refl
    known_none (Some x) g = cc
known_cases s name q e later false false h k = ap (λ (c : Bool). option_or (if c then Some e else s q) later) k

known_item : (text : List ℕ) (s : Scope) (n : ℕ) (x : Item) (rest : List Item) (q : List ℕ)
    → option_or (with_item text s n x q) (functions_known text (functions_behind n x) rest q) ≡ option_or (s q) (functions_known text n (x ∷ rest) q)
known_item text s n (trees.Globals vs) rest q = refl
known_item text s n (trees.Item.Reducer r) rest q = refl
known_item text s n (trees.Function returns x ps body) rest q =
    known_cases s (bytes_of text x) q (record { meaning = meanings.Function n; declared = false }) (functions_known text (n + 1) rest q) (is_some (s (bytes_of text x))) (bytes_eq (bytes_of text x) q) refl refl

pub known_step : (text : List ℕ) (list : List code.Item) (i : ℕ) (x : code.Item) (s t : Scope) (n m : ℕ) → i < length list → x ≡ get_or list i x
    → ((q : List ℕ) → option_or (s q) (functions_known text n (items_of (drop i list)) q) ≡ functions_known text 0 (items_of list) q)
    → t ≡ with_item text s n (trees.item x) → m ≡ functions_behind n (trees.item x)
    → (q : List ℕ) → option_or (t q) (functions_known text m (items_of (drop (i + 1) list)) q) ≡ functions_known text 0 (items_of list) q
known_step text list i x s t n m lt at h e f q =
    rw add-one (
    ap (λ (r : Scope). option_or (r q) (functions_known text m (items_of (drop (suc i) list)) q)) e
    ∙ ap (λ (k : ℕ). option_or (with_item text s n (trees.item x) q) (functions_known text k (items_of (drop (suc i) list)) q)) f
    ∙ known_item text s n (trees.item x) (items_of (drop (suc i) list)) q
    ∙ ap (λ y. option_or (s q) (functions_known text n y q)) (sym (left list i x lt at))
    ∙ h q)

known_nothing : (o : Option Binding) → o ≡ option_or o None
known_nothing None = refl
known_nothing (Some x) = refl

pub known_end : (text : List ℕ) (list : List code.Item) (i : ℕ) (s : Scope) (n : ℕ) → length list ≤ i
    → ((q : List ℕ) → option_or (s q) (functions_known text n (items_of (drop i list)) q) ≡ functions_known text 0 (items_of list) q)
    → s ≡ functions_known text 0 (items_of list)
known_end text list i s n le h =
    fun_ext (λ (q : List ℕ). known_nothing (s q) ∙ ap (λ y. option_or (s q) (functions_known text n y q)) (sym (none list i le)) ∙ h q)

pub counted_most : (n : ℕ) (x : Item) → functions_behind n x ≤ n + 1
counted_most n (trees.Globals vs) = omega arith
counted_most n (trees.Item.Reducer r) = omega arith
counted_most n (trees.Function returns x ps body) = omega arith

-- the main function
module _ (text : List ℕ) (list : List code.Item) (i : ℕ) (x : code.Item) (n : ℕ) (lt : i < length list) (at : x ≡ get_or list i x)
    (h : main_of text n (items_of (drop i list)) ≡ main_of text 0 (items_of list)) where
  main_item : (if is_main_item text (trees.item x) then Some n else main_of text (functions_behind n (trees.item x)) (items_of (drop (suc i) list))) ≡ main_of text 0 (items_of list)
  main_item = ap (main_of text n) (sym (left list i x lt at)) ∙ h

  pub main_here : (b : Bool) → b ≡ is_main_item text (trees.item x) → b ≡ true → Some n ≡ main_of text 0 (items_of list)
  main_here b e f = ap (λ (c : Bool). if c then Some n else main_of text (functions_behind n (trees.item x)) (items_of (drop (suc i) list))) (sym f ∙ e) ∙ main_item

-- a table with one more known function
pub known_names : (n m : Names) (x i : Scope) (text : List ℕ) (sigs : List Signature) → m ≡ record n { inner = x }
    → n ≡ record { text = text; signatures = sigs; inner = i; outer = []; level = 0 } → m ≡ record { text = text; signatures = sigs; inner = m.inner; outer = []; level = 0 }
known_names n m x i text sigs e f =
    let g : m ≡ record { text = text; signatures = sigs; inner = x; outer = []; level = 0 } = e ∙ ap (λ (k : Names). record k { inner = x }) f in
    g ∙ ap (λ (s : Scope). let k : Names = record { text = text; signatures = sigs; inner = s; outer = []; level = 0 } in k) (sym (ap (λ (k : Names). k.inner) g))
