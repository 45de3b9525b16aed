-- Items and programs: the same tokens spell only one.
--
-- `one_item`: by pairs. `one_program`: a list of tokens spells at most one program.
use Rattle.std.proofs.Common.{◌≡◌, ℕ, ℤ, false, eqb, inl, inr, List, [], ◌∷◌, refl, sym, ap, ◌∙◌, subst}
use Rattle.std.proofs.lemmas.Bool.{eqb-false}
use Rattle.cilk_syntax.specs.declared.token.Kind.{Kind}
use Rattle.cilk_syntax.specs.declared.token.Kind.TheVariants as kinds
use Rattle.cilk_syntax.specs.declared.token.Token.{Token}
use Rattle.cilk_syntax.specs.declared.tree.Name.{Name}
use Rattle.cilk_syntax.specs.declared.tree.ReturnType.{ReturnType}
use Rattle.cilk_syntax.specs.declared.tree.ReturnType.TheVariants as types
use Rattle.cilk_syntax.specs.declared.tree.Initializer.{Initializer}
use Rattle.cilk_syntax.specs.declared.tree.Initializer.TheVariants as initializers
use Rattle.cilk_syntax.specs.declared.tree.GlobalVariable.{GlobalVariable}
use Rattle.cilk_syntax.specs.declared.tree.GlobalVariable.TheVariants as globals
use Rattle.cilk_syntax.specs.declared.tree.Parameter.{Parameter}
use Rattle.cilk_syntax.specs.declared.tree.Parameter.TheVariants as parameters
use Rattle.cilk_syntax.specs.Trees as trees
use Rattle.cilk_syntax.specs.Trees.{Item, Statements}
use Rattle.cilk_syntax.specs.Grammar.{Is, type_of, SpellsLiteral, SpellsInitializer, SpellsGlobal, SpellsMore, SpellsVariables, SpellsLine, SpellsParameter, SpellsMoreParameters, SpellsParameters, SpellsFunction, SpellsItem, SpellsItems, SpellsProgram}
use Rattle.cilk_parser.proofs.Tokens.{same_is, same_name, is_name, apart}
use Rattle.cilk_parser.proofs.Reading.{Ends, ends_at}
use Rattle.cilk_parser.proofs.Parts.{no_end}
use Rattle.cilk_parser.proofs.UniqueDeclarations.{one_reducer, reducer_starts}
use Rattle.cilk_parser.proofs.UniqueStatements.{one_body}

-- the kinds that are told apart, numbered
abbrev code : Kind → ℕ
code kinds.Semicolon = 1
code kinds.Comma = 2
code kinds.Assign = 3
code kinds.OpenBracket = 4
code kinds.Open = 5
code kinds.Close = 6
code kinds.Name = 7
code kinds.CilkReducer = 8
code kinds.Minus = 9
code kinds.Int = 10
code kinds.Void = 11
code _ = 0

other_kind : {A : Type 0} {j k : Kind} → eqb (code j) (code k) ≡ false → j ≡ k → A
other_kind {A} {j} {k} h e = absurd (eqb-false (code j) (code k) h (ap code e))

same_number : {m n : ℤ} {ts us r s : List Token} → ts ≡ us → Is (kinds.Number m) ts r → Is (kinds.Number n) us s
    → (m ≡ n) × (r ≡ s)
same_number p h k =
    let e = same_is p h k in (cc, e.1)

one_literal : (i j : Initializer) (ts us r s : List Token) → ts ≡ us → SpellsLiteral i ts r → SpellsLiteral j us s
    → (i ≡ j) × (r ≡ s)
one_literal initializers.Absent j ts us r s p h k = absurd h
one_literal (initializers.Number m) initializers.Absent ts us r s p h k = absurd k
one_literal (initializers.Negative m) initializers.Absent ts us r s p h k = absurd k
one_literal (initializers.Number m) (initializers.Number n) ts us r s p h k =
    let a = same_number p h k in (ap (λ x. initializers.Number x) a.0, a.1)
one_literal (initializers.Number m) (initializers.Negative n) ts us r s p h k = apart p h k.1 (other_kind refl)
one_literal (initializers.Negative m) (initializers.Number n) ts us r s p h k = apart p h.1 k (other_kind refl)
one_literal (initializers.Negative m) (initializers.Negative n) ts us r s p h k =
    let a = same_number (same_is p h.1 k.1).1 h.2 k.2 in (ap (λ x. initializers.Negative x) a.0, a.1)

-- a value after `=`, or nothing
data Initial (i : Initializer) (ts r : List Token) : Type 0 where
  Bare : i ≡ initializers.Absent → ts ≡ r → Initial i ts r
  Set : (ts1 : List Token) → Is kinds.Assign ts ts1 → SpellsLiteral i ts1 r → Initial i ts r

initial : (i : Initializer) (ts r : List Token) → SpellsInitializer i ts r → Initial i ts r
initial initializers.Absent ts r h = Bare refl h
initial (initializers.Number n) ts r h = Set h.0 h.1 h.2
initial (initializers.Negative n) ts r h = Set h.0 h.1 h.2

one_initial : (i j : Initializer) (ts us r s : List Token) → ts ≡ us → Initial i ts r → Initial j us s → Ends r
    → Ends s → (i ≡ j) × (r ≡ s)
one_initial i j ts us r s p (Bare e h) (Bare f k) x y = (e ∙ sym f, sym h ∙ (p ∙ k))
one_initial i j ts us r s p (Bare e h) (Set us1 k l) x y = no_end (sym h ∙ p) x k refl
one_initial i j ts us r s p (Set ts1 h l) (Bare f k) x y = no_end (sym k ∙ sym p) y h refl
one_initial i j ts us r s p (Set ts1 h l) (Set us1 k m) x y = one_literal i j ts1 us1 r s (same_is p h k).1 l m

initial_no_bracket : {A : Type 0} (i : Initializer) (ts us r s : List Token) → ts ≡ us → Initial i ts r → Ends r
    → Is kinds.OpenBracket us s → A
initial_no_bracket i ts us r s p (Bare e h) x k = no_end (sym h ∙ p) x k refl
initial_no_bracket i ts us r s p (Set ts1 h l) x k = apart p h k (other_kind refl)

one_global : (v w : GlobalVariable) (m n : Name) (ts us r s : List Token) → m ≡ n → ts ≡ us → SpellsGlobal v m ts r
    → SpellsGlobal w n us s → Ends r → Ends s → (v ≡ w) × (r ≡ s)
one_global (globals.Variable a i) (globals.Variable b j) m n ts us r s q p h k x y =
    let c = one_initial i j ts us r s p (initial i ts r h.1) (initial j us s k.1) x y in
    let e : a ≡ b = h.0 ∙ (q ∙ sym k.0) in
    (ap (λ z. globals.Variable z i) e ∙ ap (λ z. globals.Variable b z) c.0, c.1)
one_global (globals.Variable a i) (globals.Array b l) m n ts us r s q p h k x y =
    initial_no_bracket i ts us r k.0 p (initial i ts r h.1) x k.3
one_global (globals.Array a l) (globals.Variable b j) m n ts us r s q p h k x y =
    initial_no_bracket j us ts s h.0 (sym p) (initial j us s k.1) y h.3
one_global (globals.Array a l) (globals.Array b o) m n ts us r s q p h k x y =
    let c = same_is p h.3 k.3 in
    let d = same_number c.1 h.4 k.4 in
    let e : a ≡ b = h.2 ∙ (q ∙ sym k.2) in
    (ap (λ z. globals.Array z l) e ∙ ap (λ z. globals.Array b z) d.0, (same_is d.1 h.5 k.5).1)

more_end : (list : List GlobalVariable) (ts r z : List Token) → SpellsMore list ts r → Is kinds.Semicolon r z → Ends ts
more_end [] ts r z h c = subst Ends (sym h) (ends_at c refl)
more_end (v ∷ list) ts r z h c = ends_at h.4 refl

one_more : (l m : List GlobalVariable) (ts us r s y z : List Token) → ts ≡ us → SpellsMore l ts r → SpellsMore m us s
    → Is kinds.Semicolon r y → Is kinds.Semicolon s z → (l ≡ m) × (r ≡ s)
one_more [] [] ts us r s y z p h k c d = (refl, sym h ∙ (p ∙ k))
one_more [] (b ∷ m) ts us r s y z p h k c d = apart (sym h ∙ p) c k.4 (other_kind refl)
one_more (a ∷ l) [] ts us r s y z p h k c d = apart (p ∙ k) h.4 d (other_kind refl)
one_more (a ∷ l) (b ∷ m) ts us r s y z p h k c d =
    let e = same_is p h.4 k.4 in
    let f = same_name e.1 h.5 k.5 in
    let g =
    one_global a b h.0 k.0 h.2 k.2 h.3 k.3 f.0 f.1 h.6 k.6 (more_end l h.3 r y h.7 c) (more_end m k.3 s z k.7 d) in
    let o = one_more l m h.3 k.3 r s y z g.1 h.7 k.7 c d in
    (ap (λ x. x ∷ l) g.0 ∙ ap (λ x. b ∷ x) o.0, o.1)

one_variables : (m n : Name) (l k : List GlobalVariable) (ts us r s y z : List Token) → m ≡ n → ts ≡ us
    → SpellsVariables m l ts r → SpellsVariables n k us s → Is kinds.Semicolon r y → Is kinds.Semicolon s z
    → (l ≡ k) × (r ≡ s)
one_variables m n [] k ts us r s y z q p h i c d = absurd h
one_variables m n (a ∷ l) [] ts us r s y z q p h i c d = absurd i
one_variables m n (a ∷ l) (b ∷ k) ts us r s y z q p h i c d =
    let g = one_global a b m n ts us h.0 i.0 q p h.1 i.1 (more_end l h.0 r y h.2 c) (more_end k i.0 s z i.2 d) in
    let o = one_more l k h.0 i.0 r s y z g.1 h.2 i.2 c d in
    (ap (λ x. x ∷ l) g.0 ∙ ap (λ x. b ∷ x) o.0, o.1)

one_line : (m n : Name) (l k : List GlobalVariable) (ts us r s : List Token) → m ≡ n → ts ≡ us → SpellsLine m l ts r
    → SpellsLine n k us s → (l ≡ k) × (r ≡ s)
unfolding SpellsLine
one_line m n l k ts us r s q p h i =
    let a = one_variables m n l k ts us h.0 i.0 r s q p h.1 i.1 h.2 i.2 in (a.0, (same_is a.1 h.2 i.2).1)

initial_no_open : {A : Type 0} (i : Initializer) (ts us r s : List Token) → ts ≡ us → Initial i ts r → Ends r
    → Is kinds.Open us s → A
initial_no_open i ts us r s p (Bare e h) x k = no_end (sym h ∙ p) x k refl
initial_no_open i ts us r s p (Set ts1 h l) x k = apart p h k (other_kind refl)

global_no_open : {A : Type 0} (v : GlobalVariable) (m : Name) (ts us r s : List Token) → ts ≡ us
    → SpellsGlobal v m ts r → Ends r → Is kinds.Open us s → A
global_no_open (globals.Variable a i) m ts us r s p h x k = initial_no_open i ts us r s p (initial i ts r h.1) x k
global_no_open (globals.Array a l) m ts us r s p h x k = apart p h.3 k (other_kind refl)

variables_no_open : {A : Type 0} (m : Name) (l : List GlobalVariable) (ts us r s z : List Token) → ts ≡ us
    → SpellsVariables m l ts r → Is kinds.Semicolon r z → Is kinds.Open us s → A
variables_no_open m [] ts us r s z p h c k = absurd h
variables_no_open m (v ∷ l) ts us r s z p h c k = global_no_open v m ts us h.0 s p h.1 (more_end l h.0 r z h.2 c) k

-- a line of variables doesn't begin with a parenthesis
line_no_open : {A : Type 0} (m : Name) (l : List GlobalVariable) (ts us r s : List Token) → ts ≡ us
    → SpellsLine m l ts r → Is kinds.Open us s → A
unfolding SpellsLine
line_no_open m l ts us r s p h k = variables_no_open m l ts us h.0 s r p h.1 h.2 k

one_parameter : (a b : Parameter) (ts us r s : List Token) → ts ≡ us → SpellsParameter a ts r → SpellsParameter b us s
    → (a ≡ b) × (r ≡ s)
one_parameter (parameters.Variable m) (parameters.Variable n) ts us r s p h k =
    let a = same_name p h k in (ap (λ x. parameters.Variable x) a.0, a.1)
one_parameter (parameters.Variable m) (parameters.Reducer b) ts us r s p h k =
    apart p (is_name h) (reducer_starts b us s k).1 (other_kind refl)
one_parameter (parameters.Reducer a) (parameters.Variable n) ts us r s p h k =
    apart p (reducer_starts a ts r h).1 (is_name k) (other_kind refl)
one_parameter (parameters.Reducer a) (parameters.Reducer b) ts us r s p h k =
    let c = one_reducer a b ts us r s p h k in (ap (λ x. parameters.Reducer x) c.0, c.1)

more_parameters : (l m : List Parameter) (ts us r s y z : List Token) → ts ≡ us → SpellsMoreParameters l ts r
    → SpellsMoreParameters m us s → Is kinds.Close r y → Is kinds.Close s z → (l ≡ m) × (r ≡ s)
more_parameters [] [] ts us r s y z p h k c d = (refl, sym h ∙ (p ∙ k))
more_parameters [] (b ∷ m) ts us r s y z p h k c d = apart (sym h ∙ p) c k.3 (other_kind refl)
more_parameters (a ∷ l) [] ts us r s y z p h k c d = apart (p ∙ k) h.3 d (other_kind refl)
more_parameters (a ∷ l) (b ∷ m) ts us r s y z p h k c d =
    let e = same_is p h.3 k.3 in
    let f = same_is e.1 h.4 k.4 in
    let g = one_parameter a b h.1 k.1 h.2 k.2 f.1 h.5 k.5 in
    let o = more_parameters l m h.2 k.2 r s y z g.1 h.6 k.6 c d in
    (ap (λ x. x ∷ l) g.0 ∙ ap (λ x. b ∷ x) o.0, o.1)

no_parameters : {A : Type 0} (ts us r s : List Token) → ts ≡ us → SpellsParameters [] ts r → Is kinds.Int us s → A
no_parameters ts us r s p (inl h) k = apart p h k (other_kind refl)
no_parameters ts us r s p (inr h) k = apart p h.1 k (other_kind refl)

none_given : (ts us r s : List Token) → ts ≡ us → SpellsParameters [] ts r → SpellsParameters [] us s → r ≡ s
none_given ts us r s p (inl h) (inl k) = (same_is p h k).1
none_given ts us r s p (inl h) (inr k) = apart p h k.1 (other_kind refl)
none_given ts us r s p (inr h) (inl k) = apart p h.1 k (other_kind refl)
none_given ts us r s p (inr h) (inr k) = (same_is (same_is p h.1 k.1).1 h.2 k.2).1

one_parameters : (l m : List Parameter) (ts us r s : List Token) → ts ≡ us → SpellsParameters l ts r
    → SpellsParameters m us s → (l ≡ m) × (r ≡ s)
one_parameters [] [] ts us r s p h k = (refl, none_given ts us r s p h k)
one_parameters [] (b ∷ m) ts us r s p h k = no_parameters ts us r k.0 p h k.2
one_parameters (a ∷ l) [] ts us r s p h k = no_parameters us ts s h.0 (sym p) k h.2
one_parameters (a ∷ l) (b ∷ m) ts us r s p h k =
    let e = same_is p h.2 k.2 in
    let g = one_parameter a b h.0 k.0 h.3.0 k.3.0 e.1 h.3.1 k.3.1 in
    let o = more_parameters l m h.3.0 k.3.0 h.1 k.1 r s g.1 h.3.2 k.3.2 h.4 k.4 in
    (ap (λ x. x ∷ l) g.0 ∙ ap (λ x. b ∷ x) o.0, (same_is o.1 h.4 k.4).1)

one_function : (l m : List Parameter) (s q : Statements) (ts us r z : List Token) → ts ≡ us → SpellsFunction l s ts r
    → SpellsFunction m q us z → (l ≡ m) × (s ≡ q) × (r ≡ z)
unfolding SpellsFunction
one_function l m s q ts us r z p h k =
    let a = one_parameters l m ts us h.0 k.0 p h.1 k.1 in
    let b = one_body s q h.0 k.0 r z a.1 h.2 k.2 in
    (a.0, b.0, b.1)

same_type : (a b : ReturnType) → type_of a ≡ type_of b → a ≡ b
same_type types.Int types.Int e = refl
same_type types.Void types.Void e = refl
same_type _ _ e = cc

one_item : (i j : Item) (ts us r s : List Token) → ts ≡ us → SpellsItem i ts r → SpellsItem j us s → (i ≡ j) × (r ≡ s)
one_item (trees.Globals l) (trees.Globals m) ts us r s p h k =
    let a = same_is p h.3 k.3 in
    let b = same_name a.1 h.4 k.4 in
    let c = one_line h.0 k.0 l m h.2 k.2 r s b.0 b.1 h.5 k.5 in
    (ap (λ x. trees.Globals x) c.0, c.1)
one_item (trees.Globals l) (Item.Reducer b) ts us r s p h k =
    apart (same_is p h.3 k.2).1 (is_name h.4) (reducer_starts b k.0 k.1 k.3).1 (other_kind refl)
one_item (trees.Globals l) (trees.Function type name list row) ts us r s p h k =
    line_no_open h.0 l h.2 k.1 r k.2 (same_name (same_is p h.3 k.3).1 h.4 k.4).1 h.5 k.5
one_item (Item.Reducer a) (trees.Globals m) ts us r s p h k =
    apart (same_is p h.2 k.3).1 (reducer_starts a h.0 h.1 h.3).1 (is_name k.4) (other_kind refl)
one_item (Item.Reducer a) (Item.Reducer b) ts us r s p h k =
    let c = same_is p h.2 k.2 in
    let d = one_reducer a b h.0 k.0 h.1 k.1 c.1 h.3 k.3 in
    (ap (λ x. Item.Reducer x) d.0, (same_is d.1 h.4 k.4).1)
one_item (Item.Reducer a) (trees.Function type name list row) ts us r s p h k =
    apart (same_is p h.2 k.3).1 (reducer_starts a h.0 h.1 h.3).1 (is_name k.4) (other_kind refl)
one_item (trees.Function type name list row) (trees.Globals m) ts us r s p h k =
    line_no_open k.0 m k.2 h.1 s h.2 (sym (same_name (same_is p h.3 k.3).1 h.4 k.4).1) k.5 h.5
one_item (trees.Function type name list row) (Item.Reducer b) ts us r s p h k =
    apart (same_is p h.3 k.2).1 (is_name h.4) (reducer_starts b k.0 k.1 k.3).1 (other_kind refl)
one_item (trees.Function t m l s) (trees.Function v n o q) ts us r z p h k =
    let a = same_is p h.3 k.3 in
    let b = same_name a.1 h.4 k.4 in
    let c = same_is b.1 h.5 k.5 in
    let d = one_function l o s q h.2 k.2 r z c.1 h.6 k.6 in (
      ap (λ x. trees.Function x m l s) (same_type t v a.0)
          ∙ (ap (λ x. trees.Function v x l s) b.0
          ∙ (ap (λ x. trees.Function v n x s) d.0 ∙ ap (λ x. trees.Function v n o x) d.1)),
      d.2,
    )

-- an item has a token
item_is_some : {A : Type 0} (i : Item) (ts r : List Token) → ts ≡ [] → SpellsItem i ts r → A
item_is_some (trees.Globals l) ts r p h = let x : [] ≡ h.3.0 ∷ h.1 = sym p ∙ h.3.1 in cc
item_is_some (Item.Reducer a) ts r p h = let x : [] ≡ h.2.0 ∷ h.0 = sym p ∙ h.2.1 in cc
item_is_some (trees.Function t m l s) ts r p h = let x : [] ≡ h.3.0 ∷ h.0 = sym p ∙ h.3.1 in cc

one_list : (l m : List Item) (ts us : List Token) → ts ≡ us → SpellsItems l ts [] → SpellsItems m us [] → l ≡ m
one_list [] [] ts us p h k = refl
one_list [] (b ∷ m) ts us p h k = item_is_some b us k.0 (sym p ∙ h) k.1
one_list (a ∷ l) [] ts us p h k = item_is_some a ts h.0 (p ∙ k) h.1
one_list (a ∷ l) (b ∷ m) ts us p h k =
    let c = one_item a b ts us h.0 k.0 p h.1 k.1 in
    ap (λ x. x ∷ l) c.0 ∙ ap (λ x. b ∷ x) (one_list l m h.0 k.0 c.1 h.2 k.2)

-- a list of tokens spells at most one program
pub one_program : (ts : List Token) (p q : List Item) → SpellsProgram p ts → SpellsProgram q ts → p ≡ q
one_program ts p q h k = one_list p q ts ts refl h k
