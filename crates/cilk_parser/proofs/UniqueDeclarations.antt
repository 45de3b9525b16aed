-- Declarations and the heads of loops: the same tokens spell only one of each.
--
-- `one_line`: the local variables of a line. `one_reducer`: a declared reducer. `one_head`,
-- `one_bounds`: the heads of `for` and `cilk_for`. `one_update`: the parts of an `update` or `set`.
use Rattle.std.proofs.Common.{◌≡◌, inl, inr, List, [], ◌∷◌, Option, Some, None, refl, sym, ap, ◌∙◌, subst}
use Rattle.cilk_syntax.specs.declared.token.Kind.TheVariants as kinds
use Rattle.cilk_syntax.specs.declared.token.Token.{Token}
use Rattle.cilk_syntax.specs.declared.tree.Name.{Name}
use Rattle.cilk_syntax.specs.declared.tree.Reducer.{Reducer}
use Rattle.cilk_syntax.specs.Trees as trees
use Rattle.cilk_syntax.specs.Trees.{Expression, Call, Assignment, Local, LocalInitializer, Beginning, Bounds}
use Rattle.cilk_syntax.specs.Grammar.{Is, SpellsLocalInitializer, SpellsLocal, SpellsMoreLocals, SpellsLocals, SpellsLocalLine, SpellsReducer, SpellsDefined, SpellsTested, SpellsUnit, SpellsUnitStep, SpellsBeginning, SpellsStep, SpellsHead, SpellsBounds, SpellsUpdate}
use Rattle.cilk_parser.proofs.Tokens.{same_is, same_name, is_name, apart, Starts}
use Rattle.cilk_parser.proofs.Reading.{Ends, ends_at, one_expression}
use Rattle.cilk_parser.proofs.Parts.{one_ended, one_optional, one_invoked, no_invocation, one_assignment, no_assignment, no_end}

one_initializer : (i j : LocalInitializer) (ts us r s : List Token) → ts ≡ us → SpellsLocalInitializer i ts r
    → SpellsLocalInitializer j us s → Ends r → Ends s → (i ≡ j) × (r ≡ s)
one_initializer trees.Absent trees.Absent ts us r s p h k x y = (refl, sym h ∙ (p ∙ k))
one_initializer trees.Absent (LocalInitializer.Value f) ts us r s p h k x y = no_end (sym h ∙ p) x k.1 refl
one_initializer trees.Absent (LocalInitializer.Invoke j d) ts us r s p h k x y = no_end (sym h ∙ p) x k.1 refl
one_initializer (LocalInitializer.Value e) trees.Absent ts us r s p h k x y = no_end (sym k ∙ sym p) y h.1 refl
one_initializer (LocalInitializer.Invoke i c) trees.Absent ts us r s p h k x y = no_end (sym k ∙ sym p) y h.1 refl
one_initializer (LocalInitializer.Value e) (LocalInitializer.Value f) ts us r s p h k x y =
    let a = one_expression e f h.0 k.0 r s (same_is p h.1 k.1).1 h.2 k.2 x y in
    (ap (λ z. LocalInitializer.Value z) a.0, a.1)
one_initializer (LocalInitializer.Value e) (LocalInitializer.Invoke j d) ts us r s p h k x y =
    no_invocation e j d h.0 k.0 r s (same_is p h.1 k.1).1 h.2 x k.2
one_initializer (LocalInitializer.Invoke i c) (LocalInitializer.Value f) ts us r s p h k x y =
    no_invocation f i c k.0 h.0 s r (sym (same_is p h.1 k.1).1) k.2 y h.2
one_initializer (LocalInitializer.Invoke i c) (LocalInitializer.Invoke j d) ts us r s p h k x y =
    let a = one_invoked i j c d h.0 k.0 r s (same_is p h.1 k.1).1 h.2 k.2 in
    (ap (λ z. LocalInitializer.Invoke z c) a.0 ∙ ap (λ z. LocalInitializer.Invoke j z) a.1, a.2)

same_local : (l m : Local) → l.name ≡ m.name → l.initializer ≡ m.initializer → l ≡ m
same_local l m p q =
    let x : l ≡ record { name = m.name; initializer = l.initializer } =
    ap (λ x. record { name = x; initializer = l.initializer }) p in
    let y : record { name = m.name; initializer = l.initializer } ≡ m =
    ap (λ x. record { name = m.name; initializer = x }) q in
    x ∙ y

one_local : (l m : Local) (ts us r s : List Token) → ts ≡ us → SpellsLocal l ts r → SpellsLocal m us s → Ends r
    → Ends s → (l ≡ m) × (r ≡ s)
unfolding SpellsLocal
one_local l m ts us r s p h k x y =
    let a = same_name p h.1 k.1 in
    let b = one_initializer l.initializer m.initializer h.0 k.0 r s a.1 h.2 k.2 x y in
    (same_local l m a.0 b.0, b.1)

locals_end : (list : List Local) (ts r z : List Token) → SpellsMoreLocals list ts r → Is kinds.Semicolon r z → Ends ts
locals_end [] ts r z h c = subst Ends (sym h) (ends_at c refl)
locals_end (a ∷ list) ts r z h c = ends_at h.2 refl

more_locals : (l m : List Local) (ts us r s y z : List Token) → ts ≡ us → SpellsMoreLocals l ts r
    → SpellsMoreLocals m us s → Is kinds.Semicolon r y → Is kinds.Semicolon s z → (l ≡ m) × (r ≡ s)
more_locals [] [] ts us r s y z p h k c d = (refl, sym h ∙ (p ∙ k))
more_locals [] (b ∷ m) ts us r s y z p h k c d = apart (sym h ∙ p) c k.2 (λ e. cc)
more_locals (a ∷ l) [] ts us r s y z p h k c d = apart (p ∙ k) h.2 d (λ e. cc)
more_locals (a ∷ l) (b ∷ m) ts us r s y z p h k c d =
    let e = same_is p h.2 k.2 in
    let f = one_local a b h.0 k.0 h.1 k.1 e.1 h.3 k.3 (locals_end l h.1 r y h.4 c) (locals_end m k.1 s z k.4 d) in
    let g = more_locals l m h.1 k.1 r s y z f.1 h.4 k.4 c d in
    (ap (λ x. x ∷ l) f.0 ∙ ap (λ x. b ∷ x) g.0, g.1)

one_locals : (l m : List Local) (ts us r s y z : List Token) → ts ≡ us → SpellsLocals l ts r → SpellsLocals m us s
    → Is kinds.Semicolon r y → Is kinds.Semicolon s z → (l ≡ m) × (r ≡ s)
one_locals [] m ts us r s y z p h k c d = absurd h
one_locals (a ∷ l) [] ts us r s y z p h k c d = absurd k
one_locals (a ∷ l) (b ∷ m) ts us r s y z p h k c d =
    let f = one_local a b ts us h.0 k.0 p h.1 k.1 (locals_end l h.0 r y h.2 c) (locals_end m k.0 s z k.2 d) in
    let g = more_locals l m h.0 k.0 r s y z f.1 h.2 k.2 c d in
    (ap (λ x. x ∷ l) f.0 ∙ ap (λ x. b ∷ x) g.0, g.1)

pub one_line : (l m : List Local) (ts us r s : List Token) → ts ≡ us → SpellsLocalLine l ts r → SpellsLocalLine m us s
    → (l ≡ m) × (r ≡ s)
unfolding SpellsLocalLine
one_line l m ts us r s p h k =
    let a = one_locals l m ts us h.0 k.0 r s p h.1 k.1 h.2 k.2 in (a.0, (same_is a.1 h.2 k.2).1)

locals_start : (l : List Local) (ts r : List Token) → SpellsLocals l ts r → Starts kinds.Name ts
unfolding SpellsLocal
locals_start [] ts r h = absurd h
locals_start (a ∷ l) ts r h = (h.1.0, is_name h.1.1)

pub line_starts : (l : List Local) (ts r : List Token) → SpellsLocalLine l ts r → Starts kinds.Name ts
unfolding SpellsLocalLine
line_starts l ts r h = locals_start l ts h.0 h.1

pub reducer_starts : (a : Reducer) (ts r : List Token) → SpellsReducer a ts r → Starts kinds.CilkReducer ts
unfolding SpellsReducer
reducer_starts a ts r h = (h.0, h.4)

same_reducer : (a b : Reducer) → a.monoid ≡ b.monoid → a.name ≡ b.name → a ≡ b
same_reducer a b p q =
    let x : a ≡ record { monoid = b.monoid; name = a.name } = ap (λ x. record { monoid = x; name = a.name }) p in
    let y : record { monoid = b.monoid; name = a.name } ≡ b = ap (λ x. record { monoid = b.monoid; name = x }) q in
    x ∙ y

pub one_reducer : (a b : Reducer) (ts us r s : List Token) → ts ≡ us → SpellsReducer a ts r → SpellsReducer b us s
    → (a ≡ b) × (r ≡ s)
unfolding SpellsReducer
one_reducer a b ts us r s p h k =
    let c = same_is p h.4 k.4 in
    let d = same_is c.1 h.5 k.5 in
    let e = same_name d.1 h.6 k.6 in
    let f = same_is e.1 h.7 k.7 in
    let g = same_name f.1 h.8 k.8 in
    (same_reducer a b e.0 g.0, g.1)

one_defined : (m n : Name) (e f : Expression) (ts us r s : List Token) → ts ≡ us → SpellsDefined m e ts r
    → SpellsDefined n f us s → (m ≡ n) × (e ≡ f) × (r ≡ s)
unfolding SpellsDefined
one_defined m n e f ts us r s p h k =
    let a = same_name p h.2 k.2 in
    let b = same_is a.1 h.3 k.3 in
    let c = one_ended e f h.1 k.1 r s b.1 h.4 k.4 in
    (a.0, c.0, c.1)

one_tested : (m n : Name) (e f : Expression) (ts us r s : List Token) → ts ≡ us → SpellsTested m e ts r
    → SpellsTested n f us s → (m ≡ n) × (e ≡ f) × (r ≡ s)
unfolding SpellsTested
one_tested m n e f ts us r s p h k =
    let a = same_name p h.2 k.2 in
    let b = same_is a.1 h.3 k.3 in
    let c = one_ended e f h.1 k.1 r s b.1 h.4 k.4 in
    (a.0, c.0, c.1)

one_unit : (ts us r s : List Token) → ts ≡ us → SpellsUnit ts r → SpellsUnit us s → r ≡ s
one_unit ts us r s p (inl h) (inl k) = (same_is p h k).1
one_unit ts us r s p (inl h) (inr k) = apart p h k.1 (λ e. cc)
one_unit ts us r s p (inr h) (inl k) = apart p h.1 k (λ e. cc)
one_unit ts us r s p (inr h) (inr k) = (same_is (same_is p h.1 k.1).1 h.2 k.2).1

one_unit_step : (m n : Name) (ts us r s : List Token) → ts ≡ us → SpellsUnitStep m ts r → SpellsUnitStep n us s
    → (m ≡ n) × (r ≡ s)
unfolding SpellsUnitStep
one_unit_step m n ts us r s p (inl h) (inl k) = same_name (same_is p h.1 k.1).1 h.2 k.2
one_unit_step m n ts us r s p (inl h) (inr k) = apart p h.1 (is_name k.1) (λ e. cc)
one_unit_step m n ts us r s p (inr h) (inl k) = apart p (is_name h.1) k.1 (λ e. cc)
one_unit_step m n ts us r s p (inr h) (inr k) =
    let a = same_name p h.1 k.1 in (a.0, one_unit h.0 k.0 r s a.1 h.2 k.2)

one_beginning : (a b : Option Beginning) (ts us r s : List Token) → ts ≡ us → SpellsBeginning a ts r
    → SpellsBeginning b us s → (a ≡ b) × (r ≡ s)
unfolding SpellsBeginning
one_beginning None None ts us r s p h k = (refl, (same_is p h k).1)
one_beginning None (Some (trees.Declares n f)) ts us r s p h k = apart p h k.1 (λ e. cc)
one_beginning None (Some (trees.Assigns b)) ts us r s p h k = no_assignment b us ts k.0 r (sym p) k.1 h refl
one_beginning (Some (trees.Declares m e)) None ts us r s p h k = apart p h.1 k (λ e. cc)
one_beginning (Some (trees.Declares m e)) (Some (trees.Declares n f)) ts us r s p h k =
    let a = same_is p h.1 k.1 in
    let b = one_defined m n e f h.0 k.0 r s a.1 h.2 k.2 in
    (ap (λ x. Some (trees.Declares x e)) b.0 ∙ ap (λ x. Some (trees.Declares n x)) b.1, b.2)
one_beginning (Some (trees.Declares m e)) (Some (trees.Assigns b)) ts us r s p h k =
    no_assignment b us ts k.0 h.0 (sym p) k.1 h.1 refl
one_beginning (Some (trees.Assigns a)) None ts us r s p h k = no_assignment a ts us h.0 s p h.1 k refl
one_beginning (Some (trees.Assigns a)) (Some (trees.Declares n f)) ts us r s p h k =
    no_assignment a ts us h.0 k.0 p h.1 k.1 refl
one_beginning (Some (trees.Assigns a)) (Some (trees.Assigns b)) ts us r s p h k =
    let c = one_assignment a b ts us h.0 k.0 p h.1 k.1 (ends_at h.2 refl) (ends_at k.2 refl) in
    (ap (λ x. Some (trees.Assigns x)) c.0, (same_is c.1 h.2 k.2).1)

one_step : (a b : Option Assignment) (ts us r s : List Token) → ts ≡ us → SpellsStep a ts r → SpellsStep b us s
    → (a ≡ b) × (r ≡ s)
unfolding SpellsStep
one_step None None ts us r s p h k = (refl, (same_is p h k).1)
one_step None (Some b) ts us r s p h k = no_assignment b us ts k.0 r (sym p) k.1 h refl
one_step (Some a) None ts us r s p h k = no_assignment a ts us h.0 s p h.1 k refl
one_step (Some a) (Some b) ts us r s p h k =
    let c = one_assignment a b ts us h.0 k.0 p h.1 k.1 (ends_at h.2 refl) (ends_at k.2 refl) in
    (ap (λ x. Some x) c.0, (same_is c.1 h.2 k.2).1)

pub one_head : (a b : Option Beginning) (e f : Option Expression) (i j : Option Assignment) (ts us r s : List Token)
    → ts ≡ us → SpellsHead a e i ts r → SpellsHead b f j us s → (a ≡ b) × (e ≡ f) × (i ≡ j) × (r ≡ s)
unfolding SpellsHead
one_head a b e f i j ts us r s p h k =
    let w = same_is p h.3 k.3 in
    let x = one_beginning a b h.0 k.0 h.1 k.1 w.1 h.4 k.4 in
    let y = one_optional e f h.1 k.1 h.2 k.2 x.1 h.5 k.5 in
    let z = one_step i j h.2 k.2 r s y.1 h.6 k.6 in
    (x.0, y.0, z.0, z.1)

bounds : Name → Expression → Name → Expression → Name → Bounds
bounds v l t h s = record { variable = v; low = l; tested = t; high = h; stepped = s }

same_bounds : (a b : Bounds) → a.variable ≡ b.variable → a.low ≡ b.low → a.tested ≡ b.tested → a.high ≡ b.high
    → a.stepped ≡ b.stepped → a ≡ b
unfolding bounds
same_bounds a b p q r s t =
    ap (λ x. bounds x a.low a.tested a.high a.stepped) p
    ∙ (ap (λ x. bounds b.variable x a.tested a.high a.stepped) q
    ∙ (ap (λ x. bounds b.variable b.low x a.high a.stepped) r
    ∙ (ap (λ x. bounds b.variable b.low b.tested x a.stepped) s
    ∙ ap (λ x. bounds b.variable b.low b.tested b.high x) t)))

pub one_bounds : (a b : Bounds) (ts us r s : List Token) → ts ≡ us → SpellsBounds a ts r → SpellsBounds b us s
    → (a ≡ b) × (r ≡ s)
unfolding SpellsBounds
one_bounds a b ts us r s p h k =
    let u = same_is p h.5 k.5 in
    let v = same_is u.1 h.6 k.6 in
    let w = one_defined a.variable b.variable a.low b.low h.1 k.1 h.2 k.2 v.1 h.7 k.7 in
    let x = one_tested a.tested b.tested a.high b.high h.2 k.2 h.3 k.3 w.2 h.8 k.8 in
    let y = one_unit_step a.stepped b.stepped h.3 k.3 h.4 k.4 x.2 h.9 k.9 in
    (same_bounds a b w.0 w.1 x.0 x.1 y.0, (same_is y.1 h.10 k.10).1)

pub one_update : (m n : Name) (e f : Expression) (ts us r s : List Token) → ts ≡ us → SpellsUpdate m e ts r
    → SpellsUpdate n f us s → (m ≡ n) × (e ≡ f) × (r ≡ s)
unfolding SpellsUpdate
one_update m n e f ts us r s p h k =
    let u = same_is p h.5 k.5 in
    let v = same_name u.1 h.6 k.6 in
    let w = same_is v.1 h.7 k.7 in
    let x = one_expression e f h.2 k.2 h.3 k.3 w.1 h.8 k.8 (ends_at h.9 refl) (ends_at k.9 refl) in
    let y = same_is x.1 h.9 k.9 in
    (v.0, x.0, (same_is y.1 h.10 k.10).1)
