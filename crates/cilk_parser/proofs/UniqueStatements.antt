-- Statements: the same tokens spell only one.
--
-- `one_statement`, `one_row`: by pairs of trees that begin with the same token (`same_tag`).
-- `one_body`: the body of a function.
use Rattle.std.proofs.Common.{◌≡◌, ℕ, true, false, eqb, List, ◌∷◌, Option, Some, None, refl, sym, ap, ◌∙◌, subst}
use Rattle.std.proofs.lemmas.Bool.{eqb-false}
use Rattle.cilk_syntax.specs.declared.token.Kind.{Kind}
use Rattle.cilk_syntax.specs.declared.token.Kind.TheVariants as kinds
use Rattle.cilk_syntax.specs.declared.token.Token.{Token}
use Rattle.cilk_syntax.specs.declared.tree.Name.{Name}
use Rattle.cilk_types.specs.declared.invocation.Invocation.{Invocation}
use Rattle.cilk_types.specs.declared.invocation.Invocation.TheVariants as invocations
use Rattle.cilk_syntax.specs.Trees as trees
use Rattle.cilk_syntax.specs.Trees.{Call, Statement, Statements, End, Then}
use Rattle.cilk_syntax.specs.Grammar.{Is, IsName, NoElse, SpellsInvoked, SpellsStmt, SpellsAll, SpellsBody}
use Rattle.cilk_parser.proofs.Tokens.{same_is, same_name, same_at, is_name, is_at, apart}
use Rattle.cilk_parser.proofs.Reading.{ends_at}
use Rattle.cilk_parser.proofs.Parts.{opens, assignment_opens, one_inside, one_optional, calls, one_invoked, one_assignment, no_call_assigned, no_assignment_called}
use Rattle.cilk_parser.proofs.UniqueDeclarations.{one_line, line_starts, one_reducer, reducer_starts, one_head, one_bounds, one_update}

-- which statements a token begins, by numbers
abbrev tag : Statement → ℕ
tag trees.Empty = 0
tag (trees.Block row) = 1
tag (trees.Declare list) = 2
tag (Statement.Reducer r) = 2
tag (trees.Assign a) = 3
tag (Statement.Invoke how c) = 3
tag (trees.AssignCall name how c) = 3
tag trees.Sync = 4
tag (trees.If e s) = 5
tag (trees.IfElse e s other) = 5
tag (trees.While e s) = 6
tag (trees.For b e a s) = 7
tag (trees.ParallelFor b s) = 8
tag (trees.Return at value) = 9
tag (trees.Print e) = 10
tag (trees.Update name e) = 11
tag (Statement.Set name e) = 12

abbrev tag_of : Kind → Option ℕ
tag_of kinds.Semicolon = Some 0
tag_of kinds.OpenBrace = Some 1
tag_of kinds.Int = Some 2
tag_of kinds.Name = Some 3
tag_of kinds.Increment = Some 3
tag_of kinds.Decrement = Some 3
tag_of kinds.Assign = Some 3
tag_of kinds.PlusAssign = Some 3
tag_of kinds.MinusAssign = Some 3
tag_of kinds.StarAssign = Some 3
tag_of kinds.CilkSpawn = Some 3
tag_of kinds.CilkSync = Some 4
tag_of kinds.If = Some 5
tag_of kinds.While = Some 6
tag_of kinds.For = Some 7
tag_of kinds.CilkFor = Some 8
tag_of kinds.Return = Some 9
tag_of kinds.Print = Some 10
tag_of kinds.Update = Some 11
tag_of kinds.Set = Some 12
tag_of _ = None

abbrev Tagged : ℕ → List Token → Type 0
Tagged n ts = (kind : Kind) × (r : List Token) × Is kind ts r × (tag_of kind ≡ Some n)

opens_tagged : (kind : Kind) → opens kind ≡ true → tag_of kind ≡ Some 3
opens_tagged kinds.Name h = refl
opens_tagged kinds.Increment h = refl
opens_tagged kinds.Decrement h = refl
opens_tagged kinds.Assign h = refl
opens_tagged kinds.PlusAssign h = refl
opens_tagged kinds.MinusAssign h = refl
opens_tagged kinds.StarAssign h = refl
opens_tagged _ h = cc

invoked_tagged : (i : Invocation) (c : Call) (ts r : List Token) → SpellsInvoked i c ts r → Tagged 3 ts
invoked_tagged invocations.Call c ts r h = let d = calls c ts r h in (kinds.Name, d.1, is_name d.3, refl)
invoked_tagged invocations.Spawn c ts r h = (kinds.CilkSpawn, h.0, h.1, refl)

tagged : (s : Statement) (ts r : List Token) → SpellsStmt s ts r → Tagged (tag s) ts
tagged trees.Empty ts r h = (kinds.Semicolon, r, h, refl)
tagged (trees.Block row) ts r h = (kinds.OpenBrace, h.0, h.2, refl)
tagged (trees.Declare list) ts r h = (kinds.Int, h.0, h.1, refl)
tagged (Statement.Reducer a) ts r h = (kinds.Int, h.0, h.2, refl)
tagged (trees.Assign a) ts r h = let o = assignment_opens a ts h.0 h.1 in (o.0, o.1, o.2, opens_tagged o.0 o.3)
tagged (Statement.Invoke how c) ts r h = invoked_tagged how c ts h.0 h.1
tagged (trees.AssignCall name how c) ts r h = (kinds.Name, h.0, is_name h.3, refl)
tagged trees.Sync ts r h = (kinds.CilkSync, h.0, h.1, refl)
tagged (trees.If e s) ts r h = (kinds.If, h.0, h.2, refl)
tagged (trees.IfElse e s other) ts r h = (kinds.If, h.0, h.4, refl)
tagged (trees.While e s) ts r h = (kinds.While, h.0, h.2, refl)
tagged (trees.For b e a s) ts r h = (kinds.For, h.0, h.2, refl)
tagged (trees.ParallelFor b s) ts r h = (kinds.CilkFor, h.0, h.2, refl)
tagged (trees.Return at value) ts r h = (kinds.Return, h.0, is_at h.1, refl)
tagged (trees.Print e) ts r h = (kinds.Print, h.0, h.2, refl)
tagged (trees.Update name e) ts r h = (kinds.Update, h.0, h.1, refl)
tagged (Statement.Set name e) ts r h = (kinds.Set, h.0, h.1, refl)

-- trees that begin with different tokens are apart
other_tag : {A : Type 0} (m n : ℕ) → eqb m n ≡ false → m ≡ n → A
other_tag m n e t = absurd (eqb-false m n e t)

same_some : (m n : ℕ) → ◌≡◌ {A = Option ℕ} (Some m) (Some n) → m ≡ n
same_some m n e = cc

same_tag : (s q : Statement) (ts us r z : List Token) → ts ≡ us → SpellsStmt s ts r → SpellsStmt q us z → tag s ≡ tag q
same_tag s q ts us r z p h k =
    let a = tagged s ts r h in
    let b = tagged q us z k in
    same_some (tag s) (tag q) (sym a.3 ∙ (ap tag_of (same_is p a.2 b.2).0 ∙ b.3))

-- no statement begins with the brace that ends a block
no_brace : {A : Type 0} (s : Statement) (ts us r z : List Token) → ts ≡ us → SpellsStmt s ts r
    → Is kinds.CloseBrace us z → A
no_brace s ts us r z p h k =
    let a = tagged s ts r h in
    let x : Some (tag s) ≡ None = sym a.3 ∙ ap tag_of (same_is p a.2 k).0 in cc

no_else : {A : Type 0} (ts us r : List Token) → ts ≡ us → NoElse ts → Is kinds.Else us r → A
no_else ts us r p n h =
    let at : NoElse (h.0 ∷ r) = subst NoElse (p ∙ h.1) n in absurd (at h.2)

invoked_not_assigned : {A : Type 0} (i : Invocation) (c : Call) (name : Name) (ts us r us1 us2 : List Token) → ts ≡ us
    → SpellsInvoked i c ts r → IsName name us us1 → Is kinds.Assign us1 us2 → A
invoked_not_assigned invocations.Call c name ts us r us1 us2 p h k l =
    let d = calls c ts r h in apart (same_name p d.3 k).1 d.4 l (λ e. cc)
invoked_not_assigned invocations.Spawn c name ts us r us1 us2 p h k l = apart p h.1 (is_name k) (λ e. cc)

mutual
  pub one_statement : (s q : Statement) (ts us r z : List Token) → tag s ≡ tag q → ts ≡ us → SpellsStmt s ts r
      → SpellsStmt q us z → (s ≡ q) × (r ≡ z)
  one_statement trees.Empty trees.Empty ts us r z t p h k = (refl, (same_is p h k).1)
  one_statement (trees.Block row) (trees.Block other) ts us r z t p h k =
      let a = same_is p h.2 k.2 in
      let b = one_row row other h.0 k.0 h.1 k.1 r z a.1 h.3 k.3 h.4 k.4 in
      (ap (λ x. trees.Block x) b.0, (same_is b.1 h.4 k.4).1)
  one_statement (trees.Declare l) (trees.Declare m) ts us r z t p h k =
      let a = same_is p h.1 k.1 in
      let b = one_line l m h.0 k.0 r z a.1 h.2 k.2 in (ap (λ x. trees.Declare x) b.0, b.1)
  one_statement (trees.Declare l) (Statement.Reducer b) ts us r z t p h k =
      apart (same_is p h.1 k.2).1 (line_starts l h.0 r h.2).1 (reducer_starts b k.0 k.1 k.3).1 (λ e. cc)
  one_statement (Statement.Reducer a) (trees.Declare m) ts us r z t p h k =
      apart (same_is p h.2 k.1).1 (reducer_starts a h.0 h.1 h.3).1 (line_starts m k.0 z k.2).1 (λ e. cc)
  one_statement (Statement.Reducer a) (Statement.Reducer b) ts us r z t p h k =
      let c = same_is p h.2 k.2 in
      let d = one_reducer a b h.0 k.0 h.1 k.1 c.1 h.3 k.3 in
      (ap (λ x. Statement.Reducer x) d.0, (same_is d.1 h.4 k.4).1)
  one_statement (trees.Assign a) (trees.Assign b) ts us r z t p h k =
      let c = one_assignment a b ts us h.0 k.0 p h.1 k.1 (ends_at h.2 refl) (ends_at k.2 refl) in
      (ap (λ x. trees.Assign x) c.0, (same_is c.1 h.2 k.2).1)
  one_statement (trees.Assign a) (Statement.Invoke how c) ts us r z t p h k =
      no_assignment_called a how c ts us h.0 k.0 p h.1 k.1
  one_statement (Statement.Invoke how c) (trees.Assign b) ts us r z t p h k =
      no_assignment_called b how c us ts k.0 h.0 (sym p) k.1 h.1
  one_statement (trees.Assign a) (trees.AssignCall name how c) ts us r z t p h k =
      no_call_assigned a name how c ts us h.0 k.2 k.0 k.1 p h.1 (ends_at h.2 refl) k.3 k.4 k.5
  one_statement (trees.AssignCall name how c) (trees.Assign b) ts us r z t p h k =
      no_call_assigned b name how c us ts k.0 h.2 h.0 h.1 (sym p) k.1 (ends_at k.2 refl) h.3 h.4 h.5
  one_statement (Statement.Invoke i c) (Statement.Invoke j d) ts us r z t p h k =
      let a = one_invoked i j c d ts us h.0 k.0 p h.1 k.1 in
      (ap (λ x. Statement.Invoke x c) a.0 ∙ ap (λ x. Statement.Invoke j x) a.1, (same_is a.2 h.2 k.2).1)
  one_statement (Statement.Invoke i c) (trees.AssignCall name how d) ts us r z t p h k =
      invoked_not_assigned i c name ts us h.0 k.0 k.1 p h.1 k.3 k.4
  one_statement (trees.AssignCall name how d) (Statement.Invoke i c) ts us r z t p h k =
      invoked_not_assigned i c name us ts k.0 h.0 h.1 (sym p) k.1 h.3 h.4
  one_statement (trees.AssignCall m i c) (trees.AssignCall n j d) ts us r z t p h k =
      let a = same_name p h.3 k.3 in
      let b = same_is a.1 h.4 k.4 in
      let e = one_invoked i j c d h.1 k.1 h.2 k.2 b.1 h.5 k.5 in (
        ap (λ x. trees.AssignCall x i c) a.0
            ∙ (ap (λ x. trees.AssignCall n x c) e.0 ∙ ap (λ x. trees.AssignCall n j x) e.1),
        (same_is e.2 h.6 k.6).1,
      )
  one_statement trees.Sync trees.Sync ts us r z t p h k = (refl, (same_is (same_is p h.1 k.1).1 h.2 k.2).1)
  one_statement (trees.If e s) (trees.If f q) ts us r z t p h k =
      let a = same_is p h.2 k.2 in
      let b = one_inside e f h.0 k.0 h.1 k.1 a.1 h.3 k.3 in
      let c = one_statement s q h.1 k.1 r z (same_tag s q h.1 k.1 r z b.1 h.4 k.4) b.1 h.4 k.4 in
      (ap (λ x. trees.If x s) b.0 ∙ ap (λ x. trees.If f x) c.0, c.1)
  one_statement (trees.If e s) (trees.IfElse f q other) ts us r z t p h k =
      let a = same_is p h.2 k.4 in
      let b = one_inside e f h.0 k.0 h.1 k.1 a.1 h.3 k.5 in
      let c = one_statement s q h.1 k.1 r k.2 (same_tag s q h.1 k.1 r k.2 b.1 h.4 k.6) b.1 h.4 k.6 in
      no_else r k.2 k.3 c.1 h.5 k.7
  one_statement (trees.IfElse e s other) (trees.If f q) ts us r z t p h k =
      let a = same_is p h.4 k.2 in
      let b = one_inside e f h.0 k.0 h.1 k.1 a.1 h.5 k.3 in
      let c = one_statement s q h.1 k.1 h.2 z (same_tag s q h.1 k.1 h.2 z b.1 h.6 k.4) b.1 h.6 k.4 in
      no_else z h.2 h.3 (sym c.1) k.5 h.7
  one_statement (trees.IfElse e s other) (trees.IfElse f q more) ts us r z t p h k =
      let a = same_is p h.4 k.4 in
      let b = one_inside e f h.0 k.0 h.1 k.1 a.1 h.5 k.5 in
      let c = one_statement s q h.1 k.1 h.2 k.2 (same_tag s q h.1 k.1 h.2 k.2 b.1 h.6 k.6) b.1 h.6 k.6 in
      let d = same_is c.1 h.7 k.7 in
      let g = one_statement other more h.3 k.3 r z (same_tag other more h.3 k.3 r z d.1 h.8 k.8) d.1 h.8 k.8 in (
        ap (λ x. trees.IfElse x s other) b.0
            ∙ (ap (λ x. trees.IfElse f x other) c.0 ∙ ap (λ x. trees.IfElse f q x) g.0),
        g.1,
      )
  one_statement (trees.While e s) (trees.While f q) ts us r z t p h k =
      let a = same_is p h.2 k.2 in
      let b = one_inside e f h.0 k.0 h.1 k.1 a.1 h.3 k.3 in
      let c = one_statement s q h.1 k.1 r z (same_tag s q h.1 k.1 r z b.1 h.4 k.4) b.1 h.4 k.4 in
      (ap (λ x. trees.While x s) b.0 ∙ ap (λ x. trees.While f x) c.0, c.1)
  one_statement (trees.For a e i s) (trees.For b f j q) ts us r z t p h k =
      let w = same_is p h.2 k.2 in
      let x = one_head a b e f i j h.0 k.0 h.1 k.1 w.1 h.3 k.3 in
      let y = one_statement s q h.1 k.1 r z (same_tag s q h.1 k.1 r z x.3 h.4 k.4) x.3 h.4 k.4 in (
        ap (λ v. trees.For v e i s) x.0
            ∙ (ap (λ v. trees.For b v i s) x.1 ∙ (ap (λ v. trees.For b f v s) x.2 ∙ ap (λ v. trees.For b f j v) y.0)),
        y.1,
      )
  one_statement (trees.ParallelFor a s) (trees.ParallelFor b q) ts us r z t p h k =
      let w = same_is p h.2 k.2 in
      let x = one_bounds a b h.0 k.0 h.1 k.1 w.1 h.3 k.3 in
      let y = one_statement s q h.1 k.1 r z (same_tag s q h.1 k.1 r z x.1 h.4 k.4) x.1 h.4 k.4 in
      (ap (λ v. trees.ParallelFor v s) x.0 ∙ ap (λ v. trees.ParallelFor b v) y.0, y.1)
  one_statement (trees.Return m e) (trees.Return n f) ts us r z t p h k =
      let a = same_at p h.1 k.1 in
      let b = one_optional e f h.0 k.0 r z a.1 h.2 k.2 in
      (ap (λ x. trees.Return x e) a.0 ∙ ap (λ x. trees.Return n x) b.0, b.1)
  one_statement (trees.Print e) (trees.Print f) ts us r z t p h k =
      let a = same_is p h.2 k.2 in
      let b = one_inside e f h.0 k.0 h.1 k.1 a.1 h.3 k.3 in
      (ap (λ x. trees.Print x) b.0, (same_is b.1 h.4 k.4).1)
  one_statement (trees.Update m e) (trees.Update n f) ts us r z t p h k =
      let a = same_is p h.1 k.1 in
      let b = one_update m n e f h.0 k.0 r z a.1 h.2 k.2 in
      (ap (λ x. trees.Update x e) b.0 ∙ ap (λ x. trees.Update n x) b.1, b.2)
  one_statement (Statement.Set m e) (Statement.Set n f) ts us r z t p h k =
      let a = same_is p h.1 k.1 in
      let b = one_update m n e f h.0 k.0 r z a.1 h.2 k.2 in
      (ap (λ x. Statement.Set x e) b.0 ∙ ap (λ x. Statement.Set n x) b.1, b.2)
  one_statement s q ts us r z t p h k = other_tag (tag s) (tag q) refl t

  one_row : (s q : Statements) (ts us r z x y : List Token) → ts ≡ us → SpellsAll s ts r → SpellsAll q us z
      → Is kinds.CloseBrace r x → Is kinds.CloseBrace z y → (s ≡ q) × (r ≡ z)
  one_row End End ts us r z x y p h k c d = (refl, sym h ∙ (p ∙ k))
  one_row End (Then q m) ts us r z x y p h k c d = no_brace q us r k.0 x (sym p ∙ h) k.1 c
  one_row (Then s l) End ts us r z x y p h k c d = no_brace s ts z h.0 y (p ∙ k) h.1 d
  one_row (Then s l) (Then q m) ts us r z x y p h k c d =
      let a = one_statement s q ts us h.0 k.0 (same_tag s q ts us h.0 k.0 p h.1 k.1) p h.1 k.1 in
      let b = one_row l m h.0 k.0 r z x y a.1 h.2 k.2 c d in
      (ap (λ v. Then v l) a.0 ∙ ap (λ v. Then q v) b.0, b.1)

pub one_body : (s q : Statements) (ts us r z : List Token) → ts ≡ us → SpellsBody s ts r → SpellsBody q us z
    → (s ≡ q) × (r ≡ z)
unfolding SpellsBody
one_body s q ts us r z p h k =
    let a = same_is p h.2 k.2 in
    let b = one_row s q h.0 k.0 h.1 k.1 r z a.1 h.3 k.3 h.4 k.4 in
    (b.0, (same_is b.1 h.4 k.4).1)
