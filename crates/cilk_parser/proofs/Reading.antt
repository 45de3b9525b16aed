-- A pushdown reader of expressions, one token at a time: the tree of an expression's tokens is what
-- it has read.
--
-- `reads`: reading the tokens of a tree gives that tree, in every context, if the tokens that
-- follow don't extend it (`Stays`) and the tokens before it let it end there (`Fits`).
-- `one_expression`: so there is only one tree up to a mark that ends it (`Ends`). `no_expression`,
-- `no_call`: tokens that begin no expression.
use Rattle.std.proofs.Common.{◌≡◌, ◌≢◌, ℕ, ◌+◌, ◌≤◌, Bool, true, false, cond, List, [], ◌∷◌, Option, Some, None, refl, sym, ap, ◌∙◌, subst, arith}
use Rattle.std.proofs.Math.Dec.{leb}
use Rattle.std.proofs.lemmas.Bool.{le-leb, leb-true}
use Rattle.cilk_syntax.specs.declared.token.Kind.{Kind}
use Rattle.cilk_syntax.specs.declared.token.Kind.TheVariants as kinds
use Rattle.cilk_syntax.specs.declared.token.Token.{Token}
use Rattle.cilk_syntax.specs.declared.tree.Name.{Name}
use Rattle.cilk_syntax.specs.declared.tree.UnaryOperator.{UnaryOperator}
use Rattle.cilk_syntax.specs.declared.tree.UnaryOperator.TheVariants.{Negate, Not}
use Rattle.cilk_syntax.specs.declared.tree.BinaryOperator.{BinaryOperator}
use Rattle.cilk_syntax.specs.declared.tree.BinaryOperator.TheVariants.{Or, And, Equal, NotEqual, Less, LessEqual, Greater, GreaterEqual, Add, Subtract, Multiply, Divide, Remainder}
use Rattle.cilk_syntax.specs.Trees.{Expression, Number, Group, Unary, Binary, Input, InputCount}
use Rattle.cilk_syntax.specs.Grammar.{Is, IsName, sign_of, mark_of, level, level_in, SpellsExpr}
use Rattle.cilk_parser.proofs.Tokens.{name_at, is_named}

-- the context of an expression that is being read
pub data Frame : Type 0 where
  Between : (op : BinaryOperator) (left : Expression) → Frame
  Signed : (op : UnaryOperator) → Frame
  Grouped : Frame
  Indexing : (name : Name) → Frame
  Asking : Frame

-- the state of the current part
pub data State : Type 0 where
  Wants : State
  Has : (e : Expression) → State
  Named : (name : Name) → State
  ValueOpens : State
  ValueNames : State
  ValueCloses : (name : Name) → State
  InputOpens : State
  CountOpens : State
  CountCloses : State

pub data Act : Type 0 where
  Goes : (state : State) (frames : List Frame) → Act
  Done : (e : Expression) → Act
  Fails : Act

abbrev pub operator_of : Kind → Option BinaryOperator
operator_of kinds.Or = Some Or
operator_of kinds.And = Some And
operator_of kinds.Equal = Some Equal
operator_of kinds.NotEqual = Some NotEqual
operator_of kinds.Less = Some Less
operator_of kinds.LessEqual = Some LessEqual
operator_of kinds.Greater = Some Greater
operator_of kinds.GreaterEqual = Some GreaterEqual
operator_of kinds.Plus = Some Add
operator_of kinds.Minus = Some Subtract
operator_of kinds.Star = Some Multiply
operator_of kinds.Slash = Some Divide
operator_of kinds.Percent = Some Remainder
operator_of _ = None

-- the next token lets an operator have its right side
abbrev pub tight : Option BinaryOperator → BinaryOperator → Bool
tight None op = true
tight (Some next) op = leb (level next) (level op)

abbrev pub Held : Type 0
Held = Expression × List Frame

abbrev pub reduce : Option BinaryOperator → Expression → List Frame → Held
reduce next e [] = (e, [])
reduce next e (Signed op ∷ frames) = reduce next (Unary op e) frames
reduce next e (Between op a ∷ frames) =
    cond (tight next op) (reduce next (Binary op a e) frames) (e, Between op a ∷ frames)
reduce next e (frame ∷ frames) = (e, frame ∷ frames)

abbrev pub closes : Kind → Expression → List Frame → Act
closes kind e [] = Done e
closes kinds.Close e (Grouped ∷ frames) = Goes (Has (Group e)) frames
closes kinds.Close e (Asking ∷ frames) = Goes (Has (Input e)) frames
closes kinds.CloseBracket e (Indexing name ∷ frames) = Goes (Has (Expression.Element name e)) frames
closes _ e _ = Fails

abbrev pub meets : Option BinaryOperator → Kind → Held → Act
meets (Some op) kind h = Goes Wants (Between op h.0 ∷ h.1)
meets None kind h = closes kind h.0 h.1

abbrev pub behind : Kind → Expression → List Frame → Act
behind kind e frames = meets (operator_of kind) kind (reduce (operator_of kind) e frames)

abbrev pub index_or : Kind → Act → Act → Act
index_or kinds.OpenBracket a b = a
index_or _ a b = b

abbrev pub begins : Kind → Name → List Frame → Act
begins (kinds.Number n) name frames = Goes (Has (Number n)) frames
begins kinds.Name name frames = Goes (Named name) frames
begins kinds.Minus name frames = Goes Wants (Signed Negate ∷ frames)
begins kinds.Not name frames = Goes Wants (Signed Not ∷ frames)
begins kinds.Open name frames = Goes Wants (Grouped ∷ frames)
begins kinds.Value name frames = Goes ValueOpens frames
begins kinds.Input name frames = Goes InputOpens frames
begins kinds.InputCount name frames = Goes CountOpens frames
begins _ name frames = Fails

abbrev pub takes : State → Kind → Name → List Frame → Act
takes Wants kind name frames = begins kind name frames
takes (Has e) kind name frames = behind kind e frames
takes (Named own) kind name frames =
    index_or kind (Goes Wants (Indexing own ∷ frames)) (behind kind (Expression.Variable own) frames)
takes ValueOpens kinds.Open name frames = Goes ValueNames frames
takes ValueNames kinds.Name name frames = Goes (ValueCloses name) frames
takes (ValueCloses own) kinds.Close name frames = Goes (Has (Expression.Value own)) frames
takes InputOpens kinds.Open name frames = Goes Wants (Asking ∷ frames)
takes CountOpens kinds.Open name frames = Goes CountCloses frames
takes CountCloses kinds.Close name frames = Goes (Has InputCount) frames
takes _ _ name frames = Fails

abbrev pub Read : Type 0
Read = Option (Expression × List Token)

abbrev pub whole : Expression → List Frame → Read
whole e [] = Some (e, [])
whole e (frame ∷ frames) = None

abbrev pub held_whole : Held → Read
held_whole h = whole h.0 h.1

abbrev pub finish : State → List Frame → Read
finish (Has e) frames = held_whole (reduce None e frames)
finish (Named name) frames = held_whole (reduce None (Expression.Variable name) frames)
finish _ frames = None

abbrev pub onward : Act → (State → List Frame → Read) → List Token → Read
onward (Goes state frames) go here = go state frames
onward (Done e) go here = Some (e, here)
onward Fails go here = None

abbrev pub reading : List Token → State → List Frame → Read
reading [] state frames = finish state frames
reading (t ∷ ts) state frames = onward (takes state t.kind (name_at t) frames) (reading ts) (t ∷ ts)

-- a token of a known kind is read
goes_at : {kind : Kind} {ts rest : List Token} (state state' : State) (frames frames' : List Frame)
    (is : Is kind ts rest)
    → takes state kind (name_at is.0) frames ≡ Goes state' frames'
    → reading ts state frames ≡ reading rest state' frames'
goes_at {kind} {ts} {rest} state state' frames frames' is h =
    ap (λ x. reading x state frames) is.1
    ∙ (ap (λ x. onward (takes state x (name_at is.0) frames) (reading rest) (is.0 ∷ rest)) is.2
    ∙ ap (λ a. onward a (reading rest) (is.0 ∷ rest)) h)

goes : {kind : Kind} {ts rest : List Token} (state state' : State) (frames frames' : List Frame) → Is kind ts rest
    → ((name : Name) → takes state kind name frames ≡ Goes state' frames')
    → reading ts state frames ≡ reading rest state' frames'
goes state state' frames frames' is h = goes_at state state' frames frames' is (h (name_at is.0))

goes_named : {name : Name} {ts rest : List Token} (state : State) (to : Name → State) (frames frames' : List Frame)
    → IsName name ts rest → ((n : Name) → takes state kinds.Name n frames ≡ Goes (to n) frames')
    → reading ts state frames ≡ reading rest (to name) frames'
goes_named {name} {ts} {rest} state to frames frames' is h =
    goes_at {kind = kinds.Name} {ts = ts} {rest = rest} state (to (name_at is.0)) frames frames' (is.0, is.1, is.2)
    (h (name_at is.0))
    ∙ ap (λ n. reading rest (to n) frames') (is_named name is.0 is.3 is.4)

-- the next operator is at most this tight
abbrev pub Loose : ℕ → Option BinaryOperator → Type 0
Loose l None = Unit {0}
Loose l (Some op) = level op ≤ l

-- the tokens after an expression of this level don't extend it
abbrev pub Stays : ℕ → List Token → Type 0
Stays l [] = Unit {0}
Stays l (t ∷ ts) = (t.kind ≢ kinds.OpenBracket) × Loose l (operator_of t.kind)

-- the context lets an expression of this level end
abbrev pub Fits : List Frame → ℕ → Type 0
Fits [] l = Unit {0}
Fits (Signed op ∷ frames) l = 6 ≤ l
Fits (Between op a ∷ frames) l = level op + 1 ≤ l
Fits (frame ∷ frames) l = Unit {0}

loose_more : (l m : ℕ) (next : Option BinaryOperator) → l ≤ m → Loose l next → Loose m next
loose_more l m None p h = tt
loose_more l m (Some op) p h = omega arith

stays_more : (l m : ℕ) (ts : List Token) → l ≤ m → Stays l ts → Stays m ts
stays_more l m [] p h = tt
stays_more l m (t ∷ ts) p h = (h.0, loose_more l m (operator_of t.kind) p h.1)

fits_more : (frames : List Frame) (l m : ℕ) → l ≤ m → Fits frames l → Fits frames m
fits_more [] l m p h = tt
fits_more (Signed op ∷ frames) l m p h = omega arith
fits_more (Between op a ∷ frames) l m p h = omega arith
fits_more (_ ∷ frames) l m p h = tt

operator_marked : (op : BinaryOperator) → operator_of (mark_of op) ≡ Some op
operator_marked Or = refl
operator_marked _ = refl

mark_is_no_bracket : (op : BinaryOperator) → mark_of op ≢ kinds.OpenBracket
mark_is_no_bracket Or = λ h. cc
mark_is_no_bracket _ = λ h. cc

low : (op : BinaryOperator) → level op ≤ 5
low Or = omega arith
low _ = omega arith

sign_begins : (op : UnaryOperator) (name : Name) (frames : List Frame)
    → begins (sign_of op) name frames ≡ Goes Wants (Signed op ∷ frames)
sign_begins Negate name frames = refl
sign_begins Not name frames = refl

-- a mark that isn't an operator or a bracket ends each expression
stays_at : {kind : Kind} {ts rest : List Token} (l : ℕ) → Is kind ts rest → kind ≢ kinds.OpenBracket
    → operator_of kind ≡ None → Stays l ts
stays_at {kind} {ts} {rest} l is n o =
    subst (Stays l) (sym is.1) ((λ e. n (sym is.2 ∙ e)), subst (Loose l) (sym o ∙ ap operator_of (sym is.2)) tt)

-- so does an operator that is looser
stays_before : {ts rest : List Token} (op : BinaryOperator) (l : ℕ) → Is (mark_of op) ts rest → level op ≤ l
    → Stays l ts
stays_before {ts} {rest} op l is p =
    subst (Stays l) (sym is.1) (
      (λ e. mark_is_no_bracket op (sym is.2 ∙ e)),
      subst (Loose l) (sym (operator_marked op)
          ∙ ap operator_of (sym is.2)) p,
    )

-- the context of an expression waits for a tighter operator after it
reduce_waits : (op : BinaryOperator) (e : Expression) (frames : List Frame) → Fits frames (level op)
    → reduce (Some op) e frames ≡ (e, frames)
reduce_waits op e [] h = refl
reduce_waits op e (Signed o ∷ frames) h = absurd (omega (arith, low op))
reduce_waits op e (Between o a ∷ frames) h =
    ap (λ b. cond b (reduce (Some op) (Binary o a e) frames) (e, Between o a ∷ frames))
    (not_tight (leb (level op) (level o)) refl)
  where
    not_tight : (b : Bool) → leb (level op) (level o) ≡ b → leb (level op) (level o) ≡ false
    not_tight true e = absurd (omega (arith, leb-true (level op) (level o) e))
    not_tight false e = e
reduce_waits op e (Grouped ∷ frames) h = refl
reduce_waits op e (Indexing name ∷ frames) h = refl
reduce_waits op e (Asking ∷ frames) h = refl

reduce_joins : (next : Option BinaryOperator) (op : BinaryOperator) (a b : Expression) (frames : List Frame)
    → Loose (level op) next → reduce next b (Between op a ∷ frames) ≡ reduce next (Binary op a b) frames
reduce_joins None op a b frames h = refl
reduce_joins (Some o) op a b frames h =
    ap (λ x. cond x (reduce (Some o) (Binary op a b) frames) (b, Between op a ∷ frames)) (le-leb (level o) (level op) h)

joins : (op : BinaryOperator) (a b : Expression) (rest : List Token) (frames : List Frame) → Stays (level op) rest
    → reading rest (Has b) (Between op a ∷ frames) ≡ reading rest (Has (Binary op a b)) frames
joins op a b [] frames h = refl
joins op a b (t ∷ ts) frames h =
    ap (λ x. onward (meets (operator_of t.kind) t.kind x) (reading ts) (t ∷ ts))
    (reduce_joins (operator_of t.kind) op a b frames h.1)

signs : (op : UnaryOperator) (e : Expression) (rest : List Token) (frames : List Frame)
    → reading rest (Has e) (Signed op ∷ frames) ≡ reading rest (Has (Unary op e)) frames
signs op e [] frames = refl
signs op e (t ∷ ts) frames = refl

no_index : (kind : Kind) (a b : Act) → kind ≢ kinds.OpenBracket → index_or kind a b ≡ b
no_index kinds.OpenBracket a b h = absurd (h refl)
no_index _ a b h = refl

names : (name : Name) (rest : List Token) (frames : List Frame) (l : ℕ) → Stays l rest
    → reading rest (Named name) frames ≡ reading rest (Has (Expression.Variable name)) frames
names name [] frames l h = refl
names name (t ∷ ts) frames l h =
    ap (λ a. onward a (reading ts) (t ∷ ts))
    (no_index t.kind (Goes Wants (Indexing name ∷ frames)) (behind t.kind (Expression.Variable name) frames) h.0)

operates : (op : BinaryOperator) (e : Expression) (frames : List Frame) → Fits frames (level op)
    → behind (mark_of op) e frames ≡ Goes Wants (Between op e ∷ frames)
operates op e frames h =
    ap (λ o. meets o (mark_of op) (reduce o e frames)) (operator_marked op)
    ∙ ap (λ x. Goes Wants (Between op x.0 ∷ x.1)) (reduce_waits op e frames h)

-- reading the tokens of an expression gives that expression
pub reads : (e : Expression) (ts rest : List Token) (frames : List Frame) → SpellsExpr e ts rest
    → Stays (level_in e) rest → Fits frames (level_in e) → reading ts Wants frames ≡ reading rest (Has e) frames
reads (Number n) ts rest frames h s f = goes Wants (Has (Number n)) frames frames h (λ name. refl)
reads (Expression.Variable name) ts rest frames h s f =
    goes_named Wants Named frames frames h (λ n. refl) ∙ names name rest frames 6 s
reads (Expression.Element name e) ts rest frames h s f =
    goes_named Wants Named frames frames h.3 (λ n. refl)
    ∙ (goes (Named name) Wants frames (Indexing name ∷ frames) h.4 (λ n. refl)
    ∙ (reads e h.1 h.2 (Indexing name ∷ frames) h.5 (stays_at (level_in e) h.6 (λ x. cc) refl) tt
    ∙ goes (Has e) (Has (Expression.Element name e)) (Indexing name ∷ frames) frames h.6 (λ n. refl)))
reads (Group e) ts rest frames h s f =
    goes Wants Wants frames (Grouped ∷ frames) h.2 (λ n. refl)
    ∙ (reads e h.0 h.1 (Grouped ∷ frames) h.3 (stays_at (level_in e) h.4 (λ x. cc) refl) tt
    ∙ goes (Has e) (Has (Group e)) (Grouped ∷ frames) frames h.4 (λ n. refl))
reads (Unary op e) ts rest frames h s f =
    goes Wants Wants frames (Signed op ∷ frames) h.1 (λ n. sign_begins op n frames)
    ∙ (reads e h.0 rest (Signed op ∷ frames) h.2 (stays_more 6 (level_in e) rest h.3 s) h.3
    ∙ signs op e rest frames)
reads (Binary op a b) ts rest frames h s f =
    reads a ts h.0 frames h.2 (stays_before op (level_in a) h.4 h.3) (fits_more frames (level op) (level_in a) h.3 f)
    ∙ (goes (Has a) Wants frames (Between op a ∷ frames) h.4 (λ n. operates op a frames f)
    ∙ (reads b h.1 rest (Between op a ∷ frames) h.5 (stays_more (level op) (level_in b) rest (omega arith) s) h.6
    ∙ joins op a b rest frames s))
reads (Expression.Value name) ts rest frames h s f =
    goes Wants ValueOpens frames frames h.3 (λ n. refl)
    ∙ (goes ValueOpens ValueNames frames frames h.4 (λ n. refl)
    ∙ (goes_named ValueNames ValueCloses frames frames h.5 (λ n. refl)
    ∙ goes (ValueCloses name) (Has (Expression.Value name)) frames frames h.6 (λ n. refl)))
reads (Input e) ts rest frames h s f =
    goes Wants InputOpens frames frames h.3 (λ n. refl)
    ∙ (goes InputOpens Wants frames (Asking ∷ frames) h.4 (λ n. refl)
    ∙ (reads e h.1 h.2 (Asking ∷ frames) h.5 (stays_at (level_in e) h.6 (λ x. cc) refl) tt
    ∙ goes (Has e) (Has (Input e)) (Asking ∷ frames) frames h.6 (λ n. refl)))
reads InputCount ts rest frames h s f =
    goes Wants CountOpens frames frames h.2 (λ n. refl)
    ∙ (goes CountOpens CountCloses frames frames h.3 (λ n. refl)
    ∙ goes CountCloses (Has InputCount) frames frames h.4 (λ n. refl))

-- these close an expression
abbrev pub ends : Kind → Bool
ends kinds.Close = true
ends kinds.CloseBracket = true
ends kinds.Semicolon = true
ends kinds.Comma = true
ends _ = false

abbrev pub Ends : List Token → Type 0
Ends [] = ⊥
Ends (t ∷ ts) = ends t.kind ≡ true

pub ends_at : {kind : Kind} {ts rest : List Token} → Is kind ts rest → ends kind ≡ true → Ends ts
ends_at {kind} {ts} {rest} is h = subst Ends (sym is.1) (ap ends is.2 ∙ h)

ends_stays : (kind : Kind) → ends kind ≡ true → (kind ≢ kinds.OpenBracket) × (operator_of kind ≡ None)
ends_stays kinds.Close h = ((λ e. cc), refl)
ends_stays kinds.CloseBracket h = ((λ e. cc), refl)
ends_stays kinds.Semicolon h = ((λ e. cc), refl)
ends_stays kinds.Comma h = ((λ e. cc), refl)
ends_stays _ h = cc

all_read : (e : Expression) (ts : List Token) → Ends ts → reading ts (Has e) [] ≡ Some (e, ts)
all_read e [] h = absurd h
all_read e (t ∷ ts) h =
    ap (λ o. onward (meets o t.kind (reduce o e [])) (reading ts) (t ∷ ts)) (ends_stays t.kind h).1

stays_ended : (l : ℕ) (ts : List Token) → Ends ts → Stays l ts
stays_ended l [] h = tt
stays_ended l (t ∷ ts) h =
    stays_at {kind = t.kind} {ts = t ∷ ts} {rest = ts} l (t, refl, refl) (ends_stays t.kind h).0 (ends_stays t.kind h).1

-- an expression up to a mark that closes it is the one that is read
pub read_of : (e : Expression) (ts rest : List Token) → SpellsExpr e ts rest → Ends rest
    → reading ts Wants [] ≡ Some (e, rest)
read_of e ts rest h k = reads e ts rest [] h (stays_ended (level_in e) rest k) tt ∙ all_read e rest k

some_pair : (e f : Expression) (r s : List Token) → ◌≡◌ {A = Read} (Some (e, r)) (Some (f, s)) → (e ≡ f) × (r ≡ s)
some_pair e f r s h =
    let p : ◌≡◌ {A = Expression × List Token} (e, r) (f, s) = cc in
    (ap (λ x. x.0) p, ap (λ x. x.1) p)

-- so there is only one
pub one_expression : (e f : Expression) (ts us r s : List Token) → ts ≡ us → SpellsExpr e ts r → SpellsExpr f us s
    → Ends r → Ends s → (e ≡ f) × (r ≡ s)
one_expression e f ts us r s p h k x y =
    some_pair e f r s (sym (read_of e ts r h x) ∙ (ap (λ q. reading q Wants []) p ∙ read_of f us s k y))

none_some : {A : Type 0} (r : Expression × List Token) → ◌≡◌ {A = Read} None (Some r) → A
none_some r h = cc

-- an expression doesn't begin with another kind
pub no_expression : {A : Type 0} {kind : Kind} (e : Expression) (ts r us s : List Token) → ts ≡ us → SpellsExpr e ts r
    → Ends r → Is kind us s → ((name : Name) → begins kind name [] ≡ Fails) → A
no_expression {A} {kind} e ts r us s p h x is f =
    let fails : reading ts Wants [] ≡ None =
    ap (λ q. reading q Wants []) (p ∙ is.1)
    ∙ (ap (λ k. onward (takes Wants k (name_at is.0) []) (reading s) (is.0 ∷ s)) is.2
    ∙ ap (λ a. onward a (reading s) (is.0 ∷ s)) (f (name_at is.0))) in
    none_some (e, r) (sym fails ∙ read_of e ts r h x)

called : (name : Name) (ts rest : List Token) → Is kinds.Open ts rest
    → reading ts (Named name) [] ≡ Some (Expression.Variable name, ts)
called name ts rest is =
    ap (λ q. reading q (Named name) []) is.1
    ∙ (ap (λ k. onward (takes (Named name) k (name_at is.0) []) (reading rest) (is.0 ∷ rest)) is.2
    ∙ ap (λ q. Some (Expression.Variable name, q)) (sym is.1))

open_ends : {A : Type 0} (ts rest : List Token) → Is kinds.Open ts rest → Ends ts → A
open_ends ts rest is h =
    let k : ends kinds.Open ≡ true = ap ends (sym is.2) ∙ subst Ends is.1 h in cc

-- no expression is a call
pub no_call : {A : Type 0} (e : Expression) (name : Name) (ts r us s rest : List Token) → ts ≡ us → SpellsExpr e ts r
    → Ends r → IsName name us s → Is kinds.Open s rest → A
no_call e name ts r us s rest p h x is opens =
    let k = goes_named Wants Named [] [] is (λ n. refl) ∙ called name s rest opens in
    let same =
    some_pair e (Expression.Variable name) r s (sym (read_of e ts r h x) ∙ (ap (λ q. reading q Wants []) p ∙ k)) in
    open_ends s rest opens (subst Ends same.1 x)
