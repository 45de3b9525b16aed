-- How the reading of tokens continues.
use Rattle.std.proofs.Common.{◌≡◌, ◌≢◌, ℕ, ◌+◌, ◌<◌, ◌≤◌, Bool, true, false, cond, ◌&&◌, ◌||◌, List, [], ◌∷◌, Option, Some, None, refl, sym, ap, subst, ◌∙◌, arith, lit≤}
use Rattle.cilk_syntax.specs.declared.token.Token.{Token}
use Rattle.cilk_syntax.specs.declared.token.Kind.{Kind}
use Rattle.cilk_syntax.specs.declared.token.Kind.TheVariants as kinds
use Rattle.cilk_syntax.specs.declared.marks.Punct.TheVariants.{Open, Close, Semicolon}
use Rattle.cilk_syntax.specs.declared.tree.UnaryOperator.{UnaryOperator}
use Rattle.cilk_syntax.specs.declared.tree.UnaryOperator.TheVariants.{Negate, Not}
use Rattle.cilk_syntax.specs.Limits.{is_deep, is_many}
use Rattle.cilk_syntax.specs.Expected.{Symbol, One, Named, Operand, Index, Tail, Anew, Optional, AfterName, Assignment, Subscript, Operation, Source, SourceRest, Arguments, MoreArguments, Declaration, LocalInitial, Locals, Beginning, Step, Item, Declared, Initial, Variables, Items, After, Goes, PastLimit, nests, is_name, is_open, begins_call, chosen, after, move_tail, move_index, move_optional, move_operand, move_after_name, move_assignment, move_subscript, move_operation, move_source, move_source_rest, move_arguments, move_declaration, move_named, move_local_initial, move_beginning, move_step, move_item, move_declared, move_initial, move_variables, move_items, level_of, settled, run}
use Rattle.cilk_syntax.specs.Grammar.{Is, sign_of}
use Rattle.cilk_syntax.specs.Stops.{NoOperator, Loose, NotFirst}

no_level : (k : Kind) → Loose 6 (level_of k)
no_level kinds.Or = lit≤ tt
no_level kinds.And = lit≤ tt
no_level kinds.Equal = lit≤ tt
no_level kinds.NotEqual = lit≤ tt
no_level kinds.Less = lit≤ tt
no_level kinds.LessEqual = lit≤ tt
no_level kinds.Greater = lit≤ tt
no_level kinds.GreaterEqual = lit≤ tt
no_level kinds.Plus = lit≤ tt
no_level kinds.Minus = lit≤ tt
no_level kinds.Star = lit≤ tt
no_level kinds.Slash = lit≤ tt
no_level kinds.Percent = lit≤ tt
no_level _ = tt

-- no operator is tighter than the tightest level
pub tightest : (ts : List Token) → NoOperator 6 ts
tightest [] = tt
tightest (t ∷ ts) = no_level t.kind

-- the count of operators starts again
pub anew : (ts : List Token) (stack : List Symbol) (n : ℕ) → run ts (Anew ∷ stack) n ≡ run ts stack 0
anew [] stack n = refl
anew (t ∷ ts) stack n = refl

no_operator : (o : Option ℕ) (d : ℕ) (stack : List Symbol) (n : ℕ) (below : After) → Loose 0 o → chosen (move_tail d o) stack n below ≡ below
no_operator None d stack n below h = refl
no_operator (Some k) d stack n below h = absurd (omega (arith, h))

-- where no operator follows, an expression ends
pub tail_ends : (ts : List Token) (d : ℕ) (stack : List Symbol) (n : ℕ) → NoOperator 0 ts → run ts (Tail d ∷ stack) n ≡ run ts stack n
tail_ends [] d stack n h = refl
tail_ends (t ∷ ts) d stack n h = ap (λ a. settled a (run ts) (t ∷ ts)) (no_operator (level_of t.kind) d stack n (after stack n t.kind) h)

-- and the count of operators starts again
pub ends_anew : (ts : List Token) (d : ℕ) (stack : List Symbol) (n : ℕ) → NoOperator 0 ts → run ts (Tail d ∷ Anew ∷ stack) n ≡ run ts stack 0
ends_anew ts d stack n h = tail_ends ts d (Anew ∷ stack) n h ∙ anew ts stack n

index_after : (k : Kind) (d : ℕ) (stack : List Symbol) (n : ℕ) (below : After) → k ≢ kinds.OpenBracket → chosen (move_index d k) stack n below ≡ below
index_after kinds.OpenBracket d stack n below h = absurd (h refl)
index_after _ d stack n below h = refl

-- where no bracket follows, a name is a variable
pub no_index : (ts : List Token) (d : ℕ) (stack : List Symbol) (n : ℕ) → NotFirst kinds.OpenBracket ts → run ts (Index d ∷ stack) n ≡ run ts stack n
no_index [] d stack n h = refl
no_index (t ∷ ts) d stack n h = ap (λ a. settled a (run ts) (t ∷ ts)) (index_after t.kind d stack n (after stack n t.kind) h)

subscript_after : (k : Kind) (d : ℕ) (stack : List Symbol) (n : ℕ) (below : After) → k ≢ kinds.OpenBracket → chosen (move_subscript d k) stack n below ≡ below
subscript_after kinds.OpenBracket d stack n below h = absurd (h refl)
subscript_after _ d stack n below h = refl

-- the same for a place that is written
pub no_subscript : (ts : List Token) (d : ℕ) (stack : List Symbol) (n : ℕ) → NotFirst kinds.OpenBracket ts → run ts (Subscript d ∷ stack) n ≡ run ts stack n
no_subscript [] d stack n h = refl
no_subscript (t ∷ ts) d stack n h = ap (λ a. settled a (run ts) (t ∷ ts)) (subscript_after t.kind d stack n (after stack n t.kind) h)

source_after : (k : Kind) (d : ℕ) (stack : List Symbol) (n : ℕ) (below : After) → k ≢ kinds.Assign → chosen (move_local_initial d k) stack n below ≡ below
source_after kinds.Assign d stack n below h = absurd (h refl)
source_after _ d stack n below h = refl

-- where no `=` follows, a variable has no initializer
pub no_source : (ts : List Token) (d : ℕ) (stack : List Symbol) (n : ℕ) → NotFirst kinds.Assign ts → run ts (LocalInitial d ∷ stack) n ≡ run ts stack n
no_source [] d stack n h = refl
no_source (t ∷ ts) d stack n h = ap (λ a. settled a (run ts) (t ∷ ts)) (source_after t.kind d stack n (after stack n t.kind) h)

value_after : (k : Kind) (d : ℕ) (stack : List Symbol) (n : ℕ) (below below' : After) → k ≢ kinds.Semicolon → chosen (move_optional d k) stack n below ≡ chosen (move_operand d k) (Tail d ∷ Anew ∷ One Semicolon ∷ stack) n below'
value_after kinds.Semicolon d stack n below below' h = absurd (h refl)
value_after kinds.Minus d stack n below below' h = refl
value_after kinds.Not d stack n below below' h = refl
value_after kinds.Open d stack n below below' h = refl
value_after kinds.Value d stack n below below' h = refl
value_after kinds.Input d stack n below below' h = refl
value_after kinds.InputCount d stack n below below' h = refl
value_after kinds.Name d stack n below below' h = refl
value_after (kinds.Number v) d stack n below below' h = refl
value_after _ d stack n below below' h = refl

-- a token that isn't a semicolon begins a value
pub some_value : (ts : List Token) (d : ℕ) (stack : List Symbol) (n : ℕ) → NotFirst kinds.Semicolon ts → run ts (Optional d ∷ stack) n ≡ run ts (Operand d ∷ Tail d ∷ Anew ∷ One Semicolon ∷ stack) n
some_value [] d stack n h = refl
some_value (t ∷ ts) d stack n h = ap (λ a. settled a (run ts) (t ∷ ts)) (value_after t.kind d stack n _ _ h)

argument_after : (k : Kind) (d : ℕ) (stack : List Symbol) (n : ℕ) (below below' : After) → k ≢ kinds.Close → chosen (move_arguments d k) stack n below ≡ chosen (move_operand d k) (Tail d ∷ Anew ∷ MoreArguments d ∷ stack) n below'
argument_after kinds.Close d stack n below below' h = absurd (h refl)
argument_after kinds.Minus d stack n below below' h = refl
argument_after kinds.Not d stack n below below' h = refl
argument_after kinds.Open d stack n below below' h = refl
argument_after kinds.Value d stack n below below' h = refl
argument_after kinds.Input d stack n below below' h = refl
argument_after kinds.InputCount d stack n below below' h = refl
argument_after kinds.Name d stack n below below' h = refl
argument_after (kinds.Number v) d stack n below below' h = refl
argument_after _ d stack n below below' h = refl

-- a token that isn't a parenthesis begins an argument
pub some_argument : (ts : List Token) (d : ℕ) (stack : List Symbol) (n : ℕ) → NotFirst kinds.Close ts → run ts (Arguments d ∷ stack) n ≡ run ts (Operand d ∷ Tail d ∷ Anew ∷ MoreArguments d ∷ stack) n
some_argument [] d stack n h = refl
some_argument (t ∷ ts) d stack n h = ap (λ a. settled a (run ts) (t ∷ ts)) (argument_after t.kind d stack n _ _ h)

assignment_after : (k : Kind) (d : ℕ) (stack : List Symbol) (n : ℕ) (below below' : After) → k ≢ kinds.Semicolon → k ≢ kinds.Int → chosen (move_beginning d k) stack n below ≡ chosen (move_assignment d k) (One Semicolon ∷ stack) n below'
assignment_after kinds.Semicolon d stack n below below' h0 h1 = absurd (h0 refl)
assignment_after kinds.Int d stack n below below' h0 h1 = absurd (h1 refl)
assignment_after kinds.Name d stack n below below' h0 h1 = refl
assignment_after kinds.Increment d stack n below below' h0 h1 = refl
assignment_after kinds.Decrement d stack n below below' h0 h1 = refl
assignment_after _ d stack n below below' h0 h1 = refl

-- a token that isn't a semicolon or `int` begins an assignment
pub begins_assigning : (ts : List Token) (d : ℕ) (stack : List Symbol) (n : ℕ) → NotFirst kinds.Semicolon ts → NotFirst kinds.Int ts → run ts (Beginning d ∷ stack) n ≡ run ts (Assignment d ∷ One Semicolon ∷ stack) n
begins_assigning [] d stack n h0 h1 = refl
begins_assigning (t ∷ ts) d stack n h0 h1 = ap (λ a. settled a (run ts) (t ∷ ts)) (assignment_after t.kind d stack n _ _ h0 h1)

step_after : (k : Kind) (d : ℕ) (stack : List Symbol) (n : ℕ) (below below' : After) → k ≢ kinds.Close → chosen (move_step d k) stack n below ≡ chosen (move_assignment d k) (One Close ∷ stack) n below'
step_after kinds.Close d stack n below below' h = absurd (h refl)
step_after kinds.Name d stack n below below' h = refl
step_after kinds.Increment d stack n below below' h = refl
step_after kinds.Decrement d stack n below below' h = refl
step_after _ d stack n below below' h = refl

-- the same for a token that isn't a parenthesis
pub steps_assigning : (ts : List Token) (d : ℕ) (stack : List Symbol) (n : ℕ) → NotFirst kinds.Close ts → run ts (Step d ∷ stack) n ≡ run ts (Assignment d ∷ One Close ∷ stack) n
steps_assigning [] d stack n h = refl
steps_assigning (t ∷ ts) d stack n h = ap (λ a. settled a (run ts) (t ∷ ts)) (step_after t.kind d stack n _ _ h)

locals_after : (k : Kind) (d : ℕ) (stack : List Symbol) (n : ℕ) (below below' : After) → k ≢ kinds.CilkReducer → chosen (move_declaration d k) stack n below ≡ chosen (move_named k) (LocalInitial d ∷ Locals d ∷ stack) n below'
locals_after kinds.CilkReducer d stack n below below' h = absurd (h refl)
locals_after kinds.Name d stack n below below' h = refl
locals_after _ d stack n below below' h = refl

-- a token that isn't `cilk_reducer` is a variable's name
pub declares_locals : (ts : List Token) (d : ℕ) (stack : List Symbol) (n : ℕ) → NotFirst kinds.CilkReducer ts → run ts (Declaration d ∷ stack) n ≡ run ts (Named ∷ LocalInitial d ∷ Locals d ∷ stack) n
declares_locals [] d stack n h = refl
declares_locals (t ∷ ts) d stack n h = ap (λ a. settled a (run ts) (t ∷ ts)) (locals_after t.kind d stack n _ _ h)

name_after : (k : Kind) (stack : List Symbol) (n : ℕ) (below below' : After) → k ≢ kinds.CilkReducer → chosen (move_item k) stack n below ≡ chosen (move_named k) (Declared ∷ stack) n below'
name_after kinds.CilkReducer stack n below below' h = absurd (h refl)
name_after kinds.Name stack n below below' h = refl
name_after _ stack n below below' h = refl

-- the same outside functions
pub declares_name : (ts : List Token) (stack : List Symbol) (n : ℕ) → NotFirst kinds.CilkReducer ts → run ts (Item ∷ stack) n ≡ run ts (Named ∷ Declared ∷ stack) n
declares_name [] stack n h = refl
declares_name (t ∷ ts) stack n h = ap (λ a. settled a (run ts) (t ∷ ts)) (name_after t.kind stack n _ _ h)

variables_after : (k : Kind) (stack : List Symbol) (n : ℕ) (below below' : After) → k ≢ kinds.Open → chosen (move_declared k) stack n below ≡ chosen (move_initial k) (Variables ∷ stack) n (chosen (move_variables k) stack n below')
variables_after kinds.Open stack n below below' h = absurd (h refl)
variables_after kinds.Assign stack n below below' h = refl
variables_after kinds.OpenBracket stack n below below' h = refl
variables_after kinds.Comma stack n below below' h = refl
variables_after kinds.Semicolon stack n below below' h = refl
variables_after _ stack n below below' h = refl

-- if no parenthesis follows the name after an `int`, variables are declared
pub declares_variables : (ts : List Token) (stack : List Symbol) (n : ℕ) → NotFirst kinds.Open ts → run ts (Declared ∷ stack) n ≡ run ts (Initial ∷ Variables ∷ stack) n
declares_variables [] stack n h = refl
declares_variables (t ∷ ts) stack n h = ap (λ a. settled a (run ts) (t ∷ ts)) (variables_after t.kind stack n _ _ h)

assigns_after : (k : Kind) (d : ℕ) (stack : List Symbol) (n : ℕ) (below below' : After) → k ≢ kinds.Open → k ≢ kinds.Assign → chosen (move_after_name d k) stack n below ≡ chosen (move_subscript d k) (Operation d ∷ One Semicolon ∷ stack) n (chosen (move_operation d k) (One Semicolon ∷ stack) n below')
assigns_after kinds.Open d stack n below below' h0 h1 = absurd (h0 refl)
assigns_after kinds.Assign d stack n below below' h0 h1 = absurd (h1 refl)
assigns_after kinds.OpenBracket d stack n below below' h0 h1 = refl
assigns_after kinds.PlusAssign d stack n below below' h0 h1 = refl
assigns_after kinds.MinusAssign d stack n below below' h0 h1 = refl
assigns_after kinds.StarAssign d stack n below below' h0 h1 = refl
assigns_after kinds.Increment d stack n below below' h0 h1 = refl
assigns_after kinds.Decrement d stack n below below' h0 h1 = refl
assigns_after _ d stack n below below' h0 h1 = refl

-- a name that no parenthesis or `=` follows begins a place
pub assigns : (ts : List Token) (d : ℕ) (stack : List Symbol) (n : ℕ) → NotFirst kinds.Open ts → NotFirst kinds.Assign ts → run ts (AfterName d ∷ stack) n ≡ run ts (Subscript d ∷ Operation d ∷ One Semicolon ∷ stack) n
assigns [] d stack n h0 h1 = refl
assigns (t ∷ ts) d stack n h0 h1 = ap (λ a. settled a (run ts) (t ∷ ts)) (assigns_after t.kind d stack n _ _ h0 h1)

pub shallow : (d : ℕ) → d ≤ 64 → is_deep d ≡ false
shallow d h = search arith

-- a token of a known kind is read
pub takes : (kind : Kind) (ts ts1 : List Token) (stack stack' : List Symbol) (n n' : ℕ) → Is kind ts ts1 → after stack n kind ≡ Goes false stack' n' → run ts stack n ≡ run ts1 stack' n'
takes kind ts ts1 stack stack' n n' is h =
    ap (λ x. run x stack n) is.1
    ∙ (ap (λ k. settled (after stack n k) (run ts1) (is.0 ∷ ts1)) is.2 ∙ ap (λ a. settled a (run ts1) (is.0 ∷ ts1)) h)

signed : (op : UnaryOperator) (t : Token) (ts : List Token) (d : ℕ) (stack : List Symbol) (n : ℕ) → t.kind ≡ sign_of op → d ≤ 64 → run (t ∷ ts) (Operand d ∷ stack) n ≡ cond (is_many (n + 1)) (PastLimit (t ∷ ts)) (run ts (Operand (d + 1) ∷ stack) (n + 1))
signed Negate t ts d stack n e h =
    ap (λ k. settled (after (Operand d ∷ stack) n k) (run ts) (t ∷ ts)) e
    ∙ ap (λ b. cond (b || is_many (n + 1)) (PastLimit (t ∷ ts)) (run ts (Operand (d + 1) ∷ stack) (n + 1))) (shallow d h)
signed Not t ts d stack n e h =
    ap (λ k. settled (after (Operand d ∷ stack) n k) (run ts) (t ∷ ts)) e
    ∙ ap (λ b. cond (b || is_many (n + 1)) (PastLimit (t ∷ ts)) (run ts (Operand (d + 1) ∷ stack) (n + 1))) (shallow d h)

many : (n : ℕ) → 256 < n → is_many n ≡ true
many n h = search arith

few : (n : ℕ) → n ≤ 256 → is_many n ≡ false
few n h = search arith

-- a unary operator is read
pub takes_sign : (op : UnaryOperator) (ts ts1 : List Token) (d : ℕ) (stack : List Symbol) (n : ℕ) → Is (sign_of op) ts ts1 → d ≤ 64 → n + 1 ≤ 256 → run ts (Operand d ∷ stack) n ≡ run ts1 (Operand (d + 1) ∷ stack) (n + 1)
takes_sign op ts ts1 d stack n is h l =
    ap (λ x. run x (Operand d ∷ stack) n) is.1
    ∙ (signed op is.0 ts1 d stack n is.2 h ∙ ap (λ b. cond b (PastLimit (is.0 ∷ ts1)) (run ts1 (Operand (d + 1) ∷ stack) (n + 1))) (few (n + 1) l))

-- unless it is one operator too many
pub signs_end : (op : UnaryOperator) (ts ts1 : List Token) (d : ℕ) (stack : List Symbol) (n : ℕ) → Is (sign_of op) ts ts1 → d ≤ 64 → 256 < n + 1 → run ts (Operand d ∷ stack) n ≡ PastLimit ts
signs_end op ts ts1 d stack n is h l =
    ap (λ x. run x (Operand d ∷ stack) n) is.1
    ∙ (signed op is.0 ts1 d stack n is.2 h
    ∙ (ap (λ b. cond b (PastLimit (is.0 ∷ ts1)) (run ts1 (Operand (d + 1) ∷ stack) (n + 1))) (many (n + 1) l) ∙ ap PastLimit (sym is.1)))

never : {A : Type 0} → false ≡ true → A
never h = cc

named_kind : (k : Kind) → is_name k ≡ true → k ≡ kinds.Name
named_kind kinds.Name h = refl
named_kind _ h = never h

open_kind : (k : Kind) → is_open k ≡ true → k ≡ kinds.Open
open_kind kinds.Open h = refl
open_kind _ h = never h

both : (a b : Bool) → (a && b) ≡ true → (a ≡ true) × (b ≡ true)
both true b h = (refl, h)
both false b h = never h

named_source : (d : ℕ) (t' : Token) (ts here : List Token) (stack : List Symbol) (n : ℕ) → t'.kind ≡ kinds.Open → is_deep d ≡ false → settled (after (Source d ∷ stack) n kinds.Name) (run (t' ∷ ts)) here ≡ settled (after (Named ∷ One Open ∷ Arguments d ∷ stack) n kinds.Name) (run (t' ∷ ts)) here
named_source d t' ts here stack n e deep =
    ap (λ b. cond b (PastLimit here) (run (t' ∷ ts) (SourceRest d ∷ stack) n)) deep
    ∙ (takes kinds.Open (t' ∷ ts) ts (SourceRest d ∷ stack) (Arguments d ∷ stack) n n (t', refl, e) refl
    ∙ sym (takes kinds.Open (t' ∷ ts) ts (One Open ∷ Arguments d ∷ stack) (Arguments d ∷ stack) n n (t', refl, e) refl))

call_source : (k k' : Kind) (d : ℕ) (t' : Token) (ts here : List Token) (stack : List Symbol) (n : ℕ) → t'.kind ≡ k' → is_name k && is_open k' ≡ true → is_deep d ≡ false → settled (after (Source d ∷ stack) n k) (run (t' ∷ ts)) here ≡ settled (after (Named ∷ One Open ∷ Arguments d ∷ stack) n k) (run (t' ∷ ts)) here
call_source k k' d t' ts here stack n e h deep =
    let b = both (is_name k) (is_open k') h in
    subst (λ (x : Kind). settled (after (Source d ∷ stack) n x) (run (t' ∷ ts)) here ≡ settled (after (Named ∷ One Open ∷ Arguments d ∷ stack) n x) (run (t' ∷ ts)) here)
    (sym (named_kind k b.0)) (named_source d t' ts here stack n (e ∙ open_kind k' b.1) deep)

-- a name and a parenthesis after an `=` begin a call
pub called_source : (ts : List Token) (d : ℕ) (stack : List Symbol) (n : ℕ) → begins_call ts ≡ true → d ≤ 64 → run ts (Source d ∷ stack) n ≡ run ts (Named ∷ One Open ∷ Arguments d ∷ stack) n
called_source [] d stack n h l = cc
called_source (t ∷ []) d stack n h l = cc
called_source (t ∷ t' ∷ ts) d stack n h l = call_source t.kind t'.kind d t' ts (t ∷ t' ∷ ts) stack n refl h (shallow d l)

rest_after : (k : Kind) (d : ℕ) (stack : List Symbol) (n : ℕ) (below : After) → k ≢ kinds.Open → chosen (move_source_rest d k) stack n below ≡ chosen (move_index d k) (Tail d ∷ Anew ∷ stack) n (chosen (move_tail d (level_of k)) (Anew ∷ stack) n below)
rest_after kinds.Open d stack n below h = absurd (h refl)
rest_after kinds.OpenBracket d stack n below h = refl
rest_after kinds.Or d stack n below h = refl
rest_after kinds.And d stack n below h = refl
rest_after kinds.Equal d stack n below h = refl
rest_after kinds.NotEqual d stack n below h = refl
rest_after kinds.Less d stack n below h = refl
rest_after kinds.LessEqual d stack n below h = refl
rest_after kinds.Greater d stack n below h = refl
rest_after kinds.GreaterEqual d stack n below h = refl
rest_after kinds.Plus d stack n below h = refl
rest_after kinds.Minus d stack n below h = refl
rest_after kinds.Star d stack n below h = refl
rest_after kinds.Slash d stack n below h = refl
rest_after kinds.Percent d stack n below h = refl
rest_after _ d stack n below h = refl

rest_is : (ts : List Token) (d : ℕ) (stack : List Symbol) (n : ℕ) → NotFirst kinds.Open ts → run ts (SourceRest d ∷ stack) n ≡ run ts (Index d ∷ Tail d ∷ Anew ∷ stack) n
rest_is [] d stack n h = refl
rest_is (t ∷ ts) d stack n h = ap (λ a. settled a (run ts) (t ∷ ts)) (rest_after t.kind d stack n (after stack 0 t.kind) h)

source_kind : (k : Kind) (d : ℕ) (ts here : List Token) (stack : List Symbol) (n : ℕ) (below below' : After) → k ≢ kinds.CilkSpawn → (k ≡ kinds.Name → NotFirst kinds.Open ts) → settled (chosen (move_source d k) stack n below) (run ts) here ≡ settled (chosen (move_operand d k) (Tail d ∷ Anew ∷ stack) n below') (run ts) here
source_kind kinds.CilkSpawn d ts here stack n below below' h e = absurd (h refl)
source_kind kinds.Name d ts here stack n below below' h e = ap (λ v. cond (is_deep d) (PastLimit here) v) (rest_is ts d stack n (e refl))
source_kind kinds.Minus d ts here stack n below below' h e = refl
source_kind kinds.Not d ts here stack n below below' h e = refl
source_kind kinds.Open d ts here stack n below below' h e = refl
source_kind kinds.Value d ts here stack n below below' h e = refl
source_kind kinds.Input d ts here stack n below below' h e = refl
source_kind kinds.InputCount d ts here stack n below below' h e = refl
source_kind (kinds.Number v) d ts here stack n below below' h e = refl
source_kind _ d ts here stack n below below' h e = refl

not_open : (k k' : Kind) → is_name k && is_open k' ≡ false → k ≡ kinds.Name → k' ≢ kinds.Open
not_open k k' h e = λ f. let both : is_name k && is_open k' ≡ true = ap (λ x. is_name x && is_open k') e ∙ ap is_open f in cc

no_call : (t : Token) (ts : List Token) → begins_call (t ∷ ts) ≡ false → t.kind ≡ kinds.Name → NotFirst kinds.Open ts
no_call t [] h e = tt
no_call t (t' ∷ ts) h e = not_open t.kind t'.kind h e

-- any other right side that isn't a spawn is an expression
pub plain_source : (ts : List Token) (d : ℕ) (stack : List Symbol) (n : ℕ) → begins_call ts ≡ false → NotFirst kinds.CilkSpawn ts → run ts (Source d ∷ stack) n ≡ run ts (Operand d ∷ Tail d ∷ Anew ∷ stack) n
plain_source [] d stack n h k = refl
plain_source (t ∷ ts) d stack n h k = source_kind t.kind d ts (t ∷ ts) stack n _ _ k (λ e. no_call t ts h e)

no_item : (k : Kind) (stack : List Symbol) (n : ℕ) (below : After) → k ≢ kinds.Int → k ≢ kinds.Void → chosen (move_items k) stack n below ≡ below
no_item kinds.Int stack n below h v = absurd (h refl)
no_item kinds.Void stack n below h v = absurd (v refl)
no_item _ stack n below h v = refl

-- where no type follows, the items end
pub items_end : (ts : List Token) (stack : List Symbol) (n : ℕ) → NotFirst kinds.Int ts → NotFirst kinds.Void ts → run ts (Items ∷ stack) n ≡ run ts stack n
items_end [] stack n h v = refl
items_end (t ∷ ts) stack n h v = ap (λ a. settled a (run ts) (t ∷ ts)) (no_item t.kind stack n (after stack n t.kind) h v)

-- a statement that begins with another token contains no statements
pub holds_none : (k : Kind) → k ≢ kinds.OpenBrace → k ≢ kinds.If → k ≢ kinds.While → k ≢ kinds.For → k ≢ kinds.CilkFor → nests k ≡ false
holds_none kinds.OpenBrace a b c d e = absurd (a refl)
holds_none kinds.If a b c d e = absurd (b refl)
holds_none kinds.While a b c d e = absurd (c refl)
holds_none kinds.For a b c d e = absurd (d refl)
holds_none kinds.CilkFor a b c d e = absurd (e refl)
holds_none _ a b c d e = refl
