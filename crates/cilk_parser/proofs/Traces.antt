-- The flags of tokens that are read without stopping at a limit: for each token whether it is past
-- one; none for a token that is refused.
use Rattle.std.proofs.Common.{◌≡◌, ◌≢◌, ℕ, Bool, false, cond, List, [], ◌∷◌, Option, Some, None, refl, sym, ap, ◌∙◌}
use Rattle.cilk_syntax.specs.declared.token.Kind.{Kind}
use Rattle.cilk_syntax.specs.declared.token.Kind.TheVariants as kinds
use Rattle.cilk_syntax.specs.declared.token.Token.{Token}
use Rattle.cilk_syntax.specs.declared.marks.Punct.TheVariants.{Close, Semicolon}
use Rattle.cilk_syntax.specs.Limits.{Flags, flag, is_deep}
use Rattle.cilk_syntax.specs.Expected.{Symbol, One, Named, Operand, Index, Tail, Anew, Optional, Statement, Statements, ElsePart, AfterName, Assignment, Subscript, Operation, Source, SourceRest, Arguments, MoreArguments, Declaration, LocalInitial, Locals, Beginning, Step, Item, Declared, Initial, Variables, After, Goes, Fails, Verdict, Whole, Unexpected, PastLimit, Passes, begins_statement, followed, move_named, move_operand, move_index, move_tail, move_optional, move_statement, move_else, move_after_name, move_assignment, move_subscript, move_operation, move_source, move_source_rest, move_arguments, move_more_arguments, move_declaration, move_local_initial, move_locals, move_beginning, move_step, move_item, move_initial, move_variables, move_declared, level_of, chosen, after, at_end}
use Rattle.cilk_syntax.specs.Grammar.{Is, NoElse}

abbrev pub ahead : Bool → Option (List Bool) → Option (List Bool)
ahead b None = None
ahead b (Some past) = Some (b ∷ past)

abbrev pub ended : Verdict → Option (List Bool)
ended Whole = Some []
ended (Unexpected rest) = None
ended (PastLimit rest) = None

abbrev pub noted : After → (List Symbol → ℕ → Option (List Bool)) → Option (List Bool)
noted (Goes b stack n) go = ahead b (go stack n)
noted Fails go = None

abbrev pub trace : List Token → List Symbol → ℕ → Option (List Bool)
trace [] stack n = ended (at_end stack)
trace (t ∷ ts) stack n = noted (after stack n t.kind) (trace ts)

-- a token of a known kind is read
pub goes : (kind : Kind) (ts ts1 : List Token) (stack stack' : List Symbol) (n n' : ℕ) (b : Bool) (more : Flags) → Is kind ts ts1 → after stack n kind ≡ Goes b stack' n' → trace ts1 stack' n' ≡ Some (more ts1) → trace ts stack n ≡ Some (flag b more ts)
goes kind ts ts1 stack stack' n n' b more is h k =
    ap (λ x. trace x stack n) is.1
    ∙ (ap (λ x. noted (after stack n x) (trace ts1)) is.2
    ∙ (ap (λ a. noted a (trace ts1)) h ∙ (ap (ahead b) k ∙ ap (λ x. Some (flag b more x)) (sym is.1))))

none_some : {A : Type 0} (past : List Bool) → None ≡ Some past → A
none_some past h = cc

-- no bracket is expected
abbrev pub Shut : List Symbol → Type 0
Shut stack = (n : ℕ) → after stack n kinds.OpenBracket ≡ Fails

-- if a symbol that may be empty is followed by one that reads on, it reads on too
index_kind : (k : Kind) (d : ℕ) (stack : List Symbol) (n : ℕ) (below : After) (go : List Symbol → ℕ → Option (List Bool)) (past : List Bool) → (k ≡ kinds.OpenBracket → below ≡ Fails) → noted below go ≡ Some past → noted (chosen (move_index d k) stack n below) go ≡ Some past
index_kind kinds.OpenBracket d stack n below go past s h = none_some past (ap (λ a. noted a go) (sym (s refl)) ∙ h)
index_kind _ d stack n below go past s h = h

pub no_index : (ts : List Token) (d : ℕ) (stack : List Symbol) (n : ℕ) (past : List Bool) → Shut stack → trace ts stack n ≡ Some past → trace ts (Index d ∷ stack) n ≡ Some past
no_index [] d stack n past s h = h
no_index (t ∷ ts) d stack n past s h = index_kind t.kind d stack n (after stack n t.kind) (trace ts) past (λ e. ap (after stack n) e ∙ s n) h

subscript_kind : (k : Kind) (d : ℕ) (stack : List Symbol) (n : ℕ) (below : After) (go : List Symbol → ℕ → Option (List Bool)) (past : List Bool) → (k ≡ kinds.OpenBracket → below ≡ Fails) → noted below go ≡ Some past → noted (chosen (move_subscript d k) stack n below) go ≡ Some past
subscript_kind kinds.OpenBracket d stack n below go past s h = none_some past (ap (λ a. noted a go) (sym (s refl)) ∙ h)
subscript_kind _ d stack n below go past s h = h

pub no_subscript : (ts : List Token) (d : ℕ) (stack : List Symbol) (n : ℕ) (past : List Bool) → Shut stack → trace ts stack n ≡ Some past → trace ts (Subscript d ∷ stack) n ≡ Some past
no_subscript [] d stack n past s h = h
no_subscript (t ∷ ts) d stack n past s h = subscript_kind t.kind d stack n (after stack n t.kind) (trace ts) past (λ e. ap (after stack n) e ∙ s n) h

-- a form that begins with its first token reads on as its parts do
value_kind : (k : Kind) (d : ℕ) (stack : List Symbol) (n : ℕ) (below below' : After) (go : List Symbol → ℕ → Option (List Bool)) (past : List Bool) → noted (chosen (move_operand d k) (Tail d ∷ Anew ∷ One Semicolon ∷ stack) n below) go ≡ Some past → noted (chosen (move_optional d k) stack n below') go ≡ Some past
value_kind kinds.Semicolon d stack n below below' go past h = none_some past h
value_kind kinds.Minus d stack n below below' go past h = h
value_kind kinds.Not d stack n below below' go past h = h
value_kind kinds.Open d stack n below below' go past h = h
value_kind kinds.Value d stack n below below' go past h = h
value_kind kinds.Input d stack n below below' go past h = h
value_kind kinds.InputCount d stack n below below' go past h = h
value_kind kinds.Name d stack n below below' go past h = h
value_kind (kinds.Number v) d stack n below below' go past h = h
value_kind _ d stack n below below' go past h = none_some past h

pub some_value : (ts : List Token) (d : ℕ) (stack : List Symbol) (n : ℕ) (past : List Bool) → trace ts (Operand d ∷ Tail d ∷ Anew ∷ One Semicolon ∷ stack) n ≡ Some past → trace ts (Optional d ∷ stack) n ≡ Some past
some_value [] d stack n past h = none_some past h
some_value (t ∷ ts) d stack n past h = value_kind t.kind d stack n _ _ (trace ts) past h

argument_kind : (k : Kind) (d : ℕ) (stack : List Symbol) (n : ℕ) (below below' : After) (go : List Symbol → ℕ → Option (List Bool)) (past : List Bool) → noted (chosen (move_operand d k) (Tail d ∷ Anew ∷ MoreArguments d ∷ stack) n below) go ≡ Some past → noted (chosen (move_arguments d k) stack n below') go ≡ Some past
argument_kind kinds.Close d stack n below below' go past h = none_some past h
argument_kind kinds.Minus d stack n below below' go past h = h
argument_kind kinds.Not d stack n below below' go past h = h
argument_kind kinds.Open d stack n below below' go past h = h
argument_kind kinds.Value d stack n below below' go past h = h
argument_kind kinds.Input d stack n below below' go past h = h
argument_kind kinds.InputCount d stack n below below' go past h = h
argument_kind kinds.Name d stack n below below' go past h = h
argument_kind (kinds.Number v) d stack n below below' go past h = h
argument_kind _ d stack n below below' go past h = none_some past h

pub some_argument : (ts : List Token) (d : ℕ) (stack : List Symbol) (n : ℕ) (past : List Bool) → trace ts (Operand d ∷ Tail d ∷ Anew ∷ MoreArguments d ∷ stack) n ≡ Some past → trace ts (Arguments d ∷ stack) n ≡ Some past
some_argument [] d stack n past h = none_some past h
some_argument (t ∷ ts) d stack n past h = argument_kind t.kind d stack n _ _ (trace ts) past h

beginning_kind : (k : Kind) (d : ℕ) (stack : List Symbol) (n : ℕ) (below below' : After) (go : List Symbol → ℕ → Option (List Bool)) (past : List Bool) → noted (chosen (move_assignment d k) (One Semicolon ∷ stack) n below) go ≡ Some past → noted (chosen (move_beginning d k) stack n below') go ≡ Some past
beginning_kind kinds.Semicolon d stack n below below' go past h = none_some past h
beginning_kind kinds.Int d stack n below below' go past h = none_some past h
beginning_kind kinds.Name d stack n below below' go past h = h
beginning_kind kinds.Increment d stack n below below' go past h = h
beginning_kind kinds.Decrement d stack n below below' go past h = h
beginning_kind _ d stack n below below' go past h = none_some past h

pub begins_assigning : (ts : List Token) (d : ℕ) (stack : List Symbol) (n : ℕ) (past : List Bool) → trace ts (Assignment d ∷ One Semicolon ∷ stack) n ≡ Some past → trace ts (Beginning d ∷ stack) n ≡ Some past
begins_assigning [] d stack n past h = none_some past h
begins_assigning (t ∷ ts) d stack n past h = beginning_kind t.kind d stack n _ _ (trace ts) past h

step_kind : (k : Kind) (d : ℕ) (stack : List Symbol) (n : ℕ) (below below' : After) (go : List Symbol → ℕ → Option (List Bool)) (past : List Bool) → noted (chosen (move_assignment d k) (One Close ∷ stack) n below) go ≡ Some past → noted (chosen (move_step d k) stack n below') go ≡ Some past
step_kind kinds.Close d stack n below below' go past h = none_some past h
step_kind kinds.Name d stack n below below' go past h = h
step_kind kinds.Increment d stack n below below' go past h = h
step_kind kinds.Decrement d stack n below below' go past h = h
step_kind _ d stack n below below' go past h = none_some past h

pub steps_assigning : (ts : List Token) (d : ℕ) (stack : List Symbol) (n : ℕ) (past : List Bool) → trace ts (Assignment d ∷ One Close ∷ stack) n ≡ Some past → trace ts (Step d ∷ stack) n ≡ Some past
steps_assigning [] d stack n past h = none_some past h
steps_assigning (t ∷ ts) d stack n past h = step_kind t.kind d stack n _ _ (trace ts) past h

local_kind : (k : Kind) (d : ℕ) (stack : List Symbol) (n : ℕ) (below below' : After) (go : List Symbol → ℕ → Option (List Bool)) (past : List Bool) → noted (chosen (move_named k) (LocalInitial d ∷ Locals d ∷ stack) n below) go ≡ Some past → noted (chosen (move_declaration d k) stack n below') go ≡ Some past
local_kind kinds.CilkReducer d stack n below below' go past h = none_some past h
local_kind kinds.Name d stack n below below' go past h = h
local_kind _ d stack n below below' go past h = none_some past h

pub declares_locals : (ts : List Token) (d : ℕ) (stack : List Symbol) (n : ℕ) (past : List Bool) → trace ts (Named ∷ LocalInitial d ∷ Locals d ∷ stack) n ≡ Some past → trace ts (Declaration d ∷ stack) n ≡ Some past
declares_locals [] d stack n past h = none_some past h
declares_locals (t ∷ ts) d stack n past h = local_kind t.kind d stack n _ _ (trace ts) past h

name_kind : (k : Kind) (stack : List Symbol) (n : ℕ) (below below' : After) (go : List Symbol → ℕ → Option (List Bool)) (past : List Bool) → noted (chosen (move_named k) (Declared ∷ stack) n below) go ≡ Some past → noted (chosen (move_item k) stack n below') go ≡ Some past
name_kind kinds.CilkReducer stack n below below' go past h = none_some past h
name_kind kinds.Name stack n below below' go past h = h
name_kind _ stack n below below' go past h = none_some past h

pub declares_name : (ts : List Token) (stack : List Symbol) (n : ℕ) (past : List Bool) → trace ts (Named ∷ Declared ∷ stack) n ≡ Some past → trace ts (Item ∷ stack) n ≡ Some past
declares_name [] stack n past h = none_some past h
declares_name (t ∷ ts) stack n past h = name_kind t.kind stack n _ _ (trace ts) past h

declared_kind : (k : Kind) (stack : List Symbol) (n : ℕ) (below below' : After) (go : List Symbol → ℕ → Option (List Bool)) (past : List Bool) → noted (chosen (move_initial k) (Variables ∷ stack) n (chosen (move_variables k) stack n below)) go ≡ Some past → noted (chosen (move_declared k) stack n below') go ≡ Some past
declared_kind kinds.Open stack n below below' go past h = none_some past h
declared_kind kinds.Assign stack n below below' go past h = h
declared_kind kinds.OpenBracket stack n below below' go past h = h
declared_kind kinds.Comma stack n below below' go past h = h
declared_kind kinds.Semicolon stack n below below' go past h = h
declared_kind _ stack n below below' go past h = none_some past h

pub declares : (ts : List Token) (stack : List Symbol) (n : ℕ) (past : List Bool) → trace ts (Initial ∷ Variables ∷ stack) n ≡ Some past → trace ts (Declared ∷ stack) n ≡ Some past
declares [] stack n past h = none_some past h
declares (t ∷ ts) stack n past h = declared_kind t.kind stack n _ _ (trace ts) past h

statement_kind : (k : Kind) (d : ℕ) (stack : List Symbol) (n : ℕ) (below below' : After) (go : List Symbol → ℕ → Option (List Bool)) (past : List Bool) → noted (chosen (move_statement d k) (Statements d ∷ stack) n below) go ≡ Some past → noted (chosen (cond (begins_statement k) (followed (Statements d ∷ []) (move_statement d k)) Passes) stack n below') go ≡ Some past
statement_kind kinds.OpenBrace d stack n below below' go past h = h
statement_kind kinds.Semicolon d stack n below below' go past h = h
statement_kind kinds.Int d stack n below below' go past h = h
statement_kind kinds.Name d stack n below below' go past h = h
statement_kind kinds.Increment d stack n below below' go past h = h
statement_kind kinds.Decrement d stack n below below' go past h = h
statement_kind kinds.CilkSpawn d stack n below below' go past h = h
statement_kind kinds.CilkSync d stack n below below' go past h = h
statement_kind kinds.If d stack n below below' go past h = h
statement_kind kinds.While d stack n below below' go past h = h
statement_kind kinds.For d stack n below below' go past h = h
statement_kind kinds.CilkFor d stack n below below' go past h = h
statement_kind kinds.Return d stack n below below' go past h = h
statement_kind kinds.Print d stack n below below' go past h = h
statement_kind kinds.Update d stack n below below' go past h = h
statement_kind kinds.Set d stack n below below' go past h = h
statement_kind _ d stack n below below' go past h = none_some past h

pub repeats : (ts : List Token) (d : ℕ) (stack : List Symbol) (n : ℕ) (past : List Bool) → trace ts (Statement d ∷ Statements d ∷ stack) n ≡ Some past → trace ts (Statements d ∷ stack) n ≡ Some past
repeats [] d stack n past h = none_some past h
repeats (t ∷ ts) d stack n past h = statement_kind t.kind d stack n _ _ (trace ts) past h

initial_kind : (k : Kind) (stack : List Symbol) (n : ℕ) (below : After) (go : List Symbol → ℕ → Option (List Bool)) (past : List Bool) → noted (chosen (move_variables k) stack n below) go ≡ Some past → noted (chosen (move_initial k) (Variables ∷ stack) n (chosen (move_variables k) stack n below)) go ≡ Some past
initial_kind kinds.Assign stack n below go past h = none_some past h
initial_kind kinds.OpenBracket stack n below go past h = none_some past h
initial_kind _ stack n below go past h = h

pub absent : (ts : List Token) (stack : List Symbol) (n : ℕ) (past : List Bool) → trace ts (Variables ∷ stack) n ≡ Some past → trace ts (Initial ∷ Variables ∷ stack) n ≡ Some past
absent [] stack n past h = none_some past h
absent (t ∷ ts) stack n past h = initial_kind t.kind stack n (after stack n t.kind) (trace ts) past h

source_absent : (k : Kind) (d : ℕ) (stack : List Symbol) (n : ℕ) (below : After) (go : List Symbol → ℕ → Option (List Bool)) (past : List Bool) → noted (chosen (move_locals d k) stack n below) go ≡ Some past → noted (chosen (move_local_initial d k) (Locals d ∷ stack) n (chosen (move_locals d k) stack n below)) go ≡ Some past
source_absent kinds.Assign d stack n below go past h = none_some past h
source_absent _ d stack n below go past h = h

pub no_source : (ts : List Token) (d : ℕ) (stack : List Symbol) (n : ℕ) (past : List Bool) → trace ts (Locals d ∷ stack) n ≡ Some past → trace ts (LocalInitial d ∷ Locals d ∷ stack) n ≡ Some past
no_source [] d stack n past h = none_some past h
no_source (t ∷ ts) d stack n past h = source_absent t.kind d stack n (after stack n t.kind) (trace ts) past h

-- no parenthesis is expected
abbrev pub NoCall : List Symbol → Type 0
NoCall stack = (n : ℕ) → after stack n kinds.Open ≡ Fails

rest_kind : (k : Kind) (d : ℕ) (stack : List Symbol) (n : ℕ) (below : After) (go : List Symbol → ℕ → Option (List Bool)) (past : List Bool) → (k ≡ kinds.Open → below ≡ Fails) → noted (chosen (move_index d k) (Tail d ∷ Anew ∷ stack) n (chosen (move_tail d (level_of k)) (Anew ∷ stack) n below)) go ≡ Some past → noted (chosen (move_source_rest d k) stack n below) go ≡ Some past
rest_kind kinds.Open d stack n below go past s h = none_some past (ap (λ a. noted a go) (sym (s refl)) ∙ h)
rest_kind kinds.OpenBracket d stack n below go past s h = h
rest_kind kinds.Or d stack n below go past s h = h
rest_kind kinds.And d stack n below go past s h = h
rest_kind kinds.Equal d stack n below go past s h = h
rest_kind kinds.NotEqual d stack n below go past s h = h
rest_kind kinds.Less d stack n below go past s h = h
rest_kind kinds.LessEqual d stack n below go past s h = h
rest_kind kinds.Greater d stack n below go past s h = h
rest_kind kinds.GreaterEqual d stack n below go past s h = h
rest_kind kinds.Plus d stack n below go past s h = h
rest_kind kinds.Minus d stack n below go past s h = h
rest_kind kinds.Star d stack n below go past s h = h
rest_kind kinds.Slash d stack n below go past s h = h
rest_kind kinds.Percent d stack n below go past s h = h
rest_kind _ d stack n below go past s h = h

rest_goes : (ts : List Token) (d : ℕ) (stack : List Symbol) (n : ℕ) (past : List Bool) → NoCall stack → trace ts (Index d ∷ Tail d ∷ Anew ∷ stack) n ≡ Some past → trace ts (SourceRest d ∷ stack) n ≡ Some past
rest_goes [] d stack n past s h = h
rest_goes (t ∷ ts) d stack n past s h = rest_kind t.kind d stack n (after stack 0 t.kind) (trace ts) past (λ e. ap (after stack 0) e ∙ s 0) h

abbrev Ahead : Bool → Option (List Bool) → List Bool → Type 0
Ahead b o past = (more : List Bool) × (o ≡ Some more) × (b ∷ more ≡ past)

in_front : (b : Bool) (o : Option (List Bool)) (past : List Bool) → ahead b o ≡ Some past → Ahead b o past
in_front b None past h = cc
in_front b (Some more) past h = (more, refl, cc)

named_goes : (ts : List Token) (d : ℕ) (stack : List Symbol) (n : ℕ) (b : Bool) (past : List Bool) → NoCall stack → ahead b (trace ts (Index d ∷ Tail d ∷ Anew ∷ stack) n) ≡ Some past → ahead b (trace ts (SourceRest d ∷ stack) n) ≡ Some past
named_goes ts d stack n b past s h =
    let f = in_front b (trace ts (Index d ∷ Tail d ∷ Anew ∷ stack) n) past h in
    ap (ahead b) (rest_goes ts d stack n f.0 s f.1) ∙ ap Some f.2

source_kind : (k : Kind) (d : ℕ) (ts : List Token) (stack : List Symbol) (n : ℕ) (below below' : After) (past : List Bool) → NoCall stack → noted (chosen (move_operand d k) (Tail d ∷ Anew ∷ stack) n below) (trace ts) ≡ Some past → noted (chosen (move_source d k) stack n below') (trace ts) ≡ Some past
source_kind kinds.CilkSpawn d ts stack n below below' past s h = none_some past h
source_kind kinds.Name d ts stack n below below' past s h = named_goes ts d stack n (is_deep d) past s h
source_kind kinds.Minus d ts stack n below below' past s h = h
source_kind kinds.Not d ts stack n below below' past s h = h
source_kind kinds.Open d ts stack n below below' past s h = h
source_kind kinds.Value d ts stack n below below' past s h = h
source_kind kinds.Input d ts stack n below below' past s h = h
source_kind kinds.InputCount d ts stack n below below' past s h = h
source_kind (kinds.Number v) d ts stack n below below' past s h = h
source_kind _ d ts stack n below below' past s h = none_some past h

-- the right side of a variable
pub takes_value : (ts : List Token) (d : ℕ) (stack : List Symbol) (n : ℕ) (past : List Bool) → NoCall stack → trace ts (Operand d ∷ Tail d ∷ Anew ∷ stack) n ≡ Some past → trace ts (Source d ∷ stack) n ≡ Some past
takes_value [] d stack n past s h = none_some past h
takes_value (t ∷ ts) d stack n past s h = source_kind t.kind d ts stack n _ _ past s h

after_name_kind : (k : Kind) (d : ℕ) (ts : List Token) (stack : List Symbol) (n : ℕ) (below below' : After) (past : List Bool) → noted (chosen (move_subscript d k) (Operation d ∷ One Semicolon ∷ stack) n (chosen (move_operation d k) (One Semicolon ∷ stack) n below)) (trace ts) ≡ Some past → noted (chosen (move_after_name d k) stack n below') (trace ts) ≡ Some past
after_name_kind kinds.Open d ts stack n below below' past h = none_some past h
after_name_kind kinds.Assign d ts stack n below below' past h =
    let f = in_front false (trace ts (Operand d ∷ Tail d ∷ Anew ∷ One Semicolon ∷ stack) n) past h in
    ap (ahead false) (takes_value ts d (One Semicolon ∷ stack) n f.0 (λ m. refl) f.1) ∙ ap Some f.2
after_name_kind kinds.OpenBracket d ts stack n below below' past h = h
after_name_kind kinds.PlusAssign d ts stack n below below' past h = h
after_name_kind kinds.MinusAssign d ts stack n below below' past h = h
after_name_kind kinds.StarAssign d ts stack n below below' past h = h
after_name_kind kinds.Increment d ts stack n below below' past h = h
after_name_kind kinds.Decrement d ts stack n below below' past h = h
after_name_kind _ d ts stack n below below' past h = none_some past h

-- an assignment that begins with a name
pub assigns : (ts : List Token) (d : ℕ) (stack : List Symbol) (n : ℕ) (past : List Bool) → trace ts (Subscript d ∷ Operation d ∷ One Semicolon ∷ stack) n ≡ Some past → trace ts (AfterName d ∷ stack) n ≡ Some past
assigns [] d stack n past h = none_some past h
assigns (t ∷ ts) d stack n past h = after_name_kind t.kind d ts stack n _ _ past h

else_kind : (k : Kind) (d : ℕ) (stack : List Symbol) (n : ℕ) (below : After) → k ≢ kinds.Else → chosen (move_else d k) stack n below ≡ below
else_kind kinds.Else d stack n below h = absurd (h refl)
else_kind _ d stack n below h = refl

pub no_else : (ts : List Token) (d : ℕ) (stack : List Symbol) (n : ℕ) → NoElse ts → trace ts (ElsePart d ∷ stack) n ≡ trace ts stack n
no_else [] d stack n h = refl
no_else (t ∷ ts) d stack n h = ap (λ a. noted a (trace ts)) (else_kind t.kind d stack n (after stack n t.kind) h)

-- an expression ends before a comma or a closing mark
local_ends : (k : Kind) (d : ℕ) (stack : List Symbol) (n : ℕ) (below : After) (go : List Symbol → ℕ → Option (List Bool)) (past : List Bool) → noted (chosen (move_locals d k) stack 0 below) go ≡ Some past → noted (chosen (move_tail d (level_of k)) (Anew ∷ Locals d ∷ stack) n (chosen (move_locals d k) stack 0 below)) go ≡ Some past
local_ends kinds.Or d stack n below go past h = none_some past h
local_ends kinds.And d stack n below go past h = none_some past h
local_ends kinds.Equal d stack n below go past h = none_some past h
local_ends kinds.NotEqual d stack n below go past h = none_some past h
local_ends kinds.Less d stack n below go past h = none_some past h
local_ends kinds.LessEqual d stack n below go past h = none_some past h
local_ends kinds.Greater d stack n below go past h = none_some past h
local_ends kinds.GreaterEqual d stack n below go past h = none_some past h
local_ends kinds.Plus d stack n below go past h = none_some past h
local_ends kinds.Minus d stack n below go past h = none_some past h
local_ends kinds.Star d stack n below go past h = none_some past h
local_ends kinds.Slash d stack n below go past h = none_some past h
local_ends kinds.Percent d stack n below go past h = none_some past h
local_ends _ d stack n below go past h = h

pub ends_local : (ts : List Token) (d : ℕ) (stack : List Symbol) (n : ℕ) (past : List Bool) → trace ts (Locals d ∷ stack) 0 ≡ Some past → trace ts (Tail d ∷ Anew ∷ Locals d ∷ stack) n ≡ Some past
ends_local [] d stack n past h = none_some past h
ends_local (t ∷ ts) d stack n past h = local_ends t.kind d stack n (after stack 0 t.kind) (trace ts) past h

argument_ends : (k : Kind) (d : ℕ) (stack : List Symbol) (n : ℕ) (below : After) (go : List Symbol → ℕ → Option (List Bool)) (past : List Bool) → noted (chosen (move_more_arguments d k) stack 0 below) go ≡ Some past → noted (chosen (move_tail d (level_of k)) (Anew ∷ MoreArguments d ∷ stack) n (chosen (move_more_arguments d k) stack 0 below)) go ≡ Some past
argument_ends kinds.Or d stack n below go past h = none_some past h
argument_ends kinds.And d stack n below go past h = none_some past h
argument_ends kinds.Equal d stack n below go past h = none_some past h
argument_ends kinds.NotEqual d stack n below go past h = none_some past h
argument_ends kinds.Less d stack n below go past h = none_some past h
argument_ends kinds.LessEqual d stack n below go past h = none_some past h
argument_ends kinds.Greater d stack n below go past h = none_some past h
argument_ends kinds.GreaterEqual d stack n below go past h = none_some past h
argument_ends kinds.Plus d stack n below go past h = none_some past h
argument_ends kinds.Minus d stack n below go past h = none_some past h
argument_ends kinds.Star d stack n below go past h = none_some past h
argument_ends kinds.Slash d stack n below go past h = none_some past h
argument_ends kinds.Percent d stack n below go past h = none_some past h
argument_ends _ d stack n below go past h = h

pub ends_argument : (ts : List Token) (d : ℕ) (stack : List Symbol) (n : ℕ) (past : List Bool) → trace ts (MoreArguments d ∷ stack) 0 ≡ Some past → trace ts (Tail d ∷ Anew ∷ MoreArguments d ∷ stack) n ≡ Some past
ends_argument [] d stack n past h = none_some past h
ends_argument (t ∷ ts) d stack n past h = argument_ends t.kind d stack n (after stack 0 t.kind) (trace ts) past h
