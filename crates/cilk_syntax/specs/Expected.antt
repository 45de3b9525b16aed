-- Which tokens may come next. The expected symbols are a list; each token is read by the first
-- symbol that it fits. The number of operators read in the current expression is counted along with
-- it.
use Rattle.std.specs.Prelude.{ℕ, pos, Bool, true, false, ◌+◌, ◌||◌, ◌&&◌, if◌then◌else◌, List, [], ◌∷◌, ◌++◌, Option, Some, None}
use Rattle.std.specs.Ordering.{int_eq}
use Rattle.cilk_syntax.specs.declared.token.Kind.{Kind}
use Rattle.cilk_syntax.specs.declared.token.Kind.TheVariants as kinds
use Rattle.cilk_syntax.specs.declared.token.Token.{Token}
use Rattle.cilk_syntax.specs.declared.marks.Punct.{Punct}
use Rattle.cilk_syntax.specs.declared.marks.Punct.TheVariants.{Open, Close, OpenBrace, CloseBrace, CloseBracket, Semicolon, Comma, Assign, Less, Int}
use Rattle.cilk_syntax.specs.declared.tree.ReturnType.{ReturnType}
use Rattle.cilk_syntax.specs.declared.tree.ReturnType.TheVariants as types
use Rattle.cilk_syntax.specs.Limits.{is_deep, is_many}

abbrev pub kind_of : Punct → Kind
kind_of Open = kinds.Open
kind_of Close = kinds.Close
kind_of OpenBrace = kinds.OpenBrace
kind_of CloseBrace = kinds.CloseBrace
kind_of CloseBracket = kinds.CloseBracket
kind_of Semicolon = kinds.Semicolon
kind_of Comma = kinds.Comma
kind_of Assign = kinds.Assign
kind_of Less = kinds.Less
kind_of Int = kinds.Int

-- the kind is the mark's
abbrev pub fits : Punct → Kind → Bool
fits Open kinds.Open = true
fits Close kinds.Close = true
fits OpenBrace kinds.OpenBrace = true
fits CloseBrace kinds.CloseBrace = true
fits CloseBracket kinds.CloseBracket = true
fits Semicolon kinds.Semicolon = true
fits Comma kinds.Comma = true
fits Assign kinds.Assign = true
fits Less kinds.Less = true
fits Int kinds.Int = true
fits _ _ = false

-- an expected symbol, with the number of statements and parts of expressions that it is nested in
pub data Symbol : Type 0 where
  One : (mark : Punct) → Symbol
  Named : Symbol
  Numeral : Symbol
  -- the number 1
  Single : Symbol
  -- a part of an expression, without operators between operands
  Operand : (depth : ℕ) → Symbol
  -- the index of an element that is read, or nothing
  Index : (depth : ℕ) → Symbol
  -- the operators that follow, each with its right operand
  Tail : (depth : ℕ) → Symbol
  -- an expression ends, and the count of operators starts again
  Anew : Symbol
  -- an expression and a semicolon, or the semicolon alone
  Optional : (depth : ℕ) → Symbol
  Statement : (depth : ℕ) → Symbol
  Statements : (depth : ℕ) → Symbol
  ElsePart : (depth : ℕ) → Symbol
  -- the rest of a statement that begins with a name
  AfterName : (depth : ℕ) → Symbol
  Assignment : (depth : ℕ) → Symbol
  -- the index of an element that is written, or nothing
  Subscript : (depth : ℕ) → Symbol
  -- an operation on the place before it
  Operation : (depth : ℕ) → Symbol
  -- the right side of an assignment or initializer: an expression or a call
  Source : (depth : ℕ) → Symbol
  -- the rest of a right side that begins with a name
  SourceRest : (depth : ℕ) → Symbol
  -- the arguments of a call, with the closing parenthesis
  Arguments : (depth : ℕ) → Symbol
  MoreArguments : (depth : ℕ) → Symbol
  -- the rest of a statement that begins with `int`
  Declaration : (depth : ℕ) → Symbol
  -- `=` and a right side, or nothing
  LocalInitial : (depth : ℕ) → Symbol
  -- the end of a line of local variables, or a comma and more variables
  Locals : (depth : ℕ) → Symbol
  -- the first part of the head of a `for`, with its semicolon
  Beginning : (depth : ℕ) → Symbol
  -- the last part of that head, with the parenthesis
  Step : (depth : ℕ) → Symbol
  -- the last part of the head of a `cilk_for`
  UnitStep : Symbol
  UnitStepRest : Symbol
  -- the rest of an item that begins with `int`
  Item : Symbol
  -- the rest of an item that begins with `int` and a name
  Declared : Symbol
  -- a number, or a minus and a number
  Literal : Symbol
  -- `=` and a literal, the length of an array, or nothing
  Initial : Symbol
  -- the end of a line of variables, or a comma and more variables
  Variables : Symbol
  -- the parameters of a function, with the closing parenthesis
  Parameters : Symbol
  -- the rest of a parameter after its `int`
  Parameter : Symbol
  MoreParameters : Symbol
  Items : Symbol

-- what a symbol does with a token
pub data Move : Type 0 where
  -- reads it, and is replaced by these symbols; depth is that of the part that begins here, or 0 if
  -- none begins
  Takes : (depth : ℕ) (symbols : List Symbol) → Move
  -- the same, for an operator
  Counts : (depth : ℕ) (symbols : List Symbol) → Move
  -- needs no more tokens, so the next symbol gets the token
  Passes : Move
  Refuses : Move

-- the level of an operator, from 0 for the weakest; none for other tokens
abbrev pub level_of : Kind → Option ℕ
level_of kinds.Or = Some 0
level_of kinds.And = Some 1
level_of kinds.Equal = Some 2
level_of kinds.NotEqual = Some 2
level_of kinds.Less = Some 3
level_of kinds.LessEqual = Some 3
level_of kinds.Greater = Some 3
level_of kinds.GreaterEqual = Some 3
level_of kinds.Plus = Some 4
level_of kinds.Minus = Some 4
level_of kinds.Star = Some 5
level_of kinds.Slash = Some 5
level_of kinds.Percent = Some 5
level_of _ = None

-- a part of an expression can begin with it
abbrev pub begins_part : Kind → Bool
begins_part (kinds.Number n) = true
begins_part kinds.Name = true
begins_part kinds.Minus = true
begins_part kinds.Not = true
begins_part kinds.Open = true
begins_part kinds.Value = true
begins_part kinds.Input = true
begins_part kinds.InputCount = true
begins_part _ = false

abbrev pub move_one : Bool → Move
move_one true = Takes 0 []
move_one false = Refuses

abbrev pub move_named : Kind → Move
move_named kinds.Name = Takes 0 []
move_named _ = Refuses

abbrev pub move_numeral : Kind → Move
move_numeral (kinds.Number n) = Takes 0 []
move_numeral _ = Refuses

abbrev pub move_single : Kind → Move
move_single (kinds.Number n) = move_one (int_eq n (pos 1))
move_single _ = Refuses

abbrev pub move_operand : ℕ → Kind → Move
move_operand d (kinds.Number n) = Takes d []
move_operand d kinds.Name = Takes d (Index d ∷ [])
move_operand d kinds.Minus = Counts d (Operand (d + 1) ∷ [])
move_operand d kinds.Not = Counts d (Operand (d + 1) ∷ [])
move_operand d kinds.Open = Takes d (Operand (d + 1) ∷ Tail (d + 1) ∷ One Close ∷ [])
move_operand d kinds.Value = Takes d (One Open ∷ Named ∷ One Close ∷ [])
move_operand d kinds.Input = Takes d (One Open ∷ Operand (d + 1) ∷ Tail (d + 1) ∷ One Close ∷ [])
move_operand d kinds.InputCount = Takes d (One Open ∷ One Close ∷ [])
move_operand d _ = Refuses

abbrev pub move_index : ℕ → Kind → Move
move_index d kinds.OpenBracket = Takes 0 (Operand (d + 1) ∷ Tail (d + 1) ∷ One CloseBracket ∷ [])
move_index d _ = Passes

abbrev pub move_tail : ℕ → Option ℕ → Move
move_tail d (Some level) = Counts 0 (Operand d ∷ Tail d ∷ [])
move_tail d None = Passes

-- the same move, with more symbols after it
abbrev pub followed : List Symbol → Move → Move
followed more (Takes d symbols) = Takes d (symbols ++ more)
followed more (Counts d symbols) = Counts d (symbols ++ more)
followed more Passes = Passes
followed more Refuses = Refuses

abbrev pub move_optional : ℕ → Kind → Move
move_optional d kinds.Semicolon = Takes 0 []
move_optional d x = followed (Tail d ∷ Anew ∷ One Semicolon ∷ []) (move_operand d x)

abbrev pub move_after_name : ℕ → Kind → Move
move_after_name d kinds.Open = Takes 0 (Arguments d ∷ One Semicolon ∷ [])
move_after_name d kinds.Assign = Takes 0 (Source d ∷ One Semicolon ∷ [])
move_after_name d kinds.OpenBracket =
    Takes 0 (Operand (d + 1) ∷ Tail (d + 1) ∷ Anew ∷ One CloseBracket ∷ Operation d ∷ One Semicolon ∷ [])
move_after_name d kinds.PlusAssign = Takes 0 (Operand d ∷ Tail d ∷ Anew ∷ One Semicolon ∷ [])
move_after_name d kinds.MinusAssign = Takes 0 (Operand d ∷ Tail d ∷ Anew ∷ One Semicolon ∷ [])
move_after_name d kinds.StarAssign = Takes 0 (Operand d ∷ Tail d ∷ Anew ∷ One Semicolon ∷ [])
move_after_name d kinds.Increment = Takes 0 (One Semicolon ∷ [])
move_after_name d kinds.Decrement = Takes 0 (One Semicolon ∷ [])
move_after_name d _ = Refuses

abbrev pub move_assignment : ℕ → Kind → Move
move_assignment d kinds.Name = Takes 0 (Subscript d ∷ Operation d ∷ [])
move_assignment d kinds.Increment = Takes 0 (Named ∷ Subscript d ∷ [])
move_assignment d kinds.Decrement = Takes 0 (Named ∷ Subscript d ∷ [])
move_assignment d _ = Refuses

abbrev pub move_subscript : ℕ → Kind → Move
move_subscript d kinds.OpenBracket = Takes 0 (Operand (d + 1) ∷ Tail (d + 1) ∷ Anew ∷ One CloseBracket ∷ [])
move_subscript d _ = Passes

abbrev pub move_operation : ℕ → Kind → Move
move_operation d kinds.Assign = Takes 0 (Operand d ∷ Tail d ∷ Anew ∷ [])
move_operation d kinds.PlusAssign = Takes 0 (Operand d ∷ Tail d ∷ Anew ∷ [])
move_operation d kinds.MinusAssign = Takes 0 (Operand d ∷ Tail d ∷ Anew ∷ [])
move_operation d kinds.StarAssign = Takes 0 (Operand d ∷ Tail d ∷ Anew ∷ [])
move_operation d kinds.Increment = Takes 0 []
move_operation d kinds.Decrement = Takes 0 []
move_operation d _ = Refuses

abbrev pub move_source : ℕ → Kind → Move
move_source d kinds.CilkSpawn = Takes d (Named ∷ One Open ∷ Arguments d ∷ [])
move_source d kinds.Name = Takes d (SourceRest d ∷ [])
move_source d x = followed (Tail d ∷ Anew ∷ []) (move_operand d x)

abbrev pub move_source_rest : ℕ → Kind → Move
move_source_rest d kinds.Open = Takes 0 (Arguments d ∷ [])
move_source_rest d kinds.OpenBracket = Takes 0 (Operand (d + 1) ∷ Tail (d + 1) ∷ One CloseBracket ∷ Tail d ∷ Anew ∷ [])
move_source_rest d x = followed (Anew ∷ []) (move_tail d (level_of x))

abbrev pub move_arguments : ℕ → Kind → Move
move_arguments d kinds.Close = Takes 0 []
move_arguments d x = followed (Tail d ∷ Anew ∷ MoreArguments d ∷ []) (move_operand d x)

abbrev pub move_more_arguments : ℕ → Kind → Move
move_more_arguments d kinds.Comma = Takes 0 (Operand d ∷ Tail d ∷ Anew ∷ MoreArguments d ∷ [])
move_more_arguments d kinds.Close = Takes 0 []
move_more_arguments d _ = Refuses

abbrev pub move_declaration : ℕ → Kind → Move
move_declaration d kinds.Name = Takes 0 (LocalInitial d ∷ Locals d ∷ [])
move_declaration d kinds.CilkReducer = Takes 0 (One Open ∷ Named ∷ One Close ∷ Named ∷ One Semicolon ∷ [])
move_declaration d _ = Refuses

abbrev pub move_local_initial : ℕ → Kind → Move
move_local_initial d kinds.Assign = Takes 0 (Source d ∷ [])
move_local_initial d _ = Passes

abbrev pub move_locals : ℕ → Kind → Move
move_locals d kinds.Comma = Takes 0 (Named ∷ LocalInitial d ∷ Locals d ∷ [])
move_locals d kinds.Semicolon = Takes 0 []
move_locals d _ = Refuses

abbrev pub move_beginning : ℕ → Kind → Move
move_beginning d kinds.Semicolon = Takes 0 []
move_beginning d kinds.Int = Takes 0 (Named ∷ One Assign ∷ Operand d ∷ Tail d ∷ Anew ∷ One Semicolon ∷ [])
move_beginning d x = followed (One Semicolon ∷ []) (move_assignment d x)

abbrev pub move_step : ℕ → Kind → Move
move_step d kinds.Close = Takes 0 []
move_step d x = followed (One Close ∷ []) (move_assignment d x)

abbrev pub move_unit_step : Kind → Move
move_unit_step kinds.Increment = Takes 0 (Named ∷ [])
move_unit_step kinds.Name = Takes 0 (UnitStepRest ∷ [])
move_unit_step _ = Refuses

abbrev pub move_unit_step_rest : Kind → Move
move_unit_step_rest kinds.Increment = Takes 0 []
move_unit_step_rest kinds.PlusAssign = Takes 0 (Single ∷ [])
move_unit_step_rest _ = Refuses

-- a statement can begin with it
abbrev pub begins_statement : Kind → Bool
begins_statement kinds.OpenBrace = true
begins_statement kinds.Semicolon = true
begins_statement kinds.Int = true
begins_statement kinds.Name = true
begins_statement kinds.Increment = true
begins_statement kinds.Decrement = true
begins_statement kinds.CilkSpawn = true
begins_statement kinds.CilkSync = true
begins_statement kinds.If = true
begins_statement kinds.While = true
begins_statement kinds.For = true
begins_statement kinds.CilkFor = true
begins_statement kinds.Return = true
begins_statement kinds.Print = true
begins_statement kinds.Update = true
begins_statement kinds.Set = true
begins_statement _ = false

abbrev pub first_begins : List Token → Bool
first_begins [] = false
first_begins (t ∷ ts) = begins_statement t.kind

-- a statement that begins with it contains other statements
abbrev pub nests : Kind → Bool
nests kinds.OpenBrace = true
nests kinds.If = true
nests kinds.While = true
nests kinds.For = true
nests kinds.CilkFor = true
nests _ = false

abbrev pub first_nests : List Token → Bool
first_nests [] = false
first_nests (t ∷ ts) = nests t.kind

-- the kind is a name
abbrev pub is_name : Kind → Bool
is_name kinds.Name = true
is_name _ = false

abbrev pub is_open : Kind → Bool
is_open kinds.Open = true
is_open _ = false

abbrev pub begins_call : List Token → Bool
begins_call (t ∷ u ∷ ts) = is_name t.kind && is_open u.kind
begins_call _ = false

abbrev pub move_statement : ℕ → Kind → Move
move_statement d kinds.OpenBrace = Takes d (Statements (d + 1) ∷ One CloseBrace ∷ [])
move_statement d kinds.Semicolon = Takes d []
move_statement d kinds.Int = Takes d (Declaration d ∷ [])
move_statement d kinds.Name = Takes d (AfterName d ∷ [])
move_statement d kinds.Increment = Takes d (Named ∷ Subscript d ∷ One Semicolon ∷ [])
move_statement d kinds.Decrement = Takes d (Named ∷ Subscript d ∷ One Semicolon ∷ [])
move_statement d kinds.CilkSpawn = Takes d (Named ∷ One Open ∷ Arguments d ∷ One Semicolon ∷ [])
move_statement d kinds.CilkSync = Takes d (One Semicolon ∷ [])
move_statement d kinds.If =
    Takes d (One Open ∷ Operand d ∷ Tail d ∷ Anew ∷ One Close ∷ Statement (d + 1) ∷ ElsePart (d + 1) ∷ [])
move_statement d kinds.While = Takes d (One Open ∷ Operand d ∷ Tail d ∷ Anew ∷ One Close ∷ Statement (d + 1) ∷ [])
move_statement d kinds.For = Takes d (One Open ∷ Beginning d ∷ Optional d ∷ Step d ∷ Statement (d + 1) ∷ [])
move_statement d kinds.CilkFor =
    Takes d (One Open ∷ One Int ∷ Named ∷ One Assign ∷ Operand d ∷ Tail d ∷ Anew ∷ One Semicolon
    ∷ Named ∷ One Less ∷ Operand d ∷ Tail d ∷ Anew ∷ One Semicolon ∷ UnitStep ∷ One Close ∷ Statement (d + 1) ∷ [])
move_statement d kinds.Return = Takes d (Optional d ∷ [])
move_statement d kinds.Print = Takes d (One Open ∷ Operand d ∷ Tail d ∷ Anew ∷ One Close ∷ One Semicolon ∷ [])
move_statement d kinds.Update =
    Takes d (One Open ∷ Named ∷ One Comma ∷ Operand d ∷ Tail d ∷ Anew ∷ One Close ∷ One Semicolon ∷ [])
move_statement d kinds.Set =
    Takes d (One Open ∷ Named ∷ One Comma ∷ Operand d ∷ Tail d ∷ Anew ∷ One Close ∷ One Semicolon ∷ [])
move_statement d _ = Refuses

-- one statement and then more, or no more
abbrev pub move_statements : ℕ → Kind → Move
move_statements d x = if begins_statement x then followed (Statements d ∷ []) (move_statement d x) else Passes

abbrev pub move_else : ℕ → Kind → Move
move_else d kinds.Else = Takes 0 (Statement d ∷ [])
move_else d _ = Passes

abbrev pub move_item : Kind → Move
move_item kinds.Name = Takes 0 (Declared ∷ [])
move_item kinds.CilkReducer = Takes 0 (One Open ∷ Named ∷ One Close ∷ Named ∷ One Semicolon ∷ [])
move_item _ = Refuses

abbrev pub move_declared : Kind → Move
move_declared kinds.Open = Takes 0 (Parameters ∷ One OpenBrace ∷ Statements 0 ∷ One CloseBrace ∷ [])
move_declared kinds.Assign = Takes 0 (Literal ∷ Variables ∷ [])
move_declared kinds.OpenBracket = Takes 0 (Numeral ∷ One CloseBracket ∷ Variables ∷ [])
move_declared kinds.Comma = Takes 0 (Named ∷ Initial ∷ Variables ∷ [])
move_declared kinds.Semicolon = Takes 0 []
move_declared _ = Refuses

abbrev pub move_literal : Kind → Move
move_literal (kinds.Number n) = Takes 0 []
move_literal kinds.Minus = Takes 0 (Numeral ∷ [])
move_literal _ = Refuses

abbrev pub move_initial : Kind → Move
move_initial kinds.Assign = Takes 0 (Literal ∷ [])
move_initial kinds.OpenBracket = Takes 0 (Numeral ∷ One CloseBracket ∷ [])
move_initial _ = Passes

abbrev pub move_variables : Kind → Move
move_variables kinds.Comma = Takes 0 (Named ∷ Initial ∷ Variables ∷ [])
move_variables kinds.Semicolon = Takes 0 []
move_variables _ = Refuses

abbrev pub move_parameters : Kind → Move
move_parameters kinds.Close = Takes 0 []
move_parameters kinds.Void = Takes 0 (One Close ∷ [])
move_parameters kinds.Int = Takes 0 (Parameter ∷ MoreParameters ∷ [])
move_parameters _ = Refuses

abbrev pub move_parameter : Kind → Move
move_parameter kinds.Name = Takes 0 []
move_parameter kinds.CilkReducer = Takes 0 (One Open ∷ Named ∷ One Close ∷ Named ∷ [])
move_parameter _ = Refuses

abbrev pub move_more_parameters : Kind → Move
move_more_parameters kinds.Comma = Takes 0 (One Int ∷ Parameter ∷ MoreParameters ∷ [])
move_more_parameters kinds.Close = Takes 0 []
move_more_parameters _ = Refuses

-- the symbols after the type that an item begins with
abbrev pub behind_type : ReturnType → List Symbol → List Symbol
behind_type types.Int stack = Item ∷ stack
behind_type types.Void stack = Named ∷ One Open ∷ Parameters ∷ One OpenBrace ∷ Statements 0 ∷ One CloseBrace ∷ stack

abbrev pub move_items : Kind → Move
move_items kinds.Int = Takes 0 (behind_type types.Int (Items ∷ []))
move_items kinds.Void = Takes 0 (behind_type types.Void (Items ∷ []))
move_items _ = Passes

abbrev pub move : Symbol → Kind → Move
move (One mark) x = move_one (fits mark x)
move Named x = move_named x
move Numeral x = move_numeral x
move Single x = move_single x
move (Operand d) x = move_operand d x
move (Index d) x = move_index d x
move (Tail d) x = move_tail d (level_of x)
move Anew x = Passes
move (Optional d) x = move_optional d x
move (Statement d) x = move_statement d x
move (Statements d) x = move_statements d x
move (ElsePart d) x = move_else d x
move (AfterName d) x = move_after_name d x
move (Assignment d) x = move_assignment d x
move (Subscript d) x = move_subscript d x
move (Operation d) x = move_operation d x
move (Source d) x = move_source d x
move (SourceRest d) x = move_source_rest d x
move (Arguments d) x = move_arguments d x
move (MoreArguments d) x = move_more_arguments d x
move (Declaration d) x = move_declaration d x
move (LocalInitial d) x = move_local_initial d x
move (Locals d) x = move_locals d x
move (Beginning d) x = move_beginning d x
move (Step d) x = move_step d x
move UnitStep x = move_unit_step x
move UnitStepRest x = move_unit_step_rest x
move Item x = move_item x
move Declared x = move_declared x
move Literal x = move_literal x
move Initial x = move_initial x
move Variables x = move_variables x
move Parameters x = move_parameters x
move Parameter x = move_parameter x
move MoreParameters x = move_more_parameters x
move Items x = move_items x

-- the count of operators after a symbol passes a token on
abbrev pub passed : Symbol → ℕ → ℕ
passed Anew n = 0
passed (SourceRest d) n = 0
passed s n = n

-- the expected symbols after a token, and whether it is past a limit; or a token that isn't
-- expected
pub data After : Type 0 where
  Goes : (past : Bool) (stack : List Symbol) (count : ℕ) → After
  Fails : After

abbrev pub chosen : Move → List Symbol → ℕ → After → After
chosen (Takes d symbols) stack n below = Goes (is_deep d) (symbols ++ stack) n
chosen (Counts d symbols) stack n below = Goes (is_deep d || is_many (n + 1)) (symbols ++ stack) (n + 1)
chosen Passes stack n below = below
chosen Refuses stack n below = Fails

-- a symbol that passes the token on hands it to the next symbol
abbrev pub after : List Symbol → ℕ → Kind → After
after [] n x = Fails
after (s ∷ stack) n x = chosen (move s x) stack n (after stack (passed s n) x)

-- how reading ends: at the end of the text, at a token that isn't expected, or at one past a limit
pub data Verdict : Type 0 where
  Whole : Verdict
  Unexpected : (rest : List Token) → Verdict
  PastLimit : (rest : List Token) → Verdict

-- the symbol may be empty at the end of a text
abbrev pub may_end : Symbol → Bool
may_end (Index d) = true
may_end (Tail d) = true
may_end Anew = true
may_end (Statements d) = true
may_end (ElsePart d) = true
may_end (Subscript d) = true
may_end (SourceRest d) = true
may_end (LocalInitial d) = true
may_end Initial = true
may_end Items = true
may_end _ = false

abbrev pub at_end : List Symbol → Verdict
at_end [] = Whole
at_end (s ∷ stack) = if may_end s then at_end stack else Unexpected []

abbrev pub settled : After → (List Symbol → ℕ → Verdict) → List Token → Verdict
settled (Goes past stack n) go here = if past then PastLimit here else go stack n
settled Fails go here = Unexpected here

-- how reading these tokens ends, if these symbols are expected
abbrev pub run : List Token → List Symbol → ℕ → Verdict
run [] stack n = at_end stack
run (t ∷ ts) stack n = settled (after stack n t.kind) (run ts) (t ∷ ts)
