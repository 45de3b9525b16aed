-- The kinds of tokens, and their spelling.
use Rattle.std.specs.Prelude.{ℕ, Bool, true, false, not, List, [], ◌∷◌}
use Rattle.cilk_syntax.specs.declared.token.Kind.{Kind}
use Rattle.cilk_syntax.specs.declared.token.Kind.TheVariants.{Number, Name, Int, Void, If, Else, While, For, Return, CilkSpawn, CilkSync, CilkFor, CilkReducer, Print, Update, Set, Value, Input, InputCount, Open, Close, OpenBrace, CloseBrace, OpenBracket, CloseBracket, Semicolon, Comma, Assign, Plus, Minus, Star, Slash, Percent, Less, Greater, Not, LessEqual, GreaterEqual, Equal, NotEqual, And, Or, PlusAssign, MinusAssign, StarAssign, Increment, Decrement}

-- the reserved words
abbrev pub is_reserved : Kind → Bool
is_reserved Int = true
is_reserved Void = true
is_reserved If = true
is_reserved Else = true
is_reserved While = true
is_reserved For = true
is_reserved Return = true
is_reserved CilkSpawn = true
is_reserved CilkSync = true
is_reserved CilkFor = true
is_reserved CilkReducer = true
is_reserved Print = true
is_reserved Update = true
is_reserved Set = true
is_reserved Value = true
is_reserved Input = true
is_reserved InputCount = true
is_reserved _ = false

-- the marks
abbrev pub is_mark : Kind → Bool
is_mark (Number n) = false
is_mark Name = false
is_mark k = not (is_reserved k)

-- the bytes of a reserved word or a mark
abbrev pub spelling : Kind → List ℕ
spelling (Number n) = []
spelling Name = []
-- int
spelling Int = 105 ∷ 110 ∷ 116 ∷ []
-- void
spelling Void = 118 ∷ 111 ∷ 105 ∷ 100 ∷ []
-- if
spelling If = 105 ∷ 102 ∷ []
-- else
spelling Else = 101 ∷ 108 ∷ 115 ∷ 101 ∷ []
-- while
spelling While = 119 ∷ 104 ∷ 105 ∷ 108 ∷ 101 ∷ []
-- for
spelling For = 102 ∷ 111 ∷ 114 ∷ []
-- return
spelling Return = 114 ∷ 101 ∷ 116 ∷ 117 ∷ 114 ∷ 110 ∷ []
-- cilk_spawn
spelling CilkSpawn = 99 ∷ 105 ∷ 108 ∷ 107 ∷ 95 ∷ 115 ∷ 112 ∷ 97 ∷ 119 ∷ 110 ∷ []
-- cilk_sync
spelling CilkSync = 99 ∷ 105 ∷ 108 ∷ 107 ∷ 95 ∷ 115 ∷ 121 ∷ 110 ∷ 99 ∷ []
-- cilk_for
spelling CilkFor = 99 ∷ 105 ∷ 108 ∷ 107 ∷ 95 ∷ 102 ∷ 111 ∷ 114 ∷ []
-- cilk_reducer
spelling CilkReducer = 99 ∷ 105 ∷ 108 ∷ 107 ∷ 95 ∷ 114 ∷ 101 ∷ 100 ∷ 117 ∷ 99 ∷ 101 ∷ 114 ∷ []
-- print
spelling Print = 112 ∷ 114 ∷ 105 ∷ 110 ∷ 116 ∷ []
-- update
spelling Update = 117 ∷ 112 ∷ 100 ∷ 97 ∷ 116 ∷ 101 ∷ []
-- set
spelling Set = 115 ∷ 101 ∷ 116 ∷ []
-- value
spelling Value = 118 ∷ 97 ∷ 108 ∷ 117 ∷ 101 ∷ []
-- input
spelling Input = 105 ∷ 110 ∷ 112 ∷ 117 ∷ 116 ∷ []
-- input_count
spelling InputCount = 105 ∷ 110 ∷ 112 ∷ 117 ∷ 116 ∷ 95 ∷ 99 ∷ 111 ∷ 117 ∷ 110 ∷ 116 ∷ []
-- (
spelling Open = 40 ∷ []
-- )
spelling Close = 41 ∷ []
-- {
spelling OpenBrace = 123 ∷ []
-- }
spelling CloseBrace = 125 ∷ []
-- [
spelling OpenBracket = 91 ∷ []
-- ]
spelling CloseBracket = 93 ∷ []
-- ;
spelling Semicolon = 59 ∷ []
-- ,
spelling Comma = 44 ∷ []
-- =
spelling Assign = 61 ∷ []
-- +
spelling Plus = 43 ∷ []
-- -
spelling Minus = 45 ∷ []
-- *
spelling Star = 42 ∷ []
-- /
spelling Slash = 47 ∷ []
-- %
spelling Percent = 37 ∷ []
-- <
spelling Less = 60 ∷ []
-- >
spelling Greater = 62 ∷ []
-- !
spelling Not = 33 ∷ []
-- <=
spelling LessEqual = 60 ∷ 61 ∷ []
-- >=
spelling GreaterEqual = 62 ∷ 61 ∷ []
-- ==
spelling Equal = 61 ∷ 61 ∷ []
-- !=
spelling NotEqual = 33 ∷ 61 ∷ []
-- &&
spelling And = 38 ∷ 38 ∷ []
-- ||
spelling Or = 124 ∷ 124 ∷ []
-- +=
spelling PlusAssign = 43 ∷ 61 ∷ []
-- -=
spelling MinusAssign = 45 ∷ 61 ∷ []
-- *=
spelling StarAssign = 42 ∷ 61 ∷ []
-- ++
spelling Increment = 43 ∷ 43 ∷ []
-- --
spelling Decrement = 45 ∷ 45 ∷ []
