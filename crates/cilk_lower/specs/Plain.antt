-- Programs without reducers and without a `print`.
use Rattle.std.specs.Prelude.{Bool, true, false, ◌&&◌, ◌==◌, length}
use Rattle.std.specs.List.{list_all}
use Rattle.cilk_program.specs.Syntax.{Statement, Empty, Block, Declare, Assign, Change, Step, Invokes, Sync, If, IfElse, For, ParallelFor, Print, Update, Set, Return, Statements, Nothing, Then, Function, Loop, Source}

abbrev mutual
  -- A statement without a `print`. It may update a reducer. In a well-named program without
  -- reducers no statement does, since there is none to name.
  pub is_silent : Statement → Bool
  is_silent Empty = true
  is_silent (Block row) = row_is_silent row
  is_silent (Declare ds) = true
  is_silent (Assign t e) = true
  is_silent (Change t op e) = true
  is_silent (Step t n) = true
  is_silent (Invokes i) = true
  is_silent Sync = true
  is_silent (If e s) = is_silent s
  is_silent (IfElse e s other) = is_silent s && is_silent other
  is_silent (For row test step s) = row_is_silent row && (is_silent s && row_is_silent step)
  is_silent (ParallelFor a b n) = true
  is_silent (Print e) = false
  is_silent (Update r e) = true
  is_silent (Set r e) = true
  is_silent (Return e) = true

  pub row_is_silent : Statements → Bool
  row_is_silent Nothing = true
  row_is_silent (Then s row) = is_silent s && row_is_silent row

-- the function has no reducer parameters, declares no reducers, and prints nothing
abbrev pub function_is_plain : Function → Bool
function_is_plain f = (length f.given == 0) && ((length f.reducers == 0) && row_is_silent f.body)

abbrev pub loop_is_plain : Loop → Bool
loop_is_plain l = row_is_silent l.body

-- the program has no reducer and no `print`
abbrev pub is_plain : Source → Bool
is_plain p = (length p.reducers == 0) && (list_all function_is_plain p.functions && list_all loop_is_plain p.loops)
