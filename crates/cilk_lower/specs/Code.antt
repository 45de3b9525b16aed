-- The code of statements and bodies.
use Rattle.std.specs.Prelude.{◌≡◌, ◌+◌, ◌-◌, ◌<◌, ◌^◌, ◌≤◌, ℕ, zero, suc, pos, Bool, true, false, IsTrue, List, [], ◌∷◌, ◌++◌, length, Option, Some, None, slice_get, unwrap_or, ℤ}
use Rattle.std.proofs.Common.{Vec, arith}
use Rattle.std.specs.declared.alloc.Global.{Global}
use Rattle.cilk_monoid.specs.declared.kind.MonoidKind.{MonoidKind}
use Rattle.cilk_program.specs.declared.ask.Callee.{Callee}
use Rattle.cilk_program.specs.declared.ask.Callee.TheVariants as callees
use Rattle.cilk_program.specs.declared.syntax.Operator.{Operator}
use Rattle.cilk_program.specs.declared.syntax.Place.TheVariants as places
use Rattle.cilk_program.specs.declared.syntax.ReducerPlace.{ReducerPlace}
use Rattle.cilk_program.specs.declared.syntax.ReducerPlace.TheVariants as reducers
use Rattle.cilk_program.specs.Syntax.{Expression, Number, Variable, Element, Negate, Not, Binary, And, Or, Value, Input, InputCount, Target, ToVariable, ToElement, Invoke, Declaration, Zero, Opening, Invoking, Statement, Empty, Block, Declare, Assign, Change, Step, Invokes, Sync, If, IfElse, For, ParallelFor, Print, Update, Set, Return, Statements, Nothing, Then, Function, Loop}
use Rattle.cilk_lower.specs.declared.code.EntryPoint.{EntryPoint}
use Rattle.cilk_lower.specs.declared.code.Instr.{Instr}
use Rattle.cilk_lower.specs.declared.code.Instr.TheVariants as instrs
use Rattle.cilk_lower.specs.declared.code.Site.{Site}
use Rattle.cilk_lower.specs.declared.layout.Layout.{Layout}

-- the instructions so far, without the bytes that they come from
pub record ListingView : Type 0 where
  pub items : List Instr
  pub small : length items < 2 ^ 63

abbrev pub listing_of : Vec Instr Global → ListingView
listing_of v = record { items = v.items; small = omega (arith, v.ok.0, v.ok.1, v.small) }

-- The instructions of all bodies, the call sites, the entry points of the root, the functions and
-- the loops, and the layout of frames.
pub record CodeView : Type 0 where
  pub instrs : List Instr
  pub sites : List Site
  pub root : EntryPoint
  pub functions : List EntryPoint
  pub loops : List EntryPoint
  pub layout : Layout

-- the entry point of a callee's frame
abbrev pub entry_of : CodeView → Callee → EntryPoint
entry_of c callees.Root = c.root
entry_of c (callees.Function call) = unwrap_or (slice_get c.functions call.function) c.root
entry_of c (callees.Loop part) = unwrap_or (slice_get c.loops part.number) c.root

abbrev pub and_code : List Instr → List Instr → List Instr
and_code a b = a ++ (instrs.JumpIfZero (length b + 2) ∷ (b ++ (instrs.Truth ∷ (instrs.Jump 1 ∷ (instrs.Push (pos 0) ∷ [])))))

abbrev pub or_code : List Instr → List Instr → List Instr
or_code a b = a ++ (instrs.JumpIfZero 2 ∷ (instrs.Push (pos 1) ∷ (instrs.Jump (length b + 1) ∷ (b ++ instrs.Truth ∷ []))))

-- the number, if the expression is one
abbrev pub literal : Expression → Option ℤ
literal (Number n) = Some n
literal (Variable x) = None
literal (Element a e) = None
literal (Negate e) = None
literal (Not e) = None
literal (Binary op a b) = None
literal (And a b) = None
literal (Or a b) = None
literal (Value r) = None
literal (Input e) = None
literal InputCount = None

-- The code of an operator's right operand. A number is pushed and applied at once, and the `Apply`
-- that follows is skipped.
abbrev pub right_code : Operator → Option ℤ → List Instr → List Instr
right_code op (Some n) code = instrs.ApplyNumber op n ∷ []
right_code op None code = code

abbrev pub expr_code : Expression → List Instr
expr_code (Number n) = instrs.Push n ∷ []
expr_code (Variable x) = instrs.Load x ∷ []
expr_code (Element a e) = expr_code e ++ instrs.LoadElement a ∷ []
expr_code (Negate e) = expr_code e ++ instrs.Negate ∷ []
expr_code (Not e) = expr_code e ++ instrs.Not ∷ []
expr_code (Binary op a b) = expr_code a ++ (right_code op (literal b) (expr_code b) ++ instrs.Apply op ∷ [])
expr_code (And a b) = and_code (expr_code a) (expr_code b)
expr_code (Or a b) = or_code (expr_code a) (expr_code b)
expr_code (Value r) = instrs.Value r ∷ []
expr_code (Input e) = expr_code e ++ instrs.Input ∷ []
expr_code InputCount = instrs.InputCount ∷ []

-- the code of several expressions, in order
abbrev pub exprs_code : List Expression → List Instr
exprs_code [] = []
exprs_code (e ∷ es) = expr_code e ++ exprs_code es

-- the code of a target's index, if there is one
abbrev pub index_code : Target → List Instr
index_code (ToVariable x) = []
index_code (ToElement a e) = expr_code e

-- loads a target's old value; its index stays on the stack
abbrev pub fetch : Target → Instr
fetch (ToVariable x) = instrs.LoadUncounted x
fetch (ToElement a e) = instrs.FetchElement a

-- stores a target's new value, which is above its index
abbrev pub store : Target → Instr
store (ToVariable x) = instrs.Store x
store (ToElement a e) = instrs.StoreElement a

-- the call site of a call or spawn
abbrev pub site : Invoke → Site
site i = record { how = i.how; function = i.function; words = length i.arguments; reducers = i.reducers; result = i.result }

-- the code of a call or spawn, with the index of its call site
abbrev pub invoke_code : ℕ → Invoke → List Instr
invoke_code k i = exprs_code i.arguments ++ (instrs.Invoke k ∷ (instrs.Resume ∷ []))

abbrev pub declaration_sites : Declaration → List Site
declaration_sites (Zero n) = []
declaration_sites (Opening n e) = []
declaration_sites (Invoking i) = site i ∷ []

abbrev pub declarations_sites : List Declaration → List Site
declarations_sites [] = []
declarations_sites (d ∷ ds) = declaration_sites d ++ declarations_sites ds

abbrev mutual
  -- the call sites of a statement, in order
  pub stmt_sites : Statement → List Site
  stmt_sites Empty = []
  stmt_sites (Block row) = all_sites row
  stmt_sites (Declare ds) = declarations_sites ds
  stmt_sites (Assign t e) = []
  stmt_sites (Change t op e) = []
  stmt_sites (Step t n) = []
  stmt_sites (Invokes i) = site i ∷ []
  stmt_sites Sync = []
  stmt_sites (If e s) = stmt_sites s
  stmt_sites (IfElse e s other) = stmt_sites s ++ stmt_sites other
  stmt_sites (For row test step s) = all_sites row ++ (stmt_sites s ++ all_sites step)
  stmt_sites (ParallelFor a b n) = []
  stmt_sites (Print e) = []
  stmt_sites (Update r e) = []
  stmt_sites (Set r e) = []
  stmt_sites (Return e) = []

  pub all_sites : Statements → List Site
  all_sites Nothing = []
  all_sites (Then s row) = stmt_sites s ++ all_sites row

-- the code of one variable of a declaration, whose call sites are numbered from k
abbrev pub declaration_code : ℕ → Declaration → List Instr
declaration_code k (Zero n) = instrs.Zero n ∷ []
declaration_code k (Opening n e) = expr_code e ++ instrs.Store (places.Local 0 n) ∷ []
declaration_code k (Invoking i) = invoke_code k i

abbrev pub declarations_code : ℕ → List Declaration → List Instr
declarations_code k [] = []
declarations_code k (d ∷ ds) = declaration_code k d ++ declarations_code (k + length (declaration_sites d)) ds

abbrev pub if_code : List Instr → List Instr → List Instr
if_code test a = test ++ (instrs.JumpIfZero (length a) ∷ a)

abbrev pub if_else_code : List Instr → List Instr → List Instr → List Instr
if_else_code test a b = test ++ (instrs.JumpIfZero (length a + 1) ∷ (a ++ (instrs.Jump (length b) ∷ b)))

-- A loop with a condition. A turn is the body and the step, and then the condition again, which goes
-- back to the body.
abbrev pub while_code : List Instr → List Instr → List Instr
while_code test turn =
    test ++ (instrs.JumpIfZero (length turn + length test + 1) ∷ (turn ++ (test ++ instrs.JumpBackUnlessZero (length turn + length test) ∷ [])))

-- a loop without a condition
abbrev pub forever_code : List Instr → List Instr
forever_code turn = turn ++ instrs.JumpBack (length turn) ∷ []

abbrev pub turns_code : Option Expression → List Instr → List Instr
turns_code None turn = forever_code turn
turns_code (Some e) turn = while_code (expr_code e) turn

-- the end of a frame
abbrev pub ends : List Instr
ends = instrs.Sync ∷ (instrs.GiveResult ∷ (instrs.End ∷ []))

abbrev pub return_code : Option Expression → List Instr
return_code None = ends
return_code (Some e) = expr_code e ++ (instrs.SetResult ∷ ends)

abbrev mutual
  -- the code of a statement, whose call sites are numbered from k
  pub stmt_code : ℕ → Statement → List Instr
  stmt_code k Empty = instrs.Tick ∷ []
  stmt_code k (Block row) = instrs.Tick ∷ all_code k row
  stmt_code k (Declare ds) = instrs.Tick ∷ declarations_code k ds
  stmt_code k (Assign t e) = instrs.Tick ∷ (index_code t ++ (expr_code e ++ store t ∷ []))
  stmt_code k (Change t op e) = instrs.Tick ∷ (index_code t ++ (fetch t ∷ (expr_code e ++ (instrs.Combine op ∷ (store t ∷ [])))))
  stmt_code k (Step t n) = instrs.Tick ∷ (index_code t ++ (fetch t ∷ (instrs.AddNumber n ∷ (store t ∷ []))))
  stmt_code k (Invokes i) = instrs.Tick ∷ invoke_code k i
  stmt_code k Sync = instrs.Tick ∷ (instrs.Sync ∷ [])
  stmt_code k (If e s) = instrs.Tick ∷ if_code (expr_code e) (stmt_code k s)
  stmt_code k (IfElse e s other) = instrs.Tick ∷ if_else_code (expr_code e) (stmt_code k s) (stmt_code (k + length (stmt_sites s)) other)
  stmt_code k (For row test step s) =
      let k1 = k + length (all_sites row) in
      instrs.Tick ∷ (all_code k row ++ turns_code test (stmt_code k1 s ++ all_code (k1 + length (stmt_sites s)) step))
  stmt_code k (ParallelFor a b n) = instrs.Tick ∷ (expr_code a ++ (expr_code b ++ (instrs.CallLoop n ∷ (instrs.Resume ∷ []))))
  stmt_code k (Print e) = instrs.Tick ∷ (expr_code e ++ instrs.Print ∷ [])
  stmt_code k (Update r e) = instrs.Tick ∷ (expr_code e ++ instrs.Update r ∷ [])
  stmt_code k (Set r e) = instrs.Tick ∷ (expr_code e ++ instrs.Set r ∷ [])
  stmt_code k (Return e) = instrs.Tick ∷ return_code e

  pub all_code : ℕ → Statements → List Instr
  all_code k Nothing = []
  all_code k (Then s row) = stmt_code k s ++ all_code (k + length (stmt_sites s)) row

-- writes `count` of a frame's words to its cells, from the n-th on
abbrev pub words_code : ℕ → ℕ → List Instr
words_code n zero = []
words_code n (suc count) = instrs.Word n ∷ words_code (suc n) count

-- creates reducers with these monoids
abbrev pub creates_code : (ℕ → ReducerPlace) → ℕ → List MonoidKind → List Instr
creates_code place n [] = []
creates_code place n (k ∷ ks) = instrs.Create (record { place = place n; kind = k }) ∷ creates_code place (suc n) ks

abbrev pub function_code : ℕ → Function → List Instr
function_code k f = words_code 0 f.words ++ (creates_code (reducers.Own 0) 0 f.reducers ++ (all_code k f.body ++ ends))

-- the code of a frame with several turns
abbrev pub halves_code : List Instr
halves_code = instrs.SpawnHalf ∷ (instrs.Resume ∷ (instrs.CallHalf ∷ (instrs.Resume ∷ ends)))

abbrev pub loop_code : ℕ → Loop → List Instr
loop_code k l = instrs.SkipUnlessOne (length (all_code k l.body) + 4) ∷ (instrs.Turn ∷ (all_code k l.body ++ (ends ++ halves_code)))

-- whether an instruction uses a tick
abbrev pub ticks : Option Instr → Bool
ticks None = false
ticks (Some instrs.Tick) = true
ticks (Some (instrs.Push n)) = true
ticks (Some (instrs.Load x)) = true
ticks (Some (instrs.LoadElement a)) = true
ticks (Some (instrs.LoadUncounted x)) = false
ticks (Some (instrs.FetchElement a)) = false
ticks (Some (instrs.Store x)) = false
ticks (Some (instrs.StoreElement a)) = false
ticks (Some (instrs.Zero n)) = false
ticks (Some (instrs.Combine op)) = false
ticks (Some (instrs.AddNumber n)) = false
ticks (Some instrs.Negate) = true
ticks (Some instrs.Not) = true
ticks (Some (instrs.Apply op)) = true
ticks (Some (instrs.ApplyNumber op n)) = true
ticks (Some instrs.Truth) = true
ticks (Some (instrs.Value r)) = true
ticks (Some instrs.Input) = true
ticks (Some instrs.InputCount) = true
ticks (Some instrs.Print) = false
ticks (Some (instrs.Create r)) = false
ticks (Some (instrs.Update r)) = false
ticks (Some (instrs.Set r)) = false
ticks (Some (instrs.Word n)) = false
ticks (Some instrs.Turn) = false
ticks (Some (instrs.Invoke k)) = false
ticks (Some (instrs.CallLoop n)) = false
ticks (Some instrs.SpawnHalf) = false
ticks (Some instrs.CallHalf) = false
ticks (Some instrs.Resume) = false
ticks (Some (instrs.JumpIfZero n)) = false
ticks (Some (instrs.SkipUnlessOne n)) = false
ticks (Some (instrs.Jump n)) = false
ticks (Some (instrs.JumpBack n)) = false
ticks (Some (instrs.JumpBackUnlessZero n)) = false
ticks (Some instrs.SetResult) = false
ticks (Some instrs.Sync) = false
ticks (Some instrs.GiveResult) = false
ticks (Some instrs.End) = false

-- A jump stays within the code, and a jump back leads to an instruction that uses a tick.
abbrev pub Lands : List Instr → ℕ → Instr → Type 0
Lands code place (instrs.ApplyNumber op n) = place + 2 ≤ length code
Lands code place (instrs.CallLoop n) = place + 2 ≤ length code
Lands code place (instrs.JumpIfZero n) = place + 1 + n ≤ length code
Lands code place (instrs.SkipUnlessOne n) = place + 1 + n ≤ length code
Lands code place (instrs.Jump n) = place + 1 + n ≤ length code
Lands code place (instrs.JumpBack n) = (n ≤ place) × IsTrue (ticks (slice_get code (place - n)))
Lands code place (instrs.JumpBackUnlessZero n) = (n ≤ place) × IsTrue (ticks (slice_get code (place - n)))
Lands code place _ = Unit {0}

abbrev pub JumpsLand : List Instr → Type 0
JumpsLand code = (place : ℕ) (i : Instr) → slice_get code place ≡ Some i → Lands code place i

-- the cells of an instruction's array fit in 32 bits
abbrev pub ArrayFits : Instr → Type 0
ArrayFits (instrs.LoadElement a) = a.first + a.length ≤ 2 ^ 32
ArrayFits (instrs.FetchElement a) = a.first + a.length ≤ 2 ^ 32
ArrayFits (instrs.StoreElement a) = a.first + a.length ≤ 2 ^ 32
ArrayFits _ = Unit {0}

abbrev pub ArraysFit : List Instr → Type 0
ArraysFit [] = Unit {0}
ArraysFit (i ∷ code) = ArrayFits i × ArraysFit code

-- a call site has at most 16 words and at most 16 reducers
pub record SiteFits (s : Site) : Type 0 where
  pub words : s.words ≤ 16
  pub reducers : length s.reducers ≤ 16

abbrev pub SitesFit : List Site → Type 0
SitesFit sites = (number : ℕ) (s : Site) → slice_get sites number ≡ Some s → SiteFits s
