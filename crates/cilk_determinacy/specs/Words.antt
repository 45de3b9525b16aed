-- Programs and inputs whose numbers are words.
use Rattle.std.specs.Prelude.{ℤ, List, [], ◌∷◌, IsTrue, Option, Some, None}
use Rattle.cilk_types.specs.Input.{input_count}
use Rattle.cilk_types.specs.declared.event.Event.{Event}
use Rattle.cilk_types.specs.Word.{IsWord}
use Rattle.cilk_types.specs.declared.outcome.Outcome.{Outcome}
use Rattle.cilk_program.specs.WellNamed.{is_well_named}
use Rattle.cilk_program.specs.Outcomes.{Conclusion, Leaves}
use Rattle.cilk_program.specs.SerialRun.{Transcript, IsSerialRun}
use Rattle.cilk_determinacy.specs.Runs.{Name}
use Rattle.cilk_determinacy.specs.Machine.{State}
use Rattle.cilk_determinacy.specs.Reducers.{View}
use Rattle.cilk_determinacy.specs.FrameEnvs.{FrameEnv}
use Rattle.cilk_peers.specs.RaceFree.{IsRaceFree}
use Rattle.cilk_determinacy.specs.Theorem.{SetWords, IsAsSerial}
use Rattle.cilk_determinacy.specs.Steps.{Reaches}
use Rattle.cilk_program.specs.Syntax.{Expression, Number, Variable, Element, Negate, Not, Binary, And, Or, Value, Input, InputCount, Target, ToVariable, ToElement, Declaration, Zero, Opening, Invoking, Statement, Empty, Block, Declare, Assign, Change, Step, Invokes, Sync, If, IfElse, For, ParallelFor, Print, Update, Set, Return, Statements, Nothing, Then, Function, Loop, Source}

abbrev pub AreWords : List ℤ → Type 0
AreWords [] = Unit {0}
AreWords (v ∷ vs) = IsWord v × AreWords vs

-- each number in an expression is a word
abbrev pub ExpressionWords : Expression → Type 0
ExpressionWords (Number n) = IsWord n
ExpressionWords (Variable x) = Unit {0}
ExpressionWords (Element a e) = ExpressionWords e
ExpressionWords (Negate e) = ExpressionWords e
ExpressionWords (Not e) = ExpressionWords e
ExpressionWords (Binary op d e) = ExpressionWords d × ExpressionWords e
ExpressionWords (And d e) = ExpressionWords d × ExpressionWords e
ExpressionWords (Or d e) = ExpressionWords d × ExpressionWords e
ExpressionWords (Value r) = Unit {0}
ExpressionWords (Input e) = ExpressionWords e
ExpressionWords InputCount = Unit {0}

abbrev pub ExpressionsWords : List Expression → Type 0
ExpressionsWords [] = Unit {0}
ExpressionsWords (e ∷ es) = ExpressionWords e × ExpressionsWords es

abbrev pub OptionWords : Option Expression → Type 0
OptionWords None = Unit {0}
OptionWords (Some e) = ExpressionWords e

abbrev pub TargetWords : Target → Type 0
TargetWords (ToVariable x) = Unit {0}
TargetWords (ToElement a e) = ExpressionWords e

abbrev pub DeclarationWords : Declaration → Type 0
DeclarationWords (Zero n) = Unit {0}
DeclarationWords (Opening n e) = ExpressionWords e
DeclarationWords (Invoking i) = ExpressionsWords i.arguments

abbrev pub DeclarationsWords : List Declaration → Type 0
DeclarationsWords [] = Unit {0}
DeclarationsWords (d ∷ ds) = DeclarationWords d × DeclarationsWords ds

abbrev mutual
  pub StatementWords : Statement → Type 0
  StatementWords Empty = Unit {0}
  StatementWords (Block row) = RowWords row
  StatementWords (Declare ds) = DeclarationsWords ds
  StatementWords (Assign t e) = TargetWords t × ExpressionWords e
  StatementWords (Change t op e) = TargetWords t × ExpressionWords e
  StatementWords (Step t n) = TargetWords t
  StatementWords (Invokes i) = ExpressionsWords i.arguments
  StatementWords Sync = Unit {0}
  StatementWords (If e s) = ExpressionWords e × StatementWords s
  StatementWords (IfElse e s other) = ExpressionWords e × StatementWords s × StatementWords other
  StatementWords (For row test step s) = RowWords row × OptionWords test × RowWords step × StatementWords s
  StatementWords (ParallelFor e e' n) = ExpressionWords e × ExpressionWords e'
  StatementWords (Print e) = ExpressionWords e
  StatementWords (Update r e) = ExpressionWords e
  StatementWords (Set r e) = ExpressionWords e
  StatementWords (Return e) = OptionWords e

  pub RowWords : Statements → Type 0
  RowWords Nothing = Unit {0}
  RowWords (Then s row) = StatementWords s × RowWords row

abbrev pub FunctionsWords : List Function → Type 0
FunctionsWords [] = Unit {0}
FunctionsWords (f ∷ fs) = RowWords f.body × FunctionsWords fs

abbrev pub LoopsWords : List Loop → Type 0
LoopsWords [] = Unit {0}
LoopsWords (l ∷ ls) = RowWords l.body × LoopsWords ls

-- each number of the program is a word
pub record HasWords (p : Source) : Type 0 where
  pub openings : AreWords p.openings
  pub functions : FunctionsWords p.functions
  pub loops : LoopsWords p.loops

-- each input is a word, and so is the number of inputs
pub record InputsAreWords (inputs : List ℤ) : Type 0 where
  pub inputs_are : AreWords inputs
  pub count : IsWord (input_count inputs)

-- if the program's numbers and its inputs are words, a serial run sets reducers to words only
abbrev pub SetsWords : Source → List ℤ → Type 0
SetsWords p inputs = HasWords p → InputsAreWords inputs → (r : Transcript) (es : List Event) (c : Conclusion) → IsSerialRun p inputs r es c → SetWords es

-- The theorem with premises on the program, its inputs and its serial run alone.
abbrev pub IsDeterminateInWords : Source → List ℤ → Type 0
IsDeterminateInWords p inputs =
    IsTrue (is_well_named p) → HasWords p → InputsAreWords inputs → (r : Transcript) (es : List Event) (outcome : Outcome) → IsSerialRun p inputs r es (Leaves outcome) → IsRaceFree es
    → (ns : List Name) (s : State FrameEnv View) → Reaches p inputs ns s → IsAsSerial p inputs r outcome s
