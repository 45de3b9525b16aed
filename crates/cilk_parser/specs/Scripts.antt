-- The syntax of scripts: which steps a text has, and at which line it fails.
use Rattle.std.specs.Prelude.{◌≡◌, ◌⊎◌, ◌-◌, ◌<◌, ◌≤◌, ℕ, zero, suc, nat_le, Bool, true, false, ◌&&◌, ◌==◌, if◌then◌else◌, List, [], ◌∷◌, ◌++◌, length, take, get_or, Option, Some, None, codes}
use Rattle.std.specs.Str.{bytes_eq}
use Rattle.cilk_syntax.specs.Lexing.{all_digits, front_of, behind, value_of}
use Rattle.cilk_syntax.specs.declared.lexer.Class.TheVariants.{Line, Solid}
use Rattle.cilk_parser.specs.declared.script.LineOrder.{LineOrder}
use Rattle.cilk_parser.specs.declared.script.LineOrder.TheVariants.{Run, Steal, All}
use Rattle.cilk_parser.specs.declared.script.ScriptFault.{ScriptFault}
use Rattle.cilk_parser.specs.declared.script.ScriptFault.TheVariants as faults
use Rattle.cilk_parser.specs.declared.script.Step.{Step}
use Rattle.cilk_parser.specs.declared.script.TheConstants.{MAX_NUMBER, MAX_SCRIPT}

-- without leading spaces
abbrev pub trimmed : List ℕ → List ℕ
trimmed [] = []
trimmed (b ∷ bs) = if b == 32 then trimmed bs else b ∷ bs

-- The first word of a line, which is empty where there is none, and the text after it. Words are
-- separated by spaces. A tab or a CR is in no word.
abbrev pub word : List ℕ → List ℕ
word line = front_of Solid (trimmed line)

abbrev pub behind_word : List ℕ → List ℕ
behind_word line = behind Solid (trimmed line)

abbrev pub is_empty : List ℕ → Bool
is_empty [] = true
is_empty (b ∷ bs) = false

-- the number that digits spell, at most 1,000,000
abbrev pub number : List ℕ → Option ℕ
number [] = None
number (d ∷ ds) = if all_digits (d ∷ ds) && nat_le (value_of (d ∷ ds)) MAX_NUMBER then Some (value_of (d ∷ ds)) else None

-- `run W N`, where neither is 0
abbrev pub run_order : Option ℕ → Option ℕ → Option LineOrder
run_order None n = None
run_order (Some zero) n = None
run_order (Some (suc w)) None = None
run_order (Some (suc w)) (Some zero) = None
run_order (Some (suc w)) (Some (suc n)) = Some (Run (suc w) (suc n))

-- `steal W K`, where W isn't 0
abbrev pub steal_order : Option ℕ → Option ℕ → Option LineOrder
steal_order None k = None
steal_order (Some zero) k = None
steal_order (Some (suc w)) None = None
steal_order (Some (suc w)) (Some k) = Some (Steal (suc w) k)

-- the order of up to three words: `all`, `run W`, `run W N`, `steal W K`; a missing word is empty
abbrev pub words_order : List ℕ → List ℕ → List ℕ → Option LineOrder
words_order verb first second =
    if bytes_eq verb (codes "all") then (if is_empty first then Some All else None)
    else if bytes_eq verb (codes "run") then run_order (number first) (if is_empty second then Some 1 else number second)
    else if bytes_eq verb (codes "steal") then steal_order (number first) (number second)
    else None

-- the order of a line with words, if it has one of these forms
abbrev pub order_in : List ℕ → Option LineOrder
order_in line =
    if is_empty (trimmed (behind_word (behind_word (behind_word line))))
    then words_order (word line) (word (behind_word line)) (word (behind_word (behind_word line)))
    else None

-- a line that is empty or begins with `#` is ignored
abbrev pub is_silent : List ℕ → Bool
is_silent [] = true
is_silent (b ∷ bs) = b == 35

-- the step of line `n`, if it has one
abbrev pub steps_of : ℕ → List ℕ → Option LineOrder → List Step
steps_of n line None = []
steps_of n line (Some order) = if is_silent line then [] else record { line = n; order = order } ∷ []

-- the line is ignored or has a valid form
abbrev pub IsLine : List ℕ → Type 0
IsLine line = (is_silent line ≡ true) ⊎ ((order : LineOrder) × (order_in line ≡ Some order))

abbrev pub IsBadLine : List ℕ → Type 0
IsBadLine line = (is_silent line ≡ false) × (order_in line ≡ None)

-- a line without the CR before its LF
abbrev pub without_return : List ℕ → List ℕ
without_return line = if get_or line (length line - 1) 0 == 13 then take (length line - 1) line else line

-- The text has these steps. Its first line has number `n`, and it may have `room` bytes. Each line
-- but the last is followed by an LF.
pub data Orders : ℕ → ℕ → List ℕ → List Step → Type 0 where
  Last : {n room : ℕ} {text : List ℕ} → behind Line text ≡ [] → length text ≤ room → IsLine text → Orders n room text (steps_of n text (order_in text))
  Ends : {n room : ℕ} {b : ℕ} {text rest : List ℕ} {steps : List Step} → behind Line text ≡ b ∷ rest → length (front_of Line text) < room → IsLine (without_return (front_of Line text))
      → Orders (suc n) (room - suc (length (front_of Line text))) rest steps
      → Orders n room text (steps_of n (without_return (front_of Line text)) (order_in (without_return (front_of Line text))) ++ steps)

-- Line `at` is the first that has no valid form or holds the first byte too many.
pub data FailsAtLine : ℕ → ℕ → List ℕ → ℕ → Type 0 where
  Long : {n room : ℕ} {text : List ℕ} → behind Line text ≡ [] → room < length text → FailsAtLine n room text n
  LongLine : {n room : ℕ} {b : ℕ} {text rest : List ℕ} → behind Line text ≡ b ∷ rest → room ≤ length (front_of Line text) → FailsAtLine n room text n
  Bad : {n room : ℕ} {text : List ℕ} → behind Line text ≡ [] → length text ≤ room → IsBadLine text → FailsAtLine n room text n
  BadLine : {n room : ℕ} {b : ℕ} {text rest : List ℕ} → behind Line text ≡ b ∷ rest → length (front_of Line text) < room → IsBadLine (without_return (front_of Line text)) → FailsAtLine n room text n
  Later : {n room at : ℕ} {b : ℕ} {text rest : List ℕ} → behind Line text ≡ b ∷ rest → length (front_of Line text) < room → IsLine (without_return (front_of Line text))
      → FailsAtLine (suc n) (room - suc (length (front_of Line text))) rest at → FailsAtLine n room text at

-- the text is a script with these steps
abbrev pub IsScript : List ℕ → List Step → Type 0
IsScript text steps = Orders 1 MAX_SCRIPT text steps

-- the text is no script, because of line `at`
abbrev pub IsNoScript : List ℕ → ℕ → Type 0
IsNoScript text at = FailsAtLine 1 MAX_SCRIPT text at

-- a fault names that line, or says that memory ran out
abbrev pub IsFaultOf : List ℕ → ScriptFault → Type 0
IsFaultOf text faults.Memory = Unit {0}
IsFaultOf text (faults.Line at) = IsNoScript text at

abbrev pub IsBadAt : ℕ → List ℕ → ScriptFault → Type 0
IsBadAt n line faults.Memory = Unit {0}
IsBadAt n line (faults.Line at) = (at ≡ n) × IsBadLine line
