-- The words of command lines: of all commands, and those that select what is shown besides the reply.
use Rattle.std.specs.Prelude.{ℕ, nat_le, Bool, true, false, ◌==◌, ◌&&◌, ◌||◌, not, List, [], ◌∷◌, filter, cond, if◌then◌else◌, Option, Some, None, codes}
use Rattle.std.specs.Str.{bytes_eq}
use Rattle.cilk_syntax.specs.Lexing.{all_digits, value_of}
use Rattle.cilk_messages.specs.Words.{Judge, Origin, Requested, Run, Settle, order_in}

abbrev pub Text : Type 0
Text = List ℕ

-- this word is among the words
abbrev pub asks : Text → List Text → Bool
asks wanted [] = false
asks wanted (word ∷ words) = bytes_eq word wanted || asks wanted words

-- the number that digits spell, if it is at most 2^63
abbrev pub number_of : Text → Option ℕ
number_of digits = if all_digits digits && nat_le (value_of digits) 9223372036854775808 then Some (value_of digits) else None

-- one word only, which requests help
abbrev pub is_help : List Text → Bool
is_help [] = false
is_help (word ∷ []) = bytes_eq word (codes "--help") || bytes_eq word (codes "-h")
is_help (word ∷ other ∷ words) = false

-- the first word is `measure`, and more follows than one request for help
abbrev pub is_measure : List Text → Bool
is_measure [] = false
is_measure (word ∷ words) = bytes_eq word (codes "measure") && not (is_help words)

-- a word that begins with `-`
abbrev pub is_option : Text → Bool
is_option [] = false
is_option (first ∷ bytes) = first == 45

-- a word that selects the output of `measure`, or `--explain`
abbrev pub is_form : Text → Bool
is_form word =
    bytes_eq word (codes "--csv") || (bytes_eq word (codes "--svg") || (bytes_eq word (codes "--dot") || bytes_eq word (codes "--explain")))

-- all but the first
abbrev pub behind_first : List Text → List Text
behind_first [] = []
behind_first (word ∷ words) = words

-- the words that don't select the output of `measure`
abbrev pub unformed : List Text → List Text
unformed words = filter (λ w. not (is_form w)) words

-- the words of the run to measure: `run`, then the words after the first that don't select the
-- output
abbrev pub words_of_run : List Text → List Text
words_of_run words = codes "run" ∷ unformed (behind_first words)

-- the program and the input of an order to run
abbrev pub run_of : Option Requested → Option (Origin × Option Text)
run_of (Some (Run program input)) = Some (program, input)
run_of _ = None

-- the program and the input of the run to measure
abbrev pub measured_run : List Text → Option (Origin × Option Text)
measured_run words = run_of (order_in (words_of_run words))

-- the word `--explain`
abbrev pub is_flag : Text → Bool
is_flag word = bytes_eq word (codes "--explain")

-- an order that is explained without `--explain`: to settle a program, or to judge a trace with a table of its sites
abbrev pub explains_itself : Option Requested → Bool
explains_itself (Some (Settle program input)) = true
explains_itself (Some (Judge trace (Some sites))) = true
explains_itself _ = false

-- a word of a command adds a text: `--explain`, `--trace` of `play`, `--stats` of `threads`
abbrev pub marks : Text → Text → Bool
marks command word =
    is_flag word || ((bytes_eq command (codes "play") && bytes_eq word (codes "--trace"))
    || (bytes_eq command (codes "threads") && bytes_eq word (codes "--stats")))

-- these words of a command without each of those
abbrev pub unmarked : Text → List Text → List Text
unmarked command words = filter (λ w. not (marks command w)) words

-- the word `--why` of `settle`, followed by a number
abbrev pub is_why : Text → Text → List Text → Bool
is_why command word [] = false
is_why command word (number ∷ words) = bytes_eq command (codes "settle") && (bytes_eq word (codes "--why") && all_digits number)

-- these words of a command without the first `--why` and its number
abbrev pub without_why : Text → List Text → List Text
without_why command [] = []
without_why command (word ∷ words) = cond (is_why command word words) (behind_first words) (word ∷ without_why command words)

-- the first word, or an empty one
abbrev pub first_word : List Text → Text
first_word [] = []
first_word (word ∷ words) = word

-- the words without those that add a text
abbrev pub unflagged : List Text → List Text
unflagged words = unmarked (first_word words) (without_why (first_word words) words)

-- the first word is `schedule`, and more follows than one request for help
abbrev pub is_schedule : List Text → Bool
is_schedule [] = false
is_schedule (word ∷ words) = bytes_eq word (codes "schedule") && not (is_help words)

-- the words of the check for which a schedule is requested: `check`, then the words after the first
abbrev pub words_of_check : List Text → List Text
words_of_check words = codes "check" ∷ unmarked (codes "schedule") (behind_first words)
