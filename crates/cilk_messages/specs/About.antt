-- Command lines about the tool itself.
use Rattle.std.specs.Prelude.{◌≡◌, ◌<◌, ℕ, ◌==◌, nat_le, ◌&&◌, ◌||◌, Bool, true, false, not, List, [], ◌∷◌, ◌++◌, codes, decimal, length, string_bytes}
use Rattle.std.specs.Str.{bytes_eq}
use Rattle.cilk_syntax.specs.Lexing.{all_digits, value_of}
use Rattle.cilk_messages.specs.Asked.{Text, asks, is_option}
use Rattle.cilk_messages.specs.declared.about.About.{About as AboutAnswer}
use Rattle.cilk_messages.specs.declared.about.About.TheVariants as answers

-- a word that requests help
abbrev pub is_help : Text → Bool
is_help word = bytes_eq word (codes "--help") || bytes_eq word (codes "-h")

-- the names of the commands
unfoldable pub commands : List Text
commands =
    codes "run" ∷ (codes "certify" ∷ (codes "check" ∷ (codes "threads" ∷ (codes "play" ∷ (codes "measure" ∷ (codes "schedule"
    ∷ (codes "settle" ∷ (codes "judge" ∷ (codes "explain" ∷ [])))))))))

-- the name of a command
abbrev pub is_command : Text → Bool
is_command word = asks word commands

-- a word that alone requests the version
abbrev pub is_version : Text → Bool
is_version word = bytes_eq word (codes "--version") || bytes_eq word (codes "-V")

-- a word that alone requests the help on all commands
abbrev pub is_help_on_all : Text → Bool
is_help_on_all word = bytes_eq word (codes "help") || is_help word

-- the word that requests the meaning of the number after it, or alone the list of all numbers
abbrev pub is_explain : Text → Bool
is_explain word = bytes_eq word (codes "explain")

-- a word that alone is about the tool
abbrev pub is_question : Text → Bool
is_question word = is_version word || (is_help_on_all word || is_explain word)

-- two words that request the help on a command
abbrev pub is_help_on : Text → Text → Bool
is_help_on word other = (bytes_eq word (codes "help") && is_command other) || (is_command word && is_help other)

-- two words that request the meaning of a number
abbrev pub is_explained : Text → Text → Bool
is_explained word other = is_explain word && not (is_option other)

-- two words about the tool
abbrev pub is_question_on : Text → Text → Bool
is_question_on word other = is_explained word other || is_help_on word other

-- the words are about the tool itself
abbrev pub is_about : List Text → Bool
is_about [] = false
is_about (word ∷ []) = is_question word
is_about (word ∷ other ∷ []) = is_question_on word other
is_about (word ∷ other ∷ more ∷ words) = false

-- any answer but that the words aren't about the tool
abbrev pub IsAnswer : AboutAnswer → Type 0
IsAnswer answers.Other = ⊥
IsAnswer _ = Unit {0}

-- an answer about the tool, if the words are about the tool, and none otherwise
abbrev pub IsAskedFor : List Text → AboutAnswer → Type 0
IsAskedFor words answers.Other = is_about words ≡ false
IsAskedFor words (answers.Text text) = is_about words ≡ true
IsAskedFor words (answers.Wrong text) = is_about words ≡ true

-- a number from the first to the last
abbrev pub is_within : ℕ → ℕ → ℕ → Bool
is_within first last number = nat_le first number && nat_le number last

-- the numbers of refusals that have a meaning
abbrev pub has_meaning : ℕ → Bool
has_meaning number =
    is_within 101 106 number || (is_within 111 119 number || (is_within 121 122 number || (is_within 201 206 number
    || (is_within 301 312 number || number == 502))))

-- digits that spell such a number
abbrev pub spells_meaning : Text → Bool
spells_meaning word = all_digits word && has_meaning (value_of word)

-- the words request the version
abbrev pub asks_version : List Text → Bool
asks_version [] = false
asks_version (word ∷ []) = is_version word
asks_version (word ∷ other ∷ words) = false

-- the words request the help on all commands
abbrev pub asks_help : List Text → Bool
asks_help [] = false
asks_help (word ∷ []) = is_help_on_all word
asks_help (word ∷ other ∷ words) = false

-- the words request the help on a command
abbrev pub asks_help_on : List Text → Bool
asks_help_on [] = false
asks_help_on (word ∷ []) = false
asks_help_on (word ∷ other ∷ []) = is_help_on word other
asks_help_on (word ∷ other ∷ more ∷ words) = false

-- the words request the list of all numbers
abbrev pub asks_list : List Text → Bool
asks_list [] = false
asks_list (word ∷ []) = is_explain word
asks_list (word ∷ other ∷ words) = false

-- the words request the meaning of a number that has one
abbrev pub asks_meaning : List Text → Bool
asks_meaning [] = false
asks_meaning (word ∷ []) = false
asks_meaning (word ∷ other ∷ []) = is_explained word other && spells_meaning other
asks_meaning (word ∷ other ∷ more ∷ words) = false

-- the number whose meaning two words request
abbrev pub number_asked : List Text → ℕ
number_asked [] = 0
number_asked (word ∷ []) = 0
number_asked (word ∷ other ∷ words) = value_of other

-- the words request the meaning of what is no such number
abbrev pub asks_unknown : List Text → Bool
asks_unknown [] = false
asks_unknown (word ∷ []) = false
asks_unknown (word ∷ other ∷ []) = is_explained word other && not (spells_meaning other)
asks_unknown (word ∷ other ∷ more ∷ words) = false

-- what words about the tool may request, each with whether these words do
abbrev pub requests : List Text → List Bool
requests words =
    asks_version words ∷ asks_help words ∷ asks_help_on words ∷ asks_list words ∷ asks_meaning words ∷ asks_unknown words ∷ []

-- the page of a number: it begins with the number and a colon
abbrev pub IsPage : ℕ → Text → Type 0
IsPage number text = (rest : Text) × (text ≡ decimal number ++ (codes ": " ++ rest))

-- this text for standard output
abbrev pub IsText : Text → AboutAnswer → Type 0
IsText wanted answers.Other = ⊥
IsText wanted (answers.Text text) = string_bytes text ≡ wanted
IsText wanted (answers.Wrong text) = ⊥

-- this text for standard error
abbrev pub IsWrong : Text → AboutAnswer → Type 0
IsWrong wanted answers.Other = ⊥
IsWrong wanted (answers.Text text) = ⊥
IsWrong wanted (answers.Wrong text) = string_bytes text ≡ wanted

-- the page of this number for standard output, a longer text than that
abbrev pub IsPageText : ℕ → Text → AboutAnswer → Type 0
IsPageText number short answers.Other = ⊥
IsPageText number short (answers.Text text) = IsPage number (string_bytes text) × (length short < length (string_bytes text))
IsPageText number short (answers.Wrong text) = ⊥

-- a longer text than this for standard error
abbrev pub IsLongerWrong : Text → AboutAnswer → Type 0
IsLongerWrong short answers.Other = ⊥
IsLongerWrong short (answers.Text text) = ⊥
IsLongerWrong short (answers.Wrong text) = length short < length (string_bytes text)
