-- `settle` for several programs, for every input, or in a short form: its words, and the lines of its
-- replies.
use Rattle.std.specs.Prelude.{ℕ, zero, suc, ◌==◌, ◌&&◌, ◌||◌, Bool, true, false, not, List, [], ◌∷◌, ◌++◌, cond, Option, Some, None, is_some, option_and_then, option_map, codes, decimal}
use Rattle.std.specs.Str.{bytes_eq}
use Rattle.json.specs.Print.{print}
use Rattle.json.specs.Token.{Token, begin_object, end_object, key, number, string}
use Rattle.cilk_messages.specs.Asked.{Text, asks, behind_first, is_help, is_option}
use Rattle.cilk_messages.specs.Words.{texts}
use Rattle.cilk_messages.specs.Claims.{every_tokens}
use Rattle.cilk_messages.specs.Positions.{is_list}
use Rattle.cilk_messages.specs.declared.batch.Awaits.{Awaits}
use Rattle.cilk_messages.specs.declared.batch.Awaits.TheVariants.{Nothing, Input, Positions}
use Rattle.cilk_messages.specs.declared.batch.Batch as code
use Rattle.cilk_messages.specs.declared.batch.Form.{Form}
use Rattle.cilk_messages.specs.declared.batch.Form.TheVariants.{Alone, Explained, Full, Json, Short}
use Rattle.cilk_messages.specs.declared.claim.Claim.{Claim}
use Rattle.cilk_messages.specs.declared.place.Location.{Location}

-- more words than this aren't options
abbrev pub has_more : ℕ → List Text → Bool
has_more most [] = false
has_more zero (word ∷ words) = cond (is_option word) (has_more zero words) true
has_more (suc most) (word ∷ words) = cond (is_option word) (has_more (suc most) words) (has_more most words)

-- words name a form, all inputs, or more files than one program and its input
abbrev pub is_batch : List Text → Bool
is_batch words =
    asks (codes "--every") words
    || (asks (codes "--short") words || (asks (codes "--json") words || has_more (cond (asks (codes "--input") words) 2 1) words))

-- the first word is `settle`, the rest isn't just a request for help, no word is `--why`, and with
-- `--explain` several programs or a form are named
abbrev pub is_settling : List Text → Bool
is_settling [] = false
is_settling (word ∷ words) =
    bytes_eq word (codes "settle") && (not (is_help words) && (not (asks (codes "--why") words) && (not (asks (codes "--explain") words) || is_batch words)))

-- what words name: programs, the file of their input, the form of the replies, whether all inputs, and
-- the positions where these agree; and what the next word has to be
pub record Batch : Type 0 where
  pub programs : List Text
  pub input : Option Text
  pub form : Form
  pub every : Bool
  pub fix : Option Text
  pub awaits : Awaits

abbrev pub batch : List Text → Option Text → Form → Bool → Option Text → Awaits → Batch
batch programs input form every fix awaits =
    record { programs = programs; input = input; form = form; every = every; fix = fix; awaits = awaits }

-- a form is chosen once
abbrev pub with_form : Batch → Form → Form → Option Batch
with_form b form Full = Some (batch b.programs b.input form b.every b.fix b.awaits)
with_form b form _ = None

-- the same, and the next word has to be such a one
abbrev pub waiting : Batch → Awaits → Batch
waiting b awaits = batch b.programs b.input b.form b.every b.fix awaits

-- one word more, for which nothing waits
abbrev pub with_free_word : Batch → Text → Option Batch
with_free_word b word =
    cond (bytes_eq word (codes "--input")) (cond (is_some b.input) None (Some (waiting b Input)))
    (cond (bytes_eq word (codes "--fix")) (cond (is_some b.fix) None (Some (waiting b Positions)))
    (cond (bytes_eq word (codes "--every")) (Some (batch b.programs b.input b.form true b.fix b.awaits))
    (cond (bytes_eq word (codes "--short")) (with_form b Short b.form)
    (cond (bytes_eq word (codes "--json")) (with_form b Json b.form)
    (cond (is_option word) (cond (bytes_eq word (codes "--explain")) (Some b) None)
    (Some (batch (b.programs ++ word ∷ []) b.input b.form b.every b.fix b.awaits)))))))

-- one word more, given what it has to be
abbrev pub with_awaited : Awaits → Batch → Text → Option Batch
with_awaited Nothing b word = with_free_word b word
with_awaited Input b word = cond (is_option word) None (Some (batch b.programs (Some word) b.form b.every b.fix Nothing))
with_awaited Positions b word = cond (is_list word) (Some (batch b.programs b.input b.form b.every (Some word) Nothing)) None

-- one word more
abbrev pub with_word : Batch → Text → Option Batch
with_word b word = with_awaited b.awaits b word

-- these words more
abbrev pub with_words : Batch → List Text → Option Batch
with_words b [] = Some b
with_words b (word ∷ words) = option_and_then (λ c. with_words c words) (with_word b word)

-- some program is named
abbrev pub are_named : List Text → Bool
are_named [] = false
are_named (program ∷ programs) = true

-- nothing is missing
abbrev pub is_free : Awaits → Bool
is_free Nothing = true
is_free _ = false

-- some program is named, nothing is missing, and positions are named for all inputs alone
abbrev pub is_whole : Batch → Bool
is_whole b = is_free b.awaits && (are_named b.programs && (b.every || not (is_some b.fix)))

-- the form with explanations
abbrev pub explained : Form → Form
explained Short = Explained
explained form = form

-- the form of a program that is alone
abbrev pub alone : Form → Form
alone Full = Alone
alone form = form

-- one program is named
abbrev pub is_one : List Text → Bool
is_one (program ∷ []) = true
is_one _ = false

-- the same programs in another form
abbrev pub in_form : Batch → Form → Batch
in_form b form = batch b.programs b.input form b.every b.fix b.awaits

-- the same programs, with explanations if they are requested
abbrev pub told : Bool → Batch → Batch
told explains b = in_form b (cond explains (explained b.form) b.form)

-- one program for every input has no heading
abbrev pub headed : Batch → Batch
headed b = in_form b (cond (b.every && is_one b.programs) (alone b.form) b.form)

-- what the words after the first name
abbrev pub batch_in : List Text → Option Batch
batch_in words =
    option_and_then (λ b. cond (is_whole b) (Some (headed (told (asks (codes "--explain") words) b))) None)
    (with_words (batch [] None Full false None Nothing) (behind_first words))

-- a text up to its first line's end
abbrev pub first_line : Text → Text
first_line [] = []
first_line (byte ∷ bytes) = cond (byte == 10) [] (byte ∷ first_line bytes)

-- a text and the end of its line
abbrev pub line : Text → Text
line text = text ++ 10 ∷ []

-- `PROGRAM:`
abbrev pub heading : Text → Text
heading program = line (program ++ codes ":")

-- `PROGRAM: ` and the first line of a reply
abbrev pub short_line : Text → Text → Text
short_line program reply = line (program ++ codes ": " ++ first_line reply)

-- a place in JSON
abbrev pub place_tokens : Option Location → List Token
place_tokens None = []
place_tokens (Some place) = key (codes "line") ∷ number (decimal place.line) ∷ key (codes "column") ∷ number (decimal place.column) ∷ []

-- the program, the status, the whole reply, its explanation, of which inputs it is, and the place in
-- the program
abbrev pub object_tokens : Text → ℕ → Text → Text → Option Claim → Option Location → List Token
object_tokens program status reply explanation claim place =
    begin_object ∷ key (codes "program") ∷ string program ∷ key (codes "status") ∷ number (decimal status) ∷ key (codes "reply") ∷ string reply
    ∷ key (codes "explanation") ∷ string explanation ∷ (every_tokens claim ++ (place_tokens place ++ end_object ∷ []))

-- a JSON object of these
abbrev pub object_line : Text → ℕ → Text → Text → Option Claim → Option Location → Text
object_line program status reply explanation claim place = line (print (object_tokens program status reply explanation claim place))

abbrev pub batch_view : code.Batch → Batch
batch_view b =
    batch (texts b.programs.items) (option_map (λ path. path.now) b.input) b.form b.every (option_map (λ list. list.now) b.fix) b.awaits
