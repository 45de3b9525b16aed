-- The orders of `check` with `--helpers`, by clap's own definition of how a simple command matches
-- words.
use Rattle.std.specs.Prelude.{◌≡◌, ◌&&◌, ◌||◌, ℕ, eqb, nat_le, Bool, false, List, [], ◌∷◌, Option, Some, None, codes, if◌then◌else◌, option_map, option_and_then}
use Rattle.std.specs.List.{starts_with}
use Rattle.std.specs.Str.{bytes_eq}
use Rattle.clap.specs.Words.{App, Row, Rule, Text, fault_of, first_of, new_rule, subcommand_of, with_rule, with_subcommand}
use Rattle.clap.specs.Walk.{is_empty}
use Rattle.clap.specs.declared.builder.action.ArgAction.TheVariants.{Set}
use Rattle.cilk_types.specs.declared.limits.TheConstants.{MAX_HELPERS}
use Rattle.cilk_syntax.specs.Lexing.{all_digits, value_of}
use Rattle.cilk_messages.specs.Words.{Check, Requested, check_app, empty_app}
use Rattle.cilk_messages.specs.declared.words.WordsFault.{WordsFault}
use Rattle.cilk_messages.specs.declared.words.WordsFault.TheVariants.{Usage, Memory}
use Rattle.cilk_messages.specs.ThreadsWords.{texts_in}
use Rattle.cilk_messages.specs.declared.check_words.CheckOrder.{CheckOrder}

-- the option for helpers, with or without its number
abbrev pub is_helpers : Text → Bool
is_helpers word = bytes_eq word (codes "--helpers") || starts_with eqb word (codes "--helpers=")

-- one of the words is that option
abbrev pub name_helpers : List Text → Bool
name_helpers [] = false
name_helpers (word ∷ words) = is_helpers word || name_helpers words

-- the first word is `check`, and a later one is the option for helpers
abbrev pub is_helped : List Text → Bool
is_helped [] = false
is_helped (word ∷ words) = bytes_eq word (codes "check") && name_helpers words

-- an order of `check`, and the number of helpers
pub record Helped : Type 0 where
  pub check : Requested
  pub helpers : ℕ

abbrev pub helped : Text × Text → Option Text → ℕ → Helped
helped t input helpers = record { check = Check t.0 t.1 input; helpers = helpers }

abbrev pub check_view : CheckOrder → Helped
check_view o = helped (o.program.now, o.certificate.now) (option_map (λ path. path.now) o.input) o.helpers

abbrev pub helpers_rule : Rule
helpers_rule = record (new_rule (codes "helpers")) { long = Some (codes "helpers"); action = Some Set }

-- the arguments of `check`, and `[--helpers N]`
abbrev pub helped_app : App
helped_app = with_rule check_app helpers_rule

abbrev pub commands_app : App
commands_app = with_subcommand empty_app helped_app.top

-- the number of helpers that a word spells: plain digits, from 1 to 16
abbrev pub helper_count : Text → Option ℕ
helper_count digits =
    if all_digits digits && (nat_le 1 (value_of digits) && nat_le (value_of digits) MAX_HELPERS) then Some (value_of digits) else None

-- one helper without the option
abbrev pub helpers_in : Option Text → Option ℕ
helpers_in None = Some 1
helpers_in (Some digits) = helper_count digits

-- the order of `check` with these matches
abbrev pub checked_with : List Row → Option Helped
checked_with rows =
    option_and_then (λ t. option_map (λ helpers. helped t (first_of (codes "input") rows) helpers)
    (helpers_in (first_of (codes "helpers") rows))) (texts_in rows)

-- the order of the subcommand with its matches
abbrev pub check_by : Option (Text × List Row) → Option Helped
check_by entered = option_and_then (λ p. if bytes_eq p.0 (codes "check") then checked_with p.1 else None) entered

-- the order of the words after the program's name; none where clap finds a fault in them, or help
-- is requested
unfoldable pub check_in : List Text → Option Helped
check_in words = if is_empty (fault_of commands_app words) then check_by (subcommand_of commands_app words) else None

-- the words have no order, or memory ran out
abbrev pub IsWordsFault : List Text → WordsFault → Type 0
IsWordsFault words (Usage text) = check_in words ≡ None
IsWordsFault words Memory = Unit {0}
