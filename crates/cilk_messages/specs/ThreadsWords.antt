-- The orders of `threads`, by clap's own definition of how a simple command matches words.
use Rattle.std.specs.Prelude.{◌≡◌, ℕ, List, Option, Some, None, codes, if◌then◌else◌, option_map, option_and_then}
use Rattle.std.specs.Str.{bytes_eq}
use Rattle.std.specs.Borrow.{Bor}
use Rattle.clap.specs.Words.{App, Row, Rule, Text, fault_of, first_of, new_app, new_rule, subcommand_of, with_rule, with_subcommand}
use Rattle.clap.specs.Walk.{is_empty}
use Rattle.clap.specs.declared.builder.action.ArgAction.TheVariants.{Set}
use Rattle.cilk_messages.specs.Words.{certificate_rule, empty_app, input_rule, program_rule, workers_in, workers_rule}
use Rattle.cilk_messages.specs.declared.words.WordsFault.{WordsFault}
use Rattle.cilk_messages.specs.declared.words.WordsFault.TheVariants.{Usage, Memory}
use Rattle.cilk_messages.specs.declared.threads_words.Order.{Order}

-- An order to check a program's certificate, whose input is that of a file or empty, and to run the
-- program by `workers` workers, on that input or on that of another file.
pub record Requested : Type 0 where
  pub program : Text
  pub certificate : Text
  pub workers : ℕ
  pub input : Option Text
  pub on : Option Text

abbrev pub requested : Text × Text → ℕ → Option Text → Option Text → Requested
requested t workers input on = record { program = t.0; certificate = t.1; workers = workers; input = input; on = on }

abbrev pub order_view : Order → Requested
order_view o = requested (o.program.now, o.certificate.now) o.workers (option_map (λ path. path.now) o.input) (option_map (λ path. path.now) o.on)

abbrev pub on_rule : Rule
on_rule = record (new_rule (codes "on")) { long = Some (codes "on"); action = Some Set }

-- `NAME PROGRAM CERTIFICATE`
abbrev pub two_texts_app : Text → App
two_texts_app name = with_rule (with_rule (new_app name) program_rule) certificate_rule

-- `threads PROGRAM CERTIFICATE [--workers N] [--input FILE]`
abbrev pub checked_app : App
checked_app = with_rule (with_rule (two_texts_app (codes "threads")) workers_rule) input_rule

-- the same with `[--on FILE]`
abbrev pub threads_app : App
threads_app = with_rule checked_app on_rule

abbrev pub parallel_app : App
parallel_app = with_subcommand empty_app threads_app.top

-- two texts, without the references
abbrev pub texts_view : Bor Text × Bor Text → Text × Text
texts_view t = (t.0.now, t.1.now)

-- the program and the certificate in these matches
abbrev pub texts_in : List Row → Option (Text × Text)
texts_in rows = option_and_then (λ program. option_map (λ certificate. (program, certificate)) (first_of (codes "certificate") rows)) (first_of (codes "program") rows)

-- the order of `threads` with these matches
abbrev pub threads_with : List Row → Option Requested
threads_with rows =
    option_and_then (λ t. option_map (λ workers. requested t workers (first_of (codes "input") rows) (first_of (codes "on") rows))
    (workers_in (first_of (codes "workers") rows))) (texts_in rows)

-- the order of the subcommand with its matches
abbrev pub order_by : Option (Text × List Row) → Option Requested
order_by entered = option_and_then (λ p. if bytes_eq p.0 (codes "threads") then threads_with p.1 else None) entered

-- the order of the words after the program's name; none where clap finds a fault in them, or help
-- is requested
unfoldable pub order_in : List Text → Option Requested
order_in words = if is_empty (fault_of parallel_app words) then order_by (subcommand_of parallel_app words) else None

-- the words have no order, or memory ran out
abbrev pub IsWordsFault : List Text → WordsFault → Type 0
IsWordsFault words (Usage text) = order_in words ≡ None
IsWordsFault words Memory = Unit {0}
