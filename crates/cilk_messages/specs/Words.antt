-- The orders that command lines give, by clap's own model of how a simple command matches words.
use Rattle.std.specs.Prelude.{◌≡◌, ◌≢◌, ◌∷◌, [], ℕ, nat_le, Bool, ◌&&◌, List, Option, Some, None, map, codes, true, false, if◌then◌else◌, option_map, option_and_then}
use Rattle.std.specs.Str.{bytes_eq}
use Rattle.std.specs.Borrow.{Bor}
use Rattle.clap.specs.Words.{App, Row, Rule, Text, app_of, fault_of, first_of, new_app, new_rule, subcommand_of, with_rule, with_subcommand}
use Rattle.clap.specs.Simple.{on_top}
use Rattle.clap.specs.Walk.{is_empty}
use Rattle.clap.specs.declared.builder.action.ArgAction.TheVariants.{Set, SetTrue}
use Rattle.clap.specs.declared.builder.command.Command.{Command}
use Rattle.clap.specs.declared.builder.command.Command.TheViews.{out-Command}
use Rattle.clap.specs.declared.error.kind.ErrorKind.{ErrorKind}
use Rattle.clap.specs.declared.error.kind.ErrorKind.TheVariants.{OutOfMemory}
use Rattle.cilk_syntax.specs.Lexing.{all_digits, value_of}
use Rattle.cilk_messages.specs.declared.words.TheConstants.{WORKERS}
use Rattle.cilk_types.specs.declared.limits.TheConstants.{MAX_WORKERS}
use Rattle.cilk_messages.specs.declared.words.Manner.{Manner}
use Rattle.cilk_messages.specs.declared.words.Order.{Order}
use Rattle.cilk_messages.specs.declared.words.Order.TheVariants as orders
use Rattle.cilk_messages.specs.declared.words.Origin.TheVariants as origins
use Rattle.cilk_messages.specs.declared.words.Origin as code
use Rattle.cilk_messages.specs.declared.words.WordsFault.{WordsFault}
use Rattle.cilk_messages.specs.declared.words.WordsFault.TheVariants.{Usage, Memory}

-- the texts that references point to
abbrev pub texts : List (Bor Text) → List Text
texts words = map (λ w. w.now) words

-- the origin of a program text
pub data Origin : Type 0 where
  Standard : Origin
  File : (path : Text) → Origin

-- an order; without an input file the input is empty
pub data Requested : Type 0 where
  Run : (program : Origin) (input : Option Text) → Requested
  Certify : (program : Text) (input : Option Text) → Requested
  Check : (program certificate : Text) (input : Option Text) → Requested
  Play : (program script : Text) (manner : Manner) (input : Option Text) → Requested
  Settle : (program : Text) (input : Option Text) → Requested
  -- a trace, and a table of its sites for an explanation
  Judge : (trace : Text) (sites : Option Text) → Requested

abbrev pub origin_view : code.Origin → Origin
origin_view origins.Standard = Standard
origin_view (origins.File path) = File path.now

abbrev pub order_view : Order → Requested
order_view (orders.Run program input) = Run (origin_view program) (option_map (λ path. path.now) input)
order_view (orders.Certify program input) = Certify program.now (option_map (λ path. path.now) input)
order_view (orders.Check program certificate input) =
    Check program.now certificate.now (option_map (λ path. path.now) input)
order_view (orders.Play program script manner input) =
    Play program.now script.now manner (option_map (λ path. path.now) input)
order_view (orders.Settle program input) = Settle program.now (option_map (λ path. path.now) input)
order_view (orders.Judge trace sites) = Judge trace.now (option_map (λ path. path.now) sites)

-- an argument that has to be given, an option `--NAME VALUE`, and a flag `--NAME`
abbrev pub needed : Text → Rule
needed name = record (new_rule name) { required = true }

abbrev pub taken : Text → Rule
taken name = record (new_rule name) { long = Some name; action = Some Set }

abbrev pub flagged : Text → Rule
flagged name = record (new_rule name) { long = Some name; action = Some SetTrue }

abbrev pub program_rule : Rule
program_rule = record (new_rule (codes "program")) { required = true }

abbrev pub certificate_rule : Rule
certificate_rule = record (new_rule (codes "certificate")) { required = true }

abbrev pub script_rule : Rule
script_rule = record (new_rule (codes "script")) { required = true }

abbrev pub workers_rule : Rule
workers_rule = record (new_rule (codes "workers")) { long = Some (codes "workers"); action = Some Set }

abbrev pub input_rule : Rule
input_rule = record (new_rule (codes "input")) { long = Some (codes "input"); action = Some Set }

abbrev pub strict_rule : Rule
strict_rule = record (new_rule (codes "strict")) { long = Some (codes "strict"); action = Some SetTrue }

abbrev pub trace_rule : Rule
trace_rule = record (new_rule (codes "trace")) { required = true }

abbrev pub sites_rule : Rule
sites_rule = record (new_rule (codes "sites")) { long = Some (codes "sites"); action = Some Set }

-- `NAME PROGRAM [--input FILE]`
abbrev pub program_app : Text → App
program_app name = with_rule (with_rule (new_app name) program_rule) input_rule

-- `check PROGRAM CERTIFICATE [--input FILE]`
abbrev pub check_app : App
check_app = with_rule (with_rule (with_rule (new_app (codes "check")) program_rule) certificate_rule) input_rule

-- `play PROGRAM SCRIPT`
abbrev pub script_app : App
script_app = with_rule (with_rule (new_app (codes "play")) program_rule) script_rule

-- the same with `[--workers N] [--input FILE] [--strict]`
abbrev pub play_app : App
play_app = with_rule (with_rule (with_rule script_app workers_rule) input_rule) strict_rule

-- `judge TRACE [--sites FILE]`
abbrev pub judge_app : App
judge_app = with_rule (with_rule (new_app (codes "judge")) trace_rule) sites_rule

-- the program without commands
abbrev pub empty_app : App
empty_app = on_top (λ s. record s { no_binary_name = true; subcommand_required = true }) (new_app (codes "cilk"))

-- the commands: `run`, `certify`, `check`, `play`, `settle` and `judge`
abbrev pub cilk_app : App
cilk_app =
    with_subcommand (with_subcommand (with_subcommand (with_subcommand (with_subcommand (with_subcommand empty_app (program_app (codes "run")).top)
    (program_app (codes "certify")).top) check_app.top) play_app.top) (program_app (codes "settle")).top) judge_app.top

-- the command is this one to clap's parser
abbrev pub HasShape : Command → App → Type 0
HasShape c a = (app_of c ≡ a) × ((out-Command c).has_globals ≡ false)

-- two paths, without the references
abbrev pub paths_view : Bor Text × Option (Bor Text) → Text × Option Text
paths_view paths = (paths.0.now, option_map (λ path. path.now) paths.1)

-- the paths of the program and of the input in these matches
abbrev pub paths_in : List Row → Option (Text × Option Text)
paths_in rows = option_map (λ program. (program, first_of (codes "input") rows)) (first_of (codes "program") rows)

-- the order of `run` with these matches
abbrev pub run_with : List Row → Option Requested
run_with rows = option_map (λ paths. Run (File paths.0) paths.1) (paths_in rows)

-- the order of `certify` with these matches
abbrev pub certify_with : List Row → Option Requested
certify_with rows = option_map (λ paths. Certify paths.0 paths.1) (paths_in rows)

-- the order of `check` with these matches
abbrev pub check_with : List Row → Option Requested
check_with rows =
    option_and_then (λ certificate. option_map (λ paths. Check paths.0 certificate paths.1) (paths_in rows))
    (first_of (codes "certificate") rows)

-- the number of workers that digits name, from 1 to 64
abbrev pub worker_count : Text → Option ℕ
worker_count digits =
    if all_digits digits && (nat_le 1 (value_of digits) && nat_le (value_of digits) MAX_WORKERS) then Some (value_of digits) else None

-- the number of workers; two if no word names it
abbrev pub workers_in : Option Text → Option ℕ
workers_in None = Some WORKERS
workers_in (Some digits) = worker_count digits

-- clap gives a flag the value `true` or `false`
abbrev pub is_set : Option Text → Bool
is_set None = false
is_set (Some value) = bytes_eq value (codes "true")

-- how a script is played, in these matches
abbrev pub manner_in : List Row → Option Manner
manner_in rows =
    option_map (λ workers. record { workers = workers; is_strict = is_set (first_of (codes "strict") rows) })
    (workers_in (first_of (codes "workers") rows))

-- the order of `play` with this script and these matches
abbrev pub script_with : List Row → Text → Option Requested
script_with rows script =
    option_and_then (λ paths. option_map (λ manner. Play paths.0 script manner paths.1) (manner_in rows)) (paths_in rows)

-- the order of `play` with these matches
abbrev pub play_with : List Row → Option Requested
play_with rows = option_and_then (script_with rows) (first_of (codes "script") rows)

-- the order of `settle` with these matches
abbrev pub settle_with : List Row → Option Requested
settle_with rows = option_map (λ paths. Settle paths.0 paths.1) (paths_in rows)

-- the order of `judge` with these matches
abbrev pub judge_with : List Row → Option Requested
judge_with rows = option_map (λ trace. Judge trace (first_of (codes "sites") rows)) (first_of (codes "trace") rows)

abbrev pub named : Text × List Row → Option Requested
named p =
    if bytes_eq p.0 (codes "run") then run_with p.1
    else (if bytes_eq p.0 (codes "certify") then certify_with p.1
    else (if bytes_eq p.0 (codes "check") then check_with p.1
    else (if bytes_eq p.0 (codes "play") then play_with p.1
    else (if bytes_eq p.0 (codes "settle") then settle_with p.1
    else (if bytes_eq p.0 (codes "judge") then judge_with p.1 else None)))))

-- the order of a subcommand with its matches
abbrev pub order_by : Option (Text × List Row) → Option Requested
order_by entered = option_and_then named entered

-- the order of the words after the program's own name; none if clap finds a fault in them or shows
-- help
unfoldable pub order_in : List Text → Option Requested
order_in [] = Some (Run Standard None)
order_in (w ∷ words) = if is_empty (fault_of cilk_app (w ∷ words)) then order_by (subcommand_of cilk_app (w ∷ words)) else None

-- an error of clap's is shown, unless memory ran out
abbrev pub IsRefusal : ErrorKind → WordsFault → Type 0
IsRefusal k (Usage text) = k ≢ OutOfMemory
IsRefusal k Memory = Unit {0}

-- the words are no order, or memory ran out
abbrev pub IsWordsFault : List Text → WordsFault → Type 0
IsWordsFault words (Usage text) = order_in words ≡ None
IsWordsFault words Memory = Unit {0}
