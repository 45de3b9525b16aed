-- `settle` for every input that agrees with a program's own at some positions.
use Rattle.std.specs.Prelude.{◌≡◌, ℕ, suc, ℤ, Bool, List, [], ◌∷◌, ◌++◌, cond, length, slice_get, Option, Some, Result, Ok, Err, codes}
use Rattle.cilk_types.specs.Fault as run_faults
use Rattle.cilk_types.specs.declared.outcome.Outcome.{Outcome}
use Rattle.cilk_determinacy.specs.Words.{InputsAreWords}
use Rattle.cilk_checker.specs.Judging.{Meant}
use Rattle.cilk_checker.specs.Numbers.{fields_of, number_of}
use Rattle.cilk_checker.specs.declared.every.Finding.{Finding}
use Rattle.cilk_checker.specs.declared.every.Finding.TheVariants as findings
use Rattle.cilk_commands.specs.Replies.{Faulted, Refused, Reply, Settled, Text, answer_view, failure_view, line, out_text, outcome_text, places_of}
use Rattle.cilk_commands.specs.Serving.{AreGiven, Surroundings}
use Rattle.cilk_commands.specs.Shown.{SettleShows, refusal_of}
use Rattle.cilk_commands.specs.declared.reply.Answer.{Answer}
use Rattle.cilk_commands.specs.declared.reply.Failure.{Failure}
use Rattle.cilk_messages.specs.Claims.{every_text}
use Rattle.cilk_messages.specs.Words.{File}
use Rattle.cilk_messages.specs.declared.claim.Claim.{Claim}

-- ---- what is claimed

-- an input has these numbers at these positions
abbrev pub HasNumbers : List ℤ → List (ℕ × ℤ) → Type 0
HasNumbers inputs [] = Unit {0}
HasNumbers inputs (p ∷ ps) = (slice_get inputs p.0 ≡ Some p.1) × HasNumbers inputs ps

-- an input is one of those of which a claim speaks: of as many numbers, with these at these positions
abbrev pub IsOfClaim : Claim → List ℤ → Type 0
IsOfClaim c inputs = (length inputs ≡ c.count) × HasNumbers inputs (let f = c.fixed in f.items)

-- the reply of `settle` on an input is this one, but for the outcome
abbrev pub SettlesAlike : Meant → Reply → List ℤ → Type 0
SettlesAlike m (Settled names o) others = (own : Outcome) × SettleShows m others (Settled names own)
SettlesAlike m r others = SettleShows m others r

-- What a claim says beside a reply: it speaks of the program's own input, and on every input of words of
-- which it speaks `settle` has this reply too, but for the outcome.
pub record HoldsOnEvery (m : Meant) (inputs : List ℤ) (r : Reply) (c : Claim) : Type 0 where
  pub this : SettleShows m inputs r
  pub own : IsOfClaim c inputs
  pub every : (others : List ℤ) → InputsAreWords others → IsOfClaim c others → SettlesAlike m r others

-- the same of the program and the input that texts mean
abbrev pub ClaimReply : Surroundings → Text → Option Text → Reply → Claim → Type 0
ClaimReply w program input r c = (m : Meant) × (inputs : List ℤ) × AreGiven w (File program) input m inputs × HoldsOnEvery m inputs r c

-- ---- how it is shown

-- the text for standard output: where a program is settled, of which inputs
abbrev pub claimed_text : Option Claim → Reply → Text
claimed_text (Some c) (Settled names o) = line (codes "settled on " ++ every_text c) ++ outcome_text names o
claimed_text _ r = out_text r

-- the line that follows an explanation: on which inputs a race or a fault is
abbrev pub line_behind : Claim → Reply → Text
line_behind c (Refused number places) = line (codes "the first race is the same on " ++ every_text c)
line_behind c (Faulted number at) = line (codes "the fault is the same on " ++ every_text c)
line_behind c r = []

-- ---- the values of the code

abbrev pub reply_view : Result Answer Failure → Reply
reply_view (Ok answer) = answer_view answer
reply_view (Err failure) = failure_view failure

-- the reply that a finding is
abbrev pub finding_view : List Text → Finding → Reply
finding_view names (findings.Settled o) = Settled names o
finding_view names (findings.Race first) = Refused (number_of (refusal_of first)) (places_of (fields_of (refusal_of first)))
finding_view names (findings.Fault fault at) = Faulted (run_faults.number_of fault) at

-- the numbers that aren't hidden, with their positions from `at` on
abbrev pub fixed_from : (ℕ → Bool) → ℕ → List ℤ → List (ℕ × ℤ)
fixed_from hidden at [] = []
fixed_from hidden at (x ∷ xs) = cond (hidden at) (fixed_from hidden (suc at) xs) ((at, x) ∷ fixed_from hidden (suc at) xs)
