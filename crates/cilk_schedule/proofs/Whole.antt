-- A whole script, from a new machine on.
--
-- - `left_by`, `failed_by`: the outcome of a script, and its error.
use Rattle.std.proofs.Common.{◌≡◌, ◌-◌, ℕ, ℤ, List, [], Option, sym, subst}
use Rattle.cilk_types.specs.declared.outcome.Outcome.{Outcome}
use Rattle.cilk_program.specs.Syntax.{Source}
use Rattle.cilk_lower.specs.Code.{CodeView}
use Rattle.cilk_schedule.specs.Reached.{HasOpened}
use Rattle.cilk_lower.specs.Behaves.{IsCodeOf}
use Rattle.cilk_schedule.specs.declared.machine.Machine.{Machine}
use Rattle.cilk_schedule.proofs.Played.{leaves_by, opened_at}
use Rattle.cilk_parser.specs.declared.script.Step.{Step}
use Rattle.cilk_schedule.specs.Playing.{ComesToFault, Done, Ends, IsFault, IsLeft, Leads, Plays, tasks_of}
use Rattle.cilk_schedule.specs.declared.fault.PlayFault.{PlayFault}
use Rattle.cilk_schedule.proofs.Following.{fault_of, led, led_to_fault}

module _ (code : CodeView) (p : Source) (inputs : List ℤ) (workers : ℕ) (steps : List Step) (m : Machine) where
  pub left_by : (m' : Machine) (left : Option Outcome) → IsCodeOf p code → (let c = m.code in c.now ≡ code) → (let i = m.input in i.now ≡ inputs) → HasOpened code p inputs m.scheduler (workers - 1) → Leads workers (tasks_of steps) m [] m'
      → left ≡ (let b = m'.scheduler in b.outcome) → IsLeft p inputs workers steps left
  left_by m' left is e d o l at =
      let i = m.input in
      let a = opened_at code p inputs workers m e d o in
      let h = a.0 in
      let r = l.reached p (subst (λ (x : CodeView). IsCodeOf p x) (sym e) is) h in
      let x = r.0 in
      let c' = m'.code in
      let i' = m'.input in
      let plays = led p i.now workers (tasks_of steps) h.state x.state h.worker_table x.worker_table r.1 in (
        x.state,
        x.worker_table,
        (
          h.state,
          a.1.0,
          subst (λ z. Plays p inputs workers (tasks_of steps) h.state z (Done x.state x.worker_table)) a.1.1 (subst (λ (y : List ℤ). Plays p y workers (tasks_of steps) h.state h.worker_table (Done x.state x.worker_table)) d plays),
        ),
        (let y = x.shows in leaves_by c'.now p i'.now x.name m'.scheduler x.state y.tells left (sym at)),
      )

  pub failed_by : (f : PlayFault) → IsCodeOf p code → (let c = m.code in c.now ≡ code) → (let i = m.input in i.now ≡ inputs) → HasOpened code p inputs m.scheduler (workers - 1) → ComesToFault workers (tasks_of steps) m f → IsFault (Ends p inputs workers steps) f
  failed_by f is e d o k =
      let i = m.input in
      let a = opened_at code p inputs workers m e d o in
      let h = a.0 in
      let q = led_to_fault p i.now workers (tasks_of steps) h.state h.worker_table f (k p (subst (λ (x : CodeView). IsCodeOf p x) (sym e) is) h) in
      fault_of (Plays p i.now workers (tasks_of steps) h.state h.worker_table) (Ends p inputs workers steps) f
      (λ end z. (h.state, a.1.0, subst (λ y. Plays p inputs workers (tasks_of steps) h.state y end) a.1.1 (subst (λ (y : List ℤ). Plays p y workers (tasks_of steps) h.state h.worker_table end) d z))) q
