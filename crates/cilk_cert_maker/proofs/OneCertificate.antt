-- The run of a program has one right certificate: `one_certified`.
use Rattle.std.proofs.Common.{◌≡◌, ℤ, List, subst}
use Rattle.cilk_types.specs.declared.event.Event.{Event}
use Rattle.cilk_types.specs.declared.limits.TheConstants.{MAX_EVENTS, MAX_TICKS}
use Rattle.cilk_types.specs.declared.outcome.Outcome.{Outcome}
use Rattle.cilk_program.specs.Outcomes.{Leaves}
use Rattle.cilk_program.specs.Syntax.{Source}
use Rattle.cilk_program.proofs.Uniqueness.{serial_run_is_one}
use Rattle.cilk_tree.specs.Shape.{Shape, Spells}
use Rattle.cilk_tree.proofs.Spelled.{spells_one}
use Rattle.cilk_determinacy.proofs.Creations.{have_creations}
use Rattle.cilk_cert_maker.specs.Right.{IsRight}
use Rattle.cilk_cert_maker.proofs.OneRight.{one_right}
use Rattle.cilk_cert_maker.specs.Certified.{RunsHaveOneCertificate}

same_outcome : (o p : Outcome) → Leaves o ≡ Leaves p → o ≡ p
same_outcome o p e = cc

pub one_certified : (p : Source) (inputs : List ℤ) → RunsHaveOneCertificate p inputs
one_certified p inputs c d named fits fits' v a b =
    let one = serial_run_is_one p inputs MAX_TICKS MAX_EVENTS b.ran.run a.ran.run b.events a.events (Leaves b.outcome) (Leaves a.outcome) b.ran.serial a.ran.serial in
    let outcome : b.outcome ≡ a.outcome = same_outcome b.outcome a.outcome one.2 in
    let spells : Spells b.shape a.events = subst (λ (es : List Event). Spells b.shape es) one.1 b.spells in
    let shape : b.shape ≡ a.shape = spells_one b.shape a.shape a.events spells a.spells in
    let r1 : IsRight b.shape a.events b.outcome.result d = subst (λ (es : List Event). IsRight b.shape es b.outcome.result d) one.1 b.right in
    let r2 : IsRight a.shape a.events b.outcome.result d = subst (λ (s : Shape). IsRight s a.events b.outcome.result d) shape r1 in
    let r3 : IsRight a.shape a.events a.outcome.result d = subst (λ (o : Outcome). IsRight a.shape a.events o.result d) outcome r2 in
    one_right a.shape a.events a.outcome.result c d fits fits' v
    (λ _. (have_creations p inputs a.ran.run a.events (Leaves a.outcome) named a.ran.serial).created) a.right r3
