-- A program, an input and a certificate's text show one reply.
--
-- `one_end`: two runs end as one. `one_shown`: a run that ends, or stops, shows one reply.
-- `shows_once`, `certifies_once`: so do the commands `run` and `certify`. `checks_once`: a
-- certificate has one verdict.
use Rattle.std.proofs.Common.{◌≡◌, ℕ, ℤ, ◌+◌, List, length, Option, Some, None, refl, sym, ap, ◌∙◌, subst}
use Rattle.std.specs.Prelude.{◌≢◌, IsSome, IsTrue}
use Rattle.cilk_types.specs.Fault as faults
use Rattle.cilk_types.specs.declared.event.Event.{Event}
use Rattle.cilk_types.specs.declared.fault.Fault.{Fault}
use Rattle.cilk_types.specs.declared.outcome.Outcome.{Outcome}
use Rattle.cilk_types.specs.declared.limits.TheConstants.{MAX_EVENTS, MAX_TICKS}
use Rattle.cilk_program.specs.Outcomes.{Conclusion, Leaves, StopsBy}
use Rattle.cilk_program.specs.SerialRun.{IsSerialRun, Transcript}
use Rattle.cilk_program.specs.Syntax.{Source}
use Rattle.cilk_program.specs.WellNamed.{is_well_named}
use Rattle.cilk_program.proofs.Uniqueness.{serial_run_is_one}
use Rattle.cilk_serial.specs.Ran as serial
use Rattle.cilk_serial.specs.declared.fault.RunFault.{RunFault}
use Rattle.cilk_serial.specs.declared.fault.RunFault.TheVariants as stops
use Rattle.cilk_checker.specs.Judging.{Meant}
use Rattle.cilk_cert_text.specs.Certificates.{Contents, IsCertificate}
use Rattle.cilk_cert_text.specs.declared.line.Version.TheVariants.{Two}
use Rattle.cilk_cert_maker.specs.Certified as made
use Rattle.cilk_cert_maker.proofs.OneCertificate.{one_certified}
use Rattle.cilk_checker.specs.Answers.{IsCertified, IsRefusedText}
use Rattle.cilk_checker.specs.Numbers.{fields_of, number_of}
use Rattle.cilk_checker.specs.Texts.{AreTexts}
use Rattle.cilk_checker.specs.declared.refusal.Refusal.{Refusal}
use Rattle.cilk_checker.specs.declared.refusal.Refusal.TheVariants as refusals
use Rattle.cilk_checker.proofs.Judged.{true_refusal}
use Rattle.cilk_checker.proofs.OneVerdict.{acceptable_by, one_verdict}
use Rattle.cilk_commands.specs.OneReply.{IsOfTexts}
use Rattle.cilk_commands.specs.Replies as replies
use Rattle.cilk_commands.specs.Files.{Failures}
use Rattle.cilk_commands.specs.Replies.{BadInput, BadProgram, BadWords, Ended, Faulted, NoMemory, Reply, Text, Unreadable, places_of}
use Rattle.cilk_commands.specs.Shown.{CertifyShows, CheckShows, RunFails, RunShows, run_fault_view}

-- ---- a program's run

-- the reply to a run: this one if it ends, or the fault that stops it
pub data Shown (m : Meant) (inputs : List ℤ) (IsMade : Reply → Outcome → Type 0) (r : Reply) : Type 0 where
  Ends : (o : Outcome) (events : List Event) → IsMade r o → serial.Ran m.source inputs o events → Shown m inputs IsMade r
  Stops : (fault : Fault) (at : ℕ) → r ≡ Faulted (faults.number_of fault) at → serial.Stops m.source inputs fault at
      → Shown m inputs IsMade r

stopped : (m : Meant) (inputs : List ℤ) (P : Reply → Outcome → Type 0) (r : Reply) (f : RunFault) → IsOfTexts r
    → r ≡ run_fault_view f → serial.IsRunFault m.source inputs f → Shown m inputs P r
stopped m inputs P r stops.Memory v e h = absurd (subst IsOfTexts e v)
stopped m inputs P r (stops.At f at) v e h = Stops f at e h

pub fails : (m : Meant) (inputs : List ℤ) (P : Reply → Outcome → Type 0) (r : Reply) → IsOfTexts r → RunFails m inputs r
    → Shown m inputs P r
fails m inputs P r v h = stopped m inputs P r h.0 v h.1 h.2

one_run_of : (p : Source) (inputs : List ℤ) (r q : Transcript) (es fs : List Event) (c d : Conclusion)
    → IsSerialRun p inputs r es c → IsSerialRun p inputs q fs d → (es ≡ fs) × (c ≡ d)
one_run_of p inputs r q es fs c d h k =
    let a = serial_run_is_one p inputs MAX_TICKS MAX_EVENTS r q es fs c d h k in (a.1, a.2)

pub same_leaves : (o p : Outcome) → Leaves o ≡ Leaves p → o ≡ p
same_leaves o p e = cc

same_stops : (f g : Fault) → StopsBy f ≡ StopsBy g → f ≡ g
same_stops f g e = cc

pub leaves_or_stops : {A : Type 0} (o : Outcome) (f : Fault) → Leaves o ≡ StopsBy f → A
leaves_or_stops o f e = cc

pub one_shown : (m : Meant) (inputs : List ℤ) (P : Reply → Outcome → Type 0)
    → ((r q : Reply) (o p : Outcome) → o ≡ p → P r o → P q p → r ≡ q)
    → (r q : Reply) → Shown m inputs P r → Shown m inputs P q → r ≡ q
one_shown m inputs P one r q (Ends o es e h) (Ends p fs d k) =
    let a = one_run_of m.source inputs h.run k.run es fs (Leaves o) (Leaves p) h.serial k.serial in
    one r q o p (same_leaves o p a.1) e d
one_shown m inputs P one r q (Ends o es e h) (Stops g at d k) =
    let a = one_run_of m.source inputs h.run k.stops.run es k.events (Leaves o) (StopsBy g) h.serial k.stops.serial in
    leaves_or_stops o g a.1
one_shown m inputs P one r q (Stops f at e h) (Ends p fs d k) =
    let a = one_run_of m.source inputs k.run h.stops.run fs h.events (Leaves p) (StopsBy f) k.serial h.stops.serial in
    leaves_or_stops p f a.1
one_shown m inputs P one r q (Stops f at e h) (Stops g place d k) =
    let a = one_run_of m.source inputs h.stops.run k.stops.run h.events k.events (StopsBy f) (StopsBy g) h.stops.serial k.stops.serial in
    let same : at ≡ place = h.place ∙ (ap (λ es. length es + 1) a.0 ∙ sym k.place) in
    e
    ∙ (ap (λ x. Faulted (faults.number_of x) at) (same_stops f g a.1)
    ∙ (ap (Faulted (faults.number_of g)) same ∙ sym d))

-- the outcome is shown
abbrev IsEnded : Meant → Reply → Outcome → Type 0
IsEnded m r o = r ≡ Ended m.names o

shown : (m : Meant) (inputs : List ℤ) (r : Reply) → IsOfTexts r → RunShows m inputs r → Shown m inputs (IsEnded m) r
shown m inputs (Ended names o) v h = Ends o h.1.0 (ap (λ x. Ended x o) h.0) h.1.1
shown m inputs (Faulted n at) v h = fails m inputs (IsEnded m) (Faulted n at) v h
shown m inputs NoMemory v h = absurd v
shown m inputs BadWords v h = fails m inputs (IsEnded m) BadWords v h
shown m inputs (Unreadable name) v h = absurd v
shown m inputs (BadProgram n p) v h = fails m inputs (IsEnded m) (BadProgram n p) v h
shown m inputs (BadInput n p) v h = fails m inputs (IsEnded m) (BadInput n p) v h
shown m inputs (replies.Certified c) v h = fails m inputs (IsEnded m) (replies.Certified c) v h
shown m inputs replies.Accepted v h = fails m inputs (IsEnded m) replies.Accepted v h
shown m inputs (replies.Refused n ps) v h = fails m inputs (IsEnded m) (replies.Refused n ps) v h
shown m inputs (replies.FaultedIn n name) v h = fails m inputs (IsEnded m) (replies.FaultedIn n name) v h
shown m inputs (replies.BadScript at) v h = fails m inputs (IsEnded m) (replies.BadScript at) v h
shown m inputs (replies.Unmade skip) v h = fails m inputs (IsEnded m) (replies.Unmade skip) v h
shown m inputs replies.NotEnded v h = fails m inputs (IsEnded m) replies.NotEnded v h
shown m inputs (replies.Settled names o) v h = fails m inputs (IsEnded m) (replies.Settled names o) v h
shown m inputs (replies.RaceFree n) v h = fails m inputs (IsEnded m) (replies.RaceFree n) v h
shown m inputs (replies.BadTrace n at) v h = fails m inputs (IsEnded m) (replies.BadTrace n at) v h
shown m inputs (replies.Changed name) v h = fails m inputs (IsEnded m) (replies.Changed name) v h

pub shows_once : (m : Meant) (inputs : List ℤ) (r q : Reply) → IsOfTexts r → IsOfTexts q → RunShows m inputs r
    → RunShows m inputs q → r ≡ q
shows_once m inputs r q v w h k =
    one_shown m inputs (IsEnded m) (λ x y o p same e d. e ∙ (ap (Ended m.names) same ∙ sym d)) r q (shown m inputs r v h)
    (shown m inputs q w k)

-- ---- its certificate

-- the right certificate is shown
abbrev IsMade : Meant → List ℤ → Reply → Outcome → Type 0
IsMade m inputs r o =
    (c : Contents) × (r ≡ replies.Certified c) × (c.version ≡ Two) × IsCertificate c × made.IsCertificateOf m.source inputs c

wished : (m : Meant) (inputs : List ℤ) (r : Reply) → IsOfTexts r → CertifyShows m inputs r
    → Shown m inputs (IsMade m inputs) r
wished m inputs (replies.Certified c) v h = Ends h.2.outcome h.2.events (c, refl, h.0, h.1, h.2) h.2.ran
wished m inputs (Ended names o) v h = fails m inputs (IsMade m inputs) (Ended names o) v h
wished m inputs (Faulted n at) v h = fails m inputs (IsMade m inputs) (Faulted n at) v h
wished m inputs NoMemory v h = absurd v
wished m inputs BadWords v h = fails m inputs (IsMade m inputs) BadWords v h
wished m inputs (Unreadable name) v h = absurd v
wished m inputs (BadProgram n p) v h = fails m inputs (IsMade m inputs) (BadProgram n p) v h
wished m inputs (BadInput n p) v h = fails m inputs (IsMade m inputs) (BadInput n p) v h
wished m inputs replies.Accepted v h = fails m inputs (IsMade m inputs) replies.Accepted v h
wished m inputs (replies.Refused n ps) v h = fails m inputs (IsMade m inputs) (replies.Refused n ps) v h
wished m inputs (replies.FaultedIn n name) v h = fails m inputs (IsMade m inputs) (replies.FaultedIn n name) v h
wished m inputs (replies.BadScript at) v h = fails m inputs (IsMade m inputs) (replies.BadScript at) v h
wished m inputs (replies.Unmade skip) v h = fails m inputs (IsMade m inputs) (replies.Unmade skip) v h
wished m inputs replies.NotEnded v h = fails m inputs (IsMade m inputs) replies.NotEnded v h
wished m inputs (replies.Settled names o) v h = fails m inputs (IsMade m inputs) (replies.Settled names o) v h
wished m inputs (replies.RaceFree n) v h = fails m inputs (IsMade m inputs) (replies.RaceFree n) v h
wished m inputs (replies.BadTrace n at) v h = fails m inputs (IsMade m inputs) (replies.BadTrace n at) v h
wished m inputs (replies.Changed name) v h = fails m inputs (IsMade m inputs) (replies.Changed name) v h

one_made : (m : Meant) (inputs : List ℤ) (r q : Reply) (o p : Outcome) → IsTrue (is_well_named m.source)
    → IsMade m inputs r o → IsMade m inputs q p → r ≡ q
one_made m inputs r q o p named h k =
    h.1 ∙ (ap replies.Certified (one_certified m.source inputs h.0 k.0 named h.3 k.3 (h.2 ∙ sym k.2) h.4 k.4) ∙ sym k.1)

pub certifies_once : (m : Meant) (inputs : List ℤ) → IsTrue (is_well_named m.source) → (r q : Reply) → IsOfTexts r
    → IsOfTexts q → CertifyShows m inputs r → CertifyShows m inputs q → r ≡ q
certifies_once m inputs named r q v w h k =
    one_shown m inputs (IsMade m inputs) (λ x y o p same e d. one_made m inputs x y o p named e d) r q
    (wished m inputs r v h) (wished m inputs q w k)

-- ---- the check of a certificate

-- the reply to a check
data Checked (known : Option Text) (m : Meant) (inputs : List ℤ) (r : Reply) : Type 0 where
  Accepts : (events : List Event) (o : Outcome) → r ≡ replies.Accepted → IsCertified m.source inputs known events o
      → Checked known m inputs r
  Refuses : (f : Refusal) → f ≢ refusals.Memory → r ≡ replies.Refused (number_of f) (places_of (fields_of f))
      → IsRefusedText m.source inputs known f → Checked known m inputs r

checked : (path : Text) (known : Option Text) (failed failed' : Failures) (m : Meant) (inputs : List ℤ) (r : Reply)
    → IsOfTexts r → CheckShows path known failed failed' m inputs r → Checked known m inputs r
checked path known failed failed' m inputs replies.Accepted v h = let run = h.1 in Accepts run.0 run.1 refl run.2
checked path known failed failed' m inputs (replies.Refused n ps) v h =
    Refuses h.0 h.1 (ap (λ x. replies.Refused x ps) h.2 ∙ ap (replies.Refused (number_of h.0)) h.3) h.5
checked path known failed failed' m inputs (Unreadable name) v h = absurd v
checked path known failed failed' m inputs NoMemory v h = absurd v
checked path known failed failed' m inputs (Ended names o) v h = absurd h
checked path known failed failed' m inputs (Faulted n at) v h = absurd h
checked path known failed failed' m inputs BadWords v h = absurd h
checked path known failed failed' m inputs (BadProgram n p) v h = absurd h
checked path known failed failed' m inputs (BadInput n p) v h = absurd h
checked path known failed failed' m inputs (replies.Certified c) v h = absurd h
checked path known failed failed' m inputs (replies.FaultedIn n name) v h = absurd h
checked path known failed failed' m inputs (replies.BadScript at) v h = absurd h
checked path known failed failed' m inputs (replies.Unmade skip) v h = absurd h
checked path known failed failed' m inputs replies.NotEnded v h = absurd h
checked path known failed failed' m inputs (replies.Settled names o) v h = absurd h
checked path known failed failed' m inputs (replies.RaceFree n) v h = absurd h
checked path known failed failed' m inputs (replies.BadTrace n at) v h = absurd h
checked path known failed failed' m inputs (replies.Changed name) v h = absurd h

-- a text that is accepted isn't refused
not_refused : {A : Type 0} (m : Meant) (inputs : List ℤ) (text numbers certificate : Text)
    → AreTexts text numbers m inputs → (events : List Event) (o : Outcome) (f : Refusal) → f ≢ refusals.Memory
    → IsCertified m.source inputs (Some certificate) events o → IsRefusedText m.source inputs (Some certificate) f → A
not_refused m inputs text numbers certificate t events o f v h k =
    absurd ((one_verdict text numbers certificate).apart f v
    (acceptable_by text numbers (Some certificate) m inputs events o t h)
    (true_refusal text numbers (Some certificate) m inputs t f k))

one_checked : (m : Meant) (inputs : List ℤ) (text numbers certificate : Text) → AreTexts text numbers m inputs
    → (r q : Reply) → Checked (Some certificate) m inputs r → Checked (Some certificate) m inputs q → r ≡ q
one_checked m inputs text numbers certificate t r q (Accepts es o e h) (Accepts fs p d k) = e ∙ sym d
one_checked m inputs text numbers certificate t r q (Accepts es o e h) (Refuses g w d k) =
    not_refused m inputs text numbers certificate t es o g w h k
one_checked m inputs text numbers certificate t r q (Refuses f v e h) (Accepts fs p d k) =
    not_refused m inputs text numbers certificate t fs p f v k h
one_checked m inputs text numbers certificate t r q (Refuses f v e h) (Refuses g w d k) =
    let known : Option Text = Some certificate in
    let same = (one_verdict text numbers certificate).refusals f g v w (true_refusal text numbers known m inputs t f h)
    (true_refusal text numbers known m inputs t g k) in
    e ∙ (ap (λ x. replies.Refused (number_of x) (places_of (fields_of x))) same ∙ sym d)

one_checked_known : (known : Option Text) (m : Meant) (inputs : List ℤ) (text numbers : Text) → IsSome known
    → AreTexts text numbers m inputs → (r q : Reply) → Checked known m inputs r → Checked known m inputs q → r ≡ q
one_checked_known None m inputs text numbers some t r q h k = cc
one_checked_known (Some certificate) m inputs text numbers some t r q h k =
    one_checked m inputs text numbers certificate t r q h k

pub checks_once : (path : Text) (known : Option Text) (failed failed' : Failures) (m : Meant) (inputs : List ℤ)
    (text numbers : Text) → IsSome known → AreTexts text numbers m inputs → (r q : Reply) → IsOfTexts r → IsOfTexts q
    → CheckShows path known failed failed' m inputs r → CheckShows path known failed failed' m inputs q → r ≡ q
checks_once path known failed failed' m inputs text numbers some t r q v w h k =
    one_checked_known known m inputs text numbers some t r q (checked path known failed failed' m inputs r v h)
    (checked path known failed failed' m inputs q w k)
