-- Properties of the run of a checked certificate.
--
-- - `run_spelled`: a serial run that ends has a shape, and its reducers are created before they are
--   used;
-- - `is_determinate`: such a run without a race is determinate;
-- - `given_refused`, `refused_at_end`, `refused_before`: the first failing check is a true refusal;
-- - `certified`: a run with a right certificate and no race is determinate;
-- - `told_true`: the error for a text that wasn't read to its end is true;
-- - `ran_at`, `frames_at`, `stops_at`: how a run has ended, for the events of a column.
use Rattle.std.proofs.Common.{◌≡◌, inl, inr, ℕ, ℤ, List, Option, IsTrue, sym, subst}
use Rattle.std.proofs.Common.{Vec, Global}
use Rattle.cilk_types.specs.declared.event.Event.{Event}
use Rattle.cilk_types.specs.declared.fault.Fault.{Fault}
use Rattle.cilk_types.specs.declared.outcome.Outcome.{Outcome}
use Rattle.cilk_program.specs.Outcomes.{Leaves}
use Rattle.cilk_program.specs.Syntax.{Source}
use Rattle.cilk_program.specs.WellNamed.{is_well_named}
use Rattle.cilk_serial.specs.Ran.{Ran, StopsAfter}
use Rattle.cilk_tree.specs.Shape.{Shape, Spells}
use Rattle.cilk_tree.specs.Tree.{tree}
use Rattle.cilk_tree.specs.Races.{HasNoRace}
use Rattle.cilk_peers.specs.ViewRaces.{HasNoViewRace}
use Rattle.cilk_determinacy.specs.Traces.{shape_of}
use Rattle.cilk_cert_text.specs.Certificates.{Contents}
use Rattle.cilk_determinacy.specs.Events.{HasCreations}
use Rattle.cilk_determinacy.specs.Nested.{named}
use Rattle.cilk_determinacy.specs.Settled.{SerialRunsSettle}
use Rattle.cilk_determinacy.proofs.Creations.{have_creations}
use Rattle.cilk_determinacy.proofs.Determinate.{serial_numbered}
use Rattle.cilk_cert_text.specs.declared.fault.CertFault.TheVariants as cert_faults
use Rattle.cilk_checker.specs.declared.hearing.Stop.{Stop}
use Rattle.cilk_checker.specs.declared.hearing.Stop.TheVariants as stops
use Rattle.cilk_checker.specs.declared.refusal.Refusal.{Refusal}
use Rattle.cilk_checker.specs.declared.refusal.Refusal.TheVariants as refusals
use Rattle.cilk_checker.specs.Answers.{IsCertified, IsRefusedText, IsUnaccepted}
use Rattle.cilk_checker.specs.Told.{told}
use Rattle.cilk_checker.specs.Determinate.{IsDeterminateRun}
use Rattle.cilk_checker.specs.Refusals.{Ended, IsClean, IsFound, IsFoundBefore, IsRefused}
use Rattle.cilk_checker.specs.Stops.{GivesCertificate, IsStop}
use Rattle.cilk_checker.specs.declared.ending.End.{End}
use Rattle.cilk_checker.specs.declared.ending.End.TheVariants.{Left, Stopped}
use Rattle.cilk_lower.specs.Code.{CodeView}
use Rattle.cilk_lower.specs.Lowered.{IsLowered}
use Rattle.cilk_lower.specs.declared.layout.PlannedFrame.{PlannedFrame}
use Rattle.cilk_checker.specs.Frames.{AreFramesIn}
use Rattle.cilk_checker.specs.Runs.{EndsWith}

-- ---- runs

pub run_spelled : (p : Source) (inputs : List ℤ) → IsTrue (is_well_named p) → (o : Outcome) (es : List Event) → Ran p inputs o es → (s : Shape) × Ended p inputs s es o
run_spelled p inputs well o es ran =
    let n = serial_numbered p inputs ran.run es o well ran.serial in
    (shape_of (named p ran.run), record { ran = ran; spells = n.spells })

pub run_creates : (p : Source) (inputs : List ℤ) → IsTrue (is_well_named p) → (o : Outcome) (es : List Event) → Ran p inputs o es → HasCreations es
run_creates p inputs well o es ran = have_creations p inputs ran.run es (Leaves o) well ran.serial

pub is_determinate : (p : Source) (inputs : List ℤ) → SerialRunsSettle p inputs → (s : Shape) (es : List Event) (o : Outcome) → Ended p inputs s es o
    → HasNoRace (tree s) es → HasNoViewRace (tree s) es → IsDeterminateRun p inputs s es o
is_determinate p inputs settle s es o e races view_races = record {
  ended = e;
  races = races;
  view_races = view_races;
  parallel = settle e.ran.run es o e.ran.serial (record { shape = s; spells = e.spells; races = races; view_races = view_races });
}

-- ---- refusals

-- these are the only refusals
abbrev pub FindsNothing : Refusal → Type 0
FindsNothing r = ((s : Shape) (es : List Event) (value : ℤ) (c : Contents) → IsFound s es value c r → ⊥) × ((es : List Event) (c : Contents) → IsFoundBefore es c r → ⊥)

pub never : (p : Source) (inputs : List ℤ) (c : Contents) (r : Refusal) → FindsNothing r → IsRefused p inputs c r → ⊥
never p inputs c r none (inl x) = none.0 x.0 x.1 x.2.result c x.4
never p inputs c r none (inr x) = none.1 x.0 c x.3

pub given_refused : (p : Source) (inputs : List ℤ) (known : Option (List ℕ)) (r : Refusal) → GivesCertificate known (λ c. IsRefused p inputs c r) → IsRefusedText p inputs known r
given_refused p inputs known (refusals.Program fault place) g = g
given_refused p inputs known (refusals.Name fault place) g = g
given_refused p inputs known (refusals.Input fault place) g = g
given_refused p inputs known (refusals.Malformed line) g = absurd (never p inputs g.certificate (refusals.Malformed line) ((λ s es value c h. h), (λ es c h. h)) g.holds)
given_refused p inputs known (refusals.Truncated line) g = absurd (never p inputs g.certificate (refusals.Truncated line) ((λ s es value c h. h), (λ es c h. h)) g.holds)
given_refused p inputs known (refusals.Event at) g = g
given_refused p inputs known (refusals.Stops at) g = g
given_refused p inputs known (refusals.Frame frame) g = g
given_refused p inputs known (refusals.Strand strand) g = g
given_refused p inputs known (refusals.Hebrew strand) g = g
given_refused p inputs known (refusals.Class strand) g = g
given_refused p inputs known (refusals.ReadSource at) g = g
given_refused p inputs known refusals.Result g = g
given_refused p inputs known (refusals.Race earlier later) g = g
given_refused p inputs known (refusals.ViewRace created used) g = g
given_refused p inputs known refusals.Memory g = tt

pub with_holds : {P Q : Contents → Type 0} (known : Option (List ℕ)) → ((c : Contents) → P c → Q c) → GivesCertificate known P → GivesCertificate known Q
with_holds known f g = record { text = g.text; gives = g.gives; certificate = g.certificate; fits = g.fits; text_is = g.text_is; holds = f g.certificate g.holds }

pub refused_at_end : (p : Source) (inputs : List ℤ) (known : Option (List ℕ)) (s : Shape) (es : List Event) (o : Outcome) (r : Refusal) → Ended p inputs s es o
    → GivesCertificate known (λ c. IsFound s es o.result c r) → IsRefusedText p inputs known r
refused_at_end p inputs known s es o r e g = given_refused p inputs known r (with_holds known (λ c found. inl (s, es, o, e, found)) g)

pub refused_before : (p : Source) (inputs : List ℤ) (known : Option (List ℕ)) (es : List Event) (f : Fault) (r : Refusal) → StopsAfter p inputs es f
    → GivesCertificate known (λ c. IsFoundBefore es c r) → IsRefusedText p inputs known r
refused_before p inputs known es f r stops g = given_refused p inputs known r (with_holds known (λ c found. inr (es, f, stops, found)) g)

pub certified : (p : Source) (inputs : List ℤ) (known : Option (List ℕ)) → IsTrue (is_well_named p) → SerialRunsSettle p inputs → (o : Outcome) (es : List Event) → Ran p inputs o es
    → ((s : Shape) → Spells s es → HasCreations es → GivesCertificate known (IsClean s es o.result)) → IsCertified p inputs known es o
certified p inputs known well settle o es ran clean =
    let e = run_spelled p inputs well o es ran in
    let g = clean e.0 e.1.spells (run_creates p inputs well o es ran) in
    (e.0, is_determinate p inputs settle e.0 es o e.1 g.holds.races g.holds.view_races, with_holds known (λ d h. h.right) g)

pub told_true : (p : Source) (inputs : List ℤ) (known : Option (List ℕ)) (failed failed' : ℕ) (stop : Stop) → IsStop known failed failed' stop
    → IsUnaccepted p inputs known failed failed' (told stop)
told_true p inputs known failed failed' (stops.Fault (cert_faults.Malformed line)) h = h
told_true p inputs known failed failed' (stops.Fault (cert_faults.Truncated line)) h = h
told_true p inputs known failed failed' (stops.Fault cert_faults.Memory) h = tt
told_true p inputs known failed failed' stops.Unread h = h

-- ---- how a run has ended

pub ran_at : (p : Source) (inputs : List ℤ) (end : End) (o : Outcome) (frames : Vec PlannedFrame Global) (code : CodeView) (es es' : List Event) → end ≡ Left o frames code → EndsWith p inputs end es → es' ≡ es
    → Ran p inputs o es'
ran_at p inputs end o frames code es es' is ends same =
    let left : EndsWith p inputs (Left o frames code) es = subst (λ (e : End). EndsWith p inputs e es) is ends in
    subst (λ (l : List Event). Ran p inputs o l) (sym same) left.0

pub frames_at : (p : Source) (inputs : List ℤ) (end : End) (o : Outcome) (frames : Vec PlannedFrame Global) (code : CodeView) (es es' : List Event) → end ≡ Left o frames code → EndsWith p inputs end es → es' ≡ es
    → AreFramesIn p inputs es' o frames.items
frames_at p inputs end o frames code es es' is ends same =
    let left : EndsWith p inputs (Left o frames code) es = subst (λ (e : End). EndsWith p inputs e es) is ends in
    subst (λ (l : List Event). AreFramesIn p inputs l o frames.items) (sym same) left.1

pub code_at : (p : Source) (inputs : List ℤ) (end : End) (o : Outcome) (frames : Vec PlannedFrame Global) (code : CodeView) (es : List Event) → end ≡ Left o frames code → EndsWith p inputs end es
    → IsLowered p code
code_at p inputs end o frames code es is ends =
    let left : EndsWith p inputs (Left o frames code) es = subst (λ (e : End). EndsWith p inputs e es) is ends in
    left.2

pub stops_at : (p : Source) (inputs : List ℤ) (end : End) (f : Fault) (frames : Vec PlannedFrame Global) (code : CodeView) (es es' : List Event) → end ≡ Stopped f frames code → EndsWith p inputs end es → es' ≡ es → StopsAfter p inputs es' f
stops_at p inputs end f frames code es es' is ends same =
    let stopped : EndsWith p inputs (Stopped f frames code) es = subst (λ (e : End). EndsWith p inputs e es) is ends in
    subst (λ (l : List Event). StopsAfter p inputs l f) (sym same) stopped.0
