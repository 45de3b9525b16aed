-- Three texts have at most one verdict.
--
-- - `one_end`, `ends_or_stops`: a program's run ends in one way;
-- - `one_refused`: two refusals of one certificate of a program's run are equal;
--   `acceptable_refused`: a certificate that is to be accepted has none;
-- - `kind_of`: a true refusal is of the program's text, the input's, the certificate's, or of the
--   run;
-- - `same_kind`: two are equal;
-- - `acceptable_by`: an accepted certificate is one that is to be accepted;
-- - `one_verdict`: all of it;
-- - `only_memory`, `same_or_memory`, `only_none`, `same_or_none`: so a true answer is that verdict,
--   or none;
-- - `only_by`, `one_by`: the same for the result of a check.
use Rattle.std.proofs.Common.{
  ◌≡◌,
  ◌≢◌,
  ◌⊎◌,
  inl,
  inr,
  ℕ,
  ℤ,
  List,
  Option,
  Some,
  Result,
  Ok,
  Err,
  refl,
  sym,
  ap,
  subst,
  ◌∙◌,
}
use Rattle.std.specs.Prelude.{IfOk, IfErr, MatchResult}
use Rattle.std.proofs.lemmas.Result.{IfErr-weaker}
use Rattle.cilk_types.specs.declared.event.Event.{Event}
use Rattle.cilk_types.specs.declared.fault.Fault.{Fault}
use Rattle.cilk_types.specs.declared.limits.TheConstants.{MAX_EVENTS, MAX_TICKS}
use Rattle.cilk_types.specs.declared.outcome.Outcome.{Outcome}
use Rattle.cilk_program.specs.Outcomes.{Leaves, StopsBy}
use Rattle.cilk_program.specs.Sources.{source}
use Rattle.cilk_program.specs.Syntax.{Source}
use Rattle.cilk_program.proofs.Uniqueness.{serial_run_is_one}
use Rattle.cilk_serial.specs.Ran.{StopsAfter}
use Rattle.cilk_tree.specs.Shape.{Shape, Spells}
use Rattle.cilk_tree.proofs.Spelled.{spells_one}
use Rattle.cilk_parser.specs.declared.fault.SyntaxErrorKind.{SyntaxErrorKind}
use Rattle.cilk_parser.specs.declared.fault.TextFault.TheVariants as text_faults
use Rattle.cilk_parser.specs.Inputs.{IsInputFault}
use Rattle.cilk_parser.proofs.UniqueInputs.{one_input}
use Rattle.cilk_checker.specs.Judging.{IsProgramFault, IsProgramText, Meant, meant}
use Rattle.cilk_checker.specs.declared.fault.ProgramFault.{ProgramFault}
use Rattle.cilk_checker.specs.declared.fault.ProgramFault.TheVariants as program_faults
use Rattle.cilk_checker.proofs.OneMeaning.{one_meaning}
use Rattle.cilk_cert_text.specs.declared.fault.CertFault.{CertFault}
use Rattle.cilk_cert_text.specs.declared.fault.CertFault.TheVariants as cert_faults
use Rattle.cilk_cert_text.specs.Certificates.{Contents}
use Rattle.cilk_cert_text.specs.Reading.{reading_of}
use Rattle.cilk_cert_text.proofs.Texts.{one_certificate, only_err}
use Rattle.cilk_checker.specs.Answers.{IsCertified}
use Rattle.cilk_checker.specs.Determinate.{AcceptedRun}
use Rattle.cilk_checker.specs.OneVerdict.{AreSame, HasOneVerdict, IsNoVerdict}
use Rattle.cilk_checker.specs.Refusals.{Ended, IsClean, IsFound, IsFoundBefore, IsRefused}
use Rattle.cilk_checker.specs.Stops.{GivesCertificate}
use Rattle.cilk_checker.specs.Texts.{AreTexts, IsAcceptable, IsTrueAnswer, IsTrueRefusal}
use Rattle.cilk_checker.specs.declared.refusal.Refusal.{Refusal}
use Rattle.cilk_checker.specs.declared.refusal.Refusal.TheVariants as refusals
use Rattle.cilk_checker.specs.declared.refusal.Unaccepted.{Unaccepted}
use Rattle.cilk_checker.specs.declared.refusal.Unaccepted.TheVariants as unaccepted
use Rattle.cilk_checker.proofs.Checked.{with_holds}
use Rattle.cilk_checker.proofs.FirstFound.{clean_found, found_before_once, found_once}

-- ---- runs

-- two ends of a program's run
record IsOneEnd (s s' : Shape) (es es' : List Event) (o o' : Outcome) : Type 0 where
  shape : s' ≡ s
  events : es' ≡ es
  outcome : o' ≡ o

one_end : (p : Source) (inputs : List ℤ) (s s' : Shape) (es es' : List Event) (o o' : Outcome) → Ended p inputs s es o
    → Ended p inputs s' es' o' → IsOneEnd s s' es es' o o'
one_end p inputs s s' es es' o o' a b =
    let e = serial_run_is_one p inputs MAX_TICKS MAX_EVENTS b.ran.run a.ran.run es' es (Leaves o')
    (Leaves o) b.ran.serial a.ran.serial in
    let same : es' ≡ es = e.1 in
    let left : Leaves o' ≡ Leaves o = e.2 in
    record { shape = spells_one s' s es (subst (Spells s') same b.spells) a.spells; events = same; outcome = cc left }

ends_or_stops : (p : Source) (inputs : List ℤ) (s : Shape) (es es' : List Event) (o : Outcome) (f : Fault)
    → Ended p inputs s es o → StopsAfter p inputs es' f → ⊥
ends_or_stops p inputs s es es' o f a b =
    let e = serial_run_is_one p inputs MAX_TICKS MAX_EVENTS a.ran.run b.run es es' (Leaves o)
    (StopsBy f) a.ran.serial b.serial in
    let apart : Leaves o ≡ StopsBy f = e.2 in
    absurd (cc apart)

stops_once : (p : Source) (inputs : List ℤ) (es es' : List Event) (f f' : Fault) → StopsAfter p inputs es f
    → StopsAfter p inputs es' f' → es' ≡ es
stops_once p inputs es es' f f' a b =
    let e = serial_run_is_one p inputs MAX_TICKS MAX_EVENTS b.run a.run es' es (StopsBy f')
    (StopsBy f) b.serial a.serial in e.1

-- the first failing check for a run, carried over to an equal run
found_of : (c : Contents) (r : Refusal) (s s' : Shape) (es es' : List Event) (o o' : Outcome)
    → IsOneEnd s s' es es' o o' → IsFound s' es' o'.result c r → IsFound s es o.result c r
found_of c r s s' es es' o o' e h =
    subst (λ (x : Shape). IsFound x es o.result c r) e.shape
    (subst (λ (x : List Event). IsFound s' x o.result c r) e.events
    (subst (λ (x : Outcome). IsFound s' es' x.result c r) e.outcome h))

one_refused : (p : Source) (inputs : List ℤ) (c : Contents) (r r' : Refusal) → IsRefused p inputs c r
    → IsRefused p inputs c r' → r ≡ r'
one_refused p inputs c r r' (inl a) (inl b) =
    found_once a.0 a.1 a.2.result c r r' a.4
    (found_of c r' a.0 b.0 a.1 b.1 a.2 b.2 (one_end p inputs a.0 b.0 a.1 b.1 a.2 b.2 a.3 b.3) b.4)
one_refused p inputs c r r' (inl a) (inr b) = absurd (ends_or_stops p inputs a.0 a.1 b.0 a.2 b.1 a.3 b.2)
one_refused p inputs c r r' (inr a) (inl b) = absurd (ends_or_stops p inputs b.0 b.1 a.0 b.2 a.1 b.3 a.2)
one_refused p inputs c r r' (inr a) (inr b) =
    found_before_once a.0 c r r' a.3
    (subst (λ (x : List Event). IsFoundBefore x c r') (stops_once p inputs a.0 b.0 a.1 b.1 a.2 b.2) b.3)

acceptable_refused : (p : Source) (inputs : List ℤ) (c : Contents) (s : Shape) (es : List Event) (o : Outcome)
    → Ended p inputs s es o → IsClean s es o.result c → (r : Refusal)
    → IsRefused p inputs c r → ⊥
acceptable_refused p inputs c s es o e clean r (inl a) =
    clean_found s es o.result c clean r
    (found_of c r s a.0 es a.1 o a.2 (one_end p inputs s a.0 es a.1 o a.2 e a.3) a.4)
acceptable_refused p inputs c s es o e clean r (inr a) = ends_or_stops p inputs s es a.0 o a.1 e a.2

-- ---- texts

-- the refusals of a program's text and of a certificate's
abbrev of_program : ProgramFault → Refusal
of_program program_faults.Memory = refusals.Memory
of_program (program_faults.Text n place) = refusals.Program n place
of_program (program_faults.Name n place) = refusals.Name n place

abbrev of_text : CertFault → Refusal
of_text (cert_faults.Malformed line) = refusals.Malformed line
of_text (cert_faults.Truncated line) = refusals.Truncated line
of_text cert_faults.Memory = refusals.Memory

module _ (program input certificate : List ℕ) where
  -- the text that a true refusal is about
  data Kind (r : Refusal) : Type 0 where
    OfProgram : (f : ProgramFault) → f ≢ program_faults.Memory → IsProgramFault f program → r ≡ of_program f → Kind r
    OfInput : (n : SyntaxErrorKind) (place : ℕ) (m : Meant) → IsProgramText program m
        → IsInputFault (text_faults.At n place) input → r ≡ refusals.Input n place → Kind r
    OfText : (f : CertFault) → f ≢ cert_faults.Memory → (m : Meant) (inputs : List ℤ) → AreTexts program input m inputs
        → (reading_of certificate).fault ≡ Some f → r ≡ of_text f → Kind r
    OfRun : (m : Meant) (inputs : List ℤ) → AreTexts program input m inputs
        → GivesCertificate (Some certificate) (λ c. IsRefused m.source inputs c r) → Kind r

  kind_of : (r : Refusal) → r ≢ refusals.Memory → IsTrueRefusal program input (Some certificate) r → Kind r
  kind_of (refusals.Program n place) v h = OfProgram (program_faults.Text n place) (λ e. cc) h refl
  kind_of (refusals.Name n place) v h = OfProgram (program_faults.Name n place) (λ e. cc) h refl
  kind_of (refusals.Input n place) v h = OfInput n place h.0 h.1 h.2 refl
  kind_of (refusals.Malformed line) v h =
      OfText (cert_faults.Malformed line) (λ e. cc) h.0 h.1 h.2
      (subst (λ (t : List ℕ). (reading_of t).fault ≡ Some (cert_faults.Malformed line)) h.3.1 h.3.2) refl
  kind_of (refusals.Truncated line) v h =
      OfText (cert_faults.Truncated line) (λ e. cc) h.0 h.1 h.2
      (subst (λ (t : List ℕ). (reading_of t).fault ≡ Some (cert_faults.Truncated line)) h.3.1 h.3.2) refl
  kind_of refusals.Memory v h = absurd (v refl)
  kind_of r v h = OfRun h.0 h.1 h.2 h.3

  same_meaning : (m m' : Meant) (inputs inputs' : List ℤ) → AreTexts program input m inputs
      → AreTexts program input m' inputs' → (m ≡ m') × (inputs ≡ inputs')
  same_meaning m m' inputs inputs' t t' = (
    (one_meaning program).meanings m m' t.program_is t'.program_is,
    (one_input input).numbers inputs inputs' t.input_is t'.input_is,
  )

  -- a source that gives this text gives one certificate
  same_certificate : {P Q : Contents → Type 0} (g : GivesCertificate (Some certificate) P)
      (h : GivesCertificate (Some certificate) Q) → g.certificate ≡ h.certificate
  same_certificate g h =
      one_certificate g.certificate h.certificate g.fits h.fits (sym g.text_is ∙ g.gives ∙ sym h.gives ∙ h.text_is)

  -- and that text has no fault
  no_text_fault : {P : Contents → Type 0} (g : GivesCertificate (Some certificate) P) (f : CertFault)
      → f ≢ cert_faults.Memory → (reading_of certificate).fault ≡ Some f → ⊥
  no_text_fault g f v h = v (only_err certificate f (λ w. h) g.certificate g.fits (sym g.gives ∙ g.text_is))

  no_program_fault : (m : Meant) (f : ProgramFault) → f ≢ program_faults.Memory → IsProgramText program m
      → IsProgramFault f program → ⊥
  no_program_fault m f v t h = (one_meaning program).apart m f v t h

  no_input_fault : (inputs : List ℤ) (n : SyntaxErrorKind) (place : ℕ) (m : Meant) → AreTexts program input m inputs
      → IsInputFault (text_faults.At n place) input → ⊥
  no_input_fault inputs n place m t h = (one_input input).apart inputs n place t.input_is h

  same_run : (r r' : Refusal) (m m' : Meant) (inputs inputs' : List ℤ) → AreTexts program input m inputs
      → AreTexts program input m' inputs'
      → GivesCertificate (Some certificate) (λ c. IsRefused m.source inputs c r)
      → GivesCertificate (Some certificate) (λ c. IsRefused m'.source inputs' c r') → r ≡ r'
  same_run r r' m m' inputs inputs' t t' g h =
      let e = same_meaning m m' inputs inputs' t t' in
      let d = same_certificate g h in
      one_refused m.source inputs g.certificate r r' g.holds
      (subst (λ (x : Meant). IsRefused x.source inputs g.certificate r') (sym e.0)
      (subst (λ (x : List ℤ). IsRefused m'.source x g.certificate r') (sym e.1)
      (subst (λ (x : Contents). IsRefused m'.source inputs' x r') (sym d) h.holds)))

  same_kind : (r r' : Refusal) → Kind r → Kind r' → r ≡ r'
  same_kind r r' (OfProgram f v h e) (OfProgram g w k i) =
      e ∙ ap of_program ((one_meaning program).faults f g v w h k) ∙ sym i
  same_kind r r' (OfProgram f v h e) (OfInput n place m t k i) = absurd (no_program_fault m f v t h)
  same_kind r r' (OfProgram f v h e) (OfText g w m inputs t k i) = absurd (no_program_fault m f v t.program_is h)
  same_kind r r' (OfProgram f v h e) (OfRun m inputs t k) = absurd (no_program_fault m f v t.program_is h)
  same_kind r r' (OfInput n place m t h e) (OfProgram g w k i) = absurd (no_program_fault m g w t k)
  same_kind r r' (OfInput n place m t h e) (OfInput n' place' m' t' k i) =
      let q = (one_input input).faults n n' place place' h k in
      e ∙ ap (λ (x : SyntaxErrorKind). refusals.Input x place) q.0 ∙ ap (λ (x : ℕ). refusals.Input n' x) q.1 ∙ sym i
  same_kind r r' (OfInput n place m t h e) (OfText g w m' inputs t' k i) =
      absurd (no_input_fault inputs n place m' t' h)
  same_kind r r' (OfInput n place m t h e) (OfRun m' inputs t' k) = absurd (no_input_fault inputs n place m' t' h)
  same_kind r r' (OfText f v m inputs t h e) (OfProgram g w k i) = absurd (no_program_fault m g w t.program_is k)
  same_kind r r' (OfText f v m inputs t h e) (OfInput n place m' t' k i) = absurd (no_input_fault inputs n place m t k)
  same_kind r r' (OfText f v m inputs t h e) (OfText g w m' inputs' t' k i) =
      let both : Some f ≡ Some g = sym h ∙ k in
      let same : f ≡ g = cc both in
      e ∙ ap of_text same ∙ sym i
  same_kind r r' (OfText f v m inputs t h e) (OfRun m' inputs' t' k) = absurd (no_text_fault k f v h)
  same_kind r r' (OfRun m inputs t h) (OfProgram g w k i) = absurd (no_program_fault m g w t.program_is k)
  same_kind r r' (OfRun m inputs t h) (OfInput n place m' t' k i) = absurd (no_input_fault inputs n place m t k)
  same_kind r r' (OfRun m inputs t h) (OfText g w m' inputs' t' k i) = absurd (no_text_fault h g w k)
  same_kind r r' (OfRun m inputs t h) (OfRun m' inputs' t' k) = same_run r r' m m' inputs inputs' t t' h k

  kind_acceptable : (r : Refusal) → IsAcceptable program input (Some certificate) → Kind r → ⊥
  kind_acceptable r a (OfProgram f v h e) = no_program_fault a.meant f v a.texts.program_is h
  kind_acceptable r a (OfInput n place m t h e) = no_input_fault a.inputs n place a.meant a.texts h
  kind_acceptable r a (OfText f v m inputs t h e) = no_text_fault a.certificate f v h
  kind_acceptable r a (OfRun m inputs t h) =
      let e = same_meaning a.meant m a.inputs inputs a.texts t in
      let d = same_certificate a.certificate h in
      acceptable_refused a.meant.source a.inputs a.certificate.certificate a.shape a.events a.outcome a.ended a.certificate.holds r
      (subst (λ (x : Meant). IsRefused x.source a.inputs a.certificate.certificate r) (sym e.0)
      (subst (λ (x : List ℤ). IsRefused m.source x a.certificate.certificate r) (sym e.1)
      (subst (λ (x : Contents). IsRefused m.source inputs x r) (sym d) h.holds)))

  same_acceptance : (a b : IsAcceptable program input (Some certificate)) → AreSame program input certificate a b
  same_acceptance a b =
      let e = same_meaning a.meant b.meant a.inputs b.inputs a.texts b.texts in
      let moved : Ended a.meant.source a.inputs b.shape b.events b.outcome =
      subst (λ (x : Meant). Ended x.source a.inputs b.shape b.events b.outcome) (sym e.0)
      (subst (λ (x : List ℤ). Ended b.meant.source x b.shape b.events b.outcome) (sym e.1) b.ended) in
      let one = one_end a.meant.source a.inputs a.shape b.shape a.events b.events a.outcome b.outcome a.ended moved in
      record { meant = e.0; inputs = e.1; events = sym one.events; outcome = sym one.outcome }

  pub one_verdict : HasOneVerdict program input certificate
  one_verdict = record {
    acceptances = same_acceptance;
    refusals = λ r r' v w h k. same_kind r r' (kind_of r v h) (kind_of r' w k);
    apart = λ r v a h. kind_acceptable r a (kind_of r v h);
  }

-- ---- the results of a check

pub acceptable_by : (program input : List ℕ) (known : Option (List ℕ)) (m : Meant) (inputs : List ℤ) (es : List Event)
    (o : Outcome) → AreTexts program input m inputs
    → IsCertified m.source inputs known es o → IsAcceptable program input known
acceptable_by program input known m inputs es o t h = record {
  meant = m;
  inputs = inputs;
  texts = t;
  shape = h.0;
  events = es;
  outcome = o;
  ended = h.1.ended;
  certificate =
      with_holds known (λ c right. record { right = right; races = h.1.races; view_races = h.1.view_races }) h.2;
}

-- memory ran out, or not
memory_or : (r : Refusal) → (r ≡ refusals.Memory) ⊎ (r ≢ refusals.Memory)
memory_or refusals.Memory = inl refl
memory_or r = inr (λ e. cc)

module _ (program input certificate : List ℕ) where
  -- a true refusal of what is to be accepted
  pub only_memory : (r : Refusal) → IsAcceptable program input (Some certificate)
      → IsTrueRefusal program input (Some certificate) r → r ≡ refusals.Memory
  only_memory r a h = elim (memory_or r) [
    | inl is ↦ is
    | inr other ↦ absurd ((one_verdict program input certificate).apart r other a h)
  ]

  -- a true refusal of what is truly refused
  pub same_or_memory : (r r' : Refusal) → r ≢ refusals.Memory → IsTrueRefusal program input (Some certificate) r
      → IsTrueRefusal program input (Some certificate) r'
      → (r' ≡ refusals.Memory) ⊎ (r' ≡ r)
  same_or_memory r r' v h k = elim (memory_or r') [
    | inl is ↦ inl is
    | inr other ↦ inr ((one_verdict program input certificate).refusals r' r other v k h)
  ]

  no_verdict : (r : Refusal) → r ≡ refusals.Memory → IsNoVerdict (unaccepted.Refusal r)
  no_verdict r e = subst (λ (x : Refusal). IsNoVerdict (unaccepted.Refusal x)) (sym e) tt

  pub only_none : (failed failed' : ℕ) (e : Unaccepted) → IsAcceptable program input (Some certificate)
      → IsTrueAnswer program input (Some certificate) failed failed' e → IsNoVerdict e
  only_none failed failed' (unaccepted.Refusal r) a h = no_verdict r (only_memory r a h)
  only_none failed failed' unaccepted.Unread a h = tt

  pub same_or_none : (failed failed' : ℕ) (r : Refusal) (e : Unaccepted) → r ≢ refusals.Memory
      → IsTrueRefusal program input (Some certificate) r
      → IsTrueAnswer program input (Some certificate) failed failed' e → IsNoVerdict e ⊎ (e ≡ unaccepted.Refusal r)
  same_or_none failed failed' r (unaccepted.Refusal r') v h k = elim (same_or_memory r r' v h k) [
    | inl is ↦ inl (no_verdict r' is)
    | inr same ↦ inr (ap (λ (x : Refusal). unaccepted.Refusal x) same)
  ]
  same_or_none failed failed' r unaccepted.Unread v h k = inl tt

-- ---- results

module _ (program input : List ℕ) (known : Option (List ℕ)) (failed failed' : ℕ)
    (r : Result AcceptedRun Unaccepted) where
  pub only_by : IfErr r (λ e. IsTrueAnswer program input known failed failed' e) → (text : List ℕ) → known ≡ Some text
      → IsAcceptable program input (Some text) → IfErr r (λ e. IsNoVerdict e)
  only_by h text is a =
      IfErr-weaker r _ _ (λ e answer. only_none program input text failed failed' e a
      (subst (λ (k : Option (List ℕ)). IsTrueAnswer program input k failed failed' e) is answer)) h

  not_accepted : (x : AcceptedRun) → AreTexts program input (meant x.program) x.input
      → IsCertified (source x.program) x.input known x.trace x.outcome
      → (text : List ℕ) (refusal : Refusal) → known ≡ Some text → refusal ≢ refusals.Memory
      → IsTrueRefusal program input (Some text) refusal → ⊥
  not_accepted x t h text refusal is v true_refusal =
      let a = acceptable_by program input known (meant x.program) x.input x.trace x.outcome t h in
      (one_verdict program input text).apart refusal v
      (subst (λ (k : Option (List ℕ)). IsAcceptable program input k) is a) true_refusal

  pub one_by : IfOk r (λ x. AreTexts program input (meant x.program) x.input)
      → IfOk r (λ x. IsCertified (source x.program) x.input known x.trace x.outcome)
      → IfErr r (λ e. IsTrueAnswer program input known failed failed' e) → (text : List ℕ) → known ≡ Some text
      → (refusal : Refusal) → refusal ≢ refusals.Memory
      → IsTrueRefusal program input (Some text) refusal
      → MatchResult r (λ _. ⊥) (λ e. IsNoVerdict e ⊎ (e ≡ unaccepted.Refusal refusal))
  one_by t h answer text is refusal v true_refusal = by r t h answer where
    by : (q : Result AcceptedRun Unaccepted) → IfOk q (λ x. AreTexts program input (meant x.program) x.input)
        → IfOk q (λ x. IsCertified (source x.program) x.input known x.trace x.outcome)
        → IfErr q (λ e. IsTrueAnswer program input known failed failed' e)
        → MatchResult q (λ _. ⊥) (λ e. IsNoVerdict e ⊎ (e ≡ unaccepted.Refusal refusal))
    by (Ok x) a b c = not_accepted x a b text refusal is v true_refusal
    by (Err e) a b c =
        same_or_none program input text failed failed' refusal e v true_refusal
        (subst (λ (k : Option (List ℕ)). IsTrueAnswer program input k failed failed' e) is c)
