-- The bytes that were taken from a source.
--
-- - `all_taken`: at the end of a text without a malformed line;
-- - `until_fault`, `until_end`: once a text has a fault;
-- - `until_failure`: where a pull failed;
-- - `without_memory`, `untaken`: where memory ran out after bytes that are faultless so far, or before the first pull;
-- - `until_found`, `until_before`: where a whole certificate is refused;
-- - `until_judged`: where a text is refused, or no memory is left;
-- - `nothing_more`: a pull that gave nothing.
use Rattle.std.proofs.Common.{◌≡◌, ◌≤◌, ℕ, ℤ, List, [], ◌++◌, Option, length, take, refl, sym, ap, subst, ◌∙◌, arith, append-nil}
use Rattle.std.specs.Io.KnownBytes.{Consumes, IsAtEnd}
use Rattle.std.proofs.KnownBytes.{Consumes-nil, Consumes-trans}
use Rattle.cilk_types.specs.declared.event.Event.{Event}
use Rattle.cilk_tree.specs.Shape.{Shape}
use Rattle.cilk_cert_text.specs.declared.fault.CertFault.{CertFault}
use Rattle.cilk_cert_text.specs.declared.fault.CertFault.TheVariants as cert_faults
use Rattle.cilk_cert_text.specs.declared.reader.LineReader.{LineReader}
use Rattle.cilk_cert_text.specs.Certificates.{Contents}
use Rattle.cilk_cert_text.specs.Reading.{reading, reading_of, stops}
use Rattle.cilk_cert_text.specs.Readers.{ahead}
use Rattle.cilk_checker.specs.declared.hearing.Stop.TheVariants.{Fault}
use Rattle.cilk_checker.specs.declared.refusal.Refusal.{Refusal}
use Rattle.cilk_checker.specs.declared.refusal.Refusal.TheVariants as refusals
use Rattle.cilk_checker.specs.declared.refusal.Unaccepted.TheVariants as unaccepted
use Rattle.cilk_checker.specs.declared.right.Right.{Right}
use Rattle.cilk_checker.specs.declared.tally.Tally.{Tally}
use Rattle.cilk_checker.specs.Pulls.{EndsWithPull, IsEarly, IsFaultlessSoFar, Takes, TakesAll, TakesUntil}
use Rattle.cilk_checker.specs.Refusals.{IsFound, IsFoundBefore}
use Rattle.cilk_checker.specs.Tallies.{Heard, IsFaultOf}
use Rattle.cilk_checker.specs.Texts.{IsJudgement, IsOfTexts}
use Rattle.cilk_checker.specs.Told.{told}
use Rattle.cilk_checker.proofs.Formed.{formed_within, heard_formed}
use Rattle.cilk_checker.proofs.Pieces.{heard_fault_end}

pub nothing_more : (a b c : Option (List ℕ)) (pulled into : List ℕ) (n : ℕ) → n ≡ 0 → Consumes a b pulled → Consumes b c (take n into)
    → Consumes a c pulled
nothing_more a b c pulled into n e p q =
    let none : take n into ≡ [] = rw e refl in
    let all : pulled ++ take n into ≡ pulled = ap (λ (l : List ℕ). pulled ++ l) none ∙ append-nil pulled in
    subst (λ (l : List ℕ). Consumes a c l) all (Consumes-trans a b c pulled (take n into) p q)

-- what was read so far
faultless : (r : Right) (text : List ℕ) (reader : LineReader) (t : Tally) → Heard r text [] reader t → IsFaultlessSoFar text
faultless r text reader t h = let formed = heard_formed r text reader t h in record { formed = formed; within = formed_within text formed }

none_faultless : IsFaultlessSoFar []
unfolding reading
none_faultless = record { formed = λ line e. cc; within = omega arith }

module _ (known left : Option (List ℕ)) where
  pub all_taken : (r : Right) (text : List ℕ) (reader : LineReader) (t : Tally) → Consumes known left text → IsAtEnd left
      → Heard r text [] reader t → TakesAll known left
  all_taken r text reader t taken end h = (end, (text, taken, faultless r text reader t h))

  -- the next pull failed, which took nothing
  pub until_failure : (r : Right) (text : List ℕ) (reader : LineReader) (t : Tally) (left' : Option (List ℕ)) → Consumes known left text
      → Heard r text [] reader t → left' ≡ left → Takes known left' IsFaultlessSoFar
  until_failure r text reader t left' taken h same = (text, rw same taken, faultless r text reader t h)

  pub without_memory : (last : ℕ) → Takes known left IsFaultlessSoFar → TakesUntil known left last (unaccepted.Refusal refusals.Memory)
  without_memory last t = (
    t.0,
    t.1,
    record {
      before = t.0;
      piece = [];
      parts = sym (append-nil t.0);
      all = λ some. absurd (some refl);
      faultless = t.2;
      short = omega arith;
    },
  )

pub untaken : (known : Option (List ℕ)) (last : ℕ) → TakesUntil known known last (unaccepted.Refusal refusals.Memory)
untaken known last = without_memory known known last ([], Consumes-nil known, none_faultless)

last_pull : {last : ℕ} (r : Right) (before piece : List ℕ) (reader : LineReader) (t : Tally)
    → length piece ≡ last → length piece ≤ 32768 → Heard r before [] reader t → EndsWithPull last (before ++ piece)
last_pull r before piece reader t all short h = record {
  before = before;
  piece = piece;
  parts = refl;
  all = λ some. all;
  faultless = faultless r before reader t h;
  short = short;
}

module _ (known left : Option (List ℕ)) (last : ℕ) where
  -- the piece that the last pull gave has a fault
  pub until_fault : (r : Right) (before piece : List ℕ) (reader : LineReader) (t : Tally) (f : CertFault)
      → Consumes known left (before ++ piece) → length piece ≡ last → length piece ≤ 32768 → Heard r before [] reader t
      → IsEarly f → IsFaultOf (before ++ piece) f → TakesUntil known left last (told (Fault f))
  until_fault r before piece reader t (cert_faults.Malformed line) taken all short h early fault = (
    before ++ piece,
    taken,
    record {
      pull = last_pull r before piece reader t all short h;
      malformed = ap (λ (l : List ℕ). (reading_of l).fault) (sym (append-nil (before ++ piece))) ∙ fault (λ e. cc) [];
    },
  )
  until_fault r before piece reader t (cert_faults.Truncated line) taken all short h early fault = absurd early
  until_fault r before piece reader t cert_faults.Memory taken all short h early fault =
      (before ++ piece, taken, last_pull r before piece reader t all short h)

  -- the text has ended too early
  pub until_end : (r : Right) (text : List ℕ) (reader : LineReader) (t : Tally) (f : CertFault) → Consumes known left text
      → IsAtEnd left → Heard r text [] reader t → ahead reader [] ≡ stops f
      → TakesUntil known left last (told (Fault f))
  until_end r text reader t (cert_faults.Malformed line) taken end h e =
      absurd (heard_formed r text reader t h line
      (ap (λ (l : List ℕ). (reading_of l).fault) (sym (append-nil text)) ∙ heard_fault_end r text reader t (cert_faults.Malformed line) h e))
  until_end r text reader t (cert_faults.Truncated line) taken end h e =
      all_taken known left r text reader t taken end h
  until_end r text reader t cert_faults.Memory taken end h e =
      without_memory known left last (text, taken, faultless r text reader t h)

  -- a refusal for which the text was read to its end
  pub until_found : (s : Shape) (es : List Event) (value : ℤ) (c : Contents) (r : Refusal) → IsFound s es value c r → TakesAll known left
      → TakesUntil known left last (unaccepted.Refusal r)
  until_found s es value c (refusals.Program fault place) h all = all
  until_found s es value c (refusals.Name fault place) h all = all
  until_found s es value c (refusals.Input fault place) h all = all
  until_found s es value c (refusals.Malformed line) h all = absurd h
  until_found s es value c (refusals.Truncated line) h all = all
  until_found s es value c (refusals.Event at) h all = all
  until_found s es value c (refusals.Stops at) h all = all
  until_found s es value c (refusals.Frame frame) h all = all
  until_found s es value c (refusals.Strand strand) h all = all
  until_found s es value c (refusals.Hebrew strand) h all = all
  until_found s es value c (refusals.Class strand) h all = all
  until_found s es value c (refusals.ReadSource at) h all = all
  until_found s es value c refusals.Result h all = all
  until_found s es value c (refusals.Race earlier later) h all = all
  until_found s es value c (refusals.ViewRace created used) h all = all
  until_found s es value c refusals.Memory h all = absurd h

  pub until_before : (es : List Event) (c : Contents) (r : Refusal) → IsFoundBefore es c r → TakesAll known left
      → TakesUntil known left last (unaccepted.Refusal r)
  until_before es c (refusals.Program fault place) h all = all
  until_before es c (refusals.Name fault place) h all = all
  until_before es c (refusals.Input fault place) h all = all
  until_before es c (refusals.Malformed line) h all = absurd h
  until_before es c (refusals.Truncated line) h all = all
  until_before es c (refusals.Event at) h all = all
  until_before es c (refusals.Stops at) h all = all
  until_before es c (refusals.Frame frame) h all = all
  until_before es c (refusals.Strand strand) h all = all
  until_before es c (refusals.Hebrew strand) h all = all
  until_before es c (refusals.Class strand) h all = all
  until_before es c (refusals.ReadSource at) h all = all
  until_before es c refusals.Result h all = all
  until_before es c (refusals.Race earlier later) h all = all
  until_before es c (refusals.ViewRace created used) h all = all
  until_before es c refusals.Memory h all = absurd h

pub until_judged : (known : Option (List ℕ)) (last : ℕ) (r : Refusal) → IsJudgement r → (IsOfTexts (unaccepted.Refusal r) → ⊥)
    → TakesUntil known known last (unaccepted.Refusal r)
until_judged known last (refusals.Program fault place) j other = absurd (other tt)
until_judged known last (refusals.Name fault place) j other = absurd (other tt)
until_judged known last (refusals.Input fault place) j other = absurd (other tt)
until_judged known last (refusals.Malformed line) j other = absurd j
until_judged known last (refusals.Truncated line) j other = absurd j
until_judged known last (refusals.Event at) j other = absurd j
until_judged known last (refusals.Stops at) j other = absurd j
until_judged known last (refusals.Frame frame) j other = absurd j
until_judged known last (refusals.Strand strand) j other = absurd j
until_judged known last (refusals.Hebrew strand) j other = absurd j
until_judged known last (refusals.Class strand) j other = absurd j
until_judged known last (refusals.ReadSource at) j other = absurd j
until_judged known last refusals.Result j other = absurd j
until_judged known last (refusals.Race earlier later) j other = absurd j
until_judged known last (refusals.ViewRace created used) j other = absurd j
until_judged known last refusals.Memory j other = untaken known last
