use Rattle.std.proofs.Common.{◌≡◌, ◌++◌, ◌+◌, Option, Some, ◌∙◌, ap, arith, refl, subst, sym}
use Rattle.std.specs.Prelude.{IfSome}
use Rattle.std.proofs.Math.Nat.{min-eq_left}
use Rattle.cilk_trace.specs.declared.births.Birth.{Birth}
use Rattle.cilk_trace.specs.declared.births.Births.{Births}
use Rattle.cilk_trace.specs.Births.{birth_of, set_at}
use Rattle.cilk_trace.specs.Views.{reads_by}
use Rattle.cilk_trace.proofs.Appended.{refused_more}
use Rattle.cilk_trace.proofs.Counting.{past_limits}
use Rattle.cilk_trace.proofs.Results.{if_none, on_some}
use Rattle.cilk_trace.proofs.Surveying.{misplaced, survey_next}
use Rattle.cilk_trace.proofs.survey.Survey.meet.Goals as goal

pub returns-in_default-clause-misplaced : goal.returns-in_default-clause-misplaced
returns-in_default-clause-misplaced c = λ is ls more v k t.
    misplaced ls more c.args.line.now c.args.self.now v (if_none c.in_ok-set.field-0 c.in_default.is c.in_ok-set.ensures.misplaced) t

pub returns-in-Misplaced-clause-misplaced : goal.returns-in-Misplaced-clause-misplaced
returns-in-Misplaced-clause-misplaced c = λ is ls more v k t.
    refused_more ls more c.args.line.now c.args.self.now.structure v.structure (c.in_ok-meet.ensures.misplaced c.in-Misplaced.is) t.nests

pub returns-in-TooMany-clause-misplaced : goal.returns-in-TooMany-clause-misplaced
returns-in-TooMany-clause-misplaced c = λ is ls more v k t.
    past_limits ls c.args.line.now c.args.self.now.structure v.structure (c.in_ok-meet.ensures.too_many c.in-TooMany.is) k

pub returns-clause-fits : goal.returns-clause-fits
returns-clause-fits c = λ is ls v.
    let old = c.args.self.now in
    let here : Birth = record { strand = old.strand; at = old.count + 1 } in
    let set = c.in-Some.set in
    let same = c.in_ok-note.ensures.same in
    let set_is : set ≡ set_at c.args.line.now here (birth_of old.births) =
    subst (λ (o : Option Birth). IfSome o (λ b. b ≡ set_at c.args.line.now here (birth_of old.births))) c.in-Some.is c.in_ok-set.ensures.set in
    let strands = same.2 in
    let begun = c.begun.ensures in
    let count = same.3 in
    let few = c.if-self.false in
    survey_next ls c.args.line.now here old _ v
    (record {
      here_is = refl;
      suits = on_some c.in_ok-set.field-0 set c.in-Some.is c.in_ok-set.ensures.suits;
      kept = λ r. ap (λ (b : Births). birth_of b r) same.1 ∙ on_some c.in_ok-set.field-0 set c.in-Some.is c.in_ok-set.ensures.kept r;
      reads = c.in_ok-note.ensures.reads ∙ ap (λ (b : Birth). old.reads.items ++ reads_by b here) set_is;
      strand = λ less. c.saturating_add-self.ensures ∙ (min-eq_left (omega (arith, less, strands, begun)) ∙ omega (arith, strands, begun));
    })
    (c.in_ok-meet.ensures.fits c.in-Fits.is ∙ ap (λ x. Some x) (sym same.0)) (omega (arith, count)) (omega (arith, few, count)) (c.in_ok-meet.ensures.few c.in-Fits.is)
