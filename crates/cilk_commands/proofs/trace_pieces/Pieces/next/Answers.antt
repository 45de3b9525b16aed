use Rattle.std.proofs.Common.{ℕ, List, ◌++◌, ◌+◌, ◌≡◌, length, Option, ap, subst, sym, ◌∙◌, append-nil, arith}
use Rattle.std.specs.Prelude.{Err, IfSome}
use Rattle.std.proofs.lemmas.Result.{err_from_is_err_and}
use Rattle.cilk_trace.specs.declared.line.Line.{Line}
use Rattle.cilk_trace.specs.Readers.{room_of}
use Rattle.cilk_trace.specs.declared.reader.TraceReader.{TraceReader}
use Rattle.cilk_commands.specs.declared.trace_pieces.Found.{Found}
use Rattle.cilk_commands.specs.TraceFaults.{IsUnreadAfter}
use Rattle.cilk_commands.specs.TracePieces.{HasRead, line_in}
use Rattle.cilk_commands.specs.declared.trace_fault.Unjudged.TheVariants.{Unread}
use Rattle.cilk_commands.proofs.TraceCuts.{told_apart}
use Rattle.cilk_commands.proofs.TraceReread.{whole_given, end_given, fault_given, reserved}
use Rattle.cilk_commands.proofs.trace_pieces.Pieces.next.Goals as goal

pub returns-in_err-fill-clause-fault : goal.returns-in_err-fill-clause-fault
returns-in_err-fill-clause-fault g c = λ known ls r.
    let p = err_from_is_err_and c.from_residual.result c.from_residual.ensures.1 in
    rw (p.1, p.2) (subst (λ (n : ℕ). IsUnreadAfter known ls n (g.S.Source.failed c.fill.new.source) c.in_err-fill.field-0.0) c.steps.invariant.2
    (c.in_err-fill.ensures.failed known ls))

pub returns-in_err-fill-clause-part : goal.returns-in_err-fill-clause-part
returns-in_err-fill-clause-part g c = λ known ls r e.
    let p = err_from_is_err_and c.from_residual.result c.from_residual.ensures.1 in
    let is : Err p.0 ≡ Err Unread = sym p.1 ∙ e in
    let same : p.0 ≡ Unread = cc is in
    c.in_err-fill.ensures.part known ls (c.steps.invariant.0 known ls r) (ap Err (sym p.2 ∙ same))

pub returns-in_err-end-clause-part : goal.returns-in_err-end-clause-part
returns-in_err-end-clause-part g c = λ known ls r e.
    let p = err_from_is_err_and c.from_residual-in_err-end.result c.from_residual-in_err-end.ensures.1 in
    let is : Err p.0 ≡ Err Unread = sym p.1 ∙ e in
    let same : p.0 ≡ Unread = cc is in
    absurd (told_apart c.in_err-end.field-0.0 (sym p.2 ∙ same))

pub returns-in_err-found-clause-part : goal.returns-in_err-found-clause-part
returns-in_err-found-clause-part g c = λ known ls r e.
    let p = err_from_is_err_and c.from_residual-in_err-found.result c.from_residual-in_err-found.ensures.1 in
    let is : Err p.0 ≡ Err Unread = sym p.1 ∙ e in
    let same : p.0 ≡ Unread = cc is in
    absurd (told_apart c.in_err-found.field-0.0 (sym p.2 ∙ same))

pub returns-in_err-end-clause-fault : goal.returns-in_err-end-clause-fault
returns-in_err-end-clause-fault g c = λ known ls r.
    let p = err_from_is_err_and c.from_residual-in_err-end.result c.from_residual-in_err-end.ensures.1 in
    let end = c.in_ok-fill.ensures.end c.if-not-branch.true in
    let at = end.1 in
    rw (p.1, p.2) (end_given known (g.S.Source.remaining c.fill.new.source) ls c.fill.new.self c.in_err-end.field-0.0 _ _ (c.in_ok-fill.ensures.uncounted ∙ c.steps.invariant.2) (omega (arith, at)) end.0
    c.in_err-end.ensures.fault (c.in_ok-fill.ensures.reading known ls (c.steps.invariant.0 known ls r)))

pub returns-then-not-branch-clause-whole : goal.returns-then-not-branch-clause-whole
returns-then-not-branch-clause-whole g c = λ known ls r.
    let end = c.in_ok-fill.ensures.end c.if-not-branch.true in
    let at = end.1 in
    whole_given known (g.S.Source.remaining c.fill.new.source) ls c.fill.new.self (omega (arith, at)) end.0 c.in_ok-end.ensures.whole.0
    (c.in_ok-fill.ensures.reading known ls (c.steps.invariant.0 known ls r))

pub returns-in_err-found-clause-fault : goal.returns-in_err-found-clause-fault
returns-in_err-found-clause-fault g c = λ known ls r.
    let p = err_from_is_err_and c.from_residual-in_err-found.result c.from_residual-in_err-found.ensures.1 in
    rw (p.1, p.2) (fault_given known (g.S.Source.remaining c.fill.new.source) ls c.reserve.new.self c.in_err-found.field-0.0 _ _ (c.in_ok-fill.ensures.uncounted ∙ c.steps.invariant.2) c.in_err-found.ensures.fault
    (reserved known (g.S.Source.remaining c.fill.new.source) ls c.fill.new.self c.reserve.new.self c.reserve.ensures.read
    (c.in_ok-fill.ensures.reading known ls (c.steps.invariant.0 known ls r))))

pub returns-in-Some-clause-line : goal.returns-in-Some-clause-line
returns-in-Some-clause-line g c = λ known ls r.
    let h = reserved known (g.S.Source.remaining c.fill.new.source) ls c.fill.new.self c.reserve.new.self c.reserve.ensures.read
    (c.in_ok-fill.ensures.reading known ls (c.steps.invariant.0 known ls r)) in (
      record {
        pulled = h.pulled;
        taken = h.taken;
        read = subst (λ (o : Option Found). HasRead h.pulled (ls ++ line_in o) c.step.new.self) c.in-Some.is (c.in_ok-found.ensures.read h.pulled ls h.read);
      },
      subst (λ (o : Option Found). IfSome o (λ f. f.number ≡ length ls + 2)) c.in-Some.is (c.in_ok-found.ensures.number h.pulled ls h.read),
    )

pub steps-preserved : goal.steps-preserved
steps-preserved g c =
    let i = c.steps.invariant in
    let before = i.1 in
    let less = c.in_ok-found.ensures.room in
    let same = ap (λ (x : TraceReader). room_of x) c.in_ok-fill.ensures.reader in
    let kept = c.reserve.ensures.room in (
      (λ known ls r. let h = reserved known (g.S.Source.remaining c.fill.new.source) ls c.fill.new.self c.reserve.new.self c.reserve.ensures.read
          (c.in_ok-fill.ensures.reading known ls (i.0 known ls r)) in record {
            pulled = h.pulled;
            taken = h.taken;
            read = subst (λ (l : List Line). HasRead h.pulled l c.step.new.self) (append-nil ls)
                (subst (λ (o : Option Found). HasRead h.pulled (ls ++ line_in o) c.step.new.self) c.in_default.is (c.in_ok-found.ensures.read h.pulled ls h.read));
          }),
      omega (arith, before, less, same, kept),
      c.in_ok-fill.ensures.uncounted ∙ i.2,
      c.fill.ensures.lender ∙ i.3,
      c.fill.ensures.kept ∙ i.4,
    )
