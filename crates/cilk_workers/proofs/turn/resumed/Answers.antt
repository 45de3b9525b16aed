use Rattle.std.proofs.Common.{◌≡◌, ℕ, Option, Some, None, sym, ◌∙◌, subst}
use Rattle.cilk_tree.specs.declared.kind.Kind.TheVariants as kinds
use Rattle.cilk_tree.specs.Word.{event, resume, word_step}
use Rattle.cilk_workers.specs.Shared.{event_order_in}
use Rattle.cilk_workers.proofs.OfKind.{no_sync, what_resume}
use Rattle.cilk_workers.proofs.turn.resumed.Goals as goal

absent : (o : Option ℕ) (k : ℕ) → o ≡ None → o ≡ Some k → ⊥
absent o k none some = let z : None ≡ Some k = sym none ∙ some in cc z

pub taken-requires-clause-resumes : goal.taken-requires-clause-resumes
taken-requires-clause-resumes c =
    subst (λ (n : ℕ). word_step (event_order_in c.args.shared.now) n ≡ resume c.in-Some.ticket) c.upto.ensures ((c.resumed_by.ensures c.in-Some.ticket).0 c.in-Some.is)

pub passed-requires-clause-plain : goal.passed-requires-clause-plain
passed-requires-clause-plain c =
    let y = c.args.shared.now in
    let p = c.args.work.now.piece in
    let due = c.requires.due.1 in
    what_resume (event_order_in y) p.upto c.requires.due.0 due.kind_is
    (λ k q. absent c.resumed_by.result k c.in-None.is ((c.resumed_by.ensures k).1 (subst (λ (n : ℕ). word_step (event_order_in y) n ≡ resume k) (sym c.upto.ensures) q)))

pub passed-requires-clause-ordinary : goal.passed-requires-clause-ordinary
passed-requires-clause-ordinary c =
    let p = c.args.work.now.piece in
    let due = c.requires.due.1 in
    no_sync (event (event_order_in c.args.shared.now) p.upto) (kinds.Resume c.requires.due.0) due.kind_is (λ q. cc q)
