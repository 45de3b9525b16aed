use Rattle.cilk_cert_text.specs.declared.line.Strand.{Strand}
use Rattle.cilk_checker.proofs.Differences.{column_by}
use Rattle.cilk_checker.proofs.verdict.wrong_owner.Goals as goal

pub returns : goal.returns
returns c = λ s d columns h. column_by (λ (x : Strand). x.frame) c.args.right.now.owners.items _ columns.owners d.strands c.args.tally.now.owners h.owners c.owner_count.result c.place.result c.place.ensures c.owner_count.ensures
