use Rattle.cilk_cert_text.specs.declared.line.Strand.{Strand}
use Rattle.cilk_checker.proofs.Differences.{column_by}
use Rattle.cilk_checker.proofs.verdict.wrong_class.Goals as goal

pub returns : goal.returns
returns c = λ s d columns h. column_by (λ (x : Strand). x.class) c.args.right.now.classes _ columns.classes d.strands c.args.tally.now.classes h.classes c.count.result c.place.result c.place.ensures c.count.ensures
