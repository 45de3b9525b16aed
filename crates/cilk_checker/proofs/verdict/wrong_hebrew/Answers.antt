use Rattle.cilk_cert_text.specs.declared.line.Strand.{Strand}
use Rattle.cilk_checker.proofs.Differences.{column_by}
use Rattle.cilk_checker.proofs.verdict.wrong_hebrew.Goals as goal

pub returns : goal.returns
returns c = λ s d columns h. column_by (λ (x : Strand). x.hebrew) c.args.right.now.labels _ columns.hebrews d.strands c.args.tally.now.hebrews h.hebrews c.count.result c.place.result c.place.ensures c.count.ensures
