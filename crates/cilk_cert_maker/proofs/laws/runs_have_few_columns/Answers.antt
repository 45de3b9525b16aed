use Rattle.cilk_cert_maker.proofs.Begun.{few_columns}
use Rattle.cilk_cert_maker.proofs.laws.runs_have_few_columns.Goals as goal

pub returns : goal.returns
returns c = few_columns
