use Rattle.cilk_parser.proofs.UniqueTexts.{one_answer}
use Rattle.cilk_parser.proofs.unique.text_has_one_answer.Goals as goal

pub returns : goal.returns
returns c = one_answer
