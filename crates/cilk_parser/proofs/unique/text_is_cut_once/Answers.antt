use Rattle.cilk_parser.proofs.Lexical.{cut_once}
use Rattle.cilk_parser.proofs.unique.text_is_cut_once.Goals as goal

pub returns : goal.returns
returns c = cut_once
