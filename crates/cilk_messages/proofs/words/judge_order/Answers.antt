use Rattle.std.proofs.Common.{sym}
use Rattle.clap.specs.Words.{found_of}
use Rattle.cilk_messages.proofs.Entered.{no_trace, some_trace}
use Rattle.cilk_messages.proofs.words.judge_order.Goals as goal

pub returns-in-Some : goal.returns-in-Some
returns-in-Some c = sym (some_trace (found_of c.args.judge.now) _ _ _ c.get_str.ensures c.in-Some.is c.get_str-sites.ensures)

pub returns-in-None : goal.returns-in-None
returns-in-None c = sym (no_trace (found_of c.args.judge.now) _ c.get_str.ensures c.in-None.is)
