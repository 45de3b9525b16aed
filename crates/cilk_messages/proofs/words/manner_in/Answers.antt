use Rattle.std.proofs.Common.{sym}
use Rattle.clap.specs.Words.{found_of}
use Rattle.cilk_messages.proofs.Entered.{manner_of}
use Rattle.cilk_messages.proofs.words.manner_in.Goals as goal

pub returns-in-Some : goal.returns-in-Some
returns-in-Some c = sym (manner_of (found_of c.args.play.now) _ _ _ _ _ c.get_str-flag.ensures c.is_set-is_strict.ensures c.get_str-word.ensures c.workers_in.ensures c.in-Some.is)

pub returns-in-None : goal.returns-in-None
returns-in-None c = sym (manner_of (found_of c.args.play.now) _ _ _ _ _ c.get_str-flag.ensures c.is_set-is_strict.ensures c.get_str-word.ensures c.workers_in.ensures c.in-None.is)
