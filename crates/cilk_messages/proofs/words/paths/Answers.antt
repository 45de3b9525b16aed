use Rattle.std.proofs.Common.{sym}
use Rattle.clap.specs.Words.{found_of}
use Rattle.cilk_messages.proofs.Entered.{no_paths, some_paths}
use Rattle.cilk_messages.proofs.words.paths.Goals as goal

pub returns-in-Some : goal.returns-in-Some
returns-in-Some c = sym (some_paths (found_of c.args.matches.now) _ _ _ c.get_str.ensures c.in-Some.is c.get_str-input.ensures)

pub returns-in-None : goal.returns-in-None
returns-in-None c = sym (no_paths (found_of c.args.matches.now) _ c.get_str.ensures c.in-None.is)
