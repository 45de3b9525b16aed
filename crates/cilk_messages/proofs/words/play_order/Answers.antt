use Rattle.std.proofs.Common.{ap, option_map, ◌∙◌, sym}
use Rattle.clap.specs.Words.{found_of, rows_of}
use Rattle.cilk_messages.specs.Words.{order_view}
use Rattle.cilk_messages.proofs.Entered.{no_script, no_script_paths, some_script, some_script_paths}
use Rattle.cilk_messages.proofs.words.play_order.Goals as goal

pub returns-in_err-script : goal.returns-in_err-script
returns-in_err-script c =
    ap (option_map order_view) c.from_residual.ensures ∙ sym (no_script (found_of c.args.play.now) _ c.get_str.ensures c.in_err-script.was)

pub returns-in_err-program : goal.returns-in_err-program
returns-in_err-program c =
    ap (option_map order_view) c.from_residual-in_err-program.ensures
    ∙ sym (some_script (found_of c.args.play.now) _ _ c.get_str.ensures c.in_ok-script.was
    ∙ no_script_paths (rows_of (found_of c.args.play.now)) _ _ c.paths.ensures c.in_err-program.was)

pub returns-in-Some : goal.returns-in-Some
returns-in-Some c =
    sym (some_script (found_of c.args.play.now) _ _ c.get_str.ensures c.in_ok-script.was
    ∙ some_script_paths (rows_of (found_of c.args.play.now)) _ _ _ _ _ c.paths.ensures c.in_ok-program.was c.manner_in.ensures c.in-Some.is)

pub returns-in-None : goal.returns-in-None
returns-in-None c =
    sym (some_script (found_of c.args.play.now) _ _ c.get_str.ensures c.in_ok-script.was
    ∙ some_script_paths (rows_of (found_of c.args.play.now)) _ _ _ _ _ c.paths.ensures c.in_ok-program.was c.manner_in.ensures c.in-None.is)
