use Rattle.std.proofs.Common.{ap, option_map, ◌∙◌, sym}
use Rattle.clap.specs.Words.{found_of, rows_of}
use Rattle.cilk_messages.specs.CheckWords.{check_view}
use Rattle.cilk_messages.proofs.CheckEntered.{by_file, by_helpers, no_texts}
use Rattle.cilk_messages.proofs.check_words.check_order.Goals as goal

pub returns-in_err-program : goal.returns-in_err-program
returns-in_err-program c =
    ap (option_map check_view) c.from_residual.ensures ∙ sym (no_texts (rows_of (found_of c.args.check.now)) _ c.two_paths.ensures c.in_err-program.was)

pub returns-in_err-helpers : goal.returns-in_err-helpers
returns-in_err-helpers c =
    ap (option_map check_view) c.from_residual-in_err-helpers.ensures
    ∙ sym (by_helpers (found_of c.args.check.now) _ _ _ _ _ c.two_paths.ensures c.in_ok-program.was c.get_str-word.ensures c.helpers_in.ensures c.in_err-helpers.was)

pub returns : goal.returns
returns c =
    sym (by_helpers (found_of c.args.check.now) _ _ _ _ _ c.two_paths.ensures c.in_ok-program.was c.get_str-word.ensures c.helpers_in.ensures c.in_ok-helpers.was
    ∙ by_file (found_of c.args.check.now) _ _ _ c.get_str-input.ensures)
