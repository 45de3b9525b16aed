use Rattle.std.proofs.Common.{ap, option_map, ◌∙◌, sym}
use Rattle.clap.specs.Words.{found_of, rows_of}
use Rattle.cilk_messages.specs.ThreadsWords.{order_view}
use Rattle.cilk_messages.proofs.ThreadsEntered.{by_files, by_workers, no_texts}
use Rattle.cilk_messages.proofs.threads_words.threads_order.Goals as goal

pub returns-in_err-program : goal.returns-in_err-program
returns-in_err-program c =
    ap (option_map order_view) c.from_residual.ensures ∙ sym (no_texts (rows_of (found_of c.args.threads.now)) _ c.two_paths.ensures c.in_err-program.was)

pub returns-in_err-workers : goal.returns-in_err-workers
returns-in_err-workers c =
    ap (option_map order_view) c.from_residual-in_err-workers.ensures
    ∙ sym (by_workers (found_of c.args.threads.now) _ _ _ _ _ c.two_paths.ensures c.in_ok-program.was c.get_str-word.ensures c.workers_in.ensures c.in_err-workers.was)

pub returns : goal.returns
returns c =
    sym (by_workers (found_of c.args.threads.now) _ _ _ _ _ c.two_paths.ensures c.in_ok-program.was c.get_str-word.ensures c.workers_in.ensures c.in_ok-workers.was
    ∙ by_files (found_of c.args.threads.now) _ _ _ _ c.get_str-input.ensures c.get_str-on.ensures)
