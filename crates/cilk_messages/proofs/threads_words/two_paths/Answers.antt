use Rattle.std.proofs.Common.{ap, option_map, ◌∙◌, sym}
use Rattle.clap.specs.Words.{found_of}
use Rattle.cilk_messages.specs.ThreadsWords.{texts_view}
use Rattle.cilk_messages.proofs.ThreadsEntered.{both_texts, no_certificate, no_program}
use Rattle.cilk_messages.proofs.threads_words.two_paths.Goals as goal

pub returns-in_err-program : goal.returns-in_err-program
returns-in_err-program c =
    ap (option_map texts_view) c.from_residual.ensures ∙ sym (no_program (found_of c.args.matches.now) _ c.get_str.ensures c.in_err-program.was)

pub returns-in_err-certificate : goal.returns-in_err-certificate
returns-in_err-certificate c =
    ap (option_map texts_view) c.from_residual-in_err-certificate.ensures
    ∙ sym (no_certificate (found_of c.args.matches.now) _ _ _ c.get_str.ensures c.in_ok-program.was c.get_str-2.ensures c.in_err-certificate.was)

pub returns : goal.returns
returns c = sym (both_texts (found_of c.args.matches.now) _ _ _ _ c.get_str.ensures c.in_ok-program.was c.get_str-2.ensures c.in_ok-certificate.was)
