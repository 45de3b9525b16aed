use Rattle.cilk_messages.proofs.threads_words.command.Goals as goal

pub returns : goal.returns
returns c = c.with.ensures _ _ c.empty.ensures c.threads_command.ensures
