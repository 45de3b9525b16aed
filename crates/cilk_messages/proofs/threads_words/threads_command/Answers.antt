use Rattle.cilk_messages.proofs.threads_words.threads_command.Goals as goal

pub returns : goal.returns
returns c =
    c.taking.ensures _ (c.taking-input.ensures _ (c.taking-workers.ensures _ (c.needing.ensures _ (c.needing-program.ensures _ c.named.ensures))))
