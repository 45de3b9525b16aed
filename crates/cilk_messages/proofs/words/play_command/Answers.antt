use Rattle.cilk_messages.proofs.words.play_command.Goals as goal

pub returns : goal.returns
returns c = c.flagging.ensures _ (c.taking.ensures _ (c.taking-workers.ensures _ (c.needing.ensures _ (c.needing-program.ensures _ c.named.ensures))))
