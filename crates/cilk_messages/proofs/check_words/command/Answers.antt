use Rattle.cilk_messages.proofs.check_words.command.Goals as goal

pub returns : goal.returns
returns c = c.with.ensures _ _ c.empty.ensures (c.taking-helped.ensures _ c.check_command.ensures)
