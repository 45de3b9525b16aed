use Rattle.cilk_messages.proofs.words.program_command.Goals as goal

pub returns : goal.returns
returns c = c.taking.ensures _ (c.needing-program.ensures _ c.named.ensures)
