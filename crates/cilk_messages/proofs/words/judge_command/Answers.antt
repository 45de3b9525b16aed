use Rattle.cilk_messages.proofs.words.judge_command.Goals as goal

pub returns : goal.returns
returns c = c.taking.ensures _ (c.needing-trace.ensures _ c.named.ensures)
