use Rattle.cilk_messages.proofs.words.command.Goals as goal

pub returns : goal.returns
returns c =
    let two = c.with-two.ensures _ _ (c.with-one.ensures _ _ c.empty.ensures c.program_command.ensures) c.program_command-2.ensures in
    let four = c.with-four.ensures _ _ (c.with-three.ensures _ _ two c.check_command.ensures) c.play_command.ensures in
    c.with.ensures _ _ (c.with-five.ensures _ _ four c.program_command-3.ensures) c.judge_command.ensures
