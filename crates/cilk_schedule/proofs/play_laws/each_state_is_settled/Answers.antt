use Rattle.cilk_schedule.proofs.play_laws.each_state_is_settled.Goals as goal

pub returns : goal.returns
returns c = λ code p inputs b run outcome h always. always h.steps h.state h.reaches
