use Rattle.cilk_checker.proofs.tally.Tally.meet.Goals as goal

pub returns-in-Frame : goal.returns-in-Frame
returns-in-Frame c = λ d h. rw c.in-Frame.is (c.meet_frame.ensures c.in-Frame.number d h)

pub returns-in-Strand : goal.returns-in-Strand
returns-in-Strand c = λ d h. rw c.in-Strand.is (c.meet_strand.ensures c.in-Strand.number d h)
