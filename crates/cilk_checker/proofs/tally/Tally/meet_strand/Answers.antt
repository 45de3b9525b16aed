use Rattle.cilk_checker.proofs.Tallying.{strand_met}
use Rattle.cilk_checker.proofs.tally.Tally.meet_strand.Goals as goal

pub returns : goal.returns
returns c = λ n d h.
    rw (c.meet.ensures, c.meet-2.ensures, c.meet-3.ensures)
    (strand_met c.args.right.now n c.args.strand c.has-is_owner.result c.has_hebrew-is_hebrew.result c.has_class-is_class.result d c.args.self.now
    (rw c.as_slice.ensures.value at c.has-is_owner.ensures) c.has_hebrew-is_hebrew.ensures c.has_class-is_class.ensures h)
