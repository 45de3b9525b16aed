use Rattle.cilk_cert_text.proofs.Threes.{three_at, three_more}
use Rattle.cilk_cert_text.proofs.digits.put_three.Goals as goal

pub returns : goal.returns
returns c =
    let d = three_at c.args.three c.requires.small in
    rw (d.hundreds, d.tens, d.ones) (three_more c.args.room.now c.args.at _ _ _ _ c.requires.room)
