use Rattle.cilk_cert_text.proofs.Pairs.{pair_at, two_more}
use Rattle.cilk_cert_text.proofs.digits.put_pair.Goals as goal

pub returns : goal.returns
returns c = let p = pair_at c.args.pair c.requires.small in rw (p.0, p.1) (two_more c.args.room.now c.args.at _ _ c.requires.room)
