use Rattle.cilk_cert_text.proofs.Threes.{count_at, led}
use Rattle.cilk_cert_text.proofs.digits.put_leading.Goals as goal

pub overflow_sub-result : goal.overflow_sub-result
overflow_sub-result c = (count_at c.args.at c.args.n c.requires.small).0

pub returns-clause-text : goal.returns-clause-text
returns-clause-text c = led c.args.room.now c.args.at c.args.n c.requires.small c.requires.room

pub returns-clause-end : goal.returns-clause-end
returns-clause-end c = (count_at c.args.at c.args.n c.requires.small).1
