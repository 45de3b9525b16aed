use Rattle.std.proofs.Common.{false, ◌∙◌}
use Rattle.cilk_workers.proofs.join.JoinBox.new.Goals as goal

pub returns : goal.returns
returns c = λ i. record { rows = c.new.ensures i; replay = (c.snapshot.ensures ∙ c.replay.ensures.replay) i; sync = c.args.sync; stolen = 0; arrived = 0; closed = false }
