use Rattle.cilk_workers.proofs.Moves.{parts}
use Rattle.cilk_workers.proofs.rack.Rack.picker.Goals as goal

pub another-pass-requires : goal.another-pass-requires
another-pass-requires g c = parts g.N.Naming.replay g.N.Naming.taken _ c.args.self.now.owner _ c.args.self.now.first
