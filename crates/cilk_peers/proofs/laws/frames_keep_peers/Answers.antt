use Rattle.cilk_peers.proofs.Frames.{frames_keep_peers as proved}
use Rattle.cilk_peers.proofs.laws.frames_keep_peers.Goals as goal

pub returns : goal.returns
returns c = proved
