use Rattle.cilk_replay.proofs.Owned.{in_their_frames}
use Rattle.cilk_replay.proofs.laws.events_are_in_their_frames.Goals as goal

pub returns : goal.returns
returns c = in_their_frames
