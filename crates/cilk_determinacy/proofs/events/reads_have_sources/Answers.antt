use Rattle.cilk_determinacy.proofs.ReadSources.{reads_have_sources}
use Rattle.cilk_determinacy.proofs.events.reads_have_sources.Goals as goal

pub returns : goal.returns
returns c = reads_have_sources
