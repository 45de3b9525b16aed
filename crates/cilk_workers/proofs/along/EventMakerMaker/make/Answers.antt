use Rattle.cilk_workers.proofs.along.EventMakerMaker.make.Goals as goal

pub tell-requires : goal.tell-requires
tell-requires g c = let r = c.made.ensures.reached c.requires.reached.0 c.requires.reached.1 in r.good
