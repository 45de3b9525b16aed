use Rattle.cilk_scheduler.proofs.Noted.{frames_come, is_ready, sight_stays, ticks_more}
use Rattle.cilk_scheduler.proofs.noting.frames_come_to_asks.Goals as goal

pub returns-clause-ready : goal.returns-clause-ready
returns-clause-ready c = is_ready

pub returns-clause-more : goal.returns-clause-more
returns-clause-more c = ticks_more

pub returns-clause-come : goal.returns-clause-come
returns-clause-come c = frames_come

pub returns-clause-sight : goal.returns-clause-sight
returns-clause-sight c = sight_stays
