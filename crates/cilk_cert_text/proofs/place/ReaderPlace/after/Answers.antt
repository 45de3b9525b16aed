use Rattle.cilk_cert_text.specs.declared.place.ReaderPlace.TheVariants as places
use Rattle.cilk_cert_text.proofs.Rooms.{number_small}
use Rattle.cilk_cert_text.proofs.place.ReaderPlace.after.Goals as goal

pub returns-in_ok-after-in-Frames-clause-few : goal.returns-in_ok-after-in-Frames-clause-few
returns-in_ok-after-in-Frames-clause-few c = number_small (places.Lines c.in_ok-after-in-Frames.after)

pub returns-in_ok-after-in-Strands-clause-few : goal.returns-in_ok-after-in-Strands-clause-few
returns-in_ok-after-in-Strands-clause-few c = number_small (places.Lines c.in_ok-after-in-Strands.after)

pub returns-in_ok-after-in-Events-clause-few : goal.returns-in_ok-after-in-Events-clause-few
returns-in_ok-after-in-Events-clause-few c = number_small (places.Lines c.in_ok-after-in-Events.after)
