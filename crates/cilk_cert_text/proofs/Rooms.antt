-- The greatest number of lines: `number_small`.
use Rattle.std.proofs.Common.{◌≤◌, arith}
use Rattle.cilk_cert_text.specs.declared.place.Tail.{Tail}
use Rattle.cilk_cert_text.specs.declared.place.Tail.TheVariants as tails
use Rattle.cilk_cert_text.specs.declared.place.ReaderPlace.{ReaderPlace}
use Rattle.cilk_cert_text.specs.declared.place.ReaderPlace.TheVariants as places
use Rattle.cilk_cert_text.specs.Places.{number_at, tail_lines}

tail_small : (t : Tail) → tail_lines t ≤ 2
tail_small tails.Result = omega arith
tail_small tails.End = omega arith
tail_small tails.Nothing = omega arith

pub number_small : (p : ReaderPlace) → number_at p ≤ 2065541
number_small places.Version = omega arith
number_small (places.Size v) = omega arith
number_small (places.Lines p) = let t = tail_small p.tail in omega (arith, t, p.few_events, p.few_frames, p.few_strands, p.frames_within, p.strands_within, p.events_within)
