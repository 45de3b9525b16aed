-- Each frame of a serial run behaves.
use Rattle.std.proofs.Common.{ℕ, ℤ, List, []}
use Rattle.cilk_types.specs.declared.event.Event.{Event}
use Rattle.cilk_program.specs.declared.ask.Callee.TheVariants as callees
use Rattle.cilk_program.specs.Syntax.{Source}
use Rattle.cilk_program.specs.Outcomes.{Conclusion}
use Rattle.cilk_program.specs.SerialRun.{Transcript, Memory, Frame, Ending, Serial, Made, Ended, Went, Broke, Refused, IsSerialRun}
use Rattle.cilk_program.specs.Behaved.{Behaves}

pub serial_behaves : {p : Source} {inputs : List ℤ} {fr : Frame} {start : ℕ} {history : List ℤ} {m : Memory} {r : Transcript} {es : List Event} {end : Ending} → Serial p inputs fr start history m r es end → Behaves p inputs fr.callee history r
serial_behaves (Made {start = start} k left q inner ok rest) = ((start, left, q), serial_behaves rest)
serial_behaves (Ended {start = start} v left q ok) = ((start, left, q), tt)
serial_behaves (Went {start = start} how callee left v left' m' q ok inner rest) = ((start, left, q), serial_behaves inner, serial_behaves rest)
serial_behaves (Broke {start = start} how callee left f q ok inner) = ((start, left, q), serial_behaves inner, tt)
serial_behaves (Refused k left f q bad) = tt

pub runs_behave : (p : Source) (inputs : List ℤ) (r : Transcript) (es : List Event) (c : Conclusion) → IsSerialRun p inputs r es c → Behaves p inputs callees.Root [] r
runs_behave p inputs r es c (end, d, e) = serial_behaves d
