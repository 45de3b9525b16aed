-- The numbers by which faults of a run are reported.
use Rattle.std.specs.Prelude.{ℕ}
use Rattle.cilk_types.specs.declared.fault.Fault.{Fault}
use Rattle.cilk_types.specs.declared.fault.Fault.TheVariants.{DivisionByZero, IndexOutside, InputOutside, TooManyEvents, TooManyFrames, TooManyCells}

abbrev pub number_of : Fault → ℕ
number_of DivisionByZero = 201
number_of IndexOutside = 202
number_of InputOutside = 203
number_of TooManyEvents = 204
number_of TooManyFrames = 205
number_of TooManyCells = 206
