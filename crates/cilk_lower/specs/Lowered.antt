-- What a program is compiled to.
use Rattle.cilk_program.specs.Syntax.{Source}
use Rattle.cilk_lower.specs.Behaves.{Behaves}
use Rattle.cilk_lower.specs.Code.{CodeView}
use Rattle.cilk_lower.specs.Layout.{LaysOut}
use Rattle.cilk_lower.specs.Rooms.{RoomsFit}

-- the code makes the program's requests, has room for its operands, and has its layout
abbrev pub IsLowered : Source → CodeView → Type 0
IsLowered p code = Behaves p code × RoomsFit p code × LaysOut p code.layout
