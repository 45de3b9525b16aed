-- The source that a program of the code means.
use Rattle.cilk_program.specs.declared.program.Program.{Program}
use Rattle.cilk_program.specs.Syntax.{Source}
use Rattle.cilk_program.specs.Programs.{source_of}

abbrev pub source : Program → Source
source p = source_of p.globals p.reducers.items p.functions.items p.loops.items p.main
