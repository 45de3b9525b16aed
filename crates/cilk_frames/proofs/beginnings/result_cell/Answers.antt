use Rattle.std.proofs.Common.{Some, option_map, sym, ap, ◌∙◌}
use Rattle.cilk_program.specs.Scopes.{cell_in}
use Rattle.cilk_program.specs.SerialRun.{itself}
use Rattle.cilk_frames.proofs.beginnings.result_cell.Goals as goal

pub returns-in-Some : goal.returns-in-Some
returns-in-Some g c = λ scope sees. ap Some (c.cell.ensures scope sees) ∙ ap (option_map (cell_in itself scope)) (sym c.in-Some.is)
