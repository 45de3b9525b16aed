use Rattle.std.proofs.Common.{refl}
use Rattle.cilk_lower.specs.Code.{site}
use Rattle.cilk_program.specs.Programs.{invoke}
use Rattle.cilk_lower.proofs.emitter.Emitter.emit_invoke.Goals as goal

pub site_of-requires : goal.site_of-requires
site_of-requires c = let fits = c.requires 0 (site (invoke c.args.call.now)) refl in fits.reducers
