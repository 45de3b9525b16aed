use Rattle.std.proofs.Common.{subst}
use Rattle.cilk_lower.specs.Code.{SitesFit, declaration_sites}
use Rattle.cilk_program.specs.declared.syntax.Declaration.{Declaration}
use Rattle.cilk_program.specs.Programs.{declaration}
use Rattle.cilk_lower.proofs.emitter.Emitter.emit_declaration.Goals as goal

pub emit_invoke-requires : goal.emit_invoke-requires
emit_invoke-requires c = subst (λ (d : Declaration). SitesFit (declaration_sites (declaration d))) c.in-Invoke.is c.requires
