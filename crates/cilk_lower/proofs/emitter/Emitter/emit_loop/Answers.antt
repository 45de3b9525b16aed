use Rattle.std.proofs.Common.{◌++◌, length, sym, ap, ◌∙◌, subst, arith, List}
use Rattle.cilk_program.specs.declared.syntax.Stmt.{Stmt}
use Rattle.cilk_program.specs.Programs.{statements}
use Rattle.cilk_lower.specs.Code.{SitesFit, all_sites, all_code}
use Rattle.cilk_lower.specs.Rooms.{deepest_of_all}
use Rattle.cilk_lower.proofs.Patch.{patch_loop}
use Rattle.cilk_lower.proofs.Rows.{loop_is}
use Rattle.cilk_lower.proofs.emitter.Emitter.emit_loop.Goals as goal

pub emit_all-requires : goal.emit_all-requires
emit_all-requires c = let fits = c.requires in subst (λ (row : List Stmt). SitesFit (all_sites (statements row))) (sym c.deref.ensures.value) fits.sites

pub returns-clause-code : goal.returns-clause-code
returns-clause-code c =
    let base = c.args.self.now.instrs.items in
    let k = length c.args.self.now.sites.items in
    patch_loop base (all_code k (statements c.deref.result.now)) _ _ _ _ _ _ _ c.in_ok-place.ensures.code c.in_ok-place.ensures.place c.in_ok-put.ensures c.in_ok-emit_all.ensures.code c.in_ok-put_ends.ensures c.pass_unless_one.ensures c.in_ok-put_halves.ensures
    ∙ ap (λ l. base ++ l) (loop_is k c.args.l.now c.deref.result.now c.deref.ensures.value)

pub returns-clause-sites : goal.returns-clause-sites
returns-clause-sites c =
    let sites = c.args.self.now.sites.items in
    c.in_ok-emit_all.ensures.sites ∙ ap (λ row. sites ++ all_sites (statements row)) c.deref.ensures.value

pub returns-clause-room : goal.returns-clause-room
returns-clause-room c = omega (arith, c.in_ok-emit_all.ensures.room, ap (λ row. deepest_of_all (statements row)) c.deref.ensures.value)
