use Rattle.std.proofs.Common.{◌≡◌, List, Some, slice_get, subst}
use Rattle.cilk_lower.specs.declared.code.Site.{Site}
use Rattle.cilk_lower.proofs.code.Code.site.Goals as goal

pub returns-clause-few : goal.returns-clause-few
returns-clause-few c =
    let there = subst (λ (sites : List Site). slice_get sites c.args.number ≡ Some c.site_at.result.now) c.deref.ensures.value c.site_at.ensures in
    let fits = c.self.invariant.1 c.args.number c.site_at.result.now there in
    fits.words
