use Rattle.std.proofs.Common.{◌≡◌, ◌≤◌, ap, ap₂, sym, ◌∙◌, subst, List, ℕ, nat_lt, if◌then◌else◌}
use Rattle.cilk_workers.specs.Rows.{Rows, Wait, FitsIn, FitsFrom, IsLowest, behind}
use Rattle.cilk_workers.proofs.Rows.{fits_top}
use Rattle.cilk_workers.proofs.runs.Runs.fits.Goals as goal

pub returns : goal.returns
returns c =
    let r = c.self.inside.row in
    let k = c.args.key in
    let x = c.args.piece.now in
    let b = c.args.first in
    let begin : c.least-begin.result ≡ (if nat_lt b x.from then b else x.from) = c.least-begin.ensures ∙ ap (λ (a : ℕ). if nat_lt b a then b else a) c.from.ensures in
    let at = c.end_of_run.ensures ∙ ap₂ behind c.first.ensures begin in
    let top = fits_top r.run r.waits k b x in (
      λ told. subst (λ (j : Rows). FitsIn j k x × (IsLowest j k → x.from ≤ b)) c.self.view_is (top.0 (subst (λ (z : ℕ × List Wait). FitsFrom z.0 z.1 k x) (λ i. (at i, c.waits.ensures i)) (c.fits_from.ensures.0 told))),
      λ fits. c.fits_from.ensures.1 (subst (λ (z : ℕ × List Wait). FitsFrom z.0 z.1 k x) (λ i. (sym at i, sym c.waits.ensures i)) (top.1 (subst (λ (j : Rows). FitsIn j k x × (IsLowest j k → x.from ≤ b)) (sym c.self.view_is) fits))),
    )
