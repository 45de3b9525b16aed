use Rattle.std.proofs.Common.{List, subst, sym, ℕ}
use Rattle.cilk_join.specs.AwaitedRows.{Stands}
use Rattle.cilk_join.specs.Products.{product}
use Rattle.cilk_join.proofs.AwaitedRows.{keys_shown}
use Rattle.cilk_join.proofs.join.Join.awaits.Goals as goal

pub returns : goal.returns
returns c =
    let same = keys_shown product c.args.self.now.row.waits in (
      λ e. subst (λ (ks : List ℕ). Stands ks c.args.key) (sym same) (c.awaits.ensures.0 e),
      λ h. c.awaits.ensures.1 (subst (λ (ks : List ℕ). Stands ks c.args.key) same h),
    )
