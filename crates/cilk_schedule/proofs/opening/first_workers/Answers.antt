use Rattle.std.proofs.Common.{◌≡◌, ◌∷◌, ◌++◌, [], ℕ, List, length, slice_get, Some, ap, sym, ◌∙◌, subst, length-append, arith}
use Rattle.cilk_scheduler.specs.Parts.{OpensAs}
use Rattle.cilk_scheduler.specs.declared.frame_state.Worker.{Worker}
use Rattle.cilk_schedule.proofs.FirstSchedulers.{each_more}
use Rattle.cilk_schedule.proofs.opening.first_workers.Goals as goal

pub each-preserved : goal.each-preserved
each-preserved c =
    let l = c.each.workers.items in
    let x = c.first_worker.result in
    let i = c.each.invariant in
    let grown : c.push.new.self.items ≡ l ++ x ∷ [] = c.in_ok-push.ensures.items in
    record {
      count = ap length grown ∙ length-append l (x ∷ []) ∙ (let n = i.count in omega (arith, n));
      opens = subst (λ (z : List Worker). (v : ℕ) (u : Worker) → slice_get z v ≡ Some u → OpensAs v u) (sym grown)
          (each_more OpensAs l x i.opens (subst (λ n. OpensAs n x) (sym i.count) c.first_worker.ensures));
    }
