-- The parts that are sent, one by one.
use Rattle.std.proofs.Common.{◌≡◌, List, [], ◌∷◌, ◌++◌}
use Rattle.std.specs.Prelude.{All}
use Rattle.crossbeam_deque.specs.Handles.{Pass}
use Rattle.crossbeam_deque.specs.declared.handles.Stealer.{Stealer}
use Rattle.cilk_replay.specs.declared.chain.Task.{Task}
use Rattle.cilk_workers.specs.declared.rack.Offers.{Offers}
use Rattle.cilk_threads.specs.WorkerSeeds.{IsTake}
use Rattle.cilk_threads.proofs.Popped.{more}

module _ {A P : Type 0} where
  pub takes_more : (xs ys : List (Stealer Task A Offers P × Pass Task Offers A)) (x : Stealer Task A Offers P × Pass Task Offers A) → All IsTake xs → IsTake x → ys ≡ xs ++ x ∷ [] → All IsTake ys
  takes_more xs ys x all is e = more IsTake xs ys x e all is
