use Rattle.std.proofs.Common.{◌≡◌, ℕ, ◌+◌, ◌≤◌, [], ◌∷◌, ◌++◌, ap, Ok, Err}
use Rattle.std.specs.Prelude.{Result, MatchResult, IfErr}
use Rattle.crossbeam_deque.specs.Handles.{worker_capacity, worker_index, worker_view}
use Rattle.cilk_replay.specs.declared.chain.Task.{Task}
use Rattle.cilk_workers.specs.declared.rack.Offers.{Offers}
use Rattle.cilk_workers.specs.Racks.{offers}
use Rattle.cilk_workers.proofs.Moves.{pushes}
use Rattle.cilk_workers.proofs.rack.Rack.offer.Goals as goal

pub push_as-requires-clause-pushes : goal.push_as-requires-clause-pushes
push_as-requires-clause-pushes g c = pushes g.N.Naming.replay g.N.Naming.taken _ _ c.args.self.now.owner c.requires _ c.args.self.now.first

-- the deque's answer, of the tasks that wait
answered : (Full : Type 0) (v w : Offers) (n m room : ℕ) (t : Task) (result : Result (Unit {0}) Task) → MatchResult result (λ _. (w ≡ offers v.owner v.alone (v.waiting ++ t ∷ [])) × (m ≡ n + 1)) (λ u. (u ≡ t) × (w ≡ v) × (m ≡ n) × Full) → IfErr result (λ _. room ≤ n)
    → MatchResult result (λ _. (w.waiting ≡ v.waiting ++ t ∷ []) × (m ≡ n + 1)) (λ u. (u ≡ t) × (w.waiting ≡ v.waiting) × (room ≤ n))
answered Full v w n m room t (Ok x) rule refused = (ap (λ (o : Offers). o.waiting) rule.0, rule.1)
answered Full v w n m room t (Err u) rule refused = (rule.0, ap (λ (o : Offers). o.waiting) rule.1, refused)

pub returns-clause-rule : goal.returns-clause-rule
returns-clause-rule g c =
    let old = c.args.self.now.worker in
    let new = c.push_as.new.self in
    answered _ (worker_view old) (worker_view new) (worker_index old) (worker_index new) (worker_capacity old) c.args.task c.push_as.result c.push_as.ensures.rule c.push_as.ensures.refused
