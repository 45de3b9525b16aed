use Rattle.std.proofs.Common.{ap}
use Rattle.cilk_workers.specs.declared.rack.Offers.{Offers}
use Rattle.cilk_workers.proofs.rack.Rack.new.Goals as goal

pub invariant_of-result : goal.invariant_of-result
invariant_of-result g c =
    let made = c.in_ok-worker.ensures in
    record { lifo = made.1; first = made.2; owner = ap (λ (v : Offers). v.owner) made.4 }

pub returns : goal.returns
returns g c =
    let made = c.in_ok-worker.ensures in
    (ap (λ (v : Offers). v.waiting) made.4, ap (λ (v : Offers). v.alone) made.4, made.3, made.0.1)
