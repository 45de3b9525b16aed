use Rattle.cilk_join.specs.Histories.{pieces_in, by_key}
use Rattle.cilk_join.proofs.ByKey.{keys_increase, sorted, up_rises}
use Rattle.cilk_join.proofs.Histories.{holds}
use Rattle.cilk_join.proofs.laws.pieces_arrive_once.Goals as goal

pub returns-clause-once : goal.returns-clause-once
returns-clause-once c = λ steps h.
    let state = holds steps h in
    let s = sorted (pieces_in steps) state.once in
    (s.1, keys_increase _ (up_rises (by_key (pieces_in steps)) s.0))

pub returns-clause-last : goal.returns-clause-last
returns-clause-last c = λ steps h p o. let state = holds steps h in let w = state.own p o in w.2
