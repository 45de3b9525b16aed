use Rattle.std.proofs.Common.{refl, sym, subst}
use Rattle.cilk_replay.specs.Making.{IsNextKind, IsWanted}
use Rattle.cilk_replay.specs.Replays.{ReplayValue}
use Rattle.cilk_replay.specs.Sorts.{Says}
use Rattle.cilk_replay.specs.declared.plan_match.PlanMatch.{PlanMatch}
use Rattle.cilk_replay.proofs.Along as along
use Rattle.cilk_replay.proofs.stretch.granted.Goals as goal

pub make-requires-clause-wanted : goal.make-requires-clause-wanted
make-requires-clause-wanted g c =
    let u = c.args.replay.now in
    let p = c.args.piece.now in
    let l = c.requires.stands.0 in
    let below = c.requires.stands.1 in
    let S = c.requires.stands.3 in
    let next = subst (λ (z : ReplayValue). IsNextKind z p.upto c.in_ok-kind.kind) c.requires.replay c.in_ok-kind.ensures in
    subst (λ (z : ReplayValue). IsWanted z p.upto c.in_ok-kind.kind c.args.asked.now) (sym c.requires.replay) (record {
      next = next;
      asks = along.next_ask u u refl p.upto c.args.asked.now l below S;
      asked = subst (λ (says : PlanMatch). Says (along.event_order_of u) p.upto c.in_ok-kind.kind says) c.in-Follows.is (c.compared.ensures p.upto l below c.requires.stands.2 S next.is);
    })
