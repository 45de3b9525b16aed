use Rattle.std.proofs.Common.{◌≡◌, ◌<◌, ◌≤◌, ℕ, length, Some, sym, subst, arith}
use Rattle.std.proofs.lemmas.Bool.{iff_false}
use Rattle.cilk_replay.specs.Making.{IsNextKind}
use Rattle.cilk_shared.specs.Values.{YardValue}
use Rattle.cilk_tree.specs.Kinds.{kind_of_event}
use Rattle.cilk_tree.specs.Word.{event}
use Rattle.cilk_workers.proofs.along.EventMakerMaker.next.Goals as goal

less : (a n : ℕ) → a ≤ n → (a ≡ n → ⊥) → a < n
less a n small other = omega (arith, small, other)

pub returns-in-Begin : goal.returns-in-Begin
returns-in-Begin g c =
    let y = c.args.self.now.shared.now in
    let k = c.in-Next.kind in
    let n = c.in-Next.ensures in
    let at = c.upto-at.result in
    let s = (let r = y.run in r.event_order) in
    let same = sym c.laws.ensures.same in
    subst (λ (m : ℕ). IsNextKind y.replay m k) c.upto-at.ensures (record {
      first = n.2;
      is = subst (λ (z : YardValue). kind_of_event (event z.event_order at) ≡ Some k) same n.0;
      more = subst (λ (z : YardValue). at < length (let o = z.event_order in o.events)) same (less at (length s.events) n.3 (iff_false c.is_last.ensures c.if-is_last.false));
    })
