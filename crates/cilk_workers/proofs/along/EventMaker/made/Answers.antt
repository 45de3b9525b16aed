use Rattle.std.proofs.Common.{◌≡◌, inl, inr, ◌<◌, ◌∙◌, Some, length, refl, rules, sym, ap, subst, w64, to_z, of_z}
use Rattle.std.proofs.lemmas.Int.{to_z-of_z}
use Rattle.cilk_types.specs.declared.event.Event.TheVariants.{Read, Write}
use Rattle.cilk_frames.specs.declared.cursor.Answer.TheVariants.{Value}
use Rattle.cilk_replay.specs.Asking.{IsAnswered}
use Rattle.cilk_shared.specs.Pieces.{PieceValue}
use Rattle.cilk_shared.specs.Reducers.{frame_in}
use Rattle.cilk_shared.specs.Values.{MayPass, YardValue}
use Rattle.cilk_tree.specs.Kinds.{kind_of_event}
use Rattle.cilk_tree.specs.Runs.{IsAsked}
use Rattle.cilk_tree.specs.Word.{event}
use Rattle.cilk_tree.specs.declared.kind.Kind.{Kind}
use Rattle.cilk_tree.specs.declared.kind.Kind.TheVariants as kinds
use Rattle.cilk_workers.specs.Asks.{Carries}
use Rattle.cilk_workers.specs.Shared.{event_order_in}
use Rattle.cilk_workers.proofs.Due.{answered, answered_done, here, in_yard, of_event_order}
use Rattle.cilk_workers.proofs.Numbered.{number_there}
use Rattle.cilk_workers.proofs.OfKind.{has_number, quiet, silent_done, silent_quiet, with_number}
use Rattle.cilk_workers.proofs.Stretches.{due, one_more, silent, work_of}
use Rattle.cilk_workers.proofs.along.EventMaker.made.Goals as goal

pub load-value-requires-clause-next : goal.load-value-requires-clause-next
load-value-requires-clause-next g c =
    let y = c.args.self.now.shared.now in
    let p = c.args.piece.now in
    let good = (let r = c.requires.reached.1 in r.good) in
    let d = due y p c.args.kind (kinds.Read c.in-Read.cell) c.args.asked.now c.laws.ensures.same c.in-Read.is good c.requires.wanted in
    in_yard (λ s. (p.from < p.upto × IsAsked s p.upto) × (c.in-Read.cell < length s.opening) × ((v : _) × (event s p.upto ≡ Some (Read c.in-Read.cell v)))) y _ c.yard.ensures
    ((good.1, d.0.asked), c.laws.ensures.cells p.upto c.in-Read.cell (inl d.0.kind_is), here y (work_of y p) (kinds.Read c.in-Read.cell) d.0 d.1 c.laws.ensures.same)

pub returns-in-Read : goal.returns-in-Read
returns-in-Read g c =
    let y = c.args.self.now.shared.now in
    let p = c.args.piece.now in
    let k = kinds.Read c.in-Read.cell in
    let v = c.load-value.result in
    let d = due y p c.args.kind k c.args.asked.now c.laws.ensures.same c.in-Read.is (let r = c.requires.reached.1 in r.good) c.requires.wanted in
    record {
      reached = one_more y p c.load-value.new.self k d.0.kind_is tt c.load-value.ensures.piece;
      made = (
        subst (λ n. IsAnswered y.replay.yard.event_order p.upto (Value n)) (sym (to_z-of_z w64 v (record { sfits = c.load-value.type_inv })))
            (answered y (work_of y p) k d.0 d.1 c.laws.ensures.same v (Value v) (subst (λ (z : YardValue). event z.event_order p.upto ≡ Some (Read c.in-Read.cell v)) c.yard.ensures c.load-value.ensures.value) refl),
        ap (λ (x : PieceValue). x.upto) c.load-value.ensures.piece,
      );
    }

pub store-requires-clause-next : goal.store-requires-clause-next
store-requires-clause-next g c =
    let y = c.args.self.now.shared.now in
    let p = c.args.piece.now in
    let k = kinds.Write c.in-Write.cell in
    let n = c.in-Some.number in
    let good = (let r = c.requires.reached.1 in r.good) in
    let wanted = c.requires.wanted in
    let d = due y p c.args.kind k c.args.asked.now c.laws.ensures.same c.in-Write.is good wanted in
    let has = has_number (event y.replay.yard.event_order p.upto) k (wanted.next.is ∙ ap (λ (z : Kind). Some z) c.in-Write.is) tt in
    let number = number_there y.replay p.upto c.args.asked.now wanted.asks c.number_in.result wanted.asked c.number_in.ensures has n c.in-Some.is in
    in_yard (λ s. (p.from < p.upto × IsAsked s p.upto) × (c.in-Write.cell < length s.opening) × (event s p.upto ≡ Some (Write c.in-Write.cell (to_z w64 (of_z w64 n))))) y _ c.yard-in-Write.ensures (
      (good.1, d.0.asked),
      c.laws.ensures.cells p.upto c.in-Write.cell (inr d.0.kind_is),
      with_number (event (event_order_in y) p.upto) k n d.0.kind_is (subst (λ (z : YardValue). Carries (event z.event_order p.upto) n) c.laws.ensures.same number)
          ∙ ap (λ v. Some (Write c.in-Write.cell v)) (sym (to_z-of_z w64 n (search rules))),
    )

pub returns-in-Some : goal.returns-in-Some
returns-in-Some g c =
    let y = c.args.self.now.shared.now in
    let p = c.args.piece.now in
    let k = kinds.Write c.in-Write.cell in
    let d = due y p c.args.kind k c.args.asked.now c.laws.ensures.same c.in-Write.is (let r = c.requires.reached.1 in r.good) c.requires.wanted in
    record {
      reached = one_more y p c.store.new.self k d.0.kind_is tt c.store.ensures;
      made = (answered_done y (work_of y p) k d.0 d.1 c.laws.ensures.same tt, ap (λ (x : PieceValue). x.upto) c.store.ensures);
    }

pub pass-requires-clause-next : goal.pass-requires-clause-next
pass-requires-clause-next g c =
    let y = c.args.self.now.shared.now in
    let p = c.args.piece.now in
    let good = (let r = c.requires.reached.1 in r.good) in
    let d = due y p c.args.kind c.args.kind c.args.asked.now c.laws.ensures.same refl good c.requires.wanted in
    (subst MayPass c.segment.ensures (c.may_pass.ensures.0 c.if-not-may_pass.false), of_event_order (λ s. IsAsked s p.upto) y.run p good.0 d.0.asked)

pub pass-requires-clause-quiet : goal.pass-requires-clause-quiet
pass-requires-clause-quiet g c =
    let y = c.args.self.now.shared.now in
    let p = c.args.piece.now in
    let good = (let r = c.requires.reached.1 in r.good) in
    let d = due y p c.args.kind c.args.kind c.args.asked.now c.laws.ensures.same refl good c.requires.wanted in
    quiet p.reducers (frame_in p.event_order.events p.upto) (event p.event_order p.upto) c.args.kind
    (of_event_order (λ s. kind_of_event (event s p.upto) ≡ Some c.args.kind) y.run p good.0 d.0.kind_is) (silent_quiet c.args.kind (silent c.args.kind c.in-Begin.is).0)

pub returns-else-not-may_pass : goal.returns-else-not-may_pass
returns-else-not-may_pass g c =
    let y = c.args.self.now.shared.now in
    let p = c.args.piece.now in
    let k = c.args.kind in
    let d = due y p k k c.args.asked.now c.laws.ensures.same refl (let r = c.requires.reached.1 in r.good) c.requires.wanted in
    let s = silent k c.in-Begin.is in
    record {
      reached = one_more y p c.pass.new.self k d.0.kind_is s.1 c.pass.ensures;
      made = (answered_done y (work_of y p) k d.0 d.1 c.laws.ensures.same (silent_done k s.0), ap (λ (x : PieceValue). x.upto) c.pass.ensures);
    }
