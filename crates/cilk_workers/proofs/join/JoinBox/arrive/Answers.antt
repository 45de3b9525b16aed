use Rattle.std.proofs.Common.{◌≡◌, refl, sym, subst, Option, Some}
use Rattle.cilk_types.specs.declared.event.Event.TheVariants.{Sync}
use Rattle.cilk_tree.specs.Word.{event}
use Rattle.cilk_replay.specs.Chains.{ChainValue}
use Rattle.cilk_workers.specs.Answers.{PassesWhole}
use Rattle.cilk_workers.specs.Rows.{IsLowest, Rows}
use Rattle.cilk_workers.specs.Boxes.{BeginsByFirst, BoxValue, IsClosed, IsGone, MayArrive, StartsByFirst}
use Rattle.cilk_workers.proofs.Boxes.{box_of, closed_on, gone_on, starts_on}
use Rattle.cilk_workers.proofs.join.JoinBox.arrive.Goals as goal

pub invariant_of-self : goal.invariant_of-self
invariant_of-self c =
    let b = c.self.inside in
    let j : BoxValue = box_of b.runs b.replay.value b.sync b.stolen b.arrived b.gone b.chain in
    let comes = subst (λ (j : BoxValue). MayArrive j c.args.key c.args.piece c.args.chain) (sym c.self.view_is) c.requires.comes in
    let closed = closed_on j c.args.key c.args.piece b.gone b.chain c.args.chain c.self.invariant.0 refl comes in
    let gone = gone_on j c.args.key c.args.piece b.gone b.chain c.args.chain c.self.invariant.1 refl comes in
    let lowest = subst (λ (j : BoxValue). IsLowest j.rows c.args.key → BeginsByFirst (let r = j.rows in let y = r.of in y.event_order) j.sync c.args.piece) (sym c.self.view_is) c.requires.first in
    let starts = starts_on (let y = b.runs.of in y.event_order) b.sync (let r = b.runs.row in r.run) (let r = b.runs.row in r.waits) c.args.key c.args.piece c.self.invariant.3 lowest in (
      subst (λ (z : Rows × Option ChainValue). IsClosed z.0 b.replay.value b.sync z.1) (λ i. (sym c.in-Ok.ensures.ok i, sym c.settle.ensures i)) closed,
      subst (λ (z : Rows × Option ChainValue). IsGone b.gone z.0 z.1) (λ i. (sym c.in-Ok.ensures.ok i, sym c.settle.ensures i)) gone,
      subst (λ (z : Rows). event z.of.event_order b.sync ≡ Some Sync) (sym c.in-Ok.ensures.ok) c.self.invariant.2,
      subst (λ (z : Rows). StartsByFirst z.of.event_order b.sync (let r = z.row in r.run)) (sym c.in-Ok.ensures.ok) starts,
    )

pub returns-in-Ok-clause-whole : goal.returns-in-Ok-clause-whole
returns-in-Ok-clause-whole c =
    let b = c.self.inside in
    subst (λ (j : BoxValue). PassesWhole (let r = j.rows in let y = r.of in y.event_order) j.sync c.answer.result) c.self.view_is
    (subst (λ (z : Rows). PassesWhole z.of.event_order b.sync c.answer.result) c.in-Ok.ensures.ok c.answer.ensures.whole)
