use Rattle.std.proofs.Common.{◌≡◌, true, [], Option, Some, sym, ◌∙◌, subst}
use Rattle.cilk_types.specs.declared.event.Event.TheVariants.{Sync}
use Rattle.cilk_tree.specs.Word.{event}
use Rattle.cilk_replay.specs.Chains.{ChainValue}
use Rattle.cilk_workers.specs.Boxes.{BoxValue, IsClosed, StartsByFirst}
use Rattle.cilk_workers.specs.Rows.{Run, Rows, IsGoodRun}
use Rattle.cilk_workers.specs.Answers.{Answers, PassesWhole}
use Rattle.cilk_workers.specs.declared.join.Boxed.TheVariants.{Passes}
use Rattle.cilk_workers.proofs.Boxes.{box_of, empty_waits, gone_row, passing, passing_whole}
use Rattle.cilk_workers.proofs.join.JoinBox.answer.Goals as goal

pub returns : goal.returns
returns c =
    let i = c.self.inside in
    let j : BoxValue = box_of i.runs i.replay.value i.sync i.stolen i.arrived i.gone i.chain in
    let j' : BoxValue = box_of c.take-2.new.self i.replay.value i.sync i.stolen i.arrived true c.take.new.self in
    let passes : Answers j (Passes c.in-Some-take.piece c.in-Some.chain) j' =
    passing i.runs c.take-2.new.self i.replay.value i.sync i.stolen i.arrived i.gone i.chain c.take.new.self c.in-Some.chain c.in-Some-take.piece c.self.invariant.0 (sym c.is_whole.ensures ∙ c.if-not-is_whole.false) (sym c.take.ensures.value ∙ c.in-Some.is)
    (sym c.in-Some-take.is ∙ c.take-2.ensures.out) c.take-2.ensures.new (subst (λ (o : Run). IsGoodRun (let r = i.runs in r.of) o) c.in-Some-take.is c.take-2.ensures.good) in
    record {
      answer = subst (λ (b : BoxValue). Answers b (Passes c.in-Some-take.piece c.in-Some.chain) j') c.self.view_is passes;
      whole = subst (λ (b : BoxValue). PassesWhole (let r = b.rows in let y = r.of in y.event_order) b.sync (Passes c.in-Some-take.piece c.in-Some.chain)) c.self.view_is
          (passing_whole i.runs.of.event_order j j' (Passes c.in-Some-take.piece c.in-Some.chain) passes c.self.invariant.3);
    }

pub invariant_of-self-2 : goal.invariant_of-self-2
invariant_of-self-2 c =
    let i = c.self.inside in
    let none : (let r = i.runs.row in r.waits ≡ []) = empty_waits (let r = i.runs.row in r.waits) (sym c.is_whole.ensures ∙ c.if-not-is_whole.false) in (
      subst (λ (o : Option ChainValue). IsClosed c.take-2.new.self i.replay.value i.sync o) (sym c.take.ensures.after) tt,
      (gone_row i.runs (let r = i.runs.row in r.waits) none c.take-2.new.self c.take-2.ensures.new, c.take.ensures.after),
      subst (λ (z : Rows). event z.of.event_order i.sync ≡ Some Sync) (sym c.take-2.ensures.new) c.self.invariant.2,
      subst (λ (z : Rows). StartsByFirst z.of.event_order i.sync (let r = z.row in r.run)) (sym c.take-2.ensures.new) tt,
    )
