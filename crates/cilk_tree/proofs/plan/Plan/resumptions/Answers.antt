use Rattle.std.proofs.Common.{Vec, Global, ◌≡◌, ℕ, ◌+◌, ◌<◌, List, length, map, sym, ap, ◌∙◌, refl, subst, arith}
use Rattle.std.proofs.lemmas.List.{get_or_past, length-map}
use Rattle.std.proofs.lemmas.Option.{slice_get_read}
use mathlib.Core.Logic.{dite}
use native.Mathlib.Decide.{dec_lt}
use Rattle.cilk_tree.specs.declared.event_order.EventOrder.{EventOrder}
use Rattle.cilk_tree.specs.Kinds.{kind_of}
use Rattle.cilk_tree.proofs.Continuing.{resumes_none}
use Rattle.cilk_tree.proofs.Resuming.{SoFar, within, resumed_first, resumed_next, same_column, resumed_all}
use Rattle.cilk_tree.proofs.plan.Plan.resumptions.Goals as goal
use Rattle.cilk_tree.proofs.plan.Plan.resumptions.Goals.{in-Resume, in_default}

pub note-requires : goal.note-requires
note-requires c = within c.args.self.now c.laws.ensures.order (c.loop-behind.behind + 1) _ c.resumed_by.result c.loop-behind.invariant.long c.resumed_by.ensures

pub loop-behind-init : goal.loop-behind-init
loop-behind-init c =
    let column : List ℕ = c.resize.new.self.items in
    let n : ℕ = c.count-count.result + 1 in
    let h = c.in_ok-resize.ensures in
    let long : length column ≡ n = sym c.resize.new.self.ok.0 ∙ h.len in
    let none = c.in_ok-column.ensures.len in
    resumed_first c.args.self.now c.laws.ensures.order column (long ∙ ap (λ (k : ℕ). k + 1) c.count-count.ensures.events)
    (λ k. dite (dec_lt k n) (λ (lt : k < n). h.by_index.1 k 0 refl (omega (arith, none)) lt) (λ past. get_or_past column k 0 (omega (arith, long, past))))

pub loop-behind-preserved : goal.loop-behind-preserved
loop-behind-preserved c =
    let s : EventOrder = c.args.self.now in
    let i : ℕ = c.loop-behind.behind in
    let column : List ℕ = c.loop-behind.column.items in
    elim c.match-index.branch [
      | in-Resume w ↦ subst (λ (v : Vec ℕ Global). SoFar s (i + 1) v.items) (sym w.column-is)
          (resumed_next s c.laws.ensures.order i (i + 1) column _ w.resumed_by.result refl c.loop-behind.invariant w.resumed_by.ensures w.note.ensures)
      | in_default w ↦ (let test = c.loop-behind-test.true in
          let count = c.count-count.ensures.events in
          let same : c.self.inside.kinds.items ≡ map kind_of s.events = c.self.invariant.2 ∙ ap (λ (y : EventOrder). map kind_of y.events) c.self.view_is in
          let long : length c.self.inside.kinds.items ≡ length s.events = ap length same ∙ length-map s.events kind_of in
          let read = slice_get_read c.self.inside.kinds.items (length c.self.inside.kinds.items) i c.index.result.now refl (omega (arith, test, count, long)) c.index.ensures in
          subst (λ (v : Vec ℕ Global). SoFar s (i + 1) v.items) (sym w.column-is)
          (same_column s c.laws.ensures.order i (i + 1) column refl c.loop-behind.invariant
          (resumes_none s i c.self.inside.kinds.items c.index.result.now same read w.in_default.not-Resume)))
    ]

pub returns : goal.returns
returns c = let all = c.count-count.ensures.events in resumed_all c.args.self.now c.laws.ensures.order c.loop-behind.behind c.loop-behind.column.items c.loop-behind.invariant (omega (arith, all))
