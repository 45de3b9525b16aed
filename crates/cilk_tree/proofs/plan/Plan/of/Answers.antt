use Rattle.std.proofs.Common.{◌≡◌, ◌-◌, ◌+◌, ◌++◌, ◌∙◌, All, ℕ, ℤ, ◌≤◌, true, false, List, length, map, replicate, slice_index_or, sym, ap₂, subst}
use Rattle.cilk_tree.specs.Word.{word}
use Rattle.cilk_types.specs.declared.event.Event.{Event}
use Rattle.cilk_types.specs.declared.limits.TheConstants.{MAX_EVENTS}
use Rattle.cilk_tree.specs.Orders.{IsOrderly}
use Rattle.cilk_tree.specs.Values.{HasValues}
use Rattle.std.specs.Prelude.{FitsSigned}
use Rattle.std.specs.Int.{w64}
use Rattle.cilk_tree.specs.Earliest.{all_earliest, number_of}
use Rattle.cilk_tree.specs.Frames.{AreFrames}
use Rattle.cilk_tree.specs.Kinds.{kind_of}
use Rattle.cilk_tree.specs.Planned.{all_asked, planned}
use Rattle.cilk_tree.proofs.Framed.{begins}
use Rattle.cilk_tree.proofs.EventOrders.{asked, orderly, valued}
use Rattle.cilk_tree.proofs.plan.Plan.of.Goals as goal

pub event_columns-requires : goal.event_columns-requires
event_columns-requires c = begins c.requires.shape c.args.trace.now c.requires.spells

pub invariant_of-result : goal.invariant_of-result
invariant_of-result c =
    let opening = c.args.opening.items in
    let Goal : List Event → Type 0 = λ es. IsOrderly (planned es opening) × HasValues (planned es opening) × (c.in_ok-kinds.field-0.kinds.items ≡ map kind_of es) × (length es ≤ MAX_EVENTS) × (c.in_ok-kinds.field-0.earliest.items ≡ map number_of (all_earliest es)) × AreFrames es c.in_ok-kinds.field-0.frames.items × (c.in_ok-words.words.items ≡ map word opening ++ replicate (length es + 1) 0) in
    let h : Goal c.args.trace.now = (orderly c.args.trace.now opening c.requires, valued c.args.trace.now opening c.requires c.events_of_words.ensures (subst (All (FitsSigned w64)) c.as_slice.ensures.value c.words.ensures), c.in_ok-kinds.ensures.kinds, c.requires.few_events, c.in_ok-kinds.ensures.earliest, c.in_ok-kinds.ensures.frames, c.in_ok-words.ensures ∙ ap₂ (λ (values : List ℤ) (n : ℕ). map word values ++ replicate (n + 1) 0) c.as_slice-2.ensures.value c.len.ensures.events) in
    subst Goal (sym c.of.ensures) h

pub returns-clause-asked : goal.returns-clause-asked
returns-clause-asked c = λ p i. subst (λ (es : List Event). slice_index_or (all_asked es) (p - 1) false ≡ true) (sym c.of.ensures) (asked c.args.trace.now c.args.opening.items p i)
