-- The result of the pass decides.
use Rattle.std.proofs.Common.{◌≡◌, Some, None, IsTrue, length, ap, sym, ◌∙◌, subst}
use Rattle.cilk_syntax.specs.Trees.{items_of, program}
use Rattle.cilk_program.specs.Syntax.{Source}
use Rattle.cilk_program.specs.WellNamed.{is_well_named}
use Rattle.cilk_names.specs.Globals.{main_of}
use Rattle.cilk_names.specs.Misnamings.{faults_of}
use Rattle.cilk_names.specs.Resolution.{Resolves}
use Rattle.cilk_names.specs.States.{Comes}
use Rattle.cilk_names.proofs.Firsts.{fault_is, no_main_is, right_is}
use Rattle.cilk_names.proofs.Made.{comes, source_is, shared_is}
use Rattle.cilk_names.proofs.Verdicts.{program_resolves}
use Rattle.cilk_names.proofs.WellNamed.{well_named}
use Rattle.cilk_names.proofs.resolve.resolve.Goals as goal

pub returns-in-Some-clause-fault : goal.returns-in-Some-clause-fault
returns-in-Some-clause-fault c =
    let t = c.args.tree.now in
    let done : Comes c.in_ok-scene.field-0 t.text.items (program t) =
    comes c.in_ok-scene.field-0 c.as_slice-text.result.now t.text.items c.as_slice-items.result.now t.items.items c.as_slice-text.ensures.value c.as_slice-items.ensures.value c.in_ok-scene.ensures in
    fault_is t c.in_ok-scene.field-0.scene.first c.in-Some.wrong done.first c.in-Some.is

pub returns-in_default-main_of-clause-fault : goal.returns-in_default-main_of-clause-fault
returns-in_default-main_of-clause-fault c =
    let t = c.args.tree.now in
    let done : Comes c.in_ok-scene.field-0 t.text.items (program t) =
    comes c.in_ok-scene.field-0 c.as_slice-text.result.now t.text.items c.as_slice-items.result.now t.items.items c.as_slice-text.ensures.value c.as_slice-items.ensures.value c.in_ok-scene.ensures in
    let main : main_of t.text.items 0 (program t) ≡ None =
    ap (λ x. main_of x 0 (program t)) (sym c.as_slice-text.ensures.value) ∙ ap (λ l. main_of c.as_slice-text.result.now 0 (items_of l)) (sym c.as_slice-items.ensures.value)
    ∙ sym c.main_of.ensures ∙ c.in_default-main_of.is in
    no_main_is t c.in_ok-scene.field-0.scene.first (length c.as_slice-text.result.now) done.first c.in_default.is main (ap length c.as_slice-text.ensures.value)

pub invariant_of-result-2 : goal.invariant_of-result-2
invariant_of-result-2 c =
    let t = c.args.tree.now in
    let n = c.in_ok-number_of.field-0 in
    let done : Comes c.in_ok-scene.field-0 t.text.items (program t) =
    comes c.in_ok-scene.field-0 c.as_slice-text.result.now t.text.items c.as_slice-items.result.now t.items.items c.as_slice-text.ensures.value c.as_slice-items.ensures.value c.in_ok-scene.ensures in
    let main : main_of t.text.items 0 (program t) ≡ Some n =
    ap (λ x. main_of x 0 (program t)) (sym c.as_slice-text.ensures.value) ∙ ap (λ l. main_of c.as_slice-text.result.now 0 (items_of l)) (sym c.as_slice-items.ensures.value)
    ∙ sym c.main_of.ensures ∙ c.in-Some-main_of.is ∙ ap Some (sym c.in_ok-number_of.ensures) in
    let right : faults_of t ≡ _ = right_is t c.in_ok-scene.field-0.scene.first n done.first c.in_default.is main in
    record {
      well_named = subst (λ (s : Source). IsTrue (is_well_named s)) (sym (source_is t c.in_ok-scene.field-0 c.openings.inside.numbers.items n done c.openings.view_is)) (well_named t n right main);
    }

pub returns-clause-ok : goal.returns-clause-ok
returns-clause-ok c =
    let t = c.args.tree.now in
    let n = c.in_ok-number_of.field-0 in
    let done : Comes c.in_ok-scene.field-0 t.text.items (program t) =
    comes c.in_ok-scene.field-0 c.as_slice-text.result.now t.text.items c.as_slice-items.result.now t.items.items c.as_slice-text.ensures.value c.as_slice-items.ensures.value c.in_ok-scene.ensures in
    let main : main_of t.text.items 0 (program t) ≡ Some n =
    ap (λ x. main_of x 0 (program t)) (sym c.as_slice-text.ensures.value) ∙ ap (λ l. main_of c.as_slice-text.result.now 0 (items_of l)) (sym c.as_slice-items.ensures.value)
    ∙ sym c.main_of.ensures ∙ c.in-Some-main_of.is ∙ ap Some (sym c.in_ok-number_of.ensures) in
    let right : faults_of t ≡ _ = right_is t c.in_ok-scene.field-0.scene.first n done.first c.in_default.is main in
    subst (λ (s : Source). Resolves t s) (sym (source_is t c.in_ok-scene.field-0 c.openings.inside.numbers.items n done c.openings.view_is)) (program_resolves t n right main)

pub returns-clause-reducers : goal.returns-clause-reducers
returns-clause-reducers c =
    let t = c.args.tree.now in
    let done : Comes c.in_ok-scene.field-0 t.text.items (program t) =
    comes c.in_ok-scene.field-0 c.as_slice-text.result.now t.text.items c.as_slice-items.result.now t.items.items c.as_slice-text.ensures.value c.as_slice-items.ensures.value c.in_ok-scene.ensures in
    shared_is t c.in_ok-scene.field-0 done

pub returns-clause-named : goal.returns-clause-named
returns-clause-named c =
    let t = c.args.tree.now in
    let n = c.in_ok-number_of.field-0 in
    let done : Comes c.in_ok-scene.field-0 t.text.items (program t) =
    comes c.in_ok-scene.field-0 c.as_slice-text.result.now t.text.items c.as_slice-items.result.now t.items.items c.as_slice-text.ensures.value c.as_slice-items.ensures.value c.in_ok-scene.ensures in
    let main : main_of t.text.items 0 (program t) ≡ Some n =
    ap (λ x. main_of x 0 (program t)) (sym c.as_slice-text.ensures.value) ∙ ap (λ l. main_of c.as_slice-text.result.now 0 (items_of l)) (sym c.as_slice-items.ensures.value)
    ∙ sym c.main_of.ensures ∙ c.in-Some-main_of.is ∙ ap Some (sym c.in_ok-number_of.ensures) in
    let right : faults_of t ≡ _ = right_is t c.in_ok-scene.field-0.scene.first n done.first c.in_default.is main in
    subst (λ (s : Source). IsTrue (is_well_named s)) (sym (source_is t c.in_ok-scene.field-0 c.openings.inside.numbers.items n done c.openings.view_is)) (well_named t n right main)
