use Rattle.std.proofs.Common.{IfOk, sym, ap, ◌∙◌, subst, w64, SFits, rules}
use Rattle.std.proofs.lemmas.Int.{to_z-of_z}
use Rattle.cilk_program.specs.Sources.{source}
use Rattle.cilk_program.specs.declared.ask.Ask.TheVariants.{End}
use Rattle.cilk_helpers.specs.Asked.{ask_in}
use Rattle.cilk_helpers.specs.declared.retelling.Gone.{Gone}
use Rattle.cilk_helpers.specs.declared.retelling.Retelling.{Retelling}
use Rattle.cilk_helpers.specs.Telling.{Comes, HasRoom, Tells}
use Rattle.cilk_helpers.specs.declared.whole.Step.{Step}
use Rattle.cilk_helpers.specs.Whole.{Retells}
use Rattle.cilk_helpers.proofs.whole.make_event.Goals as goal

pub begin_turns-requires-clause-asked : goal.begin_turns-requires-clause-asked
begin_turns-requires-clause-asked c =
    let t = c.args.run.now in
    let prog = c.args.program.now in
    let h = subst (λ (g : Gone). Comes c.args.code.now (source prog) c.args.input.now t g c.go_on.new.self) c.in-Turns.is (c.in_ok-go_on.ensures c.args.code.now (source prog) c.args.input.now prog.well_named c.requires.tells) in
    ap (λ (u : Retelling). ask_in u.asked) h.0 ∙ h.1

pub begin_turns-requires-clause-tells : goal.begin_turns-requires-clause-tells
begin_turns-requires-clause-tells c =
    let t = c.args.run.now in
    let prog = c.args.program.now in
    let h = subst (λ (g : Gone). Comes c.args.code.now (source prog) c.args.input.now t g c.go_on.new.self) c.in-Turns.is (c.in_ok-go_on.ensures c.args.code.now (source prog) c.args.input.now prog.well_named c.requires.tells) in
    subst (λ (u : Retelling). Tells c.args.code.now (source prog) c.args.input.now u) (sym h.0) c.requires.tells

pub end-requires-clause-ends : goal.end-requires-clause-ends
end-requires-clause-ends c =
    let t = c.args.run.now in
    let prog = c.args.program.now in
    let h = subst (λ (g : Gone). Comes c.args.code.now (source prog) c.args.input.now t g c.go_on.new.self) c.in-Ends.is (c.in_ok-go_on.ensures c.args.code.now (source prog) c.args.input.now prog.well_named c.requires.tells) in
    let fits : SFits w64 c.in-Ends.value = search rules in
    ap (λ (u : Retelling). ask_in u.asked) h.0 ∙ h.1 ∙ ap End (sym (to_z-of_z w64 c.in-Ends.value fits))

pub end-requires-clause-room : goal.end-requires-clause-room
end-requires-clause-room c =
    let t = c.args.run.now in
    let prog = c.args.program.now in
    let h = subst (λ (g : Gone). Comes c.args.code.now (source prog) c.args.input.now t g c.go_on.new.self) c.in-Ends.is (c.in_ok-go_on.ensures c.args.code.now (source prog) c.args.input.now prog.well_named c.requires.tells) in
    subst (λ (u : Retelling). HasRoom u.state) (sym h.0) (c.is_full.ensures c.if-is_full.false)

pub end-requires-clause-tells : goal.end-requires-clause-tells
end-requires-clause-tells c =
    let t = c.args.run.now in
    let prog = c.args.program.now in
    let h = subst (λ (g : Gone). Comes c.args.code.now (source prog) c.args.input.now t g c.go_on.new.self) c.in-Ends.is (c.in_ok-go_on.ensures c.args.code.now (source prog) c.args.input.now prog.well_named c.requires.tells) in
    subst (λ (u : Retelling). Tells c.args.code.now (source prog) c.args.input.now u) (sym h.0) c.requires.tells

pub returns-in-Made-clause-step : goal.returns-in-Made-clause-step
returns-in-Made-clause-step c =
    let prog = c.args.program.now in
    subst (λ (g : Gone). Comes c.args.code.now (source prog) c.args.input.now c.args.run.now g c.go_on.new.self) c.in-Made.is (c.in_ok-go_on.ensures c.args.code.now (source prog) c.args.input.now prog.well_named c.requires.tells)

pub returns-in-Some-next-clause-step : goal.returns-in-Some-next-clause-step
returns-in-Some-next-clause-step c =
    let code = c.args.code.now in
    let prog = c.args.program.now in
    let inputs = c.args.input.now in
    let h = subst (λ (g : Gone). Comes code (source prog) inputs c.args.run.now g c.go_on.new.self) c.in-Turns.is (c.in_ok-go_on.ensures code (source prog) inputs prog.well_named c.requires.tells) in
    subst (λ (u : Retelling). IfOk c.begin_turns.result (λ (s : Step). Retells code (source prog) inputs u s c.begin_turns.new.run)) h.0 c.begin_turns.ensures

pub returns-in-Ends-clause-step : goal.returns-in-Ends-clause-step
returns-in-Ends-clause-step c =
    let code = c.args.code.now in
    let prog = c.args.program.now in
    let inputs = c.args.input.now in
    let h = subst (λ (g : Gone). Comes code (source prog) inputs c.args.run.now g c.go_on.new.self) c.in-Ends.is (c.in_ok-go_on.ensures code (source prog) inputs prog.well_named c.requires.tells) in
    subst (λ (u : Retelling). IfOk c.end.result (λ (s : Step). Retells code (source prog) inputs u s c.end.new.run)) h.0 c.end.ensures
