use Rattle.std.proofs.Common.{◌≡◌, ℕ, suc, ◌+◌, List, ◌∷◌, length, reverse, sym, ap, ◌∙◌, subst, arith, rules}
use Rattle.cilk_program.specs.Sources.{source}
use Rattle.cilk_program.specs.SerialRun.{cells_of}
use Rattle.cilk_program.specs.declared.ask.Callee.TheVariants.{Function}
use Rattle.cilk_frames.specs.Sight.{HasScope}
use Rattle.cilk_frames.specs.declared.activation.Activation as activations
use Rattle.cilk_serial.specs.declared.state.State.{State}
use Rattle.cilk_serial.specs.Scoped.{IsOnTop}
use Rattle.cilk_serial.specs.States.{Begins}
use Rattle.cilk_serial.proofs.Beginnings.{function_scoped}
use Rattle.cilk_serial.proofs.Homes.{on_top, result_fits}
use Rattle.cilk_serial.proofs.Driving.{going_seen}
use Rattle.cilk_helpers.specs.declared.rest.Rest.{Rest}
use Rattle.cilk_helpers.specs.Telling.{held_of}
use Rattle.cilk_helpers.proofs.Alike.{alike_on_top}
use Rattle.cilk_helpers.proofs.Beginning.{few, fits, may, tells_begin, with_cursor}
use Rattle.cilk_helpers.proofs.retelling.Retelling.begin_function.Goals as goal

pub function_cells-cells-requires : goal.function_cells-cells-requires
function_cells-cells-requires c =
    let prog = c.args.program.now in
    let x = c.requires.tells in
    let call = c.args.call.now in
    let f = fits x.0 (source prog) x.1 c.args.self.now prog.well_named c.args.how (Function call) x.2 c.requires.asked in
    f.0.here

pub overflow_add-number : goal.overflow_add-number
overflow_add-number c =
    let prog = c.args.program.now in
    let x = c.requires.tells in
    let call = c.args.call.now in
    let h = few x.0 (source prog) x.1 c.args.self.now prog.well_named c.args.how (Function call) x.2 c.requires.asked (λ m shows. sym (c.crowded.ensures (source prog) (Function call) m c.function_cells-cells.ensures shows) ∙ c.in_default.is) in
    let frames = h.0 in
    omega (arith, frames)

pub begin-requires : goal.begin-requires
begin-requires c =
    let prog = c.args.program.now in
    let x = c.requires.tells in
    let call = c.args.call.now in
    (few x.0 (source prog) x.1 c.args.self.now prog.well_named c.args.how (Function call) x.2 c.requires.asked (λ m shows. sym (c.crowded.ensures (source prog) (Function call) m c.function_cells-cells.ensures shows) ∙ c.in_default.is)).0

pub function-requires : goal.function-requires
function-requires c =
    let prog = c.args.program.now in
    let p = source prog in
    let x = c.requires.tells in
    let t = c.args.self.now in
    let call = c.args.call.now in
    let r = x.2.run in
    let g = x.2.retold.going in
    let fr = g.frame in
    let ontop : IsOnTop t.frames fr = alike_on_top t.frames r.frames fr x.2.alike (on_top p r.frames fr g.parents (going_seen x.0 p x.1 r g)) in
    let allowed = may x.0 p x.1 t prog.well_named c.args.how (Function call) x.2 c.requires.asked in
    let room = few x.0 p x.1 t prog.well_named c.args.how (Function call) x.2 c.requires.asked (λ m shows. sym (c.crowded.ensures p (Function call) m c.function_cells-cells.ensures shows) ∙ c.in_default.is) in
    (fr.scope, subst (λ (list : List (activations.Activation Rest)). HasScope list t.frames.top fr.scope) (sym c.as_slice-below.ensures.value) ontop.scope, allowed.0, result_fits fr (length t.state.cells.items) call.result room.1 allowed.1)

pub returns : goal.returns
returns c = λ code inputs x replay yes.
    let prog = c.args.program.now in
    let p = source prog in
    let t = c.args.self.now in
    let call = c.args.call.now in
    let s = t.state in
    let a = c.in_ok-frame.frame in
    let made = c.in_ok-frame.ensures in
    let r = x.run in
    let g = x.retold.going in
    let fr = g.frame in
    let shows = g.shows in
    let m = g.memory in
    let asked = c.requires.asked in
    let ontop : IsOnTop t.frames fr = alike_on_top t.frames r.frames fr x.alike (on_top p r.frames fr g.parents (going_seen code p inputs r g)) in
    let sees = subst (λ (list : List (activations.Activation Rest)). HasScope list t.frames.top fr.scope) (sym c.as_slice-below.ensures.value) ontop.scope in
    let base : c.len-base.result ≡ length s.cells.items = search rules in
    let frames_same : (let rs = r.state in rs.frames) ≡ s.frames = ap (λ (s : State). s.frames) x.state in
    let number : s.frames + 1 ≡ suc m.frames = omega (arith, shows.frames, frames_same) in
    let cells : length s.cells.items ≡ m.cells = ap (λ (s : State). length s.cells.items) (sym x.state) ∙ sym shows.cells in
    let allowed = may code p inputs t prog.well_named c.args.how (Function call) x asked in
    let began : Begins s c.begin.new.self c.args.how (cells_of p (Function call)) = subst (λ (n : ℕ). Begins s c.begin.new.self c.args.how n) c.function_cells-cells.ensures c.in_ok-begin.ensures in
    tells_begin code p inputs t prog.well_named c.args.how (Function call) x asked c.begin.new.self a c.push.new.self (reverse c.args.notes.items)
    (λ m shows. sym (c.crowded.ensures p (Function call) m c.function_cells-cells.ensures shows) ∙ c.in_default.is) began
    c.in_ok-push.ensures.top c.in_ok-push.ensures.below (ap held_of made.cursor) replay
    (λ q same. function_scoped p fr m (q ∷ g.parents) call (with_cursor a replay.cursor) (made.number ∙ number) (made.base ∙ base ∙ cells) (made.given fr.scope sees) made.outer (made.result fr.scope sees) made.first made.creator allowed.2)
