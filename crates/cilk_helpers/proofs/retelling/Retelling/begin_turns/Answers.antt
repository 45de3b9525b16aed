use Rattle.std.proofs.Common.{◌≡◌, ◌==◌, if◌then◌else◌, ℕ, suc, ◌+◌, length, reverse, Some, sym, ap, ◌∙◌, subst, arith, rules}
use Rattle.cilk_program.specs.Sources.{source}
use Rattle.cilk_program.specs.SerialRun.{cells_of}
use Rattle.cilk_program.specs.declared.ask.Callee.TheVariants.{Loop}
use Rattle.cilk_serial.specs.declared.state.State.{State}
use Rattle.cilk_serial.specs.States.{Begins}
use Rattle.cilk_serial.proofs.Beginnings.{turns_scoped}
use Rattle.cilk_serial.proofs.Driving.{going_seen}
use Rattle.cilk_helpers.specs.Telling.{held_of}
use Rattle.cilk_helpers.proofs.Beginning.{as_many, few, fits, may, tells_begin, with_cursor}
use Rattle.cilk_helpers.proofs.retelling.Retelling.begin_turns.Goals as goal

pub turn_cells-cells-requires : goal.turn_cells-cells-requires
turn_cells-cells-requires c =
    let prog = c.args.program.now in
    let x = c.requires.tells in
    let f = fits x.0 (source prog) x.1 c.args.self.now prog.well_named c.args.how (Loop c.args.part) x.2 c.requires.asked in
    f.0

pub overflow_add-number : goal.overflow_add-number
overflow_add-number c =
    let prog = c.args.program.now in
    let x = c.requires.tells in
    let h = few x.0 (source prog) x.1 c.args.self.now prog.well_named c.args.how (Loop c.args.part) x.2 c.requires.asked (λ m shows. sym (c.crowded.ensures (source prog) (Loop c.args.part) m c.turn_cells-cells.ensures shows) ∙ c.in_default.is) in
    let frames = h.0 in
    omega (arith, frames)

pub turns-frame-requires : goal.turns-frame-requires
turns-frame-requires c =
    let prog = c.args.program.now in
    let x = c.requires.tells in
    may x.0 (source prog) x.1 c.args.self.now prog.well_named c.args.how (Loop c.args.part) x.2 c.requires.asked

pub begin-requires : goal.begin-requires
begin-requires c =
    let prog = c.args.program.now in
    let x = c.requires.tells in
    (few x.0 (source prog) x.1 c.args.self.now prog.well_named c.args.how (Loop c.args.part) x.2 c.requires.asked (λ m shows. sym (c.crowded.ensures (source prog) (Loop c.args.part) m c.turn_cells-cells.ensures shows) ∙ c.in_default.is)).0

pub returns : goal.returns
returns c = λ code inputs x replay yes.
    let prog = c.args.program.now in
    let p = source prog in
    let t = c.args.self.now in
    let l = c.args.part in
    let s = t.state in
    let a = c.turns-frame.result in
    let made = c.turns-frame.ensures in
    let r = x.run in
    let g = x.retold.going in
    let shows = g.shows in
    let m = g.memory in
    let base : c.len-base.result ≡ length s.cells.items = search rules in
    let frames_same : (let rs = r.state in rs.frames) ≡ s.frames = ap (λ (s : State). s.frames) x.state in
    let number : s.frames + 1 ≡ suc m.frames = omega (arith, shows.frames, frames_same) in
    let cells : length s.cells.items ≡ m.cells = ap (λ (s : State). length s.cells.items) (sym x.state) ∙ sym shows.cells in
    let top = t.frames.top in
    let outer = λ (n : ℕ). if n == 0 then Some c.depth-here.result else top.outer in
    let here = c.depth-here.ensures ∙ sym (as_many code p inputs t x) in
    let began : Begins s c.begin.new.self c.args.how (cells_of p (Loop l)) = subst (λ (n : ℕ). Begins s c.begin.new.self c.args.how n) c.turn_cells-cells.ensures c.in_ok-begin.ensures in
    tells_begin code p inputs t prog.well_named c.args.how (Loop l) x c.requires.asked c.begin.new.self a c.push.new.self (reverse c.args.notes.items)
    (λ m shows. sym (c.crowded.ensures p (Loop l) m c.turn_cells-cells.ensures shows) ∙ c.in_default.is) began
    c.in_ok-push.ensures.top c.in_ok-push.ensures.below (ap held_of made.cursor) replay
    (λ q same. turns_scoped p r.frames g.frame g.parents m q l (with_cursor a replay.cursor) (going_seen code p inputs r g) same (may code p inputs t prog.well_named c.args.how (Loop l) x c.requires.asked)
    (λ zero. made.outer ∙ ap outer zero ∙ ap Some here) (λ one. made.outer ∙ ap outer one ∙ x.alike.top.outer) (made.number ∙ number) (made.base ∙ base ∙ cells) made.given made.result made.first made.creator)
