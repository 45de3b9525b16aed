use Rattle.std.proofs.Common.{◌≡◌, List, ◌∷◌, [], ◌++◌, length, sym, ap, ◌∙◌, subst, arith, append-nil, append_assoc, length-append}
use Rattle.cilk_types.specs.declared.event.Event.{Event}
use Rattle.cilk_program.specs.Sources.{source}
use Rattle.cilk_serial.specs.Going.{Progresses}
use Rattle.cilk_serial.specs.declared.running.Step.{Step}
use Rattle.cilk_serial.proofs.running.Running.complete.Goals as goal

-- more events, then more, then one
is_later : (es es1 es2 es3 : List Event) → (a : List Event) × (es1 ≡ es ++ a) → (b : List Event) × (es2 ≡ es1 ++ b) → (e : Event) × (es3 ≡ es2 ++ e ∷ []) → (l : List Event) × (es3 ≡ es ++ l)
is_later es es1 es2 es3 a b e =
    let two : es2 ≡ es ++ (a.0 ++ b.0) = b.1 ∙ ap (λ l. l ++ b.0) a.1 ∙ append_assoc es a.0 b.0 in
    ((a.0 ++ b.0) ++ e.0 ∷ [], e.1 ∙ ap (λ l. l ++ e.0 ∷ []) two ∙ append_assoc es (a.0 ++ b.0) (e.0 ∷ []))

pub each-init : goal.each-init
each-init c = record { going = c.requires; later = ([], sym (append-nil c.args.self.now.state.events.items)) }

pub each-preserved : goal.each-preserved
each-preserved c =
    let made = subst (λ (s : Step). Progresses c.args.code.now (source c.args.program.now) c.args.input.now c.run_on.new.self s c.step.new.self) c.in-Made.is c.step.ensures in
    let es = c.args.self.now.state.events.items in
    let more = c.in_ok-run_on.ensures.later in
    let later = is_later es c.each.self.state.events.items c.run_on.new.self.state.events.items c.step.new.self.state.events.items c.each.invariant.later (more.0, more.1) made.1 in
    record { going = made.0; later = later }

pub each-smaller : goal.each-smaller
each-smaller c =
    let made = subst (λ (s : Step). Progresses c.args.code.now (source c.args.program.now) c.args.input.now c.run_on.new.self s c.step.new.self) c.in-Made.is c.step.ensures in
    let going = made.0 in
    let short = going.counted in
    let later = c.in_ok-run_on.ensures.later in
    let rest = ap length later.1 ∙ length-append c.each.self.state.events.items later.0 in
    let more = ap length made.1.1 in
    let sum = length-append c.run_on.new.self.state.events.items (made.1.0 ∷ []) in
    omega (arith, short, more, sum, rest)

pub returns-in-Last-clause-later : goal.returns-in-Last-clause-later
returns-in-Last-clause-later c =
    let last = subst (λ (s : Step). Progresses c.args.code.now (source c.args.program.now) c.args.input.now c.run_on.new.self s c.step.new.self) c.in-Last.is c.step.ensures in
    let more = c.in_ok-run_on.ensures.later in
    is_later c.args.self.now.state.events.items c.each.self.state.events.items c.run_on.new.self.state.events.items c.step.new.self.state.events.items c.each.invariant.later (more.0, more.1) last.1
