use Rattle.std.proofs.Common.{◌+◌, ◌-◌, ◌≤◌, ℕ, [], ◌∷◌, ◌++◌, refl, ap, ◌∙◌, arith, length}
use Rattle.cilk_types.specs.declared.limits.TheConstants.{MAX_TICKS}
use Rattle.cilk_schedule.proofs.Onward.{is_turn, runs_on}
use Rattle.cilk_schedule.proofs.Workers.{inside}
use Rattle.cilk_schedule.proofs.Accepted as accepted
use Rattle.cilk_schedule.proofs.stretch.act_alone.Goals as goal

pub returns-clause-runs : goal.returns-clause-runs
returns-clause-runs c = λ is inputs t.
    let b = c.args.scheduler.now in
    let q = c.requires.accepted in
    let ticks : ℕ = b.ticks + (q.frame_state.cursor.took - q.frame_state.cursor.counted) in
    let turn = is_turn c.args.code.now inputs b c.args.frame t ticks b refl refl refl refl refl refl q.accepted in
    let made = c.in-Some.ensures.made in
    let same = made.1 c.args.frame q.frame_state q.sits in
    let here = inside c.make_alone.new.scheduler.frames.items c.args.frame same.0 same.1 in
    let now = c.note-scheduler.ensures.ticks same.0 same.1 in
    let before = c.make_alone.ensures.rest.ticks in
    let took = same.2.0 in
    let counted = same.2.1 in
    let few = accepted.few_ticks ticks (length b.journal.items) (length b.frames.items) (length b.cells.items) c.args.code.now.layout b.asked q.accepted in
    let low : c.note-scheduler.result ≤ MAX_TICKS = omega (arith, now, before, took, counted, few) in
    runs_on c.args.code.now inputs c.make_alone.new.scheduler c.args.frame (made.0 inputs turn) here _ _ c.note-scheduler.ensures.frames refl c.note-scheduler.ensures.journal refl low

pub returns-clause-wrote : goal.returns-clause-wrote
returns-clause-wrote c = λ is. (
  c.in-Some.event,
  λ w low.
      let t = c.in-Some.ensures.touched w low in
      record {
        made = c.make_alone.new.scheduler;
        touched = record { worker = t.worker; views = t.views; at = t.at; makes = t.makes; workers = t.workers; offered = t.offered; outcome = t.outcome };
        frames = c.note-scheduler.ensures.frames;
        ticks = λ a at. c.note-scheduler.ensures.ticks a at ∙ ap (λ n. n + (let x = a.cursor in x.took - x.counted)) c.make_alone.ensures.rest.ticks;
        journal = c.note-scheduler.ensures.journal ∙ ap (λ l. l ++ (record { frame = c.args.frame; event = c.in-Some.event }) ∷ []) (ap (λ z. z.items) c.make_alone.ensures.rest.journal);
        cells = refl;
        workers = refl;
        offered = refl;
        outcome = refl;
      },
)
