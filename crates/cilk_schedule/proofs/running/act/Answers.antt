use Rattle.std.proofs.Common.{◌≡◌, ◌+◌, ◌-◌, ◌≤◌, ℕ, [], ◌∷◌, ◌++◌, length, refl, ap, ◌∙◌, arith, rules}
use Rattle.cilk_types.specs.declared.limits.TheConstants.{MAX_TICKS}
use Rattle.cilk_schedule.proofs.Onward.{is_turn, runs_on}
use Rattle.cilk_schedule.proofs.Standing.{if_err_always, kept_by, stand_same}
use Rattle.cilk_schedule.proofs.Workers.{inside}
use Rattle.cilk_schedule.proofs.Accepted as accepted
use Rattle.cilk_schedule.proofs.running.act.Goals as goal

pub returns-clause-runs : goal.returns-clause-runs
returns-clause-runs g c = λ inputs t.
    let b = c.args.scheduler.now in
    let q = c.requires.accepted in
    let ticks : ℕ = b.ticks + (q.frame_state.cursor.took - q.frame_state.cursor.counted) in
    let turn = is_turn c.args.code.now inputs b c.args.frame t ticks (record b { journal = c.reserve.new.self }) refl refl c.in_ok-reserve.ensures.items refl refl refl q.accepted in
    let made = c.in_ok-event.ensures.made in
    let same = made.1 c.args.frame q.frame_state q.sits in
    let here = inside c.make.new.scheduler.frames.items c.args.frame same.0 same.1 in
    let now = c.note-scheduler.ensures.ticks same.0 same.1 in
    let before = c.make.ensures.rest.ticks in
    let took = same.2.0 in
    let counted = same.2.1 in
    let few = accepted.few_ticks ticks (length b.journal.items) (length b.frames.items) (length b.cells.items) c.args.code.now.layout b.asked q.accepted in
    let low : c.note-scheduler.result ≤ MAX_TICKS = omega (arith, now, before, took, counted, few) in
    runs_on c.args.code.now inputs c.make.new.scheduler c.args.frame (made.0 inputs turn) here _ _ c.note-scheduler.ensures.frames refl c.note-scheduler.ensures.journal refl low

pub returns-clause-wrote : goal.returns-clause-wrote
returns-clause-wrote g c = (
  c.in_ok-event.event,
  refl,
  λ it.
      let b = c.args.scheduler.now in
      let t = c.in_ok-event.ensures.touched it in
      record {
        made = c.make.new.scheduler;
        touched = record { worker = t.worker; views = t.views; at = t.at; makes = t.makes; workers = t.workers; offered = t.offered; outcome = t.outcome };
        frames = c.note-scheduler.ensures.frames;
        ticks = λ a at. c.note-scheduler.ensures.ticks a at ∙ ap (λ n. n + (let x = a.cursor in x.took - x.counted)) c.make.ensures.rest.ticks;
        journal = c.note-scheduler.ensures.journal ∙ ap (λ l. l ++ (record { frame = c.args.frame; event = c.in_ok-event.event }) ∷ []) (ap (λ z. z.items) c.make.ensures.rest.journal ∙ c.in_ok-reserve.ensures.items);
        cells = refl;
        workers = refl;
        offered = refl;
        outcome = refl;
      },
)

pub returns-clause-starts : goal.returns-clause-starts
returns-clause-starts g c = (
  c.in_ok-event.event,
  refl,
  λ it.
      let t = c.in_ok-event.ensures.starts it in
      let g = t.begins in
      record {
        made = c.make.new.scheduler;
        starts = record {
          how = t.how;
          callee = t.callee;
          child = t.child;
          asked = t.asked;
          is_child = t.is_child;
          begins = record {
            before = g.before;
            after = g.after;
            at = g.at;
            hands = g.hands;
            workers = g.workers;
            frames = g.frames;
            cells = g.cells;
            offered = g.offered;
            journal = g.journal ∙ c.in_ok-reserve.ensures.items;
            ticks = g.ticks;
            outcome = g.outcome;
          };
          event_is = t.event_is;
        };
        noted = record { frames = c.note-scheduler.ensures.frames; journal = c.note-scheduler.ensures.journal; ticks = c.note-scheduler.ensures.ticks; cells = refl; workers = refl; offered = refl; outcome = refl };
      },
)

pub returns-clause-synced : goal.returns-clause-synced
returns-clause-synced g c = (
  c.in_ok-event.event,
  refl,
  λ it.
      let b = c.args.scheduler.now in
      let m = c.in_ok-event.ensures.syncs it in
      record {
        made = c.make.new.scheduler;
        asked = m.0;
        behind = λ a at may. let t = m.1 a at may in record { arrived = t.arrived; comes = t.comes; frames = t.frames; cells = t.cells; offered = t.offered; outcome = t.outcome };
        journal = ap (λ z. z.items) c.make.ensures.rest.journal ∙ c.in_ok-reserve.ensures.items;
        ticks = c.make.ensures.rest.ticks;
        noted = record {
          frames = c.note-scheduler.ensures.frames;
          journal = c.note-scheduler.ensures.journal ∙ ap (λ e. let l = c.make.new.scheduler.journal in l.items ++ (record { frame = c.args.frame; event = e }) ∷ []) it;
          ticks = c.note-scheduler.ensures.ticks;
          cells = refl;
          workers = refl;
          offered = refl;
          outcome = refl;
        };
      },
)

pub returns-clause-ends : goal.returns-clause-ends
returns-clause-ends g c = (
  c.in_ok-event.event,
  refl,
  λ it. record {
    made = c.make.new.scheduler;
    ends = (let q = c.in_ok-event.ensures.ends it in (
      q.0,
      q.1,
      λ finds.
          let t = q.2 finds in
          record {
            worker = t.worker;
            top = t.top;
            views = t.views;
            departed = t.departed;
            at = t.at;
            sits = t.sits;
            retires = t.retires;
            departs = t.departs;
            frames = t.frames;
            workers = t.workers;
            offered = t.offered;
            outcome = t.outcome;
            cells = t.cells;
            journal = t.journal ∙ c.in_ok-reserve.ensures.items;
            ticks = t.ticks;
          },
    ));
    noted = record {
      frames = c.note-scheduler.ensures.frames;
      journal = c.note-scheduler.ensures.journal ∙ ap (λ e. c.make.new.scheduler.journal.items ++ (record { frame = c.args.frame; event = e }) ∷ []) it;
      ticks = c.note-scheduler.ensures.ticks;
      cells = refl;
      workers = refl;
      offered = refl;
      outcome = refl;
    };
  },
)

pub returns-in_err-reserve-clause-kept : goal.returns-in_err-reserve-clause-kept
returns-in_err-reserve-clause-kept g c =
    let b = c.args.scheduler.now in
    let same : c.reserve.new.self.items ≡ b.journal.items = search rules in
    if_err_always _ _ (kept_by b (record b { journal = c.reserve.new.self }) (stand_same _ _ refl) same refl)

pub returns-in_err-event-clause-kept : goal.returns-in_err-event-clause-kept
returns-in_err-event-clause-kept g c =
    if_err_always _ _
    (kept_by c.args.scheduler.now c.make.new.scheduler c.in_err-event.ensures.stands (ap (λ z. z.items) c.make.ensures.rest.journal ∙ c.in_ok-reserve.ensures.items) c.in_err-event.ensures.outcome)
