-- A worker continues its frame.
--
-- - `is_ready`, `is_asked`: the frame can continue, and then it has made the current request;
-- - `is_turn`: no fault comes instead of its event;
-- - `few_uncounted`: its ticks are few;
-- - `runs_on`, `runs_quiet`: its event is in the journal; a change that is quiet.
use Rattle.std.proofs.Common.{◌≡◌, ◌+◌, ◌<◌, ◌≤◌, ◌^◌, ℕ, ℤ, List, [], ◌∷◌, ◌++◌, length, slice_get, Some, None, refl, sym, ap, subst, arith}
use Rattle.cilk_types.specs.declared.limits.TheConstants.{MAX_TICKS}
use Rattle.cilk_program.specs.declared.ask.Ask.{Ask}
use Rattle.cilk_program.specs.declared.ask.Ask.TheVariants as asks
use Rattle.cilk_lower.specs.Code.{CodeView}
use Rattle.cilk_frames.specs.Cursor.{CursorView}
use Rattle.cilk_frames.specs.declared.activation.Activation.{Activation}
use Rattle.cilk_scheduler.specs.Asking.{IsReady, WentOn, refusal}
use Rattle.cilk_scheduler.specs.FrameStates.{changed, counted}
use Rattle.cilk_scheduler.specs.declared.scheduler.Scheduler.{Scheduler}
use Rattle.cilk_scheduler.specs.declared.frame_state.JournalEntry.{JournalEntry}
use Rattle.cilk_scheduler.specs.declared.frame_state.FrameState.{FrameState}
use Rattle.cilk_scheduler.proofs.Changing.{changed_length}
use Rattle.cilk_schedule.specs.Sound.{IsAsked, IsMade, IsQuiet, IsTurn, Runs, Sound}
use Rattle.cilk_schedule.proofs.Coming.{came, ready}
use Rattle.cilk_schedule.proofs.Sounds.{IsStill, push_length, still_keeps}
use Rattle.cilk_schedule.proofs.Workers.{inside}

module _ (code : CodeView) (inputs : List ℤ) (b : Scheduler) (r : Runs code inputs b) (k : ℕ) (a : Activation FrameState) (c : CursorView)
    (at : let f = b.frames in slice_get f.items k ≡ Some a) (has : let x = a.cursor in x.cursor ≡ Some c) where
  pub is_ready : let x = a.cursor in IsReady code inputs x
  is_ready =
      let s = r.sound in
      let n = s.counts k a at in
      let f = b.frames in
      let d = b.cells in
      let e = b.journal in
      ready code r.program inputs r.is_code f.items (length d.items) (length e.items) a c has n.took (s.rests k a c at (λ q. cc) has)

  pub is_asked : (x : FrameState) (ask : Ask) → (let y = a.cursor in WentOn code inputs y ask x) → (b' : Scheduler) → (let f = b.frames in let g = b'.frames in g.items ≡ changed (λ _. x) f.items k)
      → b'.cells ≡ b.cells → b'.journal ≡ b.journal → b'.offered ≡ b.offered → b'.ticks ≡ b.ticks → b'.asked ≡ ask → IsAsked code inputs b' k
  is_asked x ask went b' frames_are cells_are journal_is offered_is ticks_are asked_is =
      let p = r.program in
      let f = b.frames in
      let g = b'.frames in
      let d = b.cells in
      let e = b.journal in
      let low = inside f.items k a at in
      let now = changed (λ _. x) f.items k in
      let s : Sound code p inputs now (length d.items) (length e.items) (Some k) ask = came code p inputs r.is_code f.items (length d.items) (length e.items) k a x ask c at has went low r.sound in
      record {
        program = p;
        is_code = r.is_code;
        sound = subst (λ q. let d' = b'.cells in let e' = b'.journal in Sound code p inputs g.items (length d'.items) (length e'.items) (Some k) q) (sym asked_is)
            (subst (λ e'. let d' = b'.cells in Sound code p inputs g.items (length d'.items) (length e'.items) (Some k) ask) (sym journal_is)
            (subst (λ d'. Sound code p inputs g.items (length d'.items) (length e.items) (Some k) ask) (sym cells_are)
            (subst (λ l. Sound code p inputs l (length d.items) (length e.items) (Some k) ask) (sym frames_are) s)));
        here = subst (λ l. k < length l) (sym frames_are) (let same = changed_length (λ _. x) f.items k in omega (arith, same, low));
        few_ticks = let q = r.ticks in omega (arith, q, ticks_are);
        offers = subst (λ e'. b'.offered ≤ length e'.items) (sym journal_is) (let q = r.offers in omega (arith, q, offered_is));
      }

module _ (code : CodeView) (inputs : List ℤ) (b : Scheduler) (k : ℕ) (t : IsAsked code inputs b k) (a : Activation FrameState) (at : let f = b.frames in slice_get f.items k ≡ Some a) where
  pub few_uncounted : let x = a.cursor in (x.counted ≤ x.took) × (b.ticks + x.took < 2 ^ 32)
  few_uncounted =
      let s = t.sound in
      let n = s.counts k a at in
      let few = t.few_ticks in
      let took = n.took in
      (n.counted, omega (arith, few, took))

-- with other room for events
pub is_turn : (code : CodeView) (inputs : List ℤ) (b : Scheduler) (k : ℕ) → IsAsked code inputs b k → (ticks : ℕ) (b' : Scheduler) → b'.frames ≡ b.frames → b'.cells ≡ b.cells → (let e = b.journal in let e' = b'.journal in e'.items ≡ e.items)
    → b'.offered ≡ b.offered → b'.ticks ≡ b.ticks → b'.asked ≡ b.asked
    → (let f = b.frames in let d = b.cells in let e = b.journal in refusal ticks (length e.items) (length f.items) (length d.items) code.layout b.asked ≡ None) → IsTurn code inputs b' k
is_turn code inputs b k t ticks b' frames_are cells_are items_are offered_is ticks_are asked_is accepted =
    let p = t.program in
    let f = b.frames in
    let d = b.cells in
    let e = b.journal in
    let e' = b'.journal in
    record {
      asked = record {
        program = p;
        is_code = t.is_code;
        sound = subst (λ f'. let d' = b'.cells in Sound code p inputs f'.items (length d'.items) (length e'.items) (Some k) b'.asked) (sym frames_are)
            (subst (λ d'. Sound code p inputs f.items (length d'.items) (length e'.items) (Some k) b'.asked) (sym cells_are)
            (subst (λ q. Sound code p inputs f.items (length d.items) (length e'.items) (Some k) q) (sym asked_is)
            (subst (λ l. Sound code p inputs f.items (length d.items) (length l) (Some k) b.asked) (sym items_are) t.sound)));
        here = subst (λ f'. k < length f'.items) (sym frames_are) t.here;
        few_ticks = let q = t.few_ticks in omega (arith, q, ticks_are);
        offers = let q = t.offers in let same = ap length items_are in omega (arith, q, offered_is, same);
      };
      ticks = ticks;
      accepted = subst (λ f'. let d' = b'.cells in refusal ticks (length e'.items) (length f'.items) (length d'.items) code.layout b'.asked ≡ None) (sym frames_are)
          (subst (λ d'. refusal ticks (length e'.items) (length f.items) (length d'.items) code.layout b'.asked ≡ None) (sym cells_are)
          (subst (λ q. refusal ticks (length e'.items) (length f.items) (length d.items) code.layout q ≡ None) (sym asked_is)
          (subst (λ l. refusal ticks (length l) (length f.items) (length d.items) code.layout b.asked ≡ None) (sym items_are) accepted)));
    }

count_still : IsStill counted
count_still = record {
  parent = λ x. refl;
  last = λ x. refl;
  children = λ x. refl;
  strands = λ x. refl;
  took = λ x. refl;
  counted = λ x h. omega arith;
  due = λ x. refl;
  cursor = λ x. refl;
}

pub runs_on : (code : CodeView) (inputs : List ℤ) (b : Scheduler) (k : ℕ) → IsMade code inputs b → (let f = b.frames in k < length f.items) → (entry : JournalEntry) (b' : Scheduler)
    → (let f = b.frames in let f' = b'.frames in f'.items ≡ changed counted f.items k) → b'.cells ≡ b.cells → (let e = b.journal in let e' = b'.journal in e'.items ≡ e.items ++ entry ∷ [])
    → b'.offered ≡ b.offered → b'.ticks ≤ MAX_TICKS → Runs code inputs b'
runs_on code inputs b k m here entry b' frames_are cells_are items_are offered_is few =
    let p = m.program in
    let f = b.frames in
    let f' = b'.frames in
    let d = b.cells in
    let e = b.journal in
    let e' = b'.journal in
    let one : length e'.items ≡ length e.items + 1 = (let t = push_length e.items entry in let u = ap length items_are in omega (arith, t, u)) in
    record {
      program = p;
      is_code = m.is_code;
      sound = subst (λ d'. Sound code p inputs f'.items (length d'.items) (length e'.items) None asks.Begin) (sym cells_are)
          (subst (λ n. Sound code p inputs f'.items (length d.items) n None asks.Begin) (sym one)
          (subst (λ l. Sound code p inputs l (length d.items) (length e.items + 1) None asks.Begin) (sym frames_are)
          (still_keeps counted count_still f.items k here code p inputs (length d.items) (length e.items + 1) None asks.Begin m.sound)));
      ticks = few;
      offers = let q = m.offers in omega (arith, q, offered_is, one);
    }

pub runs_quiet : (code : CodeView) (inputs : List ℤ) (b : Scheduler) → Runs code inputs b → (b' : Scheduler) → (let f = b.frames in let f' = b'.frames in IsQuiet f.items f'.items) → b'.cells ≡ b.cells → b'.journal ≡ b.journal → b'.ticks ≡ b.ticks → b'.offered ≤ b.offered → Runs code inputs b'
runs_quiet code inputs b r b' still cells_are journal_is ticks_are offered_is =
    let p = r.program in
    let f' = b'.frames in
    let d = b.cells in
    let e = b.journal in
    record {
      program = p;
      is_code = r.is_code;
      sound = subst (λ d'. let e' = b'.journal in Sound code p inputs f'.items (length d'.items) (length e'.items) None asks.Begin) (sym cells_are)
          (subst (λ e'. Sound code p inputs f'.items (length d.items) (length e'.items) None asks.Begin) (sym journal_is)
          (still.0 code p inputs (length d.items) (length e.items) None asks.Begin r.sound));
      ticks = let q = r.ticks in omega (arith, q, ticks_are);
      offers = subst (λ e'. b'.offered ≤ length e'.items) (sym journal_is) (let q = r.offers in omega (arith, q, offered_is));
    }
