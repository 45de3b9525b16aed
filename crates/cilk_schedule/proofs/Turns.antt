-- A turn in which the frame's event is made.
--
-- - `many`, `comes`: there is room for the event, and the frame has made the current request;
-- - `is_made`, `settles_made`: the scheduler after it;
-- - `strand_settles`, `block_settles`, `end_settles`, and ticks: a strand begins, a block is
--   complete, the frame ends;
-- - `begun_made`, `begun_ticks`: it starts another;
-- - `few_children`, `few_strands_behind`, `waits_runs`: it comes to a sync, and waits there;
-- - `few_places`, `few_numbers`, `can_start`, `few_strands`, `function_may`, `turns_may`: what
--   these require.
use Rattle.std.proofs.Common.{◌≡◌, ◌+◌, ◌<◌, ◌≤◌, ◌^◌, ℕ, ℤ, pos, List, [], ◌∷◌, ◌++◌, length, replicate, slice_get, Option, Some, None, refl, sym, ap, ◌∙◌, subst, arith}
use Rattle.std.proofs.lemmas.List.{length-append, length-replicate}
use Rattle.cilk_types.specs.declared.limits.TheConstants.{MAX_CELLS, MAX_EVENTS, MAX_FRAMES}
use Rattle.cilk_types.specs.declared.invocation.Invocation.{Invocation}
use Rattle.cilk_types.specs.declared.invocation.Invocation.TheVariants.{Call, Spawn}
use Rattle.cilk_program.specs.declared.ask.Ask.{Ask}
use Rattle.cilk_program.specs.declared.ask.Ask.TheVariants as asks
use Rattle.cilk_program.specs.declared.ask.Callee.{Callee}
use Rattle.cilk_program.specs.declared.ask.Callee.TheVariants as callees
use Rattle.cilk_program.specs.declared.ask.FunctionCall.{FunctionCall}
use Rattle.cilk_program.specs.declared.ask.LoopPart.{LoopPart}
use Rattle.cilk_program.specs.declared.syntax.Place.{Place}
use Rattle.cilk_program.specs.Scopes.{Scope}
use Rattle.cilk_program.specs.SerialRun.{Frame}
use Rattle.cilk_program.specs.Syntax.{Source}
use Rattle.cilk_types.specs.declared.event.Instance.{Instance}
use Rattle.cilk_serial.specs.Scoped as scoped
use Rattle.cilk_frames.specs.declared.cursor.Answer.TheVariants.{Done}
use Rattle.cilk_frames.specs.Cursor.{CursorView}
use Rattle.cilk_frames.specs.Following.{Fits, HasAnswer, Stands, owed_for}
use Rattle.cilk_lower.specs.Code.{CodeView}
use Rattle.cilk_lower.specs.Layout.{cells_in}
use Rattle.cilk_frames.specs.Sight.{AreSmall, ResultFits}
use Rattle.cilk_frames.specs.declared.activation.Activation.{Activation}
use Rattle.cilk_scheduler.specs.Events.{SeesAt}
use Rattle.cilk_scheduler.specs.Asking.{refusal}
use Rattle.cilk_scheduler.specs.Invocations.{ChildBegins, left_at, newly_offered}
use Rattle.cilk_scheduler.specs.Invoking.{IsChild}
use Rattle.cilk_scheduler.specs.FrameStates.{changed, finished, stranded, started_at, synced, waiting}
use Rattle.cilk_scheduler.specs.declared.scheduler.Scheduler.{Scheduler}
use Rattle.cilk_scheduler.specs.declared.frame_state.Due.TheVariants as due
use Rattle.cilk_scheduler.specs.declared.frame_state.FrameState.{FrameState}
use Rattle.cilk_scheduler.proofs.Changing.{changed_length}
use Rattle.cilk_scheduler.proofs.Placed.{get_some}
use Rattle.cilk_schedule.specs.Sound.{HasCome, IsAsked, IsMade, IsQuiet, IsTurn, Runs, SameTicks, Settles, Sound, frame_of}
use Rattle.cilk_schedule.proofs.Accepted.{few_events, few_frames}
use Rattle.cilk_schedule.proofs.Begun.{begun}
use Rattle.cilk_schedule.proofs.Sounds.{IsStep, changed_sound, ended, lives_changed, push_get, same_ticks, same_twice, settled}

some_is : {A : Type 0} (x y : A) → Some x ≡ Some y → x ≡ y
some_is x y e = cc

module _ (code : CodeView) (inputs : List ℤ) (b : Scheduler) (k : ℕ) (t : IsTurn code inputs b k) where
  pub many : let e = b.journal in length e.items + 1 ≤ MAX_EVENTS
  many = let f = b.frames in let c = b.cells in let e = b.journal in few_events t.ticks (length e.items) (length f.items) (length c.items) code.layout b.asked t.accepted

  pub comes : let f = b.frames in let c = b.cells in HasCome f.items (length c.items) k b.asked
  comes = let a = t.asked in let e = b.journal in (code, a.program, inputs, length e.items, a.sound)

  pub is_made : (b' : Scheduler) → (let a = t.asked in let f = b'.frames in let c = b'.cells in let e = b.journal in Sound code a.program inputs f.items (length c.items) (length e.items + 1) None asks.Begin)
      → b'.journal ≡ b.journal → b'.offered ≤ b.offered + 1 → IsMade code inputs b'
  is_made b' s same more = let a = t.asked in let f = b'.frames in let c = b'.cells in record {
    program = a.program;
    is_code = a.is_code;
    sound = subst (λ e. Sound code a.program inputs f.items (length c.items) (length e.items + 1) None asks.Begin) (sym same) s;
    offers = let few = a.offers in subst (λ e. b'.offered ≤ length e.items + 1) (sym same) (omega (arith, few, more));
  }

  pub settles_made : (ask : Ask) → b.asked ≡ ask → (b' : Scheduler) → (let f = b.frames in let g = b'.frames in let c = b.cells in let d = b'.cells in Settles f.items g.items (length c.items) (length d.items) k ask)
      → b'.journal ≡ b.journal → b'.offered ≡ b.offered → IsMade code inputs b'
  settles_made ask is b' s same offers =
      let a = t.asked in
      let e = b.journal in
      let f = b.frames in
      let c = b.cells in
      let m = many in
      is_made b' (s code a.program inputs (length e.items) m (subst (λ q. Sound code a.program inputs f.items (length c.items) (length e.items) (Some k) q) is a.sound)) same (omega (arith, offers))

strand_step : IsStep 1 stranded (due.Answer Done)
strand_step = record {
  parent = λ x. refl;
  last = λ x. refl;
  children = λ x. refl;
  strands = λ x. omega arith;
  took = λ x. refl;
  counted = λ x. refl;
  due = λ x. refl;
  cursor = λ x. refl;
}

block_step : IsStep 1 synced (due.Answer Done)
block_step = record {
  parent = λ x. refl;
  last = λ x. refl;
  children = λ x. refl;
  strands = λ x. omega arith;
  took = λ x. refl;
  counted = λ x. refl;
  due = λ x. refl;
  cursor = λ x. refl;
}

pub strand_settles : (frames frames' : List (Activation FrameState)) (cells k : ℕ) (ask : Ask) → HasAnswer ask → Fits (owed_for ask) Done → k < length frames → frames' ≡ changed stranded frames k → Settles frames frames' cells cells k ask
strand_settles frames frames' cells k ask has fits there is = λ code p inputs events few s.
    subst (λ l. Sound code p inputs l cells (events + 1) None asks.Begin) (sym is) (settled 1 stranded (due.Answer Done) strand_step code p inputs frames cells events k ask has fits there few s)

pub strand_ticks : (frames frames' : List (Activation FrameState)) (k : ℕ) → frames' ≡ changed stranded frames k → SameTicks frames frames'
strand_ticks frames frames' k is = subst (λ l. SameTicks frames l) (sym is) (same_ticks stranded (λ x. (refl, refl)) frames k)

-- after a quiet change
pub block_settles : (frames quiet frames' : List (Activation FrameState)) (cells k : ℕ) → IsQuiet frames quiet → k < length frames → frames' ≡ changed synced quiet k → Settles frames frames' cells cells k asks.Sync
block_settles frames quiet frames' cells k still there is = λ code p inputs events few s.
    let low = still.2 in
    subst (λ l. Sound code p inputs l cells (events + 1) None asks.Begin) (sym is)
    (settled 1 synced (due.Answer Done) block_step code p inputs quiet cells events k asks.Sync tt tt (omega (arith, there, low)) few (still.0 code p inputs cells events (Some k) asks.Sync s))

pub block_ticks : (frames quiet frames' : List (Activation FrameState)) (k : ℕ) → IsQuiet frames quiet → frames' ≡ changed synced quiet k → SameTicks frames frames'
block_ticks frames quiet frames' k still is = same_twice frames quiet frames' still.1 (subst (λ l. SameTicks quiet l) (sym is) (same_ticks synced (λ x. (refl, refl)) quiet k))

pub end_settles : (frames quiet frames' : List (Activation FrameState)) (cells k : ℕ) (ask : Ask) → IsQuiet frames quiet → k < length frames → frames' ≡ changed finished quiet k → Settles frames frames' cells cells k ask
end_settles frames quiet frames' cells k ask still there is = λ code p inputs events few s.
    let low = still.2 in
    subst (λ l. Sound code p inputs l cells (events + 1) None asks.Begin) (sym is)
    (ended finished (λ x. (refl, refl, refl, refl, refl, refl, refl)) code p inputs quiet cells events k ask (omega (arith, there, low)) few (still.0 code p inputs cells events (Some k) ask s))

pub end_ticks : (frames quiet frames' : List (Activation FrameState)) (k : ℕ) → IsQuiet frames quiet → frames' ≡ changed finished quiet k → SameTicks frames frames'
end_ticks frames quiet frames' k still is = same_twice frames quiet frames' still.1 (subst (λ l. SameTicks quiet l) (sym is) (same_ticks finished (λ x. (refl, refl)) quiet k))

pub push_ticks : (frames : List (Activation FrameState)) (child : Activation FrameState) → SameTicks frames (frames ++ child ∷ [])
push_ticks frames child = λ k a at. (a, push_get frames child k a at, (refl, refl))

pub begun_ticks : (b b' : Scheduler) (w k : ℕ) (how : Invocation) (child : Activation FrameState) (count : ℕ) → ChildBegins b b' w k how child count → (let f = b.frames in let g = b'.frames in SameTicks f.items g.items)
begun_ticks b b' w k how child count h =
    let f = b.frames in
    let g = b'.frames in
    let more = f.items ++ child ∷ [] in
    let t = started_at (left_at how w) (length f.items) in
    same_twice f.items more g.items (push_ticks f.items child) (subst (λ l. SameTicks more l) (sym h.frames) (same_ticks t (λ x. (refl, refl)) more k))

few_offers : (how : Invocation) → newly_offered how ≤ 1
few_offers Call = omega arith
few_offers Spawn = omega arith

module _ (code : CodeView) (inputs : List ℤ) (b : Scheduler) (k : ℕ) (t : IsTurn code inputs b k) where
  pub begun_made : (how : Invocation) (callee : Callee) → b.asked ≡ asks.Invoke how callee → (worker base count : ℕ) (child : Activation FrameState)
      → (let c = b.cells in base ≡ length c.items) → (let f = b.frames in IsChild code f.items k worker base how callee child) → count ≡ cells_in code.layout callee
      → (b' : Scheduler) → ChildBegins b b' worker k how child count → b'.journal ≡ b.journal → IsMade code inputs b'
  begun_made how callee is worker base count child base_is child_is count_is b' h same =
      let a = t.asked in
      let e = b.journal in
      let f = b.frames in
      let c = b.cells in
      let d = b'.cells in
      let g = b'.frames in
      let zeros : List ℤ = replicate count (pos 0) in
      let cells_are : length d.items ≡ length c.items + count = (let q = ap (λ (l : List ℤ). length l) h.cells in let u = length-append c.items zeros in let v = length-replicate count (pos 0) in omega (arith, q, u, v)) in
      let few = few_frames t.ticks (length e.items) (length f.items) (length c.items) code.layout how callee (subst (λ q. refusal t.ticks (length e.items) (length f.items) (length c.items) code.layout q ≡ None) is t.accepted) in
      let more : length c.items + count ≤ MAX_CELLS = (let q = few.1 in omega (arith, q, count_is)) in
      is_made code inputs b k t b'
      (subst (λ n. Sound code a.program inputs g.items n (length e.items + 1) None asks.Begin) (sym cells_are)
      (subst (λ l. Sound code a.program inputs l (length c.items + count) (length e.items + 1) None asks.Begin) (sym h.frames)
      (begun code a.program inputs a.is_code f.items (length c.items) (length e.items) k worker base how callee child
      (subst (λ q. Sound code a.program inputs f.items (length c.items) (length e.items) (Some k) q) is a.sound) a.here base_is child_is few.0 count count_is more (left_at how worker) (many code inputs b k t))))
      same (let q = h.offered in let u = few_offers how in omega (arith, q, u))

result_fits : (frame : Frame) (n : ℕ) → n < 2 ^ 32 → (o : Option Place) → scoped.ResultFits frame n o → (let scope = frame.scope in ResultFits scope o)
result_fits frame n few None h = tt
result_fits frame n few (Some x) h = omega (arith, h, few)

module _ (code : CodeView) (inputs : List ℤ) (b : Scheduler) (k : ℕ) (t : IsTurn code inputs b k) where
  few_now : (how : Invocation) (callee : Callee) → b.asked ≡ asks.Invoke how callee → (let f = b.frames in length f.items + 1 ≤ MAX_FRAMES)
  few_now how callee is =
      let e = b.journal in
      let f = b.frames in
      let c = b.cells in
      (few_frames t.ticks (length e.items) (length f.items) (length c.items) code.layout how callee (subst (λ q. refusal t.ticks (length e.items) (length f.items) (length c.items) code.layout q ≡ None) is t.accepted)).0

  pub few_places : (how : Invocation) (callee : Callee) → b.asked ≡ asks.Invoke how callee → (let f = b.frames in length f.items < 65536)
  few_places how callee is = let q = few_now how callee is in omega (arith, q)

  pub few_numbers : (let c = b.cells in length c.items < 2 ^ 32) × (b.offered < 2 ^ 31)
  few_numbers =
      let a = t.asked in
      let s = a.sound in
      let few = s.few_cells in
      let many = s.few_events in
      let less = a.offers in
      (omega (arith, few), omega (arith, many, less))

  pub can_start : (x : Activation FrameState) → (let f = b.frames in slice_get f.items k ≡ Some x) → (let y = x.cursor in y.children < 2 ^ 31)
  can_start x at =
      let a = t.asked in
      let s = a.sound in
      let n = s.counts k x at in
      let q = n.children in
      let few = s.few_frames in
      omega (arith, q, few)

  pub few_strands : (x : Activation FrameState) → (let f = b.frames in slice_get f.items k ≡ Some x) → (let y = x.cursor in y.strands < 2 ^ 31)
  few_strands x at =
      let a = t.asked in
      let s = a.sound in
      let n = s.counts k x at in
      let q = n.strands in
      let few = s.few_events in
      omega (arith, q, few)

  pub function_may : (how : Invocation) (call : FunctionCall) → b.asked ≡ asks.Invoke how (callees.Function call) → (scope : Scope ℕ Instance) × (let f = b.frames in SeesAt f.items k scope) × AreSmall call.reducers × ResultFits scope call.result
  function_may how call is =
      let a = t.asked in
      let s = a.sound in
      let f = b.frames in
      let c = b.cells in
      let it = get_some f.items k a.here in
      let n = s.comes k it.0 it.1 refl in
      let l = n.lives in
      let few = few_numbers.0 in
      let frame = frame_of l.callee l.scope it.0 in
      let there : scoped.MayBegin a.program frame (length c.items) (callees.Function call) = subst (λ q. scoped.IsThere a.program frame (length c.items) q) is n.there in
      (l.scope, (it.0, it.1, l.links), there.0, result_fits frame (length c.items) few call.result there.1)

  pub turns_may : (how : Invocation) (part : LoopPart) → b.asked ≡ asks.Invoke how (callees.Loop part) → part.up ≤ 1
  turns_may how part is =
      let a = t.asked in
      let s = a.sound in
      let f = b.frames in
      let c = b.cells in
      let it = get_some f.items k a.here in
      let n = s.comes k it.0 it.1 refl in
      let l = n.lives in
      let frame = frame_of l.callee l.scope it.0 in
      subst (λ q. scoped.IsThere a.program frame (length c.items) q) is n.there

module _ (code : CodeView) (inputs : List ℤ) (b : Scheduler) (k : ℕ) (t : IsAsked code inputs b k) where
  pub few_children : (x : Activation FrameState) → (let f = b.frames in slice_get f.items k ≡ Some x) → (let y = x.cursor in y.children < 2 ^ 31)
  few_children x at =
      let s = t.sound in
      let n = s.counts k x at in
      let q = n.children in
      let few = s.few_frames in
      omega (arith, q, few)

  pub few_strands_behind : (now : List (Activation FrameState)) → (let f = b.frames in IsQuiet f.items now) → (x : Activation FrameState) → slice_get now k ≡ Some x → (let y = x.cursor in y.strands < 2 ^ 31)
  few_strands_behind now still x at =
      let d = b.cells in
      let e = b.journal in
      let s = still.0 code t.program inputs (length d.items) (length e.items) (Some k) b.asked t.sound in
      let n = s.counts k x at in
      let q = n.strands in
      let few = s.few_events in
      omega (arith, q, few)

-- the frame waits at its sync
wait_rests : (code : CodeView) (p : Source) (inputs : List ℤ) (frames : List (Activation FrameState)) (cells events k : ℕ) → k < length frames → Sound code p inputs frames cells events (Some k) asks.Sync → Sound code p inputs (changed waiting frames k) cells events None asks.Begin
unfolding lives_changed
wait_rests code p inputs frames cells events k there s =
    changed_sound code p inputs frames cells cells events events waiting k (omega arith) (omega arith) (Some k) None asks.Sync asks.Begin s
    (λ a at. let h = s.counts k a at in let same = changed_length waiting frames k in record {
      parent = let q = h.parent in omega (arith, same, q);
      last = let q = h.last in omega (arith, same, q);
      children = let q = h.children in omega (arith, same, q);
      strands = h.strands;
      counted = h.counted;
      took = h.took;
      low = h.low;
      creates = h.creates;
    })
    (λ a c at not is. let x = a.cursor in let h = s.comes k a at refl in let l = h.lives in
    let same : h.cursor ≡ c = some_is h.cursor c (sym h.here ∙ is) in record {
      lives = lives_changed code p inputs frames cells cells events events waiting k (omega arith) (omega arith) a (waiting x) l;
      stands = subst (λ z. Stands code inputs p l.callee z l.history x.took) same (h.stands tt);
      fits = sym (ap (λ (z : CursorView). z.owed) same) ∙ h.owes tt;
    })
    (λ a at no. cc)
    (λ j no not is. no (sym (some_is k j is))) (λ j no no2. cc) s.few_cells s.few_events there

pub waits_runs : (code : CodeView) (inputs : List ℤ) (b : Scheduler) (k : ℕ) → IsAsked code inputs b k → b.asked ≡ asks.Sync → (quiet : List (Activation FrameState)) → (let f = b.frames in IsQuiet f.items quiet) → (b' : Scheduler)
    → (let g = b'.frames in g.items ≡ changed waiting quiet k) → b'.cells ≡ b.cells → b'.journal ≡ b.journal → b'.offered ≡ b.offered → b'.ticks ≡ b.ticks → Runs code inputs b'
waits_runs code inputs b k t is quiet still b' frames_are cells_are journal_is offered_is ticks_are =
    let p = t.program in
    let f = b.frames in
    let g = b'.frames in
    let d = b.cells in
    let e = b.journal in
    let low : k < length quiet = (let q = t.here in let same = still.2 in omega (arith, q, same)) in
    let before : Sound code p inputs f.items (length d.items) (length e.items) (Some k) asks.Sync = subst (λ q. Sound code p inputs f.items (length d.items) (length e.items) (Some k) q) is t.sound in
    let s = wait_rests code p inputs quiet (length d.items) (length e.items) k low (still.0 code p inputs (length d.items) (length e.items) (Some k) asks.Sync before) in
    record {
      program = p;
      is_code = t.is_code;
      sound = subst (λ d'. let e' = b'.journal in Sound code p inputs g.items (length d'.items) (length e'.items) None asks.Begin) (sym cells_are)
          (subst (λ e'. Sound code p inputs g.items (length d.items) (length e'.items) None asks.Begin) (sym journal_is)
          (subst (λ l. Sound code p inputs l (length d.items) (length e.items) None asks.Begin) (sym frames_are) s));
      ticks = let q = t.few_ticks in omega (arith, q, ticks_are);
      offers = subst (λ e'. b'.offered ≤ length e'.items) (sym journal_is) (let q = t.offers in omega (arith, q, offered_is));
    }

pub ends_made : (code : CodeView) (inputs : List ℤ) (b : Scheduler) (k : ℕ) (t : IsTurn code inputs b k) (ask : Ask) → b.asked ≡ ask → (b' : Scheduler) (quiet : List (Activation FrameState)) → (let f = b.frames in IsQuiet f.items quiet) → (let g = b'.frames in g.items ≡ changed finished quiet k)
    → b'.cells ≡ b.cells → b'.journal ≡ b.journal → b'.offered ≤ b.offered → IsMade code inputs b'
ends_made code inputs b k t ask is b' quiet still frames_are cells_are journal_is offered_is =
    let a = t.asked in
    let p = a.program in
    let f = b.frames in
    let g = b'.frames in
    let d = b.cells in
    let e = b.journal in
    let s = end_settles f.items quiet g.items (length d.items) k ask still a.here frames_are in
    is_made code inputs b k t b'
    (subst (λ d'. Sound code p inputs g.items (length d'.items) (length e.items + 1) None asks.Begin) (sym cells_are)
    (s code p inputs (length e.items) (many code inputs b k t) (subst (λ q. Sound code p inputs f.items (length d.items) (length e.items) (Some k) q) is a.sound)))
    journal_is (omega (arith, offered_is))
