-- A frame steps to its next request.
--
-- - `ready`: a frame that rests can continue;
-- - `came`: then it has made a request, and what that names exists;
-- - `cell_there`, `reducer_there`, `result_there`: what a request names.
use Rattle.std.proofs.Common.{◌≡◌, ◌+◌, ◌-◌, ◌<◌, ◌≤◌, ◌^◌, ℕ, ℤ, List, [], ◌∷◌, ◌++◌, length, slice_get, Some, None, refl, sym, ap, ◌∙◌, subst, arith}
use Rattle.cilk_types.specs.declared.event.Instance.{Instance}
use Rattle.cilk_types.specs.declared.limits.TheConstants.{MAX_TICKS}
use Rattle.cilk_program.specs.Behaviour.{OpenAsk, asks_for}
use Rattle.cilk_program.specs.declared.ask.Ask.{Ask}
use Rattle.cilk_program.specs.declared.ask.Ask.TheVariants as asks
use Rattle.cilk_program.specs.Inside.{AskIsThere}
use Rattle.cilk_program.specs.Scopes.{Scope, cell_in}
use Rattle.cilk_program.specs.SerialRun.{itself}
use Rattle.cilk_program.specs.Syntax.{Source}
use Rattle.cilk_program.specs.declared.syntax.Place.{Place}
use Rattle.cilk_program.proofs.Asked.{asks_there}
use Rattle.cilk_program.proofs.Visible.{can_invoke}
use Rattle.cilk_lower.specs.Code.{CodeView}
use Rattle.cilk_frames.specs.Cursor.{CursorView}
use Rattle.cilk_frames.specs.Following.{Stands, owed_for, word_in}
use Rattle.cilk_frames.specs.declared.activation.Activation.{Activation}
use Rattle.cilk_serial.specs.Scoped.{IsThere}
use Rattle.cilk_serial.proofs.Sights.{asked_there}
use Rattle.cilk_scheduler.specs.Asking.{IsReady, IsReadyFor, WentOn, WentOnFrom}
use Rattle.cilk_scheduler.specs.Events.{SeesAt}
use Rattle.cilk_scheduler.specs.FrameStates.{changed}
use Rattle.cilk_scheduler.specs.declared.frame_state.Due.{Due}
use Rattle.cilk_scheduler.specs.declared.frame_state.Due.TheVariants as due
use Rattle.cilk_scheduler.specs.declared.frame_state.FrameState.{FrameState}
use Rattle.cilk_scheduler.proofs.Changing.{changed_length}
use Rattle.cilk_scheduler.proofs.Placed.{get_some}
use Rattle.cilk_lower.specs.Behaves.{IsCodeOf}
use Rattle.cilk_schedule.specs.Sound.{Comes, Counts, FitsDue, HasCome, Lives, Rests, Sound, frame_of}
use Rattle.cilk_schedule.proofs.Sounds.{changed_sound, lives_changed}

pub some_is : {A : Type 0} (x y : A) → Some x ≡ Some y → x ≡ y
some_is x y e = cc

module _ (code : CodeView) (p : Source) (inputs : List ℤ) (is_code : IsCodeOf p code) (frames : List (Activation FrameState)) (cells events : ℕ) where
  pub ready : (a : Activation FrameState) (c : CursorView) → (let x = a.cursor in x.cursor ≡ Some c) → (let x = a.cursor in x.took ≤ MAX_TICKS) → Rests code p inputs frames cells events a c → let x = a.cursor in IsReady code inputs x
  ready a c at few h = by (let x = a.cursor in x.due) refl
    where
      by : (d : Due) → (let x = a.cursor in x.due ≡ d) → let x = a.cursor in IsReadyFor code inputs x d
      by due.Begin e = tt
      by (due.Answer v) e = (c, at, (_, h.stands), subst (λ (d : Due). FitsDue c.owed d) e h.fits, few)
      by due.Sync e = tt

  module _ (k : ℕ) (a : Activation FrameState) (x : FrameState) (ask : Ask) (c : CursorView) (at : let y = a.cursor in y.cursor ≡ Some c) (few : let y = a.cursor in y.took ≤ MAX_TICKS) (h : Rests code p inputs frames cells events a c) where
    lives : Lives code p inputs (changed (λ _. x) frames k) cells events (record a { cursor = x })
    lives = lives_changed code p inputs frames cells cells events events (λ _. x) k (omega arith) (omega arith) a x h.lives

    at_once : (d : Ask) → ask ≡ d → owed_for d ≡ owed_for asks.Begin → (let l = h.lives in IsThere p (frame_of l.callee l.scope a) cells d) → (let l = h.lives in AskIsThere p l.callee d) → ((how : _) (child : _) → d ≡ asks.Invoke how child → ⊥)
        → x ≡ a.cursor → c.owed ≡ owed_for asks.Begin → Comes code p inputs (changed (λ _. x) frames k) cells events (record a { cursor = x }) ask
    unfolding lives lives_changed
    at_once d is same there named ne e owed = let l = h.lives in record {
      cursor = c;
      lives = lives;
      here = ap (λ (y : FrameState). y.cursor) e ∙ at;
      stands = λ has. subst (λ (y : FrameState). Stands code inputs p l.callee c l.history y.took) (sym e) h.stands;
      owes = λ has. owed ∙ sym same ∙ ap owed_for (sym is);
      there = subst (λ k. IsThere p (frame_of l.callee l.scope a) cells k) (sym is) there;
      named = subst (λ k. AskIsThere p l.callee k) (sym is) named;
      may = λ how child q. absurd (ne how child (sym is ∙ q));
    }

    come_by : (d : Due) → (let y = a.cursor in y.due ≡ d) → (let y = a.cursor in WentOnFrom code inputs d y ask x) → Comes code p inputs (changed (λ _. x) frames k) cells events (record a { cursor = x }) ask
    unfolding lives lives_changed
    come_by due.Begin e went = at_once asks.Begin went.0 refl tt tt (λ how child q. cc) went.1 (subst (λ (d : Due). FitsDue c.owed d) e h.fits)
    come_by due.Sync e went = at_once asks.Sync went.0 refl tt tt (λ how child q. cc) went.1 (subst (λ (d : Due). FitsDue c.owed d) e h.fits)
    come_by (due.Answer v) e went =
        let y = a.cursor in
        let l = h.lives in
        let sees = l.sees in
        let same : went.before ≡ c = some_is went.before c (sym went.was ∙ at) in
        let goes = went.goes_on p l.callee l.history y.took (subst (λ b. Stands code inputs p l.callee b l.history y.took) (sym same) h.stands) in
        let took : MAX_TICKS - went.left ≡ y.took + ((MAX_TICKS - y.took) - went.left) = (let less = went.less in omega (arith, few, less)) in
        let now = l.history ++ word_in v ∷ [] in
        let start = y.took + (MAX_TICKS - y.took) in
        let fr = frame_of l.callee l.scope a in
        record {
          cursor = went.after;
          lives = let m = lives in record { callee = m.callee; scope = m.scope; history = now; links = m.links; sees = m.sees };
          here = ap (λ (z : FrameState). z.cursor) went.now;
          stands = λ has. subst (λ n. Stands code inputs p l.callee went.after now n) (sym (ap (λ (z : FrameState). z.took) went.now ∙ took)) (goes.stands has);
          owes = goes.owes;
          there = asked_there p is_code.well inputs fr cells sees now start ask went.left goes.asks;
          named = subst (λ (q : OpenAsk). AskIsThere p l.callee q.ask) goes.asks (asks_there p is_code.well l.callee sees.fit inputs now start);
          may = λ how child q. can_invoke p inputs l.callee now start went.left how child (goes.asks ∙ ap (λ k. asks_for k went.left) q);
        }

    same_counts : Counts code p inputs frames cells events a → x ≡ a.cursor → Counts code p inputs (changed (λ _. x) frames k) cells events (record a { cursor = x })
    same_counts n e =
        let same = changed_length (λ _. x) frames k in
        record {
          parent = let q = n.parent in let t = ap (λ (z : FrameState). z.parent) e in omega (arith, same, q, t);
          last = let q = n.last in let t = ap (λ (z : FrameState). z.last) e in omega (arith, same, q, t);
          children = let q = n.children in let t = ap (λ (z : FrameState). z.children) e in omega (arith, same, q, t);
          strands = let q = n.strands in let t = ap (λ (z : FrameState). z.strands) e in omega (arith, q, t);
          counted = let q = n.counted in let t = ap (λ (z : FrameState). z.counted) e in let u = ap (λ (z : FrameState). z.took) e in omega (arith, q, t, u);
          took = let q = n.took in let u = ap (λ (z : FrameState). z.took) e in omega (arith, q, u);
          low = n.low;
          creates = n.creates;
        }

    counts_by : (d : Due) → Counts code p inputs frames cells events a → (let y = a.cursor in WentOnFrom code inputs d y ask x) → Counts code p inputs (changed (λ _. x) frames k) cells events (record a { cursor = x })
    counts_by due.Begin n went = same_counts n went.1
    counts_by due.Sync n went = same_counts n went.1
    counts_by (due.Answer v) n went =
        let same = changed_length (λ _. x) frames k in
        let less = went.less in
        record {
          parent = let q = n.parent in let t = ap (λ (z : FrameState). z.parent) went.now in omega (arith, same, q, t);
          last = let q = n.last in let t = ap (λ (z : FrameState). z.last) went.now in omega (arith, same, q, t);
          children = let q = n.children in let t = ap (λ (z : FrameState). z.children) went.now in omega (arith, same, q, t);
          strands = let q = n.strands in let t = ap (λ (z : FrameState). z.strands) went.now in omega (arith, q, t);
          counted = let q = n.counted in let t = ap (λ (z : FrameState). z.counted) went.now in let u = ap (λ (z : FrameState). z.took) went.now in omega (arith, q, t, u, less, few);
          took = let u = ap (λ (z : FrameState). z.took) went.now in omega (arith, u);
          low = n.low;
          creates = n.creates;
        }

  pub came : (k : ℕ) (a : Activation FrameState) (x : FrameState) (ask : Ask) (c : CursorView) → slice_get frames k ≡ Some a → (let y = a.cursor in y.cursor ≡ Some c) → (let y = a.cursor in WentOn code inputs y ask x) → k < length frames
      → Sound code p inputs frames cells events None asks.Begin → Sound code p inputs (changed (λ _. x) frames k) cells events (Some k) ask
  came k a x ask c at is went low s =
      let n = s.counts k a at in
      let y = a.cursor in
      let h = s.rests k a c at (λ q. cc) is in
      changed_sound code p inputs frames cells cells events events (λ _. x) k (omega arith) (omega arith) None (Some k) asks.Begin ask s
      (λ b there. let e : a ≡ b = some_is a b (sym at ∙ there) in
      subst (λ (z : Activation FrameState). Counts code p inputs (changed (λ _. x) frames k) cells events (record z { cursor = x })) e (counts_by k a x ask c is n.took h y.due n went))
      (λ b d there no. absurd (no refl))
      (λ b there same. let e : a ≡ b = some_is a b (sym at ∙ there) in
      subst (λ (z : Activation FrameState). Comes code p inputs (changed (λ _. x) frames k) cells events (record z { cursor = x }) ask) e (come_by k a x ask c is n.took h y.due refl went))
      (λ j no not q. cc) (λ j no q. absurd (no (sym (some_is k j q)))) s.few_cells s.few_events low

-- ---- what a request names

pub cell_there : (frames : List (Activation FrameState)) (cells k : ℕ) (x : Place) (ask : Ask) → ((p : Source) (fr : _) → IsThere p fr cells ask → let scope = fr.scope in cell_in itself scope x < cells) → k < length frames → HasCome frames cells k ask
    → (scope : Scope ℕ Instance) × SeesAt frames k scope × (cell_in itself scope x < 2 ^ 32) × (cell_in itself scope x < cells)
cell_there frames cells k x ask names low h =
    let s = h.4 in
    let it = get_some frames k low in
    let n = s.comes k it.0 it.1 refl in
    let l = n.lives in
    let few = s.few_cells in
    let less = names h.1 (frame_of l.callee l.scope it.0) n.there in
    (l.scope, (it.0, it.1, l.links), omega (arith, less, few), less)

pub sees_there : (frames : List (Activation FrameState)) (cells k : ℕ) (ask : Ask) → k < length frames → HasCome frames cells k ask → (scope : Scope ℕ Instance) × SeesAt frames k scope
sees_there frames cells k ask low h =
    let s = h.4 in
    let it = get_some frames k low in
    let n = s.comes k it.0 it.1 refl in
    let l = n.lives in
    (l.scope, (it.0, it.1, l.links))

pub result_there : (frames : List (Activation FrameState)) (cells k : ℕ) (v : ℤ) → k < length frames → HasCome frames cells k (asks.Result v)
    → (a : Activation FrameState) → slice_get frames k ≡ Some a → (c : ℕ) × (a.result ≡ Some c) × (c < cells)
result_there frames cells k v low h a at =
    let s = h.4 in
    let n = s.comes k a at refl in
    n.there

pub reducer_small : (frames : List (Activation FrameState)) (cells k : ℕ) (ask : Ask) (n : ℕ) → ((p : Source) (fr : _) → IsThere p fr cells ask → n < 65536) → k < length frames → HasCome frames cells k ask → n < 65536
reducer_small frames cells k ask n small low h =
    let s = h.4 in
    let it = get_some frames k low in
    let c = s.comes k it.0 it.1 refl in
    let l = c.lives in
    small h.1 (frame_of l.callee l.scope it.0) c.there
