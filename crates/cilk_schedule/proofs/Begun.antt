-- A frame begins.
--
-- - `begun`: one that another starts;
-- - `opened`: the first.
use Rattle.std.proofs.Common.{◌≡◌, ◌+◌, ◌<◌, ◌≤◌, ℕ, suc, ℤ, List, [], ◌∷◌, ◌++◌, length, slice_get, Some, None, refl, sym, ap, ◌∙◌, subst, arith}
use Rattle.cilk_types.specs.declared.invocation.Invocation.{Invocation}
use Rattle.cilk_types.specs.declared.limits.TheConstants.{MAX_CELLS, MAX_EVENTS, MAX_FRAMES}
use Rattle.cilk_program.specs.declared.ask.Ask.TheVariants as asks
use Rattle.cilk_program.specs.declared.ask.Callee.{Callee}
use Rattle.cilk_program.specs.declared.ask.Callee.TheVariants as callees
use Rattle.cilk_program.specs.Scopes.{Scope}
use Rattle.cilk_program.specs.SerialRun.{Frame, Memory, before_root, cells_of, given_to, home_of, next_frame, outer_of}
use Rattle.cilk_program.specs.Syntax.{Source}
use Rattle.cilk_types.specs.declared.event.Instance.{Instance}
use Rattle.cilk_lower.specs.Code.{CodeView}
use Rattle.cilk_lower.specs.Layout.{cells_in, function_frame}
use Rattle.cilk_frames.specs.Cursor.{CursorView}
use Rattle.cilk_frames.specs.Following.{Stands}
use Rattle.cilk_frames.specs.Sight.{HasScope}
use Rattle.cilk_frames.specs.declared.activation.Activation.{Activation}
use Rattle.cilk_frames.proofs.Links.{sees_more as scope_more}
use Rattle.cilk_frames.specs.declared.cursor.Answer.TheVariants.{Done}
use Rattle.cilk_serial.specs.Scoped.{MayBegin, Sees}
use Rattle.cilk_serial.proofs.Sights.{child_sees}
use Rattle.cilk_scheduler.specs.Invoking.{IsChild, creator_of}
use Rattle.cilk_scheduler.specs.FrameStates.{changed, seated, started_at}
use Rattle.cilk_scheduler.specs.declared.frame_state.Due.TheVariants as due
use Rattle.cilk_scheduler.specs.declared.frame_state.FrameState.{FrameState}
use Rattle.cilk_scheduler.specs.declared.frame_state.Status.{Status}
use Rattle.cilk_scheduler.proofs.Changing.{changed_length}
use Rattle.cilk_scheduler.proofs.Placed.{get_some}
use Rattle.cilk_lower.specs.Behaves.{IsCodeOf}
use Rattle.cilk_schedule.specs.Sound.{Comes, Counts, FitsDue, Lives, Rests, Sound, frame_of}
use Rattle.cilk_schedule.proofs.Sounds.{changed_sound, push_get, push_length, pushed, lives_changed}

some_is : {A : Type 0} (x y : A) → Some x ≡ Some y → x ≡ y
some_is x y e = cc

-- few reducers of its own
few_own : (p : Source) (code : CodeView) → IsCodeOf p code → (fr : Frame) (n : ℕ) (callee : Callee) → MayBegin p fr n callee → (function : ℕ) → creator_of callee ≡ Some function
    → let f = function_frame code.layout function in length f.reducers ≤ 64
few_own p code is fr n callees.Root may function e = absurd may
few_own p code is fr n (callees.Function c) may function e =
    let lays = is.lays in
    let same : c.function ≡ function = some_is c.function function e in
    subst (λ k. let f = function_frame code.layout k in length f.reducers ≤ 64) same
    (subst (λ l. length l ≤ 64) (sym (lays.own (callees.Function c))) may.2.1)
few_own p code is fr n (callees.Loop l) may function e = let no : None ≡ Some function = e in cc

module _ (code : CodeView) (p : Source) (inputs : List ℤ) (is_code : IsCodeOf p code) (frames : List (Activation FrameState)) (cells events k worker base : ℕ) (how : Invocation) (callee : Callee) (child : Activation FrameState)
    (s : Sound code p inputs frames cells events (Some k) (asks.Invoke how callee)) (low : k < length frames) (base_is : base ≡ cells) (is : IsChild code frames k worker base how callee child)
    (room : length frames + 1 ≤ MAX_FRAMES) (count : ℕ) (count_is : count ≡ cells_in code.layout callee) (few : cells + count ≤ MAX_CELLS) where
  parent : (a : Activation FrameState) × (slice_get frames k ≡ Some a)
  parent = get_some frames k low

  comes : Comes code p inputs frames cells events parent.0 (asks.Invoke how callee)
  comes = s.comes k parent.0 parent.1 refl

  scope_in : Scope ℕ Instance
  scope_in = let n = comes in let l = n.lives in l.scope

  memory : Memory
  memory = let m = before_root p inputs 0 in record { store = m.store; frames = length frames; cells = cells; room = 0 }

  scope_now : Scope ℕ Instance
  scope_now = home_of p callee (length frames + 1) base (given_to callee scope_in) ∷ outer_of callee scope_in

  child_is : child.cursor ≡ seated k (let a = parent.0 in let x = a.cursor in x.children + 1) how worker is.cursor
  child_is = is.frame_state parent.0 parent.1

  child_lives : Lives code p inputs (frames ++ child ∷ []) (cells + count) events child
  unfolding memory scope_now scope_in comes parent
  child_lives =
      let n = comes in
      let l = n.lives in
      let lays = is_code.lays in
      let fr = frame_of l.callee l.scope parent.0 in
      let opened = s.opened in
      let sees = child_sees p is_code.well fr memory l.sees opened callee n.named (n.may how callee refl) in
      let count' : cells_of p callee ≡ count = sym (count_is ∙ lays.cells callee) in
      let one : suc (length frames) ≡ length frames + 1 = omega arith in
      let at : (parent' : Activation FrameState) × (slice_get frames k ≡ Some parent') × HasScope frames parent' l.scope = (parent.0, parent.1, l.links) in
      record {
        callee = callee;
        scope = scope_now;
        history = [];
        links = scope_more frames (frames ++ child ∷ []) child scope_now (λ n x h. push_get frames child n x h) (is.sees p l.scope at);
        sees = subst (λ r. Sees p (record { callee = callee; number = child.number; scope = scope_now; result = r }) (cells + count)) (sym (is.result l.scope at))
            (subst (λ b. Sees p (record { callee = callee; number = child.number; scope = home_of p callee (length frames + 1) b (given_to callee l.scope) ∷ outer_of callee l.scope; result = (let f = next_frame p l.scope memory callee in f.result) }) (cells + count)) (sym base_is)
            (subst (λ n. Sees p (record { callee = callee; number = child.number; scope = home_of p callee n cells (given_to callee l.scope) ∷ outer_of callee l.scope; result = (let f = next_frame p l.scope memory callee in f.result) }) (cells + count)) one
            (subst (λ n. Sees p (next_frame p l.scope memory callee) (cells + n)) count' sees)));
      }

  child_counts : Counts code p inputs (frames ++ child ∷ []) (cells + count) events child
  child_counts =
      let n = comes in
      let l = n.lives in
      let e = child_is in
      let more = push_length frames child in
      let links = (let m = child_lives in m.links) in
      record {
        parent = let t = ap (λ (x : FrameState). x.parent) e in omega (arith, t, more, low);
        last = let t = ap (λ (x : FrameState). x.last) e in omega (arith, t, more);
        children = let t = ap (λ (x : FrameState). x.children) e in omega (arith, t);
        strands = let t = ap (λ (x : FrameState). x.strands) e in omega (arith, t);
        counted = let t = ap (λ (x : FrameState). x.counted) e in let u = ap (λ (x : FrameState). x.took) e in omega (arith, t, u);
        took = let u = ap (λ (x : FrameState). x.took) e in omega (arith, u);
        low = links.low;
        creates = λ function q. few_own p code is_code (frame_of l.callee l.scope parent.0) cells callee n.there function (sym is.creator ∙ q);
      }

  child_rests : (c : CursorView) → (let x = child.cursor in x.cursor ≡ Some c) → Rests code p inputs (frames ++ child ∷ []) (cells + count) events child c
  unfolding child_lives
  child_rests c at =
      let e = child_is in
      let l = child_lives in
      let sees = l.sees in
      let same : is.cursor ≡ c = some_is is.cursor c (sym (ap (λ (x : FrameState). x.cursor) e) ∙ at) in
      record {
        lives = l;
        stands = subst (λ n. Stands code inputs p callee c [] n) (sym (ap (λ (x : FrameState). x.took) e)) (subst (λ z. Stands code inputs p callee z [] 0) same (is.stands p inputs is_code.behaves sees.fit));
        fits = subst (λ d. FitsDue c.owed d) (sym (ap (λ (x : FrameState). x.due) e)) (sym (ap (λ (z : CursorView). z.owed) same) ∙ is.owes);
      }

  pub with_child : Sound code p inputs (frames ++ child ∷ []) (cells + count) events (Some k) (asks.Invoke how callee)
  with_child = pushed code p inputs frames cells (cells + count) events child (omega arith) (Some k) (asks.Invoke how callee) s few room (λ q. let e : k ≡ length frames = some_is k (length frames) q in omega (arith, low, e)) child_counts child_rests

  pub begun : (t : Status) → events + 1 ≤ MAX_EVENTS → Sound code p inputs (changed (started_at t (length frames)) (frames ++ child ∷ []) k) (cells + count) (events + 1) None asks.Begin
  unfolding lives_changed
  begun t many =
      let now = frames ++ child ∷ [] in
      let f = started_at t (length frames) in
      let w = with_child in
      let more = push_length frames child in
      changed_sound code p inputs now (cells + count) (cells + count) events (events + 1) f k (omega arith) (omega arith) (Some k) None (asks.Invoke how callee) asks.Begin w
      (λ a at. let h = w.counts k a at in let same = changed_length f now k in
      let before : (let x = a.cursor in x.children) ≤ length frames = (let q = s.counts k parent.0 parent.1 in let c = q.children in let e : parent.0 ≡ a = some_is parent.0 a (sym (push_get frames child k parent.0 parent.1) ∙ at) in subst (λ (z : Activation FrameState). let x = z.cursor in x.children ≤ length frames) e c) in record {
        parent = let q = h.parent in omega (arith, same, q);
        last = omega (arith, same, more);
        children = omega (arith, same, more, before);
        strands = let q = h.strands in omega (arith, q);
        counted = h.counted;
        took = h.took;
        low = h.low;
        creates = h.creates;
      })
      (λ a c at not is. let x = a.cursor in let h = w.comes k a at refl in let l = h.lives in
      let same : h.cursor ≡ c = some_is h.cursor c (sym h.here ∙ is) in record {
        lives = lives_changed code p inputs now (cells + count) (cells + count) events (events + 1) f k (omega arith) (omega arith) a (f x) l;
        stands = subst (λ z. Stands code inputs p l.callee z l.history x.took) same (h.stands tt);
        fits = subst (λ (z : CursorView). FitsDue z.owed (due.Answer Done)) same (subst (λ o. FitsDue o (due.Answer Done)) (sym (h.owes tt)) tt);
      })
      (λ a at no. cc)
      (λ j no not q. no (sym (some_is k j q))) (λ j no q. cc) w.few_cells many (omega (arith, low, more))
