-- The laws of `Going`, of a chain's course and of that of a call's argument.
use Rattle.std.proofs.Common.{◌≡◌, ◌≢◌, ◌<◌, ℕ, ◌+◌, ℤ, true, false, List, [], ◌∷◌, ◌++◌, reverse, length, Option, Some, sym, ap, ◌∙◌, subst, arith}
use Rattle.cilk_types.specs.declared.event.Event.TheVariants as events
use Rattle.cilk_types.specs.declared.event.Instance as numbered
use Rattle.cilk_types.specs.declared.invocation.Invocation.{Invocation}
use Rattle.cilk_program.specs.declared.ask.Ask.{Ask}
use Rattle.cilk_program.specs.declared.ask.Ask.TheVariants as asks
use Rattle.cilk_program.specs.declared.ask.Callee.{Callee}
use Rattle.cilk_program.specs.declared.ask.Callee.TheVariants as callees
use Rattle.cilk_program.specs.declared.program.Body.{Body}
use Rattle.cilk_program.specs.Inside.{CalleeIsFit}
use Rattle.cilk_program.specs.Sources.{source}
use Rattle.cilk_program.specs.Syntax.{Source}
use Rattle.cilk_replay.specs.Frames.{same_body}
use Rattle.cilk_lower.specs.Behaves.{Behaves}
use Rattle.cilk_lower.specs.Code.{CodeView}
use Rattle.cilk_frames.specs.Cursor.{CursorView}
use Rattle.cilk_frames.specs.declared.cursor.Answer.{Answer}
use Rattle.cilk_frames.specs.declared.cursor.Answer.TheVariants.{Done}
use Rattle.cilk_frames.specs.Following.{Fits, Runs, Stands, owed_for, word_in}
use Rattle.cilk_tree.specs.declared.event_order.EventOrder.{EventOrder}
use Rattle.cilk_tree.specs.Runs.{IsAsked}
use Rattle.cilk_tree.specs.Word.{event, resume, word_step}
use Rattle.cilk_tree.specs.declared.kind.Kind.{Kind}
use Rattle.cilk_tree.specs.Kinds.{kind_of_event}
use Rattle.cilk_replay.specs.declared.replay_frame.ReplayFrame.{ReplayFrame}
use Rattle.cilk_replay.specs.Asking.{BeginsNext, Calls, Follows, IsAnswered, IsNextAsk, Spawns, HasAsked}
use Rattle.cilk_replay.specs.Chains.{ChainValue, standing}
use Rattle.cilk_replay.specs.declared.frame_layout.FrameLayout.{FrameLayout}
use Rattle.cilk_replay.specs.Children.{MatchesBody, body_asked}
use Rattle.cilk_replay.specs.Replays.{ReplayValue, IsBlockOf, IsBodyOf, IsReplay, IsSightIn, setting_of}
use Rattle.cilk_replay.specs.Standing.{IsTheOutermost, Linked, Rest, Stand}
use Rattle.cilk_replay.specs.declared.frame_layout.ReducerNumber.{ReducerNumber}
use Rattle.cilk_replay.specs.Reducing.{MatchesReducer, as_instance, reducer_asked}
use Rattle.cilk_replay.specs.Sights.{MatchesCell, cell_asked, found_global, layouts_of}
use Rattle.cilk_replay.specs.declared.plan_match.PlanMatch.{PlanMatch}
use Rattle.cilk_replay.specs.declared.plan_match.PlanMatch.TheVariants as matches
use Rattle.cilk_replay.specs.Sorts.{NamesNothing, Says, sort_asked, sort_of}
use Rattle.cilk_replay.proofs.Going as going
use Rattle.cilk_replay.proofs.Matching as matching
use Rattle.cilk_replay.proofs.Matching.{IsOfCell, IsOfChild, IsOfReducer}
use Rattle.cilk_replay.proofs.Resuming.{resumed}

-- the event order of a chain's course
abbrev pub event_order_of : ReplayValue → EventOrder
event_order_of c = let y = c.yard in y.event_order

-- a fact about a position of the current chain's event order
pub of_chain : (P : EventOrder → ℕ → Type 0) (u : ReplayValue) (at : ℕ) (v : ChainValue) → standing u at ≡ v → P (let c = v.of in let y = c.yard in y.event_order) v.at → P (event_order_of u) at
of_chain P u at v is h = subst (λ (z : ChainValue). P (let c = z.of in let y = c.yard in y.event_order) z.at) (sym is) h

-- a frame that a request begins
pub begun_by : (code code' : CodeView) (inputs : List ℤ) (a : Ask) (first : Invocation) (what : Callee) (cursor cursor' : CursorView) → a ≡ asks.Invoke first what → code' ≡ code → cursor' ≡ cursor
    → ((p : Source) (inputs : List ℤ) → Behaves p code' → CalleeIsFit p what → Stands code' inputs p what cursor [] 0)
    → (p : Source) (how : Invocation) (callee : Callee) → a ≡ asks.Invoke how callee → Behaves p code → CalleeIsFit p callee → Stands code inputs p callee cursor' [] 0
begun_by code code' inputs a first what cursor cursor' asked code_is cursor_is stands p how callee is behaves fit =
    let same : what ≡ callee = inner first how what callee (sym asked ∙ is) in
    subst (λ (k : Callee). Stands code inputs p k cursor' [] 0) same
    (subst (λ (z : CursorView). Stands code inputs p what z [] 0) (sym cursor_is)
    (subst (λ (z : CodeView). Stands z inputs p what cursor [] 0) code_is
    (stands p inputs (subst (Behaves p) (sym code_is) behaves) (subst (CalleeIsFit p) (sym same) fit))))
  where
    inner : (j k : Invocation) (x y : Callee) → asks.Invoke j x ≡ asks.Invoke k y → x ≡ y
    inner j k x y q = cc q

abbrev pub HasStepped : ReplayValue → ReplayFrame → Answer → Ask → ReplayFrame → Type 0
HasStepped c l a k l' = (p : Source) (callee : Callee) (history : List ℤ) → Stands c.code c.inputs p callee l.cursor history l.took → HasAsked c.code c.inputs p callee (history ++ word_in a ∷ []) k l'

abbrev pub IsBegun : ReplayValue → Ask → ReplayFrame → Type 0
IsBegun c k l = (p : Source) (how : Invocation) (callee : Callee) → k ≡ asks.Invoke how callee → Behaves p c.code → CalleeIsFit p callee → Stands c.code c.inputs p callee l.cursor [] 0

module _ (u v : ReplayValue) (same : u ≡ v) (at : ℕ) (k : Ask) (l : ReplayFrame) (below : List ReplayFrame) (S : Stand u at k l below) where
  owed : (a : Answer) → IsAnswered (event_order_of u) at a → Runs u.code u.inputs l.cursor × Fits (let c = l.cursor in c.owed) a
  owed a q = let t = S.2 in going.owed (setting_of u S.0) S.1 at k l t.asks a q

  pub owes_fit : (a : Answer) → IsAnswered (event_order_of u) at a → Fits (let c = l.cursor in c.owed) a
  owes_fit a q = (owed a q).1

  pub runs : (a : Answer) → IsAnswered (event_order_of u) at a → Runs v.code v.inputs l.cursor
  runs a q = subst (λ (z : ReplayValue). Runs z.code z.inputs l.cursor) same (owed a q).0

  pub small : (n : ℕ) (e : _) → Follows (event_order_of u) at e → length (let y = event_order_of u in y.events) < n → at + 1 < n
  small n e f less = let more = f.more in omega (arith, more, less)

  pub answered : (a : Answer) (k' : Ask) (l' : ReplayFrame) → IsAnswered (event_order_of u) at a → l'.sight ≡ l.sight → HasStepped v l a k' l' → Stand u (at + 1) k' l' below
  answered a k' l' q sight step =
      (S.0, S.1, going.answered_on (setting_of u S.0) S.1 at k k' l l' below a S.2 q sight (subst (λ (z : ReplayValue). HasStepped z l a k' l') (sym same) step))

  -- facts about a child's level
  pub record IsChild (c : ReplayFrame) : Type 0 where
    pub number : ℕ
    pub layout : FrameLayout
    pub begins : BeginsNext (event_order_of u) at number
    pub lies : IsBlockOf v number layout.block
    pub frame : layout.frame ≡ number
    pub before : layout.before ≡ 0
    pub begun : IsBegun v k c
    pub owes : let z = c.cursor in z.owed ≡ owed_for asks.Begin
    pub took : c.took ≡ 0
    pub sight : (how : Invocation) (callee : Callee) → k ≡ asks.Invoke how callee → IsSightIn v callee layout l.sight c.sight

  new_replay_frame : (c : ReplayFrame) → IsChild c
      → (how : Invocation) (callee : Callee) → k ≡ asks.Invoke how callee → CalleeIsFit (source u.program) callee → going.IsNew (setting_of u S.0) S.1 at l c callee
  new_replay_frame c new how callee is fit =
      let prog = S.1 in (
        subst (λ (z : ReplayValue). IsBegun z k c) (sym same) new.begun (source u.program) how callee is prog.behaves fit,
        new.owes,
        new.took,
        record {
          number = new.number;
          layout = new.layout;
          begins = new.begins;
          lies = λ path b found q. subst (λ (z : ReplayValue). IsBlockOf z new.number (let m = new.layout in m.block)) (sym same) new.lies S.0 path b S.1 found q;
          frame = new.frame;
          before = new.before;
          sight = subst (λ (z : ReplayValue). IsSightIn z callee new.layout l.sight c.sight) (sym same) (new.sight how callee is);
        },
      )

  pub call_begins : Calls (event_order_of u) at → (how : Invocation) × (callee : Callee) × (callee ≢ callees.Root) × (k ≡ asks.Invoke how callee)
  call_begins q = going.call_begins (setting_of u S.0) S.1 at k l below S.2 q.0 q.1

  pub spawn_begins : (next : ℕ) → Spawns (event_order_of u) at next → (how : Invocation) × (callee : Callee) × (callee ≢ callees.Root) × (k ≡ asks.Invoke how callee)
  spawn_begins next q = going.spawn_begins (setting_of u S.0) S.1 at k l below S.2 q.0.0 q.0.1

  pub called : (c : ReplayFrame) → Calls (event_order_of u) at → IsChild c → Stand u (at + 1) asks.Begin c (below ++ l ∷ [])
  called c q new =
      (S.0, S.1, going.called_on (setting_of u S.0) S.1 at k l c below S.2 q.0 q.1 (λ callee is fit. new_replay_frame c new _ callee is fit))

  parted : (c : ReplayFrame) (next : ℕ) → Spawns (event_order_of u) at next → IsChild c → going.Parted (setting_of u S.0) S.1 at next c l below
  parted c next q new =
      going.spawned_on (setting_of u S.0) S.1 at k l c below S.2 q.0.0 next q.0.1 (λ callee is fit. new_replay_frame c new _ callee is fit)
      (λ i x place is. resumed (setting_of u S.0) S.1 i next x (subst (λ n. word_step (event_order_of u) next ≡ resume n) (sym place) q.1) is)

  pub spawned_child : (c : ReplayFrame) (next : ℕ) → Spawns (event_order_of u) at next → IsChild c → Stand u (at + 1) asks.Begin c []
  spawned_child c next q new = (S.0, S.1, (parted c next q new).child)

  pub spawned_parent : (c : ReplayFrame) (next : ℕ) → Spawns (event_order_of u) at next → IsChild c → Rest u next l below
  spawned_parent c next q new = (S.0, S.1, (parted c next q new).parent)

  pub ended : (top : ReplayFrame) (new : List ReplayFrame) → Follows (event_order_of u) at events.End → below ≡ new ++ top ∷ [] → Rest u (at + 1) top new
  ended top new f popped = (S.0, S.1, going.ended_on (setting_of u S.0) S.1 at k l top below new S.2 f popped)

  pub outermost : below ≡ [] → IsTheOutermost u at
  outermost none =
      let t = S.2 in
      let A = t.asks in
      record {
        run = S.0;
        of_program = S.1;
        behind = A.behind;
        place = A.place;
        point = A.point;
        is = A.is;
        outermost = subst (λ z. Linked (setting_of u S.0) (let x = A.point in x.since) (reverse z)) none t.callers;
      }

  module _ (kind : Kind) (is : kind_of_event (event (event_order_of u) at) ≡ Some kind) where
    pub asked_there : sort_asked k ≡ sort_of kind → NamesNothing (sort_asked k) → IsAsked (event_order_of u) at
    asked_there same sure = let t = S.2 in matching.asked_there (setting_of u S.0) S.1 at k l t.asks kind is same sure

    pub differs_there : (sort_asked k ≡ sort_of kind → ⊥) → IsAsked (event_order_of u) at → ⊥
    differs_there other asked = let t = S.2 in matching.differs_there (setting_of u S.0) S.1 at k l t.asks kind is other asked

    module _ (c : ℕ) (of_cell : IsOfCell c kind) (alike : sort_asked k ≡ sort_of kind) where
      cell_there : (let p = source u.program in cell_asked (length p.openings) l.sight k ≡ Some c) → IsAsked (event_order_of u) at
      cell_there q = let t = S.2 in matching.cell_there (setting_of u S.0) S.1 at k l t.asks kind is c of_cell alike q

      cell_differs : ((let p = source u.program in cell_asked (length p.openings) l.sight k ≡ Some c) → ⊥) → IsAsked (event_order_of u) at → ⊥
      cell_differs other asked = let t = S.2 in matching.cell_differs (setting_of u S.0) S.1 at k l t.asks kind is c of_cell alike other asked

      pub matches_cell : (found : Option ℕ) (says : PlanMatch) → found ≡ (let p = source u.program in cell_asked (length p.openings) l.sight k) → MatchesCell found c says → Says (event_order_of u) at kind says
      matches_cell found matches.Follows q h = cell_there (sym q ∙ h)
      matches_cell found matches.Departs q h = cell_differs (λ z. h (q ∙ z))

    module _ (f : ℕ) (of_child : IsOfChild f kind) (alike : sort_asked k ≡ sort_of kind) (body : Body) (runs : IsBodyOf u f body) where
      pub matches_child : (a : Body) (says : PlanMatch) → a ≡ body_asked k → MatchesBody body a says → Says (event_order_of u) at kind says
      matches_child a matches.Follows q same =
          let t = S.2 in matching.child_there (setting_of u S.0) S.1 at k l t.asks kind is f of_child alike body (λ path b callee found it number. runs S.0 path b callee S.1 found it number) (subst (λ z. same_body body z ≡ true) q same)
      matches_child a matches.Departs q same =
          let t = S.2 in matching.child_differs (setting_of u S.0) S.1 at k l t.asks kind is f of_child alike body (λ path b callee found it number. runs S.0 path b callee S.1 found it number) (subst (λ z. same_body body z ≡ false) q same)

    module _ (i : numbered.Instance) (of_reducer : IsOfReducer i kind) (alike : sort_asked k ≡ sort_of kind) where
      pub matches_reducer : (found : ReducerNumber) (says : PlanMatch) → found ≡ reducer_asked (layouts_of l.sight) l.sight.given.items k → MatchesReducer found i says → Says (event_order_of u) at kind says
      matches_reducer found matches.Follows q h = let t = S.2 in matching.reducer_there (setting_of u S.0) S.1 at k l t.asks kind is i of_reducer alike (ap as_instance (sym q) ∙ h)
      matches_reducer found matches.Departs q h = let t = S.2 in matching.reducer_differs (setting_of u S.0) S.1 at k l t.asks kind is i of_reducer alike (λ z. h (ap as_instance q ∙ z))

  pub next_ask : IsNextAsk u at k
  next_ask =
      let t = S.2 in
      let A = t.asks in
      let s = setting_of u S.0 in
      record {
        run = S.0;
        of_program = S.1;
        behind = A.behind;
        place = A.place;
        point = A.point;
        is = A.is;
        asks = sym (going.asked_ask s S.1 at k l A);
        made = λ asked. going.made_event s S.1 at k l A asked;
      }

module _ (u v : ReplayValue) (same : u ≡ v) (at : ℕ) (l : ReplayFrame) (below : List ReplayFrame) (S : Rest u at l below) where
  pub rest_fits : Fits (let c = l.cursor in c.owed) Done
  rest_fits = (going.rest_owed (setting_of u S.0) S.1 at l below S.2).1

  pub rest_runs : Runs v.code v.inputs l.cursor
  rest_runs = subst (λ (z : ReplayValue). Runs z.code z.inputs l.cursor) same (going.rest_owed (setting_of u S.0) S.1 at l below S.2).0

  pub woken : (k' : Ask) (l' : ReplayFrame) → l'.sight ≡ l.sight → HasStepped v l Done k' l' → Stand u at k' l' below
  woken k' l' sight step = (S.0, S.1, going.woken (setting_of u S.0) S.1 at k' l l' below S.2 sight (subst (λ (z : ReplayValue). HasStepped z l Done k' l') (sym same) step))

pub rooted : (u : ReplayValue) → IsReplay u → (c : ReplayFrame) (layout : FrameLayout) → ((p : Source) → Behaves p u.code → Stands u.code u.inputs p callees.Root c.cursor [] 0)
    → (let z = c.cursor in z.owed ≡ owed_for asks.Begin) → c.took ≡ 0 → IsBlockOf u 1 layout.block → layout.frame ≡ 1 → (let p = source u.program in layout.before ≡ length p.reducers)
    → (let t = c.sight in (layouts_of t ≡ layout ∷ []) × (t.given.items ≡ []) × (let p = source u.program in t.result ≡ found_global (length p.openings) 0)) → Stand u 1 asks.Begin c []
rooted u h c layout stands owes took lies frame before sight =
    let prog = h.1 in (
      h.0,
      prog,
      going.rooted (setting_of u h.0) prog c (stands (source u.program) prog.behaves) owes took
          (record { layout = layout; lies = λ path b found q. lies h.0 path b prog found q; frame = frame; before = before; layouts = sight.0; given = sight.1; none = sight.2 }),
    )
