-- Steps of the frames of a course.
--
-- - `Laws`: what holds at each position of a course;
-- - `frame_here`, `begin_number`, `known`: the frames, cells and reducers there are the run's;
-- - `answered_on`: after the answer to its event the current frame is at the next position;
-- - `begun_asks`, `called_on`, `spawned_on`: a child begins, and its caller waits;
-- - `ended_on`: a frame ends, and its caller is next;
-- - `woken`: a frame that rests continues.
use Rattle.std.proofs.Common.{◌≡◌, ◌≢◌, ◌<◌, inl, inr, ℕ, zero, suc, ◌+◌, ◌-◌, ℤ, pos, true, false, List, [], ◌∷◌, ◌++◌, reverse, length, Some, None, slice_get, refl, sym, ap, ◌∙◌, subst, arith}
use Rattle.std.specs.Option.{option_map}
use Rattle.std.proofs.lemmas.List.{reverse-append}
use Rattle.std.proofs.lemmas.Option.{slice_get-map}
use Rattle.cilk_types.specs.declared.event.Event.{Event}
use Rattle.cilk_types.specs.declared.event.Event.TheVariants as events
use Rattle.cilk_types.specs.declared.invocation.Invocation.{Invocation}
use Rattle.cilk_types.specs.declared.invocation.Invocation.TheVariants.{Call, Spawn}
use Rattle.cilk_types.specs.declared.limits.TheConstants.{MAX_TICKS}
use Rattle.cilk_tree.specs.declared.kind.Kind.TheVariants as kinds
use Rattle.cilk_program.specs.Outcomes.{Leaves}
use Rattle.cilk_program.specs.SerialRun.{Transcript}
use Rattle.cilk_program.specs.Numbering.{Block, block_of, frame_at, unbegun}
use Rattle.cilk_determinacy.specs.Monoids.{unit_of}
use Rattle.cilk_determinacy.specs.Reducers.{View, monoid_of}
use Rattle.cilk_determinacy.specs.Nested.{named}
use Rattle.cilk_determinacy.proofs.Numbered.{events_numbered}
use Rattle.cilk_determinacy.proofs.Numbers.{frame_is}
use Rattle.cilk_determinacy.proofs.Sights.{root_here}
use Rattle.cilk_determinacy.proofs.Standing.{standing_root}
use Rattle.cilk_replay.proofs.CourseFrames.{programs_have_one}
use Rattle.cilk_program.specs.declared.ask.Ask.{Ask}
use Rattle.cilk_program.specs.declared.ask.Ask.TheVariants as asks
use Rattle.cilk_program.specs.declared.ask.Callee.{Callee}
use Rattle.cilk_program.specs.declared.ask.Callee.TheVariants as callees
use Rattle.cilk_program.specs.declared.program.Body.{Body}
use Rattle.cilk_program.specs.Behaviour.{OpenAsk, asks_for}
use Rattle.cilk_program.specs.Inside.{AskIsThere, CalleeIsFit, CalleeIsThere, body_of}
use Rattle.cilk_program.specs.Syntax.{Source}
use Rattle.cilk_program.proofs.Asked.{asks_there}
use Rattle.cilk_program.proofs.Visible.{can_invoke}
use Rattle.cilk_lower.specs.declared.code.Owed.TheVariants.{Nothing}
use Rattle.cilk_frames.specs.declared.cursor.Answer.{Answer}
use Rattle.cilk_frames.specs.declared.cursor.Answer.TheVariants.{Done}
use Rattle.cilk_frames.specs.Following.{Fits, HasAnswer, Runs, Stands, owed_for, word_in}
use Rattle.cilk_tree.specs.Kinds.{kind_of}
use Rattle.cilk_tree.specs.Planned.{planned}
use Rattle.cilk_determinacy.specs.Runs.{Deed, Invokes}
use Rattle.cilk_determinacy.specs.Machine.{started}
use Rattle.cilk_tree.specs.declared.event_order.EventOrder.{EventOrder}
use Rattle.cilk_tree.specs.Runs.{IsAsked}
use Rattle.cilk_tree.specs.Word.{event}
use Rattle.cilk_determinacy.specs.FrameEnvMachine.{answer_of, answers_of, asked_after, has_ended, is_end, named_ask, next, opening_values}
use Rattle.cilk_determinacy.specs.FrameEnvs.{FrameEnv, child_env, first_env}
use Rattle.cilk_determinacy.proofs.Histories.{answers_more}
use Rattle.cilk_determinacy.specs.Numbers.{AreNumbered, IsHere, cell_number, frame_number, instance_number, numbered_events}
use Rattle.cilk_replay.specs.Frames.{course_on, same_body, same_frame}
use Rattle.cilk_replay.specs.Points.{Point, points_on, IsPoint, IsTold, IsAskedBy, IsEventOf, IsLikeDeed, IsLater, IsFirst, IsReturn, AreTold, answer_in}
use Rattle.cilk_replay.proofs.Points.{asked_by_positions}
use Rattle.cilk_replay.specs.declared.replay_frame.ReplayFrame.{ReplayFrame}
use Rattle.cilk_replay.specs.declared.frame_layout.FrameLayout.{FrameLayout}
use Rattle.cilk_replay.specs.declared.sight.Sight.{Sight}
use Rattle.cilk_replay.specs.Sights.{IsSightOf, Sees, cells_of_block, found_global, layouts_of}
use Rattle.cilk_replay.specs.Asking.{Follows, IsAnswered, HasAsked}
use Rattle.cilk_replay.specs.Replays.{Setting, IsOfProgram, point_at}
use Rattle.cilk_replay.specs.Standing.{Asks, Waits, Linked, StandsAt, RestsAt}
use Rattle.cilk_replay.proofs.OfKind.{some_inner, IsOfKind, made, goes_on, kind_there, ask_for, fitting}
use Rattle.cilk_replay.proofs.Children.{AreChildren, IsChild, IsStarted, StartsAs, serial_children}
use Rattle.cilk_replay.proofs.Named.{IsKnown, all_known, all_start, begun_by, known_at, like_body, maker_here, start_at}
use Rattle.cilk_replay.proofs.Seeing.{child_sees, root_sees}
use Rattle.cilk_replay.proofs.Unended.{ended_more, not_end, unended}

pub got : {A : Type 0} (xs : List A) (k : ℕ) → k < length xs → (x : A) × (slice_get xs k ≡ Some x)
got [] k less = absurd (omega (arith, less))
got (x ∷ xs) zero less = (x, refl)
got (x ∷ xs) (suc k) less = got xs k (omega (arith, less))

kind_begins : (e : Event) (f : ℕ) → kind_of e ≡ kinds.Begin f → e ≡ events.Begin f
kind_begins (events.Begin g) f q = ap events.Begin (let z : g ≡ f = cc q in z)
kind_begins e f q = absurd (cc q)

-- the same frame, with the same facts
same_sight : (p : Source) (r : Transcript) (w w' : FrameEnv) (a b : Sight) → w' ≡ w → b ≡ a → Sees p r w a → Sees p r w' b
same_sight p r w w' a b frame sight h = subst (λ (z : FrameEnv). Sees p r z b) (sym frame) (subst (Sees p r w) (sym sight) h)

child_fit : (p : Source) (b : Body) (callee : Callee) → CalleeIsThere p b callee → (callee ≢ callees.Root) × CalleeIsFit p callee
child_fit p b callees.Root h = absurd h
child_fit p b (callees.Function c) h = (λ q. cc q, h.0)
child_fit p b (callees.Loop l) h = (λ q. cc q, h.0)

module _ (s : Setting) (h : IsOfProgram s) where
  abbrev event_order : EventOrder
  event_order = s.event_order

  told : AreTold s.program s.run s.inputs h.events s.event_order
  told = subst (λ (z : EventOrder). AreTold s.program s.run s.inputs h.events z) (sym h.told) (asked_by_positions s.program s.own s.inputs s.run h.events event_order.opening h.is)

  pub here : (i : ℕ) (x : Point FrameEnv) → point_at s i ≡ Some x
      → IsPoint (next s.program s.inputs) (same_frame s.program) (point_at s) i x × IsTold s.program s.run s.inputs h.events s.event_order i x
  unfolding point_at
  here i x is = told.each i x is

  long : length (points_on s.program s.inputs s.run) ≡ length event_order.events
  long = told.all

  pub following : (i : ℕ) → i < length event_order.events → (y : Point FrameEnv) × (point_at s i ≡ Some y)
  unfolding point_at
  following i less = got (points_on s.program s.inputs s.run) i (let q = long in omega (arith, less, q))

  pub within : (i : ℕ) (x : Point FrameEnv) → point_at s i ≡ Some x → i < length event_order.events
  unfolding point_at
  within i x is = let q = long in let less = slice_get_inside (points_on s.program s.inputs s.run) i x is in omega (arith, q, less)
    where
      slice_get_inside : {A : Type 0} (xs : List A) (k : ℕ) (x : A) → slice_get xs k ≡ Some x → k < length xs
      slice_get_inside [] k x q = absurd (let z : None ≡ Some x = q in cc z)
      slice_get_inside (y ∷ xs) zero x q = omega arith
      slice_get_inside (y ∷ xs) (suc k) x q = let less = slice_get_inside xs k x q in omega (arith, less)

  pub first : (x : Point FrameEnv) → point_at s 0 ≡ Some x → (x.frame ≡ first_env s.program) × (x.past ≡ []) × (x.since ≡ 0)
  unfolding point_at
  first x is = told.begins x is

  -- the plan's event has the kind of the event in the event order
  pub plan_event : (i : ℕ) (e : Event) → event event_order (suc i) ≡ Some e → (p : Event) × (slice_get h.events i ≡ Some p) × (kind_of p ≡ kind_of e)
  plan_event i e there =
      let back : suc i - 1 ≡ i = omega arith in
      let at : slice_get event_order.events i ≡ Some e = ap (slice_get event_order.events) (sym back) ∙ there in
      let kinds : option_map kind_of (slice_get h.events i) ≡ Some (kind_of e) =
      sym (slice_get-map kind_of h.events i) ∙ ap (λ l. slice_get l i) (sym h.along.kinds) ∙ slice_get-map kind_of event_order.events i ∙ ap (option_map kind_of) at in
      kind_there (slice_get h.events i) (kind_of e) kinds

  -- ---- names of the plan's run

  numbered : AreNumbered s.program s.run h.events
  numbered = events_numbered s.program s.own s.run h.events (Leaves h.is.outcome) h.is.named h.is.runs

  frame_here : (i : ℕ) (x : Point FrameEnv) → point_at s i ≡ Some x → (let w = x.frame in IsHere s.program s.run w.name)
  frame_here i x is =
      let t = (here i x is).1 in
      maker_here s.program s.run [] (named s.program s.run) i (let w = x.frame in w.name) (root_here s.program s.run) numbered.here t.owner

  begin_number : (i : ℕ) (x : Point FrameEnv) (f : ℕ) → point_at s i ≡ Some x → event event_order (suc i) ≡ Some (events.Begin f) → (let w = x.frame in f ≡ frame_number s.program s.run w.name)
  begin_number i x f is there =
      let t = (here i x is).1 in
      let e = plan_event i (events.Begin f) there in
      begun_by s.program s.run [] (named s.program s.run) i e.0 (let w = x.frame in w.name) f (ap (λ l. slice_get l i) (sym numbered.events) ∙ e.1) t.owner (kind_begins e.0 f e.2)

  -- its children
  children : AreChildren s.program s.run [] 1 (named s.program s.run)
  children =
      let d = h.is.runs in
      serial_children s.program s.run s.own h.is.named d.1 (first_env s.program) 0 (standing_root s.program s.own h.is.named s.run)

  pub known : (i : ℕ) (x : Point FrameEnv) → point_at s i ≡ Some x → IsKnown s.program s.run x
  unfolding point_at
  known i x is =
      known_at s.program s.run (points_on s.program s.inputs s.run) i x
      (all_known s.program s.run View monoid_of (next s.program s.inputs) (first_env s.program) [] (opening_values s.program s.inputs) (unit_of monoid_of) 0 0 (named s.program s.run) (course_on s.program s.inputs (named s.program s.run))
      numbered.here children (programs_have_one s.program s.inputs (named s.program s.run)).0) is

  -- the event that starts a child has its number
  pub starts_as : (i : ℕ) (x : Point FrameEnv) (e : Event) → point_at s i ≡ Some x → slice_get h.events i ≡ Some e → StartsAs s.program s.run e x.planned
  unfolding point_at
  starts_as i x e is there =
      start_at s.program s.run View monoid_of (next s.program s.inputs) (numbered_events s.program s.run [] (named s.program s.run)) (points_on s.program s.inputs s.run) i e x
      (all_start s.program s.run View monoid_of (next s.program s.inputs) [] (first_env s.program) [] (opening_values s.program s.inputs) (unit_of monoid_of) 0 0 (named s.program s.run) (course_on s.program s.inputs (named s.program s.run))
      (programs_have_one s.program s.inputs (named s.program s.run)).0)
      (ap (λ l. slice_get l i) (sym numbered.events) ∙ there) is

  -- the plan's deed of an event of the plan
  pub plan_deed : (i : ℕ) (x : Point FrameEnv) (p : Event) → point_at s i ≡ Some x → slice_get h.events i ≡ Some p → IsOfKind (kind_of p) x.planned
  plan_deed i x p is there = let tell = (here i x is).1 in made (cell_number s.program s.run) (instance_number s.program s.run) x.planned p (tell.plan p there)

  -- the plan's deed is of the event's kind
  pub planned_kind : (i : ℕ) (x : Point FrameEnv) (e : Event) → point_at s i ≡ Some x → event event_order (suc i) ≡ Some e → IsOfKind (kind_of e) x.planned
  planned_kind i x e is there =
      let found = plan_event i e there in
      subst (λ k. IsOfKind k x.planned) found.2 (plan_deed i x found.0 is found.1)

  module _ (at : ℕ) (k : Ask) (l : ReplayFrame) (A : Asks s at k l) where
    abbrev x : Point FrameEnv
    x = A.point

    abbrev w : FrameEnv
    w = x.frame

    pub asked_ask : (asked_after s.program s.inputs w x.past).ask ≡ k
    asked_ask = ap (λ (q : OpenAsk). q.ask) A.asked.asks

    pub tell : IsTold s.program s.run s.inputs h.events s.event_order A.behind x
    tell = (here A.behind x A.is).1

    module _ (e : Event) (asked : IsAsked event_order at) (is : event event_order at ≡ Some e) where
      here_is : tell.here ≡ e
      here_is = some_inner tell.here e (sym tell.is ∙ ap (event event_order) A.place ∙ is)

      pub asked_by : IsAskedBy s.program s.run s.inputs x e
      asked_by = subst (IsAskedBy s.program s.run s.inputs x) here_is (tell.asks (subst (IsAsked event_order) (sym A.place) asked))

      pub event_is : IsEventOf s.program s.run w k e
      event_is = subst (λ z. IsEventOf s.program s.run w z e) asked_ask asked_by.event

      pub deed_kind : IsOfKind (kind_of e) x.planned
      deed_kind = planned_kind A.behind x e A.is (ap (event event_order) A.place ∙ is)

      answer_is : answer_of x.deed ≡ answer_in e
      answer_is = tell.answers ∙ ap answer_in here_is

    pub made_event : IsAsked event_order at → (e : Event) × (event event_order at ≡ Some e) × IsEventOf s.program s.run w k e
    made_event asked =
        let is : event event_order at ≡ Some tell.here = ap (event event_order) (sym A.place) ∙ tell.is in
        (tell.here, is, event_is tell.here asked is)

    -- what it does is no end
    pub deed_goes : IsAsked event_order at → HasAnswer k → is_end (let z = A.point in z.deed) ≡ false
    deed_goes asked has =
        let n = suc (started x.past) in
        let yes = tell.asked.0 (subst (IsAsked event_order) (sym A.place) asked) in
        let on = unended (has_ended x.past) (named_ask s.program w n (asked_after s.program s.inputs w x.past).ask) _ ((here A.behind x A.is).0.asks yes) in
        not_end s.program w n k x.deed (ap (named_ask s.program w n) (sym asked_ask) ∙ on.1) has

    -- the answer owed to it
    pub owed : (a : Answer) → IsAnswered event_order at a → Runs s.code s.inputs l.cursor × Fits (let v = l.cursor in v.owed) a
    owed a q =
        let f = q.1 in
        let fit = fitting s.program s.run w k q.0 a (event_is q.0 f.asked f.is) q.2 in
        ((_, A.asked.stands fit.has), subst (λ o. Fits o a) (sym (A.asked.owes fit.has)) fit.fits)

  -- a frame's next event, where it has this history
  later_asks : (x y : Point FrameEnv) (a : ℤ) (k : Ask) (l : ReplayFrame) → IsLater x y → a ≡ answer_of x.deed
      → (let w = x.frame in HasAsked s.code s.inputs s.program w.callee (answers_of x.past ++ a ∷ []) k l)
      → (let w = y.frame in HasAsked s.code s.inputs s.program w.callee (answers_of y.past) k l)
  later_asks x y a k l later is asked =
      let history : answers_of x.past ++ a ∷ [] ≡ answers_of y.past =
      ap (λ v. answers_of x.past ++ v ∷ []) is ∙ sym (answers_more x.past x.deed) ∙ ap answers_of (sym later.past) in
      subst (λ (v : FrameEnv). HasAsked s.code s.inputs s.program v.callee (answers_of y.past) k l) (sym later.frame)
      (let w = x.frame in subst (λ z. HasAsked s.code s.inputs s.program w.callee z k l) history asked)

  -- what a step does to a frame
  abbrev pub Stepped : ReplayFrame → Answer → Ask → ReplayFrame → Type 0
  Stepped l a k l' = (p : Source) (callee : Callee) (history : List ℤ) → Stands s.code s.inputs p callee l.cursor history l.took
      → HasAsked s.code s.inputs p callee (history ++ word_in a ∷ []) k l'

  pub answered_on : (at : ℕ) (k k' : Ask) (l l' : ReplayFrame) (below : List ReplayFrame) (a : Answer) → StandsAt s at k l below → IsAnswered event_order at a → l'.sight ≡ l.sight → Stepped l a k' l'
      → StandsAt s (at + 1) k' l' below
  answered_on at k k' l l' below a S q sight step =
      let A = S.asks in
      let f = q.1 in
      let place = A.place in
      let less = f.more in
      let y = following (suc A.behind) (omega (arith, place, less)) in
      let go = goes_on q.0 a (let x = A.point in x.planned) q.2 (deed_kind at k l A q.0 f.asked f.is) in
      let later : IsLater A.point y.0 = (here A.behind A.point A.is).0.goes go.0 go.1 go.2 y.0 y.1 in
      let fit = fitting s.program s.run (let x = A.point in x.frame) k q.0 a (event_is at k l A q.0 f.asked f.is) q.2 in
      let answer = answer_is at k l A q.0 f.asked f.is in
      record {
        asks = record {
          behind = suc A.behind;
          place = omega (arith, place);
          point = y.0;
          is = y.1;
          goes_on = ap has_ended later.past ∙ ended_more (let x = A.point in x.past) (let x = A.point in x.deed) A.goes_on (deed_goes at k l A f.asked fit.has);
          fit = subst (λ (v : FrameEnv). CalleeIsFit s.program v.callee) (sym later.frame) A.fit;
          sees = same_sight s.program s.run _ _ l.sight l'.sight later.frame sight A.sees;
          asked = later_asks A.point y.0 (word_in a) k' l' later (fit.word ∙ sym answer) (step s.program _ _ (A.asked.stands fit.has));
        };
        callers = subst (λ n. Linked s n (reverse below)) (sym later.since) S.callers;
      }

  -- ---- a child begins

  -- the first request of a frame
  first_asked : (callee : Callee) (c : ReplayFrame) (past : List (Deed FrameEnv)) → past ≡ [] → c.took ≡ 0 → Stands s.code s.inputs s.program callee c.cursor [] 0
      → (let v = c.cursor in v.owed ≡ owed_for asks.Begin) → HasAsked s.code s.inputs s.program callee (answers_of past) asks.Begin c
  first_asked callee c past none took stands owes =
      subst (λ z. HasAsked s.code s.inputs s.program callee (answers_of z) asks.Begin c) (sym none) (record {
        asks = ap (λ n. asks_for asks.Begin (MAX_TICKS - n)) (sym took);
        stands = λ has. subst (λ n. Stands s.code s.inputs s.program callee c.cursor [] n) (sym took) stands;
        owes = λ has. owes;
        small = let z = took in omega (arith, z);
      })

  pub record Begun (at : ℕ) (A : Point FrameEnv) (i : ℕ) (how : Invocation) (c : ReplayFrame) : Type 0 where
    pub asks : Asks s (at + 1) asks.Begin c
    pub since : let y = asks.point in y.since ≡ suc i
    pub deed : let y = asks.point in A.deed ≡ Invokes how y.frame

  -- what is requested exists
  pub ask_there : (at : ℕ) (k : Ask) (l : ReplayFrame) (A : Asks s at k l) → (let x = A.point in let w = x.frame in AskIsThere s.program w.callee k)
  ask_there at k l A =
      let x = A.point in
      let w = x.frame in
      subst (AskIsThere s.program w.callee) (asked_ask at k l A) (asks_there s.program h.is.named w.callee A.fit s.inputs (answers_of x.past) MAX_TICKS)

  -- the child that a request begins
  pub there : (at : ℕ) (k : Ask) (l : ReplayFrame) (A : Asks s at k l) (how : Invocation) (callee : Callee) → k ≡ asks.Invoke how callee → (callee ≢ callees.Root) × CalleeIsFit s.program callee
  there at k l A how callee is =
      let x = A.point in
      let w = x.frame in
      child_fit s.program (body_of s.program w.callee) callee (subst (AskIsThere s.program w.callee) is (ask_there at k l A))

  -- the home of the frame that begins right after a position, if its caller sees this
  pub record Placed (at : ℕ) (caller new : Sight) (callee : Callee) : Type 0 where
    pub number : ℕ
    pub layout : FrameLayout
    pub begins : event event_order (at + 1) ≡ Some (events.Begin number)
    pub lies : (path : List ℕ) (b : Block) → frame_at s.program s.run path ≡ Some b → b.number ≡ number → layout.block ≡ cells_of_block b
    pub frame : layout.frame ≡ number
    pub before : layout.before ≡ 0
    pub sight : IsSightOf (let p = s.program in length p.openings) callee layout caller new

  -- a level as it begins
  abbrev pub IsNew : ℕ → ReplayFrame → ReplayFrame → Callee → Type 0
  IsNew at l c callee =
      Stands s.code s.inputs s.program callee c.cursor [] 0 × (let v = c.cursor in v.owed ≡ owed_for asks.Begin) × (c.took ≡ 0) × Placed at l.sight c.sight callee

  -- the plan's child, which runs the same
  record Alike (x : Point FrameEnv) (callee : Callee) : Type 0 where
    planned : FrameEnv
    child : IsChild s.program s.run (let w = x.frame in w.name) (suc (started x.past)) planned
    same : same_body (body_of s.program planned.callee) (body_of s.program callee) ≡ true

  alike : (i : ℕ) (x : Point FrameEnv) (how : Invocation) (v : FrameEnv) (callee : Callee) → point_at s i ≡ Some x → x.planned ≡ Invokes how v
      → x.deed ≡ Invokes how (child_env s.program x.frame (suc (started x.past)) callee) → Alike x callee
  alike i x how v callee is planned deed =
      let know = known i x is in
      let c = child_env s.program x.frame (suc (started x.past)) callee in
      let like = subst (IsLikeDeed (same_frame s.program) (Invokes how v)) deed (subst (λ (d : Deed FrameEnv). IsLikeDeed (same_frame s.program) d x.deed) planned know.like) in
      record {
        planned = v;
        child = subst (IsStarted s.program s.run (let w = x.frame in w.name) (suc (started x.past))) planned know.starts;
        same = like_body s.program v c like.1;
      }

  -- the child's sight
  placed_sees : (at i : ℕ) (k : Ask) (l : ReplayFrame) (A : Asks s at k l) (how : Invocation) (callee : Callee) (y : Point FrameEnv) (sight : Sight) → k ≡ asks.Invoke how callee → suc i ≡ at + 1 → point_at s i ≡ Some y
      → (let x = A.point in child_env s.program x.frame (suc (started x.past)) callee ≡ y.frame) → Alike A.point callee → Placed at l.sight sight callee → Sees s.program s.run y.frame sight
  placed_sees at i k l A how callee y sight asked place is frame like P =
      let x = A.point in
      let w = x.frame in
      let n = suc (started x.past) in
      let name : (let v = y.frame in v.name) ≡ w.name ++ n ∷ [] = sym (ap (λ (v : FrameEnv). v.name) frame) in
      let its = subst (IsHere s.program s.run) name (frame_here i y is) in
      let number = begin_number i y P.number is (ap (event event_order) place ∙ P.begins) ∙ ap (frame_number s.program s.run) name ∙ frame_is s.program s.run (w.name ++ n ∷ []) its in
      subst (λ (v : FrameEnv). Sees s.program s.run v sight) frame
      (child_sees s.program s.run w l.sight A.sees n callee P.layout sight (record {
        well = h.is.named;
        other = (there at k l A how callee asked).0;
        there = subst (AskIsThere s.program w.callee) asked (ask_there at k l A);
        can = can_invoke s.program s.inputs w.callee (answers_of x.past) MAX_TICKS (MAX_TICKS - l.took) how callee (A.asked.asks ∙ ap (λ (z : Ask). asks_for z (MAX_TICKS - l.took)) asked);
        planned = like.planned;
        child = like.child;
        same = like.same;
        here = its;
        block = P.lies its.path its.block its.found (sym number);
        frame = sym number ∙ sym P.frame;
        before = P.before;
      }) P.sight)

  begun_asks : (at : ℕ) (k : Ask) (l c : ReplayFrame) (A : Asks s at k l) (how : Invocation) (callee : Callee) (e : Event) (w : FrameEnv) → k ≡ asks.Invoke how callee
      → Follows event_order at e → (let x = A.point in x.planned ≡ Invokes how w) → IsNew at l c callee → Begun at A.point A.behind how c
  begun_asks at k l c A how callee e w is f planned new =
      let x = A.point in
      let place = A.place in
      let less = f.more in
      let y = following (suc A.behind) (omega (arith, place, less)) in
      let begun : IsFirst A.behind x how y.0 = (here A.behind x A.is).0.starts how w planned y.0 y.1 in
      let by = asked_by at k l A e f.asked f.is in
      let made_child : x.deed ≡ Invokes how (child_env s.program x.frame (suc (started x.past)) callee) = by.starts how callee (asked_ask at k l A ∙ is) in
      let frame : child_env s.program x.frame (suc (started x.past)) callee ≡ (let z = y.0 in z.frame) = invoked how _ _ (sym made_child ∙ begun.started) in
      let same : callee ≡ (let z = y.0 in let v = z.frame in v.callee) = ap (λ (v : FrameEnv). v.callee) frame in
      record {
        asks = record {
          behind = suc A.behind;
          place = omega (arith, place);
          point = y.0;
          is = y.1;
          goes_on = ap has_ended begun.past;
          fit = subst (CalleeIsFit s.program) same (there at k l A how callee is).1;
          sees = placed_sees at (suc A.behind) k l A how callee y.0 c.sight is (omega (arith, place)) y.1 frame (alike A.behind x how w callee A.is planned made_child) new.3;
          asked = subst (λ z. HasAsked s.code s.inputs s.program z (answers_of (let z = y.0 in z.past)) asks.Begin c) same (first_asked callee c (let z = y.0 in z.past) begun.past new.2 new.0 new.1);
        };
        since = begun.since;
        deed = begun.started;
      }
    where
      invoked : (how : Invocation) (v w : FrameEnv) → Invokes how v ≡ Invokes how w → v ≡ w
      invoked how v w q = cc q

  -- an invocation is answered with nothing
  invoked_owes : (k : Ask) (how : Invocation) (callee : Callee) → k ≡ asks.Invoke how callee → HasAnswer k × (owed_for k ≡ Nothing)
  invoked_owes k how callee is = (subst HasAnswer (sym is) tt, ap owed_for is)

  -- the caller waits
  waits_for : (at : ℕ) (k : Ask) (l c : ReplayFrame) (A : Asks s at k l) (how : Invocation) (callee : Callee) → k ≡ asks.Invoke how callee → (B : Begun at A.point A.behind how c)
      → Waits s (let b = B.asks in let y = b.point in y.since) l
  waits_for at k l c A how callee is B =
      let owes = invoked_owes k how callee is in
      record {
        behind = A.behind;
        place = sym B.since;
        point = A.point;
        is = A.is;
        goes_on = A.goes_on;
        how = how;
        child = (let b = B.asks in let y = b.point in y.frame);
        started = B.deed;
        fit = A.fit;
        sees = A.sees;
        stands = A.asked.stands owes.0;
        owes = A.asked.owes owes.0 ∙ owes.1;
        small = A.asked.small;
      }

  pub called_on : (at : ℕ) (k : Ask) (l c : ReplayFrame) (below : List ReplayFrame) (S : StandsAt s at k l below) (f : ℕ) → Follows event_order at (events.Call f)
      → ((callee : Callee) → k ≡ asks.Invoke Call callee → CalleeIsFit s.program callee → IsNew at l c callee) → StandsAt s (at + 1) asks.Begin c (below ++ l ∷ [])
  unfolding waits_for
  called_on at k l c below S f F new =
      let A = S.asks in
      let callee = ask_for s.program s.run (let x = A.point in x.frame) k (events.Call f) (event_is at k l A (events.Call f) F.asked F.is) in
      let deed = deed_kind at k l A (events.Call f) F.asked F.is in
      let B = begun_asks at k l c A Call callee.0 (events.Call f) deed.0 callee.1 F deed.1 (new callee.0 callee.1 (there at k l A Call callee.0 callee.1).1) in
      record {
        asks = B.asks;
        callers = subst (Linked s _) (sym (reverse-append below (l ∷ []))) (waits_for at k l c A Call callee.0 callee.1 B, S.callers);
      }

  -- the child that the request begins
  pub call_begins : (at : ℕ) (k : Ask) (l : ReplayFrame) (below : List ReplayFrame) → StandsAt s at k l below → (f : ℕ) → Follows event_order at (events.Call f)
      → (how : Invocation) × (callee : Callee) × (callee ≢ callees.Root) × (k ≡ asks.Invoke how callee)
  call_begins at k l below S f F =
      let A = S.asks in
      let callee = ask_for s.program s.run (let x = A.point in x.frame) k (events.Call f) (event_is at k l A (events.Call f) F.asked F.is) in
      (Call, callee.0, (there at k l A Call callee.0 callee.1).0, callee.1)

  pub spawn_begins : (at : ℕ) (k : Ask) (l : ReplayFrame) (below : List ReplayFrame) → StandsAt s at k l below → (f : ℕ) → Follows event_order at (events.Spawn f)
      → (how : Invocation) × (callee : Callee) × (callee ≢ callees.Root) × (k ≡ asks.Invoke how callee)
  spawn_begins at k l below S f F =
      let A = S.asks in
      let callee = ask_for s.program s.run (let x = A.point in x.frame) k (events.Spawn f) (event_is at k l A (events.Spawn f) F.asked F.is) in
      (Spawn, callee.0, (there at k l A Spawn callee.0 callee.1).0, callee.1)

  pub record Parted (at : ℕ) (next : ℕ) (c l : ReplayFrame) (below : List ReplayFrame) : Type 0 where
    pub child : StandsAt s (at + 1) asks.Begin c []
    pub parent : RestsAt s next l below

  -- the position of a spawn's continuation: the parent's next event
  abbrev pub IsResumed : ℕ → Point FrameEnv → Type 0
  IsResumed next x = (j : ℕ) × (suc j ≡ next) × (y : Point FrameEnv) × (point_at s j ≡ Some y) × IsLater x y

  pub spawned_on : (at : ℕ) (k : Ask) (l c : ReplayFrame) (below : List ReplayFrame) (S : StandsAt s at k l below) (f next : ℕ) → Follows event_order at (events.Spawn f)
      → ((callee : Callee) → k ≡ asks.Invoke Spawn callee → CalleeIsFit s.program callee → IsNew at l c callee)
      → ((i : ℕ) (x : Point FrameEnv) → suc i ≡ at → point_at s i ≡ Some x → IsResumed next x) → Parted at next c l below
  spawned_on at k l c below S f next F new resumed =
      let A = S.asks in
      let callee = ask_for s.program s.run (let x = A.point in x.frame) k (events.Spawn f) (event_is at k l A (events.Spawn f) F.asked F.is) in
      let deed = deed_kind at k l A (events.Spawn f) F.asked F.is in
      let B = begun_asks at k l c A Spawn callee.0 (events.Spawn f) deed.0 callee.1 F deed.1 (new callee.0 callee.1 (there at k l A Spawn callee.0 callee.1).1) in
      let z = resumed A.behind A.point A.place A.is in
      let owes = invoked_owes k Spawn callee.0 callee.1 in
      record {
        child = record {
          asks = B.asks;
          callers = inr (record { behind = A.behind; place = sym B.since; point = A.point; is = A.is; child = (let b = B.asks in let y = b.point in y.frame); started = B.deed });
        };
        parent = record {
          rests = record {
            behind = z.0;
            place = z.1;
            point = z.2;
            is = z.3;
            goes_on = ap has_ended z.4.past ∙ ended_more (let x = A.point in x.past) (let x = A.point in x.deed) A.goes_on (ap is_end B.deed);
            fit = subst (λ (v : FrameEnv). CalleeIsFit s.program v.callee) (sym z.4.frame) A.fit;
            sees = subst (λ (v : FrameEnv). Sees s.program s.run v l.sight) (sym z.4.frame) A.sees;
            before = (let x = A.point in x.past);
            last = (let x = A.point in x.deed);
            past = z.4.past;
            answer = ap answer_of B.deed;
            stands = subst (λ (v : FrameEnv). Stands s.code s.inputs s.program v.callee l.cursor (answers_of (let x = A.point in x.past)) l.took) (sym z.4.frame) (A.asked.stands owes.0);
            owes = A.asked.owes owes.0 ∙ owes.1;
            small = A.asked.small;
          };
          callers = subst (λ n. Linked s n (reverse below)) (sym z.4.since) S.callers;
        };
      }

  -- ---- a frame ends

  -- the callers without the innermost
  abbrev pub Caller : ℕ → ReplayFrame → List ReplayFrame → Type 0
  Caller at top below = RestsAt s (at + 1) top below

  pub ended_on : (at : ℕ) (k : Ask) (l top : ReplayFrame) (old new : List ReplayFrame) → StandsAt s at k l old → Follows event_order at events.End → old ≡ new ++ top ∷ [] → RestsAt s (at + 1) top new
  ended_on at k l top old new S F popped =
      let A = S.asks in
      let x = A.point in
      let place = A.place in
      let less = F.more in
      let y = following (suc A.behind) (omega (arith, place, less)) in
      let deed = deed_kind at k l A events.End F.asked F.is in
      let back : IsReturn (point_at s) x y.0 = (here A.behind x A.is).0.returns deed.0 deed.1 deed.2 y.0 y.1 in
      let callers : Linked s x.since (top ∷ reverse new) = subst (Linked s x.since) (ap reverse popped ∙ reverse-append new (top ∷ [])) S.callers in
      let waits : Waits s x.since top = callers.0 in
      let one = back.before in
      let two = waits.place in
      let spot : back.place ≡ waits.behind = omega (arith, one, two) in
      let same : back.caller ≡ waits.point = some_inner back.caller waits.point (sym back.is ∙ ap (point_at s) spot ∙ waits.is) in
      let later : IsLater waits.point y.0 = subst (λ z. IsLater z y.0) same back.goes_on in
      record {
        rests = record {
          behind = suc A.behind;
          place = omega (arith, place);
          point = y.0;
          is = y.1;
          goes_on = ap has_ended later.past ∙ ended_more (let z = waits.point in z.past) (let z = waits.point in z.deed) waits.goes_on (ap is_end waits.started);
          fit = subst (λ (v : FrameEnv). CalleeIsFit s.program v.callee) (sym later.frame) waits.fit;
          sees = subst (λ (v : FrameEnv). Sees s.program s.run v top.sight) (sym later.frame) waits.sees;
          before = (let z = waits.point in z.past);
          last = (let z = waits.point in z.deed);
          past = later.past;
          answer = ap answer_of waits.started;
          stands = subst (λ (v : FrameEnv). Stands s.code s.inputs s.program v.callee top.cursor (answers_of (let z = waits.point in z.past)) top.took) (sym later.frame) waits.stands;
          owes = waits.owes;
          small = waits.small;
        };
        callers = subst (λ n. Linked s n (reverse new)) (sym later.since) callers.1;
      }

  -- ---- a frame that rests continues

  pub woken : (at : ℕ) (k' : Ask) (l l' : ReplayFrame) (below : List ReplayFrame) → RestsAt s at l below → l'.sight ≡ l.sight → Stepped l Done k' l' → StandsAt s at k' l' below
  woken at k' l l' below S sight step =
      let R = S.rests in
      let x = R.point in
      let w = x.frame in
      let history : answers_of R.before ++ pos 0 ∷ [] ≡ answers_of x.past =
      ap (λ v. answers_of R.before ++ v ∷ []) (sym R.answer) ∙ sym (answers_more R.before R.last) ∙ ap answers_of (sym R.past) in
      record {
        asks = record {
          behind = R.behind;
          place = R.place;
          point = R.point;
          is = R.is;
          goes_on = R.goes_on;
          fit = R.fit;
          sees = subst (Sees s.program s.run x.frame) (sym sight) R.sees;
          asked = subst (λ z. HasAsked s.code s.inputs s.program w.callee z k' l') history (step s.program _ _ R.stands);
        };
        callers = S.callers;
      }

  pub rest_owed : (at : ℕ) (l : ReplayFrame) (below : List ReplayFrame) → RestsAt s at l below → Runs s.code s.inputs l.cursor × Fits (let v = l.cursor in v.owed) Done
  rest_owed at l below S = let R = S.rests in ((_, R.stands), subst (λ o. Fits o Done) (sym R.owes) tt)

  -- ---- the root's frame

  -- the home and the sight of the root's frame
  pub record RootPlaced (sight : Sight) : Type 0 where
    pub layout : FrameLayout
    pub lies : (path : List ℕ) (b : Block) → frame_at s.program s.run path ≡ Some b → b.number ≡ 1 → layout.block ≡ cells_of_block b
    pub frame : layout.frame ≡ 1
    pub before : layout.before ≡ (let p = s.program in length p.reducers)
    pub layouts : layouts_of sight ≡ layout ∷ []
    pub given : sight.given.items ≡ []
    pub none : sight.result ≡ found_global (let p = s.program in length p.openings) 0

  pub rooted : (c : ReplayFrame) → Stands s.code s.inputs s.program callees.Root c.cursor [] 0 → (let v = c.cursor in v.owed ≡ owed_for asks.Begin) → c.took ≡ 0 → RootPlaced c.sight
      → StandsAt s 1 asks.Begin c []
  rooted c stands owes took R =
      let some = h.orderly.root.1 in
      let x = following 0 (omega (arith, some)) in
      let is = first x.0 x.1 in
      let same : callees.Root ≡ (let z = x.0 in let v = z.frame in v.callee) = ap (λ (v : FrameEnv). v.callee) (sym is.0) in
      record {
        asks = record {
          behind = 0;
          place = refl;
          point = x.0;
          is = x.1;
          goes_on = ap has_ended is.1;
          fit = subst (CalleeIsFit s.program) same tt;
          sees = subst (λ (v : FrameEnv). Sees s.program s.run v c.sight) (sym is.0)
              (root_sees s.program s.run h.is.named (root_here s.program s.run) R.layout c.sight (R.lies [] (block_of s.program callees.Root (unbegun s.program)) refl refl) (sym R.frame) R.before R.layouts R.given R.none);
          asked = subst (λ z. HasAsked s.code s.inputs s.program z (answers_of (let z = x.0 in z.past)) asks.Begin c) same (first_asked callees.Root c (let z = x.0 in z.past) is.1 took stands owes);
        };
        callers = inl is.2;
      }
