-- What comes of an event, in the form of the code.
use Rattle.std.proofs.Common.{◌≡◌, ℕ, ℤ, Bool, true, false, IsTrue, List, [], ◌∷◌, ◌++◌, reverse, Option, Some, None, refl, sym, ap, ◌∙◌, subst}
use Rattle.std.specs.Prelude.{IsSome, IfSome}
use Rattle.std.proofs.lemmas.List.{reverse-append}
use Rattle.cilk_types.specs.declared.event.Event.{Event}
use Rattle.cilk_types.specs.declared.invocation.Invocation.{Invocation}
use Rattle.cilk_program.specs.declared.ask.Ask.{Ask}
use Rattle.cilk_program.specs.declared.ask.Ask.TheVariants as asks
use Rattle.cilk_program.specs.declared.ask.Callee.{Callee}
use Rattle.cilk_program.specs.Syntax.{Source}
use Rattle.cilk_program.specs.WellNamed.{is_well_named}
use Rattle.cilk_program.specs.SerialRun.{Memory, Frame, Ending, IsInner, event_of}
use Rattle.cilk_lower.specs.declared.code.Owed.{Owed}
use Rattle.cilk_lower.specs.Behaves.{Behaves}
use Rattle.cilk_lower.specs.Code.{CodeView}
use Rattle.cilk_frames.specs.declared.cursor.Answer.{Answer}
use Rattle.cilk_frames.specs.declared.cursor.Answer.TheVariants.{Done}
use Rattle.cilk_frames.specs.Cursor.{CursorView, first_of}
use Rattle.cilk_frames.specs.AskSlot.{IsFunctionCall}
use Rattle.cilk_frames.specs.Following.{Fits, HasAnswer, Runs, Steps, child_of, owed_for}
use Rattle.cilk_oblivious.specs.Open.{Labels}
use Rattle.cilk_oblivious.specs.Cursors.{FrameMarks, StepsOpenly}
use Rattle.cilk_oblivious.specs.Watching.{Answered, AreWaiting, IsWaiting, IsWholeSo, Meets, Parent, Point, Watching, labels_in}
use Rattle.cilk_oblivious.specs.declared.memory.MarkedMemory.{MarkedMemory}
use Rattle.cilk_oblivious.specs.declared.watch.Met.{Met}
use Rattle.cilk_oblivious.specs.declared.watch.Met.TheVariants as mets
use Rattle.cilk_oblivious.specs.declared.step.Waiting.{Waiting}
use Rattle.cilk_oblivious.specs.declared.watch.Watch.{Watch}
use Rattle.cilk_oblivious.proofs.Watching.{child_point, ended_point, inner_has, inner_point, root_ended, waits_now}

module _ (p : Source) (inputs : List ℤ) (hidden : ℕ → Bool) (code : CodeView) where
  -- blocked, or gone on
  pub meets_if : (w : Watch) (before after : List Event) (whole : Ending) (goes : Bool) (met : Met) → (goes ≡ true → met ≡ mets.Goes) × (goes ≡ false → met ≡ mets.Blocked) → (goes ≡ true → Watching p inputs hidden code w before after whole)
      → Meets p inputs hidden code met w before after whole
  meets_if w before after whole true met how h = subst (λ (m : Met). Meets p inputs hidden code m w before after whole) (sym (how.0 refl)) (h refl)
  meets_if w before after whole false met how h = subst (λ (m : Met). Meets p inputs hidden code m w before after whole) (sym (how.1 refl)) tt

  -- the running frame may take this answer
  pub is_ready : (w : Watch) (before after : List Event) (whole : Ending) (k : Ask) (a : Answer) → Watching p inputs hidden code w before after whole → w.request.asked ≡ k → IsInner k → Fits (owed_for k) a
      → Runs code inputs w.top.cursor × Fits w.top.cursor.owed a
  is_ready w before after whole k a watching is inner fits =
      let pt = watching.point in
      let has : HasAnswer w.request.asked = subst HasAnswer (sym is) (inner_has k inner) in
      let stands = pt.stands has in
      ((_, stands.own), subst (λ (o : Owed). Fits o a) (sym (pt.owes has ∙ ap owed_for is)) fits)

  pub met_inner : (w : Watch) (w' : Watch) (before after : List Event) (whole : Ending) (e : Event) (k : Ask) (a : Answer) (am : Bool)
      → Watching p inputs hidden code w before (e ∷ after) whole → w.request.asked ≡ k → IsInner k → w'.below ≡ w.below
      → ((fr : Frame) (m : Memory) → e ≡ event_of fr m k → Answered (labels_in w.memory) k w.request.sent.items fr m a am (labels_in w'.memory))
      → Steps code inputs w.top.cursor a w.request.left w'.request.asked w'.top.cursor w'.request.left → StepsOpenly hidden code inputs w.top.cursor w.top.marks a am w.request.left w'.request.asked w'.top.cursor w'.top.marks w'.request.left w'.request.sent.items
      → Watching p inputs hidden code w' (before ++ e ∷ []) after whole
  met_inner w w' before after whole e k a am watching is inner below answered steps openly =
      let l = labels_in w.memory in
      let l' = labels_in w'.memory in
      record {
        parents = watching.parents;
        point = inner_point p inputs hidden code l w.top.cursor w.top.marks w.request.asked w.request.sent.items w.request.left before whole watching.parents e after a am l' w'.request.asked w'.top.cursor w'.top.marks w'.request.left w'.request.sent.items watching.point
            (λ fr m at. subst (λ (k : Ask). Answered l k w.request.sent.items fr m a am l') (sym is) (answered fr m (subst (λ (k : Ask). e ≡ event_of fr m k) is at))) (subst IsInner (sym is) inner) steps openly;
        waits = subst (λ (b : List Waiting). AreWaiting p inputs hidden code (reverse b) watching.parents) (sym (ap (λ v. v.items) below)) watching.waits;
      }

  -- a child begins, its words have the marks that were sent
  pub met_child : (w w' : Watch) (before after : List Event) (whole : Ending) (e : Event) (how : Invocation) (callee : Callee)
      → IsTrue (is_well_named p) → Behaves p code → Watching p inputs hidden code w before (e ∷ after) whole → w.request.asked ≡ asks.Invoke how callee
      → w'.top.cursor ≡ first_of code callee → w'.top.marks ≡ record { words = w.request.sent.items; stack = []; held = false } → w'.below.items ≡ w.below.items ++ w.top ∷ [] → w'.memory ≡ w.memory → w'.request.asked ≡ asks.Begin → w'.request.sent.items ≡ [] → w'.request.left ≡ w.request.left
      → Watching p inputs hidden code w' (before ++ e ∷ []) after whole
  met_child w w' before after whole e how callee well behaves watching is cursor marks below memory asked sent left =
      let l = labels_in w.memory in
      let pt = watching.point in
      let q : Parent = record { frame = pt.frame; words = pt.words; history = pt.history; marks = pt.marks; took = pt.took } in
      let c = child_point p inputs hidden code l w.top.cursor w.top.marks w.request.asked w.request.sent.items w.request.left before whole watching.parents e after how callee w'.top.cursor pt is well behaves cursor in
      let c1 = subst (λ (k : FrameMarks). Point p inputs hidden code l w'.top.cursor k asks.Begin [] w.request.left (before ++ e ∷ []) after whole (q ∷ watching.parents)) (sym marks) c in
      let c2 = subst (λ (k : Ask). Point p inputs hidden code l w'.top.cursor w'.top.marks k [] w.request.left (before ++ e ∷ []) after whole (q ∷ watching.parents)) (sym asked) c1 in
      let c3 = subst (λ (s : List Bool). Point p inputs hidden code l w'.top.cursor w'.top.marks w'.request.asked s w.request.left (before ++ e ∷ []) after whole (q ∷ watching.parents)) (sym sent) c2 in
      let c4 = subst (λ (n : ℕ). Point p inputs hidden code l w'.top.cursor w'.top.marks w'.request.asked w'.request.sent.items n (before ++ e ∷ []) after whole (q ∷ watching.parents)) (sym left) c3 in
      let c5 = subst (λ (m : MarkedMemory). Point p inputs hidden code (labels_in m) w'.top.cursor w'.top.marks w'.request.asked w'.request.sent.items w'.request.left (before ++ e ∷ []) after whole (q ∷ watching.parents)) (sym memory) c4 in
      let waiting = waits_now p inputs hidden code l w.top.cursor w.top.marks w.request.asked w.request.sent.items w.request.left before whole watching.parents how callee is (e ∷ after) pt in
      let list : reverse w'.below.items ≡ w.top ∷ reverse w.below.items = ap reverse below ∙ reverse-append w.below.items (w.top ∷ []) in
      record { parents = q ∷ watching.parents; point = c5; waits = subst (λ (b : List Waiting). AreWaiting p inputs hidden code b (q ∷ watching.parents)) (sym list) (waiting, watching.waits) }

  -- no frame waits
  pub met_end : (w : Watch) (before after : List Event) (whole : Ending) (e : Event) (v : ℤ) → Watching p inputs hidden code w before (e ∷ after) whole → w.request.asked ≡ asks.End v → w.below.items ≡ []
      → (l : Labels) × IsWholeSo p inputs hidden (before ++ e ∷ []) whole l × (after ≡ [])
  met_end w before after whole e v watching is none =
      let l = labels_in w.memory in
      let alone = nobody watching.parents (subst (λ (b : List Waiting). AreWaiting p inputs hidden code (reverse b) watching.parents) none watching.waits) in
      let r = root_ended p inputs hidden code l w.top.cursor w.top.marks w.request.asked w.request.sent.items w.request.left before whole watching.parents e after v watching.point is alone in
      (l, r.1, r.0)
    where
      nobody : (qs : List Parent) → AreWaiting p inputs hidden code [] qs → qs ≡ []
      nobody [] h = refl
      nobody (q ∷ qs) h = absurd h

  -- the frame that waits, if one does
  pub record Back (w : Watch) (below : List Waiting) (frame : Waiting) (before after : List Event) (whole : Ending) : Type 0 where
    pub q : Parent
    pub qs : List Parent
    pub point : Point p inputs hidden code (labels_in w.memory) w.top.cursor w.top.marks w.request.asked w.request.sent.items w.request.left before after whole (q ∷ qs)
    pub first : IsWaiting p inputs hidden code frame.cursor frame.marks q
    pub others : AreWaiting p inputs hidden code (reverse below) qs

  pub goes_back : (w : Watch) (below : List Waiting) (frame : Waiting) (before after : List Event) (whole : Ending) → Watching p inputs hidden code w before after whole → w.below.items ≡ below ++ frame ∷ [] → Back w below frame before after whole
  goes_back w below frame before after whole watching is =
      let list : reverse w.below.items ≡ frame ∷ reverse below = ap reverse is ∙ reverse-append below (frame ∷ []) in
      by watching.parents watching.point (subst (λ (b : List Waiting). AreWaiting p inputs hidden code b watching.parents) list watching.waits)
    where
      by : (qs : List Parent) → Point p inputs hidden code (labels_in w.memory) w.top.cursor w.top.marks w.request.asked w.request.sent.items w.request.left before after whole qs
          → AreWaiting p inputs hidden code (frame ∷ reverse below) qs → Back w below frame before after whole
      by [] pt h = absurd h
      by (q ∷ qs) pt h = record { q = q; qs = qs; point = pt; first = h.0; others = h.1 }

  pub parent_ready : (c : CursorView) (k : FrameMarks) (q : Parent) → IsWaiting p inputs hidden code c k q → Runs code inputs c × Fits c.owed Done
  parent_ready c k q h = let s = h.stands in ((_, s.own), subst (λ (o : Owed). Fits o Done) (sym h.owes) tt)

  pub met_return : (w w' : Watch) (frame : Waiting) (before after : List Event) (whole : Ending) (e : Event) (v : ℤ) → Back w w'.below.items frame before (e ∷ after) whole → w.request.asked ≡ asks.End v → w'.memory ≡ w.memory
      → Steps code inputs frame.cursor Done w.request.left w'.request.asked w'.top.cursor w'.request.left → StepsOpenly hidden code inputs frame.cursor frame.marks Done false w.request.left w'.request.asked w'.top.cursor w'.top.marks w'.request.left w'.request.sent.items
      → Watching p inputs hidden code w' (before ++ e ∷ []) after whole
  met_return w w' frame before after whole e v back is memory steps openly =
      let l = labels_in w.memory in
      let pt = ended_point p inputs hidden code l w.top.cursor w.top.marks w.request.asked w.request.sent.items w.request.left before whole [] e after v back.q back.qs frame.cursor frame.marks w'.request.asked w'.top.cursor w'.top.marks w'.request.left w'.request.sent.items back.point is back.first steps openly in
      record {
        parents = back.qs;
        point = subst (λ (m : MarkedMemory). Point p inputs hidden code (labels_in m) w'.top.cursor w'.top.marks w'.request.asked w'.request.sent.items w'.request.left (before ++ e ∷ []) after whole back.qs) (sym memory) pt;
        waits = back.others;
      }

-- a request that begins a child
pub invokes : (k : Ask) (callee : Callee) → child_of k ≡ Some callee → (how : Invocation) × (k ≡ asks.Invoke how callee)
invokes (asks.Invoke how c) callee h = (how, ap (asks.Invoke how) (some_is h))
  where
    some_is : {c d : Callee} → Some c ≡ Some d → c ≡ d
    some_is e = cc
invokes k callee h = absurd (none h)
  where
    none : {d : Callee} → None ≡ Some d → ⊥
    none e = cc

pub callee_there : (k : Ask) → IsSome (child_of k) → (callee : Callee) × (child_of k ≡ Some callee)
callee_there k h = there (child_of k) h
  where
    there : (o : Option Callee) → IsSome o → (callee : Callee) × (o ≡ Some callee)
    there None h = absurd (subst (λ (b : Bool). elim b as (λ _. Type 0) [ true ↦ ⊥ | false ↦ Unit {0} ]) h tt)
    there (Some c) h = (c, refl)

pub first_there : (code : CodeView) (c : CursorView) (k : Ask) (callee : Callee) → child_of k ≡ Some callee → IfSome (child_of k) (λ callee. c ≡ first_of code callee) → c ≡ first_of code callee
first_there code c k callee is h = subst (λ (o : Option Callee). IfSome o (λ callee. c ≡ first_of code callee)) is h

-- both kinds of requests that begin a child
pub function_invokes : (k : Ask) → IsFunctionCall k → IsSome (child_of k)
function_invokes (asks.Invoke how c) h = refl
function_invokes k h = absurd h
