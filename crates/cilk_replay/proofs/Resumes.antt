-- A frame that requests a spawn requests the `resume` after it: `resumes_asked`.
--
-- - `of_shape`: the event order is of the shape of the plan's run;
-- - `resume_deed`: the plan's deed of a `resume`;
-- - `goes_on`: by the points of the spawn and of the `resume`.
use Rattle.std.proofs.Common.{◌≡◌, inr, ℕ, zero, suc, ◌-◌, ◌<◌, List, [], ◌∷◌, ◌++◌, length, map, Some, refl, sym, ap, ap₂, ◌∙◌, subst, arith}
use Rattle.cilk_types.specs.declared.event.Event.{Event}
use Rattle.cilk_types.specs.declared.event.Event.TheVariants as events
use Rattle.cilk_types.specs.declared.event.Instance as numbered
use Rattle.cilk_types.specs.declared.invocation.Invocation.TheVariants.{Call, Spawn}
use Rattle.cilk_program.specs.declared.ask.Ask.{Ask}
use Rattle.cilk_tree.specs.Marks.{mark_of}
use Rattle.cilk_tree.specs.Shape.{Shape}
use Rattle.cilk_tree.specs.declared.kind.Kind.TheVariants as kinds
use Rattle.cilk_tree.specs.Kinds.{kind_of}
use Rattle.cilk_tree.proofs.Passed.{gives_predecessors}
use Rattle.cilk_determinacy.specs.Runs.{Cell, Instance, Reads, Writes, Syncs, Ends, Passes, Begins, Resumes, Creates, Updates, Sets, Values, Prints, Deed, Does, Invokes, Invoke, Pass, Resume}
use Rattle.cilk_determinacy.specs.Machine.{started}
use Rattle.cilk_determinacy.specs.Traces.{IsWritten, shape_of}
use Rattle.cilk_tree.specs.declared.event_order.EventOrder.{EventOrder}
use Rattle.cilk_tree.specs.Orders.{IsEventOrderOf}
use Rattle.cilk_tree.specs.Runs.{IsAsked, IsFollowed}
use Rattle.cilk_tree.specs.Word.{event, predecessors_of, plain, resume, word_step, IsWord}
use Rattle.cilk_tree.proofs.Events.{mark_at, resume_mark, spawn_of}
use Rattle.cilk_determinacy.specs.FrameEnvMachine.{asked_after, next}
use Rattle.cilk_determinacy.specs.FrameEnvs.{FrameEnv, child_env}
use Rattle.cilk_determinacy.specs.Nested.{named}
use Rattle.cilk_determinacy.specs.Numbers.{cell_number, instance_number}
use Rattle.cilk_determinacy.proofs.Determinate.{serial_numbered}
use Rattle.cilk_replay.specs.Frames.{same_frame}
use Rattle.cilk_replay.specs.Points.{Point, IsEventOf, IsLater, IsLikeDeed, asked_for}
use Rattle.cilk_replay.proofs.Resumed.{frames_resume}
use Rattle.cilk_replay.specs.Replays.{Setting, IsOfProgram, point_at}
use Rattle.cilk_replay.specs.Resumes.{ResumesAreAsked}
use Rattle.cilk_replay.proofs.OfKind.{some_inner, ask_for}
use Rattle.cilk_replay.proofs.Going.{got, here, following, plan_event}
use Rattle.cilk_replay.proofs.Resuming.{mark_in, mark_is, resumed}
use Rattle.cilk_replay.proofs.Behind.{behind_spawn}

-- ---- events of one kind

marks_by_kind : (es : List Event) → map mark_of es ≡ map mark_in (map kind_of es)
marks_by_kind [] = refl
marks_by_kind (e ∷ es) = ap₂ (λ m ms. m ∷ ms) (mark_is e) (marks_by_kind es)

same_marks : (es fs : List Event) → map kind_of es ≡ map kind_of fs → map mark_of es ≡ map mark_of fs
same_marks es fs kinds = marks_by_kind es ∙ ap (map mark_in) kinds ∙ sym (marks_by_kind fs)

kind_resumes : (e : Event) (f : ℕ) → kind_of e ≡ kinds.Resume f → e ≡ events.Resume f
kind_resumes (events.Resume g) f is = ap events.Resume (let z : g ≡ f = cc is in z)
kind_resumes e f is = absurd (cc is)

spawn_event : (e : Event) → mark_at (Some e) ≡ mark_at (Some (events.Spawn 0)) → (f : ℕ) × (e ≡ events.Spawn f)
spawn_event (events.Spawn f) is = (f, refl)
spawn_event e is = absurd (cc is)

resume_event : (e : Event) → mark_at (Some e) ≡ mark_at (Some (events.Resume 0)) → (f : ℕ) × (e ≡ events.Resume f)
resume_event (events.Resume f) is = (f, refl)
resume_event e is = absurd (cc is)

module _ (cell : Cell → ℕ) (instance : Instance → numbered.Instance) where
  -- the plan's deed of a `resume`
  resume_deed : (d : Deed FrameEnv) (f : ℕ) → IsWritten cell instance d (events.Resume f) → d ≡ Does (Passes Resumes)
  resume_deed (Does (Passes Resumes)) f is = refl
  resume_deed (Does (Passes Begins)) f is = absurd (let no = is.1 in cc no)
  resume_deed (Invokes Call w) f is = absurd (let no = is.1 in cc no)
  resume_deed (Invokes Spawn w) f is = absurd (let no = is.1 in cc no)
  resume_deed (Does (Reads c v)) f is = absurd (cc is)
  resume_deed (Does (Writes c v)) f is = absurd (cc is)
  resume_deed (Does Syncs) f is = absurd (cc is)
  resume_deed (Does (Ends v gone)) f is = absurd (cc is)
  resume_deed (Does (Passes (Creates i))) f is = absurd (cc is)
  resume_deed (Does (Passes (Updates i x))) f is = absurd (cc is)
  resume_deed (Does (Passes (Sets i x))) f is = absurd (cc is)
  resume_deed (Does (Passes (Values i x))) f is = absurd (cc is)
  resume_deed (Does (Passes (Prints x))) f is = absurd (cc is)

-- ---- the event order

module _ (s : Setting) (h : IsOfProgram s) where
  abbrev event_order : EventOrder
  event_order = s.event_order

  abbrev pub shape : Shape
  shape = shape_of (named s.program s.run)

  pub of_shape : IsEventOrderOf shape event_order
  of_shape =
      let n = serial_numbered s.program s.own s.run h.events h.is.outcome h.is.named h.is.runs in
      record { spells = same_marks event_order.events h.events h.along.kinds ∙ n.spells; preceding = h.along.preceding ∙ gives_predecessors shape h.events n.spells }

  goes_on : (i : ℕ) (x : Point FrameEnv) → point_at s i ≡ Some x → IsAsked event_order (suc i) → (f : ℕ) → event event_order (suc i) ≡ Some (events.Spawn f)
      → (j : ℕ) (y : Point FrameEnv) → point_at s j ≡ Some y → IsLater x y → (g : ℕ) → event event_order (suc j) ≡ Some (events.Resume g) → IsAsked event_order (suc j)
  goes_on i x is asked f spawns j y yis later g resumes =
      let at_spawn = here s h i x is in
      let a = at_spawn.1.asks asked in
      let k : Ask = (asked_after s.program s.inputs x.frame x.past).ask in
      let same : at_spawn.1.here ≡ events.Spawn f = some_inner at_spawn.1.here (events.Spawn f) (sym at_spawn.1.is ∙ spawns) in
      let callee = ask_for s.program s.run x.frame k (events.Spawn f) (subst (IsEventOf s.program s.run x.frame k) same a.event) in
      let child : FrameEnv = child_env s.program x.frame (suc (started x.past)) callee.0 in
      let deed : x.deed ≡ Invokes Spawn child = a.starts Spawn callee.0 callee.1 in
      let now : next s.program s.inputs x.frame x.past ≡ Some (Invoke Spawn child) = at_spawn.0.asks (at_spawn.1.asked.0 asked) ∙ ap (λ (d : Deed FrameEnv). Some (asked_for d)) deed in
      let past : y.past ≡ x.past ++ Invokes Spawn child ∷ [] = later.past ∙ ap (λ (d : Deed FrameEnv). x.past ++ d ∷ []) deed in
      let then_asks : next s.program s.inputs y.frame y.past ≡ Some (Pass Resume) =
      ap₂ (λ (w : FrameEnv) (l : List (Deed FrameEnv)). next s.program s.inputs w l) later.frame past ∙ frames_resume.next_is s.program s.inputs x.frame x.past Spawn child now in
      let at_resume = here s h j y yis in
      let plan = plan_event s h j (events.Resume g) resumes in
      let written = subst (IsWritten (cell_number s.program s.run) (instance_number s.program s.run) y.planned) (kind_resumes plan.0 g plan.2) (at_resume.1.plan plan.0 plan.1) in
      let planned : y.planned ≡ Does (Passes Resumes) = resume_deed (cell_number s.program s.run) (instance_number s.program s.run) y.planned g written in
      at_resume.1.asked.1 (at_resume.0.only (Does (Passes Resumes)) (subst (λ (d : Deed FrameEnv). IsLikeDeed (same_frame s.program) d (Does (Passes Resumes))) (sym planned) tt) then_asks)

  position : (p : ℕ) → IsWord (word_step event_order p) → (suc (p - 1) ≡ p) × (p - 1 < length event_order.events)
  position p is = let i = h.orderly.inside p is in let low = i.0 in let high = i.1 in (omega (arith, low), omega (arith, low, high))

  resumes : (k p : ℕ) → word_step event_order p ≡ resume k → IsAsked event_order k → IsAsked event_order p
  resumes k p is asked =
      let r = resume_mark event_order.events p (event event_order p) (predecessors_of event_order p) k is in
      let at_p = position p (subst IsWord (sym is) tt) in
      let at_k = position k (subst IsWord (sym (h.orderly.resumed p k is).0) tt) in
      let x = following s h (k - 1) at_k.1 in
      let y = resumed s h (k - 1) p x.0 (subst (λ (n : ℕ). word_step event_order p ≡ resume n) (sym at_k.0) is) x.1 in
      let e = got event_order.events (k - 1) at_k.1 in
      let f = got event_order.events (p - 1) at_p.1 in
      let spawns = spawn_event e.0 (ap mark_at (sym e.1) ∙ (spawn_of event_order.events k (event event_order k) [] r.spawned).0) in
      let back = resume_event f.0 (ap mark_at (sym f.1) ∙ r.mark) in
      let spawn_at : event event_order (suc (k - 1)) ≡ Some (events.Spawn spawns.0) = ap (event event_order) at_k.0 ∙ e.1 ∙ ap Some spawns.1 in
      let resume_at : event event_order (suc y.0) ≡ Some (events.Resume back.0) = ap (event event_order) y.1 ∙ f.1 ∙ ap Some back.1 in
      subst (IsAsked event_order) y.1 (goes_on (k - 1) x.0 x.1 (subst (IsAsked event_order) (sym at_k.0) asked) spawns.0 spawn_at y.0 y.2 y.3 y.4 back.0 resume_at)

  follows_spawn : (k p : ℕ) → word_step event_order p ≡ resume k → IsFollowed event_order (p - 1) → IsAsked event_order k
  follows_spawn k zero is followed = absurd (let i = h.orderly.inside zero (subst IsWord (sym is) tt) in let low = i.0 in omega (arith, low))
  follows_spawn k (suc zero) is followed = absurd (let no : plain ≡ resume k = sym h.orderly.root.0 ∙ is in cc no)
  follows_spawn k (suc (suc z)) is followed =
      let i = h.orderly.inside (suc (suc z)) (subst IsWord (sym is) tt) in
      let high = i.1 in
      let back : suc (suc z) - 1 ≡ suc z = omega arith in
      subst (IsFollowed event_order) back followed k (inr (behind_spawn shape event_order of_shape k (suc z) (omega arith) (omega (arith, high)) is))

  pub resumes_asked : ResumesAreAsked event_order
  resumes_asked = record { spawned = resumes; ended = λ k p is followed. resumes k p is (follows_spawn k p is followed) }
