-- The frames of a serial run, noted as its events are made.
--
-- - `NotedSoFar`: the frames that the first events begin, and the count of cells; `noted_first`,
--   `noted_all`: for no events and for all events;
-- - `room`, `noted_some`, `noted_none`: one more event, which begins a frame or none;
-- - `noted_start`, `own_there`, `none_there`, `made_by`, `small_room`, `noted_more`, `noted_same`,
--   `noted_whole`: the same in the form that the loop over the run's events needs;
-- - `Noted`, `noted_on`, `smaller`: the loop's invariant, and further events that begin no frame.
use Rattle.std.proofs.Common.{◌≡◌, ℕ, zero, suc, ◌+◌, ◌-◌, ◌<◌, ◌≤◌, ℤ, List, [], ◌∷◌, ◌++◌, length, take, All, Option, Some, None, slice_get, option_map, refl, sym, ap, ◌∙◌, subst, arith, append_assoc, length-append}
use Rattle.std.proofs.lemmas.List.{take_all}
use Rattle.cilk_lower.specs.Layout.{LaysOut, cells_in}
use Rattle.cilk_lower.specs.declared.layout.Layout.{Layout}
use Rattle.cilk_types.specs.declared.event.Event.{Event}
use Rattle.cilk_types.specs.declared.event.Event.TheVariants as events
use Rattle.cilk_types.specs.declared.limits.TheConstants.{MAX_CELLS, MAX_EVENTS}
use Rattle.cilk_types.specs.declared.outcome.Outcome.{Outcome}
use Rattle.cilk_program.specs.declared.ask.Callee.{Callee}
use Rattle.cilk_program.specs.declared.ask.Callee.TheVariants.{Root}
use Rattle.cilk_program.specs.declared.program.Program.{Program}
use Rattle.cilk_program.specs.Inside.{body_of}
use Rattle.cilk_program.specs.Outcomes.{Conclusion, Leaves}
use Rattle.cilk_program.specs.SerialRun.{Transcript, IsSerialRun, cells_of}
use Rattle.cilk_program.specs.Syntax.{Source}
use Rattle.cilk_program.specs.Sources.{source}
use Rattle.cilk_serial.specs.declared.serial_run.Next.{Next}
use Rattle.cilk_serial.specs.declared.serial_run.Next.TheVariants as next
use Rattle.cilk_serial.specs.Ran.{Ran}
use Rattle.cilk_serial.specs.SoFar.{RunView, RunsOn, Comes, IsIntact, IsSoFar, EndsNext, MakesNext, BeginsNext, BeginsNoFrame, begun_in, callees_of, callee_at}
use Rattle.cilk_serial.proofs.SoFar.{is_short}
use Rattle.cilk_checker.specs.declared.frames.Own.{Own}
use Rattle.cilk_lower.specs.declared.layout.PlannedFrame.{PlannedFrame}
use Rattle.cilk_checker.specs.Frames.{AreFramesIn, frame_begun, frames_from}
use Rattle.cilk_checker.proofs.Beginning.{begun_after, frames_after, IsNext, order_at, after_append, after_grows, none_after, cells_after, cells_append, fits_at, run_in_order, run_fits}

-- the callees of the frames that these events begin, with the first frame
abbrev pub begun_by : List Event → Transcript → List Callee
begun_by es run = take (frames_after 1 es) (callees_of run)

-- of whichever serial run makes these events first
pub record NotedSoFar (p : Source) (inputs : List ℤ) (es : List Event) (frames : List PlannedFrame) (many : ℕ) : Type 0 where
  pub noted : (run : Transcript) (rest : List Event) (c : Conclusion) → IsSerialRun p inputs run (es ++ rest) c → frames ≡ frames_from p (length p.openings) (begun_by es run)
  pub cells : (run : Transcript) (rest : List Event) (c : Conclusion) → IsSerialRun p inputs run (es ++ rest) c → many ≡ cells_after p (length p.openings) (begun_by es run)

take_one : (l : List Callee) → take 1 (Root ∷ l) ≡ Root ∷ []
take_one [] = refl
take_one (x ∷ l) = refl

pub noted_first : (p : Source) (inputs : List ℤ) (frames : List PlannedFrame) (cells : ℕ) → frames ≡ frame_begun p (length p.openings) Root ∷ []
    → cells ≡ length p.openings + cells_of p Root → NotedSoFar p inputs [] frames cells
noted_first p inputs frames cells is many = record {
  noted = λ run rest c serial. is ∙ ap (frames_from p (length p.openings)) (sym (take_one (begun_in run)));
  cells = λ run rest c serial. many ∙ ap (cells_after p (length p.openings)) (sym (take_one (begun_in run)));
}

-- ---- lists

take_next : (l : List Callee) (k : ℕ) (c : Callee) → slice_get l k ≡ Some c → take (suc k) l ≡ take k l ++ c ∷ []
take_next [] k c is = absurd (let z : None ≡ Some c = is in cc z)
take_next (x ∷ l) zero c is = let z : Some x ≡ Some c = is in let same : x ≡ c = cc z in ap (λ (y : Callee). y ∷ []) same
take_next (x ∷ l) (suc k) c is = ap (λ (z : List Callee). x ∷ z) (take_next l k c is)

take_whole : (l : List Callee) → take (1 + length l) (Root ∷ l) ≡ Root ∷ l
take_whole l = take_all (1 + length l) (Root ∷ l) (omega arith)

none_more : (es : List Event) → es ++ [] ≡ es
none_more [] = refl
none_more (e ∷ es) = ap (λ (l : List Event). e ∷ l) (none_more es)

one_more : (es : List Event) (e : Event) (rest : List Event) → (es ++ e ∷ []) ++ rest ≡ es ++ e ∷ rest
one_more [] e rest = refl
one_more (x ∷ es) e rest = ap (λ (l : List Event). x ∷ l) (one_more es e rest)

first_of : (l m : List Event) → take (length l) (l ++ m) ≡ l
first_of [] m = refl
first_of (e ∷ l) m = ap (λ (z : List Event). e ∷ z) (first_of l m)

at_end : (es : List Event) (e : Event) (rest : List Event) → slice_get (es ++ e ∷ rest) (length es) ≡ Some e
at_end [] e rest = refl
at_end (x ∷ es) e rest = at_end es e rest

frames_append : (p : Source) (n : ℕ) (xs : List Callee) (c : Callee) → frames_from p n (xs ++ c ∷ []) ≡ frames_from p n xs ++ frame_begun p (cells_after p n xs) c ∷ []
frames_append p n [] c = refl
frames_append p n (x ∷ xs) c = ap (λ (z : List PlannedFrame). frame_begun p n x ∷ z) (frames_append p (n + cells_of p x) xs c)

-- ---- one more event

begun_now : (cs : List Callee) (k : ℕ) (e : Event) (c : Callee) → IsNext k e → callee_at cs e ≡ Some c → (begun_after k e ≡ suc k) × (slice_get cs k ≡ Some c)
begun_now cs k (events.Spawn n) c is at = let same : n - 1 ≡ k = omega (arith, is) in (refl, ap (slice_get cs) (sym same) ∙ at)
begun_now cs k (events.Call n) c is at = let same : n - 1 ≡ k = omega (arith, is) in (refl, ap (slice_get cs) (sym same) ∙ at)
begun_now cs k e c is at = absurd (cc at)

there : (cs : List Callee) (k : ℕ) → k < length cs → slice_get cs k ≡ None → ⊥
there [] k less is = omega (arith, less)
there (x ∷ cs) zero less is = let z : Some x ≡ None = is in cc z
there (x ∷ cs) (suc k) less is = there cs k (omega (arith, less)) is

none_now : (cs : List Callee) (k : ℕ) (e : Event) → IsNext k e → begun_after k e ≤ length cs → callee_at cs e ≡ None → begun_after k e ≡ k
none_now cs k (events.Spawn n) is most at = absurd (there cs (n - 1) (omega (arith, is, most)) at)
none_now cs k (events.Call n) is most at = absurd (there cs (n - 1) (omega (arith, is, most)) at)
none_now cs k e is most at = refl

module _ (p : Source) (inputs : List ℤ) (es : List Event) (e : Event) (callee : Option Callee) (begins : BeginsNext p inputs es callee) where
  -- a serial run that makes these events first, and then this one
  abbrev Runs : Transcript → List Event → Conclusion → Type 0
  Runs run rest c = IsSerialRun p inputs run (es ++ e ∷ rest) c

  so : (run : Transcript) (rest : List Event) (c : Conclusion) → IsSerialRun p inputs run ((es ++ e ∷ []) ++ rest) c → Runs run rest c
  so run rest c serial = subst (λ (l : List Event). IsSerialRun p inputs run l c) (one_more es e rest) serial

  told : (run : Transcript) (rest : List Event) (c : Conclusion) → Runs run rest c → callee_at (callees_of run) e ≡ callee
  told run rest c serial = begins run (es ++ e ∷ rest) c e serial (at_end es e rest)

  numbered : (run : Transcript) (rest : List Event) (c : Conclusion) → Runs run rest c → IsNext (frames_after 1 es) e
  numbered run rest c serial =
      let b = run_in_order p inputs run (es ++ e ∷ rest) c serial in
      subst (λ (l : List Event). IsNext (frames_after 1 l) e) (first_of es (e ∷ rest)) (order_at 1 (es ++ e ∷ rest) (length es) e b.order (at_end es e rest))

  after : frames_after 1 (es ++ e ∷ []) ≡ begun_after (frames_after 1 es) e
  after = after_append 1 es (e ∷ [])

  most : (run : Transcript) (rest : List Event) (c : Conclusion) → Runs run rest c → begun_after (frames_after 1 es) e ≤ length (callees_of run)
  most run rest c serial =
      let all = (run_in_order p inputs run (es ++ e ∷ rest) c serial).all in
      let low = after_grows (begun_after (frames_after 1 es) e) rest in
      let both = after_append 1 es (e ∷ rest) in omega (arith, all, low, both)

  begun : (run : Transcript) (rest : List Event) (c : Conclusion) → Runs run rest c → (d : Callee) → callee ≡ Some d
      → (begun_after (frames_after 1 es) e ≡ suc (frames_after 1 es)) × (slice_get (callees_of run) (frames_after 1 es) ≡ Some d)
  begun run rest c serial d some = begun_now (callees_of run) (frames_after 1 es) e d (numbered run rest c serial) (told run rest c serial ∙ some)

  -- the cells of another frame fit
  pub room : IsSoFar p inputs (es ++ e ∷ []) → (frames : List PlannedFrame) (cells : ℕ) (d : Callee) → NotedSoFar p inputs es frames cells → callee ≡ Some d → cells + cells_of p d ≤ MAX_CELLS
  room is frames cells d so_far some = of_run is.run is.rest is.conclusion (so is.run is.rest is.conclusion is.serial)
    where
      by : (run : Transcript) (rest : List Event) (c : Conclusion) → Runs run rest c → (k : ℕ) → 1 ≤ k → slice_get (callees_of run) k ≡ Some d
          → cells ≡ cells_after p (length p.openings) (take k (callees_of run)) → cells + cells_of p d ≤ MAX_CELLS
      by run rest c serial zero low at many = absurd (omega (arith, low))
      by run rest c serial (suc j) low at many =
          subst (λ (n : ℕ). n + cells_of p d ≤ MAX_CELLS) (sym many)
          (fits_at p (length p.openings + cells_of p Root) (begun_in run) j d (run_fits p inputs run (es ++ e ∷ rest) c serial) at)

      of_run : (run : Transcript) (rest : List Event) (c : Conclusion) → Runs run rest c → cells + cells_of p d ≤ MAX_CELLS
      of_run run rest c serial = by run rest c serial (frames_after 1 es) (after_grows 1 es) ((begun run rest c serial d some).1) (so_far.cells run (e ∷ rest) c serial)

  pub noted_some : (frames frames' : List PlannedFrame) (cells cells' : ℕ) (d : Callee) → NotedSoFar p inputs es frames cells → callee ≡ Some d
      → frames' ≡ frames ++ frame_begun p cells d ∷ [] → cells' ≡ cells + cells_of p d → NotedSoFar p inputs (es ++ e ∷ []) frames' cells'
  noted_some frames frames' cells cells' d so_far some more count = record {
    noted = λ run rest c serial. more
        ∙ (ap (λ (n : ℕ). frames ++ frame_begun p n d ∷ []) (so_far.cells run (e ∷ rest) c (so run rest c serial))
        ∙ (ap (λ (l : List PlannedFrame). l ++ frame_begun p (cells_after p (length p.openings) (begun_by es run)) d ∷ []) (so_far.noted run (e ∷ rest) c (so run rest c serial))
        ∙ (sym (frames_append p (length p.openings) (begun_by es run) d) ∙ ap (frames_from p (length p.openings)) (sym (longer run rest c (so run rest c serial))))));
    cells = λ run rest c serial. count
        ∙ (ap (λ (n : ℕ). n + cells_of p d) (so_far.cells run (e ∷ rest) c (so run rest c serial))
        ∙ (sym (cells_append p (length p.openings) (begun_by es run) (d ∷ [])) ∙ ap (cells_after p (length p.openings)) (sym (longer run rest c (so run rest c serial)))));
  }
    where
      longer : (run : Transcript) (rest : List Event) (c : Conclusion) → Runs run rest c → begun_by (es ++ e ∷ []) run ≡ begun_by es run ++ d ∷ []
      longer run rest c serial =
          let now = begun run rest c serial d some in
          ap (λ (k : ℕ). take k (callees_of run)) (after ∙ now.0) ∙ take_next (callees_of run) (frames_after 1 es) d now.1

  pub noted_none : (frames : List PlannedFrame) (cells : ℕ) → NotedSoFar p inputs es frames cells → callee ≡ None → NotedSoFar p inputs (es ++ e ∷ []) frames cells
  noted_none frames cells so_far none = record {
    noted = λ run rest c serial. so_far.noted run (e ∷ rest) c (so run rest c serial) ∙ ap (λ (k : ℕ). frames_from p (length p.openings) (take k (callees_of run))) (same run rest c (so run rest c serial));
    cells = λ run rest c serial. so_far.cells run (e ∷ rest) c (so run rest c serial) ∙ ap (λ (k : ℕ). cells_after p (length p.openings) (take k (callees_of run))) (same run rest c (so run rest c serial));
  }
    where
      same : (run : Transcript) (rest : List Event) (c : Conclusion) → Runs run rest c → frames_after 1 es ≡ frames_after 1 (es ++ e ∷ [])
      same run rest c serial = sym (after ∙ none_now (callees_of run) (frames_after 1 es) e (numbered run rest c serial) (most run rest c serial) (told run rest c serial ∙ none))

-- ---- all events

pub noted_all : (p : Source) (inputs : List ℤ) (es : List Event) (o : Outcome) (frames : List PlannedFrame) (cells : ℕ) → NotedSoFar p inputs es frames cells → AreFramesIn p inputs es o frames
noted_all p inputs es o frames cells so_far run serial =
    let many : frames_after 1 es ≡ 1 + length (begun_in run) = (run_in_order p inputs run es (Leaves o) serial).all in
    so_far.noted run [] (Leaves o) (subst (λ (l : List Event). IsSerialRun p inputs run l (Leaves o)) (sym (none_more es)) serial)
    ∙ ap (frames_from p (length p.openings)) (ap (λ (k : ℕ). take k (callees_of run)) many ∙ take_whole (begun_in run))

-- ---- as the loop has it

pub noted_start : (prog : Program) (inputs : List ℤ) (l : Layout) → LaysOut (source prog) l → (es : List Event) → es ≡ [] → (frames : List PlannedFrame) (globals cells : ℕ)
    → globals ≡ length prog.globals → frames ≡ record { body = body_of (source prog) Root; first_cell = globals; cells = cells_in l Root } ∷ [] → cells ≡ globals + cells_in l Root
    → NotedSoFar (source prog) inputs es frames cells
noted_start prog inputs l laid es none frames globals cells many is more =
    let here : globals ≡ length (source prog).openings = many in
    let of_root = laid.cells Root in
    subst (λ (events : List Event). NotedSoFar (source prog) inputs events frames cells) (sym none)
    (noted_first (source prog) inputs frames cells
    (is ∙ (ap (λ (n : ℕ). record { body = body_of (source prog) Root; first_cell = n; cells = cells_in l Root } ∷ []) here
    ∙ ap (λ (n : ℕ). record { body = body_of (source prog) Root; first_cell = length (source prog).openings; cells = n } ∷ []) of_root))
    (omega (arith, more, here, of_root)))

pub own_there : (f : Callee → Own) (callee : Option Callee) (found : Option Own) (o : Own) → found ≡ option_map f callee → found ≡ Some o → (d : Callee) × (callee ≡ Some d) × (o ≡ f d)
own_there f None found o is some = absurd (let z : None ≡ Some o = sym is ∙ some in cc z)
own_there f (Some d) found o is some = let z : Some (f d) ≡ Some o = sym is ∙ some in let same : f d ≡ o = cc z in (d, refl, sym same)

pub none_there : (f : Callee → Own) (callee : Option Callee) (found : Option Own) → found ≡ option_map f callee → found ≡ None → callee ≡ None
none_there f None found is none = refl
none_there f (Some d) found is none = absurd (let z : Some (f d) ≡ None = sym is ∙ none in cc z)

pub made_by : (v v' : RunView) (n : Next) (e : Event) → n ≡ next.Made e → Comes v n v' → MakesNext v e v'
made_by v v' n e is comes = subst (λ (m : Next). Comes v m v') is comes

-- the run is that of this program on this input, and the frames begun so far are noted
pub record Noted (prog : Program) (input : List ℤ) (v : RunView) (frames : List PlannedFrame) (cells : ℕ) : Type 0 where
  pub program : v.program ≡ prog
  pub inputs : v.inputs ≡ input
  pub noted : NotedSoFar (source prog) input v.events frames cells

-- further events, which begin no frame
further : (p : Source) (inputs : List ℤ) (es more : List Event) → All BeginsNoFrame more → (frames : List PlannedFrame) (cells : ℕ) → NotedSoFar p inputs es frames cells → NotedSoFar p inputs (es ++ more) frames cells
further p inputs es more none frames cells so_far = record {
  noted = λ run rest c serial. so_far.noted run (more ++ rest) c (apart run rest c serial) ∙ ap (frames_from p (length p.openings)) (same run);
  cells = λ run rest c serial. so_far.cells run (more ++ rest) c (apart run rest c serial) ∙ ap (cells_after p (length p.openings)) (same run);
}
  where
    apart : (run : Transcript) (rest : List Event) (c : Conclusion) → IsSerialRun p inputs run ((es ++ more) ++ rest) c → IsSerialRun p inputs run (es ++ (more ++ rest)) c
    apart run rest c serial = subst (λ (l : List Event). IsSerialRun p inputs run l c) (append_assoc es more rest) serial

    same : (run : Transcript) → begun_by es run ≡ begun_by (es ++ more) run
    same run = ap (λ (k : ℕ). take k (callees_of run)) (sym (after_append 1 es more ∙ none_after (frames_after 1 es) more none))

pub noted_on : (prog : Program) (inputs : List ℤ) (v v' : RunView) (frames : List PlannedFrame) (cells : ℕ) → RunsOn v v' → Noted prog inputs v frames cells → Noted prog inputs v' frames cells
noted_on prog inputs v v' frames cells on h = record {
  program = on.program ∙ h.program;
  inputs = on.inputs ∙ h.inputs;
  noted = subst (λ (es : List Event). NotedSoFar (source prog) inputs es frames cells) (sym on.events) (further (source prog) inputs v.events on.more on.begins_none frames cells h.noted);
}

pub smaller : (v w v' : RunView) (e : Event) → RunsOn v w → MakesNext w e v' → MAX_EVENTS - length v'.events < MAX_EVENTS - length v.events
smaller v w v' e on makes =
    let short = is_short _ _ _ makes.so_far in
    let some = ap length on.events in
    let first = length-append v.events on.more in
    let more = ap length makes.events in
    let sum = length-append w.events (e ∷ []) in
    omega (arith, short, some, first, more, sum)

module _ (prog : Program) (inputs : List ℤ) (v v' : RunView) (e : Event) (makes : MakesNext v e v') (program : v.program ≡ prog) (of_inputs : v.inputs ≡ inputs) (intact : IsIntact v.stage)
    (callee : Option Callee) (begins : IsIntact v.stage → BeginsNext (source v.program) v.inputs v.events callee) (frames : List PlannedFrame) (cells : ℕ)
    (so_far : NotedSoFar (source prog) inputs v.events frames cells) where
  here : BeginsNext (source prog) inputs v.events callee
  here =
      subst (λ (ns : List ℤ). BeginsNext (source prog) ns v.events callee) of_inputs
      (subst (λ (q : Program). BeginsNext (source q) v.inputs v.events callee) program (begins intact))

  made : IsSoFar (source prog) inputs (v.events ++ e ∷ [])
  made =
      subst (IsSoFar (source prog) inputs) makes.events
      (subst (λ (ns : List ℤ). IsSoFar (source prog) ns v'.events) of_inputs
      (subst (λ (q : Program). IsSoFar (source q) v.inputs v'.events) program makes.so_far))

  pub small_room : (d : Callee) → callee ≡ Some d → cells < 4294967296
  small_room d some = let fits = room (source prog) inputs v.events e callee here made frames cells d so_far some in omega (arith, fits)

  pub noted_more : (l : Layout) → LaysOut (source prog) l → (frames' : List PlannedFrame) (cells' : ℕ) (d : Callee) → callee ≡ Some d
      → frames' ≡ frames ++ record { body = body_of (source prog) d; first_cell = cells; cells = cells_in l d } ∷ [] → cells' ≡ cells + cells_in l d
      → NotedSoFar (source prog) inputs v'.events frames' cells'
  noted_more l laid frames' cells' d some longer more =
      let of_callee = laid.cells d in
      subst (λ (es : List Event). NotedSoFar (source prog) inputs es frames' cells') (sym makes.events)
      (noted_some (source prog) inputs v.events e callee here frames frames' cells cells' d so_far some
      (longer ∙ ap (λ (n : ℕ). frames ++ record { body = body_of (source prog) d; first_cell = cells; cells = n } ∷ []) of_callee) (omega (arith, more, of_callee)))

  pub noted_same : callee ≡ None → NotedSoFar (source prog) inputs v'.events frames cells
  noted_same none =
      subst (λ (es : List Event). NotedSoFar (source prog) inputs es frames cells) (sym makes.events)
      (noted_none (source prog) inputs v.events e callee here frames cells so_far none)

pub noted_whole : (prog : Program) (inputs : List ℤ) (v v' : RunView) (n : Next) → n ≡ next.Ended → Comes v n v' → v.program ≡ prog → v.inputs ≡ inputs → (frames : List PlannedFrame) (cells : ℕ)
    → NotedSoFar (source prog) inputs v.events frames cells → (o : Outcome) (es : List Event) → Ran (source v'.program) v'.inputs o es → es ≡ v'.events
    → Ran (source prog) inputs o es × AreFramesIn (source prog) inputs es o frames
noted_whole prog inputs v v' n is comes program of_inputs frames cells so_far o es ran all =
    let ends : EndsNext v v' = subst (λ (m : Next). Comes v m v') is comes in
    let same : v' ≡ v = ends.same in (
      subst (λ (ns : List ℤ). Ran (source prog) ns o es) (ap (λ (w : RunView). w.inputs) same ∙ of_inputs)
          (subst (λ (q : Program). Ran (source q) v'.inputs o es) (ap (λ (w : RunView). w.program) same ∙ program) ran),
      noted_all (source prog) inputs es o frames cells
          (subst (λ (l : List Event). NotedSoFar (source prog) inputs l frames cells) (sym (all ∙ ap (λ (w : RunView). w.events) same)) so_far),
    )
