-- A `sync` awaits children that are spawned in its block.
--
-- - `of_plan`: in the plan of a run by names; `serial_awaits`: of a serial run;
-- - `awaits_along`: along such a plan; `replay_awaits`: in a replay's event order.
use Rattle.std.proofs.Common.{◌≡◌, ℕ, zero, suc, ◌+◌, ◌-◌, ◌<◌, ◌≤◌, ℤ, List, [], ◌∷◌, length, map, Option, Some, None, true, slice_get, slice_index_or, refl, sym, ap, ◌∙◌, subst, arith}
use Rattle.std.proofs.lemmas.Option.{slice_get_within}
use Rattle.cilk_types.specs.declared.event.Event.{Event}
use Rattle.cilk_types.specs.declared.event.Event.TheVariants as events
use Rattle.cilk_program.specs.Outcomes.{Leaves}
use Rattle.cilk_program.specs.SerialRun.{Transcript}
use Rattle.cilk_program.specs.Syntax.{Source}
use Rattle.cilk_tree.specs.Along.{IsAlong}
use Rattle.cilk_tree.specs.Blocks.{SyncsAt}
use Rattle.cilk_tree.specs.Frames.{IsInFrame}
use Rattle.cilk_tree.specs.Orders.{IsOrderly}
use Rattle.cilk_tree.specs.Planned.{planned}
use Rattle.cilk_tree.specs.Races.{event_at}
use Rattle.cilk_tree.specs.Reach.{Among, preceding}
use Rattle.cilk_tree.specs.Shape.{Spells}
use Rattle.cilk_tree.specs.Word.{is_spawn, predecessors_of, resume, spawn, word_event, word_step}
use Rattle.cilk_tree.specs.declared.event_order.EventOrder.{EventOrder}
use Rattle.cilk_tree.proofs.AlongPlans.{along_orderly, same_resume}
use Rattle.cilk_tree.proofs.Events.{mark_at, return_what}
use Rattle.cilk_tree.proofs.Framed.{begins}
use Rattle.cilk_tree.proofs.Lines.{laid_whole}
use Rattle.cilk_tree.proofs.Passed.{gives_predecessors}
use Rattle.cilk_tree.proofs.Reaches.{among_none}
use Rattle.cilk_determinacy.specs.Runs.{Name}
use Rattle.cilk_determinacy.specs.FrameEnvs.{first_env}
use Rattle.cilk_determinacy.specs.Nested.{named}
use Rattle.cilk_determinacy.specs.Numbers.{AreNumbered, AreOneToOne, IsHere, frame_number}
use Rattle.cilk_determinacy.specs.Traces.{IsFramed, begin_due, shape_of}
use Rattle.cilk_replay.specs.Awaited.{IsEndOf, SerialSyncsAwaitSpawns, SyncsAwaitSpawns}
use Rattle.cilk_replay.specs.Owned.{AreTheFrames, maker_numbers, makers}
use Rattle.cilk_determinacy.proofs.Determinate.{serial_numbered}
use Rattle.cilk_determinacy.proofs.Numbered.{events_numbered}
use Rattle.cilk_determinacy.proofs.Numbers.{one_to_one}
use Rattle.cilk_determinacy.proofs.Sights.{root_here}
use Rattle.cilk_replay.specs.Replays.{IsOfProgram, Setting}
use Rattle.cilk_replay.proofs.AlongBlocks.{back, spawn_of, sync_along}
use Rattle.cilk_replay.proofs.Owned.{in_their_frames}
use Rattle.cilk_replay.proofs.Awaiting.{At, Found, MadeBelow, Shows, are_named, at_lists, awaits, many_events, size, within}

-- ---- lists by positions, which count from 1

shows_from : {A : Type 0} (xs : List A) → Shows (λ (q : ℕ). slice_get xs (q - 1)) 1 xs
shows_from xs i x is = let z : 1 + i - 1 ≡ i = omega arith in ap (slice_get xs) z ∙ is

abbrev number_or : (f : Name → ℕ) → Option Name → ℕ
number_or f None = 0
number_or f (Some m) = f m

number_at : (f : Name → ℕ) (ms : List Name) (i : ℕ) → slice_index_or (map f ms) i 0 ≡ number_or f (slice_get ms i)
number_at f [] i = refl
number_at f (m ∷ ms) zero = refl
number_at f (m ∷ ms) (suc i) = number_at f ms i

spawn_is : (o : Option Event) (n : ℕ) → o ≡ Some (events.Spawn n) → is_spawn o ≡ true
spawn_is o n is = ap is_spawn is

module _ (p : Source) (r : Transcript) (es : List Event) (opening : List ℤ) (numbers : AreNumbered p r es) (one : AreOneToOne p r) (root : IsHere p r [])
    (framed : IsFramed begin_due (named p r)) (spells : Spells (shape_of (named p r)) es) (owned : AreTheFrames es (maker_numbers p r)) where
  ms : List Name
  ms = makers [] (named p r)

  abbrev ev : ℕ → Option Event
  ev = event_at es

  abbrev mk : ℕ → Option Name
  mk q = slice_get (makers [] (named p r)) (q - 1)

  abbrev f : ℕ → List ℕ
  f = preceding (shape_of (named p r))

  many : length es ≡ size (named p r)
  many = ap length numbers.events ∙ many_events p r [] (named p r)

  place : (q : ℕ) (e : Event) → ev q ≡ Some e → q < 1 + size (named p r)
  place q e is = let l = slice_get_within es (q - 1) e is in let m = many in omega (arith, l, m)

  -- the event is in the frame with its maker's number
  inside : (q : ℕ) (e : Event) (m : Name) → 1 ≤ q → ev q ≡ Some e → mk q ≡ Some m → IsInFrame es q (frame_number p r m)
  inside q e m low is made =
      let l = slice_get_within es (q - 1) e is in
      let same : q - 1 + 1 ≡ q = omega (arith, low) in
      let number : slice_index_or (maker_numbers p r) (q - 1) 0 ≡ frame_number p r m = number_at (frame_number p r) (makers [] (named p r)) (q - 1) ∙ ap (number_or (frame_number p r)) made in
      subst (λ (x : ℕ). IsInFrame es x (frame_number p r m)) same (subst (λ (n : ℕ). IsInFrame es (q - 1 + 1) n) number (owned.each.each (q - 1) l))

  first_begins : (q n : ℕ) → ev q ≡ Some (events.Spawn n) → 1 ≤ q
  first_begins zero n is = let b = begins (shape_of (named p r)) es spells in absurd (let z : Some (events.Spawn n) ≡ Some (events.Begin b.0) = sym is ∙ b.1 in cc z)
  first_begins (suc q) n is = omega arith

  all : At p r ev mk [] (named p r) 1
  all = at_lists p r ev mk [] (named p r) 1 (subst (λ (l : List Event). Shows ev 1 l) numbers.events (shows_from es)) (shows_from (makers [] (named p r)))

  maker_at : (x : ℕ) → 1 ≤ x → x < 1 + size (named p r) → MadeBelow p r ev mk [] x
  maker_at x low lt = within p r ev mk [] (named p r) 1 (are_named p (first_env p) 1 r) root numbers.here all x low lt

  here_at : (x : ℕ) (m : Name) → 1 ≤ x → x < 1 + size (named p r) → mk x ≡ Some m → IsHere p r m
  here_at x m low lt made =
      let b = maker_at x low lt in
      let same : b.maker ≡ m = (let z : Some b.maker ≡ Some m = sym b.made ∙ made in cc z) in
      subst (IsHere p r) same b.here

  -- a `sync` in the frame with this name's number is made by the frame of this name
  maker_is : (name : Name) (x : ℕ) → 1 ≤ x → IsHere p r name → SyncsAt es (frame_number p r name) x → mk x ≡ Some name
  maker_is name x low here syncs =
      let b = maker_at x low (place x events.Sync syncs.0) in
      let l = slice_get_within es (x - 1) events.Sync syncs.0 in
      let same : x - 1 + 1 ≡ x = omega (arith, low) in
      let number : slice_index_or (maker_numbers p r) (x - 1) 0 ≡ frame_number p r b.maker = number_at (frame_number p r) (makers [] (named p r)) (x - 1) ∙ ap (number_or (frame_number p r)) b.made in
      let there : frame_number p r name ≡ slice_index_or (maker_numbers p r) (x - 1) 0 =
      owned.only (x - 1) (frame_number p r name) l (subst (λ (n : ℕ). IsInFrame es n (frame_number p r name)) (sym same) syncs.1) in
      b.made ∙ ap Some (sym (one.frames name b.maker here b.here (there ∙ number)))

  found_awaits : (q e : ℕ) → 1 ≤ q → ev q ≡ Some events.Sync → Found p r ev mk f q e → (k : ℕ) × IsEndOf (planned es opening) q k e
  found_awaits q e low is found =
      let owed = found.owed in
      let k = owed.spawn_at in
      let name = found.maker in
      let s : EventOrder = planned es opening in
      let first = first_begins k owed.number owed.spawned in
      let steps : word_step s k ≡ spawn = ap (λ (o : Option Event). word_event es k o (predecessors_of s k)) owed.spawned in
      let preds : predecessors_of s (e + 1) ≡ f (e + 1) = ap (λ (l : List (List ℕ)). slice_index_or l (e + 1 - 1) []) (gives_predecessors (shape_of (named p r)) es spells) in
      let next : e + 1 ≡ suc e = omega arith in
      let resumes : ev (e + 1) ≡ Some (events.Resume owed.parent) = ap ev next ∙ owed.resumes in
      let back : word_step s (e + 1) ≡ resume k =
      return_what es (e + 1) (ev (e + 1)) (predecessors_of s (e + 1)) k (ap mark_at resumes) (preds ∙ ap f next ∙ owed.alone) (spawn_is (ev k) owed.number owed.spawned) in
      let g = frame_number p r name in (
        k,
        record {
          spawned = record {
            spawns = steps;
            ends = (
              g,
              inside k (events.Spawn owed.number) name first owed.spawned owed.made,
              record {
                later = owed.ahead;
                syncs = (is, inside q events.Sync name low is found.made);
                first = λ x after before syncs. owed.none x after before syncs.0 (maker_is name x (omega (arith, after)) (here_at q name low (place q events.Sync is) found.made) syncs);
              },
            );
          };
          resumes = back;
        },
      )

  pub of_plan : SyncsAwaitSpawns (planned es opening)
  of_plan zero e is am far = absurd (among_none (subst (λ (l : List ℕ). Among e l) (ap (λ (l : List (List ℕ)). slice_index_or l 0 []) (gives_predecessors (shape_of (named p r)) es spells)) am))
  of_plan (suc i) e is am far =
      let preds : predecessors_of (planned es opening) (suc i) ≡ f (suc i) = ap (λ (l : List (List ℕ)). slice_index_or l (suc i - 1) []) (gives_predecessors (shape_of (named p r)) es spells) in
      found_awaits (suc i) e (omega arith) is
      (awaits p r ev mk f begin_due (named p r) [] 1 [] [] framed (are_named p (first_env p) 1 r) root numbers.here all (laid_whole (shape_of (named p r))) tt (λ d a. absurd (among_none a))
      (suc i) e (omega arith) (place (suc i) events.Sync is) is (subst (λ (l : List ℕ). Among e l) preds am) far)

pub serial_awaits : SerialSyncsAwaitSpawns
serial_awaits p inputs r es outcome opening well runs =
    let n = serial_numbered p inputs r es outcome well runs in
    of_plan p r es opening (events_numbered p inputs r es (Leaves outcome) well runs) (one_to_one p r) (root_here p r) n.framed n.spells (in_their_frames p inputs r es outcome well runs)

-- ---- on another input

pub awaits_along : (plan s : EventOrder) → IsAlong plan s → IsOrderly s → SyncsAwaitSpawns plan → SyncsAwaitSpawns s
awaits_along plan s along order h q e is am far =
    let order' = along_orderly s plan order (back plan s along) in
    let there : Among e (predecessors_of plan q) = subst (λ (l : List (List ℕ)). Among e (slice_index_or l (q - 1) [])) along.preceding am in
    let found = h q e (sync_along plan.events s.events (sym along.kinds) q is) there far in
    let child = found.1 in (
      found.0,
      record {
        spawned = spawn_of plan s along order' order q found.0 child.spawned;
        resumes = (same_resume plan s along (e + 1) found.0).1 child.resumes;
      },
    )

pub replay_awaits : (s : Setting) → IsOfProgram s → SyncsAwaitSpawns s.event_order
replay_awaits s h =
    let o = s.event_order in
    awaits_along (planned h.events o.opening) o h.along h.orderly (serial_awaits s.program s.own s.run h.events h.is.outcome o.opening h.is.named h.is.runs)
