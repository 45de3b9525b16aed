-- An accepted run has a plan: `has_plan`; the opening values of its cells: `opened`, `opens_so`.
use Rattle.std.proofs.Common.{◌≡◌, inl, inr, ℕ, zero, suc, ◌^◌, ◌≤◌, ◌-◌, ℤ, pos, IsTrue, List, [], ◌∷◌, ◌++◌, length, take, replicate, Some, slice_index_or, refl, sym, ap, ◌∙◌, subst, arith}
use Rattle.std.proofs.lemmas.Bool.{cases_lt}
use Rattle.std.proofs.lemmas.List.{get_or-replicate, get_or_past, length-replicate, take_all}
use Rattle.std.proofs.lemmas.Option.{unwrap_or-slice_get}
use Rattle.cilk_types.specs.declared.event.Event.{Event}
use Rattle.cilk_types.specs.declared.event.Event.TheVariants.{Read}
use Rattle.cilk_program.specs.Outcomes.{Leaves}
use Rattle.cilk_program.specs.Sources.{source}
use Rattle.cilk_program.specs.WellNamed.{is_well_named}
use Rattle.cilk_program.specs.Answered.{opening_cells}
use Rattle.cilk_program.proofs.Existence.{serial_run_is_short}
use Rattle.cilk_tree.specs.Reach.{IsSynced}
use Rattle.cilk_tree.specs.Races.{event_at}
use Rattle.cilk_tree.specs.Values.{HasValue}
use Rattle.cilk_tree.specs.Planned.{planned, HasPlan}
use Rattle.cilk_determinacy.specs.Events.{HasReadSource}
use Rattle.cilk_determinacy.proofs.Strands.{spell_one_shape}
use Rattle.cilk_determinacy.proofs.ReadSources.{reads_have_sources}
use Rattle.cilk_checker.specs.Determinate.{AcceptedRun, HasDeterminateRun}

-- a list that is filled up with 0
filled : (xs : List ℤ) (n c : ℕ) → slice_index_or (xs ++ replicate n (pos 0)) c (pos 0) ≡ slice_index_or xs c (pos 0)
filled [] n c = elim (cases_lt c n) [
  | inl low ↦ get_or-replicate n c (pos 0) (pos 0) low
  | inr past ↦ (let long = length-replicate n (pos 0) in get_or_past (replicate n (pos 0)) c (pos 0) (omega (arith, long, past)))
]
filled (x ∷ xs) n zero = refl
filled (x ∷ xs) n (suc c) = filled xs n c

pub opened : (globals old new : List ℤ) (cells more : ℕ) → length globals ≤ cells → old ≡ globals → new ≡ take cells old ++ replicate more (pos 0)
    → (c : ℕ) → slice_index_or new c (pos 0) ≡ slice_index_or globals c (pos 0)
opened globals old new cells more few same filled_up c =
    let all : new ≡ globals ++ replicate more (pos 0) = filled_up ∙ ap (λ (l : List ℤ). take cells l ++ replicate more (pos 0)) same ∙ ap (λ (l : List ℤ). l ++ replicate more (pos 0)) (take_all cells globals few) in
    ap (λ (l : List ℤ). slice_index_or l c (pos 0)) all ∙ filled globals more c

-- cells open as the program's globals do
pub opens_so : (a : AcceptedRun) (opening : List ℤ) → ((c : ℕ) → slice_index_or opening c (pos 0) ≡ slice_index_or (source a.program).openings c (pos 0))
    → (c : ℕ) → slice_index_or opening c (pos 0) ≡ opening_cells (source a.program) a.input c
opens_so a opening h c = h c ∙ sym (unwrap_or-slice_get (source a.program).openings c (pos 0))

valued : (es : List Event) (opening : List ℤ) (first : ℕ → ℤ) → ((c : ℕ) → slice_index_or opening c (pos 0) ≡ first c)
    → (q c : ℕ) (v : ℤ) → HasReadSource first es q c v → HasValue (planned es opening) c (q - 1) v
valued es opening first opens q c v h = record { opened = λ none. h.opened none ∙ sym (opens c); written = h.written }

-- position 0 reads as position 1 does
read_from : (es : List Event) (opening : List ℤ) (first : ℕ → ℤ) → ((c : ℕ) → slice_index_or opening c (pos 0) ≡ first c)
    → ((q c : ℕ) (v : ℤ) → 1 ≤ q → event_at es q ≡ Some (Read c v) → HasReadSource first es q c v)
    → (q c : ℕ) (v : ℤ) → event_at es q ≡ Some (Read c v) → HasValue (planned es opening) c (q - 1) v
read_from es opening first opens h zero c v is = valued es opening first opens 1 c v (h 1 c v (omega arith) is)
read_from es opening first opens h (suc q) c v is = valued es opening first opens (suc q) c v (h (suc q) c v (omega arith) is)

pub has_plan : (a : AcceptedRun) → HasDeterminateRun a → IsTrue (is_well_named (source a.program))
    → (opening : List ℤ) → length opening ≤ 2 ^ 32 → ((c : ℕ) → slice_index_or opening c (pos 0) ≡ opening_cells (source a.program) a.input c)
    → HasPlan a.trace opening
has_plan a run named opening cells opens =
    let p = source a.program in
    let ran = run.1.ended.ran in
    let one = spell_one_shape p a.input ran.run a.trace a.outcome ran.serial in
    let source_of = reads_have_sources p a.input ran.run a.trace _ named ran.serial in
    record {
      shape = run.0;
      spells = run.1.ended.spells;
      synced = subst IsSynced (sym (one.one run.0 run.1.ended.spells)) one.synced;
      free = run.1.races;
      few_events = serial_run_is_short p a.input ran.run a.trace (Leaves a.outcome) ran.serial;
      few_cells = cells;
      reads = read_from a.trace opening (opening_cells p a.input) opens (λ q c v first is. source_of q c v first is);
    }
