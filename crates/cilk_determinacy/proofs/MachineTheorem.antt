-- The theorem. A crate with a behaviour of its own cites these, for any types W, V and any relation
-- Next:
--
-- - `IsDetermined`: shown of its Next (`follows_determined` does it for a function of the history);
-- - `opening_ok` (Kept): the opening state is consistent, whatever the run;
-- - `race_free_kept`: one step, if a list of the run's events has no race: for machines and
--   schedulers;
-- - `race_free_agrees`: each consistent state agrees with the run, likewise;
-- - `race_free_determinate`: all lists of steps, likewise;
-- - `kept`, `agrees`, `determinate`: the same from the nested forms RaceFree and ViewFree, which
--   `no_race` (Races) and `no_view_race` (Peers) give;
-- - `room_at`, `never_stops` (Kept): the totals of one consistent state;
-- - `free_by_names` (NumberedRuns): a list without races gives a nested run without races, by names;
-- - `tests_tell` (Decided): a list of events has no race if a test of each pair finds none.
use Rattle.std.proofs.Common.{◌≡◌, ◌<◌, ◌≤◌, ℤ, List, [], Option, Some, sym, ◌∙◌, arith}
use Rattle.cilk_determinacy.specs.Runs.{Cell, Instance, Ask, Deed, Run}
use Rattle.cilk_determinacy.proofs.Find.{IsDetermined}
use Rattle.cilk_determinacy.specs.Costs.{Costs, EventTotal, weight, whole}
use Rattle.cilk_determinacy.specs.Cuts.{below, IsFull, IsConsistent, spent}
use Rattle.cilk_determinacy.specs.Machine.{State, deeds_at}
use Rattle.cilk_monoid.specs.Laws.{MonoidStructure, IsLawful}
use Rattle.cilk_determinacy.specs.Monoids.{IsValue, unit_of}
use Rattle.cilk_determinacy.proofs.Blocks.{ViewFree, RaceFree}
use Rattle.cilk_determinacy.specs.MachineTheorem.{IsNestedSerialRun, HasNoRaces, IsKept, CutsAgree, IsDeterminate, follows}
use Rattle.cilk_determinacy.specs.Traces.{begin_due}
use Rattle.cilk_determinacy.proofs.Layouts.{NoneClash, ReadsHavePeers}
use Rattle.cilk_determinacy.proofs.Framed.{resumed, inhabited}
use Rattle.cilk_determinacy.proofs.NumberedRuns.{free_by_names}
use Rattle.cilk_determinacy.proofs.Races.{no_race}
use Rattle.cilk_determinacy.proofs.Peers.{no_view_race}
use Rattle.cilk_determinacy.proofs.Spent.{spent_le, spent_full, all_made}
use Rattle.cilk_determinacy.proofs.Begins.{begins, joined_le}
use Rattle.cilk_determinacy.proofs.Joins.{full_joined}
use Rattle.cilk_determinacy.proofs.Kept.{opening_ok, room_at, step_keeps, steps_keep, ended_ok}

pub kept : (W V : Type 0) (M : Instance → MonoidStructure V) (Next : W → List (Deed W) → Ask W → Type 0) (C : Costs W) → ((i : Instance) → IsLawful (M i) IsValue) → IsDetermined W Next → (w : W) (t : Run W) (opening : Cell → ℤ) → IsNestedSerialRun W V M Next C w t opening → RaceFree t → ((i : Instance) → ViewFree (M i) i t (unit_of M i)) → IsKept W V M Next C w t opening
kept W V M Next C law determined w t opening run free apart s s' n ok step = step_keeps W V M Next C w t opening determined run.behaves run.closed run.serial free law (resumed begin_due t run.framed) run.views apart run.within s s' n ok step

unspent_at : {W V : Type 0} {M : Instance → MonoidStructure V} (C : Costs W) (w : W) (t : Run W) (opening : Cell → ℤ) (s : State W V) → IsConsistent M C w t opening s → ¬ (IsFull t 1 (deeds_at (s.frames [])) (below s.frames)) → s.totals EventTotal < whole C w t EventTotal
unspent_at C w t opening s ok partly =
    let ds = deeds_at (s.frames []) in
    let made = spent C EventTotal w [] t 1 ds (below s.frames) in
    let all = weight C EventTotal w [] t in
    let differ : ¬ (made ≡ all) = λ q. partly (all_made C w [] t 1 ds (below s.frames) ok.cut q) in
    let le : made ≤ all = spent_le C EventTotal w [] t 1 ds (below s.frames) in
    omega (arith, ok.totals EventTotal, le, differ)

-- each consistent cut agrees with the run
pub agrees : (W V : Type 0) (M : Instance → MonoidStructure V) (Next : W → List (Deed W) → Ask W → Type 0) (C : Costs W) → ((i : Instance) → IsLawful (M i) IsValue) → IsDetermined W Next → (w : W) (t : Run W) (opening : Cell → ℤ) → IsNestedSerialRun W V M Next C w t opening → RaceFree t → ((i : Instance) → ViewFree (M i) i t (unit_of M i)) → CutsAgree W V M Next C w t opening
agrees W V M Next C law determined w t opening run free apart s ok = record {
  consistent = ok;
  strands = λ n. begins n t w s.frames ok.root ok.cut;
  at_most_once = λ n. omega (arith, ok.joins n, joined_le s.frames n);
  room = λ total n f a m. room_at W V M Next C w t opening determined run.behaves run.closed run.serial free law (resumed begin_due t run.framed) run.views apart run.within s n ok total f a m;
  totals = λ total. omega (arith, ok.totals total, spent_le C total w [] t 1 (deeds_at (s.frames [])) (below s.frames));
  spent = λ full total. omega (arith, ok.totals total, spent_full C total w [] t 1 (deeds_at (s.frames [])) (below s.frames) full);
  unspent = unspent_at C w t opening s ok;
  deeds = λ h. (ended_ok W V M Next C w t opening determined run.behaves run.closed run.serial free law (resumed begin_due t run.framed) run.views apart run.within s ok h).3;
  complete = λ h. (ended_ok W V M Next C w t opening determined run.behaves run.closed run.serial free law (resumed begin_due t run.framed) run.views apart run.within s ok h).0;
  outcome = λ h. (ended_ok W V M Next C w t opening determined run.behaves run.closed run.serial free law (resumed begin_due t run.framed) run.views apart run.within s ok h).1;
  once = λ h n. ok.joins n ∙ full_joined n t w s.frames ok.root (ended_ok W V M Next C w t opening determined run.behaves run.closed run.serial free law (resumed begin_due t run.framed) run.views apart run.within s ok h).0 ok.cut run.closed;
  reducers = λ h. (ended_ok W V M Next C w t opening determined run.behaves run.closed run.serial free law (resumed begin_due t run.framed) run.views apart run.within s ok h).2;
}

pub determinate : (W V : Type 0) (M : Instance → MonoidStructure V) (Next : W → List (Deed W) → Ask W → Type 0) (C : Costs W) → ((i : Instance) → IsLawful (M i) IsValue) → IsDetermined W Next → (w : W) (t : Run W) (opening : Cell → ℤ) → IsNestedSerialRun W V M Next C w t opening → RaceFree t → ((i : Instance) → ViewFree (M i) i t (unit_of M i)) → IsDeterminate W V M Next C w t opening
determinate W V M Next C law determined w t opening run free apart ns s s' o steps =
    agrees W V M Next C law determined w t opening run free apart s'
    (steps_keep W V M Next C w t opening determined run.behaves run.closed run.serial free law (resumed begin_due t run.framed) run.views apart run.within ns s s' (opening_ok W V M Next C w t opening s o) steps)

module _ (W V : Type 0) (M : Instance → MonoidStructure V) (Next : W → List (Deed W) → Ask W → Type 0) (C : Costs W) (law : (i : Instance) → IsLawful (M i) IsValue) (determined : IsDetermined W Next) (w : W) (t : Run W) (opening : Cell → ℤ) (run : IsNestedSerialRun W V M Next C w t opening) (free : HasNoRaces t) where
  by_names : NoneClash t × ((i : Instance) → ReadsHavePeers i t)
  by_names = free_by_names t run.framed free

  pub apart_views : (i : Instance) → ViewFree (M i) i t (unit_of M i)
  apart_views i = no_view_race (M i) (law i) i t (by_names.1 i) (inhabited t run.framed) run.closed (run.retired i) (run.created i)

  pub race_free_kept : IsKept W V M Next C w t opening
  race_free_kept = kept W V M Next C law determined w t opening run (no_race t by_names.0) apart_views

  pub race_free_agrees : CutsAgree W V M Next C w t opening
  race_free_agrees = agrees W V M Next C law determined w t opening run (no_race t by_names.0) apart_views

  pub race_free_determinate : IsDeterminate W V M Next C w t opening
  race_free_determinate = determinate W V M Next C law determined w t opening run (no_race t by_names.0) apart_views

pub follows_determined : {W : Type 0} (next : W → List (Deed W) → Option (Ask W)) → IsDetermined W (follows next)
follows_determined next w past a b p q = let h : Some a ≡ Some b = sym p ∙ q in cc
