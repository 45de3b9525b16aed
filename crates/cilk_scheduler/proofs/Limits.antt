-- Ticks, events, frames and cells stay within the limits of a run.
--
-- - `opens_within`, `steps_within`: as a run begins, and after a step;
-- - `totals_within`: the law.
use Rattle.std.proofs.Common.{◌≡◌, ⊎_elim, ◌+◌, ◌≤◌, ℕ, IsTrue, ℤ, List, [], ◌∷◌, length, sym, ap, subst, arith}
use Rattle.cilk_types.specs.declared.limits.TheConstants.{MAX_CELLS}
use Rattle.cilk_program.specs.Syntax.{Source, main_of}
use Rattle.cilk_program.specs.WellNamed.{is_well_named}
use Rattle.cilk_program.proofs.Naming.{well_named_parts}
use Rattle.cilk_determinacy.specs.Costs.{Total, TickTotal, EventTotal, FrameTotal, CellTotal}
use Rattle.cilk_determinacy.specs.Machine.{State, Makes, Steps}
use Rattle.cilk_determinacy.specs.Runs.{Name}
use Rattle.cilk_determinacy.specs.FrameEnvMachine.{costs, used}
use Rattle.cilk_determinacy.specs.Reducers.{View, monoid_of}
use Rattle.cilk_determinacy.specs.Steps.{Next, IsFirst, OneStep}
use Rattle.cilk_determinacy.specs.FrameEnvs.{FrameEnv}
use Rattle.cilk_scheduler.specs.Histories.{AreWithin, TotalsStayWithin}
use Rattle.cilk_scheduler.proofs.Within.{no_fault_then}

module _ (p : Source) (inputs : List ℤ) where
  first_cells : IsTrue (is_well_named p) → length p.openings + (let f = main_of p in f.cells) ≤ MAX_CELLS
  first_cells well =
      let n = well_named_parts p well in
      let openings = n.openings in
      let main = n.functions p.main n.main in
      let cells = main.cells in
      omega (arith, openings, cells)

  opens_within : (s : State FrameEnv View) → IsTrue (is_well_named p) → IsFirst p inputs s → AreWithin p inputs s
  opens_within s well o total = subst (λ n. n ≤ (let C = costs p inputs in C.limit total)) (sym (o.6 total)) (by total)
    where
      by : (total : Total) → used p inputs total ≤ (let C = costs p inputs in C.limit total)
      by TickTotal = omega arith
      by EventTotal = omega arith
      by FrameTotal = omega arith
      by CellTotal = first_cells well

  steps_within : (s s' : State FrameEnv View) (n : Name) → AreWithin p inputs s → OneStep p inputs s n s' → AreWithin p inputs s'
  steps_within s s' n h step = ⊎_elim made (λ o. ⊎_elim (λ t. by t.totals) (λ t. by (ap (λ (z : State FrameEnv View). z.totals) t.after)) o) step.1
    where
      by : s'.totals ≡ s.totals → AreWithin p inputs s'
      by same total = subst (λ (t : Total → ℕ). t total ≤ (let C = costs p inputs in C.limit total)) (sym same) (h total)

      made : Makes FrameEnv View monoid_of (Next p inputs) (costs p inputs) s n s' → AreWithin p inputs s'
      made t total =
          let f = t.frame in
          subst (λ n. n ≤ (let C = costs p inputs in C.limit total)) (sym (t.totals total)) ((no_fault_then (costs p inputs) s.totals f.what f.deeds t.ask t.within).1 total)

  all_within : (ns : List Name) (s s' : State FrameEnv View) → AreWithin p inputs s → Steps FrameEnv View monoid_of (Next p inputs) (costs p inputs) ns s s' → AreWithin p inputs s'
  all_within [] s s' h e = subst (AreWithin p inputs) (sym e) h
  all_within (n ∷ ns) s s' h (mid, one, rest) = all_within ns mid s' (steps_within s mid n h one) rest

  pub totals_within : TotalsStayWithin p inputs
  totals_within = record { opens = opens_within; keeps = steps_within; reached = λ ns s well r. all_within ns r.0 s (opens_within r.0 well r.1) r.2 }
