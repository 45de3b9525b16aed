-- A new scheduler is sound.
--
-- - `few_cells`: global cells and the first frame's are within their limit;
-- - `opened`: with the first frame alone.
use Rattle.std.proofs.Common.{◌≡◌, ◌+◌, ◌≤◌, ℕ, zero, suc, IsTrue, ℤ, List, [], ◌∷◌, length, slice_get, Some, None, sym, ap, ◌∙◌, subst, arith}
use Rattle.cilk_types.specs.declared.invocation.Invocation.{Invocation}
use Rattle.cilk_types.specs.declared.limits.TheConstants.{MAX_CELLS}
use Rattle.cilk_program.specs.declared.ask.Ask.TheVariants as asks
use Rattle.cilk_program.specs.declared.ask.Callee.TheVariants as callees
use Rattle.cilk_program.specs.SerialRun.{cells_of, home_of}
use Rattle.cilk_program.specs.Syntax.{Source}
use Rattle.cilk_program.specs.WellNamed.{is_well_named}
use Rattle.cilk_program.proofs.Naming.{well_named_parts}
use Rattle.cilk_lower.specs.Code.{CodeView}
use Rattle.cilk_lower.specs.Layout.{function_frame}
use Rattle.cilk_frames.specs.Cursor.{CursorView}
use Rattle.cilk_frames.specs.Following.{Stands, owed_for}
use Rattle.cilk_frames.specs.Sight.{HasScope}
use Rattle.cilk_frames.specs.declared.activation.Activation.{Activation}
use Rattle.cilk_serial.proofs.Sights.{root_sees}
use Rattle.cilk_scheduler.specs.FrameStates.{seated}
use Rattle.cilk_scheduler.specs.declared.frame_state.FrameState.{FrameState}
use Rattle.cilk_serial.specs.Scoped.{Sees}
use Rattle.cilk_lower.specs.Behaves.{IsCodeOf}
use Rattle.cilk_schedule.specs.Sound.{Counts, FitsDue, Lives, Rests, Sound}
use Rattle.cilk_schedule.proofs.Coming.{some_is}

pub few_cells : (p : Source) → IsTrue (is_well_named p) → length p.openings + cells_of p callees.Root ≤ MAX_CELLS
few_cells p well =
    let n = well_named_parts p well in
    let few = n.openings in
    let main = n.functions p.main n.main in
    let cells = main.cells in
    omega (arith, few, cells)

module _ (code : CodeView) (p : Source) (inputs : List ℤ) (is_code : IsCodeOf p code) (a : Activation FrameState) (c : CursorView) (cells : ℕ) (cells_is : cells ≡ length p.openings + cells_of p callees.Root)
    (frame_state : a.cursor ≡ seated 0 0 Invocation.Call 0 c) (number : a.number ≡ 1) (result : a.result ≡ None) (creator : let l = code.layout in a.creator ≡ Some l.main)
    (links : HasScope (a ∷ []) a (home_of p callees.Root 1 (length p.openings) [] ∷ [])) (stands : Stands code inputs p callees.Root c [] 0) (owes : c.owed ≡ owed_for asks.Begin) where
  root_lives : Lives code p inputs (a ∷ []) cells 0 a
  root_lives = record {
    callee = callees.Root;
    scope = home_of p callees.Root 1 (length p.openings) [] ∷ [];
    history = [];
    links = links;
    sees = subst (λ n. Sees p (record { callee = callees.Root; number = a.number; scope = home_of p callees.Root 1 (length p.openings) [] ∷ []; result = a.result }) n) (sym cells_is)
        (subst (λ r. Sees p (record { callee = callees.Root; number = a.number; scope = home_of p callees.Root 1 (length p.openings) [] ∷ []; result = r }) (length p.openings + cells_of p callees.Root)) (sym result)
        (subst (λ n. Sees p (record { callee = callees.Root; number = n; scope = home_of p callees.Root 1 (length p.openings) [] ∷ []; result = None }) (length p.openings + cells_of p callees.Root)) (sym number) (root_sees p inputs)));
  }

  root_counts : Counts code p inputs (a ∷ []) cells 0 a
  root_counts = let e = frame_state in record {
    parent = let t = ap (λ (x : FrameState). x.parent) e in omega (arith, t);
    last = let t = ap (λ (x : FrameState). x.last) e in omega (arith, t);
    children = let t = ap (λ (x : FrameState). x.children) e in omega (arith, t);
    strands = let t = ap (λ (x : FrameState). x.strands) e in omega (arith, t);
    counted = let t = ap (λ (x : FrameState). x.counted) e in omega (arith, t);
    took = let t = ap (λ (x : FrameState). x.took) e in omega (arith, t);
    low = links.low;
    creates = λ function q.
        let l = code.layout in
        let lays = is_code.lays in
        let n = well_named_parts p is_code.well in
        let main = n.functions p.main n.main in
        subst (λ k. let f = function_frame code.layout k in length f.reducers ≤ 64) (some_is l.main function (sym creator ∙ q)) (subst (λ ks. length ks ≤ 64) (sym (lays.own callees.Root)) main.reducers);
  }

  pub opened : Sound code p inputs (a ∷ []) cells 0 None asks.Begin
  unfolding root_lives
  opened = record {
    counts = λ j b at. at_counts j b at;
    rests = λ j b d at not is. at_rests j b d at is;
    comes = λ j b at is. let z : None ≡ Some j = is in cc;
    few_frames = omega arith;
    few_cells = let q = few_cells p is_code.well in omega (arith, q, cells_is);
    few_events = omega arith;
    opened = omega (arith, cells_is);
  }
    where
      at_counts : (j : ℕ) (b : Activation FrameState) → slice_get (a ∷ []) j ≡ Some b → Counts code p inputs (a ∷ []) cells 0 b
      at_counts zero b at = subst (λ (z : Activation FrameState). Counts code p inputs (a ∷ []) cells 0 z) (some_is a b at) root_counts
      at_counts (suc j) b at = let z : None ≡ Some b = at in cc

      at_rests : (j : ℕ) (b : Activation FrameState) (d : CursorView) → slice_get (a ∷ []) j ≡ Some b → (let x = b.cursor in x.cursor ≡ Some d) → Rests code p inputs (a ∷ []) cells 0 b d
      at_rests zero b d at is =
          let e = some_is a b at in
          let same : c ≡ d = some_is c d (sym (ap (λ (x : FrameState). x.cursor) frame_state) ∙ subst (λ (z : Activation FrameState). let x = z.cursor in x.cursor ≡ Some d) (sym e) is) in
          subst (λ (z : Activation FrameState). Rests code p inputs (a ∷ []) cells 0 z d) e (record {
            lives = root_lives;
            stands = subst (λ n. Stands code inputs p callees.Root d [] n) (sym (ap (λ (x : FrameState). x.took) frame_state)) (subst (λ z. Stands code inputs p callees.Root z [] 0) same stands);
            fits = subst (λ q. FitsDue d.owed q) (sym (ap (λ (x : FrameState). x.due) frame_state)) (subst (λ (z : CursorView). z.owed ≡ owed_for asks.Begin) same owes);
          })
      at_rests (suc j) b d at is = let z : None ≡ Some b = at in cc
