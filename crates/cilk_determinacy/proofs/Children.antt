-- Frames by names in the serial run, from the first frame to each child.
use Rattle.std.proofs.Common.{◌≡◌, ℕ, suc, ◌+◌, ◌<◌, Bool, IsTrue, if◌then◌else◌, List, [], ◌∷◌, ◌++◌, length, Some, refl, sym, ap, ◌∙◌, subst, append_assoc, arith}
use Rattle.cilk_program.specs.declared.ask.Callee.{Callee}
use Rattle.cilk_program.specs.declared.ask.Callee.TheVariants as callees
use Rattle.cilk_program.specs.Syntax.{Source, main_of, loop_at}
use Rattle.cilk_program.specs.WellNamed.{is_well_named}
use Rattle.cilk_program.specs.Inside.{body_of, CalleeIsThere}
use Rattle.cilk_program.specs.SerialRun.{Transcript, child, Memory, Frame, root_frame, next_frame}
use Rattle.cilk_program.specs.Numbering.{Counts, counts_of, counts_after, unbegun, entered, block_of, child_at, frame_at}
use Rattle.cilk_program.proofs.Naming.{well_named_parts}
use Rattle.cilk_program.specs.Visible.{CanInvoke}
use Rattle.cilk_program.proofs.Visible.{none_given, root_sees, called_sees, part_sees}
use Rattle.cilk_determinacy.specs.Runs.{Global, Own}
use Rattle.cilk_determinacy.specs.FrameEnvs.{global_named, own_named, home_named, given_named, FrameEnv, first_env, child_env}
use Rattle.cilk_determinacy.specs.Numbers.{child_runs, frame_runs, IsHere, HasCell}
use Rattle.cilk_determinacy.proofs.Numbers.{up_more}
use Rattle.cilk_determinacy.proofs.Sights.{HasOne, Stands, Ahead, root_here, globals_here, own_here, tied_home, tied_outer, tied_to, tied_result}

module _ (p : Source) (r : Transcript) where
  pub root_ahead : Ahead p r [] 0 r (entered p callees.Root (unbegun p))
  root_ahead = record {
    blocks = λ i more. let e : 0 + i ≡ i = omega arith in ap (λ i. child_at p r (entered p callees.Root (unbegun p)) i more) e;
    runs = λ i more. let e : 0 + i ≡ i = omega arith in ap (λ i. child_runs r i more) e;
  }

  -- the children of a child are in the rest of the run
  pub child_ahead : (path : List ℕ) (j : ℕ) (how : _) (callee : Callee) (u rest : Transcript) (n : Counts) → Ahead p r path j (child how callee u rest) n → Ahead p r (path ++ j ∷ []) 0 u (entered p callee n)
  child_ahead path j how callee u rest n a = record {
    blocks = λ i more.
        let e : 0 + i ≡ i = omega arith in
        let e' : j + 0 ≡ j = omega arith in
        ap (frame_at p r) (append_assoc path (j ∷ []) ((0 + i) ∷ more)) ∙ ap (λ i. frame_at p r (path ++ j ∷ i ∷ more)) e ∙ subst (λ j. frame_at p r (path ++ j ∷ i ∷ more) ≡ child_at p u (entered p callee n) i more) e' (a.blocks 0 (i ∷ more));
    runs = λ i more.
        let e : 0 + i ≡ i = omega arith in
        let e' : j + 0 ≡ j = omega arith in
        ap (frame_runs r) (append_assoc path (j ∷ []) ((0 + i) ∷ more)) ∙ ap (λ i. frame_runs r (path ++ j ∷ i ∷ more)) e ∙ subst (λ j. frame_runs r (path ++ j ∷ i ∷ more) ≡ child_runs u i more) e' (a.runs 0 (i ∷ more));
  }

  pub past_ahead : (path : List ℕ) (j : ℕ) (how : _) (callee : Callee) (u rest : Transcript) (n : Counts) → Ahead p r path j (child how callee u rest) n → Ahead p r path (suc j) rest (counts_after p u (entered p callee n))
  past_ahead path j how callee u rest n a = record {
    blocks = λ i more. let e : suc j + i ≡ j + suc i = omega arith in ap (λ i. frame_at p r (path ++ i ∷ more)) e ∙ a.blocks (suc i) more;
    runs = λ i more. let e : suc j + i ≡ j + suc i = omega arith in ap (λ i. frame_runs r (path ++ i ∷ more)) e ∙ a.runs (suc i) more;
  }

  -- ---- the first frame

  pub root_stands : (inputs : List _) → IsTrue (is_well_named p) → Stands p r (first_env p) (root_frame p inputs)
  root_stands inputs well =
      let parts = well_named_parts p well in
      let f = main_of p in
      record {
        here = root_here p r;
        number = refl;
        runs = refl;
        callee = refl;
        tied = (tied_home p r callees.Root [] (root_here p r) 1 (length p.openings) refl refl [] [] tt, tt);
        result_tied = refl;
        sees = root_sees p Global global_named (HasCell p r) (HasOne p r) (home_named p callees.Root [] []) (globals_here p r) (λ n less. (root_here p r, less))
            (λ n k is. own_here p r callees.Root [] (root_here p r) refl n k is) (λ n k is. none_given f.given n k parts.takes_no_reducers is);
      }

  pub root_path : (inputs : List _) (well : IsTrue (is_well_named p)) → let h = root_stands inputs well in let here = h.here in here.path ≡ []
  unfolding root_stands
  root_path inputs well = refl

  -- ---- a child

  abbrev pub child_here : (w : FrameEnv) (here : IsHere p r w.name) (j : ℕ) (how : _) (callee : Callee) (u rest : Transcript) (n : Counts) → Ahead p r here.path j (child how callee u rest) n → IsHere p r (w.name ++ suc j ∷ [])
  child_here w here j how callee u rest n a = record {
    path = here.path ++ j ∷ [];
    named = ap (λ name. name ++ suc j ∷ []) here.named ∙ sym (up_more here.path j);
    block = block_of p callee n;
    found = let e : j + 0 ≡ j = omega arith in subst (λ j. frame_at p r (here.path ++ j ∷ []) ≡ Some (block_of p callee n)) e (a.blocks 0 []);
  }

  child_run : (path : List ℕ) (j : ℕ) (how : _) (callee : Callee) (u rest : Transcript) (n : Counts) → Ahead p r path j (child how callee u rest) n → frame_runs r (path ++ j ∷ []) ≡ Some callee
  child_run path j how callee u rest n a = let e : j + 0 ≡ j = omega arith in subst (λ j. frame_runs r (path ++ j ∷ []) ≡ Some callee) e (a.runs 0 [])

  pub child_stands : IsTrue (is_well_named p) → (w : FrameEnv) (fr : Frame) (h : Stands p r w fr) (j : ℕ) (how : _) (callee : Callee) (u rest : Transcript) (m : Memory) → (let here = h.here in Ahead p r here.path j (child how callee u rest) (counts_of m))
      → CalleeIsThere p (body_of p w.callee) callee → CanInvoke w.callee callee → Stands p r (child_env p w (suc j) callee) (next_frame p fr.scope m callee)
  child_stands well w fr h j how callees.Root u rest m a there can = absurd there
  child_stands well w fr h j how (callees.Function c) u rest m a there can =
      let here = child_here w h.here j how (callees.Function c) u rest (counts_of m) a in
      let runs = child_run h.here.path j how (callees.Function c) u rest (counts_of m) a in
      let given = given_named (callees.Function c) w.sight in
      record {
        here = here;
        number = refl;
        runs = runs;
        callee = refl;
        tied = (tied_home p r (callees.Function c) (w.name ++ suc j ∷ []) here (suc m.frames) m.cells refl refl given _ (tied_to p r (callees.Function c) w.sight fr.scope h.tied), tt);
        result_tied = tied_result p r (callees.Function c) w.sight fr.scope h.tied;
        sees = called_sees p Global global_named (HasCell p r) (HasOne p r) w.callee w.sight w.result c
            (Own (w.name ++ suc j ∷ [])) (own_named p (callees.Function c) (w.name ++ suc j ∷ [])) (globals_here p r) h.sees there can (λ n less. (here, less))
            (λ n k is. own_here p r (callees.Function c) (w.name ++ suc j ∷ []) here runs n k is);
      }
  child_stands well w fr h j how (callees.Loop l) u rest m a there can =
      let body = loop_at p l.number in
      let here = child_here w h.here j how (callees.Loop l) u rest (counts_of m) a in
      record {
        here = here;
        number = refl;
        runs = child_run h.here.path j how (callees.Loop l) u rest (counts_of m) a;
        callee = refl;
        tied = (tied_home p r (callees.Loop l) (w.name ++ suc j ∷ []) here (suc m.frames) m.cells refl refl [] [] tt, tied_outer p r (callees.Loop l) w.sight fr.scope h.tied);
        result_tied = refl;
        sees = part_sees p Global global_named (HasCell p r) (HasOne p r) well w.callee w.sight w.result l (home_named p (callees.Loop l) (w.name ++ suc j ∷ []) []) h.sees there can
            (λ whole n less.
            let own : n < body.cells = less in
            let many : here.block.cells ≡ body.cells = ap (λ (b : Bool). if b then body.cells else 0) whole in
            (here, omega (arith, own, many)));
      }

  pub child_path : (well : IsTrue (is_well_named p)) (w : FrameEnv) (fr : Frame) (h : Stands p r w fr) (j : ℕ) (how : _) (callee : Callee) (u rest : Transcript) (m : Memory) (a : let here = h.here in Ahead p r here.path j (child how callee u rest) (counts_of m))
      (there : CalleeIsThere p (body_of p w.callee) callee) (can : CanInvoke w.callee callee) → let g = child_stands well w fr h j how callee u rest m a there can in let here = g.here in let above = h.here in here.path ≡ above.path ++ j ∷ []
  unfolding child_stands
  child_path well w fr h j how callees.Root u rest m a there can = absurd there
  child_path well w fr h j how (callees.Function c) u rest m a there can = refl
  child_path well w fr h j how (callees.Loop l) u rest m a there can = refl
