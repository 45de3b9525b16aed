-- The code of a whole program.
use Rattle.std.proofs.Common.{◌≡◌, ℕ, ℤ, IsTrue, List, [], ◌++◌, length, get_or, map, Some, sym, ap, ◌∙◌, subst}
use Rattle.std.specs.Prelude.{slice_get, unwrap_or}
use Rattle.cilk_program.specs.declared.program.Function as declared_functions
use Rattle.cilk_program.specs.declared.program.GlobalReducer.{GlobalReducer}
use Rattle.cilk_program.specs.declared.program.Loop as declared_loops
use Rattle.cilk_program.specs.declared.syntax.ReducerPlace.TheVariants as reducers
use Rattle.cilk_program.specs.Programs.{function, source_of}
use Rattle.cilk_program.specs.Syntax.{idle, main_of}
use Rattle.cilk_program.specs.WellNamed.{is_well_named}
use Rattle.cilk_lower.specs.declared.code.EntryPoint.{EntryPoint}
use Rattle.cilk_lower.specs.declared.code.Instr.{Instr}
use Rattle.cilk_lower.specs.declared.code.Site.{Site}
use Rattle.cilk_lower.specs.declared.layout.Layout.{Layout}
use Rattle.cilk_lower.specs.Behaves.{Behaves}
use Rattle.cilk_lower.specs.Bodies.{BodyAt, FunctionAt, LoopAt, EachAt, EachFits, FunctionFits, Grows}
use Rattle.cilk_lower.specs.Code.{CodeView, all_sites, creates_code, function_code}
use Rattle.cilk_lower.specs.Rooms.{deepest_of_all, RoomsFit}
use Rattle.cilk_lower.proofs.Emitted.{Next, item_there, grows_on, body_grows, functions_grow, function_next, globals_sound, root_at}
use Rattle.cilk_lower.proofs.Named.{named_fits}
use Rattle.cilk_lower.proofs.Standing.{get_map, behaves, rooms_fit}

module _ (globals : List ℤ) (rs : List GlobalReducer) (fs : List declared_functions.Function) (ls : List declared_loops.Loop) (main : ℕ) (named : IsTrue (is_well_named (source_of globals rs fs ls main))) where
  pub functions_fit : (list : List declared_functions.Function) → list ≡ fs → EachFits FunctionFits list
  functions_fit list same k f e = let fits = named_fits globals rs fs ls main named in fits.functions k f (ap (λ l. slice_get l k) (sym same) ∙ e)

  module _ (f : declared_functions.Function) (is : f ≡ get_or fs main f) where
    pub main_there : slice_get fs main ≡ Some f
    main_there = let fits = named_fits globals rs fs ls main named in item_there fs main f fits.main_here is

    pub main_fits : FunctionFits f
    main_fits = let fits = named_fits globals rs fs ls main named in fits.functions main f main_there

    main_is : main_of (source_of globals rs fs ls main) ≡ function f
    main_is = ap (λ o. unwrap_or o idle) (get_map function fs main f main_there)

    module _ (code1 code2 : List Instr) (sites1 sites2 : List Site) (entry : EntryPoint)
        (begins : code1 ≡ creates_code reducers.Global 0 (map (λ r. r.kind) rs)) (none : sites1 ≡ [])
        (code : code2 ≡ code1 ++ function_code (length sites1) (function f)) (sites : let g = function f in sites2 ≡ sites1 ++ all_sites g.body)
        (place : entry.place ≡ length code1) (room : let g = function f in entry.room ≡ deepest_of_all g.body) where
      pub main_next : let g = function f in Next code1 sites1 code2 sites2 entry (λ k. function_code k g) g.body
      main_next =
          let fits = main_fits in
          function_next code1 code2 sites1 sites2 entry (function f) (globals_sound code1 sites1 (map (λ r. r.kind) rs) begins none) fits.arrays fits.sites code sites place room

      pub main_at : (list : List declared_functions.Function) → list ≡ fs → (g : declared_functions.Function) → slice_get list main ≡ Some g → FunctionAt code2 sites2 entry g
      main_at list whole g there =
          let seen = ap (λ l. slice_get l main) (sym whole) ∙ there in
          let known = main_there in
          let same : f ≡ g = cc in
          let made = main_next in
          subst (λ g. FunctionAt code2 sites2 entry g) same made.at

      module _ (code3 code4 : List Instr) (sites3 sites4 : List Site) (root : EntryPoint) (laid : Layout) (es els : List EntryPoint) (fs' : List declared_functions.Function) (ls' : List declared_loops.Loop)
          (here : root.place ≡ 0) (enough : root.room ≡ entry.room) (fs_are : fs' ≡ fs) (ls_are : ls' ≡ ls)
          (grows3 : Grows code2 sites2 code3 sites3) (grows4 : Grows code3 sites3 code4 sites4) (functions : EachAt (FunctionAt code3 sites3) es fs') (loops : EachAt (LoopAt code4 sites4) els ls') where
        abbrev made : CodeView
        made = record { instrs = code4; sites = sites4; root = root; functions = es; loops = els; layout = laid }

        root_last : let g = function f in BodyAt code4 sites4 root (λ k. creates_code reducers.Global 0 (map (λ r. r.kind) rs) ++ function_code k g) g.body
        root_last =
            let g = function f in
            let begun = main_next in
            let first = root_at code1 code2 sites1 sites2 entry root (map (λ r. r.kind) rs) g begins code begun.at sites here enough in
            body_grows code2 code4 sites2 sites4 root (λ k. creates_code reducers.Global 0 (map (λ r. r.kind) rs) ++ function_code k g) g.body (grows_on code2 code3 code4 sites2 sites3 sites4 grows3 grows4) first

        functions_last : EachAt (FunctionAt code4 sites4) es fs
        functions_last = functions_grow code3 code4 sites3 sites4 es fs grows4 (subst (λ l. EachAt (FunctionAt code3 sites3) es l) fs_are functions)

        loops_last : EachAt (LoopAt code4 sites4) els ls
        loops_last = subst (λ l. EachAt (LoopAt code4 sites4) els l) ls_are loops

        pub whole_behaves : (c : CodeView) → c ≡ made → Behaves (source_of globals rs fs ls main) c
        whole_behaves c same =
            let fits = named_fits globals rs fs ls main named in
            subst (λ (c : CodeView). Behaves (source_of globals rs fs ls main) c) (sym same)
            (behaves globals (map (λ r. r.kind) rs) fs ls main made (function f) main_is (fits.main_plain f main_there) root_last functions_last loops_last)

        pub whole_rooms : (c : CodeView) → c ≡ made → RoomsFit (source_of globals rs fs ls main) c
        whole_rooms c same =
            subst (λ (c : CodeView). RoomsFit (source_of globals rs fs ls main) c) (sym same)
            (rooms_fit globals (map (λ r. r.kind) rs) fs ls main made (function f) main_is root_last functions_last loops_last)
