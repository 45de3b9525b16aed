use Rattle.std.proofs.Common.{◌≡◌, ◌++◌, List, map, refl, ap, ◌∙◌, sym, []}
use Rattle.std.specs.Prelude.{slice_get}
use Rattle.cilk_program.specs.declared.program.GlobalReducer.{GlobalReducer}
use Rattle.cilk_program.specs.declared.syntax.ReducerPlace.TheVariants as reducers
use Rattle.cilk_program.specs.Sources.{source}
use Rattle.cilk_lower.specs.declared.code.Instr.{Instr}
use Rattle.cilk_lower.specs.Code.{creates_code}
use Rattle.cilk_lower.proofs.Named.{named_fits}
use Rattle.cilk_lower.proofs.Whole.{functions_fit, main_fits, main_next, main_at, whole_behaves, whole_rooms}
use Rattle.cilk_lower.proofs.lower.lower.Goals as goal

-- the code begins with the global reducers
begins : (base code : List Instr) (rs list : List GlobalReducer) → base ≡ [] → list ≡ rs → code ≡ base ++ creates_code reducers.Global 0 (map (λ r. r.kind) list) → code ≡ creates_code reducers.Global 0 (map (λ r. r.kind) rs)
begins base code rs list none same e =
    e ∙ ap (λ l. l ++ creates_code reducers.Global 0 (map (λ (r : GlobalReducer). r.kind) list)) none ∙ ap (λ l. creates_code reducers.Global 0 (map (λ (r : GlobalReducer). r.kind) l)) same

pub emit_function-requires : goal.emit_function-requires
emit_function-requires c = let p = c.args.program.now in main_fits p.globals p.reducers.items p.functions.items p.loops.items p.main p.well_named c.index.result.now c.index.ensures

pub emit_functions-requires-clause-sound : goal.emit_functions-requires-clause-sound
emit_functions-requires-clause-sound c =
    let p = c.args.program.now in
    let made = c.in_ok-entry.ensures in
    let first = begins c.new.result.items c.put_globals.new.code.items p.reducers.items c.deref.result.now c.new.ensures.items c.deref.ensures.value c.in_ok-put_globals.ensures in
    let next = main_next p.globals p.reducers.items p.functions.items p.loops.items p.main p.well_named c.index.result.now c.index.ensures c.put_globals.new.code.items c.emit_function.new.self.instrs.items c.new-2.result.items c.emit_function.new.self.sites.items c.in_ok-entry.entry first c.new-2.ensures.items made.code made.sites made.place made.room in
    next.sound

pub emit_functions-requires-clause-fit : goal.emit_functions-requires-clause-fit
emit_functions-requires-clause-fit c = let p = c.args.program.now in functions_fit p.globals p.reducers.items p.functions.items p.loops.items p.main p.well_named c.deref-2.result.now c.deref-2.ensures.value

pub emit_functions-requires-clause-main : goal.emit_functions-requires-clause-main
emit_functions-requires-clause-main c =
    let p = c.args.program.now in
    let made = c.in_ok-entry.ensures in
    let first = begins c.new.result.items c.put_globals.new.code.items p.reducers.items c.deref.result.now c.new.ensures.items c.deref.ensures.value c.in_ok-put_globals.ensures in
    main_at p.globals p.reducers.items p.functions.items p.loops.items p.main p.well_named c.index.result.now c.index.ensures c.put_globals.new.code.items c.emit_function.new.self.instrs.items c.new-2.result.items c.emit_function.new.self.sites.items c.in_ok-entry.entry first c.new-2.ensures.items made.code made.sites made.place made.room c.deref-2.result.now c.deref-2.ensures.value

pub emit_loops-requires-clause-fit : goal.emit_loops-requires-clause-fit
emit_loops-requires-clause-fit c =
    let p = c.args.program.now in
    let fits = named_fits p.globals p.reducers.items p.functions.items p.loops.items p.main p.well_named in
    λ k l e. fits.loops k l (ap (λ list. slice_get list k) (sym c.deref-3.ensures.value) ∙ e)

pub new-requires-3-clause-is_code : goal.new-requires-3-clause-is_code
new-requires-3-clause-is_code c =
    let p = c.args.program.now in
    let made = c.in_ok-entry.ensures in
    let first = begins c.new.result.items c.put_globals.new.code.items p.reducers.items c.deref.result.now c.new.ensures.items c.deref.ensures.value c.in_ok-put_globals.ensures in (
      source p,
      record {
        well = p.well_named;
        behaves = whole_behaves p.globals p.reducers.items p.functions.items p.loops.items p.main p.well_named c.index.result.now c.index.ensures c.put_globals.new.code.items c.emit_function.new.self.instrs.items c.new-2.result.items c.emit_function.new.self.sites.items c.in_ok-entry.entry first c.new-2.ensures.items made.code made.sites made.place made.room
            c.emit_functions.new.out.instrs.items c.emit_loops.new.out.instrs.items c.emit_functions.new.out.sites.items c.emit_loops.new.out.sites.items _ c.in_ok-layout.layout c.in_ok-functions.functions.items c.in_ok-loops.loops.items c.deref-2.result.now c.deref-3.result.now refl refl c.deref-2.ensures.value c.deref-3.ensures.value
            c.in_ok-functions.ensures.grows c.in_ok-loops.ensures.grows c.in_ok-functions.ensures.entries c.in_ok-loops.ensures.entries _ refl;
        lays = c.in_ok-layout.ensures;
      },
    )

pub returns-clause-asks : goal.returns-clause-asks
returns-clause-asks c =
    let p = c.args.program.now in
    let made = c.in_ok-entry.ensures in
    let first = begins c.new.result.items c.put_globals.new.code.items p.reducers.items c.deref.result.now c.new.ensures.items c.deref.ensures.value c.in_ok-put_globals.ensures in
    whole_behaves p.globals p.reducers.items p.functions.items p.loops.items p.main p.well_named c.index.result.now c.index.ensures c.put_globals.new.code.items c.emit_function.new.self.instrs.items c.new-2.result.items c.emit_function.new.self.sites.items c.in_ok-entry.entry first c.new-2.ensures.items made.code made.sites made.place made.room
    c.emit_functions.new.out.instrs.items c.emit_loops.new.out.instrs.items c.emit_functions.new.out.sites.items c.emit_loops.new.out.sites.items _ c.in_ok-layout.layout c.in_ok-functions.functions.items c.in_ok-loops.loops.items c.deref-2.result.now c.deref-3.result.now refl refl c.deref-2.ensures.value c.deref-3.ensures.value
    c.in_ok-functions.ensures.grows c.in_ok-loops.ensures.grows c.in_ok-functions.ensures.entries c.in_ok-loops.ensures.entries c.new-3.result c.new-3.ensures

pub returns-clause-rooms : goal.returns-clause-rooms
returns-clause-rooms c =
    let p = c.args.program.now in
    let made = c.in_ok-entry.ensures in
    let first = begins c.new.result.items c.put_globals.new.code.items p.reducers.items c.deref.result.now c.new.ensures.items c.deref.ensures.value c.in_ok-put_globals.ensures in
    whole_rooms p.globals p.reducers.items p.functions.items p.loops.items p.main p.well_named c.index.result.now c.index.ensures c.put_globals.new.code.items c.emit_function.new.self.instrs.items c.new-2.result.items c.emit_function.new.self.sites.items c.in_ok-entry.entry first c.new-2.ensures.items made.code made.sites made.place made.room
    c.emit_functions.new.out.instrs.items c.emit_loops.new.out.instrs.items c.emit_functions.new.out.sites.items c.emit_loops.new.out.sites.items _ c.in_ok-layout.layout c.in_ok-functions.functions.items c.in_ok-loops.loops.items c.deref-2.result.now c.deref-3.result.now refl refl c.deref-2.ensures.value c.deref-3.ensures.value
    c.in_ok-functions.ensures.grows c.in_ok-loops.ensures.grows c.in_ok-functions.ensures.entries c.in_ok-loops.ensures.entries c.new-3.result c.new-3.ensures
