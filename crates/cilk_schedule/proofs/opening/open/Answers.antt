use Rattle.std.proofs.lemmas.List.{length-replicate}
use Rattle.std.proofs.Common.{length-append, replicate, pos, ap₂, ◌-◌, ◌≡◌, ◌+◌, length, [], ◌∷◌, ◌++◌, Some, None, refl, sym, ap, ◌∙◌, subst, arith}
use Rattle.cilk_program.specs.declared.ask.Ask.TheVariants as asks
use Rattle.cilk_program.specs.declared.ask.Callee.TheVariants as callees
use Rattle.cilk_program.specs.SerialRun.{cells_of, home_of}
use Rattle.cilk_lower.specs.Layout.{cells_in, function_frame}
use Rattle.cilk_lower.specs.declared.layout.Layout.{Layout}
use Rattle.cilk_frames.specs.Sight.{HasScope}
use Rattle.cilk_schedule.specs.Sound.{Sound}
use Rattle.cilk_scheduler.proofs.NewSchedulers.{schedulers_are_new}
use Rattle.cilk_schedule.proofs.Opened.{opened}
use Rattle.cilk_schedule.proofs.FirstSchedulers.{has_opened}
use Rattle.cilk_schedule.proofs.opening.open.Goals as goal

pub returns-clause-runs : goal.returns-clause-runs
returns-clause-runs c = λ inputs.
    let q = c.laws.ensures in
    let p = q.0 in
    let is = q.1 in
    let lays = is.lays in
    let a = c.root-2.result in
    let here = c.layout-layout.ensures in
    let globals : c.len-globals.result ≡ length p.openings = c.len-globals.ensures ∙ ap (λ (l : Layout). length l.openings) here ∙ ap length lays.openings in
    let reducers : c.len-reducers.result ≡ length p.reducers = c.len-reducers.ensures ∙ ap (λ (l : Layout). length l.reducers) here ∙ ap length lays.reducers in
    let opens : length c.in_ok-cells.cells.items ≡ length p.openings = ap length (c.in_ok-cells.ensures.items ∙ c.as_slice.ensures ∙ ap (λ (l : Layout). l.openings) here ∙ lays.openings) in
    let own : c.function_cells.result ≡ cells_of p callees.Root = c.function_cells.ensures ∙ ap (λ (l : Layout). let f = function_frame l l.main in f.cells) here ∙ lays.cells callees.Root in
    let more : length c.add_cells.new.cells.items ≡ length c.in_ok-cells.cells.items + c.function_cells.result = ap length c.in_ok-add_cells.ensures ∙ length-append c.in_ok-cells.cells.items (replicate c.function_cells.result (pos 0)) ∙ ap (λ n. length c.in_ok-cells.cells.items + n) (length-replicate c.function_cells.result (pos 0)) in
    let cells : length c.add_cells.new.cells.items ≡ length p.openings + cells_of p callees.Root = omega (arith, more, opens, own) in
    record {
      program = p;
      is_code = is;
      sound = subst (λ l. Sound c.args.code.now p inputs l (length c.add_cells.new.cells.items) (length c.new.result.items) None asks.Begin) (sym (c.in_ok-push.ensures.items ∙ ap (λ l. l ++ a ∷ []) c.new-frames.ensures.items))
          (subst (λ n. Sound c.args.code.now p inputs (a ∷ []) (length c.add_cells.new.cells.items) n None asks.Begin) (sym (ap length c.new.ensures.items))
          (opened c.args.code.now p inputs is a c.in_ok-root.field-0 (length c.add_cells.new.cells.items) cells (c.root-2.ensures.cursor ∙ c.new-frame_state.ensures) c.root-2.ensures.number c.root-2.ensures.result
          (c.root-2.ensures.creator ∙ ap (λ (l : Layout). Some l.main) here)
          (subst (λ n. HasScope (a ∷ []) a (home_of p callees.Root 1 n [] ∷ [])) globals (c.root-2.ensures.sees p (a ∷ []) globals reducers))
          (c.in_ok-root.ensures.stands p inputs is.behaves) c.in_ok-root.ensures.owes));
      ticks = omega arith;
      offers = omega arith;
    }

pub returns-clause-opened : goal.returns-clause-opened
returns-clause-opened c = λ p inputs is.
    let a = c.root-2.result in
    let here = c.layout-layout.ensures in
    let globals : c.len-globals.result ≡ (let l = c.args.code.now.layout in length l.openings) = c.len-globals.ensures ∙ ap (λ (l : Layout). length l.openings) here in
    let reducers : c.len-reducers.result ≡ (let l = c.args.code.now.layout in length l.reducers) = c.len-reducers.ensures ∙ ap (λ (l : Layout). length l.reducers) here in
    let opens : c.in_ok-cells.cells.items ≡ (let l = c.args.code.now.layout in l.openings) = c.in_ok-cells.ensures.items ∙ c.as_slice.ensures ∙ ap (λ (l : Layout). l.openings) here in
    let own : c.function_cells.result ≡ (let l = c.args.code.now.layout in cells_in l callees.Root) = c.function_cells.ensures ∙ ap (λ (l : Layout). let f = function_frame l l.main in f.cells) here in
    has_opened c.args.code.now p inputs is _ (c.args.workers - 1) (schedulers_are_new c.args.code.now p inputs _ c.in_ok-root.field-0 a (c.args.workers - 1) is.lays (c.in_ok-root.ensures.stands p inputs is.behaves) c.in_ok-root.ensures.owes
    (λ q frames go gr. subst (λ n. HasScope frames a (home_of q callees.Root 1 n [] ∷ [])) globals (c.root-2.ensures.sees q frames (globals ∙ go) (reducers ∙ gr)))
    (c.root-2.ensures.cursor ∙ c.new-frame_state.ensures) c.root-2.ensures.number (c.root-2.ensures.base ∙ globals) c.root-2.ensures.result (c.root-2.ensures.creator ∙ ap (λ (l : Layout). Some l.main) here)
    (c.in_ok-push.ensures.items ∙ ap (λ l. l ++ a ∷ []) c.new-frames.ensures.items)
    (c.in_ok-add_cells.ensures ∙ ap₂ (λ l n. l ++ replicate n (pos 0)) opens own)
    (c.in_ok-first_workers.ensures.count ∙ omega (arith, c.requires)) c.in_ok-first_workers.ensures.opens refl c.new.ensures.items refl refl)
