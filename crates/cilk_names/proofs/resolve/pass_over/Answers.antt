-- All items, from the first.
use Rattle.std.proofs.Common.{◌≡◌, ◌++◌, length, map, None, refl, ap, ◌∙◌}
use Rattle.cilk_syntax.specs.declared.tree.ReturnType.TheVariants.{Int}
use Rattle.cilk_syntax.specs.Trees.{items_of}
use Rattle.cilk_program.specs.declared.program.Body.TheVariants.{Function}
use Rattle.cilk_program.specs.Programs.{function, loop}
use Rattle.std.proofs.Common.{false}
use Rattle.cilk_names.specs.declared.items.Pass.{Pass}
use Rattle.cilk_names.specs.Globals.{start, behind_items}
use Rattle.cilk_names.specs.Faults.{earliest}
use Rattle.cilk_names.specs.Misnamings.{items_faults}
use Rattle.cilk_names.specs.Pass.{items_functions, items_loops}
use Rattle.cilk_names.specs.States.{known_of}
use Rattle.cilk_names.proofs.AllItems.{started}
use Rattle.cilk_names.proofs.resolve.pass_over.Goals as goal

pub returns : goal.returns
returns c =
    let before : Pass = record {
      scene = record {
        table = c.in_ok-known.field-0;
        frame = record { body = Function 0; returns = Int; cells = 0; heading = false };
        given = c.new.result;
        own = c.new-2.result;
        reducers = 0;
        loops = c.new-3.result;
        first = None;
      };
      openings = c.new-4.result;
      shared = c.new-5.result;
      functions = c.new-6.result;
    } in
    let items = items_of c.args.items.now in
    let at : known_of before ≡ start c.args.text.now items =
    started (known_of before) c.args.text.now c.args.signatures.now items c.in_ok-known.ensures c.requires c.new-4.ensures c.new-5.ensures.items
    (ap length c.new-6.ensures.items) refl (ap length c.new-3.ensures.items) in
    record {
      first = c.in_ok-items.ensures.faults ∙ ap (λ k. earliest None (items_faults k items)) at;
      known = c.in_ok-items.ensures.known ∙ ap (λ k. behind_items k items) at;
      functions = c.in_ok-items.ensures.functions ∙ ap (λ fs. map function fs ++ items_functions (known_of before) items) c.new-6.ensures.items ∙ ap (λ k. items_functions k items) at;
      loops = c.in_ok-items.ensures.loops ∙ ap (λ ls. map loop ls ++ items_loops (known_of before) items) c.new-3.ensures.items ∙ ap (λ k. items_loops k items) at;
    }
