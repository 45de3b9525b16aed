-- No item yet, one more item, and the end.
use Rattle.std.proofs.Common.{◌≡◌, ℕ, List, [], sym, ap, ◌∙◌, arith}
use Rattle.std.specs.Option.{option_or}
use Rattle.cilk_syntax.specs.Trees.{item, items_of}
use Rattle.cilk_names.specs.Names.{Names, Scope, empty}
use Rattle.cilk_names.specs.Contexts.{functions_known, with_item}
use Rattle.cilk_names.specs.Tables.{names_of, scope_of}
use Rattle.cilk_names.proofs.Functions.{known_step, known_end, known_names, counted_most}
use Rattle.cilk_names.proofs.headings.known.Goals as goal

pub each-init : goal.each-init
each-init c =
    let inner : scope_of c.new-table.result.inner ≡ empty = ap (λ (n : Names). n.inner) c.new-table.ensures in
    record {
      count = omega arith;
      rest = c.new-table.ensures ∙ ap (λ (s : Scope). let n : Names = record { text = c.args.text.now; signatures = c.args.signatures.now; inner = s; outer = []; level = 0 } in n) (sym inner);
      known = λ (q : List ℕ). ap (λ (s : Scope). option_or (s q) (functions_known c.args.text.now 0 (items_of c.args.items.now) q)) inner;
    }

pub each-preserved : goal.each-preserved
each-preserved c =
    let text : c.each.table.text.now ≡ c.args.text.now = ap (λ (n : Names). n.text) c.each.invariant.rest in
    let inner : scope_of c.know.new.table.inner ≡ with_item c.args.text.now (scope_of c.each.table.inner) c.each.count (item c.item-item.result) =
    ap (λ (n : Names). n.inner) c.in_ok-know.ensures.names ∙ ap (λ t. with_item t (scope_of c.each.table.inner) c.each.count (item c.item-item.result)) text in
    record {
      count = omega (arith, counted_most c.each.count (item c.item-item.result), c.functions_behind-count.ensures, c.each.invariant.count);
      rest = known_names (names_of c.each.table) (names_of c.know.new.table) (with_item c.each.table.text.now (scope_of c.each.table.inner) c.each.count (item c.item-item.result)) (scope_of c.each.table.inner)
          c.args.text.now c.args.signatures.now c.in_ok-know.ensures.names c.each.invariant.rest;
      known = known_step c.args.text.now c.args.items.now c.each.item-index c.item-item.result (scope_of c.each.table.inner) (scope_of c.know.new.table.inner) c.each.count c.functions_behind-count.result
          c.each-test.true c.item-item.is c.each.invariant.known inner c.functions_behind-count.ensures;
    }

pub returns : goal.returns
returns c =
    c.each.invariant.rest
    ∙ ap (λ (s : Scope). let n : Names = record { text = c.args.text.now; signatures = c.args.signatures.now; inner = s; outer = []; level = 0 } in n)
    (known_end c.args.text.now c.args.items.now c.each.item-index (scope_of c.each.table.inner) c.each.count c.each-test.false c.each.invariant.known)
