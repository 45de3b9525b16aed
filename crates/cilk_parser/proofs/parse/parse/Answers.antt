use Rattle.std.proofs.Common.{◌≡◌, [], ◌∷◌, ap, ◌∙◌, length, arith, rules}
use Rattle.cilk_syntax.specs.Expected.{Items, Whole, Unexpected, PastLimit, run}
use Rattle.cilk_syntax.specs.Grammar.{SpellsProgram}
use Rattle.cilk_parser.specs.Texts.{place_of}
use Rattle.cilk_syntax.specs.Trees.{items_of}
use Rattle.cilk_parser.proofs.Laws.{refusal, past_limit, keeps}
use Rattle.cilk_parser.proofs.parse.parse.Goals as goal

pub returns-in-Ok-to_vec-clause-tree : goal.returns-in-Ok-to_vec-clause-tree
returns-in-Ok-to_vec-clause-tree c =
    let spells : SpellsProgram (items_of c.in-Ok-program.items.items) c.in-Ok.tokens.items = rw (← c.deref.ensures.value) c.in-Ok-program.ensures.tree in
    let whole : run c.in-Ok.tokens.items (Items ∷ []) 0 ≡ Whole = rw (← c.deref.ensures.value) c.in-Ok-program.ensures.whole in
    record {
      length = omega arith;
      text = search rules;
      tokens = (c.in-Ok.tokens.items, c.in-Ok.ensures.tokens, spells, keeps _ _ spells whole);
    }

pub returns-in-Err-Unexpected-clause-fault : goal.returns-in-Err-Unexpected-clause-fault
returns-in-Err-Unexpected-clause-fault c =
    let stop : run c.in-Ok.tokens.items (Items ∷ []) 0 ≡ Unexpected c.in-Err-Unexpected.rest.now = rw (← c.deref.ensures.value) (rw c.in-Err-Unexpected.field-0-is at c.in-Err-Unexpected.ensures.stops) in
    let law = refusal c.in-Ok.tokens.items c.in-Err-Unexpected.rest.now stop in
    (omega arith, (c.in-Ok.tokens.items, law.0, c.in-Err-Unexpected.rest.now, c.in-Ok.ensures.tokens, law.1, rw c.in-Err-Unexpected.field-0-is at c.place_of.ensures))

pub returns-clause-fault : goal.returns-clause-fault
returns-clause-fault c =
    let stop : run c.in-Ok.tokens.items (Items ∷ []) 0 ≡ PastLimit c.in-Err-PastLimit.rest.now = rw (← c.deref.ensures.value) (rw c.in-Err-PastLimit.field-0-is at c.in-Err-PastLimit.ensures.stops) in
    let law = past_limit c.in-Ok.tokens.items c.in-Err-PastLimit.rest.now stop in
    (omega arith, (c.in-Ok.tokens.items, law.0, law.1, law.2, c.in-Ok.ensures.tokens, law.4, (rw c.in-Err-PastLimit.field-0-is at c.place_of-in-Err-PastLimit.ensures) ∙ ap (place_of (length c.args.text.now)) law.3))
