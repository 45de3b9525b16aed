use Rattle.std.proofs.Common.{◌≡◌, ◌++◌, ◌∷◌, [], ap, ◌∙◌, to_z, of_z, w64}
use Rattle.std.proofs.lemmas.Int.{to_z-of_z}
use Rattle.std.proofs.lemmas.Result.{on_ok_weaker}
use Rattle.cilk_program.specs.Programs.{target}
use Rattle.cilk_lower.specs.declared.code.Instr.TheVariants.{Tick, AddNumber}
use Rattle.cilk_lower.specs.Code.{index_code, fetch, store}
use Rattle.cilk_lower.proofs.Lists.{stepped}
use Rattle.cilk_lower.proofs.simple.emit_step.Goals as goal

pub returns-clause-code : goal.returns-clause-code
returns-clause-code c =
    let base = c.args.code.now.items in
    let to = target c.args.to.now in
    let word = to_z w64 (of_z w64 c.args.number) in
    on_ok_weaker {P = c.put-3.new.code.items ≡ c.put-2.new.code.items ++ c.store_to.result ∷ []} {Q = c.put-3.new.code.items ≡ base ++ (Tick ∷ (index_code to ++ (fetch to ∷ (AddNumber c.args.number ∷ (store to ∷ [])))))} c.put-3.result (λ e.
    stepped _ _ _ _ _ _ _ _ _ _ c.in_ok-begin.ensures c.in_ok-below.ensures.code c.in_ok-put.ensures c.in_ok-put-2.ensures e
    ∙ ap (λ i. base ++ (Tick ∷ (index_code to ++ (c.fetch_from.result ∷ (AddNumber word ∷ (i ∷ [])))))) c.store_to.ensures
    ∙ ap (λ i. base ++ (Tick ∷ (index_code to ++ (i ∷ (AddNumber word ∷ (store to ∷ [])))))) c.fetch_from.ensures
    ∙ ap (λ n. base ++ (Tick ∷ (index_code to ++ (fetch to ∷ (AddNumber n ∷ (store to ∷ [])))))) (to_z-of_z w64 c.args.number c.ranges.number)) c.put-3.ensures
