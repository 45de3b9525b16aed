use Rattle.std.proofs.Common.{◌≡◌, ◌+◌, ◌++◌, ◌∷◌, [], max, ap, ◌∙◌, arith}
use Rattle.std.proofs.lemmas.Result.{on_ok_weaker}
use Rattle.cilk_program.specs.Programs.{expression, target}
use Rattle.cilk_lower.specs.declared.code.Instr.TheVariants.{Tick, Combine}
use Rattle.cilk_lower.specs.Code.{expr_code, index_code, fetch, store}
use Rattle.cilk_lower.specs.Rooms.{depth, index_depth, indices}
use Rattle.cilk_lower.proofs.Lists.{changed}
use Rattle.cilk_lower.proofs.simple.emit_change.Goals as goal

pub returns-clause-code : goal.returns-clause-code
returns-clause-code c =
    let base = c.args.code.now.items in
    let to = target c.args.to.now in
    let value = expr_code (expression c.args.e.now) in
    let op = c.args.operator in
    on_ok_weaker {P = c.put-3.new.code.items ≡ c.put-2.new.code.items ++ c.store_to.result ∷ []} {Q = c.put-3.new.code.items ≡ base ++ (Tick ∷ (index_code to ++ (fetch to ∷ (value ++ (Combine op ∷ (store to ∷ []))))))} c.put-3.result (λ e.
    changed _ _ _ _ _ _ _ _ _ _ _ _ c.in_ok-begin.ensures c.in_ok-below.ensures.code c.in_ok-put.ensures c.in_ok-emit_above.ensures.code c.in_ok-put-2.ensures e
    ∙ ap (λ i. base ++ (Tick ∷ (index_code to ++ (c.fetch_from.result ∷ (value ++ (Combine op ∷ (i ∷ []))))))) c.store_to.ensures
    ∙ ap (λ i. base ++ (Tick ∷ (index_code to ++ (i ∷ (value ++ (Combine op ∷ (store to ∷ []))))))) c.fetch_from.ensures) c.put-3.ensures

pub returns-clause-room : goal.returns-clause-room
returns-clause-room c =
    let to = target c.args.to.now in
    on_ok_weaker {P = c.put-3.new.code.items ≡ c.put-2.new.code.items ++ c.store_to.result ∷ []} {Q = c.emit_above.new.room ≡ max c.args.room.now (max (index_depth to) (depth (expression c.args.e.now) + (indices to + 1)))} c.put-3.result (λ e. omega (arith, c.in_ok-below.ensures.room, c.in_ok-below.ensures.indices, c.in_ok-emit_above.ensures.room)) c.put-3.ensures
