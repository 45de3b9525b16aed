use Rattle.std.proofs.Common.{Bool, ℤ, List, None, ap, ◌∙◌}
use Rattle.std.proofs.lemmas.Result.{IfOk-weaker}
use Rattle.cilk_program.specs.declared.ask.Callee.TheVariants.{Function}
use Rattle.cilk_lower.specs.declared.code.EntryPoint.{EntryPoint}
use Rattle.cilk_lower.specs.Code.{entry_of}
use Rattle.cilk_frames.specs.Cursor.{begins_at}
use Rattle.cilk_frames.proofs.Following.{stands_as}
use Rattle.cilk_frames.proofs.cursor.Cursor.function_in.Goals as goal

pub returns-clause-stands : goal.returns-clause-stands
returns-clause-stands g c =
    let call = c.args.call.now in
    let entry = entry_of c.args.code.now (Function call) in
    let begins = λ (e : EntryPoint) (ws : List ℤ) (t : Bool). begins_at e (record { words = ws; part = None; takes = t }) in
    let same = ap (λ e. begins e c.as_slice.result.now c.is_some.result) c.function_entry-entry.ensures
    ∙ ap (λ ws. begins entry ws c.is_some.result) c.as_slice.ensures ∙ ap (begins entry call.words) c.is_some.ensures in
    IfOk-weaker c.first.result _ _ (λ x e p inputs h fit. stands_as p c.args.code.now inputs (Function call) x _ e same h fit) c.first.ensures

pub returns-clause-first : goal.returns-clause-first
returns-clause-first g c =
    let call = c.args.call.now in
    let entry = entry_of c.args.code.now (Function call) in
    let begins = λ (e : EntryPoint) (ws : List ℤ) (t : Bool). begins_at e (record { words = ws; part = None; takes = t }) in
    let same = ap (λ e. begins e c.as_slice.result.now c.is_some.result) c.function_entry-entry.ensures
    ∙ ap (λ ws. begins entry ws c.is_some.result) c.as_slice.ensures ∙ ap (begins entry call.words) c.is_some.ensures in
    IfOk-weaker c.first.result _ _ (λ x e. e ∙ same) c.first.ensures
