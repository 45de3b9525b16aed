use Rattle.std.proofs.Common.{ℕ, List, sym, ap, ◌∙◌}
use Rattle.cilk_program.specs.Programs.{expression, invoke}
use Rattle.cilk_program.specs.declared.syntax.Reducer.{Reducer}
use Rattle.cilk_lower.specs.declared.code.Site.{Site}
use Rattle.cilk_lower.specs.Code.{site}
use Rattle.cilk_lower.proofs.Standing.{long_map}
use Rattle.cilk_lower.proofs.emitter.site_of.Goals as goal

pub returns : goal.returns
returns c =
    let call = c.args.call.now in
    ap {A = ℕ} {B = Site} (λ n. record { how = call.how; function = call.function; words = n; reducers = c.references.result; result = call.result }) (c.len.ensures ∙ call.arguments.ok.0 ∙ sym (long_map expression call.arguments.items))
    ∙ ap {A = List Reducer} {B = Site} (λ rs. record (site (invoke call)) { reducers = rs }) (c.references.ensures ∙ c.deref.ensures.value)
