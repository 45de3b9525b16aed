use Rattle.std.proofs.Common.{◌≡◌, ℕ, ◌∙◌, ap, length}
use Rattle.cilk_program.specs.declared.program.Program.{Program}
use Rattle.cilk_program.specs.Sources.{source}
use Rattle.cilk_plan.specs.Frames.{end_from}
use Rattle.cilk_plan.proofs.Naming.{run_holds}
use Rattle.cilk_plan.proofs.planning.cells_of.Goals as goal

pub returns : goal.returns
returns c =
    let a = c.args.accepted.now in
    let globals : c.len-globals.result ≡ length (source a.program).openings = c.len-globals.ensures ∙ ap (λ (p : Program). length p.globals) c.program.ensures.value in
    let end : c.end_of.result ≡ end_from (length (source a.program).openings) c.frames.result.now = c.end_of.ensures ∙ ap (λ (n : ℕ). end_from n c.frames.result.now) globals in
    let h = run_holds a c.program.ensures.determinate c.frames.result.now c.frames.ensures c.end_of.result end in
    record { globals = h.globals; named = h.named; few = h.few }
