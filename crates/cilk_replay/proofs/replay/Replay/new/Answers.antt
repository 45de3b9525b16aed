use Rattle.std.proofs.Common.{◌∙◌, length, sym, ap, subst, arith}
use Rattle.std.proofs.lemmas.List.{length-map}
use Rattle.cilk_program.specs.declared.program.GlobalReducer.{GlobalReducer}
use Rattle.cilk_program.specs.Sources.{source}
use Rattle.cilk_replay.specs.Replays.{AreFramesAlong, ReplayValue, IsReplay}
use Rattle.cilk_replay.proofs.replay.Replay.new.Goals as goal

pub invariant_of-result : goal.invariant_of-result
invariant_of-result c =
    let q = sym c.of.ensures in (
      subst IsReplay q c.requires.replay,
      ap (λ (z : ReplayValue). z.code) q,
      ap (λ (z : ReplayValue). z.inputs) q,
      c.len.ensures ∙ ap (λ (z : ReplayValue). let p = source z.program in length p.openings) q,
      (let many = length-map (let p = c.args.program.now in p.reducers.items) (λ (r : GlobalReducer). r.kind) in
          let same = ap (λ (z : ReplayValue). let p = source z.program in length p.reducers) q in
          let len = c.len-2.ensures in
          omega (arith, many, same, len)),
      subst (λ (z : ReplayValue). AreFramesAlong z c.args.frames.now) q c.requires.frames,
    )
