use Rattle.std.proofs.Common.{All, rules}
use Rattle.std.proofs.lemmas.List.Elements.{All-append, All-drop, All-take}
use Rattle.cilk_program.specs.Sources.{source}
use Rattle.cilk_helpers.specs.Whole.{IsKept}
use Rattle.cilk_helpers.proofs.depths.replays.Goals as goal

pub round-requires-after_bounds : goal.round-requires-after_bounds
round-requires-after_bounds g c κs within =
    (source c.args.program.now, c.requires.behaves, c.in_ok-shares.ensures.fits (source c.args.program.now) c.rounds.invariant.fits)

pub rounds-preserved : goal.rounds-preserved
rounds-preserved g c =
    let inv = c.rounds.invariant in
    let p = source c.args.program.now in
    let kept = IsKept c.args.code.now p c.args.input.now in
    let before : All kept c.deref_mut.result.now = search rules in
    record {
      kept = All-take kept _ _ (All-append kept _ _
          (c.keep.ensures c.args.code.now p c.args.input.now before (c.in_ok-replayed.ensures p c.requires.behaves))
          (All-drop kept _ _ inv.kept));
      fits = c.in_ok-dues-2.ensures;
    }
