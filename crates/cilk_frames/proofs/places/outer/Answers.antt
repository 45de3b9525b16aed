use Rattle.std.proofs.Common.{◌≡◌, ◌<◌, Option, Bor, MatchOption, None, Some, sym, subst}
use Rattle.std.specs.Prelude.{slice_get}
use Rattle.cilk_frames.specs.declared.activation.Activation.{Activation}
use Rattle.cilk_frames.specs.Sight.{home_at}
use Rattle.cilk_frames.proofs.Links.{nothing_there, outer_gives}
use Rattle.cilk_frames.proofs.places.outer.Goals as goal

pub returns-in_err-place : goal.returns-in_err-place
returns-in_err-place g c = λ scope sees.
    subst (λ (o : Option (Bor (Activation g.row.C.Denot))). MatchOption o (slice_get scope c.args.up ≡ None) (λ frame. (slice_get scope c.args.up ≡ Some (home_at frame.now)) × (frame.now.first < 65536))) (sym c.from_residual.ensures)
    (nothing_there c.args.frames.now scope c.args.up (c.in_err-place.ensures scope sees))

pub returns : goal.returns
returns g c = λ scope sees. outer_gives c.args.frames.now scope c.args.up c.in_ok-place.place c.at.result (c.in_ok-place.ensures scope sees) c.at.ensures
