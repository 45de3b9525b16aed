use Rattle.std.proofs.Common.{◌≡◌, ap, ◌∙◌}
use Rattle.cilk_replay.specs.Chains.{ChainValue, standing}
use Rattle.cilk_shared.specs.Pieces.{PieceValue}
use Rattle.cilk_workers.specs.Bursts.{Reaches}
use Rattle.cilk_workers.specs.Shared.{SharedValue}
use Rattle.cilk_workers.specs.Turns.{Works}
use Rattle.cilk_workers.specs.declared.work.Work.{Work}
use Rattle.cilk_workers.proofs.along.along.Goals as goal

begins : (y : SharedValue) (w : Work) → Works y w → Reaches y w.piece w.piece
begins y w works = record { good = works.good; grows = λ a ts us led. led }

stands_on : (y : SharedValue) (w : Work) (q : PieceValue) (k : ChainValue) → Works y w → (let c = w.chain in k ≡ standing c.of q.upto) → k ≡ standing y.replay q.upto
stands_on y w q k works is = is ∙ ap (λ (z : ChainValue). standing z.of q.upto) works.stands

pub along-requires-clause-reached : goal.along-requires-clause-reached
along-requires-clause-reached g c = let w = c.args.work.now in (w.piece, begins c.args.shared.now w c.requires)

pub returns : goal.returns
returns g c =
    let y = c.args.shared.now in
    let w = c.args.work.now in
    let q = c.along.new.piece in
    let works = c.requires in
    let r = c.along.ensures.reached w.piece (begins y w works) in
    record {
      works = record { good = r.good; stands = stands_on y w q c.along.new.self works c.along.ensures.chain };
      grows = r.grows;
    }
