use Rattle.std.proofs.Common.{inr, refl, subst}
use Rattle.std.specs.Prelude.{◌≡◌, ℕ, List, codes}
use Rattle.cilk_commands.specs.Replies.{NoMemory}
use Rattle.cilk_commands.specs.Streams.{AppendsFront}
use Rattle.cilk_commands.proofs.serving.complain.Goals as goal

pub returns-in-Err : goal.returns-in-Err
returns-in-Err g c =
    let same : c.as_bytes.result.now ≡ codes "no memory\n" = c.as_bytes.ensures.value in
    let front : List ℕ → Type 0 =
    λ t. AppendsFront c.tell-in-Err.result (g.E.Write.contents c.args.err.now) (g.E.Write.contents c.tell-in-Err.new.err) t in
    (NoMemory, inr refl, refl, (codes "no memory\n", refl, subst front same c.tell-in-Err.ensures))
