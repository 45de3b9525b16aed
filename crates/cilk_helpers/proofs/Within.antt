-- `within`: a step with fewer ticks. A frame makes the same ask without the ticks that it doesn't
-- need.
use Rattle.std.proofs.Common.{◌≡◌, ◌+◌, ◌-◌, ◌≤◌, [], ◌∷◌, ◌++◌, sym, ap, ◌∙◌, subst, arith}
use Rattle.cilk_program.specs.Behaviour.{frame_asks}
use Rattle.cilk_program.proofs.Ticking.{runs_short}
use Rattle.cilk_frames.specs.Following.{Stands, word_in}
use Rattle.cilk_frames.proofs.Following.{stands_on}
use Rattle.cilk_helpers.specs.Notes.{NotesAreWithinFewerTicks}

pub within : NotesAreWithinFewerTicks
within code p inputs c d told k left left' spare steps fits callee history took h =
    let big = stands_on code inputs c told (left + spare) k d (left' + spare) steps p callee history took h in
    let less = big.less in
    let low : left' ≤ left = omega (arith, less) in
    let more : took + (left + spare) ≡ took + left + spare = omega arith in
    let same : took + (left + spare - (left' + spare)) ≡ took + (left - left') = omega (arith, low) in
    let past = history ++ word_in told ∷ [] in
    record {
      less = low;
      asks = (runs_short p inputs).fewer callee past (took + left) spare left' k (ap (frame_asks p inputs callee past) (sym more) ∙ big.asks) fits;
      stands = λ has. subst (λ n. Stands code inputs p callee d past n) same (big.stands has);
      owes = big.owes;
    }
