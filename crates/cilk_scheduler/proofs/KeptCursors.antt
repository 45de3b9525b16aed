-- A cursor's next ask by names.
use Rattle.std.proofs.Common.{◌≡◌, ◌≤◌, ◌-◌, ◌+◌, suc, ℤ, cond, List, [], ◌∷◌, ◌++◌, Some, None, sym, ap, ◌∙◌, subst, arith}
use Rattle.cilk_types.specs.declared.limits.TheConstants.{MAX_TICKS}
use Rattle.cilk_program.specs.Behaviour.{OpenAsk, asks_for, frame_asks}
use Rattle.cilk_program.specs.Syntax.{Source}
use Rattle.cilk_frames.specs.Following.{Stands, word_in}
use Rattle.cilk_determinacy.specs.Machine.{started}
use Rattle.cilk_determinacy.specs.FrameEnvMachine.{answers_of, but_last, taken, asked_after, named_ask}
use Rattle.cilk_scheduler.specs.KeptCursors.{NextIsNamed}
use Rattle.cilk_determinacy.proofs.Histories.{but_last_more, answers_more}

pub next_is_named : (p : Source) (inputs : List ℤ) → NextIsNamed p inputs
next_is_named p inputs code w deeds c c' answer took left k told going goes =
    let whole : took + (MAX_TICKS - took) ≡ MAX_TICKS = omega (arith, told.small) in
    let history : answers_of deeds ≡ answers_of told.past ++ word_in answer ∷ [] = ap answers_of told.deeds_are ∙ answers_more told.past told.last ∙ ap (λ v. answers_of told.past ++ v ∷ []) (sym told.answers) in
    let asked : asked_after p inputs w deeds ≡ asks_for k left = ap (λ h. frame_asks p inputs w.callee h MAX_TICKS) history ∙ subst (λ n. frame_asks p inputs w.callee (answers_of told.past ++ word_in answer ∷ []) n ≡ asks_for k left) whole goes.asks in
    let taken_now : taken p inputs w deeds ≡ MAX_TICKS - left = ap (λ (q : OpenAsk). MAX_TICKS - q.left) asked in
    let taken_before : taken p inputs w (but_last deeds) ≡ took = ap (λ d. taken p inputs w (but_last d)) told.deeds_are ∙ ap (taken p inputs w) (but_last_more told.past told.last) ∙ sym told.took_is in
    let less : left ≤ MAX_TICKS - took = goes.less in
    let sum : took + ((MAX_TICKS - took) - left) ≡ MAX_TICKS - left = omega (arith, told.small, less) in record {
      asks = ap (λ b. cond b None (Some (named_ask p w (suc (started deeds)) (let q = asked_after p inputs w deeds in q.ask)))) going ∙ ap (λ (q : OpenAsk). Some (named_ask p w (suc (started deeds)) q.ask)) asked;
      ticks = omega (arith, taken_now, taken_before, sum, told.small, less);
      more = omega arith;
      took_is = sum ∙ sym taken_now;
      small = omega (arith, sum);
      stands = λ has. subst (λ h. Stands code inputs p w.callee c' h (took + ((MAX_TICKS - took) - left))) (sym history) (goes.stands has);
    }
