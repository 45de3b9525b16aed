use Rattle.std.proofs.Common.{◌≡◌, ◌≤◌, List, [], ◌∷◌, arith, get_or, length, true}
use Rattle.std.specs.Borrow.{Bor}
use Rattle.std.specs.Prelude.{◌<◌, IfOk}
use Rattle.cilk_messages.specs.About.{IsPageText, asks_meaning, number_asked}
use Rattle.cilk_messages.specs.Asked.{Text}
use Rattle.cilk_messages.specs.Words.{texts}
use Rattle.cilk_messages.specs.declared.help.TheConstants.{VERSION}
use Rattle.cilk_messages.proofs.about.answer_about.Goals as goal

-- what holds of the texts of two words
of_two : (P : List Text → Type 0) (ws : List (Bor Text)) (d e : Bor Text) → 2 ≤ length ws → length ws < 3
    → P (let w = get_or ws 0 d in let v = get_or ws 1 e in w.now ∷ v.now ∷ []) → P (texts ws)
of_two P [] d e most less h = absurd (omega (arith, most))
of_two P (w ∷ []) d e most less h = absurd (omega (arith, most))
of_two P (w ∷ v ∷ []) d e most less h = h
of_two P (w ∷ v ∷ u ∷ ws) d e most less h = absurd (omega (arith, less))

pub returns-in-len2-clause-meaning : goal.returns-in-len2-clause-meaning
returns-in-len2-clause-meaning c =
    of_two (λ ws. asks_meaning ws ≡ true → IfOk c.answer_two.result (λ answer. IsPageText (number_asked ws) VERSION.now answer))
    c.args.words.now _ _ c.in-len2.len_at_least c.in-len2.len_below c.answer_two.ensures.meaning
