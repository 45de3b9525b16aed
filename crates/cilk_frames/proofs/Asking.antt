-- What a caller of `step` knows of a frame, from one request to the next.
use Rattle.std.proofs.Common.{◌≡◌, ℕ, ◌+◌, ◌-◌, ℤ, List, [], ◌∷◌, ◌++◌, sym, ap, ◌∙◌, subst, arith, map, take, get_or, length, ◌<◌}
use Rattle.std.proofs.lemmas.List.{take_more, map-append}
use Rattle.cilk_frames.specs.declared.cursor.Answer.TheVariants.{Done}
use Rattle.cilk_program.specs.Syntax.{Source}
use Rattle.cilk_program.specs.declared.ask.Ask.{Ask}
use Rattle.cilk_program.specs.declared.ask.Ask.TheVariants.{Begin}
use Rattle.cilk_program.specs.declared.ask.Callee.{Callee}
use Rattle.cilk_program.specs.Behaviour.{frame_asks, asks_for}
use Rattle.cilk_lower.specs.Code.{CodeView}
use Rattle.cilk_lower.specs.declared.code.Owed.{Owed}
use Rattle.cilk_frames.specs.declared.cursor.Answer.{Answer}
use Rattle.cilk_frames.specs.Cursor.{CursorView}
use Rattle.cilk_frames.specs.Following.{Asking, Fits, GoesOn, HasAnswer, Stands, owed_for, word_in}

-- a frame at its beginning
pub asking_first : (code : CodeView) (inputs : List ℤ) (p : Source) (callee : Callee) (c : CursorView) (left : ℕ) → Stands code inputs p callee c [] 0 → c.owed ≡ owed_for Begin → Asking code inputs p callee c [] 0 Begin left
asking_first code inputs p callee c left h e =
    let same : 0 + left ≡ left = omega arith in
    record { asks = ap (asks_for Begin) same; stands = λ _. h; owes = λ _. e }

module _ (code : CodeView) (inputs : List ℤ) (p : Source) (callee : Callee) (c : CursorView) (history : List ℤ) (took : ℕ) (k : Ask) (left0 : ℕ) where
  -- the answer fits the request
  pub asking_fits : (answer : Answer) → Asking code inputs p callee c history took k left0 → HasAnswer k → Fits (owed_for k) answer → Fits c.owed answer
  asking_fits answer a h f = subst (λ (o : Owed). Fits o answer) (sym (a.owes h)) f

  -- a step; other frames may have used ticks since the request
  pub asking_next : (answer : Answer) (left : ℕ) (k' : Ask) (c' : CursorView) (left' : ℕ) → Asking code inputs p callee c history took k left0 → HasAnswer k → (Stands code inputs p callee c history took → GoesOn code inputs c answer left k' c' left' p callee history took) → Asking code inputs p callee c' (history ++ word_in answer ∷ []) (took + (left - left')) k' left'
  asking_next answer left k' c' left' a h on =
      let g = on (a.stands h) in
      let same : took + (left - left') + left' ≡ took + left = omega (arith, g.less) in
      record {
        asks = ap (frame_asks p inputs callee (history ++ word_in answer ∷ [])) same ∙ g.asks;
        stands = g.stands;
        owes = g.owes;
      }

-- the history of a frame after these answers, one by one
pub told_more : (answers : List Answer) (i : ℕ) → i < length answers → map word_in (take (i + 1) answers) ≡ map word_in (take i answers) ++ word_in (get_or answers i Done) ∷ []
told_more answers i h = ap (map word_in) (take_more answers i Done h) ∙ map-append word_in (take i answers) (get_or answers i Done ∷ [])
