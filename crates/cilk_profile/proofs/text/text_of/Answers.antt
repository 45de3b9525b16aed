use Rattle.std.proofs.Common.{◌≡◌, Bool, true, sym, ◌∙◌}
use Rattle.std.proofs.lemmas.Bool.{true≢false}
use Rattle.std.specs.Prelude.{IfErr, IfOk, IsFalse, List, Result, Ok, Err}
use Rattle.cilk_messages.specs.Words.{texts}
use Rattle.cilk_profile.specs.Measured.{IsAboutPictures, is_drawn}
use Rattle.cilk_messages.specs.Asked.{Text}
use Rattle.cilk_profile.specs.declared.text.NoText.{NoText}
use Rattle.cilk_profile.specs.declared.text.NoText.TheVariants as reasons
use Rattle.cilk_profile.proofs.text.text_of.Goals as goal

-- nothing has to be shown of a picture
free : {T E : Type 0} (x : Result T E) (b b' : Bool) (P : T → Type 0) → b ≡ true → b ≡ b' → IfOk x (λ v. IsFalse b' → P v)
free (Ok v) b b' P held same = λ other. absurd (true≢false (sym held ∙ same ∙ other))
free (Err e) b b' P held same = tt

-- any reason is one of a picture
about : (words : List Text) (why : NoText) → is_drawn words ≡ true → IsAboutPictures words why
about words (reasons.Undrawn text) drawn = drawn
about words (reasons.Fault fault) drawn = tt

undrawn : {T : Type 0} (words : List Text) (x : Result T NoText) → is_drawn words ≡ true → IfErr x (IsAboutPictures words)
undrawn words (Ok v) drawn = tt
undrawn words (Err why) drawn = about words why drawn

pub returns-then-is_drawn-clause-text : goal.returns-then-is_drawn-clause-text
returns-then-is_drawn-clause-text c = free c.drawn.result _ _ _ c.if-is_drawn.true c.is_drawn.ensures

pub returns-then-is_drawn-clause-undrawn : goal.returns-then-is_drawn-clause-undrawn
returns-then-is_drawn-clause-undrawn c = undrawn (texts c.args.words.now) c.drawn.result (sym c.is_drawn.ensures ∙ c.if-is_drawn.true)
