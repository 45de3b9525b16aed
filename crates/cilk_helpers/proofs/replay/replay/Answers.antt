use Rattle.std.proofs.Common.{◌≡◌, ◌++◌, ◌∷◌, [], List, ℤ, Option, Some, drop, length, slice_get, sym, ap, ◌∙◌, subst, arith}
use Rattle.std.proofs.lemmas.List.{length_push}
use Rattle.cilk_types.specs.declared.limits.TheConstants.{MAX_TICKS}
use Rattle.cilk_program.specs.declared.ask.Ask.{Ask}
use Rattle.cilk_frames.specs.Following.{Fits, Runs, Steps, owed_for}
use Rattle.cilk_frames.specs.declared.cursor.Answer.{Answer}
use Rattle.cilk_frames.specs.declared.cursor.Answer.TheVariants.{Done}
use Rattle.cilk_helpers.specs.Asked.{NoteView, answer_with, ask_in}
use Rattle.cilk_helpers.specs.Notes.{AreTold, tells_word, words_after}
use Rattle.cilk_helpers.proofs.Heard.{after_none, after_word, first_left, told_more, words_left}
use Rattle.cilk_helpers.proofs.Noting.{Goes, answered, are_notes, goes_on, of_some}
use Rattle.cilk_helpers.proofs.replay.replay.Goals as goal
use Rattle.cilk_helpers.proofs.replay.replay.Goals.{then-is_word, else-is_word}

pub each-preserved : goal.each-preserved
each-preserved c =
    let code = c.args.code.now in
    let inputs = c.args.input.now in
    let inv = c.each.invariant in
    let made = c.step_into.new in
    let ask = ask_in c.in_ok-asked.asked in
    let note : NoteView = record { told = c.in-Some.answer; ask = ask; left = made.left } in
    let step : Steps code inputs c.each.cursor c.in-Some.answer c.each.left ask made.cursor made.left =
    subst (λ (k : Ask). Steps code inputs c.each.cursor c.in-Some.answer c.each.left k made.cursor made.left) (sym c.in_ok-asked.ensures) c.step_into.ensures.follows in
    let words = c.args.words.now in
    let n = c.each.next in
    let next = c.answer-told.result in
    let is : next ≡ answer_with ask (slice_get words n) = c.answer-told.ensures ∙ ap (answer_with ask) c.word_at.ensures in
    let items = c.in_ok-push.ensures.items ∙ ap (λ (n : NoteView). c.each.notes.items ++ n ∷ []) c.new.ensures in
    let long = ap length items ∙ length_push c.each.notes.items note in
    let heard = told_more words (Some Done) c.each.notes.items (drop n words) c.each.told note inv.told c.in-Some.is in
    let heard' = subst (λ (o : Option Answer). AreTold words (Some Done) (c.each.notes.items ++ note ∷ []) (words_after (owed_for ask) (drop n words)) o) (ap (answer_with ask) (first_left n words) ∙ sym is) heard in
    let left = words_left ask n words next is ∙ elim c.if-is_word.branch [
      | then-is_word w ↦ after_word words n c.if-is_word.next (tells_word next) (sym c.is_word.ensures ∙ w.if-is_word.true) (omega (arith, w.next-is))
      | else-is_word w ↦ after_none words n c.if-is_word.next (tells_word next) (sym c.is_word.ensures ∙ w.if-is_word.false) w.next-is
    ] in
    let now = of_some (λ a. Runs code inputs c.each.cursor × Fits c.each.cursor.owed a) c.each.told c.in-Some.answer c.in-Some.is inv.runs in
    record {
      goes = subst (λ (ns : List NoteView). Goes code inputs c.args.cursor MAX_TICKS ns made.cursor made.left)
          (sym items)
          (goes_on code inputs c.args.cursor MAX_TICKS c.each.notes.items c.each.cursor c.each.left note made.cursor inv.goes step);
      runs = answered code inputs c.each.cursor c.in-Some.answer c.each.left ask made.cursor made.left c.answer-told.result _ step now.0 c.answer-told.ensures;
      few = elim c.if-is_word.branch [
        | then-is_word w ↦ omega (arith, w.next-is, inv.few)
        | else-is_word w ↦ omega (arith, w.next-is, inv.few)
      ];
      told = subst (λ (ns : List NoteView). AreTold words (Some Done) ns (drop c.if-is_word.next words) next) (sym items)
          (subst (λ (ws : List ℤ). AreTold words (Some Done) (c.each.notes.items ++ note ∷ []) ws next) left heard');
      long = omega (arith, long, inv.long);
    }

pub returns-in_default-clause-asks : goal.returns-in_default-clause-asks
returns-in_default-clause-asks c = are_notes c.args.code.now c.args.input.now c.args.cursor MAX_TICKS c.each.notes.items c.each.cursor c.each.left c.each.invariant.goes

pub returns-in_default-clause-told : goal.returns-in_default-clause-told
returns-in_default-clause-told c = record {
  words' = drop c.each.next c.args.words.now;
  next = c.each.told;
  told = c.each.invariant.told;
  few = omega (arith, c.each.invariant.long, c.each.auto.count-end);
  whole = λ less. c.in_default.is;
}

pub returns-clause-asks : goal.returns-clause-asks
returns-clause-asks c = are_notes c.args.code.now c.args.input.now c.args.cursor MAX_TICKS c.each.notes.items c.each.cursor c.each.left c.each.invariant.goes

pub returns-clause-told : goal.returns-clause-told
returns-clause-told c = record {
  words' = drop c.each.next c.args.words.now;
  next = c.each.told;
  told = c.each.invariant.told;
  few = omega (arith, c.each.invariant.long, c.each.auto.count-end);
  whole = λ less. absurd (omega (arith, less, c.each.invariant.long, c.each-test.false));
}
