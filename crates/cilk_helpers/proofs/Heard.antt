-- The answers that a frame receives as its notes are made.
--
-- - `told_more`: one more note;
-- - `first_left`, `words_left`, `after_word`, `after_none`: the remaining words, by place and after
--   one more note.
use Rattle.std.proofs.Common.{◌≡◌, ℕ, zero, suc, ℤ, List, [], ◌∷◌, ◌++◌, Bool, true, false, if◌then◌else◌, Option, Some, option_map, drop, slice_get, refl, sym, ap, ◌∙◌}
use Rattle.cilk_program.specs.declared.ask.Ask.{Ask}
use Rattle.cilk_program.specs.declared.ask.Ask.TheVariants as asks
use Rattle.cilk_frames.specs.declared.cursor.Answer.{Answer}
use Rattle.cilk_frames.specs.declared.cursor.Answer.TheVariants.{Done, Value}
use Rattle.cilk_frames.specs.Following.{owed_for}
use Rattle.cilk_helpers.specs.Asked.{NoteView, answer_with}
use Rattle.cilk_helpers.specs.Notes.{AreTold, tells_word, words_after}

pub told_more : (words : List ℤ) (next : Option Answer) (ns : List NoteView) (words' : List ℤ) (next' : Option Answer) (n : NoteView)
    → AreTold words next ns words' next' → next' ≡ Some n.told
    → AreTold words next (ns ++ n ∷ []) (words_after (owed_for n.ask) words') (answer_with n.ask (slice_get words' 0))
told_more words next [] words' next' n h is =
    (sym h.1 ∙ is, (ap (words_after (owed_for n.ask)) h.0, ap (λ (ws : List ℤ). answer_with n.ask (slice_get ws 0)) h.0))
told_more words next (m ∷ ns) words' next' n h is =
    (h.0, told_more (words_after (owed_for m.ask) words) (answer_with m.ask (slice_get words 0)) ns words' next' n h.1 is)

-- the first remaining word
pub first_left : (n : ℕ) (words : List ℤ) → slice_get (drop n words) 0 ≡ slice_get words n
first_left zero words = refl
first_left (suc n) [] = refl
first_left (suc n) (w ∷ words) = first_left n words

-- the words from a place on, after one that may be there
past : (n : ℕ) (words : List ℤ) (told : Option Answer) → told ≡ option_map (λ (w : ℤ). Value w) (slice_get words n)
    → drop 1 (drop n words) ≡ (if tells_word told then drop (suc n) words else drop n words)
past zero [] told is = sym (ap (λ (o : Option Answer). if tells_word o then [] else []) is)
past zero (w ∷ words) told is = sym (ap (λ (o : Option Answer). if tells_word o then words else w ∷ words) is)
past (suc n) [] told is = sym (ap (λ (o : Option Answer). if tells_word o then [] else []) is)
past (suc n) (w ∷ words) told is = past n words told is

same : (n : ℕ) (words : List ℤ) (told : Option Answer) → told ≡ Some Done → drop n words ≡ (if tells_word told then drop (suc n) words else drop n words)
same n words told is = sym (ap (λ (o : Option Answer). if tells_word o then drop (suc n) words else drop n words) is)

pub words_left : (k : Ask) (n : ℕ) (words : List ℤ) (told : Option Answer) → told ≡ answer_with k (slice_get words n)
    → words_after (owed_for k) (drop n words) ≡ (if tells_word told then drop (suc n) words else drop n words)
words_left asks.Begin n words told is = same n words told is
words_left (asks.Read x) n words told is = past n words told is
words_left (asks.Write x v) n words told is = same n words told is
words_left (asks.Create r) n words told is = same n words told is
words_left (asks.Update r v) n words told is = same n words told is
words_left (asks.Set r v) n words told is = same n words told is
words_left (asks.Value r) n words told is = past n words told is
words_left (asks.Print v) n words told is = same n words told is
words_left (asks.Invoke how callee) n words told is = same n words told is
words_left asks.Resume n words told is = same n words told is
words_left asks.Sync n words told is = same n words told is
words_left (asks.Result v) n words told is = same n words told is
words_left (asks.End v) n words told is = sym (ap (λ (o : Option Answer). if tells_word o then drop (suc n) words else drop n words) is)
words_left (asks.Fault f) n words told is = sym (ap (λ (o : Option Answer). if tells_word o then drop (suc n) words else drop n words) is)

pub after_word : (words : List ℤ) (n n' : ℕ) (b : Bool) → b ≡ true → n' ≡ suc n → (if b then drop (suc n) words else drop n words) ≡ drop n' words
after_word words n n' b word is = ap (λ (c : Bool). if c then drop (suc n) words else drop n words) word ∙ ap (λ (k : ℕ). drop k words) (sym is)

pub after_none : (words : List ℤ) (n n' : ℕ) (b : Bool) → b ≡ false → n' ≡ n → (if b then drop (suc n) words else drop n words) ≡ drop n' words
after_none words n n' b none is = ap (λ (c : Bool). if c then drop (suc n) words else drop n words) none ∙ ap (λ (k : ℕ). drop k words) (sym is)
