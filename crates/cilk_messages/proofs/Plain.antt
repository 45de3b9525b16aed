-- Command lines without the words that add a text.
--
-- - `one_more`: the texts of words with one more;
-- - `fewer`: fewer words remain if any was removed;
-- - `as_many`: no fewer remain if none was removed.
use Rattle.std.proofs.Common.{◌≡◌, ◌≤◌, List, [], ◌∷◌, ◌++◌, refl, ap, ◌∙◌, sym, suc, length, ◌<◌, arith}
use Rattle.std.specs.Borrow.{Bor}
use Rattle.cilk_messages.specs.Asked.{Text, unflagged}
use Rattle.cilk_messages.specs.Words.{texts}

pub one_more : (plain : List (Bor Text)) (w : Bor Text) (words : List Text) → texts (plain ++ w ∷ []) ++ words ≡ texts plain ++ w.now ∷ words
one_more [] w words = refl
one_more (v ∷ plain) w words = ap (λ ts. v.now ∷ ts) (one_more plain w words)

length_texts : (words : List (Bor Text)) → length (texts words) ≡ length words
length_texts [] = refl
length_texts (w ∷ words) = ap (λ n. suc n) (length_texts words)

-- fewer words remain if any was removed
pub fewer : (words plain : List (Bor Text)) → texts plain ≡ unflagged (texts words) → length plain < length words
    → length (unflagged (texts words)) < length (texts words)
fewer words plain same less =
    let short : length (unflagged (texts words)) ≡ length plain = ap length (sym same) ∙ length_texts plain in
    let long : length (texts words) ≡ length words = length_texts words in
    omega arith

-- no fewer remain if none was removed
pub as_many : (words plain : List (Bor Text)) → texts plain ≡ unflagged (texts words) → length words ≤ length plain
    → length (unflagged (texts words)) < length (texts words) → ⊥
as_many words plain same kept less =
    let short : length (unflagged (texts words)) ≡ length plain = ap length (sym same) ∙ length_texts plain in
    let long : length (texts words) ≡ length words = length_texts words in
    omega arith
