use Rattle.std.proofs.Common.{◌≡◌, ℕ, Bool, true, false, cond, List, [], ◌∷◌, ◌++◌, Option, Some, None, take, drop, refl, sym, ap, ◌∙◌}
use Rattle.std.specs.Str.{bytes_eq}
use Rattle.cilk_cert_text.specs.declared.line.Keyword.{Keyword}
use Rattle.cilk_cert_text.specs.Lines.{spelling, all_keywords, first_spelled, keyword_of}
use Rattle.cilk_cert_text.proofs.parse.keyword.Goals as goal

abbrev or_in : Option Keyword → List Keyword → List ℕ → Option Keyword
or_in None later word = first_spelled later word
or_in (Some k) later word = Some k

or_this : (t : Bool) (k : Keyword) (o : Option Keyword) (later : List Keyword) (word : List ℕ) → cond t (Some k) (or_in o later word) ≡ or_in (cond t (Some k) o) later word
or_this true k o later word = refl
or_this false k o later word = refl

spelled_in : (first later : List Keyword) (word : List ℕ) → first_spelled (first ++ later) word ≡ or_in (first_spelled first word) later word
spelled_in [] later word = refl
spelled_in (k ∷ ks) later word = rw (spelled_in ks later word) (or_this (bytes_eq word (spelling k)) k (first_spelled ks word) later word)

pub returns-in-Some : goal.returns-in-Some
unfolding keyword_of
returns-in-Some c =
    let word = c.args.word.now in
    ap (λ (o : Option Keyword). or_in o (drop 7 all_keywords) word) c.in-Some.ensures ∙ sym (spelled_in (take 7 all_keywords) (drop 7 all_keywords) word)

pub returns : goal.returns
unfolding keyword_of
returns c =
    let word = c.args.word.now in
    c.later_keyword.ensures ∙ ap (λ (o : Option Keyword). or_in o (drop 7 all_keywords) word) c.in_default.ensures ∙ sym (spelled_in (take 7 all_keywords) (drop 7 all_keywords) word)
