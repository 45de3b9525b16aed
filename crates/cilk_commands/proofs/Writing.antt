-- Writes one after the other.
--
-- `appends_more`: of one text. `appends_both`: of two. `part_later`: a beginning of the second of
-- two. `piece_out`: one more piece of a text.
use Rattle.std.proofs.Common.{◌≡◌, ℕ, ◌+◌, List, ◌++◌, length, take, drop, Option, Some, None, arith, subst, sym, ap, ◌∙◌, append_assoc, length-append}
use Rattle.std.specs.Io.KnownBytes.{Appends}
use Rattle.std.proofs.Math.Seq.{take-add, take-append-add}
use Rattle.std.proofs.lemmas.List.{take-append-le}
use Rattle.cilk_commands.specs.Streams.{AppendsPart}

joined : (t : List ℕ) (d c : ℕ) → take d t ++ take c (drop d t) ≡ take (d + c) t
joined t d c = sym (take-add d c t)

pub appends_more : (o m n : Option (List ℕ)) (t : List ℕ) (d c : ℕ) → Appends o m (take d t) → Appends m n (take c (drop d t)) → Appends o n (take (d + c) t)
appends_more None m n t d c h k = tt
appends_more (Some o) None n t d c h k = absurd h
appends_more (Some o) (Some m) None t d c h k = absurd k
appends_more (Some o) (Some m) (Some n) t d c h k =
    k ∙ ap (λ x. x ++ take c (drop d t)) h ∙ append_assoc o (take d t) (take c (drop d t)) ∙ ap (λ x. o ++ x) (joined t d c)

pub appends_both : (o m n : Option (List ℕ)) (front piece : List ℕ) → Appends o m front → Appends m n piece → Appends o n (front ++ piece)
appends_both None m n front piece h k = tt
appends_both (Some o) None n front piece h k = absurd h
appends_both (Some o) (Some m) None front piece h k = absurd k
appends_both (Some o) (Some m) (Some n) front piece h k = k ∙ ap (λ x. x ++ piece) h ∙ append_assoc o front piece

pub part_later : (o m n : Option (List ℕ)) (front piece rest all : List ℕ) → Appends o m front → AppendsPart m n piece → all ≡ front ++ (piece ++ rest)
    → AppendsPart o n all
part_later o m n front piece rest all h part e =
    let k : ℕ = part.0 in
    let same : take (length front + k) all ≡ front ++ take k piece =
    ap (λ t. take (length front + k) t) e ∙ take-append-add front (piece ++ rest) k
    ∙ ap (λ t. front ++ t) (take-append-le k piece rest (omega (arith, part.1))) in (
      length front + k,
      omega (arith, part.1, ap length e, length-append front (piece ++ rest), length-append piece rest),
      subst (λ t. Appends o n t) (sym same) (appends_both o m n front (take k piece) h part.2),
    )

-- the rest of the text after a written piece
pub piece_out : (front piece rest rest' all : List ℕ) → all ≡ front ++ (piece ++ rest) → rest ≡ rest' → all ≡ (front ++ piece) ++ rest'
piece_out front piece rest rest' all h e = h ∙ sym (append_assoc front piece rest) ∙ ap (λ t. (front ++ piece) ++ t) e
