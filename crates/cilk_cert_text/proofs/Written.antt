-- A text written line by line.
--
-- `line_more`: one more of the lines that are left is written. `piece_more`: one more piece of a
-- text.
use Rattle.std.proofs.Common.{◌≡◌, ℕ, ◌+◌, List, [], ◌∷◌, ◌++◌, drop, Some, sym, ap, ◌∙◌, append_assoc}
use Rattle.std.specs.Prelude.{slice_get}
use Rattle.cilk_cert_text.specs.declared.line.Line.{Line}
use Rattle.cilk_cert_text.specs.Lines.{spelled}
use Rattle.cilk_cert_text.specs.Certificates.{text_of_lines}
use Rattle.cilk_cert_text.proofs.Columns.{left_some}

pub piece_more : (all front piece front' rest rest' : List ℕ) → all ≡ front ++ rest → rest ≡ piece ++ rest' → front' ≡ front ++ piece → all ≡ front' ++ rest'
piece_more all front piece front' rest rest' h e k =
    h ∙ ap (λ t. front ++ t) e ∙ sym (append_assoc front piece rest') ∙ ap (λ t. t ++ rest') (sym k)

pub line_more : (ls : List Line) (at : ℕ) (line : Line) (all front front' : List ℕ) → slice_get ls at ≡ Some line
    → all ≡ front ++ text_of_lines (drop at ls) → front' ≡ front ++ (spelled line ++ 10 ∷ [])
    → all ≡ front' ++ text_of_lines (drop (at + 1) ls)
line_more ls at line all front front' e h k =
    piece_more all front (spelled line ++ 10 ∷ []) front' (text_of_lines (drop at ls)) (text_of_lines (drop (at + 1) ls)) h
    (ap text_of_lines (left_some ls at line e)) k
