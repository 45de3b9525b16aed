use Rattle.std.proofs.Common.{◌≡◌, ℕ, ◌+◌, ◌<◌, List, [], ◌++◌, drop, length, get_or, refl, sym, ap, ◌∙◌, drop-cons, add-one}
use Rattle.std.specs.Borrow.{Bor}
use Rattle.std.proofs.lemmas.List.{drop_all}
use Rattle.std.proofs.lemmas.Result.{err_from_is_err_and}
use Rattle.cilk_cert_text.specs.Certificates.{Contents}
use Rattle.cilk_cert_text.specs.Reading.{Reading, reading_of}
use Rattle.cilk_cert_text.specs.Readers.{ahead}
use Rattle.cilk_cert_text.specs.Gathering.{nothing, gathered}
use Rattle.cilk_cert_text.specs.Parts.{said, Leads, joined_pieces}
use Rattle.cilk_cert_text.proofs.read.parts_of_pieces.Goals as goal

leads_on : (r r' r'' : Reading) (c c' c'' : Contents) → Leads r c r' c' → Leads r' c' r'' c'' → Leads r c r'' c''
leads_on r r' r'' c c' c'' first second = record { lines = first.lines ∙ second.lines; fault = first.fault ∙ second.fault }

pieces_on : (pieces : List (Bor (List ℕ))) (i : ℕ) (d : Bor (List ℕ)) → i < length pieces → joined_pieces (drop i pieces) ≡ (get_or pieces i d).now ++ joined_pieces (drop (i + 1) pieces)
pieces_on pieces i d within = rw (add-one, drop-cons pieces i d) refl

pub loop-piece-init : goal.loop-piece-init
loop-piece-init c = rw (c.new-reader.ensures.text (joined_pieces c.args.pieces.now), c.new-parts.ensures) (record { lines = refl; fault = refl })

pub loop-piece-preserved : goal.loop-piece-preserved
loop-piece-preserved c =
    let pieces = c.args.pieces.now in
    let i = c.loop-piece.piece-index in
    let rest = joined_pieces (drop (i + 1) pieces) in
    let none : Bor (List ℕ) = record { ref_ptr = (0, 0); now = [] } in
    let piece = (get_or pieces i none).now in
    let on : Leads (reading_of (joined_pieces pieces)) nothing (ahead c.loop-piece.reader (piece ++ rest)) (said c.loop-piece.parts) =
    rw (← pieces_on pieces i none c.loop-piece-test.true) c.loop-piece.invariant in
    leads_on (reading_of (joined_pieces pieces)) (ahead c.loop-piece.reader (piece ++ rest)) (ahead c.take.new.reader rest) nothing (said c.loop-piece.parts) (said c.take.new.parts)
    on (c.in_ok-take.ensures.lines rest)

pub returns-in_err-take-clause-fault : goal.returns-in_err-take-clause-fault
returns-in_err-take-clause-fault c =
    let p = err_from_is_err_and c.from_residual.result c.from_residual.ensures.1 in
    let pieces = c.args.pieces.now in
    let i = c.loop-piece.piece-index in
    let none : Bor (List ℕ) = record { ref_ptr = (0, 0); now = [] } in
    rw (p.1, p.2) (λ other.
    c.loop-piece.invariant.fault
    ∙ ap (λ (text : List ℕ). (ahead c.loop-piece.reader text).fault) (pieces_on pieces i none c.loop-piece-test.true)
    ∙ c.in_err-take.ensures.fault other (joined_pieces (drop (i + 1) pieces)))

pub returns-in_err-end-clause-fault : goal.returns-in_err-end-clause-fault
returns-in_err-end-clause-fault c =
    let p = err_from_is_err_and c.from_residual-in_err-end.result c.from_residual-in_err-end.ensures.1 in
    rw (p.1, p.2) (λ other.
    c.loop-piece.invariant.fault
    ∙ ap (λ (pieces : List (Bor (List ℕ))). (ahead c.loop-piece.reader (joined_pieces pieces)).fault) (drop_all c.loop-piece.piece-index c.args.pieces.now c.loop-piece-test.false)
    ∙ ap (λ (r : Reading). r.fault) c.in_err-end.ensures.fault)

pub returns-clause-said : goal.returns-clause-said
returns-clause-said c =
    sym (c.loop-piece.invariant.lines
    ∙ ap (λ (pieces : List (Bor (List ℕ))). gathered (said c.loop-piece.parts) (ahead c.loop-piece.reader (joined_pieces pieces)).lines) (drop_all c.loop-piece.piece-index c.args.pieces.now c.loop-piece-test.false)
    ∙ ap (λ (r : Reading). gathered (said c.loop-piece.parts) r.lines) c.in_ok-end.ensures.whole.0)

pub returns-clause-whole : goal.returns-clause-whole
returns-clause-whole c =
    c.loop-piece.invariant.fault
    ∙ ap (λ (pieces : List (Bor (List ℕ))). (ahead c.loop-piece.reader (joined_pieces pieces)).fault) (drop_all c.loop-piece.piece-index c.args.pieces.now c.loop-piece-test.false)
    ∙ ap (λ (r : Reading). r.fault) c.in_ok-end.ensures.whole.0
