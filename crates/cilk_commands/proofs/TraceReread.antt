-- Lines of a text that comes in pieces: `begun` at its beginning, `refilled` by a pull, `kept_read` and `reserved` where room is made;
-- `gives_more` says what text a source gives,
-- `whole_given`, `fault_given` and `end_given` what is said of it; `read_to_end`: the reading of what was pulled.
use Rattle.std.proofs.Common.{◌≡◌, ℕ, ◌≤◌, List, [], ◌++◌, take, Option, Some, None, refl, sym, ◌∙◌, ap, arith, append-nil, append_assoc, length-take, length-drop}
use Rattle.std.specs.Prelude.{IfSome}
use Rattle.std.specs.Io.KnownBytes.{Consumes, IsAtEnd}
use Rattle.std.proofs.KnownBytes.{Consumes-trans}
use Rattle.std.proofs.lemmas.List.{nil_from_length}
use Rattle.cilk_checker.proofs.Pieces.{gives_all}
use Rattle.cilk_trace.specs.declared.line.Line.{Line}
use Rattle.cilk_trace.specs.declared.fault.TraceFault.{TraceFault}
use Rattle.cilk_trace.specs.declared.fault.TraceFault.TheVariants as text_faults
use Rattle.cilk_trace.specs.declared.reader.TraceReader.{TraceReader}
use Rattle.cilk_trace.specs.Forms.{reading_of}
use Rattle.cilk_trace.specs.Reading.{Reading, stops, whole}
use Rattle.cilk_trace.specs.Readers.{ahead, fault_of, returned}
use Rattle.cilk_trace.specs.Texts.{IsTraceText}
use Rattle.cilk_trace.proofs.Forms.{reads_traces}
use Rattle.cilk_commands.specs.declared.trace_pieces.Pieces.{Pieces}
use Rattle.cilk_commands.specs.TraceFaults.{told, IsTextFault, IsUnreadAfter}
use Rattle.cilk_commands.specs.TracePieces.{HasRead, IsReading, StopsAt, after_lines, unread}
use Rattle.cilk_commands.specs.TraceTexts.{GivesText}

none_unread : (p : Pieces) → p.end ≤ p.at → unread p ≡ []
none_unread p le =
    let a = length-drop p.at (take p.end p.buffer) in
    let b = length-take p.end p.buffer in
    nil_from_length (unread p) (omega (arith, a, b, le))

nothing_taken : (known : Option (List ℕ)) → Consumes known known []
nothing_taken None = tt
nothing_taken (Some all) = refl

pub begun : (p : Pieces) → p.end ≤ p.at → ((text : List ℕ) → ahead p.reader text ≡ reading_of text) → fault_of p.reader ≡ None
    → returned p.reader ≡ 0 → (known : Option (List ℕ)) → IsReading known known [] p
begun p le law silent count known = record {
  pulled = [];
  taken = nothing_taken known;
  read = record {
    ahead_is = λ more. sym (law more) ∙ ap (λ (l : List ℕ). ahead p.reader (l ++ more)) (sym (none_unread p le));
    silent = silent;
    count = count;
  };
}

pub refilled : (known left left' : Option (List ℕ)) (ls : List Line) (old new : Pieces) (bytes : List ℕ) → old.end ≤ old.at → new.reader ≡ old.reader
    → bytes ≡ unread new → Consumes left left' bytes → IsReading known left ls old → IsReading known left' ls new
refilled known left left' ls old new bytes le same is taken r = record {
  pulled = r.pulled ++ bytes;
  taken = Consumes-trans known left left' r.pulled bytes r.taken taken;
  read = record {
    ahead_is = λ more.
        ap reading_of (append_assoc r.pulled bytes more)
        ∙ (r.read.ahead_is (bytes ++ more)
        ∙ (ap (λ (l : List ℕ). after_lines ls (ahead old.reader (l ++ (bytes ++ more)))) (none_unread old le)
        ∙ (ap (λ (l : List ℕ). after_lines ls (ahead old.reader (l ++ more))) is
        ∙ ap (λ (x : TraceReader). after_lines ls (ahead x (unread new ++ more))) (sym same))));
    silent = ap fault_of same ∙ r.read.silent;
    count = ap returned same ∙ r.read.count;
  };
}

-- room for what is read next
pub kept_read : (text : List ℕ) (ls : List Line) (old new : Pieces) → unread new ≡ unread old → ((more : List ℕ) → ahead new.reader more ≡ ahead old.reader more)
    → fault_of new.reader ≡ fault_of old.reader → returned new.reader ≡ returned old.reader → HasRead text ls old → HasRead text ls new
kept_read text ls old new same law silent count r = record {
  ahead_is = λ more.
      r.ahead_is more
      ∙ (ap (λ (l : List ℕ). after_lines ls (ahead old.reader (l ++ more))) (sym same) ∙ ap (after_lines ls) (sym (law (unread new ++ more))));
  silent = silent ∙ r.silent;
  count = count ∙ r.count;
}

pub reserved : (known left : Option (List ℕ)) (ls : List Line) (old new : Pieces) → ((text : List ℕ) (ks : List Line) → HasRead text ks old → HasRead text ks new)
    → IsReading known left ls old → IsReading known left ls new
reserved known left ls old new law r = record { pulled = r.pulled; taken = r.taken; read = law r.pulled ls r.read }

-- ---- a source

-- a text that begins with the bytes that were taken
pub gives_more : (known left : Option (List ℕ)) (pulled : List ℕ) → Consumes known left pulled
    → (rest : List ℕ) × IfSome known (λ all. pulled ++ rest ≡ all)
gives_more None left pulled c = ([], tt)
gives_more (Some all) None pulled c = absurd c
gives_more (Some all) (Some rest) pulled c = (rest, sym c)

pub read_to_end : (ls : List Line) (p : Pieces) (pulled : List ℕ) (r : Reading) → p.end ≤ p.at → ahead p.reader [] ≡ r → HasRead pulled ls p
    → reading_of pulled ≡ after_lines ls r
read_to_end ls p pulled r le e h =
    ap reading_of (sym (append-nil pulled))
    ∙ (h.ahead_is []
    ∙ (ap (λ (l : List ℕ). after_lines ls (ahead p.reader (l ++ []))) (none_unread p le) ∙ ap (after_lines ls) e))

-- the text has ended whole
pub whole_given : (known left : Option (List ℕ)) (ls : List Line) (p : Pieces) → p.end ≤ p.at → IsAtEnd left → ahead p.reader [] ≡ whole
    → IsReading known left ls p → GivesText known (λ text. IsTraceText text ls)
whole_given known left ls p le end e r = (
  r.pulled,
  gives_all known left r.pulled r.taken end,
  (reads_traces r.pulled ls).0 (read_to_end ls p r.pulled whole le e r.read
      ∙ ap (λ (l : List Line). record { lines = l; fault = None }) (append-nil ls)),
)

by_fault : (known : Option (List ℕ)) (ls : List Line) (a b : ℕ) (fault : TraceFault) → b ≡ a → IsTextFault known ls fault
    → IsUnreadAfter known ls a b (told fault)
by_fault known ls a b (text_faults.Malformed line) same h = (same, h)
by_fault known ls a b (text_faults.Truncated line) same h = (same, h)

-- and has ended too early
pub end_given : (known left : Option (List ℕ)) (ls : List Line) (p : Pieces) (fault : TraceFault) (a b : ℕ) → b ≡ a → p.end ≤ p.at → IsAtEnd left
    → ahead p.reader [] ≡ stops fault → IsReading known left ls p → IsUnreadAfter known ls a b (told fault)
end_given known left ls p fault a b same le end e r =
    by_fault known ls a b fault same (
      r.pulled,
      gives_all known left r.pulled r.taken end,
      read_to_end ls p r.pulled (stops fault) le e r.read ∙ ap (λ (l : List Line). record { lines = l; fault = Some fault }) (append-nil ls),
    )

-- a fault of every text that begins with the bytes that were taken
pub fault_given : (known left : Option (List ℕ)) (ls : List Line) (p : Pieces) (fault : TraceFault) (a b : ℕ) → b ≡ a
    → ((text : List ℕ) (ks : List Line) → HasRead text ks p → StopsAt text ks fault) → IsReading known left ls p → IsUnreadAfter known ls a b (told fault)
fault_given known left ls p fault a b same law r =
    let g = gives_more known left r.pulled r.taken in
    by_fault known ls a b fault same (r.pulled ++ g.0, g.1, law r.pulled ls r.read g.0)
