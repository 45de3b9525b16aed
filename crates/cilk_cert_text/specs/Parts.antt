-- The contents read so far.
use Rattle.std.specs.Prelude.{◌≡◌, ℕ, List}
use Rattle.std.specs.List.{flat_map}
use Rattle.std.specs.Borrow.{Bor}
use Rattle.cilk_cert_text.specs.declared.read.Parts.{Parts}
use Rattle.cilk_cert_text.specs.Certificates.{Contents}
use Rattle.cilk_cert_text.specs.Reading.{Reading}
use Rattle.cilk_cert_text.specs.Gathering.{gathered}

-- Two readings, each after its earlier contents, come to the same contents and the same fault.
pub record Leads (r : Reading) (c : Contents) (r' : Reading) (c' : Contents) : Type 0 where
  pub lines : gathered c r.lines ≡ gathered c' r'.lines
  pub fault : r.fault ≡ r'.fault

abbrev pub said : Parts → Contents
said p = record { version = p.version; frames = p.frames.items; strands = p.strands.items; events = p.events.items; result = p.result }

-- the text that the pieces make up
abbrev pub joined_pieces : List (Bor (List ℕ)) → List ℕ
joined_pieces pieces = flat_map (λ piece. piece.now) pieces
