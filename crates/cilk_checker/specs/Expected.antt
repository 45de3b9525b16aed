-- Right lines of a run, spelled one after the other.
use Rattle.std.specs.Prelude.{◌≡◌, ℕ, List, length}
use Rattle.cilk_cert_text.specs.declared.line.Form.{Form}
use Rattle.cilk_cert_text.specs.declared.line.Line.{Line}
use Rattle.cilk_cert_text.specs.Certificates.{AllAt, Contents, text_of_lines}
use Rattle.cilk_cert_text.specs.Gathering.{gathered}
use Rattle.cilk_checker.specs.declared.right.Right.{Right}
use Rattle.cilk_checker.specs.declared.tally.Tally.{Tally}
use Rattle.cilk_checker.specs.Tallies.{Tallied}

-- The text spells lines of these forms. If they come after the lines of the tally `t`, the tally is
-- then `t'`.
pub record Spells (r : Right) (forms : List Form) (t t' : Tally) (text : List ℕ) : Type 0 where
  pub known : List Line
  pub at : AllAt forms known
  pub text_is : text ≡ text_of_lines known
  pub tallied : (c : Contents) → Tallied r c t → Tallied r (gathered c known) t'

-- the tallies differ at most in what they say of events
pub record DifferInEvents (t t' : Tally) : Type 0 where
  pub is : t' ≡ record t { events = t'.events; sources = t'.sources; writes = t'.writes; made = t'.made }
  pub cells : length t'.writes.positions.items ≡ length t.writes.positions.items
