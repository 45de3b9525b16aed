-- The comparison of the lines so far with the run.
use Rattle.std.specs.Prelude.{◌≡◌, ◌≢◌, ℕ, ◌<◌, ◌^◌, false, List, ◌++◌, take, length, Some, None}
use Rattle.cilk_cert_text.specs.declared.fault.CertFault.{CertFault}
use Rattle.cilk_cert_text.specs.declared.fault.CertFault.TheVariants.{Memory}
use Rattle.cilk_cert_text.specs.declared.line.Line.{Line}
use Rattle.cilk_cert_text.specs.declared.reader.LineReader.{LineReader}
use Rattle.cilk_cert_text.specs.Certificates.{Contents}
use Rattle.cilk_cert_text.specs.Reading.{Reading, reading_of}
use Rattle.cilk_cert_text.specs.Readers.{ahead, fault_of}
use Rattle.cilk_cert_text.specs.Gathering.{nothing, gathered, with_said}
use Rattle.cilk_cert_maker.specs.Sources.{AllFit, AreLast}
use Rattle.cilk_cert_maker.specs.Listed.{creations, ListsEvent, HasSource}
use Rattle.cilk_cert_maker.specs.Right.{IsAt}
use Rattle.cilk_checker.specs.declared.right.Right.{Right}
use Rattle.cilk_checker.specs.declared.tally.Tally.{Tally}
use Rattle.cilk_checker.specs.Firsts.{Agrees}

-- the columns are short enough to be counted
pub record AreFew (r : Right) : Type 0 where
  pub frames : length r.frames.items < 2 ^ 32
  pub owners : length r.owners.items < 2 ^ 32
  pub hebrews : length r.labels < 2 ^ 32
  pub classes : length r.classes < 2 ^ 32
  pub events : length r.trace < 2 ^ 32

-- The tally of the certificate `c` so far: the first wrong place of each column and, while all
-- events are the run's, the last writes and the created reducers before the next event.
pub record Tallied (r : Right) (c : Contents) (t : Tally) : Type 0 where
  pub frames : Agrees (IsAt r.frames.items) c.frames t.frames
  pub owners : Agrees (λ k x. IsAt r.owners.items k x.frame) c.strands t.owners
  pub hebrews : Agrees (λ k x. IsAt r.labels k x.hebrew) c.strands t.hebrews
  pub classes : Agrees (λ k x. IsAt r.classes k x.class) c.strands t.classes
  pub events : Agrees (ListsEvent r.trace) c.events t.events
  pub sources : t.events.differs ≡ false → Agrees (HasSource r.trace) c.events t.sources
  pub result : t.result ≡ c.result
  pub fit : AllFit (length t.writes.positions.items) r.trace
  pub last : t.events.differs ≡ false → AreLast r.trace t.events.agreed t.writes.positions.items
  pub made : t.events.differs ≡ false → t.made.made.items ≡ creations (take t.events.agreed r.trace)

-- one more line is compared, whatever the lines so far are
abbrev pub TalliesLine : Right → Tally → Line → Tally → Type 0
TalliesLine r t line t' = (c : Contents) → Tallied r c t → Tallied r (with_said c line) t'

-- a reading that begins with these lines
abbrev pub behind_lines : List Line → Reading → Reading
behind_lines lines r = record { lines = lines ++ r.lines; fault = r.fault }

-- The text so far was read as lines and compared, except for the bytes `rest` at its end, which the
-- reader hasn't been given.
pub record Heard (r : Right) (text rest : List ℕ) (reader : LineReader) (t : Tally) : Type 0 where
  pub lines : List Line
  pub ahead_is : (more : List ℕ) → reading_of (text ++ more) ≡ behind_lines lines (ahead reader (rest ++ more))
  pub tallied : Tallied r (gathered nothing lines) t
  pub silent : fault_of reader ≡ None

-- memory ran out, or every text that begins like this has this fault
abbrev pub IsFaultOf : List ℕ → CertFault → Type 0
IsFaultOf text fault = fault ≢ Memory → (more : List ℕ) → (reading_of (text ++ more)).fault ≡ Some fault
