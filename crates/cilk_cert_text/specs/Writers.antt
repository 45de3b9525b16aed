-- The state of a writer in the middle of a text.
use Rattle.std.specs.Prelude.{List, drop}
use Rattle.cilk_cert_text.specs.declared.line.Line.{Line}
use Rattle.cilk_cert_text.specs.declared.writer.LineWriter.{LineWriter}
use Rattle.cilk_cert_text.specs.Certificates.{lines_of}

-- the lines that aren't written yet
abbrev pub left : LineWriter → List Line
left w = drop w.written (lines_of w.certificate.now)
