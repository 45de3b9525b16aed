-- The contents that lines add up to.
use Rattle.std.specs.Prelude.{List, [], ◌∷◌, ◌++◌, pos}
use Rattle.cilk_cert_text.specs.declared.line.Version.TheVariants.{One}
use Rattle.cilk_cert_text.specs.declared.line.Line.{Line}
use Rattle.cilk_cert_text.specs.declared.line.Line.TheVariants as lines
use Rattle.cilk_cert_text.specs.Certificates.{Contents}

abbrev pub nothing : Contents
nothing = record { version = One; frames = []; strands = []; events = []; result = pos 0 }

-- with the contents of one more line
abbrev pub with_said : Contents → Line → Contents
with_said c (lines.Version v) = record { version = v; frames = c.frames; strands = c.strands; events = c.events; result = c.result }
with_said c (lines.Size s) = c
with_said c (lines.Frame n f) = record { version = c.version; frames = c.frames ++ f ∷ []; strands = c.strands; events = c.events; result = c.result }
with_said c (lines.Strand n s) = record { version = c.version; frames = c.frames; strands = c.strands ++ s ∷ []; events = c.events; result = c.result }
with_said c (lines.Event e) = record { version = c.version; frames = c.frames; strands = c.strands; events = c.events ++ e ∷ []; result = c.result }
with_said c (lines.Result z) = record { version = c.version; frames = c.frames; strands = c.strands; events = c.events; result = z }
with_said c lines.End = c

abbrev pub gathered : Contents → List Line → Contents
gathered c [] = c
gathered c (x ∷ xs) = gathered (with_said c x) xs
