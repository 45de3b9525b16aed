-- What a folder of four texts holds, and its failed reads.
use Rattle.std.specs.Prelude.{ℕ, List, Option, Some, None, codes, if◌then◌else◌}
use Rattle.std.specs.Str.{bytes_eq}
use Rattle.cilk_commands.specs.Files.{Failures, failures}
use Rattle.cilk_served.specs.declared.served.Folder.{Folder}

-- the text of this path
abbrev pub held_in : Folder → List ℕ → Option (List ℕ)
held_in f path =
    if bytes_eq path (codes "program") then Some f.program.now
    else (if bytes_eq path (codes "input") then Some f.input.now
    else (if bytes_eq path (codes "certificate") then Some f.certificate.now
    else (if bytes_eq path (codes "script") then Some f.script.now else None)))

-- the failed reads of other paths: of all but the certificate, or of the certificate
abbrev pub elsewhere_in : Folder → List ℕ → ℕ
elsewhere_in f path = if bytes_eq path (codes "certificate") then f.other_failures else f.certificate_failures

abbrev pub failures_in : Folder → Failures
failures_in f = failures f.failures f.failed_at (elsewhere_in f)
