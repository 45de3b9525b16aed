-- The lengths of a run's columns, and that a run has one right certificate.
use Rattle.std.specs.Prelude.{◌≡◌, ◌≤◌, ◌+◌, ℤ, List, length}
use Rattle.cilk_types.specs.declared.event.Event.{Event}
use Rattle.cilk_tree.specs.Shape.{Shape}
use Rattle.cilk_tree.specs.Tree.{tree, leaves}
use Rattle.cilk_peers.specs.ViewRaces.{AreCreatedBeforeUse}
use Rattle.cilk_cert_text.specs.declared.line.Version.TheVariants.{One}
use Rattle.cilk_cert_text.specs.Certificates.{Contents, IsCertificate}
use Rattle.cilk_cert_maker.specs.Frames.{frames_in, frames_of, owners_of}
use Rattle.cilk_cert_maker.specs.Right.{IsRight}

-- There is a frame for the root and for each frame inside it, and a strand for each leaf of the
-- run's tree. Neither are more than the run's events.
pub record ColumnsAreCounted (s : Shape) (es : List Event) : Type 0 where
  pub frames : length (frames_of s) ≡ 1 + frames_in s
  pub few_frames : length (frames_of s) ≤ length es
  pub owners : length (owners_of s) ≡ leaves (tree s)
  pub few_owners : length (owners_of s) ≤ length es

-- Two right certificates of one run and one version are equal. Version 1 names a reducer by the
-- number of its creation. So there each reducer must be created once, as in a serial run.
abbrev pub HasOneCertificate : Shape → List Event → ℤ → Type 0
HasOneCertificate s es value =
    (c d : Contents) → IsCertificate c → IsCertificate d → c.version ≡ d.version → (c.version ≡ One → AreCreatedBeforeUse es)
    → IsRight s es value c → IsRight s es value d → c ≡ d
