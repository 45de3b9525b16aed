-- The frames of a run and the frame of each strand, in the order of their numbers.
use Rattle.std.specs.Prelude.{ℕ, suc, ◌+◌, List, [], ◌∷◌, ◌++◌}
use Rattle.cilk_tree.specs.Shape.{Shape, finish, act, sync, child}
use Rattle.cilk_cert_text.specs.declared.line.Frame.{Frame}

-- the number of frames that begin inside a frame of this shape
abbrev pub frames_in : Shape → ℕ
frames_in finish = 0
frames_in (act r) = frames_in r
frames_in (sync r) = frames_in r
frames_in (child kind u r) = suc (frames_in u + frames_in r)

-- The frames that begin in the rest of a frame, which has the number `me` and has made `made` calls
-- and spawns. `begun` frames of the run have begun before.
abbrev pub frames_from : Shape → ℕ → ℕ → ℕ → List Frame
frames_from finish me made begun = []
frames_from (act r) me made begun = frames_from r me made begun
frames_from (sync r) me made begun = frames_from r me made begun
frames_from (child kind u r) me made begun =
    record { parent = me; ordinal = made + 1 } ∷ (frames_from u (begun + 1) 0 (begun + 1) ++ frames_from r me (made + 1) (begun + 1 + frames_in u))

-- all frames: the root, which has no parent, and each other frame with its parent and its ordinal
-- there
abbrev pub frames_of : Shape → List Frame
frames_of s = record { parent = 0; ordinal = 0 } ∷ frames_from s 1 0 1

-- The frames of the strands that begin in the rest of a frame, which has the number `me`. `begun`
-- frames of the run have begun before.
abbrev pub owners_from : Shape → ℕ → ℕ → List ℕ
owners_from finish me begun = []
owners_from (act r) me begun = owners_from r me begun
owners_from (sync r) me begun = me ∷ owners_from r me begun
owners_from (child kind u r) me begun = (begun + 1) ∷ (owners_from u (begun + 1) (begun + 1) ++ me ∷ owners_from r me (begun + 1 + frames_in u))

-- the frame of each strand
abbrev pub owners_of : Shape → List ℕ
owners_of s = 1 ∷ owners_from s 1 1
