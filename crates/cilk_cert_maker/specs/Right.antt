-- The right certificate of a serial run.
use Rattle.std.specs.Prelude.{◌≡◌, ℕ, ◌-◌, ◌<◌, ◌≤◌, ℤ, List, length, Option, Some, None, slice_get}
use Rattle.cilk_types.specs.declared.event.Event.{Event}
use Rattle.cilk_tree.specs.Shape.{Shape}
use Rattle.cilk_tree.specs.Tree.{tree}
use Rattle.cilk_tree.specs.Hebrew.{hebrews}
use Rattle.cilk_peers.specs.Peers.{class_numbers}
use Rattle.cilk_cert_text.specs.Certificates.{Contents}
use Rattle.cilk_cert_maker.specs.Frames.{frames_of, owners_of}
use Rattle.cilk_cert_maker.specs.Listed.{ListsEvent, HasSource}

-- ---- the wrong places of a list

-- The item at index n is wrong, or it is missing: n is below `count`, the length of the right list.
-- `IsRightAt` holds of no index from `count` on, so each extra item is wrong.
abbrev pub is_wrong : {A : Type 0} → (ℕ → A → Type 0) → Option A → ℕ → ℕ → Type 0
is_wrong IsRightAt (Some x) n count = ¬ (IsRightAt n x)
is_wrong IsRightAt None n count = n < count

-- the place k of a list is wrong; places count from 1
abbrev pub IsWrongAt : {A : Type 0} → (ℕ → A → Type 0) → List A → ℕ → ℕ → Type 0
IsWrongAt IsRightAt given count k = (1 ≤ k) × is_wrong IsRightAt (slice_get given (k - 1)) (k - 1) count

abbrev pub IsNowhere : (ℕ → Type 0) → Type 0
IsNowhere P = (k : ℕ) → ¬ (P k)

pub record IsLeast (P : ℕ → Type 0) (k : ℕ) : Type 0 where
  pub holds : P k
  pub least : (j : ℕ) → P j → k ≤ j

-- each item is right at its index
abbrev pub EachAt : {A : Type 0} → (ℕ → A → Type 0) → List A → Type 0
EachAt {A = A} IsRightAt given = (k : ℕ) (x : A) → slice_get given k ≡ Some x → IsRightAt k x

-- ---- the columns of a certificate

-- the column has this item at index k
abbrev pub IsAt : {A : Type 0} → List A → ℕ → A → Type 0
IsAt column k x = slice_get column k ≡ Some x

abbrev pub EventIsWrong : List Event → Contents → ℕ → Type 0
EventIsWrong es c = IsWrongAt (ListsEvent es) c.events (length es)

abbrev pub SourceIsWrong : List Event → Contents → ℕ → Type 0
SourceIsWrong es c = IsWrongAt (HasSource es) c.events (length es)

module _ (s : Shape) (c : Contents) where
  abbrev pub FrameIsWrong : ℕ → Type 0
  FrameIsWrong = IsWrongAt (IsAt (frames_of s)) c.frames (length (frames_of s))

  abbrev pub OwnerIsWrong : ℕ → Type 0
  OwnerIsWrong = IsWrongAt (λ k x. IsAt (owners_of s) k x.frame) c.strands (length (owners_of s))

  abbrev pub HebrewIsWrong : ℕ → Type 0
  HebrewIsWrong = IsWrongAt (λ k x. IsAt (hebrews (tree s) 1) k x.hebrew) c.strands (length (hebrews (tree s) 1))

  abbrev pub ClassIsWrong : ℕ → Type 0
  ClassIsWrong = IsWrongAt (λ k x. IsAt (class_numbers (tree s) 0 1) k x.class) c.strands (length (class_numbers (tree s) 0 1))

-- The certificate is right for this run: no place of its columns is wrong, and the result is the
-- run's.
pub record IsRight (s : Shape) (es : List Event) (value : ℤ) (c : Contents) : Type 0 where
  pub events : IsNowhere (EventIsWrong es c)
  pub frames : IsNowhere (FrameIsWrong s c)
  pub owners : IsNowhere (OwnerIsWrong s c)
  pub hebrews : IsNowhere (HebrewIsWrong s c)
  pub classes : IsNowhere (ClassIsWrong s c)
  pub sources : IsNowhere (SourceIsWrong es c)
  pub result : c.result ≡ value
