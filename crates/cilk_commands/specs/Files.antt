-- The contents of files, and the reads that failed.
use Rattle.std.specs.Prelude.{◌≡◌, ◌⊎◌, ℕ, ◌<◌, ◌≤◌, List, length, take, drop, Option, IfSome}

-- the bytes are the known contents, if these are known
abbrev pub IsHeld : Option (List ℕ) → List ℕ → Type 0
IsHeld known bytes = IfSome known (λ all. bytes ≡ all)

-- the first n bytes are the known contents from byte `at` on, if these are known
abbrev pub IsPart : Option (List ℕ) → ℕ → ℕ → List ℕ → Type 0
IsPart known at n bytes = IfSome known (λ all. take n bytes ≡ take n (drop at all))

-- the known contents end at this place or before it
abbrev pub EndsAt : Option (List ℕ) → ℕ → Type 0
EndsAt known at = IfSome known (λ all. length all ≤ at)

-- this holds of the known contents up to some place, which is `at` or behind it, if these are known
abbrev pub HoldsTo : Option (List ℕ) → ℕ → (List ℕ → Type 0) → Type 0
HoldsTo known at P = IfSome known (λ all. (n : ℕ) × (at ≤ n) × P (take n all))

-- the number of reads that met a failing device, the byte from which the last one of these was to read, and how many of them were of
-- other paths
pub record Failures : Type 0 where
  pub count : ℕ
  pub at : ℕ
  pub elsewhere : List ℕ → ℕ

abbrev pub failures : ℕ → ℕ → (List ℕ → ℕ) → Failures
failures count at elsewhere = record { count = count; at = at; elsewhere = elsewhere }

-- a read of this path met a failing device, and none of another path did
abbrev pub HasFailed : List ℕ → Failures → Failures → Type 0
HasFailed path old new = (old.count < new.count) × (new.elsewhere path ≡ old.elsewhere path)

-- no read failed, and none of a file other than `path`
pub record IsUnfailed (failed failed' : Failures) (path : List ℕ) : Type 0 where
  pub count : failed'.count ≡ failed.count
  pub elsewhere : failed'.elsewhere path ≡ failed.elsewhere path

-- the failed reads are as before, or there are more of them
abbrev pub StayOrRise : Failures → Failures → Type 0
StayOrRise old new = (new ≡ old) ⊎ (old.count < new.count)
