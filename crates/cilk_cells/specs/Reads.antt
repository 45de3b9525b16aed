-- The first reducer-read of each reducer, as a pass over a run's events keeps it.
use Rattle.std.specs.Prelude.{◌≡◌, cond, Option, Some, None, unwrap_or}
use Rattle.std.specs.HashMap.{get}
use Rattle.cilk_types.specs.declared.event.Event.{Event}
use Rattle.cilk_types.specs.declared.event.Event.TheVariants.{Create, Set, Value}
use Rattle.cilk_types.specs.declared.event.Instance.{Instance}
use Rattle.cilk_monoid.specs.Ranges.{same_instance}
use Rattle.cilk_cells.specs.declared.first_reads.FirstReads.{FirstReads}
use Rattle.cilk_cells.specs.declared.first_reads.Read.{Read}

-- the instance of a reducer-read
abbrev pub instance_read : Event → Option Instance
instance_read (Create i) = Some i
instance_read (Set i v) = Some i
instance_read (Value i v) = Some i
instance_read _ = None

-- the first reducer-read of an instance so far, if there is one
abbrev pub read_at : FirstReads → Instance → Option Read
read_at m i = get same_instance m.reads i

-- the first reducer-read, counting the current one
abbrev pub first_of_all : FirstReads → Instance → Read → Read
first_of_all m i here = unwrap_or (read_at m i) here

-- the instance has this first reducer-read, and the others are unchanged
abbrev pub KeepsAt : FirstReads → FirstReads → Instance → Read → Type 0
KeepsAt old new i r = (j : Instance) → read_at new j ≡ cond (same_instance i j) (Some r) (read_at old j)
