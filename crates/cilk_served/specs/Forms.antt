-- The orders that the forms of a command line give: without options, and with options after the
-- paths or before them.
use Rattle.std.specs.Prelude.{◌≡◌, ℕ, true, false, List, [], ◌∷◌, Some, None, codes}
use Rattle.cilk_messages.specs.CheckWords.{check_in, helped}
use Rattle.cilk_messages.specs.ThreadsWords.{order_in as threads_in, requested}
use Rattle.cilk_messages.specs.declared.words.Manner.{Manner}
use Rattle.cilk_messages.specs.Words.{Certify, Check, File, Judge, Play, Run, Settle, Standard, order_in}

-- the paths
abbrev pub program : List ℕ
program = codes "program"

abbrev pub certificate : List ℕ
certificate = codes "certificate"

abbrev pub script : List ℕ
script = codes "script"

abbrev pub input : List ℕ
input = codes "input"

-- the path of another input
abbrev pub other : List ℕ
other = codes "other"

abbrev pub trace : List ℕ
trace = codes "trace"

abbrev pub sites : List ℕ
sites = codes "sites"

-- by this many workers, with choices skipped, and without
abbrev pub by : ℕ → Manner
by workers = record { workers = workers; is_strict = false }

abbrev pub strictly : ℕ → Manner
strictly workers = record { workers = workers; is_strict = true }

pub record FormsGiveOrders : Type 0 where
  pub standard : order_in [] ≡ Some (Run Standard None)
  pub run : order_in (codes "run" ∷ program ∷ []) ≡ Some (Run (File program) None)
  pub run_after : order_in (codes "run" ∷ program ∷ codes "--input" ∷ input ∷ []) ≡ Some (Run (File program) (Some input))
  pub run_before : order_in (codes "run" ∷ codes "--input" ∷ input ∷ program ∷ []) ≡ Some (Run (File program) (Some input))
  pub certify : order_in (codes "certify" ∷ program ∷ []) ≡ Some (Certify program None)
  pub certify_after : order_in (codes "certify" ∷ program ∷ codes "--input" ∷ input ∷ []) ≡ Some (Certify program (Some input))
  pub certify_before : order_in (codes "certify" ∷ codes "--input" ∷ input ∷ program ∷ []) ≡ Some (Certify program (Some input))
  pub check : order_in (codes "check" ∷ program ∷ certificate ∷ []) ≡ Some (Check program certificate None)
  pub check_after : order_in (codes "check" ∷ program ∷ certificate ∷ codes "--input" ∷ input ∷ []) ≡ Some (Check program certificate (Some input))
  pub check_before : order_in (codes "check" ∷ codes "--input" ∷ input ∷ program ∷ certificate ∷ []) ≡ Some (Check program certificate (Some input))
  pub helpers : check_in (codes "check" ∷ program ∷ certificate ∷ codes "--helpers" ∷ codes "4" ∷ []) ≡ Some (helped (program, certificate) None 4)
  pub helpers_after : check_in (codes "check" ∷ program ∷ certificate ∷ codes "--helpers" ∷ codes "4" ∷ codes "--input" ∷ input ∷ []) ≡ Some (helped (program, certificate) (Some input) 4)
  pub helpers_before : check_in (codes "check" ∷ codes "--input" ∷ input ∷ codes "--helpers" ∷ codes "4" ∷ program ∷ certificate ∷ []) ≡ Some (helped (program, certificate) (Some input) 4)
  pub play : order_in (codes "play" ∷ program ∷ script ∷ []) ≡ Some (Play program script (by 2) None)
  pub play_after : order_in (codes "play" ∷ program ∷ script ∷ codes "--workers" ∷ codes "3" ∷ codes "--input" ∷ input ∷ []) ≡ Some (Play program script (by 3) (Some input))
  pub play_before : order_in (codes "play" ∷ codes "--input" ∷ input ∷ codes "--workers" ∷ codes "3" ∷ program ∷ script ∷ []) ≡ Some (Play program script (by 3) (Some input))
  pub play_by_two : order_in (codes "play" ∷ codes "--input" ∷ input ∷ program ∷ script ∷ []) ≡ Some (Play program script (by 2) (Some input))
  pub play_strictly : order_in (codes "play" ∷ program ∷ script ∷ codes "--strict" ∷ []) ≡ Some (Play program script (strictly 2) None)
  pub play_strictly_before : order_in (codes "play" ∷ codes "--strict" ∷ program ∷ codes "--workers" ∷ codes "3" ∷ script ∷ []) ≡ Some (Play program script (strictly 3) None)
  pub threads : threads_in (codes "threads" ∷ program ∷ certificate ∷ []) ≡ Some (requested (program, certificate) 2 None None)
  pub threads_after : threads_in (codes "threads" ∷ program ∷ certificate ∷ codes "--workers" ∷ codes "3" ∷ codes "--input" ∷ input ∷ codes "--on" ∷ other ∷ []) ≡ Some (requested (program, certificate) 3 (Some input) (Some other))
  pub threads_before : threads_in (codes "threads" ∷ codes "--on" ∷ other ∷ codes "--input" ∷ input ∷ codes "--workers" ∷ codes "3" ∷ program ∷ certificate ∷ []) ≡ Some (requested (program, certificate) 3 (Some input) (Some other))
  pub settle : order_in (codes "settle" ∷ program ∷ []) ≡ Some (Settle program None)
  pub settle_after : order_in (codes "settle" ∷ program ∷ codes "--input" ∷ input ∷ []) ≡ Some (Settle program (Some input))
  pub settle_before : order_in (codes "settle" ∷ codes "--input" ∷ input ∷ program ∷ []) ≡ Some (Settle program (Some input))
  pub judge : order_in (codes "judge" ∷ trace ∷ []) ≡ Some (Judge trace None)
  pub judge_after : order_in (codes "judge" ∷ trace ∷ codes "--sites" ∷ sites ∷ []) ≡ Some (Judge trace (Some sites))
  pub judge_before : order_in (codes "judge" ∷ codes "--sites" ∷ sites ∷ trace ∷ []) ≡ Some (Judge trace (Some sites))
