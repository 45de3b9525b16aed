-- The event orders that are written out are those of the programs along their plans.
use Rattle.std.specs.Prelude.{◌≡◌, pos, [], ◌∷◌}
use Rattle.cilk_replay.specs.Worked.{filled_on}
use Rattle.cilk_thread_tests.specs.Others.{four, squares_on, squares_plan, three, turns_on, turns_plan}
use Rattle.cilk_thread_tests.specs.Squared.{squared_on}

-- on their own inputs, and on others
pub record EventOrdersAreOfPrograms : Type 0 where
  pub squares_own : squares_plan ≡ squared_on (pos 1 ∷ pos 2 ∷ pos 3 ∷ pos 4 ∷ [])
  pub squares_four : squares_on four ≡ squared_on four
  pub squares_three : squares_on three ≡ squared_on three
  pub turns_own : turns_plan ≡ filled_on (pos 1)
  pub turns_none : turns_on (pos 0 ∷ []) ≡ filled_on (pos 0)
  pub turns_seven : turns_on (pos 7 ∷ []) ≡ filled_on (pos 7)
