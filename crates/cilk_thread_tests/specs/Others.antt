-- Worked programs whose runs read an input.
-- squares: int a[4]; int main() { cilk_for (int i = 0; i < 4; i++) { a[i] = input(i) * input(i); }
--   return a[0] + a[3]; }
-- turns: int a[7]; int main() { int n = input(0); cilk_for (int i = 0; i < n; i++) { a[i] = i; }
--   return a[6]; }
use Rattle.std.specs.Prelude.{ℕ, zero, suc, ℤ, pos, ◌*ℤ◌, Bool, true, false, List, [], ◌∷◌, ◌++◌, replicate}
use Rattle.cilk_types.specs.declared.event.Event.{Event}
use Rattle.cilk_types.specs.declared.event.Event.TheVariants.{Begin, Call, Spawn, Resume, Sync, End, Read, Write}
use Rattle.cilk_tree.specs.declared.event_order.EventOrder.{EventOrder}
use Rattle.cilk_tree.specs.Passes.{predecessors_in}
use Rattle.cilk_tree.specs.Planned.{planned, HasPlan}

-- the events of the first program's run on four numbers with these squares
abbrev pub squares : ℤ → ℤ → ℤ → ℤ → List Event
squares a b c d =
    Begin 1 ∷ Call 2 ∷ Begin 2 ∷ Spawn 3 ∷ Begin 3
    ∷ Spawn 4 ∷ Begin 4 ∷ Write 4 (pos 0) ∷ Read 4 (pos 0) ∷ Read 4 (pos 0) ∷ Read 4 (pos 0) ∷ Write 0 a ∷ Sync ∷ End ∷ Resume 3
    ∷ Call 5 ∷ Begin 5 ∷ Write 5 (pos 1) ∷ Read 5 (pos 1) ∷ Read 5 (pos 1) ∷ Read 5 (pos 1) ∷ Write 1 b ∷ Sync ∷ End ∷ Resume 3
    ∷ Sync ∷ End ∷ Resume 2 ∷ Call 6 ∷ Begin 6
    ∷ Spawn 7 ∷ Begin 7 ∷ Write 6 (pos 2) ∷ Read 6 (pos 2) ∷ Read 6 (pos 2) ∷ Read 6 (pos 2) ∷ Write 2 c ∷ Sync ∷ End ∷ Resume 6
    ∷ Call 8 ∷ Begin 8 ∷ Write 7 (pos 3) ∷ Read 7 (pos 3) ∷ Read 7 (pos 3) ∷ Read 7 (pos 3) ∷ Write 3 d ∷ Sync ∷ End ∷ Resume 6
    ∷ Sync ∷ End ∷ Resume 2 ∷ Sync ∷ End ∷ Resume 1 ∷ Read 0 a ∷ Read 3 d ∷ Sync ∷ End ∷ []

abbrev pub squares_opening : List ℤ
squares_opening = replicate 8 (pos 0)

-- the events of the second program's run on the input 1, with n as the first number read
abbrev pub turns : ℤ → List Event
turns n =
    Begin 1 ∷ Write 7 n ∷ Read 7 n ∷ Call 2 ∷ Begin 2
    ∷ Write 8 (pos 0) ∷ Read 8 (pos 0) ∷ Read 8 (pos 0) ∷ Write 0 (pos 0) ∷ Sync ∷ End ∷ Resume 1
    ∷ Read 6 (pos 0) ∷ Sync ∷ End ∷ []

abbrev pub turns_opening : List ℤ
turns_opening = replicate 9 (pos 0)

-- n events that the run makes, m that it doesn't, then k that it makes
abbrev pub but_for : ℕ → ℕ → ℕ → List Bool
but_for n m k = (replicate n true ++ replicate m false) ++ replicate k true

-- the event order of a run along the plan of `es`: with these values, and only the events that it
-- makes
abbrev pub made_of : List Bool → List Event → List Event → List ℤ → EventOrder
made_of asked es values opening = record { events = values; preceding = predecessors_in es; opening = opening; asked = asked }

abbrev pub squares_plan : EventOrder
squares_plan = planned (squares (pos 1) (pos 4) (pos 9) (pos 16)) squares_opening

abbrev pub four : List ℤ
four = pos 5 ∷ pos 6 ∷ pos 7 ∷ pos 8 ∷ []

abbrev pub three : List ℤ
three = pos 5 ∷ pos 6 ∷ pos 7 ∷ []

-- The first program's runs along its plan on four numbers and on three. Without a fourth number,
-- the frame of the last turn makes none of its last events, and the cell keeps the plan's value.
abbrev pub squares_on : List ℤ → EventOrder
squares_on (a ∷ b ∷ c ∷ d ∷ xs) = made_of (but_for 60 0 0) (squares (pos 1) (pos 4) (pos 9) (pos 16)) (squares (a *ℤ a) (b *ℤ b) (c *ℤ c) (d *ℤ d)) squares_opening
squares_on (a ∷ b ∷ c ∷ []) = made_of (but_for 45 4 11) (squares (pos 1) (pos 4) (pos 9) (pos 16)) (squares (a *ℤ a) (b *ℤ b) (c *ℤ c) (pos 16)) squares_opening
squares_on _ = squares_plan

abbrev pub turns_plan : EventOrder
turns_plan = planned (turns (pos 1)) turns_opening

-- The second program's runs along its plan. On 1 it is the plan's own run. On 0 it calls no turn,
-- so its later events come earlier than in the plan. On more, the frame of all turns spawns half of
-- them, and makes as many requests as the frame of one turn.
abbrev pub turns_on : List ℤ → EventOrder
turns_on (pos zero ∷ xs) = made_of (but_for 3 1 7 ++ but_for 0 3 1) (turns (pos 1)) (turns (pos 0)) turns_opening
turns_on (pos (suc (suc n)) ∷ xs) = made_of (but_for 5 4 6) (turns (pos 1)) (turns (pos (suc (suc n)))) turns_opening
turns_on _ = turns_plan

-- both programs have a plan
abbrev pub SquaresHavePlan : Type 0
SquaresHavePlan = HasPlan (squares (pos 1) (pos 4) (pos 9) (pos 16)) squares_opening

abbrev pub TurnsHavePlan : Type 0
TurnsHavePlan = HasPlan (turns (pos 1)) turns_opening
