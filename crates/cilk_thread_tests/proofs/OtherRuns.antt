-- Both programs have a plan. Their runs on other inputs have values along it, and resume after each
-- spawn.
use Rattle.std.proofs.Common.{◌≡◌, ◌⊎◌, inl, inr, ℤ, pos, List, [], ◌∷◌, false, true, lit≤, refl, sym, subst}
use Rattle.cilk_types.specs.declared.invocation.Invocation.TheVariants.{Call, Spawn}
use Rattle.cilk_tree.specs.Shape.{Shape, finish, act, sync, child}
use Rattle.cilk_tree.specs.Tree.{tree}
use Rattle.cilk_tree.specs.Races.{HasNoRace}
use Rattle.cilk_tree.specs.declared.event_order.EventOrder.{EventOrder}
use Rattle.cilk_tree.specs.Values.{HasValues}
use Rattle.cilk_tree.specs.Along.{IsAlong}
use Rattle.cilk_shared.specs.Values.{SpawnsResume}
use Rattle.cilk_determinacy.specs.Tested.{none}
use Rattle.cilk_determinacy.proofs.Decided.{tests_tell}
use Rattle.cilk_thread_tests.specs.Others.{four, squares_on, squares_plan, three, turns_on, turns_plan, SquaresHavePlan, TurnsHavePlan}
use Rattle.cilk_thread_tests.proofs.Checked.{met_resumes, none_resumes, right_reads, valued}

abbrev square : Shape
square = act (act (act (act (act (sync finish)))))

abbrev half : Shape
half = child Spawn square (child Call square (sync finish))

abbrev squares_shape : Shape
squares_shape = child Call (child Spawn half (child Call half (sync finish))) (act (act (sync finish)))

abbrev turns_shape : Shape
turns_shape = act (act (child Call (act (act (act (act (sync finish))))) (act (sync finish))))

squares_free : HasNoRace (tree squares_shape) squares_plan.events
squares_free p q r = let no : false ≡ true = tests_tell.races (tree squares_shape) squares_plan.events none refl p q r in absurd (cc no)

turns_free : HasNoRace (tree turns_shape) turns_plan.events
turns_free p q r = let no : false ≡ true = tests_tell.races (tree turns_shape) turns_plan.events none refl p q r in absurd (cc no)

pub squares_have_plan : SquaresHavePlan
squares_have_plan = record {
  shape = squares_shape;
  spells = refl;
  synced = (tt, (tt, (tt, tt, (tt, tt, tt)), (tt, (tt, tt, (tt, tt, tt)), tt)), tt);
  free = squares_free;
  few_events = lit≤ tt;
  few_cells = lit≤ tt;
  reads = λ p c v is. right_reads squares_plan refl p c v is;
}

pub turns_have_plan : TurnsHavePlan
turns_have_plan = record {
  shape = turns_shape;
  spells = refl;
  synced = (tt, tt, tt);
  free = turns_free;
  few_events = lit≤ tt;
  few_cells = lit≤ tt;
  reads = λ p c v is. right_reads turns_plan refl p c v is;
}

-- ---- on other inputs
pub squares_along : (plan : EventOrder) (xs : List ℤ) → plan ≡ squares_plan → (xs ≡ four) ⊎ (xs ≡ three) → HasValues plan → IsAlong plan (squares_on xs) × HasValues (squares_on xs) × SpawnsResume (squares_on xs)
squares_along plan xs own some values = subst (λ (z : EventOrder). IsAlong z (squares_on xs) × HasValues (squares_on xs) × SpawnsResume (squares_on xs)) (sym own) (by some)
  where
    of_plan : HasValues squares_plan
    of_plan = subst HasValues own values

    by : (xs ≡ four) ⊎ (xs ≡ three) → IsAlong squares_plan (squares_on xs) × HasValues (squares_on xs) × SpawnsResume (squares_on xs)
    by (inl e) = subst (λ (ys : List ℤ). IsAlong squares_plan (squares_on ys) × HasValues (squares_on ys) × SpawnsResume (squares_on ys)) (sym e)
        (record { kinds = refl; preceding = refl; opening = refl }, valued (squares_on four) squares_plan refl of_plan refl refl refl, met_resumes (squares_on four) refl)
    by (inr e) = subst (λ (ys : List ℤ). IsAlong squares_plan (squares_on ys) × HasValues (squares_on ys) × SpawnsResume (squares_on ys)) (sym e)
        (record { kinds = refl; preceding = refl; opening = refl }, valued (squares_on three) squares_plan refl of_plan refl refl refl, met_resumes (squares_on three) refl)

pub turns_along : (plan : EventOrder) (xs : List ℤ) → plan ≡ turns_plan → (xs ≡ pos 0 ∷ []) ⊎ (xs ≡ pos 7 ∷ []) → HasValues plan → IsAlong plan (turns_on xs) × HasValues (turns_on xs) × SpawnsResume (turns_on xs)
turns_along plan xs own some values = subst (λ (z : EventOrder). IsAlong z (turns_on xs) × HasValues (turns_on xs) × SpawnsResume (turns_on xs)) (sym own) (by some)
  where
    of_plan : HasValues turns_plan
    of_plan = subst HasValues own values

    by : (xs ≡ pos 0 ∷ []) ⊎ (xs ≡ pos 7 ∷ []) → IsAlong turns_plan (turns_on xs) × HasValues (turns_on xs) × SpawnsResume (turns_on xs)
    by (inl e) = subst (λ (ys : List ℤ). IsAlong turns_plan (turns_on ys) × HasValues (turns_on ys) × SpawnsResume (turns_on ys)) (sym e)
        (record { kinds = refl; preceding = refl; opening = refl }, valued (turns_on (pos 0 ∷ [])) turns_plan refl of_plan refl refl refl, none_resumes (turns_on (pos 0 ∷ [])) refl)
    by (inr e) = subst (λ (ys : List ℤ). IsAlong turns_plan (turns_on ys) × HasValues (turns_on ys) × SpawnsResume (turns_on ys)) (sym e)
        (record { kinds = refl; preceding = refl; opening = refl }, valued (turns_on (pos 7 ∷ [])) turns_plan refl of_plan refl refl refl, none_resumes (turns_on (pos 7 ∷ [])) refl)
