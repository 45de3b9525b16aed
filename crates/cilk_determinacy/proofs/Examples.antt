-- The worked programs have no race, so the theorem speaks of them.
use Rattle.std.proofs.Common.{◌≡◌, ℤ, pos, Bool, true, false, true≢false, IsTrue, List, [], ◌∷◌, refl, sym, lit<}
use Rattle.cilk_types.specs.declared.event.Event.{Event}
use Rattle.cilk_types.specs.declared.event.Event.TheVariants as events
use Rattle.cilk_types.specs.declared.outcome.Outcome.{Outcome}
use Rattle.cilk_types.specs.Word.{IsWord}
use Rattle.cilk_program.specs.Outcomes.{Leaves}
use Rattle.cilk_program.specs.Syntax.{Source}
use Rattle.cilk_program.specs.WellNamed.{is_well_named}
use Rattle.cilk_program.specs.Worked.{Makes}
use Rattle.cilk_program.specs.WorkedFrames.{get}
use Rattle.cilk_program.specs.WorkedReducers.{changed, lent, again}
use Rattle.cilk_program.proofs.FrameRows.{get_runs}
use Rattle.cilk_program.proofs.ReducerRows.{changed_runs, lent_runs, again_runs}
use Rattle.cilk_types.specs.declared.invocation.Invocation.TheVariants as invocations
use Rattle.cilk_tree.specs.Shape.{Shape, finish, act, sync, child, Spells}
use Rattle.cilk_tree.specs.Tree.{tree}
use Rattle.cilk_determinacy.specs.Theorem.{SetWords}
use Rattle.cilk_determinacy.specs.Worked.{IsFree, AlwaysLeaves, got, GetIsFree, GetLeaves, lent_out, LentIsFree, LentLeaves, changed_to, ChangedIsFree, ChangedLeaves, called_again, AgainIsFree, AgainLeaves}
use Rattle.cilk_determinacy.specs.Tested.{none, is_free_but, is_view_free}
use Rattle.cilk_determinacy.proofs.Decided.{tests_tell}
use Rattle.cilk_determinacy.proofs.Determinate.{is_determinate}

abbrev sets_nothing : List Event → Bool
sets_nothing [] = true
sets_nothing (events.Set i v ∷ es) = false
sets_nothing (e ∷ es) = sets_nothing es

no_sets : (es : List Event) → sets_nothing es ≡ true → SetWords es
no_sets [] h = tt
no_sets (events.Begin f ∷ es) h = (tt, no_sets es h)
no_sets (events.Spawn f ∷ es) h = (tt, no_sets es h)
no_sets (events.Call f ∷ es) h = (tt, no_sets es h)
no_sets (events.Resume f ∷ es) h = (tt, no_sets es h)
no_sets (events.Sync ∷ es) h = (tt, no_sets es h)
no_sets (events.End ∷ es) h = (tt, no_sets es h)
no_sets (events.Read c v ∷ es) h = (tt, no_sets es h)
no_sets (events.Write c v ∷ es) h = (tt, no_sets es h)
no_sets (events.Create i ∷ es) h = (tt, no_sets es h)
no_sets (events.Update i v ∷ es) h = (tt, no_sets es h)
no_sets (events.Set i v ∷ es) h = absurd (true≢false (sym h))
no_sets (events.Value i v ∷ es) h = (tt, no_sets es h)
no_sets (events.Print v ∷ es) h = (tt, no_sets es h)

-- a program whose events are these, and spell this shape
is_free_row : (p : Source) (inputs : List ℤ) (es : List Event) (outcome : Outcome) (s : Shape) → Makes p inputs es (Leaves outcome) → IsTrue (is_well_named p) → SetWords es → Spells s es → is_free_but none (tree s) es ≡ true → is_view_free (tree s) es ≡ true
    → IsFree p inputs outcome
is_free_row p inputs es outcome s makes well words spells races views =
    (makes.0, es, record { named = well; runs = makes.1; sets = words; free = tests_tell.free s es spells races views })

-- the same where no reducer is set
unset_row : (p : Source) (inputs : List ℤ) (es : List Event) (outcome : Outcome) (s : Shape) → Makes p inputs es (Leaves outcome) → IsTrue (is_well_named p) → sets_nothing es ≡ true → Spells s es → is_free_but none (tree s) es ≡ true → is_view_free (tree s) es ≡ true
    → IsFree p inputs outcome
unset_row p inputs es outcome s makes well unset spells races views = is_free_row p inputs es outcome s makes well (no_sets es unset) spells races views

always : (p : Source) (inputs : List ℤ) (outcome : Outcome) → IsFree p inputs outcome → AlwaysLeaves p inputs outcome
always p inputs outcome (r, es, f) ns s reached = let h = is_determinate p inputs r es outcome f ns s reached in (h.not_stopped, h.outcome_is)

pub get_is_free : GetIsFree
get_is_free =
    let inner = act (sync (act finish)) in
    unset_row get [] _ got (act (act (child invocations.Spawn inner (child invocations.Spawn inner (sync (act (act (sync finish)))))))) get_runs refl refl refl refl refl

pub get_leaves : GetLeaves
get_leaves = always get [] got get_is_free

pub lent_is_free : LentIsFree
lent_is_free =
    let inner = act (act (act (sync finish))) in
    unset_row lent [] _ lent_out (act (child invocations.Spawn inner (child invocations.Spawn inner (sync (act (sync finish)))))) lent_runs refl refl refl refl refl

pub lent_leaves : LentLeaves
lent_leaves = always lent [] lent_out lent_is_free

pub changed_is_free : ChangedIsFree
changed_is_free =
    let seven : IsWord (pos 7) = record { sfits = lit< tt } in
    is_free_row changed [] _ changed_to (act (act (act (act (act (act (sync finish))))))) changed_runs refl (tt, (tt, (tt, (seven, (tt, (tt, (tt, (tt, (tt, tt))))))))) refl refl refl

pub changed_leaves : ChangedLeaves
changed_leaves = always changed [] changed_to changed_is_free

pub again_is_free : AgainIsFree
again_is_free =
    let inner = act (act (act (sync (act finish)))) in
    let rest = act (act (sync finish)) in
    unset_row again [] _ called_again (act (act (act (act (act (act (child invocations.Call inner rest))))))) again_runs refl refl refl refl refl

pub again_leaves : AgainLeaves
again_leaves = always again [] called_again again_is_free
