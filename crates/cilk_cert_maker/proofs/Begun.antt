-- A run that ends has as many frames as `begin`s, and few.
--
-- - `begun_marks`: the frames that begin, by the marks of the events;
-- - `begun_inside`: the marks of a shape begin as many frames as it has inside;
-- - `few_columns`: the law.
use Rattle.std.proofs.Common.{◌≡◌, ℕ, zero, suc, ◌+◌, ℤ, List, [], ◌∷◌, ◌++◌, length, map, refl, ap, ◌∙◌, arith, length-append}
use Rattle.cilk_types.specs.declared.event.Event.{Event}
use Rattle.cilk_types.specs.declared.event.Event.TheVariants as events
use Rattle.cilk_types.specs.declared.invocation.Invocation.{Invocation}
use Rattle.cilk_types.specs.declared.invocation.Invocation.TheVariants as invocations
use Rattle.cilk_program.specs.Outcomes.{Leaves}
use Rattle.cilk_program.specs.Syntax.{Source}
use Rattle.cilk_program.proofs.Existence.{serial_run_is_short}
use Rattle.cilk_tree.specs.declared.mark.Mark.{Mark}
use Rattle.cilk_tree.specs.declared.mark.Mark.TheVariants.{Begin, End, Sync, Resume, Spawn, Call, Plain}
use Rattle.cilk_tree.specs.Marks.{mark_of}
use Rattle.cilk_tree.specs.Shape.{Shape, finish, act, sync, child, start_of, marks}
use Rattle.cilk_determinacy.specs.Events.{frame_begun, frames_begun, count_from}
use Rattle.cilk_determinacy.proofs.Frames.{frames_counted}
use Rattle.cilk_cert_maker.specs.Frames.{frames_in}
use Rattle.cilk_cert_maker.proofs.Lengths.{columns_counted}
use Rattle.cilk_cert_maker.specs.Few.{RunsHaveFewColumns}

abbrev begins : Mark → ℕ
begins Begin = 1
begins End = 0
begins Sync = 0
begins Resume = 0
begins Spawn = 0
begins Call = 0
begins Plain = 0

abbrev begun : List Mark → ℕ
begun [] = 0
begun (m ∷ ms) = begins m + begun ms

one_begun : (e : Event) → length (frame_begun e) ≡ begins (mark_of e)
one_begun (events.Begin f) = refl
one_begun (events.Spawn f) = refl
one_begun (events.Call f) = refl
one_begun (events.Resume f) = refl
one_begun events.Sync = refl
one_begun events.End = refl
one_begun (events.Read c v) = refl
one_begun (events.Write c v) = refl
one_begun (events.Create i) = refl
one_begun (events.Update i v) = refl
one_begun (events.Set i v) = refl
one_begun (events.Value i v) = refl
one_begun (events.Print v) = refl

begun_marks : (es : List Event) → length (frames_begun es) ≡ begun (map mark_of es)
begun_marks [] = refl
begun_marks (e ∷ es) =
    let a = length-append (frame_begun e) (frames_begun es) in
    let b = one_begun e in
    let c = begun_marks es in
    omega (arith, a, b, c)

begun_both : (xs ys : List Mark) → begun (xs ++ ys) ≡ begun xs + begun ys
begun_both [] ys = omega arith
begun_both (x ∷ xs) ys = let h = begun_both xs ys in omega (arith, h)

start_begins : (k : Invocation) → begins (start_of k) ≡ 0
start_begins invocations.Call = refl
start_begins invocations.Spawn = refl

begun_inside : (s : Shape) → begun (marks s) ≡ frames_in s
begun_inside finish = refl
begun_inside (act r) = let h = begun_inside r in omega (arith, h)
begun_inside (sync r) = let h = begun_inside r in omega (arith, h)
begun_inside (child k u r) =
    let h = begun_inside u in
    let i = begun_inside r in
    let a = begun_both (marks u) (Resume ∷ marks r) in
    let b = start_begins k in
    omega (arith, h, i, a, b)

counted : (n k : ℕ) → length (count_from n k) ≡ k
counted n zero = refl
counted n (suc k) = ap suc (counted (suc n) k)

pub few_columns : (p : Source) (inputs : List ℤ) → RunsHaveFewColumns p inputs
few_columns p inputs r es outcome s well serial spells =
    let lengths = columns_counted s es spells in
    let run = frames_counted p inputs r es outcome well serial in
    let many = ap (λ (l : List ℕ). length l) run.begun ∙ counted 1 run.many in
    let marked = begun_marks es ∙ ap begun spells in
    let inside = begun_inside s in
    let frames = lengths.frames in
    let few = run.few in
    let owners = lengths.few_owners in
    let short = serial_run_is_short p inputs r es (Leaves outcome) serial in
    record {
      begun = omega (arith, marked, inside, frames);
      frames = omega (arith, marked, inside, frames, many, few);
      owners = omega (arith, owners, short);
    }
