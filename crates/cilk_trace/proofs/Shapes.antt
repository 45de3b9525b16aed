-- A trace whose frames nest spells a shape.
use Rattle.std.proofs.Common.{◌≡◌, ℕ, zero, suc, List, [], ◌∷◌, ◌++◌, length, refl, sym, ◌∙◌, ap, arith, Option, Some, None}
use Rattle.std.proofs.lemmas.List.{append_assoc}
use Rattle.cilk_types.specs.declared.invocation.Invocation.{Invocation}
use Rattle.cilk_types.specs.declared.invocation.Invocation.TheVariants as invocations
use Rattle.cilk_tree.specs.declared.mark.Mark.{Mark}
use Rattle.cilk_tree.specs.declared.mark.Mark.TheVariants.{Begin, End, Sync, Resume}
use Rattle.cilk_tree.specs.Shape.{Shape, finish, sync, child, start_of, marks}
use Rattle.cilk_trace.specs.declared.line.Line.{Line}
use Rattle.cilk_trace.specs.declared.line.Line.TheVariants as lines
use Rattle.cilk_trace.specs.Frames.{ends, Nests}
use Rattle.cilk_trace.specs.Marks.{started, marks_after, TracesHaveShapes}

-- the marks of the rest of a frame, and of the rests of the frames outside it, each after a `resume`
abbrev rest_marks : Shape → List Shape → List Mark
rest_marks s [] = marks s
rest_marks s (r ∷ rs) = marks s ++ Resume ∷ rest_marks r rs

-- the marks are those of the rests of an innermost frame and of d frames outside it
record Rests (d : ℕ) (ms : List Mark) : Type 0 where
  current : Shape
  outer : List Shape
  count : length outer ≡ d
  spells : ms ≡ rest_marks current outer

abbrev how_of : Option Invocation → Invocation
how_of None = invocations.Call
how_of (Some how) = how

starts : (o : Option Invocation) → started o ≡ start_of (how_of o)
starts None = refl
starts (Some how) = refl

syncs : (s : Shape) (rs : List Shape) → rest_marks (sync s) rs ≡ Sync ∷ rest_marks s rs
syncs s [] = refl
syncs s (r ∷ rs) = refl

-- a frame inside the innermost one
children : (how : Invocation) (u r : Shape) (rs : List Shape)
    → rest_marks (child how u r) rs ≡ start_of how ∷ Begin ∷ marks u ++ Resume ∷ rest_marks r rs
children how u r [] = refl
children how u r (q ∷ qs) = ap (λ (ms : List Mark). start_of how ∷ Begin ∷ ms) (append_assoc (marks u) (Resume ∷ marks r) (Resume ∷ rest_marks q qs))

enters : (d : ℕ) (o : Option Invocation) (ms : List Mark) (u : Shape) (outer : List Shape)
    → length outer ≡ suc d → ms ≡ rest_marks u outer → Rests d (started o ∷ Begin ∷ ms)
enters d o ms u [] count spells = absurd (omega (arith, count))
enters d o ms u (r ∷ rs) count spells = record {
  current = child (how_of o) u r;
  outer = rs;
  count = omega (arith, count);
  spells = ap (λ (m : Mark). m ∷ Begin ∷ ms) (starts o)
      ∙ (ap (λ (ns : List Mark). start_of (how_of o) ∷ Begin ∷ ns) spells ∙ sym (children (how_of o) u r rs));
}

leaves : (d : ℕ) (ms : List Mark) → Rests d ms → Rests (suc d) (Sync ∷ End ∷ Resume ∷ ms)
leaves d ms r = record {
  current = sync finish;
  outer = r.current ∷ r.outer;
  count = ap suc r.count;
  spells = ap (λ (ns : List Mark). Sync ∷ End ∷ Resume ∷ ns) r.spells;
}

nest : (d : ℕ) (ls : List Line) → Nests d ls → Rests d (marks_after ls)
nest d [] h = absurd h
nest d (lines.Enter s ∷ ls) h =
    let r = nest (suc d) ls h in enters d (ends 0 ls) (marks_after ls) r.current r.outer r.count r.spells
nest zero (lines.Spawned ∷ ls) h = absurd h
nest (suc d) (lines.Spawned ∷ ls) h = leaves d (marks_after ls) (nest d ls h)
nest zero (lines.Called ∷ ls) h = absurd h
nest (suc d) (lines.Called ∷ ls) h = leaves d (marks_after ls) (nest d ls h)
nest d (lines.Sync ∷ ls) h =
    let r = nest d ls h in
    record { current = sync r.current; outer = r.outer; count = r.count; spells = ap (λ (ms : List Mark). Sync ∷ ms) r.spells ∙ sym (syncs r.current r.outer) }
nest d (lines.Read c s ∷ ls) h = nest d ls h
nest d (lines.Write c s ∷ ls) h = nest d ls h
nest d (lines.Clear c ∷ ls) h = nest d ls h
nest d (lines.Unseen c ∷ ls) h = nest d ls h
nest d (lines.Create r s ∷ ls) h = nest d ls h
nest d (lines.Update r s ∷ ls) h = nest d ls h
nest d (lines.Value r s ∷ ls) h = nest d ls h
nest d (lines.Retire r s ∷ ls) h = nest d ls h
nest zero (lines.End ∷ []) h = record { current = sync finish; outer = []; count = refl; spells = refl }
nest zero (lines.End ∷ (l ∷ ls)) h = absurd h
nest (suc d) (lines.End ∷ ls) h = absurd h

whole : (ms : List Mark) (s : Shape) (outer : List Shape) → length outer ≡ 0 → ms ≡ rest_marks s outer → ms ≡ marks s
whole ms s [] count spells = spells
whole ms s (r ∷ rs) count spells = absurd (omega (arith, count))

pub have_shapes : TracesHaveShapes
have_shapes ls h =
    let r = nest 0 ls h in
    (r.current, ap (λ (ms : List Mark). Begin ∷ ms) (whole (marks_after ls) r.current r.outer r.count r.spells))
