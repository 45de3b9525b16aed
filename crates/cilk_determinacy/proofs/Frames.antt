-- The frames of a serial run begin in the order of their numbers.
--
-- - `count_more`: counting continues;
-- - `begins`: the frames that begin from some point of a frame on;
-- - `frames_counted`: the law, for a whole run.
use Rattle.std.proofs.Common.{◌≡◌, ℕ, zero, suc, ◌+◌, ℤ, List, [], ◌∷◌, ◌++◌, Option, Some, None, refl, sym, ap, ap₂, ◌∙◌, subst, arith}
use Rattle.cilk_types.specs.declared.event.Event.{Event}
use Rattle.cilk_types.specs.declared.event.Event.TheVariants as events
use Rattle.cilk_program.specs.declared.ask.Ask.{Ask}
use Rattle.cilk_program.specs.declared.ask.Ask.TheVariants as asks
use Rattle.cilk_program.specs.declared.ask.Callee.TheVariants as callees
use Rattle.cilk_types.specs.declared.invocation.Invocation.{Invocation}
use Rattle.cilk_types.specs.declared.invocation.Invocation.TheVariants as ways
use Rattle.cilk_program.specs.Outcomes.{Leaves}
use Rattle.cilk_program.specs.Syntax.{Source}
use Rattle.cilk_program.specs.SerialRun as serial
use Rattle.cilk_program.specs.SerialRun.{Frame, invocation, result_written}
use Rattle.cilk_program.specs.Numbering.{Counts, unbegun, entered, counts_after, frame_of, events_of}
use Rattle.cilk_program.proofs.Closings.{runs_begin, runs_resume}
use Rattle.cilk_program.proofs.Numbers.{run_events}
use Rattle.cilk_program.proofs.Remembered.{runs_small}
use Rattle.cilk_determinacy.specs.Traces.{Due, begin_due, resume_due, neither_due}
use Rattle.cilk_determinacy.specs.Events.{frames_begun, count_from, FramesAreCounted}
use Rattle.cilk_determinacy.proofs.Determinate.{ran}
use Rattle.cilk_determinacy.proofs.Shapes.{IsProper, ProperAt, Stage, serial_proper}

count_more : (a j k : ℕ) → count_from a j ++ count_from (a + j) k ≡ count_from a (j + k)
count_more a zero k = let e : a + 0 ≡ a = omega arith in let f : 0 + k ≡ k = omega arith in ap (λ a. count_from a k) e ∙ ap (count_from a) (sym f)
count_more a (suc j) k =
    let e : a + suc j ≡ suc a + j = omega arith in
    let f : suc (j + k) ≡ suc j + k = omega arith in
    ap (λ b. a ∷ (count_from (suc a) j ++ count_from b k)) e ∙ ap (λ l. a ∷ l) (count_more (suc a) j k) ∙ ap (count_from a) f

begun_both : (es es' : List Event) → frames_begun (es ++ es') ≡ frames_begun es ++ frames_begun es'
begun_both [] es' = refl
begun_both (events.Begin f ∷ es) es' = ap (λ l. f ∷ l) (begun_both es es')
begun_both (events.Spawn f ∷ es) es' = begun_both es es'
begun_both (events.Call f ∷ es) es' = begun_both es es'
begun_both (events.Resume f ∷ es) es' = begun_both es es'
begun_both (events.Sync ∷ es) es' = begun_both es es'
begun_both (events.End ∷ es) es' = begun_both es es'
begun_both (events.Read c v ∷ es) es' = begun_both es es'
begun_both (events.Write c v ∷ es) es' = begun_both es es'
begun_both (events.Create i ∷ es) es' = begun_both es es'
begun_both (events.Update i v ∷ es) es' = begun_both es es'
begun_both (events.Set i v ∷ es) es' = begun_both es es'
begun_both (events.Value i v ∷ es) es' = begun_both es es'
begun_both (events.Print v ∷ es) es' = begun_both es es'

start_begins_none : (how : Invocation) (n : ℕ) (es : List Event) → frames_begun (invocation how n ∷ es) ≡ frames_begun es
start_begins_none ways.Call n es = refl
start_begins_none ways.Spawn n es = refl

result_begins_none : (o : Option ℕ) (v : ℤ) (es : List Event) → frames_begun (result_written o v ∷ es) ≡ frames_begun es
result_begins_none None v es = refl
result_begins_none (Some c) v es = refl

-- a frame that is to begin is the first to do so
abbrev first : Due → Frame → List ℕ
first begin_due fr = fr.number ∷ []
first resume_due fr = []
first neither_due fr = []

module _ (p : Source) where
  record Begun (d : Due) (fr : Frame) (n : Counts) (r : serial.Transcript) : Type 0 where
    many : ℕ
    counted : (counts_after p r n).frames ≡ n.frames + many
    begun : frames_begun (events_of p fr n r) ≡ first d fr ++ count_from (suc n.frames) many

  child_begun : (fr : Frame) (n : Counts) (how : Invocation) (callee : _) (u r : serial.Transcript)
      → Begun begin_due (frame_of p fr.scope n callee) (entered p callee n) u → Begun resume_due fr (counts_after p u (entered p callee n)) r
      → Begun neither_due fr n (serial.child how callee u r)
  child_begun fr n how callee u r h g =
      let inner = events_of p (frame_of p fr.scope n callee) (entered p callee n) u in
      let rest = events_of p fr (counts_after p u (entered p callee n)) r in
      let hc = h.counted in
      let gc = g.counted in
      let e : suc (counts_after p u (entered p callee n)).frames ≡ suc (suc n.frames) + h.many = omega (arith, hc) in
      record {
        many = suc (h.many + g.many);
        counted = omega (arith, hc, gc);
        begun = start_begins_none how (suc n.frames) (inner ++ rest)
            ∙ begun_both inner rest
            ∙ ap₂ (λ a b. a ++ b) h.begun (g.begun ∙ ap (λ a. count_from a g.many) e)
            ∙ ap (λ l. suc n.frames ∷ l) (count_more (suc (suc n.frames)) h.many g.many);
      }

  begins : (d : Due) (fr : Frame) (n : Counts) (r : serial.Transcript) → IsProper r → Stage d r → Begun d fr n r
  begins d fr n serial.stop h g = absurd h
  begins begin_due fr n (serial.act a v r) h g =
      subst (λ (a : Ask). Begun begin_due fr n (serial.act a v r)) (sym g.0.0)
      (let i = begins neither_due fr n r (subst (λ (a : Ask). ProperAt a (IsProper r) r) g.0.0 h) (g.0.1, g.1.1) in
      record { many = i.many; counted = i.counted; begun = ap (λ l. fr.number ∷ l) i.begun })
  begins begin_due fr n (serial.child how callee u r) h g = absurd g.0
  begins resume_due fr n (serial.act a v r) h g =
      subst (λ (a : Ask). Begun resume_due fr n (serial.act a v r)) (sym g.1.0)
      (let i = begins neither_due fr n r (subst (λ (a : Ask). ProperAt a (IsProper r) r) g.1.0 h) (g.0.1, g.1.1) in
      record { many = i.many; counted = i.counted; begun = i.begun })
  begins resume_due fr n (serial.child how callee u r) h g = absurd g.1
  begins neither_due fr n (serial.act asks.Begin v r) h g = absurd g.0.0
  begins neither_due fr n (serial.act (asks.Invoke how callee) v r) h g = absurd h
  begins neither_due fr n (serial.act asks.Resume v r) h g = absurd g.1.0
  begins neither_due fr n (serial.act (asks.Result y) v r) h g =
      let i = begins neither_due fr n r h (g.0.1, g.1.1) in
      record { many = i.many; counted = i.counted; begun = result_begins_none fr.result y (events_of p fr n r) ∙ i.begun }
  begins neither_due fr n (serial.act (asks.End y) v r) h g =
      let e : (counts_after p serial.stop n).frames ≡ n.frames + 0 = omega arith in
      subst (λ (r : serial.Transcript). Begun neither_due fr n (serial.act (asks.End y) v r)) (sym h) (record { many = 0; counted = e; begun = refl })
  begins neither_due fr n (serial.act (asks.Fault f) v r) h g = absurd h
  begins neither_due fr n (serial.act (asks.Read x) v r) h g = let i = begins neither_due fr n r h (g.0.1, g.1.1) in record { many = i.many; counted = i.counted; begun = i.begun }
  begins neither_due fr n (serial.act (asks.Write x y) v r) h g = let i = begins neither_due fr n r h (g.0.1, g.1.1) in record { many = i.many; counted = i.counted; begun = i.begun }
  begins neither_due fr n (serial.act (asks.Create c) v r) h g = let i = begins neither_due fr n r h (g.0.1, g.1.1) in record { many = i.many; counted = i.counted; begun = i.begun }
  begins neither_due fr n (serial.act (asks.Update c y) v r) h g = let i = begins neither_due fr n r h (g.0.1, g.1.1) in record { many = i.many; counted = i.counted; begun = i.begun }
  begins neither_due fr n (serial.act (asks.Set c y) v r) h g = let i = begins neither_due fr n r h (g.0.1, g.1.1) in record { many = i.many; counted = i.counted; begun = i.begun }
  begins neither_due fr n (serial.act (asks.Value c) v r) h g = let i = begins neither_due fr n r h (g.0.1, g.1.1) in record { many = i.many; counted = i.counted; begun = i.begun }
  begins neither_due fr n (serial.act (asks.Print y) v r) h g = let i = begins neither_due fr n r h (g.0.1, g.1.1) in record { many = i.many; counted = i.counted; begun = i.begun }
  begins neither_due fr n (serial.act asks.Sync v r) h g = let i = begins neither_due fr n r h (g.0.1, g.1.1) in record { many = i.many; counted = i.counted; begun = i.begun }
  begins neither_due fr n (serial.child how callee u r) h g =
      child_begun fr n how callee u r
      (begins begin_due (frame_of p fr.scope n callee) (entered p callee n) u h.0 (g.0.0, g.1.0))
      (begins resume_due fr (counts_after p u (entered p callee n)) r h.1 (g.0.1, g.1.1))

pub frames_counted : (p : Source) (inputs : List ℤ) → FramesAreCounted p inputs
frames_counted p inputs r es outcome well run =
    let proper : IsProper r = let h = ran p inputs r es outcome run in serial_proper h.derivation in
    let stage : Stage begin_due r = (runs_begin p inputs r es (Leaves outcome) run, runs_resume p inputs r es (Leaves outcome) run) in
    let n = entered p callees.Root (unbegun p) in
    let i = begins p begin_due (frame_of p [] (unbegun p) callees.Root) n r proper stage in
    let small = runs_small p well inputs r es (Leaves outcome) run in
    record {
      many = suc i.many;
      few = let few = small.frames in let c = i.counted in omega (arith, few, c);
      begun = ap frames_begun (run_events p inputs r es (Leaves outcome) run) ∙ i.begun;
    }
