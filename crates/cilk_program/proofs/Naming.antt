-- The guarantees of a well-named program, part by part.
use Rattle.std.proofs.Common.{◌≡◌, ℕ, zero, suc, ◌+◌, ◌<◌, ◌≤◌, nat_lt, nat_eq, ◌&&◌, IsTrue, List, [], ◌∷◌, length, slice_get, unwrap_or, subst, ap, refl, arith}
use Rattle.std.proofs.lemmas.Bool.{ltb-true, ltb-false, eqb-true, and_parts, not-true}
use Rattle.cilk_program.specs.declared.program.Body.{Body}
use Rattle.cilk_program.specs.declared.program.Body.TheVariants as bodies
use Rattle.cilk_program.specs.Syntax.{Function, Loop, Source, idle, idle_loop, function_at, loop_at, main_of}
use Rattle.cilk_program.specs.WellNamed.{loop_level, levels, levels_of, at_most, row_is_named, stands_in, function_is_named, loop_is_named, functions_are_named, loops_are_named, main_is_plain, is_well_named}

pub at_most_is : (n k : ℕ) → IsTrue (at_most n k) → n ≤ k
at_most_is n k h = ltb-false k n (not-true (nat_lt k n) h)

-- a function of a well-named program
pub record FunctionIsNamed (p : Source) (k : ℕ) (f : Function) : Type 0 where
  pub words : f.words ≤ f.cells
  pub cells : f.cells ≤ 256
  pub parameters : f.words + length f.given ≤ 16
  pub reducers : length f.reducers ≤ 64
  pub body : IsTrue (row_is_named p (bodies.Function k) f.body)

-- a loop of a well-named program
pub record LoopIsNamed (p : Source) (n : ℕ) (l : Loop) : Type 0 where
  pub variable : 0 < l.cells
  pub cells : l.cells ≤ 256
  pub within : IsTrue (stands_in p n l.within)
  pub body : IsTrue (row_is_named p (bodies.Loop n) l.body)

pub function_parts : (p : Source) (k : ℕ) (f : Function) → IsTrue (function_is_named p k f) → FunctionIsNamed p k f
function_parts p k f h =
    let words = at_most f.words f.cells in
    let cells = at_most f.cells 256 in
    let parameters = at_most (f.words + length f.given) 16 in
    let reducers = at_most (length f.reducers) 64 in
    let body = row_is_named p (bodies.Function k) f.body in
    let a = and_parts (words && cells && parameters && reducers) body h in
    let b = and_parts (words && cells && parameters) reducers a.0 in
    let c = and_parts (words && cells) parameters b.0 in
    let d = and_parts words cells c.0 in
    record { words = at_most_is f.words f.cells d.0; cells = at_most_is f.cells 256 d.1; parameters = at_most_is (f.words + length f.given) 16 c.1; reducers = at_most_is (length f.reducers) 64 b.1; body = a.1 }

pub loop_parts : (p : Source) (n : ℕ) (l : Loop) → IsTrue (loop_is_named p n l) → LoopIsNamed p n l
loop_parts p n l h =
    let variable = nat_lt 0 l.cells in
    let cells = at_most l.cells 256 in
    let within = stands_in p n l.within in
    let body = row_is_named p (bodies.Loop n) l.body in
    let a = and_parts (variable && cells && within) body h in
    let b = and_parts (variable && cells) within a.0 in
    let c = and_parts variable cells b.0 in
    record { variable = ltb-true 0 l.cells c.0; cells = at_most_is l.cells 256 c.1; within = b.1; body = a.1 }

function_among : (p : Source) (from : ℕ) (fs : List Function) (k : ℕ) → IsTrue (functions_are_named p from fs) → k < length fs → IsTrue (function_is_named p (from + k) (unwrap_or (slice_get fs k) idle))
function_among p from [] k h lt = absurd (omega arith)
function_among p from (f ∷ fs) zero h lt =
    let e : from ≡ from + 0 = omega arith in
    subst (λ n. IsTrue (function_is_named p n f)) e (and_parts (function_is_named p from f) (functions_are_named p (suc from) fs) h).0
function_among p from (f ∷ fs) (suc k) h lt =
    let e : suc from + k ≡ from + suc k = omega arith in
    subst (λ n. IsTrue (function_is_named p n (unwrap_or (slice_get fs k) idle))) e
    (function_among p (suc from) fs k (and_parts (function_is_named p from f) (functions_are_named p (suc from) fs) h).1 (omega arith))

loop_among : (p : Source) (from : ℕ) (ls : List Loop) (k : ℕ) → IsTrue (loops_are_named p from ls) → k < length ls → IsTrue (loop_is_named p (from + k) (unwrap_or (slice_get ls k) idle_loop))
loop_among p from [] k h lt = absurd (omega arith)
loop_among p from (l ∷ ls) zero h lt =
    let e : from ≡ from + 0 = omega arith in
    subst (λ n. IsTrue (loop_is_named p n l)) e (and_parts (loop_is_named p from l) (loops_are_named p (suc from) ls) h).0
loop_among p from (l ∷ ls) (suc k) h lt =
    let e : suc from + k ≡ from + suc k = omega arith in
    subst (λ n. IsTrue (loop_is_named p n (unwrap_or (slice_get ls k) idle_loop))) e
    (loop_among p (suc from) ls k (and_parts (loop_is_named p from l) (loops_are_named p (suc from) ls) h).1 (omega arith))

-- a well-named program
pub record SourceIsNamed (p : Source) : Type 0 where
  pub openings : length p.openings ≤ 1000000
  pub reducers : length p.reducers ≤ 64
  pub main : p.main < length p.functions
  pub takes_no_words : (main_of p).words ≡ 0
  pub takes_no_reducers : length (main_of p).given ≡ 0
  pub functions : (k : ℕ) → k < length p.functions → FunctionIsNamed p k (function_at p k)
  pub loops : (n : ℕ) → n < length p.loops → LoopIsNamed p n (loop_at p n)

pub well_named_parts : (p : Source) → IsTrue (is_well_named p) → SourceIsNamed p
well_named_parts p h =
    let openings = at_most (length p.openings) 1000000 in
    let reducers = at_most (length p.reducers) 64 in
    let main = nat_lt p.main (length p.functions) in
    let plain = main_is_plain (main_of p) in
    let functions = functions_are_named p 0 p.functions in
    let loops = loops_are_named p 0 p.loops in
    let a = and_parts (openings && reducers && main && plain && functions) loops h in
    let b = and_parts (openings && reducers && main && plain) functions a.0 in
    let c = and_parts (openings && reducers && main) plain b.0 in
    let d = and_parts (openings && reducers) main c.0 in
    let e = and_parts openings reducers d.0 in
    let f = and_parts (nat_eq (main_of p).words 0) (nat_eq (length (main_of p).given) 0) c.1 in
    record {
      openings = at_most_is (length p.openings) 1000000 e.0;
      reducers = at_most_is (length p.reducers) 64 e.1;
      main = ltb-true p.main (length p.functions) d.1;
      takes_no_words = eqb-true (main_of p).words 0 f.0;
      takes_no_reducers = eqb-true (length (main_of p).given) 0 f.1;
      functions = λ k lt. let same : 0 + k ≡ k = omega arith in subst (λ n. FunctionIsNamed p n (function_at p k)) same (function_parts p (0 + k) (function_at p k) (function_among p 0 p.functions k b.1 lt));
      loops = λ n lt. let same : 0 + n ≡ n = omega arith in subst (λ k. LoopIsNamed p k (loop_at p n)) same (loop_parts p (0 + n) (loop_at p n) (loop_among p 0 p.loops n a.1 lt));
    }

-- how deeply a body may be nested
abbrev depth : Body → ℕ
depth (bodies.Function k) = 0
depth (bodies.Loop n) = suc n

abbrev BodyIsThere : Source → Body → Type 0
BodyIsThere p (bodies.Function k) = Unit {0}
BodyIsThere p (bodies.Loop n) = n < length p.loops

-- the body around a loop
record StandsIn (p : Source) (n : ℕ) (b : Body) : Type 0 where
  here : BodyIsThere p b
  lower : depth b ≤ n

stands : (p : Source) (n : ℕ) (b : Body) → n < length p.loops → IsTrue (stands_in p n b) → StandsIn p n b
stands p n (bodies.Function k) lt h = record { here = tt; lower = omega arith }
stands p n (bodies.Loop k) lt h = let below = ltb-true k n h in record { here = omega (arith, below, lt); lower = omega (arith, below) }

-- the levels have enough fuel
levels_steady : (p : Source) → SourceIsNamed p → (n k : ℕ) (b : Body) → BodyIsThere p b → depth b < n → depth b < k → levels n p b ≡ levels k p b
levels_steady p named zero k b here ln lk = absurd (omega (arith, ln))
levels_steady p named (suc n) zero b here ln lk = absurd (omega (arith, lk))
levels_steady p named (suc n) (suc k) (bodies.Function j) here ln lk = refl
levels_steady p named (suc n) (suc k) (bodies.Loop j) here ln lk =
    let l = named.loops j here in
    let s = stands p j (loop_at p j).within here l.within in
    ap (λ ls. loop_level (loop_at p j) ∷ ls) (levels_steady p named n k (loop_at p j).within s.here (omega (arith, s.lower, ln)) (omega (arith, s.lower, lk)))

-- the levels of a loop are its own, then those of the bodies around it
pub loop_levels : (p : Source) → IsTrue (is_well_named p) → (n : ℕ) → n < length p.loops → levels_of p (bodies.Loop n) ≡ loop_level (loop_at p n) ∷ levels_of p (loop_at p n).within
loop_levels p h n lt =
    let named = well_named_parts p h in
    let l = named.loops n lt in
    let s = stands p n (loop_at p n).within lt l.within in
    ap (λ ls. loop_level (loop_at p n) ∷ ls) (levels_steady p named (length p.loops) (suc (length p.loops)) (loop_at p n).within s.here (omega (arith, s.lower, lt)) (omega (arith, s.lower, lt)))
