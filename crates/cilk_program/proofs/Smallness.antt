-- The reducer that a frame of a well-named program names has a small number. A program has at most
-- 64 global ones, a function creates at most 64, and fewer are given to it.
-- reducer_small   an existing reducer has a number below 65,536
use Rattle.std.proofs.Common.{◌≡◌, inl, inr, ℕ, zero, suc, ◌+◌, ◌<◌, ◌≤◌, Bool, true, IsTrue, List, [], ◌∷◌, length, slice_get, unwrap_or, Option, Some, None, refl, sym, subst, arith}
use Rattle.std.proofs.lemmas.Bool.{false≢true, cases_lt}
use Rattle.std.proofs.lemmas.Option.{slice_get_past}
use Rattle.cilk_monoid.specs.declared.kind.MonoidKind.{MonoidKind}
use Rattle.cilk_program.specs.declared.program.Body.{Body}
use Rattle.cilk_program.specs.declared.program.Body.TheVariants as bodies
use Rattle.cilk_program.specs.declared.syntax.ReducerPlace.{ReducerPlace}
use Rattle.cilk_program.specs.declared.syntax.ReducerPlace.TheVariants as reducers
use Rattle.cilk_program.specs.Syntax.{Source, Function, idle, function_at, loop_at, number_in}
use Rattle.cilk_program.specs.WellNamed.{Level, function_level, loop_level, levels, levels_of, has_own, has_given, reducer_is_there}
use Rattle.cilk_program.proofs.Naming.{SourceIsNamed}
use Rattle.cilk_program.proofs.Sights.{kind_within}

record IsSmall (l : Level) : Type 0 where
  own : length l.own ≤ 64
  given : length l.given ≤ 64

function_small : (p : Source) → SourceIsNamed p → (k : ℕ) → IsSmall (function_level (function_at p k))
function_small p named k = elim (cases_lt k (length p.functions)) [
  | inl low ↦ (let f = named.functions k low in let few = f.parameters in record { own = f.reducers; given = omega (arith, few) })
  | inr past ↦ (
      let none : slice_get p.functions k ≡ None = slice_get_past p.functions k past in
      subst (λ (o : Option Function). IsSmall (function_level (unwrap_or o idle))) (sym none) (record { own = omega arith; given = omega arith }))
]

level_is : (l k : Level) → Some l ≡ Some k → l ≡ k
level_is l k e = cc

levels_small : (p : Source) → SourceIsNamed p → (n : ℕ) (b : Body) (up : ℕ) (l : Level) → slice_get (levels n p b) up ≡ Some l → IsSmall l
levels_small p named zero b up l e = cc
levels_small p named (suc n) (bodies.Function k) zero l e = subst IsSmall (level_is (function_level (function_at p k)) l e) (function_small p named k)
levels_small p named (suc n) (bodies.Function k) (suc up) l e = cc
levels_small p named (suc n) (bodies.Loop k) zero l e = subst IsSmall (level_is (loop_level (loop_at p k)) l e) (record { own = omega arith; given = omega arith })
levels_small p named (suc n) (bodies.Loop k) (suc up) l e = let body = loop_at p k in levels_small p named n body.within up l e

own_small : (o : Option Level) (n : ℕ) (k : MonoidKind) → ((l : Level) → o ≡ Some l → IsSmall l) → has_own o n k ≡ true → n < 65536
own_small None n k small h = absurd (false≢true h)
own_small (Some l) n k small h = let few = (small l refl).own in let low = kind_within l.own n k h in omega (arith, few, low)

given_small : (o : Option Level) (n : ℕ) (k : MonoidKind) → ((l : Level) → o ≡ Some l → IsSmall l) → has_given o n k ≡ true → n < 65536
given_small None n k small h = absurd (false≢true h)
given_small (Some l) n k small h = let few = (small l refl).given in let low = kind_within l.given n k h in omega (arith, few, low)

pub reducer_small : (p : Source) → SourceIsNamed p → (b : Body) (r : ReducerPlace) (k : MonoidKind) → IsTrue (reducer_is_there p b r k) → number_in r < 65536
reducer_small p named b (reducers.Global n) k h = let few = named.reducers in let low = kind_within p.reducers n k h in omega (arith, few, low)
reducer_small p named b (reducers.Own up n) k h = own_small (slice_get (levels_of p b) up) n k (λ l e. levels_small p named (suc (length p.loops)) b up l e) h
reducer_small p named b (reducers.Given up n) k h = given_small (slice_get (levels_of p b) up) n k (λ l e. levels_small p named (suc (length p.loops)) b up l e) h
