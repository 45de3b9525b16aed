-- The arrays that the code of a well-named body names have numbers for all their cells.
use Rattle.std.proofs.Common.{◌≡◌, ℕ, ℤ, zero, suc, ◌+◌, ◌^◌, ◌≤◌, Bool, true, false, ◌&&◌, IsTrue, List, [], ◌∷◌, ◌++◌, length, Option, Some, None, refl, subst, arith}
use Rattle.std.specs.Prelude.{slice_get, nat_lt, not}
use Rattle.cilk_monoid.specs.declared.kind.MonoidKind.{MonoidKind}
use Rattle.cilk_program.specs.declared.program.Body.{Body}
use Rattle.cilk_program.specs.declared.syntax.Array.{Array}
use Rattle.cilk_program.specs.declared.syntax.Operator.{Operator}
use Rattle.cilk_program.specs.declared.syntax.ReducerPlace.{ReducerPlace}
use Rattle.cilk_program.specs.declared.syntax.ReducerPlace.TheVariants as reducers
use Rattle.cilk_program.specs.Syntax.{Expression, Number, Variable, Element, Negate, Not, Binary, And, Or, Value, Input, InputCount, Target, ToVariable, ToElement, Invoke, Declaration, Zero, Opening, Invoking, Statement, Empty, Block, Declare, Assign, Change, Step, Invokes, Sync, If, IfElse, For, ParallelFor, Print, Update, Set, Return, Statements, Nothing, Then, Function, Loop, Source}
use Rattle.cilk_program.specs.WellNamed.{at_most, array_is_there, expression_is_named, all_are_named, target_is_named, invoke_is_named, declaration_is_named, declarations_are_named, statement_is_named, row_is_named}
use Rattle.cilk_lower.specs.declared.code.Instr.{Instr}
use Rattle.cilk_lower.specs.Code.{ArrayFits, ArraysFit, literal, right_code, expr_code, exprs_code, index_code, fetch, store, invoke_code, declaration_code, declaration_sites, declarations_code, stmt_code, stmt_sites, all_code, all_sites, words_code, creates_code, function_code, loop_code}

-- at a place
pub fits_there : (code : List Instr) (place : ℕ) (i : Instr) → ArraysFit code → slice_get code place ≡ Some i → ArrayFits i
fits_there [] place i h e = cc
fits_there (j ∷ code) zero i h e = let same : j ≡ i = cc in subst ArrayFits same h.0
fits_there (j ∷ code) (suc place) i h e = fits_there code place i h.1 e

-- one code after another
pub both_fit : (a b : List Instr) → ArraysFit a → ArraysFit b → ArraysFit (a ++ b)
both_fit [] b h k = k
both_fit (i ∷ a) b h k = (h.0, both_fit a b h.1 k)

both : (s t : Bool) → IsTrue (s && t) → IsTrue s × IsTrue t
both true t h = (refl, h)
both false t h = cc

limited : (n k : ℕ) → IsTrue (at_most n k) → n ≤ k
limited n k h = below (nat_lt k n) refl h
  where
    below : (t : Bool) → nat_lt k n ≡ t → IsTrue (not t) → n ≤ k
    below true e h = cc
    below false e h = grind (arith, e)

words_fit : (n count : ℕ) → ArraysFit (words_code n count)
words_fit n zero = tt
words_fit n (suc count) = (tt, words_fit (suc n) count)

pub creates_fit : (place : ℕ → ReducerPlace) (n : ℕ) (ks : List MonoidKind) → ArraysFit (creates_code place n ks)
creates_fit place n [] = tt
creates_fit place n (k ∷ ks) = (tt, creates_fit place (suc n) ks)

module _ (p : Source) (b : Body) (few : length p.openings ≤ 1000000) where
  array_fits : (a : Array) → IsTrue (array_is_there p b a) → a.first + a.length ≤ 2 ^ 32
  array_fits a h = let l = limited (a.first + a.length) (length p.openings) h in omega (arith, few)

  right_fits : (op : Operator) (o : Option ℤ) (code : List Instr) → ArraysFit code → ArraysFit (right_code op o code)
  right_fits op (Some n) code h = (tt, tt)
  right_fits op None code h = h

  expr_fits : (e : Expression) → IsTrue (expression_is_named p b e) → ArraysFit (expr_code e)
  expr_fits (Number n) h = (tt, tt)
  expr_fits (Variable x) h = (tt, tt)
  expr_fits (Element a e) h = let n = both _ _ h in both_fit (expr_code e) _ (expr_fits e n.1) (array_fits a n.0, tt)
  expr_fits (Negate e) h = both_fit (expr_code e) _ (expr_fits e h) (tt, tt)
  expr_fits (Not e) h = both_fit (expr_code e) _ (expr_fits e h) (tt, tt)
  expr_fits (Binary op x y) h = let n = both _ _ h in both_fit (expr_code x) _ (expr_fits x n.0) (both_fit (right_code op (literal y) (expr_code y)) _ (right_fits op (literal y) (expr_code y) (expr_fits y n.1)) (tt, tt))
  expr_fits (And x y) h = let n = both _ _ h in both_fit (expr_code x) _ (expr_fits x n.0) (tt, both_fit (expr_code y) _ (expr_fits y n.1) (tt, (tt, (tt, tt))))
  expr_fits (Or x y) h = let n = both _ _ h in both_fit (expr_code x) _ (expr_fits x n.0) (tt, (tt, (tt, both_fit (expr_code y) _ (expr_fits y n.1) (tt, tt))))
  expr_fits (Value r) h = (tt, tt)
  expr_fits (Input e) h = both_fit (expr_code e) _ (expr_fits e h) (tt, tt)
  expr_fits InputCount h = (tt, tt)

  exprs_fit : (es : List Expression) → IsTrue (all_are_named p b es) → ArraysFit (exprs_code es)
  exprs_fit [] h = tt
  exprs_fit (e ∷ es) h = let n = both _ _ h in both_fit (expr_code e) _ (expr_fits e n.0) (exprs_fit es n.1)

  index_fits : (t : Target) → IsTrue (target_is_named p b t) → ArraysFit (index_code t)
  index_fits (ToVariable x) h = tt
  index_fits (ToElement a e) h = let n = both _ _ h in expr_fits e n.1

  fetch_fits : (t : Target) → IsTrue (target_is_named p b t) → ArrayFits (fetch t)
  fetch_fits (ToVariable x) h = tt
  fetch_fits (ToElement a e) h = let n = both _ _ h in array_fits a n.0

  store_fits : (t : Target) → IsTrue (target_is_named p b t) → ArrayFits (store t)
  store_fits (ToVariable x) h = tt
  store_fits (ToElement a e) h = let n = both _ _ h in array_fits a n.0

  invoke_fits : (k : ℕ) (i : Invoke) → IsTrue (invoke_is_named p b i) → ArraysFit (invoke_code k i)
  invoke_fits k i h =
      let result = both _ _ h in let given = both _ _ result.0 in let words = both _ _ given.0 in
      both_fit (exprs_code i.arguments) _ (exprs_fit i.arguments words.1) (tt, (tt, tt))

  declares_fits : (k : ℕ) (d : Declaration) → IsTrue (declaration_is_named p b d) → ArraysFit (declaration_code k d)
  declares_fits k (Zero n) h = (tt, tt)
  declares_fits k (Opening n e) h = let m = both _ _ h in both_fit (expr_code e) _ (expr_fits e m.1) (tt, tt)
  declares_fits k (Invoking i) h = invoke_fits k i h

  all_declare_fit : (k : ℕ) (ds : List Declaration) → IsTrue (declarations_are_named p b ds) → ArraysFit (declarations_code k ds)
  all_declare_fit k [] h = tt
  all_declare_fit k (d ∷ ds) h =
      let n = both _ _ h in both_fit (declaration_code k d) _ (declares_fits k d n.0) (all_declare_fit (k + length (declaration_sites d)) ds n.1)

  mutual
    stmt_fits : (s : Statement) (k : ℕ) → IsTrue (statement_is_named p b s) → ArraysFit (stmt_code k s)
    stmt_fits Empty k h = (tt, tt)
    stmt_fits (Block row) k h = (tt, all_fit row k h)
    stmt_fits (Declare ds) k h = (tt, all_declare_fit k ds h)
    stmt_fits (Assign t e) k h = let n = both _ _ h in (tt, both_fit (index_code t) _ (index_fits t n.0) (both_fit (expr_code e) _ (expr_fits e n.1) (store_fits t n.0, tt)))
    stmt_fits (Change t op e) k h =
        let n = both _ _ h in
        (tt, both_fit (index_code t) _ (index_fits t n.0) (fetch_fits t n.0, both_fit (expr_code e) _ (expr_fits e n.1) (tt, (store_fits t n.0, tt))))
    stmt_fits (Step t m) k h = (tt, both_fit (index_code t) _ (index_fits t h) (fetch_fits t h, (tt, (store_fits t h, tt))))
    stmt_fits (Invokes i) k h = (tt, invoke_fits k i h)
    stmt_fits Sync k h = (tt, (tt, tt))
    stmt_fits (If e s) k h = let n = both _ _ h in (tt, both_fit (expr_code e) _ (expr_fits e n.0) (tt, stmt_fits s k n.1))
    stmt_fits (IfElse e s other) k h =
        let n = both _ _ h in let m = both _ _ n.0 in
        (tt, both_fit (expr_code e) _ (expr_fits e m.0) (tt, both_fit (stmt_code k s) _ (stmt_fits s k m.1) (tt, stmt_fits other (k + length (stmt_sites s)) n.1)))
    stmt_fits (For row None step s) k h =
        let n = both _ _ h in let m = both _ _ n.0 in let l = both _ _ m.0 in
        let k1 = k + length (all_sites row) in
        (tt, both_fit (all_code k row) _ (all_fit row k l.0) (both_fit (stmt_code k1 s ++ all_code (k1 + length (stmt_sites s)) step) _ (both_fit (stmt_code k1 s) _ (stmt_fits s k1 n.1) (all_fit step (k1 + length (stmt_sites s)) m.1)) (tt, tt)))
    stmt_fits (For row (Some e) step s) k h =
        let n = both _ _ h in let m = both _ _ n.0 in let l = both _ _ m.0 in
        let k1 = k + length (all_sites row) in
        (tt, both_fit (all_code k row) _ (all_fit row k l.0) (both_fit (expr_code e) _ (expr_fits e l.1) (tt, both_fit (stmt_code k1 s ++ all_code (k1 + length (stmt_sites s)) step) _ (both_fit (stmt_code k1 s) _ (stmt_fits s k1 n.1) (all_fit step (k1 + length (stmt_sites s)) m.1)) (both_fit (expr_code e) _ (expr_fits e l.1) (tt, tt)))))
    stmt_fits (ParallelFor x y n) k h =
        let m = both _ _ h in let l = both _ _ m.0 in
        (tt, both_fit (expr_code x) _ (expr_fits x l.0) (both_fit (expr_code y) _ (expr_fits y l.1) (tt, (tt, tt))))
    stmt_fits (Print e) k h = (tt, both_fit (expr_code e) _ (expr_fits e h) (tt, tt))
    stmt_fits (Update r e) k h = let n = both _ _ h in (tt, both_fit (expr_code e) _ (expr_fits e n.1) (tt, tt))
    stmt_fits (Set r e) k h = let n = both _ _ h in (tt, both_fit (expr_code e) _ (expr_fits e n.1) (tt, tt))
    stmt_fits (Return None) k h = (tt, (tt, (tt, (tt, tt))))
    stmt_fits (Return (Some e)) k h = (tt, both_fit (expr_code e) _ (expr_fits e h) (tt, (tt, (tt, (tt, tt)))))

    all_fit : (row : Statements) (k : ℕ) → IsTrue (row_is_named p b row) → ArraysFit (all_code k row)
    all_fit Nothing k h = tt
    all_fit (Then s row) k h = let n = both _ _ h in both_fit (stmt_code k s) _ (stmt_fits s k n.0) (all_fit row (k + length (stmt_sites s)) n.1)

  pub function_fits : (k : ℕ) (f : Function) → IsTrue (row_is_named p b f.body) → ArraysFit (function_code k f)
  function_fits k f h =
      both_fit (words_code 0 f.words) _ (words_fit 0 f.words) (both_fit (creates_code (reducers.Own 0) 0 f.reducers) _ (creates_fit (reducers.Own 0) 0 f.reducers)
      (both_fit (all_code k f.body) _ (all_fit f.body k h) (tt, (tt, (tt, tt)))))

  pub loop_fits : (k : ℕ) (l : Loop) → IsTrue (row_is_named p b l.body) → ArraysFit (loop_code k l)
  loop_fits k l h = (tt, (tt, both_fit (all_code k l.body) _ (all_fit l.body k h) (tt, (tt, (tt, (tt, (tt, (tt, (tt, (tt, (tt, (tt, tt))))))))))))
