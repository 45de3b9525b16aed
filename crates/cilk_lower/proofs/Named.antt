-- In a well-named program, each function is given the arguments that it takes.
use Rattle.std.proofs.Common.{◌≡◌, inl, inr, ℕ, zero, suc, ◌+◌, ◌<◌, ◌≤◌, ℤ, Bool, true, false, not, ◌&&◌, IsTrue, List, [], ◌∷◌, ◌++◌, length, Some, refl, sym, ap, ◌∙◌, subst, arith}
use Rattle.std.specs.Prelude.{slice_get, unwrap_or, nat_lt, nat_eq}
use Rattle.std.proofs.lemmas.Bool.{ltb-true, ltb-false, eqb-true}
use Rattle.cilk_monoid.specs.declared.kind.MonoidKind.{MonoidKind}
use Rattle.cilk_monoid.specs.Kinds.{same_kind}
use Rattle.cilk_program.specs.declared.program.Body.{Body}
use Rattle.cilk_program.specs.declared.program.Body.TheVariants as bodies
use Rattle.cilk_program.specs.declared.program.Function as declared_functions
use Rattle.cilk_program.specs.declared.program.Loop as declared_loops
use Rattle.cilk_program.specs.declared.program.GlobalReducer.{GlobalReducer}
use Rattle.cilk_program.specs.declared.syntax.Reducer.{Reducer}
use Rattle.cilk_program.specs.Programs.{function, loop, source_of}
use Rattle.cilk_program.specs.Syntax.{Invoke, Declaration, Zero, Opening, Invoking, Statement, Empty, Block, Declare, Assign, Change, Step, Invokes, Sync, If, IfElse, For, ParallelFor, Print, Update, Set, Return, Statements, Nothing, Then, Function, Loop, Source, function_at, idle, main_of}
use Rattle.cilk_program.specs.WellNamed.{at_most, have_kinds, expression_is_named, all_are_named, option_is_named, reducers_are_there, result_is_there, stands_in, main_is_plain, invoke_is_named, declaration_is_named, declarations_are_named, statement_is_named, row_is_named, function_is_named, loop_is_named, functions_are_named, loops_are_named, is_well_named}
use Rattle.cilk_lower.specs.declared.code.Site.{Site}
use Rattle.cilk_lower.specs.Bodies.{FunctionFits, LoopFits, EachFits}
use Rattle.cilk_lower.specs.Code.{SiteFits, SitesFit, site, declaration_sites, declarations_sites, stmt_sites, all_sites}
use Rattle.cilk_lower.proofs.Arrays.{function_fits, loop_fits}
use Rattle.cilk_lower.proofs.Standing.{get_map, long_map}
use Rattle.cilk_lower.proofs.Places.{get_split, get_more}

first : (a b : Bool) → IsTrue (a && b) → IsTrue a
first true b h = refl
first false b h = h

second : (a b : Bool) → IsTrue (a && b) → IsTrue b
second true b h = h
second false b h = cc

pub none_fit : SitesFit []
none_fit number s e = cc

pub one_fits : (s : Site) → SiteFits s → SitesFit (s ∷ [])
one_fits s fits zero t e = let same : s ≡ t = cc in subst SiteFits same fits
one_fits s fits (suc n) t e = cc

pub both_fit : (a b : List Site) → SitesFit a → SitesFit b → SitesFit (a ++ b)
both_fit a b ha hb number s e = elim (get_split a b number s e) [ inl h ↦ ha number s h | inr h ↦ hb h.0 s h.2 ]

pub front_fits : (a b : List Site) → SitesFit (a ++ b) → SitesFit a
front_fits a b h number s e = h number s (get_more a b number s e)

get_behind : {A : Type 0} (a b : List A) (n : ℕ) (x : A) → slice_get b n ≡ Some x → slice_get (a ++ b) (length a + n) ≡ Some x
get_behind [] b n x e = let same : 0 + n ≡ n = omega arith in ap (λ k. slice_get b k) same ∙ e
get_behind (y ∷ a) b n x e = let same : length (y ∷ a) + n ≡ suc (length a + n) = omega arith in ap (λ k. slice_get (y ∷ (a ++ b)) k) same ∙ get_behind a b n x e

pub back_fits : (a b : List Site) → SitesFit (a ++ b) → SitesFit b
back_fits a b h number s e = h (length a + number) s (get_behind a b number s e)

same_length : (rs : List Reducer) (ks : List MonoidKind) → IsTrue (have_kinds rs ks) → length rs ≡ length ks
same_length [] [] h = refl
same_length [] (k ∷ ks) h = cc
same_length (r ∷ rs) [] h = cc
same_length (r ∷ rs) (k ∷ ks) h = omega (arith, same_length rs ks (second (same_kind r.kind k) _ h))

-- the parameters of a function, anywhere in the list
takes_few : (p : Source) (n : ℕ) (fs : List Function) → IsTrue (functions_are_named p n fs) → (k : ℕ) (f : Function) → slice_get fs k ≡ Some f → (m : ℕ) × IsTrue (function_is_named p m f)
takes_few p n [] h k f e = cc
takes_few p n (g ∷ fs) h zero f e = let same : g ≡ f = cc in (n, subst (λ f. IsTrue (function_is_named p n f)) same (first (function_is_named p n g) _ h))
takes_few p n (g ∷ fs) h (suc k) f e = takes_few p (suc n) fs (second (function_is_named p n g) _ h) k f e

not_false : (b : Bool) → not b ≡ true → b ≡ false
not_false true h = cc
not_false false h = refl

few : (n k : ℕ) → IsTrue (at_most n k) → n ≤ k
few n k h = ltb-false k n (not_false (nat_lt k n) h)

get_there : {A : Type 0} (xs : List A) (k : ℕ) → k < length xs → (x : A) × (slice_get xs k ≡ Some x)
get_there [] k low = absurd (omega arith)
get_there (x ∷ xs) zero low = (x, refl)
get_there (x ∷ xs) (suc k) low = get_there xs k (omega arith)

-- a loop, anywhere in the list
loop_named : (p : Source) (n : ℕ) (ls : List Loop) → IsTrue (loops_are_named p n ls) → (k : ℕ) (l : Loop) → slice_get ls k ≡ Some l → (m : ℕ) × IsTrue (loop_is_named p m l)
loop_named p n [] h k l e = cc
loop_named p n (m ∷ ls) h zero l e = let same : m ≡ l = cc in (n, subst (λ l. IsTrue (loop_is_named p n l)) same (first (loop_is_named p n m) _ h))
loop_named p n (m ∷ ls) h (suc k) l e = loop_named p (suc n) ls (second (loop_is_named p n m) _ h) k l e

function_body : (p : Source) (n : ℕ) (f : Function) → IsTrue (function_is_named p n f) → IsTrue (row_is_named p (bodies.Function n) f.body)
function_body p n f h =
    let limits = ((at_most f.words f.cells && at_most f.cells 256) && at_most (f.words + length f.given) 16) && at_most (length f.reducers) 64 in
    second limits (row_is_named p (bodies.Function n) f.body) h

loop_body : (p : Source) (n : ℕ) (l : Loop) → IsTrue (loop_is_named p n l) → IsTrue (row_is_named p (bodies.Loop n) l.body)
loop_body p n l h =
    let limits = (nat_lt 0 l.cells && at_most l.cells 256) && stands_in p n l.within in
    second limits (row_is_named p (bodies.Loop n) l.body) h

module _ (p : Source) (named : IsTrue (functions_are_named p 0 p.functions)) where
  invoke_fits : (b : Body) (i : Invoke) → IsTrue (invoke_is_named p b i) → SiteFits (site i)
  invoke_fits b i h =
      let here = nat_lt i.function (length p.functions) in
      let f = function_at p i.function in
      let words = nat_eq (length i.arguments) f.words in
      let kinds = have_kinds i.reducers f.given in
      let values = all_are_named p b i.arguments in
      let places = reducers_are_there p b i.reducers in
      let h5 = first ((((here && words) && kinds) && values) && places) (result_is_there p b i.result) h in
      let h4 = first (((here && words) && kinds) && values) places h5 in
      let h3 = first ((here && words) && kinds) values h4 in
      let h2 = first (here && words) kinds h3 in
      let low = ltb-true i.function (length p.functions) (first here words h2) in
      let g = get_there p.functions i.function low in
      let at : f ≡ g.0 = ap (λ o. unwrap_or o idle) g.1 in
      let k = takes_few p 0 p.functions named i.function g.0 g.1 in
      let takes : (let f = g.0 in f.words + length f.given ≤ 16) = function_takes k.0 g.0 k.1 in
      let limit : f.words + length f.given ≤ 16 = subst (λ (f : Function). f.words + length f.given ≤ 16) (sym at) takes in
      let count = eqb-true (length i.arguments) f.words (second here words h2) in
      let same = same_length i.reducers f.given (second (here && words) kinds h3) in
      record { words = omega arith; reducers = omega arith }
    where
      function_takes : (n : ℕ) (f : Function) → IsTrue (function_is_named p n f) → f.words + length f.given ≤ 16
      function_takes n f h =
          let words = at_most f.words f.cells in
          let cells = at_most f.cells 256 in
          let takes = at_most (f.words + length f.given) 16 in
          let own = at_most (length f.reducers) 64 in
          let body = row_is_named p (bodies.Function n) f.body in
          few (f.words + length f.given) 16 (second (words && cells) takes (first ((words && cells) && takes) own (first (((words && cells) && takes) && own) body h)))

  declaration_fits : (b : Body) (d : Declaration) → IsTrue (declaration_is_named p b d) → SitesFit (declaration_sites d)
  declaration_fits b (Zero n) h = none_fit
  declaration_fits b (Opening n e) h = none_fit
  declaration_fits b (Invoking i) h = one_fits (site i) (invoke_fits b i h)

  declarations_fit : (b : Body) (ds : List Declaration) → IsTrue (declarations_are_named p b ds) → SitesFit (declarations_sites ds)
  declarations_fit b [] h = none_fit
  declarations_fit b (d ∷ ds) h =
      let one = declaration_is_named p b d in
      let rest = declarations_are_named p b ds in
      both_fit (declaration_sites d) (declarations_sites ds) (declaration_fits b d (first one rest h)) (declarations_fit b ds (second one rest h))

  mutual
    statement_fits : (b : Body) (s : Statement) → IsTrue (statement_is_named p b s) → SitesFit (stmt_sites s)
    statement_fits b Empty h = none_fit
    statement_fits b (Block row) h = row_fits b row h
    statement_fits b (Declare ds) h = declarations_fit b ds h
    statement_fits b (Assign t e) h = none_fit
    statement_fits b (Change t op e) h = none_fit
    statement_fits b (Step t n) h = none_fit
    statement_fits b (Invokes i) h = one_fits (site i) (invoke_fits b i h)
    statement_fits b Sync h = none_fit
    statement_fits b (If e s) h = statement_fits b s (second (expression_is_named p b e) (statement_is_named p b s) h)
    statement_fits b (IfElse e s t) h =
        let test = expression_is_named p b e in
        let one = statement_is_named p b s in
        let other = statement_is_named p b t in
        both_fit (stmt_sites s) (stmt_sites t) (statement_fits b s (second test one (first (test && one) other h))) (statement_fits b t (second (test && one) other h))
    statement_fits b (For row test step s) h =
        let begins = row_is_named p b row in
        let tests = option_is_named p b test in
        let steps = row_is_named p b step in
        let body = statement_is_named p b s in
        let h3 = first ((begins && tests) && steps) body h in
        both_fit (all_sites row) (stmt_sites s ++ all_sites step) (row_fits b row (first begins tests (first (begins && tests) steps h3)))
        (both_fit (stmt_sites s) (all_sites step) (statement_fits b s (second ((begins && tests) && steps) body h)) (row_fits b step (second (begins && tests) steps h3)))
    statement_fits b (ParallelFor e f n) h = none_fit
    statement_fits b (Print e) h = none_fit
    statement_fits b (Update r e) h = none_fit
    statement_fits b (Set r e) h = none_fit
    statement_fits b (Return e) h = none_fit

    row_fits : (b : Body) (row : Statements) → IsTrue (row_is_named p b row) → SitesFit (all_sites row)
    row_fits b Nothing h = none_fit
    row_fits b (Then s row) h =
        let one = statement_is_named p b s in
        let rest = row_is_named p b row in
        both_fit (stmt_sites s) (all_sites row) (statement_fits b s (first one rest h)) (row_fits b row (second one rest h))

  function_sites_fit : (n : ℕ) (f : Function) → IsTrue (function_is_named p n f) → SitesFit (all_sites f.body)
  function_sites_fit n f h = row_fits (bodies.Function n) f.body (function_body p n f h)

  function_creates_few : (n : ℕ) (f : Function) → IsTrue (function_is_named p n f) → length f.reducers ≤ 64
  function_creates_few n f h =
      let limits = (at_most f.words f.cells && at_most f.cells 256) && at_most (f.words + length f.given) 16 in
      let own = at_most (length f.reducers) 64 in
      few (length f.reducers) 64 (second limits own (first (limits && own) (row_is_named p (bodies.Function n) f.body) h))

  loop_sites_fit : (n : ℕ) (l : Loop) → IsTrue (loop_is_named p n l) → SitesFit (all_sites l.body)
  loop_sites_fit n l h = row_fits (bodies.Loop n) l.body (loop_body p n l h)

-- consequences for the parts of a program
pub record Fitting (globals : List ℤ) (reducers : List GlobalReducer) (fs : List declared_functions.Function) (ls : List declared_loops.Loop) (main : ℕ) : Type 0 where
  pub few_reducers : length reducers ≤ 64
  pub main_here : main < length fs
  pub main_plain : (f : declared_functions.Function) → slice_get fs main ≡ Some f → (let f = function f in f.words ≡ 0)
  pub functions : EachFits FunctionFits fs
  pub loops : EachFits LoopFits ls

pub named_fits : (globals : List ℤ) (reducers : List GlobalReducer) (fs : List declared_functions.Function) (ls : List declared_loops.Loop) (main : ℕ) → IsTrue (is_well_named (source_of globals reducers fs ls main)) → Fitting globals reducers fs ls main
named_fits globals reducers fs ls main h =
    let p = source_of globals reducers fs ls main in
    let cells = at_most (length globals) 1000000 in
    let few_here = at_most (length p.reducers) 64 in
    let here = nat_lt main (length p.functions) in
    let plain = main_is_plain (main_of p) in
    let all = functions_are_named p 0 p.functions in
    let loops = loops_are_named p 0 p.loops in
    let h5 = first ((((cells && few_here) && here) && plain) && all) loops h in
    let h4 = first (((cells && few_here) && here) && plain) all h5 in
    let h3 = first ((cells && few_here) && here) plain h4 in
    let named = second (((cells && few_here) && here) && plain) all h5 in
    let h2 = first (cells && few_here) here h3 in
    let less = few (length p.reducers) 64 (second cells few_here h2) in
    let few_cells = few (length globals) 1000000 (first cells few_here h2) in
    let low = ltb-true main (length p.functions) (second (cells && few_here) here h3) in
    let takes_none = second ((cells && few_here) && here) plain h4 in
    record {
      few_reducers = omega (arith, less, long_map (λ (r : GlobalReducer). r.kind) reducers);
      main_here = omega (arith, low, long_map function fs);
      main_plain = λ f e.
          let at : main_of p ≡ function f = ap (λ o. unwrap_or o idle) (get_map function fs main f e) in
          let g = main_of p in
          let none = eqb-true g.words 0 (first (nat_eq g.words 0) (nat_eq (length g.given) 0) takes_none) in
          subst (λ (f : Function). f.words ≡ 0) at none;
      functions = λ k f e.
          let g = takes_few p 0 p.functions named k (function f) (get_map function fs k f e) in
          record {
            sites = function_sites_fit p named g.0 (function f) g.1;
            arrays = λ count. function_fits p (bodies.Function g.0) few_cells count (function f) (function_body p g.0 (function f) g.1);
            reducers = function_creates_few p named g.0 (function f) g.1;
          };
      loops = λ k l e.
          let g = loop_named p 0 p.loops (second ((((cells && few_here) && here) && plain) && all) loops h) k (loop l) (get_map loop ls k l e) in
          record {
            sites = loop_sites_fit p named g.0 (loop l) g.1;
            arrays = λ count. loop_fits p (bodies.Loop g.0) few_cells count (loop l) (loop_body p g.0 (loop l) g.1);
          };
    }
