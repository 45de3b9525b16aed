-- The names in a resolved body refer to things that exist.
use Rattle.std.proofs.Common.{◌≡◌, ℕ, zero, suc, ◌+◌, ◌-◌, ◌<◌, ◌≤◌, nat_lt, Bool, true, false, ◌&&◌, not, IsTrue, List, [], ◌∷◌, ◌++◌, length, drop, slice_get, Option, Some, None, unwrap_or, refl, sym, ap, ◌∙◌, subst, append_assoc, length-append, add-one, arith}
use Rattle.std.proofs.lemmas.Bool.{ltb-true, lt-ltb, le-ltb, eq-eqb, and_from}
use Rattle.cilk_monoid.specs.declared.kind.MonoidKind.{MonoidKind}
use Rattle.cilk_syntax.specs.declared.tree.Name.{Name}
use Rattle.cilk_syntax.specs.declared.tree.Reducer as parsed
use Rattle.cilk_syntax.specs.Trees as trees
use Rattle.cilk_program.specs.declared.program.Body.{Body}
use Rattle.cilk_program.specs.declared.program.Body.TheVariants as bodies
use Rattle.cilk_program.specs.declared.syntax.Place.TheVariants as places
use Rattle.cilk_program.specs.Syntax.{Declaration, Statement, Declare, Invokes, If, For, Print, Update, Set, Return, Statements, Nothing, Then, Loop, Source, idle_loop, loop_at}
use Rattle.cilk_program.specs.WellNamed.{Level, loop_level, levels, levels_of, at_most, has_cell, is_kind, has_own, same_body, place_is_there, reducer_is_there, expression_is_named, option_is_named, declaration_is_named, declarations_are_named, loop_is_there, statement_is_named, row_is_named, stands_in, loop_is_named, loops_are_named}
use Rattle.cilk_names.specs.declared.limits.TheConstants.{MAX_CELLS}
use Rattle.cilk_names.specs.declared.table.Meaning.TheVariants as meanings
use Rattle.cilk_names.specs.declared.table.Home.TheVariants as homes
use Rattle.cilk_names.specs.Names.{Names, monoid_at, kind_or_sum}
use Rattle.cilk_names.specs.Contexts.{Context, inside, behind_scope, ahead, with_variable, with_reducer, behind_locals, behind_beginning, in_loop, in_body, behind, behind_row}
use Rattle.cilk_names.specs.Faults.{again_faults}
use Rattle.cilk_names.specs.Misnamings.{limit_faults, declared_faults, expression_faults, initializer_faults, local_faults, locals_faults, beginning_faults, head_faults, statement_faults, row_faults, own_faults}
use Rattle.cilk_names.specs.Resolution.{ResolvesInitializer, ResolvesLocals, ResolvesBeginning, ResolvesStatement, ResolvesRow}
use Rattle.cilk_names.proofs.Behinds.{Keeps, same, keeps, keeps_variable}
use Rattle.cilk_names.proofs.Rights.{both_nil, for_right}
use Rattle.cilk_names.proofs.Grows.{Grows, counted_more, limit_right, grows_variable, grows_locals, grows_beginning, grows_inside, grows, grows_row}
use Rattle.cilk_monoid.proofs.SameKinds.{kind_itself}
use Rattle.cilk_names.proofs.Fits.{NamesFit, SignaturesFit, names_declare, names_opened, names_deeper, variable_there, reducer_there, expression_named, optional_named, assignment_named, step_named, call_named}

-- lists in parts
pub get_drop : {A : Type 0} (xs ys : List A) (n : ℕ) (x : A) → drop n xs ≡ x ∷ ys → (slice_get xs n ≡ Some x) × (n < length xs) × (drop (n + 1) xs ≡ ys)
get_drop xs ys n x h = let r = get_next xs ys n x h in (r.0, r.1, rw add-one r.2)
  where
    get_next : {A : Type 0} (xs ys : List A) (n : ℕ) (x : A) → drop n xs ≡ x ∷ ys → (slice_get xs n ≡ Some x) × (n < length xs) × (drop (suc n) xs ≡ ys)
    get_next [] ys zero x h = absurd cc
    get_next [] ys (suc n) x h = absurd cc
    get_next (a ∷ xs) ys zero x h = let e : a ≡ x = cc in let f : xs ≡ ys = cc in (ap Some e, omega arith, f)
    get_next (a ∷ xs) ys (suc n) x h = let r = get_next xs ys n x h in (r.0, let lt = r.1 in omega arith, r.2)

pub drop_more : {A : Type 0} (xs ys zs : List A) (n : ℕ) → drop n xs ≡ ys ++ zs → drop (n + length ys) xs ≡ zs
drop_more xs [] zs n h = let e : n + 0 ≡ n = omega arith in ap (λ k. drop k xs) e ∙ h
drop_more xs (y ∷ ys) zs n h =
    let r = get_drop xs (ys ++ zs) n y h in
    let e : n + suc (length ys) ≡ n + 1 + length ys = omega arith in
    ap (λ k. drop k xs) e ∙ drop_more xs ys zs (n + 1) r.2

pub get_last : {A : Type 0} (xs ys : List A) (x : A) → slice_get (xs ++ x ∷ ys) (length xs) ≡ Some x
get_last [] ys x = refl
get_last (a ∷ xs) ys x = get_last xs ys x

pub at_most_from : (n k : ℕ) → n ≤ k → at_most n k ≡ true
at_most_from n k h = ap not (le-ltb k n h)

-- the body that a loop is in
abbrev loop_or : Option Loop → Body
loop_or o = let l = unwrap_or o idle_loop in l.within

body_itself : (b : Body) → same_body b b ≡ true
body_itself (bodies.Function n) = eq-eqb n n refl
body_itself (bodies.Loop n) = eq-eqb n n refl

module _ (p : Source) where
  stands_later : (n m : ℕ) (b : Body) → n ≤ m → IsTrue (stands_in p n b) → IsTrue (stands_in p m b)
  stands_later n m (bodies.Function k) le h = h
  stands_later n m (bodies.Loop k) le h = let lt = ltb-true k n h in lt-ltb k m (omega arith)

  pub loops_named_append : (n : ℕ) (xs ys : List Loop) → IsTrue (loops_are_named p n xs) → IsTrue (loops_are_named p (n + length xs) ys) → IsTrue (loops_are_named p n (xs ++ ys))
  loops_named_append n [] ys h k = let e : n + 0 ≡ n = omega arith in subst (λ i. IsTrue (loops_are_named p i ys)) e k
  loops_named_append n (x ∷ xs) ys h k =
      let r = and_two (loop_is_named p n x) (loops_are_named p (suc n) xs) h in
      let e : n + suc (length xs) ≡ suc n + length xs = omega arith in
      and_from (loop_is_named p n x) (loops_are_named p (suc n) (xs ++ ys)) r.0 (loops_named_append (suc n) xs ys r.1 (subst (λ i. IsTrue (loops_are_named p i ys)) e k))
    where
      and_two : (a b : Bool) → (a && b) ≡ true → (a ≡ true) × (b ≡ true)
      and_two true b h = (refl, h)
      and_two false b h = absurd cc

-- a body of the function with this level
module _ (p : Source) (bottom : Level) where
  -- a place of a body with these levels, its own first
  pub record Stands (c : Context) (ls : List Level) (top : Level) : Type 0 where
    pub names : NamesFit p ls c.names
    pub signatures : SignaturesFit p c.names.signatures
    pub rank : ℕ
    pub levels_are : (k : ℕ) → rank ≤ k → levels k p c.frame.body ≡ ls
    pub low : rank ≤ suc c.loops
    pub body : IsTrue (stands_in p c.loops c.frame.body)
    pub first : slice_get ls 0 ≡ Some top
    pub last : slice_get ls c.names.level ≡ Some bottom

  -- the program has at least the cells, reducers and loops so far
  pub record Ends (d : Context) (top : Level) : Type 0 where
    pub cells : d.frame.cells ≤ top.cells
    pub rest : List MonoidKind
    pub own : bottom.own ≡ d.own ++ rest
    pub loops : d.loops ≤ length p.loops

  pub ends_before : (c d : Context) (top : Level) → Grows c d → Ends d top → Ends c top
  ends_before c d top g e = record {
    cells = let x = g.cells in let y = e.cells in omega arith;
    rest = g.more ++ e.rest;
    own = e.own ∙ ap (λ xs. xs ++ e.rest) g.own ∙ append_assoc c.own g.more e.rest;
    loops = let x = g.loops in let y = e.loops in omega arith;
  }

  stands_behind : (c d : Context) (ls : List Level) (top : Level) → Stands c ls top → Grows c d → Keeps c.names d.names → NamesFit p ls d.names → Stands d ls top
  stands_behind c d ls top h g k n = record {
    names = n;
    signatures = subst (λ s. SignaturesFit p s) (sym k.signatures) h.signatures;
    rank = h.rank;
    levels_are = λ i le. ap (λ b. levels i p b) g.body ∙ h.levels_are i le;
    low = let x = g.loops in let y = h.low in omega arith;
    body = subst (λ b. IsTrue (stands_in p d.loops b)) (sym g.body) (stands_later p c.loops d.loops c.frame.body g.loops h.body);
    first = h.first;
    last = ap (slice_get ls) k.level ∙ h.last;
  }

  stands_inside : (c : Context) (ls : List Level) (top : Level) → Stands c ls top → Stands (inside c) ls top
  stands_inside c ls top h = record { names = names_opened p ls c.names h.names; signatures = h.signatures; rank = h.rank; levels_are = h.levels_are; low = h.low; body = h.body; first = h.first; last = h.last }

  stands_ahead : (c : Context) (s : trees.Statement) (ls : List Level) (top : Level) → Stands c ls top → Stands (ahead c s) ls top
  stands_ahead c s ls top h = record { names = h.names; signatures = h.signatures; rank = h.rank; levels_are = h.levels_are; low = h.low; body = h.body; first = h.first; last = h.last }

  -- its levels are the program's
  same_levels : (c : Context) (ls : List Level) (top : Level) → Stands c ls top → c.loops ≤ length p.loops → levels_of p c.frame.body ≡ ls
  same_levels c ls top h le = h.levels_are (suc (length p.loops)) (let x = h.low in omega arith)

  -- a variable that is declared
  variable_stands : (c : Context) (x : Name) (ls : List Level) (top : Level) → Stands c ls top → declared_faults c x ≡ [] → Ends (with_variable c x) top
      → Stands (with_variable c x) ls top × IsTrue (place_is_there p c.frame.body (places.Local 0 c.frame.cells))
  variable_stands c x ls top h f e =
      let d = with_variable c x in
      let lt : c.frame.cells < 256 = limit_right MAX_CELLS c.frame.cells x (both_nil (again_faults c.names x) (limit_faults MAX_CELLS c.frame.cells x) f).1 in
      let more : d.frame.cells ≡ c.frame.cells + 1 = counted_more MAX_CELLS c.frame.cells lt in
      let room : c.frame.cells < top.cells = let y = e.cells in omega arith in
      let cell : has_cell (slice_get ls 0) c.frame.cells ≡ true = ap (λ o. has_cell o c.frame.cells) h.first ∙ lt-ltb c.frame.cells top.cells room in
      let none : 0 ≡ c.names.level - c.names.level = omega arith in
      let there : has_cell (slice_get ls (c.names.level - c.names.level)) c.frame.cells ≡ true = ap (λ i. has_cell (slice_get ls i) c.frame.cells) (sym none) ∙ cell in (
        stands_behind c d ls top h (grows_variable c x) (keeps_variable c x)
            (names_declare p ls c.names x (meanings.Local c.names.level c.frame.cells) h.names (omega arith, there)),
        ap (λ l. has_cell (slice_get l 0) c.frame.cells) (same_levels c ls top h (let y = e.loops in omega arith)) ∙ cell,
      )

  initializer_named : (c : Context) (ls : List Level) (top : Level) (n : ℕ) (i : trees.LocalInitializer) (d : Declaration) → Stands c ls top → c.loops ≤ length p.loops
      → IsTrue (place_is_there p c.frame.body (places.Local 0 n)) → ResolvesInitializer c.names n i d → IsTrue (declaration_is_named p c.frame.body d)
  initializer_named c ls top n trees.Absent d h le cell is = subst (λ x. IsTrue (declaration_is_named p c.frame.body x)) (sym is) cell
  initializer_named c ls top n (trees.LocalInitializer.Value e) d h le cell (e', k, is) =
      subst (λ x. IsTrue (declaration_is_named p c.frame.body x)) (sym is)
      (and_from (place_is_there p c.frame.body (places.Local 0 n)) (expression_is_named p c.frame.body e') cell
      (expression_named p c.frame.body ls c.names (same_levels c ls top h le) h.signatures h.names e e' k))
  initializer_named c ls top n (trees.LocalInitializer.Invoke how a) d h le cell (i, k, is) =
      subst (λ x. IsTrue (declaration_is_named p c.frame.body x)) (sym is)
      (call_named p c.frame.body ls c.names (same_levels c ls top h le) h.signatures h.names how a (Some (places.Local 0 n)) i cell k)

  locals_named : (c : Context) (vs : List trees.Local) (ds : List Declaration) (ls : List Level) (top : Level) → Stands c ls top → locals_faults c vs ≡ [] → ResolvesLocals c vs ds → Ends (behind_locals c vs) top
      → IsTrue (declarations_are_named p c.frame.body ds) × Stands (behind_locals c vs) ls top
  locals_named c [] ds ls top h f is e = (subst (λ x. IsTrue (declarations_are_named p c.frame.body x)) (sym is) refl, h)
  locals_named c (v ∷ vs) ds ls top h f (d, ds', k, m, is) e =
      let c' = with_variable c v.name in
      let q = both_nil (local_faults c v) (locals_faults c' vs) f in
      let r = both_nil (declared_faults c v.name) (initializer_faults c'.names v.initializer) q.0 in
      let e' : Ends c' top = ends_before c' (behind_locals c' vs) top (grows_locals c' vs) e in
      let s = variable_stands c v.name ls top h r.0 e' in
      let t = locals_named c' vs ds' ls top s.0 q.1 m e in (
        subst (λ x. IsTrue (declarations_are_named p c.frame.body x)) (sym is)
            (and_from (declaration_is_named p c.frame.body d) (declarations_are_named p c.frame.body ds') (initializer_named c' ls top c.frame.cells v.initializer d s.0 e'.loops s.1 k) t.0),
        t.1,
      )

  beginning_named : (c : Context) (b : Option trees.Beginning) (r : Statements) (ls : List Level) (top : Level) → Stands c ls top → beginning_faults c b ≡ [] → ResolvesBeginning c b r → Ends (behind_beginning c b) top
      → IsTrue (row_is_named p c.frame.body r) × Stands (behind_beginning c b) ls top
  beginning_named c None r ls top h f is e = (subst (λ x. IsTrue (row_is_named p c.frame.body x)) (sym is) refl, h)
  beginning_named c (Some (trees.Declares x i)) r ls top h f (i', k, is) e =
      let c' = with_variable c x in
      let q = both_nil (declared_faults c x) (expression_faults c'.names i) f in
      let s = variable_stands c x ls top h q.0 e in
      let P = place_is_there p c.frame.body (places.Local 0 c.frame.cells) in
      let E = expression_is_named p c.frame.body i' in
      let one : IsTrue (P && E) = and_from P E s.1 (expression_named p c.frame.body ls c'.names (same_levels c' ls top s.0 e.loops) h.signatures s.0.names i i' k) in
      (subst (λ y. IsTrue (row_is_named p c.frame.body y)) (sym is) (and_from (P && E && true) true (and_from (P && E) true one refl) refl), s.0)
  beginning_named c (Some (trees.Assigns a)) r ls top h f (s, k, is) e = (
    subst (λ x. IsTrue (row_is_named p c.frame.body x)) (sym is)
        (and_from (statement_is_named p c.frame.body s) true (assignment_named p c.frame.body ls c.names (same_levels c ls top h e.loops) h.signatures h.names a s k) refl),
    h,
  )

  -- a reducer that a function declares
  reducer_stands : (c : Context) (r : parsed.Reducer) (ls : List Level) (top : Level) → Stands c ls top → own_faults c r ≡ [] → Ends (with_reducer c r) top → Stands (with_reducer c r) ls top
  reducer_stands c r ls top h f e =
      let kind = kind_or_sum (monoid_at c.names r) in
      let own : bottom.own ≡ c.own ++ (kind ∷ e.rest) = e.own ∙ append_assoc c.own (kind ∷ []) e.rest in
      let at : slice_get bottom.own (length c.own) ≡ Some kind = ap (λ xs. slice_get xs (length c.own)) own ∙ get_last c.own e.rest kind in
      let there : has_own (slice_get ls c.names.level) (length c.own) kind ≡ true = ap (λ o. has_own o (length c.own) kind) h.last ∙ ap (λ o. is_kind o kind) at ∙ kind_itself kind in
      stands_behind c (with_reducer c r) ls top h (grows c (trees.Statement.Reducer r) f) (keeps c (trees.Statement.Reducer r))
      (names_declare p ls c.names r.name (meanings.Reducer (homes.Own (length c.own)) (monoid_at c.names r)) h.names there)

  -- after a statement
  stands_on : (c : Context) (s : trees.Statement) (r : Statement) (made : List Loop) (ls : List Level) (top : Level) → Stands c ls top → statement_faults c s ≡ [] → ResolvesStatement c s r made → Ends (behind c s) top
      → Stands (behind c s) ls top
  stands_on c (trees.Declare vs) r made ls top h f (ds, k, is, none) e = (locals_named c vs ds ls top h f k e).1
  stands_on c (trees.Statement.Reducer x) r made ls top h f k e = reducer_stands c x ls top h f e
  stands_on c trees.Empty r made ls top h f k e = h
  stands_on c (trees.Block row) r made ls top h f k e = stands_behind c (behind c (trees.Block row)) ls top h (grows c (trees.Block row) f) (same c.names) h.names
  stands_on c (trees.Assign a) r made ls top h f k e = h
  stands_on c (trees.Statement.Invoke how a) r made ls top h f k e = h
  stands_on c (trees.AssignCall x how a) r made ls top h f k e = h
  stands_on c trees.Sync r made ls top h f k e = h
  stands_on c (trees.If t s) r made ls top h f k e = stands_behind c (behind c (trees.If t s)) ls top h (grows c (trees.If t s) f) (same c.names) h.names
  stands_on c (trees.IfElse t s other) r made ls top h f k e = stands_behind c (behind c (trees.IfElse t s other)) ls top h (grows c (trees.IfElse t s other) f) (same c.names) h.names
  stands_on c (trees.While t s) r made ls top h f k e = stands_behind c (behind c (trees.While t s)) ls top h (grows c (trees.While t s) f) (same c.names) h.names
  stands_on c (trees.For b t a s) r made ls top h f k e = stands_behind c (behind c (trees.For b t a s)) ls top h (grows c (trees.For b t a s) f) (same c.names) h.names
  stands_on c (trees.ParallelFor b s) r made ls top h f k e = stands_behind c (behind c (trees.ParallelFor b s)) ls top h (grows c (trees.ParallelFor b s) f) (same c.names) h.names
  stands_on c (trees.Return place t) r made ls top h f k e = h
  stands_on c (trees.Print t) r made ls top h f k e = h
  stands_on c (trees.Update x t) r made ls top h f k e = h
  stands_on c (trees.Statement.Set x t) r made ls top h f k e = h

  -- a statement, and the loops in it
  pub record Named (c d : Context) (r : Statement) (made : List Loop) : Type 0 where
    pub statement : IsTrue (statement_is_named p c.frame.body r)
    pub loops : IsTrue (loops_are_named p c.loops made)
    pub count : d.loops ≡ c.loops + length made

  pub record RowNamed (c d : Context) (r : Statements) (made : List Loop) : Type 0 where
    pub row : IsTrue (row_is_named p c.frame.body r)
    pub loops : IsTrue (loops_are_named p c.loops made)
    pub count : d.loops ≡ c.loops + length made

  -- no loop is in it
  leaf : (c d : Context) (r r' : Statement) (made : List Loop) → r ≡ r' → made ≡ [] → d.loops ≡ c.loops → IsTrue (statement_is_named p c.frame.body r') → Named c d r made
  leaf c d r r' made is none same h = record {
    statement = subst (λ x. IsTrue (statement_is_named p c.frame.body x)) (sym is) h;
    loops = subst (λ x. IsTrue (loops_are_named p c.loops x)) (sym none) refl;
    count = let e : length made ≡ 0 = ap length none in omega arith;
  }

  -- a statement that contains another
  round : (c d d' : Context) (r r' : Statement) (s : Statement) (made : List Loop) → Named (inside c) d s made → d'.loops ≡ d.loops → r ≡ r' → IsTrue (statement_is_named p c.frame.body r') → Named c d' r made
  round c d d' r r' s made h same is k = record {
    statement = subst (λ x. IsTrue (statement_is_named p c.frame.body x)) (sym is) k;
    loops = h.loops;
    count = same ∙ h.count;
  }

  ends_scope : (c d : Context) (top : Level) → Ends (behind_scope c d) top → Ends d top
  ends_scope c d top e = record { cells = e.cells; rest = e.rest; own = e.own; loops = e.loops }

  beginning_loops : (c : Context) (b : Option trees.Beginning) → (behind_beginning c b).loops ≡ c.loops
  beginning_loops c None = refl
  beginning_loops c (Some (trees.Declares x e)) = refl
  beginning_loops c (Some (trees.Assigns a)) = refl

  locals_loops : (c : Context) (vs : List trees.Local) → (behind_locals c vs).loops ≡ c.loops
  locals_loops c [] = refl
  locals_loops c (v ∷ vs) = locals_loops (with_variable c v.name) vs

  -- before the body of a parallel loop
  loop_stands : (c : Context) (x : Name) (s : trees.Statement) (l : Loop) (ls : List Level) (top : Level) → Stands c ls top
      → slice_get p.loops c.loops ≡ Some l → l.within ≡ c.frame.body → 0 < l.cells
      → Stands (inside (in_body c x)) (loop_level l ∷ ls) (loop_level l)
  loop_stands c x s l ls top h at within room =
      let lv = loop_level l in
      let level = c.names.level + 1 in
      let none : 0 ≡ level - level = omega arith in
      let cell : IsTrue (has_cell (slice_get (lv ∷ ls) (level - level)) 0) = subst (λ i. IsTrue (has_cell (slice_get (lv ∷ ls) i) 0)) none (lt-ltb 0 l.cells room) in
      let deep : Names = record (inside c).names { level = level } in
      let fit : NamesFit p (lv ∷ ls) (in_loop c.names x) = names_declare p (lv ∷ ls) deep x (meanings.Turn level) (names_deeper p lv ls c.names h.names) (omega arith, cell) in
      let is : loop_at p c.loops ≡ l = ap (λ o. unwrap_or o idle_loop) at in
      let levels_next : (k : ℕ) → suc h.rank ≤ k → levels k p (bodies.Loop c.loops) ≡ lv ∷ ls = loop_levels (h.rank) c l ls h.levels_are is within in
      record {
        names = names_opened p (lv ∷ ls) (in_loop c.names x) fit;
        signatures = h.signatures;
        rank = suc h.rank;
        levels_are = levels_next;
        low = let y = h.low in omega arith;
        body = lt-ltb c.loops (c.loops + 1) (omega arith);
        first = refl;
        last = rw add-one h.last;
      }
    where
      loop_levels : (rank : ℕ) (c : Context) (l : Loop) (ls : List Level) → ((k : ℕ) → rank ≤ k → levels k p c.frame.body ≡ ls) → loop_at p c.loops ≡ l → l.within ≡ c.frame.body
          → (k : ℕ) → suc rank ≤ k → levels k p (bodies.Loop c.loops) ≡ loop_level l ∷ ls
      loop_levels rank c l ls f is within zero le = absurd (omega arith)
      loop_levels rank c l ls f is within (suc k) le =
          ap (λ (m : Loop). loop_level m ∷ levels k p m.within) is ∙ ap (λ (b : Body). loop_level l ∷ levels k p b) within ∙ ap (λ xs. loop_level l ∷ xs) (f k (omega arith))

  mutual
    pub statement_named : (c : Context) (s : trees.Statement) (r : Statement) (made rest : List Loop) (ls : List Level) (top : Level)
        → Stands c ls top → statement_faults c s ≡ [] → ResolvesStatement c s r made → Ends (behind c s) top → drop c.loops p.loops ≡ made ++ rest → Named c (behind c s) r made
    statement_named c trees.Empty r made rest ls top h f (is, none) e d = leaf c c r _ made is none refl refl
    statement_named c (trees.Block row) r made rest ls top h f (row', k, is) e d =
        let n = row_named (inside c) row row' made rest ls top (stands_inside c ls top h) f k (ends_scope c (behind_row (inside c) row) top e) d in
        record { statement = subst (λ x. IsTrue (statement_is_named p c.frame.body x)) (sym is) n.row; loops = n.loops; count = n.count }
    statement_named c (trees.Declare vs) r made rest ls top h f (ds, k, is, none) e d = leaf c (behind_locals c vs) r (Declare ds) made is none (locals_loops c vs) (locals_named c vs ds ls top h f k e).0
    statement_named c (trees.Statement.Reducer x) r made rest ls top h f (is, none) e d = leaf c (with_reducer c x) r _ made is none refl refl
    statement_named c (trees.Assign a) r made rest ls top h f (k, none) e d =
        leaf c c r r made refl none refl (assignment_named p c.frame.body ls c.names (same_levels c ls top h e.loops) h.signatures h.names a r k)
    statement_named c (trees.Statement.Invoke how a) r made rest ls top h f (i, k, is, none) e d =
        leaf c c r (Invokes i) made is none refl (call_named p c.frame.body ls c.names (same_levels c ls top h e.loops) h.signatures h.names how a None i refl k)
    statement_named c (trees.AssignCall x how a) r made rest ls top h f (y, i, v, k, is, none) e d =
        let l = same_levels c ls top h e.loops in
        leaf c c r (Invokes i) made is none refl
        (call_named p c.frame.body ls c.names l h.signatures h.names how a (Some y) i (variable_there p c.frame.body ls c.names l h.signatures h.names x y v) k)
    statement_named c trees.Sync r made rest ls top h f (is, none) e d = leaf c c r _ made is none refl refl
    statement_named c (trees.If t s) r made rest ls top h f (t', s', k, l, is) e d =
        let q = both_nil (expression_faults c.names t) (statement_faults (inside c) s) f in
        let before = ends_before c (behind c (trees.If t s)) top (grows c (trees.If t s) f) e in
        let n = statement_named (inside c) s s' made rest ls top (stands_inside c ls top h) q.1 l (ends_scope c (behind (inside c) s) top e) d in
        round c (behind (inside c) s) (behind c (trees.If t s)) r (If t' s') s' made n refl is
        (and_from (expression_is_named p c.frame.body t') (statement_is_named p c.frame.body s')
        (expression_named p c.frame.body ls c.names (same_levels c ls top h before.loops) h.signatures h.names t t' k) n.statement)
    statement_named c (trees.IfElse t s other) r made rest ls top h f (t', s', other', first, second, k, l, m, is, all) e d =
        let mid = behind_scope c (behind (inside c) s) in
        let q = both_nil (expression_faults c.names t ++ statement_faults (inside c) s) (statement_faults (inside mid) other) f in
        let q' = both_nil (expression_faults c.names t) (statement_faults (inside c) s) q.0 in
        let up : Grows c mid = grows_inside c (behind (inside c) s) (grows (inside c) s q'.1) in
        let on : Grows mid (behind_scope mid (behind (inside mid) other)) = grows_inside mid (behind (inside mid) other) (grows (inside mid) other q.1) in
        let e' : Ends (behind_scope mid (behind (inside mid) other)) top = record { cells = e.cells; rest = e.rest; own = e.own; loops = e.loops } in
        let at_mid : Ends mid top = ends_before mid (behind_scope mid (behind (inside mid) other)) top on e' in
        let before : Ends c top = ends_before c mid top up at_mid in
        let split : drop c.loops p.loops ≡ first ++ (second ++ rest) = d ∙ ap (λ xs. xs ++ rest) all ∙ append_assoc first second rest in
        let n = statement_named (inside c) s s' first (second ++ rest) ls top (stands_inside c ls top h) q'.1 l (ends_scope c (behind (inside c) s) top at_mid) split in
        let stood : Stands mid ls top = stands_behind c mid ls top h up (same c.names) h.names in
        let later : drop mid.loops p.loops ≡ second ++ rest = ap (λ i. drop i p.loops) n.count ∙ drop_more p.loops first (second ++ rest) c.loops split in
        let o = statement_named (inside mid) other other' second rest ls top (stands_inside mid ls top stood) q.1 m (ends_scope mid (behind (inside mid) other) top e') later in
        let E = expression_is_named p c.frame.body t' in
        let A = statement_is_named p c.frame.body s' in
        let B = statement_is_named p c.frame.body other' in
        let b_named : IsTrue B = subst (λ b. IsTrue (statement_is_named p b other')) up.body o.statement in
        let second_named : IsTrue (loops_are_named p (c.loops + length first) second) = subst (λ i. IsTrue (loops_are_named p i second)) n.count o.loops in
        record {
          statement = subst (λ x. IsTrue (statement_is_named p c.frame.body x)) (sym is)
              (and_from (E && A) B (and_from E A (expression_named p c.frame.body ls c.names (same_levels c ls top h before.loops) h.signatures h.names t t' k) n.statement) b_named);
          loops = subst (λ xs. IsTrue (loops_are_named p c.loops xs)) (sym all) (loops_named_append p c.loops first second n.loops second_named);
          count =
              let x = o.count in let y = n.count in
              let z : length made ≡ length first + length second = ap length all ∙ length-append first second in
              omega arith;
        }
    statement_named c (trees.While t s) r made rest ls top h f (t', s', k, l, is) e d =
        let q = both_nil (expression_faults c.names t) (statement_faults (inside c) s) f in
        let before = ends_before c (behind c (trees.While t s)) top (grows c (trees.While t s) f) e in
        let n = statement_named (inside c) s s' made rest ls top (stands_inside c ls top h) q.1 l (ends_scope c (behind (inside c) s) top e) d in
        let E = expression_is_named p c.frame.body t' in
        round c (behind (inside c) s) (behind c (trees.While t s)) r (For Nothing (Some t') Nothing s') s' made n refl is
        (and_from (true && E && true) (statement_is_named p c.frame.body s')
        (and_from (true && E) true (and_from true E refl (expression_named p c.frame.body ls c.names (same_levels c ls top h before.loops) h.signatures h.names t t' k)) refl) n.statement)
    statement_named c (trees.For b t a s) r made rest ls top h f (b', t', a', s', k, l, m, o, is) e d =
        let g = behind_beginning (inside c) b in
        let q = for_right c b t a s f in
        let on : Grows g (behind_scope g (behind (inside g) s)) = grows_inside g (behind (inside g) s) (grows (inside g) s q.3) in
        let e' : Ends (behind_scope g (behind (inside g) s)) top = record { cells = e.cells; rest = e.rest; own = e.own; loops = e.loops } in
        let at_g : Ends g top = ends_before g (behind_scope g (behind (inside g) s)) top on e' in
        let w = beginning_named (inside c) b b' ls top (stands_inside c ls top h) q.0 k at_g in
        let same_loops : g.loops ≡ c.loops = beginning_loops (inside c) b in
        let n = statement_named (inside g) s s' made rest ls top (stands_inside g ls top w.1) q.3 o (ends_scope g (behind (inside g) s) top e') (ap (λ i. drop i p.loops) same_loops ∙ d) in
        let body : g.frame.body ≡ c.frame.body = (grows_beginning (inside c) b).body in
        let l_same = same_levels g ls top w.1 at_g.loops in
        let R = row_is_named p c.frame.body b' in
        let O = option_is_named p c.frame.body t' in
        let S = row_is_named p c.frame.body a' in
        let N = statement_is_named p c.frame.body s' in
        let two : IsTrue O = subst (λ x. IsTrue (option_is_named p x t')) body (optional_named p g.frame.body ls g.names l_same w.1.signatures w.1.names t t' l) in
        let three : IsTrue S = subst (λ x. IsTrue (row_is_named p x a')) body (step_named p g.frame.body ls g.names l_same w.1.signatures w.1.names a a' m) in
        let four : IsTrue N = subst (λ x. IsTrue (statement_is_named p x s')) body n.statement in
        record {
          statement = subst (λ x. IsTrue (statement_is_named p c.frame.body x)) (sym is) (and_from (R && O && S) N (and_from (R && O) S (and_from R O w.0 two) three) four);
          loops = subst (λ i. IsTrue (loops_are_named p i made)) same_loops n.loops;
          count = let x = n.count in let y = same_loops in omega arith;
        }
    statement_named c (trees.ParallelFor b s) r made rest ls top h f (low, high, s', inner, k, l, m, is, all) e d =
        let x = b.variable in
        let g = inside (in_body c x) in
        let after = behind g s in
        let q = both_nil (head_faults c.names b) (statement_faults g s) f in
        let up : Grows g after = grows g s q.1 in
        let made_loop : Loop = record { within = c.frame.body; cells = after.frame.cells; body = Then s' Nothing } in
        let split : drop c.loops p.loops ≡ made_loop ∷ (inner ++ rest) = d ∙ ap (λ xs. xs ++ rest) all in
        let at = get_drop p.loops (inner ++ rest) c.loops made_loop split in
        let some_cells : 0 < after.frame.cells = let y = up.cells in omega arith in
        let stood : Stands g (loop_level made_loop ∷ ls) (loop_level made_loop) = loop_stands c x s made_loop ls top h at.0 refl some_cells in
        let e' : Ends after (loop_level made_loop) = record { cells = omega arith; rest = e.rest; own = e.own; loops = e.loops } in
        let n = statement_named g s s' inner rest (loop_level made_loop ∷ ls) (loop_level made_loop) stood q.1 m e' at.2 in
        let before : c.loops ≤ length p.loops = let y = at.1 in omega arith in
        let l_same = same_levels c ls top h before in
        let E = expression_is_named p c.frame.body low in
        let F = expression_is_named p c.frame.body high in
        let there : IsTrue (loop_is_there p c.frame.body c.loops) =
        ap (λ o. nat_lt c.loops (length p.loops) && same_body (loop_or o) c.frame.body) at.0
        ∙ and_from (nat_lt c.loops (length p.loops)) (same_body c.frame.body c.frame.body) (lt-ltb c.loops (length p.loops) at.1) (body_itself c.frame.body) in
        let A = nat_lt 0 after.frame.cells in
        let B = at_most after.frame.cells 256 in
        let C = stands_in p c.loops c.frame.body in
        let N = statement_is_named p (bodies.Loop c.loops) s' in
        let most : after.frame.cells ≤ 256 = up.most (omega arith) in
        let loop_named : IsTrue (loop_is_named p c.loops made_loop) =
        and_from (A && B && C) (N && true) (and_from (A && B) C (and_from A B (lt-ltb 0 after.frame.cells some_cells) (at_most_from after.frame.cells 256 most)) h.body) (and_from N true n.statement refl) in
        let inner_named : IsTrue (loops_are_named p (suc c.loops) inner) = let one : c.loops + 1 ≡ suc c.loops = omega arith in subst (λ i. IsTrue (loops_are_named p i inner)) one n.loops in
        record {
          statement = subst (λ y. IsTrue (statement_is_named p c.frame.body y)) (sym is)
              (and_from (E && F) (loop_is_there p c.frame.body c.loops)
              (and_from E F (expression_named p c.frame.body ls c.names l_same h.signatures h.names b.low low k) (expression_named p c.frame.body ls c.names l_same h.signatures h.names b.high high l)) there);
          loops = subst (λ xs. IsTrue (loops_are_named p c.loops xs)) (sym all) (and_from (loop_is_named p c.loops made_loop) (loops_are_named p (suc c.loops) inner) loop_named inner_named);
          count =
              let y = n.count in
              let z : length made ≡ suc (length inner) = ap length all in
              omega arith;
        }
    statement_named c (trees.Return place t) r made rest ls top h f (t', k, is, none) e d =
        leaf c c r (Return t') made is none refl (optional_named p c.frame.body ls c.names (same_levels c ls top h e.loops) h.signatures h.names t t' k)
    statement_named c (trees.Print t) r made rest ls top h f (t', k, is, none) e d =
        leaf c c r (Print t') made is none refl (expression_named p c.frame.body ls c.names (same_levels c ls top h e.loops) h.signatures h.names t t' k)
    statement_named c (trees.Update x t) r made rest ls top h f (y, t', v, k, is, none) e d =
        let l = same_levels c ls top h e.loops in
        leaf c c r (Update y t') made is none refl
        (and_from (reducer_is_there p c.frame.body y.place y.kind) (expression_is_named p c.frame.body t') (reducer_there p c.frame.body ls c.names l h.signatures h.names x y v)
        (expression_named p c.frame.body ls c.names l h.signatures h.names t t' k))
    statement_named c (trees.Statement.Set x t) r made rest ls top h f (y, t', v, k, is, none) e d =
        let l = same_levels c ls top h e.loops in
        leaf c c r (Set y t') made is none refl
        (and_from (reducer_is_there p c.frame.body y.place y.kind) (expression_is_named p c.frame.body t') (reducer_there p c.frame.body ls c.names l h.signatures h.names x y v)
        (expression_named p c.frame.body ls c.names l h.signatures h.names t t' k))

    pub row_named : (c : Context) (row : trees.Statements) (r : Statements) (made rest : List Loop) (ls : List Level) (top : Level)
        → Stands c ls top → row_faults c row ≡ [] → ResolvesRow c row r made → Ends (behind_row c row) top → drop c.loops p.loops ≡ made ++ rest → RowNamed c (behind_row c row) r made
    row_named c trees.End r made rest ls top h f (is, none) e d = record {
      row = subst (λ x. IsTrue (row_is_named p c.frame.body x)) (sym is) refl;
      loops = subst (λ x. IsTrue (loops_are_named p c.loops x)) (sym none) refl;
      count = let z : length made ≡ 0 = ap length none in omega arith;
    }
    row_named c (trees.Then s row) r made rest ls top h f (s', row', first, second, k, l, is, all) e d =
        let a = ahead c s in
        let g = behind a s in
        let q = both_nil (statement_faults a s) (row_faults g row) f in
        let up : Grows a g = grows a s q.0 in
        let at_g : Ends g top = ends_before g (behind_row g row) top (grows_row g row q.1) e in
        let split : drop c.loops p.loops ≡ first ++ (second ++ rest) = d ∙ ap (λ xs. xs ++ rest) all ∙ append_assoc first second rest in
        let stood : Stands a ls top = stands_ahead c s ls top h in
        let n = statement_named a s s' first (second ++ rest) ls top stood q.0 k at_g split in
        let stood' : Stands g ls top = stands_on a s s' first ls top stood q.0 k at_g in
        let later : drop g.loops p.loops ≡ second ++ rest = ap (λ i. drop i p.loops) n.count ∙ drop_more p.loops first (second ++ rest) c.loops split in
        let o = row_named g row row' second rest ls top stood' q.1 l e later in
        let A = statement_is_named p c.frame.body s' in
        let B = row_is_named p c.frame.body row' in
        let b_named : IsTrue B = subst (λ b. IsTrue (row_is_named p b row')) up.body o.row in
        let second_named : IsTrue (loops_are_named p (c.loops + length first) second) = subst (λ i. IsTrue (loops_are_named p i second)) n.count o.loops in
        record {
          row = subst (λ x. IsTrue (row_is_named p c.frame.body x)) (sym is) (and_from A B n.statement b_named);
          loops = subst (λ xs. IsTrue (loops_are_named p c.loops xs)) (sym all) (loops_named_append p c.loops first second n.loops second_named);
          count =
              let x = o.count in let y = n.count in
              let z : length made ≡ length first + length second = ap length all ∙ length-append first second in
              omega arith;
        }
