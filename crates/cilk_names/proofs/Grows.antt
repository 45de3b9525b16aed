-- Statements only ever add cells, reducers and loops to a context, within their limits if there is
-- no fault.
use Rattle.std.proofs.Common.{◌≡◌, ℕ, ◌+◌, ◌<◌, ◌≤◌, nat_lt, Bool, true, false, if◌then◌else◌, List, [], ◌∷◌, ◌++◌, length, Option, Some, None, refl, sym, ap, ◌∙◌, append_assoc, length-append, arith}
use Rattle.std.proofs.lemmas.List.{append-nil}
use Rattle.std.proofs.lemmas.Bool.{ltb-true, lt-ltb}
use Rattle.cilk_monoid.specs.declared.kind.MonoidKind.{MonoidKind}
use Rattle.cilk_syntax.specs.declared.tree.Name.{Name}
use Rattle.cilk_syntax.specs.declared.tree.Reducer as parsed
use Rattle.cilk_syntax.specs.Trees as trees
use Rattle.cilk_names.specs.declared.limits.TheConstants.{MAX_CELLS, MAX_REDUCERS}
use Rattle.cilk_names.specs.declared.kind.NameErrorKind.TheVariants.{OverLimit, ReducerNotFirst}
use Rattle.cilk_names.specs.Contexts.{Context, inside, behind_scope, ahead, counted, with_variable, with_reducer, behind_locals, behind_beginning, in_body, behind_loop, behind, behind_row}
use Rattle.cilk_names.specs.Faults.{unless, again_faults, monoid_faults}
use Rattle.cilk_names.specs.Misnamings.{limit_faults, own_faults, expression_faults, head_faults, statement_faults, row_faults}
use Rattle.cilk_names.proofs.Rights.{both_nil, unless_right, for_right}

-- one more is counted if there is room
pub counted_more : (limit n : ℕ) → n < limit → counted limit n ≡ n + 1
counted_more limit n h = ap (λ b. if b then n + 1 else n) (lt-ltb n limit h)

pub counted_most : (limit n : ℕ) → n ≤ limit → counted limit n ≤ limit
counted_most limit n h = counted_cases (nat_lt n limit) refl
  where
    counted_cases : (b : Bool) → nat_lt n limit ≡ b → (if b then n + 1 else n) ≤ limit
    counted_cases true e = let lt : n < limit = ltb-true n limit e in omega arith
    counted_cases false e = h

pub counted_least : (limit n : ℕ) → n ≤ counted limit n
counted_least limit n = least_cases (nat_lt n limit)
  where
    least_cases : (b : Bool) → n ≤ (if b then n + 1 else n)
    least_cases true = omega arith
    least_cases false = omega arith

pub limit_right : (limit n : ℕ) (x : Name) → limit_faults limit n x ≡ [] → n < limit
limit_right limit n x h = ltb-true n limit (unless_right (nat_lt n limit) OverLimit x.at h)

pub record Grows (c d : Context) : Type 0 where
  pub body : d.frame.body ≡ c.frame.body
  pub cells : c.frame.cells ≤ d.frame.cells
  pub most : c.frame.cells ≤ 256 → d.frame.cells ≤ 256
  pub more : List MonoidKind
  pub own : d.own ≡ c.own ++ more
  pub given : d.given ≡ c.given
  pub reducers : c.reducers ≤ d.reducers
  pub within : c.reducers ≤ 64 → d.reducers ≤ 64
  pub count : length c.own ≤ c.reducers → length d.own ≤ d.reducers
  pub loops : c.loops ≤ d.loops

-- nothing is added
pub stays : (c d : Context) → d.frame.body ≡ c.frame.body → d.frame.cells ≡ c.frame.cells → d.own ≡ c.own → d.given ≡ c.given → d.reducers ≡ c.reducers → d.loops ≡ c.loops → Grows c d
stays c d b n o g r l = record {
  body = b;
  cells = omega arith;
  most = λ h. omega arith;
  more = [];
  own = o ∙ sym (append-nil c.own);
  given = g;
  reducers = omega arith;
  within = λ h. omega arith;
  count = λ h. let e : length d.own ≡ length c.own = ap length o in omega arith;
  loops = omega arith;
}

pub onward : (a b c : Context) → Grows a b → Grows b c → Grows a c
onward a b c h k = record {
  body = k.body ∙ h.body;
  cells = let x = h.cells in let y = k.cells in omega arith;
  most = λ x. k.most (h.most x);
  more = h.more ++ k.more;
  own = k.own ∙ ap (λ xs. xs ++ k.more) h.own ∙ append_assoc a.own h.more k.more;
  given = k.given ∙ h.given;
  reducers = let x = h.reducers in let y = k.reducers in omega arith;
  within = λ x. k.within (h.within x);
  count = λ x. k.count (h.count x);
  loops = let x = h.loops in let y = k.loops in omega arith;
}

pub grows_variable : (c : Context) (x : Name) → Grows c (with_variable c x)
grows_variable c x = record {
  body = refl;
  cells = counted_least MAX_CELLS c.frame.cells;
  most = counted_most MAX_CELLS c.frame.cells;
  more = [];
  own = sym (append-nil c.own);
  given = refl;
  reducers = omega arith;
  within = λ h. h;
  count = λ h. h;
  loops = omega arith;
}

pub own_right : (c : Context) (r : parsed.Reducer) → own_faults c r ≡ [] → c.reducers < 64
own_right c r h =
    limit_right MAX_REDUCERS c.reducers r.name
    (both_nil (monoid_faults c.names r ++ again_faults c.names r.name ++ unless c.frame.heading ReducerNotFirst r.name.at) (limit_faults MAX_REDUCERS c.reducers r.name) h).1

grows_reducer : (c : Context) (r : parsed.Reducer) → own_faults c r ≡ [] → Grows c (with_reducer c r)
grows_reducer c r h =
    let lt : c.reducers < 64 = own_right c r h in
    let e : counted MAX_REDUCERS c.reducers ≡ c.reducers + 1 = counted_more MAX_REDUCERS c.reducers lt in
    record {
      body = refl;
      cells = omega arith;
      most = λ k. k;
      more = _;
      own = refl;
      given = refl;
      reducers = counted_least MAX_REDUCERS c.reducers;
      within = counted_most MAX_REDUCERS c.reducers;
      count = λ k. let n : length (with_reducer c r).own ≡ length c.own + 1 = length-append c.own (_ ∷ []) in omega arith;
      loops = omega arith;
    }

pub grows_locals : (c : Context) (ls : List trees.Local) → Grows c (behind_locals c ls)
grows_locals c [] = stays c c refl refl refl refl refl refl
grows_locals c (l ∷ ls) = onward c (with_variable c l.name) (behind_locals (with_variable c l.name) ls) (grows_variable c l.name) (grows_locals (with_variable c l.name) ls)

pub grows_beginning : (c : Context) (b : Option trees.Beginning) → Grows c (behind_beginning c b)
grows_beginning c None = stays c c refl refl refl refl refl refl
grows_beginning c (Some (trees.Declares x e)) = grows_variable c x
grows_beginning c (Some (trees.Assigns a)) = stays c c refl refl refl refl refl refl

-- inside a scope, and after it
pub grows_inside : (c d : Context) → Grows (inside c) d → Grows c (behind_scope c d)
grows_inside c d h = record { body = h.body; cells = h.cells; most = h.most; more = h.more; own = h.own; given = h.given; reducers = h.reducers; within = h.within; count = h.count; loops = h.loops }

-- in the body of a parallel loop, and after it
pub grows_loop : (c d : Context) (x : Name) → Grows (inside (in_body c x)) d → Grows c (behind_loop c d)
grows_loop c d x h = record {
  body = refl;
  cells = omega arith;
  most = λ k. k;
  more = h.more;
  own = h.own;
  given = h.given;
  reducers = h.reducers;
  within = h.within;
  count = h.count;
  loops = let k = h.loops in omega arith;
}

mutual
  pub grows : (c : Context) (s : trees.Statement) → statement_faults c s ≡ [] → Grows c (behind c s)
  grows c trees.Empty h = stays c c refl refl refl refl refl refl
  grows c (trees.Block row) h = grows_inside c (behind_row (inside c) row) (grows_row (inside c) row h)
  grows c (trees.Declare ls) h = grows_locals c ls
  grows c (trees.Statement.Reducer r) h = grows_reducer c r h
  grows c (trees.Assign a) h = stays c c refl refl refl refl refl refl
  grows c (trees.Statement.Invoke how k) h = stays c c refl refl refl refl refl refl
  grows c (trees.AssignCall x how k) h = stays c c refl refl refl refl refl refl
  grows c trees.Sync h = stays c c refl refl refl refl refl refl
  grows c (trees.If e s) h = grows_inside c (behind (inside c) s) (grows (inside c) s (both_nil (expression_faults c.names e) (statement_faults (inside c) s) h).1)
  grows c (trees.IfElse e s other) h =
      let m = behind_scope c (behind (inside c) s) in
      let p = both_nil (expression_faults c.names e ++ statement_faults (inside c) s) (statement_faults (inside m) other) h in
      let q = both_nil (expression_faults c.names e) (statement_faults (inside c) s) p.0 in
      let first : Grows c m = grows_inside c (behind (inside c) s) (grows (inside c) s q.1) in
      let second : Grows m (behind_scope m (behind (inside m) other)) = grows_inside m (behind (inside m) other) (grows (inside m) other p.1) in
      onward c m (behind_scope m (behind (inside m) other)) first second
  grows c (trees.While e s) h = grows_inside c (behind (inside c) s) (grows (inside c) s (both_nil (expression_faults c.names e) (statement_faults (inside c) s) h).1)
  grows c (trees.For b e a s) h =
      let d = behind_beginning (inside c) b in
      let inner : Grows d (behind_scope d (behind (inside d) s)) = grows_inside d (behind (inside d) s) (grows (inside d) s (for_right c b e a s h).3) in
      let whole : Grows (inside c) (behind_scope d (behind (inside d) s)) = onward (inside c) d (behind_scope d (behind (inside d) s)) (grows_beginning (inside c) b) inner in
      grows_inside c (behind_scope d (behind (inside d) s)) whole
  grows c (trees.ParallelFor b s) h =
      let d = inside (in_body c b.variable) in
      grows_loop c (behind d s) b.variable (grows d s (both_nil (head_faults c.names b) (statement_faults d s) h).1)
  grows c (trees.Return place e) h = stays c c refl refl refl refl refl refl
  grows c (trees.Print e) h = stays c c refl refl refl refl refl refl
  grows c (trees.Update x e) h = stays c c refl refl refl refl refl refl
  grows c (trees.Statement.Set x e) h = stays c c refl refl refl refl refl refl

  pub grows_row : (c : Context) (row : trees.Statements) → row_faults c row ≡ [] → Grows c (behind_row c row)
  grows_row c trees.End h = stays c c refl refl refl refl refl refl
  grows_row c (trees.Then s row) h =
      let a = ahead c s in
      let p = both_nil (statement_faults a s) (row_faults (behind a s) row) h in
      let first : Grows c a = stays c a refl refl refl refl refl refl in
      let second : Grows a (behind a s) = grows a s p.0 in
      onward c a (behind_row (behind a s) row) first (onward a (behind a s) (behind_row (behind a s) row) second (grows_row (behind a s) row p.1))
