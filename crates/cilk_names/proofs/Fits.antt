-- The meanings of names exist in the resolved program.
use Rattle.std.proofs.Common.{◌≡◌, ℕ, suc, ◌+◌, ◌-◌, ◌<◌, ◌≤◌, nat_lt, nat_eq, Bool, true, false, ◌&&◌, if◌then◌else◌, IsTrue, List, [], ◌∷◌, length, slice_get, Option, Some, None, unwrap_or, option_map, bytes_eq, refl, sym, ap, ◌∙◌, subst, add-one, arith}
use Rattle.std.specs.Option.{option_or}
use Rattle.std.proofs.lemmas.Bool.{lt-ltb, eq-eqb, and_from}
use Rattle.cilk_monoid.specs.declared.kind.MonoidKind.{MonoidKind}
use Rattle.cilk_monoid.specs.Kinds.{same_kind}
use Rattle.cilk_syntax.specs.declared.tree.Name.{Name}
use Rattle.cilk_types.specs.declared.invocation.Invocation.{Invocation}
use Rattle.cilk_syntax.specs.declared.tree.UnaryOperator.{UnaryOperator}
use Rattle.cilk_syntax.specs.declared.tree.UnaryOperator.TheVariants as unary
use Rattle.cilk_syntax.specs.declared.tree.BinaryOperator.{BinaryOperator}
use Rattle.cilk_syntax.specs.declared.tree.BinaryOperator.TheVariants as binary
use Rattle.cilk_syntax.specs.Trees as trees
use Rattle.cilk_syntax.specs.Trees.{bytes_of}
use Rattle.cilk_program.specs.declared.program.Body.{Body}
use Rattle.cilk_program.specs.declared.syntax.Array.{Array}
use Rattle.cilk_program.specs.declared.syntax.Place.{Place}
use Rattle.cilk_program.specs.declared.syntax.Place.TheVariants as places
use Rattle.cilk_program.specs.declared.syntax.Reducer.{Reducer}
use Rattle.cilk_program.specs.declared.syntax.ReducerPlace.TheVariants as reducers
use Rattle.cilk_program.specs.Syntax.{Expression, Target, Invoke, Statement, Statements, Source, function_at}
use Rattle.cilk_program.specs.WellNamed.{Level, levels_of, at_most, has_cell, is_kind, has_own, has_given, have_kinds, place_is_there, array_is_there, reducer_is_there, expression_is_named, all_are_named, option_is_named, target_is_named, reducers_are_there, result_is_there, invoke_is_named, statement_is_named, row_is_named}
use Rattle.cilk_names.specs.declared.table.Meaning.{Meaning}
use Rattle.cilk_names.specs.declared.table.Meaning.TheVariants as meanings
use Rattle.cilk_names.specs.declared.table.Home.TheVariants as homes
use Rattle.cilk_names.specs.declared.table.Binding.{Binding}
use Rattle.cilk_names.specs.declared.signature.ParameterKind.{ParameterKind}
use Rattle.cilk_names.specs.declared.signature.ParameterKind.TheVariants as kinds
use Rattle.cilk_names.specs.declared.signature.Signature.{Signature}
use Rattle.cilk_names.specs.Names.{Names, Scope, found_in, found, is_declared, with_entry, declare, opened, kind_or_sum}
use Rattle.cilk_names.specs.Operators.{prefixed, joined}
use Rattle.cilk_names.specs.Sights.{place_of, array_of, reducer_of, function_of, seen, variable, array, reducer, called, plain, signature_of}
use Rattle.cilk_names.specs.Resolution.{ResolvesExpression, ResolvesOptional, ResolvesPlace, ResolvesAssignment, ResolvesStep, ResolvesArguments, ResolvesCall}
use Rattle.cilk_names.proofs.Tables.{found_last}
use Rattle.cilk_monoid.proofs.SameKinds.{kind_itself}

-- operators contain no names of their own
module _ (p : Source) (b : Body) where
  prefixed_named : (op : UnaryOperator) (e : Expression) → IsTrue (expression_is_named p b e) → IsTrue (expression_is_named p b (prefixed op e))
  prefixed_named unary.Negate e h = h
  prefixed_named unary.Not e h = h

  joined_named : (op : BinaryOperator) (d e : Expression) → IsTrue (expression_is_named p b d && expression_is_named p b e) → IsTrue (expression_is_named p b (joined op d e))
  joined_named binary.Or d e h = h
  joined_named binary.And d e h = h
  joined_named binary.Equal d e h = h
  joined_named binary.NotEqual d e h = h
  joined_named binary.Less d e h = h
  joined_named binary.LessEqual d e h = h
  joined_named binary.Greater d e h = h
  joined_named binary.GreaterEqual d e h = h
  joined_named binary.Add d e h = h
  joined_named binary.Subtract d e h = h
  joined_named binary.Multiply d e h = h
  joined_named binary.Divide d e h = h
  joined_named binary.Remainder d e h = h

-- the number of words among these, and the monoids of the others
abbrev pub words_in : List ParameterKind → ℕ
words_in [] = 0
words_in (kinds.Word ∷ ks) = suc (words_in ks)
words_in (kinds.Reducer k ∷ ks) = words_in ks

abbrev pub given_in : List ParameterKind → List MonoidKind
given_in [] = []
given_in (kinds.Word ∷ ks) = given_in ks
given_in (kinds.Reducer k ∷ ks) = kind_or_sum k ∷ given_in ks

module _ (p : Source) where
  -- the meaning of a name exists, seen from a body with these levels
  abbrev pub MeaningFits : List Level → ℕ → Meaning → Type 0
  MeaningFits ls level (meanings.Global n) = IsTrue (nat_lt n (length p.openings))
  MeaningFits ls level (meanings.Array a) = IsTrue (at_most (a.first + a.length) (length p.openings))
  MeaningFits ls level (meanings.Local l n) = (l ≤ level) × IsTrue (has_cell (slice_get ls (level - l)) n)
  MeaningFits ls level (meanings.Turn l) = (l ≤ level) × IsTrue (has_cell (slice_get ls (level - l)) 0)
  MeaningFits ls level (meanings.Reducer (homes.Global n) k) = IsTrue (is_kind (slice_get p.reducers n) (kind_or_sum k))
  MeaningFits ls level (meanings.Reducer (homes.Own n) k) = IsTrue (has_own (slice_get ls level) n (kind_or_sum k))
  MeaningFits ls level (meanings.Reducer (homes.Given n) k) = IsTrue (has_given (slice_get ls level) n (kind_or_sum k))
  MeaningFits ls level (meanings.Function n) = n < length p.functions

  -- the same for each name
  pub record NamesFit (ls : List Level) (names : Names) : Type 0 where
    pub fits : (q : List ℕ) (e : Binding) → found names q ≡ Some e → MeaningFits ls names.level e.meaning

  -- the functions match their signatures
  pub record SignaturesFit (sigs : List Signature) : Type 0 where
    pub words : (n : ℕ) → n < length p.functions → let f = function_at p n in let s = unwrap_or (slice_get sigs n) plain in f.words ≡ words_in s.parameters
    pub given : (n : ℕ) → n < length p.functions → let f = function_at p n in let s = unwrap_or (slice_get sigs n) plain in f.given ≡ given_in s.parameters

  -- one more declaration
  entry_either : (s : Scope) (name : List ℕ) (new : Binding) (q : List ℕ) (e : Binding) (o : Option Binding) (c : Bool) → option_or (if c then Some new else s q) o ≡ Some e
      → (P : Meaning → Type 0) → P new.meaning → ((e : Binding) → option_or (s q) o ≡ Some e → P e.meaning) → P e.meaning
  entry_either s name new q e o true h P here there = let same : new ≡ e = cc in subst (λ (x : Binding). P x.meaning) same here
  entry_either s name new q e o false h P here there = there e h

  with_either : (s : Scope) (name : List ℕ) (new : Binding) (q : List ℕ) (e : Binding) (o : Option Binding) (b : Bool) → option_or ((if b then s else with_entry s name new) q) o ≡ Some e
      → (P : Meaning → Type 0) → P new.meaning → ((e : Binding) → option_or (s q) o ≡ Some e → P e.meaning) → P e.meaning
  with_either s name new q e o true h P here there = there e h
  with_either s name new q e o false h P here there = entry_either s name new q e o (bytes_eq name q) h P here there

  pub names_declare : (ls : List Level) (names : Names) (x : Name) (m : Meaning) → NamesFit ls names → MeaningFits ls names.level m → NamesFit ls (declare names x m)
  names_declare ls names x m h k = record {
    fits = λ q e f. with_either names.inner (bytes_of names.text x) (record { meaning = m; declared = true }) q e (found_in names.outer q) (is_declared names.inner (bytes_of names.text x)) f (MeaningFits ls names.level) k (h.fits q);
  }

  pub names_opened : (ls : List Level) (names : Names) → NamesFit ls names → NamesFit ls (opened names)
  names_opened ls names h = record { fits = λ q e f. h.fits q e (sym (found_last names.outer names.inner q) ∙ f) }

  -- seen from a loop body one level deeper
  deeper : (l : Level) (ls : List Level) (level : ℕ) (m : Meaning) → MeaningFits ls level m → MeaningFits (l ∷ ls) (level + 1) m
  deeper l ls level (meanings.Global n) h = h
  deeper l ls level (meanings.Array a) h = h
  deeper l ls level (meanings.Local k n) h =
      let e : level + 1 - k ≡ suc (level - k) = let le = h.0 in omega arith in
      (let le = h.0 in omega arith, subst (λ (i : ℕ). IsTrue (has_cell (slice_get (l ∷ ls) i) n)) (sym e) h.1)
  deeper l ls level (meanings.Turn k) h =
      let e : level + 1 - k ≡ suc (level - k) = let le = h.0 in omega arith in
      (let le = h.0 in omega arith, subst (λ (i : ℕ). IsTrue (has_cell (slice_get (l ∷ ls) i) 0)) (sym e) h.1)
  deeper l ls level (meanings.Reducer (homes.Global n) k) h = h
  deeper l ls level (meanings.Reducer (homes.Own n) k) h = rw add-one h
  deeper l ls level (meanings.Reducer (homes.Given n) k) h = rw add-one h
  deeper l ls level (meanings.Function n) h = h

  pub names_deeper : (l : Level) (ls : List Level) (names : Names) → NamesFit ls names → NamesFit (l ∷ ls) (record (opened names) { level = names.level + 1 })
  names_deeper l ls names h = record { fits = λ q e f. deeper l ls names.level e.meaning (h.fits q e (sym (found_last names.outer names.inner q) ∙ f)) }

  -- the result of a look-up
  seen_found : {A : Type 0} (f : Meaning → Option A) (o : Option Binding) (x : A) → seen f (option_map (λ (e : Binding). e.meaning) o) ≡ Some x → (e : Binding) × (o ≡ Some e) × (f e.meaning ≡ Some x)
  seen_found f None x h = absurd cc
  seen_found f (Some e) x h = (e, refl, h)

  module _ (b : Body) (ls : List Level) (names : Names) (same : levels_of p b ≡ ls) (sigs : SignaturesFit names.signatures) (fit : NamesFit ls names) where
    place_there : (m : Meaning) (x : Place) → MeaningFits ls names.level m → place_of names.level m ≡ Some x → IsTrue (place_is_there p b x)
    place_there (meanings.Global n) x h e = let f : places.Global n ≡ x = cc in subst (λ (y : Place). IsTrue (place_is_there p b y)) f h
    place_there (meanings.Array a) x h e = absurd cc
    place_there (meanings.Local l n) x h e =
        let f : places.Local (names.level - l) n ≡ x = cc in
        subst (λ (y : Place). IsTrue (place_is_there p b y)) f (subst (λ (k : List Level). IsTrue (has_cell (slice_get k (names.level - l)) n)) (sym same) h.1)
    place_there (meanings.Turn l) x h e =
        let f : places.Local (names.level - l) 0 ≡ x = cc in
        subst (λ (y : Place). IsTrue (place_is_there p b y)) f (subst (λ (k : List Level). IsTrue (has_cell (slice_get k (names.level - l)) 0)) (sym same) h.1)
    place_there (meanings.Reducer home k) x h e = absurd cc
    place_there (meanings.Function n) x h e = absurd cc

    pub variable_there : (x : Name) (y : Place) → variable names x ≡ Some y → IsTrue (place_is_there p b y)
    variable_there x y h =
        let e = seen_found (place_of names.level) (found names (bytes_of names.text x)) y h in
        place_there e.0.meaning y (fit.fits (bytes_of names.text x) e.0 e.1) e.2

    array_there_of : (m : Meaning) (x : Array) → MeaningFits ls names.level m → array_of m ≡ Some x → IsTrue (array_is_there p b x)
    array_there_of (meanings.Global n) x h e = absurd cc
    array_there_of (meanings.Array a) x h e = let f : a ≡ x = cc in subst (λ (y : Array). IsTrue (array_is_there p b y)) f h
    array_there_of (meanings.Local l n) x h e = absurd cc
    array_there_of (meanings.Turn l) x h e = absurd cc
    array_there_of (meanings.Reducer home k) x h e = absurd cc
    array_there_of (meanings.Function n) x h e = absurd cc

    pub array_there : (x : Name) (y : Array) → array names x ≡ Some y → IsTrue (array_is_there p b y)
    array_there x y h =
        let e = seen_found array_of (found names (bytes_of names.text x)) y h in array_there_of e.0.meaning y (fit.fits (bytes_of names.text x) e.0 e.1) e.2

    reducer_there_of : (m : Meaning) (x : Reducer) → MeaningFits ls names.level m → reducer_of names.level m ≡ Some x → IsTrue (reducer_is_there p b x.place x.kind)
    reducer_there_of (meanings.Global n) x h e = absurd cc
    reducer_there_of (meanings.Array a) x h e = absurd cc
    reducer_there_of (meanings.Local l n) x h e = absurd cc
    reducer_there_of (meanings.Turn l) x h e = absurd cc
    reducer_there_of (meanings.Reducer (homes.Global n) k) x h e =
        let r : Reducer = record { place = reducers.Global n; kind = kind_or_sum k } in
        let f : r ≡ x = cc in subst (λ (y : Reducer). IsTrue (reducer_is_there p b y.place y.kind)) f h
    reducer_there_of (meanings.Reducer (homes.Own n) k) x h e =
        let r : Reducer = record { place = reducers.Own names.level n; kind = kind_or_sum k } in
        let f : r ≡ x = cc in
        subst (λ (y : Reducer). IsTrue (reducer_is_there p b y.place y.kind)) f (subst (λ (l : List Level). IsTrue (has_own (slice_get l names.level) n (kind_or_sum k))) (sym same) h)
    reducer_there_of (meanings.Reducer (homes.Given n) k) x h e =
        let r : Reducer = record { place = reducers.Given names.level n; kind = kind_or_sum k } in
        let f : r ≡ x = cc in
        subst (λ (y : Reducer). IsTrue (reducer_is_there p b y.place y.kind)) f (subst (λ (l : List Level). IsTrue (has_given (slice_get l names.level) n (kind_or_sum k))) (sym same) h)
    reducer_there_of (meanings.Function n) x h e = absurd cc

    pub reducer_there : (x : Name) (y : Reducer) → reducer names x ≡ Some y → IsTrue (reducer_is_there p b y.place y.kind)
    reducer_there x y h =
        let e = seen_found (reducer_of names.level) (found names (bytes_of names.text x)) y h in reducer_there_of e.0.meaning y (fit.fits (bytes_of names.text x) e.0 e.1) e.2

    function_there_of : (m : Meaning) (n : ℕ) → MeaningFits ls names.level m → function_of m ≡ Some n → n < length p.functions
    function_there_of (meanings.Global k) n h e = absurd cc
    function_there_of (meanings.Array a) n h e = absurd cc
    function_there_of (meanings.Local l k) n h e = absurd cc
    function_there_of (meanings.Turn l) n h e = absurd cc
    function_there_of (meanings.Reducer home k) n h e = absurd cc
    function_there_of (meanings.Function k) n h e = let f : k ≡ n = cc in subst (λ (i : ℕ). i < length p.functions) f h

    pub function_there : (x : Name) (n : ℕ) → called names x ≡ Some n → n < length p.functions
    function_there x n h =
        let e = seen_found function_of (found names (bytes_of names.text x)) n h in function_there_of e.0.meaning n (fit.fits (bytes_of names.text x) e.0 e.1) e.2

    pub expression_named : (e : trees.Expression) (r : Expression) → ResolvesExpression names e r → IsTrue (expression_is_named p b r)
    expression_named (trees.Number n) r h = subst (λ (x : Expression). IsTrue (expression_is_named p b x)) (sym h) refl
    expression_named (trees.Expression.Variable x) r (y, v, is) = subst (λ (z : Expression). IsTrue (expression_is_named p b z)) (sym is) (variable_there x y v)
    expression_named (trees.Expression.Element x e) r (a, e', v, k, is) =
        subst (λ (z : Expression). IsTrue (expression_is_named p b z)) (sym is) (and_from (array_is_there p b a) (expression_is_named p b e') (array_there x a v) (expression_named e e' k))
    expression_named (trees.Group e) r h = expression_named e r h
    expression_named (trees.Unary op e) r (e', k, is) = subst (λ (z : Expression). IsTrue (expression_is_named p b z)) (sym is) (prefixed_named p b op e' (expression_named e e' k))
    expression_named (trees.Binary op d e) r (d', e', k, l, is) =
        subst (λ (z : Expression). IsTrue (expression_is_named p b z)) (sym is)
        (joined_named p b op d' e' (and_from (expression_is_named p b d') (expression_is_named p b e') (expression_named d d' k) (expression_named e e' l)))
    expression_named (trees.Expression.Value x) r (y, v, is) = subst (λ (z : Expression). IsTrue (expression_is_named p b z)) (sym is) (reducer_there x y v)
    expression_named (trees.Input e) r (e', k, is) = subst (λ (z : Expression). IsTrue (expression_is_named p b z)) (sym is) (expression_named e e' k)
    expression_named trees.InputCount r h = subst (λ (x : Expression). IsTrue (expression_is_named p b x)) (sym h) refl

    pub optional_named : (e : Option trees.Expression) (r : Option Expression) → ResolvesOptional names e r → IsTrue (option_is_named p b r)
    optional_named None r h = subst (λ (x : Option Expression). IsTrue (option_is_named p b x)) (sym h) refl
    optional_named (Some e) r (e', k, is) = subst (λ (x : Option Expression). IsTrue (option_is_named p b x)) (sym is) (expression_named e e' k)

    place_named : (d : trees.Lvalue) (t : Target) → ResolvesPlace names d t → IsTrue (target_is_named p b t)
    place_named (trees.Lvalue.Variable x) t (y, v, is) = subst (λ (z : Target). IsTrue (target_is_named p b z)) (sym is) (variable_there x y v)
    place_named (trees.Lvalue.Element x e) t (a, e', v, k, is) =
        subst (λ (z : Target). IsTrue (target_is_named p b z)) (sym is) (and_from (array_is_there p b a) (expression_is_named p b e') (array_there x a v) (expression_named e e' k))

    pub assignment_named : (a : trees.Assignment) (r : Statement) → ResolvesAssignment names a r → IsTrue (statement_is_named p b r)
    assignment_named (trees.Assignment.Set d e) r (t, e', k, l, is) =
        subst (λ (z : Statement). IsTrue (statement_is_named p b z)) (sym is) (and_from (target_is_named p b t) (expression_is_named p b e') (place_named d t k) (expression_named e e' l))
    assignment_named (trees.Compound op d e) r (t, e', k, l, is) =
        subst (λ (z : Statement). IsTrue (statement_is_named p b z)) (sym is) (and_from (target_is_named p b t) (expression_is_named p b e') (place_named d t k) (expression_named e e' l))
    assignment_named (trees.Increment d) r (t, k, is) = subst (λ (z : Statement). IsTrue (statement_is_named p b z)) (sym is) (place_named d t k)
    assignment_named (trees.Decrement d) r (t, k, is) = subst (λ (z : Statement). IsTrue (statement_is_named p b z)) (sym is) (place_named d t k)

    pub step_named : (a : Option trees.Assignment) (r : Statements) → ResolvesStep names a r → IsTrue (row_is_named p b r)
    step_named None r h = subst (λ (z : Statements). IsTrue (row_is_named p b z)) (sym h) refl
    step_named (Some a) r (s, k, is) = subst (λ (z : Statements). IsTrue (row_is_named p b z)) (sym is) (and_from (statement_is_named p b s) true (assignment_named a s k) refl)

    pub record ArgumentsFit (ks : List ParameterKind) (ws : List Expression) (rs : List Reducer) : Type 0 where
      pub count : length ws ≡ words_in ks
      pub kinds_are : IsTrue (have_kinds rs (given_in ks))
      pub words : IsTrue (all_are_named p b ws)
      pub passed : IsTrue (reducers_are_there p b rs)

    arguments_named : (ks : List ParameterKind) (list : List trees.Argument) (ws : List Expression) (rs : List Reducer) → ResolvesArguments names ks list ws rs → ArgumentsFit ks ws rs
    arguments_named [] [] ws rs (u, v) =
        subst (λ (x : List Expression). ArgumentsFit [] x rs) (sym u) (subst (λ (y : List Reducer). ArgumentsFit [] [] y) (sym v) (record { count = refl; kinds_are = refl; words = refl; passed = refl }))
    arguments_named [] (a ∷ list) ws rs h = absurd h
    arguments_named (k ∷ ks) [] ws rs h = absurd h
    arguments_named (kinds.Word ∷ ks) (a ∷ list) ws rs (w, ws', k, l, is) =
        let f : ArgumentsFit ks ws' rs = arguments_named ks list ws' rs l in
        subst (λ (x : List Expression). ArgumentsFit (kinds.Word ∷ ks) x rs) (sym is) (record {
          count = ap suc f.count;
          kinds_are = f.kinds_are;
          words = and_from (expression_is_named p b w) (all_are_named p b ws') (expression_named a.value w k) f.words;
          passed = f.passed;
        })
    arguments_named (kinds.Reducer k ∷ ks) (a ∷ list) ws rs (r, rs', (x, bare, v), kind, l, is) =
        let f : ArgumentsFit ks ws rs' = arguments_named ks list ws rs' l in
        let same_as : same_kind r.kind (kind_or_sum k) ≡ true = ap (λ (o : Option MonoidKind). same_kind r.kind (kind_or_sum o)) kind ∙ kind_itself r.kind in
        subst (λ (y : List Reducer). ArgumentsFit (kinds.Reducer k ∷ ks) ws y) (sym is) (record {
          count = f.count;
          kinds_are = and_from (same_kind r.kind (kind_or_sum k)) (have_kinds rs' (given_in ks)) same_as f.kinds_are;
          words = f.words;
          passed = and_from (reducer_is_there p b r.place r.kind) (reducers_are_there p b rs') (reducer_there x r v) f.passed;
        })

    pub call_named : (how : Invocation) (c : trees.Call) (o : Option Place) (i : Invoke) → IsTrue (result_is_there p b o) → ResolvesCall names how c o i → IsTrue (invoke_is_named p b i)
    call_named how c o i place (n, ws, rs, e, args, is) =
        let s = signature_of names (Some n) in
        let f = function_at p n in
        let lt : n < length p.functions = function_there c.name n e in
        let a : ArgumentsFit s.parameters ws rs = arguments_named s.parameters c.arguments ws rs args in
        let one : IsTrue (nat_lt n (length p.functions)) = lt-ltb n (length p.functions) lt in
        let two : IsTrue (nat_eq (length ws) f.words) = eq-eqb (length ws) f.words (a.count ∙ sym (sigs.words n lt)) in
        let three : IsTrue (have_kinds rs f.given) = subst (λ (g : List MonoidKind). IsTrue (have_kinds rs g)) (sym (sigs.given n lt)) a.kinds_are in
        let A = nat_lt n (length p.functions) in
        let B = nat_eq (length ws) f.words in
        let C = have_kinds rs f.given in
        let D = all_are_named p b ws in
        let E = reducers_are_there p b rs in
        let F = result_is_there p b o in
        subst (λ (z : Invoke). IsTrue (invoke_is_named p b z)) (sym is)
        (and_from (A && B && C && D && E) F (and_from (A && B && C && D) E (and_from (A && B && C) D (and_from (A && B) C (and_from A B one two) three) a.words) a.passed) place)
