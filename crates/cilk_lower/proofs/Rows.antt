-- The list of a block's statements, as a loop iterates over it.
use Rattle.std.proofs.Common.{◌≡◌, Option, ℕ, zero, suc, ◌+◌, ◌<◌, max, map, List, [], ◌∷◌, ◌++◌, length, get_or, take, drop, refl, sym, ap, ◌∙◌, subst, rules, Vec, arith, append_assoc, length-append}
use Rattle.std.proofs.lemmas.List.{take_more, length-take, take-append-drop}
use Rattle.std.specs.declared.alloc.Global.{Global}
use Rattle.cilk_program.specs.declared.syntax.Stmt.{Stmt, Row_of-Stmt, end_of-Stmt, more_of-Stmt, items-the_row-Stmt, the_lemmas}
use Rattle.cilk_program.specs.declared.syntax.Stmt.TheBlock.{hidden-the_row-Stmt-0}
use Rattle.cilk_program.specs.declared.syntax.Stmt as stmts
use Rattle.cilk_monoid.specs.declared.kind.MonoidKind.{MonoidKind}
use Rattle.cilk_program.specs.declared.program.GlobalReducer.{GlobalReducer}
use Rattle.cilk_program.specs.declared.program.Loop.{Loop}
use Rattle.cilk_program.specs.declared.syntax.ReducerPlace.{ReducerPlace}
use Rattle.cilk_program.specs.declared.syntax.Declaration.{Declaration}
use Rattle.cilk_program.specs.declared.syntax.Expr.{Expr}
use Rattle.cilk_program.specs.Programs.{loop, declaration, expression, optional, statement, statements, row_view}
use Rattle.cilk_program.specs.Syntax.{Expression, Statement, Statements, Then}
use Rattle.cilk_program.specs.Syntax as trees
use Rattle.cilk_lower.specs.declared.code.Instr.{Instr}
use Rattle.cilk_lower.specs.declared.code.Instr.TheVariants.{Word, Create, Tick, Turn, SkipUnlessOne}
use Rattle.cilk_lower.specs.declared.code.Site.{Site}
use Rattle.cilk_lower.specs.Code.{ends, halves_code, loop_code, turns_code, SitesFit, declaration_code, declarations_code, declaration_sites, declarations_sites, words_code, creates_code, expr_code, exprs_code, stmt_code, stmt_sites, all_code, all_sites}
use Rattle.cilk_lower.specs.Rooms.{depth, depths, declaration_depth, declarations_depth, deepest, deepest_of_all}
use Rattle.cilk_lower.proofs.Lists.{append_none}
use Rattle.cilk_lower.proofs.Named.{front_fits, back_fits}
use Rattle.cilk_lower.proofs.Standing.{long_map}
use Rattle.cilk_lower.proofs.Values.{depth_some}

-- a row in a statement is the list that it was made of
row_is : (n : _) (row : Row_of-Stmt n) → row_view row ≡ statements (items-the_row-Stmt n row)
row_is _ end_of-Stmt = refl
row_is _ (more_of-Stmt s row) = ap (λ x. Then (statement s) x) (row_is _ row)

pub block_is : (at : ℕ) (v : Vec Stmt Global) → statement (stmts.Block at v) ≡ trees.Block (statements v.items)
block_is at v =
    ap trees.Block (row_is _ (hidden-the_row-Stmt-0 v) ∙ ap statements {x = items-the_row-Stmt _ (hidden-the_row-Stmt-0 v)} {y = v.items} (search (rules, the_lemmas)))

-- one more statement
code_push : (list : List Stmt) (k : ℕ) (s : Stmt) → all_code k (statements (list ++ s ∷ [])) ≡ all_code k (statements list) ++ stmt_code (k + length (all_sites (statements list))) (statement s)
code_push [] k s = let same : k ≡ k + 0 = omega arith in append_none (stmt_code k (statement s)) ∙ ap (λ n. stmt_code n (statement s)) same
code_push (a ∷ list) k s =
    let ca = stmt_code k (statement a) in
    let k1 = k + length (stmt_sites (statement a)) in
    let same : k1 + length (all_sites (statements list)) ≡ k + length (all_sites (statements (a ∷ list))) = omega (arith, length-append (stmt_sites (statement a)) (all_sites (statements list))) in
    ap (λ l. ca ++ l) (code_push list k1 s) ∙ sym (append_assoc ca (all_code k1 (statements list)) (stmt_code (k1 + length (all_sites (statements list))) (statement s)))
    ∙ ap (λ n. (ca ++ all_code k1 (statements list)) ++ stmt_code n (statement s)) same

sites_push : (list : List Stmt) (s : Stmt) → all_sites (statements (list ++ s ∷ [])) ≡ all_sites (statements list) ++ stmt_sites (statement s)
sites_push [] s = append_none (stmt_sites (statement s))
sites_push (a ∷ list) s = ap (λ l. stmt_sites (statement a) ++ l) (sites_push list s) ∙ sym (append_assoc (stmt_sites (statement a)) (all_sites (statements list)) (stmt_sites (statement s)))

room_push : (list : List Stmt) (s : Stmt) → deepest_of_all (statements (list ++ s ∷ [])) ≡ max (deepest_of_all (statements list)) (deepest (statement s))
room_push [] s = omega arith
room_push (a ∷ list) s = omega (arith, room_push list s)

module _ (list : List Stmt) (i : ℕ) (s : Stmt) (low : i < length list) (is : s ≡ get_or list i s) where
  more : take (i + 1) list ≡ take i list ++ s ∷ []
  more = take_more list i s low ∙ ap (λ x. take i list ++ x ∷ []) (sym is)

  pub code_more : (k : ℕ) → all_code k (statements (take (i + 1) list)) ≡ all_code k (statements (take i list)) ++ stmt_code (k + length (all_sites (statements (take i list)))) (statement s)
  code_more k = ap (λ l. all_code k (statements l)) more ∙ code_push (take i list) k s

  pub sites_more : all_sites (statements (take (i + 1) list)) ≡ all_sites (statements (take i list)) ++ stmt_sites (statement s)
  sites_more = ap (λ l. all_sites (statements l)) more ∙ sites_push (take i list) s

  pub room_more : deepest_of_all (statements (take (i + 1) list)) ≡ max (deepest_of_all (statements (take i list))) (deepest (statement s))
  room_more = ap (λ l. deepest_of_all (statements l)) more ∙ room_push (take i list) s

-- one more of several expressions
exprs_push : (list : List Expr) (e : Expr) → exprs_code (map expression (list ++ e ∷ [])) ≡ exprs_code (map expression list) ++ expr_code (expression e)
exprs_push [] e = append_none (expr_code (expression e))
exprs_push (a ∷ list) e = ap (λ l. expr_code (expression a) ++ l) (exprs_push list e) ∙ sym (append_assoc (expr_code (expression a)) (exprs_code (map expression list)) (expr_code (expression e)))

depths_push : (list : List Expr) (e : Expr) → depths (map expression (list ++ e ∷ [])) ≡ max (depths (map expression list)) (depth (expression e) + length list)
depths_push [] e = omega (arith, depth_some (expression e))
depths_push (a ∷ list) e = omega (arith, depths_push list e)

module _ (list : List Expr) (i : ℕ) (e : Expr) (low : i < length list) (is : e ≡ get_or list i e) where
  wider : take (i + 1) list ≡ take i list ++ e ∷ []
  wider = take_more list i e low ∙ ap (λ x. take i list ++ x ∷ []) (sym is)

  pub exprs_more : exprs_code (map expression (take (i + 1) list)) ≡ exprs_code (map expression (take i list)) ++ expr_code (expression e)
  exprs_more = ap (λ l. exprs_code (map expression l)) wider ∙ exprs_push (take i list) e

  pub depths_more : depths (map expression (take (i + 1) list)) ≡ max (depths (map expression (take i list))) (depth (expression e) + i)
  depths_more =
      let count : length (take i list) ≡ i = omega (arith, length-take i list) in
      ap (λ l. depths (map expression l)) wider ∙ depths_push (take i list) e ∙ ap (λ n. max (depths (map expression (take i list))) (depth (expression e) + n)) count

-- one more word
words_push : (n count : ℕ) → words_code n (count + 1) ≡ words_code n count ++ Word (n + count) ∷ []
words_push n zero = let same : n ≡ n + 0 = omega arith in ap (λ k. Word k ∷ []) same
words_push n (suc count) =
    let more : suc count + 1 ≡ suc (count + 1) = omega arith in
    let same : suc n + count ≡ n + suc count = omega arith in
    ap (λ k. words_code n k) more ∙ ap (λ l. Word n ∷ l) (words_push (suc n) count) ∙ ap (λ k. (Word n ∷ words_code (suc n) count) ++ Word k ∷ []) same

pub words_more : (base code code' : List Instr) (n : ℕ) → code ≡ base ++ words_code 0 n → code' ≡ code ++ Word n ∷ [] → code' ≡ base ++ words_code 0 (n + 1)
words_more base code code' n e e' =
    let same : 0 + n ≡ n = omega arith in
    e' ∙ ap (λ l. l ++ Word n ∷ []) e ∙ append_assoc base (words_code 0 n) (Word n ∷ []) ∙ ap (λ l. base ++ l) (ap (λ k. words_code 0 n ++ Word k ∷ []) (sym same) ∙ sym (words_push 0 n))

-- one more reducer
creates_push : (place : ℕ → ReducerPlace) (n : ℕ) (ks : List MonoidKind) (k : MonoidKind) → creates_code place n (ks ++ k ∷ []) ≡ creates_code place n ks ++ Create (record { place = place (n + length ks); kind = k }) ∷ []
creates_push place n [] k = let same : n ≡ n + 0 = omega arith in ap (λ j. Create (record { place = place j; kind = k }) ∷ []) same
creates_push place n (x ∷ ks) k =
    let same : suc n + length ks ≡ n + length (x ∷ ks) = omega arith in
    let first = Create (record { place = place n; kind = x }) in
    ap (λ l. first ∷ l) (creates_push place (suc n) ks k) ∙ ap (λ j. (first ∷ creates_code place (suc n) ks) ++ Create (record { place = place j; kind = k }) ∷ []) same

creates_grow : (place : ℕ → ReducerPlace) (base code code' : List Instr) (ks : List MonoidKind) (k : MonoidKind) (n : ℕ) → n ≡ length ks → code ≡ base ++ creates_code place 0 ks → code' ≡ code ++ Create (record { place = place n; kind = k }) ∷ [] → code' ≡ base ++ creates_code place 0 (ks ++ k ∷ [])
creates_grow place base code code' ks k n at e e' =
    let i = Create (record { place = place n; kind = k }) in
    let same : n ≡ 0 + length ks = omega (arith, at) in
    e' ∙ ap (λ l. l ++ i ∷ []) e ∙ append_assoc base (creates_code place 0 ks) (i ∷ [])
    ∙ ap (λ l. base ++ l) (ap (λ j. creates_code place 0 ks ++ Create (record { place = place j; kind = k }) ∷ []) same ∙ sym (creates_push place 0 ks k))

pub creates_more : (place : ℕ → ReducerPlace) (base code code' : List Instr) (ks : List MonoidKind) (n : ℕ) (d : MonoidKind) → n < length ks → code ≡ base ++ creates_code place 0 (take n ks) → code' ≡ code ++ Create (record { place = place n; kind = get_or ks n d }) ∷ [] → code' ≡ base ++ creates_code place 0 (take (n + 1) ks)
creates_more place base code code' ks n d low e e' =
    let count : n ≡ length (take n ks) = omega (arith, length-take n ks) in
    creates_grow place base code code' (take n ks) (get_or ks n d) n count e e' ∙ ap (λ l. base ++ creates_code place 0 l) (sym (take_more ks n d low))

kinds_push : (rs : List GlobalReducer) (r : GlobalReducer) → map (λ r. r.kind) (rs ++ r ∷ []) ≡ map (λ r. r.kind) rs ++ r.kind ∷ []
kinds_push [] r = refl
kinds_push (x ∷ rs) r = ap (λ l. x.kind ∷ l) (kinds_push rs r)

pub globals_more : (place : ℕ → ReducerPlace) (base code code' : List Instr) (rs : List GlobalReducer) (n : ℕ) (r : GlobalReducer) → n < length rs → r ≡ get_or rs n r → code ≡ base ++ creates_code place 0 (map (λ r. r.kind) (take n rs)) → code' ≡ code ++ Create (record { place = place n; kind = r.kind }) ∷ [] → code' ≡ base ++ creates_code place 0 (map (λ r. r.kind) (take (n + 1) rs))
globals_more place base code code' rs n r low is e e' =
    let ks = map (λ (r : GlobalReducer). r.kind) (take n rs) in
    let count : n ≡ length ks = omega (arith, length-take n rs, long_map (λ (r : GlobalReducer). r.kind) (take n rs)) in
    creates_grow place base code code' ks r.kind n count e e'
    ∙ ap (λ l. base ++ creates_code place 0 l) (sym (kinds_push (take n rs) r) ∙ ap (λ l. map (λ (r : GlobalReducer). r.kind) l) (ap (λ x. take n rs ++ x ∷ []) is ∙ sym (take_more rs n r low)))

declared_both : (a b : List Declaration) → declarations_sites (map declaration (a ++ b)) ≡ declarations_sites (map declaration a) ++ declarations_sites (map declaration b)
declared_both [] b = refl
declared_both (d ∷ a) b = ap (λ l. declaration_sites (declaration d) ++ l) (declared_both a b) ∙ sym (append_assoc (declaration_sites (declaration d)) (declarations_sites (map declaration a)) (declarations_sites (map declaration b)))

sites_both : (a b : List Stmt) → all_sites (statements (a ++ b)) ≡ all_sites (statements a) ++ all_sites (statements b)
sites_both [] b = refl
sites_both (s ∷ a) b = ap (λ l. stmt_sites (statement s) ++ l) (sites_both a b) ∙ sym (append_assoc (stmt_sites (statement s)) (all_sites (statements a)) (all_sites (statements b)))

-- one more variable of a declaration
declarations_push : (list : List Declaration) (k : ℕ) (d : Declaration) → declarations_code k (map declaration (list ++ d ∷ [])) ≡ declarations_code k (map declaration list) ++ declaration_code (k + length (declarations_sites (map declaration list))) (declaration d)
declarations_push [] k d = let same : k ≡ k + 0 = omega arith in append_none (declaration_code k (declaration d)) ∙ ap (λ n. declaration_code n (declaration d)) same
declarations_push (a ∷ list) k d =
    let ca = declaration_code k (declaration a) in
    let k1 = k + length (declaration_sites (declaration a)) in
    let rest = map declaration list in
    let same : k1 + length (declarations_sites rest) ≡ k + length (declarations_sites (map declaration (a ∷ list))) = omega (arith, length-append (declaration_sites (declaration a)) (declarations_sites rest)) in
    ap (λ l. ca ++ l) (declarations_push list k1 d) ∙ sym (append_assoc ca (declarations_code k1 rest) (declaration_code (k1 + length (declarations_sites rest)) (declaration d)))
    ∙ ap (λ n. (ca ++ declarations_code k1 rest) ++ declaration_code n (declaration d)) same

declared_sites_push : (list : List Declaration) (d : Declaration) → declarations_sites (map declaration (list ++ d ∷ [])) ≡ declarations_sites (map declaration list) ++ declaration_sites (declaration d)
declared_sites_push [] d = append_none (declaration_sites (declaration d))
declared_sites_push (a ∷ list) d = ap (λ l. declaration_sites (declaration a) ++ l) (declared_sites_push list d) ∙ sym (append_assoc (declaration_sites (declaration a)) (declarations_sites (map declaration list)) (declaration_sites (declaration d)))

declared_room_push : (list : List Declaration) (d : Declaration) → declarations_depth (map declaration (list ++ d ∷ [])) ≡ max (declarations_depth (map declaration list)) (declaration_depth (declaration d))
declared_room_push [] d = omega arith
declared_room_push (a ∷ list) d = omega (arith, declared_room_push list d)

module _ (list : List Declaration) (i : ℕ) (d : Declaration) (low : i < length list) (is : d ≡ get_or list i d) where
  longer : take (i + 1) list ≡ take i list ++ d ∷ []
  longer = take_more list i d low ∙ ap (λ x. take i list ++ x ∷ []) (sym is)

  pub declared_room : declarations_depth (map declaration (take (i + 1) list)) ≡ max (declarations_depth (map declaration (take i list))) (declaration_depth (declaration d))
  declared_room = ap (λ l. declarations_depth (map declaration l)) longer ∙ declared_room_push (take i list) d

  pub declared_sites : (base sites sites' : List Site) → sites ≡ base ++ declarations_sites (map declaration (take i list)) → sites' ≡ sites ++ declaration_sites (declaration d) → sites' ≡ base ++ declarations_sites (map declaration (take (i + 1) list))
  declared_sites base sites sites' e e' =
      let more = declaration_sites (declaration d) in
      e' ∙ ap (λ l. l ++ more) e ∙ append_assoc base (declarations_sites (map declaration (take i list))) more
      ∙ ap (λ l. base ++ l) (sym (ap (λ l. declarations_sites (map declaration l)) longer ∙ declared_sites_push (take i list) d))

  pub declared_code : (base code code' : List Instr) (front sites : List Site) → code ≡ base ++ (Tick ∷ declarations_code (length front) (map declaration (take i list))) → sites ≡ front ++ declarations_sites (map declaration (take i list)) → code' ≡ code ++ declaration_code (length sites) (declaration d) → code' ≡ base ++ (Tick ∷ declarations_code (length front) (map declaration (take (i + 1) list)))
  declared_code base code code' front sites e es e' =
      let so_far = map declaration (take i list) in
      let k = length front in
      let count : length sites ≡ k + length (declarations_sites so_far) = ap length es ∙ length-append front (declarations_sites so_far) in
      e' ∙ ap (λ n. code ++ declaration_code n (declaration d)) count ∙ ap (λ l. l ++ declaration_code (k + length (declarations_sites so_far)) (declaration d)) e
      ∙ append_assoc base (Tick ∷ declarations_code k so_far) (declaration_code (k + length (declarations_sites so_far)) (declaration d))
      ∙ ap (λ l. base ++ (Tick ∷ l)) (sym (ap (λ l. declarations_code k (map declaration l)) longer ∙ declarations_push (take i list) k d))

  pub declared_fits : SitesFit (declarations_sites (map declaration list)) → SitesFit (declaration_sites (declaration d))
  declared_fits fits =
      let whole : list ≡ (take i list ++ d ∷ []) ++ drop (i + 1) list = sym (take-append-drop (i + 1) list) ∙ ap (λ l. l ++ drop (i + 1) list) longer in
      let sites = ap (λ l. declarations_sites (map declaration l)) whole ∙ declared_both (take i list ++ d ∷ []) (drop (i + 1) list) ∙ ap (λ l. l ++ declarations_sites (map declaration (drop (i + 1) list))) (declared_sites_push (take i list) d) in
      let before = declarations_sites (map declaration (take i list)) in
      back_fits before (declaration_sites (declaration d)) (front_fits (before ++ declaration_sites (declaration d)) (declarations_sites (map declaration (drop (i + 1) list))) (subst SitesFit sites fits))

-- one statement of a row
pub row_fits : (list : List Stmt) (i : ℕ) (s : Stmt) → i < length list → s ≡ get_or list i s → SitesFit (all_sites (statements list)) → SitesFit (stmt_sites (statement s))
row_fits list i s low is fits =
    let whole : list ≡ (take i list ++ s ∷ []) ++ drop (i + 1) list = sym (take-append-drop (i + 1) list) ∙ ap (λ l. l ++ drop (i + 1) list) (more list i s low is) in
    let sites = ap (λ l. all_sites (statements l)) whole ∙ sites_both (take i list ++ s ∷ []) (drop (i + 1) list) ∙ ap (λ l. l ++ all_sites (statements (drop (i + 1) list))) (sites_push (take i list) s) in
    let before = all_sites (statements (take i list)) in
    back_fits before (stmt_sites (statement s)) (front_fits (before ++ stmt_sites (statement s)) (all_sites (statements (drop (i + 1) list))) (subst SitesFit sites fits))

pub for_is : (at : ℕ) (v w : Vec Stmt Global) (test : _) (b : _) → statement (stmts.For at v test w b) ≡ trees.For (statements v.items) (optional test) (statements w.items) (statement b.value)
for_is at v w test b =
    ap (λ x. trees.For x (optional test) (row_view (hidden-the_row-Stmt-0 w)) (statement b.value)) (row_is _ (hidden-the_row-Stmt-0 v) ∙ ap statements {x = items-the_row-Stmt _ (hidden-the_row-Stmt-0 v)} {y = v.items} (search (rules, the_lemmas)))
    ∙ ap (λ x. trees.For (statements v.items) (optional test) x (statement b.value)) (row_is _ (hidden-the_row-Stmt-0 w) ∙ ap statements {x = items-the_row-Stmt _ (hidden-the_row-Stmt-0 w)} {y = w.items} (search (rules, the_lemmas)))

pub stmt_some : (k : ℕ) (s : Statement) → 0 < length (stmt_code k s)
stmt_some k trees.Empty = omega arith
stmt_some k (trees.Block row) = omega arith
stmt_some k (trees.Declare ds) = omega arith
stmt_some k (trees.Assign t e) = omega arith
stmt_some k (trees.Change t op e) = omega arith
stmt_some k (trees.Step t n) = omega arith
stmt_some k (trees.Invokes i) = omega arith
stmt_some k trees.Sync = omega arith
stmt_some k (trees.If e s) = omega arith
stmt_some k (trees.IfElse e s t) = omega arith
stmt_some k (trees.For row test step s) = omega arith
stmt_some k (trees.ParallelFor a b n) = omega arith
stmt_some k (trees.Print e) = omega arith
stmt_some k (trees.Update r e) = omega arith
stmt_some k (trees.Set r e) = omega arith
stmt_some k (trees.Return e) = omega arith

-- the parts of a statement
pub block_code : (base c1 c2 : List Instr) (k : ℕ) (row : Statements) → c1 ≡ base ++ Tick ∷ [] → c2 ≡ c1 ++ all_code k row → c2 ≡ base ++ stmt_code k (trees.Block row)
block_code base c1 c2 k row e1 e2 = e2 ∙ ap (λ l. l ++ all_code k row) e1 ∙ append_assoc base (Tick ∷ []) (all_code k row)

pub else_code : (c c' : List Instr) (ss ss' : List Site) (s t : Statement) → ss' ≡ ss ++ stmt_sites s → c' ≡ c ++ stmt_code (length ss') t → c' ≡ c ++ stmt_code (length ss + length (stmt_sites s)) t
else_code c c' ss ss' s t es e = let count : length ss' ≡ length ss + length (stmt_sites s) = ap length es ∙ length-append ss (stmt_sites s) in e ∙ ap (λ n. c ++ stmt_code n t) count

pub two_sites : (ss ss1 ss2 a b : List Site) → ss1 ≡ ss ++ a → ss2 ≡ ss1 ++ b → ss2 ≡ ss ++ (a ++ b)
two_sites ss ss1 ss2 a b e1 e2 = e2 ∙ ap (λ l. l ++ b) e1 ∙ append_assoc ss a b

pub three_sites : (ss ss1 ss2 ss3 a b d : List Site) → ss1 ≡ ss ++ a → ss2 ≡ ss1 ++ b → ss3 ≡ ss2 ++ d → ss3 ≡ ss ++ (a ++ (b ++ d))
three_sites ss ss1 ss2 ss3 a b d e1 e2 e3 = two_sites ss ss1 ss3 a (b ++ d) e1 (two_sites ss1 ss2 ss3 b d e2 e3)

-- the code of a `for` whose parts were counted in order
pub for_code : (ss ss1 ss2 : List Site) (row step : Statements) (test : Option Expression) (s : Statement) → ss1 ≡ ss ++ all_sites row → ss2 ≡ ss1 ++ stmt_sites s →
    (Tick ∷ (all_code (length ss) row ++ turns_code test (stmt_code (length ss1) s ++ all_code (length ss2) step))) ≡ stmt_code (length ss) (trees.For row test step s)
for_code ss ss1 ss2 row step test s e1 e2 =
    let k1 : length ss1 ≡ length ss + length (all_sites row) = ap length e1 ∙ length-append ss (all_sites row) in
    let k2 : length ss2 ≡ length ss + length (all_sites row) + length (stmt_sites s) = ap length e2 ∙ length-append ss1 (stmt_sites s) ∙ ap (λ n. n + length (stmt_sites s)) k1 in
    ap (λ n. Tick ∷ (all_code (length ss) row ++ turns_code test (stmt_code n s ++ all_code (length ss2) step))) k1
    ∙ ap (λ n. Tick ∷ (all_code (length ss) row ++ turns_code test (stmt_code (length ss + length (all_sites row)) s ++ all_code n step))) k2

pub row_code : (c c' : List Instr) (ss ss' : List Site) (row : Statements) (t : Statement) → ss' ≡ ss ++ all_sites row → c' ≡ c ++ stmt_code (length ss') t → c' ≡ c ++ stmt_code (length ss + length (all_sites row)) t
row_code c c' ss ss' row t es e = let count : length ss' ≡ length ss + length (all_sites row) = ap length es ∙ length-append ss (all_sites row) in e ∙ ap (λ n. c ++ stmt_code n t) count

-- a `for`, through its references
pub meant : (at : ℕ) (f : Stmt) (v w : Vec Stmt Global) (test : _) (b : _) (row step : List Stmt) (body : Stmt) → f ≡ stmts.For at v test w b → row ≡ v.items → step ≡ w.items → body ≡ b.value → statement f ≡ trees.For (statements row) (optional test) (statements step) (statement body)
meant at f v w test b row step body is er es eb =
    ap statement is ∙ for_is at v w test b
    ∙ ap (λ l. trees.For (statements l) (optional test) (statements w.items) (statement b.value)) (sym er)
    ∙ ap (λ l. trees.For (statements row) (optional test) (statements l) (statement b.value)) (sym es)
    ∙ ap (λ s. trees.For (statements row) (optional test) (statements step) (statement s)) (sym eb)

pub loop_is : (k : ℕ) (l : Loop) (row : List Stmt) → row ≡ l.body.items →
    (SkipUnlessOne (length (all_code k (statements row)) + 4) ∷ (Turn ∷ (all_code k (statements row) ++ (ends ++ halves_code)))) ≡ loop_code k (loop l)
loop_is k l row e = ap (λ r. SkipUnlessOne (length (all_code k (statements r)) + 4) ∷ (Turn ∷ (all_code k (statements r) ++ (ends ++ halves_code)))) e
