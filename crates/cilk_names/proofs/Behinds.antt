-- A statement keeps the text, the functions, the outer scopes and the number of loop bodies.
use Rattle.std.proofs.Common.{◌≡◌, ℕ, ◌+◌, false, List, [], ◌∷◌, ◌++◌, Option, Some, None, refl, sym, ap, ◌∙◌, subst}
use Rattle.cilk_syntax.specs.Trees as trees
use Rattle.cilk_syntax.specs.declared.tree.Name.{Name}
use Rattle.cilk_names.specs.declared.scene.Frame.{Frame}
use Rattle.cilk_names.specs.Names.{Names, Scope, declare, opened}
use Rattle.cilk_names.specs.Contexts.{Context, in_loop, inside, behind_scope, ahead, with_variable, behind_locals, behind_beginning, in_body, behind_loop, behind, behind_row}
use Rattle.cilk_names.specs.Faults.{again_faults}
use Rattle.cilk_names.specs.declared.table.Meaning.TheVariants as meanings
use Rattle.cilk_program.specs.declared.program.Body.TheVariants as bodies

-- only the statement's own scope may differ
pub record Keeps (old new : Names) : Type 0 where
  pub text : new.text ≡ old.text
  pub signatures : new.signatures ≡ old.signatures
  pub outer : new.outer ≡ old.outer
  pub level : new.level ≡ old.level

pub same : (n : Names) → Keeps n n
same n = record { text = refl; signatures = refl; outer = refl; level = refl }

pub then : (a b c : Names) → Keeps a b → Keeps b c → Keeps a c
then a b c h k = record { text = k.text ∙ h.text; signatures = k.signatures ∙ h.signatures; outer = k.outer ∙ h.outer; level = k.level ∙ h.level }

pub keeps_variable : (c : Context) (x : Name) → Keeps c.names (with_variable c x).names
keeps_variable c x = record { text = refl; signatures = refl; outer = refl; level = refl }

pub keeps_locals : (c : Context) (ls : List trees.Local) → Keeps c.names (behind_locals c ls).names
keeps_locals c [] = same c.names
keeps_locals c (l ∷ ls) = then c.names (with_variable c l.name).names (behind_locals (with_variable c l.name) ls).names (keeps_variable c l.name) (keeps_locals (with_variable c l.name) ls)

pub keeps_beginning : (c : Context) (b : Option trees.Beginning) → Keeps c.names (behind_beginning c b).names
keeps_beginning c None = same c.names
keeps_beginning c (Some (trees.Declares x e)) = keeps_variable c x
keeps_beginning c (Some (trees.Assigns a)) = same c.names

pub keeps : (c : Context) (s : trees.Statement) → Keeps c.names (behind c s).names
keeps c trees.Empty = same c.names
keeps c (trees.Block row) = same c.names
keeps c (trees.Declare ls) = keeps_locals c ls
keeps c (trees.Statement.Reducer r) = record { text = refl; signatures = refl; outer = refl; level = refl }
keeps c (trees.Assign a) = same c.names
keeps c (trees.Statement.Invoke how k) = same c.names
keeps c (trees.AssignCall x how k) = same c.names
keeps c trees.Sync = same c.names
keeps c (trees.If e s) = same c.names
keeps c (trees.IfElse e s other) = same c.names
keeps c (trees.While e s) = same c.names
keeps c (trees.For b e a s) = same c.names
keeps c (trees.ParallelFor b s) = same c.names
keeps c (trees.Return place e) = same c.names
keeps c (trees.Print e) = same c.names
keeps c (trees.Update x e) = same c.names
keeps c (trees.Statement.Set x e) = same c.names

pub keeps_row : (c : Context) (row : trees.Statements) → Keeps c.names (behind_row c row).names
keeps_row c trees.End = same c.names
keeps_row c (trees.Then s row) =
    then c.names (behind (ahead c s) s).names (behind_row (behind (ahead c s) s) row).names (keeps (ahead c s) s) (keeps_row (behind (ahead c s) s) row)

-- the names after a scope is closed
pub closed_names : (n m : Names) → m.text ≡ n.text → m.signatures ≡ n.signatures → m.level ≡ n.level → record m { inner = n.inner; outer = n.outer } ≡ n
closed_names n m t s l =
    ap (λ x. let r : Names = record { text = x; signatures = m.signatures; inner = n.inner; outer = n.outer; level = m.level } in r) t
    ∙ ap (λ x. let r : Names = record { text = n.text; signatures = x; inner = n.inner; outer = n.outer; level = m.level } in r) s
    ∙ ap (λ x. let r : Names = record { text = n.text; signatures = n.signatures; inner = n.inner; outer = n.outer; level = x } in r) l

-- Closing a scope in a context.
abbrev pub Closes : Context → Context → Type 0
Closes after now = (outer : List Scope) (inner : Scope) → after.names.outer ≡ outer ++ inner ∷ [] → now ≡ record after { names = record after.names { inner = inner; outer = outer } }

-- after a closed scope: the outer scopes are those of its context
closed : (c after now : Context) → Keeps (inside c).names after.names → Closes after now → now ≡ behind_scope c after
closed c after now k f =
    f c.names.outer c.names.inner k.outer
    ∙ ap (λ (n : Names). record after { names = n }) (closed_names c.names after.names k.text k.signatures k.level)

pub scope_closed : (c d after now : Context) (s : trees.Statement) → d ≡ inside c → after ≡ behind d s → Closes after now → now ≡ behind_scope c (behind (inside c) s)
scope_closed c d after now s e g f =
    let is : after ≡ behind (inside c) s = g ∙ ap (λ x. behind x s) e in
    let k : Keeps (inside c).names after.names = subst (λ (a : Context). Keeps (inside c).names a.names) (sym is) (keeps (inside c) s) in
    closed c after now k f ∙ ap (behind_scope c) is

pub row_closed : (c d after now : Context) (row : trees.Statements) → d ≡ inside c → after ≡ behind_row d row → Closes after now → now ≡ behind_scope c (behind_row (inside c) row)
row_closed c d after now row e g f =
    let is : after ≡ behind_row (inside c) row = g ∙ ap (λ x. behind_row x row) e in
    let k : Keeps (inside c).names after.names = subst (λ (a : Context). Keeps (inside c).names a.names) (sym is) (keeps_row (inside c) row) in
    closed c after now k f ∙ ap (behind_scope c) is

pub head_closed : (c d e after now : Context) (b : Option trees.Beginning) (s : trees.Statement) → d ≡ inside c → e ≡ behind_beginning d b → after ≡ behind_scope e (behind (inside e) s) → Closes after now
    → now ≡ behind_scope c (behind (inside (behind_beginning (inside c) b)) s)
head_closed c d e after now b s p q r f =
    let e' = behind_beginning (inside c) b in
    let same : e ≡ e' = q ∙ ap (λ x. behind_beginning x b) p in
    let is : after ≡ behind_scope e' (behind (inside e') s) = r ∙ ap (λ x. behind_scope x (behind (inside x) s)) same in
    let k : Keeps (inside c).names after.names = subst (λ (a : Context). Keeps (inside c).names a.names) (sym is) (keeps_beginning (inside c) b) in
    closed c after now k f ∙ ap (behind_scope c) is

-- after the body of a parallel loop
pub loop_closed : (c d after now : Context) (x : Name) (s : trees.Statement) (level : ℕ) (frame : Frame) → d ≡ in_body c x → after ≡ behind_scope d (behind (inside d) s)
    → ((outer : List Scope) (inner : Scope) → after.names.outer ≡ outer ++ inner ∷ [] → now ≡ record after { names = record after.names { inner = inner; outer = outer; level = level }; frame = frame })
    → level ≡ c.names.level → frame ≡ c.frame
    → now ≡ behind_loop c (behind (inside (in_body c x)) s)
loop_closed c d after now x s level frame p q f l m =
    let d' = in_body c x in
    let is : after ≡ behind_scope d' (behind (inside d') s) = q ∙ ap (λ y. behind_scope y (behind (inside y) s)) p in
    f c.names.outer c.names.inner (ap (λ (a : Context). a.names.outer) is)
    ∙ ap (λ (a : Context). record a { names = record a.names { inner = c.names.inner; outer = c.names.outer; level = level }; frame = frame }) is
    ∙ ap (λ (n : ℕ). record (behind_scope d' (behind (inside d') s)) { names = record d'.names { inner = c.names.inner; outer = c.names.outer; level = n }; frame = frame }) l
    ∙ ap (λ (g : Frame). record (behind_scope d' (behind (inside d') s)) { names = c.names; frame = g }) m

-- before the body of a parallel loop
pub entered : (c : Context) (x : Name) (t m : Names) (number level loops : ℕ) → t ≡ opened c.names → m ≡ declare (record t { level = level }) x (meanings.Turn level)
    → level ≡ c.names.level + 1 → number ≡ c.loops → loops ≡ c.loops + 1
    → record c { names = m; frame = record c.frame { body = bodies.Loop number; cells = 1; heading = false }; loops = loops } ≡ in_body c x
entered c x t m number level loops e f g h k =
    let frame : ℕ → Frame = λ i. record c.frame { body = bodies.Loop i; cells = 1; heading = false } in
    let is : m ≡ in_loop c.names x = f ∙ ap (λ (n : Names). declare (record n { level = level }) x (meanings.Turn level)) e ∙ ap (λ (l : ℕ). declare (record (opened c.names) { level = l }) x (meanings.Turn l)) g in
    ap (λ (n : Names). record c { names = n; frame = frame number; loops = loops }) is
    ∙ ap (λ (i : ℕ). record c { names = in_loop c.names x; frame = frame i; loops = loops }) h
    ∙ ap (λ (l : ℕ). record c { names = in_loop c.names x; frame = frame c.loops; loops = l }) k

-- in a new scope a name isn't declared yet
pub not_again : (n t : Names) (x : Name) (level : ℕ) → t ≡ opened n → again_faults (record t { level = level }) x ≡ []
not_again n t x level e = ap (λ (m : Names). again_faults (record m { level = level }) x) e
