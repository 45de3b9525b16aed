-- The list of loops. The place of a loop is reserved before those of the loops in its body.
use Rattle.std.proofs.Common.{◌≡◌, ℕ, zero, suc, ◌+◌, ◌<◌, List, [], ◌∷◌, ◌++◌, length, map, slice_set, refl, sym, ap, ◌∙◌, length-append, arith}
use Rattle.cilk_syntax.specs.declared.tree.Name.{Name}
use Rattle.cilk_syntax.specs.Trees as trees
use Rattle.cilk_program.specs.declared.program.Body.{Body}
use Rattle.cilk_program.specs.declared.program.Loop as coded
use Rattle.cilk_program.specs.declared.syntax.Stmt.{Stmt}
use Rattle.cilk_program.specs.Programs as programs
use Rattle.cilk_program.specs.Syntax.{Loop, Statement, Nothing, Then}
use Rattle.cilk_names.specs.Contexts.{Context, inside, behind_scope, in_body, behind}
use Rattle.cilk_names.specs.Pass.{loop_of, loops_of, statement_of}

length_map : {A B : Type 0} (f : A → B) (xs : List A) → length (map f xs) ≡ length xs
length_map f [] = refl
length_map f (x ∷ xs) = ap suc (length_map f xs)

set_middle : {A : Type 0} (xs ys : List A) (p v : A) → slice_set ((xs ++ p ∷ []) ++ ys) (length xs) v ≡ xs ++ v ∷ ys
set_middle [] ys p v = refl
set_middle (x ∷ xs) ys p v = ap (λ zs. x ∷ zs) (set_middle xs ys p v)

-- the place is in the list
pub place_taken : (old entered after : List coded.Loop) (p : Loop) (more : List Loop) (n : ℕ)
    → map programs.loop entered ≡ map programs.loop old ++ p ∷ [] → map programs.loop after ≡ map programs.loop entered ++ more → n ≡ length old → n < length after
place_taken old entered after p more n e f g =
    let a : length after ≡ length (map programs.loop entered) + length more = sym (length_map programs.loop after) ∙ ap length f ∙ length-append (map programs.loop entered) more in
    let b : length (map programs.loop entered) ≡ length old + 1 = ap length e ∙ length-append (map programs.loop old) (p ∷ []) ∙ ap (λ k. k + 1) (length_map programs.loop old) in
    omega arith

-- the loop is put in it
pub loop_taken : (c d after : Context) (x : Name) (s : trees.Statement) (old entered scoped now : List coded.Loop) (p : Loop) (n : ℕ) (within : Body) (r : Statement)
    → d ≡ in_body c x → after ≡ behind_scope d (behind (inside d) s) → r ≡ statement_of (inside d) s → within ≡ c.frame.body
    → map programs.loop entered ≡ map programs.loop old ++ p ∷ [] → map programs.loop scoped ≡ map programs.loop entered ++ loops_of (inside d) s → n ≡ length old
    → map programs.loop now ≡ slice_set (map programs.loop scoped) n (record { within = within; cells = after.frame.cells; body = Then r Nothing })
    → map programs.loop now ≡ map programs.loop old ++ (loop_of c x s ∷ loops_of (inside (in_body c x)) s)
loop_taken c d after x s old entered scoped now p n within r e f g w l m k h =
    let d' = in_body c x in
    let is : after ≡ behind_scope d' (behind (inside d') s) = f ∙ ap (λ y. behind_scope y (behind (inside y) s)) e in
    let made : Loop = record { within = within; cells = after.frame.cells; body = Then r Nothing } in
    let whole : map programs.loop scoped ≡ (map programs.loop old ++ p ∷ []) ++ loops_of (inside d') s = m ∙ ap (λ xs. xs ++ loops_of (inside d) s) l ∙ ap (λ y. (map programs.loop old ++ p ∷ []) ++ loops_of (inside y) s) e in
    let at : n ≡ length (map programs.loop old) = k ∙ sym (length_map programs.loop old) in
    h
    ∙ ap (λ xs. slice_set xs n made) whole
    ∙ ap (λ i. slice_set ((map programs.loop old ++ p ∷ []) ++ loops_of (inside d') s) i made) at
    ∙ set_middle (map programs.loop old) (loops_of (inside d') s) p made
    ∙ ap (λ (b : Body). let l : Loop = record { within = b; cells = after.frame.cells; body = Then r Nothing } in map programs.loop old ++ (l ∷ loops_of (inside d') s)) w
    ∙ ap (λ (a : Context). let l : Loop = record { within = c.frame.body; cells = a.frame.cells; body = Then r Nothing } in map programs.loop old ++ (l ∷ loops_of (inside d') s)) is
    ∙ ap (λ (b : Statement). let l : Loop = record { within = c.frame.body; cells = (behind (inside d') s).frame.cells; body = Then b Nothing } in map programs.loop old ++ (l ∷ loops_of (inside d') s)) (g ∙ ap (λ y. statement_of (inside y) s) e)

map_set : {A B : Type 0} (f : A → B) (xs : List A) (n : ℕ) (v : A) → map f (slice_set xs n v) ≡ slice_set (map f xs) n (f v)
map_set f [] n v = refl
map_set f (x ∷ xs) zero v = refl
map_set f (x ∷ xs) (suc n) v = ap (λ ys. f x ∷ ys) (map_set f xs n v)

-- a loop whose body is a row of one statement
pub loop_left : (xs : List coded.Loop) (n : ℕ) (l : coded.Loop) (s : Stmt) → l.body.items ≡ s ∷ []
    → map programs.loop (slice_set xs n l) ≡ slice_set (map programs.loop xs) n (record { within = l.within; cells = l.cells; body = Then (programs.statement s) Nothing })
loop_left xs n l s e =
    map_set programs.loop xs n l
    ∙ ap (λ (b : List Stmt). slice_set (map programs.loop xs) n (record { within = l.within; cells = l.cells; body = programs.statements b })) e
