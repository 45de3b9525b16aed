-- The machine reaches at most one request, for any bound on its instructions.
use Rattle.std.proofs.Common.{◌≡◌, ℕ, zero, suc, ◌+◌, ℤ, Bool, true, false, List, [], ◌∷◌, length, subst, arith, if◌then◌else◌}
use Rattle.std.specs.Prelude.{slice_get, nat_lt}
use Rattle.cilk_program.specs.Behaviour.{OpenAsk}
use Rattle.cilk_lower.specs.declared.code.Owed.TheVariants.{Nothing, Word}
use Rattle.cilk_lower.specs.Machine.{Setting, Move, Goes, Waits, Stops, Stuck, move, MachineRun, Reaches, Fails, Next, going, exec}

-- if both runs reach a request, it is the same
abbrev Carries : Next → Next → OpenAsk → Type 0
Carries f g k = (place : ℕ) (stack : List ℤ) (held : ℤ) (answers : List ℤ) (left : ℕ) → f place stack held answers left ≡ Reaches k → g place stack held answers left ≡ Reaches k

word_carries : (t : Bool) (x y : MachineRun) (k : OpenAsk) → (x ≡ Reaches k → y ≡ Reaches k) → (if t then x else Fails) ≡ Reaches k → (if t then y else Fails) ≡ Reaches k
word_carries true x y k h e = h e
word_carries false x y k h e = e

going_carries : (room : ℕ) (m : Move) (answers : List ℤ) (f g : Next) (k : OpenAsk) → Carries f g k → going room m answers f ≡ Reaches k → going room m answers g ≡ Reaches k
going_carries room (Goes place stack held left) answers f g k h e = h place stack held answers left e
going_carries room (Waits a owed place stack held left) [] f g k h e = e
going_carries room (Waits a Nothing place stack held left) (v ∷ answers) f g k h e = h place stack held answers left e
going_carries room (Waits a Word place stack held left) (v ∷ answers) f g k h e =
    word_carries (nat_lt (length stack) room) (f place (v ∷ stack) held answers left) (g place (v ∷ stack) held answers left) k (h place (v ∷ stack) held answers left) e
going_carries room (Stops a left) answers f g k h e = e
going_carries room Stuck answers f g k h e = e

more_carries : (m : Setting) (d : ℕ) (k : OpenAsk) (n : ℕ) → Carries (exec m n) (exec m (n + d)) k
more_carries m d k zero place stack held answers left e = cc
more_carries m d k (suc n) place stack held answers left e =
    let same : suc (n + d) ≡ suc n + d = omega arith in
    subst (λ j. exec m j place stack held answers left ≡ Reaches k) same
    (going_carries m.room (move m (slice_get m.code.instrs place) place stack held left) answers (exec m n) (exec m (n + d)) k (more_carries m d k n) e)

pub one_ask : (m : Setting) (n k place : ℕ) (stack : List ℤ) (held : ℤ) (answers : List ℤ) (left : ℕ) (a b : OpenAsk) → exec m n place stack held answers left ≡ Reaches a → exec m k place stack held answers left ≡ Reaches b → a ≡ b
one_ask m n k place stack held answers left a b e e' =
    let same : k + n ≡ n + k = omega arith in
    let first = more_carries m k a n place stack held answers left e in
    let second = subst (λ j. exec m j place stack held answers left ≡ Reaches b) same (more_carries m n b k place stack held answers left e') in
    cc
