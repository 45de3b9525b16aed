-- Operands that become words of an invocation.
use Rattle.std.proofs.Common.{◌≡◌, ◌≢◌, ℕ, zero, suc, ◌≤◌, ℤ, List, [], ◌∷◌, length, refl, ap, ◌∙◌, arith}
use Rattle.cilk_lower.specs.Machine.{Move, Stuck, on_words}

pub words_more : (n m : ℕ) (w : ℤ) (words stack rest : List ℤ) (go : List ℤ → List ℤ → Move) → n ≡ suc m → stack ≡ w ∷ rest → on_words n words stack go ≡ on_words m (w ∷ words) rest go
words_more n m w words stack rest go e f = ap (λ n. on_words n words stack go) e ∙ ap (λ s. on_words (suc m) words s go) f

pub words_there : (n : ℕ) (words stack : List ℤ) (go : List ℤ → List ℤ → Move) → on_words n words stack go ≢ Stuck → n ≤ length stack
words_there zero words stack go h = omega arith
words_there (suc n) words [] go h = absurd (h refl)
words_there (suc n) words (x ∷ stack) go h = let k = words_there n (x ∷ words) stack go h in omega arith

pub none_there : (stack : List ℤ) → ((x : ℤ) (rest : List ℤ) → stack ≢ (x ∷ rest)) → stack ≡ []
none_there [] h = refl
none_there (x ∷ rest) h = absurd (h x rest refl)
