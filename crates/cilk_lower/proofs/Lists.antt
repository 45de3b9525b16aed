-- Lists that were put together piece by piece.
use Rattle.std.proofs.Common.{◌≡◌, List, [], ◌∷◌, ◌++◌, refl, ap, ◌∙◌, append_assoc}
use Rattle.cilk_lower.specs.declared.code.Instr.{Instr}
use Rattle.cilk_lower.specs.declared.code.Instr.TheVariants as instrs
use Rattle.cilk_lower.specs.Code.{ends}

pub append_none : {A : Type 0} (l : List A) → l ++ [] ≡ l
append_none [] = refl
append_none (x ∷ l) = ap (λ k. x ∷ k) (append_none l)

pub assigned : (base index value c1 c2 c3 c4 : List Instr) (last : Instr) → c1 ≡ base ++ instrs.Tick ∷ [] → c2 ≡ c1 ++ index → c3 ≡ c2 ++ value → c4 ≡ c3 ++ last ∷ [] → c4 ≡ base ++ (instrs.Tick ∷ (index ++ (value ++ last ∷ [])))
assigned base index value c1 c2 c3 c4 last e1 e2 e3 e4 =
    e4 ∙ ap (λ l. l ++ last ∷ []) (e3 ∙ ap (λ l. l ++ value) (e2 ∙ ap (λ l. l ++ index) e1)) ∙ simp append_assoc

pub changed : (base index value c1 c2 c3 c4 c5 c6 : List Instr) (first combine last : Instr) → c1 ≡ base ++ instrs.Tick ∷ [] → c2 ≡ c1 ++ index → c3 ≡ c2 ++ first ∷ [] → c4 ≡ c3 ++ value → c5 ≡ c4 ++ combine ∷ [] → c6 ≡ c5 ++ last ∷ [] → c6 ≡ base ++ (instrs.Tick ∷ (index ++ (first ∷ (value ++ (combine ∷ (last ∷ []))))))
changed base index value c1 c2 c3 c4 c5 c6 first combine last e1 e2 e3 e4 e5 e6 =
    e6 ∙ ap (λ l. l ++ last ∷ []) (e5 ∙ ap (λ l. l ++ combine ∷ []) (e4 ∙ ap (λ l. l ++ value) (e3 ∙ ap (λ l. l ++ first ∷ []) (e2 ∙ ap (λ l. l ++ index) e1)))) ∙ simp append_assoc

pub stepped : (base index c1 c2 c3 c4 c5 : List Instr) (first add last : Instr) → c1 ≡ base ++ instrs.Tick ∷ [] → c2 ≡ c1 ++ index → c3 ≡ c2 ++ first ∷ [] → c4 ≡ c3 ++ add ∷ [] → c5 ≡ c4 ++ last ∷ [] → c5 ≡ base ++ (instrs.Tick ∷ (index ++ (first ∷ (add ∷ (last ∷ [])))))
stepped base index c1 c2 c3 c4 c5 first add last e1 e2 e3 e4 e5 =
    e5 ∙ ap (λ l. l ++ last ∷ []) (e4 ∙ ap (λ l. l ++ add ∷ []) (e3 ∙ ap (λ l. l ++ first ∷ []) (e2 ∙ ap (λ l. l ++ index) e1))) ∙ simp append_assoc

pub called : (base low high c1 c2 c3 c4 : List Instr) (first last : Instr) → c1 ≡ base ++ (instrs.Tick ∷ low) → c2 ≡ c1 ++ high → c3 ≡ c2 ++ first ∷ [] → c4 ≡ c3 ++ last ∷ [] → c4 ≡ base ++ (instrs.Tick ∷ (low ++ (high ++ (first ∷ (last ∷ [])))))
called base low high c1 c2 c3 c4 first last e1 e2 e3 e4 =
    e4 ∙ ap (λ l. l ++ last ∷ []) (e3 ∙ ap (λ l. l ++ first ∷ []) (e2 ∙ ap (λ l. l ++ high) e1)) ∙ simp append_assoc

pub returned_value : (base value c1 c2 c3 : List Instr) → c1 ≡ base ++ (instrs.Tick ∷ value) → c2 ≡ c1 ++ instrs.SetResult ∷ [] → c3 ≡ c2 ++ ends → c3 ≡ base ++ (instrs.Tick ∷ (value ++ (instrs.SetResult ∷ ends)))
returned_value base value c1 c2 c3 e1 e2 e3 =
    e3 ∙ ap (λ l. l ++ ends) (e2 ∙ ap (λ l. l ++ instrs.SetResult ∷ []) e1) ∙ simp append_assoc
