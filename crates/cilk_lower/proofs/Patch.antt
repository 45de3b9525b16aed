-- A jump is patched once the code that it skips has been appended. Each lemma follows the code of
-- `lower` from a list to the next.
use Rattle.std.proofs.Common.{◌≡◌, ℕ, ◌+◌, ◌-◌, ◌<◌, List, pos, [], ◌∷◌, ◌++◌, length, Option, Some, None, sym, ap, ◌∙◌, arith, append_assoc, length-append}
use Rattle.std.specs.Prelude.{slice_set}
use Rattle.std.proofs.Math.Seq.{set-append_seam}
use Rattle.std.proofs.lemmas.List.{set-append_left}
use Rattle.cilk_lower.specs.declared.code.Instr.{Instr}
use Rattle.cilk_lower.specs.declared.code.Instr.TheVariants.{Tick, Push, Truth, JumpIfZero, Jump, JumpBack, JumpBackUnlessZero, SkipUnlessOne, Turn}
use Rattle.cilk_program.specs.Syntax.{Expression}
use Rattle.cilk_lower.specs.Turns.{test_code, turned}
use Rattle.cilk_lower.proofs.Lists.{append_none}
use Rattle.cilk_lower.specs.Code.{expr_code, turns_code, ends, halves_code, if_code, if_else_code, and_code, or_code}

-- a jump, and the code after it
jumped : (c1 c2 c3 a : List Instr) (x : Instr) → c2 ≡ c1 ++ x ∷ [] → c3 ≡ c2 ++ a → c3 ≡ c1 ++ x ∷ a
jumped c1 c2 c3 a x e2 e3 = e3 ∙ ap (λ l. l ++ a) e2 ∙ append_assoc c1 (x ∷ []) a

written : (c front behind : List Instr) (x i : Instr) (n : ℕ) → c ≡ front ++ x ∷ behind → n ≡ length front → slice_set c n i ≡ front ++ i ∷ behind
written c front behind x i n e m = ap (λ l. slice_set l n i) e ∙ ap (λ n. slice_set (front ++ x ∷ behind) n i) m ∙ set-append_seam front x behind i

behind_it : (c front behind : List Instr) (x : Instr) (n : ℕ) → c ≡ front ++ x ∷ behind → n ≡ length front → length c - n - 1 ≡ length behind
behind_it c front behind x n e m = let l = ap length e ∙ length-append front (x ∷ behind) in omega arith

test_passes : (c front behind : List Instr) (x : Instr) (n : ℕ) → c ≡ front ++ x ∷ behind → n ≡ length front → slice_set c n (JumpIfZero (length c - n - 1)) ≡ front ++ JumpIfZero (length behind) ∷ behind
test_passes c front behind x n e m = written c front behind x _ n e m ∙ ap (λ k. front ++ JumpIfZero k ∷ behind) (behind_it c front behind x n e m)

jump_passes : (c front behind : List Instr) (x : Instr) (n : ℕ) → c ≡ front ++ x ∷ behind → n ≡ length front → slice_set c n (Jump (length c - n - 1)) ≡ front ++ Jump (length behind) ∷ behind
jump_passes c front behind x n e m = written c front behind x _ n e m ∙ ap (λ k. front ++ Jump k ∷ behind) (behind_it c front behind x n e m)

one_more : (a : List Instr) (x : Instr) → length (a ++ x ∷ []) ≡ length a + 1
one_more a x = omega (arith, length-append a (x ∷ []))

-- a tick, a test, and the jump that it decides
begun : (base tc c : List Instr) → c ≡ base ++ (Tick ∷ (tc ++ JumpIfZero 0 ∷ [])) → c ≡ (base ++ (Tick ∷ tc)) ++ JumpIfZero 0 ∷ []
begun base tc c e = e ∙ sym (append_assoc base (Tick ∷ tc) (JumpIfZero 0 ∷ []))

begun_long : (base tc : List Instr) (n : ℕ) → n ≡ length base + 1 + length tc → n ≡ length (base ++ (Tick ∷ tc))
begun_long base tc n m = omega (arith, m, length-append base (Tick ∷ tc))

pub patch_if : (base tc ac c2 c3 c4 : List Instr) (n : ℕ) → c2 ≡ base ++ (Tick ∷ (tc ++ JumpIfZero 0 ∷ [])) → n ≡ length base + 1 + length tc → c3 ≡ c2 ++ ac → c4 ≡ slice_set c3 n (JumpIfZero (length c3 - n - 1)) → c4 ≡ base ++ (Tick ∷ if_code tc ac)
patch_if base tc ac c2 c3 c4 n e2 m e3 e4 =
    let i = JumpIfZero (length ac) in
    let c1 = base ++ (Tick ∷ tc) in
    e4 ∙ test_passes c3 c1 ac (JumpIfZero 0) n (jumped c1 c2 c3 ac _ (begun base tc c2 e2) e3) (begun_long base tc n m) ∙ append_assoc base (Tick ∷ tc) (i ∷ ac)

pub patch_if_else : (base tc ac bc c2 c3 c5 c6 c7 : List Instr) (n1 n2 : ℕ) → c2 ≡ base ++ (Tick ∷ (tc ++ JumpIfZero 0 ∷ [])) → n1 ≡ length base + 1 + length tc → c3 ≡ c2 ++ ac → n2 ≡ length c3 → c5 ≡ slice_set (c3 ++ Jump 0 ∷ []) n1 (JumpIfZero (length c3 - n1)) → c6 ≡ c5 ++ bc → c7 ≡ slice_set c6 n2 (Jump (length c6 - n2 - 1)) → c7 ≡ base ++ (Tick ∷ if_else_code tc ac bc)
patch_if_else base tc ac bc c2 c3 c5 c6 c7 n1 n2 e2 m1 e3 m2 e5 e6 e7 =
    let c1 = base ++ (Tick ∷ tc) in
    let first = ac ++ Jump 0 ∷ [] in
    let i = JumpIfZero (length ac + 1) in
    let j = Jump (length bc) in
    let front = c1 ++ i ∷ ac in
    let at1 = begun_long base tc n1 m1 in
    let k3 = jumped c1 c2 c3 ac _ (begun base tc c2 e2) e3 in
    let l3 = ap length k3 ∙ length-append c1 (JumpIfZero 0 ∷ ac) in
    let k4 : c3 ++ Jump 0 ∷ [] ≡ c1 ++ JumpIfZero 0 ∷ first = ap (λ l. l ++ Jump 0 ∷ []) k3 ∙ append_assoc c1 (JumpIfZero 0 ∷ ac) (Jump 0 ∷ []) in
    let far : length c3 - n1 ≡ length ac + 1 = omega arith in
    let k5 : c5 ≡ c1 ++ i ∷ first = e5 ∙ ap (λ k. slice_set (c3 ++ Jump 0 ∷ []) n1 (JumpIfZero k)) far ∙ written (c3 ++ Jump 0 ∷ []) c1 first (JumpIfZero 0) i n1 k4 at1 in
    let flat : (c1 ++ i ∷ first) ++ bc ≡ front ++ Jump 0 ∷ bc = simp append_assoc in
    let at : n2 ≡ length front = omega (arith, length-append c1 (i ∷ ac)) in
    e7 ∙ jump_passes c6 front bc (Jump 0) n2 (e6 ∙ ap (λ l. l ++ bc) k5 ∙ flat) at
    ∙ append_assoc c1 (i ∷ ac) (j ∷ bc)
    ∙ append_assoc base (Tick ∷ tc) (i ∷ (ac ++ j ∷ bc))

pub patch_and : (base ca cb c1 c2 c3 c4 : List Instr) (n : ℕ) → c1 ≡ base ++ ca → n ≡ length c1 → c2 ≡ c1 ++ JumpIfZero 0 ∷ [] → c3 ≡ c2 ++ cb → c4 ≡ slice_set c3 n (JumpIfZero (length c3 - n + 1)) ++ (Truth ∷ (Jump 1 ∷ (Push (pos 0) ∷ []))) → c4 ≡ base ++ and_code ca cb
patch_and base ca cb c1 c2 c3 c4 n e1 m e2 e3 e4 =
    let post = Truth ∷ (Jump 1 ∷ (Push (pos 0) ∷ [])) in
    let i = JumpIfZero (length cb + 2) in
    let k3 = jumped c1 c2 c3 cb _ e2 e3 in
    let l3 = ap length k3 ∙ length-append c1 (JumpIfZero 0 ∷ cb) in
    let far : length c3 - n + 1 ≡ length cb + 2 = omega arith in
    e4 ∙ ap (λ l. l ++ post) (written c3 c1 cb (JumpIfZero 0) _ n k3 m ∙ ap (λ k. c1 ++ JumpIfZero k ∷ cb) far)
    ∙ append_assoc c1 (i ∷ cb) post
    ∙ ap (λ l. l ++ (i ∷ (cb ++ post))) e1
    ∙ append_assoc base ca (i ∷ (cb ++ post))

pub patch_or : (base ca cb c1 c2 c3 c4 : List Instr) (n : ℕ) → c1 ≡ base ++ ca → n ≡ length c1 + 2 → c2 ≡ c1 ++ (JumpIfZero 2 ∷ (Push (pos 1) ∷ (Jump 0 ∷ []))) → c3 ≡ c2 ++ cb → c4 ≡ slice_set c3 n (Jump (length c3 - n)) ++ Truth ∷ [] → c4 ≡ base ++ or_code ca cb
patch_or base ca cb c1 c2 c3 c4 n e1 m e2 e3 e4 =
    let pre = JumpIfZero 2 ∷ (Push (pos 1) ∷ []) in
    let front = c1 ++ pre in
    let j = Jump (length cb + 1) in
    let flat : (c1 ++ (JumpIfZero 2 ∷ (Push (pos 1) ∷ (Jump 0 ∷ [])))) ++ cb ≡ front ++ Jump 0 ∷ cb = simp append_assoc in
    let k3 : c3 ≡ front ++ Jump 0 ∷ cb = e3 ∙ ap (λ l. l ++ cb) e2 ∙ flat in
    let lf = length-append c1 pre in
    let l3 = ap length k3 ∙ length-append front (Jump 0 ∷ cb) in
    let at : n ≡ length front = omega arith in
    let far : length c3 - n ≡ length cb + 1 = omega arith in
    let last : ((base ++ ca) ++ (JumpIfZero 2 ∷ (Push (pos 1) ∷ (j ∷ cb)))) ++ Truth ∷ [] ≡ base ++ (ca ++ (JumpIfZero 2 ∷ (Push (pos 1) ∷ (j ∷ (cb ++ Truth ∷ []))))) = simp append_assoc in
    e4 ∙ ap (λ l. l ++ Truth ∷ []) (written c3 front cb (Jump 0) _ n k3 at ∙ ap (λ k. front ++ Jump k ∷ cb) far ∙ append_assoc c1 pre (j ∷ cb))
    ∙ ap (λ l. (l ++ (JumpIfZero 2 ∷ (Push (pos 1) ∷ (j ∷ cb)))) ++ Truth ∷ []) e1
    ∙ last

pub and_ends : (c0 c1 c2 c3 c4 : List Instr) (n : ℕ) → n < length c0 → c1 ≡ c0 ++ Truth ∷ [] → c2 ≡ c1 ++ Jump 1 ∷ [] → c3 ≡ slice_set c2 n (JumpIfZero (length c2 - n - 1)) → c4 ≡ c3 ++ Push (pos 0) ∷ [] → c4 ≡ slice_set c0 n (JumpIfZero (length c0 - n + 1)) ++ (Truth ∷ (Jump 1 ∷ (Push (pos 0) ∷ [])))
and_ends c0 c1 c2 c3 c4 n low e1 e2 e3 e4 =
    let i = JumpIfZero (length c0 - n + 1) in
    let k2 = e2 ∙ ap (λ l. l ++ Jump 1 ∷ []) e1 ∙ append_assoc c0 (Truth ∷ []) (Jump 1 ∷ []) in
    let l2 = ap length k2 ∙ length-append c0 (Truth ∷ (Jump 1 ∷ [])) in
    let far : length c2 - n - 1 ≡ length c0 - n + 1 = omega arith in
    e4 ∙ ap (λ l. l ++ Push (pos 0) ∷ []) (e3 ∙ ap (λ k. slice_set c2 n (JumpIfZero k)) far ∙ ap (λ l. slice_set l n i) k2 ∙ set-append_left c0 (Truth ∷ (Jump 1 ∷ [])) n i low)
    ∙ append_assoc (slice_set c0 n i) (Truth ∷ (Jump 1 ∷ [])) (Push (pos 0) ∷ [])

pub or_ends : (c0 c1 c2 : List Instr) (n : ℕ) → n < length c0 → c1 ≡ c0 ++ Truth ∷ [] → c2 ≡ slice_set c1 n (Jump (length c1 - n - 1)) → c2 ≡ slice_set c0 n (Jump (length c0 - n)) ++ Truth ∷ []
or_ends c0 c1 c2 n low e1 e2 =
    let j = Jump (length c0 - n) in
    let l1 = ap length e1 ∙ length-append c0 (Truth ∷ []) in
    let far : length c1 - n - 1 ≡ length c0 - n = omega arith in
    e2 ∙ ap (λ k. slice_set c1 n (Jump k)) far ∙ ap (λ l. slice_set l n j) e1 ∙ set-append_left c0 (Truth ∷ []) n j low

-- the turns of a `for`: their condition, then a turn, then back
pub patch_turns : (test : Option Expression) (base turn c1 c2 c3 : List Instr) → c1 ≡ base ++ test_code test → c2 ≡ c1 ++ turn → c3 ≡ turned test (length c1) c2 → c3 ≡ base ++ turns_code test turn
patch_turns None base turn c1 c2 c3 e1 e2 e3 =
    let k1 : c1 ≡ base = e1 ∙ append_none base in
    let k2 : c2 ≡ base ++ turn = e2 ∙ ap (λ l. l ++ turn) k1 in
    let far : length c2 - length c1 ≡ length turn = omega (arith, ap length e2, length-append c1 turn) in
    e3 ∙ ap (λ d. c2 ++ JumpBack d ∷ []) far ∙ ap (λ l. l ++ JumpBack (length turn) ∷ []) k2 ∙ append_assoc base turn (JumpBack (length turn) ∷ [])
patch_turns (Some e) base turn c1 c2 c3 e1 e2 e3 =
    let ce = expr_code e in
    let front = base ++ ce in
    let n = length c1 - 1 in
    let d = JumpBackUnlessZero (length turn + length ce) in
    let i = JumpIfZero (length turn + length ce + 1) in
    let behind = turn ++ (ce ++ d ∷ []) in
    let all = (c2 ++ ce) ++ d ∷ [] in
    let k1 : c1 ≡ front ++ JumpIfZero 0 ∷ [] = e1 ∙ sym (append_assoc base ce (JumpIfZero 0 ∷ [])) in
    let k2 : c2 ≡ front ++ JumpIfZero 0 ∷ turn = e2 ∙ ap (λ l. l ++ turn) k1 ∙ append_assoc front (JumpIfZero 0 ∷ []) turn in
    let at : n ≡ length front = omega (arith, ap length k1, length-append front (JumpIfZero 0 ∷ [])) in
    let far : length (c2 ++ ce) - length c1 ≡ length turn + length ce = omega (arith, length-append c2 ce, ap length e2, length-append c1 turn) in
    let flat : ((front ++ JumpIfZero 0 ∷ turn) ++ ce) ++ d ∷ [] ≡ front ++ JumpIfZero 0 ∷ behind = simp append_assoc in
    let k3 : all ≡ front ++ JumpIfZero 0 ∷ behind = ap (λ l. (l ++ ce) ++ d ∷ []) k2 ∙ flat in
    let long : length behind ≡ length turn + length ce + 1 = omega (arith, length-append turn (ce ++ d ∷ []), length-append ce (d ∷ [])) in
    e3 ∙ ap (λ k. let back = (c2 ++ ce) ++ JumpBackUnlessZero k ∷ [] in slice_set back n (JumpIfZero (length back - n - 1))) far
    ∙ test_passes all front behind (JumpIfZero 0) n k3 at
    ∙ ap (λ k. front ++ JumpIfZero k ∷ behind) long
    ∙ append_assoc base ce (i ∷ behind)

pub patch_for : (test : Option Expression) (base row cs cp c1 c2 c3 c4 c5 c6 : List Instr) (start : ℕ) → c1 ≡ base ++ Tick ∷ [] → c2 ≡ c1 ++ row → c3 ≡ c2 ++ test_code test → start ≡ length c3 → c4 ≡ c3 ++ cs → c5 ≡ c4 ++ cp → c6 ≡ turned test start c5 →
    c6 ≡ base ++ (Tick ∷ (row ++ turns_code test (cs ++ cp)))
patch_for test base row cs cp c1 c2 c3 c4 c5 c6 start e1 e2 e3 m e4 e5 e6 =
    let turn : c5 ≡ c3 ++ (cs ++ cp) = e5 ∙ ap (λ l. l ++ cp) e4 ∙ append_assoc c3 cs cp in
    let end : c6 ≡ turned test (length c3) c5 = e6 ∙ ap (λ n. turned test n c5) m in
    let loop = turns_code test (cs ++ cp) in
    patch_turns test c2 (cs ++ cp) c3 c5 c6 e3 turn end
    ∙ ap (λ l. l ++ loop) (e2 ∙ ap (λ l. l ++ row) e1 ∙ append_assoc base (Tick ∷ []) row)
    ∙ append_assoc base (Tick ∷ row) loop

-- the tick of a `for` is before its body
pub turn_follows : (base row test c1 c2 c3 : List Instr) → c1 ≡ base ++ Tick ∷ [] → c2 ≡ c1 ++ row → c3 ≡ c2 ++ test → 0 < length c3
turn_follows base row test c1 c2 c3 e1 e2 e3 =
    let l1 = ap length e1 ∙ length-append base (Tick ∷ []) in
    let l2 = ap length e2 ∙ length-append c1 row in
    let l3 = ap length e3 ∙ length-append c2 test in
    omega arith

pub turn_starts : (cs cp c3 c4 c5 : List Instr) → c4 ≡ c3 ++ cs → c5 ≡ c4 ++ cp → 0 < length cs → length c3 < length c5
turn_starts cs cp c3 c4 c5 e4 e5 some =
    let l4 = ap length e4 ∙ length-append c3 cs in
    let l5 = ap length e5 ∙ length-append c4 cp in
    omega arith

-- a loop's frame
pub patch_loop : (base cb c1 c2 c3 c4 c5 c6 : List Instr) (n : ℕ) → c1 ≡ base ++ SkipUnlessOne 0 ∷ [] → n ≡ length base → c2 ≡ c1 ++ Turn ∷ [] → c3 ≡ c2 ++ cb → c4 ≡ c3 ++ ends → c5 ≡ slice_set c4 n (SkipUnlessOne (length c4 - n - 1)) → c6 ≡ c5 ++ halves_code →
    c6 ≡ base ++ (SkipUnlessOne (length cb + 4) ∷ (Turn ∷ (cb ++ (ends ++ halves_code))))
patch_loop base cb c1 c2 c3 c4 c5 c6 n e1 m e2 e3 e4 e5 e6 =
    let behind = Turn ∷ (cb ++ ends) in
    let i = SkipUnlessOne (length cb + 4) in
    let k4 : c4 ≡ base ++ SkipUnlessOne 0 ∷ behind = e4 ∙ ap (λ l. l ++ ends) (e3 ∙ ap (λ l. l ++ cb) (e2 ∙ ap (λ l. l ++ Turn ∷ []) e1)) ∙ simp append_assoc in
    let far : length c4 - n - 1 ≡ length cb + 4 = omega (arith, behind_it c4 base behind (SkipUnlessOne 0) n k4 m, length-append cb ends) in
    e6 ∙ ap (λ l. l ++ halves_code) (e5 ∙ ap (λ k. slice_set c4 n (SkipUnlessOne k)) far ∙ written c4 base behind (SkipUnlessOne 0) i n k4 m) ∙ simp append_assoc
