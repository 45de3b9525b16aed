-- A jump back leaves less to do before the next tick.
use Rattle.std.proofs.Common.{◌≡◌, ℕ, suc, ◌+◌, ◌-◌, ◌*◌, ◌<◌, ◌≤◌, Bool, true, false, List, length, Some, refl, sym, ap, ◌∙◌, arith, if◌then◌else◌, IsTrue}
use Rattle.std.proofs.Math.Nat.{mul-le-mul_right, suc-mul}
use Rattle.std.specs.Prelude.{slice_get}
use Rattle.std.proofs.lemmas.Option.{slice_get_within}
use Rattle.cilk_lower.specs.declared.code.Instr.{Instr}
use Rattle.cilk_lower.specs.declared.code.Instr.TheVariants.{JumpBack, JumpBackUnlessZero}
use Rattle.cilk_lower.specs.Code.{ticks}
use Rattle.cilk_frames.specs.Moving.{effort}

none_left : (b : Bool) (x : ℕ) → IsTrue b → (if b then 0 else x) ≡ 0
none_left b x h = ap (λ b. if b then 0 else x) h

falls : (code : List Instr) (place to left : ℕ) (i : Instr) → slice_get code place ≡ Some i → ticks (Some i) ≡ false → IsTrue (ticks (slice_get code to)) → effort code to left < effort code place left
falls code place to left i at none back =
    let w = slice_get_within code place i at in
    let zero : (if ticks (slice_get code to) then 0 else length code + 1 - to) ≡ 0 = none_left _ _ back in
    let here : (if ticks (slice_get code place) then 0 else length code + 1 - place) ≡ length code + 1 - place = ap (λ b. if b then 0 else length code + 1 - place) (ap ticks at ∙ none) in
    omega arith

pub effort_back : (code : List Instr) (place n left : ℕ) → slice_get code place ≡ Some (JumpBack n) → IsTrue (ticks (slice_get code (place - n))) → effort code (place - n) left < effort code place left
effort_back code place n left at back = falls code place (place - n) left (JumpBack n) at refl back

pub effort_again : (code : List Instr) (place n left : ℕ) → slice_get code place ≡ Some (JumpBackUnlessZero n) → IsTrue (ticks (slice_get code (place - n))) → effort code (place - n) left < effort code place left
effort_again code place n left at back = falls code place (place - n) left (JumpBackUnlessZero n) at refl back

few_left : (b : Bool) (x y : ℕ) → x ≤ y → (if b then 0 else x) ≤ y
few_left true x y h = omega arith
few_left false x y h = h

-- a request whose event is counted leaves less to do, wherever the frame continues: `n` more events
-- may be made before it, and one fewer after it
pub effort_after_event : (code : List Instr) (n place left place' left' : ℕ) → 0 < n → left' ≤ left → (n - 1) * (length code + 2) + effort code place' left' < n * (length code + 2) + effort code place left
effort_after_event code n place left place' left' some less =
    let x = length code + 2 in
    let one : n ≡ suc (n - 1) = omega (arith, some) in
    let more : n * x ≡ (n - 1) * x + x = ap (λ m. m * x) one ∙ suc-mul (n - 1) x in
    let ticks_less : left' * x ≤ left * x = mul-le-mul_right x less in
    let few = few_left (ticks (slice_get code place')) (length code + 1 - place') (length code + 1) (omega arith) in
    omega (arith, more, ticks_less, few)

-- an instruction that uses ticks leaves less to do, wherever the frame continues
pub effort_ticked : (code : List Instr) (place left place' left' : ℕ) → left' < left → effort code place' left' < effort code place left
effort_ticked code place left place' left' fewer =
    let x = length code + 2 in
    let more : suc left' * x ≡ left' * x + x = suc-mul left' x in
    let ticks_less : suc left' * x ≤ left * x = mul-le-mul_right x fewer in
    let few = few_left (ticks (slice_get code place')) (length code + 1 - place') (length code + 1) (omega arith) in
    omega (arith, more, ticks_less, few)

-- and so does one that leads onward
pub effort_onward : (code : List Instr) (place to left : ℕ) (i : Instr) → slice_get code place ≡ Some i → ticks (Some i) ≡ false → place < to → effort code to left < effort code place left
effort_onward code place to left i at none past =
    let w = slice_get_within code place i at in
    let few = few_left (ticks (slice_get code to)) (length code + 1 - to) (length code + 1 - to) (omega arith) in
    let here : (if ticks (slice_get code place) then 0 else length code + 1 - place) ≡ length code + 1 - place = ap (λ b. if b then 0 else length code + 1 - place) (ap ticks at ∙ none) in
    omega (arith, past, few, here)

-- the instruction at the cursor
pub found : (code : List Instr) (at place : ℕ) (i j : Instr) → at ≡ place → slice_get code at ≡ Some i → i ≡ j → slice_get code place ≡ Some j
found code at place i j here is same = ap (slice_get code) (sym here) ∙ is ∙ ap Some same
