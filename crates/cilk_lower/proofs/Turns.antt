-- The turns of a loop.
use Rattle.std.proofs.Common.{◌≡◌, ℕ, zero, suc, ◌+◌, ◌-◌, ◌<◌, ℤ, pos, List, [], ◌∷◌, Some, None, refl, sym, subst, arith}
use Rattle.cilk_program.specs.Operators.{is_zero}
use Rattle.cilk_program.specs.Behaviour.{Got, Gives, Asks, ◌>>=◌, chosen, Flow, unless_returned, turns}
use Rattle.cilk_lower.specs.declared.code.Instr.TheVariants as instrs
use Rattle.cilk_lower.specs.Machine.{Setting}
use Rattle.cilk_lower.proofs.Leads.{Stands, Leads, Does, Acts, leads_one, stays, then_acts, choose_acts, back_acts}
use Rattle.cilk_lower.proofs.Ticks.{Takes, Keeps}

-- The body begins at `here` and the step at `after`. At `end`, after the step, the code goes back to
-- the body if there is another turn. The loop ends at `out`.
module _ (m : Setting) (here after end out : ℕ) (test : List ℤ → ℕ → Got ℤ) (body step : List ℤ → ℕ → Got Flow)
    (bodies : (a : List ℤ) (l : ℕ) → Acts m here [] [] a l after (body a l)) (takes : (a : List ℤ) (l : ℕ) → Takes l (body a l))
    (steps : (a : List ℤ) (l : ℕ) → Acts m after [] [] a l end (step a l)) (keeps : (a : List ℤ) (l : ℕ) → Keeps l (step a l)) where
  -- a turn, and n turns after it
  abbrev turn : ℕ → List ℤ → ℕ → Got Flow
  turn k a l = body a l >>= λ f. unless_returned f (λ a l. step a l >>= λ f. unless_returned f (turns k test body step))

  -- after a step the code does the same as n turns
  abbrev Again : ℕ → Type 0
  Again k = (a : List ℤ) (l : ℕ) → l < k → Acts m end [] [] a l out (turns k test body step a l)

  step_acts : (k : ℕ) → Again k → (answers : List ℤ) (left : ℕ) → left < k → (g : Got Flow) → Acts m after [] [] answers left end g → Keeps left g → Acts m after [] [] answers left out (g >>= λ f. unless_returned f (turns k test body step))
  step_acts k again answers left low (Asks x) r kept = r
  step_acts k again answers left low (Gives (Some v) a l) r kept = r
  step_acts k again answers left low (Gives None a l) r kept = then_acts m after end out [] [] [] answers a left l (turns k test body step a l) r (again a l (omega arith))

  body_acts : (k : ℕ) → Again k → (answers : List ℤ) (left : ℕ) → left < suc k → (g : Got Flow) → Acts m here [] [] answers left after g → Takes left g → Acts m here [] [] answers left out (g >>= λ f. unless_returned f (λ a l. step a l >>= λ f. unless_returned f (turns k test body step)))
  body_acts k again answers left low (Asks x) r took = r
  body_acts k again answers left low (Gives (Some v) a l) r took = r
  body_acts k again answers left low (Gives None a l) r took =
      then_acts m here after out [] [] [] answers a left l (step a l >>= λ f. unless_returned f (turns k test body step)) r
      (step_acts k again a l (omega arith) (step a l) (steps a l) (keeps a l))

  -- a loop without a condition
  module _ (d : ℕ) (jumps : Stands m end (instrs.JumpBack d)) (there : end - d ≡ here) (holds : (a : List ℤ) (l : ℕ) → test a l ≡ Gives (pos 1) a l) where
    next_acts : (k : ℕ) → ((a : List ℤ) (l : ℕ) → l < k → Acts m here [] [] a l out (turns k test body step a l)) → Again k
    next_acts k r a l low =
        let back : Leads m end [] a l here [] a l = subst (λ p. Leads m end [] a l p [] a l) there (leads_one m end [] a l (instrs.JumpBack d) _ _ _ jumps refl) in
        then_acts m end here out [] [] [] a a l l (turns k test body step a l) back (r a l low)

    pub forever_act : (k : ℕ) (answers : List ℤ) (left : ℕ) → left < k → Acts m here [] [] answers left out (turns k test body step answers left)
    forever_act zero answers left low = absurd (omega arith)
    forever_act (suc k) answers left low =
        subst (λ g. Acts m here [] [] answers left out (g >>= λ v a l. chosen v (turn k a l) (Gives None a l))) (sym (holds answers left))
        (body_acts k (next_acts k (forever_act k)) answers left low (body answers left) (bodies answers left) (takes answers left))

  -- a place where the code decides, by the value on the stack, whether there is another turn
  abbrev Decides : ℕ → Type 0
  Decides pc = (v : ℤ) (a : List ℤ) (l : ℕ) (x : Got Flow) → Acts m here [] [] a l out x → Acts m pc (v ∷ []) [] a l out (chosen v x (Gives None a l))

  -- a condition, and then the turns
  turn_acts : (top pc : ℕ) → Decides pc → (k : ℕ) → Again k → (answers : List ℤ) (left : ℕ) → left < suc k → (g : Got ℤ) → Does m top [] [] answers left pc g → Keeps left g → Acts m top [] [] answers left out (g >>= λ v a l. chosen v (turn k a l) (Gives None a l))
  turn_acts top pc decides k again answers left low (Asks x) r kept = r
  turn_acts top pc decides k again answers left low (Gives v a l) r kept =
      then_acts m top pc out [] [] (v ∷ []) answers a left l (chosen v (turn k a l) (Gives None a l)) r
      (decides v a l (turn k a l) (body_acts k again a l (omega arith) (body a l) (bodies a l) (takes a l)))

  -- A loop with a condition, which is tested from `top` to `first`, and again from `end` to `last`.
  module _ (top first last n d : ℕ) (kept : (a : List ℤ) (l : ℕ) → Keeps l (test a l))
      (tests : (a : List ℤ) (l : ℕ) → Does m top [] [] a l first (test a l)) (skips : Stands m first (instrs.JumpIfZero n)) (begins : here ≡ first + 1) (leaves : out ≡ first + 1 + n)
      (tests_again : (a : List ℤ) (l : ℕ) → Does m end [] [] a l last (test a l)) (jumps : Stands m last (instrs.JumpBackUnlessZero d)) (there : here ≡ last - d) (ends : out ≡ last + 1) where
    decides_first : Decides first
    decides_first v a l x r =
        choose_acts m (is_zero v) first n out v [] a l x (Gives None a l) refl skips
        (subst (λ p. Acts m p [] [] a l out x) begins r)
        (subst (λ p. Leads m p [] a l out [] a l) leaves (stays m out [] a l))

    decides_last : Decides last
    decides_last v a l x r =
        back_acts m (is_zero v) last d out v [] a l x (Gives None a l) refl jumps
        (subst (λ p. Acts m p [] [] a l out x) there r)
        (subst (λ p. Leads m p [] a l out [] a l) ends (stays m out [] a l))

    again : (k : ℕ) → Again k
    again zero answers left low = absurd (omega arith)
    again (suc k) answers left low = turn_acts end last decides_last k (again k) answers left low (test answers left) (tests_again answers left) (kept answers left)

    -- there is one more turn than ticks are left, so turns never run out first
    pub turns_act : (k : ℕ) (answers : List ℤ) (left : ℕ) → left < suc k → Acts m top [] [] answers left out (turns (suc k) test body step answers left)
    turns_act k answers left low = turn_acts top first decides_first k (again k) answers left low (test answers left) (tests answers left) (kept answers left)
