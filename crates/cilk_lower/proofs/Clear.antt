-- The operand stack is empty where a strand ends, instruction by instruction: `is_clear`.
use Rattle.std.proofs.Common.{ℕ, zero, suc, ◌+◌, ◌-◌, ℤ, Bool, true, false, List, [], ◌∷◌, length, Option, Some, None, refl, if◌then◌else◌}
use Rattle.std.specs.Prelude.{nat_lt, neg_ℤ, int_lt, ◌+ℤ◌, slice_get}
use Rattle.cilk_types.specs.Input.{input_at, input_count}
use Rattle.cilk_types.specs.Word.{word_of}
use Rattle.cilk_types.specs.declared.fault.Fault.{Fault}
use Rattle.cilk_types.specs.declared.fault.Fault.TheVariants.{DivisionByZero, IndexOutside, InputOutside}
use Rattle.cilk_program.specs.declared.ask.Ask.{Ask}
use Rattle.cilk_program.specs.declared.ask.Ask.TheVariants as asks
use Rattle.cilk_program.specs.declared.ask.LoopPart.{LoopPart}
use Rattle.cilk_program.specs.declared.syntax.Place.TheVariants as places
use Rattle.cilk_program.specs.Operators.{apply, change, is_zero, truth, truth_of}
use Rattle.cilk_program.specs.Syntax.{element}
use Rattle.cilk_lower.specs.declared.code.Instr.{Instr}
use Rattle.cilk_lower.specs.declared.code.Instr.TheVariants as instrs
use Rattle.cilk_lower.specs.declared.code.Owed.TheVariants.{Nothing, Word}
use Rattle.cilk_lower.specs.declared.code.Site.{Site}
use Rattle.cilk_lower.specs.Machine.{Setting, Move, Goes, Waits, Stuck, move, ticked, on_top, on_two, on_none, on_words, on_some, or_stops, has_one, invoked, loop_called, first_half, second_half}
use Rattle.cilk_lower.specs.Strands.{EndsStrand, IsClear}

clear_ticked : (left : ℕ) (g : ℕ → Move) → ((l : ℕ) → IsClear (g l)) → IsClear (ticked left g)
clear_ticked zero g h = tt
clear_ticked (suc left) g h = h left

clear_top : (stack : List ℤ) (g : ℤ → List ℤ → Move) → ((x : ℤ) (rest : List ℤ) → IsClear (g x rest)) → IsClear (on_top stack g)
clear_top [] g h = tt
clear_top (x ∷ rest) g h = h x rest

clear_two : (stack : List ℤ) (g : ℤ → ℤ → List ℤ → Move) → ((x y : ℤ) (rest : List ℤ) → IsClear (g x y rest)) → IsClear (on_two stack g)
clear_two [] g h = tt
clear_two (y ∷ []) g h = tt
clear_two (y ∷ x ∷ rest) g h = h x y rest

clear_none : (stack : List ℤ) (go : Move) → IsClear go → IsClear (on_none stack go)
clear_none [] go h = h
clear_none (x ∷ rest) go h = tt

clear_some : {A : Type 0} (o : Option A) (g : A → Move) → ((x : A) → IsClear (g x)) → IsClear (on_some o g)
clear_some None g h = tt
clear_some (Some x) g h = h x

clear_words : (n : ℕ) (words stack : List ℤ) (g : List ℤ → List ℤ → Move) → ((ws rest : List ℤ) → IsClear (g ws rest)) → IsClear (on_words n words stack g)
clear_words zero words stack g h = h words stack
clear_words (suc n) words [] g h = tt
clear_words (suc n) words (x ∷ stack) g h = clear_words n (x ∷ words) stack g h

clear_check : {A : Type 0} (f : Fault) (o : Option A) (left : ℕ) (g : A → Move) → ((x : A) → IsClear (g x)) → IsClear (or_stops f o left g)
clear_check f None left g h = tt
clear_check f (Some x) left g h = h x

clear_if : (t : Bool) (a b : Move) → IsClear a → IsClear b → IsClear (if t then a else b)
clear_if true a b x y = x
clear_if false a b x y = y

-- pushes a word, if there is room
clear_give : (room p : ℕ) (v : ℤ) (s : List ℤ) (h : ℤ) (left : ℕ) → IsClear (if nat_lt (length s) room then ticked left (Goes p (v ∷ s) h) else Stuck)
clear_give room p v s h left = clear_if (nat_lt (length s) room) (ticked left (Goes p (v ∷ s) h)) Stuck (clear_ticked left (Goes p (v ∷ s) h) (λ l. tt)) tt

module _ (m : Setting) (place : ℕ) (stack : List ℤ) (held : ℤ) (left : ℕ) where
  -- replaces the operand on top, for one tick
  clear_change : (f : ℤ → ℤ) → IsClear (on_top stack (λ v rest. ticked left (Goes (place + 1) (f v ∷ rest) held)))
  clear_change f = clear_top stack (λ v rest. ticked left (Goes (place + 1) (f v ∷ rest) held)) (λ v rest. clear_ticked left (Goes (place + 1) (f v ∷ rest) held) (λ l. tt))

  -- the operand on top becomes part of a request, after which the strand continues
  clear_send : (k : ℤ → Ask) → ((v : ℤ) → EndsStrand (k v) → ⊥) → IsClear (on_top stack (λ v rest. Waits (k v) Nothing (place + 1) rest held left))
  clear_send k on = clear_top stack (λ v rest. Waits (k v) Nothing (place + 1) rest held left) (λ v rest e. absurd (on v e))

  -- a loop's frame requests a child of its own loop
  clear_half : (k : LoopPart → Ask) → IsClear (on_some m.given.part (λ l. on_none stack (Waits (k l) Nothing (place + 1) [] held left)))
  clear_half k = clear_some m.given.part (λ l. on_none stack (Waits (k l) Nothing (place + 1) [] held left)) (λ l. clear_none stack (Waits (k l) Nothing (place + 1) [] held left) (λ e. refl))

  pub is_clear : (i : Option Instr) → IsClear (move m i place stack held left)
  is_clear None = tt
  is_clear (Some instrs.Tick) = clear_ticked left (Goes (place + 1) stack held) (λ l. tt)
  is_clear (Some (instrs.Push n)) = clear_give m.room (place + 1) n stack held left
  is_clear (Some (instrs.Load x)) = clear_ticked left (Waits (asks.Read x) Word (place + 1) stack held) (λ l e. absurd e)
  is_clear (Some (instrs.LoadElement a)) =
      clear_top stack (λ i rest. or_stops IndexOutside (element a i) left (λ x. ticked left (Waits (asks.Read x) Word (place + 1) rest held)))
      (λ i rest. clear_check IndexOutside (element a i) left (λ x. ticked left (Waits (asks.Read x) Word (place + 1) rest held)) (λ x. clear_ticked left (Waits (asks.Read x) Word (place + 1) rest held) (λ l e. absurd e)))
  is_clear (Some (instrs.LoadUncounted x)) = λ e. absurd e
  is_clear (Some (instrs.FetchElement a)) =
      clear_top stack (λ i rest. or_stops IndexOutside (element a i) left (λ x. Waits (asks.Read x) Word (place + 1) (i ∷ rest) held left))
      (λ i rest. clear_check IndexOutside (element a i) left (λ x. Waits (asks.Read x) Word (place + 1) (i ∷ rest) held left) (λ x e. absurd e))
  is_clear (Some (instrs.Store x)) = clear_send (λ v. asks.Write x v) (λ v e. e)
  is_clear (Some (instrs.StoreElement a)) =
      clear_two stack (λ i v rest. or_stops IndexOutside (element a i) left (λ x. Waits (asks.Write x v) Nothing (place + 1) rest held left))
      (λ i v rest. clear_check IndexOutside (element a i) left (λ x. Waits (asks.Write x v) Nothing (place + 1) rest held left) (λ x e. absurd e))
  is_clear (Some (instrs.Zero n)) = λ e. absurd e
  is_clear (Some (instrs.Combine op)) = clear_two stack (λ x y rest. Goes (place + 1) (change op x y ∷ rest) held left) (λ x y rest. tt)
  is_clear (Some (instrs.AddNumber n)) = clear_top stack (λ x rest. Goes (place + 1) (word_of (x +ℤ n) ∷ rest) held left) (λ x rest. tt)
  is_clear (Some instrs.Negate) = clear_change (λ v. word_of (neg_ℤ v))
  is_clear (Some instrs.Not) = clear_change (λ v. truth_of (is_zero v))
  is_clear (Some (instrs.Apply op)) =
      clear_two stack (λ x y rest. or_stops DivisionByZero (apply op x y) left (λ v. ticked left (Goes (place + 1) (v ∷ rest) held)))
      (λ x y rest. clear_check DivisionByZero (apply op x y) left (λ v. ticked left (Goes (place + 1) (v ∷ rest) held)) (λ v. clear_ticked left (Goes (place + 1) (v ∷ rest) held) (λ l. tt)))
  is_clear (Some (instrs.ApplyNumber op n)) =
      clear_top stack (λ x rest. ticked left (λ l. or_stops DivisionByZero (apply op x n) l (λ v. ticked l (Goes (place + 2) (v ∷ rest) held))))
      (λ x rest. clear_ticked left (λ l. or_stops DivisionByZero (apply op x n) l (λ v. ticked l (Goes (place + 2) (v ∷ rest) held)))
      (λ l. clear_check DivisionByZero (apply op x n) l (λ v. ticked l (Goes (place + 2) (v ∷ rest) held)) (λ v. clear_ticked l (Goes (place + 2) (v ∷ rest) held) (λ l. tt))))
  is_clear (Some instrs.Truth) = clear_change truth
  is_clear (Some (instrs.Value r)) = clear_ticked left (Waits (asks.Value r) Word (place + 1) stack held) (λ l e. absurd e)
  is_clear (Some instrs.Input) =
      clear_top stack (λ x rest. or_stops InputOutside (input_at m.inputs x) left (λ v. ticked left (Goes (place + 1) (v ∷ rest) held)))
      (λ x rest. clear_check InputOutside (input_at m.inputs x) left (λ v. ticked left (Goes (place + 1) (v ∷ rest) held)) (λ v. clear_ticked left (Goes (place + 1) (v ∷ rest) held) (λ l. tt)))
  is_clear (Some instrs.InputCount) = clear_give m.room (place + 1) (input_count m.inputs) stack held left
  is_clear (Some instrs.Print) = clear_send asks.Print (λ v e. e)
  is_clear (Some (instrs.Create r)) = λ e. absurd e
  is_clear (Some (instrs.Update r)) = clear_send (λ v. asks.Update r v) (λ v e. e)
  is_clear (Some (instrs.Set r)) = clear_send (λ v. asks.Set r v) (λ v e. e)
  is_clear (Some (instrs.Word n)) = clear_some (slice_get m.given.words n) (λ v. Waits (asks.Write (places.Local 0 n) v) Nothing (place + 1) stack held left) (λ v e. absurd e)
  is_clear (Some instrs.Turn) = clear_some m.given.part (λ (p : LoopPart). Waits (asks.Write (places.Local 0 0) p.low) Nothing (place + 1) stack held left) (λ p e. absurd e)
  is_clear (Some (instrs.Invoke k)) =
      clear_some (slice_get m.code.sites k) (λ (s : Site). on_words s.words [] stack (λ words rest. on_none rest (Waits (invoked s words) Nothing (place + 1) [] held left)))
      (λ s. clear_words s.words [] stack (λ words rest. on_none rest (Waits (invoked s words) Nothing (place + 1) [] held left))
      (λ words rest. clear_none rest (Waits (invoked s words) Nothing (place + 1) [] held left) (λ e. refl)))
  is_clear (Some (instrs.CallLoop n)) =
      clear_two stack (λ low high rest. on_none rest (if int_lt low high then Waits (loop_called n low high) Nothing (place + 1) [] held left else Goes (place + 2) [] held left))
      (λ low high rest. clear_none rest (if int_lt low high then Waits (loop_called n low high) Nothing (place + 1) [] held left else Goes (place + 2) [] held left)
      (clear_if (int_lt low high) (Waits (loop_called n low high) Nothing (place + 1) [] held left) (Goes (place + 2) [] held left) (λ e. refl) tt))
  is_clear (Some instrs.SpawnHalf) = clear_half first_half
  is_clear (Some instrs.CallHalf) = clear_half second_half
  is_clear (Some instrs.Resume) = λ e. absurd e
  is_clear (Some (instrs.JumpIfZero n)) =
      clear_top stack (λ v rest. if is_zero v then Goes (place + 1 + n) rest held left else Goes (place + 1) rest held left)
      (λ v rest. clear_if (is_zero v) (Goes (place + 1 + n) rest held left) (Goes (place + 1) rest held left) tt tt)
  is_clear (Some (instrs.SkipUnlessOne n)) =
      clear_some m.given.part (λ p. if has_one p then Goes (place + 1) stack held left else Goes (place + 1 + n) stack held left)
      (λ p. clear_if (has_one p) (Goes (place + 1) stack held left) (Goes (place + 1 + n) stack held left) tt tt)
  is_clear (Some (instrs.Jump n)) = tt
  is_clear (Some (instrs.JumpBack n)) = tt
  is_clear (Some (instrs.JumpBackUnlessZero n)) =
      clear_top stack (λ v rest. if is_zero v then Goes (place + 1) rest held left else Goes (place - n) rest held left)
      (λ v rest. clear_if (is_zero v) (Goes (place + 1) rest held left) (Goes (place - n) rest held left) tt tt)
  is_clear (Some instrs.SetResult) = clear_top stack (λ v rest. Goes (place + 1) rest v left) (λ v rest. tt)
  is_clear (Some instrs.Sync) = clear_none stack (Waits asks.Sync Nothing (place + 1) [] held left) (λ e. refl)
  is_clear (Some instrs.GiveResult) =
      clear_if m.given.takes (Waits (asks.Result held) Nothing (place + 1) stack held left) (Goes (place + 1) stack held left) (λ e. absurd e) tt
  is_clear (Some instrs.End) = tt
