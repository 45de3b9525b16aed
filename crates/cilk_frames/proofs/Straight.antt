-- An instruction does the same with any ticks, if they are enough.
use Rattle.std.proofs.Common.{◌≡◌, ℕ, zero, suc, ◌+◌, ◌-◌, ◌≤◌, ℤ, pos, Bool, true, false, List, [], ◌∷◌, length, Option, Some, None, refl, ap, ◌∙◌, arith, if◌then◌else◌}
use Rattle.std.specs.Prelude.{nat_lt, neg_ℤ, int_lt, ◌+ℤ◌, slice_get}
use Rattle.cilk_types.specs.Input.{input_at, input_count}
use Rattle.cilk_types.specs.Word.{word_of}
use Rattle.cilk_types.specs.declared.fault.Fault.{Fault}
use Rattle.cilk_types.specs.declared.fault.Fault.TheVariants.{DivisionByZero, IndexOutside, InputOutside}
use Rattle.cilk_program.specs.declared.ask.Ask.{Ask}
use Rattle.cilk_program.specs.declared.ask.Ask.TheVariants as asks
use Rattle.cilk_program.specs.declared.ask.LoopPart.{LoopPart}
use Rattle.cilk_program.specs.declared.syntax.Place.TheVariants as places
use Rattle.cilk_program.specs.Operators.{apply, change, is_zero, truth, truth_of}
use Rattle.cilk_program.specs.Syntax.{element}
use Rattle.cilk_lower.specs.declared.code.Instr.{Instr}
use Rattle.cilk_lower.specs.declared.code.Instr.TheVariants as instrs
use Rattle.cilk_lower.specs.declared.code.Owed.{Owed}
use Rattle.cilk_lower.specs.declared.code.Owed.TheVariants.{Nothing, Word}
use Rattle.cilk_lower.specs.declared.code.Site.{Site}
use Rattle.cilk_lower.specs.Machine.{Setting, Move, Goes, Waits, Stops, Stuck, move, ticked, on_top, on_two, on_none, on_words, on_some, or_stops, has_one, invoked, loop_called, first_half, second_half}
use Rattle.cilk_frames.specs.Following.{HasAnswer, owed_for}

-- the machine continues or waits, so that other instructions follow
abbrev pub IsOnward : Move → Type 0
IsOnward (Goes p s h l) = Unit {0}
IsOnward (Waits k o p s h l) = Unit {0}
IsOnward (Stops k l) = ⊥
IsOnward Stuck = ⊥

-- the ticks that a move leaves
abbrev pub left_of : Move → ℕ
left_of (Goes p s h l) = l
left_of (Waits k o p s h l) = l
left_of (Stops k l) = l
left_of Stuck = 0

-- the same move with other ticks left
abbrev pub with_left : Move → ℕ → Move
with_left (Goes p s h l) n = Goes p s h n
with_left (Waits k o p s h l) n = Waits k o p s h n
with_left (Stops k l) n = Stops k n
with_left Stuck n = Stuck

-- a last request has no answer; any other is owed what its answer pushes
abbrev pub OwesAnswer : Move → Type 0
OwesAnswer (Goes p s h l) = Unit {0}
OwesAnswer (Waits k o p s h l) = o ≡ owed_for k
OwesAnswer (Stops k l) = HasAnswer k → ⊥
OwesAnswer Stuck = Unit {0}

-- a move that uses no tick
record Flat (g : ℕ → Move) : Type 0 where
  owes : (l : ℕ) → OwesAnswer (g l)
  keeps : (l : ℕ) → left_of (g l) ≡ l
  same : (l l' : ℕ) → IsOnward (g l) → g l' ≡ with_left (g l) l'

-- the same with any ticks, if they are enough
pub record Straight (g : ℕ → Move) : Type 0 where
  pub owes : (l : ℕ) → OwesAnswer (g l)
  pub less : (l : ℕ) → left_of (g l) ≤ l
  pub same : (l l' : ℕ) → IsOnward (g l) → g (l' + (l - left_of (g l))) ≡ with_left (g l) l'

flat_goes : (p : ℕ) (s : List ℤ) (h : ℤ) → Flat (Goes p s h)
flat_goes p s h = record { owes = λ l. tt; keeps = λ l. refl; same = λ l l' e. refl }

flat_waits : (k : Ask) (o : Owed) (p : ℕ) (s : List ℤ) (h : ℤ) → o ≡ owed_for k → Flat (Waits k o p s h)
flat_waits k o p s h e = record { owes = λ l. e; keeps = λ l. refl; same = λ l l' e. refl }

straight_flat : (g : ℕ → Move) → Flat g → Straight g
straight_flat g f = record {
  owes = f.owes;
  less = λ l. omega (arith, f.keeps l);
  same = λ l l' h. let e : l' + (l - left_of (g l)) ≡ l' = omega (arith, f.keeps l) in ap g e ∙ f.same l l' h;
}

tick_owes : (g : ℕ → Move) → Flat g → (l : ℕ) → OwesAnswer (ticked l g)
tick_owes g f zero = λ h. h
tick_owes g f (suc l) = f.owes l

tick_less : (g : ℕ → Move) → Flat g → (l : ℕ) → left_of (ticked l g) ≤ l
tick_less g f zero = omega arith
tick_less g f (suc l) = omega (arith, f.keeps l)

tick_same : (g : ℕ → Move) → Flat g → (l l' : ℕ) → IsOnward (ticked l g) → ticked (l' + (l - left_of (ticked l g))) g ≡ with_left (ticked l g) l'
tick_same g f zero l' h = absurd h
tick_same g f (suc l) l' h = let e : l' + (suc l - left_of (g l)) ≡ suc l' = omega (arith, f.keeps l) in ap (λ n. ticked n g) e ∙ f.same l l' h

straight_ticked : (g : ℕ → Move) → Flat g → Straight (λ l. ticked l g)
straight_ticked g f = record { owes = tick_owes g f; less = tick_less g f; same = tick_same g f }

-- a tick, and then what may use more of them
then_owes : (g : ℕ → Move) → Straight g → (l : ℕ) → OwesAnswer (ticked l g)
then_owes g s zero = λ h. h
then_owes g s (suc l) = s.owes l

then_less : (g : ℕ → Move) → Straight g → (l : ℕ) → left_of (ticked l g) ≤ l
then_less g s zero = omega arith
then_less g s (suc l) = omega (arith, s.less l)

then_same : (g : ℕ → Move) → Straight g → (l l' : ℕ) → IsOnward (ticked l g) → ticked (l' + (l - left_of (ticked l g))) g ≡ with_left (ticked l g) l'
then_same g s zero l' h = absurd h
then_same g s (suc l) l' h = let e : l' + (suc l - left_of (g l)) ≡ suc (l' + (l - left_of (g l))) = omega (arith, s.less l) in ap (λ n. ticked n g) e ∙ s.same l l' h

straight_then : (g : ℕ → Move) → Straight g → Straight (λ l. ticked l g)
straight_then g s = record { owes = then_owes g s; less = then_less g s; same = then_same g s }

straight_stuck : Straight (λ l. Stuck)
straight_stuck = record { owes = λ l. tt; less = λ l. omega arith; same = λ l l' h. absurd h }

straight_stops : (k : Ask) → (HasAnswer k → ⊥) → Straight (Stops k)
straight_stops k final = record { owes = λ l. final; less = λ l. omega arith; same = λ l l' h. absurd h }

straight_goes : (p : ℕ) (s : List ℤ) (h : ℤ) → Straight (Goes p s h)
straight_goes p s h = straight_flat (Goes p s h) (flat_goes p s h)

straight_waits : (k : Ask) (o : Owed) (p : ℕ) (s : List ℤ) (h : ℤ) → o ≡ owed_for k → Straight (Waits k o p s h)
straight_waits k o p s h e = straight_flat (Waits k o p s h) (flat_waits k o p s h e)

straight_then_goes : (p : ℕ) (s : List ℤ) (h : ℤ) → Straight (λ l. ticked l (Goes p s h))
straight_then_goes p s h = straight_ticked (Goes p s h) (flat_goes p s h)

straight_then_waits : (k : Ask) (o : Owed) (p : ℕ) (s : List ℤ) (h : ℤ) → o ≡ owed_for k → Straight (λ l. ticked l (Waits k o p s h))
straight_then_waits k o p s h e = straight_ticked (Waits k o p s h) (flat_waits k o p s h e)

-- a check
straight_check : {A : Type 0} (f : Fault) (o : Option A) (g : A → ℕ → Move) → ((x : A) → Straight (g x)) → Straight (λ l. or_stops f o l (λ x. g x l))
straight_check f None g h = straight_stops (asks.Fault f) (λ h. h)
straight_check f (Some x) g h = h x

straight_if : (t : Bool) (g h : ℕ → Move) → Straight g → Straight h → Straight (λ l. if t then g l else h l)
straight_if true g h a b = a
straight_if false g h a b = b

straight_top : (stack : List ℤ) (g : ℤ → List ℤ → ℕ → Move) → ((x : ℤ) (rest : List ℤ) → Straight (g x rest)) → Straight (λ l. on_top stack (λ x rest. g x rest l))
straight_top [] g h = straight_stuck
straight_top (x ∷ rest) g h = h x rest

straight_two : (stack : List ℤ) (g : ℤ → ℤ → List ℤ → ℕ → Move) → ((x y : ℤ) (rest : List ℤ) → Straight (g x y rest)) → Straight (λ l. on_two stack (λ x y rest. g x y rest l))
straight_two [] g h = straight_stuck
straight_two (y ∷ []) g h = straight_stuck
straight_two (y ∷ x ∷ rest) g h = h x y rest

straight_none : (stack : List ℤ) (g : ℕ → Move) → Straight g → Straight (λ l. on_none stack (g l))
straight_none [] g h = h
straight_none (x ∷ rest) g h = straight_stuck

straight_some : {A : Type 0} (o : Option A) (g : A → ℕ → Move) → ((x : A) → Straight (g x)) → Straight (λ l. on_some o (λ x. g x l))
straight_some None g h = straight_stuck
straight_some (Some x) g h = h x

straight_words : (n : ℕ) (words stack : List ℤ) (g : List ℤ → List ℤ → ℕ → Move) → ((ws rest : List ℤ) → Straight (g ws rest)) → Straight (λ l. on_words n words stack (λ ws rest. g ws rest l))
straight_words zero words stack g h = h words stack
straight_words (suc n) words [] g h = straight_stuck
straight_words (suc n) words (x ∷ stack) g h = straight_words n (x ∷ words) stack g h

-- pushes a word, if there is room
straight_give : (room p : ℕ) (v : ℤ) (s : List ℤ) (h : ℤ) → Straight (λ l. if nat_lt (length s) room then ticked l (Goes p (v ∷ s) h) else Stuck)
straight_give room p v s h = straight_if (nat_lt (length s) room) (λ l. ticked l (Goes p (v ∷ s) h)) (λ l. Stuck) (straight_then_goes p (v ∷ s) h) straight_stuck

module _ (m : Setting) (place : ℕ) (stack : List ℤ) (held : ℤ) where
  -- replaces the operand on top, for one tick
  straight_change : (f : ℤ → ℤ) → Straight (λ l. on_top stack (λ v rest. ticked l (Goes (place + 1) (f v ∷ rest) held)))
  straight_change f = straight_top stack (λ v rest l. ticked l (Goes (place + 1) (f v ∷ rest) held)) (λ v rest. straight_then_goes (place + 1) (f v ∷ rest) held)

  -- the operand on top becomes part of a request
  straight_send : (k : ℤ → Ask) → ((v : ℤ) → Nothing ≡ owed_for (k v)) → Straight (λ l. on_top stack (λ v rest. Waits (k v) Nothing (place + 1) rest held l))
  straight_send k e = straight_top stack (λ v rest. Waits (k v) Nothing (place + 1) rest held) (λ v rest. straight_waits (k v) Nothing (place + 1) rest held (e v))

  -- a loop's frame requests a child of its own loop
  straight_half : (k : LoopPart → Ask) → ((l : LoopPart) → Nothing ≡ owed_for (k l)) → Straight (λ n. on_some m.given.part (λ l. on_none stack (Waits (k l) Nothing (place + 1) [] held n)))
  straight_half k e =
      straight_some m.given.part (λ l n. on_none stack (Waits (k l) Nothing (place + 1) [] held n))
      (λ l. straight_none stack (Waits (k l) Nothing (place + 1) [] held) (straight_waits (k l) Nothing (place + 1) [] held (e l)))

  straight_load_element : (a : _) → Straight (move m (Some (instrs.LoadElement a)) place stack held)
  straight_load_element a =
      straight_top stack (λ i rest l. or_stops IndexOutside (element a i) l (λ x. ticked l (Waits (asks.Read x) Word (place + 1) rest held)))
      (λ i rest. straight_check IndexOutside (element a i) (λ x l. ticked l (Waits (asks.Read x) Word (place + 1) rest held)) (λ x. straight_then_waits (asks.Read x) Word (place + 1) rest held refl))

  straight_fetch_element : (a : _) → Straight (move m (Some (instrs.FetchElement a)) place stack held)
  straight_fetch_element a =
      straight_top stack (λ i rest l. or_stops IndexOutside (element a i) l (λ x. Waits (asks.Read x) Word (place + 1) (i ∷ rest) held l))
      (λ i rest. straight_check IndexOutside (element a i) (λ x. Waits (asks.Read x) Word (place + 1) (i ∷ rest) held) (λ x. straight_waits (asks.Read x) Word (place + 1) (i ∷ rest) held refl))

  straight_store_element : (a : _) → Straight (move m (Some (instrs.StoreElement a)) place stack held)
  straight_store_element a =
      straight_two stack (λ i v rest l. or_stops IndexOutside (element a i) l (λ x. Waits (asks.Write x v) Nothing (place + 1) rest held l))
      (λ i v rest. straight_check IndexOutside (element a i) (λ x. Waits (asks.Write x v) Nothing (place + 1) rest held) (λ x. straight_waits (asks.Write x v) Nothing (place + 1) rest held refl))

  straight_apply : (op : _) → Straight (move m (Some (instrs.Apply op)) place stack held)
  straight_apply op =
      straight_two stack (λ x y rest l. or_stops DivisionByZero (apply op x y) l (λ v. ticked l (Goes (place + 1) (v ∷ rest) held)))
      (λ x y rest. straight_check DivisionByZero (apply op x y) (λ v l. ticked l (Goes (place + 1) (v ∷ rest) held)) (λ v. straight_then_goes (place + 1) (v ∷ rest) held))

  straight_apply_number : (op : _) (n : _) → Straight (move m (Some (instrs.ApplyNumber op n)) place stack held)
  straight_apply_number op n =
      straight_top stack (λ x rest l. ticked l (λ l. or_stops DivisionByZero (apply op x n) l (λ v. ticked l (Goes (place + 2) (v ∷ rest) held))))
      (λ x rest. straight_then (λ l. or_stops DivisionByZero (apply op x n) l (λ v. ticked l (Goes (place + 2) (v ∷ rest) held)))
      (straight_check DivisionByZero (apply op x n) (λ v l. ticked l (Goes (place + 2) (v ∷ rest) held)) (λ v. straight_then_goes (place + 2) (v ∷ rest) held)))

  straight_input : Straight (move m (Some instrs.Input) place stack held)
  straight_input =
      straight_top stack (λ x rest l. or_stops InputOutside (input_at m.inputs x) l (λ v. ticked l (Goes (place + 1) (v ∷ rest) held)))
      (λ x rest. straight_check InputOutside (input_at m.inputs x) (λ v l. ticked l (Goes (place + 1) (v ∷ rest) held)) (λ v. straight_then_goes (place + 1) (v ∷ rest) held))

  straight_invoke : (k : ℕ) → Straight (move m (Some (instrs.Invoke k)) place stack held)
  straight_invoke k =
      straight_some (slice_get m.code.sites k) (λ (s : Site) l. on_words s.words [] stack (λ words rest. on_none rest (Waits (invoked s words) Nothing (place + 1) [] held l)))
      (λ s. straight_words s.words [] stack (λ words rest l. on_none rest (Waits (invoked s words) Nothing (place + 1) [] held l))
      (λ words rest. straight_none rest (Waits (invoked s words) Nothing (place + 1) [] held) (straight_waits (invoked s words) Nothing (place + 1) [] held refl)))

  straight_call_loop : (n : ℕ) → Straight (move m (Some (instrs.CallLoop n)) place stack held)
  straight_call_loop n =
      straight_two stack (λ low high rest l. on_none rest (if int_lt low high then Waits (loop_called n low high) Nothing (place + 1) [] held l else Goes (place + 2) [] held l))
      (λ low high rest. straight_none rest (λ l. if int_lt low high then Waits (loop_called n low high) Nothing (place + 1) [] held l else Goes (place + 2) [] held l)
      (straight_if (int_lt low high) (Waits (loop_called n low high) Nothing (place + 1) [] held) (Goes (place + 2) [] held)
      (straight_waits (loop_called n low high) Nothing (place + 1) [] held refl)
      (straight_goes (place + 2) [] held)))

  straight_skip_if_zero : (n : ℕ) → Straight (move m (Some (instrs.JumpIfZero n)) place stack held)
  straight_skip_if_zero n =
      straight_top stack (λ v rest l. if is_zero v then Goes (place + 1 + n) rest held l else Goes (place + 1) rest held l)
      (λ v rest. straight_if (is_zero v) (Goes (place + 1 + n) rest held) (Goes (place + 1) rest held) (straight_goes (place + 1 + n) rest held) (straight_goes (place + 1) rest held))

  straight_skip_unless_one : (n : ℕ) → Straight (move m (Some (instrs.SkipUnlessOne n)) place stack held)
  straight_skip_unless_one n =
      straight_some m.given.part (λ p l. if has_one p then Goes (place + 1) stack held l else Goes (place + 1 + n) stack held l)
      (λ p. straight_if (has_one p) (Goes (place + 1) stack held) (Goes (place + 1 + n) stack held) (straight_goes (place + 1) stack held) (straight_goes (place + 1 + n) stack held))

  pub straight : (i : Option Instr) → Straight (move m i place stack held)
  straight None = straight_stuck
  straight (Some instrs.Tick) = straight_then_goes (place + 1) stack held
  straight (Some (instrs.Push n)) = straight_give m.room (place + 1) n stack held
  straight (Some (instrs.Load x)) = straight_then_waits (asks.Read x) Word (place + 1) stack held refl
  straight (Some (instrs.LoadElement a)) = straight_load_element a
  straight (Some (instrs.LoadUncounted x)) = straight_waits (asks.Read x) Word (place + 1) stack held refl
  straight (Some (instrs.FetchElement a)) = straight_fetch_element a
  straight (Some (instrs.Store x)) = straight_send (λ v. asks.Write x v) (λ v. refl)
  straight (Some (instrs.StoreElement a)) = straight_store_element a
  straight (Some (instrs.Zero n)) = straight_waits (asks.Write (places.Local 0 n) (pos 0)) Nothing (place + 1) stack held refl
  straight (Some (instrs.Combine op)) =
      straight_two stack (λ x y rest. Goes (place + 1) (change op x y ∷ rest) held) (λ x y rest. straight_goes (place + 1) (change op x y ∷ rest) held)
  straight (Some (instrs.AddNumber n)) =
      straight_top stack (λ x rest. Goes (place + 1) (word_of (x +ℤ n) ∷ rest) held) (λ x rest. straight_goes (place + 1) (word_of (x +ℤ n) ∷ rest) held)
  straight (Some instrs.Negate) = straight_change (λ v. word_of (neg_ℤ v))
  straight (Some instrs.Not) = straight_change (λ v. truth_of (is_zero v))
  straight (Some (instrs.Apply op)) = straight_apply op
  straight (Some (instrs.ApplyNumber op n)) = straight_apply_number op n
  straight (Some instrs.Truth) = straight_change truth
  straight (Some (instrs.Value r)) = straight_then_waits (asks.Value r) Word (place + 1) stack held refl
  straight (Some instrs.Input) = straight_input
  straight (Some instrs.InputCount) = straight_give m.room (place + 1) (input_count m.inputs) stack held
  straight (Some instrs.Print) = straight_send asks.Print (λ v. refl)
  straight (Some (instrs.Create r)) = straight_waits (asks.Create r) Nothing (place + 1) stack held refl
  straight (Some (instrs.Update r)) = straight_send (λ v. asks.Update r v) (λ v. refl)
  straight (Some (instrs.Set r)) = straight_send (λ v. asks.Set r v) (λ v. refl)
  straight (Some (instrs.Word n)) =
      straight_some (slice_get m.given.words n) (λ v. Waits (asks.Write (places.Local 0 n) v) Nothing (place + 1) stack held)
      (λ v. straight_waits (asks.Write (places.Local 0 n) v) Nothing (place + 1) stack held refl)
  straight (Some instrs.Turn) =
      straight_some m.given.part (λ (p : LoopPart). Waits (asks.Write (places.Local 0 0) p.low) Nothing (place + 1) stack held)
      (λ p. straight_waits (asks.Write (places.Local 0 0) p.low) Nothing (place + 1) stack held refl)
  straight (Some (instrs.Invoke k)) = straight_invoke k
  straight (Some (instrs.CallLoop n)) = straight_call_loop n
  straight (Some instrs.SpawnHalf) = straight_half first_half (λ l. refl)
  straight (Some instrs.CallHalf) = straight_half second_half (λ l. refl)
  straight (Some instrs.Resume) = straight_waits asks.Resume Nothing (place + 1) stack held refl
  straight (Some (instrs.JumpIfZero n)) = straight_skip_if_zero n
  straight (Some (instrs.SkipUnlessOne n)) = straight_skip_unless_one n
  straight (Some (instrs.Jump n)) = straight_goes (place + 1 + n) stack held
  straight (Some (instrs.JumpBack n)) = straight_goes (place - n) stack held
  straight (Some (instrs.JumpBackUnlessZero n)) =
      straight_top stack (λ v rest l. if is_zero v then Goes (place + 1) rest held l else Goes (place - n) rest held l)
      (λ v rest. straight_if (is_zero v) (Goes (place + 1) rest held) (Goes (place - n) rest held) (straight_goes (place + 1) rest held) (straight_goes (place - n) rest held))
  straight (Some instrs.SetResult) = straight_top stack (λ v rest. Goes (place + 1) rest v) (λ v rest. straight_goes (place + 1) rest v)
  straight (Some instrs.Sync) = straight_none stack (Waits asks.Sync Nothing (place + 1) [] held) (straight_waits asks.Sync Nothing (place + 1) [] held refl)
  straight (Some instrs.GiveResult) =
      straight_if m.given.takes (Waits (asks.Result held) Nothing (place + 1) stack held) (Goes (place + 1) stack held)
      (straight_waits (asks.Result held) Nothing (place + 1) stack held refl) (straight_goes (place + 1) stack held)
  straight (Some instrs.End) = straight_stops (asks.End held) (λ h. h)
