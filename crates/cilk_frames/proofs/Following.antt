-- A cursor continues to follow a behaviour.
use Rattle.std.proofs.Common.{◌≡◌, ◌≢◌, ℕ, zero, suc, ◌+◌, ◌-◌, ◌≤◌, ℤ, pos, Bool, true, false, List, [], ◌∷◌, ◌++◌, length, refl, sym, ap, ◌∙◌, subst, arith, append_assoc, if◌then◌else◌}
use Rattle.std.specs.Prelude.{slice_get, nat_lt}
use Rattle.std.proofs.lemmas.Bool.{ltb-true}
use Rattle.cilk_program.specs.Syntax.{Source}
use Rattle.cilk_program.specs.Inside.{CalleeIsFit}
use Rattle.cilk_program.specs.declared.ask.Ask.{Ask}
use Rattle.cilk_program.specs.declared.ask.Callee.{Callee}
use Rattle.cilk_program.specs.declared.ask.Callee.TheVariants.{Root}
use Rattle.cilk_program.specs.Behaviour.{Behaviour, OpenAsk, asks_for, ended, frame_asks, frame_gives}
use Rattle.cilk_lower.specs.declared.code.Owed.{Owed}
use Rattle.cilk_lower.specs.declared.code.Owed.TheVariants.{Nothing, Word}
use Rattle.cilk_lower.specs.Code.{CodeView}
use Rattle.cilk_lower.specs.Machine.{Given, Setting, Move, Goes, Waits, Stops, Stuck, MachineRun, Next, Reaches, Fails, going, move, exec, received}
use Rattle.cilk_lower.specs.Behaves.{Behaves}
use Rattle.cilk_frames.specs.declared.cursor.Answer.{Answer}
use Rattle.cilk_frames.specs.declared.cursor.Answer.TheVariants.{Done, Value}
use Rattle.cilk_frames.specs.Cursor.{CursorView, first_of}
use Rattle.cilk_frames.specs.Following.{Follows, Runs, Fits, word_in, Steps, Stands, GoesOn, setting_at, setting_of}
use Rattle.cilk_frames.specs.Moving.{RoomFor, HasRoom, told, move_at}
use Rattle.cilk_frames.proofs.Straight.{IsOnward, left_of, with_left, OwesAnswer, straight}

-- a test that a run passed
passed : (t : Bool) (x : MachineRun) (k : OpenAsk) → (if t then x else Fails) ≡ Reaches k → t ≡ true
passed true x k h = refl
passed false x k h = cc

passed_on : (t : Bool) (x : MachineRun) (k : OpenAsk) → (if t then x else Fails) ≡ Reaches k → x ≡ Reaches k
passed_on true x k h = h
passed_on false x k h = cc

room_for : (owed : Owed) (stack : List ℤ) (room : ℕ) (a : ℤ) (go : List ℤ → MachineRun) (k : OpenAsk) → received room owed a stack go ≡ Reaches k → RoomFor owed stack room
room_for Nothing stack room a go k h = tt
room_for Word stack room a go k h = ltb-true (length stack) room (passed (nat_lt (length stack) room) (go (a ∷ stack)) k h)

-- a cursor that follows a behaviour has room for a word that it is owed
pub has_room : (code : CodeView) (inputs : List ℤ) (c : CursorView) → Runs code inputs c → HasRoom c
has_room code inputs c r = let f = r.1.by (pos 0) [] 0 in room_for c.owed c.stack c.room (pos 0) _ _ f.1

-- the machine at a cursor
abbrev runs_at : CodeView → List ℤ → CursorView → ℕ → List ℤ → ℕ → MachineRun
runs_at code inputs c n answers l = exec (setting_at inputs code c) n c.place c.stack c.held answers l

heard : (owed : Owed) (answer : Answer) (code : CodeView) (inputs : List ℤ) (c : CursorView) (n : ℕ) (answers : List ℤ) (l : ℕ) (k : OpenAsk) → Fits owed answer → received c.room owed (word_in answer) c.stack (λ stack. exec (setting_at inputs code c) n c.place stack c.held answers l) ≡ Reaches k → runs_at code inputs (told c answer) n answers l ≡ Reaches k
heard Nothing Done code inputs c n answers l k fits h = h
heard Nothing (Value v) code inputs c n answers l k fits h = absurd fits
heard Word Done code inputs c n answers l k fits h = absurd fits
heard Word (Value v) code inputs c n answers l k fits h =
    passed_on (nat_lt (length c.stack) c.room) (exec (setting_at inputs code c) n c.place (v ∷ c.stack) c.held answers l) k h

-- The invariant of a step's loop: from the cursor on, the machine makes the next request of the
-- behaviour after the answer.
pub record Loop (code : CodeView) (inputs : List ℤ) (c0 : CursorView) (answer : Answer) (left0 : ℕ) (c : CursorView) (left : ℕ) : Type 0 where
  pub less : left ≤ left0
  pub on : (b : Behaviour) → Follows code inputs c0 b → (answers : List ℤ) (l : ℕ) → (n : ℕ) × (runs_at code inputs c n answers l ≡ Reaches (b (word_in answer ∷ answers) (l + (left0 - left))))

pub loop_begins : (code : CodeView) (inputs : List ℤ) (c0 : CursorView) (answer : Answer) (left0 : ℕ) → Fits c0.owed answer → Loop code inputs c0 answer left0 (told c0 answer) left0
loop_begins code inputs c0 answer left0 fits = record {
  less = omega arith;
  on = λ b f answers l.
      let h = f.by (word_in answer) answers l in
      let e : l ≡ l + (left0 - left0) = omega arith in
      (h.0, heard c0.owed answer code inputs c0 h.0 answers l _ fits h.1 ∙ ap (λ n. Reaches (b (word_in answer ∷ answers) n)) e);
}

-- the same, of an equal cursor and as many ticks
pub loop_still : (code : CodeView) (inputs : List ℤ) (c0 : CursorView) (answer : Answer) (left0 : ℕ) (c c' : CursorView) (left left' : ℕ) → c' ≡ c → left' ≡ left → Loop code inputs c0 answer left0 c left → Loop code inputs c0 answer left0 c' left'
loop_still code inputs c0 answer left0 c c' left left' cursor ticks loop =
    subst (λ n. Loop code inputs c0 answer left0 c' n) (sym ticks) (subst (λ (c : CursorView). Loop code inputs c0 answer left0 c left) (sym cursor) loop)

-- a run that reaches a request begins with a move
moves : (m : Setting) (n place : ℕ) (stack : List ℤ) (held : ℤ) (answers : List ℤ) (left : ℕ) (k : OpenAsk) → exec m n place stack held answers left ≡ Reaches k → (n' : ℕ) × (going m.room (move m (slice_get m.code.instrs place) place stack held left) answers (exec m n') ≡ Reaches k)
moves m zero place stack held answers left k h = cc
moves m (suc n) place stack held answers left k h = (n, h)

not_stuck : (room : ℕ) (m : Move) (answers : List ℤ) (go : Next) (k : OpenAsk) → going room m answers go ≡ Reaches k → m ≢ Stuck
not_stuck room m answers go k h is = let e = ap (λ m. going room m answers go) is in cc

same_setting : (code : CodeView) (inputs : List ℤ) (c c' : CursorView) → c'.room ≡ c.room → c'.given ≡ c.given → setting_at inputs code c' ≡ setting_at inputs code c
same_setting code inputs c c' room given =
    ap {A = Given} {B = Setting} (λ k. setting_of inputs code k c'.room) given ∙ ap {A = ℕ} {B = Setting} (λ r. setting_of inputs code c.given r) room

module _ (code : CodeView) (inputs : List ℤ) (c0 : CursorView) (answer : Answer) (left0 : ℕ) (c : CursorView) (left : ℕ) where
  abbrev here : ℕ → Move
  here = move_at code inputs c

  abbrev m : Setting
  m = setting_at inputs code c

  abbrev then_on : ℕ → Next
  then_on = exec m

  pub goes_on : Loop code inputs c0 answer left0 c left → Runs code inputs c0 → here left ≢ Stuck
  goes_on loop r =
      let h = loop.on r.0 r.1 [] left in
      let n = moves m h.0 c.place c.stack c.held [] left _ h.1 in
      not_stuck c.room (here left) [] (then_on n.0) _ n.1

  onward : Loop code inputs c0 answer left0 c left → (x : Move) → here left ≡ x → IsOnward x → (b : Behaviour) → Follows code inputs c0 b → (answers : List ℤ) (l : ℕ) → (n : ℕ) × (going c.room (with_left x l) answers (then_on n) ≡ Reaches (b (word_in answer ∷ answers) (l + (left0 - left_of x))))
  onward loop x is on b f answers l =
      let s = straight m c.place c.stack c.held (slice_get code.instrs c.place) in
      let on' : IsOnward (here left) = subst IsOnward (sym is) on in
      let h = loop.on b f answers (l + (left - left_of (here left))) in
      let n = moves m h.0 c.place c.stack c.held answers _ _ h.1 in
      let e : l + (left - left_of (here left)) + (left0 - left) ≡ l + (left0 - left_of (here left)) = omega (arith, s.less left, loop.less) in
      subst (λ x. (n : ℕ) × (going c.room (with_left x l) answers (then_on n) ≡ Reaches (b (word_in answer ∷ answers) (l + (left0 - left_of x))))) is
      (n.0, ap (λ x. going c.room x answers (then_on n.0)) (sym (s.same left l on')) ∙ n.1 ∙ ap (λ k. Reaches (b (word_in answer ∷ answers) k)) e)

  pub less_on : (x : Move) → here left ≡ x → left_of x ≤ left
  less_on x is = subst (λ x. left_of x ≤ left) is ((straight m c.place c.stack c.held (slice_get code.instrs c.place)).less left)

  owes_on : (x : Move) → here left ≡ x → OwesAnswer x
  owes_on x is = subst OwesAnswer is ((straight m c.place c.stack c.held (slice_get code.instrs c.place)).owes left)

  -- the request of a move is that of the behaviour
  asked : Loop code inputs c0 answer left0 c left → (x : Move) → here left ≡ x → (k : OpenAsk) → ((go : Next) → going c.room x [] go ≡ Reaches k) → (b : Behaviour) → Follows code inputs c0 b → b (word_in answer ∷ []) left0 ≡ k
  asked loop x is k reaches b f =
      let h = loop.on b f [] left in
      let n = moves m h.0 c.place c.stack c.held [] left _ h.1 in
      let e : left + (left0 - left) ≡ left0 = omega (arith, loop.less) in
      let same : Reaches (b (word_in answer ∷ []) left0) ≡ Reaches k =
      ap (λ l. Reaches (b (word_in answer ∷ []) l)) (sym e) ∙ sym n.1 ∙ ap (λ x. going c.room x [] (then_on n.0)) is ∙ reaches (then_on n.0) in
      cc

  module _ (c' : CursorView) (left' : ℕ) (loop : Loop code inputs c0 answer left0 c left) (room : c'.room ≡ c.room) (given : c'.given ≡ c.given) where
    same : setting_at inputs code c' ≡ m
    same = same_setting code inputs c c' room given

    pub loop_goes : here left ≡ Goes c'.place c'.stack c'.held left' → Loop code inputs c0 answer left0 c' left'
    loop_goes is = record {
      less = omega (arith, loop.less, less_on _ is);
      on = λ b f answers l.
          let n = onward loop (Goes c'.place c'.stack c'.held left') is tt b f answers l in
          (n.0, ap (λ s. exec s n.0 c'.place c'.stack c'.held answers l) same ∙ n.1);
    }

    pub loop_waits : (k : Ask) → here left ≡ Waits k c'.owed c'.place c'.stack c'.held left' → Steps code inputs c0 answer left0 k c' left'
    loop_waits k is = record {
      less = omega (arith, loop.less, less_on _ is);
      asks = asked loop (Waits k c'.owed c'.place c'.stack c'.held left') is (asks_for k left') (λ go. refl);
      follows = λ b f h. record {
        by = λ a answers l.
            let n = onward loop (Waits k c'.owed c'.place c'.stack c'.held left') is tt b f (a ∷ answers) l in
            (n.0, ap (λ (s : Setting). received s.room c'.owed a c'.stack (λ stack. exec s n.0 c'.place stack c'.held answers l)) same ∙ n.1);
      };
      owes = λ h. owes_on _ is;
    }

  pub loop_stops : (k : Ask) (c' : CursorView) (left' : ℕ) → Loop code inputs c0 answer left0 c left → here left ≡ Stops k left' → Steps code inputs c0 answer left0 k c' left'
  loop_stops k c' left' loop is = record {
    less = omega (arith, loop.less, less_on _ is);
    asks = asked loop (Stops k left') is (asks_for k left') (λ go. refl);
    follows = λ b f h. absurd (owes_on _ is h);
    owes = λ h. absurd (owes_on _ is h);
  }

-- the same, of a frame with a history
pub stands_on : (code : CodeView) (inputs : List ℤ) (c : CursorView) (answer : Answer) (left : ℕ) (k : Ask) (c' : CursorView) (left' : ℕ) → Steps code inputs c answer left k c' left' → (p : Source) (callee : Callee) (history : List ℤ) (took : ℕ) → Stands code inputs p callee c history took → GoesOn code inputs c answer left k c' left' p callee history took
stands_on code inputs c answer left k c' left' steps p callee history took h =
    let b : Behaviour = λ answers left. frame_asks p inputs callee (history ++ answers) (took + left) in
    record {
      less = steps.less;
      asks = steps.asks b h;
      owes = steps.owes;
      stands = λ more. record {
        by = λ a answers l.
            let f = (steps.follows b h more).by a answers l in
            let same : took + (l + (left - left')) ≡ took + (left - left') + l = omega arith in (
              f.0,
              f.1 ∙ ap (λ n. Reaches (frame_asks p inputs callee (history ++ (word_in answer ∷ (a ∷ answers))) n)) same
                  ∙ ap (λ h. Reaches (frame_asks p inputs callee h (took + (left - left') + l))) (sym (append_assoc history (word_in answer ∷ []) (a ∷ answers))),
            );
      };
    }

-- a cursor at its beginning
pub stands_first : (p : Source) (code : CodeView) (inputs : List ℤ) (callee : Callee) → Behaves p code → CalleeIsFit p callee → Stands code inputs p callee (first_of code callee) [] 0
stands_first p code inputs callee h fit = record {
  by = λ a answers left.
      let n = h.asks callee fit inputs answers left in
      let same : left ≡ 0 + left = omega arith in
      (n.0, n.1 ∙ ap (λ l. Reaches (ended (frame_gives p inputs callee answers l))) same);
}

-- a frame that begins as a callee's does
pub stands_as : (p : Source) (code : CodeView) (inputs : List ℤ) (callee : Callee) (c x : CursorView) → c ≡ x → x ≡ first_of code callee → Behaves p code → CalleeIsFit p callee → Stands code inputs p callee c [] 0
stands_as p code inputs callee c x e same h fit = subst (λ (c : CursorView). Stands code inputs p callee c [] 0) (sym (e ∙ same)) (stands_first p code inputs callee h fit)

-- the root is always a valid callee
pub root_stands : (p : Source) (code : CodeView) (inputs : List ℤ) → Behaves p code → Stands code inputs p Root (first_of code Root) [] 0
root_stands p code inputs h = stands_first p code inputs Root h tt
