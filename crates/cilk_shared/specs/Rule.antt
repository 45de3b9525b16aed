-- The rule of the shared words: what they hold at each moment, and what each step does.
use Rattle.std.specs.Prelude.{◌≡◌, ◌≢◌, ℕ, ◌+◌, ◌<◌, ◌≤◌, ◌⊎◌, pos, List, [], length, slice_index, slice_index_or, cond, nat_lt}
use mathlib.Core.Option.{some}
use lib.ListN.{get_elem?}
use Rattle.atomic_table.specs.Table.{State, Me, Step}
use Rattle.cilk_tree.specs.Reach.{Among}
use Rattle.cilk_tree.specs.declared.event_order.EventOrder.{EventOrder}
use Rattle.cilk_tree.specs.Word.{read, write, spawn, resume, finish, word, word_step, predecessors_of, Before, IsWord}
use Rattle.cilk_tree.specs.Runs.{IsFollowed}
use Rattle.cilk_shared.specs.declared.view.View.{View}

abbrev pub view : EventOrder → ℕ → ℕ → View
view s a b = record { event_order = s; from = a; upto = b }

abbrev pub In : View → ℕ → Type 0
In v p = (v.from ≤ p) × (p < v.upto)

-- the events done by any seat
abbrev pub Done : List View → ℕ → Type 0
Done views p = (i : ℕ) × (v : View) × (get_elem? views i ≡ some v) × In v p

-- a range may begin at the first event or at the `resume` after a spawn
abbrev pub IsStart : EventOrder → ℕ → Type 0
IsStart s p = (1 ≤ p) × ((p ≡ 1) ⊎ ((q : ℕ) × (word_step s p ≡ resume q)))

abbrev pub cells : EventOrder → ℕ
cells s = length s.opening

-- the cell's word after the events of D is n: the value of the last write among them, or the
-- opening value
abbrev pub Shows : EventOrder → (ℕ → Type 0) → ℕ → ℕ → Type 0
Shows s D c n =
    ((n ≡ word (slice_index_or s.opening c (pos 0))) × ((q v : ℕ) → D q → word_step s q ≡ write c v → ⊥))
    ⊎ ((q : ℕ) × D q × (word_step s q ≡ write c n) × ((r v : ℕ) → D r → word_step s r ≡ write c v → r ≤ q))

-- The word of the continuation of the spawn at p, once the events of D are done: 0 before the
-- spawn, 1 after it, 2 once the continuation is resumed.
abbrev pub Cont : EventOrder → (ℕ → Type 0) → ℕ → ℕ → Type 0
Cont s D p n =
    ((n ≡ 0) × (D p → ⊥))
    ⊎ ((n ≡ 1) × D p × ((r : ℕ) → word_step s r ≡ resume p → D r → ⊥))
    ⊎ ((n ≡ 2) × D p × ((r : ℕ) → word_step s r ≡ resume p → D r))

-- the word of the run's end: 1 once the root's `end` is done
abbrev pub Over : EventOrder → (ℕ → Type 0) → ℕ → Type 0
Over s D n = ((n ≡ 0) × ((q : ℕ) → word_step s q ≡ finish → D q → ⊥)) ⊎ ((n ≡ 1) × ((q : ℕ) → word_step s q ≡ finish → D q))

-- The words after the events of D: one for each cell, then the word of the end, then one for each
-- position.
pub record Told (s : EventOrder) (D : ℕ → Type 0) (words : List ℕ) : Type 0 where
  pub wide : length words ≡ cells s + (length s.events + 1)
  pub each_cell : (c : ℕ) → c < cells s → Shows s D c (slice_index words c)
  pub over : Over s D (slice_index words (cells s))
  pub each_spawn : (p : ℕ) → word_step s p ≡ spawn → Cont s D p (slice_index words (cells s + p))

-- the views of the seats: each begins at a start, and no two overlap
pub record Parted (s : EventOrder) (views : List View) : Type 0 where
  pub begins : (i : ℕ) (v : View) → get_elem? views i ≡ some v → v.from < v.upto → IsStart s v.from
  pub apart : (i j : ℕ) (v w : View) (p : ℕ) → get_elem? views i ≡ some v → get_elem? views j ≡ some w → In v p → In w p → i ≡ j

-- each step on a word that comes before a done one is done
abbrev pub IsCut : EventOrder → (ℕ → Type 0) → Type 0
IsCut s D = (p q : ℕ) → D p → IsWord (word_step s p) → IsWord (word_step s q) → Before s q p → D q

-- the frames request each done step on a word, and everything before it
abbrev pub HasReached : EventOrder → (ℕ → Type 0) → Type 0
HasReached s D = (k : ℕ) → IsWord (word_step s k) → D k → IsFollowed s k

pub record Kept (s : EventOrder) (t : State (Unit {0}) View) : Type 0 where
  pub parted : Parted s t.views
  pub cut : IsCut s (Done t.views)
  pub told : Told s (Done t.views) t.words
  pub reached : HasReached s (Done t.views)

-- p is the first step on a word from a on
abbrev pub IsNext : EventOrder → ℕ → ℕ → Type 0
IsNext s a p = (a ≤ p) × IsWord (word_step s p) × ((q : ℕ) → a ≤ q → q < p → IsWord (word_step s q) → ⊥)

abbrev Sat : Type 0
Sat = Me (Unit {0}) View

-- the seat after it has done the next step on a word, at p
abbrev pub moved : Sat → ℕ → Sat
moved m p = (view m.0.event_order m.0.from (p + 1), m.1)

abbrev pub loads : Step (Unit {0}) → Sat → ℕ → Sat → Type 0
loads st m n m' = (p : ℕ) × IsNext m.0.event_order m.0.upto p × (m' ≡ moved m p) × (word_step m.0.event_order p ≡ read st.word n)

abbrev pub Moves : Sat → Sat → Type 0
Moves m m' = (p : ℕ) × IsNext m.0.event_order m.0.upto p × (m' ≡ moved m p)

abbrev pub stores : Step (Unit {0}) → Sat → ℕ → Sat → Type 0
stores st m n m' = Moves m m'

-- nothing changes; if the word of the end is 1, the frames request each event of the run
abbrev pub ends : Step (Unit {0}) → Sat → ℕ → Sat → Type 0
ends st m n m' = (m' ≡ m) × (n ≡ 1 → IsFollowed m.0.event_order (length m.0.event_order.events))

-- the immediate predecessors of each event of the range are in the range, or the event is the
-- resumption after a spawn
abbrev pub Whole : EventOrder → ℕ → ℕ → Type 0
Whole s a b = (x : ℕ) → a ≤ x → x < b → ((q : ℕ) × (word_step s x ≡ resume q)) ⊎ ((e : ℕ) → Among e (predecessors_of s x) → a ≤ e)

-- a segment from a up to b, whose seat has the view v
pub record Sits (s : EventOrder) (v : View) (a b : ℕ) : Type 0 where
  pub event_order : v.event_order ≡ s
  pub empty : b ≤ a → v.upto ≤ v.from
  pub from : a < b → (v.from ≡ a) × (a < v.upto) × (v.upto ≤ b)
  pub rest : (q : ℕ) → v.upto ≤ q → q < b → a < b → IsWord (word_step s q) → ⊥
  pub whole : Whole s a b
  pub known : (x : ℕ) → a ≤ x → x < b → IsFollowed s x

-- the continuation of the spawn at k is taken if its word is 1, and else nothing changes
abbrev pub takes : Step (Unit {0}) → Sat → ℕ → Sat → Type 0
takes st m n m' =
    (n ≡ 1 → (k : ℕ) × (p : ℕ) × (cells m.0.event_order + k ≡ st.word) × (word_step m.0.event_order p ≡ resume k) × IsFollowed m.0.event_order k × (m' ≡ (view m.0.event_order (cond (nat_lt m.0.from m.0.upto) m.0.from p) (p + 1), m.1)))
    × (n ≢ 1 → m' ≡ m)

-- an empty seat beside a seat
abbrev pub beside : View → View
beside v = view v.event_order 0 0

abbrev pub spent : View
spent = view (record { events = []; preceding = []; opening = []; asked = [] }) 0 0

-- the union of two ranges that adjoin
abbrev pub joined : View → View → View
joined v w = cond (nat_lt v.from v.upto) (cond (nat_lt w.from w.upto) (view v.event_order v.from w.upto) v) (view v.event_order w.from w.upto)
