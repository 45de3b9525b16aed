-- Each step of a yard keeps its rule.
--
-- - `next_once`: there is one next step on a word;
-- - `up_on`, `up_resume`, `up_line`, `up_event`: what comes before an event is requested;
-- - `sits_on`, `sits_next`, `wider_..`: a segment and its view with one event more;
-- - `kept_at`, `kept_written`, `kept_opened`, `kept_taken`, `kept_finished`: the rule after a step;
-- - `allows_..`, and `load_at`, `store_at`, `offer_at`, `take_at`, `finish_at` of a seat as a
--   segment has it;
-- - `stands`, `is_inside`, `has_room`, `moves`, `moved_at`: a segment whose next event is a step on
--   a word, and the segment after it;
-- - `sits_taken`, `passes`: the segment after a take, and past an event that is no step on a word;
-- - `both`, `along`, `both_along`: a fact of what contracts see is one of the fields;
-- - `ended_at`: a look at the end; `spawn_within`: the position of a spawn;
-- - `departing`: where the run departs.
use Rattle.std.proofs.Common.{◌≡◌, ◌≢◌, ◌⊎◌, ℕ, ◌+◌, ◌-◌, ◌^◌, ◌<◌, ◌≤◌, List, [], length, get_or, set, inl, inr, ⊎_elim, refl, sym, ap, ◌∙◌, subst, arith, cond, eqb, ltb, eq-eqb, ne_eqb, Some}
use Rattle.std.proofs.lemmas.List.{set-get_or}
use Rattle.std.proofs.lemmas.Bool.{lt-ltb, le-ltb}
use prog.Atomic.{either}
use Rattle.atomic_table.proofs.Lists.{set_again}
use mathlib.Core.Logic.{dite}
use mathlib.Core.Option.{none, some}
use native.Mathlib.Decide.{dec_lt, ℕ_discrete}
use lib.ListN.{get_elem?}
use Rattle.atomic_table.specs.Table.{State, Me, step, keeps, stepped, Allows}
use Rattle.cilk_tree.specs.declared.event_order.EventOrder.{EventOrder}
use Rattle.cilk_shared.specs.declared.view.View.{View}
use Rattle.cilk_shared.specs.Rule.{view, In, Done, Parted, IsCut, Told, HasReached, Kept, Cont, cells, Sits, IsNext, loads, Moves, takes, ends, Over}
use Rattle.cilk_shared.specs.Values.{YardValue, SegmentValue}
use Rattle.cilk_shared.proofs.Sets.{found, cut_more, told_read, told_written, told_opened, told_taken, word_of_read, word_of_write, word_of_spawn, told_finished, word_of_resume, word_of_finish}
use Rattle.cilk_shared.proofs.Rows.{done_into, done_here, done_keep, parted_set, gap, fresh_line, ready_line}
use Rattle.cilk_tree.specs.Word.{plain, read, write, spawn, resume, WordEvent, word_step, predecessors_of, Before, IsWord, IsLine, finish, event}
use Rattle.cilk_tree.specs.Reach.{Among, direct, through}
use Rattle.cilk_tree.specs.Runs.{IsAsked, IsFollowed, Departs}
use Rattle.cilk_tree.specs.Orders.{IsOrderly}
use Rattle.cilk_tree.specs.Values.{HasValues}
use Rattle.cilk_types.specs.declared.event.Event.TheVariants.{Sync}
use Rattle.cilk_shared.proofs.Values.{reads_shows}

-- the first step on a word from a place on
pub next_once : (s : EventOrder) (a p q : ℕ) → IsNext s a p → a ≤ q → IsWord (word_step s q) → ((k : ℕ) → a ≤ k → k < q → IsWord (word_step s k) → ⊥) → p ≡ q
next_once s a p q next le word none_before = dite (dec_lt p q)
    (λ (early : p < q). absurd (none_before p next.0 early next.1))
    (λ not. dite (dec_lt q p)
    (λ (late : q < p). absurd (next.2 q le late word))
    (λ nor. omega arith))

-- all that comes before p is in the range, and fits
pub up_on : (s : EventOrder) (law : IsOrderly s) (a p : ℕ) → ((x : ℕ) → a ≤ x → x < p → IsFollowed s x) → ((e : ℕ) → Among e (predecessors_of s p) → a ≤ e) → IsAsked s p → IsFollowed s p
up_on s law a p known inner fits q (inl same) = subst (λ j. IsAsked s j) (sym same) fits
up_on s law a p known inner fits q (inr (direct there)) = known q (inner q there) (law.earlier p q there) q (inl refl)
up_on s law a p known inner fits q (inr (through {e = e} b there)) = known e (inner e there) (law.earlier p e there) q (inr b)

-- all that comes before the resumption after the spawn at k
pub up_resume : (s : EventOrder) (law : IsOrderly s) (k p : ℕ) → word_step s p ≡ resume k → IsFollowed s k → IsAsked s p → IsFollowed s p
up_resume s law k p is up fits q (inl same) = subst (λ j. IsAsked s j) (sym same) fits
up_resume s law k p is up fits q (inr (direct there)) = up q (inl ((law.resumed p k is).2 q there))
up_resume s law k p is up fits q (inr (through {e = e} b there)) = up q (inr (subst (λ j. Before s q j) ((law.resumed p k is).2 e there) b))

module _ (s : EventOrder) (law : IsOrderly s) (v : View) (a p : ℕ) (sits : Sits s v a p) (some_done : a < p) where
  pub up_line : IsLine (word_step s p) → IsAsked s p → IsFollowed s p
  up_line line fits = up_on s law a p sits.known (λ e there. let near = law.line p line e there in omega arith) fits

  wider : View
  wider = view v.event_order v.from (p + 1)

  grows : (x : ℕ) → In v x → In (view v.event_order v.from (p + 1)) x
  grows x inside = let f = sits.from some_done in (inside.0, omega (arith, f.2, inside.1))

  pub sits_on : ((q : ℕ) × (word_step s p ≡ resume q)) ⊎ ((e : ℕ) → Among e (predecessors_of s p) → a ≤ e) → IsFollowed s p → Sits s (view v.event_order v.from (p + 1)) a (p + 1)
  sits_on ahead up =
      let f = sits.from some_done in
      record {
        event_order = sits.event_order;
        empty = λ le. absurd (omega arith);
        from = λ lt. (f.0, omega arith, omega arith);
        rest = λ q le lt _ _. omega arith;
        whole = λ x le lt. dite (ℕ_discrete x p)
            (λ (same : x ≡ p). subst (λ j. ((q : ℕ) × (word_step s j ≡ resume q)) ⊎ ((e : ℕ) → Among e (predecessors_of s j) → a ≤ e)) (sym same) ahead)
            (λ (other : x ≢ p). sits.whole x le (omega arith));
        known = λ x le lt. dite (ℕ_discrete x p)
            (λ (same : x ≡ p). subst (λ j. IsFollowed s j) (sym same) up)
            (λ (other : x ≢ p). sits.known x le (omega arith));
      }

  pub sits_next : IsLine (word_step s p) → IsFollowed s p → Sits s (view v.event_order v.from (p + 1)) a (p + 1)
  sits_next line up = sits_on (inr (λ e there. let near = law.line p line e there in omega arith)) up

  pub is_next : IsWord (word_step s p) → IsNext s v.upto p
  is_next word = let f = sits.from some_done in (f.2, word, λ q le lt is. sits.rest q le lt some_done is)

  module _ (views : List View) (id : ℕ) (parted : Parted s views) (at : get_elem? views id ≡ some v) (fresh : Done views p → ⊥) where
    pub wider_into : (q : ℕ) → IsWord (word_step s q) → Done (set views id (view v.event_order v.from (p + 1))) q → Done views q ⊎ (q ≡ p)
    wider_into q word e = ⊎_elim
        (λ (d : Done views q). inl d)
        (λ (inside : In (view v.event_order v.from (p + 1)) q). dite (dec_lt q v.upto)
        (λ (old : q < v.upto). inl (id, v, at, (inside.0, old)))
        (λ not. dite (ℕ_discrete q p)
        (λ (same : q ≡ p). inr same)
        (λ (other : q ≢ p). absurd (sits.rest q (omega arith) (omega (arith, inside.1)) some_done word))))
        (done_into s views parted id v at (view v.event_order v.from (p + 1)) grows q e)

    pub wider_keep : (q : ℕ) → Done views q → Done (set views id (view v.event_order v.from (p + 1))) q
    wider_keep q d = done_keep s views parted id v at (view v.event_order v.from (p + 1)) grows q d

    pub wider_reached : HasReached s (Done views) → IsFollowed s p → HasReached s (Done (set views id (view v.event_order v.from (p + 1))))
    wider_reached reached up k word d = ⊎_elim (λ (old : Done views k). reached k word old) (λ (same : k ≡ p). subst (λ j. IsFollowed s j) (sym same) up) (wider_into k word d)

    pub wider_here : Done (set views id (view v.event_order v.from (p + 1))) p
    wider_here = let f = sits.from some_done in done_here s views parted id v at (view v.event_order v.from (p + 1)) grows p (omega (arith, f.0), omega arith)

    pub wider_parted : Parted s (set views id (view v.event_order v.from (p + 1)))
    wider_parted =
        let f = sits.from some_done in
        parted_set s views parted id v at (view v.event_order v.from (p + 1)) grows
        (λ _. parted.begins id v at (omega (arith, f.0, f.1)))
        (λ x i u inside other there theirs. dite (dec_lt x v.upto)
        (λ (old : x < v.upto). other (parted.apart i id u v x there at theirs (inside.0, old)))
        (λ not. dite (ℕ_discrete x p)
        (λ (same : x ≡ p). fresh (i, u, there, subst (λ k. In u k) same theirs))
        (λ (apart : x ≢ p). gap s views parted id v at a p sits some_done i x u other there theirs (omega arith) (omega (arith, inside.1)))))

  module _ (slots id : ℕ) where
    pub allows_load : (values : HasValues s) (c n : ℕ) → c < cells s → word_step s p ≡ read c n → IsAsked s p → Allows (Kept s) slots id (v, []) c (λ x. x) (loads (step slots c 0 0 none) (v, []))
    allows_load values c n small is fits t kept _ at _ =
        let line : IsLine (word_step s p) = subst IsLine (sym is) tt in
        let up : IsFollowed s p = up_line line fits in
        let word : IsWord (word_step s p) = word_of_read (word_step s p) c n is in
        let fresh : Done t.views p → ⊥ = λ d. fresh_line s t.views kept.parted id v at a p sits some_done (λ q r. absurd (cc (sym is ∙ r))) d.0 d.1 d.2 d.3 in
        let ready : (q : ℕ) → IsWord (word_step s q) → Before s q p → Done t.views q = λ q w b. ready_line s t.views kept.parted id v at a p sits some_done law kept.cut line w b in
        let E : ℕ → Type 0 = Done (set t.views id (view v.event_order v.from (p + 1))) in
        let into = wider_into t.views id kept.parted at fresh in
        let keep = wider_keep t.views id kept.parted at fresh in
        let here = wider_here t.views id kept.parted at fresh in
        let told : Told s E t.words = told_read s law (Done t.views) kept.cut p fresh ready E into keep here t.words c n is kept.told in
        let value : get_or t.words c 0 ≡ n = found s law (Done t.views) kept.cut p fresh ready c (get_or t.words c 0) n is (reads_shows s law values p c n up is) (kept.told.each_cell c small) in (
          view v.event_order v.from (p + 1),
          keeps,
          tt,
          record {
            parted = wider_parted t.views id kept.parted at fresh;
            cut = cut_more s law (Done t.views) kept.cut p fresh ready E into keep here;
            told = subst (λ ws. Told s E ws) (sym (set-get_or t.words c 0)) told;
            reached = wider_reached t.views id kept.parted at fresh kept.reached up;
          },
          (p, subst (λ z. IsNext z v.upto p) (sym sits.event_order) (is_next word), refl, subst (λ z. word_step z p ≡ read c (get_or t.words c 0)) (sym sits.event_order) (is ∙ ap (λ k. read c k) (sym value))),
        )

  -- the rule after a step at p, after which the words are ws
  module _ (id : ℕ) (t : State (Unit {0}) View) (kept : Kept s t) (at : get_elem? t.views id ≡ some v) (fresh : Done t.views p → ⊥) (ready : (q : ℕ) → IsWord (word_step s q) → Before s q p → Done t.views q) (up : IsFollowed s p) where
    pub kept_at : (i n : ℕ) → Told s (Done (set t.views id (view v.event_order v.from (p + 1)))) (set t.words i n) → Kept s (stepped t i n id [] (view v.event_order v.from (p + 1)) keeps)
    kept_at i n told = record {
      parted = wider_parted t.views id kept.parted at fresh;
      cut = cut_more s law (Done t.views) kept.cut p fresh ready (Done (set t.views id (view v.event_order v.from (p + 1)))) (wider_into t.views id kept.parted at fresh) (wider_keep t.views id kept.parted at fresh) (wider_here t.views id kept.parted at fresh);
      told = told;
      reached = wider_reached t.views id kept.parted at fresh kept.reached up;
    }

    pub kept_written : (c n : ℕ) → c < cells s → word_step s p ≡ write c n → Kept s (stepped t c n id [] (view v.event_order v.from (p + 1)) keeps)
    kept_written c n small is = kept_at c n (told_written s law (Done t.views) kept.cut p fresh ready (Done (set t.views id (view v.event_order v.from (p + 1)))) (wider_into t.views id kept.parted at fresh) (wider_keep t.views id kept.parted at fresh) (wider_here t.views id kept.parted at fresh) t.words c n small is kept.told)

    pub kept_opened : word_step s p ≡ spawn → p ≤ length s.events → Kept s (stepped t (cells s + p) 1 id [] (view v.event_order v.from (p + 1)) keeps)
    kept_opened is small = kept_at (cells s + p) 1 (told_opened s law (Done t.views) kept.cut p fresh ready (Done (set t.views id (view v.event_order v.from (p + 1)))) (wider_into t.views id kept.parted at fresh) (wider_keep t.views id kept.parted at fresh) (wider_here t.views id kept.parted at fresh) t.words is small kept.told)

    pub kept_taken : (k : ℕ) → word_step s p ≡ resume k → k ≤ length s.events → Kept s (stepped t (cells s + k) 2 id [] (view v.event_order v.from (p + 1)) keeps)
    kept_taken k is small = kept_at (cells s + k) 2 (told_taken s law (Done t.views) kept.cut p fresh ready (Done (set t.views id (view v.event_order v.from (p + 1)))) (wider_into t.views id kept.parted at fresh) (wider_keep t.views id kept.parted at fresh) (wider_here t.views id kept.parted at fresh) t.words k is small kept.told)

    pub kept_finished : word_step s p ≡ finish → Kept s (stepped t (cells s) 1 id [] (view v.event_order v.from (p + 1)) keeps)
    kept_finished is = kept_at (cells s) 1 (told_finished s law (Done t.views) kept.cut p fresh ready (Done (set t.views id (view v.event_order v.from (p + 1)))) (wider_into t.views id kept.parted at fresh) (wider_keep t.views id kept.parted at fresh) (wider_here t.views id kept.parted at fresh) t.words is kept.told)

  module _ (id : ℕ) (t : State (Unit {0}) View) (kept : Kept s t) (at : get_elem? t.views id ≡ some v) (line : IsLine (word_step s p)) (no_resume : (q : ℕ) → word_step s p ≡ resume q → ⊥) where
    line_fresh : Done t.views p → ⊥
    line_fresh d = fresh_line s t.views kept.parted id v at a p sits some_done no_resume d.0 d.1 d.2 d.3

    line_ready : (q : ℕ) → IsWord (word_step s q) → Before s q p → Done t.views q
    line_ready q w b = ready_line s t.views kept.parted id v at a p sits some_done law kept.cut line w b

  told_move : IsWord (word_step s p) → Moves (v, []) (view v.event_order v.from (p + 1), [])
  told_move word = (p, subst (λ z. IsNext z v.upto p) (sym sits.event_order) (is_next word), refl)

  pub allows_store : (slots id c n : ℕ) → c < cells s → word_step s p ≡ write c n → IsAsked s p → Allows (Kept s) slots id (v, []) c (λ _. n) (λ _. Moves (v, []))
  allows_store slots id c n small is fits t kept _ at _ =
      let line : IsLine (word_step s p) = subst IsLine (sym is) tt in
      let no_resume : (q : ℕ) → word_step s p ≡ resume q → ⊥ = λ q r. absurd (cc (sym is ∙ r)) in
      (view v.event_order v.from (p + 1), keeps, tt, kept_written id t kept at (line_fresh id t kept at line no_resume) (line_ready id t kept at line no_resume) (up_line line fits) c n small is, told_move (word_of_write (word_step s p) c n is))

  pub allows_offer : (slots id : ℕ) → p ≤ length s.events → word_step s p ≡ spawn → IsAsked s p → Allows (Kept s) slots id (v, []) (cells s + p) (λ _. 1) (λ _. Moves (v, []))
  allows_offer slots id small is fits t kept _ at _ =
      let line : IsLine (word_step s p) = subst IsLine (sym is) tt in
      let no_resume : (q : ℕ) → word_step s p ≡ resume q → ⊥ = λ q r. absurd (cc (sym is ∙ r)) in
      (view v.event_order v.from (p + 1), keeps, tt, kept_opened id t kept at (line_fresh id t kept at line no_resume) (line_ready id t kept at line no_resume) (up_line line fits) is small, told_move (word_of_spawn (word_step s p) is))

  pub allows_finish : (slots id : ℕ) → word_step s p ≡ finish → IsAsked s p → Allows (Kept s) slots id (v, []) (cells s) (λ _. 1) (λ _. Moves (v, []))
  allows_finish slots id is fits t kept _ at _ =
      let line : IsLine (word_step s p) = subst IsLine (sym is) tt in
      let no_resume : (q : ℕ) → word_step s p ≡ resume q → ⊥ = λ q r. absurd (cc (sym is ∙ r)) in
      (view v.event_order v.from (p + 1), keeps, tt, kept_finished id t kept at (line_fresh id t kept at line no_resume) (line_ready id t kept at line no_resume) (up_line line fits) is, told_move (word_of_finish (word_step s p) is))

-- nothing changes
pub unmoved : (s : EventOrder) (t : State (Unit {0}) View) (id i : ℕ) (v : View) → Kept s t → get_elem? t.views id ≡ some v → Kept s (stepped t i (get_or t.words i 0) id [] v keeps)
unmoved s t id i v kept at =
    let views : set t.views id v ≡ t.views = set_again t.views id v at in
    let words : set t.words i (get_or t.words i 0) ≡ t.words = set-get_or t.words i 0 in
    record {
      parted = subst (λ vs. Parted s vs) (sym views) kept.parted;
      cut = subst (λ vs. IsCut s (Done vs)) (sym views) kept.cut;
      told = subst (λ ws. Told s (Done (set t.views id v)) ws) (sym words) (subst (λ vs. Told s (Done vs) t.words) (sym views) kept.told);
      reached = subst (λ vs. HasReached s (Done vs)) (sym views) kept.reached;
    }

-- where the word of the end is 1, all is done
over_done : (s : EventOrder) (D : ℕ → Type 0) (n q : ℕ) → n ≡ 1 → word_step s q ≡ finish → Over s D n → D q
over_done s D n q one is (inl a) = absurd (omega (arith, one, a.0))
over_done s D n q one is (inr a) = a.1 q is

-- a look at the end
pub ended_at : (s : EventOrder) → IsOrderly s → (slots id i : ℕ) (me : Me (Unit {0}) View) → me.0.event_order ≡ s → me.1 ≡ [] → i ≡ cells s → Allows (Kept s) slots id me i (λ x. x) (ends (step slots i 0 0 none) me)
ended_at s law slots id i me same bare there =
    let z : ℕ = length s.events in
    let Goal : ℕ → List (ℕ × Unit {0}) → Type 0 = λ j xs. Allows (Kept s) slots id (me.0, xs) j (λ x. x) (ends (step slots j 0 0 none) (me.0, xs)) in
    let here : Goal (cells s) [] = λ t kept _ at _. (
      me.0,
      keeps,
      tt,
      unmoved s t id (cells s) me.0 kept at,
      (refl, λ one. subst (λ (y : EventOrder). IsFollowed y (length y.events)) (sym same) (kept.reached z (word_of_finish (word_step s z) law.last) (over_done s (Done t.views) _ z one law.last kept.told.over))),
    ) in
    subst (λ j. Goal j me.1) (sym there) (subst (λ xs. Goal (cells s) xs) (sym bare) here)

-- a spawn that is resumed is within the run
pub spawn_within : (s : EventOrder) → IsOrderly s → (k p : ℕ) → word_step s p ≡ resume k → k ≤ length s.events
spawn_within s law k p is = (law.inside k (word_of_spawn (word_step s k) (law.resumed p k is).0)).1

-- what the word of a continuation that can be taken says
could_take : (s : EventOrder) (D : ℕ → Type 0) (k n : ℕ) → n ≡ 1 → Cont s D k n → D k × ((r : ℕ) → word_step s r ≡ resume k → D r → ⊥)
could_take s D k n one (inl a) = absurd (omega (arith, a.0))
could_take s D k n one (inr (inl a)) = (a.1, a.2)
could_take s D k n one (inr (inr a)) = absurd (omega (arith, a.0))

module _ (s : EventOrder) (law : IsOrderly s) (k p : ℕ) (is : word_step s p ≡ resume k) (v : View) (t : State (Unit {0}) View) (id : ℕ) (kept : Kept s t) (at : get_elem? t.views id ≡ some v) (one : get_or t.words (cells s + k) 0 ≡ 1) (fits : IsAsked s k → IsAsked s p) where
  spawned : word_step s k ≡ spawn
  spawned = (law.resumed p k is).0

  open_word : Done t.views k × ((r : ℕ) → word_step s r ≡ resume k → Done t.views r → ⊥)
  open_word = could_take s (Done t.views) k (get_or t.words (cells s + k) 0) one (kept.told.each_spawn k spawned)

  pub up_spawn : IsFollowed s k
  up_spawn = kept.reached k (word_of_spawn (word_step s k) spawned) open_word.0

  up : IsFollowed s p
  up = up_resume s law k p is up_spawn (fits (up_spawn k (inl refl)))

  take_fresh : Done t.views p → ⊥
  take_fresh d = open_word.1 p is d

  take_ready : (q : ℕ) → IsWord (word_step s q) → Before s q p → Done t.views q
  take_ready q word (direct there) = subst (λ j. Done t.views j) (sym ((law.resumed p k is).2 q there)) open_word.0
  take_ready q word (through {e = e} b there) = kept.cut k q open_word.0 (word_of_spawn (word_step s k) spawned) word (subst (λ j. Before s q j) ((law.resumed p k is).2 e there) b)

  small_spawn : k ≤ length s.events
  small_spawn = spawn_within s law k p is

  -- a segment continues
  take_on : (a : ℕ) → Sits s v a p → a < p → Kept s (stepped t (cells s + k) 2 id [] (view v.event_order v.from (p + 1)) keeps)
  take_on a sits some_done = kept_taken s law v a p sits some_done id t kept at take_fresh take_ready up k is small_spawn

  -- an empty segment begins
  module _ (none_done : v.upto ≤ v.from) where
    fresh_grows : (x : ℕ) → In v x → In (view v.event_order p (p + 1)) x
    fresh_grows x i = absurd (omega (arith, i.0, i.1))

    fresh_into : (q : ℕ) → IsWord (word_step s q) → Done (set t.views id (view v.event_order p (p + 1))) q → Done t.views q ⊎ (q ≡ p)
    fresh_into q word e = ⊎_elim (λ (d : Done t.views q). inl d) (λ (i : In (view v.event_order p (p + 1)) q). inr (omega (arith, i.0, i.1)))
        (done_into s t.views kept.parted id v at (view v.event_order p (p + 1)) fresh_grows q e)

    fresh_keep : (q : ℕ) → Done t.views q → Done (set t.views id (view v.event_order p (p + 1))) q
    fresh_keep q d = done_keep s t.views kept.parted id v at (view v.event_order p (p + 1)) fresh_grows q d

    fresh_here : Done (set t.views id (view v.event_order p (p + 1))) p
    fresh_here = done_here s t.views kept.parted id v at (view v.event_order p (p + 1)) fresh_grows p (omega arith, omega arith)

    take_new : Kept s (stepped t (cells s + k) 2 id [] (view v.event_order p (p + 1)) keeps)
    take_new = record {
      parted = parted_set s t.views kept.parted id v at (view v.event_order p (p + 1)) fresh_grows (λ _. ((law.inside p (word_of_resume (word_step s p) k is)).0, inr (k, is)))
          (λ x i u here other there theirs. take_fresh (i, u, there, subst (λ j. In u j) (let same : x ≡ p = omega (arith, here.0, here.1) in same) theirs));
      cut = cut_more s law (Done t.views) kept.cut p take_fresh take_ready (Done (set t.views id (view v.event_order p (p + 1)))) fresh_into fresh_keep fresh_here;
      told = told_taken s law (Done t.views) kept.cut p take_fresh take_ready (Done (set t.views id (view v.event_order p (p + 1)))) fresh_into fresh_keep fresh_here t.words k is small_spawn kept.told;
      reached = λ j word d. ⊎_elim (λ (old : Done t.views j). kept.reached j word old) (λ (same : j ≡ p). subst (λ i. IsFollowed s i) (sym same) up) (fresh_into j word d);
    }

-- a seat whose segment is empty, or continues at p
abbrev pub Goes : EventOrder → View → ℕ → ℕ → Type 0
Goes s v a p = (v.upto ≤ v.from) ⊎ ((a < p) × Sits s v a p)

begun : (s : EventOrder) (v : View) (a p : ℕ) → Goes s v a p → ℕ
begun s v a p (inl e) = p
begun s v a p (inr g) = v.from

take_kept : (s : EventOrder) (law : IsOrderly s) (k p : ℕ) (is : word_step s p ≡ resume k) (v : View) (t : State (Unit {0}) View) (id : ℕ) (kept : Kept s t) (at : get_elem? t.views id ≡ some v) (one : get_or t.words (cells s + k) 0 ≡ 1) (fits : IsAsked s k → IsAsked s p) (a : ℕ) (g : Goes s v a p)
    → Kept s (stepped t (cells s + k) 2 id [] (view v.event_order (cond (ltb v.from v.upto) v.from p) (p + 1)) keeps)
take_kept s law k p is v t id kept at one fits a (inl e) = subst (λ b. Kept s (stepped t (cells s + k) 2 id [] (view v.event_order (cond b v.from p) (p + 1)) keeps)) (sym (le-ltb v.from v.upto e)) (take_new s law k p is v t id kept at one fits e)
take_kept s law k p is v t id kept at one fits a (inr g) =
    let f = g.1.from g.0 in
    subst (λ b. Kept s (stepped t (cells s + k) 2 id [] (view v.event_order (cond b v.from p) (p + 1)) keeps)) (sym (lt-ltb v.from v.upto (omega (arith, f.0, f.1)))) (take_on s law k p is v t id kept at one fits a g.1 g.0)

pub allows_take : (s : EventOrder) (law : IsOrderly s) (k p : ℕ) (is : word_step s p ≡ resume k) (fits : IsAsked s k → IsAsked s p) (v : View) (same : v.event_order ≡ s) (a : ℕ) (g : Goes s v a p) (slots id : ℕ)
    → Allows (Kept s) slots id (v, []) (cells s + k) (λ n. either (eqb n 1) 2 n) (takes (step slots (cells s + k) 1 2 none) (v, []))
allows_take s law k p is fits v same a g slots id t kept _ at _ =
    let x : ℕ = get_or t.words (cells s + k) 0 in
    let w : View = view v.event_order (cond (ltb v.from v.upto) v.from p) (p + 1) in
    dite (ℕ_discrete x 1)
    (λ (hit : x ≡ 1). (
      w,
      keeps,
      tt,
      subst (λ b. Kept s (stepped t (cells s + k) (either b 2 x) id [] w keeps)) (sym (eq-eqb x 1 hit)) (take_kept s law k p is v t id kept at hit fits a g),
      ((λ _. (k, p, ap (λ z. cells z + k) same, ap (λ z. word_step z p) same ∙ is, subst (λ z. IsFollowed z k) (sym same) (up_spawn s law k p is v t id kept at hit fits), refl)), λ (miss : x ≢ 1). absurd (miss hit)),
    ))
    (λ (miss : x ≢ 1). (
      v,
      keeps,
      tt,
      subst (λ b. Kept s (stepped t (cells s + k) (either b 2 x) id [] v keeps)) (sym (ne_eqb x 1 miss)) (unmoved s t id (cells s + k) v kept at),
      ((λ (hit : x ≡ 1). absurd (miss hit)), λ _. refl),
    ))

-- a seat of a segment from a up to p, whose next event is a step on a word at p
pub record Stands (s : EventOrder) (me : Me (Unit {0}) View) (a p : ℕ) : Type 0 where
  pub law : IsOrderly s
  pub bare : me.1 ≡ []
  pub same : me.0.event_order ≡ s
  pub sits : Sits s me.0 a p
  pub some_done : a < p
  pub asked : IsAsked s p
  pub line : IsLine (word_step s p)

pub stands : (s : EventOrder) (me : Me (Unit {0}) View) (a p : ℕ) → IsOrderly s → (me.1 ≡ []) × Sits me.0.event_order me.0 a p → me.0.event_order ≡ s → (a < p) × IsAsked s p → IsLine (word_step s p) → Stands s me a p
stands s me a p law inside same goes line = record {
  law = law;
  bare = inside.0;
  same = same;
  sits = subst (λ z. Sits z me.0 a p) same inside.1;
  some_done = goes.0;
  asked = goes.1;
  line = line;
}

word_of_line : (e : WordEvent) → IsLine e → IsWord e
word_of_line plain h = h
word_of_line (read c n) h = h
word_of_line (write c n) h = h
word_of_line spawn h = h
word_of_line (resume q) h = absurd h
word_of_line finish h = h

module _ (s : EventOrder) (me : Me (Unit {0}) View) (a p : ℕ) (h : Stands s me a p) where
  step_word : IsWord (word_step s p)
  step_word = word_of_line (word_step s p) h.line

  -- there is room for the step
  pub is_inside : p ≤ length s.events
  is_inside = (h.law.inside p step_word).1

  pub has_room : p + 1 < 2 ^ 32
  has_room = let l = is_inside in let few = h.law.few in omega (arith, l, few)

  pub load_at : (values : HasValues s) (slots id c n : ℕ) → c < cells s → word_step s p ≡ read c n → Allows (Kept s) slots id me c (λ x. x) (loads (step slots c 0 0 none) me)
  load_at values slots id c n small is =
      subst (λ xs. Allows (Kept s) slots id (me.0, xs) c (λ x. x) (loads (step slots c 0 0 none) (me.0, xs))) (sym h.bare)
      (allows_load s h.law me.0 a p h.sits h.some_done slots id values c n small is h.asked)

  pub store_at : (slots id c n : ℕ) → c < cells s → word_step s p ≡ write c n → Allows (Kept s) slots id me c (λ _. n) (λ _. Moves me)
  store_at slots id c n small is =
      subst (λ xs. Allows (Kept s) slots id (me.0, xs) c (λ _. n) (λ _. Moves (me.0, xs))) (sym h.bare)
      (allows_store s h.law me.0 a p h.sits h.some_done slots id c n small is h.asked)

  pub offer_at : (slots id i : ℕ) → i ≡ cells s + p → word_step s p ≡ spawn → Allows (Kept s) slots id me i (λ _. 1) (λ _. Moves me)
  offer_at slots id i there is =
      let Goal : ℕ → List (ℕ × Unit {0}) → Type 0 = λ j xs. Allows (Kept s) slots id (me.0, xs) j (λ _. 1) (λ _. Moves (me.0, xs)) in
      subst (λ j. Goal j me.1) (sym there) (subst (λ xs. Goal (cells s + p) xs) (sym h.bare) (allows_offer s h.law me.0 a p h.sits h.some_done slots id is_inside is h.asked))

  pub finish_at : (slots id i : ℕ) → i ≡ cells s → word_step s p ≡ finish → Allows (Kept s) slots id me i (λ _. 1) (λ _. Moves me)
  finish_at slots id i there is =
      let Goal : ℕ → List (ℕ × Unit {0}) → Type 0 = λ j xs. Allows (Kept s) slots id (me.0, xs) j (λ _. 1) (λ _. Moves (me.0, xs)) in
      subst (λ j. Goal j me.1) (sym there) (subst (λ xs. Goal (cells s) xs) (sym h.bare) (allows_finish s h.law me.0 a p h.sits h.some_done slots id is h.asked))

  -- a load is a step
  pub moves : (slots c n : ℕ) (m' : Me (Unit {0}) View) → loads (step slots c 0 0 none) me n m' → Moves me m'
  moves slots c n m' told = (told.0, told.1, told.2)

  moved_is : (m' : Me (Unit {0}) View) → Moves me m' → m' ≡ (view me.0.event_order me.0.from (p + 1), [])
  moved_is m' told =
      let f = h.sits.from h.some_done in
      let is : told.0 ≡ p = next_once s me.0.upto told.0 p (subst (λ z. IsNext z me.0.upto told.0) h.same told.1) f.2 step_word (λ k le lt w. h.sits.rest k le lt h.some_done w) in
      told.2 ∙ ap (λ k. (view me.0.event_order me.0.from (k + 1), me.1)) is ∙ ap (λ xs. (view me.0.event_order me.0.from (p + 1), xs)) h.bare

  -- the segment after the step
  pub moved_at : (m' : Me (Unit {0}) View) → Moves me m' → (m'.1 ≡ []) × Sits m'.0.event_order m'.0 a (p + 1)
  moved_at m' told =
      let is = moved_is m' told in (
        ap (λ m. m.1) is,
        subst (λ (m : Me (Unit {0}) View). Sits m.0.event_order m.0 a (p + 1)) (sym is) (subst (λ z. Sits z (view me.0.event_order me.0.from (p + 1)) a (p + 1)) (sym h.same) (sits_next s h.law me.0 a p h.sits h.some_done h.line (up_line s h.law me.0 a p h.sits h.some_done h.line h.asked))),
      )

-- a fact of what contracts see is one of the fields
pub both : {y y' : YardValue} {g g' : SegmentValue} (P : YardValue → SegmentValue → Type 0) → y ≡ y' → g ≡ g' → P y' g' → P y g
both {y' = y'} {g = g} P e f h = subst (λ k. P k g) (sym e) (subst (λ k. P y' k) (sym f) h)

-- a segment of one resumption
sits_new : (s z : EventOrder) (k p : ℕ) → word_step s p ≡ resume k → IsFollowed s p → z ≡ s → Sits s (view z p (p + 1)) p (p + 1)
sits_new s z k p is up same = record {
  event_order = same;
  empty = λ le. le;
  from = λ _. (refl, omega arith, omega arith);
  rest = λ q le lt _ _. omega arith;
  whole = λ x le lt. inl (k, let here : x ≡ p = omega arith in ap (λ j. word_step s j) here ∙ is);
  known = λ x le lt. let here : x ≡ p = omega arith in subst (λ j. IsFollowed s j) (sym here) up;
}

-- a segment that is empty, or continues at p
abbrev pub Ready : ℕ → ℕ → ℕ → Type 0
Ready a b p = (b ≤ a) ⊎ ((a < b) × (p ≡ b))

module _ (s : EventOrder) (law : IsOrderly s) (me : Me (Unit {0}) View) (bare : me.1 ≡ []) (same : me.0.event_order ≡ s) (a b : ℕ) (sits : Sits me.0.event_order me.0 a b) (k p : ℕ) (is : word_step s p ≡ resume k) (fits : IsAsked s k → IsAsked s p) where
  goes : Ready a b p → Goes s me.0 a p
  goes (inl e) = inl (sits.empty e)
  goes (inr g) = inr (omega (arith, g.0, g.1), subst (λ j. Sits s me.0 a j) (sym g.1) (subst (λ z. Sits z me.0 a b) same sits))

  pub take_at : Ready a b p → (slots id i : ℕ) → i ≡ cells s + k → Allows (Kept s) slots id me i (λ n. either (eqb n 1) 2 n) (takes (step slots i 1 2 none) me)
  take_at ready slots id i there =
      let Goal : ℕ → List (ℕ × Unit {0}) → Type 0 = λ j xs. Allows (Kept s) slots id (me.0, xs) j (λ n. either (eqb n 1) 2 n) (takes (step slots j 1 2 none) (me.0, xs)) in
      subst (λ j. Goal j me.1) (sym there) (subst (λ xs. Goal (cells s + k) xs) (sym bare) (allows_take s law k p is fits me.0 same a (goes ready) slots id))

  after_yes : (slots i : ℕ) → i ≡ cells s + k → (m' : Me (Unit {0}) View) → takes (step slots i 1 2 none) me 1 m' → (m' ≡ (view me.0.event_order (cond (ltb me.0.from me.0.upto) me.0.from p) (p + 1), [])) × IsFollowed s k
  after_yes slots i there m' told =
      let t = told.0 refl in
      let cell : cells s + t.0 ≡ i = ap (λ z. cells z + t.0) (sym same) ∙ t.2 in
      let ticket : t.0 ≡ k = omega arith in
      let place : t.1 ≡ p = law.once t.1 p k (ap (λ z. word_step z t.1) (sym same) ∙ t.3 ∙ ap (λ j. resume j) ticket) is in (
        t.5 ∙ ap (λ j. (view me.0.event_order (cond (ltb me.0.from me.0.upto) me.0.from j) (j + 1), me.1)) place ∙ ap (λ xs. (view me.0.event_order (cond (ltb me.0.from me.0.upto) me.0.from p) (p + 1), xs)) bare,
        subst (λ j. IsFollowed s j) ticket (subst (λ z. IsFollowed z t.0) same t.4),
      )

  -- the segment after a yes
  sits_yes : IsFollowed s k → (r : Ready a b p) → Sits s (view me.0.event_order (cond (ltb me.0.from me.0.upto) me.0.from p) (p + 1)) (cond (ltb a b) a p) (p + 1)
  sits_yes known (inl e) =
      subst (λ c. Sits s (view me.0.event_order (cond c me.0.from p) (p + 1)) (cond (ltb a b) a p) (p + 1)) (sym (le-ltb me.0.from me.0.upto (sits.empty e)))
      (subst (λ c. Sits s (view me.0.event_order p (p + 1)) (cond c a p) (p + 1)) (sym (le-ltb a b e)) (sits_new s me.0.event_order k p is (up_resume s law k p is known (fits (known k (inl refl)))) same))
  sits_yes known (inr g) =
      let f = sits.from g.0 in
      let at : Sits s me.0 a p = subst (λ j. Sits s me.0 a j) (sym g.1) (subst (λ z. Sits z me.0 a b) same sits) in
      subst (λ c. Sits s (view me.0.event_order (cond c me.0.from p) (p + 1)) (cond (ltb a b) a p) (p + 1)) (sym (lt-ltb me.0.from me.0.upto (omega (arith, f.0, f.1))))
      (subst (λ c. Sits s (view me.0.event_order me.0.from (p + 1)) (cond c a p) (p + 1)) (sym (lt-ltb a b g.0)) (sits_on s law me.0 a p at (omega (arith, g.0, g.1)) (inl (k, is)) (up_resume s law k p is known (fits (known k (inl refl))))))

  pub sits_taken : Ready a b p → (slots i : ℕ) → i ≡ cells s + k → (m' : Me (Unit {0}) View) (r : ℕ) → r ≡ 1 → takes (step slots i 1 2 none) me r m' → (m'.1 ≡ []) × (m'.0.event_order ≡ me.0.event_order) × Sits m'.0.event_order m'.0 (cond (ltb a b) a p) (p + 1)
  sits_taken ready slots i there m' r one told =
      let e = after_yes slots i there m' (subst (λ n. takes (step slots i 1 2 none) me n m') one told) in (
        ap (λ m. m.1) e.0,
        ap (λ m. m.0.event_order) e.0,
        subst (λ (m : Me (Unit {0}) View). Sits m.0.event_order m.0 (cond (ltb a b) a p) (p + 1)) (sym e.0) (subst (λ z. Sits z (view me.0.event_order (cond (ltb me.0.from me.0.upto) me.0.from p) (p + 1)) (cond (ltb a b) a p) (p + 1)) (sym same) (sits_yes e.1 ready)),
      )

-- an event that is no step on a word
pub passes : (s : EventOrder) (law : IsOrderly s) (me : Me (Unit {0}) View) (a p : ℕ) → Sits s me.0 a p → a < p → word_step s p ≡ plain → ((e : ℕ) → Among e (predecessors_of s p) → a ≤ e) → IsAsked s p → Sits s me.0 a (p + 1)
passes s law me a p sits some_done is inner fits =
    let f = sits.from some_done in
    record {
      event_order = sits.event_order;
      empty = λ e. absurd (omega arith);
      from = λ _. (f.0, f.1, omega (arith, f.2));
      rest = λ q le lt _ word. dite (ℕ_discrete q p)
          (λ (same : q ≡ p). subst IsWord (ap (λ j. word_step s j) same ∙ is) word)
          (λ (other : q ≢ p). sits.rest q le (omega arith) some_done word);
      whole = λ x le lt. dite (ℕ_discrete x p)
          (λ (same : x ≡ p). inr (subst (λ j. (e : ℕ) → Among e (predecessors_of s j) → a ≤ e) (sym same) inner))
          (λ (other : x ≢ p). sits.whole x le (omega arith));
      known = λ x le lt. dite (ℕ_discrete x p)
          (λ (same : x ≡ p). subst (λ j. IsFollowed s j) (sym same) (up_on s law a p sits.known inner fits))
          (λ (other : x ≢ p). sits.known x le (omega arith));
    }

pub along : {g g' : SegmentValue} (P : SegmentValue → Type 0) → g ≡ g' → P g' → P g
along P e h = subst P (sym e) h

pub both_along : {g g' h h' : SegmentValue} (P : SegmentValue → SegmentValue → Type 0) → g ≡ g' → h ≡ h' → P g' h' → P g h
both_along {g' = g'} {h = h} P e f x = subst (λ k. P k h) (sym e) (subst (λ k. P g' k) (sym f) x)

-- an event is one of a line, plain, or a resumption after a spawn
event_cases : (e : WordEvent) → IsLine e ⊎ (e ≡ plain) ⊎ ((k : ℕ) × (e ≡ resume k))
event_cases plain = inr (inl refl)
event_cases (read c v) = inl tt
event_cases (write c v) = inl tt
event_cases spawn = inl tt
event_cases finish = inl tt
event_cases (resume k) = inr (inr (k, refl))

-- what comes before such an event fits
reached : (s : EventOrder) (law : IsOrderly s) (v : View) (a p : ℕ) → Sits s v a p → a < p → ((k : ℕ) → word_step s p ≢ resume k) → event s p ≢ Some Sync → (q : ℕ) → Before s q p → IsAsked s q
reached s law v a p sits some_done no_resume other q b = sits.known (p - 1) (omega arith) (omega arith) q (ahead q b)
  where
    near : (e : ℕ) → Among e (predecessors_of s p) → e ≡ p - 1
    near e there = elim (event_cases (word_step s p)) as (λ _. e ≡ p - 1) [
      | inl line ↦ let n = law.line p line e there in omega arith
      | inr (inl quiet) ↦ let n = law.ordinary p quiet other e there in omega arith
      | inr (inr r) ↦ absurd (no_resume r.0 r.1)
    ]

    ahead : (q : ℕ) → Before s q p → (q ≡ p - 1) ⊎ Before s q (p - 1)
    ahead q (direct there) = inl (near q there)
    ahead q (through {e = e} b there) = inr (subst (λ j. Before s q j) (near e there) b)

-- where the run departs
pub departing : (s : EventOrder) (law : IsOrderly s) (v : View) (a p : ℕ) → Sits s v a p → a < p → ((k : ℕ) → word_step s p ≢ resume k) → p ≤ length s.events → (IsAsked s p → ⊥) → Departs s p
departing s law v a p sits some_done no_resume within differs = record {
  place = (omega arith, within);
  reached = record {
    sync = λ _ e near. sits.known e (omega arith) (omega arith);
    other = λ other q b. reached s law v a p sits some_done no_resume other q b;
  };
  differs = differs;
}

-- an event that is no sync and no resumption after a spawn
pub up_event : (s : EventOrder) (law : IsOrderly s) (v : View) (a p : ℕ) → Sits s v a p → a < p → ((k : ℕ) → word_step s p ≢ resume k) → event s p ≢ Some Sync → IsAsked s p → IsFollowed s p
up_event s law v a p sits some_done no_resume no_sync fits q (inl same) = subst (λ j. IsAsked s j) (sym same) fits
up_event s law v a p sits some_done no_resume no_sync fits q (inr b) = reached s law v a p sits some_done no_resume no_sync q b
