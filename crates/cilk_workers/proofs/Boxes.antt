-- The sync's piece ends the row.
--
-- - `closes_on`, `closes_last`: where an awaited key has come, and where the sync's own piece has;
-- - `closed_on`: after an arrival;
-- - `gone_on`, `gone_row`: of a block that has passed;
-- - `awaits`, `no_chain`: where the block doesn't pass;
-- - `passing`, `passing_whole`: the block's piece comes out, and has the whole block;
-- - `by_first`: a piece that begins no later than the block's first spawn; `starts_on`: so does the first
--   run, after an arrival.
use Rattle.std.proofs.Common.{◌≡◌, ◌≤◌, ℕ, nat_eq, Bool, if◌then◌else◌, true, false, true≢false, List, [], ◌∷◌, Option, Some, None, inl, inr, refl, sym, ap, ◌∙◌, subst, arith}
use Rattle.cilk_tree.specs.declared.event_order.EventOrder.{EventOrder}
use Rattle.cilk_shared.specs.Pieces.{PieceValue}
use Rattle.cilk_replay.specs.Chains.{ChainValue}
use Rattle.cilk_replay.specs.Replays.{ReplayValue}
use Rattle.cilk_workers.specs.Rows.{Row, Run, Wait, Rows, row, rows, ahead, between, placed, placed_in, is_empty, IsBeforeAll, IsGoodRun}
use Rattle.cilk_workers.specs.declared.join.Boxed.{Boxed}
use Rattle.cilk_workers.specs.declared.join.Boxed.TheVariants.{Passes, Waits}
use Rattle.cilk_workers.specs.Answers.{Answers, PassesWhole}
use Rattle.cilk_tree.specs.Columns.{IsFirstSpawn}
use Rattle.cilk_workers.specs.Boxes.{BoxValue, is_some, is_there, closed_by, later, Stands, IsAbsent, IsUpTo, Closes, IsClosed, IsGone, MayArrive, BeginsByFirst, StartsByFirst}
use Rattle.std.proofs.lemmas.Bool.{eq-eqb, eqb-true}

-- the row ends where it did, once an awaited key has come
closes_here : (run : Run) (x : PieceValue) (v : Run) (ws : List Wait) (s : ℕ) → Closes v ws s → Closes (Some (between run x v)) ws s
closes_here run x None [] s h = absurd h
closes_here run x (Some q) [] s h = h
closes_here run x v (w ∷ ws) s h = h

closes_step : (run : Run) (w : Wait) (ws : List Wait) (k : ℕ) (x : PieceValue) (s : ℕ) (b : Bool) → nat_eq w.key k ≡ b → Closes w.run ws s
    → (nat_eq w.key k ≡ false → let r = placed w.run ws k x in Closes r.run r.waits s) → let r = placed run (w ∷ ws) k x in Closes r.run r.waits s
closes_step run w ws k x s true e h rest = rw e (closes_here run x w.run ws s h)
closes_step run w ws k x s false e h rest = let there = rest e in rw e there

stands_there : (w : Wait) (ws : List Wait) (k : ℕ) → Stands (w ∷ ws) k → nat_eq w.key k ≡ false → Stands ws k
stands_there w ws k (inl e) else_ = absurd (true≢false (sym (eq-eqb w.key k e) ∙ else_))
stands_there w ws k (inr h) else_ = h

pub closes_on : (run : Run) (ws : List Wait) (k : ℕ) (x : PieceValue) (s : ℕ) → Stands ws k → Closes run ws s → let r = placed run ws k x in Closes r.run r.waits s
closes_on run [] k x s stands h = absurd stands
closes_on run (w ∷ ws) k x s stands h = closes_step run w ws k x s (nat_eq w.key k) refl h (λ else_. closes_on w.run ws k x s (stands_there w ws k stands else_) h)

-- the sync's own piece comes after all others
pub closes_last : (run : Run) (ws : List Wait) (k : ℕ) (x : PieceValue) (s : ℕ) → IsAbsent ws k → x.upto ≡ s → let r = placed run ws k x in Closes r.run r.waits s
closes_last run [] k x s absent end = end
closes_last run (w ∷ ws) k x s absent end = let there = closes_last w.run ws k x s absent.1 end in rw absent.0 there

closed_some : (gone : Bool) (c : ChainValue) → closed_by gone (Some c) ≡ true
closed_some true c = refl
closed_some false c = refl

-- after an arrival
pub closed_on : (j : BoxValue) (k : ℕ) (x : PieceValue) (gone : Bool) (old new : Option ChainValue) → IsClosed j.rows j.replay j.sync old → j.closed ≡ closed_by gone old → MayArrive j k x new → IsClosed (placed_in j.rows k x) j.replay j.sync (later old new)
closed_on j k x gone None None h is comes = tt
closed_on j k x gone (Some c) None h is (inl stands) = (h.0, h.1, closes_on (let r = j.rows in let w = r.row in w.run) (let r = j.rows in let w = r.row in w.waits) k x j.sync stands h.2)
closed_on j k x gone (Some c) None h is (inr fresh) = absurd (true≢false (sym (closed_some gone c) ∙ sym is ∙ fresh.0))
closed_on j k x gone old (Some c) h is comes = (comes.1.0, comes.1.1, closes_last (let r = j.rows in let w = r.row in w.run) (let r = j.rows in let w = r.row in w.waits) k x j.sync comes.1.3 comes.1.2)

-- nothing arrives once the block has passed
pub gone_on : (j : BoxValue) (k : ℕ) (x : PieceValue) (gone : Bool) (old new : Option ChainValue) → IsGone gone j.rows old → j.closed ≡ closed_by gone old → MayArrive j k x new → IsGone gone (placed_in j.rows k x) (later old new)
gone_on j k x false old new h is comes = tt
gone_on j k x true old None h is (inl stands) = absurd (subst (λ (r : Row). Stands r.waits k) h.0 stands)
gone_on j k x true old None h is (inr fresh) = absurd (true≢false (sym is ∙ fresh.0))
gone_on j k x true old (Some c) h is comes = absurd (true≢false (sym is ∙ comes.0.0))

pub empty_waits : (ws : List Wait) → is_empty ws ≡ true → ws ≡ []
empty_waits [] e = refl
empty_waits (w ∷ ws) e = absurd (true≢false (sym e))

upto_is : (run : Run) (p : PieceValue) (s : ℕ) → run ≡ Some p → IsUpTo run s → p.upto ≡ s
upto_is run p s is h = subst (λ (o : Run). IsUpTo o s) is h

-- the fields of a box
abbrev pub box_of : Rows → ReplayValue → ℕ → ℕ → ℕ → Bool → Option ChainValue → BoxValue
box_of j u s stolen arrived gone chain = record { rows = j; replay = u; sync = s; stolen = stolen; arrived = arrived; closed = closed_by gone chain }

-- where a key is awaited, or no chain is there, the block doesn't pass
pub awaits : (closed : Bool) (run : Run) (ws : List Wait) → is_empty ws ≡ false → (if closed then (if is_empty ws then is_there run else false) else false) ≡ false
awaits true run ws e = rw e refl
awaits false run ws e = refl

pub no_chain : (gone : Bool) (j : Rows) (chain : Option ChainValue) → chain ≡ None → IsGone gone j chain → (if closed_by gone chain then (let r = j.row in if is_empty r.waits then is_there r.run else false) else false) ≡ false
no_chain false j chain is h = ap (λ (o : Option ChainValue). if is_some o then (let r = j.row in if is_empty r.waits then is_there r.run else false) else false) is
no_chain true j chain is h = ap (λ (r : Row). if is_empty r.waits then is_there r.run else false) h.0

-- the one run comes out, with the chain
pub passing : (j j' : Rows) (u : ReplayValue) (s stolen arrived : ℕ) (gone : Bool) (chain chain' : Option ChainValue) (c : ChainValue) (p : PieceValue) → IsClosed j u s chain → (let r = j.row in is_empty r.waits ≡ true) → chain ≡ Some c
    → Some p ≡ (let r = j.row in r.run) → j' ≡ rows j.of (row None (let r = j.row in r.waits)) → IsGoodRun j.of (Some p) → Answers (box_of j u s stolen arrived gone chain) (Passes p c) (box_of j' u s stolen arrived true chain')
passing j j' u s stolen arrived gone chain chain' c p closed empty is out new good =
    let none : (let r = j.row in r.waits ≡ []) = empty_waits (let r = j.row in r.waits) empty in
    let here : IsClosed j u s (Some c) = subst (λ (o : Option ChainValue). IsClosed j u s o) is closed in
    let upto : IsUpTo (let r = j.row in r.run) s = subst (λ (ws : List Wait). Closes (let r = j.row in r.run) ws s) none here.2 in
    let has : closed_by gone chain ≡ true = ap (closed_by gone) is ∙ closed_some gone c in (
      ap (λ (b : Bool). if b then (let r = j.row in if is_empty r.waits then is_there r.run else false) else false) has
          ∙ ap (λ (b : Bool). let r = j.row in if b then is_there r.run else false) empty
          ∙ ap is_there (sym out),
      (sym out, good, here.0),
      upto_is (let r = j.row in r.run) p s (sym out) upto,
      here.1,
      (λ i. record { rows = (new ∙ ap (λ (ws : List Wait). rows j.of (row None ws)) none) i; replay = u; sync = s; stolen = stolen; arrived = arrived; closed = sym has i }),
    )

-- what passes has the whole block
pub passing_whole : (s : EventOrder) (j j' : BoxValue) (answer : Boxed) → Answers j answer j' → StartsByFirst s j.sync (let r = j.rows in let w = r.row in w.run) → PassesWhole s j.sync answer
passing_whole s j j' Waits answers starts = tt
passing_whole s j j' (Passes p c) answers starts = (subst (StartsByFirst s j.sync) answers.1.0 starts, answers.2)

-- the row of a block that has passed
pub gone_row : (j : Rows) (ws : List Wait) → ws ≡ [] → (new : Rows) → new ≡ rows j.of (row None ws) → (let r = new.row in r ≡ row None [])
gone_row j ws none new is = ap (λ (z : Rows). z.row) is ∙ ap (λ (l : List Wait). row None l) none

-- ---- where pieces begin

-- at the first spawn or before it, and so before each
pub by_first : (s : EventOrder) (q first : ℕ) (x : PieceValue) → IsFirstSpawn s q first → x.from ≤ first → BeginsByFirst s q x
by_first s q first x is le = λ k spawned. let least = is.least k spawned in omega (arith, le, least)

-- the first run begins as before, unless the lowest key has come
pub starts_on : (s : EventOrder) (q : ℕ) (run : Run) (ws : List Wait) (k : ℕ) (x : PieceValue) → StartsByFirst s q run → (IsBeforeAll run ws k → BeginsByFirst s q x)
    → StartsByFirst s q (let r = placed run ws k x in r.run)
starts_on s q None [] k x starts lowest = lowest tt
starts_on s q (Some p) [] k x starts lowest = starts
starts_on s q run (w ∷ ws) k x starts lowest = by run (nat_eq w.key k) refl starts lowest
  where
    by : (run : Run) (here : Bool) → nat_eq w.key k ≡ here → StartsByFirst s q run → (IsBeforeAll run (w ∷ ws) k → BeginsByFirst s q x)
        → StartsByFirst s q (let r = (if here then row (Some (between run x w.run)) ws else ahead run w.key w.goes_on (placed w.run ws k x)) in r.run)
    by None true e starts lowest = lowest (eqb-true w.key k e)
    by (Some p) true e starts lowest = starts
    by run false e starts lowest = starts
