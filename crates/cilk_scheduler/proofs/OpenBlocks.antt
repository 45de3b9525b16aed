-- The block of a frame whose own piece hasn't arrived there.
--
-- - `kept`: what lies there;
-- - `own_fresh`, `last_open`: the keys that may come next;
-- - `keys_not`, `placed_empty`, `own_passes`: a block passes with the own piece if nothing is
--   awaited.
use Rattle.std.proofs.Common.{◌≡◌, inl, inr, ⊎_elim, ◌+◌, ℕ, suc, Bool, true, false, true≢false, cond, if◌then◌else◌, ℤ, List, [], ◌∷◌, ◌++◌, Option, refl, sym, ap, ◌∙◌, subst, arith}
use Rattle.std.proofs.lemmas.Bool.{cases_Bool}
use Rattle.cilk_types.specs.declared.event.Instance as numbered
use Rattle.cilk_types.specs.declared.invocation.Invocation.TheVariants.{Spawn}
use Rattle.cilk_monoid.specs.Values.{ViewValue}
use Rattle.cilk_monoid.specs.declared.kind.MonoidKind.{MonoidKind}
use Rattle.cilk_program.specs.Syntax.{Source}
use Rattle.cilk_lower.specs.Code.{CodeView}
use Rattle.cilk_frames.specs.declared.activation.Activation.{Activation}
use Rattle.cilk_join.specs.Joins.{IsFresh, IsOpen, JoinView, arrived_at, has_awaited, opening, passes}
use Rattle.cilk_join.specs.Products.{Product, nothing, times}
use Rattle.cilk_join.specs.Rows.{Wait, is_empty, keys, placed}
use Rattle.cilk_join.specs.Waits.{shown}
use Rattle.cilk_determinacy.specs.Machine.{State, started}
use Rattle.cilk_determinacy.specs.Monoids.{unit_of}
use Rattle.cilk_determinacy.specs.Runs.{Name, Output, Deed, Invokes}
use Rattle.cilk_determinacy.proofs.Started.{started_invokes}
use Rattle.cilk_determinacy.specs.FrameEnvMachine.{has_ended}
use Rattle.cilk_determinacy.specs.Reducers.{View, kind_of, monoid_of, views_of}
use Rattle.cilk_determinacy.specs.FrameEnvs.{FrameEnv}
use Rattle.cilk_scheduler.specs.declared.scheduler.Scheduler.{Scheduler}
use Rattle.cilk_scheduler.specs.declared.frame_state.FrameState.{FrameState}
use Rattle.cilk_scheduler.specs.declared.frame_state.Status.TheVariants.{Waiting}
use Rattle.cilk_scheduler.specs.Blocks.{Lays, NotIn, stolen_in}
use Rattle.cilk_scheduler.specs.Schedulers.{Keeps, Sits, greatest, is_there, run_at, stolen_at_block, waits_at}
use Rattle.cilk_scheduler.specs.Events.{block_in}
use Rattle.cilk_scheduler.proofs.Spawned.{stolen_low, stolen_spawn}
use Rattle.cilk_scheduler.proofs.Thieves.{block_of, opening_keeps}
use Rattle.cilk_scheduler.proofs.Waiting.{not_among}

-- ---- keys

-- what is awaited is among the stolen children
keys_not : (kind : MonoidKind) (kid : ℕ → View) (there : ℕ → Bool) (own acc : View) (ks : List ℕ) (run : Option ViewValue) (ws : List (Wait ViewValue)) (z : ℕ) → Lays kind kid there own acc ks run ws → NotIn z ks → NotIn z (keys ws)
keys_not kind kid there own acc [] run ws z h none = subst (λ l. NotIn z (keys l)) (sym h.1) tt
keys_not kind kid there own acc (k ∷ ks) run ws z (inl a) none = keys_not kind kid there own ((views_of kind).combine acc (kid k)) ks run ws z a.1 none.1
keys_not kind kid there own acc (k ∷ ks) run ws z (inr a) none = subst (λ l. NotIn z (keys l)) (sym a.3) (none.0, keys_not kind kid there own ((views_of kind).unit) ks a.1 a.2 z a.5 none.1)

keys_at : (kind : MonoidKind) (i : numbered.Instance) (ws : List (Wait Product)) → keys (waits_at kind i ws) ≡ keys ws
keys_at kind i [] = refl
keys_at kind i (w ∷ ws) = ap (λ l. w.key ∷ l) (keys_at kind i ws)

-- a piece after all others leaves the number of awaited ones
placed_empty : (run : Option Product) (ws : List (Wait Product)) (z : ℕ) (x : Product) → NotIn z (keys ws) → is_empty (let r = placed nothing times run ws z x in r.waits) ≡ is_empty ws
placed_empty run [] z x none = refl
placed_empty run (w ∷ ws) z x none = rw none.0 refl

-- ---- the block

module _ (code : CodeView) (p : Source) (inputs : List ℤ) (name : ℕ → Name) (b : Scheduler) (s : State FrameEnv View) (k : ℕ) (a : Activation FrameState) (o : Sits code p inputs name b s k a)
    (going : (let f = o.frame in has_ended f.deeds ≡ false)) (unmerged : (let x = a.cursor in x.merged ≡ false)) (awake : (let x = a.cursor in x.status ≡ Waiting) → ⊥) where
  abbrev x : FrameState
  x = a.cursor

  abbrev past : List (Deed FrameEnv)
  past = let f = o.frame in f.deeds

  abbrev loose : ℕ → Bool
  loose = λ q. s.stolen (name k ++ q ∷ [])

  abbrev block : JoinView
  block = let x = a.cursor in block_in x.join

  pub kept : Keeps code p inputs name b s (name k) past block × (block.closed ≡ false)
  kept =
      ⊎_elim (λ g. let e : block ≡ opening = ap (λ z. block_in z) g.0 in (subst (λ j. Keeps code p inputs name b s (name k) past j) (sym e) (opening_keeps code p inputs name b s (name k) past g.1), ap (λ (j : JoinView). j.closed) e))
      (λ g. let l = g.0 in let e : block ≡ shown l.value = block_of x.join g.0 g.1 in
      ⊎_elim (λ m. absurd (true≢false (sym m ∙ unmerged)))
      (λ z. (subst (λ j. Keeps code p inputs name b s (name k) past j) (sym e) z.0, ap (λ (j : JoinView). j.closed) e ∙ open_one (shown l.value) z.1)) g.2)
      (o.block going)
    where
      open_one : (j : JoinView) → (j.closed ≡ true → x.status ≡ Waiting) → j.closed ≡ false
      open_one j g = ⊎_elim (λ q. absurd (awake (g q))) (λ f. f) (cases_Bool j.closed)

  -- the key of the own piece
  pub own_fresh : IsFresh block (x.children + 1)
  own_fresh =
      let kb = kept in
      let K = kb.0 in
      let e = K.stolen in
      let l = stolen_low loose 1 [] past (suc (started past)) (omega arith) (omega arith) in
      let n = o.children in
      let y = K.arrived kb.1 in
      (kb.1, omega (arith, e, l, n), omega (arith, e, l, n, y))

  own_alone : NotIn (x.children + 1) (let r = block.row in keys r.waits)
  own_alone =
      let kb = kept in
      let K = kb.0 in
      let r = block.row in
      let n = o.children in
      let i : numbered.Instance = record { frame = 0; place = 0 } in
      let h = K.lays Output i (refl, refl) in
      subst (λ l. NotIn (x.children + 1) l) (keys_at (kind_of Output) i r.waits)
      (keys_not (kind_of Output) (λ q. s.piece (name k ++ q ∷ []) Output) (is_there code p inputs name b s (name k)) (cond block.closed (s.piece (name k) Output) (unit_of monoid_of Output)) (unit_of monoid_of Output) (stolen_at_block code p inputs name b s (name k) past)
      (run_at (kind_of Output) i r.run) (waits_at (kind_of Output) i r.waits) (x.children + 1) h (not_among loose 1 [] past (x.children + 1) (omega (arith, n)) tt))

  -- with the own piece the block passes, where nothing is awaited
  pub own_passes : (v : Product) → passes (arrived_at block (x.children + 1) true v) ≡ (if has_awaited block then false else true)
  own_passes v = let r = block.row in placed_empty r.run r.waits (x.children + 1) v own_alone ∙ twice (is_empty r.waits)
    where
      twice : (t : Bool) → t ≡ (if (if t then false else true) then false else true)
      twice true = refl
      twice false = refl

  -- the key of a child that was spawned last, beside which nothing was stolen
  pub last_open : (before : List (Deed FrameEnv)) (what : FrameEnv) → past ≡ before ++ Invokes Spawn what ∷ [] → s.stolen (name k ++ suc (started before) ∷ []) ≡ false → IsOpen block x.children
  last_open before what is free =
      let kb = kept in
      let K = kb.0 in
      let list : stolen_in loose 1 [] past ≡ stolen_in loose 1 [] before =
      ap (λ ds. stolen_in loose 1 [] ds) is ∙ stolen_spawn loose loose (suc (started before)) (λ q lt. refl) 1 [] before what (omega arith)
      ∙ ap (λ t. cond t (stolen_in loose 1 [] before ++ suc (started before) ∷ []) (stolen_in loose 1 [] before)) free in
      let e = K.stolen ∙ ap greatest list in
      let l = stolen_low loose 1 [] before (suc (started before)) (omega arith) (omega arith) in
      let n = sym o.children ∙ ap (λ ds. started ds) is ∙ started_invokes before Spawn what in
      let y = K.arrived kb.1 in
      (kb.1, omega (arith, e, l, n), omega (arith, e, l, n, y))
