-- A burst of turns keeps the tasks that wait.
--
-- - `other_kind`, `offers_other`: an event of another kind is no spawn;
-- - `goes`, `offers`, `resumes`: one turn more; `goes_on`: a stretch; `may_arrive`: why a piece arrives.
use Rattle.std.proofs.Common.{◌≡◌, ◌∙◌, ℕ, ◌+◌, Bool, true, false, List, [], ◌∷◌, ◌++◌, Option, Some, None, ap, sym, subst, arith}
use Rattle.std.specs.Prelude.{IfNone}
use Rattle.cilk_replay.specs.declared.chain.Task.{Task}
use Rattle.cilk_shared.specs.Pieces.{PieceValue, grown}
use Rattle.cilk_tree.specs.Kinds.{kind_of_event}
use Rattle.cilk_tree.specs.declared.kind.Kind.{Kind}
use Rattle.cilk_tree.specs.declared.kind.Kind.TheVariants as kinds
use Rattle.cilk_tree.specs.declared.event_order.EventOrder.{EventOrder}
use Rattle.cilk_tree.specs.Word.{event, resume, word_step}
use Rattle.cilk_types.specs.declared.event.Event.TheVariants.{End}
use Rattle.cilk_workers.specs.Bursts.{GrowsOn, KeepsTasks, Leads, MayArrive, passes, pushes, pops}
use Rattle.cilk_workers.specs.Held.{AreTaken, IsOfferedIf, IsSameRack, waiting}
use Rattle.cilk_workers.specs.Shared.{SharedValue, event_order_in}
use Rattle.cilk_workers.specs.Turns.{EndsBy, IsSpawnAt, OffersSpawn}
use Rattle.cilk_workers.specs.declared.activity.Tools.{Tools}
use Rattle.cilk_workers.specs.declared.rack.Rack.{Rack}
use Rattle.cilk_workers.specs.declared.work.Work.{Work}
use Rattle.cilk_workers.specs.declared.work.Turn.{Turn}
use Rattle.cilk_workers.specs.declared.work.Turn.TheVariants.{Goes, Finished}
use Rattle.cilk_workers.proofs.OfKind.{with_kind}

-- ---- events that aren't spawns

abbrev pub IsNoSpawn : Kind → Type 0
IsNoSpawn (kinds.Spawn f) = ⊥
IsNoSpawn k = Unit {0}

pub other_kind : (s : EventOrder) (at : ℕ) (k : Kind) → kind_of_event (event s at) ≡ Some k → IsNoSpawn k → IsSpawnAt s at → ⊥
other_kind s at k is other spawn =
    let z : Some k ≡ Some (kinds.Spawn spawn.0) = sym is ∙ ap kind_of_event spawn.1 in
    let e : k ≡ kinds.Spawn spawn.0 = cc z in
    subst IsNoSpawn e other

pub spawn_at : (s : EventOrder) (at f : ℕ) → kind_of_event (event s at) ≡ Some (kinds.Spawn f) → IsSpawnAt s at
spawn_at s at f is = let e = with_kind (event s at) (kinds.Spawn f) is in (f, e.1)

pub offers_none : (s : EventOrder) (at : ℕ) (turn : Turn) → (IsSpawnAt s at → ⊥) → OffersSpawn s at turn
offers_none s at Goes none = none
offers_none s at (Finished value) none = none
offers_none s at turn none = tt

pub offers_other : (s : EventOrder) (at : ℕ) (k : Kind) (turn : Turn) → kind_of_event (event s at) ≡ Some k → IsNoSpawn k → OffersSpawn s at turn
offers_other s at k turn is other = offers_none s at turn (other_kind s at k is other)

pub no_end : (s : EventOrder) (at : ℕ) → event s at ≡ Some End → IsSpawnAt s at → ⊥
no_end s at is spawn = other_kind s at kinds.End (ap kind_of_event is) tt spawn

-- ---- turns

module _ {N : Type 0} where
  -- the task was pushed, or not
  pub was_pushed : (r : Rack N) (t : Task) (told : Bool) (r' : Rack N) → IsOfferedIf r t told r' → told ≡ true → waiting r' ≡ waiting r ++ t ∷ []
  was_pushed r t true r' h is = h.0
  was_pushed r t false r' h is = absurd (cc is)

  pub was_refused : (r : Rack N) (t : Task) (told : Bool) (r' : Rack N) → IsOfferedIf r t told r' → told ≡ false → waiting r' ≡ waiting r
  was_refused r t true r' h is = absurd (cc is)
  was_refused r t false r' h is = h.0

  same_rack : (r q q' : Rack N) → IsSameRack r q → IsSameRack q q' → IsSameRack r q'
  same_rack r q q' one two = (two.0 ∙ one.0, let m = one.1 in let n = two.1 in omega (arith, m, n))

module _ {N : Type 0} (y : SharedValue) (a : ℕ) (r : Rack N) where
  -- an event that is no spawn
  pub goes : (before p : PieceValue) (q : Rack N) → KeepsTasks (event_order_in y) a r before.upto q → p ≡ grown before → (IsSpawnAt (event_order_in y) before.upto → ⊥) → KeepsTasks (event_order_in y) a r p.upto q
  goes before p q kept is none = (kept.0, subst (λ (z : PieceValue). Leads (event_order_in y) a (waiting r) z.upto (waiting q)) (sym is) (passes before.upto (waiting q) kept.1 none))

  -- a stretch of such events
  pub goes_on : (b d : ℕ) (q : Rack N) → KeepsTasks (event_order_in y) a r b q → GrowsOn (event_order_in y) b d → KeepsTasks (event_order_in y) a r d q
  goes_on b d q kept grows = (kept.0, grows a (waiting r) (waiting q) kept.1)

  -- a spawn, and its continuation is pushed
  pub offers : (before p : PieceValue) (q q' : Rack N) (t : Task) → KeepsTasks (event_order_in y) a r before.upto q → p ≡ grown before → IsSpawnAt (event_order_in y) before.upto → t.ticket ≡ before.upto
      → waiting q' ≡ waiting q ++ t ∷ [] → IsSameRack q q' → KeepsTasks (event_order_in y) a r p.upto q'
  offers before p q q' t kept is spawn ticket more same = (
    same_rack r q q' kept.0 same,
    subst (λ (z : PieceValue). Leads (event_order_in y) a (waiting r) z.upto (waiting q')) (sym is)
        (subst (λ (us : List Task). Leads (event_order_in y) a (waiting r) (before.upto + 1) us) (sym more) (pushes before.upto (waiting q) t kept.1 spawn ticket)),
  )

  -- a child's `end`, or none where its continuation was taken
  pub stops : (before p : PieceValue) (q : Rack N) (denied : Option ℕ) → KeepsTasks (event_order_in y) a r before.upto q → EndsBy (event_order_in y) before p denied → KeepsTasks (event_order_in y) a r p.upto q
  stops before p q None kept ended = goes before p q kept ended.0 (no_end (event_order_in y) before.upto ended.1)
  stops before p q (Some ticket) kept ended = subst (λ (z : PieceValue). KeepsTasks (event_order_in y) a r z.upto q) (sym ended.0) kept

  -- a piece arrives without a chain
  pub may_arrive : (taken : Task → Type 0) (before p x : PieceValue) (q : Rack N) (denied : Option ℕ) → EndsBy (event_order_in y) before p denied → IfNone denied (AreTaken taken q) → x ≡ p
      → MayArrive taken (event_order_in y) x None denied q
  may_arrive taken before p x q None ended none is = none
  may_arrive taken before p x q (Some ticket) ended none is = subst (λ (z : PieceValue). word_step (event_order_in y) z.upto ≡ resume ticket) (sym is) ended.1

  -- the same rack
  pub as_before : (b : ℕ) (q q' : Rack N) → KeepsTasks (event_order_in y) a r b q → waiting q' ≡ waiting q → IsSameRack q q' → KeepsTasks (event_order_in y) a r b q'
  as_before b q q' kept is same = (same_rack r q q' kept.0 same, subst (λ (us : List Task). Leads (event_order_in y) a (waiting r) b us) (sym is) kept.1)

  -- the newest is popped
  pub resumes : (b : ℕ) (q q' : Rack N) (t : Task) → KeepsTasks (event_order_in y) a r b q → waiting q ≡ waiting q' ++ t ∷ [] → IsSameRack q q' → word_step (event_order_in y) b ≡ resume t.ticket
      → KeepsTasks (event_order_in y) a r b q'
  resumes b q q' t kept is same there =
      (same_rack r q q' kept.0 same, pops b (waiting q') t (subst (λ (us : List Task). Leads (event_order_in y) a (waiting r) b us) is kept.1) there)

  -- where the ways through a turn meet
  pub joined : (w' w : Work) (t' t : Tools N) → w' ≡ w → t' ≡ t → (let p = w.piece in KeepsTasks (event_order_in y) a r p.upto t.rack) → (let p = w'.piece in KeepsTasks (event_order_in y) a r p.upto t'.rack)
  joined w' w t' t one two kept =
      subst (λ (z : Tools N). let p = w'.piece in KeepsTasks (event_order_in y) a r p.upto z.rack) (sym two)
      (subst (λ (z : Work). let p = z.piece in KeepsTasks (event_order_in y) a r p.upto t.rack) (sym one) kept)
