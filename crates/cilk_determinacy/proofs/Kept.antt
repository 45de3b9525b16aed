-- Each step keeps a consistent cut of a serial run without a race.
use Rattle.std.proofs.Common.{◌+◌, None, ◌≡◌, ℕ, Bool, true, false, cond, ◌&&◌, List, [], ◌∷◌, ◌++◌, Some, refl, sym, ap, ◌∙◌, subst, arith, inl, ⊎_elim, eq-eqb, ℤ, suc, pos, ◌≤◌}
use mathlib.Core.Path.{fun_ext}
use Rattle.std.proofs.lemmas.Bool.{cases_Bool, cond-true, cond-false}
use Rattle.cilk_determinacy.specs.Runs.{Name, same_name, Cell, Global, same_cell, Ask, Read, Write, Invoke, Sync, End, Pass, Fail, Granted, Begins, Resumes, Creates, Updates, Sets, Values, Prints, wish_of, Reads, Writes, Syncs, Ends, Passes, Deed, Does, Invokes, Run, Instance}
use Rattle.cilk_determinacy.specs.Machine.{Frame, Frames, State, deeds_at, HasEnd, started, put, effect, mark_of, deed_of, begun, after_deed, block_view, with_view, after_views, IsAsking, Makes, Steals, Stops, Step, Steps, IsOpening}
use Rattle.cilk_determinacy.specs.Serial.{own_deeds, value_after, IsSerial, IsClosed, Behaves}
use Rattle.cilk_determinacy.specs.Costs.{Costs, Total, cost, fault_of, weight}
use Rattle.cilk_determinacy.proofs.Spent.{CostsAt, spent_nil, spent_le, spent_step, no_fault}
use Rattle.cilk_determinacy.specs.Views.{view_after, IsSerialViews}
use Rattle.cilk_determinacy.proofs.Blocks.{RaceFree, ViewFree, IsResumed}
use Rattle.cilk_determinacy.specs.Cuts.{times, joined, below, IsStarted, IsFull, NoneFrom, IsCut, made, Lies, IsConsistent}
use Rattle.cilk_monoid.specs.Laws.{MonoidStructure, IsLawful}
use Rattle.cilk_determinacy.specs.Monoids.{IsValue, number_of, numbers_of, unit_of}
use Rattle.cilk_determinacy.proofs.Basics.{same_cell-eq, same_name-eq, same_name-refl}
use Rattle.cilk_determinacy.proofs.Front.{Front, here_act, here_child, past_act, past_child, inside, grown, front_value, made_nil, made_full}
use Rattle.cilk_determinacy.proofs.Find.{IsDetermined, front_right, full_deeds, ended_full, ask_by, Asks, find, counts_from}
use Rattle.cilk_determinacy.proofs.Grows.{Grows, GrowsTree, tree_grows, cut_nil, cut_step, made_other, made_write}
use Rattle.cilk_determinacy.proofs.RunPieces.{Moved, Rests, lies_nil, lies_step}
use Rattle.cilk_determinacy.proofs.Stolen.{At, Taken, find_stolen, lies_steal}
use Rattle.cilk_determinacy.proofs.Joins.{times-append, joins_of, joined_front, joined_none}
use Rattle.cilk_determinacy.specs.Machine.{joined_by}
use Rattle.cilk_determinacy.proofs.Values.{front_view, view_right, view_of, final_view, view_front}

abbrev IsAnswered : Granted → (Instance → ℤ) → Type 0
IsAnswered Begins number = Unit {0}
IsAnswered Resumes number = Unit {0}
IsAnswered (Updates i x) number = Unit {0}
IsAnswered (Creates i) number = Unit {0}
IsAnswered (Sets i x) number = Unit {0}
IsAnswered (Values i v) number = v ≡ number i
IsAnswered (Prints x) number = Unit {0}

same_mark : (m : Granted) (number : Instance → ℤ) → IsAnswered m number → mark_of number (wish_of m) ≡ m
same_mark Begins number h = refl
same_mark Resumes number h = refl
same_mark (Updates i x) number h = refl
same_mark (Creates i) number h = refl
same_mark (Sets i x) number h = refl
same_mark (Prints x) number h = refl
same_mark (Values i v) number h = ap (Values i) (sym h)

module _ {W : Type 0} where
  -- the front doesn't depend on the cell that is looked at
  front_cell : {c : Cell} {r : Run W} {k : ℕ} {ds : List (Deed W)} {kids : ℕ → Frames W} {n : Name} {a : Deed W} {x y : ℤ} → Front W c r k ds kids n a x y → (b : Cell) (z : ℤ) → (t : ℤ) × Front W b r k ds kids n a z t
  front_cell here_act b z = (z, here_act)
  front_cell here_child b z = (z, here_child)
  front_cell (past_act {e = e} f) b z = let g = front_cell f b (put e b z) in (g.0, past_act g.1)
  front_cell (past_child {u = u} p f) b z = let g = front_cell f b (value_after u b z) in (g.0, past_child p g.1)
  front_cell (inside f) b z = let g = front_cell f b z in (g.0, inside g.1)

  abbrev cell_of : Ask W → Cell
  cell_of (Read c) = c
  cell_of (Write c v) = c
  cell_of (Invoke i w) = Global 0
  cell_of Sync = Global 0
  cell_of (End val gone) = Global 0
  cell_of (Pass m) = Global 0
  cell_of (Fail m) = Global 0

  same_deed : (e : Deed W) (a : Ask W) (memory : Cell → ℤ) (number : Instance → ℤ) → a ≡ ask_by e → ((v : ℤ) → e ≡ Does (Reads (cell_of a) v) → v ≡ memory (cell_of a)) → ((m : Granted) → e ≡ Does (Passes m) → IsAnswered m number) → deed_of memory number a ≡ e
  same_deed (Does (Reads c v)) a memory number q h g =
      let e : v ≡ memory c = (rw q at h) v refl in
      rw q (ap (λ z. Does (Reads c z)) (sym e))
  same_deed (Does (Writes c v)) a memory number q h g = rw q refl
  same_deed (Does Syncs) a memory number q h g = rw q refl
  same_deed (Does (Ends val gone)) a memory number q h g = rw q refl
  same_deed (Does (Passes m)) a memory number q h g = rw q (ap (λ z. Does (Passes z)) (same_mark m number (g m refl)))
  same_deed (Invokes i w) a memory number q h g = rw q refl

  module _ {c : Cell} {r : Run W} {ds : List (Deed W)} {kids : ℕ → Frames W} {n : Name} {x y : ℤ} where
    -- what is made with the deed at the front
    made_step : (e : Deed W) → Front W c r 1 ds kids n e x y → IsCut r 1 ds kids → RaceFree r → (kids' : ℕ → Frames W) → Grows n e (suc (started ds)) kids kids' → (z : ℤ) → made r 1 (grown n ds e) kids' c z ≡ effect e c (made r 1 ds kids c z)
    made_step (Does (Reads d v)) f cut free kids' g z = made_other f (λ t. refl) cut (suc (started ds)) kids' (omega arith) g z
    made_step (Does (Writes d v)) f cut free kids' g z =
        ⊎_elim
        (λ e. let q : d ≡ c = same_cell-eq d c e in
        made_write f v (ap (λ b. Writes b v) q) cut free (suc (started ds)) kids' (omega arith) g z ∙ sym (cond-true (same_cell d c) v _ e))
        (λ e. made_other f (λ t. cond-false (same_cell d c) v t e) cut (suc (started ds)) kids' (omega arith) g z ∙ sym (cond-false (same_cell d c) v _ e))
        (cases_Bool (same_cell d c))
    made_step (Does Syncs) f cut free kids' g z = made_other f (λ t. refl) cut (suc (started ds)) kids' (omega arith) g z
    made_step (Does (Ends val gone)) f cut free kids' g z = made_other f (λ t. refl) cut (suc (started ds)) kids' (omega arith) g z
    made_step (Does (Passes m)) f cut free kids' g z = made_other f (λ t. refl) cut (suc (started ds)) kids' (omega arith) g z
    made_step (Invokes i w) f cut free kids' g z = made_other f (λ t. refl) cut (suc (started ds)) kids' (omega arith) g z

view_other : {V : Type 0} (t : Name → V) (n m : Name) (v : V) → (n ≡ m → ⊥) → with_view t n v m ≡ t m
view_other t n m v ne = ⊎_elim (λ e. absurd (ne (same_name-eq n m e))) (λ e. cond-false (same_name n m) v (t m) e) (cases_Bool (same_name n m))

view_same : {V : Type 0} (t : Name → V) (n : Name) (v : V) → with_view t n v n ≡ v
view_same t n v = cond-true (same_name n n) v (t n) (same_name-refl n)

view_under : {V : Type 0} (t : Name → V) (j : ℕ) (m : Name) (v : V) → (λ n. with_view t (j ∷ m) v (j ∷ n)) ≡ with_view (λ n. t (j ∷ n)) m v
view_under t j m v = fun_ext (λ n. ap (λ b. cond (b && same_name m n) v (t (j ∷ n))) (eq-eqb j j refl))

-- one instance's views by whole names
module _ {W V : Type 0} (M : MonoidStructure V) (i : Instance) where
  abbrev MovedTree : Name → Deed W → (Name → Bool) → Frames W → (Name → V) → (Name → V) → Type 0
  MovedTree n d loose t views views' =
      Moved M i n d loose (block_view M (λ h. views (h ∷ [])) (λ h. loose (h ∷ [])) M.unit 1 (deeds_at (t []))) (suc (started (deeds_at (t [])))) (below t) views (views []) views' (views' [])

  views_moved : (n : Name) (t : Frames W) (f : Frame W) (d : Deed W) (loose : Name → Bool) (views : Name → V) → t n ≡ Some f → MovedTree n d loose t views (after_views M i loose n f.deeds d views)
  views_moved [] t f (Does e) loose views q = (rw q refl, λ j m. refl)
  views_moved [] t f (Invokes b w) loose views q =
      let K = suc (started (deeds_at (t []))) in
      let same : suc (started f.deeds) ≡ K = rw q refl in (
        refl,
        ap (λ z. with_view views (z ∷ []) (views []) (K ∷ [])) same ∙ view_same views (K ∷ []) (views []),
        λ j m ne. view_other views (suc (started f.deeds) ∷ []) (j ∷ m) (views []) (λ e. ne (let h : suc (started f.deeds) ≡ j = cc in sym h ∙ same)),
      )
  views_moved (j ∷ m) t f (Does e) loose views q = (
    refl,
    (λ h n ne. view_other views (j ∷ m) (h ∷ n) _ (λ e. ne (let z : h ≡ j = cc in z))),
    subst (λ z. MovedTree m (Does e) (λ n. loose (j ∷ n)) (below t j) (λ n. views (j ∷ n)) z) (sym (view_under views j m _)) (views_moved m (below t j) f (Does e) (λ n. loose (j ∷ n)) (λ n. views (j ∷ n)) q),
  )
  views_moved (j ∷ m) t f (Invokes b w) loose views q = (
    refl,
    (λ h n ne. view_other views (j ∷ (m ++ suc (started f.deeds) ∷ [])) (h ∷ n) _ (λ e. ne (let z : h ≡ j = cc in z))),
    subst (λ z. MovedTree m (Invokes b w) (λ n. loose (j ∷ n)) (below t j) (λ n. views (j ∷ n)) z) (sym (view_under views j (m ++ suc (started f.deeds) ∷ []) _)) (views_moved m (below t j) f (Invokes b w) (λ n. loose (j ∷ n)) (λ n. views (j ∷ n)) q),
  )

-- the frame that makes a step, as the whole tree has it
module _ (W V : Type 0) (M : Instance → MonoidStructure V) (Next : W → List (Deed W) → Ask W → Type 0) (C : Costs W) (w : W) (t : Run W) (opening : Cell → ℤ) where
  nonempty_name : (m : Name) (K : ℕ) → m ++ K ∷ [] ≡ [] → ⊥
  nonempty_name [] K q = cc
  nonempty_name (j ∷ m) K q = cc

  taken_top : (m : MonoidStructure V) (n : Name) (K : ℕ) (stolen : Name → Bool) (views : Name → V) → stolen (n ++ K ∷ []) ≡ false → Taken m n K stolen (with_view stolen (n ++ K ∷ []) true) views (views []) (with_view views n m.unit) (with_view views n m.unit [])
  taken_top h [] K stolen views off =
      (off, view_same stolen (K ∷ []) true, (λ j m ne. view_other stolen (K ∷ []) (j ∷ m) true (λ e. ne (sym e))), refl, λ j m. refl)
  taken_top o (j ∷ m) K stolen views off = (
    view_other stolen (j ∷ (m ++ K ∷ [])) (j ∷ []) true (λ e. nonempty_name m K (let z : m ++ K ∷ [] ≡ [] = cc in z)),
    (λ h n ne. view_other stolen (j ∷ (m ++ K ∷ [])) (h ∷ n) true (λ e. ne (let z : h ≡ j = cc in z))),
    refl,
    (λ h n ne. view_other views (j ∷ m) (h ∷ n) o.unit (λ e. ne (let z : h ≡ j = cc in z))),
    subst (λ (z : Name → Bool). Taken o m K (λ n. stolen (j ∷ n)) z (λ n. views (j ∷ n)) (views (j ∷ [])) (λ n. with_view views (j ∷ m) o.unit (j ∷ n)) (with_view views (j ∷ m) o.unit (j ∷ []))) (sym (view_under stolen j (m ++ K ∷ []) true))
        (subst (λ (z : Name → V). Taken o m K (λ n. stolen (j ∷ n)) (with_view (λ n. stolen (j ∷ n)) (m ++ K ∷ []) true) (λ n. views (j ∷ n)) (views (j ∷ [])) z (z [])) (sym (view_under views j m o.unit))
        (taken_top o m K (λ n. stolen (j ∷ n)) (λ n. views (j ∷ n)) off)),
  )

  at_top : (s s' : State W V) (n : Name) → IsStarted w s.frames → (m : Steals W V M Next C s n s') → At (suc (started m.before)) 1 (deeds_at (s.frames [])) (below s.frames) n
  at_top s s' [] root m = (m.before, m.what, rw m.here m.spawned, omega arith)
  at_top s s' (j ∷ n) root m = (counts_from s.frames j n m.frame root.1 m.here, m.frame, m.before, m.what, m.here, m.spawned, refl)

  no_deeds : (b : Bool) → deeds_at (cond b (Some (begun w)) None) ≡ []
  no_deeds true = refl
  no_deeds false = refl

  joined_same : (e : Deed W) (a : Ask W) (n : Name) (ds : List (Deed W)) → a ≡ ask_by e → joined_by a n ds ≡ joins_of e n ds
  joined_same (Does (Reads c v)) a n ds q = rw q refl
  joined_same (Does (Writes c v)) a n ds q = rw q refl
  joined_same (Does Syncs) a n ds q = rw q refl
  joined_same (Does (Ends val gone)) a n ds q = rw q refl
  joined_same (Does (Passes m)) a n ds q = rw q refl
  joined_same (Invokes b v) a n ds q = rw q refl

  asks_top : (s : State W V) (n : Name) → IsStarted w s.frames → (f : Frame W) (a : Ask W) → IsAsking W V M Next C s n f a → Asks W Next s.stolen a w [] (deeds_at (s.frames [])) 1 (below s.frames) n
  asks_top s [] root f a m =
      let e : f.what ≡ w = rw m.here at root.0 in
      (rw m.here (subst (λ z. Next z f.deeds a) e m.next), rw m.here m.ready)
  asks_top s (j ∷ n) root f a m = (counts_from s.frames j n f root.1 m.here, f, m.here, m.next, m.ready)

  rests_top : (i : Instance) (s : State W V) (n : Name) (f : Frame W) (a : Ask W) → IsAsking W V M Next C s n f a → Rests (M i) i s.stolen a (deeds_at (s.frames [])) 1 (below s.frames) n
  rests_top i s [] f a m = rw m.here m.ready
  rests_top i s (j ∷ n) f a m = (f, m.here, m.ready)

  costs_top : (total : Total) (s : State W V) (n : Name) → IsStarted w s.frames → (f : Frame W) (a : Ask W) (e : Deed W) → a ≡ ask_by e → s.frames n ≡ Some f → CostsAt C total w [] (deeds_at (s.frames [])) (below s.frames) n e (cost C total f.what f.deeds a)
  costs_top total s [] root f a e q here =
      let is : f.what ≡ w = rw here at root.0 in
      rw here (ap (cost C total f.what f.deeds) q ∙ ap (λ z. cost C total z f.deeds (ask_by e)) is)
  costs_top total s (j ∷ n) root f a e q here = (f, here, ap (cost C total f.what f.deeds) q)

  view_at : (pcs : Name → V) (n : Name) → view_of (pcs []) pcs n ≡ pcs n
  view_at pcs [] = refl
  view_at pcs (j ∷ n) = refl

  pub opening_ok : (s : State W V) → IsOpening W V M Next C w opening s → IsConsistent M C w t opening s
  opening_ok s o =
      let root : s.frames [] ≡ Some (begun w) = o.0 [] in
      let none : NoneFrom 1 (below s.frames) = λ j le n. o.0 (j ∷ n) in
      record {
        root = (rw root refl, λ n. o.0 (0 ∷ n));
        cut = rw root (cut_nil t 1 (below s.frames) none);
        memory = λ c. ap (λ z. z c) o.1 ∙ sym (rw root (made_nil c t 1 (below s.frames) (opening c)));
        pieces = λ i. rw root (lies_nil (M i) i t 1 (below s.frames) s.stolen (λ z. s.piece z i) (unit_of M i) (unit_of M i) (s.piece [] i) (o.5 i) (λ j le n. o.4 (j ∷ n)));
        joins = λ m. rw o.2 (sym (joined_none s.frames m (λ n. ap deeds_at (o.0 n) ∙ no_deeds (same_name [] n))));
        totals = λ total. rw root (omega (arith, o.6 total, spent_nil C total w [] t 1 (below s.frames)));
        no_stop = o.3;
      }

  module _ (determined : IsDetermined W Next) (behaves : Behaves W Next w [] t) (closed : IsClosed t) (serial : IsSerial t opening) (free : RaceFree t) (law : (i : Instance) → IsLawful (M i) IsValue) (resumed : IsResumed false t) (views : IsSerialViews M t (unit_of M)) (apart : (i : Instance) → ViewFree (M i) i t (unit_of M i)) (within : (total : Total) → C.used total + weight C total w [] t ≤ C.limit total) where
    answered : (s : State W V) (n : Name) (ok : IsConsistent M C w t opening s) (m : Granted) {c : Cell} {x y : ℤ} → Front W c t 1 (deeds_at (s.frames [])) (below s.frames) n (Does (Passes m)) x y → IsAnswered m (numbers_of M (s.piece n))
    answered s n ok Begins f = tt
    answered s n ok Resumes f = tt
    answered s n ok (Updates i x) f = tt
    answered s n ok (Creates i) f = tt
    answered s n ok (Sets i x) f = tt
    answered s n ok (Prints x) f = tt
    answered s n ok (Values i v) f =
        let g = front_view (M i) i f (unit_of M i) in
        let right : v ≡ number_of (M i) g.0 = view_right M g.1 v refl (unit_of M) refl views in
        let seen : view_of (s.piece [] i) (λ z. s.piece z i) n ≡ g.0 = view_front (M i) (law i) i g.1 v refl s.stolen (λ z. s.piece z i) (unit_of M i) (unit_of M i) (s.piece [] i) false resumed ok.cut closed (ok.pieces i) (apart i) (λ z. inl (refl, refl), inl refl) in
        right ∙ ap (number_of (M i)) (sym seen ∙ view_at (λ z. s.piece z i) n)

    kept_at : (s s' : State W V) (n : Name) (ok : IsConsistent M C w t opening s) (m : Makes W V M Next C s n s') (e : Deed W) (y : ℤ) → m.ask ≡ ask_by e → Front W (cell_of m.ask) t 1 (deeds_at (s.frames [])) (below s.frames) n e (opening (cell_of m.ask)) y → IsConsistent M C w t opening s'
    kept_at s s' n ok m e y q front =
        let ds = deeds_at (s.frames []) in
        let kids = below s.frames in
        let c = cell_of m.ask in
        let number : Instance → ℤ = numbers_of M (s.piece n) in
        let right : (v : ℤ) → e ≡ Does (Reads c v) → v ≡ s.memory c =
        λ v h. let f : Front W c t 1 ds kids n (Does (Reads c v)) (opening c) y = subst (λ z. Front W c t 1 ds kids n z (opening c) y) h front in
        front_right f v refl opening refl serial ∙ sym (front_value f ok.cut free refl) ∙ sym (ok.memory c) in
        let told : (z : Granted) → e ≡ Does (Passes z) → IsAnswered z number =
        λ z h. answered s n ok z (subst (λ a. Front W c t 1 ds kids n a (opening c) y) h front) in
        let deed : deed_of s.memory number m.ask ≡ e = same_deed e m.ask s.memory number q right told in
        let frames : s'.frames ≡ after_deed s.frames n m.frame e = m.frames ∙ ap (after_deed s.frames n m.frame) deed in
        let grows : GrowsTree n e s.frames s'.frames = subst (λ z. GrowsTree n e s.frames z) (sym frames) (tree_grows n s.frames m.frame e m.asking.here) in
        let memory : (b : Cell) → s'.memory b ≡ made t 1 (grown n ds e) (below s'.frames) b (opening b) =
        λ b. let g = front_cell front b (opening b) in
        ap (λ z. z b) m.memory
        ∙ ap (λ d. effect d b (s.memory b)) deed
        ∙ ap (effect e b) (ok.memory b)
        ∙ sym (made_step e g.1 ok.cut free (below s'.frames) grows.2 (opening b)) in
        let pieces : (i : Instance) → Lies (M i) i t 1 (grown n ds e) (below s'.frames) s.stolen (λ z. s'.piece z i) (unit_of M i) (unit_of M i) (s'.piece [] i) =
        λ i. let old : Name → V = λ z. s.piece z i in
        let new : Name → V = after_views (M i) i s.stolen n m.frame.deeds e old in
        let same : new ≡ (λ z. s'.piece z i) = sym (fun_ext (λ z. m.piece i z ∙ ap (λ d. after_views (M i) i s.stolen n m.frame.deeds d old z) deed)) in
        subst (λ (z : Name → V). Lies (M i) i t 1 (grown n ds e) (below s'.frames) s.stolen z (unit_of M i) (unit_of M i) (z [])) same
        (lies_step (M i) i front ok.cut closed false tt resumed s.stolen m.ask (rests_top i s n m.frame m.ask m.asking) (unit_of M i) _ (unit_of M i) old (old []) refl (ok.pieces i) (suc (started ds)) (below s'.frames) (omega arith) grows.2 new (new []) (views_moved (M i) i n s.frames m.frame e s.stolen old m.asking.here)) in
        record {
          root = grows.0 w ok.root;
          cut = rw grows.1 (cut_step front ok.cut (suc (started ds)) (below s'.frames) (omega arith) grows.2);
          memory = λ b. rw grows.1 (memory b);
          pieces = λ i. rw (grows.1, m.stolen) (pieces i);
          joins = λ z. ap (times z) (m.joins ∙ ap (λ l. l ++ s.joins) (joined_same e m.ask n m.frame.deeds q)) ∙ times-append z (joins_of e n m.frame.deeds) s.joins ∙ ap (λ l. times z (joins_of e n m.frame.deeds) + l) (ok.joins z) ∙ sym (joined_front s.frames m.frame front ok.cut m.asking.here z) ∙ ap (λ l. joined l z) (sym frames);
          totals = λ total. rw grows.1 (m.totals total ∙ ap (λ z. z + cost C total m.frame.what m.frame.deeds m.ask) (ok.totals total) ∙ omega (arith, spent_step C total front ok.cut w [] _ (costs_top total s n ok.root m.frame m.ask e q m.asking.here) (suc (started ds)) (below s'.frames) (omega arith) grows.2));
          no_stop = m.stopped ∙ ok.no_stop;
        }

    -- with the frame's next ask no total exceeds the serial run's
    pub room_at : (s : State W V) (n : Name) → IsConsistent M C w t opening s → (total : Total) (f : Frame W) (a : Ask W) → IsAsking W V M Next C s n f a → s.totals total + cost C total f.what f.deeds a ≤ C.used total + weight C total w [] t
    room_at s n ok total f a m =
        let ds = deeds_at (s.frames []) in
        let (e, y, q, front) = find W Next determined (cell_of a) t 1 w [] ds (below s.frames) s.stolen a n (opening (cell_of a)) ok.cut behaves closed (asks_top s n ok.root f a m) in
        let grows : GrowsTree n e s.frames (after_deed s.frames n f e) = tree_grows n s.frames f e m.here in
        let more = spent_step C total front ok.cut w [] _ (costs_top total s n ok.root f a e q m.here) (suc (started ds)) (below (after_deed s.frames n f e)) (omega arith) grows.2 in
        omega (arith, ok.totals total, more, spent_le C total w [] t 1 (grown n ds e) (below (after_deed s.frames n f e)))

    -- so nothing stops the run
    pub never_stops : (s s' : State W V) (n : Name) → IsConsistent M C w t opening s → Stops W V M Next C s n s' → {X : Type 0} → X
    never_stops s s' n ok m =
        let (e, y, q, front) = find W Next determined (cell_of m.ask) t 1 w [] (deeds_at (s.frames [])) (below s.frames) s.stolen m.ask n (opening (cell_of m.ask)) ok.cut behaves closed (asks_top s n ok.root m.frame m.ask m.asking) in
        let fits : (total : Total) → s.totals total + cost C total m.frame.what m.frame.deeds m.ask ≤ C.limit total = λ total. omega (arith, room_at s n ok total m.frame m.ask m.asking, within total) in
        let off : fault_of C s.totals m.frame.what m.frame.deeds m.ask ≡ None = no_fault C s.totals m.frame.what m.frame.deeds e m.ask q fits in
        let z : None ≡ Some m.fault = sym off ∙ m.why in
        absurd (cc)

    pub makes_keeps : (s s' : State W V) (n : Name) → IsConsistent M C w t opening s → Makes W V M Next C s n s' → IsConsistent M C w t opening s'
    makes_keeps s s' n ok m =
        let (e, y, q, front) = find W Next determined (cell_of m.ask) t 1 w [] (deeds_at (s.frames [])) (below s.frames) s.stolen m.ask n (opening (cell_of m.ask)) ok.cut behaves closed (asks_top s n ok.root m.frame m.ask m.asking) in
        kept_at s s' n ok m e y q front

    pub steals_keeps : (s s' : State W V) (n : Name) → IsConsistent M C w t opening s → Steals W V M Next C s n s' → IsConsistent M C w t opening s'
    steals_keeps s s' n ok m =
        let K = suc (started m.before) in
        let at = at_top s s' n ok.root m in
        let found = find_stolen (Global 0) t 1 (deeds_at (s.frames [])) (below s.frames) n (pos 0) K false resumed ok.cut at in
        let pieces : (i : Instance) → Lies (M i) i t 1 (deeds_at (s.frames [])) (below s.frames) s'.stolen (λ z. s'.piece z i) (unit_of M i) (unit_of M i) (s'.piece [] i) =
        λ i. let old : Name → V = λ z. s.piece z i in
        let same : with_view old n (unit_of M i) ≡ (λ z. s'.piece z i) = sym (fun_ext (λ z. m.piece i z)) in
        rw m.stolen
        (subst (λ (z : Name → V). Lies (M i) i t 1 (deeds_at (s.frames [])) (below s.frames) (with_view s.stolen (n ++ K ∷ []) true) z (unit_of M i) (unit_of M i) (z [])) same
        (lies_steal (M i) i found.1 refl ok.cut false tt resumed K at s.stolen (with_view s.stolen (n ++ K ∷ []) true) (unit_of M i) (unit_of M i) old (with_view old n (unit_of M i)) (old []) (with_view old n (unit_of M i) []) (ok.pieces i) (taken_top (M i) n K s.stolen old m.not_yet))) in
        record {
          root = rw m.frames ok.root;
          cut = rw m.frames ok.cut;
          memory = λ c. rw (m.frames, m.memory) (ok.memory c);
          pieces = λ i. rw m.frames (pieces i);
          joins = λ z. rw (m.frames, m.joins) (ok.joins z);
          totals = λ total. rw (m.frames, m.totals) (ok.totals total);
          no_stop = m.stopped ∙ ok.no_stop;
        }

    pub step_keeps : (s s' : State W V) (n : Name) → IsConsistent M C w t opening s → Step W V M Next C s n s' → IsConsistent M C w t opening s'
    step_keeps s s' n ok m = ⊎_elim (makes_keeps s s' n ok) (⊎_elim (steals_keeps s s' n ok) (λ x. never_stops s s' n ok x)) m.1

    pub steps_keep : (ns : List Name) (s s' : State W V) → IsConsistent M C w t opening s → Steps W V M Next C ns s s' → IsConsistent M C w t opening s'
    steps_keep [] s s' ok q = rw q ok
    steps_keep (n ∷ ns) s s' ok (mid, first, rest) = steps_keep ns mid s' (step_keeps s mid n ok first) rest

    -- once the root has ended every frame has, and memory and views are the serial run's
    pub ended_ok : (s : State W V) → IsConsistent M C w t opening s → HasEnd (deeds_at (s.frames [])) → IsFull t 1 (deeds_at (s.frames [])) (below s.frames) × ((c : Cell) → s.memory c ≡ value_after t c (opening c)) × ((i : Instance) → s.piece [] i ≡ view_after (M i) i t (unit_of M i)) × (deeds_at (s.frames []) ≡ own_deeds t)
    ended_ok s ok h =
        let full = ended_full t 1 (deeds_at (s.frames [])) (below s.frames) ok.cut closed h in (
          full,
          (λ c. ok.memory c ∙ made_full c t 1 (deeds_at (s.frames [])) (below s.frames) (opening c) full),
          (λ i. final_view (M i) (law i) i t 1 (deeds_at (s.frames [])) (below s.frames) s.stolen (λ z. s.piece z i) (unit_of M i) (unit_of M i) (s.piece [] i) (unit_of M i) false resumed full ok.cut closed (ok.pieces i) (apart i) (inl (refl, refl))),
          full_deeds t 1 (deeds_at (s.frames [])) (below s.frames) full ok.cut,
        )
