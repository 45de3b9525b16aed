-- The number of times a spawned child is in the joins.
use Rattle.std.proofs.Common.{◌≡◌, ℕ, suc, ◌+◌, ◌<◌, ◌≤◌, false, cond, List, [], ◌∷◌, ◌++◌, Some, None, refl, sym, ap, ◌∙◌, subst, arith, ⊎_elim, eq-eqb, ne_eqb, zero-add, ℤ, zero}
use Rattle.std.specs.Prelude.{nat_eq}
use Rattle.std.proofs.lemmas.Bool.{cases_eq, cases_Bool, cond-true, cond-false}
use Rattle.cilk_types.specs.declared.invocation.Invocation.{Invocation}
use Rattle.cilk_types.specs.declared.invocation.Invocation.TheVariants.{Call, Spawn}
use Rattle.cilk_determinacy.specs.Runs.{Name, same_name, Cell, Event, Reads, Writes, Syncs, Ends, Passes, Deed, Does, Invokes}
use Rattle.cilk_determinacy.specs.Machine.{Frame, Frames, deeds_at, started, begun, after_deed, open_block, children}
use Rattle.cilk_determinacy.specs.Cuts.{below, times, sync_bit, spawn_bit, joined_at, joined}
use Rattle.cilk_determinacy.specs.Runs.{Run, stop, act, child}
use Rattle.cilk_determinacy.specs.Cuts.{IsStarted, IsCut, IsFull, spawned_at, spawned}
use Rattle.cilk_determinacy.specs.Machine.{HasSync}
use Rattle.cilk_determinacy.specs.Serial.{IsClosed, ComesAfter}
use Rattle.cilk_determinacy.proofs.Find.{full_sync, closed_act}
use Rattle.cilk_determinacy.proofs.Front.{Front, here_act, here_child, past_act, past_child, inside}
use Rattle.cilk_determinacy.proofs.Grows.{root_same, other_same, shift, cut_none}
use Rattle.cilk_determinacy.proofs.Basics.{same_name-eq, IsSyncDeed}

abbrev count : ℕ → List ℕ → ℕ
count k [] = 0
count k (x ∷ xs) = cond (nat_eq x k) 1 0 + count k xs

count-append : (k : ℕ) (xs ys : List ℕ) → count k (xs ++ ys) ≡ count k xs + count k ys
count-append k [] ys = omega arith
count-append k (x ∷ xs) ys = omega (arith, count-append k xs ys)

spawn_sum : (b : Invocation) (x y z : ℕ) → x ≡ y + z → spawn_bit b x ≡ spawn_bit b y + spawn_bit b z
spawn_sum Call x y z h = refl
spawn_sum Spawn x y z h = h

spawn_zero : (b : Invocation) → spawn_bit b 0 ≡ 0
spawn_zero Call = refl
spawn_zero Spawn = refl

module _ {W : Type 0} where
  -- n, or 0 where there is a sync
  abbrev left_of : List (Deed W) → ℕ → ℕ
  left_of [] n = n
  left_of (Does (Reads c v) ∷ ds) n = left_of ds n
  left_of (Does (Writes c v) ∷ ds) n = left_of ds n
  left_of (Does Syncs ∷ ds) n = 0
  left_of (Does (Ends val gone) ∷ ds) n = left_of ds n
  left_of (Does (Passes m) ∷ ds) n = left_of ds n
  left_of (Invokes b w ∷ ds) n = left_of ds n

  left_of-add : (ds : List (Deed W)) (a b : ℕ) → left_of ds (a + b) ≡ left_of ds a + left_of ds b
  left_of-add [] a b = refl
  left_of-add (Does (Reads c v) ∷ ds) a b = left_of-add ds a b
  left_of-add (Does (Writes c v) ∷ ds) a b = left_of-add ds a b
  left_of-add (Does Syncs ∷ ds) a b = omega arith
  left_of-add (Does (Ends val gone) ∷ ds) a b = left_of-add ds a b
  left_of-add (Does (Passes m) ∷ ds) a b = left_of-add ds a b
  left_of-add (Invokes h w ∷ ds) a b = left_of-add ds a b

  left_of-zero : (ds : List (Deed W)) → left_of ds 0 ≡ 0
  left_of-zero [] = refl
  left_of-zero (Does (Reads c v) ∷ ds) = left_of-zero ds
  left_of-zero (Does (Writes c v) ∷ ds) = left_of-zero ds
  left_of-zero (Does Syncs ∷ ds) = refl
  left_of-zero (Does (Ends val gone) ∷ ds) = left_of-zero ds
  left_of-zero (Does (Passes m) ∷ ds) = left_of-zero ds
  left_of-zero (Invokes h w ∷ ds) = left_of-zero ds

  sync_or_left : (ds : List (Deed W)) → sync_bit ds + left_of ds 1 ≡ 1
  sync_or_left [] = refl
  sync_or_left (Does (Reads c v) ∷ ds) = sync_or_left ds
  sync_or_left (Does (Writes c v) ∷ ds) = sync_or_left ds
  sync_or_left (Does Syncs ∷ ds) = refl
  sync_or_left (Does (Ends val gone) ∷ ds) = sync_or_left ds
  sync_or_left (Does (Passes m) ∷ ds) = sync_or_left ds
  sync_or_left (Invokes h w ∷ ds) = sync_or_left ds

  -- child k waits in the block open at the end
  abbrev open_at : ℕ → ℕ → List (Deed W) → ℕ
  open_at z k [] = 0
  open_at z k (Does e ∷ ds) = open_at z k ds
  open_at z k (Invokes b w ∷ ds) = cond (nat_eq z k) (spawn_bit b (left_of ds 1)) (open_at (suc z) k ds)

  open_past : (z k : ℕ) (ds : List (Deed W)) → k < z → open_at z k ds ≡ 0
  open_past z k [] lt = refl
  open_past z k (Does e ∷ ds) lt = open_past z k ds lt
  open_past z k (Invokes b w ∷ ds) lt = rw (ne_eqb z k (λ q. omega arith)) (open_past (suc z) k ds (omega arith))

  block_count : (z k : ℕ) (block : List ℕ) (ds : List (Deed W)) → count k (open_block z block ds) ≡ left_of ds (count k block) + open_at z k ds
  block_count z k block [] = omega arith
  block_count z k block (Does (Reads c v) ∷ ds) = block_count z k block ds
  block_count z k block (Does (Writes c v) ∷ ds) = block_count z k block ds
  block_count z k block (Does Syncs ∷ ds) = omega (arith, block_count z k [] ds, left_of-zero ds)
  block_count z k block (Does (Ends val gone) ∷ ds) = block_count z k block ds
  block_count z k block (Does (Passes m) ∷ ds) = block_count z k block ds
  block_count z k block (Invokes Call w ∷ ds) =
      ⊎_elim
      (λ e. rw (eq-eqb z k e) (block_count (suc z) k block ds ∙ ap (λ t. left_of ds (count k block) + t) (open_past (suc z) k ds (omega arith))))
      (λ ne. rw (ne_eqb z k ne) (block_count (suc z) k block ds))
      (cases_eq z k)
  block_count z k block (Invokes Spawn w ∷ ds) =
      let ih = block_count (suc z) k (block ++ z ∷ []) ds in
      let more = ap (left_of ds) (count-append k block (z ∷ [])) ∙ left_of-add ds (count k block) (count k (z ∷ [])) in
      ⊎_elim
      (λ e. rw (eq-eqb z k e)
      (let one : left_of ds (count k (z ∷ [])) ≡ left_of ds 1 = ap (left_of ds) (rw (eq-eqb z k e) refl) in
      omega (arith, ih, more, one, open_past (suc z) k ds (omega arith))))
      (λ ne. rw (ne_eqb z k ne)
      (let one : left_of ds (count k (z ∷ [])) ≡ 0 = ap (left_of ds) (rw (ne_eqb z k ne) refl) ∙ left_of-zero ds in
      omega (arith, ih, more, one)))
      (cases_eq z k)

  sync_bit_sync : (ds : List (Deed W)) → sync_bit (ds ++ Does Syncs ∷ []) ≡ 1
  sync_bit_sync [] = refl
  sync_bit_sync (Does (Reads c v) ∷ ds) = sync_bit_sync ds
  sync_bit_sync (Does (Writes c v) ∷ ds) = sync_bit_sync ds
  sync_bit_sync (Does Syncs ∷ ds) = refl
  sync_bit_sync (Does (Ends val gone) ∷ ds) = sync_bit_sync ds
  sync_bit_sync (Does (Passes m) ∷ ds) = sync_bit_sync ds
  sync_bit_sync (Invokes h w ∷ ds) = sync_bit_sync ds

  sync_bit_other : (ds : List (Deed W)) (d : Deed W) → ¬ (IsSyncDeed d) → sync_bit (ds ++ d ∷ []) ≡ sync_bit ds
  sync_bit_other [] (Does (Reads c v)) never = refl
  sync_bit_other [] (Does (Writes c v)) never = refl
  sync_bit_other [] (Does Syncs) never = absurd (never tt)
  sync_bit_other [] (Does (Ends val gone)) never = refl
  sync_bit_other [] (Does (Passes m)) never = refl
  sync_bit_other [] (Invokes h w) never = refl
  sync_bit_other (Does (Reads c v) ∷ ds) d never = sync_bit_other ds d never
  sync_bit_other (Does (Writes c v) ∷ ds) d never = sync_bit_other ds d never
  sync_bit_other (Does Syncs ∷ ds) d never = refl
  sync_bit_other (Does (Ends val gone) ∷ ds) d never = sync_bit_other ds d never
  sync_bit_other (Does (Passes m) ∷ ds) d never = sync_bit_other ds d never
  sync_bit_other (Invokes h w ∷ ds) d never = sync_bit_other ds d never

  joined_sync : (z k : ℕ) (ds : List (Deed W)) → joined_at z k (ds ++ Does Syncs ∷ []) ≡ joined_at z k ds + open_at z k ds
  joined_sync z k [] = refl
  joined_sync z k (Does e ∷ ds) = joined_sync z k ds
  joined_sync z k (Invokes b w ∷ ds) =
      ⊎_elim
      (λ e. rw (eq-eqb z k e) (spawn_sum b _ _ _ (sync_bit_sync ds ∙ sym (sync_or_left ds))))
      (λ ne. rw (ne_eqb z k ne) (joined_sync (suc z) k ds))
      (cases_eq z k)

  joined_one : (z k : ℕ) (d : Deed W) → joined_at z k (d ∷ []) ≡ 0
  joined_one z k (Does e) = refl
  joined_one z k (Invokes b w) =
      ⊎_elim (λ e. rw (eq-eqb z k e) (spawn_zero b)) (λ ne. rw (ne_eqb z k ne) refl) (cases_eq z k)

  joined_other : (z k : ℕ) (ds : List (Deed W)) (d : Deed W) → ¬ (IsSyncDeed d) → joined_at z k (ds ++ d ∷ []) ≡ joined_at z k ds
  joined_other z k [] d never = joined_one z k d
  joined_other z k (Does e ∷ ds) d never = joined_other z k ds d never
  joined_other z k (Invokes b w ∷ ds) d never =
      ⊎_elim
      (λ e. rw (eq-eqb z k e) (ap (spawn_bit b) (sync_bit_other ds d never)))
      (λ ne. rw (ne_eqb z k ne) (joined_other (suc z) k ds d never))
      (cases_eq z k)

pub times-append : (m : Name) (xs ys : List Name) → times m (xs ++ ys) ≡ times m xs + times m ys
times-append m [] ys = omega arith
times-append m (x ∷ xs) ys = omega (arith, times-append m xs ys)

not_root : (n : Name) (x : ℕ) → same_name (n ++ x ∷ []) [] ≡ false
not_root [] x = refl
not_root (j ∷ n) x = refl

times_root : (n : Name) (ks : List ℕ) → times [] (children n ks) ≡ 0
times_root n [] = refl
times_root n (k ∷ ks) = rw (not_root n k) (zero-add _ ∙ times_root n ks)

times_here : (k : ℕ) (ks : List ℕ) → times (k ∷ []) (children [] ks) ≡ count k ks
times_here k [] = refl
times_here k (x ∷ ks) =
    ⊎_elim
    (λ e. rw (eq-eqb x k e) (ap (λ z. 1 + z) (times_here k ks)))
    (λ ne. rw (ne_eqb x k ne) (ap (λ z. 0 + z) (times_here k ks)))
    (cases_eq x k)

times_below : (j k : ℕ) (m : Name) (ks : List ℕ) → times (j ∷ k ∷ m) (children [] ks) ≡ 0
times_below j k m [] = refl
times_below j k m (x ∷ ks) =
    ⊎_elim
    (λ e. rw (eq-eqb x j e) (zero-add _ ∙ times_below j k m ks))
    (λ ne. rw (ne_eqb x j ne) (zero-add _ ∙ times_below j k m ks))
    (cases_eq x j)

times_other : (i j : ℕ) (n m : Name) (ks : List ℕ) → (i ≡ j → ⊥) → times (j ∷ m) (children (i ∷ n) ks) ≡ 0
times_other i j n m [] ne = refl
times_other i j n m (x ∷ ks) ne = rw (ne_eqb i j ne) (zero-add _ ∙ times_other i j n m ks ne)

times_inner : (j : ℕ) (n m : Name) (ks : List ℕ) → times (j ∷ m) (children (j ∷ n) ks) ≡ times m (children n ks)
times_inner j n m [] = refl
times_inner j n m (x ∷ ks) = rw (eq-eqb j j refl) (ap (λ z. cond (same_name (n ++ x ∷ []) m) 1 0 + z) (times_inner j n m ks))

module _ {W : Type 0} where
  -- what a deed of frame n joins
  abbrev pub joins_of : Deed W → Name → List (Deed W) → List Name
  joins_of (Does (Reads c v)) n ds = []
  joins_of (Does (Writes c v)) n ds = []
  joins_of (Does Syncs) n ds = children n (open_block 1 [] ds)
  joins_of (Does (Ends val gone)) n ds = []
  joins_of (Does (Passes m)) n ds = []
  joins_of (Invokes b w) n ds = []

  joins_under : (d : Deed W) (j : ℕ) (n m : Name) (ds : List (Deed W)) → times (j ∷ m) (joins_of d (j ∷ n) ds) ≡ times m (joins_of d n ds)
  joins_under (Does (Reads c v)) j n m ds = refl
  joins_under (Does (Writes c v)) j n m ds = refl
  joins_under (Does Syncs) j n m ds = times_inner j n m (open_block 1 [] ds)
  joins_under (Does (Ends val gone)) j n m ds = refl
  joins_under (Does (Passes x)) j n m ds = refl
  joins_under (Invokes b w) j n m ds = refl

  joins_aside : (d : Deed W) (i j : ℕ) (n m : Name) (ds : List (Deed W)) → (i ≡ j → ⊥) → times (j ∷ m) (joins_of d (i ∷ n) ds) ≡ 0
  joins_aside (Does (Reads c v)) i j n m ds ne = refl
  joins_aside (Does (Writes c v)) i j n m ds ne = refl
  joins_aside (Does Syncs) i j n m ds ne = times_other i j n m (open_block 1 [] ds) ne
  joins_aside (Does (Ends val gone)) i j n m ds ne = refl
  joins_aside (Does (Passes x)) i j n m ds ne = refl
  joins_aside (Invokes b w) i j n m ds ne = refl

  joins_root : (d : Deed W) (n : Name) (ds : List (Deed W)) → times [] (joins_of d n ds) ≡ 0
  joins_root (Does (Reads c v)) n ds = refl
  joins_root (Does (Writes c v)) n ds = refl
  joins_root (Does Syncs) n ds = times_root n (open_block 1 [] ds)
  joins_root (Does (Ends val gone)) n ds = refl
  joins_root (Does (Passes x)) n ds = refl
  joins_root (Invokes b w) n ds = refl

  joins_deep : (d : Deed W) (j k : ℕ) (m : Name) (ds : List (Deed W)) → times (j ∷ k ∷ m) (joins_of d [] ds) ≡ 0
  joins_deep (Does (Reads c v)) j k m ds = refl
  joins_deep (Does (Writes c v)) j k m ds = refl
  joins_deep (Does Syncs) j k m ds = times_below j k m (open_block 1 [] ds)
  joins_deep (Does (Ends val gone)) j k m ds = refl
  joins_deep (Does (Passes x)) j k m ds = refl
  joins_deep (Invokes b w) j k m ds = refl

  joined_ext : (t t' : Frames W) (m : Name) → ((n : Name) → deeds_at (t' n) ≡ deeds_at (t n)) → joined t' m ≡ joined t m
  joined_ext t t' [] e = refl
  joined_ext t t' (k ∷ []) e = ap (joined_at 1 k) (e [])
  joined_ext t t' (j ∷ k ∷ m) e = joined_ext (below t j) (below t' j) (k ∷ m) (λ n. e (j ∷ n))

  joined_here : (k : ℕ) (d : Deed W) (ds : List (Deed W)) → joined_at 1 k (ds ++ d ∷ []) ≡ times (k ∷ []) (joins_of d [] ds) + joined_at 1 k ds
  joined_here k (Does (Reads c v)) ds = joined_other 1 k ds (Does (Reads c v)) (λ z. z) ∙ sym (zero-add _)
  joined_here k (Does (Writes c v)) ds = joined_other 1 k ds (Does (Writes c v)) (λ z. z) ∙ sym (zero-add _)
  joined_here k (Does Syncs) ds = omega (arith, joined_sync 1 k ds, times_here k (open_block 1 [] ds), block_count 1 k [] ds, left_of-zero ds)
  joined_here k (Does (Ends val gone)) ds = joined_other 1 k ds (Does (Ends val gone)) (λ z. z) ∙ sym (zero-add _)
  joined_here k (Does (Passes m)) ds = joined_other 1 k ds (Does (Passes m)) (λ z. z) ∙ sym (zero-add _)
  joined_here k (Invokes b w) ds = joined_other 1 k ds (Invokes b w) (λ z. z) ∙ sym (zero-add _)

  -- the child to be started isn't there
  abbrev pub IsNew : Frames W → Name → Frame W → Deed W → Type 0
  IsNew t n f (Does e) = Unit {0}
  IsNew t n f (Invokes b w) = deeds_at (t (n ++ suc (started f.deeds) ∷ [])) ≡ []

  new_deeds : (t : Frames W) (f : Frame W) (d : Deed W) (j : ℕ) (n : Name) → IsNew t [] f d → deeds_at (after_deed t [] f d (j ∷ n)) ≡ deeds_at (t (j ∷ n))
  new_deeds t f (Does e) j n new = refl
  new_deeds t f (Invokes b w) j n new =
      ⊎_elim
      (λ e. let q : suc (started f.deeds) ∷ [] ≡ j ∷ n = same_name-eq (suc (started f.deeds) ∷ []) (j ∷ n) e in
      ap deeds_at (cond-true (same_name (suc (started f.deeds) ∷ []) (j ∷ n)) (Some (begun w)) (t (j ∷ n)) e) ∙ sym new ∙ ap (λ z. deeds_at (t z)) q)
      (λ e. ap deeds_at (cond-false (same_name (suc (started f.deeds) ∷ []) (j ∷ n)) (Some (begun w)) (t (j ∷ n)) e))
      (cases_Bool (same_name (suc (started f.deeds) ∷ []) (j ∷ n)))

  root_deeds : (t : Frames W) (f : Frame W) (d : Deed W) → deeds_at (after_deed t [] f d []) ≡ f.deeds ++ d ∷ []
  root_deeds t f (Does e) = refl
  root_deeds t f (Invokes b w) = refl

  new_under : (t : Frames W) (j : ℕ) (n : Name) (f : Frame W) (d : Deed W) → IsNew t (j ∷ n) f d → IsNew (below t j) n f d
  new_under t j n f (Does e) h = h
  new_under t j n f (Invokes b w) h = h

  pub joined_step : (n : Name) (t : Frames W) (f : Frame W) (d : Deed W) → t n ≡ Some f → IsNew t n f d → (m : Name) → joined (after_deed t n f d) m ≡ times m (joins_of d n f.deeds) + joined t m
  joined_step n t f d q new [] = omega (arith, joins_root d n f.deeds)
  joined_step [] t f d q new (k ∷ []) = ap (joined_at 1 k) (root_deeds t f d) ∙ joined_here k d f.deeds ∙ ap (λ z. times (k ∷ []) (joins_of d [] f.deeds) + joined_at 1 k (deeds_at z)) (sym q)
  joined_step [] t f d q new (j ∷ k ∷ m) =
      joined_ext (below t j) (below (after_deed t [] f d) j) (k ∷ m) (λ n. new_deeds t f d j n new) ∙ omega (arith, joins_deep d j k m f.deeds)
  joined_step (i ∷ n) t f d q new (k ∷ []) =
      let none : times (k ∷ []) (joins_of d (i ∷ n) f.deeds) ≡ 0 =
      ⊎_elim
      (λ e. ap (λ z. times (z ∷ []) (joins_of d (i ∷ n) f.deeds)) (sym e) ∙ joins_under d i n [] f.deeds ∙ joins_root d n f.deeds)
      (λ ne. joins_aside d i k n [] f.deeds ne)
      (cases_eq i k) in
      ap (λ z. joined_at 1 k (deeds_at z)) (root_same i n t f d) ∙ omega (arith, none)
  joined_step (i ∷ n) t f d q new (j ∷ k ∷ m) =
      ⊎_elim
      (λ e. subst (λ z. joined (below (after_deed t (i ∷ n) f d) z) (k ∷ m) ≡ times (z ∷ k ∷ m) (joins_of d (i ∷ n) f.deeds) + joined (below t z) (k ∷ m)) e
      (ap (λ z. joined z (k ∷ m)) (shift i n t f d) ∙ joined_step n (below t i) f d q (new_under t i n f d new) (k ∷ m) ∙ ap (λ z. z + joined (below t i) (k ∷ m)) (sym (joins_under d i n (k ∷ m) f.deeds))))
      (λ ne. ap (λ z. joined z (k ∷ m)) (other_same i n t f d j (λ z. ne (sym z))) ∙ omega (arith, joins_aside d i j n (k ∷ m) f.deeds ne))
      (cases_eq i j)

  -- the child that the frame at the front would start next isn't there
  abbrev NewAt : ℕ → List (Deed W) → (ℕ → Frames W) → Name → Type 0
  NewAt k ds kids [] = kids (k + started ds) [] ≡ None
  NewAt k ds kids (j ∷ m) = (f : Frame W) → kids j m ≡ Some f → kids j (m ++ suc (started f.deeds) ∷ []) ≡ None

  new_at : {c : Cell} {r : Run W} {k : ℕ} {ds : List (Deed W)} {kids : ℕ → Frames W} {n : Name} {a : Deed W} {x y : ℤ} → Front W c r k ds kids n a x y → IsCut r k ds kids → NewAt k ds kids n
  new_at (here_act {k = k}) cut = cut (k + 0) (omega arith) []
  new_at (here_child {k = k}) cut = cut (k + 0) (omega arith) []
  new_at (past_act {k = k} {kids = kids} {n = []} f) cut = rw cut.0 (new_at f cut.1)
  new_at (past_act {n = j ∷ m} f) cut = new_at f cut.1
  new_at (past_child {k = k} {ds = ds} {kids = kids} {n = []} p f) cut =
      let e : k + suc (started ds) ≡ suc k + started ds = omega arith in
      rw cut.0 (ap (λ z. kids z []) e ∙ new_at f cut.4)
  new_at (past_child {n = j ∷ m} p f) cut = new_at f cut.4
  new_at (inside {k = k} {kids = kids} {m = []} f) cut = λ g q.
      let e : suc (started g.deeds) ≡ 1 + started (deeds_at (kids k [])) = rw q (omega arith) in
      ap (λ z. kids k (z ∷ [])) e ∙ new_at f cut.2
  new_at (inside {m = j ∷ m} f) cut = new_at f cut.2

  is_new : (t : Frames W) (n : Name) (f : Frame W) (d : Deed W) → t n ≡ Some f → NewAt 1 (deeds_at (t [])) (below t) n → IsNew t n f d
  is_new t n f (Does e) q h = tt
  is_new t [] f (Invokes b w) q h =
      let e : suc (started f.deeds) ≡ 1 + started (deeds_at (t [])) = rw q (omega arith) in
      ap deeds_at (ap (λ z. t (z ∷ [])) e ∙ h)
  is_new t (j ∷ n) f (Invokes b w) q h = ap deeds_at (h f q)

  pub joined_front : {c : Cell} {r : Run W} {n : Name} {a : Deed W} {x y : ℤ} (t : Frames W) (f : Frame W) → Front W c r 1 (deeds_at (t [])) (below t) n a x y → IsCut r 1 (deeds_at (t [])) (below t) → t n ≡ Some f → (m : Name) → joined (after_deed t n f a) m ≡ times m (joins_of a n f.deeds) + joined t m
  joined_front {n = n} {a = a} t f front cut q m = joined_step n t f a q (is_new t n f a q (new_at front cut)) m

  pub joined_none : (t : Frames W) (m : Name) → ((n : Name) → deeds_at (t n) ≡ []) → joined t m ≡ 0
  joined_none t [] h = refl
  joined_none t (k ∷ []) h = ap (joined_at 1 k) (h [])
  joined_none t (j ∷ k ∷ m) h = joined_none (below t j) (k ∷ m) (λ n. h (j ∷ n))

  sync_bit_has : (ds : List (Deed W)) → HasSync ds → sync_bit ds ≡ 1
  sync_bit_has [] h = absurd h
  sync_bit_has (Does (Reads c v) ∷ ds) h = sync_bit_has ds h
  sync_bit_has (Does (Writes c v) ∷ ds) h = sync_bit_has ds h
  sync_bit_has (Does Syncs ∷ ds) h = refl
  sync_bit_has (Does (Ends val gone) ∷ ds) h = sync_bit_has ds h
  sync_bit_has (Does (Passes m) ∷ ds) h = sync_bit_has ds h
  sync_bit_has (Invokes b w ∷ ds) h = sync_bit_has ds h

  spawn_full : (b : Invocation) (r : Run W) (k : ℕ) (ds : List (Deed W)) (kids : ℕ → Frames W) → IsFull r k ds kids → IsCut r k ds kids → ComesAfter b r → spawn_bit b (sync_bit ds) ≡ spawn_bit b 1
  spawn_full Call r k ds kids full cut h = refl
  spawn_full Spawn r k ds kids full cut h = sync_bit_has ds (full_sync r k ds kids full cut h)

  act_bits : (z k : ℕ) (d : Deed W) (ds : List (Deed W)) (e : Event) → d ≡ Does e → joined_at z k ds ≡ spawned_at z k ds → joined_at z k (d ∷ ds) ≡ spawned_at z k (d ∷ ds)
  act_bits z k d ds e q h = rw q h

  full_here : (r : Run W) (z : ℕ) (ds : List (Deed W)) (kids : ℕ → Frames W) (k : ℕ) → IsFull r z ds kids → IsCut r z ds kids → IsClosed r → joined_at z k ds ≡ spawned_at z k ds
  full_here r z [] kids k full cut closed = refl
  full_here stop z (d ∷ ds) kids k full cut closed = absurd cut
  full_here (act e r) z (d ∷ ds) kids k full cut closed = act_bits z k d ds e cut.0 (full_here r z ds kids k full cut.1 (closed_act e r closed))
  full_here (child b w u r) z (d ∷ ds) kids k full cut closed =
      rw cut.0
      (⊎_elim
      (λ e. rw (eq-eqb z k e) (spawn_full b r (suc z) ds kids full.1 cut.4 closed.0))
      (λ ne. rw (ne_eqb z k ne) (full_here r (suc z) ds kids k full.1 cut.4 closed.2))
      (cases_eq z k))

  -- below a child of a full frame
  full_below : (r : Run W) (z : ℕ) (ds : List (Deed W)) (kids : ℕ → Frames W) (j : ℕ) (P : Frames W → Type 0) → IsFull r z ds kids → IsCut r z ds kids → IsClosed r → z ≤ j → ((u : Run W) (v : W) (t : Frames W) → IsStarted v t → IsFull u 1 (deeds_at (t [])) (below t) → IsCut u 1 (deeds_at (t [])) (below t) → IsClosed u → P t) → ((t : Frames W) → ((n : Name) → t n ≡ None) → P t) → P (kids j)
  full_below r z [] kids j P full cut closed le f g = g (kids j) (λ n. cut_none r z kids cut j le n)
  full_below stop z (d ∷ ds) kids j P full cut closed le f g = absurd cut
  full_below (act e r) z (d ∷ ds) kids j P full cut closed le f g = full_below r z ds kids j P full cut.1 (closed_act e r closed) le f g
  full_below (child b w u r) z (d ∷ ds) kids j P full cut closed le f g =
      ⊎_elim
      (λ e. subst (λ x. P (kids x)) e (f u w (kids z) cut.1 full.0 cut.2 closed.1))
      (λ ne. full_below r (suc z) ds kids j P full.1 cut.4 closed.2 (omega arith) f g)
      (cases_eq z j)

  spawned_none : (t : Frames W) (m : Name) → ((n : Name) → t n ≡ None) → spawned t m ≡ 0
  spawned_none t [] h = refl
  spawned_none t (k ∷ []) h = ap (λ z. spawned_at 1 k (deeds_at z)) (h [])
  spawned_none t (j ∷ k ∷ m) h = spawned_none (below t j) (k ∷ m) (λ n. h (j ∷ n))

  -- once a frame and all below it have made each of their events, each spawned child has been
  -- joined
  pub full_joined : (m : Name) (r : Run W) (w : W) (t : Frames W) → IsStarted w t → IsFull r 1 (deeds_at (t [])) (below t) → IsCut r 1 (deeds_at (t [])) (below t) → IsClosed r → joined t m ≡ spawned t m
  full_joined [] r w t begins full cut closed = refl
  full_joined (k ∷ []) r w t begins full cut closed = full_here r 1 (deeds_at (t [])) (below t) k full cut closed
  full_joined (zero ∷ k ∷ m) r w t begins full cut closed =
      joined_none (below t 0) (k ∷ m) (λ n. ap deeds_at (begins.1 n)) ∙ sym (spawned_none (below t 0) (k ∷ m) begins.1)
  full_joined (suc j ∷ k ∷ m) r w t begins full cut closed =
      full_below r 1 (deeds_at (t [])) (below t) (suc j) (λ x. joined x (k ∷ m) ≡ spawned x (k ∷ m)) full cut closed (omega arith)
      (λ u v x s a b c. full_joined (k ∷ m) u v x s a b c)
      (λ x h. joined_none x (k ∷ m) (λ n. ap deeds_at (h n)) ∙ sym (spawned_none x (k ∷ m) h))
