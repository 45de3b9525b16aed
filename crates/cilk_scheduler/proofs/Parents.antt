-- Frames outlive the children that they start, and run what was started under their names.
--
-- - `Came`, `came`, `there_then`: which frames are there after one more deed;
-- - `split_more`, `no_sync_more`, `same_split`: one more deed, and the deed that started a child;
-- - `named_invoke`, `names_are_kept`: what frames run;
-- - `own_more`, `made`, `stolen_then`: children after an event, and after a steal;
-- - `parents_outlive`: the law.
use Rattle.std.proofs.Common.{◌≡◌, ◌⊎◌, inl, inr, ⊎_elim, ◌≤◌, ℕ, suc, Bool, true, false, true≢false, cond, ℤ, List, [], ◌∷◌, ◌++◌, Option, Some, None, refl, sym, ap, ap₂, ◌∙◌, subst, append_assoc, arith}
use Rattle.std.proofs.lemmas.List.{append-nil}
use Rattle.cilk_types.specs.declared.invocation.Invocation.{Invocation}
use Rattle.cilk_types.specs.declared.invocation.Invocation.TheVariants.{Spawn}
use Rattle.cilk_program.specs.declared.ask.Ask as language
use Rattle.cilk_program.specs.declared.ask.Ask.TheVariants as asks
use Rattle.cilk_program.specs.declared.ask.Callee.{Callee}
use Rattle.cilk_program.specs.Syntax.{Source}
use Rattle.cilk_determinacy.specs.Machine.{Frame, Frames, State, Stop, Makes, Steals, Steps, after_deed, begun, deed_of, deeds_at, started}
use Rattle.cilk_determinacy.specs.Monoids.{numbers_of}
use Rattle.cilk_determinacy.specs.Progress.{Answers, AfterChild, AfterEvent, AfterSteal, AtBegin, GoesOn, HasEnded, HasNoSync, MayAsk, child_after}
use Rattle.cilk_determinacy.specs.Runs.{Name, same_name, Cell, Instance, Ask, Read, Write, Invoke, Sync, End, Pass, Fail, Syncs, Deed, Does, Invokes}
use Rattle.cilk_determinacy.proofs.Basics.{nil_snoc, same_name-refl, same_name-eq, snoc_one}
use Rattle.cilk_determinacy.proofs.Progress.{progress}
use Rattle.cilk_determinacy.specs.FrameEnvMachine.{asked_after, costs, has_ended, is_end, named_ask, next}
use Rattle.cilk_determinacy.specs.Reducers.{View, monoid_of}
use Rattle.cilk_determinacy.specs.Steps.{IsFirst, Next, OneStep}
use Rattle.cilk_determinacy.specs.FrameEnvs.{FrameEnv, Sight, child_env, first_env, env_of}
use Rattle.cilk_determinacy.proofs.Histories.{ended_more}
use Rattle.cilk_scheduler.specs.Histories.{AreAnswered, DidAsAsked, IsAnswered}
use Rattle.cilk_scheduler.specs.Ordinals.{AreCounted}
use Rattle.cilk_scheduler.specs.Parents.{AreStarted, ChildrenAreNamed, GoesBeside, NamesAreKept, OutliveChildren, ParentsOutlive}
use Rattle.cilk_scheduler.proofs.Carries.{ended_on}
use Rattle.cilk_scheduler.proofs.Histories.{does_as_asked}
use Rattle.cilk_scheduler.proofs.Onward.{name_off}
use Rattle.cilk_scheduler.proofs.Ordinals.{children_are_counted, next_is_none}
use Rattle.cilk_scheduler.proofs.Stages.{synced_before_end}
use Rattle.cilk_scheduler.proofs.Thieves.{snoc_name}
use Rattle.cilk_scheduler.proofs.Under.{last_of, more_started, none_after}

-- ---- frames after one more deed

-- a frame is there then: it was, or it is the one with the deed, or the child that this starts
pub data Came (frames : Frames FrameEnv) (n : Name) (f : Frame FrameEnv) (d : Deed FrameEnv) (m : Name) (g : Frame FrameEnv) : Type 0 where
  stays : frames m ≡ Some g → Came frames n f d m g
  does_more : n ≡ m → g ≡ record f { deeds = f.deeds ++ d ∷ [] } → Came frames n f d m g
  starts : (how : Invocation) (what : FrameEnv) → d ≡ Invokes how what → n ++ suc (started f.deeds) ∷ [] ≡ m → g ≡ begun what → Came frames n f d m g

came_own : (frames : Frames FrameEnv) (n : Name) (f : Frame FrameEnv) (d : Deed FrameEnv) (m : Name) (g : Frame FrameEnv) (t : Bool) → same_name n m ≡ t → cond t (Some (record f { deeds = f.deeds ++ d ∷ [] })) (frames m) ≡ Some g → Came frames n f d m g
came_own frames n f d m g true e at = does_more (same_name-eq n m e) (let same : record f { deeds = f.deeds ++ d ∷ [] } ≡ g = cc in sym same)
came_own frames n f d m g false e at = stays at

pub came : (frames : Frames FrameEnv) (n : Name) (f : Frame FrameEnv) (d : Deed FrameEnv) (m : Name) (g : Frame FrameEnv) → after_deed frames n f d m ≡ Some g → Came frames n f d m g
came frames n f (Does e) m g at = came_own frames n f (Does e) m g (same_name n m) refl at
came frames n f (Invokes how w) m g at = by (same_name (n ++ suc (started f.deeds) ∷ []) m) refl at
  where
    by : (t : Bool) → same_name (n ++ suc (started f.deeds) ∷ []) m ≡ t → cond t (Some (begun w)) (cond (same_name n m) (Some (record f { deeds = f.deeds ++ Invokes how w ∷ [] })) (frames m)) ≡ Some g → Came frames n f (Invokes how w) m g
    by true e at = starts how w refl (same_name-eq (n ++ suc (started f.deeds) ∷ []) m e) (let same : begun w ≡ g = cc in sym same)
    by false e at = came_own frames n f (Invokes how w) m g (same_name n m) refl at

own_then : (frames : Frames FrameEnv) (n : Name) (x g : Frame FrameEnv) (m : Name) (t : Bool) → frames m ≡ Some g → (y : Frame FrameEnv) × (cond t (Some x) (frames m) ≡ Some y)
own_then frames n x g m true at = (x, refl)
own_then frames n x g m false at = (g, at)

-- a frame stays
pub there_then : (frames : Frames FrameEnv) (n : Name) (f : Frame FrameEnv) (d : Deed FrameEnv) (m : Name) (g : Frame FrameEnv) → frames m ≡ Some g → (y : Frame FrameEnv) × (after_deed frames n f d m ≡ Some y)
there_then frames n f (Does e) m g at = own_then frames n (record f { deeds = f.deeds ++ Does e ∷ [] }) g m (same_name n m) at
there_then frames n f (Invokes how w) m g at = by (same_name (n ++ suc (started f.deeds) ∷ []) m) (own_then frames n (record f { deeds = f.deeds ++ Invokes how w ∷ [] }) g m (same_name n m) at)
  where
    by : (t : Bool) → (y : Frame FrameEnv) × (cond (same_name n m) (Some (record f { deeds = f.deeds ++ Invokes how w ∷ [] })) (frames m) ≡ Some y)
        → (y : Frame FrameEnv) × (cond t (Some (begun w)) (cond (same_name n m) (Some (record f { deeds = f.deeds ++ Invokes how w ∷ [] })) (frames m)) ≡ Some y)
    by true r = (begun w, refl)
    by false r = r

-- a frame that had ended stays so
ended_then : (frames : Frames FrameEnv) (n : Name) (f : Frame FrameEnv) (d : Deed FrameEnv) (m : Name) → frames n ≡ Some f → has_ended f.deeds ≡ false → frames (n ++ suc (started f.deeds) ∷ []) ≡ None → has_ended (deeds_at (frames m)) ≡ true
    → has_ended (deeds_at (after_deed frames n f d m)) ≡ true
ended_then frames n f d m here going fresh is = by d
  where
    off : n ≡ m → ⊥
    off e = true≢false (sym is ∙ ap (λ z. has_ended (deeds_at (frames z))) (sym e) ∙ ap (λ x. has_ended (deeds_at x)) here ∙ going)

    off_kid : n ++ suc (started f.deeds) ∷ [] ≡ m → ⊥
    off_kid e = true≢false (sym is ∙ ap (λ z. has_ended (deeds_at (frames z))) (sym e) ∙ ap (λ x. has_ended (deeds_at x)) fresh)

    by : (x : Deed FrameEnv) → has_ended (deeds_at (after_deed frames n f x m)) ≡ true
    by (Does e) = ap (λ t. has_ended (deeds_at (cond t (Some (record f { deeds = f.deeds ++ Does e ∷ [] })) (frames m)))) (name_off n m off) ∙ is
    by (Invokes how w) =
        ap₂ (λ t u. has_ended (deeds_at (cond t (Some (begun w)) (cond u (Some (record f { deeds = f.deeds ++ Invokes how w ∷ [] })) (frames m))))) (name_off (n ++ suc (started f.deeds) ∷ []) m off_kid) (name_off n m off) ∙ is

kid_then : (frames : Frames FrameEnv) (n : Name) (f : Frame FrameEnv) (how : Invocation) (w : FrameEnv) → after_deed frames n f (Invokes how w) (n ++ suc (started f.deeds) ∷ []) ≡ Some (begun w)
kid_then frames n f how w = ap (λ t. cond t (Some (begun w)) (cond (same_name n (n ++ suc (started f.deeds) ∷ [])) (Some (record f { deeds = f.deeds ++ Invokes how w ∷ [] })) (frames (n ++ suc (started f.deeds) ∷ [])))) (same_name-refl (n ++ suc (started f.deeds) ∷ []))

-- ---- deeds

-- the deed that started a child is the last one, or an earlier one
pub split_more : (ds : List (Deed FrameEnv)) (d : Deed FrameEnv) (before : List (Deed FrameEnv)) (how : Invocation) (what : FrameEnv) (after : List (Deed FrameEnv)) → ds ++ d ∷ [] ≡ before ++ Invokes how what ∷ after
    → ((after ≡ []) × (ds ≡ before) × (d ≡ Invokes how what)) ⊎ ((xs : List (Deed FrameEnv)) × (after ≡ xs ++ d ∷ []) × (ds ≡ before ++ Invokes how what ∷ xs))
split_more ds d before how what after e = ⊎_elim last earlier (last_of after)
  where
    last : after ≡ [] → ((after ≡ []) × (ds ≡ before) × (d ≡ Invokes how what)) ⊎ ((xs : List (Deed FrameEnv)) × (after ≡ xs ++ d ∷ []) × (ds ≡ before ++ Invokes how what ∷ xs))
    last q = let r = snoc_one ds before d (Invokes how what) (e ∙ ap (λ l. before ++ Invokes how what ∷ l) q) in inl (q, r.0, r.1)

    earlier : (xs : List (Deed FrameEnv)) × (x : Deed FrameEnv) × (after ≡ xs ++ x ∷ []) → ((after ≡ []) × (ds ≡ before) × (d ≡ Invokes how what)) ⊎ ((xs : List (Deed FrameEnv)) × (after ≡ xs ++ d ∷ []) × (ds ≡ before ++ Invokes how what ∷ xs))
    earlier y =
        let r = snoc_one ds (before ++ Invokes how what ∷ y.0) d y.1 (e ∙ ap (λ l. before ++ Invokes how what ∷ l) y.2 ∙ sym (append_assoc before (Invokes how what ∷ y.0) (y.1 ∷ []))) in
        inr (y.0, y.2 ∙ ap (λ z. y.0 ++ z ∷ []) (sym r.1), r.0)

no_sync_more : (xs : List (Deed FrameEnv)) (d : Deed FrameEnv) → HasNoSync xs → (d ≡ Does Syncs → ⊥) → HasNoSync (xs ++ d ∷ [])
no_sync_more xs d none other before after e = ⊎_elim last earlier (last_of after)
  where
    last : after ≡ [] → ⊥
    last q = let r = snoc_one xs before d (Does Syncs) (e ∙ ap (λ l. before ++ Does Syncs ∷ l) q) in other r.1

    earlier : (ys : List (Deed FrameEnv)) × (y : Deed FrameEnv) × (after ≡ ys ++ y ∷ []) → ⊥
    earlier y =
        let r = snoc_one xs (before ++ Does Syncs ∷ y.0) d y.1 (e ∙ ap (λ l. before ++ Does Syncs ∷ l) y.2 ∙ sym (append_assoc before (Does Syncs ∷ y.0) (y.1 ∷ []))) in
        none before y.0 r.0

-- an ordinal has one deed
same_split : (xs before : List (Deed FrameEnv)) (how : Invocation) (what : FrameEnv) (ys : List (Deed FrameEnv)) (x : FrameEnv) → xs ++ Invokes how what ∷ ys ≡ before ++ Invokes Spawn x ∷ [] → started xs ≡ started before → how ≡ Spawn
same_split xs before how what ys x e q = ⊎_elim last earlier (last_of ys)
  where
    last : ys ≡ [] → how ≡ Spawn
    last z =
        let r = snoc_one xs before (Invokes how what) (Invokes Spawn x) (sym (ap (λ l. xs ++ Invokes how what ∷ l) z) ∙ e) in
        let same : Invokes how what ≡ Invokes Spawn x = r.1 in
        cc

    earlier : (zs : List (Deed FrameEnv)) × (z : Deed FrameEnv) × (ys ≡ zs ++ z ∷ []) → how ≡ Spawn
    earlier z =
        let r = snoc_one (xs ++ Invokes how what ∷ z.0) before z.1 (Invokes Spawn x) (append_assoc xs (Invokes how what ∷ z.0) (z.1 ∷ []) ∙ sym (ap (λ l. xs ++ Invokes how what ∷ l) z.2) ∙ e) in
        let most : suc (started xs) ≤ started before = subst (λ l. suc (started xs) ≤ started l) r.0 (more_started xs how what z.0) in
        absurd (omega (arith, most, q))

no_deeds : (before : List (Deed FrameEnv)) (d : Deed FrameEnv) (after : List (Deed FrameEnv)) → [] ≡ before ++ d ∷ after → ⊥
no_deeds [] d after e = let z : [] ≡ d ∷ after = e in cc
no_deeds (b ∷ before) d after e = let z : [] ≡ b ∷ (before ++ d ∷ after) = e in cc

-- a request is a sync, an end, or neither
data AskIs (memory : Cell → ℤ) (number : Instance → ℤ) (a : Ask FrameEnv) : Type 0 where
  is_sync : a ≡ Sync → AskIs memory number a
  is_ending : (v : ℤ) (gone : List Instance) → a ≡ End v gone → AskIs memory number a
  is_other : is_end (deed_of memory number a) ≡ false → (deed_of memory number a ≡ Does Syncs → ⊥) → AskIs memory number a

ask_is : (memory : Cell → ℤ) (number : Instance → ℤ) (a : Ask FrameEnv) → AskIs memory number a
ask_is memory number (Read c) = is_other refl (λ q. cc)
ask_is memory number (Write c v) = is_other refl (λ q. cc)
ask_is memory number (Invoke k w) = is_other refl (λ q. cc)
ask_is memory number Sync = is_sync refl
ask_is memory number (End v gone) = is_ending v gone refl
ask_is memory number (Pass m) = is_other refl (λ q. cc)
ask_is memory number (Fail f) = is_other refl (λ q. cc)

invokes_asked : (memory : Cell → ℤ) (number : Instance → ℤ) (a : Ask FrameEnv) (how : Invocation) (what : FrameEnv) → deed_of memory number a ≡ Invokes how what → a ≡ Invoke how what
invokes_asked memory number (Read c) how what q = let f : ⊥ = cc in absurd f
invokes_asked memory number (Write c v) how what q = let f : ⊥ = cc in absurd f
invokes_asked memory number (Invoke k w) how what q = let z : Invokes k w ≡ Invokes how what = q in cc
invokes_asked memory number Sync how what q = let f : ⊥ = cc in absurd f
invokes_asked memory number (End v gone) how what q = let f : ⊥ = cc in absurd f
invokes_asked memory number (Pass m) how what q = let f : ⊥ = cc in absurd f
invokes_asked memory number (Fail x) how what q = let f : ⊥ = cc in absurd f

-- what an invocation starts, by name
named_invoke : (p : Source) (w : FrameEnv) (j : ℕ) (k : language.Ask) (how : Invocation) (what : FrameEnv) → named_ask p w j k ≡ Invoke how what → (callee : Callee) × (what ≡ child_env p w j callee)
named_invoke p w j asks.Begin how what q = let f : ⊥ = cc in absurd f
named_invoke p w j (asks.Read x) how what q = let f : ⊥ = cc in absurd f
named_invoke p w j (asks.Write x v) how what q = let f : ⊥ = cc in absurd f
named_invoke p w j (asks.Create r) how what q = let f : ⊥ = cc in absurd f
named_invoke p w j (asks.Update r v) how what q = let f : ⊥ = cc in absurd f
named_invoke p w j (asks.Set r v) how what q = let f : ⊥ = cc in absurd f
named_invoke p w j (asks.Value r) how what q = let f : ⊥ = cc in absurd f
named_invoke p w j (asks.Print v) how what q = let f : ⊥ = cc in absurd f
named_invoke p w j (asks.Invoke h callee) how what q = let z : Invoke h (child_env p w j callee) ≡ Invoke how what = q in (callee, (let e : child_env p w j callee ≡ what = cc in sym e))
named_invoke p w j asks.Resume how what q = let f : ⊥ = cc in absurd f
named_invoke p w j asks.Sync how what q = let f : ⊥ = cc in absurd f
named_invoke p w j (asks.Result v) how what q = let f : ⊥ = cc in absurd f
named_invoke p w j (asks.End v) how what q = let f : ⊥ = cc in absurd f
named_invoke p w j (asks.Fault x) how what q = let f : ⊥ = cc in absurd f

module _ (p : Source) (inputs : List ℤ) where
  -- a frame that requests this hasn't ended
  next_goes : (w : FrameEnv) (ds : List (Deed FrameEnv)) (a : Ask FrameEnv) → next p inputs w ds ≡ Some a → (has_ended ds ≡ false) × ((k : language.Ask) × (named_ask p w (suc (started ds)) k ≡ a))
  next_goes w ds a = by (has_ended ds)
    where
      by : (t : Bool) → cond t None (Some (named_ask p w (suc (started ds)) (let q = asked_after p inputs w ds in q.ask))) ≡ Some a → (t ≡ false) × ((k : language.Ask) × (named_ask p w (suc (started ds)) k ≡ a))
      by true q = let no : None ≡ Some a = q in let f : ⊥ = cc in absurd f
      by false q = (refl, ((let q = asked_after p inputs w ds in q.ask), (let z : Some (named_ask p w (suc (started ds)) (let q = asked_after p inputs w ds in q.ask)) ≡ Some a = q in cc)))

  -- ---- names

  names_open : (s : State FrameEnv View) → IsFirst p inputs s → AreStarted p s
  names_open s o [] f q =
      let z : Some (begun (first_env p)) ≡ Some f = sym (o.0 []) ∙ q in
      let same : begun (first_env p) ≡ f = cc in
      subst (λ (g : Frame FrameEnv). (sight : Sight) × (let w = g.what in w ≡ env_of p [] sight w.callee)) same ([], refl)
  names_open s o (j ∷ n) f q = let no : None ≡ Some f = sym (o.0 (j ∷ n)) ∙ q in let z : ⊥ = cc in absurd z

  names_keep : (s s' : State FrameEnv View) (n : Name) → AreStarted p s → OneStep p inputs s n s' → AreStarted p s'
  names_keep s s' n h step = ⊎_elim made (λ o. ⊎_elim (λ t. by t.frames) (λ t. by (ap (λ (z : State FrameEnv View). z.frames) t.after)) o) step.1
    where
      by : s'.frames ≡ s.frames → AreStarted p s'
      by same m g q = h m g (sym (ap (λ (t : Frames FrameEnv). t m) same) ∙ q)

      made : Makes FrameEnv View monoid_of (Next p inputs) (costs p inputs) s n s' → AreStarted p s'
      made t m g q = on (came s.frames n t.frame (deed_of s.memory (numbers_of monoid_of (s.piece n)) t.ask) m g (sym (ap (λ (z : Frames FrameEnv). z m) t.frames) ∙ q))
        where
          a : (sight : Sight) × (let f = t.frame in let w = f.what in w ≡ env_of p n sight w.callee)
          a = let x = t.asking in h n t.frame x.here

          on : Came s.frames n t.frame (deed_of s.memory (numbers_of monoid_of (s.piece n)) t.ask) m g → (sight : Sight) × (let w = g.what in w ≡ env_of p m sight w.callee)
          on (stays e) = h m g e
          on (does_more same is) =
              subst (λ z. (sight : Sight) × (let w = g.what in w ≡ env_of p z sight w.callee)) same
              (subst (λ (x : Frame FrameEnv). (sight : Sight) × (let w = x.what in w ≡ env_of p n sight w.callee)) (sym is) a)
          on (starts how what e at is) =
              let f = t.frame in
              let x = t.asking in
              let asked = invokes_asked s.memory (numbers_of monoid_of (s.piece n)) t.ask how what e in
              let r = next_goes f.what f.deeds t.ask x.next in
              let y = r.1 in
              let c = named_invoke p f.what (suc (started f.deeds)) y.0 how what (y.1 ∙ asked) in
              let w = f.what in
              let its_name : w.name ≡ n = ap (λ (z : FrameEnv). z.name) a.1 in
              let kid : what ≡ env_of p (n ++ suc (started f.deeds) ∷ []) w.sight c.0 = c.1 ∙ ap (λ z. env_of p (z ++ suc (started f.deeds) ∷ []) w.sight c.0) its_name in
              subst (λ z. (sight : Sight) × (let w = g.what in w ≡ env_of p z sight w.callee)) at
              (subst (λ (x : Frame FrameEnv). (sight : Sight) × (let w = x.what in w ≡ env_of p (n ++ suc (started f.deeds) ∷ []) sight w.callee)) (sym is)
              (w.sight, kid ∙ ap (λ z. env_of p (n ++ suc (started f.deeds) ∷ []) w.sight z) (sym (ap (λ (z : FrameEnv). z.callee) kid))))

  -- a deed after others answers the request after them
  answered_behind : (w : FrameEnv) (past before : List (Deed FrameEnv)) (d : Deed FrameEnv) (after : List (Deed FrameEnv)) → AreAnswered p inputs w past (before ++ d ∷ after) → IsAnswered p inputs w (past ++ before) d
  answered_behind w past [] d after h = subst (λ l. IsAnswered p inputs w l d) (sym (append-nil past)) h.0
  answered_behind w past (e ∷ before) d after h = subst (λ l. IsAnswered p inputs w l d) (append_assoc past (e ∷ []) before) (answered_behind w (past ++ e ∷ []) before d after h.1)

  invokes_answers : (a : Ask FrameEnv) (how : Invocation) (what : FrameEnv) → Answers (Invokes how what) a → a ≡ Invoke how what
  invokes_answers a how what h = h

  children_named : (s : State FrameEnv View) → DidAsAsked p inputs s → AreStarted p s → ChildrenAreNamed s
  children_named s asked names m f before how what after here deeds =
      let g = answered_behind f.what [] before (Invokes how what) after (subst (λ l. AreAnswered p inputs f.what [] l) deeds (asked m f here)) in
      let r = next_goes f.what before g.0 g.1 in
      let y = r.1 in
      let c = named_invoke p f.what (suc (started before)) y.0 how what (y.1 ∙ invokes_answers g.0 how what g.2) in
      let a = names m f here in
      ap (λ (z : FrameEnv). z.name) c.1 ∙ ap (λ z. z ++ suc (started before) ∷ []) (ap (λ (z : FrameEnv). z.name) a.1)

  pub names_are_kept : NamesAreKept p inputs
  names_are_kept = record { opens = names_open; keeps = names_keep; reached = λ ns s r. steps_so ns r.0 s (names_open r.0 r.1) r.2; children = children_named }
    where
      steps_so : (ns : List Name) (s s' : State FrameEnv View) → AreStarted p s → Steps FrameEnv View monoid_of (Next p inputs) (costs p inputs) ns s s' → AreStarted p s'
      steps_so [] s s' h e = subst (AreStarted p) (sym e) h
      steps_so (n ∷ ns) s s' h (mid, one, rest) = steps_so ns mid s' (names_keep s mid n h one) rest

  -- ---- children

  children_open : (s : State FrameEnv View) → IsFirst p inputs s → OutliveChildren s
  children_open s o = record {
    outlive = λ m f before how what after here e. absurd (nothing m f (Invokes how what) before after here e);
    spawned = λ m f before how what after here e. absurd (nothing m f (Invokes how what) before after here e);
    unstolen = λ n none. o.4 n;
    present = λ m f before how what after here e. absurd (nothing m f (Invokes how what) before after here e);
    counted = (let c = children_are_counted p inputs in c.opens s o);
  }
    where
      nothing : (m : Name) (f : Frame FrameEnv) (d : Deed FrameEnv) (before after : List (Deed FrameEnv)) → s.frames m ≡ Some f → f.deeds ≡ before ++ d ∷ after → ⊥
      nothing [] f d before after here e =
          let z : Some (begun (first_env p)) ≡ Some f = sym (o.0 []) ∙ here in
          let same : begun (first_env p) ≡ f = cc in
          no_deeds before d after (ap (λ (g : Frame FrameEnv). g.deeds) same ∙ e)
      nothing (j ∷ m) f d before after here e = let no : None ≡ Some f = sym (o.0 (j ∷ m)) ∙ here in cc

  module _ (s s' : State FrameEnv View) (n : Name) (asked : DidAsAsked p inputs s) (o : OutliveChildren s) (m : Makes FrameEnv View monoid_of (Next p inputs) (costs p inputs) s n s') where
    abbrev frame : Frame FrameEnv
    frame = m.frame

    abbrev deed : Deed FrameEnv
    deed = deed_of s.memory (numbers_of monoid_of (s.piece n)) m.ask

    abbrev longer_frame : Frame FrameEnv
    longer_frame = let f = m.frame in record f { deeds = f.deeds ++ deed_of s.memory (numbers_of monoid_of (s.piece n)) m.ask ∷ [] }

    here : s.frames n ≡ Some frame
    here = let a = m.asking in a.here

    going : has_ended frame.deeds ≡ false
    going = let a = m.asking in let r = next_goes frame.what frame.deeds m.ask a.next in r.0

    fresh : s.frames (n ++ suc (started frame.deeds) ∷ []) ≡ None
    fresh = next_is_none s.frames n frame o.counted here

    may : MayAsk FrameEnv View monoid_of (Next p inputs) (costs p inputs) s n frame m.ask
    may = let P = progress FrameEnv View monoid_of (Next p inputs) (costs p inputs) in P.exact s n frame m.ask m.asking

    ends : (z : Name) → has_ended (deeds_at (s.frames z)) ≡ true → has_ended (deeds_at (s'.frames z)) ≡ true
    ends z is = ap (λ (t : Frames FrameEnv). has_ended (deeds_at (t z))) m.frames ∙ ended_then s.frames n frame deed z here going fresh is

    flag_same : (z : Name) → s'.stolen z ≡ s.stolen z
    flag_same z = ap (λ l. l z) m.stolen

    there : (z : Name) (g : Frame FrameEnv) → s.frames z ≡ Some g → (y : Frame FrameEnv) × (s'.frames z ≡ Some y)
    there z g at = let r = there_then s.frames n frame deed z g at in (r.0, ap (λ (t : Frames FrameEnv). t z) m.frames ∙ r.1)

    none_before : (z : Name) → s'.frames z ≡ None → s.frames z ≡ None
    none_before z none = by (s.frames z) refl
      where
        by : (found : Option (Frame FrameEnv)) → s.frames z ≡ found → s.frames z ≡ None
        by None e = e
        by (Some g) e = let r = there z g e in let no : None ≡ Some r.0 = sym none ∙ r.1 in let f : ⊥ = cc in absurd f

    abbrev Since : List (Deed FrameEnv) → Invocation → List (Deed FrameEnv) → Type 0
    Since before how xs = HasEnded FrameEnv View s (child_after n before) ⊎ ((how ≡ Spawn) × HasNoSync xs × (s.stolen (child_after n before) ≡ true))

    -- the frame went on beside its last child
    since_now : (before : List (Deed FrameEnv)) (how : Invocation) (what : FrameEnv) (xs : List (Deed FrameEnv)) → frame.deeds ≡ before ++ Invokes how what ∷ xs → GoesBeside s n frame before how xs → Since before how xs
    since_now before how what xs e b = ⊎_elim (λ none. last none (let y = may in y.goes_on)) (λ y. inr y) b.since
      where
        last : xs ≡ [] → GoesOn FrameEnv View s n frame.deeds → Since before how xs
        last none (AtBegin q) = nil_snoc before (Invokes how what) (sym q ∙ e ∙ ap (λ l. before ++ Invokes how what ∷ l) none)
        last none (AfterEvent b1 x q) =
            let r = snoc_one before b1 (Invokes how what) (Does x) (sym (e ∙ ap (λ l. before ++ Invokes how what ∷ l) none) ∙ q) in
            let z : Invokes how what ≡ Does x = r.1 in
            let f : ⊥ = cc in
            absurd f
        last none (AfterChild b1 kind x q ended) =
            let r = snoc_one before b1 (Invokes how what) (Invokes kind x) (sym (e ∙ ap (λ l. before ++ Invokes how what ∷ l) none) ∙ q) in
            inl (subst (λ l. HasEnded FrameEnv View s (child_after n l)) (sym r.0) ended)
        last none (AfterSteal b1 x q flag) =
            let r = snoc_one before b1 (Invokes how what) (Invokes Spawn x) (sym (e ∙ ap (λ l. before ++ Invokes how what ∷ l) none) ∙ q) in
            let z : Invokes how what ≡ Invokes Spawn x = r.1 in
            let is : how ≡ Spawn = cc in
            inr (is, subst (λ l. HasNoSync l) (sym none) none_after, subst (λ l. s.stolen (child_after n l) ≡ true) (sym r.0) flag)

    own_more : (before : List (Deed FrameEnv)) (how : Invocation) (what : FrameEnv) (xs : List (Deed FrameEnv)) → frame.deeds ≡ before ++ Invokes how what ∷ xs → HasEnded FrameEnv View s' (child_after n before) ⊎ GoesBeside s' n longer_frame before how (xs ++ deed ∷ [])
    own_more before how what xs e =
        ⊎_elim (λ x. inl (ended_on s s' ends (child_after n before) x)) (λ b. ⊎_elim (λ x. inl (ended_on s s' ends (child_after n before) x)) beside (since_now before how what xs e b))
        (o.outlive n frame before how what xs here e)
      where
        beside : (how ≡ Spawn) × HasNoSync xs × (s.stolen (child_after n before) ≡ true) → HasEnded FrameEnv View s' (child_after n before) ⊎ GoesBeside s' n longer_frame before how (xs ++ deed ∷ [])
        beside y = by (ask_is s.memory (numbers_of monoid_of (s.piece n)) m.ask)
          where
            by : AskIs s.memory (numbers_of monoid_of (s.piece n)) m.ask → HasEnded FrameEnv View s' (child_after n before) ⊎ GoesBeside s' n longer_frame before how (xs ++ deed ∷ [])
            by (is_sync q) = let z = may in inl (ended_on s s' ends (child_after n before) (z.block q before xs what (e ∙ ap (λ x. before ++ Invokes x what ∷ xs) y.0) y.1))
            by (is_ending v gone q) =
                let a = m.asking in
                absurd (synced_before_end p inputs frame.what frame.deeds v gone (asked n frame here) going (subst (λ x. next p inputs frame.what frame.deeds ≡ Some x) q a.next) before how what xs e y.1)
            by (is_other last other) = inr (record { goes = ended_more frame.deeds deed going ∙ last; since = inr (y.0, no_sync_more xs deed y.1 other, flag_same (child_after n before) ∙ y.2) })

    came_as : (z : Name) (g : Frame FrameEnv) → s'.frames z ≡ Some g → Came s.frames n frame deed z g
    came_as z g at = came s.frames n frame deed z g (sym (ap (λ (t : Frames FrameEnv). t z) m.frames) ∙ at)

    beside_on : (z : Name) (g : Frame FrameEnv) (before : List (Deed FrameEnv)) (how : Invocation) (after : List (Deed FrameEnv)) → GoesBeside s z g before how after → GoesBeside s' z g before how after
    beside_on z g before how after b = record { goes = b.goes; since = ⊎_elim (λ y. inl y) (λ y. inr (y.0, y.1, flag_same (child_after z before) ∙ y.2)) b.since }

    -- a deed that starts a child doesn't end the frame
    not_end : (d : Deed FrameEnv) (how : Invocation) (what : FrameEnv) → d ≡ Invokes how what → is_end d ≡ false
    not_end d how what e = ap is_end e

    outlive_then : (z : Name) (g : Frame FrameEnv) (before : List (Deed FrameEnv)) (how : Invocation) (what : FrameEnv) (after : List (Deed FrameEnv)) → s'.frames z ≡ Some g → g.deeds ≡ before ++ Invokes how what ∷ after
        → HasEnded FrameEnv View s' (child_after z before) ⊎ GoesBeside s' z g before how after
    outlive_then z g before how what after at e = by (came_as z g at)
      where
        by : Came s.frames n frame deed z g → HasEnded FrameEnv View s' (child_after z before) ⊎ GoesBeside s' z g before how after
        by (stays q) = ⊎_elim (λ x. inl (ended_on s s' ends (child_after z before) x)) (λ b. inr (beside_on z g before how after b)) (o.outlive z g before how what after q e)
        by (starts h w q is new) = absurd (no_deeds before (Invokes how what) after (ap (λ (x : Frame FrameEnv). x.deeds) (sym new) ∙ e))
        by (does_more same is) =
            subst (λ y. HasEnded FrameEnv View s' (child_after y before) ⊎ GoesBeside s' y g before how after) same
            (subst (λ y. HasEnded FrameEnv View s' (child_after n before) ⊎ GoesBeside s' n y before how after) (sym is)
            (⊎_elim
            (λ y. inr (record { goes = ended_more frame.deeds deed going ∙ not_end deed how what y.2; since = inl y.0 }))
            (λ y. subst (λ l. HasEnded FrameEnv View s' (child_after n before) ⊎ GoesBeside s' n longer_frame before how l) (sym y.1) (own_more before how what y.0 y.2))
            (split_more frame.deeds deed before how what after (ap (λ (x : Frame FrameEnv). x.deeds) (sym is) ∙ e))))

    spawned_then : (z : Name) (g : Frame FrameEnv) (before : List (Deed FrameEnv)) (how : Invocation) (what : FrameEnv) (after : List (Deed FrameEnv)) → s'.frames z ≡ Some g → g.deeds ≡ before ++ Invokes how what ∷ after → s'.stolen (child_after z before) ≡ true → how ≡ Spawn
    spawned_then z g before how what after at e flag = by (came_as z g at)
      where
        by : Came s.frames n frame deed z g → how ≡ Spawn
        by (stays q) = o.spawned z g before how what after q e (sym (flag_same (child_after z before)) ∙ flag)
        by (starts h w q is new) = absurd (no_deeds before (Invokes how what) after (ap (λ (x : Frame FrameEnv). x.deeds) (sym new) ∙ e))
        by (does_more same is) =
            let was : s.stolen (child_after n before) ≡ true = ap (λ y. s.stolen (child_after y before)) same ∙ sym (flag_same (child_after z before)) ∙ flag in
            ⊎_elim (λ y. absurd (true≢false (sym was ∙ o.unstolen (child_after n before) (ap (λ l. s.frames (child_after n l)) (sym y.1) ∙ fresh)))) (λ y. o.spawned n frame before how what y.0 here y.2 was)
            (split_more frame.deeds deed before how what after (ap (λ (x : Frame FrameEnv). x.deeds) (sym is) ∙ e))

    present_then : (z : Name) (g : Frame FrameEnv) (before : List (Deed FrameEnv)) (how : Invocation) (what : FrameEnv) (after : List (Deed FrameEnv)) → s'.frames z ≡ Some g → g.deeds ≡ before ++ Invokes how what ∷ after → (y : Frame FrameEnv) × (s'.frames (child_after z before) ≡ Some y)
    present_then z g before how what after at e = by (came_as z g at)
      where
        by : Came s.frames n frame deed z g → (y : Frame FrameEnv) × (s'.frames (child_after z before) ≡ Some y)
        by (stays q) = let r = o.present z g before how what after q e in there (child_after z before) r.0 r.1
        by (starts h w q is new) = absurd (no_deeds before (Invokes how what) after (ap (λ (x : Frame FrameEnv). x.deeds) (sym new) ∙ e))
        by (does_more same is) =
            subst (λ x. (y : Frame FrameEnv) × (s'.frames (child_after x before) ≡ Some y)) same
            (⊎_elim
            (λ y. (begun what, ap (λ (t : Frames FrameEnv). t (child_after n before)) m.frames ∙ ap₂ (λ x l. after_deed s.frames n frame x (child_after n l)) y.2 (sym y.1) ∙ kid_then s.frames n frame how what))
            (λ y. let r = o.present n frame before how what y.0 here y.2 in there (child_after n before) r.0 r.1)
            (split_more frame.deeds deed before how what after (ap (λ (x : Frame FrameEnv). x.deeds) (sym is) ∙ e)))

  -- ---- a steal

  module _ (s s' : State FrameEnv View) (n : Name) (o : OutliveChildren s) (t : Steals FrameEnv View monoid_of (Next p inputs) (costs p inputs) s n s') where
    abbrev kid : Name
    kid = n ++ suc (started t.before) ∷ []

    back : (z : Name) (g : Frame FrameEnv) → s'.frames z ≡ Some g → s.frames z ≡ Some g
    back z g at = ap (λ (f : Frames FrameEnv). f z) (sym t.frames) ∙ at

    flag_at : (z : Name) → s'.stolen z ≡ cond (same_name kid z) true (s.stolen z)
    flag_at z = ap (λ l. l z) t.stolen

    flag_on : (z : Name) → s.stolen z ≡ true → s'.stolen z ≡ true
    flag_on z is = flag_at z ∙ by (same_name kid z)
      where
        by : (b : Bool) → cond b true (s.stolen z) ≡ true
        by true = refl
        by false = is

    ends_on : (z : Name) → has_ended (deeds_at (s.frames z)) ≡ true → has_ended (deeds_at (s'.frames z)) ≡ true
    ends_on z is = ap (λ (f : Frames FrameEnv). has_ended (deeds_at (f z))) t.frames ∙ is

    stolen_then : (z : Name) (g : Frame FrameEnv) (before : List (Deed FrameEnv)) (how : Invocation) (what : FrameEnv) (after : List (Deed FrameEnv)) → s'.frames z ≡ Some g → g.deeds ≡ before ++ Invokes how what ∷ after → s'.stolen (child_after z before) ≡ true → how ≡ Spawn
    stolen_then z g before how what after at e flag = by (same_name kid (child_after z before)) refl
      where
        by : (b : Bool) → same_name kid (child_after z before) ≡ b → how ≡ Spawn
        by true q =
            let r = snoc_name n z (suc (started t.before)) (suc (started before)) (same_name-eq kid (child_after z before) q) in
            let f = t.frame in
            let same : g ≡ f = (let x : Some g ≡ Some f = sym (back z g at) ∙ ap s.frames (sym r.0) ∙ t.here in cc) in
            let n1 : suc (started t.before) ≡ suc (started before) = r.1 in
            same_split before t.before how what after t.what (sym e ∙ ap (λ (x : Frame FrameEnv). x.deeds) same ∙ t.spawned) (omega (arith, n1))
        by false q = o.spawned z g before how what after (back z g at) e (sym (flag_at (child_after z before) ∙ ap (λ b. cond b true (s.stolen (child_after z before))) q) ∙ flag)

    unstolen_then : (z : Name) → s'.frames z ≡ None → s'.stolen z ≡ false
    unstolen_then z none = by (same_name kid z) refl
      where
        was : s.frames z ≡ None
        was = ap (λ (f : Frames FrameEnv). f z) (sym t.frames) ∙ none

        by : (b : Bool) → same_name kid z ≡ b → s'.stolen z ≡ false
        by true q =
            let f = t.frame in
            let r = o.present n f t.before Spawn t.what [] t.here t.spawned in
            let no : None ≡ Some r.0 = sym was ∙ ap s.frames (sym (same_name-eq kid z q)) ∙ r.1 in
            let x : ⊥ = cc in
            absurd x
        by false q = flag_at z ∙ ap (λ b. cond b true (s.stolen z)) q ∙ o.unstolen z was

    after_steal : AreCounted s'.frames → OutliveChildren s'
    after_steal counted = record {
      outlive = λ z g before how what after at e.
          ⊎_elim (λ x. inl (ended_on s s' ends_on (child_after z before) x)) (λ b. inr (record { goes = b.goes; since = ⊎_elim (λ y. inl y) (λ y. inr (y.0, y.1, flag_on (child_after z before) y.2)) b.since }))
          (o.outlive z g before how what after (back z g at) e);
      spawned = stolen_then;
      unstolen = unstolen_then;
      present = λ z g before how what after at e. let r = o.present z g before how what after (back z g at) e in (r.0, ap (λ (f : Frames FrameEnv). f (child_after z before)) t.frames ∙ r.1);
      counted = counted;
    }

  children_keep : (s s' : State FrameEnv View) (n : Name) → DidAsAsked p inputs s → OutliveChildren s → OneStep p inputs s n s' → OutliveChildren s'
  children_keep s s' n asked o step = ⊎_elim made (λ x. ⊎_elim stolen (λ t. by _ t.after) x) step.1
    where
      counted : AreCounted s'.frames
      counted = let c = children_are_counted p inputs in c.keeps s s' n o.counted step

      made : Makes FrameEnv View monoid_of (Next p inputs) (costs p inputs) s n s' → OutliveChildren s'
      made m = record {
        outlive = outlive_then s s' n asked o m;
        spawned = spawned_then s s' n asked o m;
        unstolen = λ z none. flag_same s s' n asked o m z ∙ o.unstolen z (none_before s s' n asked o m z none);
        present = present_then s s' n asked o m;
        counted = counted;
      }

      stolen : Steals FrameEnv View monoid_of (Next p inputs) (costs p inputs) s n s' → OutliveChildren s'
      stolen t = after_steal s s' n o t counted

      by : (x : Option Stop) → s' ≡ record s { stopped = x } → OutliveChildren s'
      by x e = subst (λ x. OutliveChildren x) (sym e) (record {
        outlive = λ z g before how what after at e.
            ⊎_elim (λ y. inl (ended_on s (record s { stopped = x }) (λ q is. is) (child_after z before) y)) (λ b. inr (record { goes = b.goes; since = b.since })) (o.outlive z g before how what after at e);
        spawned = o.spawned;
        unstolen = o.unstolen;
        present = o.present;
        counted = o.counted;
      })

  pub parents_outlive : ParentsOutlive p inputs
  parents_outlive = record { opens = children_open; keeps = children_keep; reached = λ ns s r. steps_so ns r.0 s (let l = does_as_asked p inputs in l.opens r.0 r.1) (children_open r.0 r.1) r.2 }
    where
      steps_so : (ns : List Name) (s s' : State FrameEnv View) → DidAsAsked p inputs s → OutliveChildren s → Steps FrameEnv View monoid_of (Next p inputs) (costs p inputs) ns s s' → OutliveChildren s'
      steps_so [] s s' a h e = subst (λ x. OutliveChildren x) (sym e) h
      steps_so (n ∷ ns) s s' a h (mid, one, rest) = steps_so ns mid s' (let l = does_as_asked p inputs in l.keeps s mid n a one) (children_keep s mid n a h one) rest
