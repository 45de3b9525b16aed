-- Changes that keep a scheduler sound.
--
-- - `there_more`: with one frame changed;
-- - `changed_sound`: one frame is changed;
-- - `quiet`: where it is, or what lies at its block;
-- - `settled`: its event is made;
-- - `pushed`: one frame more.
use Rattle.std.proofs.Common.{◌≡◌, ◌+◌, ◌<◌, ◌≤◌, ℕ, zero, suc, nat_eq, eqb-true, Bool, true, false, ℤ, List, [], ◌∷◌, ◌++◌, length, slice_get, Option, Some, None, refl, sym, ap, ◌∙◌, subst, arith, ◌⊎◌, inl, inr}
use Rattle.std.proofs.lemmas.Bool.{eqb-false}
use Rattle.cilk_types.specs.declared.limits.TheConstants.{MAX_CELLS, MAX_EVENTS, MAX_FRAMES}
use Rattle.cilk_program.specs.declared.ask.Ask.{Ask}
use Rattle.cilk_program.specs.declared.ask.Ask.TheVariants as asks
use Rattle.cilk_program.specs.declared.ask.Callee.{Callee}
use Rattle.cilk_program.specs.declared.ask.Callee.TheVariants as callees
use Rattle.cilk_program.specs.declared.syntax.Place.{Place}
use Rattle.cilk_program.specs.SerialRun.{Frame, global_reducer, itself}
use Rattle.cilk_program.specs.Syntax.{Source}
use Rattle.cilk_program.proofs.Visible.{frame_more}
use Rattle.cilk_lower.specs.Code.{CodeView}
use Rattle.cilk_frames.specs.Cursor.{CursorView}
use Rattle.cilk_frames.specs.Following.{HasAnswer, Stands, owed_for}
use Rattle.cilk_frames.specs.declared.activation.Activation.{Activation}
use Rattle.cilk_frames.proofs.Links.{sees_more as scope_more}
use Rattle.cilk_serial.specs.Scoped.{Any, Below, IsThere, MayBegin, ResultFits, Sees}
use Rattle.cilk_scheduler.specs.FrameStates.{changed}
use Rattle.cilk_scheduler.specs.declared.frame_state.Due.{Due}
use Rattle.cilk_scheduler.specs.declared.frame_state.FrameState.{FrameState}
use Rattle.cilk_scheduler.proofs.Changing.{changed_here, changed_length, changed_off}
use Rattle.cilk_scheduler.proofs.Kept.{scope_changed}
use Rattle.cilk_scheduler.proofs.Placed.{get_some}
use Rattle.cilk_schedule.specs.Sound.{Comes, Counts, FitsDue, IsQuiet, Keeps, Lives, Rests, SameTicks, Sound, frame_of}

-- ---- more cells

pub sees_more : (p : Source) (fr : Frame) (n n' : ℕ) → n ≤ n' → Sees p fr n → Sees p fr n'
sees_more p fr n n' low h = frame_more p itself global_reducer (Below n) (Below n') Any Any still (λ i k is. is) fr.callee fr.scope fr.result h
  where
    still : (c : ℕ) → c < n → c < n'
    still c less = omega (arith, low, less)

fits_more : (fr : Frame) (n n' : ℕ) → n ≤ n' → (o : Option Place) → ResultFits fr n o → ResultFits fr n' o
fits_more fr n n' low None h = tt
fits_more fr n n' low (Some x) h = omega (arith, low, h)

begin_more : (p : Source) (fr : Frame) (n n' : ℕ) → n ≤ n' → (callee : Callee) → MayBegin p fr n callee → MayBegin p fr n' callee
begin_more p fr n n' low callees.Root h = absurd h
begin_more p fr n n' low (callees.Function c) h = (h.0, fits_more fr n n' low c.result h.1, h.2)
begin_more p fr n n' low (callees.Loop l) h = h

there_more : (p : Source) (fr : Frame) (n n' : ℕ) → n ≤ n' → (k : Ask) → IsThere p fr n k → IsThere p fr n' k
there_more p fr n n' low asks.Begin h = tt
there_more p fr n n' low (asks.Read x) h = omega (arith, low, h)
there_more p fr n n' low (asks.Write x v) h = omega (arith, low, h)
there_more p fr n n' low (asks.Create r) h = h
there_more p fr n n' low (asks.Update r v) h = h
there_more p fr n n' low (asks.Set r v) h = h
there_more p fr n n' low (asks.Value r) h = h
there_more p fr n n' low (asks.Print v) h = tt
there_more p fr n n' low (asks.Invoke how callee) h = begin_more p fr n n' low callee h
there_more p fr n n' low asks.Resume h = tt
there_more p fr n n' low asks.Sync h = tt
there_more p fr n n' low (asks.Result v) h = (h.0, h.1, let less = h.2 in omega (arith, low, less))
there_more p fr n n' low (asks.End v) h = tt
there_more p fr n n' low (asks.Fault f) h = tt

some_is : {A : Type 0} (x y : A) → Some x ≡ Some y → x ≡ y
some_is x y e = cc

cases_eq : (j k : ℕ) → ((j ≡ k) → ⊥) ⊎ (j ≡ k)
cases_eq j k = by (nat_eq j k) refl
  where
    by : (b : Bool) → nat_eq j k ≡ b → ((j ≡ k) → ⊥) ⊎ (j ≡ k)
    by true e = inr (eqb-true j k e)
    by false e = inl (eqb-false j k e)

-- ---- one frame is changed

module _ (code : CodeView) (p : Source) (inputs : List ℤ) (frames : List (Activation FrameState)) (cells cells' events events' : ℕ) (f : FrameState → FrameState) (k : ℕ) (low : cells ≤ cells') (less : events ≤ events') where
  unfoldable pub lives_changed : (a : Activation FrameState) (y : FrameState) → Lives code p inputs frames cells events a → Lives code p inputs (changed f frames k) cells' events' (record a { cursor = y })
  lives_changed a y h = record {
    callee = h.callee;
    scope = h.scope;
    history = h.history;
    links = scope_changed f frames k a y h.scope h.links;
    sees = sees_more p (frame_of h.callee h.scope a) cells cells' low h.sees;
  }

  rests_changed : (a : Activation FrameState) (c : CursorView) → Rests code p inputs frames cells events a c → Rests code p inputs (changed f frames k) cells' events' a c
  unfolding lives_changed
  rests_changed a c h = record { lives = lives_changed a a.cursor h.lives; stands = h.stands; fits = h.fits }

  comes_changed : (a : Activation FrameState) (ask : Ask) → Comes code p inputs frames cells events a ask → Comes code p inputs (changed f frames k) cells' events' a ask
  unfolding lives_changed
  comes_changed a ask h = let l = h.lives in record {
    cursor = h.cursor;
    lives = lives_changed a a.cursor l;
    here = h.here;
    stands = h.stands;
    owes = h.owes;
    there = there_more p (frame_of l.callee l.scope a) cells cells' low ask h.there;
    named = h.named;
    may = h.may;
  }

  counts_changed : (a : Activation FrameState) → Counts code p inputs frames cells events a → Counts code p inputs (changed f frames k) cells' events' a
  counts_changed a h =
      let same = changed_length f frames k in record {
        parent = let q = h.parent in omega (arith, same, q);
        last = let q = h.last in omega (arith, same, q);
        children = let q = h.children in omega (arith, same, q);
        strands = let q = h.strands in omega (arith, less, q);
        counted = h.counted;
        took = h.took;
        low = h.low;
        creates = h.creates;
      }

  pub changed_sound : (turn turn' : Option ℕ) (ask ask' : Ask) → Sound code p inputs frames cells events turn ask
      → ((a : Activation FrameState) → slice_get frames k ≡ Some a → Counts code p inputs (changed f frames k) cells' events' (record a { cursor = f a.cursor }))
      → ((a : Activation FrameState) (c : CursorView) → slice_get frames k ≡ Some a → (turn' ≡ Some k → ⊥) → (let y = f a.cursor in y.cursor ≡ Some c) → Rests code p inputs (changed f frames k) cells' events' (record a { cursor = f a.cursor }) c)
      → ((a : Activation FrameState) → slice_get frames k ≡ Some a → turn' ≡ Some k → Comes code p inputs (changed f frames k) cells' events' (record a { cursor = f a.cursor }) ask')
      → ((j : ℕ) → ((j ≡ k) → ⊥) → (turn' ≡ Some j → ⊥) → turn ≡ Some j → ⊥) → ((j : ℕ) → ((j ≡ k) → ⊥) → turn' ≡ Some j → (turn ≡ Some j) × (ask' ≡ ask))
      → cells' ≤ MAX_CELLS → events' ≤ MAX_EVENTS → (there : k < length frames) → Sound code p inputs (changed f frames k) cells' events' turn' ask'
  changed_sound turn turn' ask ask' s counts rests comes off on few many there = record {
    counts = λ j b at. at_counts j b at (cases_eq j k);
    rests = λ j b c at not is. at_rests j b c at not is (cases_eq j k);
    comes = λ j b at is. at_comes j b at is (cases_eq j k);
    few_frames = let same = changed_length f frames k in let q = s.few_frames in omega (arith, same, q);
    few_cells = few;
    few_events = many;
    opened = let q = s.opened in omega (arith, q, low);
  }
    where
      other : (j : ℕ) (b : Activation FrameState) → ((j ≡ k) → ⊥) → slice_get (changed f frames k) j ≡ Some b → slice_get frames j ≡ Some b
      other j b ne at = sym (changed_off f frames k j (λ e. ne (sym e))) ∙ at

      mine : (j : ℕ) (b : Activation FrameState) → j ≡ k → slice_get (changed f frames k) j ≡ Some b → (a : Activation FrameState) × (slice_get frames k ≡ Some a) × (b ≡ record a { cursor = f a.cursor })
      mine j b e at =
          let it = get_some frames k there in
          let a = it.0 in
          let here : slice_get (changed f frames k) k ≡ Some b = subst (λ n. slice_get (changed f frames k) n ≡ Some b) e at in
          let is : Some b ≡ Some (record a { cursor = f a.cursor }) = sym here ∙ changed_here f frames k a it.1 in
          (a, it.1, some_is b (record a { cursor = f a.cursor }) is)

      at_counts : (j : ℕ) (b : Activation FrameState) → slice_get (changed f frames k) j ≡ Some b → ((j ≡ k) → ⊥) ⊎ (j ≡ k) → Counts code p inputs (changed f frames k) cells' events' b
      at_counts j b at (inl ne) = counts_changed b (s.counts j b (other j b ne at))
      at_counts j b at (inr e) = let m = mine j b e at in subst (λ (z : Activation FrameState). Counts code p inputs (changed f frames k) cells' events' z) (sym m.2) (counts m.0 m.1)

      at_rests : (j : ℕ) (b : Activation FrameState) (c : CursorView) → slice_get (changed f frames k) j ≡ Some b → (turn' ≡ Some j → ⊥) → (let x = b.cursor in x.cursor ≡ Some c) → ((j ≡ k) → ⊥) ⊎ (j ≡ k) → Rests code p inputs (changed f frames k) cells' events' b c
      at_rests j b c at not is (inl ne) = rests_changed b c (s.rests j b c (other j b ne at) (off j ne not) is)
      at_rests j b c at not is (inr e) =
          let m = mine j b e at in
          let a = m.0 in
          subst (λ (z : Activation FrameState). Rests code p inputs (changed f frames k) cells' events' z c) (sym m.2)
          (rests a c m.1 (λ q. not (q ∙ ap Some (sym e))) (subst (λ (z : Activation FrameState). let x = z.cursor in x.cursor ≡ Some c) m.2 is))

      at_comes : (j : ℕ) (b : Activation FrameState) → slice_get (changed f frames k) j ≡ Some b → turn' ≡ Some j → ((j ≡ k) → ⊥) ⊎ (j ≡ k) → Comes code p inputs (changed f frames k) cells' events' b ask'
      at_comes j b at is (inl ne) =
          let was = on j ne is in
          subst (λ (z : Ask). Comes code p inputs (changed f frames k) cells' events' b z) (sym was.1) (comes_changed b ask (s.comes j b (other j b ne at) was.0))
      at_comes j b at is (inr e) =
          let m = mine j b e at in
          subst (λ (z : Activation FrameState). Comes code p inputs (changed f frames k) cells' events' z ask') (sym m.2) (comes m.0 m.1 (is ∙ ap Some e))

-- ---- quiet changes

-- where a frame is, whether it was stolen from, what lies at its block, how many of its ticks are
-- counted
pub record IsStill (f : FrameState → FrameState) : Type 0 where
  pub parent : (x : FrameState) → let y = f x in y.parent ≡ x.parent
  pub last : (x : FrameState) → let y = f x in y.last ≡ x.last
  pub children : (x : FrameState) → let y = f x in y.children ≡ x.children
  pub strands : (x : FrameState) → let y = f x in y.strands ≡ x.strands
  pub took : (x : FrameState) → let y = f x in y.took ≡ x.took
  pub counted : (x : FrameState) → x.counted ≤ x.took → let y = f x in y.counted ≤ y.took
  pub due : (x : FrameState) → let y = f x in y.due ≡ x.due
  pub cursor : (x : FrameState) → let y = f x in y.cursor ≡ x.cursor

pub still_keeps : (f : FrameState → FrameState) → IsStill f → (frames : List (Activation FrameState)) (k : ℕ) → k < length frames → Keeps frames (changed f frames k)
unfolding lives_changed
still_keeps f still frames k there = λ code p inputs cells events turn ask s.
    changed_sound code p inputs frames cells cells events events f k (omega arith) (omega arith) turn turn ask ask s
    (λ a at. let h = s.counts k a at in let x = a.cursor in let same = changed_length f frames k in record {
      parent = let q = h.parent in let e = still.parent x in omega (arith, same, q, e);
      last = let q = h.last in let e = still.last x in omega (arith, same, q, e);
      children = let q = h.children in let e = still.children x in omega (arith, same, q, e);
      strands = let q = h.strands in let e = still.strands x in omega (arith, q, e);
      counted = still.counted x h.counted;
      took = let q = h.took in let e = still.took x in omega (arith, q, e);
      low = h.low;
      creates = h.creates;
    })
    (λ a c at not is. let x = a.cursor in let h = s.rests k a c at not (sym (still.cursor x) ∙ is) in let l = h.lives in record {
      lives = lives_changed code p inputs frames cells cells events events f k (omega arith) (omega arith) a (f x) l;
      stands = subst (λ n. Stands code inputs p l.callee c l.history n) (sym (still.took x)) h.stands;
      fits = subst (λ d. FitsDue c.owed d) (sym (still.due x)) h.fits;
    })
    (λ a at is. let x = a.cursor in let h = s.comes k a at is in let l = h.lives in record {
      cursor = h.cursor;
      lives = lives_changed code p inputs frames cells cells events events f k (omega arith) (omega arith) a (f x) l;
      here = still.cursor x ∙ h.here;
      stands = λ has. subst (λ n. Stands code inputs p l.callee h.cursor l.history n) (sym (still.took x)) (h.stands has);
      owes = h.owes;
      there = h.there;
      named = h.named;
      may = h.may;
    })
    (λ j no not. not) (λ j no is. (is, refl)) s.few_cells s.few_events there

pub same_ticks : (f : FrameState → FrameState) → ((x : FrameState) → let y = f x in (y.took ≡ x.took) × (y.counted ≡ x.counted)) → (frames : List (Activation FrameState)) (k : ℕ) → SameTicks frames (changed f frames k)
same_ticks f same [] k = λ j a at. (a, at, (refl, refl))
same_ticks f same (b ∷ frames) zero = λ j a at. head j a at
  where
    head : (j : ℕ) (a : Activation FrameState) → slice_get (b ∷ frames) j ≡ Some a → (z : Activation FrameState) × (slice_get (changed f (b ∷ frames) zero) j ≡ Some z) × ((let x = a.cursor in let y = z.cursor in y.took ≡ x.took) × (let x = a.cursor in let y = z.cursor in y.counted ≡ x.counted))
    head zero a at =
        let e : b ≡ a = some_is b a at in
        let x = b.cursor in
        (record b { cursor = f x }, refl, ((same x).0 ∙ ap (λ (z : Activation FrameState). let y = z.cursor in y.took) e, (same x).1 ∙ ap (λ (z : Activation FrameState). let y = z.cursor in y.counted) e))
    head (suc j) a at = (a, at, (refl, refl))
same_ticks f same (b ∷ frames) (suc k) = tail (same_ticks f same frames k)
  where
    tail : SameTicks frames (changed f frames k) → SameTicks (b ∷ frames) (changed f (b ∷ frames) (suc k))
    tail rest zero a at = (a, at, (refl, refl))
    tail rest (suc j) a at = rest j a at

pub same_twice : (l m n : List (Activation FrameState)) → SameTicks l m → SameTicks m n → SameTicks l n
same_twice l m n g h = λ k a at. let u = g k a at in let v = h k u.0 u.1 in (v.0, v.1, (v.2.0 ∙ u.2.0, v.2.1 ∙ u.2.1))

pub quiet : (f : FrameState → FrameState) → IsStill f → ((x : FrameState) → let y = f x in y.counted ≡ x.counted) → (frames : List (Activation FrameState)) (k : ℕ) → k < length frames → IsQuiet frames (changed f frames k)
quiet f still same frames k there = (still_keeps f still frames k there, same_ticks f (λ x. (still.took x, same x)) frames k, changed_length f frames k)

pub quiet_twice : (l m n : List (Activation FrameState)) → IsQuiet l m → IsQuiet m n → IsQuiet l n
quiet_twice l m n g h = (
  λ code p inputs cells events turn ask s. h.0 code p inputs cells events turn ask (g.0 code p inputs cells events turn ask s),
  same_twice l m n g.1 h.1,
  h.2 ∙ g.2,
)

pub quiet_none : (l : List (Activation FrameState)) → IsQuiet l l
quiet_none l = (λ code p inputs cells events turn ask s. s, λ k a at. (a, at, (refl, refl)), refl)

-- ---- an event is made

-- the frame continues with this, and has begun at most `more` strands more
pub record IsStep (more : ℕ) (f : FrameState → FrameState) (d : Due) : Type 0 where
  pub parent : (x : FrameState) → let y = f x in y.parent ≡ x.parent
  pub last : (x : FrameState) → let y = f x in y.last ≡ x.last
  pub children : (x : FrameState) → let y = f x in y.children ≡ x.children
  pub strands : (x : FrameState) → let y = f x in y.strands ≤ x.strands + more
  pub took : (x : FrameState) → let y = f x in y.took ≡ x.took
  pub counted : (x : FrameState) → let y = f x in y.counted ≡ x.counted
  pub due : (x : FrameState) → let y = f x in y.due ≡ d
  pub cursor : (x : FrameState) → let y = f x in y.cursor ≡ x.cursor

pub settled : (more : ℕ) (f : FrameState → FrameState) (d : Due) → IsStep more f d → (code : CodeView) (p : Source) (inputs : List ℤ) (frames : List (Activation FrameState)) (cells events : ℕ) (k : ℕ) (ask : Ask)
    → HasAnswer ask → FitsDue (owed_for ask) d → k < length frames → events + more ≤ MAX_EVENTS → Sound code p inputs frames cells events (Some k) ask → Sound code p inputs (changed f frames k) cells (events + more) None asks.Begin
unfolding lives_changed
settled more f d step code p inputs frames cells events k ask has fits there many s =
    changed_sound code p inputs frames cells cells events (events + more) f k (omega arith) (omega arith) (Some k) None ask asks.Begin s
    (λ a at. let h = s.counts k a at in let x = a.cursor in let same = changed_length f frames k in record {
      parent = let q = h.parent in let e = step.parent x in omega (arith, same, q, e);
      last = let q = h.last in let e = step.last x in omega (arith, same, q, e);
      children = let q = h.children in let e = step.children x in omega (arith, same, q, e);
      strands = let q = h.strands in let e = step.strands x in omega (arith, q, e);
      counted = let q = h.counted in let e = step.counted x in let t = step.took x in omega (arith, q, e, t);
      took = let q = h.took in let e = step.took x in omega (arith, q, e);
      low = h.low;
      creates = h.creates;
    })
    (λ a c at not is. let x = a.cursor in let h = s.comes k a at refl in let l = h.lives in
    let same : h.cursor ≡ c = some_is h.cursor c (sym h.here ∙ sym (step.cursor x) ∙ is) in record {
      lives = lives_changed code p inputs frames cells cells events (events + more) f k (omega arith) (omega arith) a (f x) l;
      stands = subst (λ n. Stands code inputs p l.callee c l.history n) (sym (step.took x)) (subst (λ z. Stands code inputs p l.callee z l.history x.took) same (h.stands has));
      fits = subst (λ e. FitsDue c.owed e) (sym (step.due x)) (subst (λ o. FitsDue o d) (sym (h.owes has) ∙ ap (λ (z : CursorView). z.owed) same) fits);
    })
    (λ a at no. cc)
    (λ j no not is. no (sym (some_is k j is))) (λ j no no2. cc) s.few_cells many there

-- it has ended
pub ended : (f : FrameState → FrameState) → ((x : FrameState) → let y = f x in (y.parent ≡ x.parent) × (y.last ≡ x.last) × (y.children ≡ x.children) × (y.strands ≡ x.strands) × (y.took ≡ x.took) × (y.counted ≡ x.counted) × (y.cursor ≡ None))
    → (code : CodeView) (p : Source) (inputs : List ℤ) (frames : List (Activation FrameState)) (cells events : ℕ) (k : ℕ) (ask : Ask)
    → k < length frames → events + 1 ≤ MAX_EVENTS → Sound code p inputs frames cells events (Some k) ask → Sound code p inputs (changed f frames k) cells (events + 1) None asks.Begin
ended f step code p inputs frames cells events k ask there many s =
    changed_sound code p inputs frames cells cells events (events + 1) f k (omega arith) (omega arith) (Some k) None ask asks.Begin s
    (λ a at. let h = s.counts k a at in let x = a.cursor in let e = step x in let same = changed_length f frames k in record {
      parent = let q = h.parent in let t = e.0 in omega (arith, same, q, t);
      last = let q = h.last in let t = e.1 in omega (arith, same, q, t);
      children = let q = h.children in let t = e.2 in omega (arith, same, q, t);
      strands = let q = h.strands in let t = e.3 in omega (arith, q, t);
      counted = let q = h.counted in let t = e.4 in let u = e.5 in omega (arith, q, t, u);
      took = let q = h.took in let t = e.4 in omega (arith, q, t);
      low = h.low;
      creates = h.creates;
    })
    (λ a c at not is. let x = a.cursor in let e = step x in let no : None ≡ Some c = sym e.6 ∙ is in cc)
    (λ a at no. cc)
    (λ j no not is. no (sym (some_is k j is))) (λ j no no2. cc) s.few_cells many there

-- ---- one frame more

pub push_get : {A : Type 0} (l : List A) (z : A) (n : ℕ) (x : A) → slice_get l n ≡ Some x → slice_get (l ++ z ∷ []) n ≡ Some x
push_get [] z n x h = let no : None ≡ Some x = h in cc
push_get (y ∷ l) z zero x h = h
push_get (y ∷ l) z (suc n) x h = push_get l z n x h

pub push_last : {A : Type 0} (l : List A) (z : A) → slice_get (l ++ z ∷ []) (length l) ≡ Some z
push_last [] z = refl
push_last (y ∷ l) z = push_last l z

push_from : {A : Type 0} (l : List A) (z : A) (n : ℕ) (x : A) → slice_get (l ++ z ∷ []) n ≡ Some x → (slice_get l n ≡ Some x) ⊎ ((n ≡ length l) × (z ≡ x))
push_from [] z zero x h = inr (refl, some_is z x h)
push_from [] z (suc n) x h = let no : None ≡ Some x = h in cc
push_from (y ∷ l) z zero x h = inl h
push_from (y ∷ l) z (suc n) x h = more (push_from l z n x h)
  where
    more : (slice_get l n ≡ Some x) ⊎ ((n ≡ length l) × (z ≡ x)) → (slice_get l n ≡ Some x) ⊎ ((suc n ≡ suc (length l)) × (z ≡ x))
    more (inl g) = inl g
    more (inr g) = inr (ap suc g.0, g.1)

pub push_length : {A : Type 0} (l : List A) (z : A) → length (l ++ z ∷ []) ≡ suc (length l)
push_length [] z = refl
push_length (y ∷ l) z = ap suc (push_length l z)

module _ (code : CodeView) (p : Source) (inputs : List ℤ) (frames : List (Activation FrameState)) (cells cells' events : ℕ) (child : Activation FrameState) (low : cells ≤ cells') where
  lives_pushed : (a : Activation FrameState) → Lives code p inputs frames cells events a → Lives code p inputs (frames ++ child ∷ []) cells' events a
  lives_pushed a h = record {
    callee = h.callee;
    scope = h.scope;
    history = h.history;
    links = scope_more frames (frames ++ child ∷ []) a h.scope (λ n x at. push_get frames child n x at) h.links;
    sees = sees_more p (frame_of h.callee h.scope a) cells cells' low h.sees;
  }

  pub pushed : (turn : Option ℕ) (ask : Ask) → Sound code p inputs frames cells events turn ask → cells' ≤ MAX_CELLS → length frames + 1 ≤ MAX_FRAMES → (turn ≡ Some (length frames) → ⊥)
      → Counts code p inputs (frames ++ child ∷ []) cells' events child
      → ((c : CursorView) → (let x = child.cursor in x.cursor ≡ Some c) → Rests code p inputs (frames ++ child ∷ []) cells' events child c)
      → Sound code p inputs (frames ++ child ∷ []) cells' events turn ask
  unfolding lives_pushed
  pushed turn ask s few room not counts rests = record {
    counts = λ j b at. at_counts j b (push_from frames child j b at);
    rests = λ j b c at no is. at_rests j b c no is (push_from frames child j b at);
    comes = λ j b at is. at_comes j b is (push_from frames child j b at);
    few_frames = let e = push_length frames child in omega (arith, e, room);
    few_cells = few;
    few_events = s.few_events;
    opened = let q = s.opened in omega (arith, q, low);
  }
    where
      grown : (a : Activation FrameState) → Counts code p inputs frames cells events a → Counts code p inputs (frames ++ child ∷ []) cells' events a
      grown a h = let e = push_length frames child in record {
        parent = let q = h.parent in omega (arith, e, q);
        last = let q = h.last in omega (arith, e, q);
        children = let q = h.children in omega (arith, e, q);
        strands = h.strands;
        counted = h.counted;
        took = h.took;
        low = h.low;
        creates = h.creates;
      }

      at_counts : (j : ℕ) (b : Activation FrameState) → (slice_get frames j ≡ Some b) ⊎ ((j ≡ length frames) × (child ≡ b)) → Counts code p inputs (frames ++ child ∷ []) cells' events b
      at_counts j b (inl at) = grown b (s.counts j b at)
      at_counts j b (inr e) = subst (λ (z : Activation FrameState). Counts code p inputs (frames ++ child ∷ []) cells' events z) e.1 counts

      at_rests : (j : ℕ) (b : Activation FrameState) (c : CursorView) → (turn ≡ Some j → ⊥) → (let x = b.cursor in x.cursor ≡ Some c) → (slice_get frames j ≡ Some b) ⊎ ((j ≡ length frames) × (child ≡ b)) → Rests code p inputs (frames ++ child ∷ []) cells' events b c
      at_rests j b c ne is (inl at) = let h = s.rests j b c at ne is in record { lives = lives_pushed b h.lives; stands = h.stands; fits = h.fits }
      at_rests j b c ne is (inr e) =
          subst (λ (z : Activation FrameState). Rests code p inputs (frames ++ child ∷ []) cells' events z c) e.1
          (rests c (subst (λ (z : Activation FrameState). let x = z.cursor in x.cursor ≡ Some c) (sym e.1) is))

      at_comes : (j : ℕ) (b : Activation FrameState) → turn ≡ Some j → (slice_get frames j ≡ Some b) ⊎ ((j ≡ length frames) × (child ≡ b)) → Comes code p inputs (frames ++ child ∷ []) cells' events b ask
      at_comes j b is (inl at) = let h = s.comes j b at is in let l = h.lives in record {
        cursor = h.cursor;
        lives = lives_pushed b l;
        here = h.here;
        stands = h.stands;
        owes = h.owes;
        there = there_more p (frame_of l.callee l.scope b) cells cells' low ask h.there;
        named = h.named;
        may = h.may;
      }
      at_comes j b is (inr e) = absurd (not (is ∙ ap Some e.0))
