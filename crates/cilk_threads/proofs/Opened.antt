-- Each frame of a serial run begins with the creations of its reducers: `frames_open`.
--
-- - `Opens`: a frame's run creates these reducers in order, at once or after some writes;
-- - `IsDue`: so do the opening asks that are due; `dues_open`: they are made;
-- - `StartsNoRoot`, `starts_no_root`: no frame but the first one runs as the root;
-- - `IsFrameOf`, `AllFrames`: what holds of each frame of a run by names.
use Rattle.std.proofs.Common.{◌≡◌, ℕ, suc, ◌+◌, ℤ, true, false, IsTrue, List, [], ◌∷◌, ◌++◌, length, Some, refl, sym, ap, ◌∙◌, subst, arith, append-nil, inl, inr, ◌⊎◌}
use Rattle.cilk_monoid.specs.declared.kind.MonoidKind.{MonoidKind}
use Rattle.cilk_program.specs.declared.ask.Ask.{Ask}
use Rattle.cilk_program.specs.declared.ask.Ask.TheVariants as asks
use Rattle.cilk_program.specs.declared.ask.Callee.{Callee}
use Rattle.cilk_program.specs.declared.ask.Callee.TheVariants as callees
use Rattle.cilk_program.specs.declared.syntax.ReducerPlace.{ReducerPlace}
use Rattle.cilk_program.specs.declared.syntax.ReducerPlace.TheVariants as reducers
use Rattle.cilk_program.specs.declared.program.Body.{Body}
use Rattle.cilk_program.specs.Behaviour.{OpenAsk, asks_for, frame_asks}
use Rattle.cilk_program.specs.Inside.{body_of, CalleeIsFit, CalleeIsThere, AskIsThere}
use Rattle.cilk_program.specs.Outcomes.{Conclusion, Leaves}
use Rattle.cilk_program.specs.SerialRun.{Transcript, stop, act, child, Memory, Frame, Ending, Serial, Made, Ended, Went, Broke, Refused, IsSerialRun}
use Rattle.cilk_program.specs.Syntax.{Source, main_of, function_at}
use Rattle.cilk_program.specs.WellNamed.{is_well_named}
use Rattle.cilk_types.specs.declared.event.Event as numbers
use Rattle.cilk_types.specs.declared.invocation.Invocation.{Invocation}
use Rattle.cilk_types.specs.declared.outcome.Outcome.{Outcome}
use Rattle.cilk_program.specs.Numbering.{Counts, unbegun, entered, counts_after, block_of, frame_at}
use Rattle.cilk_program.specs.Order.{writings, creations, opening_asks, Stage, Fresh, Due, Going, Resuming, Synced, Closing, opened, IsOwnAt, IsOrderly}
use Rattle.cilk_program.proofs.Asked.{asks_there}
use Rattle.cilk_program.proofs.Orderly.{runs_orderly}
use Rattle.cilk_program.proofs.Closings.{View, Begins as BeginsNow, Opens as OpensNow, Goes, Calls as CallsNow, Spawns as SpawnsNow, Syncs as SyncsNow, Resumes as ResumesNow, Again, Gives, Ends as EndsNow, EndsThen, view}
use Rattle.cilk_determinacy.specs.Runs.{Name, Reducer, Event, Reads, Writes, Syncs, Ends, Passes, Begins, Resumes, Creates, Updates, Sets, Values, Prints, Run}
use Rattle.cilk_determinacy.specs.Runs as runs
use Rattle.cilk_determinacy.specs.Traces.{Due as DueNext, begin_due, resume_due, neither_due, IsFramed}
use Rattle.cilk_determinacy.specs.FrameEnvs.{Sight, FrameEnv, env_of, first_env, child_env, reducer_seen}
use Rattle.cilk_determinacy.specs.Nested.{named_event, named_from, named}
use Rattle.cilk_determinacy.specs.Numbers.{up, frame_runs, all_reducers, IsHere}
use Rattle.cilk_determinacy.proofs.Determinate.{serial_numbered}
use Rattle.cilk_determinacy.proofs.Children.{root_ahead, child_ahead, past_ahead}
use Rattle.cilk_determinacy.proofs.Numbers.{up_more}
use Rattle.cilk_determinacy.proofs.Sights.{Ahead, root_here}

-- the frame creates its reducers of these monoids, from this place on
abbrev pub Opens : Name → ℕ → List MonoidKind → Run FrameEnv → Type 0
Opens name n [] t = Unit {0}
Opens name n (k ∷ ks) (runs.act (Writes c v) t) = Opens name n (k ∷ ks) t
Opens name n (k ∷ ks) (runs.act (Passes (Creates i)) t) = (i ≡ Reducer name n k) × Opens name (suc n) ks t
Opens name n (k ∷ ks) t = ⊥

-- right after its `begin`
abbrev pub BeginsOpened : Source → FrameEnv → Run FrameEnv → Type 0
BeginsOpened p w (runs.act (Passes Begins) t) = Opens w.name 0 (all_reducers p w.callee) t
BeginsOpened p w t = ⊥

-- a frame of the run of the first frame
pub record IsFrameOf (p : Source) (whole : Transcript) (w : FrameEnv) (u : Run FrameEnv) : Type 0 where
  pub here : IsHere p whole w.name
  pub runs : frame_runs whole here.path ≡ Some w.callee
  pub opened : BeginsOpened p w u

-- each frame that is started in the run is one
abbrev pub AllFrames : Source → Transcript → Run FrameEnv → Type 0
AllFrames p whole runs.stop = Unit {0}
AllFrames p whole (runs.act e t) = AllFrames p whole t
AllFrames p whole (runs.child k w u t) = IsFrameOf p whole w u × AllFrames p whole u × AllFrames p whole t

-- ---- what is due is made
abbrev IsDue : FrameEnv → Name → ℕ → List MonoidKind → List Ask → Type 0
IsDue w name n [] due = Unit {0}
IsDue w name n (k ∷ ks) (asks.Write x v ∷ due) = IsDue w name n (k ∷ ks) due
IsDue w name n (k ∷ ks) (asks.Create c ∷ due) = (reducer_seen w c ≡ Reducer name n k) × IsDue w name (suc n) ks due
IsDue w name n (k ∷ ks) due = ⊥

module _ (p : Source) (w : FrameEnv) (name : Name) where
  dues_open : (n : ℕ) (ks : List MonoidKind) (due : List Ask) → IsDue w name n ks due → (j : ℕ) (r : Transcript) → IsOrderly p (opened due) r
      → IsFramed neither_due (named_from p w j r) → Opens name n ks (named_from p w j r)
  dues_open n [] due d j r o f = tt
  dues_open n (k ∷ ks) (asks.Write x v ∷ due) d j stop o f = absurd f
  dues_open n (k ∷ ks) (asks.Write x v ∷ due) d j (child how callee u r) o f = absurd (cc o.1.0)
  dues_open n (k ∷ ks) (asks.Write x v ∷ due) d j (act a b r) o f =
      subst (λ (a : Ask). Opens name n (k ∷ ks) (named_from p w j (act a b r))) (sym o.0.0)
      (dues_open n (k ∷ ks) due d j r o.0.1 (subst (λ (a : Ask). IsFramed neither_due (named_from p w j (act a b r))) o.0.0 f))
  dues_open n (k ∷ ks) (asks.Create c ∷ due) d j stop o f = absurd f
  dues_open n (k ∷ ks) (asks.Create c ∷ due) d j (child how callee u r) o f = absurd (cc o.1.0)
  dues_open n (k ∷ ks) (asks.Create c ∷ due) d j (act a b r) o f =
      subst (λ (a : Ask). Opens name n (k ∷ ks) (named_from p w j (act a b r))) (sym o.0.0)
      (d.0, dues_open (suc n) ks due d.1 j r o.0.1 (subst (λ (a : Ask). IsFramed neither_due (named_from p w j (act a b r))) o.0.0 f))
  dues_open n (k ∷ ks) due d j r o f = absurd d

  due_writes : (n : ℕ) (ks : List MonoidKind) (m : ℕ) (vs : List ℤ) (due : List Ask) → IsDue w name n ks due → IsDue w name n ks (writings m vs ++ due)
  due_writes n [] m vs due d = tt
  due_writes n (k ∷ ks) m [] due d = d
  due_writes n (k ∷ ks) m (v ∷ vs) due d = due_writes n (k ∷ ks) (suc m) vs due d

  -- creations of places that the frame sees as its own, from a first one on
  due_creations : (place : ℕ → ReducerPlace) (first : ℕ) → ((n : ℕ) (k : MonoidKind) → reducer_seen w (record { place = place n; kind = k }) ≡ Reducer name (first + n) k)
      → (n : ℕ) (ks more : List MonoidKind) (due : List Ask) → IsDue w name (first + n + length ks) more due → IsDue w name (first + n) (ks ++ more) (creations place n ks ++ due)
  due_creations place first same n [] more due d = let e : first + n + 0 ≡ first + n = omega arith in subst (λ (m : ℕ). IsDue w name m more due) e d
  due_creations place first same n (k ∷ ks) more due d =
      let e : first + n + suc (length ks) ≡ first + suc n + length ks = omega arith in
      let s : first + suc n ≡ suc (first + n) = omega arith in (
        same n k,
        subst (λ (m : ℕ). IsDue w name m (ks ++ more) (creations place (suc n) ks ++ due)) s
            (due_creations place first same (suc n) ks more due (subst (λ (m : ℕ). IsDue w name m more due) e d)),
      )

all_due : (p : Source) (name : Name) (sight : Sight) (callee : Callee) → (callee ≡ callees.Root → name ≡ [])
    → IsDue (env_of p name sight callee) name 0 (all_reducers p callee) (opening_asks p callee)
all_due p name sight callees.Root root =
    let f = main_of p in
    let w : FrameEnv = env_of p name sight callees.Root in
    let l = length p.reducers in
    let own = due_creations p w name (reducers.Own 0) l (λ n k. refl) 0 f.reducers [] [] tt in
    let z : l + 0 ≡ 0 + 0 + l = omega arith in
    let both : IsDue w name (l + 0) f.reducers (creations (reducers.Own 0) 0 f.reducers) = subst (λ (ks : List MonoidKind). IsDue w name (l + 0) ks (creations (reducers.Own 0) 0 f.reducers)) (append-nil f.reducers)
    (subst (λ (due : List Ask). IsDue w name (l + 0) (f.reducers ++ []) due) (append-nil (creations (reducers.Own 0) 0 f.reducers)) own) in
    due_creations p w name reducers.Global 0 (λ n k. globals n k (root refl)) 0 p.reducers f.reducers (creations (reducers.Own 0) 0 f.reducers) (subst (λ (m : ℕ). IsDue w name m f.reducers (creations (reducers.Own 0) 0 f.reducers)) z both)
  where
    globals : (n : ℕ) (k : MonoidKind) → name ≡ [] → Reducer [] n k ≡ Reducer name (0 + n) k
    globals n k e = let z : n ≡ 0 + n = omega arith in ap (λ (m : ℕ). Reducer [] m k) z ∙ ap (λ (l : Name). Reducer l (0 + n) k) (sym e)
all_due p name sight (callees.Function c) root =
    let f = function_at p c.function in
    let w : FrameEnv = env_of p name sight (callees.Function c) in
    let own = due_creations p w name (reducers.Own 0) 0 (λ n k. refl) 0 f.reducers [] [] tt in
    due_writes p w name 0 f.reducers 0 c.words (creations (reducers.Own 0) 0 f.reducers)
    (subst (λ (ks : List MonoidKind). IsDue w name 0 ks (creations (reducers.Own 0) 0 f.reducers)) (append-nil f.reducers)
    (subst (λ (due : List Ask). IsDue w name 0 (f.reducers ++ []) due) (append-nil (creations (reducers.Own 0) 0 f.reducers)) own))
all_due p name sight (callees.Loop l) root = tt

begins_opened : (p : Source) (name : Name) (sight : Sight) (callee : Callee) → (callee ≡ callees.Root → name ≡ []) → (j : ℕ) (u : Transcript) → IsOrderly p (Fresh (opening_asks p callee)) u
    → IsFramed begin_due (named_from p (env_of p name sight callee) j u) → BeginsOpened p (env_of p name sight callee) (named_from p (env_of p name sight callee) j u)
begins_opened p name sight callee root j stop o f = absurd f
begins_opened p name sight callee root j (child how c u r) o f = absurd f
begins_opened p name sight callee root j (act a v r) o f =
    subst (λ (a : Ask). BeginsOpened p (env_of p name sight callee) (named_from p (env_of p name sight callee) j (act a v r))) (sym o.0.0)
    (dues_open p (env_of p name sight callee) name 0 (all_reducers p callee) (opening_asks p callee) (all_due p name sight callee root) j r o.0.1
    (subst (λ (a : Ask). IsFramed begin_due (named_from p (env_of p name sight callee) j (act a v r))) o.0.0 f))

-- ---- no child runs as the root
abbrev pub StartsNoRoot : Transcript → Type 0
StartsNoRoot stop = Unit {0}
StartsNoRoot (act k v r) = StartsNoRoot r
StartsNoRoot (child how callee u r) = (callee ≡ callees.Root → ⊥) × StartsNoRoot u × StartsNoRoot r

pub there_fit : (p : Source) (b : Body) (callee : Callee) → CalleeIsThere p b callee → CalleeIsFit p callee
there_fit p b callees.Root h = tt
there_fit p b (callees.Function c) h = h.0
there_fit p b (callees.Loop l) h = h.0

pub there_no_root : (p : Source) (b : Body) (callee : Callee) → CalleeIsThere p b callee → callee ≡ callees.Root → ⊥
there_no_root p b callee h e = subst (CalleeIsThere p b) e h

module _ (p : Source) (inputs : List ℤ) (well : IsTrue (is_well_named p)) where
  pub invoked_there : (fr : Frame) (start : ℕ) (history : List ℤ) (how : Invocation) (callee : Callee) (left : ℕ) → CalleeIsFit p fr.callee
      → frame_asks p inputs fr.callee history start ≡ asks_for (asks.Invoke how callee) left → CalleeIsThere p (body_of p fr.callee) callee
  invoked_there fr start history how callee left fit q = subst (λ (o : OpenAsk). AskIsThere p fr.callee o.ask) q (asks_there p well fr.callee fit inputs history start)

  starts_no_root : {fr : Frame} {start : ℕ} {history : List ℤ} {m : Memory} {r : Transcript} {es : List numbers.Event} {end : Ending} → Serial p inputs fr start history m r es end
      → CalleeIsFit p fr.callee → StartsNoRoot r
  starts_no_root (Made k left q inner ok rest) fit = starts_no_root rest fit
  starts_no_root (Ended v left q ok) fit = tt
  starts_no_root (Went {fr = fr} {start = start} {history = history} how callee left v left' m' q ok inner rest) fit =
      let there = invoked_there fr start history how callee left fit q in
      (there_no_root p (body_of p fr.callee) callee there, starts_no_root inner (there_fit p (body_of p fr.callee) callee there), starts_no_root rest fit)
  starts_no_root (Broke {fr = fr} {start = start} {history = history} how callee left f q ok inner) fit =
      let there = invoked_there fr start history how callee left fit q in
      (there_no_root p (body_of p fr.callee) callee there, starts_no_root inner (there_fit p (body_of p fr.callee) callee there), tt)
  starts_no_root (Refused k left f q bad) fit = tt

pub runs_start_no_root : (p : Source) (inputs : List ℤ) (r : Transcript) (es : List numbers.Event) (c : Conclusion) → IsTrue (is_well_named p) → IsSerialRun p inputs r es c → StartsNoRoot r
runs_start_no_root p inputs r es c well (end, d, e) = starts_no_root p inputs well d tt

-- ---- of each frame

-- what comes after an event of a frame is in order too, or it is the frame's end
order_after : (p : Source) (r : Transcript) (s : Stage) (k : Ask) → View (λ s'. IsOrderly p s' r) s k → ((s' : Stage) × IsOrderly p s' r) ⊎ ((v : ℤ) × (k ≡ asks.End v))
order_after p r (Fresh due) k (BeginsNow g) = inl (opened due, g)
order_after p r (Due first due) k (OpensNow g) = inl (opened due, g)
order_after p r (Going b) k (Goes plain g) = inl (Going b, g)
order_after p r (Going b) k (CallsNow g) = inl (Resuming b, g)
order_after p r (Going b) k (SpawnsNow g) = inl (Resuming true, g)
order_after p r (Going b) k (SyncsNow g) = inl (Synced, g)
order_after p r (Resuming b) k (ResumesNow g) = inl (Going b, g)
order_after p r Synced k (Again g) = order_after p r (Going false) k g
order_after p r Synced k (Gives g) = inl (Closing, g)
order_after p r Synced k (EndsNow {v = v}) = inr (v, refl)
order_after p r Closing k (EndsThen {v = v}) = inr (v, refl)

-- what comes after an event of a framed run is framed
framed_after : (due : DueNext) (e : Event) (t : Run FrameEnv) → IsFramed due (runs.act e t) → ((due' : DueNext) × IsFramed due' t) ⊎ (t ≡ runs.stop)
framed_after begin_due (Passes Begins) t f = inl (neither_due, f)
framed_after resume_due (Passes Resumes) t f = inl (neither_due, f)
framed_after neither_due (Reads c v) t f = inl (neither_due, f)
framed_after neither_due (Writes c v) t f = inl (neither_due, f)
framed_after neither_due Syncs t f = inl (neither_due, f)
framed_after neither_due (Ends v gone) t f = inr f
framed_after neither_due (Passes (Creates i)) t f = inl (neither_due, f)
framed_after neither_due (Passes (Updates i x)) t f = inl (neither_due, f)
framed_after neither_due (Passes (Sets i x)) t f = inl (neither_due, f)
framed_after neither_due (Passes (Values i n)) t f = inl (neither_due, f)
framed_after neither_due (Passes (Prints x)) t f = inl (neither_due, f)
framed_after due e t f = absurd f

framed_child : (due : DueNext) (how : _) (w : FrameEnv) (u t : Run FrameEnv) → IsFramed due (runs.child how w u t) → IsFramed begin_due u × IsFramed resume_due t
framed_child neither_due how w u t f = f
framed_child due how w u t f = absurd f

module _ (p : Source) (whole : Transcript) where
  act_frames : (w : FrameEnv) (j : ℕ) (k : Ask) (v : ℤ) (r : Transcript) → IsOwnAt k r → ((s : Stage) × IsOrderly p s r) ⊎ ((x : ℤ) × (k ≡ asks.End x))
      → ((due : DueNext) × IsFramed due (named_from p w (suc j) r)) ⊎ (named_from p w (suc j) r ≡ runs.stop)
      → ((s : Stage) (due : DueNext) → IsOrderly p s r → IsFramed due (named_from p w (suc j) r) → AllFrames p whole (named_from p w (suc j) r)) → AllFrames p whole (named_from p w (suc j) r)
  act_frames w j k v r own (inl o) (inl f) rest = rest o.0 f.0 o.1 f.1
  act_frames w j k v r own (inr e) f rest = subst (λ (r : Transcript). AllFrames p whole (named_from p w (suc j) r)) (sym (subst (λ (k : Ask). IsOwnAt k r) e.1 own)) tt
  act_frames w j k v r own (inl o) (inr e) rest = subst (AllFrames p whole) (sym e) tt

  rest_frames : (w : FrameEnv) (j : ℕ) (how : Invocation) (callee : Callee) (r : Transcript) → ((s : Stage) × IsOrderly p s r) ⊎ ((x : ℤ) × (asks.Invoke how callee ≡ asks.End x))
      → ((s : Stage) → IsOrderly p s r → AllFrames p whole (named_from p w (suc (suc j)) r)) → AllFrames p whole (named_from p w (suc (suc j)) r)
  rest_frames w j how callee r (inl o) rest = rest o.0 o.1
  rest_frames w j how callee r (inr e) rest = absurd (cc e.1)

  child_name : (w : FrameEnv) (path : List ℕ) (j : ℕ) → w.name ≡ up path → w.name ++ suc j ∷ [] ≡ up (path ++ j ∷ [])
  child_name w path j is = ap (λ (l : Name). l ++ suc j ∷ []) is ∙ sym (up_more path j)

  abbrev child_at_here : (w : FrameEnv) (path : List ℕ) (j : ℕ) (how : Invocation) (callee : Callee) (u r : Transcript) (n : Counts) → w.name ≡ up path → Ahead p whole path j (child how callee u r) n → IsHere p whole (w.name ++ suc j ∷ [])
  child_at_here w path j how callee u r n is a = record {
    path = path ++ j ∷ [];
    named = child_name w path j is;
    block = block_of p callee n;
    found = let e : j + 0 ≡ j = omega arith in subst (λ (j : ℕ). frame_at p whole (path ++ j ∷ []) ≡ Some (block_of p callee n)) e (a.blocks 0 []);
  }

  child_runs_here : (path : List ℕ) (j : ℕ) (how : Invocation) (callee : Callee) (u r : Transcript) (n : Counts) → Ahead p whole path j (child how callee u r) n → frame_runs whole (path ++ j ∷ []) ≡ Some callee
  child_runs_here path j how callee u r n a = let e : j + 0 ≡ j = omega arith in subst (λ (j : ℕ). frame_runs whole (path ++ j ∷ []) ≡ Some callee) e (a.runs 0 [])

  all_frames : (w : FrameEnv) (path : List ℕ) (j : ℕ) (s : Stage) (r : Transcript) (n : Counts) (due : DueNext) → w.name ≡ up path → Ahead p whole path j r n → IsOrderly p s r → StartsNoRoot r
      → IsFramed due (named_from p w (suc j) r) → AllFrames p whole (named_from p w (suc j) r)
  all_frames w path j s stop n due is a o z f = tt
  all_frames w path j s (act k v r) n due is a o z f =
      act_frames w j k v r o.1 (order_after p r s k (view s k (λ s'. IsOrderly p s' r) o.0)) (framed_after due (named_event p w k v) (named_from p w (suc j) r) f)
      (λ s' due' o' f'. all_frames w path j s' r n due' is (record { blocks = a.blocks; runs = a.runs }) o' z f')
  all_frames w path j s (child how callee u r) n due is a o z f =
      let c = child_env p w (suc j) callee in
      let f' = framed_child due how c (named_from p c 1 u) (named_from p w (suc (suc j)) r) f in
      let name = child_name w path j is in (
        record { here = child_at_here w path j how callee u r n is a; runs = child_runs_here path j how callee u r n a; opened = begins_opened p (w.name ++ suc j ∷ []) w.sight callee (λ e. absurd (z.0 e)) 1 u o.0 f'.0 },
        all_frames c (path ++ j ∷ []) 0 (Fresh (opening_asks p callee)) u (entered p callee n) begin_due name (child_ahead p whole path j how callee u r n a) o.0 z.1 f'.0,
        rest_frames w j how callee r (order_after p r s (asks.Invoke how callee) (view s (asks.Invoke how callee) (λ s'. IsOrderly p s' r) o.1))
            (λ s' o'. all_frames w path (suc j) s' r (counts_after p u (entered p callee n)) resume_due is (past_ahead p whole path j how callee u r n a) o' z.2 f'.1),
      )

-- of a serial run that ends without a fault: its first frame, and each that it starts
pub record FramesOpen (p : Source) (r : Transcript) : Type 0 where
  pub first : IsFrameOf p r (first_env p) (named p r)
  pub others : AllFrames p r (named p r)

pub frames_open : (p : Source) (inputs : List ℤ) (r : Transcript) (es : List numbers.Event) (outcome : Outcome) → IsTrue (is_well_named p) → IsSerialRun p inputs r es (Leaves outcome) → FramesOpen p r
frames_open p inputs r es outcome well run =
    let o = runs_orderly p inputs r es (Leaves outcome) run in
    let n = serial_numbered p inputs r es outcome well run in
    record {
      first = record { here = root_here p r; runs = refl; opened = begins_opened p [] [] callees.Root (λ e. refl) 1 r o n.framed };
      others = all_frames p r (first_env p) [] 0 (Fresh (opening_asks p callees.Root)) r (entered p callees.Root (unbegun p)) begin_due refl (root_ahead p r) o (runs_start_no_root p inputs r es (Leaves outcome) well run) n.framed;
    }
