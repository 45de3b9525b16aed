-- The table of an accepted run's reducers: `table_of`, `few_each`.
--
-- - `numbered_past`: frames are numbered in the order in which they begin;
-- - `frames_told`: the table has the reducers of each frame;
-- - `kinds_told`: and each reducer's monoid.
use Rattle.std.proofs.Common.{◌≡◌, ◌≢◌, ◌⊎◌, inl, inr, ℕ, zero, suc, ◌+◌, ◌-◌, ◌^◌, ◌<◌, ◌≤◌, ℤ, eqb, Bool, true, false, cond, ◌&&◌, IsTrue, List, [], ◌∷◌, ◌++◌, length, slice_get, slice_index_or, get_or, map, take, unwrap_or, Option, Some, None, refl, sym, ap, ◌∙◌, subst, arith, length-append}
use Rattle.std.proofs.lemmas.Bool.{false≢true, cases_lt, ne_eqb}
use Rattle.std.proofs.lemmas.Option.{slice_get_past, slice_get_within, slice_get-get_or, slice_get-map, get_or_from_slice_get}
use Rattle.std.proofs.lemmas.List.{take_more, length-map, map-append}
use Rattle.std.specs.Option.{option_map}
use mathlib.Core.Logic.{dite}
use native.Mathlib.Decide.{ℕ_discrete}
use Rattle.cilk_threads.proofs.Places.{nth_left, nth_right}
use Rattle.cilk_types.specs.declared.event.Event.{Event}
use Rattle.cilk_types.specs.declared.event.Event.TheVariants as events
use Rattle.cilk_monoid.specs.declared.kind.MonoidKind.{MonoidKind}
use Rattle.cilk_monoid.specs.declared.kind.MonoidKind.TheVariants.{Append}
use Rattle.cilk_monoid.proofs.SameKinds.{same_kind-eq}
use Rattle.cilk_program.specs.declared.ask.Callee.{Callee}
use Rattle.cilk_program.specs.declared.ask.Callee.TheVariants as callees
use Rattle.cilk_program.specs.declared.program.Body.{Body}
use Rattle.cilk_program.specs.declared.program.Body.TheVariants as body_kinds
use Rattle.cilk_program.specs.declared.program.Program.{Program}
use Rattle.cilk_program.specs.declared.program.Function as declared_functions
use Rattle.cilk_program.specs.declared.program.GlobalReducer.{GlobalReducer}
use Rattle.cilk_program.specs.Inside.{body_of}
use Rattle.cilk_program.specs.Outcomes.{Leaves}
use Rattle.cilk_program.specs.SerialRun.{Transcript, stop, act, child, IsSerialRun}
use Rattle.cilk_program.specs.Sources.{source}
use Rattle.cilk_program.specs.Programs.{function}
use Rattle.cilk_program.specs.Syntax.{Source, Function, function_at, main_of, idle}
use Rattle.cilk_program.specs.WellNamed.{is_kind, is_well_named}
use Rattle.cilk_program.specs.Numbering.{Counts, unbegun, entered, counts_after, Block, block_of, child_at}
use Rattle.cilk_program.proofs.Naming.{well_named_parts}
use Rattle.cilk_serial.specs.SoFar.{begun_in}
use Rattle.cilk_tree.specs.declared.mark.Mark.TheVariants as mark
use Rattle.cilk_tree.specs.Races.{event_at}
use Rattle.cilk_tree.specs.declared.event_order.EventOrder.{EventOrder}
use Rattle.cilk_tree.specs.Word.{event}
use Rattle.cilk_tree.proofs.Events.{mark_at}
use Rattle.cilk_tree.specs.declared.kind.Kind.{Kind}
use Rattle.cilk_tree.specs.declared.kind.Kind.TheVariants as kinds
use Rattle.cilk_tree.specs.Kinds.{kind_of as plan_kind}
use Rattle.cilk_tree.specs.Along.{IsAlong}
use Rattle.cilk_tree.specs.Planned.{planned}
use Rattle.cilk_shared.specs.declared.reducers.FrameReducers.{FrameReducers}
use Rattle.cilk_shared.specs.declared.reducers.Reducers.{Reducers}
use Rattle.cilk_shared.specs.Reducers.{own, frame_in, of_event, HasFew}
use Rattle.cilk_shared.specs.Settled.{AreSettled}
use Rattle.cilk_determinacy.specs.Runs.{Output, Reducer}
use Rattle.cilk_determinacy.specs.Numbers.{frame_number, all_reducers, child_runs}
use Rattle.cilk_determinacy.proofs.Numbers.{frame_is}
use Rattle.cilk_checker.specs.Determinate.{AcceptedRun, AreFramesOf, HasDeterminateRun}
use Rattle.cilk_lower.specs.declared.layout.PlannedFrame.{PlannedFrame}
use Rattle.cilk_checker.specs.Frames.{frames_of}
use Rattle.cilk_checker.proofs.Standing.{frames_stand}
use Rattle.cilk_threads.specs.Accepted.{IsTableOf, reducers_in}
use Rattle.cilk_threads.specs.Tables.{reducers_of, AreReducersOf, HaveTheirKinds}
use Rattle.cilk_threads.proofs.AlongSettled.{along_settled}
use Rattle.cilk_threads.proofs.Opened.{StartsNoRoot, runs_start_no_root}
use Rattle.cilk_threads.proofs.Settled.{first_mark, runs_settled}

-- ---- how frames are numbered

counts_frames : (p : Source) (r : Transcript) (n : Counts) → (let m = counts_after p r n in m.frames) ≡ n.frames + length (begun_in r)
counts_frames p stop n = let z : n.frames ≡ n.frames + 0 = omega arith in z
counts_frames p (act k a r) n = counts_frames p r n
counts_frames p (child how callee u r) n =
    let x = counts_frames p u (entered p callee n) in
    let y = counts_frames p r (counts_after p u (entered p callee n)) in
    let l = length-append (begun_in u) (begun_in r) in
    omega (arith, x, y, l)

module _ (p : Source) where
  same_block : (b c : Block) → Some b ≡ Some c → b ≡ c
  same_block b c h = cc h

  same_callee : (b c : Callee) → Some b ≡ Some c → b ≡ c
  same_callee b c h = cc h

  -- the frames that a run begins are numbered past those that are there
  numbered_past : (r : Transcript) (n : Counts) (k : ℕ) (path : List ℕ) (block : Block) → child_at p r n k path ≡ Some block → n.frames < block.number
  numbered_past stop n k path block found = let z : None ≡ Some block = found in absurd (cc z)
  numbered_past (act a v r) n k path block found = numbered_past r n k path block found
  numbered_past (child how c u r) n zero [] block found =
      let number : block.number ≡ suc n.frames = ap (λ (x : Block). x.number) (sym (same_block (block_of p c n) block found)) in
      omega (arith, number)
  numbered_past (child how c u r) n zero (j ∷ path) block found =
      let past : suc n.frames < block.number = numbered_past u (entered p c n) j path block found in
      omega (arith, past)
  numbered_past (child how c u r) n (suc k) path block found =
      let past = numbered_past r (counts_after p u (entered p c n)) k path block found in
      let more = counts_frames p u (entered p c n) in
      omega (arith, past, more)

  no_root_at : (r : Transcript) → StartsNoRoot r → (k : ℕ) (path : List ℕ) → child_runs r k path ≡ Some callees.Root → ⊥
  no_root_at stop h k path ran = let z : None ≡ Some callees.Root = ran in absurd (cc z)
  no_root_at (act a v r) h k path ran = no_root_at r h k path ran
  no_root_at (child how c u r) h zero [] ran = h.0 (same_callee c callees.Root ran)
  no_root_at (child how c u r) h zero (j ∷ path) ran = no_root_at u h.1 j path ran
  no_root_at (child how c u r) h (suc k) path ran = no_root_at r h.2 k path ran

-- the reducers of frames with these bodies; the first frame is the root's
pub record AreReducersIn (p : Source) (bodies : List Body) (frames : List FrameReducers) : Type 0 where
  pub root : slice_get frames 0 ≡ Some (reducers_of p callees.Root)
  pub others : (k : ℕ) (body : Body) → slice_get bodies (suc k) ≡ Some body → slice_get frames (suc k) ≡ Some (reducers_in p body)
  pub few : (k : ℕ) (o : FrameReducers) → slice_get frames k ≡ Some o → length o.kinds ≤ 128

-- ---- the table
in_body : (p : Source) (callee : Callee) → (callee ≡ callees.Root → ⊥) → reducers_in p (body_of p callee) ≡ reducers_of p callee
in_body p callees.Root h = absurd (h refl)
in_body p (callees.Function c) h = refl
in_body p (callees.Loop l) h = refl

own_at : (frames : List FrameReducers) (n k : ℕ) (o : FrameReducers) → n ≡ suc k → slice_get frames k ≡ Some o → own (record { frames = frames }) n ≡ o
own_at frames n k o e is =
    let z : n - 1 ≡ k = omega (arith, e) in
    ap (λ (j : ℕ). slice_index_or frames j (record { kinds = []; outlive = 0 })) z ∙ get_or_from_slice_get frames k o (record { kinds = []; outlive = 0 }) is

-- what planned frames run
abbrev pub bodies_in : List PlannedFrame → List Body
bodies_in = map (λ (f : PlannedFrame). f.body)

frames_told : (a : AcceptedRun) → IsTrue (is_well_named (source a.program)) → (placed : List PlannedFrame) (frames : List FrameReducers) → AreFramesOf a placed → AreReducersIn (source a.program) (bodies_in placed) frames
    → (run : Transcript) → IsSerialRun (source a.program) a.input run a.trace (Leaves a.outcome) → AreReducersOf (source a.program) run (record { frames = frames })
frames_told a well placed frames are laid run serial [] block callee found ran =
    let p = source a.program in
    let b : block_of p callees.Root (unbegun p) ≡ block = same_block p (block_of p callees.Root (unbegun p)) block found in
    let number : block.number ≡ suc 0 = ap (λ (x : Block). x.number) (sym b) in
    own_at frames block.number 0 (reducers_of p callees.Root) number laid.root ∙ ap (reducers_of p) (same_callee p callees.Root callee ran)
frames_told a well placed frames are laid run serial (k ∷ path) block callee found ran =
    let p = source a.program in
    let past : 1 < block.number = numbered_past p run (entered p callees.Root (unbegun p)) k path block found in
    let i = block.number - 2 in
    let place : block.number - 1 ≡ suc i = omega (arith, past) in
    let number : block.number ≡ suc (suc i) = omega (arith, past) in
    let stands : slice_get placed (suc i) ≡ Some (record { body = body_of p callee; first_cell = block.first; cells = block.cells }) =
    ap (λ (l : List PlannedFrame). slice_get l (suc i)) (are run serial) ∙ ap (slice_get (frames_of p run)) (sym place) ∙ frames_stand p run (k ∷ path) block callee found ran in
    let body : slice_get (bodies_in placed) (suc i) ≡ Some (body_of p callee) =
    slice_get-map (λ (f : PlannedFrame). f.body) placed (suc i) ∙ ap (option_map (λ (f : PlannedFrame). f.body)) stands in
    own_at frames block.number (suc i) (reducers_in p (body_of p callee)) number (laid.others i (body_of p callee) body)
    ∙ in_body p callee (λ e. no_root_at p run (runs_start_no_root p a.input run a.trace (Leaves a.outcome) well serial) k path (ran ∙ ap Some e))

-- ---- monoids
pub no_output : (b : Bool) (n : ℕ) → (b && eqb 0 (suc n)) ≡ false
no_output true n = ne_eqb 0 (suc n) (λ e. omega (arith, e))
no_output false n = refl

of_kind : (o : Option MonoidKind) (k : MonoidKind) → IsTrue (is_kind o k) → o ≡ Some k
of_kind None k h = absurd (false≢true h)
of_kind (Some j) k h = ap Some (same_kind-eq j k h)

pub kinds_told : (p : Source) (run : Transcript) (r : Reducers) → AreReducersOf p run r → HaveTheirKinds p run r
kinds_told p run r table Output here = absurd here
kinds_told p run r table (Reducer name n k) h =
    let b = h.here in
    let number = frame_is p run name b in
    let mine : own r (frame_number p run name) ≡ reducers_of p h.callee = ap (own r) number ∙ table b.path b.block h.callee b.found h.runs in
    let z : suc n - 1 ≡ n = omega arith in
    ap (λ (t : Bool). cond t Append (let o = own r (frame_number p run name) in slice_index_or o.kinds (suc n - 1) Append)) (no_output (eqb 0 (frame_number p run name)) n)
    ∙ ap (λ (o : FrameReducers). slice_index_or o.kinds (suc n - 1) Append) mine
    ∙ ap (λ (m : ℕ). slice_index_or (all_reducers p h.callee) m Append) z
    ∙ get_or_from_slice_get (all_reducers p h.callee) n k Append (of_kind (slice_get (all_reducers p h.callee) n) k h.declared)

-- ---- few
past_all : (l : List FrameReducers) (k : ℕ) → length l ≤ k → slice_index_or l k (record { kinds = []; outlive = 0 }) ≡ record { kinds = []; outlive = 0 }
past_all [] k le = refl
past_all (o ∷ l) zero le = absurd (omega (arith, le))
past_all (o ∷ l) (suc k) le = past_all l k (omega (arith, le))

pub few_each : (p : Source) (bodies : List Body) (frames : List FrameReducers) → AreReducersIn p bodies frames → HasFew (record { frames = frames })
few_each p bodies frames laid f = by (cases_lt (f - 1) (length frames))
  where
    by : (f - 1 < length frames) ⊎ (length frames ≤ f - 1) → (let o = own (record { frames = frames }) f in length o.kinds) < 2 ^ 32
    by (inl less) =
        let there = slice_get-get_or frames (f - 1) (record { kinds = []; outlive = 0 }) less in
        let few = laid.few (f - 1) (own (record { frames = frames }) f) there in
        omega (arith, few)
    by (inr le) = subst (λ (o : FrameReducers). length o.kinds < 2 ^ 32) (sym (past_all frames (f - 1) le)) (omega arith)

-- ---- the table while it is made
pub record LaidSoFar (p : Source) (bodies : List Body) (place : ℕ) (frames : List FrameReducers) : Type 0 where
  pub begun : 1 ≤ place
  pub long : length frames ≡ place
  pub root : slice_get frames 0 ≡ Some (reducers_of p callees.Root)
  pub others : (k : ℕ) (body : Body) → suc k < place → slice_get bodies (suc k) ≡ Some body → slice_get frames (suc k) ≡ Some (reducers_in p body)
  pub few : (k : ℕ) (o : FrameReducers) → slice_get frames k ≡ Some o → length o.kinds ≤ 128

same_frame : (a b : FrameReducers) → Some a ≡ Some b → a ≡ b
same_frame a b h = cc h

few_more : (frames : List FrameReducers) (x : FrameReducers) → length x.kinds ≤ 128 → ((k : ℕ) (o : FrameReducers) → slice_get frames k ≡ Some o → length o.kinds ≤ 128)
    → (k : ℕ) (o : FrameReducers) → slice_get (frames ++ x ∷ []) k ≡ Some o → length o.kinds ≤ 128
few_more [] x here h zero o is = subst (λ (o : FrameReducers). length o.kinds ≤ 128) (same_frame x o is) here
few_more [] x here h (suc k) o is = let z : None ≡ Some o = is in absurd (cc z)
few_more (y ∷ frames) x here h zero o is = h 0 o is
few_more (y ∷ frames) x here h (suc k) o is = few_more frames x here (λ k o. h (suc k) o) k o is

pub laid_first : (p : Source) (bodies : List Body) (frames : List FrameReducers) (o : FrameReducers) → frames ≡ o ∷ [] → o ≡ reducers_of p callees.Root → length o.kinds ≤ 128 → LaidSoFar p bodies 1 frames
laid_first p bodies frames o is root_is small = subst (LaidSoFar p bodies 1) (sym is) (record {
  begun = omega arith;
  long = refl;
  root = ap Some root_is;
  others = λ k body less at. absurd (omega (arith, less));
  few = few_more [] o small (λ k x at. let z : None ≡ Some x = at in absurd (cc z));
})

pub laid_next : (p : Source) (bodies : List Body) (place : ℕ) (frames frames' : List FrameReducers) (o : FrameReducers) (body : Body) → LaidSoFar p bodies place frames → slice_get bodies place ≡ Some body
    → o ≡ reducers_in p body → length o.kinds ≤ 128 → frames' ≡ frames ++ o ∷ [] → LaidSoFar p bodies (place + 1) frames'
laid_next p bodies place frames frames' o body h at is small more = subst (LaidSoFar p bodies (place + 1)) (sym more) (record {
  begun = let s = h.begun in omega (arith, s);
  long = let l = h.long in let n = length-append frames (o ∷ []) in omega (arith, l, n);
  root = let s = h.begun in let l = h.long in nth_left frames (o ∷ []) 0 (omega (arith, s, l)) ∙ h.root;
  others = λ k body' less there. dite (ℕ_discrete (suc k) place)
      (λ (here : suc k ≡ place).
      let same : body ≡ body' = same_body body body' (sym at ∙ ap (slice_get bodies) (sym here) ∙ there) in
      let l = h.long in
      let z : suc k ≡ length frames + 0 = omega (arith, here, l) in
      ap (slice_get (frames ++ o ∷ [])) z ∙ nth_right frames (o ∷ []) 0 ∙ ap Some (is ∙ ap (reducers_in p) same))
      (λ (apart : suc k ≢ place).
      let l = h.long in
      nth_left frames (o ∷ []) (suc k) (omega (arith, less, apart, l)) ∙ h.others k body' (omega (arith, less, apart)) there);
  few = few_more frames o small h.few;
})
  where
    same_body : (a b : Body) → Some a ≡ Some b → a ≡ b
    same_body a b h = cc h

laid_all : (p : Source) (bodies : List Body) (place : ℕ) (frames : List FrameReducers) → LaidSoFar p bodies place frames → length bodies ≤ place → AreReducersIn p bodies frames
laid_all p bodies place frames h all = record {
  root = h.root;
  others = λ k body there. let less = slice_get_within bodies (suc k) body there in h.others k body (omega (arith, less, all)) there;
  few = h.few;
}

-- each has few, as the program has
few_root : (p : Source) → IsTrue (is_well_named p) → (let o = reducers_of p callees.Root in length o.kinds) ≤ 128
few_root p well =
    let parts = well_named_parts p well in
    let main = parts.functions p.main parts.main in
    let f = main_of p in
    let a = parts.reducers in
    let b = main.reducers in
    let n = length-append p.reducers f.reducers in
    omega (arith, a, b, n)

few_in : (p : Source) → IsTrue (is_well_named p) → (body : Body) → (let o = reducers_in p body in length o.kinds) ≤ 128
few_in p well (body_kinds.Loop n) = omega arith
few_in p well (body_kinds.Function n) = by (cases_lt n (length p.functions))
  where
    by : (n < length p.functions) ⊎ (length p.functions ≤ n) → (let f = function_at p n in length f.reducers) ≤ 128
    by (inl less) =
        let parts = well_named_parts p well in
        let named = parts.functions n less in
        let a = named.reducers in
        omega (arith, a)
    by (inr past) = subst (λ (o : Option Function). (let f = unwrap_or o idle in length f.reducers) ≤ 128) (sym (slice_get_past p.functions n past)) (omega arith)

pub laid_begin : (q p : Program) → q ≡ p → IsTrue (is_well_named (source p)) → (bodies : List Body) (frames : List FrameReducers) (o : FrameReducers) → frames ≡ o ∷ [] → o ≡ reducers_of (source q) callees.Root → LaidSoFar (source p) bodies 1 frames
laid_begin q p same well bodies frames o is root =
    let here : o ≡ reducers_of (source p) callees.Root = root ∙ ap (λ (x : Program). reducers_of (source x) callees.Root) same in
    laid_first (source p) bodies frames o is here (subst (λ (o : FrameReducers). length o.kinds ≤ 128) (sym here) (few_root (source p) well))

pub laid_step : (q p : Program) → q ≡ p → IsTrue (is_well_named (source p)) → (placed : List PlannedFrame) (place : ℕ) (frames frames' : List FrameReducers) (o : FrameReducers) (d : PlannedFrame)
    → LaidSoFar (source p) (bodies_in placed) place frames → place < length placed → o ≡ reducers_in (source q) (let f = get_or placed place d in f.body) → frames' ≡ frames ++ o ∷ []
    → LaidSoFar (source p) (bodies_in placed) (place + 1) frames'
laid_step q p same well placed place frames frames' o d h less own_is more =
    let f = get_or placed place d in
    let here : o ≡ reducers_in (source p) f.body = own_is ∙ ap (λ (x : Program). reducers_in (source x) f.body) same in
    laid_next (source p) (bodies_in placed) place frames frames' o f.body h
    (slice_get-map (λ (x : PlannedFrame). x.body) placed place ∙ ap (option_map (λ (x : PlannedFrame). x.body)) (slice_get-get_or placed place d less)) here
    (subst (λ (o : FrameReducers). length o.kinds ≤ 128) (sym here) (few_in (source p) well f.body)) more

pub laid_whole : (p : Source) (placed : List PlannedFrame) (place : ℕ) (frames : List FrameReducers) → LaidSoFar p (bodies_in placed) place frames → length placed ≤ place → AreReducersIn p (bodies_in placed) frames
laid_whole p placed place frames h all = let long = length-map placed (λ (f : PlannedFrame). f.body) in laid_all p (bodies_in placed) place frames h (omega (arith, long, all))

-- of a program of the code
pub globals_next : (rs : List GlobalReducer) (n : ℕ) (g : GlobalReducer) (kinds kinds' : List MonoidKind) → n < length rs → g ≡ get_or rs n g → kinds ≡ map (λ (r : GlobalReducer). r.kind) (take n rs) → kinds' ≡ kinds ++ g.kind ∷ []
    → kinds' ≡ map (λ (r : GlobalReducer). r.kind) (take (n + 1) rs)
globals_next rs n g kinds kinds' less is so_far more =
    more ∙ ap (λ (l : List MonoidKind). l ++ g.kind ∷ []) so_far
    ∙ sym (ap (map (λ (r : GlobalReducer). r.kind)) (take_more rs n g less ∙ ap (λ (x : GlobalReducer). take n rs ++ x ∷ []) (sym is)) ∙ map-append (λ (r : GlobalReducer). r.kind) (take n rs) (g ∷ []))

pub function_reducers : (p : Source) (fs : List declared_functions.Function) (n : ℕ) (f : declared_functions.Function) → p.functions ≡ map function fs → slice_get fs n ≡ Some f → (let g = function_at p n in g.reducers) ≡ f.reducers
function_reducers p fs n f is at =
    ap (λ (l : List Function). let g = unwrap_or (slice_get l n) idle in g.reducers) is
    ∙ ap (λ (o : Option Function). let g = unwrap_or o idle in g.reducers) (slice_get-map function fs n ∙ ap (option_map function) at)

pub no_function : (p : Source) (fs : List declared_functions.Function) (n : ℕ) → p.functions ≡ map function fs → slice_get fs n ≡ None → (let g = function_at p n in g.reducers) ≡ []
no_function p fs n is at =
    ap (λ (l : List Function). let g = unwrap_or (slice_get l n) idle in g.reducers) is
    ∙ ap (λ (o : Option Function). let g = unwrap_or o idle in g.reducers) (slice_get-map function fs n ∙ ap (option_map function) at)

-- ---- what is settled
no_event : (r : Reducers) (f g : ℕ) (o : Option Event) → option_map plan_kind o ≡ Some (kinds.Begin g) → of_event r f o ≡ []
no_event r f g (Some (events.Begin n)) h = refl
no_event r f g o h = absurd (cc h)

a_begin : (o : Option Event) → mark_at o ≡ mark.Begin → (f : ℕ) × (option_map plan_kind o ≡ Some (kinds.Begin f))
a_begin (Some (events.Begin f)) e = (f, refl)
a_begin o e = absurd (cc e)

pub table_of : (a : AcceptedRun) → HasDeterminateRun a → IsTrue (is_well_named (source a.program)) → (placed : List PlannedFrame) (list : List FrameReducers) → AreFramesOf a placed → AreReducersIn (source a.program) (bodies_in placed) list
    → IsTableOf a (record { frames = list })
table_of a is well placed list are laid = record {
  frames = told;
  kinds = λ run serial. kinds_told (source a.program) run (record { frames = list }) (told run serial);
  settled = λ plan s of_run along. along_settled plan s (record { frames = list }) along (subst (λ (z : EventOrder). AreSettled z (record { frames = list })) (sym of_run.event_order) (in_run plan.opening));
  quiet = λ plan s of_run along.
      let here = first_begins plan of_run.event_order in
      no_event (record { frames = list }) (frame_in s.events 1) here.0 (event s 1) (kind_at plan s along ∙ here.1);
}
  where
    told : (run : Transcript) → IsSerialRun (source a.program) a.input run a.trace (Leaves a.outcome) → AreReducersOf (source a.program) run (record { frames = list })
    told = frames_told a well placed list are laid

    in_run : (opening : List ℤ) → AreSettled (planned a.trace opening) (record { frames = list })
    in_run opening =
        let ran = is.1.ended.ran in
        runs_settled (source a.program) a.input ran.run a.trace a.outcome opening is.0 (record { frames = list }) well ran.serial is.1.ended.spells is.1.view_races (told ran.run ran.serial)

    first_begins : (plan : EventOrder) → plan ≡ planned a.trace plan.opening → (f : ℕ) × (option_map plan_kind (event plan 1) ≡ Some (kinds.Begin f))
    first_begins plan e = subst (λ (z : EventOrder). (f : ℕ) × (option_map plan_kind (event z 1) ≡ Some (kinds.Begin f))) (sym e) (a_begin (event_at a.trace 1) (first_mark is.0 a.trace is.1.ended.spells))

    kind_at : (plan s : EventOrder) → IsAlong plan s → option_map plan_kind (event s 1) ≡ option_map plan_kind (event plan 1)
    kind_at plan s along = sym (slice_get-map plan_kind s.events 0) ∙ ap (λ (ks : List Kind). slice_get ks 0) along.kinds ∙ slice_get-map plan_kind plan.events 0
