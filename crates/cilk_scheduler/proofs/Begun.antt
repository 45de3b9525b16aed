-- From what the functions promise by numbers to a worker's frame that has started another.
--
-- - `changed_front`: a change of a frame before the last;
-- - `invocations_are_noted`: the law;
-- - `set_there`, `set_twice`, `begins_as`: what the function does, step by step.
use Rattle.std.proofs.Common.{◌≡◌, ◌+◌, ◌-◌, ◌<◌, ℕ, zero, suc, ℤ, pos, List, [], ◌∷◌, ◌++◌, length, replicate, slice_get, slice_index_or, slice_set, Some, refl, sym, ap, ◌∙◌, subst, arith}
use Rattle.cilk_types.specs.declared.invocation.Invocation.{Invocation}
use Rattle.cilk_program.specs.SerialRun.{invocation}
use Rattle.cilk_program.specs.Syntax.{Source}
use Rattle.cilk_program.specs.declared.ask.Ask.TheVariants as asks
use Rattle.cilk_program.specs.declared.ask.Callee.{Callee}
use Rattle.cilk_lower.specs.Code.{CodeView}
use Rattle.cilk_lower.specs.Layout.{cells_in}
use Rattle.cilk_frames.specs.declared.activation.Activation.{Activation}
use Rattle.cilk_scheduler.specs.declared.scheduler.Scheduler.{Scheduler}
use Rattle.cilk_scheduler.specs.declared.frame_state.FrameState.{FrameState}
use Rattle.cilk_scheduler.specs.declared.frame_state.Status.{Status}
use Rattle.cilk_scheduler.specs.declared.frame_state.Worker.{Worker}
use Rattle.cilk_scheduler.specs.Invocations.{ChildBegins, GoesToChild, HasGoneOn, InvocationsAreNoted, IsNoted, left_at, newly_offered, offering}
use Rattle.cilk_scheduler.specs.Invoking.{IsChild}
use Rattle.cilk_scheduler.specs.FrameStates.{changed, counted, started_at}
use Rattle.cilk_scheduler.specs.Steps.{HasCome}
use Rattle.cilk_scheduler.specs.Workers.{altered}
use Rattle.cilk_scheduler.proofs.Changing.{changed_here, changed_length, changed_twice}
use Rattle.cilk_scheduler.proofs.Children.{first_part}
use Rattle.cilk_scheduler.proofs.Placed.{get_there}
use Rattle.cilk_scheduler.proofs.Plain.{get_low}

pub changed_front : {C : Type 0} (f : C → C) (l m : List (Activation C)) (k : ℕ) → k < length l → changed f (l ++ m) k ≡ changed f l k ++ m
changed_front f [] m k low = absurd (omega (arith, low))
changed_front f (x ∷ l) m zero low = refl
changed_front f (x ∷ l) m (suc k) low = ap (λ z. x ∷ z) (changed_front f l m k (omega (arith, low)))

module _ (code : CodeView) (p : Source) (inputs : List ℤ) (b went begun b' : Scheduler) (w k : ℕ) (how : Invocation) (callee : Callee) (h : HasCome code p inputs b w k (asks.Invoke how callee)) (child : Activation FrameState)
    (gone : HasGoneOn b went k h.came) (is_child : (let f = went.frames in let c = went.cells in IsChild code f.items k w (length c.items) how callee child)) (begins : ChildBegins went begun w k how child (cells_in code.layout callee))
    (noted : IsNoted begun b' k (let f = went.frames in invocation how (suc (length f.items)))) where
  abbrev old : List (Activation FrameState)
  old = let f = b.frames in f.items

  abbrev on : List (Activation FrameState)
  on = let f = went.frames in f.items

  same_length : length on ≡ length old
  same_length = ap (λ (l : List (Activation FrameState)). length l) gone.frames ∙ changed_length (λ _. h.came) old k

  low_on : k < length on
  low_on = let e = same_length in let l = get_low old k h.frame_state h.sits in omega (arith, e, l)

  abbrev top : Activation FrameState
  top = let a = h.frame_state in record a { cursor = h.came }

  top_at : slice_get on k ≡ Some top
  top_at = ap (λ l. slice_get l k) gone.frames ∙ changed_here (λ _. h.came) old k h.frame_state h.sits

  abbrev start : ℕ → FrameState → FrameState
  start n x = counted (started_at (left_at how w) n x)

  before_is : (let g = begins in g.before) ≡ h.worker
  before_is = let q : Some begins.before ≡ Some h.worker = sym begins.at ∙ ap (λ l. slice_get l w) gone.workers ∙ h.at in cc

  frames_are : (let g = b'.frames in g.items) ≡ changed (λ _. start (length old) h.came) old k ++ child ∷ []
  frames_are =
      noted.frames ∙ ap (λ l. changed counted l k) begins.frames ∙ changed_twice counted (started_at (left_at how w) (length on)) (on ++ child ∷ []) k ∙ changed_front (start (length on)) on (child ∷ []) k low_on
      ∙ ap (λ l. changed (start (length on)) l k ++ child ∷ []) gone.frames ∙ ap (λ l. l ++ child ∷ []) (changed_twice (start (length on)) (λ _. h.came) old k)
      ∙ ap (λ n. changed (λ _. start n h.came) old k ++ child ∷ []) same_length

  ticks_are : (let y = h.came in b'.ticks ≡ b.ticks + (y.took - y.counted))
  ticks_are =
      noted.ticks (record top { cursor = started_at (left_at how w) (length on) h.came })
      (ap (λ l. slice_get l k) begins.frames ∙ changed_here (started_at (left_at how w) (length on)) (on ++ child ∷ []) k top (first_part on (child ∷ []) k top top_at))
      ∙ ap (λ n. n + (let y = h.came in y.took - y.counted)) (begins.ticks ∙ gone.ticks)

  pub goes : GoesToChild code p inputs b b' w k how callee h
  goes =
      let hands = begins.hands in record {
        child = child;
        worker = begins.after;
        is_child = subst (λ n. IsChild code (changed (λ _. h.came) old k) k w n how callee child) (ap (λ (l : List ℤ). length l) gone.cells)
            (subst (λ l. IsChild code l k w (let c = went.cells in length c.items) how callee child) gone.frames is_child);
        frames = frames_are;
        cells = noted.cells ∙ begins.cells ∙ ap (λ l. l ++ replicate (cells_in code.layout callee) (pos 0)) gone.cells;
        has = hands.0 ∙ ap (λ n. Some n) same_length;
        views = hands.1 ∙ ap (λ (u : Worker). u.views) before_is;
        offers = hands.2 ∙ ap (λ (u : Worker). let o = u.offered in offering how k o.items) before_is;
        workers = noted.workers ∙ begins.workers ∙ ap (λ l. altered (λ _. begins.after) l w) gone.workers;
        offered = noted.offered ∙ begins.offered ∙ ap (λ n. n + newly_offered how) gone.offered;
        journal = noted.journal ∙ ap (λ l. l ++ (record { frame = k; event = invocation how (suc (length on)) }) ∷ []) (begins.journal ∙ gone.journal)
            ∙ ap (λ n. (let e = b.journal in e.items) ++ (record { frame = k; event = invocation how (suc n) }) ∷ []) same_length;
        ticks = ticks_are;
        outcome = noted.outcome ∙ begins.outcome ∙ gone.outcome;
      }

pub invocations_are_noted : (code : CodeView) (p : Source) (inputs : List ℤ) → InvocationsAreNoted code p inputs
invocations_are_noted code p inputs b went begun b' w k how callee h child gone is_child begins noted = goes code p inputs b went begun b' w k how callee h child gone is_child begins noted

-- ---- what the function does, step by step

module _ (v : Worker) where
  pub set_there : (ws : List Worker) (w : ℕ) (m : Worker) → w < length ws → m ≡ slice_index_or (slice_set ws w v) w m → m ≡ v
  set_there [] w m low e = absurd (omega (arith, low))
  set_there (x ∷ ws) zero m low e = e
  set_there (x ∷ ws) (suc w) m low e = set_there ws w m (omega (arith, low)) e

  pub set_twice : (ws : List Worker) (w : ℕ) (x : Worker) → slice_set (slice_set ws w v) w x ≡ altered (λ _. x) ws w
  set_twice [] w x = refl
  set_twice (y ∷ ws) zero x = refl
  set_twice (y ∷ ws) (suc w) x = ap (λ l. y ∷ l) (set_twice ws w x)

pub begins_as : (b b' : Scheduler) (w k place : ℕ) (how c : Invocation) (child : Activation FrameState) (count : ℕ) (u v m : Worker) (status : Status) → how ≡ c → status ≡ left_at c w → (let f = b.frames in place ≡ length f.items)
    → (let l = b.workers in w < length l.items) → (let l = b.workers in u ≡ slice_index_or l.items w u) → (let l = b.workers in m ≡ slice_index_or (slice_set l.items w v) w m)
    → (let o = u.offered in let q = v.offered in q.items ≡ offering how k o.items) → v.views ≡ u.views → (let l = b.workers in let n = b'.workers in n.items ≡ slice_set (slice_set l.items w v) w (record m { frame = Some place }))
    → (more : List (Activation FrameState)) → (let f = b.frames in more ≡ f.items ++ child ∷ []) → (let g = b'.frames in g.items ≡ changed (started_at status place) more k) → (let f = b.cells in let g = b'.cells in g.items ≡ f.items ++ replicate count (pos 0))
    → b'.offered ≡ b.offered + newly_offered c → (let e = b.journal in let l = b'.journal in l.items ≡ e.items) → b'.ticks ≡ b.ticks → b'.outcome ≡ b.outcome → ChildBegins b b' w k how child count
begins_as b b' w k place how c child count u v m status is left last low was there offers views workers more more_is frames cells offered journal ticks outcome =
    let l = b.workers in
    let f = b.frames in
    let same = set_there v l.items w m low there in record {
      before = u;
      after = record m { frame = Some place };
      at = get_there l.items w u was low;
      hands = (ap Some last, ap (λ (x : Worker). x.views) same ∙ views, ap (λ (x : Worker). let o = x.offered in o.items) same ∙ offers);
      workers = workers ∙ set_twice v l.items w (record m { frame = Some place });
      frames = frames ∙ ap (λ z. changed (started_at status place) z k) more_is ∙ ap (λ n. changed (started_at status n) (f.items ++ child ∷ []) k) last
          ∙ ap (λ z. changed (started_at z (length f.items)) (f.items ++ child ∷ []) k) (left ∙ ap (λ z. left_at z w) (sym is));
      cells = cells;
      offered = offered ∙ ap (λ z. b.offered + newly_offered z) (sym is);
      journal = journal;
      ticks = ticks;
      outcome = outcome;
    }
