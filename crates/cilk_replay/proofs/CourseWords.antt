-- All values of a course's events are words, if the plan's are: `course_words`.
use Rattle.std.proofs.Common.{◌≡◌, ◌≤◌, ◌+◌, ℕ, suc, ℤ, Bool, true, false, cond, List, [], ◌∷◌, ◌++◌, length, Option, Some, None, refl, sym, subst, arith, length-append}
use Rattle.cilk_types.specs.Word.{IsWord}
use Rattle.cilk_types.specs.declared.invocation.Invocation.{Invocation}
use Rattle.cilk_monoid.specs.declared.kind.MonoidKind.{MonoidKind}
use Rattle.cilk_monoid.specs.Kinds.{structure_of, size_of}
use Rattle.cilk_monoid.specs.Values.{ViewValue}
use Rattle.cilk_program.specs.declared.ask.Ask as language
use Rattle.cilk_program.specs.declared.ask.Ask.TheVariants as asks
use Rattle.cilk_program.specs.Syntax.{Source}
use Rattle.cilk_types.specs.declared.limits.TheConstants.{MAX_TICKS}
use Rattle.cilk_determinacy.specs.Runs.{Cell, same_cell, Instance, same_instance, Output, has_instance, Begin, Resume, Create, Update, Set, Value, Print, Ask, Read, Write, Invoke, Sync, End, Pass, Fail, Begins, Resumes, Creates, Updates, Sets, Values, Prints, Event, Reads, Writes, Syncs, Ends, Passes, Deed, Does, Invokes, Run, ask_of}
use Rattle.cilk_determinacy.specs.Runs as runs
use Rattle.cilk_determinacy.specs.Machine.{started, put}
use Rattle.cilk_determinacy.specs.Monoids.{on_view}
use Rattle.cilk_determinacy.specs.Serial.{value_after, IsReadRight}
use Rattle.cilk_determinacy.specs.Traces.{trace}
use Rattle.cilk_determinacy.specs.Views.{view_after, IsViewRight}
use Rattle.cilk_determinacy.specs.FrameEnvMachine.{named_ask, answer_of, answers_of, has_ended, asked_after, next}
use Rattle.cilk_determinacy.specs.Reducers.{View, kind_of, views_of, monoid_of}
use Rattle.cilk_determinacy.specs.FrameEnvViews.{IsViewOf}
use Rattle.cilk_determinacy.specs.FrameEnvs.{FrameEnv}
use Rattle.cilk_determinacy.proofs.Histories.{answers_more}
use Rattle.cilk_determinacy.proofs.FrameEnvViews.{are_multiplied}
use Rattle.cilk_determinacy.specs.Words.{AreWords, HasWords, InputsAreWords}
use Rattle.cilk_determinacy.proofs.Worded.{zero_word, AskWords, CalleeWords, asks_words}
use Rattle.cilk_determinacy.proofs.Wordy.{more_words, number_word, update_size, single_size, unit_size}
use Rattle.cilk_replay.specs.InputCourses.{Course, stop, act, child, run_of, all_asked, IsMadeFor, IsStartedFor, IsCourse}

-- a view of the language, no longer than this
record IsViewed (k : MonoidKind) (v : View) (n : ℕ) : Type 0 where
  view : ViewValue
  is : IsViewOf k v view
  short : size_of view ≤ n

longer : (k : MonoidKind) (v : View) (n m : ℕ) → n ≤ m → IsViewed k v n → IsViewed k v m
longer k v n m low h = let s = h.short in record { view = h.view; is = h.is; short = omega (arith, s, low) }

unit_viewed : (k : MonoidKind) (n : ℕ) → IsViewed k ((views_of k).unit) n
unit_viewed k n = let m = are_multiplied in let s = unit_size k in record { view = (structure_of k).unit; is = m.unit k; short = omega (arith, s) }

single_viewed : (k : MonoidKind) (x : ℤ) (n : ℕ) → IsWord x → IsViewed k ((views_of k).single x) (suc n)
single_viewed k x n w = let m = are_multiplied in let s = single_size k x in record { view = (structure_of k).single x; is = m.single k x w; short = omega (arith, s) }

update_viewed : (k : MonoidKind) (v : View) (x : ℤ) (n : ℕ) → IsWord x → IsViewed k v n → IsViewed k ((views_of k).combine v ((views_of k).single x)) (suc n)
update_viewed k v x n w h =
    let m = are_multiplied in
    let s = update_size k h.view x in
    let t = h.short in
    record {
      view = (structure_of k).combine h.view ((structure_of k).single x);
      is = m.join k v ((views_of k).single x) h.view ((structure_of k).single x) h.is (m.single k x w);
      short = omega (arith, s, t);
    }

cond_viewed : (k : MonoidKind) (b : Bool) (v w : View) (n : ℕ) → IsViewed k v n → IsViewed k w n → IsViewed k (cond b v w) n
cond_viewed k true v w n h g = h
cond_viewed k false v w n h g = g

abbrev AreViewed : (Instance → View) → ℕ → Type 0
AreViewed views n = (i : Instance) → IsViewed (kind_of i) (views i) n

view_word : (i : Instance) (views : Instance → View) (n : ℕ) → n ≤ 1000000 → AreViewed views n → IsWord ((monoid_of i).number (views i))
view_word i views n few h =
    let m = are_multiplied in
    let v = h i in
    let s = v.short in
    subst IsWord (sym (m.number (kind_of i) (views i) v.view v.is)) (let g = v.is in number_word (kind_of i) v.view g.member (omega (arith, s, few)))

-- ---- events, requests and runs of words

abbrev pub EventWords : Event → Type 0
EventWords (Reads c v) = IsWord v
EventWords (Writes c v) = IsWord v
EventWords Syncs = Unit {0}
EventWords (Ends v gone) = Unit {0}
EventWords (Passes Begins) = Unit {0}
EventWords (Passes Resumes) = Unit {0}
EventWords (Passes (Creates i)) = Unit {0}
EventWords (Passes (Updates i x)) = IsWord x
EventWords (Passes (Sets i x)) = IsWord x
EventWords (Passes (Values i x)) = IsWord x
EventWords (Passes (Prints x)) = IsWord x

abbrev pub RunWords : Run FrameEnv → Type 0
RunWords runs.stop = Unit {0}
RunWords (runs.act e r) = EventWords e × RunWords r
RunWords (runs.child k v u r) = CalleeWords v.callee × RunWords u × RunWords r

-- an event that isn't requested has words
abbrev pub IsElseWords : Run FrameEnv → Course FrameEnv → Type 0
IsElseWords (runs.act e r) (act b x c) = (b ≡ false → EventWords e) × IsElseWords r c
IsElseWords (runs.child k v u r) (child b j x d c) = (b ≡ false → CalleeWords v.callee) × IsElseWords u d × IsElseWords r c
IsElseWords _ _ = Unit {0}

pub words_else : (t : Run FrameEnv) (c : Course FrameEnv) → RunWords t → IsElseWords t c
words_else runs.stop c h = tt
words_else (runs.act e r) stop h = tt
words_else (runs.act e r) (child b j x d c) h = tt
words_else (runs.act e r) (act b x c) h = (λ _. h.0, words_else r c h.1)
words_else (runs.child k v u r) stop h = tt
words_else (runs.child k v u r) (act b x c) h = tt
words_else (runs.child k v u r) (child b j x d c) h = (λ _. h.0, words_else u d h.1, words_else r c h.2)

pub all_else : (t : Run FrameEnv) → IsElseWords t (all_asked t)
all_else runs.stop = tt
all_else (runs.act e r) = (λ z. absurd (cc z), all_else r)
all_else (runs.child k v u r) = (λ z. absurd (cc z), all_else u, all_else r)

abbrev NamedWords : Option (Ask FrameEnv) → Type 0
NamedWords None = Unit {0}
NamedWords (Some (Read c)) = Unit {0}
NamedWords (Some (Write c v)) = IsWord v
NamedWords (Some (Invoke k v)) = CalleeWords v.callee
NamedWords (Some Sync) = Unit {0}
NamedWords (Some (End v gone)) = Unit {0}
NamedWords (Some (Pass Begin)) = Unit {0}
NamedWords (Some (Pass Resume)) = Unit {0}
NamedWords (Some (Pass (Create i))) = Unit {0}
NamedWords (Some (Pass (Update i x))) = IsWord x
NamedWords (Some (Pass (Set i x))) = IsWord x
NamedWords (Some (Pass (Value i))) = Unit {0}
NamedWords (Some (Pass (Print x))) = IsWord x
NamedWords (Some (Fail f)) = Unit {0}

named_words : (p : Source) (w : FrameEnv) (k : ℕ) (a : language.Ask) → AskWords a → NamedWords (Some (named_ask p w k a))
named_words p w k asks.Begin h = tt
named_words p w k (asks.Read x) h = tt
named_words p w k (asks.Write x v) h = h
named_words p w k (asks.Create r) h = tt
named_words p w k (asks.Update r v) h = h
named_words p w k (asks.Set r v) h = h
named_words p w k (asks.Value r) h = tt
named_words p w k (asks.Print v) h = h
named_words p w k (asks.Invoke how callee) h = h
named_words p w k asks.Resume h = tt
named_words p w k asks.Sync h = tt
named_words p w k (asks.Result v) h = h
named_words p w k (asks.End v) h = tt
named_words p w k (asks.Fault f) h = tt

unless_ended : (b : Bool) (a : Option (Ask FrameEnv)) → NamedWords a → NamedWords (cond b None a)
unless_ended true a h = tt
unless_ended false a h = h

pub next_words : (p : Source) (inputs : List ℤ) → HasWords p → InputsAreWords inputs → (w : FrameEnv) (past : List (Deed FrameEnv)) → CalleeWords w.callee
    → AreWords (answers_of past) → NamedWords (next p inputs w past)
next_words p inputs has are w past callee answers =
    unless_ended (has_ended past) (Some (named_ask p w (suc (started past)) (asked_after p inputs w past).ask))
    (named_words p w (suc (started past)) (asked_after p inputs w past).ask (asks_words p has inputs are w.callee callee (answers_of past) answers MAX_TICKS))

-- ---- one event

asked_words : (e : Event) (memory : Cell → ℤ) (views : Instance → View) (n : ℕ) → n ≤ 1000000 → ((c : Cell) → IsWord (memory c)) → AreViewed views n
    → NamedWords (Some (ask_of e))
    → IsReadRight e memory → IsViewRight monoid_of e views → EventWords e
asked_words (Reads c v) memory views n few cells viewed h r s = subst IsWord (sym r) (cells c)
asked_words (Writes c v) memory views n few cells viewed h r s = h
asked_words Syncs memory views n few cells viewed h r s = tt
asked_words (Ends v gone) memory views n few cells viewed h r s = tt
asked_words (Passes Begins) memory views n few cells viewed h r s = tt
asked_words (Passes Resumes) memory views n few cells viewed h r s = tt
asked_words (Passes (Creates i)) memory views n few cells viewed h r s = tt
asked_words (Passes (Updates i x)) memory views n few cells viewed h r s = h
asked_words (Passes (Sets i x)) memory views n few cells viewed h r s = h
asked_words (Passes (Values i x)) memory views n few cells viewed h r s = subst IsWord (sym s) (view_word i views n few viewed)
asked_words (Passes (Prints x)) memory views n few cells viewed h r s = h

answer_word : (e : Event) → EventWords e → IsWord (answer_of (Does e))
answer_word (Reads c v) h = h
answer_word (Writes c v) h = zero_word
answer_word Syncs h = zero_word
answer_word (Ends v gone) h = zero_word
answer_word (Passes Begins) h = zero_word
answer_word (Passes Resumes) h = zero_word
answer_word (Passes (Creates i)) h = zero_word
answer_word (Passes (Updates i x)) h = zero_word
answer_word (Passes (Sets i x)) h = zero_word
answer_word (Passes (Values i x)) h = h
answer_word (Passes (Prints x)) h = zero_word

cond_word : (b : Bool) (v x : ℤ) → IsWord v → IsWord x → IsWord (cond b v x)
cond_word true v x h g = h
cond_word false v x h g = g

put_word : (e : Event) (memory : Cell → ℤ) → EventWords e → ((c : Cell) → IsWord (memory c)) → (c : Cell) → IsWord (put e c (memory c))
put_word (Reads d v) memory h cells c = cells c
put_word (Writes d v) memory h cells c = cond_word (same_cell d c) v (memory c) h (cells c)
put_word Syncs memory h cells c = cells c
put_word (Ends v gone) memory h cells c = cells c
put_word (Passes m) memory h cells c = cells c

on_viewed : (e : Event) (views : Instance → View) (n : ℕ) → EventWords e → AreViewed views n → AreViewed (λ i. on_view (monoid_of i) i e (views i)) (suc n)
on_viewed e views n h viewed i = by e h
  where
    k : MonoidKind
    k = kind_of i

    before : IsViewed (kind_of i) (views i) (suc n)
    before = longer (kind_of i) (views i) n (suc n) (omega arith) (viewed i)

    by : (e : Event) → EventWords e → IsViewed (kind_of i) (on_view (monoid_of i) i e (views i)) (suc n)
    by (Reads c v) h = before
    by (Writes c v) h = before
    by Syncs h = before
    by (Ends v gone) h = cond_viewed (kind_of i) (has_instance gone i) ((views_of (kind_of i)).unit) (views i) (suc n) (unit_viewed (kind_of i) (suc n)) before
    by (Passes Begins) h = before
    by (Passes Resumes) h = before
    by (Passes (Creates j)) h = cond_viewed (kind_of i) (same_instance j i) ((views_of (kind_of i)).unit) (views i) (suc n) (unit_viewed (kind_of i) (suc n)) before
    by (Passes (Updates j x)) h =
        cond_viewed (kind_of i) (same_instance j i) ((views_of (kind_of i)).combine (views i) ((views_of (kind_of i)).single x)) (views i) (suc n)
        (update_viewed (kind_of i) (views i) x n h (viewed i)) before
    by (Passes (Sets j x)) h = cond_viewed (kind_of i) (same_instance j i) ((views_of (kind_of i)).single x) (views i) (suc n) (single_viewed (kind_of i) x n h) before
    by (Passes (Values j x)) h = before
    by (Passes (Prints x)) h =
        cond_viewed (kind_of i) (same_instance Output i) ((views_of (kind_of i)).combine (views i) ((views_of (kind_of i)).single x)) (views i) (suc n)
        (update_viewed (kind_of i) (views i) x n h (viewed i)) before

-- ---- whole courses

record Fits (w : FrameEnv) (past : List (Deed FrameEnv)) (memory : Cell → ℤ) (views : Instance → View) (n : ℕ) : Type 0 where
  callee : CalleeWords w.callee
  answers : AreWords (answers_of past)
  cells : (c : Cell) → IsWord (memory c)
  viewed : AreViewed views n

-- a run of words: its events, and the cells and views after it
record LeavesWords (t : Run FrameEnv) (memory : Cell → ℤ) (views : Instance → View) (n : ℕ) : Type 0 where
  events : RunWords t
  cells : (c : Cell) → IsWord (value_after t c (memory c))
  viewed : AreViewed (λ i. view_after (monoid_of i) i t (views i)) n

module _ (next : FrameEnv → List (Deed FrameEnv) → Option (Ask FrameEnv)) (same : FrameEnv → FrameEnv → Bool) (asks_so : (w : FrameEnv) (past : List (Deed FrameEnv)) → CalleeWords w.callee → AreWords (answers_of past) → NamedWords (next w past)) where
  event_words : (w : FrameEnv) (past : List (Deed FrameEnv)) (memory : Cell → ℤ) (views : Instance → View) (n : ℕ) (e x : Event) (b : Bool) → n ≤ 1000000
      → Fits w past memory views n
      → IsMadeFor FrameEnv View monoid_of next same w past memory views e x b → (b ≡ false → EventWords e) → EventWords x
  event_words w past memory views n e x true few fits made other =
      let m = made.made refl in
      asked_words x memory views n few fits.cells fits.viewed (subst NamedWords m.0 (asks_so w past fits.callee fits.answers)) m.1 m.2
  event_words w past memory views n e x false few fits made other = subst EventWords (sym (made.kept refl)) (other refl)

  callee_words : (w : FrameEnv) (past : List (Deed FrameEnv)) (j k : Invocation) (v x : FrameEnv) (b : Bool) → CalleeWords w.callee → AreWords (answers_of past)
      → IsStartedFor FrameEnv View monoid_of next same w past j k v x b → (b ≡ false → CalleeWords v.callee) → CalleeWords x.callee
  callee_words w past j k v x true callee answers made other = subst NamedWords (made.made refl) (asks_so w past callee answers)
  callee_words w past j k v x false callee answers made other = subst (λ (z : FrameEnv). CalleeWords z.callee) (sym (made.kept refl)) (other refl)

  more_answers : (past : List (Deed FrameEnv)) (d : Deed FrameEnv) → AreWords (answers_of past) → IsWord (answer_of d) → AreWords (answers_of (past ++ d ∷ []))
  more_answers past d h w = subst AreWords (sym (answers_more past d)) (more_words (answers_of past) (answer_of d) h w)

  course_words : (w : FrameEnv) (past : List (Deed FrameEnv)) (memory : Cell → ℤ) (views : Instance → View) (n m : ℕ) (t : Run FrameEnv) (c : Course FrameEnv)
      → m ≡ n + length (trace t) → m ≤ 1000000
      → Fits w past memory views n → IsCourse FrameEnv View monoid_of next same w past memory views t c → IsElseWords t c → LeavesWords (run_of c) memory views m
  course_words w past memory views n m runs.stop stop long few fits h other = record { events = tt; cells = fits.cells; viewed = λ i. longer (kind_of i) (views i) n m (omega (arith, long)) (fits.viewed i) }
  course_words w past memory views n m runs.stop (act b x c) long few fits h other = absurd h
  course_words w past memory views n m runs.stop (child b j x d c) long few fits h other = absurd h
  course_words w past memory views n m (runs.act e r) stop long few fits h other = absurd h
  course_words w past memory views n m (runs.act e r) (child b j x d c) long few fits h other = absurd h
  course_words w past memory views n m (runs.act e r) (act b x c) long few fits h other =
      let words = event_words w past memory views n e x b (omega (arith, long, few)) fits h.0 other.0 in
      let rest = course_words w (past ++ Does x ∷ []) (λ c. put x c (memory c)) (λ i. on_view (monoid_of i) i x (views i)) (suc n) m r c (omega (arith, long)) few
      (record { callee = fits.callee; answers = more_answers past (Does x) fits.answers (answer_word x words); cells = put_word x memory words fits.cells; viewed = on_viewed x views n words fits.viewed }) h.1 other.1 in
      record { events = (words, rest.events); cells = rest.cells; viewed = rest.viewed }
  course_words w past memory views n m (runs.child k v u r) stop long few fits h other = absurd h
  course_words w past memory views n m (runs.child k v u r) (act b x c) long few fits h other = absurd h
  course_words w past memory views n m (runs.child k v u r) (child b j x d c) long few fits h other =
      let both = length-append (trace u) (trace r) in
      let callee = callee_words w past k j v x b fits.callee fits.answers h.0 other.0 in
      let inner = course_words x [] memory views (suc n) (suc n + length (trace u)) u d refl (omega (arith, long, few, both))
      (record { callee = callee; answers = tt; cells = fits.cells; viewed = λ i. longer (kind_of i) (views i) n (suc n) (omega arith) (fits.viewed i) }) h.1 other.1 in
      let rest = course_words w (past ++ Invokes j x ∷ []) (λ i. value_after (run_of d) i (memory i)) (λ i. view_after (monoid_of i) i (run_of d) (views i)) (suc n + length (trace u)) m r c (omega (arith, long, both)) few
      (record { callee = fits.callee; answers = more_answers past (Invokes j x) fits.answers zero_word; cells = inner.cells; viewed = inner.viewed }) h.2 other.2 in
      record { events = (callee, inner.events, rest.events); cells = rest.cells; viewed = rest.viewed }

  pub whole_words : (w : FrameEnv) (memory : Cell → ℤ) (views : Instance → View) (t : Run FrameEnv) (c : Course FrameEnv) → length (trace t) ≤ 1000000
      → CalleeWords w.callee → ((c : Cell) → IsWord (memory c))
      → ((i : Instance) → views i ≡ (monoid_of i).unit) → IsCourse FrameEnv View monoid_of next same w [] memory views t c → IsElseWords t c → RunWords (run_of c)
  whole_words w memory views t c few callee cells units h other =
      let l = course_words w [] memory views 0 (length (trace t)) t c (omega arith) few
      (record { callee = callee; answers = tt; cells = cells; viewed = λ i. subst (λ (v : View). IsViewed (kind_of i) v 0) (sym (units i)) (unit_viewed (kind_of i) 0) }) h other in
      l.events
