-- Programs that are settled one after the other.
--
-- - `nothing_left`: no program is left;
-- - `next`, `last`: the first of those that are left is settled, or the call ends at it;
-- - `greatest`: the greater of two statuses;
-- - `settled`, `claimed`: the reply to a program and what is claimed beside it, by what held before copies were kept;
-- - `answered`: an answer or a failure is the reply;
-- - `unnamed`, `starved`: the words name no programs, or there is no memory.
use Rattle.std.proofs.Common.{◌≡◌, ℕ, ◌-◌, ◌<◌, ◌≤◌, max, List, [], ◌∷◌, length, get_or, take, drop, Bool, Option, None, arith, inl, inr, refl, sym, subst}
use Rattle.std.proofs.lemmas.List.{take_all}
use Rattle.std.specs.Prelude.{Err, IfErr, IfOk, Ok, Result}
use Rattle.std.specs.Borrow.{Bor}
use Rattle.std.specs.Ordering.{nat_cmp, ord_max}
use Rattle.cilk_commands.specs.Every.{reply_view}
use Rattle.cilk_commands.specs.Files.{Failures}
use Rattle.cilk_commands.specs.Replies.{NoMemory, Reply, Text, answer_view, failure_view}
use Rattle.cilk_commands.specs.Serving.{SettleReply, Surroundings, WordsFail, world}
use Rattle.cilk_commands.specs.declared.reply.Answer.{Answer}
use Rattle.cilk_commands.specs.declared.reply.Failure.{Failure}
use Rattle.cilk_commands.specs.declared.reply.Failure.TheVariants as failures
use Rattle.cilk_report.proofs.Measuring.{Told, complains}
use Rattle.cilk_report.proofs.Replies.{of_kept, silence}
use Rattle.cilk_report.specs.Explained.{NoPrograms, NoRoom, Settles}
use Rattle.cilk_report.specs.Settling.{Done, Fails, IsClaimed, Last, Next, SettlesEach, Shows, State}
use Rattle.cilk_messages.specs.Batches.{batch_in}
use Rattle.cilk_messages.specs.Words.{texts}
use Rattle.cilk_messages.specs.declared.batch.Form.{Form}
use Rattle.cilk_messages.specs.declared.claim.Claim.{Claim}

pub greatest : (a b r : ℕ) → r ≡ ord_max nat_cmp a b → r ≡ max a b
greatest a b r is = grind (arith, is)

module _ (files files' : Text → Option Text) (standard : Option Text) (failed failed' reached : Failures) (program : Text) (input : Option Text)
    (unfailed : failed' ≡ failed) (same : files' ≡ files) where
  pub settled : (r : Reply) → SettleReply (world files' standard failed' reached) program input r → SettleReply (world files standard failed reached) program input r
  settled r = of_kept (λ fs f. SettleReply (world fs standard f reached) program input r) files files' failed failed' unfailed same

  pub claimed : (every : Bool) (r : Reply) (c : Option Claim) → IsClaimed every (world files' standard failed' reached) program input r c
      → IsClaimed every (world files standard failed reached) program input r c
  claimed every r c = of_kept (λ fs f. IsClaimed every (world fs standard f reached) program input r c) files files' failed failed' unfailed same

-- an answer or a failure is the reply
pub answered : (w : Surroundings) (program : Text) (input : Option Text) (x : Result Answer Failure) (r : Reply) → r ≡ reply_view x
    → IfOk x (λ a. SettleReply w program input (answer_view a)) → IfErr x (λ f. SettleReply w program input (failure_view f)) → SettleReply w program input r
answered w program input (Ok a) r is ok err = subst (λ (q : Reply). SettleReply w program input q) (sym is) ok
answered w program input (Err f) r is ok err = subst (λ (q : Reply). SettleReply w program input q) (sym is) err

-- the references after the first
abbrev pub behind : List (Bor Text) → List (Bor Text)
behind ws = take (length ws - 1) (drop 1 ws)

all_behind : (w : Bor Text) (ws : List (Bor Text)) → behind (w ∷ ws) ≡ ws
all_behind w ws = take_all (length (w ∷ ws) - 1) ws (omega arith)

module _ (every : Bool) (form : Form) (files files' : Text → Option Text) (standard standard' input : Option Text) (same : files' ≡ files) (untouched : standard' ≡ standard) where
  pub nothing_left : (ws : List (Bor Text)) (s : State) → length ws < 1 → SettlesEach every form files standard input (texts ws) s s
  nothing_left [] s none = Done s
  nothing_left (w ∷ ws) s none = absurd (omega (arith, none))

  here : (P : (Text → Option Text) → Option Text → Type 0) → P files' standard' → P files standard
  here P h = subst (λ (i : Option Text). P files i) untouched (subst (λ (fs : Text → Option Text). P fs standard') same h)

  pub next : (ws : List (Bor Text)) (d : Bor Text) (status : ℕ) (s t end : State) → 1 ≤ length ws
      → Shows every form (world files' standard' s.failed t.failed) (let w = get_or ws 0 d in w.now) input status s.out t.out s.err t.err → t.status ≡ max s.status status
      → SettlesEach every form files standard input (texts (behind ws)) t end → SettlesEach every form files standard input (texts ws) s end
  next [] d status s t end some shows top rest = absurd (omega (arith, some))
  next (w ∷ ws) d status s t end some shows top rest =
      Next w.now (texts ws) status s t end (here (λ fs i. Shows every form (world fs i s.failed t.failed) w.now input status s.out t.out s.err t.err) shows) top
      (subst (λ (ps : List (Bor Text)). SettlesEach every form files standard input (texts ps) t end) (all_behind w ws) rest)

  pub last : (ws : List (Bor Text)) (d : Bor Text) (status : ℕ) (s t : State) → 1 ≤ length ws
      → Fails every form (world files' standard' s.failed t.failed) (let w = get_or ws 0 d in w.now) input status s.out t.out s.err t.err → t.status ≡ max s.status status
      → SettlesEach every form files standard input (texts ws) s t
  last [] d status s t some fails top = absurd (omega (arith, some))
  last (w ∷ ws) d status s t some fails top =
      Last w.now (texts ws) status s t (here (λ fs i. Fails every form (world fs i s.failed t.failed) w.now input status s.out t.out s.err t.err) fails) top

module _ (words : List Text) (files : Text → Option Text) (input : Option Text) (failed failed' : Failures) (status : ℕ) (told : Bool) (o e m : Option Text) where
  pub unnamed : (f : Failure) → batch_in words ≡ None → failed' ≡ failed → WordsFail (failure_view f) → Told f status told e m
      → Settles words files input failed failed' status o o e m
  unnamed f none same h shown =
      elim shown.1 [
        | inl is ↦ NoPrograms (failure_view f) none same h (complains shown.0 (failure_view f) status status told o e m m is shown.2 shown.3 (silence status m) refl)
        | inr is ↦ NoRoom same (complains shown.0 NoMemory status status told o e m m is shown.2 shown.3 (silence status m) refl)
      ]

  pub starved : failed' ≡ failed → Told failures.Memory status told e m → Settles words files input failed failed' status o o e m
  starved same shown =
      elim shown.1 [
        | inl is ↦ NoRoom same (complains shown.0 NoMemory status status told o e m m is shown.2 shown.3 (silence status m) refl)
        | inr is ↦ NoRoom same (complains shown.0 NoMemory status status told o e m m is shown.2 shown.3 (silence status m) refl)
      ]
