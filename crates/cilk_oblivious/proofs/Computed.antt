-- The worked programs: each request of the product is open, and after a branch on a hidden number
-- none is.
use Rattle.std.proofs.Common.{◌≡◌, ℕ, ℤ, pos, Bool, true, false, List, [], ◌∷◌, length, Some, None, refl, sym, ap, ◌∙◌, subst, arith}
use Rattle.std.specs.Int.{int_wrap}
use Rattle.cilk_types.specs.declared.event.Event.{Event}
use Rattle.cilk_types.specs.declared.fault.Fault.{Fault}
use Rattle.cilk_types.specs.declared.limits.TheConstants.{MAX_EVENTS, MAX_TICKS}
use Rattle.cilk_program.specs.declared.ask.Ask.{Ask}
use Rattle.cilk_program.specs.declared.ask.Ask.TheVariants as asks
use Rattle.cilk_program.specs.declared.ask.Callee.TheVariants.{Root}
use Rattle.cilk_program.specs.Behaviour.{OpenAsk, asks_for, frame_asks}
use Rattle.cilk_program.specs.Syntax.{Source}
use Rattle.cilk_program.specs.SerialRun.{Memory, Ending, answer_to, before_root, begun, refused, root_frame, stored, with_store}
use Rattle.cilk_oblivious.specs.Pairs.{AreAlike, Empty, And, InputsAreAlike}
use Rattle.cilk_oblivious.specs.Open.{AreSentAlike, Covers, IsOpen, Labels, Oblivious, answer_mark, MadeSo, EndedSo, WentSo, BrokeSo, RefusedSo, ask_with}
use Rattle.cilk_oblivious.specs.Worked.{all_hidden, product, ProductIsOblivious, branch, BranchIsNotOblivious}

-- ---- the product

abbrev unmarked : Labels
unmarked = record { cells = λ n. false; views = λ k i. false }

itself : Covers unmarked unmarked
itself = record { cells = λ n h. h; views = λ k i h. h }

abbrev none : List ℤ → List Bool
none [] = []
none (x ∷ xs) = false ∷ none xs

same_words : (xs ys : List ℤ) → AreAlike (none xs) xs ys → xs ≡ ys
same_words [] [] Empty = refl
same_words [] (y ∷ ys) h = elim h [ ]
same_words (x ∷ xs) [] h = elim h [ ]
same_words (x ∷ xs) (y ∷ ys) (And e more) = ap (λ x. x ∷ xs) e ∙ ap (λ xs. y ∷ xs) (same_words xs ys more)

-- the same request on two other numbers
abbrev Same : List ℤ → ℕ → Ask → ℕ → List Bool → List ℤ → Type 0
Same history start k left sent others = (ws : List ℤ) × (frame_asks product others Root history start ≡ asks_for (ask_with k ws) left) × AreSentAlike k sent ws

on_two : (P : List ℤ → Type 0) → ((x y : ℤ) → P (x ∷ y ∷ [])) → (others : List ℤ) → 2 ≡ length others → P others
on_two P h [] n = absurd (omega (arith, n))
on_two P h (x ∷ []) n = absurd (omega (arith, n))
on_two P h (x ∷ y ∷ []) n = h x y
on_two P h (x ∷ y ∷ z ∷ more) n = absurd (omega (arith, n))

opens : (history : List ℤ) (start : ℕ) (k : Ask) (left : ℕ) (sent : List Bool) → frame_asks product (pos 3 ∷ pos 4 ∷ []) Root history start ≡ asks_for k left
    → ((x y : ℤ) → Same history start k left sent (x ∷ y ∷ [])) → IsOpen product (pos 3 ∷ pos 4 ∷ []) all_hidden Root [] history (none history) start k left sent
opens history start k left sent here there =
    record {
      asks = here;
      also = λ others alike given gs answers alike_answers.
          let h = on_two (Same history start k left sent) there others alike.count in
          subst (λ answers. (ws : List ℤ) × (frame_asks product others Root answers start ≡ asks_for (ask_with k ws) left) × AreSentAlike k sent ws) (same_words history answers alike_answers) h;
    }

pub product_is_oblivious : ProductIsOblivious
unfolding int_wrap
product_is_oblivious = (
  _,
  unmarked,
  unmarked,
  MadeSo asks.Begin _ [] unmarked (opens [] MAX_TICKS asks.Begin _ [] refl (λ x y. ([], refl, tt))) tt refl itself
      (MadeSo (asks.Print (pos 12)) _ (true ∷ []) unmarked (opens (pos 0 ∷ []) MAX_TICKS (asks.Print (pos 12)) _ (true ∷ []) refl (λ x y. (_ ∷ [], refl, And tt Empty))) tt refl itself
      (MadeSo asks.Sync _ [] unmarked (opens (pos 0 ∷ pos 0 ∷ []) MAX_TICKS asks.Sync _ [] refl (λ x y. ([], refl, tt))) tt refl itself
      (EndedSo (pos 0) _ (false ∷ []) (opens (pos 0 ∷ pos 0 ∷ pos 0 ∷ []) MAX_TICKS (asks.End (pos 0)) _ (false ∷ []) refl (λ x y. (pos 0 ∷ [], refl, And refl Empty))) refl))),
  refl,
)

-- ---- the branch

abbrev kind : Ask → ℕ
kind asks.Begin = 0
kind asks.Sync = 1
kind (asks.Print v) = 2
kind k = 3

kind_with : (k : Ask) (ws : List ℤ) → kind (ask_with k ws) ≡ kind k
kind_with asks.Begin ws = refl
kind_with (asks.Read x) ws = refl
kind_with (asks.Write x v) ws = refl
kind_with (asks.Create r) ws = refl
kind_with (asks.Update r v) ws = refl
kind_with (asks.Set r v) ws = refl
kind_with (asks.Value r) ws = refl
kind_with (asks.Print v) ws = refl
kind_with (asks.Invoke how c) ws = refl
kind_with asks.Resume ws = refl
kind_with asks.Sync ws = refl
kind_with (asks.Result v) ws = refl
kind_with (asks.End v) ws = refl
kind_with (asks.Fault f) ws = refl

-- with 1 it prints next, with 0 it doesn't
not_open : (k : Ask) (left : ℕ) (sent : List Bool) → IsOpen branch (pos 1 ∷ []) all_hidden Root [] (pos 0 ∷ []) (false ∷ []) MAX_TICKS k left sent → ⊥
not_open k left sent request =
    let t = request.also (pos 0 ∷ []) (record { count = refl; agree = λ n h. absurd (true_not h) }) [] Empty (pos 0 ∷ []) (And refl Empty) in
    let prints : 2 ≡ kind k = ap (λ (o : OpenAsk). kind o.ask) request.asks in
    let syncs : 1 ≡ kind (ask_with k t.0) = ap (λ (o : OpenAsk). kind o.ask) t.1 in
    let both : 2 ≡ 1 = prints ∙ sym (kind_with k t.0) ∙ sym syncs in
    omega (arith, both)
  where
    true_not : true ≡ false → ⊥
    true_not e = subst (λ (b : Bool). elim b as (λ _. Type 0) [ true ↦ Unit {0} | false ↦ ⊥ ]) e tt

after_begin : {m : Memory} {l after : Labels} {es : List Event} {end : Ending} → Oblivious branch (pos 1 ∷ []) all_hidden (root_frame branch (pos 1 ∷ [])) [] MAX_TICKS (pos 0 ∷ []) (false ∷ []) m l es end after → ⊥
after_begin (MadeSo k left sent next request inner ok covers more) = not_open k left sent request
after_begin (EndedSo v left sent request ok) = not_open (asks.End v) left sent request
after_begin (WentSo how callee left sent v left' m' l' request ok inner more) = not_open (asks.Invoke how callee) left sent request
after_begin (BrokeSo how callee left sent f request ok inner) = not_open (asks.Invoke how callee) left sent request
after_begin (RefusedSo k left sent f request bad) = not_open k left sent request

abbrev m0 : Memory
m0 = begun branch Root (before_root branch (pos 1 ∷ []) MAX_EVENTS)

none_not : {f : Fault} → None ≡ Some f → ⊥
none_not e = cc

whole : {l after : Labels} {es : List Event} {end : Ending} → Oblivious branch (pos 1 ∷ []) all_hidden (root_frame branch (pos 1 ∷ [])) [] MAX_TICKS [] [] m0 l es end after → ⊥
whole (MadeSo {l = l} {es = es} {end = end} {after = after} k left sent next request inner ok covers more) =
    let fr = root_frame branch (pos 1 ∷ []) in
    after_begin (subst (λ k. Oblivious branch (pos 1 ∷ []) all_hidden fr [] MAX_TICKS (answer_to fr m0 k ∷ []) (answer_mark fr k l ∷ []) (with_store m0 (stored branch fr m0 k)) next es end after) (sym (ap (λ (o : OpenAsk). o.ask) request.asks)) more)
whole (EndedSo v left sent request ok) = let k : 0 ≡ 3 = ap (λ (o : OpenAsk). kind o.ask) request.asks in omega (arith, k)
whole (WentSo how callee left sent v left' m' l' request ok inner more) = let k : 0 ≡ 3 = ap (λ (o : OpenAsk). kind o.ask) request.asks in omega (arith, k)
whole (BrokeSo how callee left sent f request ok inner) = let k : 0 ≡ 3 = ap (λ (o : OpenAsk). kind o.ask) request.asks in omega (arith, k)
whole (RefusedSo k left sent f request bad) = none_not (subst (λ k. refused branch m0 k ≡ Some f) (sym (ap (λ (o : OpenAsk). o.ask) request.asks)) bad)

pub branch_is_not_oblivious : BranchIsNotOblivious
branch_is_not_oblivious es c (end, start, after, run, is) = whole run
