-- Each move keeps the rule of a rack.
use Rattle.std.proofs.Common.{◌≡◌, ◌≢◌, ℕ, zero, suc, ◌+◌, true, false, true≢false, List, [], ◌∷◌, ◌++◌, length, set, sym, refl, ap, ◌∙◌, subst, ⊎_elim, append_assoc, arith}
use Rattle.std.specs.Prelude.{All}
use Rattle.std.proofs.Common.{length-append}
use Rattle.std.proofs.lemmas.List.{get_or_append_left, get_or-append-add}
use Rattle.std.proofs.lemmas.List.Elements.{All-append}
use mathlib.Core.Option.{some, some-ne-none, some-injective}
use lib.ListN.{get_elem?}
use Rattle.atomic_table.proofs.Lists.{at_set, at_snoc}
use Rattle.crossbeam_deque.specs.Tasks.{Pushes, Takes, Pops, Finds, Forks}
use Rattle.cilk_replay.specs.Replays.{ReplayValue}
use Rattle.cilk_replay.specs.declared.chain.Task.{Task}
use Rattle.cilk_workers.specs.declared.rack.Offers.{Offers}
use Rattle.cilk_workers.specs.Racks.{MayPick, Of, offers, Fits, IsOnly, Racked}

all_one : (P : Task → Type 0) (t : Task) → P t → All P (t ∷ [])
all_one P t is zero d lt = is
all_one P t is (suc k) d lt = absurd (omega arith)

all_front : (P : Task → Type 0) (xs ys : List Task) → All P (xs ++ ys) → All P xs
all_front P xs ys h k d lt = subst P (get_or_append_left xs ys d k lt) (h k d (omega (arith, length-append xs ys)))

all_back : (P : Task → Type 0) (xs ys : List Task) → All P (xs ++ ys) → All P ys
all_back P xs ys h k d lt = subst P (get_or-append-add xs ys k d) (h (length xs + k) d (omega (arith, length-append xs ys)))

-- whoever may take tasks may say so of each
all_picked : (taken : Task → Type 0) → MayPick taken → (xs : List Task) → All taken xs
all_picked taken may xs k d lt = may _

-- what the rule says of one view
abbrev Fitting : (Task → Type 0) → List Task → List Offers → ℕ → Offers → Type 0
Fitting taken items views port v = v.owner ≡ true → (port ≡ 0) × Fits taken items views v

fits_set : (taken : Task → Type 0) (items : List Task) (views after : List Offers) (port : ℕ) (w : Offers) → ((j : ℕ) (u : Offers) → j ≢ port → get_elem? views j ≡ some u → Fitting taken items after j u) → Fitting taken items after port w → (j : ℕ) (u : Offers) → get_elem? (set views port w) j ≡ some u → Fitting taken items after j u
fits_set taken items views after port w others mine j u e =
    ⊎_elim
    (λ (x : (j ≡ port) × (w ≡ u)). subst (λ (y : ℕ × Offers). Fitting taken items after y.0 y.1) (λ i. (sym x.0 i, x.1 i)) mine)
    (λ (x : (j ≢ port) × (get_elem? views j ≡ some u)). others j u x.0 x.1)
    (at_set views port j w u e)

only_set : (views : List Offers) (port : ℕ) (v w : Offers) → get_elem? views port ≡ some v → IsOnly views → IsOnly (set views port w)
only_set views port v w at only j u e =
    ⊎_elim
    (λ (x : (j ≡ port) × (w ≡ u)). x.0 ∙ only port v at)
    (λ (x : (j ≢ port) × (get_elem? views j ≡ some u)). only j u x.1)
    (at_set views port j w u e)

only_one : (v : Offers) → IsOnly (v ∷ [])
only_one v zero u e = refl
only_one v (suc port) u e = absurd (some-ne-none u (sym e))

pub begins : (y : ReplayValue → Type 0) (taken : Task → Type 0) → Racked y taken [] (offers true true [] ∷ [])
begins y taken = ((λ k d lt. absurd (omega arith)), one)
  where
    one : (port : ℕ) (v : Offers) → get_elem? (offers true true [] ∷ []) port ≡ some v → Fitting taken [] (offers true true [] ∷ []) port v
    one zero v e _ = (
      refl,
      ([], ap (λ (u : Offers). u.waiting) (sym (some-injective _ _ e)), (λ k d lt. absurd (omega arith)), λ _. (refl, only_one (offers true true []))),
    )
    one (suc port) v e _ = absurd (some-ne-none v (sym e))

-- the owner is at 0
pub pushes : (y : ReplayValue → Type 0) (taken : Task → Type 0) (v : Offers) (t : Task) → v.owner ≡ true → Of y t → (port : ℕ) → port ≡ 0 → Pushes (Racked y taken) port v (t ∷ []) (λ w. w ≡ offers v.owner v.alone (v.waiting ++ t ∷ []))
pushes y taken v t owner is port here items views h at =
    let w : Offers = offers v.owner v.alone (v.waiting ++ t ∷ []) in
    let mine : Fits taken items views v = (h.1 port v at owner).1 in (
      w,
      (
        All-append (Of y) items (t ∷ []) h.0 (all_one (Of y) t is),
        fits_set taken (items ++ t ∷ []) views (set views port w) port w
            (λ j u other e o. absurd (other ((h.1 j u e o).0 ∙ sym here)))
            (λ _. (
              here,
              (
                mine.0,
                ap (λ l. l ++ t ∷ []) mine.1 ∙ append_assoc mine.0 items (t ∷ []),
                mine.2,
                λ a. ((mine.3 a).0, only_set views port v w at (mine.3 a).1),
              ),
            )),
      ),
      refl,
    )

pub pops : (y : ReplayValue → Type 0) (taken : Task → Type 0) (v : Offers) → v.owner ≡ true → (port : ℕ) → port ≡ 0 → Pops (Racked y taken) port v (λ xs w. (w.owner ≡ v.owner) × (w.alone ≡ v.alone) × (v.waiting ≡ w.waiting ++ xs) × All (Of y) xs)
pops y taken v owner port here x items views h at =
    let mine : Fits taken (items ++ x ∷ []) views v = (h.1 port v at owner).1 in
    let w : Offers = offers v.owner v.alone (mine.0 ++ items) in (
      w,
      (
        all_front (Of y) items (x ∷ []) h.0,
        fits_set taken items views (set views port w) port w
            (λ j u other e o. absurd (other ((h.1 j u e o).0 ∙ sym here)))
            (λ _. (here, (mine.0, refl, mine.2, λ a. ((mine.3 a).0, only_set views port v w at (mine.3 a).1)))),
      ),
      (refl, refl, mine.1 ∙ sym (append_assoc mine.0 items (x ∷ [])), all_back (Of y) items (x ∷ []) h.0),
    )

-- if the deque is empty, each task that its owner waits for is taken; if it has no pickers, the
-- owner waits for none
pub finds : (y : ReplayValue → Type 0) (taken : Task → Type 0) (v : Offers) → v.owner ≡ true → (port : ℕ) → Finds (Racked y taken) port v (All taken v.waiting × (v.alone ≡ true → v.waiting ≡ []))
finds y taken v owner port views h at =
    let mine : Fits taken [] views v = (h.1 port v at owner).1 in (
      subst (λ (l : List Task). All taken l) (sym mine.1) (All-append taken mine.0 [] mine.2 (λ k d lt. absurd (omega arith))),
      λ a. mine.1 ∙ ap (λ (l : List Task). l ++ []) (mine.3 a).0,
    )

-- a task that others steal is taken; if the owner has no pickers, there is nobody else to steal
pub takes : (y : ReplayValue → Type 0) (taken : Task → Type 0) → MayPick taken → (v : Offers) → v.owner ≡ false → (port : ℕ) → Takes (Racked y taken) port v 1 (λ xs w. (w ≡ offers v.owner v.alone (v.waiting ++ xs)) × All (Of y) xs)
takes y taken may v guest port xs items views _ _ h at = (
  offers v.owner v.alone (v.waiting ++ xs),
  (
    all_back (Of y) xs items h.0,
    fits_set taken items views (set views port (offers v.owner v.alone (v.waiting ++ xs))) port (offers v.owner v.alone (v.waiting ++ xs))
        (λ j u other e o.
        let theirs = h.1 j u e o in
        let fits : Fits taken (xs ++ items) views u = theirs.1 in (
          theirs.0,
          (
            fits.0 ++ xs,
            fits.1 ∙ sym (append_assoc fits.0 xs items),
            All-append taken fits.0 xs fits.2 (all_picked taken may xs),
            λ a. absurd (other (theirs.0 ∙ sym ((fits.3 a).1 port v at))),
          ),
        ))
        (λ o. absurd (true≢false (sym o ∙ guest))),
  ),
  (refl, all_front (Of y) xs items h.0),
)

pub parts : (y : ReplayValue → Type 0) (taken : Task → Type 0) (v : Offers) → v.owner ≡ true → (port : ℕ) → port ≡ 0 → Forks (Racked y taken) port v (offers v.owner false v.waiting) (offers false false [])
parts y taken v owner port here items views h at = (
  h.0,
  λ j u e o. ⊎_elim
      (λ (old : get_elem? (set views port left) j ≡ some u). fits_set taken items views after port left
      (λ k t other f p. absurd (other ((h.1 k t f p).0 ∙ sym here)))
      (λ _. (here, (mine.0, mine.1, mine.2, λ a. absurd (true≢false (sym a)))))
      j u old o)
      (λ (new : right ≡ u). absurd (true≢false (sym o ∙ ap (λ (t : Offers). t.owner) (sym new))))
      (at_snoc (set views port left) right u j e),
)
  where
    left : Offers
    left = offers v.owner false v.waiting

    right : Offers
    right = offers false false []

    after : List Offers
    after = set views port left ++ right ∷ []

    mine : Fits taken items views v
    mine = (h.1 port v at owner).1
