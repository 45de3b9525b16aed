-- A certificate has one first failing check.
--
-- The passes count from 0. Each looks for the least place at which something is wrong, and a race
-- is a place with an earlier one.
--
-- - `once`: the first pass that finds something is one, and so is its least place;
-- - `one_race`, `one_view_race`: a first race with a given later position is one;
-- - `found_in`: by which pass, and where, a refusal is found;
-- - `found_once`, `found_before_once`: two that are found are equal;
-- - `clean_found`: in a clean certificate none is found.
use Rattle.std.proofs.Common.{
  ◌≡◌,
  ◌≢◌,
  ◌⊎◌,
  inl,
  inr,
  ℕ,
  zero,
  suc,
  ◌+◌,
  ◌<◌,
  ◌≤◌,
  ℤ,
  List,
  length,
  Option,
  Some,
  refl,
  sym,
  ap,
  subst,
  ◌∙◌,
  arith,
  below_none,
  below_more,
}
use Rattle.std.proofs.lemmas.Bool.{cases_lt}
use Rattle.cilk_types.specs.declared.event.Event.{Event}
use Rattle.cilk_types.specs.declared.event.Event.TheVariants.{Create, Set, Value}
use Rattle.cilk_types.specs.declared.event.Instance.{Instance}
use Rattle.cilk_tree.specs.Shape.{Shape}
use Rattle.cilk_tree.specs.Tree.{Tree, tree}
use Rattle.cilk_tree.specs.Races.{HasNoRace, IsFirstRace, IsRace, event_at}
use Rattle.cilk_peers.specs.ViewRaces.{HasNoViewRace, IsFirstViewRace, IsViewRace, ReadsReducer}
use Rattle.cilk_cert_text.specs.Certificates.{Contents}
use Rattle.cilk_cert_maker.specs.Right.{
  EventIsWrong,
  FrameIsWrong,
  OwnerIsWrong,
  HebrewIsWrong,
  ClassIsWrong,
  SourceIsWrong,
  IsNowhere,
  IsLeast,
  IsRight,
}
use Rattle.cilk_checker.specs.Refusals.{IsClean, IsFound, IsFoundBefore}
use Rattle.cilk_checker.specs.declared.refusal.Refusal.{Refusal}
use Rattle.cilk_checker.specs.declared.refusal.Refusal.TheVariants as refusals

-- ---- passes in order, whatever each looks for

module _ (wrong : ℕ → ℕ → Type 0) where
  -- no earlier pass finds anything
  abbrev pub AheadOf : ℕ → Type 0
  AheadOf i = (j : ℕ) → j < i → IsNowhere (wrong j)

  -- this pass finds something, here first, and no earlier pass does
  pub record IsFirstIn (i k : ℕ) : Type 0 where
    pub ahead : AheadOf i
    pub here : IsLeast (wrong i) k

  pub not_later : (i i' k k' : ℕ) → IsFirstIn i k → IsFirstIn i' k' → i' ≤ i
  not_later i i' k k' f g = elim (cases_lt i i') [
    | inl less ↦ absurd (g.ahead i less k f.here.holds)
    | inr more ↦ more
  ]

  pub one_place : (i k k' : ℕ) → IsFirstIn i k → IsFirstIn i k' → k ≡ k'
  one_place i k k' f g =
      let below = f.here.least k' g.here.holds in
      let above = g.here.least k f.here.holds in
      omega (arith, below, above)

  pub once : (i i' k k' : ℕ) → IsFirstIn i k → IsFirstIn i' k' → (i ≡ i') × (k ≡ k')
  once i i' k k' f g =
      let above = not_later i i' k k' f g in
      let below = not_later i' i k' k g f in
      let same : i' ≡ i = omega (arith, above, below) in
      (sym same, one_place i k k' f (subst (λ (j : ℕ). IsFirstIn j k') same g))

-- ---- races

pub one_race : (t : Tree) (es : List Event) (p p' q : ℕ) → IsFirstRace t es p q → IsFirstRace t es p' q → p ≡ p'
one_race t es p p' q f g =
    elim (f.greatest p' g.race) [
      | inl less ↦ elim (g.greatest p f.race) [
        | inl more ↦ absurd (omega (arith, less, more))
        | inr same ↦ (let e = same.0 in absurd (omega (arith, less, e)))
      ]
      | inr same ↦ elim (g.greatest p f.race) [
        | inl more ↦ (let e = same.0 in absurd (omega (arith, more, e)))
        | inr also ↦ (let below = same.1 in let above = also.1 in omega (arith, below, above))
      ]
    ]

one_instance : (o : Option Event) (i j : Instance) → ReadsReducer o i → ReadsReducer o j → i ≡ j
one_instance (Some (Create x)) i j h k = sym h ∙ k
one_instance (Some (Set x v)) i j h k = sym h ∙ k
one_instance (Some (Value x v)) i j h k = sym h ∙ k
one_instance o i j h k = absurd h

reads_first : (t : Tree) (es : List Event) (p p' q : ℕ) → IsFirstViewRace t es p q → IsFirstViewRace t es p' q → p ≤ p'
reads_first t es p p' q f g =
    let same = one_instance (event_at es q) g.race.instance f.race.instance g.race.other f.race.other in
    f.first_read p' g.race.first (subst (ReadsReducer (event_at es p')) same g.race.one)

pub one_view_race : (t : Tree) (es : List Event) (p p' q : ℕ) → IsFirstViewRace t es p q → IsFirstViewRace t es p' q
    → p ≡ p'
one_view_race t es p p' q f g =
    let below = reads_first t es p p' q f g in
    let above = reads_first t es p' p q g f in
    omega (arith, below, above)

-- ---- the passes of a check

module _ (s : Shape) (es : List Event) (value : ℤ) (c : Contents) where
  -- the places that each pass looks for
  abbrev wrong : ℕ → ℕ → Type 0
  wrong zero k = EventIsWrong es c k
  wrong (suc zero) k = FrameIsWrong s c k
  wrong (suc (suc zero)) k = OwnerIsWrong s c k
  wrong (suc (suc (suc zero))) k = HebrewIsWrong s c k
  wrong (suc (suc (suc (suc zero)))) k = ClassIsWrong s c k
  wrong (suc (suc (suc (suc (suc zero))))) k = SourceIsWrong es c k
  wrong (suc (suc (suc (suc (suc (suc zero)))))) k = c.result ≢ value
  wrong (suc (suc (suc (suc (suc (suc (suc zero))))))) k = (p : ℕ) × IsRace (tree s) es p k
  wrong (suc (suc (suc (suc (suc (suc (suc (suc i)))))))) k = (p : ℕ) × IsViewRace (tree s) es p k

  -- the earlier place of a race; 0 where there is none
  abbrev earlier : ℕ → ℕ → ℕ → Type 0
  earlier (suc (suc (suc (suc (suc (suc (suc zero))))))) k p = IsFirstRace (tree s) es p k
  earlier (suc (suc (suc (suc (suc (suc (suc (suc i)))))))) k p = IsFirstViewRace (tree s) es p k
  earlier i k p = p ≡ 0

  one_earlier : (i k p p' : ℕ) → earlier i k p → earlier i k p' → p ≡ p'
  one_earlier (suc (suc (suc (suc (suc (suc (suc zero))))))) k p p' h h' = one_race (tree s) es p p' k h h'
  one_earlier (suc (suc (suc (suc (suc (suc (suc (suc i)))))))) k p p' h h' = one_view_race (tree s) es p p' k h h'
  one_earlier i k p p' h h' = h ∙ sym h'

-- the refusal of a pass
abbrev refusal_at : ℕ → ℕ → ℕ → Refusal
refusal_at zero k p = refusals.Event k
refusal_at (suc zero) k p = refusals.Frame k
refusal_at (suc (suc zero)) k p = refusals.Strand k
refusal_at (suc (suc (suc zero))) k p = refusals.Hebrew k
refusal_at (suc (suc (suc (suc zero)))) k p = refusals.Class k
refusal_at (suc (suc (suc (suc (suc zero))))) k p = refusals.ReadSource k
refusal_at (suc (suc (suc (suc (suc (suc zero)))))) k p = refusals.Result
refusal_at (suc (suc (suc (suc (suc (suc (suc zero))))))) k p = refusals.Race p k
refusal_at (suc (suc (suc (suc (suc (suc (suc (suc i)))))))) k p = refusals.ViewRace p k

module _ (s : Shape) (es : List Event) (value : ℤ) (c : Contents) where
  -- which pass finds a refusal, and where
  record IsFoundIn (r : Refusal) : Type 0 where
    pass : ℕ
    place : ℕ
    partner : ℕ
    few : pass < 9
    first : IsFirstIn (wrong s es value c) pass place
    earlier_is : earlier s es value c pass place partner
    is : r ≡ refusal_at pass place partner

  abbrev Ahead : ℕ → Type 0
  Ahead i = AheadOf (wrong s es value c) i

  ahead_1 : IsNowhere (EventIsWrong es c) → Ahead 1
  ahead_1 a = below_more (λ j. IsNowhere (wrong s es value c j)) 0
      (below_none (λ j. IsNowhere (wrong s es value c j))) a

  ahead_2 : IsNowhere (EventIsWrong es c) → IsNowhere (FrameIsWrong s c) → Ahead 2
  ahead_2 a b = below_more (λ j. IsNowhere (wrong s es value c j)) 1 (ahead_1 a) b

  ahead_3 : IsNowhere (EventIsWrong es c) → IsNowhere (FrameIsWrong s c) → IsNowhere (OwnerIsWrong s c) → Ahead 3
  ahead_3 a b d = below_more (λ j. IsNowhere (wrong s es value c j)) 2 (ahead_2 a b) d

  ahead_4 : IsNowhere (EventIsWrong es c) → IsNowhere (FrameIsWrong s c) → IsNowhere (OwnerIsWrong s c)
      → IsNowhere (HebrewIsWrong s c) → Ahead 4
  ahead_4 a b d e = below_more (λ j. IsNowhere (wrong s es value c j)) 3 (ahead_3 a b d) e

  ahead_5 : IsNowhere (EventIsWrong es c) → IsNowhere (FrameIsWrong s c) → IsNowhere (OwnerIsWrong s c)
      → IsNowhere (HebrewIsWrong s c) → IsNowhere (ClassIsWrong s c) → Ahead 5
  ahead_5 a b d e f = below_more (λ j. IsNowhere (wrong s es value c j)) 4 (ahead_4 a b d e) f

  ahead_6 : IsNowhere (EventIsWrong es c) → IsNowhere (FrameIsWrong s c) → IsNowhere (OwnerIsWrong s c)
      → IsNowhere (HebrewIsWrong s c) → IsNowhere (ClassIsWrong s c)
      → IsNowhere (SourceIsWrong es c) → Ahead 6
  ahead_6 a b d e f g = below_more (λ j. IsNowhere (wrong s es value c j)) 5 (ahead_5 a b d e f) g

  ahead_7 : IsRight s es value c → Ahead 7
  ahead_7 r = below_more (λ j. IsNowhere (wrong s es value c j)) 6
      (ahead_6 r.events r.frames r.owners r.hebrews r.classes r.sources) (λ k h. h r.result)

  ahead_8 : IsRight s es value c → HasNoRace (tree s) es → Ahead 8
  ahead_8 r races = below_more (λ j. IsNowhere (wrong s es value c j)) 7 (ahead_7 r) (λ k h. races h.0 k h.1)

  ahead_9 : IsRight s es value c → HasNoRace (tree s) es → HasNoViewRace (tree s) es → Ahead 9
  ahead_9 r races view_races =
      below_more (λ j. IsNowhere (wrong s es value c j)) 8 (ahead_8 r races) (λ k h. view_races h.0 k h.1)

  found_at : (i k p : ℕ) (r : Refusal) → i < 9 → Ahead i → IsLeast (wrong s es value c i) k → earlier s es value c i k p
      → r ≡ refusal_at i k p → IsFoundIn r
  found_at i k p r few ahead here partner_is is = record {
    pass = i;
    place = k;
    partner = p;
    few = few;
    first = record { ahead = ahead; here = here };
    earlier_is = partner_is;
    is = is;
  }

  found_in : (r : Refusal) → IsFound s es value c r → IsFoundIn r
  found_in (refusals.Event k) h =
      found_at 0 k 0 (refusals.Event k) (omega arith) (below_none (λ j. IsNowhere (wrong s es value c j))) h refl refl
  found_in (refusals.Frame k) h = found_at 1 k 0 (refusals.Frame k) (omega arith) (ahead_1 h.0) h.1 refl refl
  found_in (refusals.Strand k) h = found_at 2 k 0 (refusals.Strand k) (omega arith) (ahead_2 h.0 h.1) h.2 refl refl
  found_in (refusals.Hebrew k) h = found_at 3 k 0 (refusals.Hebrew k) (omega arith) (ahead_3 h.0 h.1 h.2) h.3 refl refl
  found_in (refusals.Class k) h =
      found_at 4 k 0 (refusals.Class k) (omega arith) (ahead_4 h.0 h.1 h.2 h.3) h.4 refl refl
  found_in (refusals.ReadSource k) h =
      found_at 5 k 0 (refusals.ReadSource k) (omega arith) (ahead_5 h.0 h.1 h.2 h.3 h.4) h.5 refl refl
  found_in refusals.Result h =
      found_at 6 0 0 refusals.Result (omega arith) (ahead_6 h.0 h.1 h.2 h.3 h.4 h.5)
      (record { holds = h.6; least = λ j w. omega arith }) refl refl
  found_in (refusals.Race p q) h =
      found_at 7 q p (refusals.Race p q) (omega arith) (ahead_7 h.0)
      (record { holds = (p, h.1.race); least = λ j w. h.1.least w.0 j w.1 }) h.1 refl
  found_in (refusals.ViewRace p q) h =
      found_at 8 q p (refusals.ViewRace p q) (omega arith) (ahead_8 h.0 h.1)
      (record { holds = (p, h.2.race); least = λ j w. h.2.least w.0 j w.1 }) h.2 refl
  found_in r h = absurd h

  same_refusal : (i i' k k' p p' : ℕ) → i ≡ i' → k ≡ k' → p ≡ p' → refusal_at i k p ≡ refusal_at i' k' p'
  same_refusal i i' k k' p p' e f g =
      ap (λ (j : ℕ). refusal_at j k p) e ∙ ap (λ (j : ℕ). refusal_at i' j p) f ∙ ap (refusal_at i' k') g

  -- two refusals that are found are one
  pub found_once : (r r' : Refusal) → IsFound s es value c r → IsFound s es value c r' → r ≡ r'
  found_once r r' h h' =
      let a = found_in r h in
      let b = found_in r' h' in
      let e = once (wrong s es value c) a.pass b.pass a.place b.place a.first b.first in
      let moved : earlier s es value c a.pass a.place b.partner =
      subst (λ (i : ℕ). earlier s es value c i a.place b.partner) (sym e.0)
      (subst (λ (k : ℕ). earlier s es value c b.pass k b.partner) (sym e.1) b.earlier_is) in
      let g = one_earlier s es value c a.pass a.place a.partner b.partner a.earlier_is moved in
      a.is ∙ same_refusal a.pass b.pass a.place b.place a.partner b.partner e.0 e.1 g ∙ sym b.is

  -- and in a clean certificate there is none
  pub clean_found : IsClean s es value c → (r : Refusal) → IsFound s es value c r → ⊥
  clean_found clean r h =
      let a = found_in r h in
      ahead_9 clean.right clean.races clean.view_races a.pass a.few a.place a.first.here.holds

-- ---- runs that a fault stops

-- the refusals of such a run
record IsFoundUpTo (es : List Event) (c : Contents) (r : Refusal) : Type 0 where
  found : ((k : ℕ) × IsLeast (EventIsWrong es c) k × (k ≤ length es) × (r ≡ refusals.Event k))
      ⊎ (((k : ℕ) → k ≤ length es → ¬ (EventIsWrong es c k)) × (r ≡ refusals.Stops (length es + 1)))

found_up_to : (es : List Event) (c : Contents) (r : Refusal) → IsFoundBefore es c r → IsFoundUpTo es c r
found_up_to es c (refusals.Event k) h = record { found = inl (k, h.0, h.1, refl) }
found_up_to es c (refusals.Stops k) h = record { found = inr (h.0, ap refusals.Stops h.1) }
found_up_to es c r h = absurd h

pub found_before_once : (es : List Event) (c : Contents) (r r' : Refusal) → IsFoundBefore es c r
    → IsFoundBefore es c r' → r ≡ r'
found_before_once es c r r' h h' =
    elim (found_up_to es c r h).found [
      | inl a ↦ elim (found_up_to es c r' h').found [
        | inl b ↦ (let below = a.1.least b.0 b.1.holds in let above = b.1.least a.0 a.1.holds in
            let e : a.0 ≡ b.0 = omega (arith, below, above) in a.3 ∙ ap refusals.Event e ∙ sym b.3)
        | inr b ↦ absurd (b.0 a.0 a.2 a.1.holds)
      ]
      | inr a ↦ elim (found_up_to es c r' h').found [
        | inl b ↦ absurd (a.0 b.0 b.2 b.1.holds)
        | inr b ↦ a.1 ∙ sym b.1
      ]
    ]
