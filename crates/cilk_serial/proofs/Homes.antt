-- The scope of a frame, by its activation and those below it.
-- `scoped_at`      the frame of a waiting activation
-- `seen_scope`     the scope of the running frame
-- `on_top`         the same, with its number
-- `waiting_more`   the waiting frames once another frame runs
use Rattle.std.proofs.Common.{◌≡◌, ℕ, suc, ◌+◌, ◌<◌, ◌≤◌, if◌then◌else◌, List, [], ◌∷◌, ◌++◌, length, reverse, slice_get, Option, Some, None, refl, sym, ap, ◌∙◌, subst, arith, inl, inr, eq-eqb}
use Rattle.std.proofs.lemmas.Bool.{ne_eqb}
use Rattle.std.proofs.lemmas.Bool.Decides.{eqb_tells}
use Rattle.std.proofs.lemmas.List.{reverse-append, reverse-reverse}
use Rattle.cilk_types.specs.declared.event.Instance.{Instance}
use Rattle.cilk_program.specs.Scopes.{Scope}
use Rattle.cilk_program.specs.Syntax.{Source}
use Rattle.cilk_program.specs.SerialRun.{Frame}
use Rattle.cilk_types.specs.Stacks.{from_bottom}
use Rattle.cilk_serial.specs.Scoped.{Activation, Frames, IsOnTop, Parent, Scoped, AreScoped, Leads, ResultFits, Seen, waiting}
use Rattle.cilk_types.proofs.Stacks.{below_top, bottom_up, within}
use Rattle.cilk_types.specs.declared.limits.TheConstants.{MAX_CELLS}
use Rattle.cilk_program.specs.declared.syntax.Place.{Place}
use Rattle.cilk_frames.specs.Sight.{HasScope, LinksTo, home_at}
use Rattle.cilk_frames.specs.Sight as sight

pub scoped_length : (p : Source) (below : List Activation) (parents : List Parent) → AreScoped p below parents → length below ≡ length parents
scoped_length p [] [] h = refl
scoped_length p [] (q ∷ qs) h = absurd h
scoped_length p (a ∷ list) [] h = absurd h
scoped_length p (a ∷ list) (q ∷ qs) h = ap suc (scoped_length p list qs h.1)

-- an activation below, and its frame
pub record Found (p : Source) (parents : List Parent) (a : Activation) (q : Parent) : Type 0 where
  pub below : List Parent
  pub scoped : Scoped p a q.frame below
  pub part : (n : ℕ) (x : Parent) → from_bottom below n ≡ Some x → from_bottom parents n ≡ Some x

some_is : {A : Type 0} (x y : A) → Some x ≡ Some y → x ≡ y
some_is x y e = cc

pub scoped_at : (p : Source) (below : List Activation) (parents : List Parent) (n : ℕ) (a : Activation) (q : Parent) → AreScoped p below parents
    → from_bottom below n ≡ Some a → from_bottom parents n ≡ Some q → Found p parents a q
scoped_at p [] [] n a q h e f = cc
scoped_at p [] (r ∷ qs) n a q h e f = absurd h
scoped_at p (b ∷ list) [] n a q h e f = absurd h
scoped_at p (b ∷ list) (r ∷ qs) n a q h e f =
    let same = scoped_length p list qs h.1 in
    elim (eqb_tells n (length list)) [
      | inl here ↦ (
          let is_a : b ≡ a = some_is b a (sym (ap (λ t. if t then Some b else from_bottom list n) here.0) ∙ e) in
          let is_q : r ≡ q = some_is r q (sym (ap (λ t. if t then Some r else from_bottom qs n) (eq-eqb n (length qs) (here.1 ∙ same))) ∙ f) in
          record {
            below = qs;
            scoped = subst (λ (q : Parent). Scoped p a q.frame qs) is_q (subst (λ (a : Activation). Scoped p a r.frame qs) is_a h.0);
            part = λ m x g. below_top qs m x r g;
          })
      | inr there ↦ (
          let e' : from_bottom list n ≡ Some a = sym (ap (λ t. if t then Some b else from_bottom list n) there.0) ∙ e in
          let f' : from_bottom qs n ≡ Some q = sym (ap (λ t. if t then Some r else from_bottom qs n) (ne_eqb n (length qs) (λ k. there.1 (k ∙ sym same)))) ∙ f in
          let found = scoped_at p list qs n a q h.1 e' f' in
          record { below = found.below; scoped = found.scoped; part = λ m x g. below_top qs m x r (found.part m x g) })
    ]

pub leads_more : (parents more : List Parent) (o : Option ℕ) (scope : Scope ℕ Instance) → ((n : ℕ) (x : Parent) → from_bottom parents n ≡ Some x → from_bottom more n ≡ Some x) → Leads parents o scope → Leads more o scope
leads_more parents more None scope part h = h
leads_more parents more (Some n) scope part h = (h.0, part n h.0 h.1, h.2)

-- the item at this depth of a stack
standing : {A : Type 0} (xs : List A) (n : ℕ) → n < length xs → (x : A) × (from_bottom xs n ≡ Some x)
standing [] n low = absurd (omega (arith, low))
standing (x ∷ xs) n low = elim (eqb_tells n (length xs)) [
  | inl here ↦ (x, ap (λ t. if t then Some x else from_bottom xs n) here.0)
  | inr there ↦ (
      let other = there.1 in
      let below = standing xs n (omega (arith, low, other)) in
      (below.0, ap (λ t. if t then Some x else from_bottom xs n) there.0 ∙ below.1)
      )
]

-- the home of a frame is its activation's
home_is : (p : Source) (a : Activation) (fr : Frame) (parents : List Parent) → (s : Scoped p a fr parents) → fr.scope ≡ home_at a ∷ s.outer
home_is p a fr parents s =
    s.scope ∙ ap (λ k. record { cells = λ n. a.base + n; own = λ n. record { frame = a.number; place = k + n }; given = a.given.items } ∷ s.outer) (sym s.first)

cut : {A : Type 0} (x y : A) (xs ys : List A) → (x ∷ xs) ≡ (y ∷ ys) → (x ≡ y) × (xs ≡ ys)
cut x y xs ys e = (cc, cc)

-- the activation that a static link leads to
record Stood (p : Source) (below : List Activation) (parents : List Parent) (n : ℕ) (scope : Scope ℕ Instance) : Type 0 where
  frame : Activation
  there : slice_get (reverse below) n ≡ Some frame
  outer : Scope ℕ Instance
  scope_is : scope ≡ home_at frame ∷ outer
  low : frame.first < 65536
  leads : Leads parents frame.outer outer

stood : (p : Source) (below : List Activation) (parents : List Parent) (n : ℕ) (scope : Scope ℕ Instance) → AreScoped p below parents → Leads parents (Some n) scope → Stood p below parents n scope
stood p below parents n scope waits h =
    let q = h.0 in
    let low = within parents n q h.1 in
    let same = scoped_length p below parents waits in
    let there = standing below n (omega (arith, low, same)) in
    let a = there.0 in
    let found = scoped_at p below parents n a q waits there.1 h.1 in
    let s = found.scoped in
    record {
      frame = a;
      there = bottom_up below n ∙ there.1;
      outer = s.outer;
      scope_is = h.2 ∙ home_is p a q.frame found.below s;
      low = s.low;
      leads = leads_more found.below parents a.outer s.outer found.part s.leads;
    }

-- static links that lead to waiting frames lead to their activations
links : (p : Source) (below : List Activation) (parents : List Parent) (o : Option ℕ) (scope : Scope ℕ Instance) → AreScoped p below parents → Leads parents o scope → LinksTo (reverse below) o scope
links p below parents None [] waits h = tt
links p below parents None (x ∷ scope) waits h = cc
links p below parents (Some n) [] waits h = let s = stood p below parents n [] waits h in let no = s.scope_is in cc
links p below parents (Some n) (x ∷ rest) waits h =
    let s = stood p below parents n (x ∷ rest) waits h in
    let parts = cut x (home_at s.frame) rest s.outer s.scope_is in
    (s.frame, s.there, parts.0, s.low, links p below parents s.frame.outer rest waits (subst (λ scope. Leads parents s.frame.outer scope) (sym parts.1) s.leads))

-- the scope of the running frame, by the activations
pub seen_scope : (p : Source) (frames : Frames) (fr : Frame) (parents : List Parent) → Seen p frames fr parents → HasScope frames.below.items frames.top fr.scope
seen_scope p frames fr parents seen =
    let s = seen.scoped in
    let linked = links p (waiting frames) parents frames.top.outer s.outer seen.waits s.leads in
    record {
      outer = s.outer;
      scope_is = home_is p frames.top fr parents s;
      low = s.low;
      links = subst (λ (list : List Activation). LinksTo list frames.top.outer s.outer) (reverse-reverse frames.below.items) linked;
    }

pub on_top : (p : Source) (frames : Frames) (fr : Frame) (parents : List Parent) → Seen p frames fr parents → IsOnTop frames fr
on_top p frames fr parents seen = let s = seen.scoped in record { number = s.number; scope = seen_scope p frames fr parents seen; result = s.result }

-- once another frame runs
pub waiting_more : {A : Type 0} (old new : List A) (x : A) → new ≡ old ++ x ∷ [] → reverse new ≡ x ∷ reverse old
waiting_more old new x e = ap reverse e ∙ reverse-append old (x ∷ [])

pub result_fits : (fr : Frame) (n : ℕ) (o : Option Place) → n ≤ MAX_CELLS → ResultFits fr n o → sight.ResultFits fr.scope o
result_fits fr n None few h = tt
result_fits fr n (Some x) few h = omega (arith, few, h)
