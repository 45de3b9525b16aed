-- Where static links lead.
-- `links_on`, `links_nowhere`                  one link further
-- `outer_gives`                                the frame n links up
-- `home_cell`, `home_own`, `home_given`        the meaning of a place there
-- `no_cell`, `no_own`, `no_given`              its meaning if there is no such frame
-- `instances_more`, `small_at`                 lists of reducers
-- `links_more`                                 links in a longer list
-- `sees_function`, `sees_turns`, `sees_root`   the scope of a new frame
use Rattle.std.proofs.Common.{◌≡◌, ℕ, zero, suc, ◌+◌, ◌-◌, ◌<◌, ◌≤◌, List, [], ◌∷◌, ◌++◌, length, take, drop, get_or, slice_get, unwrap_or, Option, Some, None, refl, sym, ap, ◌∙◌, subst, arith, Bor, MatchOption}
use Rattle.std.proofs.lemmas.List.{take_more, map-append}
use Rattle.cilk_types.specs.declared.event.Instance.{Instance}
use Rattle.cilk_program.specs.declared.ask.FunctionCall.{FunctionCall}
use Rattle.cilk_program.specs.declared.ask.LoopPart.{LoopPart}
use Rattle.cilk_program.specs.declared.ask.Callee.TheVariants as callees
use Rattle.cilk_program.specs.declared.syntax.Place.TheVariants as places
use Rattle.cilk_program.specs.declared.syntax.Reducer.{Reducer}
use Rattle.cilk_program.specs.declared.syntax.ReducerPlace.TheVariants as reducers
use Rattle.cilk_program.specs.Scopes.{Scope, cell_in, instance_in, instances_in, at_home}
use Rattle.cilk_program.specs.SerialRun.{given_to, global_reducer, home_of, itself, outer_of}
use Rattle.cilk_program.specs.Syntax.{Source}
use Rattle.cilk_frames.specs.declared.activation.Activation.{Activation}
use Rattle.cilk_frames.specs.Sight.{AreSmall, HasScope, LinksTo, home_at, number_in}

some_is : {A : Type 0} (x y : A) → Some x ≡ Some y → x ≡ y
some_is x y e = cc

drop_one : {A : Type 0} (xs : List A) (n : ℕ) → drop (suc n) xs ≡ drop 1 (drop n xs)
drop_one [] zero = refl
drop_one [] (suc n) = refl
drop_one (x ∷ xs) zero = refl
drop_one (x ∷ xs) (suc n) = drop_one xs n

drop_none : {A : Type 0} (xs : List A) (n k : ℕ) → drop n xs ≡ [] → drop (k + n) xs ≡ []
drop_none xs n zero e = let same : 0 + n ≡ n = omega arith in ap (λ m. drop m xs) same ∙ e
drop_none xs n (suc k) e = let same : suc k + n ≡ suc (k + n) = omega arith in ap (λ m. drop m xs) same ∙ drop_one xs (k + n) ∙ ap (drop 1) (drop_none xs n k e)

at_drop : {A : Type 0} (xs : List A) (n : ℕ) → slice_get xs n ≡ slice_get (drop n xs) 0
at_drop [] zero = refl
at_drop [] (suc n) = refl
at_drop (x ∷ xs) zero = refl
at_drop (x ∷ xs) (suc n) = at_drop xs n

module _ {C : Type 0} (frames : List (Activation C)) where
  step : (n : ℕ) (a : Activation C) (xs : Scope ℕ Instance) → LinksTo frames (Some n) xs → slice_get frames n ≡ Some a → LinksTo frames a.outer (drop 1 xs)
  step n a [] h e = absurd h
  step n a (x ∷ xs) h e =
      let same : h.0 ≡ a = some_is h.0 a (sym h.1 ∙ e) in
      subst (λ (a : Activation C). LinksTo frames a.outer xs) same h.4

  -- one link further
  pub links_on : (scope : Scope ℕ Instance) (n c : ℕ) (a : Activation C) → LinksTo frames (Some n) (drop c scope) → slice_get frames n ≡ Some a → LinksTo frames a.outer (drop (c + 1) scope)
  links_on scope n c a h e =
      let one : c + 1 ≡ suc c = omega arith in
      subst (λ x. LinksTo frames a.outer x) (sym (ap (λ k. drop k scope) one ∙ drop_one scope c)) (step n a (drop c scope) h e)

  none_is : (xs : Scope ℕ Instance) → LinksTo frames None xs → xs ≡ []
  none_is [] h = refl
  none_is (x ∷ xs) h = absurd h

  is_none : (xs : Scope ℕ Instance) → xs ≡ [] → LinksTo frames None xs
  is_none xs e = subst (λ xs. LinksTo frames None xs) (sym e) tt

  -- where no link leads further
  pub links_nowhere : (scope : Scope ℕ Instance) (c up : ℕ) → c ≤ up → LinksTo frames None (drop c scope) → LinksTo frames None (drop up scope)
  links_nowhere scope c up low h =
      let e : up - c + c ≡ up = omega (arith, low) in
      is_none (drop up scope) (ap (λ n. drop n scope) (sym e) ∙ drop_none scope c (up - c) (none_is (drop c scope) h))

  pub links_past : {X : Type 0} (n : ℕ) (xs : Scope ℕ Instance) → LinksTo frames (Some n) xs → slice_get frames n ≡ None → X
  links_past n [] h e = absurd h
  links_past n (x ∷ xs) h e = let no : Some h.0 ≡ None = sym h.1 ∙ e in cc

  pub nothing_there : (scope : Scope ℕ Instance) (up : ℕ) → LinksTo frames None (drop up scope) → slice_get scope up ≡ None
  nothing_there scope up h = at_drop scope up ∙ ap (λ l. slice_get l 0) (none_is (drop up scope) h)

  found : (n : ℕ) (a : Activation C) (xs : Scope ℕ Instance) → LinksTo frames (Some n) xs → slice_get frames n ≡ Some a → (slice_get xs 0 ≡ Some (home_at a)) × (a.first < 65536)
  found n a [] h e = absurd h
  found n a (x ∷ xs) h e =
      let same : h.0 ≡ a = some_is h.0 a (sym h.1 ∙ e) in
      (ap Some h.2 ∙ ap (λ (a : Activation C). Some (home_at a)) same, subst (λ (a : Activation C). a.first < 65536) same h.3)

  -- the frame n links up
  pub outer_gives : (scope : Scope ℕ Instance) (up n : ℕ) (o : Option (Bor (Activation C))) → LinksTo frames (Some n) (drop up scope) → MatchOption o (slice_get frames n ≡ None) (λ (f : Bor (Activation C)). slice_get frames n ≡ Some f.now)
      → MatchOption o (slice_get scope up ≡ None) (λ (f : Bor (Activation C)). (slice_get scope up ≡ Some (home_at f.now)) × (f.now.first < 65536))
  outer_gives scope up n None h at = links_past n (drop up scope) h at
  outer_gives scope up n (Some f) h at = let there = found n f.now (drop up scope) h at in (at_drop scope up ∙ there.0, there.1)

  pub links_first : (a : Activation C) (scope : Scope ℕ Instance) → HasScope frames a scope → LinksTo frames a.outer (drop 1 scope)
  links_first a scope h = subst (λ x. LinksTo frames a.outer x) (sym (ap (drop 1) h.scope_is)) h.links

module _ {C : Type 0} (scope : Scope ℕ Instance) (up : ℕ) (a : Activation C) (home : slice_get scope up ≡ Some (home_at a)) where
  pub home_cell : (n : ℕ) → cell_in itself scope (places.Local up n) ≡ a.base + n
  home_cell n = ap (λ o. at_home o (itself n) (λ h. h.cells n)) home

  pub home_own : (n : ℕ) → instance_in global_reducer scope (reducers.Own up n) ≡ record { frame = a.number; place = a.first + n }
  home_own n = ap (λ o. at_home o (global_reducer n) (λ h. h.own n)) home

  pub home_given : (n : ℕ) → instance_in global_reducer scope (reducers.Given up n) ≡ unwrap_or (slice_get a.given.items n) (global_reducer n)
  home_given n = ap (λ o. at_home o (global_reducer n) (λ h. unwrap_or (slice_get h.given n) (global_reducer n))) home

module _ (scope : Scope ℕ Instance) (up : ℕ) (h : slice_get scope up ≡ None) where
  pub no_cell : (n : ℕ) → cell_in itself scope (places.Local up n) ≡ n
  no_cell n = ap (λ o. at_home o (itself n) (λ h. h.cells n)) h

  pub no_own : (n : ℕ) → instance_in global_reducer scope (reducers.Own up n) ≡ global_reducer n
  no_own n = ap (λ o. at_home o (global_reducer n) (λ h. h.own n)) h

  pub no_given : (n : ℕ) → instance_in global_reducer scope (reducers.Given up n) ≡ global_reducer n
  no_given n = ap (λ o. at_home o (global_reducer n) (λ h. unwrap_or (slice_get h.given n) (global_reducer n))) h

-- one more reducer
pub instances_more : (scope : Scope ℕ Instance) (rs : List Reducer) (n : ℕ) (d : Reducer) (list list' : List Instance) (i : Instance) → n < length rs
    → list ≡ instances_in global_reducer scope (take n rs) → list' ≡ list ++ i ∷ [] → i ≡ instance_in global_reducer scope (get_or rs n d).place → list' ≡ instances_in global_reducer scope (take (n + 1) rs)
instances_more scope rs n d list list' i low e e' same =
    e' ∙ ap (λ l. l ++ i ∷ []) e ∙ ap (λ x. instances_in global_reducer scope (take n rs) ++ x ∷ []) same
    ∙ sym (map-append (λ (r : Reducer). instance_in global_reducer scope r.place) (take n rs) (get_or rs n d ∷ []))
    ∙ ap (instances_in global_reducer scope) (sym (take_more rs n d low))

pub small_at : (rs : List Reducer) (n : ℕ) (d : Reducer) → AreSmall rs → n < length rs → number_in (get_or rs n d).place < 65536
small_at [] n d h low = absurd (omega (arith, low))
small_at (r ∷ rs) zero d h low = h.0
small_at (r ∷ rs) (suc n) d h low = small_at rs n d h.1 (omega (arith, low))

-- a list that extends another
abbrev pub Holds : {A : Type 0} → List A → List A → Type 0
Holds {A} some more = (n : ℕ) (x : A) → slice_get some n ≡ Some x → slice_get more n ≡ Some x

module _ {C : Type 0} where
  pub links_more : (frames more : List (Activation C)) (o : Option ℕ) (scope : Scope ℕ Instance) → Holds frames more → LinksTo frames o scope → LinksTo more o scope
  links_more frames more None [] holds h = tt
  links_more frames more None (x ∷ scope) holds h = absurd h
  links_more frames more (Some n) [] holds h = absurd h
  links_more frames more (Some n) (x ∷ scope) holds h =
      let a = h.0 in (a, holds n a h.1, h.2, h.3, links_more frames more a.outer scope holds h.4)

  pub sees_more : (frames more : List (Activation C)) (a : Activation C) (scope : Scope ℕ Instance) → Holds frames more → HasScope frames a scope → HasScope more a scope
  sees_more frames more a scope holds h = record { outer = h.outer; scope_is = h.scope_is; low = h.low; links = links_more frames more a.outer h.outer holds h.links }

  -- a frame whose body is in no other
  sees_alone : (more : List (Activation C)) (a : Activation C) (number base first : ℕ) (given : List Instance) → a.number ≡ number → a.base ≡ base → a.first ≡ first → a.given.items ≡ given → a.outer ≡ None → first < 65536
      → HasScope more a (record { cells = λ n. base + n; own = λ n. record { frame = number; place = first + n }; given = given } ∷ [])
  sees_alone more a number base first given e1 e2 e3 e4 e5 low = record {
    outer = [];
    scope_is = ap (λ k. record { cells = λ n. base + n; own = λ n. record { frame = k; place = first + n }; given = given } ∷ []) (sym e1)
        ∙ ap (λ k. record { cells = λ n. k + n; own = λ n. record { frame = a.number; place = first + n }; given = given } ∷ []) (sym e2)
        ∙ ap (λ k. record { cells = λ n. a.base + n; own = λ n. record { frame = a.number; place = k + n }; given = given } ∷ []) (sym e3)
        ∙ ap (λ l. record { cells = λ n. a.base + n; own = λ n. record { frame = a.number; place = a.first + n }; given = l } ∷ []) (sym e4);
    low = subst (λ k. k < 65536) (sym e3) low;
    links = subst (λ (o : Option ℕ). LinksTo more o []) (sym e5) tt;
  }

  pub sees_root : (p : Source) (more : List (Activation C)) (a : Activation C) (globals reducers : ℕ) → a.number ≡ 1 → a.base ≡ globals → a.first ≡ suc reducers → a.given.items ≡ [] → a.outer ≡ None → reducers < 65535
      → reducers ≡ length p.reducers → HasScope more a (home_of p callees.Root 1 globals [] ∷ [])
  sees_root p more a globals reducers e1 e2 e3 e4 e5 low is = sees_alone more a 1 globals (suc (length p.reducers)) [] e1 e2 (e3 ∙ ap suc is) e4 e5 (omega (arith, low, is))

  pub sees_function : (p : Source) (more : List (Activation C)) (a : Activation C) (number base : ℕ) (call : FunctionCall) (scope : Scope ℕ Instance) → a.number ≡ number → a.base ≡ base → a.first ≡ 1
      → a.given.items ≡ instances_in global_reducer scope call.reducers → a.outer ≡ None
      → HasScope more a (home_of p (callees.Function call) number base (given_to (callees.Function call) scope) ∷ outer_of (callees.Function call) scope)
  sees_function p more a number base call scope e1 e2 e3 e4 e5 = sees_alone more a number base 1 (instances_in global_reducer scope call.reducers) e1 e2 e3 e4 e5 (omega arith)

  links_up : (more : List (Activation C)) (top : Activation C) (scope : Scope ℕ Instance) (here up : ℕ) (o : Option ℕ) → slice_get more here ≡ Some top → HasScope more top scope → up ≤ 1
      → (up ≡ 0 → o ≡ Some here) → (up ≡ 1 → o ≡ top.outer) → LinksTo more o (drop up scope)
  links_up more top scope here zero o at sees low own out =
      subst (λ (o : Option ℕ). LinksTo more o scope) (sym (own refl))
      (subst (λ x. LinksTo more (Some here) x) (sym sees.scope_is) (top, at, refl, sees.low, sees.links))
  links_up more top scope here (suc zero) o at sees low own out = subst (λ (o : Option ℕ). LinksTo more o (drop 1 scope)) (sym (out refl)) (links_first more top scope sees)
  links_up more top scope here (suc (suc up)) o at sees low own out = absurd (omega (arith, low))

  pub sees_turns : (p : Source) (more : List (Activation C)) (a top : Activation C) (number base here : ℕ) (part : LoopPart) (scope : Scope ℕ Instance) → a.number ≡ number → a.base ≡ base → a.first ≡ 1 → a.given.items ≡ []
      → slice_get more here ≡ Some top → HasScope more top scope → part.up ≤ 1 → (part.up ≡ 0 → a.outer ≡ Some here) → (part.up ≡ 1 → a.outer ≡ top.outer)
      → HasScope more a (home_of p (callees.Loop part) number base (given_to (callees.Loop part) scope) ∷ outer_of (callees.Loop part) scope)
  sees_turns p more a top number base here part scope e1 e2 e3 e4 at sees low own out =
      let outer = drop part.up scope in
      record {
        outer = outer;
        scope_is = ap (λ k. record { cells = λ n. base + n; own = λ n. record { frame = k; place = 1 + n }; given = [] } ∷ outer) (sym e1)
            ∙ ap (λ k. record { cells = λ n. k + n; own = λ n. record { frame = a.number; place = 1 + n }; given = [] } ∷ outer) (sym e2)
            ∙ ap (λ k. record { cells = λ n. a.base + n; own = λ n. record { frame = a.number; place = k + n }; given = [] } ∷ outer) (sym e3)
            ∙ ap (λ l. record { cells = λ n. a.base + n; own = λ n. record { frame = a.number; place = a.first + n }; given = l } ∷ outer) (sym e4);
        low = omega (arith, e3);
        links = links_up more top scope here part.up a.outer at sees low own out;
      }
