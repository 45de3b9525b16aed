-- Alike activations see the same.
--
-- - `alike_on_top`: the frame on top;
-- - `alike_length`, `alike_none`, `alike_more`, `alike_split`: the suspended frames: their number,
--   none, one more, and the uppermost.
use Rattle.std.proofs.Common.{◌≡◌, ℕ, zero, suc, ◌+◌, ◌<◌, List, [], ◌∷◌, ◌++◌, length, slice_get, Option, Some, None, refl, sym, ap, ◌∙◌, subst}
use Rattle.cilk_types.specs.declared.event.Instance.{Instance}
use Rattle.cilk_program.specs.Scopes.{Scope}
use Rattle.cilk_program.specs.SerialRun.{Frame}
use Rattle.cilk_frames.specs.declared.activation.Activation as activations
use Rattle.cilk_frames.specs.declared.call_stack.CallStack as call_stacks
use Rattle.cilk_frames.specs.Sight.{LinksTo, home_at}
use Rattle.cilk_serial.specs.Scoped.{IsOnTop}
use Rattle.cilk_helpers.specs.Telling.{IsAlike, AllAlike, AreAlike}

same_home : {C D : Type 0} (a : activations.Activation C) (b : activations.Activation D) → IsAlike a b → home_at b ≡ home_at a
same_home a b s =
    ap (λ (n : ℕ). record { cells = λ i. n + i; own = λ i. record { frame = b.number; place = b.first + i }; given = b.given.items }) (sym s.base)
    ∙ ap (λ (n : ℕ). record { cells = λ i. a.base + i; own = λ i. record { frame = n; place = b.first + i }; given = b.given.items }) (sym s.number)
    ∙ ap (λ (n : ℕ). record { cells = λ i. a.base + i; own = λ i. record { frame = a.number; place = n + i }; given = b.given.items }) (sym s.first)
    ∙ ap (λ (l : List Instance). record { cells = λ i. a.base + i; own = λ i. record { frame = a.number; place = a.first + i }; given = l }) (ap (λ v. v.items) (sym s.given))

-- the one at the same place
at : {C D : Type 0} (fs : List (activations.Activation C)) (gs : List (activations.Activation D)) (n : ℕ) (b : activations.Activation D) → AllAlike fs gs → slice_get gs n ≡ Some b
    → (a : activations.Activation C) × (slice_get fs n ≡ Some a) × IsAlike a b
at {C} {D} [] [] n b h is = absurd (let z : None ≡ Some b = is in cc z)
at {C} {D} [] (g ∷ gs) n b h is = absurd h
at {C} {D} (f ∷ fs) [] n b h is = absurd h
at {C} {D} (f ∷ fs) (g ∷ gs) zero b h is =
    let e : Some g ≡ Some b = is in
    let same : g ≡ b = cc e in
    (f, refl, subst (λ (x : activations.Activation D). IsAlike f x) same h.0)
at {C} {D} (f ∷ fs) (g ∷ gs) (suc n) b h is = at fs gs n b h.1 is

links_alike : {C D : Type 0} (fs : List (activations.Activation C)) (gs : List (activations.Activation D)) (o : Option ℕ) (scope : Scope ℕ Instance) → AllAlike fs gs → LinksTo gs o scope → LinksTo fs o scope
links_alike {C} {D} fs gs None [] h l = tt
links_alike {C} {D} fs gs None (x ∷ scope) h l = absurd l
links_alike {C} {D} fs gs (Some n) [] h l = absurd l
links_alike {C} {D} fs gs (Some n) (x ∷ scope) h l =
    let b = l.0 in
    let found = at fs gs n b h l.1 in
    let a = found.0 in
    let s = found.2 in (
      a,
      found.1,
      l.2 ∙ same_home a b s,
      subst (λ (k : ℕ). k < 65536) (sym s.first) l.3,
      subst (λ (o : Option ℕ). LinksTo fs o scope) (sym s.outer) (links_alike fs gs b.outer scope h l.4),
    )

pub alike_on_top : {C D : Type 0} (f : call_stacks.CallStack C) (g : call_stacks.CallStack D) (fr : Frame) → AreAlike f g → IsOnTop g fr → IsOnTop f fr
alike_on_top {C} {D} f g fr h on =
    let s = h.top in
    let sight = on.scope in
    record {
      number = on.number ∙ sym s.number;
      scope = record {
        outer = sight.outer;
        scope_is = sight.scope_is ∙ ap (λ x. x ∷ sight.outer) (same_home f.top g.top s);
        low = subst (λ (k : ℕ). k < 65536) (sym s.first) sight.low;
        links = subst (λ (o : Option ℕ). LinksTo f.below.items o sight.outer) (sym s.outer) (links_alike f.below.items g.below.items g.top.outer sight.outer h.below sight.links);
      };
      result = on.result ∙ sym s.result;
    }

-- ---- lists

pub alike_length : {C D : Type 0} (fs : List (activations.Activation C)) (gs : List (activations.Activation D)) → AllAlike fs gs → length gs ≡ length fs
alike_length {C} {D} [] [] h = refl
alike_length {C} {D} [] (g ∷ gs) h = absurd h
alike_length {C} {D} (f ∷ fs) [] h = absurd h
alike_length {C} {D} (f ∷ fs) (g ∷ gs) h = ap suc (alike_length fs gs h.1)

-- the last of a list, and those before it
pub record IsSplit {C D : Type 0} (fs : List (activations.Activation C)) (f : activations.Activation C) (gs : List (activations.Activation D)) : Type 0 where
  pub last : activations.Activation D
  pub rest : List (activations.Activation D)
  pub is : gs ≡ rest ++ last ∷ []
  pub alike : AllAlike fs rest
  pub last_alike : IsAlike f last

pub alike_split : {C D : Type 0} (fs : List (activations.Activation C)) (f : activations.Activation C) (gs : List (activations.Activation D)) → AllAlike (fs ++ f ∷ []) gs → IsSplit fs f gs
alike_split {C} {D} [] f [] h = absurd h
alike_split {C} {D} [] f (g ∷ []) h = record { last = g; rest = []; is = refl; alike = tt; last_alike = h.0 }
alike_split {C} {D} [] f (g ∷ (x ∷ gs)) h = absurd h.1
alike_split {C} {D} (e ∷ fs) f [] h = absurd h
alike_split {C} {D} (e ∷ fs) f (g ∷ gs) h =
    let s = alike_split fs f gs h.1 in
    record { last = s.last; rest = g ∷ s.rest; is = ap (λ (l : List (activations.Activation D)). g ∷ l) s.is; alike = (h.0, s.alike); last_alike = s.last_alike }

pub alike_none : (C : Type 0) {D : Type 0} (gs : List (activations.Activation D)) → AllAlike {C = C} [] gs → gs ≡ []
alike_none C {D} [] h = refl
alike_none C {D} (g ∷ gs) h = absurd h

-- one more on top of them
pub alike_more : {C D : Type 0} (fs : List (activations.Activation C)) (gs : List (activations.Activation D)) (f : activations.Activation C) (g : activations.Activation D) → AllAlike fs gs → IsAlike f g → AllAlike (fs ++ f ∷ []) (gs ++ g ∷ [])
alike_more {C} {D} [] [] f g h s = (s, tt)
alike_more {C} {D} [] (x ∷ gs) f g h s = absurd h
alike_more {C} {D} (e ∷ fs) [] f g h s = absurd h
alike_more {C} {D} (e ∷ fs) (x ∷ gs) f g h s = (h.0, alike_more fs gs f g h.1 s)
