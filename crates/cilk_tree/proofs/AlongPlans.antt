-- Event orders along a plan are orderly: `along_orderly`. A run that departs nowhere follows its
-- event order: `follows_all`.
--
-- - `bare`, `bare_at`: an event's effect on the shared words up to its value, by kinds and
--   predecessors alone;
-- - `bare_alone`, `bare_read`, `bare_write`: back from it;
-- - `same_resume`, `was_word`, `is_word`, `afters`, `many`: what an event order along a plan shares
--   with the plan;
-- - `before_less`: the positions before a position are less.
use Rattle.std.proofs.Common.{◌≡◌, ◌≢◌, ◌↔◌, ℕ, zero, suc, ◌+◌, ◌-◌, ◌^◌, ◌<◌, ◌≤◌, Bool, true, false, nat_eq, if◌then◌else◌, List, [], ◌∷◌, length, map, Option, Some, None, slice_get, slice_index_or, refl, sym, ap, ◌∙◌, subst, arith, inl, inr, ⊎_elim}
use Rattle.std.specs.Option.{option_map}
use Rattle.std.proofs.lemmas.List.{length-map}
use Rattle.std.proofs.lemmas.Option.{slice_get-map}
use mathlib.Core.Logic.{dite}
use native.Mathlib.Decide.{ℕ_discrete}
use Rattle.cilk_types.specs.declared.event.Event.{Event}
use Rattle.cilk_types.specs.declared.event.Event.TheVariants as events
use Rattle.cilk_tree.specs.Races.{event_at}
use Rattle.cilk_tree.specs.Reach.{Among, Reaches, direct, through}
use Rattle.cilk_tree.specs.declared.event_order.EventOrder.{EventOrder}
use Rattle.cilk_tree.specs.Word.{WordEvent, plain, read, write, spawn, resume, finish, is_spawn, resumption, word_event, event, predecessors_of, Before, word_step, IsWord, IsLine, Conflict}
use Rattle.cilk_tree.specs.Orders.{IsOrderly}
use Rattle.cilk_tree.specs.Runs.{IsAsked, IsReached}
use Rattle.cilk_tree.specs.declared.kind.Kind.{Kind}
use Rattle.cilk_tree.specs.declared.kind.Kind.TheVariants as kinds
use Rattle.cilk_tree.specs.Kinds.{kind_of}
use Rattle.cilk_tree.specs.Along.{IsAlong, EventOrdersAlongAreOrderly, DepartsNowhere, FollowsWhereItDepartsNowhere}

-- ---- without values
abbrev bare : WordEvent → WordEvent
bare plain = plain
bare (read c n) = read c 0
bare (write c n) = write c 0
bare spawn = spawn
bare (resume q) = resume q
bare finish = finish

abbrev spawns : Option Kind → Bool
spawns (Some (kinds.Spawn f)) = true
spawns _ = false

abbrev returned : List Kind → List ℕ → WordEvent
returned ks (q ∷ []) = if spawns (slice_get ks (q - 1)) then resume q else plain
returned ks _ = plain

abbrev bare_of : List Kind → ℕ → Option Kind → List ℕ → WordEvent
bare_of ks p (Some (kinds.Read c)) ps = read c 0
bare_of ks p (Some (kinds.Write c)) ps = write c 0
bare_of ks p (Some (kinds.Spawn f)) ps = spawn
bare_of ks p (Some (kinds.Resume f)) ps = returned ks ps
bare_of ks p (Some kinds.End) ps = if nat_eq p (length ks) then finish else plain
bare_of ks p _ ps = plain

bare_if : (b : Bool) (w : WordEvent) → bare w ≡ w → bare (if b then w else plain) ≡ (if b then w else plain)
bare_if true w h = h
bare_if false w h = refl

spawns_is : (o : Option Event) → is_spawn o ≡ spawns (option_map kind_of o)
spawns_is None = refl
spawns_is (Some (events.Begin f)) = refl
spawns_is (Some (events.Spawn f)) = refl
spawns_is (Some (events.Call f)) = refl
spawns_is (Some (events.Resume f)) = refl
spawns_is (Some events.Sync) = refl
spawns_is (Some events.End) = refl
spawns_is (Some (events.Read c v)) = refl
spawns_is (Some (events.Write c v)) = refl
spawns_is (Some (events.Create i)) = refl
spawns_is (Some (events.Update i v)) = refl
spawns_is (Some (events.Set i v)) = refl
spawns_is (Some (events.Value i v)) = refl
spawns_is (Some (events.Print v)) = refl

returned_is : (es : List Event) (ps : List ℕ) → bare (resumption es ps) ≡ returned (map kind_of es) ps
returned_is es [] = refl
returned_is es (q ∷ []) =
    bare_if (is_spawn (event_at es q)) (resume q) refl
    ∙ ap (λ (b : Bool). if b then resume q else plain) (spawns_is (event_at es q) ∙ ap spawns (sym (slice_get-map kind_of es (q - 1))))
returned_is es (q ∷ r ∷ ps) = refl

bare_is : (es : List Event) (p : ℕ) (o : Option Event) (ps : List ℕ) → bare (word_event es p o ps) ≡ bare_of (map kind_of es) p (option_map kind_of o) ps
bare_is es p None ps = refl
bare_is es p (Some (events.Begin f)) ps = refl
bare_is es p (Some (events.Spawn f)) ps = refl
bare_is es p (Some (events.Call f)) ps = refl
bare_is es p (Some (events.Resume f)) ps = returned_is es ps
bare_is es p (Some events.Sync) ps = refl
bare_is es p (Some events.End) ps =
    bare_if (nat_eq p (length es)) finish refl ∙ ap (λ (n : ℕ). if nat_eq p n then finish else plain) (sym (length-map es kind_of))
bare_is es p (Some (events.Read c v)) ps = refl
bare_is es p (Some (events.Write c v)) ps = refl
bare_is es p (Some (events.Create i)) ps = refl
bare_is es p (Some (events.Update i v)) ps = refl
bare_is es p (Some (events.Set i v)) ps = refl
bare_is es p (Some (events.Value i v)) ps = refl
bare_is es p (Some (events.Print v)) ps = refl

abbrev bare_at : List Kind → List (List ℕ) → ℕ → WordEvent
bare_at ks pre p = bare_of ks p (slice_get ks (p - 1)) (slice_index_or pre (p - 1) [])

bare_what : (s : EventOrder) (p : ℕ) → bare (word_step s p) ≡ bare_at (map kind_of s.events) s.preceding p
bare_what s p =
    bare_is s.events p (event s p) (predecessors_of s p)
    ∙ ap (λ (o : Option Kind). bare_of (map kind_of s.events) p o (predecessors_of s p)) (sym (slice_get-map kind_of s.events (p - 1)))

-- ---- and back
abbrev HasNoValue : WordEvent → Type 0
HasNoValue plain = Unit {0}
HasNoValue (read c n) = ⊥
HasNoValue (write c n) = ⊥
HasNoValue spawn = Unit {0}
HasNoValue (resume q) = Unit {0}
HasNoValue finish = Unit {0}

bare_alone : (w x : WordEvent) → bare w ≡ x → HasNoValue x → w ≡ x
bare_alone plain x h n = h
bare_alone (read c k) x h n = absurd (subst HasNoValue (sym h) n)
bare_alone (write c k) x h n = absurd (subst HasNoValue (sym h) n)
bare_alone spawn x h n = h
bare_alone (resume q) x h n = h
bare_alone finish x h n = h

bare_read : (w : WordEvent) (c : ℕ) → bare w ≡ read c 0 → (n : ℕ) × (w ≡ read c n)
bare_read (read d n) c h = let same : d ≡ c = cc h in (n, ap (λ (k : ℕ). read k n) same)
bare_read plain c h = absurd (cc h)
bare_read (write d n) c h = absurd (cc h)
bare_read spawn c h = absurd (cc h)
bare_read (resume q) c h = absurd (cc h)
bare_read finish c h = absurd (cc h)

bare_write : (w : WordEvent) (c : ℕ) → bare w ≡ write c 0 → (n : ℕ) × (w ≡ write c n)
bare_write (write d n) c h = let same : d ≡ c = cc h in (n, ap (λ (k : ℕ). write k n) same)
bare_write plain c h = absurd (cc h)
bare_write (read d n) c h = absurd (cc h)
bare_write spawn c h = absurd (cc h)
bare_write (resume q) c h = absurd (cc h)
bare_write finish c h = absurd (cc h)

word_bare : (w : WordEvent) → IsWord w → IsWord (bare w)
word_bare plain h = h
word_bare (read c n) h = h
word_bare (write c n) h = h
word_bare spawn h = h
word_bare (resume q) h = h
word_bare finish h = h

bare_word : (w : WordEvent) → IsWord (bare w) → IsWord w
bare_word plain h = h
bare_word (read c n) h = h
bare_word (write c n) h = h
bare_word spawn h = h
bare_word (resume q) h = h
bare_word finish h = h

line_bare : (w : WordEvent) → IsLine w → IsLine (bare w)
line_bare plain h = h
line_bare (read c n) h = h
line_bare (write c n) h = h
line_bare spawn h = h
line_bare (resume q) h = h
line_bare finish h = h

bare_line : (w : WordEvent) → IsLine (bare w) → IsLine w
bare_line plain h = h
bare_line (read c n) h = h
bare_line (write c n) h = h
bare_line spawn h = h
bare_line (resume q) h = h
bare_line finish h = h

sync_of : (o : Option Event) → option_map kind_of o ≡ Some kinds.Sync → o ≡ Some events.Sync
sync_of (Some events.Sync) h = refl
sync_of o h = absurd (cc h)

-- ---- an event order along a plan
module _ (plan s : EventOrder) (along : IsAlong plan s) where
  same : (p : ℕ) → bare (word_step s p) ≡ bare (word_step plan p)
  same p =
      bare_what s p
      ∙ ap (λ (ks : List Kind). bare_at ks s.preceding p) along.kinds
      ∙ ap (λ (pre : List (List ℕ)). bare_at (map kind_of plan.events) pre p) along.preceding
      ∙ sym (bare_what plan p)

  here : (p : ℕ) (x : WordEvent) → HasNoValue x → bare x ≡ x → word_step plan p ≡ x → word_step s p ≡ x
  here p x n b h = bare_alone (word_step s p) x (same p ∙ ap bare h ∙ b) n

  there : (p : ℕ) (x : WordEvent) → HasNoValue x → bare x ≡ x → word_step s p ≡ x → word_step plan p ≡ x
  there p x n b h = bare_alone (word_step plan p) x (sym (same p) ∙ ap bare h ∙ b) n

  pub same_resume : (p q : ℕ) → (word_step s p ≡ resume q) ↔ (word_step plan p ≡ resume q)
  same_resume p q = (there p (resume q) tt refl, here p (resume q) tt refl)

  pub afters : predecessors_of s ≡ predecessors_of plan
  afters = ap (λ (pre : List (List ℕ)). (λ (p : ℕ). slice_index_or pre (p - 1) [])) along.preceding

  pub many : length s.events ≡ length plan.events
  many = sym (length-map s.events kind_of) ∙ ap length along.kinds ∙ length-map plan.events kind_of

  among : (e p : ℕ) → Among e (predecessors_of s p) → Among e (predecessors_of plan p)
  among e p a = subst (λ (g : ℕ → List ℕ). Among e (g p)) afters a

  before : (q p : ℕ) → Before plan q p → Before s q p
  before q p h = subst (λ (g : ℕ → List ℕ). Reaches g q p) (sym afters) h

  pub was_word : (p : ℕ) → IsWord (word_step s p) → IsWord (word_step plan p)
  was_word p h = bare_word (word_step plan p) (subst IsWord (same p) (word_bare (word_step s p) h))

  pub is_word : (p : ℕ) → IsWord (word_step plan p) → IsWord (word_step s p)
  is_word p h = bare_word (word_step s p) (subst IsWord (sym (same p)) (word_bare (word_step plan p) h))

  was_line : (p : ℕ) → IsLine (word_step s p) → IsLine (word_step plan p)
  was_line p h = bare_line (word_step plan p) (subst IsLine (same p) (line_bare (word_step s p) h))

  was_read : (p c n : ℕ) → word_step s p ≡ read c n → (m : ℕ) × (word_step plan p ≡ read c m)
  was_read p c n h = bare_read (word_step plan p) c (sym (same p) ∙ ap bare h)

  was_write : (p c n : ℕ) → word_step s p ≡ write c n → (m : ℕ) × (word_step plan p ≡ write c m)
  was_write p c n h = bare_write (word_step plan p) c (sym (same p) ∙ ap bare h)

  was_sync : (p : ℕ) → event plan p ≡ Some events.Sync → event s p ≡ Some events.Sync
  was_sync p h = sync_of (event s p)
      (sym (slice_get-map kind_of s.events (p - 1)) ∙ ap (λ (ks : List Kind). slice_get ks (p - 1)) along.kinds
      ∙ slice_get-map kind_of plan.events (p - 1) ∙ ap (option_map kind_of) h)

  conflict : (p q : ℕ) → Conflict s p q → Conflict plan p q
  conflict p q (c, v, w, inl h) = let a = was_write p c v h.0 in let b = was_read q c w h.1 in (c, a.0, b.0, inl (a.1, b.1))
  conflict p q (c, v, w, inr (inl h)) = let a = was_read p c w h.0 in let b = was_write q c v h.1 in (c, b.0, a.0, inr (inl (a.1, b.1)))
  conflict p q (c, v, w, inr (inr h)) = let a = was_write p c v h.0 in let b = was_write q c w h.1 in (c, a.0, b.0, inr (inr (a.1, b.1)))

  module _ (o : IsOrderly plan) where
    resumed : (p q : ℕ) → word_step s p ≡ resume q → (word_step s q ≡ spawn) × Among q (predecessors_of s p) × ((e : ℕ) → Among e (predecessors_of s p) → e ≡ q)
    resumed p q h =
        let r = o.resumed p q (there p (resume q) tt refl h) in (
          here q spawn tt refl r.0,
          subst (λ (g : ℕ → List ℕ). Among q (g p)) (sym afters) r.1,
          λ e a. r.2 e (among e p a),
        )

    returns : (q : ℕ) → word_step s q ≡ spawn → (p : ℕ) × (word_step s p ≡ resume q)
    returns q h = let r = o.returns q (there q spawn tt refl h) in (r.0, here r.0 (resume q) tt refl r.1)

    inside : (p : ℕ) → IsWord (word_step s p) → (1 ≤ p) × (p ≤ length s.events)
    inside p h = let i = o.inside p (was_word p h) in let m = many in (i.0, let k = i.1 in omega (arith, k, m))

    small : length s.opening + length s.events + 1 < 2 ^ 34
    small = let m = many in let k = o.small in let c = ap length along.opening in omega (arith, m, k, c)

    few : length s.events + 1 < 2 ^ 32
    few = let m = many in let k = o.few in omega (arith, m, k)

    some : 1 ≤ length s.events
    some = let m = many in let k = o.root.1 in omega (arith, m, k)

    last : word_step s (length s.events) ≡ finish
    last = subst (λ (n : ℕ). word_step s n ≡ finish) (sym many) (here (length plan.events) finish tt refl o.last)

    all : (p : ℕ) → 1 ≤ p → p < length s.events → Before s p (length s.events)
    all p low less =
        let m = many in
        subst (λ (n : ℕ). Before s p n) (sym many) (before p (length plan.events) (o.all p low (omega (arith, less, m))))

    orderly : IsOrderly s
    orderly = record {
      root = (here 1 plain tt refl o.root.0, some);
      none_ahead = λ e a. o.none_ahead e (among e 1 a);
      last = last;
      finished = λ p h. o.finished p (there p finish tt refl h) ∙ sym many;
      inside = inside;
      few = few;
      small = small;
      earlier = λ p e a. o.earlier p e (among e p a);
      line = λ p h e a. o.line p (was_line p h) e (among e p a);
      ordinary = λ p h other e a. o.ordinary p (there p plain tt refl h) (λ z. other (was_sync p z)) e (among e p a);
      resumed = resumed;
      returns = returns;
      once = λ p p' q h h'. o.once p p' q (there p (resume q) tt refl h) (there p' (resume q) tt refl h');
      no_race = λ p q less bad. before p q (o.no_race p q less (conflict p q bad));
      all = all;
    }

pub along_orderly : EventOrdersAlongAreOrderly
along_orderly plan s o along = orderly plan s along o

-- ---- where a run departs nowhere
before_less : (s : EventOrder) → IsOrderly s → (q p : ℕ) → Before s q p → q < p
before_less s o q p (direct a) = o.earlier p q a
before_less s o q p (through {e = e} r a) = let i = before_less s o q e r in let k = o.earlier p e a in omega (arith, i, k)

none_before_first : (s : EventOrder) → IsOrderly s → (q : ℕ) → Before s q 1 → ⊥
none_before_first s o q (direct a) = o.none_ahead q a
none_before_first s o q (through {e = e} r a) = o.none_ahead e a

module _ (s : EventOrder) (o : IsOrderly s) (begins : IsAsked s 1) (nowhere : DepartsNowhere s) where
  abbrev AllBelow : ℕ → Type 0
  AllBelow n = (q : ℕ) → q < n → q ≤ length s.events → IsAsked s q

  reached : (p : ℕ) → p ≤ length s.events → AllBelow p → IsReached s p
  reached p within below = record {
    sync = λ is e next q up. ⊎_elim
        (λ (x : q ≡ e). below q (omega (arith, x, next)) (omega (arith, x, next, within)))
        (λ (x : Before s q e). let l = before_less s o q e x in below q (omega (arith, l, next)) (omega (arith, l, next, within)))
        up;
    other = λ is q b. let l = before_less s o q p b in below q l (omega (arith, l, within));
  }

  asked_here : (p : ℕ) → 1 ≤ p → p ≤ length s.events → AllBelow p → (t : Bool) → slice_index_or s.asked (p - 1) false ≡ t → IsAsked s p
  asked_here p low within below true is = is
  asked_here p low within below false is = absurd (nowhere p (record {
    place = (low, within);
    reached = reached p within below;
    differs = λ h. (let z : false ≡ true = sym is ∙ h in cc z);
  }))

  all_below : (n : ℕ) → AllBelow n
  all_below zero q less within = absurd (omega (arith, less))
  all_below (suc zero) q less within = let none : 0 ≡ q = omega (arith, less) in subst (IsAsked s) none begins
  all_below (suc (suc k)) q less within = dite (ℕ_discrete q (suc k))
      (λ (last : q ≡ suc k). subst (IsAsked s) (sym last)
      (asked_here (suc k) (omega arith) (omega (arith, last, within)) (all_below (suc k)) (slice_index_or s.asked (suc k - 1) false) refl))
      (λ (other : q ≢ suc k). all_below (suc k) q (omega (arith, less, other)) within)

pub follows_all : FollowsWhereItDepartsNowhere
follows_all s o begins nowhere p i q up = ⊎_elim
    (λ (x : q ≡ p). all_below s o begins nowhere (suc p) q (omega (arith, x)) (let h = i.1 in omega (arith, x, h)))
    (λ (x : Before s q p). let l = before_less s o q p x in all_below s o begins nowhere (suc p) q (omega (arith, l)) (let h = i.1 in omega (arith, l, h)))
    up
