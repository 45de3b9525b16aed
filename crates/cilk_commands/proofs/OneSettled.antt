-- A program and an input have one verdict.
--
-- - `one_first`: a list has one first race, or none;
-- - `races_once`, `settled_or_races`: a serial run has one first race, and isn't settled then;
-- - `settles_once`: so the command `settle` has one reply.
use Rattle.std.proofs.Common.{◌≡◌, ℕ, ℤ, List, Some, sym, ap, ap₂, ◌∙◌, subst, arith}
use Rattle.cilk_types.specs.declared.event.Event.{Event}
use Rattle.cilk_types.specs.Fault as faults
use Rattle.cilk_types.specs.declared.fault.Fault.{Fault}
use Rattle.cilk_types.specs.declared.limits.TheConstants.{MAX_EVENTS, MAX_TICKS}
use Rattle.cilk_types.specs.declared.outcome.Outcome.{Outcome}
use Rattle.cilk_program.specs.Outcomes.{Leaves, StopsBy}
use Rattle.cilk_program.specs.SerialRun.{IsSerialRun, Transcript}
use Rattle.cilk_program.specs.Syntax.{Source}
use Rattle.cilk_program.proofs.Uniqueness.{serial_run_is_one}
use Rattle.cilk_serial.specs.Ran as serial
use Rattle.cilk_tree.specs.Shape.{Shape, Spells}
use Rattle.cilk_tree.specs.Races.{HasNoRace, IsFirstRace}
use Rattle.cilk_tree.specs.Tree.{Tree, tree}
use Rattle.cilk_tree.proofs.Spelled.{spells_one}
use Rattle.cilk_peers.specs.ViewRaces.{HasNoViewRace, IsFirstViewRace}
use Rattle.cilk_determinacy.specs.Settled.{IsSettled}
use Rattle.cilk_checker.specs.Settled.{IsFirstOf, RacesAt}
use Rattle.cilk_checker.specs.declared.settle.FirstRace.{FirstRace}
use Rattle.cilk_checker.specs.declared.settle.FirstRace.TheVariants.{Determinacy, ViewRead}
use Rattle.cilk_checker.specs.Judging.{Meant}
use Rattle.cilk_checker.specs.Numbers.{fields_of, number_of}
use Rattle.cilk_checker.proofs.FirstFound.{one_race, one_view_race}
use Rattle.cilk_commands.specs.OneReply.{IsOfTexts}
use Rattle.cilk_commands.specs.Replies as replies
use Rattle.cilk_commands.specs.Replies.{Reply, places_of}
use Rattle.cilk_commands.specs.Shown.{RunFails, SettleShows, refusal_of}
use Rattle.cilk_commands.proofs.OneShown.{Ends, Shown, Stops, fails, leaves_or_stops, one_shown, same_leaves}

-- ---- a list of events

same_race : (t : Tree) (es : List Event) (p q p' q' : ℕ) → IsFirstRace t es p q → IsFirstRace t es p' q' → Determinacy p q ≡ Determinacy p' q'
same_race t es p q p' q' f g =
    let below = f.least p' q' g.race in
    let above = g.least p q f.race in
    let later : q' ≡ q = omega (arith, below, above) in
    let earlier = one_race t es p p' q f (subst (λ (k : ℕ). IsFirstRace t es p' k) later g) in
    ap₂ Determinacy earlier (sym later)

same_view_race : (t : Tree) (es : List Event) (p q p' q' : ℕ) → IsFirstViewRace t es p q → IsFirstViewRace t es p' q' → ViewRead p q ≡ ViewRead p' q'
same_view_race t es p q p' q' f g =
    let below = f.least p' q' g.race in
    let above = g.least p q f.race in
    let later : q' ≡ q = omega (arith, below, above) in
    let earlier = one_view_race t es p p' q f (subst (λ (k : ℕ). IsFirstViewRace t es p' k) later g) in
    ap₂ ViewRead earlier (sym later)

one_first : (t : Tree) (es : List Event) (f g : FirstRace) → IsFirstOf t es (Some f) → IsFirstOf t es (Some g) → f ≡ g
one_first t es (Determinacy p q) (Determinacy p' q') h k = same_race t es p q p' q' h k
one_first t es (Determinacy p q) (ViewRead p' q') h k = absurd (k.0 p q h.race)
one_first t es (ViewRead p q) (Determinacy p' q') h k = absurd (h.0 p' q' k.race)
one_first t es (ViewRead p q) (ViewRead p' q') h k = same_view_race t es p q p' q' h.1 k.1

none_first : (t : Tree) (es : List Event) (f : FirstRace) → HasNoRace t es → HasNoViewRace t es → IsFirstOf t es (Some f) → ⊥
none_first t es (Determinacy p q) none views h = none p q h.race
none_first t es (ViewRead p q) none views h = let race = h.1 in views p q race.race

-- ---- a serial run

module _ (p : Source) (inputs : List ℤ) where
  -- the first race of a list, carried over to the same list and its shape
  carried : (s s' : Shape) (es es' : List Event) (f : FirstRace) → es' ≡ es → Spells s es → Spells s' es' → IsFirstOf (tree s') es' (Some f) → IsFirstOf (tree s) es (Some f)
  carried s s' es es' f e spells spells' h =
      let same : s' ≡ s = spells_one s' s es (subst (Spells s') e spells') spells in
      subst (λ (x : Shape). IsFirstOf (tree x) es (Some f)) same (subst (λ (x : List Event). IsFirstOf (tree s') x (Some f)) e h)

  races_once : (f g : FirstRace) → RacesAt p inputs f → RacesAt p inputs g → f ≡ g
  races_once f g h k =
      let runs = serial_run_is_one p inputs MAX_TICKS MAX_EVENTS k.run h.run k.events h.events (Leaves k.outcome) (Leaves h.outcome) k.serial h.serial in
      one_first (tree h.shape) h.events f g h.is_first (carried h.shape k.shape h.events k.events g runs.1 h.spells k.spells k.is_first)

  settled_or_races : (o : Outcome) (g : FirstRace) → IsSettled p inputs o → RacesAt p inputs g → ⊥
  settled_or_races o g h k =
      let runs = serial_run_is_one p inputs MAX_TICKS MAX_EVENTS k.run h.run k.events h.events (Leaves k.outcome) (Leaves o) k.serial h.serial in
      let free = h.free in
      none_first (tree free.shape) h.events g free.races free.view_races (carried free.shape k.shape h.events k.events g runs.1 free.spells k.spells k.is_first)

-- ---- the replies of `settle`

-- no run that ends is shown
abbrev NoneEnds : Reply → Outcome → Type 0
NoneEnds r o = ⊥

-- the verdict that a reply shows
data Shows (m : Meant) (inputs : List ℤ) (r : Reply) : Type 0 where
  Settles : (o : Outcome) → r ≡ replies.Settled m.names o → IsSettled m.source inputs o → Shows m inputs r
  Races : (f : FirstRace) → r ≡ replies.Refused (number_of (refusal_of f)) (places_of (fields_of (refusal_of f))) → RacesAt m.source inputs f
      → Shows m inputs r
  Fails : (fault : Fault) (at : ℕ) → r ≡ replies.Faulted (faults.number_of fault) at → serial.Stops m.source inputs fault at → Shows m inputs r

stops_shown : (m : Meant) (inputs : List ℤ) (r : Reply) → Shown m inputs NoneEnds r → Shows m inputs r
stops_shown m inputs r (Ends o es none ran) = absurd none
stops_shown m inputs r (Stops fault at e h) = Fails fault at e h

failed : (m : Meant) (inputs : List ℤ) (r : Reply) → IsOfTexts r → RunFails m inputs r → Shows m inputs r
failed m inputs r v h = stops_shown m inputs r (fails m inputs NoneEnds r v h)

verdict : (m : Meant) (inputs : List ℤ) (r : Reply) → IsOfTexts r → SettleShows m inputs r → Shows m inputs r
verdict m inputs (replies.Settled names o) v h = Settles o (ap (λ x. replies.Settled x o) h.0) h.1
verdict m inputs (replies.Refused n ps) v h =
    Races h.0 (ap (λ x. replies.Refused x ps) h.1 ∙ ap (replies.Refused (number_of (refusal_of h.0))) h.2) h.3
verdict m inputs replies.NoMemory v h = absurd v
verdict m inputs (replies.Unreadable name) v h = absurd v
verdict m inputs replies.BadWords v h = failed m inputs replies.BadWords v h
verdict m inputs (replies.BadProgram n p) v h = failed m inputs (replies.BadProgram n p) v h
verdict m inputs (replies.BadInput n p) v h = failed m inputs (replies.BadInput n p) v h
verdict m inputs (replies.Faulted n at) v h = failed m inputs (replies.Faulted n at) v h
verdict m inputs (replies.FaultedIn n name) v h = failed m inputs (replies.FaultedIn n name) v h
verdict m inputs (replies.BadScript at) v h = failed m inputs (replies.BadScript at) v h
verdict m inputs (replies.Unmade skip) v h = failed m inputs (replies.Unmade skip) v h
verdict m inputs (replies.Ended names o) v h = failed m inputs (replies.Ended names o) v h
verdict m inputs (replies.Certified c) v h = failed m inputs (replies.Certified c) v h
verdict m inputs replies.Accepted v h = failed m inputs replies.Accepted v h
verdict m inputs replies.NotEnded v h = failed m inputs replies.NotEnded v h
verdict m inputs (replies.RaceFree n) v h = failed m inputs (replies.RaceFree n) v h
verdict m inputs (replies.BadTrace n at) v h = failed m inputs (replies.BadTrace n at) v h
verdict m inputs (replies.Changed name) v h = failed m inputs (replies.Changed name) v h

-- a run ends, or it is stopped
ends_or_stops : {A : Type 0} (m : Meant) (inputs : List ℤ) (run : Transcript) (es : List Event) (o : Outcome) (fault : Fault) (at : ℕ)
    → IsSerialRun m.source inputs run es (Leaves o) → serial.Stops m.source inputs fault at → A
ends_or_stops m inputs run es o fault at h k =
    let a = serial_run_is_one m.source inputs MAX_TICKS MAX_EVENTS run k.stops.run es k.events (Leaves o) (StopsBy fault) h k.stops.serial in
    leaves_or_stops o fault a.2

one_settled : (m : Meant) (inputs : List ℤ) (o p : Outcome) → IsSettled m.source inputs o → IsSettled m.source inputs p → o ≡ p
one_settled m inputs o p h k =
    let a = serial_run_is_one m.source inputs MAX_TICKS MAX_EVENTS h.run k.run h.events k.events (Leaves o) (Leaves p) h.serial k.serial in
    same_leaves o p a.2

judged_once : (m : Meant) (inputs : List ℤ) (r q : Reply) → Shows m inputs r → Shows m inputs q → r ≡ q
judged_once m inputs r q (Settles o e h) (Settles p d k) = e ∙ (ap (replies.Settled m.names) (one_settled m inputs o p h k) ∙ sym d)
judged_once m inputs r q (Settles o e h) (Races g d k) = absurd (settled_or_races m.source inputs o g h k)
judged_once m inputs r q (Settles o e h) (Fails fault at d k) = ends_or_stops m inputs h.run h.events o fault at h.serial k
judged_once m inputs r q (Races f e h) (Settles p d k) = absurd (settled_or_races m.source inputs p f k h)
judged_once m inputs r q (Races f e h) (Races g d k) =
    e ∙ (ap (λ (x : FirstRace). replies.Refused (number_of (refusal_of x)) (places_of (fields_of (refusal_of x)))) (races_once m.source inputs f g h k) ∙ sym d)
judged_once m inputs r q (Races f e h) (Fails fault at d k) = ends_or_stops m inputs h.run h.events h.outcome fault at h.serial k
judged_once m inputs r q (Fails fault at e h) (Settles p d k) = ends_or_stops m inputs k.run k.events p fault at k.serial h
judged_once m inputs r q (Fails fault at e h) (Races g d k) = ends_or_stops m inputs k.run k.events k.outcome fault at k.serial h
judged_once m inputs r q (Fails fault at e h) (Fails fault' at' d k) =
    one_shown m inputs NoneEnds (λ x y o p same none also. absurd none) r q (Stops fault at e h) (Stops fault' at' d k)

pub settles_once : (m : Meant) (inputs : List ℤ) (r q : Reply) → IsOfTexts r → IsOfTexts q → SettleShows m inputs r → SettleShows m inputs q → r ≡ q
settles_once m inputs r q v w h k = judged_once m inputs r q (verdict m inputs r v h) (verdict m inputs q w k)
