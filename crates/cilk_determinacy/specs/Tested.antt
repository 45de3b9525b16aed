-- A test of each pair of positions of a list of events, which shows by computing that the list has
-- no race.
use Rattle.std.specs.Prelude.{◌≡◌, ℕ, zero, suc, ◌+◌, ◌-◌, nat_lt, nat_eq, Bool, true, false, cond, ◌&&◌, not, List, length, Option, Some, None, get_or}
use Rattle.cilk_types.specs.declared.event.Event.{Event}
use Rattle.cilk_types.specs.declared.event.Event.TheVariants.{Read, Write, Create, Set, Value}
use Rattle.cilk_types.specs.declared.event.Instance.{Instance}
use Rattle.cilk_monoid.specs.Ranges.{same_instance}
use Rattle.cilk_tree.specs.Shape.{Shape, Spells}
use Rattle.cilk_tree.specs.Tree.{Tree, strand, series, parallel, leaves, tree}
use Rattle.cilk_tree.specs.Races.{strand_at, event_at, IsRace}
use Rattle.cilk_peers.specs.Peers.{class_numbers}
use Rattle.cilk_peers.specs.RaceFree.{IsRaceFree}

-- all numbers below n pass
abbrev pub all_below : (ℕ → Bool) → ℕ → Bool
all_below f zero = true
all_below f (suc n) = f n && all_below f n

abbrev pub or : Bool → Bool → Bool
or true b = true
or false b = b

abbrev pub holds : Tree → ℕ → ℕ → Bool
holds t o u = not (nat_lt u o) && nat_lt u (o + leaves t)

-- two leaves, counted from o, are on the two sides of a P node
abbrev pub beside : Tree → ℕ → ℕ → ℕ → Bool
beside (strand n) o u v = false
beside (series a b) o u v = or (beside a o u v) (beside b (o + leaves a) u v)
beside (parallel a b) o u v =
    or (beside a o u v) (or (beside b (o + leaves a) u v) (or (holds a o u && holds b (o + leaves a) v) (holds a o v && holds b (o + leaves a) u)))

abbrev pub cell_of : Option Event → Option ℕ
cell_of (Some (Read d v)) = Some d
cell_of (Some (Write d v)) = Some d
cell_of _ = None

abbrev pub is_write : Option Event → Bool
is_write (Some (Write d v)) = true
is_write _ = false

-- the instance of a reducer-read
abbrev pub read_of : Option Event → Option Instance
read_of (Some (Create i)) = Some i
read_of (Some (Set i v)) = Some i
read_of (Some (Value i v)) = Some i
read_of _ = None

abbrev pub same_numbers : Option ℕ → Option ℕ → Bool
same_numbers (Some a) (Some b) = nat_eq a b
same_numbers _ _ = false

abbrev pub same_reads : Option Instance → Option Instance → Bool
same_reads (Some a) (Some b) = same_instance a b
same_reads _ _ = false

-- two accesses of one cell, one of them a write
abbrev pub clash : Option Event → Option Event → Bool
clash d e = same_numbers (cell_of d) (cell_of e) && or (is_write d) (is_write e)

-- the two positions race
abbrev pub race : Tree → List Event → ℕ → ℕ → Bool
race t es p q = clash (event_at es p) (event_at es q) && beside t 1 (strand_at es p) (strand_at es q)

-- no two positions race, except those that are allowed to
abbrev pub is_free_but : (ℕ → ℕ → Bool) → Tree → List Event → Bool
is_free_but excepted t es = all_below (λ q. all_below (λ p. or (not (race t es p q)) (excepted p q)) q) (suc (length es))

abbrev pub none : ℕ → ℕ → Bool
none p q = false

abbrev pub class_at : Tree → ℕ → ℕ
class_at t u = get_or (class_numbers t 0 1) (u - 1) 0

-- if the two positions are reducer-reads of one instance, their strands are of one class
abbrev pub agree : Tree → List Event → ℕ → ℕ → Bool
agree t es p q = cond (same_reads (read_of (event_at es p)) (read_of (event_at es q))) (nat_eq (class_at t (strand_at es p)) (class_at t (strand_at es q))) true

abbrev pub is_view_free : Tree → List Event → Bool
is_view_free t es = all_below (λ q. all_below (λ p. agree t es p q) q) (suc (length es))

-- the test finds every race, and a list that passes both tests has none
pub record TestsTell : Type 0 where
  pub races : (t : Tree) (es : List Event) (excepted : ℕ → ℕ → Bool) → is_free_but excepted t es ≡ true → (p q : ℕ) → IsRace t es p q → excepted p q ≡ true
  pub free : (s : Shape) (es : List Event) → Spells s es → is_free_but none (tree s) es ≡ true → is_view_free (tree s) es ≡ true → IsRaceFree es
