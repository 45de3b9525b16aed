-- The pass from the last event to the first gives the tree's nodes in preorder.
use Rattle.std.proofs.Common.{◌≡◌, ◌≢◌, ℕ, suc, ◌+◌, ◌-◌, ◌<◌, ◌≤◌, ◌*◌, Bool, true, false, cond, nat_eq, List, [], ◌∷◌, ◌++◌, length, map, drop, get_or, Option, Some, None, refl, sym, ◌∙◌, ap, subst, arith}
use Rattle.std.proofs.lemmas.List.{append_assoc, append-nil, length-append, length-map, length-drop, get_or-map}
use Rattle.std.proofs.Math.Seq.{drop-cons, drop-length}
use Rattle.std.proofs.lemmas.Bool.{eq-eqb, ne_eqb}
use Rattle.cilk_tree.specs.declared.tree.Node.{Node}
use Rattle.cilk_tree.specs.declared.tree.Node.TheVariants as nodes
use Rattle.cilk_tree.specs.declared.building.StrandCounts.{StrandCounts}
use Rattle.cilk_tree.specs.declared.mark.Mark.{Mark}
use Rattle.cilk_tree.specs.declared.mark.Mark.TheVariants.{Begin, End, Sync, Resume, Spawn, Call, Plain}
use Rattle.cilk_types.specs.declared.event.Event.{Event}
use Rattle.cilk_tree.specs.Marks.{mark_of}
use Rattle.cilk_types.specs.declared.invocation.Invocation.{Invocation}
use Rattle.cilk_types.specs.declared.invocation.Invocation.TheVariants as invocations
use Rattle.cilk_tree.specs.Shape.{Shape, finish, act, sync, child, start_of, marks, SpellsMarks}
use Rattle.cilk_tree.specs.Tree.{Tree, strand, series, parallel, then_later, beside, Rest, block, blocks, rest_of, tree, leaves, preorder}
use Rattle.cilk_tree.specs.Built.{Built}
use Rattle.cilk_tree.specs.Building.{opening, strand_closed, block_closed, frame_closed, inner_place, outer_places, counted, step}
use Rattle.cilk_tree.proofs.Strands.{number, leaves-then_later}

-- after the pass over these events, last one first
abbrev pub after : List Mark → Built
after [] = opening
after (m ∷ ms) = step m (after ms)

pub has_leaf : (t : Tree) → 0 < leaves t
has_leaf (strand n) = omega arith
has_leaf (series a b) = let h = has_leaf a in omega arith
has_leaf (parallel a b) = let h = has_leaf a in omega arith

pub few_leaves : (t : Tree) → leaves t ≤ length (preorder t)
few_leaves (strand n) = omega arith
few_leaves (series a b) = let p = few_leaves a in let q = few_leaves b in let l = length-append (preorder a) (preorder b) in omega (arith, p, q, l)
few_leaves (parallel a b) = let p = few_leaves a in let q = few_leaves b in let l = length-append (preorder a) (preorder b) in omega (arith, p, q, l)

abbrev listed : Option Tree → List Node
listed None = []
listed (Some t) = preorder t

-- a tree and what comes later, as a test of numbers puts their node
joined : (t : Tree) (o : Option Tree) (x y : ℕ) (ns : List Node) → x ≡ y + number o
    → cond (nat_eq x y) [] (nodes.Series (leaves t) ∷ []) ++ (preorder t ++ (listed o ++ ns)) ≡ preorder (then_later t o) ++ ns
joined t None x y ns h = let e : x ≡ y = omega arith in rw (eq-eqb x y e) refl
joined t (Some l) x y ns h =
    let p = has_leaf l in
    let e : x ≢ y = omega arith in
    rw (ne_eqb x y e) (ap (λ (z : List Node). nodes.Series (leaves t) ∷ z) (sym (append_assoc (preorder t) (preorder l) ns)))

-- The state of the pass before the rest of a frame, if it was b0 after that frame.
record Stands (x : Rest) (b0 b : Built) : Type 0 where
  list : b.nodes ≡ listed x.after ++ (listed x.later ++ b0.nodes)
  events : b.events ≡ x.events
  strands : b.strands ≡ b0.strands + number x.later + number x.after
  frame : b.place.frame ≡ b0.strands
  block : b.place.block ≡ b0.strands + number x.later
  outer : b.outer ≡ b0.place ∷ b0.outer

-- the same with the current strand as a leaf
record Closed (x : Rest) (b0 b : Built) : Type 0 where
  list : b.nodes ≡ preorder (block x) ++ (listed x.later ++ b0.nodes)
  events : b.events ≡ 0
  strands : b.strands ≡ b0.strands + number x.later + leaves (block x)
  frame : b.place.frame ≡ b0.strands
  block : b.place.block ≡ b0.strands + number x.later
  outer : b.outer ≡ b0.place ∷ b0.outer

-- the same with the current block in series with the later ones
record Whole (x : Rest) (b0 b : Built) : Type 0 where
  list : b.nodes ≡ preorder (blocks x) ++ b0.nodes
  events : b.events ≡ 0
  strands : b.strands ≡ b0.strands + leaves (blocks x)
  frame : b.place.frame ≡ b0.strands
  outer : b.outer ≡ b0.place ∷ b0.outer

closed_list : (x : Rest) (b0 b : Built) → Stands x b0 b → (strand_closed (counted b)).nodes ≡ preorder (block x) ++ (listed x.later ++ b0.nodes)
closed_list x b0 b s =
    let e : b.strands ≡ b.place.block + number x.after = let p = s.strands in let q = s.block in omega arith in
    let j = joined (strand (suc x.events)) x.after b.strands b.place.block (listed x.later ++ b0.nodes) e in
    let q : b.events + 1 ≡ suc x.events = let p = s.events in omega arith in
    rw q (rw s.list j)

closes : (x : Rest) (b0 b : Built) → Stands x b0 b → Closed x b0 (strand_closed (counted b))
closes x b0 b s = record {
  list = closed_list x b0 b s;
  events = refl;
  strands = let p = s.strands in let l = leaves-then_later (strand (suc x.events)) x.after in omega (arith, p, l);
  frame = s.frame;
  block = s.block;
  outer = s.outer;
}

completes : (x : Rest) (b0 b : Built) → Closed x b0 b → Whole x b0 (block_closed b)
completes x b0 b s =
    let e : b.place.block ≡ b.place.frame + number x.later = let p = s.block in let q = s.frame in omega arith in
    let d : b.strands - b.place.block ≡ leaves (block x) = let p = s.block in let q = s.strands in omega arith in
    record {
      list = rw d (rw s.list (joined (block x) x.later b.place.block b.place.frame b0.nodes e));
      events = s.events;
      strands = let p = s.strands in let l = leaves-then_later (block x) x.later in omega (arith, p, l);
      frame = s.frame;
      outer = s.outer;
    }

whole : (x : Rest) (b0 b : Built) → Stands x b0 b → Whole x b0 (block_closed (strand_closed (counted b)))
whole x b0 b s = completes x b0 (strand_closed (counted b)) (closes x b0 b s)

-- a sync ends the block before it
syncs : (x : Rest) (b0 b : Built) → Whole x b0 b → Stands (record { events = 0; after = None; later = Some (blocks x) }) b0 (record b { place = record b.place { block = b.strands } })
syncs x b0 b w = record {
  list = w.list;
  events = w.events;
  strands = let p = w.strands in omega (arith, p);
  frame = w.frame;
  block = w.strands;
  outer = w.outer;
}

-- a child's first event leads back to its parent
record Left (x : Rest) (b0 b : Built) : Type 0 where
  list : b.nodes ≡ preorder (blocks x) ++ b0.nodes
  events : b.events ≡ 0
  strands : b.strands ≡ b0.strands + leaves (blocks x)
  place : b.place ≡ b0.place
  outer : b.outer ≡ b0.outer

leaves_frame : (x : Rest) (b0 b : Built) → Whole x b0 b → Left x b0 (frame_closed b)
leaves_frame x b0 b w = record {
  list = w.list;
  events = w.events;
  strands = w.strands;
  place = ap (inner_place b.place) w.outer;
  outer = ap outer_places w.outer;
}

-- the word that starts a child, between the strand that it ends, and the child and the rest of the
-- block
starts : (k : Invocation) (y x : Rest) (b0 b1 b2 : Built)
    → Closed x b0 b1 → Left y (record b1 { place = record b1.place { child = b1.strands } }) b2
    → Stands (record { events = 1; after = Some (beside k (blocks y) (block x)); later = x.later }) b0 (step (start_of k) b2)
starts invocations.Call y x b0 b1 b2 c l =
    let d : b2.strands - b2.place.child ≡ leaves (blocks y) = let p = l.strands in let q = ap (λ (z : StrandCounts). z.child) l.place in omega (arith, p, q) in
    let e : b2.nodes ≡ (preorder (blocks y) ++ preorder (block x)) ++ (listed x.later ++ b0.nodes) =
    l.list ∙ (ap (λ (z : List Node). preorder (blocks y) ++ z) c.list ∙ sym (append_assoc (preorder (blocks y)) (preorder (block x)) (listed x.later ++ b0.nodes))) in
    record {
      list = rw d (ap (λ (z : List Node). nodes.Series (leaves (blocks y)) ∷ z) e);
      events = let p = l.events in omega (arith, p);
      strands = let p = l.strands in let q = c.strands in omega (arith, p, q);
      frame = ap (λ (z : StrandCounts). z.frame) l.place ∙ c.frame;
      block = ap (λ (z : StrandCounts). z.block) l.place ∙ c.block;
      outer = l.outer ∙ c.outer;
    }
starts invocations.Spawn y x b0 b1 b2 c l =
    let d : b2.strands - b2.place.child ≡ leaves (blocks y) = let p = l.strands in let q = ap (λ (z : StrandCounts). z.child) l.place in omega (arith, p, q) in
    let f : b2.place.child - b2.place.block ≡ leaves (block x) =
    let q = ap (λ (z : StrandCounts). z.child) l.place in let r = ap (λ (z : StrandCounts). z.block) l.place in let s = c.block in let t = c.strands in omega (arith, q, r, s, t) in
    let e : b2.nodes ≡ (preorder (blocks y) ++ preorder (block x)) ++ (listed x.later ++ b0.nodes) =
    l.list ∙ (ap (λ (z : List Node). preorder (blocks y) ++ z) c.list ∙ sym (append_assoc (preorder (blocks y)) (preorder (block x)) (listed x.later ++ b0.nodes))) in
    record {
      list = rw d (rw f (ap (λ (z : List Node). nodes.Parallel (leaves (blocks y)) (leaves (block x)) ∷ z) e));
      events = let p = l.events in omega (arith, p);
      strands = let p = l.strands in let q = c.strands in omega (arith, p, q);
      frame = ap (λ (z : StrandCounts). z.frame) l.place ∙ c.frame;
      block = ap (λ (z : StrandCounts). z.block) l.place ∙ c.block;
      outer = l.outer ∙ c.outer;
    }

stands : (r : Shape) (rest : List Mark) → (after rest).events ≡ 0 → Stands (rest_of r) (after rest) (after (marks r ++ rest))
stands finish rest h = record {
  list = refl;
  events = omega (arith, h);
  strands = omega arith;
  frame = refl;
  block = omega arith;
  outer = refl;
}
stands (act r) rest h =
    let s = stands r rest h in
    record {
      list = s.list;
      events = let p = s.events in omega (arith, p);
      strands = s.strands;
      frame = s.frame;
      block = s.block;
      outer = s.outer;
    }
stands (sync r) rest h = syncs (rest_of r) (after rest) _ (whole (rest_of r) (after rest) _ (stands r rest h))
stands (child k u r) rest h =
    let s = stands r rest h in
    let c = closes (rest_of r) (after rest) (after (marks r ++ rest)) s in
    let inner = Resume ∷ (marks r ++ rest) in
    let i = stands u inner refl in
    let l = leaves_frame (rest_of u) (after inner) _ (whole (rest_of u) (after inner) (after (marks u ++ inner)) i) in
    let P = λ (ms : List Mark). Stands (rest_of (child k u r)) (after rest) (step (start_of k) (step Begin (after ms))) in
    subst P (sym (append_assoc (marks u) (Resume ∷ marks r) rest)) (starts k (rest_of u) (rest_of r) (after rest) (strand_closed (counted (after (marks r ++ rest)))) _ c l)

-- the whole run
pub builds : (s : Shape) → (after (Begin ∷ marks s)).nodes ≡ preorder (tree s)
builds s =
    let P = λ (ms : List Mark). (after (Begin ∷ ms)).nodes ≡ preorder (tree s) in
    let w = whole (rest_of s) opening (after (marks s ++ [])) (stands s [] refl) in
    subst P (append-nil (marks s)) (w.list ∙ append-nil (preorder (tree s)))

-- the numbers that an event adds
pub record IsWithin (n : ℕ) (b : Built) : Type 0 where
  pub strands : b.strands ≤ n
  pub events : b.events ≤ n
  pub nodes : length b.nodes ≤ 3 * n

length-nodes : (b : Bool) (m : Node) (ns : List Node) → length (cond b [] (m ∷ []) ++ ns) ≤ suc (length ns)
length-nodes true m ns = omega arith
length-nodes false m ns = omega arith

within : (n : ℕ) (b : Built) (m : Mark) → IsWithin n b → IsWithin (suc n) (step m b)
within n b Plain w = let p = w.strands in let q = w.events in let r = w.nodes in record { strands = omega (arith, p); events = omega (arith, q); nodes = omega (arith, r) }
within n b End w = let p = w.strands in let q = w.events in let r = w.nodes in record { strands = omega (arith, p); events = omega (arith, q); nodes = omega (arith, r) }
within n b Spawn w = let p = w.strands in let q = w.events in let r = w.nodes in record { strands = omega (arith, p); events = omega (arith, q); nodes = omega (arith, r) }
within n b Call w = let p = w.strands in let q = w.events in let r = w.nodes in record { strands = omega (arith, p); events = omega (arith, q); nodes = omega (arith, r) }
within n b Resume w =
    let p = w.strands in let r = w.nodes in
    let k = length-nodes (nat_eq b.strands b.place.block) (nodes.Series 1) (nodes.Strand (b.events + 1) ∷ b.nodes) in
    record { strands = omega (arith, p); events = omega arith; nodes = omega (arith, r, k) }
within n b Sync w =
    let p = w.strands in let r = w.nodes in
    let k = length-nodes (nat_eq b.strands b.place.block) (nodes.Series 1) (nodes.Strand (b.events + 1) ∷ b.nodes) in
    let j = length-nodes (nat_eq b.place.block b.place.frame) (nodes.Series (b.strands + 1 - b.place.block)) (strand_closed (counted b)).nodes in
    record { strands = omega (arith, p); events = omega arith; nodes = omega (arith, r, k, j) }
within n b Begin w =
    let p = w.strands in let r = w.nodes in
    let k = length-nodes (nat_eq b.strands b.place.block) (nodes.Series 1) (nodes.Strand (b.events + 1) ∷ b.nodes) in
    let j = length-nodes (nat_eq b.place.block b.place.frame) (nodes.Series (b.strands + 1 - b.place.block)) (strand_closed (counted b)).nodes in
    record { strands = omega (arith, p); events = omega arith; nodes = omega (arith, r, k, j) }

pub all_within : (ms : List Mark) → IsWithin (length ms) (after ms)
all_within [] = record { strands = omega arith; events = omega arith; nodes = omega arith }
all_within (m ∷ ms) = within (length ms) (after ms) m (all_within ms)

-- The state of the pass over a list of marks, with n marks before it.
abbrev pub At : List Mark → ℕ → Built → Type 0
At ms place b = (place ≤ length ms) × (b ≡ after (drop place ms))

pub at_first : (ms : List Mark) (b : Built) → b ≡ opening → At ms (length ms) b
at_first ms b h = (omega arith, rw (drop-length ms) h)

pub at_next : (ms : List Mark) (place : ℕ) (d : Mark) (b b' : Built)
    → At ms place b → 0 < place → b' ≡ step (get_or ms (place - 1) d) b → At ms (place - 1) b'
at_next ms place d b b' (le, h) p s =
    let lt : place - 1 < length ms = omega arith in
    let k : suc (place - 1) ≡ place = omega arith in
    let c : drop (place - 1) ms ≡ get_or ms (place - 1) d ∷ drop place ms =
    subst (λ (n : ℕ). drop (place - 1) ms ≡ get_or ms (place - 1) d ∷ drop n ms) k (drop-cons ms (place - 1) d lt) in
    (omega arith, rw c (s ∙ ap (step (get_or ms (place - 1) d)) h))

pub at_within : (ms : List Mark) (place : ℕ) (b : Built) → At ms place b → length ms ≤ 1073741824 → IsWithin 1073741824 b
at_within ms place b (le, h) few =
    let w = all_within (drop place ms) in
    let n : length (drop place ms) ≤ 1073741824 = let j = length-drop place ms in omega (arith, j) in
    rw h (let p = w.strands in let q = w.events in let r = w.nodes in record { strands = omega (arith, p, n); events = omega (arith, q, n); nodes = omega (arith, r, n) })

pub at_last : (ms : List Mark) (place : ℕ) (b : Built) (s : Shape) → At ms place b → place ≤ 0 → SpellsMarks s ms → b.nodes ≡ preorder (tree s)
at_last ms place b s (le, h) z sp =
    let e : place ≡ 0 = omega arith in
    rw h (rw e (subst (λ (ns : List Mark). (after ns).nodes ≡ preorder (tree s)) (sym sp) (builds s)))

-- The same pass over the marks of a list of events.
pub at_first_event : (events slice : List Event) (b : Built) → slice ≡ events → b ≡ opening → At (map mark_of events) (length slice) b
at_first_event events slice b e h =
    rw e (let l = length-map events mark_of in (omega (arith, l), rw (sym l) (rw (drop-length (map mark_of events)) h)))

pub at_next_event : (events slice : List Event) (place : ℕ) (d : Event) (m : Mark) (b b' : Built)
    → slice ≡ events → At (map mark_of events) place b → 0 < place → m ≡ mark_of (get_or slice (place - 1) d) → b' ≡ step m b
    → At (map mark_of events) (place - 1) b'
at_next_event events slice place d m b b' e (le, h) p q s =
    let l = length-map events mark_of in
    let lt : place - 1 < length events = omega (arith, l, le) in
    let f : m ≡ mark_of (get_or events (place - 1) d) = subst (λ (l : List Event). m ≡ mark_of (get_or l (place - 1) d)) e q in
    let g : get_or (map mark_of events) (place - 1) (mark_of d) ≡ m = get_or-map mark_of events (place - 1) d (mark_of d) lt ∙ sym f in
    at_next (map mark_of events) place (mark_of d) b b' (le, h) p (s ∙ ap (λ (x : Mark). step x b) (sym g))

pub event_within : (events : List Event) (place : ℕ) (b : Built) → At (map mark_of events) place b → length events ≤ 1000000 → IsWithin 1073741824 b
event_within events place b at few = at_within (map mark_of events) place b at (let l = length-map events mark_of in omega (arith, l))
