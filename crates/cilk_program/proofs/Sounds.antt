-- A frame of a serial run of a well-named program sees existing cells, and reducers that have been
-- created or are due to be.
-- stands_more    it still does when more exist
-- stands_write   it still does after a write that was due
-- stands_create  and after a creation that was due
-- child_stands   a child does when it begins
-- root_stands    so does the first frame
use Rattle.std.proofs.Common.{◌≡◌, ◌⊎◌, inl, inr, ℕ, zero, suc, ◌+◌, ◌<◌, ◌≤◌, ℤ, Bool, IsTrue, if◌then◌else◌}
use Rattle.std.proofs.Common.{List, [], ◌∷◌, ◌++◌, length, slice_get, sym, ap, subst, append-nil, arith}
use Rattle.std.proofs.lemmas.Bool.{false≢true}
use Rattle.cilk_types.specs.declared.event.Instance.{Instance}
use Rattle.cilk_monoid.specs.declared.kind.MonoidKind.{MonoidKind}
use Rattle.cilk_program.specs.declared.ask.Ask.{Ask}
use Rattle.cilk_program.specs.declared.ask.Ask.TheVariants as asks
use Rattle.cilk_program.specs.declared.ask.Callee.{Callee}
use Rattle.cilk_program.specs.declared.ask.Callee.TheVariants as callees
use Rattle.cilk_program.specs.declared.syntax.Place.{Place}
use Rattle.cilk_program.specs.declared.syntax.Reducer.{Reducer}
use Rattle.cilk_program.specs.declared.syntax.ReducerPlace.{ReducerPlace}
use Rattle.cilk_program.specs.declared.syntax.ReducerPlace.TheVariants as reducers
use Rattle.cilk_program.specs.Syntax.{Source, function_at, main_of, loop_at}
use Rattle.cilk_program.specs.Scopes.{Scope, instance_in}
use Rattle.cilk_program.specs.WellNamed.{is_kind, is_well_named}
use Rattle.cilk_program.specs.Inside.{body_of, CalleeIsThere}
use Rattle.cilk_program.specs.SerialRun.{Frame, itself, global_reducer, reducer_at, cells_of, home_of}
use Rattle.cilk_program.specs.Order.{writings, creations, opening_asks}
use Rattle.cilk_program.specs.Created.{Among}
use Rattle.cilk_program.specs.Numbering.{Counts, unbegun, entered, frame_of}
use Rattle.cilk_program.specs.Visible.{CanInvoke, GlobalsAreThere, FrameSees}
use Rattle.cilk_program.proofs.Naming.{well_named_parts}
use Rattle.cilk_program.proofs.Visible.{globals_more, frame_more, none_given, root_sees, called_sees, part_sees}

-- a cell is among the first n
abbrev pub Below : ℕ → ℕ → Type 0
Below n c = c < n

-- a reducer's creation is due, for names in this scope
abbrev pub IsDue : Scope ℕ Instance → Instance → List Ask → Type 0
IsDue scope i [] = ⊥
IsDue scope i (asks.Create c ∷ due) = (instance_in global_reducer scope c.place ≡ i) ⊎ IsDue scope i due
IsDue scope i (k ∷ due) = IsDue scope i due

-- a reducer is among these that have been created, or it is due
abbrev pub Held : Scope ℕ Instance → List Instance → List Ask → Instance → MonoidKind → Type 0
Held scope made due i k = Among i made ⊎ IsDue scope i due

-- the scope of a frame, given the existing cells, the created reducers and the due requests
pub record Stands (p : Source) (fr : Frame) (n : ℕ) (made : List Instance) (due : List Ask) : Type 0 where
  pub globals : GlobalsAreThere p itself global_reducer (Below n) (Held fr.scope made due)
  pub sees : FrameSees p itself global_reducer (Below n) (Held fr.scope made due) fr.callee fr.scope fr.result

-- ---- more cells, more reducers

abbrev pub Covers : List Instance → List Instance → Type 0
Covers made more = (i : Instance) → Among i made → Among i more

pub stands_more : (p : Source) (fr : Frame) (n n' : ℕ) (made made' : List Instance) (due : List Ask) → n ≤ n'
    → Covers made made' → Stands p fr n made due → Stands p fr n' made' due
stands_more p fr n n' made made' due low covers h = record {
  globals = globals_more p itself global_reducer (Below n) (Below n') (Held fr.scope made due) (Held fr.scope made' due) cell reducer h.globals;
  sees = frame_more p itself global_reducer (Below n) (Below n') (Held fr.scope made due) (Held fr.scope made' due) cell reducer fr.callee fr.scope fr.result h.sees;
}
  where
    cell : (c : ℕ) → c < n → c < n'
    cell c less = omega (arith, low, less)

    reducer : (i : Instance) (k : MonoidKind) → Held fr.scope made due i k → Held fr.scope made' due i k
    reducer i k (inl a) = inl (covers i a)
    reducer i k (inr a) = inr a

-- ---- an opening request is done

pub stands_write : (p : Source) (fr : Frame) (n : ℕ) (made : List Instance) (x : Place) (v : ℤ) (due : List Ask)
    → Stands p fr n made (asks.Write x v ∷ due) → Stands p fr n made due
stands_write p fr n made x v due h = record { globals = h.globals; sees = h.sees }

pub stands_create : (p : Source) (fr : Frame) (n : ℕ) (made : List Instance) (c : Reducer) (due : List Ask)
    → Stands p fr n made (asks.Create c ∷ due) → Stands p fr n (reducer_at fr c ∷ made) due
stands_create p fr n made c due h = record {
  globals = globals_more p itself global_reducer (Below n) (Below n) (Held fr.scope made (asks.Create c ∷ due)) (Held fr.scope (reducer_at fr c ∷ made) due) (λ c less. less) now_made h.globals;
  sees = frame_more p itself global_reducer (Below n) (Below n) (Held fr.scope made (asks.Create c ∷ due)) (Held fr.scope (reducer_at fr c ∷ made) due) (λ c less. less) now_made fr.callee fr.scope fr.result h.sees;
}
  where
    now_made : (i : Instance) (k : MonoidKind) → Held fr.scope made (asks.Create c ∷ due) i k
        → Held fr.scope (reducer_at fr c ∷ made) due i k
    now_made i k (inl a) = inl (inr a)
    now_made i k (inr (inl e)) = inl (inl e)
    now_made i k (inr (inr a)) = inr a

-- ---- a frame's reducers are due as it begins

due_among : (scope : Scope ℕ Instance) (place : ℕ → ReducerPlace) (from : ℕ) (ks : List MonoidKind) (n : ℕ) (k : MonoidKind) (due : List Ask)
    → IsTrue (is_kind (slice_get ks n) k)
    → IsDue scope (instance_in global_reducer scope (place (from + n))) (creations place from ks ++ due)
due_among scope place from [] n k due h = absurd (false≢true h)
due_among scope place from (j ∷ ks) zero k due h = let e : from ≡ from + 0 = omega arith in inl (ap (λ m. instance_in global_reducer scope (place m)) e)
due_among scope place from (j ∷ ks) (suc n) k due h =
    let e : suc from + n ≡ from + suc n = omega arith in
    inr (subst (λ m. IsDue scope (instance_in global_reducer scope (place m)) (creations place (suc from) ks ++ due)) e (due_among scope place (suc from) ks n k due h))

due_past_creations : (scope : Scope ℕ Instance) (i : Instance) (place : ℕ → ReducerPlace) (from : ℕ) (ks : List MonoidKind) (due : List Ask)
    → IsDue scope i due → IsDue scope i (creations place from ks ++ due)
due_past_creations scope i place from [] due h = h
due_past_creations scope i place from (k ∷ ks) due h = inr (due_past_creations scope i place (suc from) ks due h)

due_past_writings : (scope : Scope ℕ Instance) (i : Instance) (from : ℕ) (vs : List ℤ) (due : List Ask)
    → IsDue scope i due → IsDue scope i (writings from vs ++ due)
due_past_writings scope i from [] due h = h
due_past_writings scope i from (v ∷ vs) due h = due_past_writings scope i (suc from) vs due h

own_due : (scope : Scope ℕ Instance) (ks : List MonoidKind) (n : ℕ) (k : MonoidKind)
    → IsTrue (is_kind (slice_get ks n) k)
    → IsDue scope (instance_in global_reducer scope (reducers.Own 0 n)) (creations (reducers.Own 0) 0 ks)
own_due scope ks n k h =
    let e : 0 + n ≡ n = omega arith in
    subst (λ due. IsDue scope (instance_in global_reducer scope (reducers.Own 0 n)) due) (append-nil (creations (reducers.Own 0) 0 ks))
    (subst (λ m. IsDue scope (instance_in global_reducer scope (reducers.Own 0 m)) (creations (reducers.Own 0) 0 ks ++ [])) e (due_among scope (reducers.Own 0) 0 ks n k [] h))

global_due : (scope : Scope ℕ Instance) (ks : List MonoidKind) (n : ℕ) (k : MonoidKind) (due : List Ask)
    → IsTrue (is_kind (slice_get ks n) k)
    → IsDue scope (global_reducer n) (creations reducers.Global 0 ks ++ due)
global_due scope ks n k due h =
    let e : 0 + n ≡ n = omega arith in
    subst (λ m. IsDue scope (global_reducer m) (creations reducers.Global 0 ks ++ due)) e (due_among scope reducers.Global 0 ks n k due h)

-- ---- a child begins

-- a created reducer exists, whatever is due now
settle : (scope scope' : Scope ℕ Instance) (made : List Instance) (due : List Ask) (i : Instance) (k : MonoidKind)
    → Held scope made [] i k → Held scope' made due i k
settle scope scope' made due i k (inl a) = inl a
settle scope scope' made due i k (inr a) = absurd a

module _ (p : Source) (well : IsTrue (is_well_named p)) (fr : Frame) (n : Counts) (made : List Instance) (h : Stands p fr n.cells made []) where
  -- everything that the parent sees exists for the child
  module _ (callee : Callee) where
    abbrev child : Frame
    child = frame_of p fr.scope n callee

    abbrev cells : ℕ
    cells = (entered p callee n).cells

    abbrev due : List Ask
    due = opening_asks p callee

    still : (c : ℕ) → c < n.cells → c < n.cells + cells_of p callee
    still c less = omega (arith, less)

    abbrev globals_stand : GlobalsAreThere p itself global_reducer (Below cells) (Held child.scope made due)
    globals_stand = globals_more p itself global_reducer (Below n.cells) (Below cells) (Held fr.scope made []) (Held child.scope made due) still (settle fr.scope child.scope made due) h.globals

    abbrev parent_sees : FrameSees p itself global_reducer (Below cells) (Held child.scope made due) fr.callee fr.scope fr.result
    parent_sees = frame_more p itself global_reducer (Below n.cells) (Below cells) (Held fr.scope made []) (Held child.scope made due) still (settle fr.scope child.scope made due) fr.callee fr.scope fr.result h.sees

  pub child_stands : (callee : Callee) → CalleeIsThere p (body_of p fr.callee) callee → CanInvoke fr.callee callee
      → Stands p (frame_of p fr.scope n callee) (entered p callee n).cells made (opening_asks p callee)
  child_stands callees.Root there can = absurd there
  child_stands (callees.Function c) there can =
      let f = function_at p c.function in
      let callee = callees.Function c in
      let scope = (child callee).scope in
      record {
        globals = globals_stand callee;
        sees = called_sees p itself global_reducer (Below (cells callee)) (Held scope made (due callee)) fr.callee fr.scope fr.result c
            (λ i. n.cells + i) (λ i. record { frame = suc n.frames; place = 1 + i }) (globals_stand callee) (parent_sees callee) there can
            (λ i less. let own : i < f.cells = less in let within : n.cells + i < n.cells + f.cells = omega (arith, own) in within)
            (λ i k is. inr (due_past_writings scope (instance_in global_reducer scope (reducers.Own 0 i)) 0 c.words (creations (reducers.Own 0) 0 f.reducers) (own_due scope f.reducers i k is)));
      }
  child_stands (callees.Loop l) there can =
      let body = loop_at p l.number in
      let callee = callees.Loop l in
      let scope = (child callee).scope in
      record {
        globals = globals_stand callee;
        sees = part_sees p itself global_reducer (Below (cells callee)) (Held scope made (due callee)) well fr.callee fr.scope fr.result l
            (home_of p callee (suc n.frames) n.cells []) (parent_sees callee) there can (λ whole i less.
            let own : i < body.cells = less in
            let many : n.cells + body.cells ≤ n.cells + cells_of p callee = subst (λ (b : Bool). n.cells + body.cells ≤ n.cells + (if b then body.cells else 0)) (sym whole) (omega arith) in
            let within : n.cells + i < n.cells + cells_of p callee = omega (arith, own, many) in
            within);
      }

-- the first frame begins
pub root_stands : (p : Source) → IsTrue (is_well_named p)
    → Stands p (frame_of p [] (unbegun p) callees.Root) (entered p callees.Root (unbegun p)).cells [] (opening_asks p callees.Root)
root_stands p well =
    let f = main_of p in
    let parts = well_named_parts p well in
    let cells = length p.openings + f.cells in
    let home = home_of p callees.Root 1 (length p.openings) [] in
    let scope : Scope ℕ Instance = home ∷ [] in
    let own = creations (reducers.Own 0) 0 f.reducers in
    let due = creations reducers.Global 0 p.reducers ++ own in
    let globals : GlobalsAreThere p itself global_reducer (Below cells) (Held scope [] due) = record {
      cells = λ i less. let within : i < length p.openings + f.cells = omega (arith, less) in within;
      reducers = λ i k is. inr (global_due scope p.reducers i k own is);
    } in
    record {
      globals = globals;
      sees = root_sees p itself global_reducer (Below cells) (Held scope [] due) home globals
          (λ i less. let own : i < f.cells = less in let within : length p.openings + i < length p.openings + f.cells = omega (arith, own) in within)
          (λ i k is. inr (due_past_creations scope (instance_in global_reducer scope (reducers.Own 0 i)) reducers.Global 0 p.reducers own (own_due scope f.reducers i k is)))
          (λ i k is. none_given f.given i k parts.takes_no_reducers is);
    }
