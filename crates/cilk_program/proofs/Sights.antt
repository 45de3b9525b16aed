-- Two frames with the same body, one of the elision and one of the serial run, see the same cells
-- and tied reducers.
-- sees_since   they still do when more frames have begun
-- kind_within  an index with a kind is within the list
-- sees_called  the frames of a called function do
-- sees_turn    so do those of turns of a loop
use Rattle.std.proofs.Common.{◌≡◌, ℕ, zero, suc, ◌+◌, ◌<◌, Bool, true, false, true≢false, IsTrue, List, [], ◌∷◌, length, Option, None, unwrap_or, slice_get, refl, sym, ap, ◌∙◌, arith}
use Rattle.std.proofs.lemmas.Bool.{and_parts}
use Rattle.cilk_types.specs.declared.event.Instance.{Instance}
use Rattle.cilk_monoid.specs.declared.kind.MonoidKind.{MonoidKind}
use Rattle.cilk_program.specs.declared.program.Body.{Body}
use Rattle.cilk_program.specs.declared.program.Body.TheVariants as bodies
use Rattle.cilk_program.specs.declared.syntax.Place.{Place}
use Rattle.cilk_program.specs.declared.syntax.Place.TheVariants as places
use Rattle.cilk_program.specs.declared.syntax.Reducer.{Reducer}
use Rattle.cilk_program.specs.declared.syntax.ReducerPlace.{ReducerPlace}
use Rattle.cilk_program.specs.declared.syntax.ReducerPlace.TheVariants as reducers
use Rattle.cilk_program.specs.Syntax.{Source, function_at, loop_at}
use Rattle.cilk_program.specs.Scopes.{Home, Scope, cell_in, instance_in, instances_in}
use Rattle.cilk_program.specs.WellNamed.{Level, levels, is_kind, has_own, has_given, have_kinds, reducer_is_there, reducers_are_there}
use Rattle.cilk_program.specs.Elision.{Sight, itself}
use Rattle.cilk_program.specs.SerialRun.{global_reducer}
use Rattle.cilk_program.proofs.Ties.{Since, grown, grown_old, grown_own}

-- A frame that runs this body sees the same cells in both runs, and each existing reducer is tied
-- to one of the serial run.
pub record SeesAlike (p : Source) (tied : ℕ → Instance) (count : ℕ) (b : Body) (s : Sight) (s' : Scope ℕ Instance) : Type 0 where
  pub cells : (x : Place) → cell_in itself s x ≡ cell_in itself s' x
  pub reducers : (r : ReducerPlace) (k : MonoidKind) → IsTrue (reducer_is_there p b r k) → (instance_in itself s r < count) × (instance_in global_reducer s' r ≡ tied (instance_in itself s r))

pub sees_since : {p : Source} {tied tied' : ℕ → Instance} {count count' : ℕ} {b : Body} {s : Sight} {s' : Scope ℕ Instance} → SeesAlike p tied count b s s' → Since tied count tied' count' → SeesAlike p tied' count' b s s'
sees_since {s = s} e since = record {
  cells = e.cells;
  reducers = λ r k h. let q = e.reducers r k h in let n = q.0 in let more = since.more in (omega arith, q.1 ∙ sym (since.kept (instance_in itself s r) q.0));
}

pub kind_within : (ks : List MonoidKind) (n : ℕ) (k : MonoidKind) → is_kind (slice_get ks n) k ≡ true → n < length ks
kind_within [] n k h = absurd (true≢false (sym h))
kind_within (j ∷ ks) zero k h = omega arith
kind_within (j ∷ ks) (suc n) k h = let q = kind_within ks n k h in omega arith

-- the reducers that a caller gives
given_tied : (p : Source) (tied : ℕ → Instance) (count : ℕ) (b : Body) (s : Sight) (s' : Scope ℕ Instance) → SeesAlike p tied count b s s' → (rs : List Reducer) (ks : List MonoidKind) (n : ℕ) (k : MonoidKind) (d : ℕ) (d' : Instance)
    → have_kinds rs ks ≡ true → reducers_are_there p b rs ≡ true → is_kind (slice_get ks n) k ≡ true
    → (unwrap_or (slice_get (instances_in itself s rs) n) d < count) × (unwrap_or (slice_get (instances_in global_reducer s' rs) n) d' ≡ tied (unwrap_or (slice_get (instances_in itself s rs) n) d))
given_tied p tied count b s s' e [] [] n k d d' h t q = absurd (true≢false (sym q))
given_tied p tied count b s s' e [] (j ∷ ks) n k d d' h t q = absurd (true≢false (sym h))
given_tied p tied count b s s' e (r ∷ rs) [] n k d d' h t q = absurd (true≢false (sym h))
given_tied p tied count b s s' e (r ∷ rs) (j ∷ ks) zero k d d' h t q = e.reducers r.place r.kind (and_parts _ _ t).0
given_tied p tied count b s s' e (r ∷ rs) (j ∷ ks) (suc n) k d d' h t q = given_tied p tied count b s s' e rs ks n k d d' (and_parts _ _ h).1 (and_parts _ _ t).1 q

-- the frame of a function that is called
module _ (p : Source) (tied : ℕ → Instance) (count : ℕ) (b : Body) (s : Sight) (s' : Scope ℕ Instance) (e : SeesAlike p tied count b s s') where
  module _ (f : ℕ) (rs : List Reducer) (frame : ℕ) (own : ℕ) (base base' : ℕ) (same : base ≡ base') (fit : let g = function_at p f in have_kinds rs g.given ≡ true) (there : reducers_are_there p b rs ≡ true) where
    abbrev home : Home ℕ ℕ
    home = record { cells = λ n. base + n; own = λ n. count + n; given = instances_in itself s rs }

    abbrev home' : Home ℕ Instance
    home' = record { cells = λ n. base' + n; own = λ n. record { frame = frame; place = 1 + n }; given = instances_in global_reducer s' rs }

    called_reducers : (r : ReducerPlace) (k : MonoidKind) → IsTrue (reducer_is_there p (bodies.Function f) r k)
        → let g = function_at p f in (instance_in itself (home ∷ []) r < count + length g.reducers) × (instance_in global_reducer (home' ∷ []) r ≡ grown tied count frame 1 (instance_in itself (home ∷ []) r))
    called_reducers (reducers.Global n) k h = let q = e.reducers (reducers.Global n) k h in let l = q.0 in (omega arith, q.1 ∙ sym (grown_old tied count frame 1 n q.0))
    called_reducers (reducers.Own zero n) k h = let l = kind_within _ n k h in (omega arith, sym (grown_own tied count frame 1 n))
    called_reducers (reducers.Own (suc up) n) k h = absurd (true≢false (sym h))
    called_reducers (reducers.Given zero n) k h = let g = function_at p f in let q = given_tied p tied count b s s' e rs g.given n k n (global_reducer n) fit there h in let l = q.0 in (omega arith, q.1 ∙ sym (grown_old tied count frame 1 _ q.0))
    called_reducers (reducers.Given (suc up) n) k h = absurd (true≢false (sym h))

    called_cells : (x : Place) → cell_in itself (home ∷ []) x ≡ cell_in itself (home' ∷ []) x
    called_cells (places.Global n) = refl
    called_cells (places.Local zero n) = ap (λ c. c + n) same
    called_cells (places.Local (suc up) n) = refl

    pub sees_called : let g = function_at p f in SeesAlike p (grown tied count frame 1) (count + length g.reducers) (bodies.Function f) (home ∷ []) (home' ∷ [])
    sees_called = record { cells = called_cells; reducers = called_reducers }

-- with more fuel there are no fewer levels
wider : (p : Source) (test : Option Level → Bool) → test None ≡ false → (n : ℕ) (b : Body) (up : ℕ) → test (slice_get (levels n p b) up) ≡ true → test (slice_get (levels (suc n) p b) up) ≡ true
wider p test none zero b up h = absurd (true≢false (sym h ∙ none))
wider p test none (suc n) (bodies.Function k) up h = h
wider p test none (suc n) (bodies.Loop k) zero h = h
wider p test none (suc n) (bodies.Loop k) (suc up) h = let l = loop_at p k in wider p test none n l.within up h

-- the frame of one or several turns of a loop, whose static link leads to the frame around the loop
module _ (p : Source) (tied : ℕ → Instance) (count : ℕ) (s : Sight) (s' : Scope ℕ Instance) (n : ℕ) (h : Home ℕ ℕ) (h' : Home ℕ Instance) (same : h.cells ≡ h'.cells)
    (e : let l = loop_at p n in SeesAlike p tied count l.within s s') where
  turn_cells : (x : Place) → cell_in itself (h ∷ s) x ≡ cell_in itself (h' ∷ s') x
  turn_cells (places.Global c) = refl
  turn_cells (places.Local zero c) = ap (λ f. f c) same
  turn_cells (places.Local (suc up) c) = e.cells (places.Local up c)

  turn_reducers : (r : ReducerPlace) (k : MonoidKind) → IsTrue (reducer_is_there p (bodies.Loop n) r k)
      → (instance_in itself (h ∷ s) r < count) × (instance_in global_reducer (h' ∷ s') r ≡ tied (instance_in itself (h ∷ s) r))
  turn_reducers (reducers.Global i) k t = e.reducers (reducers.Global i) k t
  turn_reducers (reducers.Own zero i) k t = absurd (true≢false (sym t))
  turn_reducers (reducers.Own (suc up) i) k t = let l = loop_at p n in e.reducers (reducers.Own up i) k (wider p (λ o. has_own o i k) refl (length p.loops) l.within up t)
  turn_reducers (reducers.Given zero i) k t = absurd (true≢false (sym t))
  turn_reducers (reducers.Given (suc up) i) k t = let l = loop_at p n in e.reducers (reducers.Given up i) k (wider p (λ o. has_given o i k) refl (length p.loops) l.within up t)

  pub sees_turn : SeesAlike p tied count (bodies.Loop n) (h ∷ s) (h' ∷ s')
  sees_turn = record { cells = turn_cells; reducers = turn_reducers }
