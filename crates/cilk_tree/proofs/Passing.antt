-- The earliest immediate predecessor of an event.
--
-- - `one_ahead`: an event that is no `sync` has at most one immediate predecessor;
-- - `gives_earliest`: the pass that keeps the earliest of each list gives the earliest of each;
-- - `Stands`, `stands_first`, `stands_next`, `stands_last`: the state of the pass in a list of
--   events;
-- - `earliest_at`: of the list at a place; `IsEarliest`, `earliest_is`: it is the least of a list.
use Rattle.std.proofs.Common.{◌≡◌, inl, inr, ⊎_elim, Bool, true, false, if◌then◌else◌, nat_lt, ℕ, zero, suc, ◌+◌, ◌-◌, ◌<◌, ◌≤◌, List, [], ◌∷◌, ◌++◌, length, map, get_or, drop, slice_index_or, slice_get, ℤ, Option, Some, None, refl, sym, ap, ◌∙◌, subst, arith, append_assoc, length-append}
use Rattle.std.proofs.lemmas.List.{drop_all}
use Rattle.std.proofs.lemmas.Bool.{ltb-true, ltb-false}
use Rattle.std.proofs.Math.Seq.{drop-cons}
use Rattle.cilk_types.specs.declared.event.Event.{Event}
use Rattle.cilk_types.specs.declared.event.Event.TheVariants as events
use Rattle.cilk_types.specs.declared.invocation.Invocation.{Invocation}
use Rattle.cilk_types.specs.declared.invocation.Invocation.TheVariants as invocations
use Rattle.cilk_tree.specs.declared.mark.Mark.{Mark}
use Rattle.cilk_tree.specs.declared.mark.Mark.TheVariants.{Begin, End, Sync, Resume, Spawn, Call, Plain}
use Rattle.cilk_tree.specs.Marks.{mark_of}
use Rattle.cilk_tree.specs.Reach.{Among, resumed_from, awaited}
use Rattle.cilk_tree.proofs.Reaches.{among_none, among_here, among_more, among_first}
use Rattle.cilk_tree.specs.declared.earliest.Parent.{Parent}
use Rattle.cilk_tree.specs.Passes.{Waiting, pass}
use Rattle.cilk_tree.specs.Planned.{IsAtMostOne, HasOneAhead, planned}
use Rattle.cilk_tree.specs.Earliest.{sooner, earliest, Known, nothing, given, met, ahead_of, ends_of, earliest_from, all_earliest}

abbrev parent : Waiting → Parent
parent w = record { how = w.how; at = w.at; ends = earliest w.ends }

abbrev known : List ℕ → List ℕ → List Waiting → Known
known ahead ends ws = record { ahead = earliest ahead; ends = earliest ends; waiting = map parent ws }

one : (p : ℕ) → IsAtMostOne (p ∷ [])
one p = inr (p, refl)

one_resumed : (k : Invocation) (a z : ℕ) → IsAtMostOne (resumed_from k a z)
one_resumed invocations.Call a z = one z
one_resumed invocations.Spawn a z = one a

resumed_is : (k : Invocation) (a z : ℕ) → earliest (resumed_from k a z) ≡ ahead_of k a z
resumed_is invocations.Call a z = refl
resumed_is invocations.Spawn a z = refl

awaited_is : (k : Invocation) (z : ℕ) (ends : List ℕ) → earliest (awaited k z ends) ≡ ends_of k z (earliest ends)
awaited_is invocations.Call z ends = refl
awaited_is invocations.Spawn z ends = refl

joined_is : (ahead ends : List ℕ) → IsAtMostOne ahead → earliest (ahead ++ ends) ≡ sooner (earliest ahead) (earliest ends)
joined_is ahead ends (inl none) = subst (λ (l : List ℕ). earliest (l ++ ends) ≡ sooner (earliest l) (earliest ends)) (sym none) refl
joined_is ahead ends (inr h) = subst (λ (l : List ℕ). earliest (l ++ ends) ≡ sooner (earliest l) (earliest ends)) (sym h.1) refl

passes : (ms : List Mark) (p : ℕ) (ahead ends : List ℕ) (ws : List Waiting) → IsAtMostOne ahead
    → map earliest (pass ms p ahead ends ws) ≡ earliest_from ms p (known ahead ends ws)
passes [] p ahead ends ws h = refl
passes (Plain ∷ ms) p ahead ends ws h = ap (λ (l : List (Option ℕ)). earliest ahead ∷ l) (passes ms (suc p) (p ∷ []) ends ws (one p))
passes (Begin ∷ ms) p ahead ends ws h = ap (λ (l : List (Option ℕ)). earliest ahead ∷ l) (passes ms (suc p) (p ∷ []) ends ws (one p))
passes (Resume ∷ ms) p ahead ends ws h = ap (λ (l : List (Option ℕ)). earliest ahead ∷ l) (passes ms (suc p) (p ∷ []) ends ws (one p))
passes (Sync ∷ ms) p ahead ends ws h =
    ap (λ (o : Option ℕ). o ∷ map earliest (pass ms (suc p) (p ∷ []) [] ws)) (joined_is ahead ends h)
    ∙ ap (λ (l : List (Option ℕ)). sooner (earliest ahead) (earliest ends) ∷ l) (passes ms (suc p) (p ∷ []) [] ws (one p))
passes (Spawn ∷ ms) p ahead ends ws h =
    ap (λ (l : List (Option ℕ)). earliest ahead ∷ l) (passes ms (suc p) (p ∷ []) [] (record { how = invocations.Spawn; at = p; ends = ends } ∷ ws) (one p))
passes (Call ∷ ms) p ahead ends ws h =
    ap (λ (l : List (Option ℕ)). earliest ahead ∷ l) (passes ms (suc p) (p ∷ []) [] (record { how = invocations.Call; at = p; ends = ends } ∷ ws) (one p))
passes (End ∷ ms) p ahead ends [] h = ap (λ (l : List (Option ℕ)). earliest ahead ∷ l) (passes ms (suc p) (p ∷ []) ends [] (one p))
passes (End ∷ ms) p ahead ends (w ∷ ws) h =
    let back : Option ℕ → Option ℕ → List (Option ℕ) = λ a e. earliest_from ms (suc p) (record { ahead = a; ends = e; waiting = map parent ws }) in
    ap (λ (l : List (Option ℕ)). earliest ahead ∷ l)
    (passes ms (suc p) (resumed_from w.how w.at p) (awaited w.how p w.ends) ws (one_resumed w.how w.at p)
    ∙ ap (λ (a : Option ℕ). back a (earliest (awaited w.how p w.ends))) (resumed_is w.how w.at p)
    ∙ ap (λ (e : Option ℕ). back (ahead_of w.how w.at p) e) (awaited_is w.how p w.ends))

-- ---- an event that is no `sync` has at most one immediate predecessor
one_in : (ms : List Mark) (p : ℕ) (ahead ends : List ℕ) (ws : List Waiting) (i : ℕ) → IsAtMostOne ahead → (get_or ms i Plain ≡ Sync → ⊥) → IsAtMostOne (slice_index_or (pass ms p ahead ends ws) i [])
one_in [] p ahead ends ws i h not = inl refl
one_in (Sync ∷ ms) p ahead ends ws zero h not = absurd (not refl)
one_in (Plain ∷ ms) p ahead ends ws zero h not = h
one_in (Begin ∷ ms) p ahead ends ws zero h not = h
one_in (Resume ∷ ms) p ahead ends ws zero h not = h
one_in (Spawn ∷ ms) p ahead ends ws zero h not = h
one_in (Call ∷ ms) p ahead ends ws zero h not = h
one_in (End ∷ ms) p ahead ends [] zero h not = h
one_in (End ∷ ms) p ahead ends (w ∷ ws) zero h not = h
one_in (Plain ∷ ms) p ahead ends ws (suc i) h not = one_in ms (suc p) (p ∷ []) ends ws i (one p) not
one_in (Begin ∷ ms) p ahead ends ws (suc i) h not = one_in ms (suc p) (p ∷ []) ends ws i (one p) not
one_in (Resume ∷ ms) p ahead ends ws (suc i) h not = one_in ms (suc p) (p ∷ []) ends ws i (one p) not
one_in (Sync ∷ ms) p ahead ends ws (suc i) h not = one_in ms (suc p) (p ∷ []) [] ws i (one p) not
one_in (Spawn ∷ ms) p ahead ends ws (suc i) h not = one_in ms (suc p) (p ∷ []) [] (record { how = invocations.Spawn; at = p; ends = ends } ∷ ws) i (one p) not
one_in (Call ∷ ms) p ahead ends ws (suc i) h not = one_in ms (suc p) (p ∷ []) [] (record { how = invocations.Call; at = p; ends = ends } ∷ ws) i (one p) not
one_in (End ∷ ms) p ahead ends [] (suc i) h not = one_in ms (suc p) (p ∷ []) ends [] i (one p) not
one_in (End ∷ ms) p ahead ends (w ∷ ws) (suc i) h not = one_in ms (suc p) (resumed_from w.how w.at p) (awaited w.how p w.ends) ws i (one_resumed w.how w.at p) not

sync_mark : (e : Event) → mark_of e ≡ Sync → e ≡ events.Sync
sync_mark events.Sync is = refl
sync_mark e is = absurd (cc is)

sync_at : (es : List Event) (i : ℕ) → get_or (map mark_of es) i Plain ≡ Sync → slice_get es i ≡ Some events.Sync
sync_at [] zero is = absurd (cc is)
sync_at [] (suc i) is = absurd (cc is)
sync_at (e ∷ es) zero is = ap Some (sync_mark e is)
sync_at (e ∷ es) (suc i) is = sync_at es i is

pub one_ahead : (es : List Event) (opening : List ℤ) → HasOneAhead (planned es opening)
one_ahead es opening p not = one_in (map mark_of es) 1 [] [] [] (p - 1) (inl refl) (λ is. not (sync_at es (p - 1) is))

pub gives_earliest : (es : List Event) → all_earliest es ≡ earliest_from (map mark_of es) 1 nothing
gives_earliest es = passes (map mark_of es) 1 [] [] [] (inl refl)

-- the state of the pass after n events, and its result for them
pub record Stands (es : List Event) (i : ℕ) (column : List (Option ℕ)) (k : Known) : Type 0 where
  pub many : length column ≡ i
  pub ahead : column ++ earliest_from (map mark_of (drop i es)) (suc i) k ≡ earliest_from (map mark_of es) 1 nothing

pub stands_first : (es : List Event) (k : Known) → k ≡ nothing → Stands es 0 [] k
stands_first es k is = record { many = refl; ahead = ap (λ (j : Known). earliest_from (map mark_of es) 1 j) is }

pub stands_next : (es : List Event) (i : ℕ) (column : List (Option ℕ)) (k k' : Known) (d : Event) (m : Mark) (o : Option ℕ) (at : ℕ) (column' : List (Option ℕ))
    → Stands es i column k → i < length es → m ≡ mark_of (get_or es i d) → at ≡ suc i → o ≡ given m k → k' ≡ met m at k → column' ≡ column ++ (o ∷ []) → Stands es (i + 1) column' k'
stands_next es i column k k' d m o at column' h lt is_m is_at is_o is_k is_column =
    let e = mark_of (get_or es i d) in
    let one_more : suc i ≡ i + 1 = omega arith in
    let rest = earliest_from (map mark_of (drop (suc i) es)) (suc (suc i)) (met e (suc i) k) in
    let split : earliest_from (map mark_of (drop i es)) (suc i) k ≡ given e k ∷ rest = ap (λ (l : List Event). earliest_from (map mark_of l) (suc i) k) (drop-cons es i d lt) in
    let gave : o ≡ given e k = is_o ∙ ap (λ (x : Mark). given x k) is_m in
    let knows : k' ≡ met e (suc i) k = is_k ∙ ap (λ (x : Mark). met x at k) is_m ∙ ap (λ (p : ℕ). met e p k) is_at in
    let all : (column ++ (given e k ∷ [])) ++ rest ≡ earliest_from (map mark_of es) 1 nothing = append_assoc column (given e k ∷ []) rest ∙ (ap (λ (l : List (Option ℕ)). column ++ l) (sym split) ∙ h.ahead) in
    let longer = length-append column (o ∷ []) in
    let many = h.many in
    let long = ap length is_column in
    subst (λ (j : ℕ). Stands es j column' k') one_more (record {
      many = omega (arith, longer, many, long);
      ahead = subst (λ (c : List (Option ℕ)). c ++ earliest_from (map mark_of (drop (suc i) es)) (suc (suc i)) k' ≡ earliest_from (map mark_of es) 1 nothing) (sym (is_column ∙ ap (λ (x : Option ℕ). column ++ (x ∷ [])) gave))
          (subst (λ (j : Known). (column ++ (given e k ∷ [])) ++ earliest_from (map mark_of (drop (suc i) es)) (suc (suc i)) j ≡ earliest_from (map mark_of es) 1 nothing) (sym knows) all);
    })

append_none : (column : List (Option ℕ)) → column ++ [] ≡ column
append_none [] = refl
append_none (x ∷ xs) = ap (λ (l : List (Option ℕ)). x ∷ l) (append_none xs)

pub stands_last : (es : List Event) (i : ℕ) (column : List (Option ℕ)) (k : Known) → Stands es i column k → length es ≤ i → column ≡ all_earliest es
stands_last es i column k h past =
    sym (append_none column) ∙ (ap (λ (l : List Event). column ++ earliest_from (map mark_of l) (suc i) k) (sym (drop_all i es past)) ∙ (h.ahead ∙ sym (gives_earliest es)))

pub earliest_at : (ps : List (List ℕ)) (i : ℕ) → slice_index_or (map earliest ps) i None ≡ earliest (slice_index_or ps i [])
earliest_at [] i = refl
earliest_at (p ∷ ps) zero = refl
earliest_at (p ∷ ps) (suc i) = earliest_at ps i

-- it is the least of the list, if the list isn't empty
abbrev pub IsEarliest : Option ℕ → List ℕ → Type 0
IsEarliest None ps = (e : ℕ) → Among e ps → ⊥
IsEarliest (Some m) ps = Among m ps × ((e : ℕ) → Among e ps → m ≤ e)

chosen : (p b : ℕ) (ps : List ℕ) (t : Bool) → nat_lt b p ≡ t → IsEarliest (Some b) ps → IsEarliest (if t then Some b else Some p) (p ∷ ps)
chosen p b ps true is h =
    let less = ltb-true b p is in (
      among_more p ps h.0,
      λ e a. ⊎_elim (λ (x : e ≡ p). omega (arith, less, x)) (λ (x : Among e ps). h.1 e x) (among_first p ps a),
    )
chosen p b ps false is h =
    let most = ltb-false b p is in (
      among_here p ps,
      λ e a. ⊎_elim (λ (x : e ≡ p). omega (arith, x)) (λ (x : Among e ps). let l = h.1 e x in omega (arith, l, most)) (among_first p ps a),
    )

with_one : (p : ℕ) (o : Option ℕ) (ps : List ℕ) → IsEarliest o ps → IsEarliest (sooner (Some p) o) (p ∷ ps)
with_one p None ps h = (
  among_here p ps,
  λ e a. ⊎_elim (λ (x : e ≡ p). omega (arith, x)) (λ (x : Among e ps). absurd (h e x)) (among_first p ps a),
)
with_one p (Some b) ps h = chosen p b ps (nat_lt b p) refl h

pub earliest_is : (ps : List ℕ) → IsEarliest (earliest ps) ps
earliest_is [] = λ e a. among_none a
earliest_is (p ∷ ps) = with_one p (earliest ps) ps (earliest_is ps)
