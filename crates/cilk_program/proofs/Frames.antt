-- How a frame begins and how it ends.
use Rattle.std.proofs.Common.{◌≡◌, ℕ, suc, ◌+◌, ◌<◌, ℤ, pos, true, false, List, [], ◌∷◌, length, Some, inl, inr, ◌⊎◌, nat_eq, refl, sym, ap, ◌∙◌, subst, arith, zero-add, add-suc}
use Rattle.cilk_types.specs.declared.fault.Fault.TheVariants.{TooManyEvents}
use Rattle.cilk_types.specs.declared.event.Event.{Event}
use Rattle.cilk_types.specs.declared.event.Instance.{Instance}
use Rattle.cilk_monoid.specs.declared.kind.MonoidKind.{MonoidKind}
use Rattle.cilk_program.specs.declared.ask.Ask.TheVariants as asks
use Rattle.cilk_program.specs.declared.syntax.Place.TheVariants as places
use Rattle.cilk_program.specs.declared.syntax.ReducerPlace.{ReducerPlace}
use Rattle.cilk_program.specs.Scopes.{instance_in}
use Rattle.cilk_program.specs.Store.{put, put_all, clear, clear_all}
use Rattle.cilk_program.specs.Behaviour.{Got, Gives, ◌>>=◌, ask, Flow, returned, gives_result, finishes, writes_words, creates, frame_asks, frame_gives}
use Rattle.cilk_program.specs.Elision as elision
use Rattle.cilk_program.specs.Elision.{cell_at}
use Rattle.cilk_program.specs.SerialRun.{Transcript, Memory, with_store, stored, put_result, global_reducer, Finished, Stopped, Serial}
use Rattle.cilk_program.proofs.Ties.{Same, Since, same_put, same_clear}
use Rattle.cilk_program.proofs.Steps.{Children, Answered, Goes, Full, answered, ends}
use Rattle.cilk_program.proofs.Moments.{Site, Now, regroup, asks_now, SameMemory, IsElided, AskGoes, Answer, NoRoom, Fits, asked, write, syncs}

-- a frame begins
pub starts : (z : Site) (m : elision.Memory) (m' : Memory) (left : ℕ) (u : Transcript) (es : List Event) → Children (IsElided z.p z.inputs) u → Serial z.p z.inputs z.fr left [] m' u es z.end → SameMemory z.tied m m' → Since z.tied z.count z.tied m.reducers
    → AskGoes z m left (frame_gives z.p z.inputs z.fr.callee)
starts z m m' left u es inner d same since = go (answered z.p z.inputs (IsElided z.p z.inputs) asks.Begin left tt refl inner d)
  where
    go : Answered z.p z.inputs (IsElided z.p z.inputs) z.fr left [] m' asks.Begin z.end → AskGoes z m left (frame_gives z.p z.inputs z.fr.callee)
    go (Goes r es' d' inner') = Answer (record {
      m' = with_store m' m'.store;
      tied = z.tied;
      took = 0;
      history = pos 0 ∷ [];
      r = r;
      es = es';
      run = subst (λ s. Serial z.p z.inputs z.fr s (pos 0 ∷ []) (with_store m' m'.store) r es' z.end) (sym (zero-add left)) d';
      rest = λ a t. ap (frame_asks z.p z.inputs z.fr.callee (pos 0 ∷ a)) (zero-add t);
      same = record { store = same.store; cells = same.cells };
      since = since;
      inner = inner';
    })
    go (Full e q) = NoRoom q

pub ask_then : {z : Site} {m m' : elision.Memory} {left : ℕ} {x y : List ℤ → ℕ → Got ℤ} → AskGoes z m left x → (Now z m left x → AskGoes z m' left y) → AskGoes z m' left y
ask_then (Answer n) go = go n
ask_then (NoRoom q) go = NoRoom q

module _ (z : Site) where
  -- a function's words are written to its first cells
  pub words_go : (b : ℕ) → ((n : ℕ) → cell_at z.sight (places.Local 0 n) ≡ b + n) → (vs : List ℤ) (n : ℕ) (m : elision.Memory) (left : ℕ) (g : Unit {0} → List ℤ → ℕ → Got ℤ) → Now z m left (λ a l. writes_words n vs a l >>= g)
      → AskGoes z (record m { store = put_all (b + n) vs m.store }) left (g tt)
  words_go b cells [] n m left g now = Answer now
  words_go b cells (v ∷ vs) n m left g now =
      ask_then (write (λ w a l. writes_words (suc n) vs a l >>= g) (places.Local 0 n) v (regroup (ask (asks.Write (places.Local 0 n) v)) (λ w. writes_words (suc n) vs) g now)) (λ now'.
      subst (λ st. AskGoes z (record m { store = st }) left (g tt)) (ap (λ c. put_all c vs (put (cell_at z.sight (places.Local 0 n)) v m.store)) (add-suc b n) ∙ ap (λ c. put_all (suc (b + n)) vs (put c v m.store)) (cells n))
      (words_go b cells vs (suc n) (record m { store = put (cell_at z.sight (places.Local 0 n)) v m.store }) left g now'))

  pub create_fits : (place : ReducerPlace) (k : MonoidKind) (c : ℕ) → c < z.count → instance_in global_reducer z.fr.scope place ≡ z.tied c → {m : elision.Memory} {left : ℕ} {y : List ℤ → ℕ → Got ℤ} (n : Now z m left y)
      → Fits n (asks.Create (record { place = place; kind = k })) (clear nat_eq k c m.store) (pos 0)
  create_fits place k c h e {m} n =
      let within : c < m.reducers = let more = n.since.more in omega arith in
      record { is_inner = tt; same = same_clear n.same.store k c (instance_in global_reducer z.fr.scope place) within (e ∙ sym (n.since.kept c h)); answer = refl }

  -- reducers are created
  pub creates_go : (own : ℕ → ℕ) (place : ℕ → ReducerPlace) (ks : List MonoidKind) (n : ℕ) → ((j : ℕ) → j < n + length ks → (own j < z.count) × (instance_in global_reducer z.fr.scope (place j) ≡ z.tied (own j)))
      → (m : elision.Memory) (left : ℕ) (g : Unit {0} → List ℤ → ℕ → Got ℤ) → Now z m left (λ a l. creates place n ks a l >>= g)
      → AskGoes z (record m { store = clear_all nat_eq own n ks m.store }) left (g tt)
  creates_go own place [] n h m left g now = Answer now
  creates_go own place (k ∷ ks) n h m left g now =
      let here : n < n + suc (length ks) = omega arith in
      let q = h n here in
      let now' = regroup (ask (asks.Create (record { place = place n; kind = k }))) (λ w. creates place (suc n) ks) g now in
      ask_then (asked (asks.Create (record { place = place n; kind = k })) (clear nat_eq k (own n) m.store) (pos 0) (λ w a l. creates place (suc n) ks a l >>= g) now' (create_fits (place n) k (own n) q.0 q.1 now'))
      (λ now'. creates_go own place ks (suc n) (λ j l. let l' : j < n + suc (length ks) = omega arith in h j l') (record m { store = clear nat_eq k (own n) m.store }) left g now')

  -- a frame's end
  pub data Finishes (m : elision.Memory) (v : ℤ) (left : ℕ) : Type 0 where
    Closes : (m' : Memory) (tied : ℕ → Instance) → Since z.tied z.count tied m.reducers → SameMemory tied m m' → z.end ≡ Finished v left (with_store m' (stored z.p z.fr m' (asks.End v))) → Finishes m v left
    CutOff : z.end ≡ Stopped TooManyEvents → Finishes m v left

  closes : (m : elision.Memory) (v : ℤ) (left : ℕ) → Now z m left (λ a l. Gives v a l) → Finishes m v left
  closes m v left n = go (ends z.p z.inputs (IsElided z.p z.inputs) v left (asks_now n) n.run)
    where
      go : (z.end ≡ Finished v left (with_store n.m' (stored z.p z.fr n.m' (asks.End v)))) ⊎ ((n.m'.room ≡ 0) × (z.end ≡ Stopped TooManyEvents)) → Finishes m v left
      go (inl e) = Closes n.m' n.tied n.since n.same e
      go (inr e) = CutOff e.1

  finish_plainly : (m : elision.Memory) (v : ℤ) (left : ℕ) → AskGoes z m left (λ a l. Gives v a l) → Finishes m v left
  finish_plainly m v left (Answer n) = closes m v left n
  finish_plainly m v left (NoRoom q) = CutOff q

  pub finish : (m : elision.Memory) (f : Flow) (left : ℕ) → Now z m left (λ a l. finishes false f a l) → Finishes m (returned f) left
  finish m f left n = finish_plainly m (returned f) left (syncs (λ w. gives_result false (returned f)) n)

  pub result_fits : (c : ℕ) → z.fr.result ≡ Some c → (v : ℤ) → {m : elision.Memory} {left : ℕ} {y : List ℤ → ℕ → Got ℤ} (n : Now z m left y) → Fits n (asks.Result v) (put c v m.store) (pos 0)
  result_fits c e v {m} n = record {
    is_inner = tt;
    same = subst (λ o. Same n.tied m.reducers n.m'.frames (put c v m.store) (put_result o v n.m'.store)) (sym e) (same_put n.same.store c v);
    answer = refl;
  }

  -- the result is written to the caller's variable
  pub finish_with : (c : ℕ) → z.fr.result ≡ Some c → (m : elision.Memory) (f : Flow) (left : ℕ) → Now z m left (λ a l. finishes true f a l) → Finishes (record m { store = put c (returned f) m.store }) (returned f) left
  finish_with c e m f left n = after (syncs (λ w. gives_result true (returned f)) n)
    where
      after : AskGoes z m left (λ a l. gives_result true (returned f) a l) → Finishes (record m { store = put c (returned f) m.store }) (returned f) left
      after (Answer n) = finish_plainly (record m { store = put c (returned f) m.store }) (returned f) left (asked (asks.Result (returned f)) (put c (returned f) m.store) (pos 0) (λ w. Gives (returned f)) n (result_fits c e (returned f) n))
      after (NoRoom q) = CutOff q
