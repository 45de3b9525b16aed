-- The machine makes the requests of the frame whose body its instructions were made from.
use Rattle.std.proofs.Common.{◌≡◌, ℕ, suc, ◌+◌, ◌≤◌, ℤ, pos, Bool, true, false, List, [], ◌∷◌, ◌++◌, length, refl, sym, ap, ◌∙◌, subst, arith, length-append, append_assoc, if◌then◌else◌}
use Rattle.std.specs.Prelude.{slice_get}
use Rattle.cilk_monoid.specs.declared.kind.MonoidKind.{MonoidKind}
use Rattle.cilk_program.specs.declared.ask.Ask.{Ask}
use Rattle.cilk_program.specs.declared.ask.Ask.TheVariants as asks
use Rattle.cilk_program.specs.declared.ask.Callee.TheVariants as callees
use Rattle.cilk_program.specs.declared.ask.LoopPart.{LoopPart}
use Rattle.cilk_types.specs.declared.invocation.Invocation.TheVariants.{Call, Spawn}
use Rattle.cilk_program.specs.declared.syntax.Place.TheVariants as places
use Rattle.cilk_program.specs.declared.syntax.ReducerPlace.{ReducerPlace}
use Rattle.cilk_program.specs.declared.syntax.ReducerPlace.TheVariants as reducers
use Rattle.cilk_program.specs.Syntax.{Function, Loop}
use Rattle.cilk_program.specs.Behaviour.{Got, ◌>>=◌, ask, invokes, finishes, all_do, writes_words, creates, function_gives, middle, part, loop_gives, ended}
use Rattle.cilk_lower.specs.declared.code.Instr.{Instr}
use Rattle.cilk_lower.specs.declared.code.Instr.TheVariants as instrs
use Rattle.cilk_lower.specs.declared.code.Owed.TheVariants.{Nothing}
use Rattle.cilk_lower.specs.Code.{CodeView, all_code, all_sites, ends, words_code, creates_code, function_code, halves_code, loop_code}
use Rattle.cilk_lower.specs.Machine.{Setting, Goes, Waits, on_some, has_one, given_of}
use Rattle.cilk_lower.specs.Rooms.{deepest_of_all}
use Rattle.cilk_lower.proofs.Acts.{all_act}
use Rattle.cilk_lower.proofs.Flows.{invokes_plain, plain_comes, invokes_acts, body_comes}
use Rattle.cilk_lower.proofs.Leads.{moves, Stands, Comes, leads_one, comes_ask, leads_done, comes_on}
use Rattle.cilk_lower.specs.Bodies.{HasAt}
use Rattle.cilk_lower.proofs.Places.{has_front, has_back, get_seam}

module _ (m : Setting) where
  -- a request whose answer pushes nothing, and then the rest of the frame
  done_comes : (pc : ℕ) (from stack answers : List ℤ) (left : ℕ) (i : Instr) (k : Ask) (h : ℤ → List ℤ → ℕ → Got ℤ) → Stands m pc i → moves m i pc from left ≡ Waits k Nothing (pc + 1) stack (pos 0) left → ((v : ℤ) (a : List ℤ) (l : ℕ) → Comes m (pc + 1) stack a l (ended (h v a l))) → Comes m pc from answers left (ended (ask k answers left >>= h))
  done_comes pc from stack [] left i k h at e r = comes_ask m pc from left i k Nothing (pc + 1) stack left at e
  done_comes pc from stack (a ∷ answers) left i k h at e r = comes_on m pc (pc + 1) from stack (a ∷ answers) answers left left _ (leads_done m pc from a answers left i k (pc + 1) stack left at e) (r a answers left)

  -- the words that a function is given, from the n-th on
  words_come : (vs front : List ℤ) (n pc : ℕ) (answers : List ℤ) (left : ℕ) (h : List ℤ → ℕ → Got ℤ) → m.given.words ≡ front ++ vs → n ≡ length front → HasAt m.code.instrs pc (words_code n (length vs)) →
      ((a : List ℤ) (l : ℕ) → Comes m (pc + length (words_code n (length vs))) [] a l (ended (h a l))) → Comes m pc [] answers left (ended (writes_words n vs answers left >>= λ _. h))
  words_come [] front n pc answers left h e at has r = let same : pc + 0 ≡ pc = omega arith in subst (λ p. Comes m p [] answers left (ended (h answers left))) same (r answers left)
  words_come (v ∷ vs) front n pc [] left h e at has r =
      comes_ask m pc [] left (instrs.Word n) (asks.Write (places.Local 0 n) v) Nothing (pc + 1) [] left has.0
      (ap (λ o. on_some o (λ v. Waits (asks.Write (places.Local 0 n) v) Nothing (pc + 1) [] (pos 0) left)) (ap (λ ws. slice_get ws n) e ∙ ap (λ k. slice_get (front ++ v ∷ vs) k) at ∙ get_seam front v vs))
  words_come (v ∷ vs) front n pc (a ∷ answers) left h e at has r =
      let code = words_code (suc n) (length vs) in
      let whole : m.given.words ≡ (front ++ v ∷ []) ++ vs = e ∙ sym (append_assoc front (v ∷ []) vs) in
      let count : suc n ≡ length (front ++ v ∷ []) = omega (arith, at, length-append front (v ∷ [])) in
      let len : pc + length (instrs.Word n ∷ code) ≡ pc + 1 + length code = omega arith in
      comes_on m pc (pc + 1) [] [] (a ∷ answers) answers left left _
      (leads_done m pc [] a answers left (instrs.Word n) (asks.Write (places.Local 0 n) v) (pc + 1) [] left has.0
      (ap (λ o. on_some o (λ v. Waits (asks.Write (places.Local 0 n) v) Nothing (pc + 1) [] (pos 0) left)) (ap (λ ws. slice_get ws n) e ∙ ap (λ k. slice_get (front ++ v ∷ vs) k) at ∙ get_seam front v vs)))
      (words_come vs (front ++ v ∷ []) (suc n) (pc + 1) answers left h whole count has.1 (λ a l. subst (λ p. Comes m p [] a l (ended (h a l))) len (r a l)))

  -- reducers are created
  creates_come : (place : ℕ → ReducerPlace) (ks : List MonoidKind) (n pc : ℕ) (answers : List ℤ) (left : ℕ) (h : List ℤ → ℕ → Got ℤ) → HasAt m.code.instrs pc (creates_code place n ks) →
      ((a : List ℤ) (l : ℕ) → Comes m (pc + length (creates_code place n ks)) [] a l (ended (h a l))) → Comes m pc [] answers left (ended (creates place n ks answers left >>= λ _. h))
  creates_come place [] n pc answers left h has r = let same : pc + 0 ≡ pc = omega arith in subst (λ p. Comes m p [] answers left (ended (h answers left))) same (r answers left)
  creates_come place (k ∷ ks) n pc [] left h has r = comes_ask m pc [] left _ _ Nothing (pc + 1) [] left has.0 refl
  creates_come place (k ∷ ks) n pc (a ∷ answers) left h has r =
      let code = creates_code place (suc n) ks in
      let i = instrs.Create (record { place = place n; kind = k }) in
      let len : pc + length (i ∷ code) ≡ pc + 1 + length code = omega arith in
      comes_on m pc (pc + 1) [] [] (a ∷ answers) answers left left _ (leads_done m pc [] a answers left i _ (pc + 1) [] left has.0 refl)
      (creates_come place ks (suc n) (pc + 1) answers left h has.1 (λ a l. subst (λ p. Comes m p [] a l (ended (h a l))) len (r a l)))

  -- a function's frame
  pub function_comes : (f : Function) (k pc : ℕ) (answers : List ℤ) (left : ℕ) → length m.given.words ≡ f.words → deepest_of_all f.body ≤ m.room → HasAt m.code.instrs pc (function_code k f) → HasAt m.code.sites k (all_sites f.body) →
      Comes m pc [] answers left (ended (function_gives m.inputs f m.given.words m.given.takes answers left))
  function_comes f k pc answers left count fits has called =
      let words = m.given.words in
      let cw = words_code 0 (length words) in
      let cc1 = creates_code (reducers.Own 0) 0 f.reducers in
      let cb = all_code k f.body in
      let p1 = pc + length cw in
      let p2 = p1 + length cc1 in
      let begins : HasAt m.code.instrs pc (cw ++ (cc1 ++ (cb ++ ends))) = subst (λ n. HasAt m.code.instrs pc (words_code 0 n ++ (cc1 ++ (cb ++ ends)))) (sym count) has in
      let after = has_back m.code.instrs pc cw _ begins in
      let behind = has_back m.code.instrs p1 cc1 _ after in
      words_come words [] 0 pc answers left (λ a l. creates (reducers.Own 0) 0 f.reducers a l >>= λ _ a l. all_do m.inputs f.body a l >>= finishes m.given.takes) refl refl (has_front m.code.instrs pc cw _ begins)
      (λ a l. creates_come (reducers.Own 0) f.reducers 0 p1 a l (λ a l. all_do m.inputs f.body a l >>= finishes m.given.takes) (has_front m.code.instrs p1 cc1 _ after)
      (λ a l. body_comes m p2 (p2 + length cb) a l (all_do m.inputs f.body a l) (has_back m.code.instrs p2 cb ends behind)
      (all_act m f.body k p2 a l fits (has_front m.code.instrs p2 cb ends behind) called)))

  -- the root's frame
  pub root_comes : (globals : List MonoidKind) (f : Function) (k pc : ℕ) (answers : List ℤ) (left : ℕ) → length m.given.words ≡ f.words → deepest_of_all f.body ≤ m.room → HasAt m.code.instrs pc (creates_code reducers.Global 0 globals ++ function_code k f) → HasAt m.code.sites k (all_sites f.body) →
      Comes m pc [] answers left (ended (creates reducers.Global 0 globals answers left >>= λ _. function_gives m.inputs f m.given.words m.given.takes))
  root_comes globals f k pc answers left count fits has called =
      let cg = creates_code reducers.Global 0 globals in
      creates_come reducers.Global globals 0 pc answers left (function_gives m.inputs f m.given.words m.given.takes) (has_front m.code.instrs pc cg _ has)
      (λ a l. function_comes f k (pc + length cg) a l count fits (has_back m.code.instrs pc cg _ has) called)

-- a frame of a loop's turns
module _ (inputs : List ℤ) (c : CodeView) (room : ℕ) (l : LoopPart) where
  abbrev looping : Setting
  looping = record { inputs = inputs; code = c; given = given_of (callees.Loop l); room = room }

  turn_comes : (body : Loop) (k pc : ℕ) (answers : List ℤ) (left : ℕ) → deepest_of_all body.body ≤ room → HasAt c.instrs pc (instrs.Turn ∷ (all_code k body.body ++ ends)) → HasAt c.sites k (all_sites body.body) →
      Comes looping pc [] answers left (ended (ask (asks.Write (places.Local 0 0) l.low) answers left >>= λ _ answers left. all_do inputs body.body answers left >>= finishes false))
  turn_comes body k pc answers left fits has called =
      let cb = all_code k body.body in
      let p1 = pc + 1 + length cb in
      done_comes looping pc [] [] answers left instrs.Turn _ _ has.0 refl
      (λ _ a left. body_comes looping (pc + 1) p1 a left (all_do inputs body.body a left) (has_back c.instrs (pc + 1) cb ends has.1)
      (all_act looping body.body k (pc + 1) a left fits (has_front c.instrs (pc + 1) cb ends has.1) called))

  halves_come : (pc : ℕ) (answers : List ℤ) (left : ℕ) → HasAt c.instrs pc halves_code →
      Comes looping pc [] answers left (ended (invokes Spawn (part l l.low (middle l.low l.high)) answers left >>= λ _ answers left. invokes Call (part l (middle l.low l.high) l.high) answers left >>= finishes false))
  halves_come pc answers left has =
      let first = part l l.low (middle l.low l.high) in
      let second = part l (middle l.low l.high) l.high in
      let p2 = pc + 1 + 1 in
      plain_comes looping pc p2 answers left (invokes Spawn first answers left) (λ a left. invokes Call second a left >>= finishes false)
      (invokes_acts looping pc [] answers left instrs.SpawnHalf Spawn first has.0 has.1.0 refl) (invokes_plain Spawn first answers left)
      (λ a left. body_comes looping p2 (p2 + 1 + 1) a left (invokes Call second a left) has.1.1.1.1
      (invokes_acts looping p2 [] a left instrs.CallHalf Call second has.1.1.0 has.1.1.1.0 refl))

  chosen_comes : (t : Bool) (body : Loop) (k pc : ℕ) (answers : List ℤ) (left : ℕ) → has_one l ≡ t → deepest_of_all body.body ≤ room → HasAt c.instrs pc (loop_code k body) → HasAt c.sites k (all_sites body.body) →
      Comes looping pc [] answers left (ended (if t
      then (ask (asks.Write (places.Local 0 0) l.low) answers left >>= λ _ answers left. all_do inputs body.body answers left >>= finishes false)
      else (invokes Spawn (part l l.low (middle l.low l.high)) answers left >>= λ _ answers left. invokes Call (part l (middle l.low l.high) l.high) answers left >>= finishes false)))
  chosen_comes true body k pc answers left e fits has called =
      let cb = all_code k body.body in
      let n = length cb + 4 in
      let turn : HasAt c.instrs (pc + 1) (instrs.Turn ∷ (cb ++ ends)) =
      (has.1.0, (let flat = sym (append_assoc cb ends halves_code) in has_front c.instrs (pc + 1 + 1) (cb ++ ends) halves_code (subst (λ is. HasAt c.instrs (pc + 1 + 1) is) flat has.1.1))) in
      comes_on looping pc (pc + 1) [] [] answers answers left left _
      (leads_one looping pc [] answers left (instrs.SkipUnlessOne n) (pc + 1) [] left has.0 (ap (λ t. if t then Goes (pc + 1) [] (pos 0) left else Goes (pc + 1 + n) [] (pos 0) left) e))
      (turn_comes body k (pc + 1) answers left fits turn called)
  chosen_comes false body k pc answers left e fits has called =
      let cb = all_code k body.body in
      let n = length cb + 4 in
      let after = has_back c.instrs (pc + 1 + 1) cb (ends ++ halves_code) has.1.1 in
      let len : pc + 1 + 1 + length cb + length ends ≡ pc + 1 + n = omega arith in
      comes_on looping pc (pc + 1 + n) [] [] answers answers left left _
      (leads_one looping pc [] answers left (instrs.SkipUnlessOne n) (pc + 1 + n) [] left has.0 (ap (λ t. if t then Goes (pc + 1) [] (pos 0) left else Goes (pc + 1 + n) [] (pos 0) left) e))
      (halves_come (pc + 1 + n) answers left (subst (λ p. HasAt c.instrs p halves_code) len (has_back c.instrs (pc + 1 + 1 + length cb) ends halves_code after)))

  pub loop_comes : (body : Loop) (k pc : ℕ) (answers : List ℤ) (left : ℕ) → deepest_of_all body.body ≤ room → HasAt c.instrs pc (loop_code k body) → HasAt c.sites k (all_sites body.body) →
      Comes looping pc [] answers left (ended (loop_gives inputs body.body l answers left))
  loop_comes body k pc answers left fits has called = chosen_comes (has_one l) body k pc answers left refl fits has called
