-- The places of bodies in code, and the consequences for the frames that run them.
use Rattle.std.proofs.Common.{◌≡◌, ℕ, zero, suc, ◌<◌, ◌≤◌, ℤ, pos, false, List, [], ◌∷◌, ◌++◌, length, map, Some, refl, sym, ap, ◌∙◌, subst, arith}
use Rattle.std.specs.Prelude.{slice_get, unwrap_or}
use Rattle.std.specs.Option.{is_some}
use Rattle.cilk_monoid.specs.declared.kind.MonoidKind.{MonoidKind}
use Rattle.cilk_program.specs.declared.ask.Callee.{Callee}
use Rattle.cilk_program.specs.declared.ask.Callee.TheVariants as callees
use Rattle.cilk_program.specs.declared.ask.FunctionCall.{FunctionCall}
use Rattle.cilk_program.specs.declared.ask.LoopPart.{LoopPart}
use Rattle.cilk_program.specs.declared.program.Function as declared_functions
use Rattle.cilk_program.specs.declared.program.Loop as declared_loops
use Rattle.cilk_program.specs.declared.syntax.ReducerPlace.TheVariants as reducers
use Rattle.cilk_program.specs.Behaviour.{ended, frame_gives, function_gives, loop_gives, creates, ◌>>=◌}
use Rattle.cilk_program.specs.Inside.{CalleeIsFit}
use Rattle.cilk_program.specs.Programs.{function, loop}
use Rattle.cilk_program.specs.Syntax.{Statements, Function, Loop, Source, function_at, loop_at, main_of, idle, idle_loop}
use Rattle.cilk_lower.specs.declared.code.EntryPoint.{EntryPoint}
use Rattle.cilk_lower.specs.declared.code.Instr.{Instr}
use Rattle.cilk_lower.specs.declared.code.Site.{Site}
use Rattle.cilk_lower.specs.Behaves.{Behaves}
use Rattle.cilk_lower.specs.Bodies.{BodyAt, FunctionAt, LoopAt, EachAt}
use Rattle.cilk_lower.specs.Code.{CodeView, entry_of, all_sites, creates_code, function_code}
use Rattle.cilk_lower.specs.Machine.{Setting, exec, Reaches, given_of}
use Rattle.cilk_lower.specs.Rooms.{deepest_of_all, RoomsFit}
use Rattle.cilk_lower.proofs.Frames.{function_comes, root_comes, loop_comes}
use Rattle.cilk_lower.proofs.Places.{has_more}

-- a body stays where it is as the code grows
pub body_more : (instrs more : List Instr) (sites calls : List Site) (e : EntryPoint) (code : ℕ → List Instr) (body : Statements) → BodyAt instrs sites e code body → BodyAt (instrs ++ more) (sites ++ calls) e code body
body_more instrs more sites calls e code body h =
    record { count = h.count; at = has_more instrs more e.place (code h.count) h.at; called = has_more sites calls h.count (all_sites body) h.called; room = h.room }

pub each_weaker : {A : Type 0} (P Q : EntryPoint → A → Type 0) → ((e : EntryPoint) (x : A) → P e x → Q e x) → (es : List EntryPoint) (xs : List A) → EachAt P es xs → EachAt Q es xs
each_weaker P Q f [] [] h = tt
each_weaker P Q f [] (x ∷ xs) h = absurd h
each_weaker P Q f (e ∷ es) [] h = absurd h
each_weaker P Q f (e ∷ es) (x ∷ xs) h = (f e x h.0, each_weaker P Q f es xs h.1)

-- one more at the end
pub each_push : {A : Type 0} (P : EntryPoint → A → Type 0) (es : List EntryPoint) (xs : List A) (e : EntryPoint) (x : A) → EachAt P es xs → P e x → EachAt P (es ++ e ∷ []) (xs ++ x ∷ [])
each_push P [] [] e x h last = (last, tt)
each_push P [] (y ∷ ys) e x h last = absurd h
each_push P (d ∷ es) [] e x h last = absurd h
each_push P (d ∷ es) (y ∷ ys) e x h last = (h.0, each_push P es ys e x h.1 last)

-- the entry of one of them
each_get : {A : Type 0} (P : EntryPoint → A → Type 0) (es : List EntryPoint) (xs : List A) (k : ℕ) → EachAt P es xs → k < length xs → (e : EntryPoint) × (x : A) × (slice_get es k ≡ Some e) × (slice_get xs k ≡ Some x) × P e x
each_get P [] [] k h low = absurd (omega arith)
each_get P [] (x ∷ xs) k h low = absurd h
each_get P (e ∷ es) [] k h low = absurd h
each_get P (e ∷ es) (x ∷ xs) zero h low = (e, x, refl, refl, h.0)
each_get P (e ∷ es) (x ∷ xs) (suc k) h low = each_get P es xs k h.1 (omega arith)

pub get_map : {A B : Type 0} (f : A → B) (xs : List A) (k : ℕ) (x : A) → slice_get xs k ≡ Some x → slice_get (map f xs) k ≡ Some (f x)
get_map f [] k x e = cc
get_map f (y ∷ xs) zero x e = let same : y ≡ x = cc in ap (λ z. Some (f z)) same
get_map f (y ∷ xs) (suc k) x e = get_map f xs k x e

pub long_map : {A B : Type 0} (f : A → B) (xs : List A) → length (map f xs) ≡ length xs
long_map f [] = refl
long_map f (x ∷ xs) = omega (arith, long_map f xs)

rooms_of : {A : Type 0} (P : EntryPoint → A → Type 0) (room : A → ℕ) → ((e : EntryPoint) (x : A) → P e x → e.room ≡ room x) → (es : List EntryPoint) (xs : List A) → EachAt P es xs → map (λ e. e.room) es ≡ map room xs
rooms_of P room f [] [] h = refl
rooms_of P room f [] (x ∷ xs) h = absurd h
rooms_of P room f (e ∷ es) [] h = absurd h
rooms_of P room f (e ∷ es) (x ∷ xs) h = ap (λ r. r ∷ map (λ e. e.room) es) (f e x h.0) ∙ ap (λ rs. room x ∷ rs) (rooms_of P room f es xs h.1)

map_map : {A B C : Type 0} (f : B → C) (g : A → B) (xs : List A) → map (λ x. f (g x)) xs ≡ map f (map g xs)
map_map f g [] = refl
map_map f g (x ∷ xs) = ap (λ ys. f (g x) ∷ ys) (map_map f g xs)

-- the frame of a callee that begins at this entry
abbrev BeginsAt : Source → CodeView → Callee → EntryPoint → Type 0
BeginsAt p c callee e = (inputs answers : List ℤ) (left : ℕ) →
    (n : ℕ) × (exec (record { inputs = inputs; code = c; given = given_of callee; room = e.room }) n e.place [] (pos 0) answers left ≡ Reaches (ended (frame_gives p inputs callee answers left)))

module _ (globals : List ℤ) (kinds : List MonoidKind) (fs : List declared_functions.Function) (ls : List declared_loops.Loop) (main : ℕ) (c : CodeView) where
  abbrev meant : Source
  meant = record { openings = globals; reducers = kinds; functions = map function fs; loops = map loop ls; main = main }

  root_begins : (f : Function) → main_of meant ≡ f → f.words ≡ 0 → BodyAt c.instrs c.sites c.root (λ k. creates_code reducers.Global 0 kinds ++ function_code k f) f.body → BeginsAt meant c callees.Root c.root
  root_begins f same none h inputs answers left =
      let fits : deepest_of_all f.body ≤ c.root.room = omega (arith, h.room) in
      let m : Setting = record { inputs = inputs; code = c; given = given_of callees.Root; room = c.root.room } in
      let r = root_comes m kinds f h.count c.root.place answers left (sym none) fits h.at h.called in
      subst (λ f. (n : ℕ) × (exec m n c.root.place [] (pos 0) answers left ≡ Reaches (ended (creates reducers.Global 0 kinds answers left >>= λ _. function_gives inputs f [] false)))) (sym same) r

  function_begins : (call : FunctionCall) (e : EntryPoint) (f : declared_functions.Function) → function_at meant call.function ≡ function f → (let f = function f in length call.words ≡ f.words) → FunctionAt c.instrs c.sites e f → BeginsAt meant c (callees.Function call) e
  function_begins call e f same count h inputs answers left =
      let g = function f in
      let fits : deepest_of_all g.body ≤ e.room = omega (arith, h.room) in
      let m : Setting = record { inputs = inputs; code = c; given = given_of (callees.Function call); room = e.room } in
      let r = function_comes m g h.count e.place answers left count fits h.at h.called in
      subst (λ f. (n : ℕ) × (exec m n e.place [] (pos 0) answers left ≡ Reaches (ended (function_gives inputs f call.words (is_some call.result) answers left)))) (sym same) r

  loop_begins : (part : LoopPart) (e : EntryPoint) (l : declared_loops.Loop) → loop_at meant part.number ≡ loop l → LoopAt c.instrs c.sites e l → BeginsAt meant c (callees.Loop part) e
  loop_begins part e l same h inputs answers left =
      let body = loop l in
      let fits : deepest_of_all body.body ≤ e.room = omega (arith, h.room) in
      let m : Setting = record { inputs = inputs; code = c; given = given_of (callees.Loop part); room = e.room } in
      let r = loop_comes inputs c e.room part body h.count e.place answers left fits h.at h.called in
      subst (λ (b : Loop). (n : ℕ) × (exec m n e.place [] (pos 0) answers left ≡ Reaches (ended (loop_gives inputs b.body part answers left)))) (sym same) r

  pub behaves : (f : Function) → main_of meant ≡ f → f.words ≡ 0 → BodyAt c.instrs c.sites c.root (λ k. creates_code reducers.Global 0 kinds ++ function_code k f) f.body →
      EachAt (FunctionAt c.instrs c.sites) c.functions fs → EachAt (LoopAt c.instrs c.sites) c.loops ls → Behaves meant c
  behaves f same none root functions loops = record { asks = begins }
    where
      begins : (callee : Callee) → CalleeIsFit meant callee → BeginsAt meant c callee (entry_of c callee)
      begins callees.Root fit = root_begins f same none root
      begins (callees.Function call) fit =
          let low : call.function < length fs = omega (arith, fit.0.here, long_map function fs) in
          let g = each_get (FunctionAt c.instrs c.sites) c.functions fs call.function functions low in
          let at : function_at meant call.function ≡ function g.1 = ap (λ o. unwrap_or o idle) (get_map function fs call.function g.1 g.3) in
          let entry : entry_of c (callees.Function call) ≡ g.0 = ap (λ o. unwrap_or o c.root) g.2 in
          let count : (let f = function g.1 in length call.words ≡ f.words) = fit.0.takes ∙ ap (λ (f : Function). f.words) at in
          subst (λ e. BeginsAt meant c (callees.Function call) e) (sym entry) (function_begins call g.0 g.1 at count g.4)
      begins (callees.Loop part) fit =
          let low : part.number < length ls = omega (arith, fit.0, long_map loop ls) in
          let g = each_get (LoopAt c.instrs c.sites) c.loops ls part.number loops low in
          let at : loop_at meant part.number ≡ loop g.1 = ap (λ o. unwrap_or o idle_loop) (get_map loop ls part.number g.1 g.3) in
          let entry : entry_of c (callees.Loop part) ≡ g.0 = ap (λ o. unwrap_or o c.root) g.2 in
          subst (λ e. BeginsAt meant c (callees.Loop part) e) (sym entry) (loop_begins part g.0 g.1 at g.4)

  pub rooms_fit : (f : Function) → main_of meant ≡ f → BodyAt c.instrs c.sites c.root (λ k. creates_code reducers.Global 0 kinds ++ function_code k f) f.body →
      EachAt (FunctionAt c.instrs c.sites) c.functions fs → EachAt (LoopAt c.instrs c.sites) c.loops ls → RoomsFit meant c
  rooms_fit f same root functions loops =
      record {
        root = root.room ∙ ap (λ (f : Function). deepest_of_all f.body) (sym same);
        functions = rooms_of (FunctionAt c.instrs c.sites) (λ x. let f = function x in deepest_of_all f.body) (λ e x h. h.room) c.functions fs functions ∙ map_map (λ (f : Function). deepest_of_all f.body) function fs;
        loops = rooms_of (LoopAt c.instrs c.sites) (λ x. let l = loop x in deepest_of_all l.body) (λ e x h. h.room) c.loops ls loops ∙ map_map (λ (l : Loop). deepest_of_all l.body) loop ls;
      }
