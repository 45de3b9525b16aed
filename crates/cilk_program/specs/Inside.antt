-- The requests of a frame name only things that exist.
use Rattle.std.specs.Prelude.{◌≡◌, ◌<◌, ◌⊎◌, ℕ, ℤ, pos, ◌-ℤ◌, ◌<ℤ◌, Bool, true, IsTrue, length, Option, Some, None}
use Rattle.std.specs.Ordering.{int_eq}
use Rattle.cilk_program.specs.declared.ask.Ask.{Ask}
use Rattle.cilk_program.specs.declared.ask.Ask.TheVariants as asks
use Rattle.cilk_program.specs.declared.ask.Callee.{Callee}
use Rattle.cilk_program.specs.declared.ask.Callee.TheVariants as callees
use Rattle.cilk_program.specs.declared.program.Body.{Body}
use Rattle.cilk_program.specs.declared.program.Body.TheVariants as bodies
use Rattle.cilk_program.specs.declared.syntax.Place.{Place}
use Rattle.cilk_program.specs.Syntax.{Source, function_at, loop_at}
use Rattle.cilk_program.specs.WellNamed.{place_is_there, reducer_is_there, reducers_are_there, result_is_there, have_kinds}

-- the body that a frame runs
abbrev pub body_of : Source → Callee → Body
body_of p callees.Root = bodies.Function p.main
body_of p (callees.Function c) = bodies.Function c.function
body_of p (callees.Loop l) = bodies.Loop l.number

-- false for a frame that halves the turns of a loop: it has no cells and runs no statement
abbrev pub is_whole : Callee → Bool
is_whole callees.Root = true
is_whole (callees.Function c) = true
is_whole (callees.Loop l) = int_eq (l.high -ℤ l.low) (pos 1)

-- the called function exists, and gets the number of words that it takes
pub record IsFit (p : Source) (words : ℕ) (function : ℕ) : Type 0 where
  pub here : function < length p.functions
  pub takes : let f = function_at p function in words ≡ f.words

abbrev pub CalleeIsFit : Source → Callee → Type 0
CalleeIsFit p callees.Root = Unit {0}
CalleeIsFit p (callees.Function c) = IsFit p (length c.words) c.function × (let f = function_at p c.function in IsTrue (have_kinds c.reducers f.given))
CalleeIsFit p (callees.Loop l) = (l.number < length p.loops) × (l.low <ℤ l.high)

-- A frame that runs body b may begin this child: the loop is directly in b, or it is the loop whose
-- turns the frame halves.
abbrev pub CalleeIsThere : Source → Body → Callee → Type 0
CalleeIsThere p b callees.Root = ⊥
CalleeIsThere p b (callees.Function c) =
    CalleeIsFit p (callees.Function c) × IsTrue (reducers_are_there p b c.reducers) × IsTrue (result_is_there p b c.result)
CalleeIsThere p b (callees.Loop l) =
    CalleeIsFit p (callees.Loop l) × (let body = loop_at p l.number in ((l.up ≡ 0) × (body.within ≡ b)) ⊎ ((l.up ≡ 1) × (b ≡ bodies.Loop l.number)))

-- the caller takes the result
abbrev pub IsTaken : Callee → Type 0
IsTaken callees.Root = ⊥
IsTaken (callees.Function c) = (x : Place) × (c.result ≡ Some x)
IsTaken (callees.Loop l) = ⊥

-- the request of a frame names only things that exist
abbrev pub AskIsThere : Source → Callee → Ask → Type 0
AskIsThere p callee asks.Begin = Unit {0}
AskIsThere p callee (asks.Read x) = IsTrue (is_whole callee) × IsTrue (place_is_there p (body_of p callee) x)
AskIsThere p callee (asks.Write x v) = IsTrue (is_whole callee) × IsTrue (place_is_there p (body_of p callee) x)
AskIsThere p callee (asks.Create r) = IsTrue (is_whole callee) × IsTrue (reducer_is_there p (body_of p callee) r.place r.kind)
AskIsThere p callee (asks.Update r v) = IsTrue (is_whole callee) × IsTrue (reducer_is_there p (body_of p callee) r.place r.kind)
AskIsThere p callee (asks.Set r v) = IsTrue (is_whole callee) × IsTrue (reducer_is_there p (body_of p callee) r.place r.kind)
AskIsThere p callee (asks.Value r) = IsTrue (is_whole callee) × IsTrue (reducer_is_there p (body_of p callee) r.place r.kind)
AskIsThere p callee (asks.Print v) = Unit {0}
AskIsThere p callee (asks.Invoke how c) = CalleeIsThere p (body_of p callee) c
AskIsThere p callee asks.Resume = Unit {0}
AskIsThere p callee asks.Sync = Unit {0}
AskIsThere p callee (asks.Result v) = IsTaken callee
AskIsThere p callee (asks.End v) = Unit {0}
AskIsThere p callee (asks.Fault f) = Unit {0}
