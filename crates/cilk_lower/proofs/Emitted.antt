-- Code that grows, body after body.
use Rattle.std.proofs.Common.{◌≡◌, ℕ, zero, suc, ◌+◌, ◌<◌, List, [], ◌∷◌, ◌++◌, length, get_or, take, Some, sym, ap, ◌∙◌, subst, arith, append_assoc}
use Rattle.std.specs.Prelude.{slice_get}
use Rattle.std.proofs.lemmas.List.{take_more}
use Rattle.cilk_monoid.specs.declared.kind.MonoidKind.{MonoidKind}
use Rattle.cilk_program.specs.declared.program.Function as declared_functions
use Rattle.cilk_program.specs.declared.program.Loop as declared_loops
use Rattle.cilk_program.specs.declared.syntax.ReducerPlace.TheVariants as reducers
use Rattle.cilk_program.specs.Programs.{function, loop}
use Rattle.cilk_program.specs.Syntax.{Statements, Function, Loop}
use Rattle.cilk_lower.specs.declared.code.EntryPoint.{EntryPoint}
use Rattle.cilk_lower.specs.declared.code.Instr.{Instr}
use Rattle.cilk_lower.specs.declared.code.Site.{Site}
use Rattle.cilk_lower.specs.Bodies.{HasAt, BodyAt, FunctionAt, LoopAt, EachAt, IsSound, Grows}
use Rattle.cilk_lower.specs.Code.{all_sites, creates_code, function_code, loop_code, ArraysFit, JumpsLand, SitesFit}
use Rattle.cilk_lower.specs.Rooms.{deepest_of_all}
use Rattle.cilk_lower.proofs.Arrays as arrays
use Rattle.cilk_lower.proofs.Arrays.{creates_fit}
use Rattle.cilk_lower.proofs.Jumps.{function_jumps, loop_jumps, creates_jump}
use Rattle.cilk_lower.proofs.Lists.{append_none}
use Rattle.cilk_lower.proofs.Named.{both_fit, none_fit}
use Rattle.cilk_lower.proofs.Places.{has_all, has_rest}
use Rattle.cilk_lower.proofs.Standing.{body_more, each_weaker, each_push}

pub item_there : {A : Type 0} (xs : List A) (i : ℕ) (x : A) → i < length xs → x ≡ get_or xs i x → slice_get xs i ≡ Some x
item_there [] i x low e = absurd (omega arith)
item_there (y ∷ xs) zero x low e = ap Some (sym e)
item_there (y ∷ xs) (suc i) x low e = item_there xs i x (omega arith) e

pub grows_none : (is : List Instr) (ss : List Site) → Grows is ss is ss
grows_none is ss = record { code = []; calls = []; instrs_are = sym (append_none is); sites_are = sym (append_none ss) }

pub grows_on : (is is1 is2 : List Instr) (ss ss1 ss2 : List Site) → Grows is ss is1 ss1 → Grows is1 ss1 is2 ss2 → Grows is ss is2 ss2
grows_on is is1 is2 ss ss1 ss2 f g =
    record {
      code = f.code ++ g.code;
      calls = f.calls ++ g.calls;
      instrs_are = g.instrs_are ∙ ap (λ l. l ++ g.code) f.instrs_are ∙ append_assoc is f.code g.code;
      sites_are = g.sites_are ∙ ap (λ l. l ++ g.calls) f.sites_are ∙ append_assoc ss f.calls g.calls;
    }

pub body_grows : (is is' : List Instr) (ss ss' : List Site) (e : EntryPoint) (code : ℕ → List Instr) (body : Statements) → Grows is ss is' ss' → BodyAt is ss e code body → BodyAt is' ss' e code body
body_grows is is' ss ss' e code body g h =
    let more = body_more is g.code ss g.calls e code body h in
    subst (λ l. BodyAt l ss' e code body) (sym g.instrs_are) (subst (λ l. BodyAt (is ++ g.code) l e code body) (sym g.sites_are) more)

pub functions_grow : (is is' : List Instr) (ss ss' : List Site) (es : List EntryPoint) (fs : List declared_functions.Function) → Grows is ss is' ss' → EachAt (FunctionAt is ss) es fs → EachAt (FunctionAt is' ss') es fs
functions_grow is is' ss ss' es fs g = each_weaker (FunctionAt is ss) (FunctionAt is' ss') (λ e f. let f = function f in body_grows is is' ss ss' e (λ k. function_code k f) f.body g) es fs

pub loops_grow : (is is' : List Instr) (ss ss' : List Site) (es : List EntryPoint) (ls : List declared_loops.Loop) → Grows is ss is' ss' → EachAt (LoopAt is ss) es ls → EachAt (LoopAt is' ss') es ls
loops_grow is is' ss ss' es ls g = each_weaker (LoopAt is ss) (LoopAt is' ss') (λ e l. let l = loop l in body_grows is is' ss ss' e (λ k. loop_code k l) l.body g) es ls

-- the effect of one more body
pub record Next (is : List Instr) (ss : List Site) (is' : List Instr) (ss' : List Site) (e : EntryPoint) (code : ℕ → List Instr) (body : Statements) : Type 0 where
  pub sound : IsSound is' ss'
  pub grows : Grows is ss is' ss'
  pub at : BodyAt is' ss' e code body

next : (is is' : List Instr) (ss ss' : List Site) (e : EntryPoint) (code : ℕ → List Instr) (body : Statements) → JumpsLand (is ++ code (length ss)) → ArraysFit is → ArraysFit (code (length ss)) → SitesFit ss → SitesFit (all_sites body) →
    is' ≡ is ++ code (length ss) → ss' ≡ ss ++ all_sites body → e.place ≡ length is → e.room ≡ deepest_of_all body → Next is ss is' ss' e code body
next is is' ss ss' e code body jumps arrays_old arrays_new old new ei es place room =
    let calls = all_sites body in
    let at : HasAt (is ++ code (length ss)) e.place (code (length ss)) = subst (λ n. HasAt (is ++ code (length ss)) n (code (length ss))) (sym place) (has_rest is (code (length ss))) in
    record {
      sound = record {
        jumps = subst JumpsLand (sym ei) jumps;
        arrays = subst ArraysFit (sym ei) (arrays.both_fit is (code (length ss)) arrays_old arrays_new);
        sites_fit = subst SitesFit (sym es) (both_fit ss calls old new);
      };
      grows = record { code = code (length ss); calls = calls; instrs_are = ei; sites_are = es };
      at = record {
        count = length ss;
        at = subst (λ l. HasAt l e.place (code (length ss))) (sym ei) at;
        called = subst (λ l. HasAt l (length ss) calls) (sym es) (has_rest ss calls);
        room = room;
      };
    }

pub function_next : (is is' : List Instr) (ss ss' : List Site) (e : EntryPoint) (f : Function) → IsSound is ss → ((k : ℕ) → ArraysFit (function_code k f)) → SitesFit (all_sites f.body) → is' ≡ is ++ function_code (length ss) f → ss' ≡ ss ++ all_sites f.body → e.place ≡ length is → e.room ≡ deepest_of_all f.body → Next is ss is' ss' e (λ k. function_code k f) f.body
function_next is is' ss ss' e f old named fits ei es place room = next is is' ss ss' e (λ k. function_code k f) f.body (function_jumps is (length ss) f old.jumps) old.arrays (named (length ss)) old.sites_fit fits ei es place room

pub loop_next : (is is' : List Instr) (ss ss' : List Site) (e : EntryPoint) (l : Loop) → IsSound is ss → ((k : ℕ) → ArraysFit (loop_code k l)) → SitesFit (all_sites l.body) → is' ≡ is ++ loop_code (length ss) l → ss' ≡ ss ++ all_sites l.body → e.place ≡ length is → e.room ≡ deepest_of_all l.body → Next is ss is' ss' e (λ k. loop_code k l) l.body
loop_next is is' ss ss' e l old named fits ei es place room = next is is' ss ss' e (λ k. loop_code k l) l.body (loop_jumps is (length ss) l old.jumps) old.arrays (named (length ss)) old.sites_fit fits ei es place room

-- the global reducers are created before the main function
pub globals_sound : (is : List Instr) (ss : List Site) (kinds : List MonoidKind) → is ≡ creates_code reducers.Global 0 kinds → ss ≡ [] → IsSound is ss
globals_sound is ss kinds e none =
    let empty : JumpsLand [] = λ place i at. cc in
    record {
      jumps = subst JumpsLand (sym e) (creates_jump [] reducers.Global 0 kinds empty);
      arrays = subst ArraysFit (sym e) (creates_fit reducers.Global 0 kinds);
      sites_fit = subst SitesFit (sym none) none_fit;
    }

pub root_at : (is is' : List Instr) (ss ss' : List Site) (e root : EntryPoint) (kinds : List MonoidKind) (f : Function) → is ≡ creates_code reducers.Global 0 kinds → is' ≡ is ++ function_code (length ss) f → BodyAt is' ss' e (λ k. function_code k f) f.body → ss' ≡ ss ++ all_sites f.body → root.place ≡ 0 → root.room ≡ e.room →
    BodyAt is' ss' root (λ k. creates_code reducers.Global 0 kinds ++ function_code k f) f.body
root_at is is' ss ss' e root kinds f e1 e2 main es place room =
    let code = creates_code reducers.Global 0 kinds ++ function_code (length ss) f in
    let whole : is' ≡ code = e2 ∙ ap (λ l. l ++ function_code (length ss) f) e1 in
    record {
      count = length ss;
      at = subst (λ n. HasAt is' n code) (sym place) (subst (λ l. HasAt l 0 code) (sym whole) (has_all code));
      called = subst (λ l. HasAt l (length ss) (all_sites f.body)) (sym es) (has_rest ss (all_sites f.body));
      room = room ∙ main.room;
    }

-- one more of a list that a loop goes over
pub each_more : {A : Type 0} (P : EntryPoint → A → Type 0) (es es' : List EntryPoint) (xs : List A) (i : ℕ) (e : EntryPoint) (x : A) → i < length xs → x ≡ get_or xs i x → es' ≡ es ++ e ∷ [] → EachAt P es (take i xs) → P e x → EachAt P es' (take (i + 1) xs)
each_more P es es' xs i e x low is pushed h last =
    let more : take (i + 1) xs ≡ take i xs ++ x ∷ [] = take_more xs i x low ∙ ap (λ y. take i xs ++ y ∷ []) (sym is) in
    subst (λ l. EachAt P l (take (i + 1) xs)) (sym pushed) (subst (λ l. EachAt P (es ++ e ∷ []) l) (sym more) (each_push P es (take i xs) e x h last))
