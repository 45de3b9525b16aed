-- Frames that begin or end.
use Rattle.std.proofs.Common.{◌≡◌, ℕ, zero, suc, ◌<◌, ◌≤◌, IsTrue, ℤ, List, [], ◌∷◌, length, drop, Option, Some, None, option_map, refl, sym, ap, ◌∙◌, subst, arith}
use Rattle.cilk_program.specs.declared.ask.FunctionCall.{FunctionCall}
use Rattle.cilk_program.specs.declared.ask.LoopPart.{LoopPart}
use Rattle.cilk_program.specs.declared.ask.Callee.TheVariants as callees
use Rattle.cilk_program.specs.Scopes.{instances_in, cell_in}
use Rattle.cilk_program.specs.Syntax.{Source}
use Rattle.cilk_program.specs.WellNamed.{is_well_named}
use Rattle.cilk_program.specs.SerialRun.{Frame, Memory, global_reducer, home_of, itself, next_frame, root_frame}
use Rattle.cilk_program.proofs.Naming.{well_named_parts}
use Rattle.cilk_types.specs.Stacks.{from_bottom}
use Rattle.cilk_serial.specs.Scoped.{Activation, Frames, Parent, Scoped, Seen, Leads, IsCreator, kinds_of, waiting}
use Rattle.cilk_serial.proofs.Homes.{leads_more, scoped_length}
use Rattle.cilk_types.proofs.Stacks.{below_top, on_top}

-- a function of a well-named program
pub creates : (p : Source) → IsTrue (is_well_named p) → (k : ℕ) → k < length p.functions → IsCreator p (Some k)
creates p well k low = let named = well_named_parts p well in let f = named.functions k low in (low, f.reducers)

pub root_scoped : (p : Source) → IsTrue (is_well_named p) → (inputs : List ℤ) (a : Activation) → a.number ≡ 1 → a.base ≡ length p.openings → a.given.items ≡ [] → a.outer ≡ None → a.result ≡ None → a.first ≡ suc (length p.reducers) → a.creator ≡ Some p.main
    → Scoped p a (root_frame p inputs) []
root_scoped p well inputs a number base given outer result first creator =
    let named = well_named_parts p well in
    let few = named.reducers in
    record {
      number = sym number;
      outer = [];
      scope = ap (λ n. home_of p callees.Root n (length p.openings) [] ∷ []) (sym number) ∙ ap (λ n. home_of p callees.Root a.number n [] ∷ []) (sym base) ∙ ap (λ l. home_of p callees.Root a.number a.base l ∷ []) (sym given);
      leads = subst (λ (o : Option ℕ). Leads [] o []) (sym outer) refl;
      result = sym result;
      first = first;
      low = omega (arith, first, few);
      creator = subst (λ (o : Option ℕ). IsCreator p o) (sym creator) (creates p well p.main named.main);
      creates = ap (kinds_of p) (sym creator);
    }

pub function_scoped : (p : Source) (fr : Frame) (m : Memory) (parents : List Parent) (c : FunctionCall) (a : Activation) → a.number ≡ suc m.frames → a.base ≡ m.cells → a.given.items ≡ instances_in global_reducer fr.scope c.reducers
    → a.outer ≡ None → a.result ≡ option_map (cell_in itself fr.scope) c.result → a.first ≡ 1 → a.creator ≡ Some c.function → IsCreator p (Some c.function)
    → Scoped p a (next_frame p fr.scope m (callees.Function c)) parents
function_scoped p fr m parents c a number base given outer result first creator fits =
    let callee = callees.Function c in
    let list = instances_in global_reducer fr.scope c.reducers in
    record {
      number = sym number;
      outer = [];
      scope = ap (λ n. home_of p callee n m.cells list ∷ []) (sym number) ∙ ap (λ n. home_of p callee a.number n list ∷ []) (sym base) ∙ ap (λ l. home_of p callee a.number a.base l ∷ []) (sym given);
      leads = subst (λ (o : Option ℕ). Leads parents o []) (sym outer) refl;
      result = sym result;
      first = first;
      low = omega (arith, first);
      creator = subst (λ (o : Option ℕ). IsCreator p o) (sym creator) fits;
      creates = ap (kinds_of p) (sym creator);
    }

-- the scope at the end of a loop frame's static link
leads_up : (p : Source) (frames : Frames) (fr : Frame) (parents : List Parent) (q : Parent) (up : ℕ) (o : Option ℕ) → Seen p frames fr parents → q.frame ≡ fr → up ≤ 1
    → (up ≡ 0 → o ≡ Some (length (waiting frames))) → (up ≡ 1 → o ≡ frames.top.outer) → Leads (q ∷ parents) o (drop up fr.scope)
leads_up p frames fr parents q zero o seen same low here there =
    let long = scoped_length p (waiting frames) parents seen.waits in
    subst (λ (o : Option ℕ). Leads (q ∷ parents) o fr.scope) (sym (here refl)) (q, ap (λ n. from_bottom (q ∷ parents) n) long ∙ on_top parents q, ap (λ (fr : Frame). fr.scope) (sym same))
leads_up p frames fr parents q (suc zero) o seen same low here there =
    let s = seen.scoped in
    subst (λ (o : Option ℕ). Leads (q ∷ parents) o (drop 1 fr.scope)) (sym (there refl))
    (leads_more parents (q ∷ parents) frames.top.outer (drop 1 fr.scope) (λ n x e. below_top parents n x q e) (subst (λ x. Leads parents frames.top.outer x) (sym (ap (drop 1) s.scope)) s.leads))
leads_up p frames fr parents q (suc (suc up)) o seen same low here there = absurd (omega (arith, low))

pub turns_scoped : (p : Source) (frames : Frames) (fr : Frame) (parents : List Parent) (m : Memory) (q : Parent) (l : LoopPart) (a : Activation) → Seen p frames fr parents → q.frame ≡ fr → l.up ≤ 1
    → (l.up ≡ 0 → a.outer ≡ Some (length (waiting frames))) → (l.up ≡ 1 → a.outer ≡ frames.top.outer) → a.number ≡ suc m.frames → a.base ≡ m.cells → a.given.items ≡ [] → a.result ≡ None → a.first ≡ 1 → a.creator ≡ None
    → Scoped p a (next_frame p fr.scope m (callees.Loop l)) (q ∷ parents)
turns_scoped p frames fr parents m q l a seen same low here there number base given result first creator =
    let callee = callees.Loop l in
    let outer = drop l.up fr.scope in
    record {
      number = sym number;
      outer = outer;
      scope = ap (λ n. home_of p callee n m.cells [] ∷ outer) (sym number) ∙ ap (λ n. home_of p callee a.number n [] ∷ outer) (sym base) ∙ ap (λ x. home_of p callee a.number a.base x ∷ outer) (sym given);
      leads = leads_up p frames fr parents q l.up a.outer seen same low here there;
      result = sym result;
      first = first;
      low = omega (arith, first);
      creator = subst (λ (o : Option ℕ). IsCreator p o) (sym creator) tt;
      creates = ap (kinds_of p) (sym creator);
    }
