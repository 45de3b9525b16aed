-- `of` makes a value of no bytes, whose event order is one that the premise has.
use Rattle.std.proofs.Common.{[], ◌∷◌, refl}
use mir.Syntax.{named}
use mir.Val.{Val, vptr}
use base.Logic.{SProp}
use types.Kit.{‵, raw, ◌⊛◌, ◌$◌, ◌∵◌, !, qed, keep, move, split, join, fjoin, suffices, done}
use types.Run.{enter, returns, no_more}
use types.ByLocal.{alloc_all, pass_all, free_all, look_at, sets}
use types.Part.{agg}
use contract.Running.{tables}
use denote.Exit.{yes}
use denote.RattleType.{owns}
use denote.Signature.{types_at, plain}
use denote.Steps.{nothing}
use denote.Builtin.{RefOf}
use denote.Ref.{shr_vals, shr_Tells}
use denote.Triple.Entry.{alive, on_entry}
use denote.Triple.Walked.{says, needs, ends_at, Stays, stay_dropped, walk_of, Goes-dropped}
use Rattle.std.proofs.raw_atomic.Walks.{proved}
use Rattle.cilk_types.specs.contracts.input.Input.{the_row as InputRow}
use Rattle.cilk_tree.specs.contracts.plan.Plan.{the_row as PlanRow}
use Rattle.cilk_plan.specs.Plans.{HasEventOrderOn}
use Rattle.cilk_shared.proofs.NoBytes.{none, none_made}
use Rattle.cilk_plan.specs.contracts.yards.Told as Told
use Rattle.cilk_plan.specs.contracts.yards.Told.of.{ended, clauses}
use Rattle.cilk_plan.specs.contracts.yards.Told.of.Key.{name as #self}
use Rattle.cilk_plan.proofs.yards.Told.of.Statement.{statement}
use Rattle.cilk_plan.proofs.yards.Told.of.Code as code

pub of_spec : {M : Type 1} → statement M
of_spec 𝓤 𝓛 𝓜 𝓡 wired =
    let H = 𝓛.H in
    let 𝓣 = tables 𝓤 H 𝓜 𝓡 𝓡.env in
    let c = clauses 𝓛 𝓜.mem 𝓡.returns in
    let first = RefOf (0 ∷ []) tt (plain (λ _. PlanRow)) (λ _. tt) in
    let second = RefOf (1 ∷ []) tt (plain (λ _. InputRow)) (λ _. tt) in
    let hs : Stays ended.signature.params ended.kept = (stay_dropped first yes, (stay_dropped second yes, tt)) in
    proved 𝓛 ended hs c 𝓜 𝓡
    (Goes-dropped 𝓛 2 first yes (λ κs x f. refl), (Goes-dropped 𝓛 2 second yes (λ κs x f. refl), tt))
    #self code.function (code.unfolded 𝓤 H 𝓜 𝓡 wired)
    (λ κs. (shr_vals, (shr_vals, tt)))
    (λ κs. (shr_Tells (named 0) κs.0 PlanRow, (shr_Tells (named 1) κs.1.0 InputRow, tt)))
    (λ κs qs bounds a run are.
    let p : Val = vptr a.0.ref_ptr.0 a.0.ref_ptr.1 in
    let q : Val = vptr a.1.0.ref_ptr.0 a.1.0.ref_ptr.1 in
    needs 𝓤 (HasEventOrderOn run a.0.now.opening a.1.0.now) (on_entry 𝓛 ended.signature κs qs a (p ∷ [], (q ∷ [], tt))) (λ has.
    let told : Told.the_row.Denot = record { event_order = has.0 } in
    let y : (walk_of 𝓛 ended hs c).Ghost = ((κs, qs, bounds, a, (p ∷ [], (q ∷ [], tt))), run) in
    let Post : Val → SProp 𝓤 = (walk_of 𝓛 ended hs c).post y in
    qed 𝓛 ((raw (alive 𝓛 ended.signature κs qs) ⊛ ‵ (owns (types_at ended.signature.params κs) a y.0.4)) ∷ []) ∵
    split ! $ keep ! (0 ∷ []) $
    enter ! 𝓣.C 𝓣.Λ code.function (p ∷ q ∷ []) Post $ alloc_all ! (λ l. pass_all ! refl ((tt, tt), ((tt, tt), tt)) $
    sets ! (agg ! (no_more !)) refl (tt, tt) $
    nothing ! $ none_made ! $ fjoin ! $
    returns ! (look_at ! 0 refl) $ free_all ! refl $
    suffices ! _ (ends_at 𝓛 ended hs c y none told (tt, (tt, tt)) (tt, (tt, tt))) $ says ! has.1 $
    nothing ! $ nothing ! $ fjoin ! $ nothing ! $ fjoin ! $ join ! $ move ! (1 ∷ 0 ∷ []) $ join ! $ done !)))
