use Rattle.std.proofs.Common.{◌≡◌, ◌<◌, length, take, Some, sym, ap, ◌∙◌, subst, arith}
use Rattle.std.specs.Prelude.{slice_get}
use Rattle.cilk_program.specs.Programs.{function}
use Rattle.cilk_lower.specs.declared.code.EntryPoint.{EntryPoint}
use Rattle.cilk_lower.specs.declared.emitter.Emitter.{Emitter}
use Rattle.cilk_lower.specs.Bodies.{EachAt, FunctionAt}
use Rattle.cilk_lower.specs.Code.{function_code}
use Rattle.cilk_lower.proofs.Emitted.{Next, item_there, grows_none, grows_on, body_grows, functions_grow, function_next, each_more}
use Rattle.cilk_lower.proofs.bodies.emit_functions.Goals as goal
use Rattle.cilk_lower.proofs.bodies.emit_functions.Goals.{then-number-main, else-number-main+in_ok-place}

pub each-init : goal.each-init
each-init c =
    let is = c.args.out.now.instrs.items in
    let ss = c.args.out.now.sites.items in
    record {
      sound = c.requires.sound;
      grows = grows_none is ss;
      entries = subst (λ es. EachAt (FunctionAt is ss) es (take 0 c.args.functions.now)) (sym c.new-entries.ensures.items) tt;
    }

pub emit_function-requires : goal.emit_function-requires
emit_function-requires c =
    let low : c.each.number < length c.args.functions.now = omega (arith, c.each-test.true) in
    c.requires.fit c.each.number c.index-functions-number.result (item_there c.args.functions.now c.each.number c.index-functions-number.result low c.index-functions-number.is)

pub each-preserved : goal.each-preserved
each-preserved c =
    let fs = c.args.functions.now in
    let i = c.each.number in
    let f = c.index-functions-number.result in
    let g = function f in
    let low : i < length fs = omega (arith, c.each-test.true) in
    let there = item_there fs i f low c.index-functions-number.is in
    let old = c.args.out.now in
    let is = c.each.out.instrs.items in
    let ss = c.each.out.sites.items in
    let is1 = c.if-number-main.out.instrs.items in
    let ss1 = c.if-number-main.out.sites.items in
    let e = c.if-number-main.place in
    let n : Next is ss is1 ss1 e (λ k. function_code k g) g.body = elim c.if-number-main.branch [
      | then-number-main w ↦ (
          let main : slice_get fs c.args.main ≡ Some f = ap (λ k. slice_get fs k) (sym w.if-number-main.true) ∙ there in
          let at = body_grows old.instrs.items is old.sites.items ss c.args.entry (λ k. function_code k g) g.body c.each.invariant.grows (c.requires.main f main) in
          subst (λ (o : Emitter). Next is ss o.instrs.items o.sites.items e (λ k. function_code k g) g.body) (sym w.out-is)
          (subst (λ (e : EntryPoint). Next is ss is ss e (λ k. function_code k g) g.body) (sym w.place-is) (record { sound = c.each.invariant.sound; grows = grows_none is ss; at = at }))
          )
      | else-number-main+in_ok-place w ↦ (
          let made = w.in_ok-place.ensures in
          let fits = c.requires.fit i f there in
          let o = w.emit_function.new.self in
          subst (λ (o : Emitter). Next is ss o.instrs.items o.sites.items e (λ k. function_code k g) g.body) (sym w.out-is)
          (subst (λ (e : EntryPoint). Next is ss o.instrs.items o.sites.items e (λ k. function_code k g) g.body) (sym w.place-is) (function_next is o.instrs.items ss o.sites.items w.in_ok-place.place g c.each.invariant.sound fits.arrays fits.sites made.code made.sites made.place made.room))
          )
    ] in
    record {
      sound = n.sound;
      grows = grows_on old.instrs.items is is1 old.sites.items ss ss1 c.each.invariant.grows n.grows;
      entries = each_more (FunctionAt is1 ss1) c.each.entries.items _ fs i e f low c.index-functions-number.is c.in_ok-push.ensures.items (functions_grow is is1 ss ss1 c.each.entries.items (take i fs) n.grows c.each.invariant.entries) n.at;
    }
