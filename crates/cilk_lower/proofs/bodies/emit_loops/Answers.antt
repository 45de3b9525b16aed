use Rattle.std.proofs.Common.{◌<◌, length, take, sym, subst, arith}
use Rattle.cilk_program.specs.Programs.{loop}
use Rattle.cilk_lower.specs.Bodies.{EachAt, LoopAt}
use Rattle.cilk_lower.proofs.Emitted.{item_there, grows_none, grows_on, loops_grow, loop_next, each_more}
use Rattle.cilk_lower.proofs.bodies.emit_loops.Goals as goal

pub each-init : goal.each-init
each-init c =
    let is = c.args.out.now.instrs.items in
    let ss = c.args.out.now.sites.items in
    record {
      sound = c.requires.sound;
      grows = grows_none is ss;
      entries = subst (λ es. EachAt (LoopAt is ss) es (take 0 c.args.loops.now)) (sym c.new-entries.ensures.items) tt;
    }

pub emit_loop-requires : goal.emit_loop-requires
emit_loop-requires c =
    let low : c.each.l-index < length c.args.loops.now = omega (arith, c.each-test.true) in
    c.requires.fit c.each.l-index c.l-item.result (item_there c.args.loops.now c.each.l-index c.l-item.result low c.l-item.is)

pub each-preserved : goal.each-preserved
each-preserved c =
    let ls = c.args.loops.now in
    let i = c.each.l-index in
    let l = c.l-item.result in
    let low : i < length ls = omega (arith, c.each-test.true) in
    let is = c.each.out.instrs.items in
    let ss = c.each.out.sites.items in
    let is1 = c.emit_loop.new.self.instrs.items in
    let ss1 = c.emit_loop.new.self.sites.items in
    let fits = c.requires.fit i l (item_there ls i l low c.l-item.is) in
    let made = c.in_ok-place.ensures in
    let n = loop_next is is1 ss ss1 c.in_ok-place.place (loop l) c.each.invariant.sound fits.arrays fits.sites made.code made.sites made.place made.room in
    record {
      sound = n.sound;
      grows = grows_on c.args.out.now.instrs.items is is1 c.args.out.now.sites.items ss ss1 c.each.invariant.grows n.grows;
      entries = each_more (LoopAt is1 ss1) c.each.entries.items _ ls i c.in_ok-place.place l low c.l-item.is c.in_ok-push.ensures.items (loops_grow is is1 ss ss1 c.each.entries.items (take i ls) n.grows c.each.invariant.entries) n.at;
    }
