use Rattle.std.proofs.Common.{◌<◌, length, arith}
use Rattle.cilk_lower.proofs.Rows.{declared_code, declared_sites, declared_room, declared_fits}
use Rattle.cilk_lower.proofs.emitter.Emitter.emit_declarations.Goals as goal

pub emit_declaration-requires : goal.emit_declaration-requires
emit_declaration-requires c =
    let low : c.each.d-index < length c.args.row.now = omega (arith, c.each-test.true) in
    declared_fits c.args.row.now c.each.d-index c.d-item.result low c.d-item.is c.requires

pub each-preserved : goal.each-preserved
each-preserved c =
    let row = c.args.row.now in
    let i = c.each.d-index in
    let d = c.d-item.result in
    let low : i < length row = omega (arith, c.each-test.true) in
    let base = c.args.self.now.instrs.items in
    let sites = c.args.self.now.sites.items in
    record {
      code = declared_code row i d low c.d-item.is base c.each.self.instrs.items _ sites c.each.self.sites.items c.each.invariant.code c.each.invariant.sites c.in_ok-emit_declaration.ensures.code;
      sites = declared_sites row i d low c.d-item.is sites c.each.self.sites.items _ c.each.invariant.sites c.in_ok-emit_declaration.ensures.sites;
      room = omega (arith, c.in_ok-emit_declaration.ensures.room, c.each.invariant.room, declared_room row i d low c.d-item.is);
    }
