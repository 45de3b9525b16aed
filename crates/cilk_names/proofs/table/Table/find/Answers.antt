-- One scope further out.
use Rattle.std.proofs.Common.{sym, arith}
use Rattle.cilk_names.specs.Tables.{scope_of}
use Rattle.cilk_names.proofs.Tables.{found_some, found_none}
use Rattle.cilk_names.proofs.table.Table.find.Goals as goal

pub returns-in-Some-get : goal.returns-in-Some-get
returns-in-Some-get c =
    found_some c.args.self.now.outer.items c.scopes.depth c.index.result.now c.args.name.now (scope_of c.args.self.now.inner c.args.name.now) c.in-Some-get.entry.now
    (omega arith) c.scopes.invariant.within c.index.ensures (sym c.in_default.ensures.value) c.in-Some-get.ensures.value c.scopes.invariant.rest

pub scopes-preserved : goal.scopes-preserved
scopes-preserved c = record {
  within = omega arith;
  rest = found_none c.args.self.now.outer.items c.scopes.depth c.index.result.now c.args.name.now
      (omega arith) c.scopes.invariant.within c.index.ensures (sym c.in_default-get.ensures.value) c.scopes.invariant.rest;
}
