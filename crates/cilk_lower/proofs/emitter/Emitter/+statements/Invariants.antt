use Rattle.std.proofs.Common.{◌≡◌, ◌+◌, ◌*◌, ◌++◌, length, max, take}
use denote.Param.Weighed.{most}
use Rattle.cilk_program.specs.declared.syntax.Stmt.{size-Stmt}
use Rattle.cilk_program.specs.Programs.{statements}
use Rattle.cilk_lower.specs.Code.{all_code, all_sites}
use Rattle.cilk_lower.specs.Rooms.{deepest_of_all}
use Rattle.cilk_lower.proofs.emitter.Emitter.+statements.Given as goal

abbrev pub decreases-emit_all : goal.decreases-emit_all
decreases-emit_all l = 3 * most size-Stmt l.row.now + 2

abbrev pub decreases-emit_stmt : goal.decreases-emit_stmt
decreases-emit_stmt l = 3 * size-Stmt l.s.now + 1

abbrev pub decreases-emit_if : goal.decreases-emit_if
decreases-emit_if l = 3 * size-Stmt l.body.now + 2

abbrev pub decreases-emit_if_else : goal.decreases-emit_if_else
decreases-emit_if_else l = 3 * max (size-Stmt l.first.now) (size-Stmt l.second.now) + 2

abbrev pub decreases-emit_for : goal.decreases-emit_for
decreases-emit_for l = 3 * max (most size-Stmt l.beginning.now) (max (most size-Stmt l.step.now) (size-Stmt l.body.now)) + 3

abbrev pub invariant-emit_all-each : goal.invariant-emit_all-each
invariant-emit_all-each l = record {
  code : l.self.instrs.items ≡ l.fn.self.instrs.items ++ all_code (length l.fn.self.sites.items) (statements (take l.s-index l.row));
  sites : l.self.sites.items ≡ l.fn.self.sites.items ++ all_sites (statements (take l.s-index l.row));
  room : l.self.room ≡ max l.fn.self.room (deepest_of_all (statements (take l.s-index l.row)));
}
