use Rattle.std.proofs.Common.{◌≡◌, ◌++◌, map, max, take}
use Rattle.cilk_program.specs.Programs.{expression}
use Rattle.cilk_lower.specs.Code.{exprs_code}
use Rattle.cilk_lower.specs.Rooms.{depths}
use Rattle.cilk_lower.proofs.expressions.emit_values.Given as goal

abbrev pub invariant-each : goal.invariant-each
invariant-each l = record {
  code : l.code.items ≡ l.fn.code.items ++ exprs_code (map expression (take l.i l.row));
  room : l.room ≡ max l.fn.room (depths (map expression (take l.i l.row)));
}
