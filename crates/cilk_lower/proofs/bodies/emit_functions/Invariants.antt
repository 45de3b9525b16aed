use Rattle.std.proofs.Common.{take}
use Rattle.cilk_lower.specs.Bodies.{EachAt, FunctionAt, Grows, IsSound}
use Rattle.cilk_lower.proofs.bodies.emit_functions.Given as goal

abbrev pub invariant-each : goal.invariant-each
invariant-each l = record {
  sound : IsSound l.out.instrs.items l.out.sites.items;
  grows : Grows l.fn.out.instrs.items l.fn.out.sites.items l.out.instrs.items l.out.sites.items;
  entries : EachAt (FunctionAt l.out.instrs.items l.out.sites.items) l.entries.items (take l.number l.functions);
}
