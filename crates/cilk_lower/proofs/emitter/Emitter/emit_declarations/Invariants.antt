use Rattle.std.proofs.Common.{◌≡◌, ◌++◌, ◌∷◌, length, map, max, take}
use Rattle.cilk_program.specs.Programs.{declaration}
use Rattle.cilk_lower.specs.declared.code.Instr.TheVariants.{Tick}
use Rattle.cilk_lower.specs.Code.{declarations_code, declarations_sites}
use Rattle.cilk_lower.specs.Rooms.{declarations_depth}
use Rattle.cilk_lower.proofs.emitter.Emitter.emit_declarations.Given as goal

abbrev pub invariant-each : goal.invariant-each
invariant-each l = record {
  code : l.self.instrs.items ≡ l.fn.self.instrs.items ++ (Tick ∷ declarations_code (length l.fn.self.sites.items) (map declaration (take l.d-index l.row)));
  sites : l.self.sites.items ≡ l.fn.self.sites.items ++ declarations_sites (map declaration (take l.d-index l.row));
  room : l.self.room ≡ max l.fn.self.room (declarations_depth (map declaration (take l.d-index l.row)));
}
