-- Before the body of a parallel loop.
use Rattle.std.proofs.Common.{◌≡◌, ◌+◌, [], ◌∷◌, ◌++◌, length, map, ap, ◌∙◌, length-append, arith, rules}
use Rattle.cilk_program.specs.declared.program.Loop.{Loop}
use Rattle.cilk_program.specs.Programs.{loop}
use Rattle.cilk_names.specs.Faults.{earliest}
use Rattle.cilk_names.specs.Tables.{names_of}
use Rattle.cilk_names.specs.States.{context_of}
use Rattle.cilk_names.proofs.Behinds.{entered, not_again}
use Rattle.cilk_names.proofs.Tables.{map_append}
use Rattle.cilk_names.proofs.scene.Resolver.enter.Goals as goal

pub returns-clause-context : goal.returns-clause-context
returns-clause-context c =
    let more : length c.push.new.self.items ≡ length c.args.self.now.loops.items + 1 = ap length c.in_ok-push.ensures.items ∙ length-append c.args.self.now.loops.items (_ ∷ []) in
    let level : c.in-Some.level ≡ c.args.self.now.table.level + 1 = grind (arith, c.in-Some.ensures) in
    let number : c.in_ok-number_of.field-0 ≡ length c.args.self.now.loops.items = search rules in
    entered (context_of c.args.self.now) c.args.name (names_of c.open.new.self) (names_of c.declare.new.self) c.in_ok-number_of.field-0 c.in-Some.level (length c.push.new.self.items)
    c.in_ok-open.ensures.names c.in_ok-declare.ensures.names level number more

pub returns-clause-first : goal.returns-clause-first
returns-clause-first c =
    c.in_ok-declare.ensures.faults
    ∙ ap (earliest c.args.self.now.first) (not_again (names_of c.args.self.now.table) (names_of c.open.new.self) c.args.name c.in-Some.level c.in_ok-open.ensures.names)

pub returns-clause-loops : goal.returns-clause-loops
returns-clause-loops c =
    let made : Loop = record { at = c.args.at; within = c.args.self.now.frame.body; cells = 0; body = c.new.result } in
    let items : c.push.new.self.items ≡ c.args.self.now.loops.items ++ made ∷ [] = c.in_ok-push.ensures.items in
    (loop made, ap (map loop) items ∙ map_append loop c.args.self.now.loops.items (made ∷ []))
