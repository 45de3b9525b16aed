-- A function declared, and its body resolved.
use Rattle.std.proofs.Common.{◌≡◌, ◌+◌, [], ◌∷◌, ◌++◌, length, map, refl, ap, ◌∙◌, length-append, rules}
use Rattle.cilk_syntax.specs.Trees as trees
use Rattle.cilk_program.specs.Programs.{function, loop, statements}
use Rattle.cilk_names.specs.declared.table.Meaning.TheVariants as meanings
use Rattle.cilk_names.specs.declared.limits.TheConstants.{MAX_FUNCTIONS}
use Rattle.cilk_names.specs.Names.{declare}
use Rattle.cilk_names.specs.Contexts.{with_parameters}
use Rattle.cilk_names.specs.Globals.{in_function}
use Rattle.cilk_names.specs.Faults.{again_faults, earliest}
use Rattle.cilk_names.specs.Misnamings.{limit_faults, parameters_faults, row_faults}
use Rattle.cilk_names.specs.Pass.{row_loops}
use Rattle.cilk_names.specs.Tables.{names_of}
use Rattle.cilk_names.specs.States.{context_of, known_of}
use Rattle.cilk_names.specs.declared.items.Pass.{Pass}
use Rattle.cilk_names.proofs.Parts.{both_faults}
use Rattle.cilk_names.proofs.AllItems.{function_begun, function_known, function_made}
use Rattle.cilk_names.proofs.Tables.{map_append}
use Rattle.cilk_names.proofs.items.Pass.function.Goals as goal

pub returns-clause-known : goal.returns-clause-known
returns-clause-known c =
    let number : c.in_ok-number.number ≡ length c.args.self.now.functions.items = search rules in
    let named : names_of c.limit.new.self.table ≡ declare (names_of c.args.self.now.scene.table) c.args.name (meanings.Function c.in_ok-number.number) =
    ap names_of c.limit.ensures.same.0 ∙ c.in_ok-declare.ensures.names in
    let more : length c.push.new.self.items ≡ length c.args.self.now.functions.items + 1 = ap length c.in_ok-push.ensures.items ∙ length-append c.args.self.now.functions.items (c.end-function.result ∷ []) in
    let now : Pass = record { scene = c.end-function.new.self; openings = c.args.self.now.openings; shared = c.args.self.now.shared; functions = c.push.new.self } in
    function_known (known_of c.args.self.now) (known_of now) c.args.returns c.args.name c.args.parameters.now (trees.statements c.args.body.now)
    c.in_ok-number.number c.limit.new.self.reducers (length c.limit.new.self.loops.items) (names_of c.limit.new.self.table) (context_of c.begin.new.self) (context_of c.parameters.new.self) (context_of c.row.new.self)
    number named (c.limit.ensures.same.2 ∙ c.in_ok-declare.ensures.same.1) (ap (λ v. length v.items) (c.limit.ensures.same.1 ∙ c.in_ok-declare.ensures.same.0))
    c.in_ok-begin.ensures.context c.in_ok-parameters.ensures.context c.in_ok-body.ensures.context c.end-function.ensures.names
    refl refl more c.end-function.ensures.same.2 (ap (λ v. length v.items) c.end-function.ensures.same.0)

pub returns-clause-functions : goal.returns-clause-functions
returns-clause-functions c =
    let number : c.in_ok-number.number ≡ length c.args.self.now.functions.items = search rules in
    let named : names_of c.limit.new.self.table ≡ declare (names_of c.args.self.now.scene.table) c.args.name (meanings.Function c.in_ok-number.number) =
    ap names_of c.limit.ensures.same.0 ∙ c.in_ok-declare.ensures.names in
    ap (map function) c.in_ok-push.ensures.items
    ∙ map_append function c.args.self.now.functions.items (c.end-function.result ∷ [])
    ∙ ap (λ f. map function c.args.self.now.functions.items ++ (f ∷ []))
    (function_made (known_of c.args.self.now) c.args.returns c.args.name c.args.parameters.now (trees.statements c.args.body.now)
    c.in_ok-number.number c.limit.new.self.reducers (length c.limit.new.self.loops.items) (names_of c.limit.new.self.table) (context_of c.begin.new.self) (context_of c.parameters.new.self) (context_of c.row.new.self)
    (function c.end-function.result) (statements c.in_ok-body.body.items)
    number named (c.limit.ensures.same.2 ∙ c.in_ok-declare.ensures.same.1) (ap (λ v. length v.items) (c.limit.ensures.same.1 ∙ c.in_ok-declare.ensures.same.0))
    c.in_ok-begin.ensures.context c.in_ok-parameters.ensures.context c.in_ok-body.ensures.context c.in_ok-body.ensures.value c.end-function.ensures.made)

pub returns-clause-faults : goal.returns-clause-faults
returns-clause-faults c =
    let number : c.in_ok-number.number ≡ length c.args.self.now.functions.items = search rules in
    let named : names_of c.limit.new.self.table ≡ declare (names_of c.args.self.now.scene.table) c.args.name (meanings.Function c.in_ok-number.number) =
    ap names_of c.limit.ensures.same.0 ∙ c.in_ok-declare.ensures.names in
    let begins = in_function (known_of c.args.self.now) c.args.returns c.args.name in
    let row = trees.statements c.args.body.now in
    let inner = with_parameters begins c.args.parameters.now in
    let begun : context_of c.begin.new.self ≡ begins = function_begun (known_of c.args.self.now) c.args.returns c.args.name c.in_ok-number.number c.limit.new.self.reducers (length c.limit.new.self.loops.items)
    (names_of c.limit.new.self.table) (context_of c.begin.new.self) number named
    (c.limit.ensures.same.2 ∙ c.in_ok-declare.ensures.same.1) (ap (λ v. length v.items) (c.limit.ensures.same.1 ∙ c.in_ok-declare.ensures.same.0)) c.in_ok-begin.ensures.context in
    let there : context_of c.parameters.new.self ≡ inner = c.in_ok-parameters.ensures.context ∙ ap (λ x. with_parameters x c.args.parameters.now) begun in
    let from = c.args.self.now.scene.first in
    let again = again_faults (names_of c.args.self.now.scene.table) c.args.name in
    let room = limit_faults MAX_FUNCTIONS (length c.args.self.now.functions.items) c.args.name in
    let heads = parameters_faults begins c.args.parameters.now in
    let rows = row_faults inner row in
    let count : c.len-count.result ≡ length c.args.self.now.functions.items = search rules in
    let second = c.limit.ensures.faults ∙ ap (λ n. earliest c.declare.new.self.first (limit_faults MAX_FUNCTIONS n c.args.name)) count in
    let third = c.in_ok-parameters.ensures.faults ∙ ap (λ x. earliest c.begin.new.self.first (parameters_faults x c.args.parameters.now)) begun ∙ ap (λ f. earliest f heads) c.in_ok-begin.ensures.same.1 in
    let fourth = c.in_ok-body.ensures.faults ∙ ap (λ x. earliest c.parameters.new.self.first (row_faults x row)) there in
    c.end-function.ensures.same.1
    ∙ both_faults from c.parameters.new.self.first c.row.new.self.first (again ++ room ++ heads) rows
    (both_faults from c.limit.new.self.first c.parameters.new.self.first (again ++ room) heads
    (both_faults from c.declare.new.self.first c.limit.new.self.first again room c.in_ok-declare.ensures.faults second) third) fourth

pub returns-clause-loops : goal.returns-clause-loops
returns-clause-loops c =
    let number : c.in_ok-number.number ≡ length c.args.self.now.functions.items = search rules in
    let named : names_of c.limit.new.self.table ≡ declare (names_of c.args.self.now.scene.table) c.args.name (meanings.Function c.in_ok-number.number) =
    ap names_of c.limit.ensures.same.0 ∙ c.in_ok-declare.ensures.names in
    let begins = in_function (known_of c.args.self.now) c.args.returns c.args.name in
    let row = trees.statements c.args.body.now in
    let inner = with_parameters begins c.args.parameters.now in
    let begun : context_of c.begin.new.self ≡ begins = function_begun (known_of c.args.self.now) c.args.returns c.args.name c.in_ok-number.number c.limit.new.self.reducers (length c.limit.new.self.loops.items)
    (names_of c.limit.new.self.table) (context_of c.begin.new.self) number named
    (c.limit.ensures.same.2 ∙ c.in_ok-declare.ensures.same.1) (ap (λ v. length v.items) (c.limit.ensures.same.1 ∙ c.in_ok-declare.ensures.same.0)) c.in_ok-begin.ensures.context in
    let there : context_of c.parameters.new.self ≡ inner = c.in_ok-parameters.ensures.context ∙ ap (λ x. with_parameters x c.args.parameters.now) begun in
    ap (λ v. map loop v.items) c.end-function.ensures.same.0
    ∙ c.in_ok-body.ensures.loops
    ∙ ap (λ x. map loop c.parameters.new.self.loops.items ++ row_loops x row) there
    ∙ ap (λ v. map loop v.items ++ row_loops inner row)
    (c.parameters.ensures.loops ∙ c.in_ok-begin.ensures.same.0 ∙ c.limit.ensures.same.1 ∙ c.in_ok-declare.ensures.same.0)
