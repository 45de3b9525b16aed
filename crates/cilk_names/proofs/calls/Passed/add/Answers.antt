-- An argument of either kind.
use Rattle.std.proofs.Common.{[], ◌∷◌, ◌++◌, map, sym, ap, ◌∙◌}
use Rattle.std.specs.Option.{option_to_list}
use Rattle.std.proofs.lemmas.List.{append-nil}
use Rattle.cilk_syntax.specs.Trees as trees
use Rattle.cilk_program.specs.Programs.{expression}
use Rattle.cilk_names.specs.Faults.{earliest}
use Rattle.cilk_names.specs.Misnamings.{argument_faults, expression_faults}
use Rattle.cilk_names.specs.Pass.{expression_of, reducer_of_argument, word_of_argument}
use Rattle.cilk_names.specs.Tables.{names_of}
use Rattle.cilk_names.proofs.Tables.{map_append}
use Rattle.cilk_names.proofs.calls.Passed.add.Goals as goal

pub returns-in_ok-push-in-Word-clause-faults : goal.returns-in_ok-push-in-Word-clause-faults
returns-in_ok-push-in-Word-clause-faults c =
    let names = names_of c.args.table.now in
    let argument = trees.argument c.args.argument.now in
    c.in_ok-word-in-Word.ensures.faults ∙ ap (λ e. earliest c.args.first.now (expression_faults names (trees.expression e))) c.deref.ensures ∙ ap (λ k. earliest c.args.first.now (argument_faults names k argument)) (sym c.in-Word.is)

pub returns-in_ok-push-in-Word-clause-words : goal.returns-in_ok-push-in-Word-clause-words
returns-in_ok-push-in-Word-clause-words c =
    let names = names_of c.args.table.now in
    let argument = trees.argument c.args.argument.now in
    let words = map expression c.args.self.now.words.items in
    ap (map expression) c.in_ok-push-in-Word.ensures.items
    ∙ map_append expression c.args.self.now.words.items (c.in_ok-word-in-Word.word ∷ [])
    ∙ ap (λ e. words ++ e ∷ []) (c.in_ok-word-in-Word.ensures.value ∙ ap (λ e. expression_of names (trees.expression e)) c.deref.ensures)
    ∙ ap (λ k. words ++ word_of_argument names k argument) (sym c.in-Word.is)

pub returns-in_ok-push-in-Word-clause-reducers : goal.returns-in_ok-push-in-Word-clause-reducers
returns-in_ok-push-in-Word-clause-reducers c =
    let names = names_of c.args.table.now in
    let argument = trees.argument c.args.argument.now in
    let reducers = c.args.self.now.reducers.items in
    sym (append-nil reducers) ∙ ap (λ k. reducers ++ reducer_of_argument names k argument) (sym c.in-Word.is)

pub returns-in_ok-push-in-Reducer-clause-faults : goal.returns-in_ok-push-in-Reducer-clause-faults
returns-in_ok-push-in-Reducer-clause-faults c =
    let names = names_of c.args.table.now in
    let argument = trees.argument c.args.argument.now in
    c.in_ok-reducer-in-Reducer.ensures.faults ∙ ap (λ k. earliest c.args.first.now (argument_faults names k argument)) (sym c.in-Reducer.is)

pub returns-in_ok-push-in-Reducer-clause-words : goal.returns-in_ok-push-in-Reducer-clause-words
returns-in_ok-push-in-Reducer-clause-words c =
    let names = names_of c.args.table.now in
    let argument = trees.argument c.args.argument.now in
    let words = map expression c.args.self.now.words.items in
    sym (append-nil words) ∙ ap (λ k. words ++ word_of_argument names k argument) (sym c.in-Reducer.is)

pub returns-in_ok-push-in-Reducer-clause-reducers : goal.returns-in_ok-push-in-Reducer-clause-reducers
returns-in_ok-push-in-Reducer-clause-reducers c =
    let names = names_of c.args.table.now in
    let argument = trees.argument c.args.argument.now in
    let reducers = c.args.self.now.reducers.items in
    c.in_ok-push-in-Reducer.ensures.items ∙ ap (λ r. reducers ++ option_to_list r) (sym c.in-Some.is ∙ c.in_ok-reducer-in-Reducer.ensures.value) ∙ ap (λ k. reducers ++ reducer_of_argument names k argument) (sym c.in-Reducer.is)

pub returns-in_default-clause-faults : goal.returns-in_default-clause-faults
returns-in_default-clause-faults c =
    let names = names_of c.args.table.now in
    let argument = trees.argument c.args.argument.now in
    c.in_ok-reducer-in-Reducer.ensures.faults ∙ ap (λ k. earliest c.args.first.now (argument_faults names k argument)) (sym c.in-Reducer.is)

pub returns-in_default-clause-words : goal.returns-in_default-clause-words
returns-in_default-clause-words c =
    let names = names_of c.args.table.now in
    let argument = trees.argument c.args.argument.now in
    let words = map expression c.args.self.now.words.items in
    sym (append-nil words) ∙ ap (λ k. words ++ word_of_argument names k argument) (sym c.in-Reducer.is)

pub returns-in_default-clause-reducers : goal.returns-in_default-clause-reducers
returns-in_default-clause-reducers c =
    let names = names_of c.args.table.now in
    let argument = trees.argument c.args.argument.now in
    let reducers = c.args.self.now.reducers.items in
    sym (append-nil reducers) ∙ ap (λ r. reducers ++ option_to_list r) (sym c.in_default.is ∙ c.in_ok-reducer-in-Reducer.ensures.value) ∙ ap (λ k. reducers ++ reducer_of_argument names k argument) (sym c.in-Reducer.is)
