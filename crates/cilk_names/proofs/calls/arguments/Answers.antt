-- One more argument, and the end.
use Rattle.cilk_names.specs.Tables.{names_of}
use Rattle.cilk_names.proofs.Arguments.{faults_step, words_step, reducers_step, faults_end, words_end, reducers_end}
use Rattle.cilk_names.proofs.calls.arguments.Goals as goal

pub each-preserved : goal.each-preserved
each-preserved c =
    record {
      faults = faults_step (names_of c.args.table.now) c.args.kinds.now c.args.list.now c.each.index c.kind_at-kind.result c.index-list-index.result c.each-test.true c.index-list-index.is c.kind_at-kind.ensures
          c.args.first.now c.each.first c.add.new.first c.each.invariant.faults c.in_ok-add.ensures.faults;
      words = words_step (names_of c.args.table.now) c.args.kinds.now c.args.list.now c.each.index c.kind_at-kind.result c.index-list-index.result c.each-test.true c.index-list-index.is c.kind_at-kind.ensures
          c.each.found.words.items c.add.new.self.words.items c.each.invariant.words c.in_ok-add.ensures.words;
      reducers = reducers_step (names_of c.args.table.now) c.args.kinds.now c.args.list.now c.each.index c.kind_at-kind.result c.index-list-index.result c.each-test.true c.index-list-index.is c.kind_at-kind.ensures
          c.each.found.reducers.items c.add.new.self.reducers.items c.each.invariant.reducers c.in_ok-add.ensures.reducers;
    }

pub returns-clause-faults : goal.returns-clause-faults
returns-clause-faults c =
    faults_end (names_of c.args.table.now) c.args.kinds.now c.args.list.now c.each.index c.args.first.now c.each.first c.each-test.false c.each.invariant.faults

pub returns-clause-words : goal.returns-clause-words
returns-clause-words c =
    words_end (names_of c.args.table.now) c.args.kinds.now c.args.list.now c.each.index c.each.found.words.items c.each-test.false c.each.invariant.words

pub returns-clause-reducers : goal.returns-clause-reducers
returns-clause-reducers c =
    reducers_end (names_of c.args.table.now) c.args.kinds.now c.args.list.now c.each.index c.each.found.reducers.items c.each-test.false c.each.invariant.reducers
