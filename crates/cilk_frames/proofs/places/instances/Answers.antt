use Rattle.std.proofs.Common.{◌≤◌, length, ap, ◌∙◌, arith}
use Rattle.std.proofs.lemmas.List.{take_all}
use Rattle.cilk_monoid.specs.declared.kind.MonoidKind.TheVariants.{Add}
use Rattle.cilk_program.specs.declared.syntax.Reducer.{Reducer}
use Rattle.cilk_program.specs.declared.syntax.ReducerPlace.TheVariants.{Global}
use Rattle.cilk_program.specs.Scopes.{instances_in}
use Rattle.cilk_program.specs.SerialRun.{global_reducer}
use Rattle.cilk_frames.proofs.Links.{instances_more, small_at}
use Rattle.cilk_frames.proofs.places.instances.Goals as goal

abbrev any : Reducer
any = record { place = Global 0; kind = Add }

pub instance-requires-clause-small : goal.instance-requires-clause-small
instance-requires-clause-small g c = small_at c.args.reducers.now c.each.reducer-index any c.requires.small (omega (arith, c.each-test.true))

pub each-preserved : goal.each-preserved
each-preserved g c = λ scope sees.
    instances_more scope c.args.reducers.now c.each.reducer-index any c.each.list.items c.push.new.self.items c.instance.result (omega (arith, c.each-test.true))
    (c.each.invariant scope sees) c.in_ok-push.ensures.items (c.instance.ensures scope sees)

pub returns : goal.returns
returns g c = λ scope sees.
    let all : length c.args.reducers.now ≤ c.each.reducer-index = omega (arith, c.each-test.false) in
    c.each.invariant scope sees ∙ ap (instances_in global_reducer scope) (take_all c.each.reducer-index c.args.reducers.now all)
