use Rattle.std.proofs.Common.{◌<◌, ap, sym, ◌∙◌, subst}
use Rattle.cilk_program.specs.Scopes.{instance_in}
use Rattle.cilk_program.specs.SerialRun.{global_reducer}
use Rattle.cilk_frames.specs.Sight.{number_in}
use Rattle.cilk_frames.proofs.Links.{home_own, home_given, no_own, no_given}
use Rattle.cilk_frames.proofs.places.instance.Goals as goal

pub own-requires-in-Some-clause-low : goal.own-requires-in-Some-clause-low
own-requires-in-Some-clause-low g c = let sees = c.requires.sees in let there = c.in-Some.ensures sees.0 sees.1 in there.1

pub returns-in-Some : goal.returns-in-Some
returns-in-Some g c = λ scope sees.
    let there = c.in-Some.ensures scope sees in
    c.own-in-Some.ensures ∙ sym (ap (instance_in global_reducer scope) c.in-Own.is ∙ home_own scope c.in-Own.up c.in-Some.frame.now there.0 c.in-Own.number)

pub returns-in-None : goal.returns-in-None
returns-in-None g c = λ scope sees.
    c.global-in-None.ensures ∙ sym (ap (instance_in global_reducer scope) c.in-Own.is ∙ no_own scope c.in-Own.up (c.in-None.ensures scope sees) c.in-Own.number)

pub returns-in-Some-outer : goal.returns-in-Some-outer
returns-in-Some-outer g c = λ scope sees.
    let there = c.in-Some-outer.ensures scope sees in
    c.given-in-Some-outer.ensures ∙ sym (ap (instance_in global_reducer scope) c.in-Given.is ∙ home_given scope c.in-Given.up c.in-Some-outer.frame.now there.0 c.in-Given.number)

pub returns-in-None-outer : goal.returns-in-None-outer
returns-in-None-outer g c = λ scope sees.
    c.global-in-None-outer.ensures ∙ sym (ap (instance_in global_reducer scope) c.in-Given.is ∙ no_given scope c.in-Given.up (c.in-None-outer.ensures scope sees) c.in-Given.number)

pub global-requires : goal.global-requires
global-requires g c = subst (λ p. number_in p < 65536) c.in-Global.is c.requires.small

pub own-requires-in-Some-clause-small : goal.own-requires-in-Some-clause-small
own-requires-in-Some-clause-small g c = subst (λ p. number_in p < 65536) c.in-Own.is c.requires.small

pub global-requires-in-None : goal.global-requires-in-None
global-requires-in-None g c = subst (λ p. number_in p < 65536) c.in-Own.is c.requires.small

pub given-requires-in-Some-outer : goal.given-requires-in-Some-outer
given-requires-in-Some-outer g c = subst (λ p. number_in p < 65536) c.in-Given.is c.requires.small

pub global-requires-in-None-outer : goal.global-requires-in-None-outer
global-requires-in-None-outer g c = subst (λ p. number_in p < 65536) c.in-Given.is c.requires.small

pub returns-in-Global : goal.returns-in-Global
returns-in-Global g c = λ scope sees. c.global.ensures ∙ sym (ap (instance_in global_reducer scope) c.in-Global.is)
