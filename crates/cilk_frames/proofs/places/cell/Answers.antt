use Rattle.std.proofs.Common.{◌<◌, ◌^◌, ℕ, ap, sym, ◌∙◌, subst}
use Rattle.std.specs.Prelude.{slice_get}
use Rattle.cilk_types.specs.declared.event.Instance.{Instance}
use Rattle.cilk_program.specs.Scopes.{Scope, cell_in}
use Rattle.cilk_program.specs.SerialRun.{itself}
use Rattle.cilk_frames.proofs.Links.{home_cell, no_cell}
use Rattle.cilk_frames.proofs.places.cell.Goals as goal

pub overflow_add-result-in-Some : goal.overflow_add-result-in-Some
overflow_add-result-in-Some g c =
    let scope = c.requires.0 in
    let there = c.in-Some.ensures scope c.requires.1 in
    let same = ap (cell_in itself scope) c.in-Local.is ∙ home_cell scope c.in-Local.up c.in-Some.frame.now there.0 c.in-Local.number in
    record { fits = subst (λ n. n < 2 ^ 32) same c.requires.2 }

pub returns-in-Some : goal.returns-in-Some
returns-in-Some g c = λ scope sees.
    let there = c.in-Some.ensures scope sees in
    sym (ap (cell_in itself scope) c.in-Local.is ∙ home_cell scope c.in-Local.up c.in-Some.frame.now there.0 c.in-Local.number)

pub returns-in-None : goal.returns-in-None
returns-in-None g c = λ scope sees. sym (ap (cell_in itself scope) c.in-Local.is ∙ no_cell scope c.in-Local.up (c.in-None.ensures scope sees) c.in-Local.number)

pub overflow_add-result : goal.overflow_add-result
overflow_add-result g c =
    let place = c.in-Local-eq0-default in
    let scope = c.requires.0 in
    let sees = c.requires.1 in
    let here = ap (slice_get scope) (sym place.field-0-is ∙ place.field-0-test) ∙ ap (λ (s : Scope ℕ Instance). slice_get s 0) sees.scope_is in
    let same = ap (cell_in itself scope) place.is ∙ home_cell scope place.field-0 c.args.top.now here place.number in
    record { fits = subst (λ n. n < 2 ^ 32) same c.requires.2 }

pub returns-in-Local-eq0-default : goal.returns-in-Local-eq0-default
returns-in-Local-eq0-default g c = λ scope sees.
    let place = c.in-Local-eq0-default in
    let here = ap (slice_get scope) (sym place.field-0-is ∙ place.field-0-test) ∙ ap (λ (s : Scope ℕ Instance). slice_get s 0) sees.scope_is in
    sym (ap (cell_in itself scope) place.is ∙ home_cell scope place.field-0 c.args.top.now here place.number)
