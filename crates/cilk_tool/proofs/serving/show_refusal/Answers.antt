use Rattle.std.proofs.Common.{◌∙◌}
use Rattle.cilk_tool.specs.Endings.{place_of}
use Rattle.cilk_tool.proofs.Showing.{cut, sent}
use Rattle.cilk_tool.proofs.serving.show_refusal.Goals as goal

pub returns-in-Ok : goal.returns-in-Ok
returns-in-Ok g c =
    sent c.args.number (place_of c.args.place) c.as_slice.result.now _ _ _ (c.as_slice.ensures.value ∙ c.in-Ok.ensures) (c.send.ensures.all c.if-send.true)

pub returns-in-Ok-2 : goal.returns-in-Ok-2
returns-in-Ok-2 g c =
    cut c.args.number (place_of c.args.place) c.as_slice.result.now c.tell.result _ _ _ _ (c.as_slice.ensures.value ∙ c.in-Ok.ensures)
    (c.send.ensures.part c.if-send.false) c.tell.ensures
