use Rattle.std.proofs.Common.{◌≡◌, List, length, subst}
use Rattle.cilk_trace.specs.declared.views.ViewRead.{ViewRead}
use Rattle.cilk_trace.specs.Views.{AreHeld, view_race_by}
use Rattle.cilk_trace.proofs.Surveying.{race_of_views}
use Rattle.cilk_trace.proofs.survey.Survey.view_race.Goals as goal

pub returns : goal.returns
returns c = λ ls g ended s sp.
    race_of_views ls c.args.self.now _ _ c.in_ok-classes.field-0 c.first_apart-2.result g ended c.marks.ensures.marks c.in_ok-tree.ensures c.in_ok-classes.ensures
    (subst (λ (rs : List ViewRead). AreHeld (length c.in_ok-classes.field-0) rs → c.first_apart-2.result ≡ view_race_by c.in_ok-classes.field-0 rs) c.deref.ensures.value c.first_apart-2.ensures) s sp
