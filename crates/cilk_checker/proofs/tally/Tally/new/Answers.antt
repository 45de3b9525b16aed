use Rattle.std.proofs.Common.{refl, subst, sym}
use Rattle.cilk_cert_maker.specs.Sources.{AllFit}
use Rattle.cilk_checker.proofs.Firsts.{agrees_none}
use Rattle.cilk_checker.proofs.tally.Tally.new.Goals as goal

pub returns : goal.returns
returns c = record {
  frames = agrees_none _;
  owners = agrees_none _;
  hebrews = agrees_none _;
  classes = agrees_none _;
  events = agrees_none _;
  sources = λ e. agrees_none _;
  result = refl;
  fit = subst (λ n. AllFit n c.args.right.now.trace) (sym c.in_ok-new.ensures.cells) (rw c.as_slice.ensures.events at c.cells_written.ensures.fit);
  last = λ e. c.in_ok-new.ensures.none c.args.right.now.trace;
  made = λ e. c.new-2.ensures c.args.right.now.trace;
}
