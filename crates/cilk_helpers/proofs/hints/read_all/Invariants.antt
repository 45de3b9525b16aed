use Rattle.std.proofs.Common.{◌≡◌}
use Rattle.cilk_helpers.proofs.hints.read_all.Given as goal

-- no pull has failed, and each has kept what pulls keep
abbrev pub invariant-pieces : goal.invariant-pieces
invariant-pieces g l = record {
  uncounted : g.S.Source.failed l.source ≡ g.S.Source.failed l.fn.source;
  lender : g.S.Source.lender l.source ≡ g.S.Source.lender l.fn.source;
  kept : g.S.Source.kept l.source ≡ g.S.Source.kept l.fn.source;
}

abbrev pub decreases-pieces : goal.decreases-pieces
decreases-pieces g l = l.left
