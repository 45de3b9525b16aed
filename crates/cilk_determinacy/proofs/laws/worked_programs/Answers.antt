use Rattle.cilk_determinacy.proofs.Examples.{get_is_free, get_leaves, lent_is_free, lent_leaves, changed_is_free, changed_leaves, again_is_free, again_leaves}
use Rattle.cilk_determinacy.proofs.laws.worked_programs.Goals as goal

pub returns : goal.returns
returns c = record {
  get = get_is_free;
  get_leaves = get_leaves;
  lent = lent_is_free;
  lent_leaves = lent_leaves;
  changed = changed_is_free;
  changed_leaves = changed_leaves;
  again = again_is_free;
  again_leaves = again_leaves;
}
