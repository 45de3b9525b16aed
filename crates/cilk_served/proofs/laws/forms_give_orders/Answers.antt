use Rattle.std.proofs.Common.{refl}
use Rattle.clap.specs.Faults.{defaults_fault, walk_fault}
use Rattle.clap.specs.Walk.{walked}
use Rattle.cilk_messages.specs.CheckWords.{check_in}
use Rattle.cilk_messages.specs.ThreadsWords.{order_in as threads_in}
use Rattle.cilk_messages.specs.Words.{order_in}
use Rattle.cilk_served.proofs.laws.forms_give_orders.Goals as goal

pub returns : goal.returns
unfolding order_in threads_in check_in walk_fault walked defaults_fault
returns c = record {
  standard = refl;
  run = refl;
  run_after = refl;
  run_before = refl;
  certify = refl;
  certify_after = refl;
  certify_before = refl;
  check = refl;
  check_after = refl;
  check_before = refl;
  helpers = refl;
  helpers_after = refl;
  helpers_before = refl;
  play = refl;
  play_after = refl;
  play_before = refl;
  play_by_two = refl;
  play_strictly = refl;
  play_strictly_before = refl;
  threads = refl;
  threads_after = refl;
  threads_before = refl;
  settle = refl;
  settle_after = refl;
  settle_before = refl;
  judge = refl;
  judge_after = refl;
  judge_before = refl;
}
