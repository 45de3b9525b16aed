use Rattle.cilk_messages.specs.Words.{order_view, texts}
use Rattle.cilk_commands.proofs.Workers.{read_workers}
use Rattle.cilk_commands.proofs.serving.answer.Goals as goal

pub carry_out-requires-clause-some : goal.carry_out-requires-clause-some
carry_out-requires-clause-some g c = read_workers (texts c.args.words.now) (order_view c.in-Ok.order) c.in-Ok.ensures.order
