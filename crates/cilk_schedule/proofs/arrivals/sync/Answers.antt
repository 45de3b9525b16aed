use Rattle.std.proofs.Common.{length, refl}
use Rattle.cilk_program.specs.declared.ask.Ask.TheVariants as asks
use Rattle.cilk_schedule.proofs.Turns.{block_settles, block_ticks, few_strands_behind, settles_made}
use Rattle.cilk_schedule.proofs.arrivals.sync.Goals as goal

pub begin_block-requires-clause-few : goal.begin_block-requires-clause-few
begin_block-requires-clause-few c = λ a at.
    let t = c.requires.turn in
    let turn = t.2 in
    few_strands_behind t.0 t.1 c.args.scheduler.now c.args.frame turn.asked c.bring_once.new.frames.items c.in_ok-bring_once.ensures.quiet a at

pub returns-clause-made : goal.returns-clause-made
returns-clause-made c =
    let still = c.in_ok-bring_once.ensures.quiet in
    let f = c.args.scheduler.now.frames.items in
    let q = c.bring_once.new.frames.items in
    let g = c.begin_block.new.frames.items in
    λ code. (
      λ inputs t. let a = t.asked in
          settles_made code inputs c.args.scheduler.now c.args.frame t asks.Sync c.requires.syncs _ (block_settles f q g (length c.args.scheduler.now.cells.items) c.args.frame still a.here c.begin_block.ensures) refl refl,
      block_ticks f q g c.args.frame still c.begin_block.ensures,
    )
