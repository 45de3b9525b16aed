use Rattle.cilk_trace.proofs.Grains.{met_by_grains, race_by_grains}
use Rattle.cilk_trace.proofs.histories.Page.meet.Goals as goal

pub returns-clause-met : goal.returns-clause-met
returns-clause-met c = λ r z.
    let f = c.in_ok-fit.ensures in
    met_by_grains c.args.intervals.now c.args.kind c.args.here c.args.from c.args.to c.args.self.now c.fit.new.self c.meet_grains.new.self
    f.parted c.meet_grains.ensures.shift f.same (c.meet_grains.ensures.met r z)

pub returns-clause-race : goal.returns-clause-race
returns-clause-race c = λ r.
    let f = c.in_ok-fit.ensures in
    race_by_grains c.args.intervals.now c.args.kind c.args.from c.args.to c.args.self.now c.fit.new.self c.meet_grains.result
    f.parted f.same (c.meet_grains.ensures.race r)
