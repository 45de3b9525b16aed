use Rattle.std.proofs.Common.{arith, subst, take, drop, length, ◌-◌}
use Rattle.std.specs.Io.KnownBytes.{Appends}
use Rattle.std.proofs.lemmas.List.{length-drop, take_all}
use Rattle.cilk_commands.proofs.Writing.{appends_more}
use Rattle.cilk_commands.proofs.streams.send.Goals as goal

pub loop-done-preserved : goal.loop-done-preserved
loop-done-preserved g c =
    let left = length-drop c.loop-done.done c.args.text.now in
    let whole = take_all (length c.args.text.now - c.loop-done.done) (drop c.loop-done.done c.args.text.now) (omega (arith, left)) in
    record {
      within = omega (arith, c.in-Ok.ensures.bound, left);
      sent = appends_more _ _ _ _ _ _ c.loop-done.invariant.sent (subst (λ x. Appends (g.W.Write.contents c.loop-done.out) (g.W.Write.contents c.write.new.self) (take c.in-Ok.count x)) whole c.in-Ok.ensures.bytes);
    }
