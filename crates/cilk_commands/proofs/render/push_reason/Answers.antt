use Rattle.std.proofs.Common.{◌++◌, codes, decimal}
use Rattle.cilk_commands.proofs.Lines.{on_more, when_ok}
use Rattle.cilk_commands.proofs.render.push_reason.Goals as goal

pub returns-in_ok-extend_from_slice-in-NoWorker : goal.returns-in_ok-extend_from_slice-in-NoWorker
returns-in_ok-extend_from_slice-in-NoWorker c =
    rw c.in-NoWorker.is (on_more c.push_count.result _ _ _ _ _ c.push_count.ensures c.in_ok-extend_from_slice-in-NoWorker.ensures.items)

pub returns-in_ok-push_count-in-HasFrame : goal.returns-in_ok-push_count-in-HasFrame
returns-in_ok-push_count-in-HasFrame c =
    let text = c.extend_from_slice-in-HasFrame-2.new.self.items in
    let number = c.push_count-in-HasFrame.new.text.items in
    let word = c.extend_from_slice-in-HasFrame.new.self.items in
    rw c.in-HasFrame.is (on_more c.extend_from_slice-in-HasFrame-2.result text word c.args.text.now.items (codes "worker ") (decimal c.args.worker ++ codes " has a frame")
    (on_more c.extend_from_slice-in-HasFrame-2.result text number word (decimal c.args.worker) (codes " has a frame")
    (when_ok c.extend_from_slice-in-HasFrame-2.result text number (number ++ codes " has a frame") c.extend_from_slice-in-HasFrame-2.ensures.items) c.in_ok-push_count-in-HasFrame.ensures)
    c.in_ok-extend_from_slice-in-HasFrame.ensures.items)

pub returns-in_ok-extend_from_slice-in-Offers : goal.returns-in_ok-extend_from_slice-in-Offers
returns-in_ok-extend_from_slice-in-Offers c =
    rw c.in-Offers.is (on_more c.push_count-in-Offers.result _ _ _ _ _ c.push_count-in-Offers.ensures c.in_ok-extend_from_slice-in-Offers.ensures.items)

pub returns-in-Ended : goal.returns-in-Ended
returns-in-Ended c = rw c.in-Ended.is (when_ok c.extend_from_slice-in-Ended.result _ _ _ c.extend_from_slice-in-Ended.ensures.items)
