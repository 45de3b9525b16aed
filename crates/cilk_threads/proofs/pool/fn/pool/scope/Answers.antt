use Rattle.std.proofs.Common.{◌≡◌, ap, arith}
use denote.Param.Send.{sendable}
use Rattle.std.proofs.Crossing.{crosses}
use Rattle.std.proofs.sync.atomic.AtomicBool.TheSendSync as flag
use Rattle.atomic_table.proofs.shared.Seat.TheSendSync as seat
use Rattle.atomic_blocks.proofs.rows.shared.Seat.TheSendSync as row_seat
use Rattle.crossbeam_deque.proofs.handles.Worker.TheSendSync as worker
use Rattle.crossbeam_deque.proofs.handles.Stealer.TheSendSync as stealer
use Rattle.crossbeam_queue.proofs.array_queue.Slotted.TheSendSync as slotted
use Rattle.cilk_shared.proofs.yard.Yard.TheSendSync as yard
use Rattle.cilk_shared.proofs.reducers.Reducers.TheSendSync as reducers
use Rattle.cilk_threads.specs.declared.pool.Ends.{Ends}
use Rattle.cilk_threads.proofs.Crossing.{piece_send, chain_send, task_send, shelf_send, plan_sync, replay_sync}
use Rattle.cilk_threads.proofs.Popped.{more}
use Rattle.cilk_threads.proofs.pool.fn.pool.scope.Goals as goal

pub spawn_with-started-requires-send-T : goal.spawn_with-started-requires-send-T
spawn_with-started-requires-send-T g c κs within = search (piece_send, sendable) depth 20

pub spawn_with-started-requires-send-F : goal.spawn_with-started-requires-send-F
spawn_with-started-requires-send-F g c κs within =
    let r = c.requires.0 in
    let w = c.requires.1 in
    let n = c.requires.2 in
    let m = c.requires.3 in
    let s = c.requires.4 in
    let t = c.requires.5 in
    search (piece_send, chain_send, task_send, shelf_send, worker.the_send, stealer.the_send, row_seat.the_send, slotted.the_sync, seat.the_send, flag.the_sync, yard.the_sync, reducers.the_sync, plan_sync, replay_sync, sendable, crosses) depth 40 fits 2000

pub each-preserved : goal.each-preserved
each-preserved g c =
    let pushed = c.push_reserved.ensures in (
      c.last_seed.ensures.rest,
      more (λ h. h.promise.shared.now ≡ c.captures.shared.now) _ _ _ pushed.items c.each.invariant.1 (ap (λ (p : Ends). p.shared.now) c.in-Ok.ensures.ok),
      (let fewer = c.in-Some.ensures.fewer in
          let room = c.each.invariant.2 in
          omega (arith, fewer, room, pushed.len, pushed.capacity)),
      (let fewer = c.in-Some.ensures.fewer in let room = c.each.invariant.3 in omega (arith, fewer, room, pushed.len)),
    )

pub push_reserved-requires : goal.push_reserved-requires
push_reserved-requires g c =
    let fewer = c.in-Some.ensures.fewer in
    let room = c.each.invariant.2 in
    omega (arith, fewer, room)
