use Rattle.std.proofs.Common.{sym, subst}
use Rattle.cilk_workers.specs.Shared.{event_order_in}
use Rattle.cilk_workers.proofs.Bursts.{IsNoSpawn, offers_other}
use Rattle.cilk_workers.proofs.turn.made.Goals as goal

pub returns-in-Begin-clause-spawn : goal.returns-in-Begin-clause-spawn
returns-in-Begin-clause-spawn c =
    let p = c.args.work.now.piece in
    let due = c.requires.due in
    offers_other (event_order_in c.args.shared.now) p.upto c.args.kind c.passed.result due.kind_is (subst IsNoSpawn (sym c.in-Begin.is) tt)

pub returns-in-Call-clause-spawn : goal.returns-in-Call-clause-spawn
returns-in-Call-clause-spawn c =
    let p = c.args.work.now.piece in
    let due = c.requires.due in
    offers_other (event_order_in c.args.shared.now) p.upto c.args.kind c.called.result due.kind_is (subst IsNoSpawn (sym c.in-Call.is) tt)

pub returns-in-Resume-clause-spawn : goal.returns-in-Resume-clause-spawn
returns-in-Resume-clause-spawn c =
    let p = c.args.work.now.piece in
    let due = c.requires.due in
    offers_other (event_order_in c.args.shared.now) p.upto c.args.kind c.resumed.result due.kind_is (subst IsNoSpawn (sym c.in-Resume.is) tt)

pub returns-in-Sync-clause-spawn : goal.returns-in-Sync-clause-spawn
returns-in-Sync-clause-spawn c =
    let p = c.args.work.now.piece in
    let due = c.requires.due in
    offers_other (event_order_in c.args.shared.now) p.upto c.args.kind c.synced.result due.kind_is (subst IsNoSpawn (sym c.in-Sync.is) tt)

pub returns-in-End-clause-spawn : goal.returns-in-End-clause-spawn
returns-in-End-clause-spawn c =
    let p = c.args.work.now.piece in
    let due = c.requires.due in
    offers_other (event_order_in c.args.shared.now) p.upto c.args.kind c.ended.result due.kind_is (subst IsNoSpawn (sym c.in-End.is) tt)

pub returns-in-Read-clause-spawn : goal.returns-in-Read-clause-spawn
returns-in-Read-clause-spawn c =
    let p = c.args.work.now.piece in
    let due = c.requires.due in
    offers_other (event_order_in c.args.shared.now) p.upto c.args.kind c.loaded.result due.kind_is (subst IsNoSpawn (sym c.in-Read.is) tt)

pub returns-in-Write-clause-spawn : goal.returns-in-Write-clause-spawn
returns-in-Write-clause-spawn c =
    let p = c.args.work.now.piece in
    let due = c.requires.due in
    offers_other (event_order_in c.args.shared.now) p.upto c.args.kind c.stored.result due.kind_is (subst IsNoSpawn (sym c.in-Write.is) tt)

pub returns-in-Create-clause-spawn : goal.returns-in-Create-clause-spawn
returns-in-Create-clause-spawn c =
    let p = c.args.work.now.piece in
    let due = c.requires.due in
    offers_other (event_order_in c.args.shared.now) p.upto c.args.kind c.created.result due.kind_is (subst IsNoSpawn (sym c.in-Create.is) tt)

pub returns-in-Update-clause-spawn : goal.returns-in-Update-clause-spawn
returns-in-Update-clause-spawn c =
    let p = c.args.work.now.piece in
    let due = c.requires.due in
    offers_other (event_order_in c.args.shared.now) p.upto c.args.kind c.updated.result due.kind_is (subst IsNoSpawn (sym c.in-Update.is) tt)

pub returns-in-Set-clause-spawn : goal.returns-in-Set-clause-spawn
returns-in-Set-clause-spawn c =
    let p = c.args.work.now.piece in
    let due = c.requires.due in
    offers_other (event_order_in c.args.shared.now) p.upto c.args.kind c.set.result due.kind_is (subst IsNoSpawn (sym c.in-Set.is) tt)

pub returns-in-Value-clause-spawn : goal.returns-in-Value-clause-spawn
returns-in-Value-clause-spawn c =
    let p = c.args.work.now.piece in
    let due = c.requires.due in
    offers_other (event_order_in c.args.shared.now) p.upto c.args.kind c.valued.result due.kind_is (subst IsNoSpawn (sym c.in-Value.is) tt)

pub returns-in-Print-clause-spawn : goal.returns-in-Print-clause-spawn
returns-in-Print-clause-spawn c =
    let p = c.args.work.now.piece in
    let due = c.requires.due in
    offers_other (event_order_in c.args.shared.now) p.upto c.args.kind c.printed.result due.kind_is (subst IsNoSpawn (sym c.in-Print.is) tt)
