use Rattle.std.proofs.Common.{pos, length, refl, sym, ap, ◌∙◌, subst, arith, w64, to_z, of_z, SFits, rules}
use Rattle.std.proofs.lemmas.Int.{to_z-of_z}
use Rattle.cilk_types.specs.declared.event.Event.TheVariants as events
use Rattle.cilk_monoid.specs.Ranges.{same_instance}
use Rattle.cilk_program.specs.declared.ask.Ask.TheVariants as asks
use Rattle.cilk_program.specs.SerialRun.{cell_at, reducer_at}
use Rattle.cilk_program.specs.Store.{clear, number_at, put, set, update}
use Rattle.cilk_frames.specs.AskSlot.{in_full}
use Rattle.cilk_serial.specs.Scoped.{IsThere}
use Rattle.cilk_serial.proofs.Answering.{tells_nothing, tells_word, told}
use Rattle.cilk_serial.proofs.answer.answer.Goals as goal

pub cell-requires : goal.cell-requires
cell-requires g c =
    let t = c.requires.there in
    let there = subst (λ k. IsThere t.0 t.1 (length c.args.state.now.cells.items) (in_full k)) c.in-Read.is t.3 in
    let fr = t.1 in
    let on = t.2 in
    (fr.scope, on.scope, omega (arith, there, c.requires.few))

pub read-requires : goal.read-requires
read-requires g c =
    let t = c.requires.there in
    let there = subst (λ k. IsThere t.0 t.1 (length c.args.state.now.cells.items) (in_full k)) c.in-Read.is t.3 in
    let fr = t.1 in
    let on = t.2 in
    let same = c.cell.ensures fr.scope on.scope in
    omega (arith, there, same)

pub cell-requires-in-Write : goal.cell-requires-in-Write
cell-requires-in-Write g c =
    let t = c.requires.there in
    let there = subst (λ k. IsThere t.0 t.1 (length c.args.state.now.cells.items) (in_full k)) c.in-Write.is t.3 in
    let fr = t.1 in
    let on = t.2 in
    (fr.scope, on.scope, omega (arith, there, c.requires.few))

pub write-requires : goal.write-requires
write-requires g c =
    let t = c.requires.there in
    let there = subst (λ k. IsThere t.0 t.1 (length c.args.state.now.cells.items) (in_full k)) c.in-Write.is t.3 in
    let fr = t.1 in
    let on = t.2 in
    let same = c.cell-in-Write.ensures fr.scope on.scope in
    omega (arith, there, same)

pub returns-in-Read : goal.returns-in-Read
returns-in-Read g c = λ p fr on.
    let same = c.cell.ensures fr.scope on.scope in
    let k = asks.Read c.in-Read.place in
    told p fr c.args.state.now c.read.new.self c.args.ask.now k c.read.result c.goes-in-Read.result (sym (ap in_full c.in-Read.is)) tt c.goes-in-Read.ensures c.read.ensures.room
    (tells_word p fr c.args.state.now c.read.new.self k (λ m. m.store.cells c.cell.result) (λ m. events.Read c.cell.result (m.store.cells c.cell.result)) (λ m. m.store)
    (λ m. ap m.store.cells same) (λ m. ap (λ n. events.Read n (m.store.cells n)) same) (λ m. refl) c.read.result (λ v. tt) c.read.ensures.value c.read.ensures.makes)

pub returns-in-Write : goal.returns-in-Write
returns-in-Write g c = λ p fr on.
    let same = c.cell-in-Write.ensures fr.scope on.scope in
    let v = c.in-Write.word in
    let fits : SFits w64 v = search rules in
    let word = to_z-of_z w64 v fits in
    let k = asks.Write c.in-Write.place v in
    told p fr c.args.state.now c.write.new.self c.args.ask.now k c.write.result c.goes-in-Write.result (sym (ap in_full c.in-Write.is)) tt c.goes-in-Write.ensures c.write.ensures.room
    (tells_nothing p fr c.args.state.now c.write.new.self k (λ m. pos 0) (λ m. events.Write c.cell-in-Write.result (to_z w64 (of_z w64 v))) (λ m. put c.cell-in-Write.result (to_z w64 (of_z w64 v)) m.store)
    (λ m. refl) (λ m. ap (λ n. events.Write n (to_z w64 (of_z w64 v))) same ∙ ap (events.Write (cell_at fr c.in-Write.place)) word)
    (λ m. ap (λ n. put n (to_z w64 (of_z w64 v)) m.store) same ∙ ap (λ x. put (cell_at fr c.in-Write.place) x m.store) word) c.write.result tt c.write.ensures.done c.write.ensures.makes)

pub returns-in-Create : goal.returns-in-Create
returns-in-Create g c = λ p fr on.
    let same = c.reducer-instance.ensures fr.scope on.scope in
    let r = c.in-Create.reducer in
    let k = asks.Create r in
    told p fr c.args.state.now c.create.new.self c.args.ask.now k c.create.result c.goes-in-Create.result (sym (ap in_full c.in-Create.is)) tt c.goes-in-Create.ensures c.create.ensures.room
    (tells_nothing p fr c.args.state.now c.create.new.self k (λ m. pos 0) (λ m. events.Create c.reducer-instance.result) (λ m. clear same_instance r.kind c.reducer-instance.result m.store)
    (λ m. refl) (λ m. ap events.Create same) (λ m. ap (λ i. clear same_instance r.kind i m.store) same) c.create.result tt c.create.ensures.done c.create.ensures.makes)

pub returns-in-Update : goal.returns-in-Update
returns-in-Update g c = λ p fr on.
    let i = c.reducer-instance-in-Update.result in
    let same = c.reducer-instance-in-Update.ensures fr.scope on.scope in
    let r = c.in-Update.reducer in
    let v = c.in-Update.word in
    let fits : SFits w64 v = search rules in
    let word = to_z-of_z w64 v fits in
    let k = asks.Update r v in
    told p fr c.args.state.now c.update.new.self c.args.ask.now k c.update.result c.goes-in-Update.result (sym (ap in_full c.in-Update.is)) tt c.goes-in-Update.ensures c.update.ensures.room
    (tells_nothing p fr c.args.state.now c.update.new.self k (λ m. pos 0) (λ m. events.Update i (to_z w64 (of_z w64 v))) (λ m. update same_instance r.kind i (to_z w64 (of_z w64 v)) m.store)
    (λ m. refl) (λ m. ap (λ i. events.Update i (to_z w64 (of_z w64 v))) same ∙ ap (events.Update (reducer_at fr r)) word)
    (λ m. ap (λ i. update same_instance r.kind i (to_z w64 (of_z w64 v)) m.store) same ∙ ap (λ x. update same_instance r.kind (reducer_at fr r) x m.store) word) c.update.result tt c.update.ensures.done c.update.ensures.makes)

pub returns-in-Set : goal.returns-in-Set
returns-in-Set g c = λ p fr on.
    let i = c.reducer-instance-in-Set.result in
    let same = c.reducer-instance-in-Set.ensures fr.scope on.scope in
    let r = c.in-Set.reducer in
    let v = c.in-Set.word in
    let fits : SFits w64 v = search rules in
    let word = to_z-of_z w64 v fits in
    let k = asks.Set r v in
    told p fr c.args.state.now c.set.new.self c.args.ask.now k c.set.result c.goes-in-Set.result (sym (ap in_full c.in-Set.is)) tt c.goes-in-Set.ensures c.set.ensures.room
    (tells_nothing p fr c.args.state.now c.set.new.self k (λ m. pos 0) (λ m. events.Set i (to_z w64 (of_z w64 v))) (λ m. set same_instance r.kind i (to_z w64 (of_z w64 v)) m.store)
    (λ m. refl) (λ m. ap (λ i. events.Set i (to_z w64 (of_z w64 v))) same ∙ ap (events.Set (reducer_at fr r)) word)
    (λ m. ap (λ i. set same_instance r.kind i (to_z w64 (of_z w64 v)) m.store) same ∙ ap (λ x. set same_instance r.kind (reducer_at fr r) x m.store) word) c.set.result tt c.set.ensures.done c.set.ensures.makes)

pub returns-in-Value : goal.returns-in-Value
returns-in-Value g c = λ p fr on.
    let i = c.reducer-instance-in-Value.result in
    let same = c.reducer-instance-in-Value.ensures fr.scope on.scope in
    let r = c.in-Value.reducer in
    let k = asks.Value r in
    told p fr c.args.state.now c.value.new.self c.args.ask.now k c.value.result c.goes-in-Value.result (sym (ap in_full c.in-Value.is)) tt c.goes-in-Value.ensures c.value.ensures.room
    (tells_word p fr c.args.state.now c.value.new.self k (λ m. number_at r.kind i m.store) (λ m. events.Value i (number_at r.kind i m.store)) (λ m. m.store)
    (λ m. ap (λ i. number_at r.kind i m.store) same) (λ m. ap (λ i. events.Value i (number_at r.kind i m.store)) same) (λ m. refl) c.value.result (λ v. tt) c.value.ensures.value c.value.ensures.makes)

pub reducer-instance-requires-clause-sees : goal.reducer-instance-requires-clause-sees
reducer-instance-requires-clause-sees g c =
    let t = c.requires.there in
    let fr = t.1 in
    let on = t.2 in
    (fr.scope, on.scope)

pub reducer-instance-requires-in-Update-clause-sees : goal.reducer-instance-requires-in-Update-clause-sees
reducer-instance-requires-in-Update-clause-sees g c =
    let t = c.requires.there in
    let fr = t.1 in
    let on = t.2 in
    (fr.scope, on.scope)

pub reducer-instance-requires-in-Set-clause-sees : goal.reducer-instance-requires-in-Set-clause-sees
reducer-instance-requires-in-Set-clause-sees g c =
    let t = c.requires.there in
    let fr = t.1 in
    let on = t.2 in
    (fr.scope, on.scope)

pub reducer-instance-requires-in-Value-clause-sees : goal.reducer-instance-requires-in-Value-clause-sees
reducer-instance-requires-in-Value-clause-sees g c =
    let t = c.requires.there in
    let fr = t.1 in
    let on = t.2 in
    (fr.scope, on.scope)
