use Rattle.std.proofs.Common.{refl}
use Rattle.cilk_cert_text.specs.Places.{due_of, number_at}
use Rattle.cilk_cert_text.proofs.Readings.{over, nothing_certain, on_ok}
use Rattle.cilk_cert_text.proofs.reader.LineReader.next.Goals as goal

pub returns-then-is_empty-clause-prompt : goal.returns-then-is_empty-clause-prompt
returns-then-is_empty-clause-prompt c =
    nothing_certain c.args.self.now.fault (due_of c.args.self.now.place) (number_at c.args.self.now.place) c.args.self.now.length c.args.self.now.bytes c.in_default.is c.args.self.now.no_lf c.args.self.now.at_end c.args.self.now.room

pub returns-then-is_finished-clause-fault : goal.returns-then-is_finished-clause-fault
returns-then-is_finished-clause-fault c = λ more.
    rw c.malformed.ensures.value (over c.args.self.now.fault (due_of c.args.self.now.place) (number_at c.args.self.now.place) c.args.self.now.length c.args.self.now.bytes c.args.piece.now more
    c.in_default.is (c.if-is_finished.ensures.yes refl) (c.args.self.now.at_end (c.if-is_finished.ensures.yes refl)) c.if-is_empty.ensures)

pub returns-in-Some-end_of_line-clause-prompt : goal.returns-in-Some-end_of_line-clause-prompt
returns-in-Some-end_of_line-clause-prompt c =
    on_ok c.end_line.result c.end_line.ensures.silent (λ silent. nothing_certain c.end_line.new.self.fault (due_of c.end_line.new.self.place) (number_at c.end_line.new.self.place) c.end_line.new.self.length c.end_line.new.self.bytes silent c.end_line.new.self.no_lf c.end_line.new.self.at_end c.end_line.new.self.room)

pub returns-in-None-clause-prompt : goal.returns-in-None-clause-prompt
returns-in-None-clause-prompt c =
    on_ok c.go_on.result c.go_on.ensures.silent (λ silent. nothing_certain c.go_on.new.self.fault (due_of c.go_on.new.self.place) (number_at c.go_on.new.self.place) c.go_on.new.self.length c.go_on.new.self.bytes silent c.go_on.new.self.no_lf c.go_on.new.self.at_end c.go_on.new.self.room)
