use Rattle.std.proofs.Common.{refl}
use Rattle.cilk_cert_text.specs.Places.{due_of, number_at}
use Rattle.cilk_cert_text.proofs.Readings.{end_whole, end_cut}
use Rattle.cilk_cert_text.proofs.reader.LineReader.end.Goals as goal

pub returns-then-is_finished-clause-whole : goal.returns-then-is_finished-clause-whole
returns-then-is_finished-clause-whole c = (
  end_whole c.args.self.now.fault (due_of c.args.self.now.place) (number_at c.args.self.now.place) c.args.self.now.length c.args.self.now.bytes
      c.in_default.is (c.if-is_finished.ensures.yes refl) (c.args.self.now.at_end (c.if-is_finished.ensures.yes refl)),
  refl,
)

pub returns-clause-fault : goal.returns-clause-fault
returns-clause-fault c =
    end_cut c.args.self.now.fault (due_of c.args.self.now.place) (number_at c.args.self.now.place) c.number-line.result c.args.self.now.length c.args.self.now.bytes
    c.in_default.is (c.if-is_finished.ensures.no refl) c.args.self.now.no_lf c.args.self.now.room c.number-line.ensures
