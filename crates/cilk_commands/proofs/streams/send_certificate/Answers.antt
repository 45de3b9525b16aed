use Rattle.std.proofs.Common.{List, ℕ, ◌++◌, arith, take}
use Rattle.cilk_cert_text.specs.Certificates.{text_of, text_of_lines}
use Rattle.cilk_cert_text.specs.Writers.{left}
use Rattle.cilk_commands.proofs.Writing.{appends_both, part_later, piece_out}
use Rattle.cilk_commands.proofs.streams.send_certificate.Goals as goal

pub returns-then-not-send-clause-part : goal.returns-then-not-send-clause-part
returns-then-not-send-clause-part g c = λ _.
    let sent = c.pieces.invariant.sent in
    part_later _ _ _ sent.0 (take c.pieces.count c.pieces.piece) (text_of_lines (left c.pieces.lines)) (text_of c.args.certificate.now) sent.1
    (c.send.ensures.part (c.if-not-send.true)) sent.2

pub pieces-preserved : goal.pieces-preserved
pieces-preserved g c =
    let sent = c.pieces.invariant.sent in
    let piece : List ℕ = take c.pieces.count c.pieces.piece in
    record {
      sent = (
        sent.0 ++ piece,
        appends_both _ _ _ sent.0 piece sent.1 (c.send.ensures.all (c.if-not-send.false)),
        piece_out sent.0 piece (text_of_lines (left c.pieces.lines)) _ (text_of c.args.certificate.now) sent.2 c.fill-count-in-pieces.ensures.text,
      );
      within = omega (arith, c.fill-count-in-pieces.ensures.within, c.fill-count-in-pieces.auto.room);
      last = c.fill-count-in-pieces.ensures.last;
    }
