use Rattle.std.proofs.Common.{rules, ◌≡◌, ◌++◌, drop, length, arith, ◌∙◌, ap, List, ℕ}
use Rattle.std.proofs.lemmas.Bool.Decides.{Decides-eqb}
use Rattle.std.proofs.lemmas.Slice.Eq.{starts_is}
use Rattle.cilk_cert_text.specs.Places.{column_forms, due_of, number_at}
use Rattle.cilk_cert_text.proofs.Passed.{passed_all, all_long, all_short, column_long}
use Rattle.cilk_cert_text.proofs.reader.LineReader.pass_all.Goals as goal

pub returns-clause-lines : goal.returns-clause-lines
returns-clause-lines c = λ _ known at text more.
    let piece = c.args.piece.now in
    let starts : piece ≡ c.args.text.now ++ drop (length c.args.text.now) piece = (starts_is Decides-eqb piece c.args.text.now c.starts_with.result c.starts_with.ensures.value).0 c.if-not-starts_with.false in
    passed_all c.args.self.now.fault (due_of c.args.self.now.place) (due_of c.in-Some.place) (number_at c.args.self.now.place) (number_at c.in-Some.place)
    c.args.self.now.length c.args.self.now.bytes (column_forms c.args.lines) known piece (drop (length c.args.text.now) piece) more
    (search rules) (omega arith) c.in-Some.ensures.due (omega (arith, c.in-Some.ensures.number, all_long (column_forms c.args.lines) known at, column_long c.args.lines))
    at (starts ∙ ap (λ (l : List ℕ). l ++ drop (length c.args.text.now) piece) text)

pub returns-clause-room : goal.returns-clause-room
returns-clause-room c = λ _ known at text.
    let few = all_short (column_forms c.args.lines) known at in
    let count = column_long c.args.lines in
    let long = ap length text in
    let next = c.in-Some.ensures.number in
    let last = c.in-Some.ensures.few in
    omega (arith, few, count, long, next, last)
