use Rattle.std.proofs.Common.{rules, ◌≡◌, ◌++◌, ◌∷◌, [], take, drop, length, arith, ◌∙◌, ap, sym, subst, true, List, ℕ, length-take}
use Rattle.std.proofs.lemmas.Bool.Decides.{Decides-eqb}
use Rattle.std.proofs.lemmas.Slice.Eq.{starts_is}
use Rattle.cilk_cert_text.specs.Certificates.{IsAt}
use Rattle.cilk_cert_text.specs.Lines.{spelled}
use Rattle.cilk_cert_text.specs.Places.{due_of, number_at}
use Rattle.cilk_cert_text.proofs.Passed.{passed, passed_short}
use Rattle.cilk_cert_text.proofs.reader.LineReader.pass.Goals as goal

pub returns-clause-line : goal.returns-clause-line
returns-clause-line c = λ more.
    let piece = c.args.piece.now in
    let end : ℕ = c.put_line-end.result in
    let text : List ℕ = take end c.put_line-end.new.room in
    let is : text ≡ spelled c.args.line ++ 10 ∷ [] = c.put_line-end.ensures.text in
    let long : length text ≡ end = omega (arith, length-take end c.put_line-end.new.room, c.put_line-end.ensures.within, c.put_line-end.auto.room) in
    let starts : piece ≡ text ++ drop (length text) piece = (starts_is Decides-eqb piece text c.starts_with.result c.starts_with.ensures.value).0 c.if-not-starts_with.false in
    let front : piece ≡ text ++ drop end piece = subst (λ (n : ℕ). piece ≡ text ++ drop n piece) long starts in
    passed c.args.self.now.fault (due_of c.args.self.now.place) (due_of c.in_ok-form.place) (number_at c.args.self.now.place) (number_at c.in_ok-form.place)
    c.args.self.now.length c.args.self.now.bytes c.in_ok-form.form c.args.line piece (drop end piece) more
    (search rules) (omega arith) c.in_ok-form.ensures.due c.in_ok-form.ensures.number (search rules) (front ∙ ap (λ (l : List ℕ). l ++ drop end piece) is)

pub returns-clause-room : goal.returns-clause-room
returns-clause-room c =
    let end : ℕ = c.put_line-end.result in
    let text : List ℕ = take end c.put_line-end.new.room in
    let is : text ≡ spelled c.args.line ++ 10 ∷ [] = c.put_line-end.ensures.text in
    let at : IsAt c.in_ok-form.form c.args.line = search rules in
    let few = (passed_short c.in_ok-form.form c.args.line at).1 in
    let bytes = ap length is in
    let next = c.in_ok-form.ensures.number in
    let last = c.in_ok-form.ensures.few in
    let long : length text ≡ end = omega (arith, length-take end c.put_line-end.new.room, c.put_line-end.ensures.within, c.put_line-end.auto.room) in
    omega (arith, few, bytes, long, next, last)

pub returns-in_err-form-clause-passed : goal.returns-in_err-form-clause-passed
returns-in_err-form-clause-passed c = λ rest h is. absurd (c.in_err-form.ensures.none h.form h.due)

pub returns-then-not-starts_with-clause-passed : goal.returns-then-not-starts_with-clause-passed
returns-then-not-starts_with-clause-passed c = λ rest h is.
    let text : List ℕ = take c.put_line-end.result c.put_line-end.new.room in
    let spelt : text ≡ spelled c.args.line ++ 10 ∷ [] = c.put_line-end.ensures.text in
    let begins : c.args.piece.now ≡ text ++ rest = is ∙ ap (λ (l : List ℕ). l ++ rest) (sym spelt) in
    let yes : c.starts_with.result ≡ true = (starts_is Decides-eqb c.args.piece.now text c.starts_with.result c.starts_with.ensures.value).1 rest begins in
    sym c.if-not-starts_with.true ∙ yes
