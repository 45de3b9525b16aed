use Rattle.std.proofs.Common.{◌≡◌, ◌+◌, ◌-◌, ◌<◌, ◌≤◌, suc, ◌∷◌, length, take, drop, sym, ap, ◌∙◌, subst, arith}
use Rattle.cilk_syntax.specs.Lexing.{behind, front_of}
use Rattle.cilk_syntax.specs.declared.lexer.Class.TheVariants.{Line}
use Rattle.cilk_parser.specs.Scripts.{FailsAtLine, IsLine, IsScript, Last, Later, Long, LongLine, Orders, order_in, steps_of, without_return}
use Rattle.cilk_parser.proofs.Scripts.{handed, last_bad, line_bad, longer, nothing, parted}
use Rattle.cilk_parser.proofs.script.read.Goals as goal

pub returns-then-rest-room-clause-none : goal.returns-then-rest-room-clause-none
returns-then-rest-room-clause-none c =
    let inv = c.lines.invariant in
    inv.fails c.lines.line (Long (sym c.split.ensures.rest ∙ nothing c.split.result.1.now c.in-empty.len_below) c.if-rest-room.true)

pub returns-in_err-push_step-in-empty-clause-none : goal.returns-in_err-push_step-in-empty-clause-none
returns-in_err-push_step-in-empty-clause-none c =
    let inv = c.lines.invariant in
    handed c.args.text.now c.from_residual.result c.in_err-push_step-in-empty.field-0.0 c.from_residual.ensures.1
    (last_bad c.args.text.now c.lines.line c.lines.room c.lines.rest.now inv.fails (sym c.split.ensures.rest ∙ nothing c.split.result.1.now c.in-empty.len_below) c.if-rest-room.false
    c.in_err-push_step-in-empty.field-0.0 c.in_err-push_step-in-empty.ensures.fault)

pub returns-in-empty-clause-script : goal.returns-in-empty-clause-script
returns-in-empty-clause-script c =
    let inv = c.lines.invariant in
    let made = c.in_ok-push_step-in-empty.ensures.steps in
    let rest = c.lines.rest.now in
    subst (λ z. IsScript c.args.text.now z) (sym made.1)
    (inv.script (steps_of c.lines.line rest (order_in rest)) (Last (sym c.split.ensures.rest ∙ nothing c.split.result.1.now c.in-empty.len_below) c.if-rest-room.false made.0))

pub returns-then-front-room-clause-none : goal.returns-then-front-room-clause-none
returns-then-front-room-clause-none c =
    let inv = c.lines.invariant in
    let two = parted c.split.result.1.now c.in-len1-up.len_at_least in
    let long : c.lines.room ≤ length (front_of Line c.lines.rest.now) = (let e = ap length c.split.ensures.front in let more = c.if-front-room.true in omega (arith, e, more)) in
    inv.fails c.lines.line (LongLine (sym c.split.ensures.rest ∙ two.1) long)

pub returns-in_err-push_step-in-len1-up-clause-none : goal.returns-in_err-push_step-in-len1-up-clause-none
returns-in_err-push_step-in-len1-up-clause-none c =
    let inv = c.lines.invariant in
    let two = parted c.split.result.1.now c.in-len1-up.len_at_least in
    let few : length (front_of Line c.lines.rest.now) < c.lines.room = (let e = ap length c.split.ensures.front in let less = c.if-front-room.false in omega (arith, e, less)) in
    handed c.args.text.now c.from_residual-in_err-push_step-in-len1-up.result c.in_err-push_step-in-len1-up.field-0.0 c.from_residual-in_err-push_step-in-len1-up.ensures.1
    (line_bad c.args.text.now c.lines.line c.lines.room c.lines.rest.now inv.fails two.0 _ (sym c.split.ensures.rest ∙ two.1) few
    c.without_return.result.now (c.without_return.ensures ∙ ap without_return c.split.ensures.front)
    c.in_err-push_step-in-len1-up.field-0.0 c.in_err-push_step-in-len1-up.ensures.fault)

pub lines-preserved : goal.lines-preserved
lines-preserved c =
    let inv = c.lines.invariant in
    let rest = c.lines.rest.now in
    let left = c.split.result.1.now in
    let two = parted left c.in-len1-up.len_at_least in
    let after = take (length left - 1) (drop 1 left) in
    let ends : behind Line rest ≡ two.0 ∷ after = sym c.split.ensures.rest ∙ two.1 in
    let e = ap length c.split.ensures.front in
    let few : length (front_of Line rest) < c.lines.room = (let less = c.if-front-room.false in omega (arith, e, less)) in
    let made = c.in_ok-push_step-in-len1-up.ensures.steps in
    let is : c.without_return.result.now ≡ without_return (front_of Line rest) = c.without_return.ensures ∙ ap without_return c.split.ensures.front in
    let good : IsLine (without_return (front_of Line rest)) = subst IsLine is made.0 in
    let next : c.lines.line + 1 ≡ suc c.lines.line = omega arith in
    let gone : c.lines.room - (length c.split.result.0.now + 1) ≡ c.lines.room - suc (length (front_of Line rest)) = omega (arith, e) in
    record {
      script = λ more h. longer c.args.text.now c.lines.line c.lines.room rest c.lines.steps.items c.push_step-in-len1-up.new.steps.items inv.script two.0 after ends few
          c.without_return.result.now is made.0 made.1 more (subst (λ k. Orders (suc c.lines.line) k after more) gone (subst (λ k. Orders k (c.lines.room - (length c.split.result.0.now + 1)) after more) next h));
      fails = λ at h. inv.fails at (Later ends few good (subst (λ k. FailsAtLine (suc c.lines.line) k after at) gone (subst (λ k. FailsAtLine k (c.lines.room - (length c.split.result.0.now + 1)) after at) next h)));
      few = (let q = inv.few in let s : length left ≡ suc (length after) = ap length two.1 in let t = c.split.ensures.shorter in omega (arith, q, s, t));
    }
