use Rattle.std.proofs.Common.{inl, inr, refl, sym, ◌∙◌}
use Rattle.cilk_commands.specs.Every.{reply_view}
use Rattle.cilk_report.specs.Settling.{OutOfMemory, Untold, Unwritten}
use Rattle.cilk_report.proofs.settling.show_reply.Goals as goal

pub returns-then-status-eq-NO_MEMORY-clause-ends : goal.returns-then-status-eq-NO_MEMORY-clause-ends
returns-then-status-eq-NO_MEMORY-clause-ends g c =
    λ _ w i settles _. OutOfMemory (reply_view c.args.reply.now.reply) c.starved.ensures.told.0 settles c.starved.ensures.status refl c.starved.ensures.told.1

pub returns-in-Ok-clause-goes_on : goal.returns-in-Ok-clause-goes_on
returns-in-Ok-clause-goes_on g c = λ on w i settles claimed.
    let written = c.write_texts.ensures.goes_on on in
    record {
      reply = reply_view c.args.reply.now.reply;
      settles = settles;
      claim = c.args.reply.now.claim;
      claimed = claimed;
      status_is = written.0 ∙ c.status_of-status.ensures;
      remains = λ none. c.if-status-eq-NO_MEMORY.false (sym written.0 ∙ none);
      texts = (c.in-Ok.texts.out.items, c.in-Ok.texts.err.items);
      shown = c.in-Ok.ensures;
      on_out = written.1;
      on_err = written.2;
    }

pub returns-in-Ok-clause-ends : goal.returns-in-Ok-clause-ends
returns-in-Ok-clause-ends g c = λ off w i settles claimed.
    elim (c.write_texts.ensures.ends off) [
      | inl cut ↦ Unwritten (reply_view c.args.reply.now.reply) c.args.reply.now.claim c.in-Ok.texts.out.items c.in-Ok.texts.err.items cut.2.0 settles claimed c.in-Ok.ensures cut.0 cut.1 cut.2.1
      | inr cut ↦ Untold (reply_view c.args.reply.now.reply) c.args.reply.now.claim c.in-Ok.texts.out.items c.in-Ok.texts.err.items settles claimed c.in-Ok.ensures
          (cut.0 ∙ c.status_of-status.ensures) cut.1 cut.2
    ]

pub returns-in-Err-clause-ends : goal.returns-in-Err-clause-ends
returns-in-Err-clause-ends g c =
    λ _ w i settles _. OutOfMemory (reply_view c.args.reply.now.reply) c.starved-in-Err.ensures.told.0 settles c.starved-in-Err.ensures.status refl c.starved-in-Err.ensures.told.1
