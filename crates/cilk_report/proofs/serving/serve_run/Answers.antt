use Rattle.std.proofs.Common.{refl, subst, sym}
use Rattle.cilk_report.proofs.Measuring.{named, starved, unnamed}
use Rattle.cilk_report.proofs.Replies.{IsUsage, silence, unasked}
use Rattle.cilk_messages.specs.Words.{texts}
use Rattle.cilk_messages.specs.declared.words.WordsFault.{WordsFault}
use Rattle.cilk_report.proofs.serving.serve_run.Goals as goal

pub show_measured-requires-clause-named : goal.show_measured-requires-clause-named
show_measured-requires-clause-named g c = named (texts c.args.words.now) _ _ _ c.requires.plain c.in-Ok.ensures.order c.in-Some.ensures

pub returns-in-Ok-clause-shown : goal.returns-in-Ok-clause-shown
returns-in-Ok-clause-shown g c =
    unnamed (texts c.args.words.now) _ _ _ _ c.wrong_words.result _ _ _ _ _ _ _ (named (texts c.args.words.now) _ _ _ c.requires.plain c.in-Ok.ensures.order c.in-None.ensures)
    refl c.wrong_words.ensures c.complain.ensures (silence _ _) refl

pub returns-in-Err-Usage-clause-shown : goal.returns-in-Err-Usage-clause-shown
returns-in-Err-Usage-clause-shown g c =
    unnamed (texts c.args.words.now) _ _ _ _ c.wrong_words-in-Err-Usage.result _ _ _ _ _ _ _
    (named (texts c.args.words.now) _ _ _ c.requires.plain (unasked _ _ (subst (λ (e : WordsFault). IsUsage e) (sym c.in-Err-Usage.field-0-is) tt) c.in-Err-Usage.ensures.fault) refl)
    refl c.wrong_words-in-Err-Usage.ensures c.complain-in-Err-Usage.ensures (silence _ _) refl

pub returns-clause-shown : goal.returns-clause-shown
returns-clause-shown g c = starved _ _ _ _ _ _ _ _ _ _ _ _ refl c.complain-in-Err-Memory.ensures (silence _ _) refl
