use Rattle.std.proofs.Common.{◌≡◌, ◌∙◌, ap, subst, Option}
use Rattle.std.specs.Prelude.{IfOk, Result}
use Rattle.std.specs.declared.alloc.AllocError.{AllocError}
use Rattle.std.specs.Borrow.{Bor}
use Rattle.clap.specs.Simple.{app_of_fields}
use Rattle.clap.specs.Words.{App, Text}
use Rattle.clap.specs.declared.builder.command.Command.{Command}
use Rattle.clap.specs.declared.builder.command.Command.TheViews.{out-Command}
use Rattle.clap.specs.declared.builder.command.Command.TheOpen.{Command-F}
use Rattle.cilk_messages.specs.Words.{HasShape}
use Rattle.cilk_messages.proofs.Entered.{with_last}
use Rattle.cilk_messages.proofs.words.with.Goals as goal

-- a command's help text doesn't change what its parser accepts
described : (c r : Command) (a : App) (about : Option (Bor Text)) → HasShape c a → out-Command r ≡ record (out-Command c) { about = about } → HasShape r a
described c r a about h e = (ap app_of_fields e ∙ h.0, ap (λ (f : Command-F Command). f.has_globals) e ∙ h.1)

pub returns : goal.returns
returns c = λ a b app command.
    let given : HasShape c.in_ok-command.field-0 b =
    subst (λ (x : Result Command AllocError). IfOk x (λ m. HasShape m b)) c.in_ok-command.was command in
    let start : HasShape c.in_ok-app.field-0 a =
    subst (λ (x : Result Command AllocError). IfOk x (λ m. HasShape m a)) c.in_ok-app.was app in
    with_last _ _ c.subcommand.result _ _ start (described _ _ _ _ given c.about-described.ensures) c.subcommand.ensures
