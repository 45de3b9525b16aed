-- Replies that nothing follows on standard error.
use Rattle.std.specs.Prelude.{◌≡◌, ◌||◌, Bool, [], is_some}
use Rattle.cilk_commands.specs.Replies.{Accepted, Certified, Ended, NotEnded, RaceFree, Reply, Settled, Text}
use Rattle.cilk_messages.specs.declared.flags.Extras.{Extras}

-- the reply leaves nothing to explain: an outcome, a certificate, or that nothing races
abbrev pub TellsAll : Reply → Type 0
TellsAll (Ended names outcome) = Unit {0}
TellsAll (Certified certificate) = Unit {0}
TellsAll Accepted = Unit {0}
TellsAll NotEnded = Unit {0}
TellsAll (Settled names outcome) = Unit {0}
TellsAll (RaceFree unseen) = Unit {0}
TellsAll _ = ⊥

-- a reply that tells all has no explanation
abbrev pub Explains : Reply → Text → Type 0
Explains r explanation = TellsAll r → explanation ≡ []

-- the words ask for a text beside an explanation: the trace of a script, how many of its choices are skipped, or what
-- orders the accesses of a line
abbrev pub asks_more : Extras → Bool
asks_more extras = extras.traces || (extras.counts || is_some extras.why)
