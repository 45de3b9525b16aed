use Rattle.std.proofs.Common.{◌≤◌, length}
use Rattle.cilk_types.specs.declared.limits.TheConstants.{MAX_EVENTS}
use Rattle.cilk_helpers.specs.Listed.{events_in}
use Rattle.cilk_helpers.proofs.listing.Listing.parted.Given as goal

abbrev pub invariant-frames : goal.invariant-frames
invariant-frames l = events_in l.hint-items ≤ MAX_EVENTS

abbrev pub invariant-words : goal.invariant-words
invariant-words l = record {
  events : events_in l.frames.items ≤ MAX_EVENTS;
  words : length l.words.items ≤ MAX_EVENTS;
}
