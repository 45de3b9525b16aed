-- One pass over a run's marks, with a stack of the suspended frames.
use Rattle.std.specs.Prelude.{ℕ, ◌+◌, List, [], ◌∷◌, ◌++◌, length}
use Rattle.cilk_tree.specs.declared.mark.Mark.{Mark}
use Rattle.cilk_tree.specs.declared.mark.Mark.TheVariants.{Begin, End, Sync, Resume, Spawn, Call, Plain}
use Rattle.cilk_cert_text.specs.declared.line.Frame.{Frame}
use Rattle.cilk_cert_maker.specs.declared.walk.Open.{Open}

-- the current frame; the suspended frames, innermost first; and the two columns so far
pub record Walked : Type 0 where
  pub top : Open
  pub below : List Open
  pub frames : List Frame
  pub owners : List ℕ

abbrev pub upper : Open → List Open → Open
upper o [] = o
upper o (p ∷ ps) = p

abbrev pub lower : List Open → List Open
lower [] = []
lower (p ∷ ps) = ps

-- a child's frame begins
abbrev pub entered : Walked → Walked
entered w = record {
  top = record { number = length w.frames + 1; made = 0 };
  below = record { number = w.top.number; made = w.top.made + 1 } ∷ w.below;
  frames = w.frames ++ record { parent = w.top.number; ordinal = w.top.made + 1 } ∷ [];
  owners = w.owners;
}

-- a strand begins
abbrev pub begun : Walked → Walked
begun w = record { top = w.top; below = w.below; frames = w.frames; owners = w.owners ++ w.top.number ∷ [] }

-- the current frame ends
abbrev pub left : Walked → Walked
left w = record { top = upper w.top w.below; below = lower w.below; frames = w.frames; owners = w.owners }

abbrev pub step : Mark → Walked → Walked
step Begin w = begun w
step Sync w = begun w
step Resume w = begun w
step Spawn w = entered w
step Call w = entered w
step Plain w = w
step End w = left w

abbrev pub walked : List Mark → Walked → Walked
walked [] w = w
walked (m ∷ ms) w = walked ms (step m w)

-- before the first event; below the root is a placeholder with number 0
abbrev pub opening : Walked
opening = record { top = record { number = 1; made = 0 }; below = record { number = 0; made = 0 } ∷ []; frames = record { parent = 0; ordinal = 0 } ∷ []; owners = [] }
