-- A command has one reply.
use Rattle.std.specs.Prelude.{◌≡◌, Option, Some, None, IsSome}
use Rattle.cilk_commands.specs.Replies.{NoMemory, Reply, Text, Unreadable}
use Rattle.cilk_commands.specs.Serving.{Answers, Surroundings}
use Rattle.cilk_messages.specs.Words.{Requested, Certify, Check, File, Judge, Origin, Play, Run, Settle, Standard}

-- the text of standard input, or of the file, is known
abbrev pub IsKnown : Surroundings → Origin → Type 0
IsKnown w Standard = IsSome w.input
IsKnown w (File path) = IsSome (w.files path)

-- the input file is known, if there is one
abbrev pub IsKnownInput : Surroundings → Option Text → Type 0
IsKnownInput w None = Unit {0}
IsKnownInput w (Some path) = IsKnown w (File path)

-- each text that the order names is known
abbrev pub AreKnown : Surroundings → Option Requested → Type 0
AreKnown w None = Unit {0}
AreKnown w (Some (Run program input)) = IsKnown w program × IsKnownInput w input
AreKnown w (Some (Certify program input)) = IsKnown w (File program) × IsKnownInput w input
AreKnown w (Some (Check program certificate input)) =
    IsKnown w (File program) × IsKnownInput w input × IsKnown w (File certificate)
AreKnown w (Some (Play program script manner input)) =
    IsKnown w (File program) × IsKnownInput w input × IsKnown w (File script)
AreKnown w (Some (Settle program input)) = IsKnown w (File program) × IsKnownInput w input
AreKnown w (Some (Judge trace sites)) = IsKnown w (File trace)

-- a reply that is neither out of memory nor the failure of a device
abbrev pub IsOfTexts : Reply → Type 0
IsOfTexts NoMemory = ⊥
IsOfTexts (Unreadable name) = ⊥
IsOfTexts _ = Unit {0}

-- if the texts are known, the order has one reply that follows from them
abbrev pub HasOneReply : Surroundings → Option Requested → Type 0
HasOneReply w asked =
    AreKnown w asked → (r r' : Reply) → Answers w asked r → Answers w asked r' → IsOfTexts r → IsOfTexts r' → r ≡ r'
