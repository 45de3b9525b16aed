-- What no pull from a file changes, as numbers.
use Rattle.std.specs.Prelude.{ℕ, List, [], ◌∷◌, ◌++◌, Option, Some, None, length}
use Rattle.cilk_commands.specs.Files.{Failures}
use Rattle.cilk_commands.specs.Replies.{Text}

-- a text before others: its length, then the text
abbrev pub text_ahead : Text → List ℕ → List ℕ
text_ahead text rest = length text ∷ (text ++ rest)

-- a file's contents, if known
abbrev pub numbers_of : Option Text → List ℕ
numbers_of None = []
numbers_of (Some text) = 0 ∷ text

-- the failed reads before the source was made, those of files other than `path`, both paths, and the contents of both
abbrev pub kept_of : ℕ → Failures → (Text → Option Text) → Text → Text → List ℕ
kept_of before failed files path other =
    before ∷ failed.elsewhere path ∷ text_ahead path (text_ahead other (text_ahead (numbers_of (files path)) (numbers_of (files other))))
