-- Scripts in the words of their grammar: how an order is spelled, which lines a text has, and which
-- of them is the first bad one.
use Rattle.std.specs.Prelude.{◌≡◌, ◌≢◌, ◌⊎◌, ◌↔◌, ◌+◌, ◌<◌, ◌≤◌, ℕ, suc, List, [], ◌∷◌, ◌++◌, length, replicate, Option, Some, None, codes}
use Rattle.std.specs.Fmt.{decimal}
use Rattle.std.specs.List.{AllByRecursion}
use Rattle.cilk_parser.specs.Scripts.{IsNoScript, IsScript}
use Rattle.cilk_parser.specs.declared.script.LineOrder.{LineOrder}
use Rattle.cilk_parser.specs.declared.script.LineOrder.TheVariants.{Run, Steal, All}
use Rattle.cilk_parser.specs.declared.script.Step.{Step}
use Rattle.cilk_parser.specs.declared.script.TheConstants.{MAX_NUMBER, MAX_SCRIPT}

-- A number is spelled by its decimal digits, and zeros may stand before them.
abbrev pub SpellsNumber : ℕ → List ℕ → Type 0
SpellsNumber n word = (zeros : ℕ) × (word ≡ replicate zeros 48 ++ decimal n) × (n ≤ MAX_NUMBER)

-- the words of an order: `all`, `run W`, `run W N`, `steal W K`, where W and N aren't 0
abbrev pub AreWords : LineOrder → List (List ℕ) → Type 0
AreWords All words = words ≡ codes "all" ∷ []
AreWords (Run w n) words =
    (first : List ℕ) × SpellsNumber w first × (1 ≤ w) × (1 ≤ n)
    × (((n ≡ 1) × (words ≡ codes "run" ∷ first ∷ [])) ⊎ ((second : List ℕ) × SpellsNumber n second × (words ≡ codes "run" ∷ first ∷ second ∷ [])))
AreWords (Steal w k) words =
    (first : List ℕ) × (second : List ℕ) × SpellsNumber w first × SpellsNumber k second × (1 ≤ w) × (words ≡ codes "steal" ∷ first ∷ second ∷ [])

abbrev pub spaces : ℕ → List ℕ
spaces n = replicate n 32

-- words after others, with a space or more before each, and spaces at the end
abbrev pub GoesOn : List (List ℕ) → List ℕ → Type 0
GoesOn [] bytes = (n : ℕ) × (bytes ≡ spaces n)
GoesOn (word ∷ words) bytes = (n : ℕ) × (rest : List ℕ) × (bytes ≡ spaces (suc n) ++ (word ++ rest)) × GoesOn words rest

-- words separated by spaces; there may be spaces at both ends too
abbrev pub SpellsWords : List (List ℕ) → List ℕ → Type 0
SpellsWords [] line = ⊥
SpellsWords (word ∷ words) line = (n : ℕ) × (rest : List ℕ) × (line ≡ spaces n ++ (word ++ rest)) × GoesOn words rest

-- The meaning of a line: none if it is empty or begins with `#`, an order if it has its words.
abbrev pub Means : List ℕ → Option LineOrder → Type 0
Means line None = (line ≡ []) ⊎ ((rest : List ℕ) × (line ≡ 35 ∷ rest))
Means line (Some order) = (words : List (List ℕ)) × AreWords order words × SpellsWords words line

-- the meaning of the bytes before an LF, which end a line by themselves or with a CR
abbrev pub MeansBefore : List ℕ → Option LineOrder → Type 0
MeansBefore bytes meaning = Means bytes meaning ⊎ ((line : List ℕ) × (bytes ≡ line ++ 13 ∷ []) × Means line meaning)

abbrev pub HasNoLf : List ℕ → Type 0
HasNoLf line = AllByRecursion (λ b. b ≢ 10) line

-- lines, each with its LF
abbrev pub ended : List (List ℕ) → List ℕ
ended [] = []
ended (line ∷ lines) = line ++ 10 ∷ ended lines

-- each line has no LF within, and its meaning
abbrev pub AllMean : List (List ℕ) → List (Option LineOrder) → Type 0
AllMean [] [] = Unit {0}
AllMean [] (meaning ∷ meanings) = ⊥
AllMean (line ∷ lines) [] = ⊥
AllMean (line ∷ lines) (meaning ∷ meanings) = HasNoLf line × MeansBefore line meaning × AllMean lines meanings

-- the orders among the meanings of lines, with the numbers of these lines, from `n`
abbrev pub numbered : ℕ → List (Option LineOrder) → List Step
numbered n [] = []
numbered n (None ∷ meanings) = numbered (suc n) meanings
numbered n (Some order ∷ meanings) = record { line = n; order = order } ∷ numbered (suc n) meanings

-- A text of at most `room` bytes, from line `n` on: lines that end with LF or CR LF, and a last one
-- without an end, which may be empty. Each has a meaning. The steps are their orders.
pub record IsSpelled (n room : ℕ) (text : List ℕ) (steps : List Step) : Type 0 where
  pub lines : List (List ℕ)
  pub last : List ℕ
  pub meanings : List (Option LineOrder)
  pub meaning : Option LineOrder
  pub is : text ≡ ended lines ++ last
  pub all : AllMean lines meanings
  pub whole : HasNoLf last
  pub means : Means last meaning
  pub small : length text ≤ room
  pub orders : steps ≡ numbered n (meanings ++ meaning ∷ [])

-- The last line is bad: it has no meaning, or the text is too long.
abbrev pub IsBadLast : ℕ → List ℕ → List ℕ → List ℕ → Type 0
IsBadLast room text before line =
    (text ≡ before ++ line) × (((meaning : Option LineOrder) → Means line meaning → ⊥) ⊎ (room < length (before ++ line)))

-- A line with an end is bad: it has no meaning, or its bytes and its end exceed the room.
abbrev pub IsBadEnded : ℕ → List ℕ → List ℕ → List ℕ → Type 0
IsBadEnded room text before line =
    (rest : List ℕ) × (text ≡ before ++ (line ++ 10 ∷ rest)) × (((meaning : Option LineOrder) → MeansBefore line meaning → ⊥) ⊎ (room < length (before ++ (line ++ 10 ∷ []))))

-- Line `at` is the first bad one: those before it have meanings, and they are within the room.
pub record IsFirstBad (n room : ℕ) (text : List ℕ) (at : ℕ) : Type 0 where
  pub lines : List (List ℕ)
  pub meanings : List (Option LineOrder)
  pub line : List ℕ
  pub all : AllMean lines meanings
  pub small : length (ended lines) ≤ room
  pub whole : HasNoLf line
  pub bad : IsBadLast room text (ended lines) line ⊎ IsBadEnded room text (ended lines) line
  pub place : at ≡ n + length lines

-- The reader's words and the grammar's say the same of every text.
pub record GrammarsAgree : Type 0 where
  pub scripts : (text : List ℕ) (steps : List Step) → IsScript text steps ↔ IsSpelled 1 MAX_SCRIPT text steps
  pub faults : (text : List ℕ) (at : ℕ) → IsNoScript text at ↔ IsFirstBad 1 MAX_SCRIPT text at
