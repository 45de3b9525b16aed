-- The texts that the words name have one reply.
--
-- `given_once`, `input_once`: the texts are one. `one_refusal`, `one_input_refusal`: a text has one
-- first fault. `same_given`, `one_refused`, `not_refused`: the texts mean one program and one
-- input, or have one first fault, and not both. `one_judged`, `one_run`, `one_certify`,
-- `one_check`, `one_play`, `one_settle`, `one_judge`: a command has one reply. `one_reply`: and so have words.
use Rattle.std.proofs.Common.{◌≡◌, ℕ, ℤ, List, take, Option, Some, None, refl, sym, ap, ◌∙◌, subst}
use Rattle.std.specs.Prelude.{◌≢◌, IfSome, IsSome}
use Rattle.cilk_parser.specs.declared.fault.TextFault.{TextFault}
use Rattle.cilk_parser.specs.declared.fault.TextFault.TheVariants as text_faults
use Rattle.cilk_parser.specs.Inputs.{IsInput, IsInputFault}
use Rattle.cilk_parser.specs.Texts as texts
use Rattle.cilk_parser.proofs.UniqueInputs.{one_input}
use Rattle.cilk_names.proofs.WellNamed.{resolved_named}
use Rattle.cilk_checker.specs.Judging.{IsProgramText, Meant}
use Rattle.cilk_checker.specs.declared.fault.ProgramFault.{ProgramFault}
use Rattle.cilk_checker.specs.declared.fault.ProgramFault.TheVariants as program_faults
use Rattle.cilk_checker.proofs.OneMeaning.{one_meaning}
use Rattle.cilk_commands.specs.declared.streams.TheConstants.{MAX_READ}
use Rattle.cilk_commands.specs.OneReply.{HasOneReply, IsKnown, IsKnownInput, IsOfTexts}
use Rattle.cilk_commands.specs.Files.{Failures}
use Rattle.cilk_commands.specs.Replies.{BadInput, BadWords, NoMemory, Reply, Text, Unreadable}
use Rattle.cilk_commands.specs.Serving.{AreGiven, CertifyReply, CheckReply, GivesInput, GivesProgram, InputFileFails, InputRefused, InputUnread, JudgeReply, Judged, JudgedReply, NoneFailed, NoneGiven, OriginFails, PlayReply, ProgramRefused, ProgramUnread, RunReply, SettleReply, Unjudged, WordsFail, Surroundings}
use Rattle.cilk_commands.specs.Shown.{CertifyShows, CheckShows, InputFails, PlayShows, ProgramFails, RunShows, SettleShows, input_fault_view, program_fault_view}
use Rattle.cilk_messages.specs.declared.words.Manner.{Manner}
use Rattle.cilk_messages.specs.Words.{Requested, File, Origin, Standard, order_in}
use Rattle.cilk_messages.specs.Words as words
use Rattle.cilk_commands.proofs.OneShown.{certifies_once, checks_once, shows_once}
use Rattle.cilk_commands.proofs.OnePlayed.{plays_once}
use Rattle.cilk_commands.proofs.OneSettled.{settles_once}
use Rattle.cilk_commands.proofs.OneTraced.{judges_once}

held : (o : Option Text) (f : Text → Text) (x y : Text) → IsSome o → IfSome o (λ all. x ≡ f all)
    → IfSome o (λ all. y ≡ f all) → x ≡ y
held None f x y known h k = cc
held (Some all) f x y known h k = h ∙ sym k

given_once : (w : Surroundings) (o : Origin) (x y : Text) → IsKnown w o → GivesProgram w.files w.input o x
    → GivesProgram w.files w.input o y → x ≡ y
given_once w Standard x y known h k = held w.input (take MAX_READ) x y known h k
given_once w (File path) x y known h k = held (w.files path) (λ all. all) x y known h k

input_once : (w : Surroundings) (o : Option Text) (x y : Text) → IsKnownInput w o → GivesInput w.files o x
    → GivesInput w.files o y → x ≡ y
input_once w None x y known h k = h ∙ sym k
input_once w (Some path) x y known h k = held (w.files path) (λ all. all) x y known h k

-- a fault that is shown isn't out of memory
told : (f : ProgramFault) (r : Reply) → r ≡ program_fault_view f → IsOfTexts r → f ≢ program_faults.Memory
told f r e v m = subst IsOfTexts (e ∙ ap program_fault_view m) v

-- two replies to a program text that is refused
one_refusal : (text : Text) (r q : Reply) → IsOfTexts r → IsOfTexts q → ProgramFails text r
    → ProgramFails text q → r ≡ q
one_refusal text r q v u h k =
    let same = (one_meaning text).faults h.0 k.0 (told h.0 r h.1 v) (told k.0 q k.1 u) h.2 k.2 in
    h.1 ∙ (ap program_fault_view same ∙ sym k.1)

-- a text that means a program isn't refused
no_refusal : (text : Text) (m : Meant) (r : Reply) → IsOfTexts r → IsProgramText text m → ProgramFails text r → ⊥
no_refusal text m r v h k = (one_meaning text).apart m k.0 (told k.0 r k.1 v) h k.2

one_input_fault : (text : Text) (r q : Reply) (f g : TextFault) → IsOfTexts r → IsOfTexts q → r ≡ input_fault_view f
    → q ≡ input_fault_view g → IsInputFault f text → IsInputFault g text → r ≡ q
one_input_fault text r q text_faults.Memory g v u e d h k = absurd (subst IsOfTexts e v)
one_input_fault text r q (text_faults.At n p) text_faults.Memory v u e d h k = absurd (subst IsOfTexts d u)
one_input_fault text r q (text_faults.At n p) (text_faults.At m o) v u e d h k =
    let a = (one_input text).faults n m p o h k in
    e ∙ (ap (λ x. BadInput (texts.number x) p) a.0 ∙ (ap (λ x. BadInput (texts.number m) x) a.1 ∙ sym d))

-- two replies to an input text that is refused
one_input_refusal : (text : Text) (r q : Reply) → IsOfTexts r → IsOfTexts q → InputFails text r
    → InputFails text q → r ≡ q
one_input_refusal text r q v u h k = one_input_fault text r q h.0 k.0 v u h.1 k.1 h.2 k.2

no_input_fault : (text : Text) (numbers : List ℤ) (r : Reply) (f : TextFault) → IsOfTexts r → r ≡ input_fault_view f
    → IsInput text numbers → IsInputFault f text → ⊥
no_input_fault text numbers r text_faults.Memory v e h k = subst IsOfTexts e v
no_input_fault text numbers r (text_faults.At n p) v e h k = (one_input text).apart numbers n p h k

-- an input text of numbers isn't refused
no_input_refusal : (text : Text) (numbers : List ℤ) (r : Reply) → IsOfTexts r → IsInput text numbers
    → InputFails text r → ⊥
no_input_refusal text numbers r v h k = no_input_fault text numbers r k.0 v k.1 h k.2

not_unread : (n m : Failures) (o : Origin) (r : Reply) → OriginFails n m o r → IsOfTexts r → ⊥
not_unread n m Standard (Unreadable name) h v = v
not_unread n m Standard NoMemory h v = v
not_unread n m Standard _ h v = h.1
not_unread n m (File path) (Unreadable name) h v = v
not_unread n m (File path) NoMemory h v = v
not_unread n m (File path) _ h v = h

input_not_unread : (n m : Failures) (o : Option Text) (r : Reply) → InputFileFails n m o r → IsOfTexts r → ⊥
input_not_unread n m None r h v = h
input_not_unread n m (Some path) r h v = not_unread n m (File path) r h v

-- the refused text
data Refused (w : Surroundings) (program : Origin) (input : Option Text) (r : Reply) : Type 0 where
  OfProgram : (text : Text) → GivesProgram w.files w.input program text → ProgramFails text r
      → Refused w program input r
  OfInput : (text : Text) (m : Meant) (numbers : Text) → GivesProgram w.files w.input program text
      → IsProgramText text m → GivesInput w.files input numbers → InputFails numbers r → Refused w program input r

refused : (w : Surroundings) (program : Origin) (input : Option Text) (r : Reply) → IsOfTexts r → NoneGiven w program input r
    → Refused w program input r
refused w program input r v (ProgramUnread h) = absurd (not_unread w.failed w.failed' program r h v)
refused w program input r v (ProgramRefused text g h n) = OfProgram text g h
refused w program input r v (InputUnread text m g h k) = absurd (input_not_unread w.failed w.failed' input r k v)
refused w program input r v (InputRefused text m numbers g h i k n) = OfInput text m numbers g h i k

-- two replies to texts, one of them refused
one_refused : (w : Surroundings) (program : Origin) (input : Option Text) (r q : Reply) → IsKnown w program
    → IsKnownInput w input → IsOfTexts r → IsOfTexts q → Refused w program input r → Refused w program input q → r ≡ q
one_refused w program input r q x y v u (OfProgram t g h) (OfProgram t' g' h') =
    let e = given_once w program t t' x g g' in one_refusal t' r q v u (subst (λ z. ProgramFails z r) e h) h'
one_refused w program input r q x y v u (OfProgram t g h) (OfInput t' m' n' g' h' i' k') =
    let e = given_once w program t t' x g g' in absurd (no_refusal t' m' r v h' (subst (λ z. ProgramFails z r) e h))
one_refused w program input r q x y v u (OfInput t m n g h i k) (OfProgram t' g' h') =
    let e = given_once w program t' t x g' g in absurd (no_refusal t m q u h (subst (λ z. ProgramFails z q) e h'))
one_refused w program input r q x y v u (OfInput t m n g h i k) (OfInput t' m' n' g' h' i' k') =
    let e = input_once w input n n' y i i' in one_input_refusal n' r q v u (subst (λ z. InputFails z r) e k) k'

-- texts that mean a program and an input aren't refused
not_refused : (w : Surroundings) (program : Origin) (input : Option Text) (m : Meant) (inputs : List ℤ) (r : Reply)
    → IsKnown w program → IsKnownInput w input → IsOfTexts r → AreGiven w program input m inputs
    → Refused w program input r → ⊥
not_refused w program input m inputs r x y v given (OfProgram t g h) =
    let e = given_once w program t given.text x g given.text_is in
    no_refusal given.text m r v given.program_is (subst (λ z. ProgramFails z r) e h)
not_refused w program input m inputs r x y v given (OfInput t n numbers g h i k) =
    let e = input_once w input numbers given.numbers y i given.numbers_are in
    no_input_refusal given.numbers inputs r v given.input_is (subst (λ z. InputFails z r) e k)

-- the texts mean one program and one input
same_given : (w : Surroundings) (program : Origin) (input : Option Text) (m m' : Meant) (inputs inputs' : List ℤ)
    → IsKnown w program → IsKnownInput w input → AreGiven w program input m inputs
    → AreGiven w program input m' inputs' → (m ≡ m') × (inputs ≡ inputs')
same_given w program input m m' inputs inputs' x y h k =
    let e = given_once w program h.text k.text x h.text_is k.text_is in
    let d = input_once w input h.numbers k.numbers y h.numbers_are k.numbers_are in (
      (one_meaning k.text).meanings m m' (subst (λ z. IsProgramText z m) e h.program_is) k.program_is,
      (one_input k.numbers).numbers inputs inputs' (subst (λ z. IsInput z inputs) d h.input_is) k.input_is,
    )

-- if a program and an input have one reply, a command on them has one reply
one_judged : (IsShown : Meant → List ℤ → Reply → Type 0)
    → ((m : Meant) (inputs : List ℤ) (text numbers : Text) → IsProgramText text m → IsInput numbers inputs → (r q : Reply)
    → IsOfTexts r → IsOfTexts q → IsShown m inputs r → IsShown m inputs q → r ≡ q)
    → (w : Surroundings) (program : Origin) (input : Option Text) (r q : Reply) → IsKnown w program → IsKnownInput w input
    → JudgedReply IsShown w program input r → JudgedReply IsShown w program input q → IsOfTexts r → IsOfTexts q → r ≡ q
one_judged IsShown once w program input r q x y (Unjudged h) (Unjudged k) v u =
    one_refused w program input r q x y v u (refused w program input r v h) (refused w program input q u k)
one_judged IsShown once w program input r q x y (Unjudged h) (Judged m inputs given k) v u =
    absurd (not_refused w program input m inputs r x y v given (refused w program input r v h))
one_judged IsShown once w program input r q x y (Judged m inputs given h) (Unjudged k) v u =
    absurd (not_refused w program input m inputs q x y u given (refused w program input q u k))
one_judged IsShown once w program input r q x y (Judged m inputs given h) (Judged m' inputs' given' k) v u =
    let a = same_given w program input m m' inputs inputs' x y given given' in
    let h' = subst (λ z. IsShown z inputs r) a.0 h in
    once m' inputs' given'.text given'.numbers given'.program_is given'.input_is r q v u (subst (λ z. IsShown m' z r) a.1 h') k

one_run : (w : Surroundings) (program : Origin) (input : Option Text) (r q : Reply) → IsKnown w program → IsKnownInput w input
    → RunReply w program input r → RunReply w program input q → IsOfTexts r → IsOfTexts q → r ≡ q
one_run w program input r q x y h k v u =
    one_judged (NoneFailed w RunShows) (λ m inputs text numbers i j r q v u h k. shows_once m inputs r q v u h.1 k.1)
    w program input r q x y h k v u

one_settle : (w : Surroundings) (program : Text) (input : Option Text) (r q : Reply) → IsKnown w (File program) → IsKnownInput w input
    → SettleReply w program input r → SettleReply w program input q → IsOfTexts r → IsOfTexts q → r ≡ q
one_settle w program input r q x y h k v u =
    one_judged (NoneFailed w SettleShows) (λ m inputs text numbers i j r q v u h k. settles_once m inputs r q v u h.1 k.1)
    w (File program) input r q x y h k v u

one_certify : (w : Surroundings) (program : Text) (input : Option Text) (r q : Reply) → IsKnown w (File program)
    → IsKnownInput w input → CertifyReply w program input r → CertifyReply w program input q → IsOfTexts r → IsOfTexts q
    → r ≡ q
one_certify w program input r q x y h k v u =
    one_judged (NoneFailed w CertifyShows)
    (λ m inputs text numbers i j r q v u h k. certifies_once m inputs (resolved_named i.0 m.source i.2.0) r q v u h.1 k.1)
    w (File program) input r q x y h k v u

one_check : (w : Surroundings) (program certificate : Text) (input : Option Text) (r q : Reply) → IsKnown w (File program)
    → IsKnownInput w input → IsKnown w (File certificate) → CheckReply w program certificate input r
    → CheckReply w program certificate input q → IsOfTexts r → IsOfTexts q → r ≡ q
one_check w program certificate input r q x y z h k v u =
    one_judged (CheckShows certificate (w.files certificate) w.failed w.failed')
    (λ m inputs text numbers i j r q. checks_once certificate (w.files certificate) w.failed w.failed' m inputs text numbers z
    (record { program_is = i; input_is = j }) r q)
    w (File program) input r q x y h k v u

one_play : (w : Surroundings) (program script : Text) (manner : Manner) (input : Option Text) (r q : Reply) → IsKnown w (File program)
    → IsKnownInput w input → IsKnown w (File script) → PlayReply w program script manner input r → PlayReply w program script manner input q
    → IsOfTexts r → IsOfTexts q → r ≡ q
one_play w program script manner input r q x y z h k v u =
    one_judged (PlayShows script (w.files script) w.failed w.failed' manner)
    (λ m inputs text numbers i j r q. plays_once script (w.files script) w.failed w.failed' manner m inputs z r q)
    w (File program) input r q x y h k v u

one_judge : (w : Surroundings) (trace : Text) (r q : Reply) → IsKnown w (File trace) → JudgeReply w trace r → JudgeReply w trace q → IsOfTexts r
    → IsOfTexts q → r ≡ q
one_judge w trace r q x h k v u = judges_once trace (w.files trace) w.failed w.failed' x r q v u h k

bad_words : (r : Reply) → WordsFail r → IsOfTexts r → r ≡ BadWords
bad_words BadWords h v = refl
bad_words NoMemory h v = absurd v
bad_words _ h v = absurd h

one_answered : (w : Surroundings) (asked : Option Requested) → HasOneReply w asked
one_answered w None x r q h k v u = bad_words r h.1 v ∙ sym (bad_words q k.1 u)
one_answered w (Some (words.Run program input)) x r q h k v u = one_run w program input r q x.0 x.1 h k v u
one_answered w (Some (words.Certify program input)) x r q h k v u = one_certify w program input r q x.0 x.1 h k v u
one_answered w (Some (words.Check program certificate input)) x r q h k v u =
    one_check w program certificate input r q x.0 x.1 x.2 h k v u
one_answered w (Some (words.Play program script manner input)) x r q h k v u =
    one_play w program script manner input r q x.0 x.1 x.2 h k v u
one_answered w (Some (words.Settle program input)) x r q h k v u = one_settle w program input r q x.0 x.1 h k v u
one_answered w (Some (words.Judge trace sites)) x r q h k v u = one_judge w trace r q x h k v u

pub one_reply : (w : Surroundings) (line : List Text) → HasOneReply w (order_in line)
one_reply w line = one_answered w (order_in line)
