-- A program text has at most one program or one first fault, and not both.
--
-- `why`: the reasons why a text is refused. `one_why`: there is only one. `no_why`: there is none
-- for the text of a program. `one_answer`: all three.
use Rattle.std.proofs.Common.{◌≡◌, ℕ, ◌<◌, ◌≤◌, List, length, refl, sym, ap, ◌∙◌, subst, arith}
use Rattle.cilk_syntax.specs.declared.token.Token.{Token}
use Rattle.cilk_syntax.specs.declared.lexer.LexErrorKind.{LexErrorKind}
use Rattle.cilk_syntax.specs.Lexing.{AreTokens, IsFirstFault}
use Rattle.cilk_syntax.proofs.Unique.{unique}
use Rattle.cilk_parser.specs.declared.fault.SyntaxErrorKind.{SyntaxErrorKind}
use Rattle.cilk_parser.specs.declared.fault.SyntaxErrorKind.TheVariants as numbers
use Rattle.cilk_parser.specs.declared.fault.TextFault.TheVariants.{At}
use Rattle.cilk_syntax.specs.declared.tree.Tree.{Tree}
use Rattle.cilk_syntax.specs.Trees.{program}
use Rattle.cilk_syntax.specs.Grammar.{SpellsProgram}
use Rattle.cilk_parser.specs.Refused.{IsRefusal, IsPastLimit}
use Rattle.cilk_parser.specs.Texts.{IsText, IsTextFault, number_of, place_of}
use Rattle.cilk_parser.specs.Answers.{HasOneProgram, HasOneAnswer}
use Rattle.cilk_parser.proofs.UniqueItems.{one_program}
use Rattle.cilk_parser.proofs.Lexical.{cut_once, tokens_or_fault}
use Rattle.cilk_parser.proofs.Prefixes.{one_refusal, one_past, refused_or_past, spelled_not_refused, within_not_past}

pub one_text : (bytes : List ℕ) → HasOneProgram bytes
one_text bytes t u h k =
    let e = unique bytes h.tokens.0 k.tokens.0 h.tokens.1 k.tokens.1 in (
      one_program h.tokens.0 (program t) (program u) h.tokens.2
          (subst (SpellsProgram (program u)) (sym e) k.tokens.2),
      h.text ∙ sym k.text,
    )

-- why a text is refused
data Why (bytes : List ℕ) (n : SyntaxErrorKind) (place : ℕ) : Type 0 where
  Long : n ≡ numbers.TooLong → 262144 < length bytes → place ≡ 262144 → Why bytes n place
  Stopped : n ≡ numbers.Unexpected → length bytes ≤ 262144 → (ts used rest : List Token) → AreTokens bytes ts
      → IsRefusal ts used rest → place ≡ place_of (length bytes) rest → Why bytes n place
  Past : n ≡ numbers.TooDeep → length bytes ≤ 262144 → (ts used : List Token) (x : Token) (rest : List Token)
      → AreTokens bytes ts → IsPastLimit ts used x rest → place ≡ x.at → Why bytes n place
  Lexical : length bytes ≤ 262144 → (bad : LexErrorKind) → number_of bad ≡ n → IsFirstFault bytes bad place → Why bytes n place

why : (n : SyntaxErrorKind) (place : ℕ) (bytes : List ℕ) → IsTextFault (At n place) bytes → Why bytes n place
why numbers.NotAscii place bytes h = Lexical h.0 h.1.0 h.1.1 h.1.2
why numbers.BadToken place bytes h = Lexical h.0 h.1.0 h.1.1 h.1.2
why numbers.Unexpected place bytes h = Stopped refl h.0 h.1.0 h.1.1 h.1.2 h.1.3 h.1.4 h.1.5
why numbers.TooDeep place bytes h = Past refl h.0 h.1.0 h.1.1 h.1.2 h.1.3 h.1.4 h.1.5 h.1.6
why numbers.TooLarge place bytes h = Lexical h.0 h.1.0 h.1.1 h.1.2
why numbers.TooLong place bytes h = Long refl h.0 h.1
why numbers.BadNumber place bytes h = absurd h.1
why numbers.TooManyNumbers place bytes h = absurd h.1

long_or : {A : Type 0} (n : ℕ) → 262144 < n → n ≤ 262144 → A
long_or n h k = absurd (omega arith)

abbrev Alike : SyntaxErrorKind → SyntaxErrorKind → ℕ → ℕ → Type 0
Alike n m p q = (n ≡ m) × (p ≡ q)

one_why : (bytes : List ℕ) (n m : SyntaxErrorKind) (p q : ℕ) → Why bytes n p → Why bytes m q → Alike n m p q
one_why bytes n m p q (Long e l f) (Long g k i) = (e ∙ sym g, f ∙ sym i)
one_why bytes n m p q (Long e l f) (Stopped g k us v w a h i) = long_or (length bytes) l k
one_why bytes n m p q (Long e l f) (Past g k us v y w a h i) = long_or (length bytes) l k
one_why bytes n m p q (Long e l f) (Lexical k bad g h) = long_or (length bytes) l k
one_why bytes n m p q (Stopped e l ts u r a h f) (Long g k i) = long_or (length bytes) k l
one_why bytes n m p q (Stopped e l ts u r a h f) (Stopped g k us v s b j i) =
    let o = one_refusal ts u r v s h (subst (λ y. IsRefusal y v s) (sym (unique bytes ts us a b)) j) in
    (e ∙ sym g, f ∙ (ap (place_of (length bytes)) o.1 ∙ sym i))
one_why bytes n m p q (Stopped e l ts u r a h f) (Past g k us v y s b j i) =
    absurd (refused_or_past ts u r v y s h (subst (λ z. IsPastLimit z v y s) (sym (unique bytes ts us a b)) j))
one_why bytes n m p q (Stopped e l ts u r a h f) (Lexical k bad g j) = absurd (tokens_or_fault bytes ts bad q a j)
one_why bytes n m p q (Past e l ts u x r a h f) (Long g k i) = long_or (length bytes) k l
one_why bytes n m p q (Past e l ts u x r a h f) (Stopped g k us v s b j i) =
    absurd (refused_or_past ts v s u x r (subst (λ z. IsRefusal z v s) (sym (unique bytes ts us a b)) j) h)
one_why bytes n m p q (Past e l ts u x r a h f) (Past g k us v y s b j i) =
    let o = one_past ts u x r v y s h (subst (λ z. IsPastLimit z v y s) (sym (unique bytes ts us a b)) j) in
    (e ∙ sym g, f ∙ (ap (λ z. z.at) o.1 ∙ sym i))
one_why bytes n m p q (Past e l ts u x r a h f) (Lexical k bad g j) = absurd (tokens_or_fault bytes ts bad q a j)
one_why bytes n m p q (Lexical l bad e h) (Long g k i) = long_or (length bytes) k l
one_why bytes n m p q (Lexical l bad e h) (Stopped g k us v s b j i) = absurd (tokens_or_fault bytes us bad p b h)
one_why bytes n m p q (Lexical l bad e h) (Past g k us v y s b j i) = absurd (tokens_or_fault bytes us bad p b h)
one_why bytes n m p q (Lexical l bad e h) (Lexical k other g j) =
    let o = (cut_once bytes).faults bad other p q h j in (sym e ∙ (ap number_of o.0 ∙ g), o.1)

no_why : (bytes : List ℕ) (t : Tree) (n : SyntaxErrorKind) (p : ℕ) → IsText bytes t → Why bytes n p → ⊥
no_why bytes t n p h (Long e l f) = long_or (length bytes) l h.length
no_why bytes t n p h (Stopped e l us v s b j i) =
    let o = unique bytes h.tokens.0 us h.tokens.1 b in
    spelled_not_refused h.tokens.0 v s (program t) h.tokens.2 (subst (λ z. IsRefusal z v s) (sym o) j)
no_why bytes t n p h (Past e l us v y s b j i) =
    let o = unique bytes h.tokens.0 us h.tokens.1 b in
    within_not_past h.tokens.0 v y s (program t) h.tokens.2 h.tokens.3 (subst (λ z. IsPastLimit z v y s) (sym o) j)
no_why bytes t n p h (Lexical l bad e j) = tokens_or_fault bytes h.tokens.0 bad p h.tokens.1 j

pub one_answer : (bytes : List ℕ) → HasOneAnswer bytes
one_answer bytes = record {
  programs = one_text bytes;
  faults = λ n m p q h k. one_why bytes n m p q (why n p bytes h) (why m q bytes k);
  apart = λ t n p h k. no_why bytes t n p h (why n p bytes k);
}
