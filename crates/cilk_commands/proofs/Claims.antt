-- What is claimed of every input.
--
-- - `agrees`: an input that has the numbers that aren't hidden differs from this one in hidden ones alone;
-- - `has_own`: an input has its own numbers;
-- - `shows`, `alike`: a finding, on this input and on another one, is the reply;
-- - `replied`, `holds`: so what is found is the reply, and what is found on every such input holds of the claim;
-- - `unjudged`: the reply where no program and no input are given.
use Rattle.std.proofs.Common.{◌≡◌, ◌+◌, ℕ, zero, suc, Bool, true, false, List, [], ◌∷◌, Option, Some, cond, length, arith, inl, inr, refl, sym, subst, ◌∙◌}
use Rattle.std.specs.Prelude.{ℤ, slice_get}
use Rattle.std.proofs.lemmas.Option.{slice_get_cases, slice_get_past}
use Rattle.cilk_serial.specs.declared.fault.RunFault.TheVariants as stops
use Rattle.cilk_oblivious.specs.Pairs.{InputsAreAlike}
use Rattle.cilk_checker.specs.Every.{IsFinding, IsSuchFinding, IsVerdictOnEvery}
use Rattle.cilk_checker.specs.Judging.{Meant}
use Rattle.cilk_checker.specs.declared.every.Every.{Every}
use Rattle.cilk_checker.specs.declared.every.Finding.{Finding}
use Rattle.cilk_checker.specs.declared.every.Finding.TheVariants.{Fault, Race, Settled}
use Rattle.cilk_commands.specs.Every.{HasNumbers, HoldsOnEvery, SettlesAlike, finding_view, fixed_from}
use Rattle.cilk_commands.specs.Replies.{Reply, Text}
use Rattle.cilk_commands.specs.Serving.{NoneGiven, SettleReply, Surroundings, Unjudged}
use Rattle.cilk_commands.specs.Shown.{SettleShows}
use Rattle.cilk_messages.specs.Words.{File}
use Rattle.cilk_messages.specs.declared.claim.Claim.{Claim}

at_zero : (n : ℕ) → n + 0 ≡ n
at_zero n = omega arith

zero_at : (n : ℕ) → 0 + n ≡ n
zero_at n = omega arith

at_suc : (n k : ℕ) → n + suc k ≡ suc n + k
at_suc n k = omega arith

module _ (hidden : ℕ → Bool) (others : List ℤ) where
  -- the first number, which is hidden or not, and those after it
  abbrev listed : Bool → ℕ → ℤ → List ℤ → List (ℕ × ℤ)
  listed h at x xs = cond h (fixed_from hidden (suc at) xs) ((at, x) ∷ fixed_from hidden (suc at) xs)

  behind : (x : ℤ) (xs : List ℤ) (at : ℕ) (h : Bool) → HasNumbers others (listed h at x xs) → HasNumbers others (fixed_from hidden (suc at) xs)
  behind x xs at true has = has
  behind x xs at false has = has.1

  front : (x : ℤ) (xs : List ℤ) (at : ℕ) (h : Bool) → h ≡ false → HasNumbers others (listed h at x xs) → slice_get others at ≡ Some x
  front x xs at true shown has = absurd (cc shown)
  front x xs at false shown has = has.0

  both : (x : ℤ) (xs : List ℤ) (at : ℕ) (h : Bool) → slice_get others at ≡ Some x → HasNumbers others (fixed_from hidden (suc at) xs) → HasNumbers others (listed h at x xs)
  both x xs at true here rest = rest
  both x xs at false here rest = (here, rest)

  named : (xs : List ℤ) (at : ℕ) → HasNumbers others (fixed_from hidden at xs) → (k : ℕ) (x : ℤ) → slice_get xs k ≡ Some x → hidden (at + k) ≡ false
      → slice_get others (at + k) ≡ Some x
  named [] at has k x is shown = absurd (cc is)
  named (y ∷ ys) at has zero x is shown =
      subst (λ (n : ℕ). slice_get others n ≡ Some x) (sym (at_zero at))
      (front y ys at (hidden at) (subst (λ (n : ℕ). hidden n ≡ false) (at_zero at) shown) has ∙ is)
  named (y ∷ ys) at has (suc k) x is shown =
      subst (λ (n : ℕ). slice_get others n ≡ Some x) (sym (at_suc at k))
      (named ys (suc at) (behind y ys at (hidden at) has) k x is (subst (λ (n : ℕ). hidden n ≡ false) (at_suc at k) shown))

  shown : (inputs : List ℤ) → HasNumbers others (fixed_from hidden 0 inputs) → (k : ℕ) (x : ℤ) → slice_get inputs k ≡ Some x → hidden k ≡ false
      → slice_get others k ≡ Some x
  shown inputs has k x is off =
      subst (λ (n : ℕ). slice_get others n ≡ Some x) (zero_at k) (named inputs 0 has k x is (subst (λ (n : ℕ). hidden n ≡ false) (sym (zero_at k)) off))

  pub agrees : (inputs : List ℤ) → length others ≡ length inputs → HasNumbers others (fixed_from hidden 0 inputs) → InputsAreAlike hidden inputs others
  agrees inputs count has = record {
    count = sym count;
    agree = λ n off. elim ((slice_get_cases inputs n).1) [
      | inl here ↦ here.2 ∙ sym (shown inputs has n here.0 here.2 off)
      | inr past ↦ past.1 ∙ sym (slice_get_past others n (omega (arith, count, past.0)))
    ];
  }

  has_from : (xs : List ℤ) (at : ℕ) → ((k : ℕ) (x : ℤ) → slice_get xs k ≡ Some x → slice_get others (at + k) ≡ Some x) → HasNumbers others (fixed_from hidden at xs)
  has_from [] at within = tt
  has_from (x ∷ xs) at within =
      both x xs at (hidden at) (subst (λ (n : ℕ). slice_get others n ≡ Some x) (at_zero at) (within 0 x refl))
      (has_from xs (suc at) (λ k y is. subst (λ (n : ℕ). slice_get others n ≡ Some y) (at_suc at k) (within (suc k) y is)))

  pub has_own : HasNumbers others (fixed_from hidden 0 others)
  has_own = has_from others 0 (λ k x is. subst (λ (n : ℕ). slice_get others n ≡ Some x) (sym (zero_at k)) is)

module _ (m : Meant) where
  pub shows : (inputs : List ℤ) (f : Finding) → IsFinding m.source inputs f → SettleShows m inputs (finding_view m.names f)
  shows inputs (Settled o) h = (refl, h)
  shows inputs (Race first) h = (first, refl, refl, h)
  shows inputs (Fault fault at) h = (stops.At fault at, refl, h)

  alike : (others : List ℤ) (f : Finding) → IsSuchFinding m.source others f → SettlesAlike m (finding_view m.names f) others
  alike others (Settled o) h = (h.0, (refl, h.1))
  alike others (Race first) h = (first, refl, refl, h)
  alike others (Fault fault at) h = (stops.At fault at, refl, h)

  module _ (inputs : List ℤ) (hidden : ℕ → Bool) (e : Every) (verdict : IsVerdictOnEvery m.source inputs hidden e) (r : Reply) (is : r ≡ finding_view m.names e.finding) where
    pub replied : SettleShows m inputs r
    replied = subst (λ (q : Reply). SettleShows m inputs q) (sym is) (shows inputs e.finding verdict.this)

    pub holds : (c : Claim) → e.is_on_every ≡ true → c.count ≡ length inputs → (let f = c.fixed in f.items) ≡ fixed_from hidden 0 inputs → HoldsOnEvery m inputs r c
    holds c everywhere count fixed = record {
      this = replied;
      own = (sym count, subst (λ (ps : List (ℕ × ℤ)). HasNumbers inputs ps) (sym fixed) (has_own hidden inputs));
      every = λ others words of.
          let numbers = subst (λ (ps : List (ℕ × ℤ)). HasNumbers others ps) fixed of.1 in
          subst (λ (q : Reply). SettlesAlike m q others) (sym is)
          (alike others e.finding (verdict.every everywhere others words (agrees hidden others inputs (of.0 ∙ count) numbers)));
    }

-- no program and no input are given, which is the reply
pub unjudged : (w : Surroundings) (program : Text) (input : Option Text) (r s : Reply) → r ≡ s → NoneGiven w (File program) input s → SettleReply w program input r
unjudged w program input r s is none = subst (λ (q : Reply). SettleReply w program input q) (sym is) (Unjudged none)
