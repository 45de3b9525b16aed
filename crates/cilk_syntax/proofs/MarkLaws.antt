-- A kind that fits a mark is the mark's kind.
use Rattle.std.proofs.Common.{◌≡◌, ◌≢◌, true, false, refl, ap, ◌∙◌}
use Rattle.cilk_syntax.specs.declared.token.Kind.{Kind}
use Rattle.cilk_syntax.specs.declared.token.Kind.TheVariants as kinds
use Rattle.cilk_syntax.specs.declared.marks.Punct.{Punct}
use Rattle.cilk_syntax.specs.declared.marks.Punct.TheVariants.{Open, Close, OpenBrace, CloseBrace, CloseBracket, Semicolon, Comma, Assign, Less, Int}
use Rattle.cilk_syntax.specs.Expected.{kind_of, fits}

pub is_mark : (m : Punct) (k : Kind) → fits m k ≡ true → k ≡ kind_of m
is_mark Open kinds.Open h = refl
is_mark Close kinds.Close h = refl
is_mark OpenBrace kinds.OpenBrace h = refl
is_mark CloseBrace kinds.CloseBrace h = refl
is_mark CloseBracket kinds.CloseBracket h = refl
is_mark Semicolon kinds.Semicolon h = refl
is_mark Comma kinds.Comma h = refl
is_mark Assign kinds.Assign h = refl
is_mark Less kinds.Less h = refl
is_mark Int kinds.Int h = refl
is_mark _ _ h = cc

-- and the mark's kind fits
pub fits_own : (m : Punct) → fits m (kind_of m) ≡ true
fits_own Open = refl
fits_own Close = refl
fits_own OpenBrace = refl
fits_own CloseBrace = refl
fits_own CloseBracket = refl
fits_own Semicolon = refl
fits_own Comma = refl
fits_own Assign = refl
fits_own Less = refl
fits_own Int = refl

-- so a kind that doesn't fit is another
pub not_mark : (m : Punct) (k : Kind) → fits m k ≡ false → k ≢ kind_of m
not_mark m k h = λ e. let t : fits m k ≡ true = ap (λ x. fits m x) e ∙ fits_own m in cc
