-- What no pull from a file changes.
--
-- - `parted`: texts of the same length before others;
-- - `kept_beside`: if it is the same, no read of a file other than the first failed, and the
--   contents of both are still known;
-- - `stays`: the same where no pull failed; `fails`: the file whose device failed, `reached`: and where;
-- - `pulled`: a part of a file that a pull gave; `holds_to`: what was pulled of a file is a front of its contents.
use Rattle.std.proofs.Common.{◌≡◌, ℕ, List, [], ◌∷◌, ◌++◌, length, ◌+◌, take, drop, Option, Some, None, option_map, refl, sym, ap, ap₂, subst, ◌∙◌, arith, length-append, length-drop, length-take}
use Rattle.std.specs.Prelude.{◌<◌, ◌≤◌}
use Rattle.std.proofs.lemmas.List.{drop-drop, take-append-drop}
use Rattle.std.specs.Io.KnownBytes.{Consumes}
use Rattle.cilk_checker.specs.Pulls.{Takes}
use Rattle.cilk_commands.specs.Files.{Failures, HasFailed, HoldsTo, IsPart, IsUnfailed}
use Rattle.cilk_commands.specs.Replies.{Text}
use Rattle.cilk_commands.specs.Sources.{kept_of, numbers_of, text_ahead}

pub parted : (xs ys r s : List ℕ) → length xs ≡ length ys → xs ++ r ≡ ys ++ s → (xs ≡ ys) × (r ≡ s)
parted [] [] r s l e = (refl, e)
parted [] (y ∷ ys) r s l e = absurd (omega (arith, l))
parted (x ∷ xs) [] r s l e = absurd (omega (arith, l))
parted (x ∷ xs) (y ∷ ys) r s l e =
    let head : x ≡ y = cc e in
    let tail : xs ++ r ≡ ys ++ s = cc e in
    let rest = parted xs ys r s (omega (arith, l)) tail in
    (ap₂ (λ (z : ℕ) (zs : List ℕ). z ∷ zs) head rest.0, rest.1)

ahead : (xs ys r s : List ℕ) → text_ahead xs r ≡ text_ahead ys s → (xs ≡ ys) × (r ≡ s)
ahead xs ys r s e =
    let l : length xs ≡ length ys = cc e in
    let t : xs ++ r ≡ ys ++ s = cc e in
    parted xs ys r s l t

known_same : (a b : Option Text) → numbers_of a ≡ numbers_of b → a ≡ b
known_same None None e = refl
known_same None (Some y) e = absurd (cc e)
known_same (Some x) None e = absurd (cc e)
known_same (Some x) (Some y) e = ap (λ (t : Text). Some t) (let z : x ≡ y = cc e in z)

-- the parts that are the same in both
pub record Beside (b c : ℕ) (f g : Failures) (files files' : Text → Option Text) (p q o n : Text) : Type 0 where
  pub before : b ≡ c
  pub path : p ≡ q
  pub other : o ≡ n
  pub first : f.elsewhere p ≡ g.elsewhere q
  pub own : files p ≡ files' q
  pub known : files o ≡ files' n

pub kept_beside : (b c : ℕ) (f g : Failures) (files files' : Text → Option Text) (p q o n : Text) → kept_of b f files p o ≡ kept_of c g files' q n
    → Beside b c f g files files' p q o n
kept_beside b c f g files files' p q o n e =
    let before : b ≡ c = cc e in
    let first : f.elsewhere p ≡ g.elsewhere q = cc e in
    let rest : text_ahead p (text_ahead o (text_ahead (numbers_of (files p)) (numbers_of (files o))))
    ≡ text_ahead q (text_ahead n (text_ahead (numbers_of (files' q)) (numbers_of (files' n)))) = cc e in
    let paths = ahead p q _ _ rest in
    let others = ahead o n _ _ paths.1 in
    let contents = ahead (numbers_of (files p)) (numbers_of (files' q)) _ _ others.1 in record {
      before = before;
      path = paths.0;
      other = others.0;
      first = first;
      own = known_same (files p) (files' q) contents.0;
      known = known_same (files o) (files' n) contents.1;
    }

-- the state stays the same
pub same_kept : (before : ℕ) (f g : Failures) (files files' : Text → Option Text) (path other : Text) → g.elsewhere path ≡ f.elsewhere path
    → ((p : Text) → files' p ≡ files p) → kept_of before g files' path other ≡ kept_of before f files path other
same_kept before f g files files' path other e d =
    ap₂ (λ (n : ℕ) (t : Option Text × Option Text).
    before ∷ n ∷ text_ahead path (text_ahead other (text_ahead (numbers_of t.0) (numbers_of t.1)))) e (ap₂ (λ (x y : Option Text). (x, y)) (d path) (d other))

-- a source over files that are given back as the source left them
module _ {F : Type 0} (failed : F → Failures) (holds : F → Text → Option Text) (old made new last : F) (b c : ℕ) (p q o n path other : Text) (same : made ≡ old)
    (here : p ≡ path) (there : o ≡ other) (kept : kept_of c (failed new) (holds new) q n ≡ kept_of b (failed made) (holds made) p o) (given : last ≡ new) where
  beside : Beside c b (failed new) (failed made) (holds new) (holds made) q p n o
  beside = kept_beside c b (failed new) (failed made) (holds new) (holds made) q p n o kept

  first : (failed last).elsewhere path ≡ (failed old).elsewhere path
  first =
      sym (ap (failed last).elsewhere (beside.path ∙ here))
      ∙ (ap (λ (y : F). (failed y).elsewhere q) given ∙ (beside.first ∙ (ap (λ (x : F). (failed x).elsewhere p) same ∙ ap (failed old).elsewhere here)))

  -- the contents of the source's own file, and of the other one, are the same
  pub own : holds new q ≡ holds old path
  own = beside.own ∙ ap₂ holds same here

  pub known : holds last other ≡ holds old other
  known = ap₂ holds given (sym (beside.other ∙ there)) ∙ (beside.known ∙ ap₂ holds same there)

  -- nothing failed, and the other file's contents are the same
  pub stays : (failed new).count ≡ (failed made).count → IsUnfailed (failed old) (failed last) path × (holds last other ≡ holds old other)
  stays count =
      let counts : (failed last).count ≡ (failed old).count =
      ap (λ (y : F). (failed y).count) given ∙ count ∙ ap (λ (x : F). (failed x).count) same in
      (record { count = counts; elsewhere = first }, known)

  -- the device that failed is that of the source's own file
  pub fails : (failed made).count < (failed new).count → HasFailed path (failed old) (failed last)
  fails count =
      let risen : (failed old).count < (failed last).count =
      subst (λ (y : F). (failed old).count < (failed y).count) (sym given) (subst (λ (x : F). (failed x).count < (failed new).count) same count) in
      (risen, first)

  -- the last read that failed was from the byte that the source had come to, or from an earlier one
  pub reached : (at : ℕ) → b ≡ (failed old).count → (c < (failed new).count → (failed new).at ≤ at) → (failed made).count < (failed new).count
      → (failed last).at ≤ at
  reached at begun stopped count =
      let before : c ≡ b = beside.before in
      let counts : (failed made).count ≡ (failed old).count = ap (λ (x : F). (failed x).count) same in
      subst (λ (y : F). (failed y).at ≤ at) (sym given) (stopped (omega (arith, before, begun, counts, count)))

-- ---- the front of a file

-- a pull gives the next part
pub pulled : (known known' : Option Text) (at n : ℕ) (bytes : List ℕ) → known' ≡ known → IsPart known at n bytes
    → Consumes (option_map (drop at) known) (option_map (drop (at + n)) known') (take n bytes)
pulled known known' at n bytes same part =
    subst (λ (k : Option Text). Consumes (option_map (drop at) known) (option_map (drop (at + n)) k) (take n bytes)) (sym same) (by known part)
  where
    by : (k : Option Text) → IsPart k at n bytes → Consumes (option_map (drop at) k) (option_map (drop (at + n)) k) (take n bytes)
    by None h = tt
    by (Some all) h =
        sym (take-append-drop n (drop at all)) ∙ ap₂ (λ (xs ys : List ℕ). xs ++ ys) (sym h) (drop-drop n at all)

held_front : (P : List ℕ → Type 0) (all bytes : Text) (stop at : ℕ) → at ≤ stop → all ≡ bytes ++ drop stop all → P bytes
    → (n : ℕ) × (at ≤ n) × P (take n all)
held_front P all bytes stop at le taken h =
    let size = length-append bytes (drop stop all) in
    let whole = ap length taken in
    let left = length-drop stop all in
    let front = length-take stop all in
    let parts = parted bytes (take stop all) (drop stop all) (drop stop all) (omega (arith, size, whole, left, front))
    (sym taken ∙ sym (take-append-drop stop all)) in
    (stop, le, subst P parts.0 h)

-- what was pulled from a file's first byte on
pub holds_to : (P : List ℕ → Type 0) (known known' left' : Option Text) (begin stop at : ℕ) → known' ≡ known → left' ≡ known → begin ≡ 0 → at ≤ stop
    → Takes (option_map (drop begin) known') (option_map (drop stop) left') P → HoldsTo known at P
holds_to P known known' left' begin stop at same still first le taken =
    by known (subst (λ (x : Option Text). Takes (option_map (drop begin) x) (option_map (drop stop) known) P) same
    (subst (λ (x : Option Text). Takes (option_map (drop begin) known') (option_map (drop stop) x) P) still taken))
  where
    by : (k : Option Text) → Takes (option_map (drop begin) k) (option_map (drop stop) k) P → HoldsTo k at P
    by None t = tt
    by (Some all) t =
        held_front P all t.0 stop at le (subst (λ (i : ℕ). drop i all ≡ t.0 ++ drop stop all) first t.1) t.2
