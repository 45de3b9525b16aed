-- How long the columns of a run are, and how great their numbers.
--
-- - `columns_counted`: the lengths of both columns of a trace;
-- - `frames_small`: where few frames begin, each frame's numbers have 32 bits.
use Rattle.std.proofs.Common.{◌≡◌, ℕ, ◌+◌, ◌≤◌, ◌<◌, ◌^◌, List, ◌∷◌, length, refl, sym, ap, ◌∙◌, arith, length-append}
use Rattle.std.proofs.lemmas.List.{length-map}
use Rattle.std.specs.List.{AllByRecursion}
use Rattle.cilk_types.specs.declared.event.Event.{Event}
use Rattle.cilk_tree.specs.declared.mark.Mark.{Mark}
use Rattle.cilk_tree.specs.declared.mark.Mark.TheVariants.{Resume}
use Rattle.cilk_tree.specs.Marks.{mark_of}
use Rattle.cilk_tree.specs.Shape.{Shape, finish, act, sync, child, marks, Spells}
use Rattle.cilk_tree.specs.Tree.{blocks, block, rest_of}
use Rattle.cilk_tree.proofs.Strands.{number, leaves-block, leaves-blocks, leaves-beside}
use Rattle.cilk_cert_text.specs.Certificates.{IsFrame}
use Rattle.cilk_cert_maker.specs.Frames.{frames_in, frames_from, frames_of, owners_from}
use Rattle.cilk_cert_maker.specs.ListingLaws.{ColumnsAreCounted}
use Rattle.cilk_cert_maker.proofs.Placed.{all_both}
use Rattle.cilk_cert_maker.proofs.Spelling.{count_frames}

few_frames : (s : Shape) → frames_in s ≤ length (marks s)
few_frames finish = omega arith
few_frames (act r) = let h = few_frames r in omega (arith, h)
few_frames (sync r) = let h = few_frames r in omega (arith, h)
few_frames (child kind u r) = let h = few_frames u in let i = few_frames r in let a = length-append (marks u) (Resume ∷ marks r) in omega (arith, h, i, a)

few_owners : (s : Shape) (me begun : ℕ) → length (owners_from s me begun) ≤ length (marks s)
few_owners finish me begun = omega arith
few_owners (act r) me begun = let h = few_owners r me begun in omega (arith, h)
few_owners (sync r) me begun = let h = few_owners r me begun in omega (arith, h)
few_owners (child kind u r) me begun =
    let h = few_owners u (begun + 1) (begun + 1) in
    let i = few_owners r me (begun + 1 + frames_in u) in
    let a = length-append (marks u) (Resume ∷ marks r) in
    let b = length-append (owners_from u (begun + 1) (begun + 1)) (me ∷ owners_from r me (begun + 1 + frames_in u)) in
    omega (arith, h, i, a, b)

owners_leaves : (s : Shape) (me begun : ℕ) → length (owners_from s me begun) ≡ number (rest_of s).after + number (rest_of s).later
owners_leaves finish me begun = refl
owners_leaves (act r) me begun = owners_leaves r me begun
owners_leaves (sync r) me begun = let h = owners_leaves r me begun in let p = leaves-blocks (rest_of r) in omega (arith, h, p)
owners_leaves (child kind u r) me begun =
    let h = owners_leaves u (begun + 1) (begun + 1) in
    let i = owners_leaves r me (begun + 1 + frames_in u) in
    let b = length-append (owners_from u (begun + 1) (begun + 1)) (me ∷ owners_from r me (begun + 1 + frames_in u)) in
    let p = leaves-beside kind (blocks (rest_of u)) (block (rest_of r)) in
    let q = leaves-blocks (rest_of u) in
    let t = leaves-block (rest_of r) in
    omega (arith, h, i, b, p, q, t)

pub columns_counted : (s : Shape) (es : List Event) → Spells s es → ColumnsAreCounted s es
columns_counted s es spells =
    let long = sym (length-map es mark_of) ∙ ap (λ (l : List Mark). length l) spells in
    let a = count_frames s 1 0 1 in
    let b = few_frames s in
    let c = few_owners s 1 1 in
    let d = owners_leaves s 1 1 in
    let e = leaves-blocks (rest_of s) in
    record {
      frames = omega (arith, a);
      few_frames = omega (arith, a, b, long);
      owners = omega (arith, d, e);
      few_owners = omega (arith, c, long);
    }

inner_small : (s : Shape) (me made begun : ℕ) → me ≤ begun → made ≤ begun → begun + frames_in s < 2 ^ 32 → AllByRecursion IsFrame (frames_from s me made begun)
inner_small finish me made begun p q few = tt
inner_small (act r) me made begun p q few = inner_small r me made begun p q few
inner_small (sync r) me made begun p q few = inner_small r me made begun p q few
inner_small (child kind u r) me made begun p q few = (
  (omega (arith, p, few), omega (arith, q, few)),
  all_both IsFrame (frames_from u (begun + 1) 0 (begun + 1)) (frames_from r me (made + 1) (begun + 1 + frames_in u))
      (inner_small u (begun + 1) 0 (begun + 1) (omega arith) (omega arith) (omega (arith, few)))
      (inner_small r me (made + 1) (begun + 1 + frames_in u) (omega (arith, p)) (omega (arith, q)) (omega (arith, few))),
)

pub frames_small : (s : Shape) → length (frames_of s) ≤ 65536 → AllByRecursion IsFrame (frames_of s)
frames_small s few =
    let a = count_frames s 1 0 1 in
    ((omega arith, omega arith), inner_small s 1 0 1 (omega arith) (omega arith) (omega (arith, a, few)))
