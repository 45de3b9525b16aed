-- Strands with their frames and labels, and the certificate that they make.
--
-- - `Numbers`, `numbers_first`, `numbers_next`: the state of the pass over the strands;
-- - `labels_fit`, `classes_fit`, `events_few`, `owners_few`: how many there are;
-- - `is_right`, `is_certificate`: the columns make a right certificate.
use Rattle.std.proofs.Common.{◌≡◌, ℕ, ℤ, ◌+◌, ◌-◌, ◌<◌, ◌≤◌, List, [], ◌∷◌, ◌++◌, length, get_or, Some, slice_get, refl, sym, ap, subst, ◌∙◌, arith, length-append}
use Rattle.std.proofs.lemmas.Option.{slice_get-get_or}
use Rattle.std.specs.List.{AllByRecursion}
use Rattle.cilk_types.specs.declared.event.Event.{Event}
use Rattle.cilk_types.specs.declared.limits.TheConstants.{MAX_EVENTS}
use Rattle.cilk_tree.specs.Shape.{Shape, Spells}
use Rattle.cilk_tree.specs.Tree.{tree}
use Rattle.cilk_tree.specs.Hebrew.{hebrews}
use Rattle.cilk_tree.proofs.Order.{length-hebrews}
use Rattle.cilk_peers.specs.Peers.{class_numbers}
use Rattle.cilk_peers.proofs.Same.{length-class_numbers}
use Rattle.cilk_cert_text.specs.declared.line.Frame.{Frame}
use Rattle.cilk_cert_text.specs.declared.line.Strand.{Strand}
use Rattle.cilk_cert_text.specs.declared.line.Entry.{Entry}
use Rattle.cilk_cert_text.specs.declared.line.Version.TheVariants.{Two}
use Rattle.cilk_cert_text.specs.Certificates.{IsCertificate, IsEntry, IsFrame, IsStrand, IsValue}
use Rattle.cilk_cert_maker.specs.Frames.{frames_of, owners_of}
use Rattle.cilk_cert_maker.specs.Listed.{ListsEvent, HasSource}
use Rattle.cilk_cert_maker.specs.Right.{EachAt, IsAt, IsRight}
use Rattle.cilk_cert_maker.proofs.Lengths.{columns_counted, frames_small}
use Rattle.cilk_cert_maker.proofs.Placed.{each_none, each_more, all_both, nowhere_wrong}

-- the first n strands
pub record Numbers (ws hs cs : List ℕ) (n : ℕ) (xs : List Strand) : Type 0 where
  pub many : length xs ≡ n
  pub owners : EachAt (λ (k : ℕ) (x : Strand). IsAt ws k x.frame) xs
  pub hebrews : EachAt (λ (k : ℕ) (x : Strand). IsAt hs k x.hebrew) xs
  pub classes : EachAt (λ (k : ℕ) (x : Strand). IsAt cs k x.class) xs
  pub small : AllByRecursion IsStrand xs

pub numbers_first : (ws hs cs : List ℕ) (xs : List Strand) → xs ≡ [] → Numbers ws hs cs 0 xs
numbers_first ws hs cs xs e =
    subst (λ (l : List Strand). Numbers ws hs cs 0 l) (sym e) (record {
      many = refl;
      owners = each_none (λ (k : ℕ) (x : Strand). IsAt ws k x.frame);
      hebrews = each_none (λ (k : ℕ) (x : Strand). IsAt hs k x.hebrew);
      classes = each_none (λ (k : ℕ) (x : Strand). IsAt cs k x.class);
      small = tt;
    })

at_place : (l : List ℕ) (i v : ℕ) → i < length l → v ≡ get_or l i 0 → IsAt l i v
at_place l i v lt e = slice_get-get_or l i 0 lt ∙ ap (λ (x : ℕ). Some x) (sym e)

-- the item of a column for strand number i + 1
at_strand : (l : List ℕ) (i number v : ℕ) → i < length l → number ≡ i + 1 → v ≡ get_or l (number - 1) 0 → IsAt l i v
at_strand l i number v lt e is =
    let back : number - 1 ≡ i = omega (arith, e) in
    at_place l i v lt (is ∙ ap (λ (k : ℕ). get_or l k 0) back)

pub numbers_next : (ws hs cs : List ℕ) (i number : ℕ) (x : Strand) (xs xs' : List Strand) → Numbers ws hs cs i xs → i < length ws
    → length hs ≡ length ws → length cs ≡ length ws → number ≡ i + 1
    → x.frame ≡ get_or ws i 0 → x.hebrew ≡ get_or hs (number - 1) 0 → x.class ≡ get_or cs (number - 1) 0
    → IsStrand x → xs' ≡ xs ++ x ∷ [] → Numbers ws hs cs (i + 1) xs'
numbers_next ws hs cs i number x xs xs' h lt p q e f g k small grown =
    let many = h.many in
    let long = length-append xs (x ∷ []) in
    let w : IsAt ws i x.frame = at_place ws i x.frame lt f in
    let v : IsAt hs i x.hebrew = at_strand hs i number x.hebrew (omega (arith, lt, p)) e g in
    let u : IsAt cs i x.class = at_strand cs i number x.class (omega (arith, lt, q)) e k in
    subst (λ (l : List Strand). Numbers ws hs cs (i + 1) l) (sym grown) (record {
      many = omega (arith, many, long);
      owners = each_more (λ (k : ℕ) (x : Strand). IsAt ws k x.frame) xs x h.owners (subst (λ (n : ℕ). IsAt ws n x.frame) (sym many) w);
      hebrews = each_more (λ (k : ℕ) (x : Strand). IsAt hs k x.hebrew) xs x h.hebrews (subst (λ (n : ℕ). IsAt hs n x.hebrew) (sym many) v);
      classes = each_more (λ (k : ℕ) (x : Strand). IsAt cs k x.class) xs x h.classes (subst (λ (n : ℕ). IsAt cs n x.class) (sym many) u);
      small = all_both IsStrand xs (x ∷ []) h.small (small, tt);
    })

-- the labels are as many as the frames of the strands
pub labels_fit : (s : Shape) (es : List Event) → Spells s es → (ws hs : List ℕ) → ws ≡ owners_of s → hs ≡ hebrews (tree s) 1 → length hs ≡ length ws
labels_fit s es spells ws hs e f =
    let a = ap (λ (l : List ℕ). length l) e in
    let b = ap (λ (l : List ℕ). length l) f in
    let c = length-hebrews (tree s) 1 in
    let lengths = columns_counted s es spells in
    let d = lengths.owners in
    omega (arith, a, b, c, d)

pub classes_fit : (s : Shape) (es : List Event) → Spells s es → (ws cs : List ℕ) → ws ≡ owners_of s → cs ≡ class_numbers (tree s) 0 1 → length cs ≡ length ws
classes_fit s es spells ws cs e f =
    let a = ap (λ (l : List ℕ). length l) e in
    let b = ap (λ (l : List ℕ). length l) f in
    let c = length-class_numbers (tree s) 0 1 in
    let lengths = columns_counted s es spells in
    let d = lengths.owners in
    omega (arith, a, b, c, d)

-- as many events as entries
pub events_few : (n m : ℕ) → m ≡ n → m ≤ MAX_EVENTS → n ≤ 1000000
events_few n m many few = omega (arith, many, few)

pub owners_few : (s : Shape) (es : List Event) → Spells s es → (ws : List ℕ) → ws ≡ owners_of s → length es ≤ 1000000 → length ws ≤ 1000000
owners_few s es spells ws e few =
    let a = ap (λ (l : List ℕ). length l) e in
    let lengths = columns_counted s es spells in
    let d = lengths.few_owners in
    omega (arith, a, d, few)

pub is_right : (s : Shape) (es : List Event) → Spells s es → (ws hs cs : List ℕ) (fs : List Frame) (xs : List Strand) (ys : List Entry) (v value : ℤ)
    → ws ≡ owners_of s → hs ≡ hebrews (tree s) 1 → cs ≡ class_numbers (tree s) 0 1 → fs ≡ frames_of s
    → length xs ≡ length ws
    → EachAt (λ (k : ℕ) (x : Strand). IsAt ws k x.frame) xs
    → EachAt (λ (k : ℕ) (x : Strand). IsAt hs k x.hebrew) xs
    → EachAt (λ (k : ℕ) (x : Strand). IsAt cs k x.class) xs
    → length ys ≡ length es → EachAt (ListsEvent es) ys → EachAt (HasSource es) ys → v ≡ value
    → IsRight s es value (record { version = Two; frames = fs; strands = xs; events = ys; result = v })
is_right s es spells ws hs cs fs xs ys v value owned labelled classed framed long owners numbers classes many events sources same =
    let a = ap (λ (l : List ℕ). length l) owned in
    let b = ap (λ (l : List ℕ). length l) labelled in
    let c = ap (λ (l : List ℕ). length l) classed in
    let p = labels_fit s es spells ws hs owned labelled in
    let q = classes_fit s es spells ws cs owned classed in
    record {
      events = nowhere_wrong (ListsEvent es) ys (length es) events many;
      frames = nowhere_wrong (IsAt (frames_of s)) fs (length (frames_of s)) (λ k x e. sym (ap (λ (l : List Frame). slice_get l k) framed) ∙ e)
          (ap (λ (l : List Frame). length l) framed);
      owners = nowhere_wrong (λ (k : ℕ) (x : Strand). IsAt (owners_of s) k x.frame) xs (length (owners_of s))
          (subst (λ (l : List ℕ). EachAt (λ (k : ℕ) (x : Strand). IsAt l k x.frame) xs) owned owners) (omega (arith, long, a));
      hebrews = nowhere_wrong (λ (k : ℕ) (x : Strand). IsAt (hebrews (tree s) 1) k x.hebrew) xs (length (hebrews (tree s) 1))
          (subst (λ (l : List ℕ). EachAt (λ (k : ℕ) (x : Strand). IsAt l k x.hebrew) xs) labelled numbers) (omega (arith, long, b, p));
      classes = nowhere_wrong (λ (k : ℕ) (x : Strand). IsAt (class_numbers (tree s) 0 1) k x.class) xs (length (class_numbers (tree s) 0 1))
          (subst (λ (l : List ℕ). EachAt (λ (k : ℕ) (x : Strand). IsAt l k x.class) xs) classed classes) (omega (arith, long, c, q));
      sources = nowhere_wrong (HasSource es) ys (length es) sources many;
      result = same;
    }

pub is_certificate : (s : Shape) (es : List Event) → Spells s es → (ws : List ℕ) (fs : List Frame) (xs : List Strand) (ys : List Entry) (value : ℤ)
    → ws ≡ owners_of s → fs ≡ frames_of s → length xs ≡ length ws → length ys ≡ length es
    → length (frames_of s) ≤ 65536 → length es ≤ 1000000 → AllByRecursion IsStrand xs → AllByRecursion (IsEntry Two) ys → IsValue value
    → IsCertificate (record { version = Two; frames = fs; strands = xs; events = ys; result = value })
is_certificate s es spells ws fs xs ys value owned framed long many few short strands entries word =
    let a = ap (λ (l : List Frame). length l) framed in
    let b = owners_few s es spells ws owned short in
    record {
      few_events = omega (arith, many, short);
      few_frames = omega (arith, a, few);
      few_strands = omega (arith, long, b);
      frames = subst (λ (l : List Frame). AllByRecursion IsFrame l) (sym framed) (frames_small s few);
      strands = strands;
      events = entries;
      result = word;
    }
