-- A trace's text has one verdict, or one first fault.
--
-- - `one_race`, `one_view_clash`: a list of lines has one first race of each kind;
-- - `one_verdict`: a text has one verdict; `one_fault`: one first fault; `fault_or_verdict`: and not both;
-- - `judges_once`: so the command `judge` has one reply.
use Rattle.std.proofs.Common.{◌≡◌, ◌≤◌, ◌<◌, ℕ, ◌-◌, List, [], ◌∷◌, ◌++◌, length, Option, Some, None, inl, inr, refl, sym, ap, ap₂, ◌∙◌, subst, arith, append_assoc, append-nil}
use Rattle.std.specs.Prelude.{IsSome, slice_get}
use Rattle.std.proofs.lemmas.Bool.{cases_lt}
use Rattle.cilk_tree.specs.declared.mark.Mark.{Mark}
use Rattle.cilk_tree.specs.Races.{IsFirstClash}
use Rattle.cilk_tree.specs.Shape.{Shape, SpellsMarks, marks}
use Rattle.cilk_tree.specs.Tree.{Tree, tree}
use Rattle.cilk_tree.proofs.Spelled.{one_shape}
use Rattle.cilk_trace.specs.declared.line.Line.{Line}
use Rattle.cilk_trace.specs.declared.line.Line.TheVariants as lines
use Rattle.cilk_trace.specs.declared.judge.Verdict.{Verdict}
use Rattle.cilk_trace.specs.declared.judge.Verdict.TheVariants as verdicts
use Rattle.cilk_trace.specs.Accesses.{AccessesAt, WritesAt, IsFirstCellRace, IsFirstTraceRace, strand_at}
use Rattle.cilk_trace.specs.Reducers.{IsFirstTraceViewRace, ReadsView, retirements}
use Rattle.cilk_trace.specs.Judging.{IsJudged, Says}
use Rattle.cilk_trace.specs.Marks.{marks_of}
use Rattle.cilk_trace.specs.Surveys.{IsTrace, KeepsLimits}
use Rattle.cilk_trace.specs.declared.fault.TraceFault.{TraceFault}
use Rattle.cilk_trace.specs.declared.fault.TraceFault.TheVariants.{Malformed, Truncated}
use Rattle.cilk_trace.specs.Forms.{reading_of}
use Rattle.cilk_trace.specs.Reading.{Reading}
use Rattle.cilk_trace.specs.Texts.{IsTraceText}
use Rattle.cilk_trace.proofs.Counting.{limits_front}
use Rattle.cilk_trace.proofs.Finding.{of_cell}
use Rattle.cilk_trace.proofs.Forms.{reads_traces}
use Rattle.cilk_commands.specs.TraceTexts.{BeginsTrace, HasVerdict, IsMalformedAt, IsMisplacedAt, IsTruncatedAt}
use Rattle.cilk_commands.specs.Files.{Failures}
use Rattle.cilk_commands.specs.OneReply.{IsOfTexts}
use Rattle.cilk_commands.specs.Replies as replies
use Rattle.cilk_commands.specs.Replies.{BadTrace, Reply, Text}
use Rattle.cilk_commands.specs.Traces.{IsBadAs, JudgeShows, RacesAs, lines_at, verdict_view}

-- ---- the lines of a trace

module _ (L : Type 0) (t : Tree) (strand : ℕ → ℕ) (accesses writes : ℕ → L → Type 0) where
  with_one_later : (p p' q : ℕ) → IsFirstClash L t strand accesses writes p q → IsFirstClash L t strand accesses writes p' q → p ≡ p'
  with_one_later p p' q f g =
      elim (f.greatest p' g.race) [
        | inl less ↦ elim (g.greatest p f.race) [
          | inl more ↦ absurd (omega (arith, less, more))
          | inr same ↦ (let e = same.0 in absurd (omega (arith, less, e)))
        ]
        | inr same ↦ elim (g.greatest p f.race) [
          | inl more ↦ (let e = same.0 in absurd (omega (arith, more, e)))
          | inr also ↦ (let below = same.1 in let above = also.1 in omega (arith, below, above))
        ]
      ]

-- a trace has one first race
module _ (t : Tree) (ls : List Line) where
  one_race : (p q p' q' : ℕ) → IsFirstTraceRace t ls p q → IsFirstTraceRace t ls p' q' → (p ≡ p') × (q ≡ q')
  one_race p q p' q' f g =
      let below = f.least p' q' (of_cell t ls g.cell p' q' g.first.race) in
      let above = g.least p q (of_cell t ls f.cell p q f.first.race) in
      let later : q' ≡ q = omega (arith, below, above) in
      let h : IsFirstTraceRace t ls p' q = subst (λ (k : ℕ). IsFirstTraceRace t ls p' k) later g in
      let one = f.least_cell h.cell p' h.first.race in
      let two = h.least_cell f.cell p f.first.race in
      let cell : h.cell ≡ f.cell = omega (arith, one, two) in (
        with_one_later ℕ t (strand_at ls) (λ p a. AccessesAt ls f.cell a (p - 1)) (λ p a. WritesAt ls f.cell a (p - 1)) p p' q f.first
            (subst (λ (c : ℕ). IsFirstCellRace t ls c p' q) cell h.first),
        sym later,
      )

-- a line reads the view of one reducer
one_reducer : (o : Option Line) (r s : ℕ) → ReadsView o r → ReadsView o s → r ≡ s
one_reducer (Some (lines.Create q z)) r s h k = sym h ∙ k
one_reducer (Some (lines.Value q z)) r s h k = sym h ∙ k
one_reducer o r s h k = absurd h

module _ (t : Tree) (ls : List Line) where
  reads_first : (p p' q : ℕ) → IsFirstTraceViewRace t ls p q → IsFirstTraceViewRace t ls p' q → p ≤ p'
  reads_first p p' q f g =
      let own = f.race.instance in
      let other = g.race.instance in
      let reducer : other.reducer ≡ own.reducer = one_reducer (slice_get ls (q - 1)) other.reducer own.reducer g.race.other.0 f.race.other.0 in
      let age : other.age ≡ own.age = sym g.race.other.1 ∙ (ap (λ (r : ℕ). retirements ls r (q - 1)) reducer ∙ f.race.other.1) in
      f.first_read p' g.race.first (
        subst (ReadsView (slice_get ls (p' - 1))) reducer g.race.one.0,
        sym (ap (λ (r : ℕ). retirements ls r (p' - 1)) reducer) ∙ (g.race.one.1 ∙ age),
      )

  one_view_clash : (p q p' q' : ℕ) → IsFirstTraceViewRace t ls p q → IsFirstTraceViewRace t ls p' q' → (p ≡ p') × (q ≡ q')
  one_view_clash p q p' q' f g =
      let below = f.least p' q' g.race in
      let above = g.least p q f.race in
      let later : q' ≡ q = omega (arith, below, above) in
      let h = subst (λ (k : ℕ). IsFirstTraceViewRace t ls p' k) later g in
      let one = reads_first p p' q f h in
      let two = reads_first p' p q h f in
      (omega (arith, one, two), sym later)

  one_said : (v w : Verdict) → Says t ls v → Says t ls w → v ≡ w
  one_said (verdicts.RaceFree n) (verdicts.RaceFree m) h k = ap verdicts.RaceFree (h.2 ∙ sym k.2)
  one_said (verdicts.RaceFree n) (verdicts.Race p q) h k = absurd (h.0 p q (of_cell t ls k.cell p q k.first.race))
  one_said (verdicts.RaceFree n) (verdicts.ViewRace p q) h k = let race = k.1 in absurd (h.1 p q race.race)
  one_said (verdicts.Race p q) (verdicts.RaceFree n) h k = absurd (k.0 p q (of_cell t ls h.cell p q h.first.race))
  one_said (verdicts.Race p q) (verdicts.Race p' q') h k =
      let same = one_race t ls p q p' q' h k in ap₂ verdicts.Race same.0 same.1
  one_said (verdicts.Race p q) (verdicts.ViewRace p' q') h k = absurd (k.0 p q (of_cell t ls h.cell p q h.first.race))
  one_said (verdicts.ViewRace p q) (verdicts.RaceFree n) h k = let race = h.1 in absurd (k.1 p q race.race)
  one_said (verdicts.ViewRace p q) (verdicts.Race p' q') h k = absurd (h.0 p' q' (of_cell t ls k.cell p' q' k.first.race))
  one_said (verdicts.ViewRace p q) (verdicts.ViewRace p' q') h k =
      let same = one_view_clash p q p' q' h.1 k.1 in ap₂ verdicts.ViewRace same.0 same.1

abbrev later_marks : List Mark → List Mark
later_marks [] = []
later_marks (m ∷ ms) = ms

one_spelled : (s t : Shape) (ms : List Mark) → SpellsMarks s ms → SpellsMarks t ms → s ≡ t
one_spelled s t ms h k = (one_shape s t [] [] (append-nil (marks s) ∙ (ap later_marks (sym h ∙ k) ∙ sym (append-nil (marks t))))).0

one_judged : (ls : List Line) (v w : Verdict) → IsJudged ls v → IsJudged ls w → v ≡ w
one_judged ls v w h k =
    let same : k.shape ≡ h.shape = one_spelled k.shape h.shape (marks_of ls) k.spells h.spells in
    one_said (tree h.shape) ls v w h.says (subst (λ (s : Shape). Says (tree s) ls w) same k.says)

-- ---- a text

one_reading : (text : Text) (ls ks : List Line) → IsTraceText text ls → IsTraceText text ks → ls ≡ ks
one_reading text ls ks h k = ap (λ (r : Reading). r.lines) (sym ((reads_traces text ls).1 h) ∙ (reads_traces text ks).1 k)

one_verdict : (text : Text) (v w : Verdict) → HasVerdict text v → HasVerdict text w → v ≡ w
one_verdict text v w h k =
    let same = one_reading text k.lines h.lines k.spells h.spells in
    one_judged h.lines v w h.judged (subst (λ (ls : List Line). IsJudged ls w) same k.judged)

no_fault : (text : Text) (v : Verdict) (fault : TraceFault) → HasVerdict text v → (reading_of text).fault ≡ Some fault → ⊥
no_fault text v fault h e =
    let c : None ≡ Some fault = sym (ap (λ (r : Reading). r.fault) ((reads_traces text h.lines).1 h.spells)) ∙ e in absurd (cc c)

-- a line among those that a trace begins with isn't misplaced
none_misplaced : (ls before after : List Line) (wrong : Line) → BeginsTrace ls → ls ≡ before ++ wrong ∷ after → BeginsTrace (before ++ wrong ∷ [])
none_misplaced ls before after wrong h e =
    let front : List Line = before ++ wrong ∷ [] in
    let all : ls ≡ front ++ after = e ∙ sym (append_assoc before (wrong ∷ []) after) in
    (after ++ h.0, subst IsTrace (ap (λ (xs : List Line). xs ++ h.0) all ∙ append_assoc front after h.0) h.1, limits_front front after (subst KeepsLimits all h.2))

not_misplaced : (text : Text) (line : ℕ) → BeginsTrace (reading_of text).lines → IsMisplacedAt text line → ⊥
not_misplaced text line h m = m.ends (none_misplaced (reading_of text).lines m.before m.after m.wrong h m.lines)

judged_begins : (text : Text) (v : Verdict) → HasVerdict text v → BeginsTrace (reading_of text).lines
judged_begins text v h =
    let read : (reading_of text).lines ≡ h.lines = ap (λ (r : Reading). r.lines) ((reads_traces text h.lines).1 h.spells) in
    ([], subst IsTrace (sym (append-nil (reading_of text).lines ∙ read)) h.judged.trace, subst KeepsLimits (sym read) h.limits)

fault_or_verdict : (text : Text) (v : Verdict) (number line : ℕ) → HasVerdict text v → IsBadAs number line text → ⊥
fault_or_verdict text v number line h (inl (is, inl k)) = no_fault text v (Malformed line) h k.0
fault_or_verdict text v number line h (inl (is, inr k)) = not_misplaced text line (judged_begins text v h) k
fault_or_verdict text v number line h (inr (is, k)) = no_fault text v (Truncated line) h k.cut

-- the longer one of two beginnings of a list continues the other
continues : (xs ys zs ws : List Line) (x y : Line) → xs ++ x ∷ zs ≡ ys ++ y ∷ ws → length xs < length ys → (more : List Line) × (ys ≡ xs ++ x ∷ more)
continues [] [] zs ws x y e less = absurd (omega (arith, less))
continues [] (z ∷ ys) zs ws x y e less = let head : x ≡ z = cc e in (ys, ap (λ (l : Line). l ∷ ys) (sym head))
continues (z ∷ xs) [] zs ws x y e less = absurd (omega (arith, less))
continues (z ∷ xs) (z' ∷ ys) zs ws x y e less =
    let head : z ≡ z' = cc e in
    let tail : xs ++ x ∷ zs ≡ ys ++ y ∷ ws = cc e in
    let rest = continues xs ys zs ws x y tail (omega (arith, less)) in
    (rest.0, ap₂ (λ (l : Line) (ls : List Line). l ∷ ls) (sym head) rest.1)

not_earlier : (text : Text) (line line' : ℕ) (m : IsMisplacedAt text line) (n : IsMisplacedAt text line') → length m.before < length n.before → ⊥
not_earlier text line line' m n less =
    let more = continues m.before n.before m.after n.after m.wrong n.wrong (sym m.lines ∙ n.lines) less in
    m.ends (none_misplaced n.before m.before more.0 m.wrong n.begins more.1)

one_misplaced : (text : Text) (line line' : ℕ) → IsMisplacedAt text line → IsMisplacedAt text line' → line ≡ line'
one_misplaced text line line' m n =
    elim (cases_lt (length m.before) (length n.before)) [
      | inl less ↦ absurd (not_earlier text line line' m n less)
      | inr most ↦ elim (cases_lt (length n.before) (length m.before)) [
        | inl more ↦ absurd (not_earlier text line' line n m more)
        | inr least ↦ omega (arith, most, least, m.number, n.number)
      ]
    ]

same_malformed : (o : Option TraceFault) (line line' : ℕ) → o ≡ Some (Malformed line) → o ≡ Some (Malformed line') → line ≡ line'
same_malformed o line line' h k = let e : Some (Malformed line) ≡ Some (Malformed line') = sym h ∙ k in cc e

same_truncated : (o : Option TraceFault) (line line' : ℕ) → o ≡ Some (Truncated line) → o ≡ Some (Truncated line') → line ≡ line'
same_truncated o line line' h k = let e : Some (Truncated line) ≡ Some (Truncated line') = sym h ∙ k in cc e

one_malformed : (text : Text) (line line' : ℕ) → IsMalformedAt text line → IsMalformedAt text line' → line ≡ line'
one_malformed text line line' (inl h) (inl k) = same_malformed (reading_of text).fault line line' h.0 k.0
one_malformed text line line' (inl h) (inr k) = absurd (not_misplaced text line' h.1 k)
one_malformed text line line' (inr h) (inl k) = absurd (not_misplaced text line k.1 h)
one_malformed text line line' (inr h) (inr k) = one_misplaced text line line' h k

malformed_or_truncated : (text : Text) (line line' : ℕ) → IsMalformedAt text line → IsTruncatedAt text line' → ⊥
malformed_or_truncated text line line' (inl h) k =
    let e : Some (Malformed line) ≡ Some (Truncated line') = sym h.0 ∙ k.cut in absurd (cc e)
malformed_or_truncated text line line' (inr h) k = not_misplaced text line k.begins h

one_fault : (text : Text) (number number' line line' : ℕ) → IsBadAs number line text → IsBadAs number' line' text → BadTrace number line ≡ BadTrace number' line'
one_fault text number number' line line' (inl (is, h)) (inl (is', k)) = ap₂ BadTrace (is ∙ sym is') (one_malformed text line line' h k)
one_fault text number number' line line' (inl (is, h)) (inr (is', k)) = absurd (malformed_or_truncated text line line' h k)
one_fault text number number' line line' (inr (is, h)) (inl (is', k)) = absurd (malformed_or_truncated text line' line k h)
one_fault text number number' line line' (inr (is, h)) (inr (is', k)) =
    ap₂ BadTrace (is ∙ sym is') (same_truncated (reading_of text).fault line line' h.cut k.cut)

-- ---- the replies of `judge`

-- what a reply says of a text
data Tells (text : Text) (r : Reply) : Type 0 where
  Judges : (v : Verdict) → r ≡ verdict_view v → HasVerdict text v → Tells text r
  Blames : (number line : ℕ) → r ≡ BadTrace number line → IsBadAs number line text → Tells text r

raced : (text : Text) (number p q : ℕ) (places : List ℕ) → places ≡ lines_at p q → RacesAs number p q text → Tells text (replies.Refused number places)
raced text number p q places e (inl (is, h)) = Judges (verdicts.Race p q) (ap₂ replies.Refused is e) h
raced text number p q places e (inr (is, h)) = Judges (verdicts.ViewRace p q) (ap₂ replies.Refused is e) h

said : (path all : Text) (failed failed' : Failures) (r : Reply) → IsOfTexts r → JudgeShows path (Some all) failed failed' r
    → (text : Text) × (text ≡ all) × Tells text r
said path all failed failed' (replies.RaceFree n) v h = let given = h.1 in (given.0, given.1, Judges (verdicts.RaceFree n) refl given.2)
said path all failed failed' (replies.Refused number places) v (none, p, q, e, (text, held, h)) = (text, held, raced text number p q places e h)
said path all failed failed' (replies.BadTrace number line) v h = let given = h.1 in (given.0, given.1, Blames number line refl given.2)
said path all failed failed' (replies.Changed name) v h = absurd h
said path all failed failed' replies.NoMemory v h = absurd v
said path all failed failed' (replies.Unreadable name) v h = absurd v
said path all failed failed' replies.BadWords v h = absurd h
said path all failed failed' (replies.BadProgram n p) v h = absurd h
said path all failed failed' (replies.BadInput n p) v h = absurd h
said path all failed failed' (replies.Faulted n at) v h = absurd h
said path all failed failed' (replies.FaultedIn n name) v h = absurd h
said path all failed failed' (replies.BadScript at) v h = absurd h
said path all failed failed' (replies.Unmade skip) v h = absurd h
said path all failed failed' (replies.Ended names o) v h = absurd h
said path all failed failed' (replies.Certified c) v h = absurd h
said path all failed failed' replies.Accepted v h = absurd h
said path all failed failed' replies.NotEnded v h = absurd h
said path all failed failed' (replies.Settled names o) v h = absurd h

said_once : (text : Text) (r q : Reply) → Tells text r → Tells text q → r ≡ q
said_once text r q (Judges v e h) (Judges w d k) = e ∙ (ap verdict_view (one_verdict text v w h k) ∙ sym d)
said_once text r q (Judges v e h) (Blames number line d k) = absurd (fault_or_verdict text v number line h k)
said_once text r q (Blames number line e h) (Judges w d k) = absurd (fault_or_verdict text w number line k h)
said_once text r q (Blames number line e h) (Blames number' line' d k) = e ∙ (one_fault text number number' line line' h k ∙ sym d)

pub judges_once : (path : Text) (known : Option Text) (failed failed' : Failures) → IsSome known → (r q : Reply) → IsOfTexts r → IsOfTexts q
    → JudgeShows path known failed failed' r → JudgeShows path known failed failed' q → r ≡ q
judges_once path None failed failed' there r q v u h k = absurd (cc there)
judges_once path (Some all) failed failed' there r q v u h k =
    let a = said path all failed failed' r v h in
    let b = said path all failed failed' q u k in
    said_once all r q (subst (λ (x : Text). Tells x r) a.1 a.2) (subst (λ (x : Text). Tells x q) b.1 b.2)
