-- The lines that are due, counted down.
use Rattle.std.proofs.Common.{◌≡◌, ℕ, zero, suc, ◌+◌, ◌-◌, ◌<◌, ◌≤◌, List, [], ◌∷◌, ◌++◌, refl, ap, ◌∙◌, append_assoc, arith}
use Rattle.cilk_cert_text.specs.declared.line.Version.{Version}
use Rattle.cilk_cert_text.specs.declared.line.Form.{Form}
use Rattle.cilk_cert_text.specs.declared.line.Form.TheVariants as forms
use Rattle.cilk_cert_text.specs.Reading.{frame_forms, strand_forms, event_forms}

pub no_frames : (k f n : ℕ) → n ≤ f → frame_forms k (n - f) ≡ []
no_frames k f n h = let z : n - f ≡ 0 = omega arith in rw z refl

pub no_strands : (k f n : ℕ) → n ≤ f → strand_forms k (n - f) ≡ []
no_strands k f n h = let z : n - f ≡ 0 = omega arith in rw z refl

pub no_events : (v : Version) (f n : ℕ) → n ≤ f → event_forms v (n - f) ≡ []
no_events v f n h = let z : n - f ≡ 0 = omega arith in rw z refl

pub next_frame : (f n : ℕ) (rest : List Form) → f < n → frame_forms (f + 1) (n - f) ++ rest ≡ forms.Frame (f + 1) ∷ (frame_forms (f + 1 + 1) (n - (f + 1)) ++ rest)
next_frame f n rest h = let z : n - f ≡ suc (n - (f + 1)) = omega arith in rw z refl

pub next_strand : (f n : ℕ) (rest : List Form) → f < n → strand_forms (f + 1) (n - f) ++ rest ≡ forms.Strand (f + 1) ∷ (strand_forms (f + 1 + 1) (n - (f + 1)) ++ rest)
next_strand f n rest h = let z : n - f ≡ suc (n - (f + 1)) = omega arith in rw z refl

pub next_event : (v : Version) (f n : ℕ) (rest : List Form) → f < n → event_forms v (n - f) ++ rest ≡ forms.Event v ∷ (event_forms v (n - (f + 1)) ++ rest)
next_event v f n rest h = let z : n - f ≡ suc (n - (f + 1)) = omega arith in rw z refl

-- a column in two parts
pub frames_split : (k a b c m : ℕ) → m ≡ a + b → c ≡ k + a → frame_forms k m ≡ frame_forms k a ++ frame_forms c b
frames_split k zero b c m e d =
    let all : m ≡ b = omega (arith, e) in
    let same : c ≡ k = omega (arith, d) in
    rw (all, same) refl
frames_split k (suc a) b c m e d =
    let more : m ≡ suc (a + b) = omega (arith, e) in
    rw more (ap (λ (l : List Form). forms.Frame k ∷ l) (frames_split (k + 1) a b c (a + b) refl (omega (arith, d))))

pub strands_split : (k a b c m : ℕ) → m ≡ a + b → c ≡ k + a → strand_forms k m ≡ strand_forms k a ++ strand_forms c b
strands_split k zero b c m e d =
    let all : m ≡ b = omega (arith, e) in
    let same : c ≡ k = omega (arith, d) in
    rw (all, same) refl
strands_split k (suc a) b c m e d =
    let more : m ≡ suc (a + b) = omega (arith, e) in
    rw more (ap (λ (l : List Form). forms.Strand k ∷ l) (strands_split (k + 1) a b c (a + b) refl (omega (arith, d))))

pub events_split : (v : Version) (a b m : ℕ) → m ≡ a + b → event_forms v m ≡ event_forms v a ++ event_forms v b
events_split v zero b m e = let all : m ≡ b = omega (arith, e) in rw all refl
events_split v (suc a) b m e =
    let more : m ≡ suc (a + b) = omega (arith, e) in
    rw more (ap (λ (l : List Form). forms.Event v ∷ l) (events_split v a b (a + b) refl))

pub after_frames : (f n count : ℕ) (rest : List Form) → count ≤ n - f
    → frame_forms (f + 1) (n - f) ++ rest ≡ frame_forms (f + 1) count ++ (frame_forms (f + count + 1) (n - (f + count)) ++ rest)
after_frames f n count rest h =
    ap (λ (l : List Form). l ++ rest) (frames_split (f + 1) count (n - (f + count)) (f + count + 1) (n - f) (omega (arith, h)) (omega arith))
    ∙ append_assoc (frame_forms (f + 1) count) (frame_forms (f + count + 1) (n - (f + count))) rest

pub after_strands : (f n count : ℕ) (rest : List Form) → count ≤ n - f
    → strand_forms (f + 1) (n - f) ++ rest ≡ strand_forms (f + 1) count ++ (strand_forms (f + count + 1) (n - (f + count)) ++ rest)
after_strands f n count rest h =
    ap (λ (l : List Form). l ++ rest) (strands_split (f + 1) count (n - (f + count)) (f + count + 1) (n - f) (omega (arith, h)) (omega arith))
    ∙ append_assoc (strand_forms (f + 1) count) (strand_forms (f + count + 1) (n - (f + count))) rest

pub after_events : (v : Version) (f n count : ℕ) (rest : List Form) → count ≤ n - f
    → event_forms v (n - f) ++ rest ≡ event_forms v count ++ (event_forms v (n - (f + count)) ++ rest)
after_events v f n count rest h =
    ap (λ (l : List Form). l ++ rest) (events_split v count (n - (f + count)) (n - f) (omega (arith, h)))
    ∙ append_assoc (event_forms v count) (event_forms v (n - (f + count))) rest

pub sub-zero : (n : ℕ) → n - 0 ≡ n
sub-zero n = omega arith
