-- One pass over the marks of a run gives the frames of the run, and the frame of each strand.
--
-- - `count_frames`: as many frames as the shape has inside;
-- - `frame_walked`: the pass over the marks of a frame, from some point on, and over what follows;
-- - `run_walked`: the whole pass.
use Rattle.std.proofs.Common.{◌≡◌, ℕ, suc, ◌+◌, List, [], ◌∷◌, ◌++◌, length, refl, sym, ap, ◌∙◌, arith, append-nil, append_assoc, length-append}
use Rattle.cilk_types.specs.declared.invocation.Invocation.TheVariants.{Call, Spawn}
use Rattle.cilk_types.specs.declared.invocation.Invocation.{Invocation}
use Rattle.cilk_tree.specs.declared.mark.Mark.{Mark}
use Rattle.cilk_tree.specs.declared.mark.Mark.TheVariants.{Begin, Resume}
use Rattle.cilk_tree.specs.Shape.{Shape, finish, act, sync, child, start_of, marks}
use Rattle.cilk_cert_text.specs.declared.line.Frame.{Frame}
use Rattle.cilk_cert_maker.specs.declared.walk.Open.{Open}
use Rattle.cilk_cert_maker.specs.Frames.{frames_in, frames_from, frames_of, owners_from, owners_of}
use Rattle.cilk_cert_maker.specs.Walk.{Walked, entered, begun, walked, opening}

abbrev at : ℕ → ℕ → List Open → List Frame → List ℕ → Walked
at me made below fs ws = record { top = record { number = me; made = made }; below = below; frames = fs; owners = ws }

abbrev pub back : Open → List Open → List Frame → List ℕ → Walked
back o os fs ws = record { top = o; below = os; frames = fs; owners = ws }

pub count_frames : (s : Shape) (me made begun : ℕ) → length (frames_from s me made begun) ≡ frames_in s
count_frames finish me made begun = refl
count_frames (act r) me made begun = count_frames r me made begun
count_frames (sync r) me made begun = count_frames r me made begun
count_frames (child kind u r) me made begun =
    let a = count_frames u (begun + 1) 0 (begun + 1) in
    let b = count_frames r me (made + 1) (begun + 1 + frames_in u) in
    ap suc (length-append (frames_from u (begun + 1) 0 (begun + 1)) (frames_from r me (made + 1) (begun + 1 + frames_in u)) ∙ omega (arith, a, b))

start : (kind : Invocation) (rest : List Mark) (w : Walked) → walked (start_of kind ∷ rest) w ≡ walked rest (entered w)
start Call rest w = refl
start Spawn rest w = refl

-- the strands and frames of what follows a child that ended, put in their places
frames_join : (fs gs hs : List Frame) (f : Frame) → ((fs ++ f ∷ []) ++ gs) ++ hs ≡ fs ++ (f ∷ (gs ++ hs))
frames_join fs gs hs f = append_assoc (fs ++ f ∷ []) gs hs ∙ append_assoc fs (f ∷ []) (gs ++ hs)

owners_join : (ws us vs : List ℕ) (n me : ℕ) → (((ws ++ n ∷ []) ++ us) ++ me ∷ []) ++ vs ≡ ws ++ (n ∷ (us ++ me ∷ vs))
owners_join ws us vs n me =
    append_assoc ((ws ++ n ∷ []) ++ us) (me ∷ []) vs ∙ append_assoc (ws ++ n ∷ []) us (me ∷ vs) ∙ append_assoc ws (n ∷ []) (us ++ me ∷ vs)

pub frame_walked : (s : Shape) (me made : ℕ) (o : Open) (os : List Open) (fs : List Frame) (ws : List ℕ) (n : ℕ) (rest : List Mark) → length fs ≡ n
    → walked (marks s ++ rest) (at me made (o ∷ os) fs ws) ≡ walked rest (back o os (fs ++ frames_from s me made n) (ws ++ owners_from s me n))
frame_walked finish me made o os fs ws n rest e = ap (walked rest) (let a = append-nil fs in let b = append-nil ws in rw (a, b) refl)
frame_walked (act r) me made o os fs ws n rest e = frame_walked r me made o os fs ws n rest e
frame_walked (sync r) me made o os fs ws n rest e =
    frame_walked r me made o os fs (ws ++ me ∷ []) n rest e
    ∙ ap (λ (l : List ℕ). walked rest (back o os (fs ++ frames_from r me made n) l)) (append_assoc ws (me ∷ []) (owners_from r me n))
frame_walked (child kind u r) me made o os fs ws n rest e =
    let f : Frame = record { parent = me; ordinal = made + 1 } in
    let fs' : List Frame = fs ++ f ∷ [] in
    let us : List Frame = frames_from u (n + 1) 0 (n + 1) in
    let long : length fs' ≡ n + 1 = omega (arith, length-append fs (f ∷ []), e) in
    let longer : length (fs' ++ us) ≡ n + 1 + frames_in u = length-append fs' us ∙ omega (arith, long, count_frames u (n + 1) 0 (n + 1)) in
    let ws' : List ℕ = (ws ++ (n + 1) ∷ []) ++ owners_from u (n + 1) (n + 1) in
    ap (λ (l : List Mark). walked l (at me made (o ∷ os) fs ws)) (append_assoc (start_of kind ∷ Begin ∷ marks u) (Resume ∷ marks r) rest)
    ∙ start kind (Begin ∷ (marks u ++ (Resume ∷ (marks r ++ rest)))) (at me made (o ∷ os) fs ws)
    ∙ ap (λ (m : ℕ). walked (marks u ++ (Resume ∷ (marks r ++ rest))) (at (m + 1) 0 (record { number = me; made = made + 1 } ∷ o ∷ os) fs' (ws ++ (m + 1) ∷ []))) e
    ∙ frame_walked u (n + 1) 0 (record { number = me; made = made + 1 }) (o ∷ os) fs' (ws ++ (n + 1) ∷ []) (n + 1) (Resume ∷ (marks r ++ rest)) long
    ∙ frame_walked r me (made + 1) o os (fs' ++ us) (ws' ++ me ∷ []) (n + 1 + frames_in u) rest longer
    ∙ ap (λ (l : List Frame). walked rest (back o os l ((ws' ++ me ∷ []) ++ owners_from r me (n + 1 + frames_in u)))) (frames_join fs us (frames_from r me (made + 1) (n + 1 + frames_in u)) f)
    ∙ ap (λ (l : List ℕ). walked rest (back o os (fs ++ frames_from (child kind u r) me made n) l)) (owners_join ws (owners_from u (n + 1) (n + 1)) (owners_from r me (n + 1 + frames_in u)) (n + 1) me)

pub run_walked : (s : Shape) → walked (Begin ∷ marks s) opening ≡ back (record { number = 0; made = 0 }) [] (frames_of s) (owners_of s)
run_walked s = ap (λ (l : List Mark). walked l (begun opening)) (sym (append-nil (marks s))) ∙ frame_walked s 1 0 (record { number = 0; made = 0 }) [] (record { parent = 0; ordinal = 0 } ∷ []) (1 ∷ []) 1 [] refl
