-- The strands of a frame, by the events that it shows.
--
-- - `begins_shown`: an event that begins a strand;
-- - `many_shown`, `strands_to`: how many events, and how many strands the first of them begin.
use Rattle.std.proofs.Common.{◌≡◌, ℕ, zero, suc, cond, List, [], ◌∷◌, length, refl, ap, ◌∙◌}
use Rattle.std.specs.Prelude.{take}
use Rattle.cilk_types.specs.declared.invocation.Invocation.TheVariants.{Call, Spawn}
use Rattle.cilk_determinacy.specs.Machine.{begins_strand, strands}
use Rattle.cilk_determinacy.specs.Runs.{Name, Begins, Resumes, Creates, Updates, Sets, Values, Prints, Deed, Does, Invokes, Reads, Writes, Syncs, Ends, Passes}
use Rattle.cilk_determinacy.specs.Runs.{Event as Done}
use Rattle.cilk_determinacy.specs.FrameEnvs.{FrameEnv}
use Rattle.cilk_schedule.specs.Showing.{AreShown, IsEventShown, strands_shown}
use Rattle.cilk_schedule.specs.declared.naming.ShownEvent.{ShownEvent}

module _ (name : ℕ → Name) (count : ℕ) where
  begins_shown : (d : Done) (e : ShownEvent) → IsEventShown name count d e → (es : List ShownEvent) → strands_shown (e ∷ es) ≡ cond (begins_strand d) (suc (strands_shown es)) (strands_shown es)
  begins_shown (Reads c v) e h es = ap (λ x. strands_shown (x ∷ es)) h.2
  begins_shown (Writes c v) e h es = ap (λ x. strands_shown (x ∷ es)) h.2
  begins_shown Syncs e h es = ap (λ x. strands_shown (x ∷ es)) h
  begins_shown (Ends v gone) e h es = ap (λ x. strands_shown (x ∷ es)) h
  begins_shown (Passes Begins) e h es = ap (λ x. strands_shown (x ∷ es)) h
  begins_shown (Passes Resumes) e h es = ap (λ x. strands_shown (x ∷ es)) h
  begins_shown (Passes (Creates i)) e h es = ap (λ x. strands_shown (x ∷ es)) h.2
  begins_shown (Passes (Updates i x)) e h es = ap (λ x. strands_shown (x ∷ es)) h.2
  begins_shown (Passes (Sets i x)) e h es = ap (λ x. strands_shown (x ∷ es)) h.2
  begins_shown (Passes (Values i v)) e h es = ap (λ x. strands_shown (x ∷ es)) h.2
  begins_shown (Passes (Prints x)) e h es = ap (λ x. strands_shown (x ∷ es)) h

  module _ (n : Name) where
    pub many_shown : (z : ℕ) (ds : List (Deed FrameEnv)) (es : List ShownEvent) → AreShown name count n z ds es → length es ≡ length ds
    many_shown z [] [] h = refl
    many_shown z [] (e ∷ es) h = absurd h
    many_shown z (Does d ∷ ds) [] h = absurd h
    many_shown z (Invokes how w ∷ ds) [] h = absurd h
    many_shown z (Does d ∷ ds) (e ∷ es) h = ap suc (many_shown z ds es h.1)
    many_shown z (Invokes how w ∷ ds) (e ∷ es) h = ap suc (many_shown (suc z) ds es h.2)

    pub strands_to : (i z : ℕ) (ds : List (Deed FrameEnv)) (es : List ShownEvent) → AreShown name count n z ds es → strands_shown (take i es) ≡ strands (take i ds)
    strands_to zero z ds es h = refl
    strands_to (suc i) z [] [] h = refl
    strands_to (suc i) z [] (e ∷ es) h = absurd h
    strands_to (suc i) z (Does d ∷ ds) [] h = absurd h
    strands_to (suc i) z (Invokes how w ∷ ds) [] h = absurd h
    strands_to (suc i) z (Does d ∷ ds) (e ∷ es) h = begins_shown d e h.0 (take i es) ∙ ap (λ k. cond (begins_strand d) (suc k) k) (strands_to i z ds es h.1)
    strands_to (suc i) z (Invokes Call w ∷ ds) (e ∷ es) h = ap (λ x. strands_shown (x ∷ take i es)) h.1 ∙ strands_to i (suc z) ds es h.2
    strands_to (suc i) z (Invokes Spawn w ∷ ds) (e ∷ es) h = ap (λ x. strands_shown (x ∷ take i es)) h.1 ∙ strands_to i (suc z) ds es h.2
