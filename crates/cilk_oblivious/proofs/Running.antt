-- A run that is gone through from its first event to its last.
use Rattle.std.proofs.Common.{◌≡◌, ℕ, suc, ◌+◌, ◌<◌, ◌≤◌, ℤ, Bool, false, List, [], ◌∷◌, ◌++◌, length, take, drop, get_or, reverse, sym, ap, ◌∙◌, subst, arith, append-nil, drop-cons}
use Rattle.std.proofs.lemmas.List.{take_more, take_all, drop_all, take-append-drop}
use Rattle.cilk_types.specs.declared.event.Event.{Event}
use Rattle.cilk_types.specs.declared.limits.TheConstants.{MAX_EVENTS, MAX_TICKS}
use Rattle.cilk_program.specs.declared.ask.Ask.{Ask}
use Rattle.cilk_program.specs.declared.ask.Ask.TheVariants.{Begin}
use Rattle.cilk_program.specs.declared.ask.Callee.TheVariants.{Root}
use Rattle.cilk_program.specs.Outcomes.{Conclusion}
use Rattle.cilk_program.specs.Syntax.{Source}
use Rattle.cilk_program.specs.SerialRun.{Transcript, Ending, Serial, before_root, begun, conclusion_of, root_frame}
use Rattle.cilk_lower.specs.Behaves.{Behaves}
use Rattle.cilk_lower.specs.Code.{CodeView}
use Rattle.cilk_frames.specs.Cursor.{first_of}
use Rattle.cilk_oblivious.specs.Open.{IsObliviousRun, Labels}
use Rattle.cilk_oblivious.specs.Cursors.{FrameMarks}
use Rattle.cilk_oblivious.specs.Watching.{AreWaiting, IsWholeSo, Meets, Point, Watching, labels_in}
use Rattle.cilk_oblivious.specs.declared.watch.Met.{Met}
use Rattle.cilk_oblivious.specs.declared.step.Waiting.{Waiting}
use Rattle.cilk_oblivious.specs.declared.watch.Watch.{Watch}
use Rattle.cilk_oblivious.proofs.Watching.{first_point, stopped_whole}

abbrev pub Runs : Source → List ℤ → Transcript → List Event → Ending → Type 0
Runs p inputs run es end = Serial p inputs (root_frame p inputs) MAX_TICKS [] (begun p Root (before_root p inputs MAX_EVENTS)) run es end

module _ (p : Source) (inputs : List ℤ) (hidden : ℕ → Bool) (code : CodeView) where
  pub begins : (w : Watch) (run : Transcript) (es : List Event) (end : Ending) → Behaves p code → w.top.cursor ≡ first_of code Root → w.top.marks ≡ record { words = []; stack = []; held = false } → w.below.items ≡ [] → w.request.asked ≡ Begin → w.request.sent.items ≡ [] → w.request.left ≡ MAX_TICKS
      → Runs p inputs run es end → Watching p inputs hidden code w [] es end
  begins w run es end behaves cursor marks below asked sent left serial =
      let l = labels_in w.memory in
      let p0 = first_point p inputs hidden code l w.top.cursor run es end behaves cursor serial in
      let p1 = subst (λ (k : FrameMarks). Point p inputs hidden code l w.top.cursor k Begin [] MAX_TICKS [] es end []) (sym marks) p0 in
      let p2 = subst (λ (k : Ask). Point p inputs hidden code l w.top.cursor w.top.marks k [] MAX_TICKS [] es end []) (sym asked) p1 in
      let p3 = subst (λ (s : List Bool). Point p inputs hidden code l w.top.cursor w.top.marks w.request.asked s MAX_TICKS [] es end []) (sym sent) p2 in
      let p4 = subst (λ (n : ℕ). Point p inputs hidden code l w.top.cursor w.top.marks w.request.asked w.request.sent.items n [] es end []) (sym left) p3 in
      record { parents = []; point = p4; waits = subst (λ (b : List Waiting). AreWaiting p inputs hidden code (reverse b) []) (sym below) tt }

  -- the next event
  pub next_is : (w : Watch) (es : List Event) (n : ℕ) (d : Event) (end : Ending) → n < length es → Watching p inputs hidden code w (take n es) (drop n es) end → Watching p inputs hidden code w (take n es) (get_or es n d ∷ drop (n + 1) es) end
  next_is w es n d end low h =
      let same : n + 1 ≡ suc n = omega arith in
      let list : drop n es ≡ get_or es n d ∷ drop (n + 1) es = drop-cons es n d low ∙ ap (λ k. get_or es n d ∷ drop k es) (sym same) in
      subst (λ l. Watching p inputs hidden code w (take n es) l end) list h

  pub goes : (w : Watch) (es : List Event) (n : ℕ) (d : Event) (end : Ending) → n < length es → Watching p inputs hidden code w (take n es ++ get_or es n d ∷ []) (drop (n + 1) es) end → Watching p inputs hidden code w (take (n + 1) es) (drop (n + 1) es) end
  goes w es n d end low h = subst (λ l. Watching p inputs hidden code w l (drop (n + 1) es) end) (sym (take_more es n d low)) h

  whole_run : (es : List Event) (end : Ending) (l : Labels) (c : Conclusion) → IsWholeSo p inputs hidden es end l → c ≡ conclusion_of p inputs end → IsObliviousRun p inputs hidden es c
  whole_run es end l c h is = (end, h.0, l, h.1, is)

  pub ended : (es : List Event) (n : ℕ) (d : Event) (end : Ending) (c : Conclusion) → n < length es → (l : Labels) × IsWholeSo p inputs hidden (take n es ++ get_or es n d ∷ []) end l × (drop (n + 1) es ≡ []) → c ≡ conclusion_of p inputs end → IsObliviousRun p inputs hidden es c
  ended es n d end c low h at =
      let all : take (n + 1) es ≡ es = sym (append-nil (take (n + 1) es)) ∙ ap (λ l. take (n + 1) es ++ l) (sym h.2) ∙ take-append-drop (n + 1) es in
      whole_run es end h.0 c (subst (λ l. IsWholeSo p inputs hidden l end h.0) (sym (take_more es n d low) ∙ all) h.1) at

  -- what came of an event
  pub met_as : (w : Watch) (before after : List Event) (end : Ending) (met kind : Met) → met ≡ kind → Meets p inputs hidden code met w before after end → Meets p inputs hidden code kind w before after end
  met_as w before after end met kind is h = subst (λ (m : Met). Meets p inputs hidden code m w before after end) is h

  pub all_met : (w : Watch) (es : List Event) (n : ℕ) (end : Ending) (c : Conclusion) → length es ≤ n → Watching p inputs hidden code w (take n es) (drop n es) end → c ≡ conclusion_of p inputs end → IsObliviousRun p inputs hidden es c
  all_met w es n end c high h at =
      let l = labels_in w.memory in
      let h1 = subst (λ k. Watching p inputs hidden code w k (drop n es) end) (take_all n es high) h in
      let h2 = subst (λ k. Watching p inputs hidden code w es k end) (drop_all n es high) h1 in
      whole_run es end l c (stopped_whole p inputs hidden code l w.top.cursor w.top.marks w.request.asked w.request.sent.items w.request.left es end h2.parents h2.point) at
