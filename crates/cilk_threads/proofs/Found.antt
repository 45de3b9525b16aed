-- The positions of a serial run's frames in its list of events: `end_found`.
--
-- - `long_numbered`, `long_makers`: the events of a run by names are as many as the marks of its
--   shape;
-- - `IsInside`, `ends_in`: an `end` in a run is that of the current frame, or of one inside;
-- - `IsFound`: the frame of an `end`, by its first and last position.
use Rattle.std.proofs.Common.{◌≡◌, ◌⊎◌, ⊎_elim, inl, inr, ℕ, zero, suc, ◌+◌, ◌-◌, ◌<◌, ◌≤◌, ℤ, IsTrue, List, [], ◌∷◌, ◌++◌, length, slice_get, slice_index_or, Some, refl, sym, ap, ◌∙◌, subst, arith, length-append}
use Rattle.std.proofs.lemmas.Bool.{cases_lt}
use Rattle.std.proofs.lemmas.Option.{slice_get_within, slice_get-map, get_or_from_slice_get}
use Rattle.std.specs.Option.{option_map}
use Rattle.cilk_threads.proofs.Places.{nth_left, nth_right}
use Rattle.cilk_types.specs.declared.event.Event as numbers
use Rattle.cilk_types.specs.declared.event.Event.TheVariants as events
use Rattle.cilk_types.specs.declared.invocation.Invocation.{Invocation}
use Rattle.cilk_types.specs.declared.invocation.Invocation.TheVariants.{Call, Spawn}
use Rattle.cilk_types.specs.declared.outcome.Outcome.{Outcome}
use Rattle.cilk_program.specs.Outcomes.{Leaves}
use Rattle.cilk_program.specs.SerialRun.{Transcript, IsSerialRun}
use Rattle.cilk_program.specs.Syntax.{Source}
use Rattle.cilk_program.specs.WellNamed.{is_well_named}
use Rattle.cilk_tree.specs.declared.mark.Mark.TheVariants.{Resume}
use Rattle.cilk_tree.specs.Races.{event_at}
use Rattle.cilk_tree.specs.Shape.{Shape, marks, Spells}
use Rattle.cilk_tree.proofs.Spelled.{spells_one}
use Rattle.cilk_peers.specs.Frames.{IsInner, IsFrame}
use Rattle.cilk_tree.specs.Frames.{IsInFrame}
use Rattle.cilk_shared.specs.Reducers.{frame_in}
use Rattle.cilk_shared.proofs.Quiet.{in_frame}
use Rattle.cilk_determinacy.specs.Runs.{Name, Reads, Writes, Syncs, Ends, Passes, Begins, Resumes, Creates, Updates, Sets, Values, Prints, Run, stop, act, child}
use Rattle.cilk_determinacy.specs.Traces.{Due, begin_due, resume_due, neither_due, IsFramed, shape_of}
use Rattle.cilk_determinacy.specs.FrameEnvs.{FrameEnv, first_env}
use Rattle.cilk_determinacy.specs.Nested.{named}
use Rattle.cilk_determinacy.specs.Numbers.{frame_number, start_event, numbered_events}
use Rattle.cilk_determinacy.specs.Theorem.{IsNumbered}
use Rattle.cilk_determinacy.proofs.Determinate.{serial_numbered}
use Rattle.cilk_determinacy.proofs.Numbered.{events_numbered}
use Rattle.cilk_replay.specs.Owned.{makers, maker_numbers}
use Rattle.cilk_replay.proofs.Owned.{in_their_frames}
use Rattle.cilk_threads.proofs.Opened.{IsFrameOf, AllFrames, frames_open}

-- the `begin` or `resume` that is due comes before the shape's events
abbrev ahead : Due → ℕ
ahead begin_due = 1
ahead resume_due = 1
ahead neither_due = 0

module _ (p : Source) (whole : Transcript) where
  abbrev pub list : Name → Run FrameEnv → List numbers.Event
  list name t = numbered_events p whole name t

  one_more : (n m : ℕ) → n ≡ 0 + m → suc n ≡ 0 + suc m
  one_more n m e = omega (arith, e)

  long_numbered : (due : Due) (name : Name) (t : Run FrameEnv) → IsFramed due t → length (list name t) ≡ ahead due + length (marks (shape_of t))
  long_numbered begin_due name (act (Passes Begins) t) f = let h = long_numbered neither_due name t f in omega (arith, h)
  long_numbered resume_due name (act (Passes Resumes) t) f = let h = long_numbered neither_due name t f in omega (arith, h)
  long_numbered neither_due name (act (Reads c v) t) f = one_more _ _ (long_numbered neither_due name t f)
  long_numbered neither_due name (act (Writes c v) t) f = one_more _ _ (long_numbered neither_due name t f)
  long_numbered neither_due name (act Syncs t) f = one_more _ _ (long_numbered neither_due name t f)
  long_numbered neither_due name (act (Ends v gone) t) f = subst (λ (t : Run FrameEnv). length (list name (act (Ends v gone) t)) ≡ 0 + length (marks (shape_of (act (Ends v gone) t)))) (sym f) refl
  long_numbered neither_due name (act (Passes (Creates i)) t) f = one_more _ _ (long_numbered neither_due name t f)
  long_numbered neither_due name (act (Passes (Updates i x)) t) f = one_more _ _ (long_numbered neither_due name t f)
  long_numbered neither_due name (act (Passes (Sets i x)) t) f = one_more _ _ (long_numbered neither_due name t f)
  long_numbered neither_due name (act (Passes (Values i n)) t) f = one_more _ _ (long_numbered neither_due name t f)
  long_numbered neither_due name (act (Passes (Prints x)) t) f = one_more _ _ (long_numbered neither_due name t f)
  long_numbered neither_due name (child k w u t) f =
      let x = long_numbered begin_due w.name u f.0 in
      let y = long_numbered resume_due name t f.1 in
      let a = length-append (list w.name u) (list name t) in
      let b = length-append (marks (shape_of u)) (Resume ∷ marks (shape_of t)) in
      omega (arith, x, y, a, b)
  long_numbered due name t f = absurd f

  long_makers : (name : Name) (t : Run FrameEnv) → length (makers name t) ≡ length (list name t)
  long_makers name stop = refl
  long_makers name (act e t) = ap suc (long_makers name t)
  long_makers name (child k w u t) =
      let x = long_makers w.name u in
      let y = long_makers name t in
      let a = length-append (makers w.name u) (makers name t) in
      let b = length-append (list w.name u) (list name t) in
      omega (arith, x, y, a, b)

  -- The `end` at a place of the list is of a frame inside, which begins at another. The first event
  -- of the list is at position o.
  record IsInside (shape : Shape) (es : List numbers.Event) (names : List Name) (o j : ℕ) : Type 0 where
    w : FrameEnv
    u : Run FrameEnv
    begin : ℕ
    frame : IsFrameOf p whole w u
    inner : IsInner shape o (o + begin) (o + j)
    maker : slice_get names j ≡ Some w.name
    ends : suc j ≡ begin + length (list w.name u)
    same : (x : ℕ) → x < length (list w.name u) → slice_get es (begin + x) ≡ slice_get (list w.name u) x

  abbrev IsEnd : Name → Run FrameEnv → ℕ → ℕ → Type 0
  IsEnd name t o j = ((slice_get (makers name t) j ≡ Some name) × (suc j ≡ length (list name t))) ⊎ IsInside (shape_of t) (list name t) (makers name t) o j

  -- one more event before
  further : (name : Name) (t : Run FrameEnv) (shape : Shape) (e : numbers.Event) (first : Name) (o j : ℕ) → ((b z : ℕ) → IsInner (shape_of t) (suc o) b z → IsInner shape o b z)
      → IsInside (shape_of t) (list name t) (makers name t) (suc o) j → IsInside shape (e ∷ list name t) (first ∷ makers name t) o (suc j)
  further name t shape e first o j inside h =
      let b : suc o + h.begin ≡ o + suc h.begin = omega arith in
      let z : suc o + j ≡ o + suc j = omega arith in
      let ends = h.ends in
      record {
        w = h.w;
        u = h.u;
        begin = suc h.begin;
        frame = h.frame;
        inner = inside (o + suc h.begin) (o + suc j) (subst (λ (y : ℕ). IsInner (shape_of t) (suc o) (o + suc h.begin) y) z (subst (λ (y : ℕ). IsInner (shape_of t) (suc o) y (suc o + j)) b h.inner));
        maker = h.maker;
        ends = omega (arith, ends);
        same = λ x less. let y : suc h.begin + x ≡ suc (h.begin + x) = omega arith in ap (slice_get (e ∷ list name t)) y ∙ h.same x less;
      }

  next_end : (name : Name) (t : Run FrameEnv) (shape : Shape) (e : numbers.Event) (o j : ℕ) → ((b z : ℕ) → IsInner (shape_of t) (suc o) b z → IsInner shape o b z) → IsEnd name t (suc o) j
      → ((slice_get (name ∷ makers name t) (suc j) ≡ Some name) × (suc (suc j) ≡ length (e ∷ list name t))) ⊎ IsInside shape (e ∷ list name t) (name ∷ makers name t) o (suc j)
  next_end name t shape e o j inside (inl h) = inl (h.0, ap suc h.1)
  next_end name t shape e o j inside (inr h) = inr (further name t shape e name o j inside h)

  act_end : (name : Name) (t : Run FrameEnv) (shape : Shape) (e : numbers.Event) → (Some e ≡ Some events.End → ⊥) → (o : ℕ) → ((b z : ℕ) → IsInner (shape_of t) (suc o) b z → IsInner shape o b z)
      → ((j : ℕ) → slice_get (list name t) j ≡ Some events.End → IsEnd name t (suc o) j) → (j : ℕ) → slice_get (e ∷ list name t) j ≡ Some events.End
      → ((slice_get (name ∷ makers name t) j ≡ Some name) × (suc j ≡ length (e ∷ list name t))) ⊎ IsInside shape (e ∷ list name t) (name ∷ makers name t) o j
  act_end name t shape e other o inside rest zero is = absurd (other is)
  act_end name t shape e other o inside rest (suc j) is = next_end name t shape e o j inside (rest j is)

  -- a child, what is inside, and what comes after it
  module _ (name : Name) (k : Invocation) (w : FrameEnv) (u t : Run FrameEnv) (o : ℕ) (framed : IsFramed neither_due u) where
    abbrev inner_run : Run FrameEnv
    inner_run = act (Passes Begins) u

    abbrev rest_run : Run FrameEnv
    rest_run = act (Passes Resumes) t

    abbrev whole_run : Run FrameEnv
    whole_run = child k w inner_run rest_run

    -- how many events the child has
    abbrev many : ℕ
    many = length (list w.name inner_run)

    long : many ≡ suc (length (marks (shape_of u)))
    long = let h = long_numbered neither_due w.name u framed in omega (arith, h)

    at_first : (x : ℕ) → x < many → slice_get (list name whole_run) (suc x) ≡ slice_get (list w.name inner_run) x
    at_first x less = nth_left (list w.name inner_run) (list name rest_run) x less

    name_first : (x : ℕ) → x < many → slice_get (makers name whole_run) (suc x) ≡ slice_get (makers w.name inner_run) x
    name_first x less = let l = long_makers w.name inner_run in nth_left (makers w.name inner_run) (makers name rest_run) x (omega (arith, less, l))

    at_rest : (x : ℕ) → slice_get (list name whole_run) (suc (many + x)) ≡ slice_get (list name rest_run) x
    at_rest x = nth_right (list w.name inner_run) (list name rest_run) x

    name_rest : (x : ℕ) → slice_get (makers name whole_run) (suc (many + x)) ≡ slice_get (makers name rest_run) x
    name_rest x =
        ap (λ (n : ℕ). slice_get (makers w.name inner_run ++ makers name rest_run) (n + x)) (sym (long_makers w.name inner_run))
        ∙ nth_right (makers w.name inner_run) (makers name rest_run) x

    the_child : IsFrameOf p whole w inner_run → (j : ℕ) → suc (suc j) ≡ many → slice_get (makers w.name inner_run) (suc j) ≡ Some w.name
        → IsInside (shape_of whole_run) (list name whole_run) (makers name whole_run) o (suc (suc j))
    the_child frame j ends maker = record {
      w = w;
      u = inner_run;
      begin = 1;
      frame = frame;
      inner =
          let b : o + 1 ≡ suc o = omega arith in
          let l = long in
          let z : o + suc (suc j) ≡ suc o + length (marks (shape_of u)) = omega (arith, ends, l) in
          inl (b, z);
      maker = name_first (suc j) (omega (arith, ends)) ∙ maker;
      ends = let y : suc (suc (suc j)) ≡ 1 + many = omega (arith, ends) in y;
      same = λ x less. let y : 1 + x ≡ suc x = omega arith in ap (slice_get (list name whole_run)) y ∙ at_first x less;
    }

    inside_child : (j : ℕ) → IsInside (shape_of u) (list w.name u) (makers w.name u) (suc (suc o)) j
        → IsInside (shape_of whole_run) (list name whole_run) (makers name whole_run) o (suc (suc j))
    inside_child j h =
        let b : suc (suc o) + h.begin ≡ o + suc (suc h.begin) = omega arith in
        let z : suc (suc o) + j ≡ o + suc (suc j) = omega arith in
        let ends = h.ends in
        let within = slice_get_within (makers w.name u) j _ h.maker in
        let l = long_makers w.name u in
        record {
          w = h.w;
          u = h.u;
          begin = suc (suc h.begin);
          frame = h.frame;
          inner = inr (inl (subst (λ (y : ℕ). IsInner (shape_of u) (suc (suc o)) (o + suc (suc h.begin)) y) z (subst (λ (y : ℕ). IsInner (shape_of u) (suc (suc o)) y (suc (suc o) + j)) b h.inner)));
          maker = name_first (suc j) (omega (arith, within, l)) ∙ h.maker;
          ends = omega (arith, ends);
          same = λ x less.
              let y : suc (suc h.begin) + x ≡ suc (suc (h.begin + x)) = omega arith in
              ap (slice_get (list name whole_run)) y ∙ at_first (suc (h.begin + x)) (omega (arith, less, ends, within, l)) ∙ h.same x less;
        }

    -- where the rest of the frame continues after the `resume`
    abbrev past : ℕ
    past = suc (suc (suc o + length (marks (shape_of u))))

    inside_rest : (j : ℕ) → IsInside (shape_of t) (list name t) (makers name t) past j
        → IsInside (shape_of whole_run) (list name whole_run) (makers name whole_run) o (suc (many + suc j))
    inside_rest j h =
        let l = long in
        let b : past + h.begin ≡ o + suc (many + suc h.begin) = omega (arith, l) in
        let z : past + j ≡ o + suc (many + suc j) = omega (arith, l) in
        let ends = h.ends in
        record {
          w = h.w;
          u = h.u;
          begin = suc (many + suc h.begin);
          frame = h.frame;
          inner = inr (inr (subst (λ (y : ℕ). IsInner (shape_of t) past (o + suc (many + suc h.begin)) y) z (subst (λ (y : ℕ). IsInner (shape_of t) past y (past + j)) b h.inner)));
          maker = name_rest (suc j) ∙ h.maker;
          ends = omega (arith, ends);
          same = λ x less.
              let y : suc (many + suc h.begin) + x ≡ suc (many + suc (h.begin + x)) = omega arith in
              ap (slice_get (list name whole_run)) y ∙ at_rest (suc (h.begin + x)) ∙ h.same x less;
        }

    child_end : IsFrameOf p whole w inner_run → ((j : ℕ) → slice_get (list w.name u) j ≡ Some events.End → IsEnd w.name u (suc (suc o)) j)
        → ((j : ℕ) → slice_get (list name t) j ≡ Some events.End → IsEnd name t past j)
        → (j : ℕ) → slice_get (list name whole_run) j ≡ Some events.End → IsEnd name whole_run o j
    child_end frame first rest zero is = absurd (no_end k is)
      where
        no_end : (k : Invocation) → Some (start_event k (frame_number p whole w.name)) ≡ Some events.End → ⊥
        no_end Call h = cc h
        no_end Spawn h = cc h
    child_end frame first rest (suc j) is =
        ⊎_elim
        (λ (less : j < many). inner_end j less (sym (at_first j less) ∙ is))
        (λ (le : many ≤ j).
        let m : ℕ = j - many in
        let e : j ≡ many + m = omega (arith, le) in
        subst (λ (y : ℕ). IsEnd name whole_run o (suc y)) (sym e) (rest_end m (sym (at_rest m) ∙ ap (λ (y : ℕ). slice_get (list name whole_run) (suc y)) (sym e) ∙ is)))
        (cases_lt j many)
      where
        inner_of : (j : ℕ) → IsEnd w.name u (suc (suc o)) j → IsEnd name whole_run o (suc (suc j))
        inner_of j (inl h) = inr (the_child frame j (ap suc h.1) h.0)
        inner_of j (inr h) = inr (inside_child j h)

        inner_end : (j : ℕ) → j < many → slice_get (list w.name inner_run) j ≡ Some events.End → IsEnd name whole_run o (suc j)
        inner_end zero less is = absurd (cc is)
        inner_end (suc j) less is = inner_of j (first j is)

        rest_of : (m : ℕ) → IsEnd name t past m → IsEnd name whole_run o (suc (many + suc m))
        rest_of m (inl h) =
            let l = length-append (list w.name inner_run) (list name rest_run) in
            let e = h.1 in
            inl (name_rest (suc m) ∙ h.0, omega (arith, l, e))
        rest_of m (inr h) = inr (inside_rest m h)

        rest_end : (m : ℕ) → slice_get (list name rest_run) m ≡ Some events.End → IsEnd name whole_run o (suc (many + m))
        rest_end zero is = absurd (cc is)
        rest_end (suc m) is = rest_of m (rest m is)

  ends_in : (name : Name) (o : ℕ) (t : Run FrameEnv) → IsFramed neither_due t → AllFrames p whole t → (j : ℕ) → slice_get (list name t) j ≡ Some events.End → IsEnd name t o j
  ends_in name o (act (Reads c v) t) f a = act_end name t (shape_of (act (Reads c v) t)) _ (λ h. cc h) o (λ b z h. h) (ends_in name (suc o) t f a)
  ends_in name o (act (Writes c v) t) f a = act_end name t (shape_of (act (Writes c v) t)) _ (λ h. cc h) o (λ b z h. h) (ends_in name (suc o) t f a)
  ends_in name o (act Syncs t) f a = act_end name t (shape_of (act Syncs t)) _ (λ h. cc h) o (λ b z h. h) (ends_in name (suc o) t f a)
  ends_in name o (act (Ends v gone) t) f a = last o
    where
      last : (o : ℕ) (j : ℕ) → slice_get (events.End ∷ list name t) j ≡ Some events.End → IsEnd name (act (Ends v gone) t) o j
      last o j is = subst (λ (t : Run FrameEnv). slice_get (events.End ∷ list name t) j ≡ Some events.End → IsEnd name (act (Ends v gone) t) o j) (sym f) (by j) is
        where
          by : (j : ℕ) → slice_get (events.End ∷ []) j ≡ Some events.End → IsEnd name (act (Ends v gone) stop) o j
          by zero is = inl (refl, refl)
          by (suc j) is = absurd (cc is)
  ends_in name o (act (Passes (Creates i)) t) f a = act_end name t (shape_of (act (Passes (Creates i)) t)) _ (λ h. cc h) o (λ b z h. h) (ends_in name (suc o) t f a)
  ends_in name o (act (Passes (Updates i x)) t) f a = act_end name t (shape_of (act (Passes (Updates i x)) t)) _ (λ h. cc h) o (λ b z h. h) (ends_in name (suc o) t f a)
  ends_in name o (act (Passes (Sets i x)) t) f a = act_end name t (shape_of (act (Passes (Sets i x)) t)) _ (λ h. cc h) o (λ b z h. h) (ends_in name (suc o) t f a)
  ends_in name o (act (Passes (Values i n)) t) f a = act_end name t (shape_of (act (Passes (Values i n)) t)) _ (λ h. cc h) o (λ b z h. h) (ends_in name (suc o) t f a)
  ends_in name o (act (Passes (Prints x)) t) f a = act_end name t (shape_of (act (Passes (Prints x)) t)) _ (λ h. cc h) o (λ b z h. h) (ends_in name (suc o) t f a)
  ends_in name o (child k w (act (Passes Begins) u) (act (Passes Resumes) t)) f a =
      child_end name k w u t o f.0 a.0 (ends_in w.name (suc (suc o)) u f.0 a.1) (ends_in name (suc (suc (suc o + length (marks (shape_of u))))) t f.1 a.2)
  ends_in name o (child k w (act (Passes Begins) u) t) f a = absurd f.1
  ends_in name o (child k w u t) f a = absurd f.0
  ends_in name o t f a = absurd f

  -- the same of the whole run, by places from 0
  record IsHeld (t : Run FrameEnv) (j : ℕ) : Type 0 where
    w : FrameEnv
    u : Run FrameEnv
    begin : ℕ
    frame : IsFrameOf p whole w u
    place : IsFrame (shape_of t) (suc begin) (suc j)
    maker : slice_get (makers [] t) j ≡ Some w.name
    ends : suc j ≡ begin + length (list w.name u)
    same : (x : ℕ) → x < length (list w.name u) → slice_get (list [] t) (begin + x) ≡ slice_get (list w.name u) x

  held : (t : Run FrameEnv) → IsFramed begin_due t → IsFrameOf p whole (first_env p) t → AllFrames p whole t → (j : ℕ) → slice_get (list [] t) j ≡ Some events.End → IsHeld t j
  held (act (Passes Begins) t) f first a zero is = absurd (cc is)
  held (act (Passes Begins) t) f first a (suc j) is = by (ends_in [] 2 t f a j is)
    where
      by : IsEnd [] t 2 j → IsHeld (act (Passes Begins) t) (suc j)
      by (inl h) =
          let e = h.1 in
          let l = long_numbered neither_due [] t f in
          record {
            w = first_env p;
            u = act (Passes Begins) t;
            begin = 0;
            frame = first;
            place = let z : suc (suc j) ≡ suc (length (marks (shape_of t))) = omega (arith, e, l) in inl (refl, z);
            maker = h.0;
            ends = omega (arith, e);
            same = λ x less. let z : 0 + x ≡ x = omega arith in ap (slice_get (list [] (act (Passes Begins) t))) z;
          }
      by (inr h) =
          let b : 2 + h.begin ≡ suc (suc h.begin) = omega arith in
          let z : 2 + j ≡ suc (suc j) = omega arith in
          let ends = h.ends in
          record {
            w = h.w;
            u = h.u;
            begin = suc h.begin;
            frame = h.frame;
            place = inr (subst (λ (y : ℕ). IsInner (shape_of t) 2 (suc (suc h.begin)) y) z (subst (λ (y : ℕ). IsInner (shape_of t) 2 y (2 + j)) b h.inner));
            maker = h.maker;
            ends = omega (arith, ends);
            same = λ x less. let y : suc h.begin + x ≡ suc (h.begin + x) = omega arith in ap (slice_get (list [] (act (Passes Begins) t))) y ∙ h.same x less;
          }
  held t f first a j is = absurd f

-- ---- by positions

-- The frame of the `end` at position q: it begins at position b, and its events follow there.
pub record IsFound (p : Source) (r : Transcript) (shape : Shape) (es : List numbers.Event) (q : ℕ) : Type 0 where
  pub w : FrameEnv
  pub u : Run FrameEnv
  pub begin : ℕ
  pub frame : IsFrameOf p r w u
  pub low : 1 ≤ begin
  pub place : IsFrame shape begin q
  pub owner : frame_in es q ≡ frame_number p r w.name
  pub ends : suc q ≡ begin + length (numbered_events p r w.name u)
  pub same : (x : ℕ) → x < length (numbered_events p r w.name u) → event_at es (begin + x) ≡ slice_get (numbered_events p r w.name u) x

pub end_found : (p : Source) (inputs : List ℤ) (r : Transcript) (es : List numbers.Event) (outcome : Outcome) (shape : Shape) → IsTrue (is_well_named p)
    → IsSerialRun p inputs r es (Leaves outcome) → Spells shape es → (q : ℕ) → 1 ≤ q → event_at es q ≡ Some events.End → IsFound p r shape es q
end_found p inputs r es outcome shape well runs spells q low is = record {
  w = h.w;
  u = h.u;
  begin = suc h.begin;
  frame = h.frame;
  low = omega arith;
  place = subst (λ (y : ℕ). IsFrame shape (suc h.begin) y) back (subst (λ (s : Shape). IsFrame s (suc h.begin) (suc (q - 1))) one h.place);
  owner = owned h.w.name h.maker;
  ends = let e = h.ends in omega (arith, e, low);
  same = λ x less. let z : suc h.begin + x - 1 ≡ h.begin + x = omega arith in ap (slice_get es) z ∙ ap (λ (l : List numbers.Event). slice_get l (h.begin + x)) written ∙ h.same x less;
}
  where
    n : IsNumbered p inputs r es
    n = serial_numbered p inputs r es outcome well runs

    back : suc (q - 1) ≡ q
    back = omega (arith, low)

    written : es ≡ list p r [] (named p r)
    written = let e = events_numbered p inputs r es (Leaves outcome) well runs in e.events

    one : shape_of (named p r) ≡ shape
    one = spells_one (shape_of (named p r)) shape es n.spells spells

    h : IsHeld p r (named p r) (q - 1)
    h =
        let all = frames_open p inputs r es outcome well runs in
        held p r (named p r) n.framed all.first all.others (q - 1) (ap (λ (l : List numbers.Event). slice_get l (q - 1)) (sym written) ∙ is)

    -- whose frame it is
    number : (name : Name) → slice_get (makers [] (named p r)) (q - 1) ≡ Some name → slice_index_or (maker_numbers p r) (q - 1) 0 ≡ frame_number p r name
    number name maker =
        get_or_from_slice_get (maker_numbers p r) (q - 1) (frame_number p r name) 0
        (slice_get-map (frame_number p r) (makers [] (named p r)) (q - 1) ∙ ap (option_map (frame_number p r)) maker)

    owned : (name : Name) → slice_get (makers [] (named p r)) (q - 1) ≡ Some name → frame_in es q ≡ frame_number p r name
    owned name maker =
        let frames = in_their_frames p inputs r es outcome well runs in
        let within = slice_get_within es (q - 1) events.End is in
        let z : q - 1 + 1 ≡ q = omega (arith, low) in
        in_frame es q (frame_number p r name) low
        (subst (λ (f : ℕ). IsInFrame es q f) (number name maker)
        (subst (λ (y : ℕ). IsInFrame es y (slice_index_or (maker_numbers p r) (q - 1) 0)) z ((frames.each).each (q - 1) within)))
