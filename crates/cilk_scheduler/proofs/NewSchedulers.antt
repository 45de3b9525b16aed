-- A scheduler made in these parts is new.
--
-- - `get_behind`, `get_zero`: a place past a list, and in one of zeros;
-- - `root_is`: the first frame's activation;
-- - `schedulers_are_new`: the law.
use Rattle.std.proofs.Common.{◌≡◌, ⊎_elim, ◌+◌, ◌<◌, ℕ, zero, suc, nat_eq, eqb-true, false, if◌then◌else◌, ℤ, pos, List, [], ◌∷◌, ◌++◌, length, replicate, slice_get, Option, Some, None, refl, sym, ap, ap₂, ◌∙◌, subst, length-append, arith}
use Rattle.std.proofs.lemmas.Bool.{cases_Bool}
use Rattle.std.proofs.lemmas.List.{length-replicate}
use Rattle.cilk_types.specs.declared.invocation.Invocation.TheVariants.{Call}
use Rattle.cilk_program.specs.declared.ask.Callee.TheVariants as callees
use Rattle.cilk_program.specs.SerialRun.{cells_of, home_of}
use Rattle.cilk_program.specs.Syntax.{Source}
use Rattle.cilk_lower.specs.Code.{CodeView}
use Rattle.cilk_frames.specs.Cursor.{CursorView}
use Rattle.cilk_frames.specs.Sight.{HasScope}
use Rattle.cilk_frames.specs.declared.activation.Activation.{Activation}
use Rattle.cilk_scheduler.specs.declared.frame_state.FrameState.{FrameState}
use Rattle.cilk_scheduler.specs.declared.frame_state.Worker.{Worker}
use Rattle.cilk_scheduler.specs.Openings.{IsNew, first_frame_state}
use Rattle.cilk_scheduler.specs.Parts.{SchedulersAreNew, OpensAs}
use Rattle.cilk_scheduler.specs.FrameStates.{seated}
use Rattle.cilk_scheduler.proofs.Placed.{get_first}

get_behind : {A : Type 0} (xs ys : List A) (n : ℕ) → slice_get (xs ++ ys) (length xs + n) ≡ slice_get ys n
get_behind [] ys n = ap (λ q. slice_get ys q) (omega arith)
get_behind (x ∷ xs) ys n = let e : suc (length xs) + n ≡ suc (length xs + n) = omega arith in ap (λ q. slice_get (x ∷ (xs ++ ys)) q) e ∙ get_behind xs ys n

get_zero : (n k : ℕ) → k < n → slice_get (replicate n (pos 0)) k ≡ Some (pos 0)
get_zero zero k low = absurd (omega (arith, low))
get_zero (suc n) zero low = refl
get_zero (suc n) (suc k) low = get_zero n k (omega (arith, low))

off_zero : (v : ℕ) → nat_eq (suc v) 0 ≡ false
off_zero v = ⊎_elim (λ q. let e : suc v ≡ 0 = eqb-true (suc v) 0 q in absurd (omega (arith, e))) (λ f. f) (cases_Bool (nat_eq (suc v) 0))

module _ (code : CodeView) (p : Source) (c : CursorView) (root : Activation FrameState) where
  root_is : root.cursor ≡ seated 0 0 Call 0 c → root.number ≡ 1 → root.base ≡ length p.openings → root.result ≡ None → (let l = code.layout in root.creator ≡ Some l.main) → root ≡ first_frame_state code p c root
  root_is cursor number base result creator =
      ap (λ (z : FrameState). record root { cursor = z }) cursor
      ∙ ap (λ (z : ℕ). record root { cursor = seated 0 0 Call 0 c; number = z }) number
      ∙ ap (λ (z : ℕ). record root { cursor = seated 0 0 Call 0 c; number = 1; base = z }) base
      ∙ ap (λ (z : Option ℕ). record root { cursor = seated 0 0 Call 0 c; number = 1; base = length p.openings; result = z }) result
      ∙ ap (λ (z : Option ℕ). record root { cursor = seated 0 0 Call 0 c; number = 1; base = length p.openings; result = None; creator = z }) creator

module _ (code : CodeView) (p : Source) (inputs : List ℤ) where
  pub schedulers_are_new : SchedulersAreNew code p inputs
  schedulers_are_new b c root count lays stands owes sees cursor number base result creator frames cells many each offered journal ticks outcome = by (let l = b.workers in l.items) refl many
    where
      openings : (let l = code.layout in length l.openings) ≡ length p.openings
      openings = ap (λ (z : List ℤ). length z) lays.openings

      is : root ≡ first_frame_state code p c root
      is = root_is code p c root cursor number (base ∙ openings) result creator

      frames_are : (let f = b.frames in f.items) ≡ first_frame_state code p c root ∷ []
      frames_are = frames ∙ ap (λ (z : Activation FrameState). z ∷ []) is

      sees_so : let f = b.frames in HasScope f.items (first_frame_state code p c root) (home_of p callees.Root 1 (length p.openings) [] ∷ [])
      sees_so =
          let f = b.frames in
          let l = code.layout in
          subst (λ (z : Activation FrameState). HasScope f.items z (home_of p callees.Root 1 (length p.openings) [] ∷ [])) is
          (subst (λ n. HasScope f.items root (home_of p callees.Root 1 n [] ∷ [])) openings (sees p f.items openings (ap (λ z. length z) lays.reducers)))

      cells_are : (let d = b.cells in d.items) ≡ p.openings ++ replicate (cells_of p callees.Root) (pos 0)
      cells_are = cells ∙ ap₂ (λ l n. l ++ replicate n (pos 0)) lays.openings (lays.cells callees.Root)

      by : (ws : List Worker) → (let l = b.workers in l.items) ≡ ws → (let l = b.workers in length l.items) ≡ suc count → (h : IsNew code p inputs b) × (let l = h.others in length l ≡ count)
      by [] at n = let z : 0 ≡ suc count = sym (ap (λ (l : List Worker). length l) at) ∙ n in absurd (omega (arith, z))
      by (first ∷ others) at n =
          let rest : suc (length others) ≡ suc count = sym (ap (λ (l : List Worker). length l) at) ∙ n in (
            record {
              root = root;
              cursor = c;
              first = first;
              others = others;
              frames = frames_are;
              stands = stands;
              owes = owes;
              sees = sees_so;
              count = ap (λ (l : List ℤ). length l) cells_are ∙ length-append p.openings (replicate (cells_of p callees.Root) (pos 0)) ∙ ap (λ n. length p.openings + n) (length-replicate (cells_of p callees.Root) (pos 0));
              globals = λ n low. ap (λ l. slice_get l n) cells_are ∙ get_first p.openings (replicate (cells_of p callees.Root) (pos 0)) n low;
              own = λ n low. ap (λ l. slice_get l (length p.openings + n)) cells_are ∙ get_behind p.openings (replicate (cells_of p callees.Root) (pos 0)) n ∙ get_zero (cells_of p callees.Root) n low;
              workers = at;
              has = let o = opens 0 first refl in o.0;
              idles = λ v u there. let o = opens (suc v) u there in o.0 ∙ ap (λ t. if t then Some 0 else None) (off_zero v);
              offers = λ v u there. let o = opens v u there in o.1;
              empty = let o = opens 0 first refl in o.2;
              offered = offered;
              journal = journal;
              ticks = ticks;
              outcome = outcome;
            },
            omega (arith, rest),
          )
        where
          opens : (v : ℕ) (u : Worker) → slice_get (first ∷ others) v ≡ Some u → OpensAs v u
          opens v u there = each v u (ap (λ l. slice_get l v) at ∙ there)
