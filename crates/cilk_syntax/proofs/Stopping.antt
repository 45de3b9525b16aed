-- Results that are passed on to the caller.
use Rattle.std.proofs.Common.{◌≡◌, ◌≤◌, List, [], ◌∷◌, length, refl, sym, ap, subst, arith, IfOk, IfErr, IsErrAnd, Result, Ok, Err, slice_index_or, take, drop, ◌-◌}
use Rattle.std.proofs.lemmas.List.{take_rest}
use Rattle.cilk_syntax.specs.declared.token.Kind.{Kind}
use Rattle.cilk_syntax.specs.Grammar.{Is}
use Rattle.cilk_syntax.specs.declared.token.Token.{Token}
use Rattle.cilk_syntax.specs.declared.stop.Stop.{Stop}
use Rattle.cilk_syntax.specs.Expected.{Symbol, run}
use Rattle.cilk_syntax.specs.Stops.{IsStop}

-- an error that is passed on
pub handed : {T : Type 0} (x : Result T Stop) (e : Stop) (P : Stop → Type 0) → IsErrAnd x (λ y. y ≡ e) → P e → IfErr x P
handed (Ok v) e P h p = absurd h
handed (Err y) e P h p = subst P (sym h) p

-- the result of a call satisfies the caller's clause
pub if_ok : {T E : Type 0} (x : Result T E) (P Q : T → Type 0) → ((v : T) → P v → Q v) → IfOk x P → IfOk x Q
if_ok (Ok v) P Q f h = f v h
if_ok (Err e) P Q f h = h

-- an error of a call satisfies the caller's clause
pub if_err : {T E : Type 0} (x : Result T E) (P Q : E → Type 0) → ((e : E) → P e → Q e) → IfErr x P → IfErr x Q
if_err (Ok v) P Q f h = h
if_err (Err e) P Q f h = f e h

-- reading stops where it stops after a step
pub along : (e : Stop) (ts ts1 : List Token) (front behind : List Symbol) → run ts front 0 ≡ run ts1 behind 0 → IsStop e (run ts1 behind 0) → IsStop e (run ts front 0)
along e ts ts1 front behind h s = subst (λ v. IsStop e v) (sym h) s

-- the first of some tokens
pub first_at : (ts : List Token) (t0 : Token) → 1 ≤ length ts → (t : Token) × (ts1 : List Token) × (ts ≡ t ∷ ts1) × ((slice_index_or ts 0 t0).at ≡ t.at)
first_at [] t0 h = absurd (omega (arith, h))
first_at (t ∷ ts) t0 h = (t, ts, refl, refl)

-- the first of some tokens is of this kind
pub first_is : (ts : List Token) (t0 : Token) (k : Kind) → 1 ≤ length ts → (slice_index_or ts 0 t0).kind ≡ k → Is k ts (take (length ts - 1) (drop 1 ts))
first_is [] t0 k h e = absurd (omega (arith, h))
first_is (t ∷ ts) t0 k h e = (t, ap (λ x. t ∷ x) (sym (take_rest (t ∷ ts) 1)), e)
