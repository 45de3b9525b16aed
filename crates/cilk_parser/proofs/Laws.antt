-- Where reading stops, in terms of the grammar. Reading walks over the tokens before the stop. The
-- symbols expected after them can be completed, and every text that begins with them is read in the
-- same way.
use Rattle.std.proofs.Common.{◌≡◌, ℕ, Bool, true, false, List, [], ◌∷◌, ◌++◌, Option, Some, None, refl, sym, ap, ◌∙◌, subst, append_assoc, append-nil, cond}
use Rattle.cilk_syntax.specs.declared.token.Token.{Token}
use Rattle.cilk_syntax.specs.Trees.{Item}
use Rattle.cilk_syntax.specs.Expected.{Symbol, Items, After, Goes, Fails, Verdict, Whole, Unexpected, PastLimit, after, at_end, may_end, settled, run}
use Rattle.cilk_syntax.specs.Grammar.{SpellsItems}
use Rattle.cilk_syntax.specs.Limits.{Within, IsFirstPast, excess_items}
use Rattle.cilk_parser.specs.Refused.{Begins, Refused, GoesPast, IsRefusal, IsPastLimit}
use Rattle.cilk_parser.proofs.Accepted.{accepted}
use Rattle.cilk_parser.proofs.Completes.{finish, Sound, SoundAfter, kept, Reads, completes}
use Rattle.cilk_parser.proofs.Spelled.{spelled}
use Rattle.cilk_parser.proofs.Traces.{trace, noted, ended, ahead}

-- these tokens are read in order, none of them past a limit
abbrev Walk : List Token → List Symbol → ℕ → List Symbol → ℕ → Type 0
Walk [] stack n stack' n' = (stack ≡ stack') × (n ≡ n')
Walk (t ∷ used) stack n stack' n' = (s : List Symbol) × (m : ℕ) × (after stack n t.kind ≡ Goes false s m) × Walk used s m stack' n'

-- the first of the tokens isn't expected, or the end isn't
abbrev Stuck : List Token → List Symbol → ℕ → Type 0
Stuck [] stack n = ended (at_end stack) ≡ None
Stuck (x ∷ rest) stack n = after stack n x.kind ≡ Fails

abbrev StopsAt : List Token → List Token → List Symbol → ℕ → Type 0
StopsAt ts rest stack n =
    (used : List Token) × (stack' : List Symbol) × (n' : ℕ) × (ts ≡ used ++ rest) × Walk used stack n stack' n' × Stuck rest stack' n'

nothing_left : (b : Bool) (v : Verdict) (rest : List Token) → (v ≡ Unexpected rest → [] ≡ rest) → cond b v (Unexpected []) ≡ Unexpected rest → [] ≡ rest
nothing_left true v rest go h = go h
nothing_left false v rest go h = cc

end_is : (stack : List Symbol) (rest : List Token) → at_end stack ≡ Unexpected rest → [] ≡ rest
end_is [] rest h = cc
end_is (s ∷ stack) rest h = nothing_left (may_end s) (at_end stack) rest (λ e. end_is stack rest e) h

stops_step : (a : After) (t : Token) (ts rest : List Token) (stack : List Symbol) (n : ℕ) → after stack n t.kind ≡ a → ((s : List Symbol) (m : ℕ) → run ts s m ≡ Unexpected rest → StopsAt ts rest s m) → settled a (run ts) (t ∷ ts) ≡ Unexpected rest → StopsAt (t ∷ ts) rest stack n
stops_step (Goes true s m) t ts rest stack n e go h = cc
stops_step (Goes false s m) t ts rest stack n e go h =
    let u = go s m h in
    (t ∷ u.0, u.1, u.2, ap (λ x. t ∷ x) u.3, (s, m, e, u.4), u.5)
stops_step Fails t ts rest stack n e go h =
    let same : t ∷ ts ≡ rest = cc in
    ([], stack, n, same, (refl, refl), subst (λ x. Stuck x stack n) same e)

stops_at : (ts rest : List Token) (stack : List Symbol) (n : ℕ) → run ts stack n ≡ Unexpected rest → StopsAt ts rest stack n
stops_at [] rest stack n h =
    let same : [] ≡ rest = end_is stack rest h in
    ([], stack, n, same, (refl, refl), subst (λ x. Stuck x stack n) same (ap ended h))
stops_at (t ∷ ts) rest stack n h = stops_step (after stack n t.kind) t ts rest stack n refl (λ s m k. stops_at ts rest s m k) h

abbrev Crosses : List Token → List Token → List Symbol → ℕ → Type 0
Crosses ts rest stack n =
    (used : List Token) × (x : Token) × (more : List Token) × (stack' : List Symbol) × (n' : ℕ) × (s : List Symbol) × (m : ℕ) × (rest ≡ x ∷ more) × (ts ≡ used ++ x ∷ more) × Walk used stack n stack' n' × (after stack' n' x.kind ≡ Goes true s m)

no_limit : (b : Bool) (v : Verdict) (rest : List Token) → (v ≡ PastLimit rest → ⊥) → cond b v (Unexpected []) ≡ PastLimit rest → ⊥
no_limit true v rest go h = go h
no_limit false v rest go h = cc

end_crosses : (stack : List Symbol) (rest : List Token) → at_end stack ≡ PastLimit rest → ⊥
end_crosses [] rest h = cc
end_crosses (s ∷ stack) rest h = no_limit (may_end s) (at_end stack) rest (λ e. end_crosses stack rest e) h

crosses_step : (a : After) (t : Token) (ts rest : List Token) (stack : List Symbol) (n : ℕ) → after stack n t.kind ≡ a → ((s : List Symbol) (m : ℕ) → run ts s m ≡ PastLimit rest → Crosses ts rest s m) → settled a (run ts) (t ∷ ts) ≡ PastLimit rest → Crosses (t ∷ ts) rest stack n
crosses_step (Goes true s m) t ts rest stack n e go h =
    let same : rest ≡ t ∷ ts = cc in
    ([], t, ts, stack, n, s, m, same, refl, (refl, refl), e)
crosses_step (Goes false s m) t ts rest stack n e go h =
    let u = go s m h in
    (t ∷ u.0, u.1, u.2, u.3, u.4, u.5, u.6, u.7, ap (λ x. t ∷ x) u.8, (s, m, e, u.9), u.10)
crosses_step Fails t ts rest stack n e go h = cc

crosses : (ts rest : List Token) (stack : List Symbol) (n : ℕ) → run ts stack n ≡ PastLimit rest → Crosses ts rest stack n
crosses [] rest stack n h = absurd (end_crosses stack rest h)
crosses (t ∷ ts) rest stack n h = crosses_step (after stack n t.kind) t ts rest stack n refl (λ s m k. crosses ts rest s m k) h

-- the symbols expected after a walk can be completed
sound_behind : (used : List Token) (stack stack' : List Symbol) (n n' : ℕ) → Walk used stack n stack' n' → Sound stack → Sound stack'
sound_behind [] stack stack' n n' w s = subst Sound w.0 s
sound_behind (t ∷ used) stack stack' n n' w s = sound_behind used w.0 stack' w.1 n' w.3 (subst SoundAfter w.2 (kept stack n t.kind s))

-- reading continues after a walk
read_on : (used w : List Token) (stack stack' : List Symbol) (n n' : ℕ) → Walk used stack n stack' n' → Reads w stack' n' → Reads (used ++ w) stack n
read_on [] w stack stack' n n' k h = (h.0, ap (λ x. trace w x n) k.0 ∙ (ap (λ x. trace w stack' x) k.1 ∙ h.1))
read_on (t ∷ used) w stack stack' n n' k h =
    let r = read_on used w k.0 stack' k.1 n' k.3 h in
    (false ∷ r.0, ap (λ a. noted a (trace (used ++ w))) k.2 ∙ ap (ahead false) r.1)

abbrev Behind : Bool → Option (List Bool) → List Bool → Type 0
Behind b o past = (more : List Bool) × (o ≡ Some more) × (b ∷ more ≡ past)

front : (b : Bool) (o : Option (List Bool)) (past : List Bool) → ahead b o ≡ Some past → Behind b o past
front b None past h = cc
front b (Some more) past h = (more, refl, cc)

-- a text that begins with the tokens of a walk is read by it
abbrev ReadBack : List Token → List Token → List Symbol → ℕ → List Bool → Type 0
ReadBack used w stack n past =
    (more : List Bool) × (trace w stack n ≡ Some more) × Within used past × (IsFirstPast [] more → IsFirstPast used past)

read_back : (used w : List Token) (stack stack' : List Symbol) (n n' : ℕ) (past : List Bool) → Walk used stack n stack' n' → trace (used ++ w) stack n ≡ Some past → ReadBack used w stack' n' past
read_back [] w stack stack' n n' past k h =
    (past, ap (λ x. trace w stack' x) (sym k.1) ∙ (ap (λ x. trace w x n) (sym k.0) ∙ h), tt, λ e. e)
read_back (t ∷ used) w stack stack' n n' past k h =
    let f = front false (trace (used ++ w) k.0 k.1) past (ap (λ a. noted a (trace (used ++ w))) (sym k.2) ∙ h) in
    let r = read_back used w k.0 stack' k.1 n' f.0 k.3 f.1 in
    (r.0, r.1, subst (λ x. Within (t ∷ used) x) f.2 (refl, r.2), λ e. subst (λ x. IsFirstPast (t ∷ used) x) f.2 (refl, r.3 e))

abbrev start : List Symbol
start = Items ∷ []

-- a text that is read to its end is within the limits
whole_step : (a : After) (t : Token) (ts : List Token) (past : List Bool) → ((s : List Symbol) (m : ℕ) (more : List Bool) → run ts s m ≡ Whole → trace ts s m ≡ Some more → Within ts more) → settled a (run ts) (t ∷ ts) ≡ Whole → noted a (trace ts) ≡ Some past → Within (t ∷ ts) past
whole_step (Goes true s m) t ts past go h k = cc
whole_step (Goes false s m) t ts past go h k =
    let f = front false (trace ts s m) past k in
    subst (λ x. Within (t ∷ ts) x) f.2 (refl, go s m f.0 h f.1)
whole_step Fails t ts past go h k = cc

whole_within : (ts : List Token) (stack : List Symbol) (n : ℕ) (past : List Bool) → run ts stack n ≡ Whole → trace ts stack n ≡ Some past → Within ts past
whole_within [] stack n past h k = tt
whole_within (t ∷ ts) stack n past h k = whole_step (after stack n t.kind) t ts past (λ s m more e f. whole_within ts s m more e f) h k

pub keeps : (p : List Item) (ts : List Token) → SpellsItems p ts [] → run ts start 0 ≡ Whole → Within ts (excess_items p ts)
keeps p ts h k = whole_within ts start 0 (excess_items p ts) k (accepted p ts h)

-- the tokens after a walk that stops are in no text
none_goes : (used rest : List Token) (stack' : List Symbol) (n' : ℕ) → Walk used start 0 stack' n' → Stuck rest stack' n' → Refused used rest
none_goes used [] stack' n' w stuck = λ p s.
    let whole : trace (used ++ []) start 0 ≡ Some (excess_items p used) = ap (λ x. trace x start 0) (append-nil used) ∙ accepted p used s in
    let r = read_back used [] start stack' 0 n' (excess_items p used) w whole in
    let some : ended (at_end stack') ≡ Some r.0 = r.1 in
    cc
none_goes used (x ∷ rest) stack' n' w stuck = λ b.
    let past = excess_items b.1 ((used ++ x ∷ []) ++ b.0) in
    let whole : trace (used ++ x ∷ b.0) start 0 ≡ Some past = ap (λ y. trace y start 0) (sym (append_assoc used (x ∷ []) b.0)) ∙ accepted b.1 ((used ++ x ∷ []) ++ b.0) b.2 in
    let r = read_back used (x ∷ b.0) start stack' 0 n' past w whole in
    let some : None ≡ Some r.0 = ap (λ a. noted a (trace b.0)) (sym stuck) ∙ r.1 in
    cc

begun : (used : List Token) (stack' : List Symbol) (n' : ℕ) → Walk used start 0 stack' n' → Begins used
begun used stack' n' w =
    let r = read_on used (finish stack') start stack' 0 n' w (completes stack' n' (sound_behind used start stack' 0 n' w (tt, tt))) in
    let p = spelled (used ++ finish stack') r.0 r.1 in
    (finish stack', p.0, p.1)

-- a token or an end that isn't expected is the first that no program has there
pub refusal : (ts rest : List Token) → run ts start 0 ≡ Unexpected rest → (used : List Token) × IsRefusal ts used rest
refusal ts rest h =
    let u = stops_at ts rest start 0 h in (
      u.0,
      record {
        parts = u.3;
        begins = begun u.0 u.1 u.2 u.4;
        within = λ w p s. (read_back u.0 w start u.1 0 u.2 (excess_items p (u.0 ++ w)) u.4 (accepted p (u.0 ++ w) s)).2;
        refused = none_goes u.0 rest u.1 u.2 u.4 u.5;
      },
    )

goes_past : (used : List Token) (x : Token) (stack' s : List Symbol) (n' m : ℕ) → Walk used start 0 stack' n' → after stack' n' x.kind ≡ Goes true s m → GoesPast used x
goes_past used x stack' s n' m k a = λ w p sp.
    let past = excess_items p ((used ++ x ∷ []) ++ w) in
    let whole : trace (used ++ x ∷ w) start 0 ≡ Some past = ap (λ y. trace y start 0) (sym (append_assoc used (x ∷ []) w)) ∙ accepted p ((used ++ x ∷ []) ++ w) sp in
    let r = read_back used (x ∷ w) start stack' 0 n' past k whole in
    let f = front true (trace w s m) r.0 (ap (λ y. noted y (trace w)) (sym a) ∙ r.1) in
    r.3 (subst (λ y. IsFirstPast [] y) f.2 refl)

begun_past : (used : List Token) (x : Token) (stack' s : List Symbol) (n' m : ℕ) → Walk used start 0 stack' n' → after stack' n' x.kind ≡ Goes true s m → Begins (used ++ x ∷ [])
begun_past used x stack' s n' m k a =
    let sound : Sound s = subst SoundAfter a (kept stack' n' x.kind (sound_behind used start stack' 0 n' k (tt, tt))) in
    let c = completes s m sound in
    let r = read_on used (x ∷ finish s) start stack' 0 n' k (true ∷ c.0, ap (λ y. noted y (trace (finish s))) a ∙ ap (ahead true) c.1) in
    let p = spelled (used ++ x ∷ finish s) r.0 r.1 in
    (finish s, p.0, subst (λ y. SpellsItems p.0 y []) (sym (append_assoc used (x ∷ []) (finish s))) p.1)

-- a token at which reading passes a limit is in the grammar, and is the first past a limit in each
-- program with it
pub past_limit : (ts rest : List Token) → run ts start 0 ≡ PastLimit rest → (used : List Token) × (x : Token) × (more : List Token) × (rest ≡ x ∷ more) × IsPastLimit ts used x more
past_limit ts rest h =
    let u = crosses ts rest start 0 h in (
      u.0,
      u.1,
      u.2,
      u.7,
      record {
        parts = u.8;
        begins = begun_past u.0 u.1 u.3 u.5 u.4 u.6 u.9 u.10;
        past = goes_past u.0 u.1 u.3 u.5 u.4 u.6 u.9 u.10;
      },
    )
