-- The parts of statements: the same tokens spell only one of each.
--
-- `one_inside`, `one_ended`, `one_optional`: expressions with the marks around them. `one_called`,
-- `one_invoked`: calls and spawns. `one_assignment`: assignments, by their mark and right side
-- (`Form`). `no_invocation`, `no_call_assigned`, `no_assignment_called`: an expression or
-- assignment isn't a call.
use Rattle.std.proofs.Common.{◌≡◌, ◌≢◌, Bool, true, false, inl, inr, List, [], ◌∷◌, Option, Some, None, refl, sym, ap, ◌∙◌, subst}
use Rattle.cilk_syntax.specs.declared.token.Kind.{Kind}
use Rattle.cilk_syntax.specs.declared.token.Kind.TheVariants as kinds
use Rattle.cilk_syntax.specs.declared.token.Token.{Token}
use Rattle.cilk_syntax.specs.declared.tree.Name.{Name}
use Rattle.cilk_types.specs.declared.compound.Compound.TheVariants as compounds
use Rattle.cilk_types.specs.declared.invocation.Invocation.{Invocation}
use Rattle.cilk_types.specs.declared.invocation.Invocation.TheVariants as invocations
use Rattle.cilk_syntax.specs.Trees as trees
use Rattle.cilk_syntax.specs.Trees.{Expression, Argument, Call, Assignment, Local, LocalInitializer, Beginning, Bounds}
use Rattle.cilk_syntax.specs.Grammar.{Is, IsName, SpellsExpr, SpellsInside, SpellsEnded, SpellsOptional, SpellsArgument, SpellsMoreArguments, SpellsArguments, SpellsCall, SpellsInvoked, SpellsLvalue, SpellsAssignment}
use Rattle.cilk_syntax.specs.Stops.{NotFirst}
use Rattle.cilk_parser.proofs.Tokens.{heads, same_is, same_name, is_name, apart, Starts, not_first, not_it}
use Rattle.cilk_parser.proofs.Reading.{Ends, ends, ends_at, one_expression, no_expression, no_call}

pub one_inside : (e f : Expression) (ts us r s : List Token) → ts ≡ us → SpellsInside e ts r → SpellsInside f us s
    → (e ≡ f) × (r ≡ s)
unfolding SpellsInside
one_inside e f ts us r s p h k =
    let a = same_is p h.2 k.2 in
    let b = one_expression e f h.0 k.0 h.1 k.1 a.1 h.3 k.3 (ends_at h.4 refl) (ends_at k.4 refl) in
    (b.0, (same_is b.1 h.4 k.4).1)

pub one_ended : (e f : Expression) (ts us r s : List Token) → ts ≡ us → SpellsEnded e ts r → SpellsEnded f us s
    → (e ≡ f) × (r ≡ s)
one_ended e f ts us r s p h k =
    let b = one_expression e f ts us h.0 k.0 p h.1 k.1 (ends_at h.2 refl) (ends_at k.2 refl) in
    (b.0, (same_is b.1 h.2 k.2).1)

pub one_optional : (e f : Option Expression) (ts us r s : List Token) → ts ≡ us → SpellsOptional e ts r
    → SpellsOptional f us s → (e ≡ f) × (r ≡ s)
unfolding SpellsOptional
one_optional None None ts us r s p h k = (refl, (same_is p h k).1)
one_optional None (Some f) ts us r s p h k = no_expression f us k.0 ts r (sym p) k.1 (ends_at k.2 refl) h (λ n. refl)
one_optional (Some e) None ts us r s p h k = no_expression e ts h.0 us s p h.1 (ends_at h.2 refl) k (λ n. refl)
one_optional (Some e) (Some f) ts us r s p h k =
    let a = one_ended e f ts us r s p h k in (ap (λ x. Some x) a.0, a.1)

same_argument : (a b : Argument) → a.at ≡ b.at → a.value ≡ b.value → a ≡ b
same_argument a b p q =
    let x : a ≡ record { at = b.at; value = a.value } = ap (λ x. record { at = x; value = a.value }) p in
    let y : record { at = b.at; value = a.value } ≡ b = ap (λ x. record { at = b.at; value = x }) q in
    x ∙ y

one_argument : (a b : Argument) (ts us r s : List Token) → ts ≡ us → SpellsArgument a ts r → SpellsArgument b us s
    → Ends r → Ends s → (a ≡ b) × (r ≡ s)
one_argument a b ts us r s p h k x y =
    let e = one_expression a.value b.value ts us r s p h.4 k.4 x y in
    let t = heads h.0 k.0 h.1 k.1 (sym h.2 ∙ (p ∙ k.2)) in
    (same_argument a b (h.3 ∙ (ap (λ t. t.at) t.0 ∙ sym k.3)) e.0, e.1)

more_end : (list : List Argument) (ts r z : List Token) → SpellsMoreArguments list ts r → Is kinds.Close r z → Ends ts
more_end [] ts r z h c = subst Ends (sym h) (ends_at c refl)
more_end (a ∷ list) ts r z h c = ends_at h.2 refl

one_more : (l m : List Argument) (ts us r s y z : List Token) → ts ≡ us → SpellsMoreArguments l ts r
    → SpellsMoreArguments m us s → Is kinds.Close r y → Is kinds.Close s z → (l ≡ m) × (r ≡ s)
one_more [] [] ts us r s y z p h k c d = (refl, sym h ∙ (p ∙ k))
one_more [] (b ∷ m) ts us r s y z p h k c d = apart (sym h ∙ p) c k.2 (λ e. cc)
one_more (a ∷ l) [] ts us r s y z p h k c d = apart (p ∙ k) h.2 d (λ e. cc)
one_more (a ∷ l) (b ∷ m) ts us r s y z p h k c d =
    let e = same_is p h.2 k.2 in
    let f = one_argument a b h.0 k.0 h.1 k.1 e.1 h.3 k.3 (more_end l h.1 r y h.4 c) (more_end m k.1 s z k.4 d) in
    let g = one_more l m h.1 k.1 r s y z f.1 h.4 k.4 c d in
    (ap (λ x. x ∷ l) f.0 ∙ ap (λ x. b ∷ x) g.0, g.1)

one_arguments : (l m : List Argument) (ts us r s : List Token) → ts ≡ us → SpellsArguments l ts r
    → SpellsArguments m us s → (l ≡ m) × (r ≡ s)
one_arguments [] [] ts us r s p h k = (refl, (same_is p h k).1)
one_arguments [] (b ∷ m) ts us r s p h k =
    no_expression b.value us k.1.0 ts r (sym p) k.1.1.4 (more_end m k.1.0 k.0 s k.1.2 k.2) h (λ n. refl)
one_arguments (a ∷ l) [] ts us r s p h k =
    no_expression a.value ts h.1.0 us s p h.1.1.4 (more_end l h.1.0 h.0 r h.1.2 h.2) k (λ n. refl)
one_arguments (a ∷ l) (b ∷ m) ts us r s p h k =
    let f =
    one_argument a b ts us h.1.0 k.1.0 p h.1.1 k.1.1 (more_end l h.1.0 h.0 r h.1.2 h.2)
    (more_end m k.1.0 k.0 s k.1.2 k.2) in
    let g = one_more l m h.1.0 k.1.0 h.0 k.0 r s f.1 h.1.2 k.1.2 h.2 k.2 in
    (ap (λ x. x ∷ l) f.0 ∙ ap (λ x. b ∷ x) g.0, (same_is g.1 h.2 k.2).1)

same_called : (c d : Call) → c.name ≡ d.name → c.arguments ≡ d.arguments → c ≡ d
same_called c d p q =
    let x : c ≡ record { name = d.name; arguments = c.arguments } =
    ap (λ x. record { name = x; arguments = c.arguments }) p in
    let y : record { name = d.name; arguments = c.arguments } ≡ d =
    ap (λ x. record { name = d.name; arguments = x }) q in
    x ∙ y

pub one_called : (c d : Call) (ts us r s : List Token) → ts ≡ us → SpellsCall c ts r → SpellsCall d us s
    → (c ≡ d) × (r ≡ s)
unfolding SpellsCall
one_called c d ts us r s p h k =
    let a = same_name p h.2 k.2 in
    let b = same_is a.1 h.3 k.3 in
    let e = one_arguments c.arguments d.arguments h.1 k.1 r s b.1 h.4 k.4 in
    (same_called c d a.0 e.0, e.1)

-- the first token of a call
abbrev pub Calls : List Token → Type 0
Calls ts = (name : Name) × (ts1 ts2 : List Token) × IsName name ts ts1 × Is kinds.Open ts1 ts2

pub calls : (c : Call) (ts r : List Token) → SpellsCall c ts r → Calls ts
unfolding SpellsCall
calls c ts r h = (c.name, h.0, h.1, h.2, h.3)

pub one_invoked : (i j : Invocation) (c d : Call) (ts us r s : List Token) → ts ≡ us → SpellsInvoked i c ts r
    → SpellsInvoked j d us s → (i ≡ j) × (c ≡ d) × (r ≡ s)
one_invoked invocations.Call invocations.Call c d ts us r s p h k =
    let a = one_called c d ts us r s p h k in (refl, a.0, a.1)
one_invoked invocations.Call invocations.Spawn c d ts us r s p h k = apart p (is_name (calls c ts r h).3) k.1 (λ e. cc)
one_invoked invocations.Spawn invocations.Call c d ts us r s p h k = apart p h.1 (is_name (calls d us s k).3) (λ e. cc)
one_invoked invocations.Spawn invocations.Spawn c d ts us r s p h k =
    let a = same_is p h.1 k.1 in
    let b = one_called c d h.0 k.0 r s a.1 h.2 k.2 in (refl, b.0, b.1)

-- no expression is a call or a spawn
pub no_invocation : {A : Type 0} (e : Expression) (i : Invocation) (c : Call) (ts us r s : List Token) → ts ≡ us
    → SpellsExpr e ts r → Ends r → SpellsInvoked i c us s → A
no_invocation e invocations.Call c ts us r s p h x k =
    let d = calls c us s k in no_call e d.0 ts r us d.1 d.2 p h x d.3 d.4
no_invocation e invocations.Spawn c ts us r s p h x k = no_expression e ts r us k.0 p h x k.1 (λ n. refl)

pub one_place : (a b : trees.Lvalue) (ts us r s : List Token) → ts ≡ us → SpellsLvalue a ts r → SpellsLvalue b us s
    → NotFirst kinds.OpenBracket r → NotFirst kinds.OpenBracket s → (a ≡ b) × (r ≡ s)
one_place (trees.Lvalue.Variable m) (trees.Lvalue.Variable n) ts us r s p h k x y =
    let a = same_name p h k in (ap (λ z. trees.Lvalue.Variable z) a.0, a.1)
one_place (trees.Lvalue.Variable m) (trees.Lvalue.Element n f) ts us r s p h k x y = not_it (same_name p h k.3).1 x k.4
one_place (trees.Lvalue.Element m e) (trees.Lvalue.Variable n) ts us r s p h k x y =
    not_it (sym (same_name p h.3 k).1) y h.4
one_place (trees.Lvalue.Element m e) (trees.Lvalue.Element n f) ts us r s p h k x y =
    let a = same_name p h.3 k.3 in
    let b = same_is a.1 h.4 k.4 in
    let c = one_expression e f h.1 k.1 h.2 k.2 b.1 h.5 k.5 (ends_at h.6 refl) (ends_at k.6 refl) in
    (ap (λ z. trees.Lvalue.Element z e) a.0 ∙ ap (λ z. trees.Lvalue.Element n z) c.0, (same_is c.1 h.6 k.6).1)

-- a place begins with a name
place_starts : (a : trees.Lvalue) (ts r : List Token) → SpellsLvalue a ts r → Starts kinds.Name ts
place_starts (trees.Lvalue.Variable m) ts r h = (r, is_name h)
place_starts (trees.Lvalue.Element m e) ts r h = (h.0, is_name h.3)

-- an assignment by its mark, with its right side or none
abbrev made : Kind → trees.Lvalue → Option Expression → Assignment
made kinds.Assign a (Some e) = Assignment.Set a e
made kinds.PlusAssign a (Some e) = trees.Compound compounds.Add a e
made kinds.MinusAssign a (Some e) = trees.Compound compounds.Subtract a e
made kinds.StarAssign a (Some e) = trees.Compound compounds.Multiply a e
made kinds.Decrement a None = trees.Decrement a
made _ a o = trees.Increment a

abbrev is_there : Option Expression → Bool
is_there None = false
is_there (Some e) = true

abbrev takes_one : Kind → Bool
takes_one kinds.Assign = true
takes_one kinds.PlusAssign = true
takes_one kinds.MinusAssign = true
takes_one kinds.StarAssign = true
takes_one _ = false

abbrev Taken : Option Expression → List Token → List Token → Type 0
Taken None ts r = ts ≡ r
Taken (Some e) ts r = SpellsExpr e ts r

abbrev is_mark : Kind → Bool
is_mark kinds.Increment = true
is_mark kinds.Decrement = true
is_mark kind = takes_one kind

pub data Form (a : Assignment) (ts r : List Token) : Type 0 where
  Front : (kind : Kind) (place : trees.Lvalue) (ts1 : List Token) → is_mark kind ≡ true → Is kind ts ts1
      → SpellsLvalue place ts1 r → a ≡ made kind place None → Form a ts r
  Back : (kind : Kind) (place : trees.Lvalue) (o : Option Expression) (ts1 ts2 : List Token) → is_mark kind ≡ true
      → takes_one kind ≡ is_there o → SpellsLvalue place ts ts1 → Is kind ts1 ts2 → Taken o ts2 r
      → a ≡ made kind place o → Form a ts r

pub form : (a : Assignment) (ts r : List Token) → SpellsAssignment a ts r → Form a ts r
form (Assignment.Set a e) ts r h = Back kinds.Assign a (Some e) h.0 h.1 refl refl h.2 h.3 h.4 refl
form (trees.Compound compounds.Add a e) ts r h = Back kinds.PlusAssign a (Some e) h.0 h.1 refl refl h.2 h.3 h.4 refl
form (trees.Compound compounds.Subtract a e) ts r h =
    Back kinds.MinusAssign a (Some e) h.0 h.1 refl refl h.2 h.3 h.4 refl
form (trees.Compound compounds.Multiply a e) ts r h =
    Back kinds.StarAssign a (Some e) h.0 h.1 refl refl h.2 h.3 h.4 refl
form (trees.Increment a) ts r (inl h) = Front kinds.Increment a h.0 refl h.1 h.2 refl
form (trees.Increment a) ts r (inr h) = Back kinds.Increment a None h.0 r refl refl h.1 h.2 refl refl
form (trees.Decrement a) ts r (inl h) = Front kinds.Decrement a h.0 refl h.1 h.2 refl
form (trees.Decrement a) ts r (inr h) = Back kinds.Decrement a None h.0 r refl refl h.1 h.2 refl refl

-- the other marks aren't those of assignments
unlike : (k j : Kind) → is_mark k ≡ true → is_mark j ≡ false → k ≢ j
unlike k j h i = λ e. (let x : true ≡ false = sym h ∙ (ap is_mark e ∙ i) in cc)

no_bracket : {k : Kind} {ts r : List Token} → is_mark k ≡ true → Is k ts r → NotFirst kinds.OpenBracket ts
no_bracket {k} h is = not_first is (unlike k kinds.OpenBracket h refl)

ends_no_bracket : (ts : List Token) → Ends ts → NotFirst kinds.OpenBracket ts
ends_no_bracket [] h = tt
ends_no_bracket (t ∷ ts) h = λ e. (let x : ends kinds.OpenBracket ≡ true = ap ends (sym e) ∙ h in cc)

-- the mark that closes an expression is of no other kind
pub no_end : {A : Type 0} {kind : Kind} {ts us r : List Token} → ts ≡ us → Ends ts → Is kind us r → ends kind ≡ false
    → A
no_end {A} {kind} {ts} {us} {r} p h is n =
    let x : ends is.0.kind ≡ true = subst Ends (p ∙ is.1) h in
    let y : true ≡ false = sym x ∙ (ap ends is.2 ∙ n) in cc

one_taken : (o q : Option Expression) (ts us r s : List Token) → ts ≡ us → is_there o ≡ is_there q → Taken o ts r
    → Taken q us s → Ends r → Ends s → (o ≡ q) × (r ≡ s)
one_taken None None ts us r s p e h k x y = (refl, sym h ∙ (p ∙ k))
one_taken None (Some f) ts us r s p e h k x y = cc
one_taken (Some e) None ts us r s p i h k x y = cc
one_taken (Some e) (Some f) ts us r s p i h k x y =
    let a = one_expression e f ts us r s p h k x y in (ap (λ z. Some z) a.0, a.1)

one_form : (a b : Assignment) (ts us r s : List Token) → ts ≡ us → Form a ts r → Form b us s → Ends r → Ends s
    → (a ≡ b) × (r ≡ s)
one_form a b ts us r s p (Front i c ts1 m is h e) (Front j d us1 n js k f) x y =
    let g = same_is p is js in
    let l = one_place c d ts1 us1 r s g.1 h k (ends_no_bracket r x) (ends_no_bracket s y) in
    (e ∙ (ap (λ z. made z c None) g.0 ∙ (ap (λ z. made j z None) l.0 ∙ sym f)), l.1)
one_form a b ts us r s p (Front i c ts1 m is h e) (Back j d q us1 us2 n t k js v f) x y =
    apart p is (place_starts d us us1 k).1 (λ z. absurd (unlike i kinds.Name m refl z))
one_form a b ts us r s p (Back i c o ts1 ts2 m w h is u e) (Front j d us1 n js k f) x y =
    apart (sym p) js (place_starts c ts ts1 h).1 (λ z. absurd (unlike j kinds.Name n refl z))
one_form a b ts us r s p (Back i c o ts1 ts2 m w h is u e) (Back j d q us1 us2 n t k js v f) x y =
    let l = one_place c d ts us ts1 us1 p h k (no_bracket m is) (no_bracket n js) in
    let g = same_is l.1 is js in
    let z = one_taken o q ts2 us2 r s g.1 (sym w ∙ (ap takes_one g.0 ∙ t)) u v x y in
    (e ∙ (ap (λ z. made z c o) g.0 ∙ (ap (λ z. made j z o) l.0 ∙ (ap (λ z. made j d z) z.0 ∙ sym f))), z.1)

pub one_assignment : (a b : Assignment) (ts us r s : List Token) → ts ≡ us → SpellsAssignment a ts r
    → SpellsAssignment b us s → Ends r → Ends s → (a ≡ b) × (r ≡ s)
one_assignment a b ts us r s p h k x y = one_form a b ts us r s p (form a ts r h) (form b us s k) x y

-- an assignment begins with a name or a mark
abbrev pub opens : Kind → Bool
opens kinds.Name = true
opens kind = is_mark kind

mark_opens : (kind : Kind) → is_mark kind ≡ true → opens kind ≡ true
mark_opens kinds.Name h = refl
mark_opens _ h = h

abbrev pub Opens : List Token → Type 0
Opens ts = (kind : Kind) × (r : List Token) × Is kind ts r × (opens kind ≡ true)

form_opens : (a : Assignment) (ts r : List Token) → Form a ts r → Opens ts
form_opens a ts r (Front i c ts1 m is h e) = (i, ts1, is, mark_opens i m)
form_opens a ts r (Back i c o ts1 ts2 m w h is u e) =
    let x = place_starts c ts ts1 h in (kinds.Name, x.0, x.1, refl)

pub assignment_opens : (a : Assignment) (ts r : List Token) → SpellsAssignment a ts r → Opens ts
assignment_opens a ts r h = form_opens a ts r (form a ts r h)

pub no_assignment : {A : Type 0} {kind : Kind} (a : Assignment) (ts us r s : List Token) → ts ≡ us
    → SpellsAssignment a ts r → Is kind us s → opens kind ≡ false → A
no_assignment {A} {kind} a ts us r s p h is n =
    let o = assignment_opens a ts r h in
    apart p o.2 is (λ e. (let x : true ≡ false = sym o.3 ∙ (ap opens e ∙ n) in cc))

-- after the name that an assignment begins with there is its mark or a bracket
place_goes : {A : Type 0} (c : trees.Lvalue) (name : Name) (kind j : Kind) (ts us r s y z : List Token) → ts ≡ us
    → SpellsLvalue c ts r → Is j r y → IsName name us s → Is kind s z → kind ≢ kinds.OpenBracket
    → (j ≡ kind → r ≡ s → y ≡ z → A) → A
place_goes (trees.Lvalue.Variable m) name kind j ts us r s y z p h js is ks n f =
    let a = same_name p h is in
    let b = same_is a.1 js ks in f b.0 a.1 b.1
place_goes (trees.Lvalue.Element m e) name kind j ts us r s y z p h js is ks n f =
    let a = same_name p h.3 is in
    let b = same_is a.1 h.4 ks in absurd (n (sym b.0))

form_no_call : {A : Type 0} (a : Assignment) (ts us r : List Token) → ts ≡ us → Form a ts r → Calls us → A
form_no_call a ts us r p (Front i c ts1 m is h e) d =
    apart p is (is_name d.3) (λ z. absurd (unlike i kinds.Name m refl z))
form_no_call a ts us r p (Back i c o ts1 ts2 m w h is u e) d =
    place_goes c d.0 kinds.Open i ts us ts1 d.1 ts2 d.2 p h is d.3 d.4 (λ x. cc)
    (λ x y z. absurd (unlike i kinds.Open m refl x))

taken_no_call : {A : Type 0} (o : Option Expression) (i : Invocation) (c : Call) (ts us r s : List Token) → ts ≡ us
    → true ≡ is_there o → Taken o ts r → Ends r → SpellsInvoked i c us s → A
taken_no_call None i c ts us r s p t h x k = cc
taken_no_call (Some e) i c ts us r s p t h x k = no_invocation e i c ts us r s p h x k

form_no_assigned : {A : Type 0} (a : Assignment) (name : Name) (i : Invocation) (c : Call)
    (ts us r s us1 us2 : List Token)
    → ts ≡ us → Form a ts r → Ends r → IsName name us us1 → Is kinds.Assign us1 us2 → SpellsInvoked i c us2 s → A
form_no_assigned a name i c ts us r s us1 us2 p (Front j d ts1 m is h e) x k l v =
    apart p is (is_name k) (λ z. absurd (unlike j kinds.Name m refl z))
form_no_assigned a name i c ts us r s us1 us2 p (Back j d o ts1 ts2 m w h is u e) x k l v =
    place_goes d name kinds.Assign j ts us ts1 us1 ts2 us2 p h is k l (λ y. cc)
    (λ y q z. taken_no_call o i c ts2 us2 r s z (ap takes_one (sym y) ∙ w) u x v)

pub no_call_assigned : {A : Type 0} (a : Assignment) (name : Name) (i : Invocation) (c : Call)
    (ts us r s us1 us2 : List Token)
    → ts ≡ us → SpellsAssignment a ts r → Ends r → IsName name us us1 → Is kinds.Assign us1 us2
    → SpellsInvoked i c us2 s → A
no_call_assigned a name i c ts us r s us1 us2 p h x k l v =
    form_no_assigned a name i c ts us r s us1 us2 p (form a ts r h) x k l v

pub no_assignment_called : {A : Type 0} (a : Assignment) (i : Invocation) (c : Call) (ts us r s : List Token)
    → ts ≡ us → SpellsAssignment a ts r → SpellsInvoked i c us s → A
no_assignment_called a invocations.Call c ts us r s p h k = form_no_call a ts us r p (form a ts r h) (calls c us s k)
no_assignment_called a invocations.Spawn c ts us r s p h k = no_assignment a ts us r k.0 p h k.1 refl
