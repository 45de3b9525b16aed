-- An event that was written is read again. A line is short, with blanks only between its words.
use Rattle.std.proofs.Common.{◌≡◌, ℕ, Bool, true, false, cond, List, [], ◌∷◌, ◌++◌, Option, Some, ℤ, refl, sym, ap, subst, ◌∙◌, append_assoc, append-nil, eqb, eq-eqb}
use Rattle.std.specs.Fmt.{decimal, signed_decimal}
use Rattle.std.specs.Str.{bytes_eq}
use Rattle.std.proofs.lemmas.Slice.Eq.{bytes_eq-Decides}
use Rattle.cilk_cert_text.specs.declared.line.Version.{Version}
use Rattle.cilk_cert_text.specs.declared.line.Version.TheVariants.{One, Two}
use Rattle.cilk_cert_text.specs.declared.line.Reducer.{Reducer}
use Rattle.cilk_cert_text.specs.declared.line.Reducer.TheVariants.{Number, Place}
use Rattle.cilk_cert_text.specs.declared.line.Entry.{Entry}
use Rattle.cilk_cert_text.specs.declared.line.Entry.TheVariants as entries
use Rattle.cilk_cert_text.specs.declared.line.Line.{Line}
use Rattle.cilk_cert_text.specs.declared.line.Line.TheVariants as lines
use Rattle.cilk_cert_text.specs.declared.line.Form.{Form}
use Rattle.cilk_cert_text.specs.declared.line.Form.TheVariants as forms
use Rattle.cilk_cert_text.specs.declared.line.Keyword.{Keyword}
use Rattle.cilk_cert_text.specs.declared.line.Keyword.TheVariants as keywords
use Rattle.cilk_cert_text.specs.Words.{joined, words, number_at, value_at}
use Rattle.cilk_cert_text.specs.Lines.{spelling, reducer_words, entry_words, line_words, spelled, first_spelled, all_keywords, keyword_of, reducer_at, reducer_value_at, entry_at, event_line, frame_line, strand_line, result_line, end_line, words_line, line_of}
use Rattle.cilk_cert_text.specs.Certificates.{IsValue, NamesReducer, IsEntry, IsAt}
use Rattle.cilk_cert_text.proofs.Spellings.{joined_words, bind_some, number_step, value_step, ended_step, prepend, some_is, Spells, frame_sound, strand_sound, end_sound, result_sound, number_again, value_again}

-- ---- events that are read

keyword_first : (ks : List Keyword) (w : List ℕ) (k : Keyword) → first_spelled ks w ≡ Some k → w ≡ spelling k
keyword_first [] w k e = absurd cc
keyword_first (j ∷ ks) w k e = picked (keyword_first ks w k) (bytes_eq w (spelling j)) refl e where
  picked : (first_spelled ks w ≡ Some k → w ≡ spelling k) → (t : Bool) → bytes_eq w (spelling j) ≡ t → cond t (Some j) (first_spelled ks w) ≡ Some k → w ≡ spelling k
  picked later true p r = (bytes_eq-Decides w (spelling j)).0 p ∙ ap spelling (some_is j k r)
  picked later false p r = later r

keyword_sound : (w : List ℕ) (k : Keyword) → keyword_of w ≡ Some k → w ≡ spelling k
unfolding keyword_of
keyword_sound w k e = keyword_first all_keywords w k e

-- a reducer's name before the words
record Names (v : Version) (ws : List (List ℕ)) (p : Reducer × List (List ℕ)) : Type 0 where
  names : NamesReducer v p.0
  words : ws ≡ reducer_words p.0 ++ p.1

reducer_sound : (v : Version) (ws : List (List ℕ)) (p : Reducer × List (List ℕ)) → reducer_at v ws ≡ Some p → Names v ws p
unfolding reducer_at
reducer_sound One ws p e =
    let n = bind_some (number_at ws) _ p e in
    let n' = number_step ws n.0 n.1 in
    subst (λ (q : Reducer × List (List ℕ)). Names One ws q) (some_is (Number n.0.0, n.0.1) p n.2) (record { names = n'.0; words = n'.1 })
reducer_sound Two ws p e =
    let f = bind_some (number_at ws) _ p e in
    let n = bind_some (number_at f.0.1) _ p f.2 in
    let f' = number_step ws f.0 f.1 in
    let n' = number_step f.0.1 n.0 n.1 in
    subst (λ (q : Reducer × List (List ℕ)). Names Two ws q) (some_is (Place (record { frame = f.0.0; place = n.0.0 }), n.0.1) p n.2) (record { names = (f'.0, n'.0); words = f'.1 ∙ prepend _ _ _ n'.1 })

-- a reducer's name and a value before the words
record NamesValue (v : Version) (ws : List (List ℕ)) (p : (Reducer × ℤ) × List (List ℕ)) : Type 0 where
  names : NamesReducer v p.0.0 × IsValue p.0.1
  words : ws ≡ (reducer_words p.0.0 ++ signed_decimal p.0.1 ∷ []) ++ p.1

reducer_value_sound : (v : Version) (ws : List (List ℕ)) (p : (Reducer × ℤ) × List (List ℕ)) → reducer_value_at v ws ≡ Some p → NamesValue v ws p
unfolding reducer_value_at
reducer_value_sound v ws p e =
    let r = bind_some (reducer_at v ws) _ p e in
    let z = bind_some (value_at r.0.1) _ p r.2 in
    let r' = reducer_sound v ws r.0 r.1 in
    let z' = value_step r.0.1 z.0 z.1 in
    let whole : ws ≡ (reducer_words r.0.0 ++ signed_decimal z.0.0 ∷ []) ++ z.0.1 =
    r'.words ∙ ap (λ (t : List (List ℕ)). reducer_words r.0.0 ++ t) z'.1 ∙ sym (append_assoc (reducer_words r.0.0) (signed_decimal z.0.0 ∷ []) z.0.1) in
    let made : (Reducer × ℤ) × List (List ℕ) = ((r.0.0, z.0.0), z.0.1) in
    subst (λ (q : (Reducer × ℤ) × List (List ℕ)). NamesValue v ws q) (some_is made p z.2) (record { names = (r'.names, z'.0); words = whole })

-- an event before the words
record IsRead (v : Version) (k : Keyword) (ws : List (List ℕ)) (p : Entry × List (List ℕ)) : Type 0 where
  entry : IsEntry v p.0
  words : spelling k ∷ ws ≡ entry_words p.0 ++ p.1

read_as : (v : Version) (k : Keyword) (ws : List (List ℕ)) (e : Entry) (rest : List (List ℕ)) (p : Entry × List (List ℕ)) → ◌≡◌ {A = Option (Entry × List (List ℕ))} (Some (e, rest)) (Some p) → IsEntry v e → spelling k ∷ ws ≡ entry_words e ++ rest → IsRead v k ws p
read_as v k ws e rest p same entry words =
    let made : Entry × List (List ℕ) = (e, rest) in
    subst (λ (q : Entry × List (List ℕ)). IsRead v k ws q) (some_is made p same) (record { entry = entry; words = words })

entry_sound : (v : Version) (k : Keyword) (ws : List (List ℕ)) (p : Entry × List (List ℕ)) → entry_at v k ws ≡ Some p → IsRead v k ws p
unfolding entry_at
entry_sound v keywords.Begin ws p e =
    let n = bind_some (number_at ws) _ p e in
    let n' = number_step ws n.0 n.1 in
    read_as v keywords.Begin ws (entries.Begin n.0.0) n.0.1 p n.2 n'.0 (prepend _ _ _ n'.1)
entry_sound v keywords.Spawn ws p e =
    let n = bind_some (number_at ws) _ p e in
    let n' = number_step ws n.0 n.1 in
    read_as v keywords.Spawn ws (entries.Spawn n.0.0) n.0.1 p n.2 n'.0 (prepend _ _ _ n'.1)
entry_sound v keywords.Call ws p e =
    let n = bind_some (number_at ws) _ p e in
    let n' = number_step ws n.0 n.1 in
    read_as v keywords.Call ws (entries.Call n.0.0) n.0.1 p n.2 n'.0 (prepend _ _ _ n'.1)
entry_sound v keywords.Resume ws p e =
    let n = bind_some (number_at ws) _ p e in
    let n' = number_step ws n.0 n.1 in
    read_as v keywords.Resume ws (entries.Resume n.0.0) n.0.1 p n.2 n'.0 (prepend _ _ _ n'.1)
entry_sound v keywords.Sync ws p e = read_as v keywords.Sync ws entries.Sync ws p e tt refl
entry_sound v keywords.End ws p e = read_as v keywords.End ws entries.End ws p e tt refl
entry_sound v keywords.Read ws p e =
    let n = bind_some (number_at ws) _ p e in
    let z = bind_some (value_at n.0.1) _ p n.2 in
    let s = bind_some (number_at z.0.1) _ p z.2 in
    let n' = number_step ws n.0 n.1 in
    let z' = value_step n.0.1 z.0 z.1 in
    let s' = number_step z.0.1 s.0 s.1 in
    read_as v keywords.Read ws (entries.Read n.0.0 z.0.0 s.0.0) s.0.1 p s.2 (n'.0, z'.0, s'.0) (prepend _ _ _ (n'.1 ∙ prepend _ _ _ (z'.1 ∙ prepend _ _ _ s'.1)))
entry_sound v keywords.Write ws p e =
    let n = bind_some (number_at ws) _ p e in
    let z = bind_some (value_at n.0.1) _ p n.2 in
    let n' = number_step ws n.0 n.1 in
    let z' = value_step n.0.1 z.0 z.1 in
    read_as v keywords.Write ws (entries.Write n.0.0 z.0.0) z.0.1 p z.2 (n'.0, z'.0) (prepend _ _ _ (n'.1 ∙ prepend _ _ _ z'.1))
entry_sound v keywords.Create ws p e =
    let r = bind_some (reducer_at v ws) _ p e in
    let r' = reducer_sound v ws r.0 r.1 in
    read_as v keywords.Create ws (entries.Create r.0.0) r.0.1 p r.2 r'.names (prepend _ _ _ r'.words)
entry_sound v keywords.Update ws p e =
    let r = bind_some (reducer_value_at v ws) _ p e in
    let r' = reducer_value_sound v ws r.0 r.1 in
    read_as v keywords.Update ws (entries.Update r.0.0.0 r.0.0.1) r.0.1 p r.2 r'.names (prepend _ _ _ r'.words)
entry_sound v keywords.Set ws p e =
    let r = bind_some (reducer_value_at v ws) _ p e in
    let r' = reducer_value_sound v ws r.0 r.1 in
    read_as v keywords.Set ws (entries.Set r.0.0.0 r.0.0.1) r.0.1 p r.2 r'.names (prepend _ _ _ r'.words)
entry_sound v keywords.Value ws p e =
    let r = bind_some (reducer_value_at v ws) _ p e in
    let r' = reducer_value_sound v ws r.0 r.1 in
    read_as v keywords.Value ws (entries.Value r.0.0.0 r.0.0.1) r.0.1 p r.2 r'.names (prepend _ _ _ r'.words)
entry_sound v keywords.Print ws p e =
    let z = bind_some (value_at ws) _ p e in
    let z' = value_step ws z.0 z.1 in
    read_as v keywords.Print ws (entries.Print z.0.0) z.0.1 p z.2 z'.0 (prepend _ _ _ z'.1)

event_sound : (v : Version) (ws : List (List ℕ)) (x : Line) → event_line v ws ≡ Some x → Spells (forms.Event v) ws x
unfolding event_line
event_sound v [] x e = absurd cc
event_sound v (w ∷ ws) x e =
    let k = bind_some (keyword_of w) _ x e in
    let p = bind_some (entry_at v k.0 ws) _ x k.2 in
    let p' = entry_sound v k.0 ws p.0 p.1 in
    let d = ended_step (lines.Event p.0.0) x p.0.1 p.2 in
    let named : w ∷ ws ≡ spelling k.0 ∷ ws = ap (λ (t : List ℕ). t ∷ ws) (keyword_sound w k.0 k.1) in
    let words : w ∷ ws ≡ entry_words p.0.0 = named ∙ p'.words ∙ ap (λ (t : List (List ℕ)). entry_words p.0.0 ++ t) d.1 ∙ append-nil (entry_words p.0.0) in
    subst (λ (y : Line). Spells (forms.Event v) (w ∷ ws) y) d.0 (record { at = p'.entry; words = words })

words_sound : (form : Form) (ws : List (List ℕ)) (x : Line) → words_line form ws ≡ Some x → Spells form ws x
words_sound (forms.Frame k) ws x e = frame_sound k ws x e
words_sound (forms.Strand k) ws x e = strand_sound k ws x e
words_sound (forms.Event v) ws x e = event_sound v ws x e
words_sound forms.Result ws x e = result_sound ws x e
words_sound forms.End ws x e = end_sound ws x e

-- a line that is read may be there, and the bytes are its spelling
pub line_sound : (form : Form) (l : List ℕ) (x : Line) → line_of form l ≡ Some x → IsAt form x × (l ≡ spelled x)
unfolding line_of spelled
line_sound form l x e = let s = words_sound form (words l) x e in (s.at, sym (joined_words l) ∙ ap joined s.words)

-- ---- written events are read again

reducer_again : (v : Version) (r : Reducer) (rest : List (List ℕ)) → NamesReducer v r → reducer_at v (reducer_words r ++ rest) ≡ Some (r, rest)
unfolding reducer_at
reducer_again One (Number n) rest h = rw (number_again n rest h) refl
reducer_again One (Place i) rest h = absurd h
reducer_again Two (Number n) rest h = absurd h
reducer_again Two (Place i) rest h = rw (number_again i.frame (decimal i.place ∷ rest) h.0, number_again i.place rest h.1) refl

reducer_value_again : (v : Version) (r : Reducer) (z : ℤ) → NamesReducer v r → IsValue z → reducer_value_at v (reducer_words r ++ signed_decimal z ∷ []) ≡ Some ((r, z), [])
unfolding reducer_value_at
reducer_value_again v r z h k = rw (reducer_again v r (signed_decimal z ∷ []) h, value_again z [] k) refl

entry_again : (v : Version) (e : Entry) → IsEntry v e → event_line v (entry_words e) ≡ Some (lines.Event e)
unfolding event_line keyword_of entry_at
entry_again v (entries.Begin frame) h = rw (number_again frame [] h) refl
entry_again v (entries.Spawn child) h = rw (number_again child [] h) refl
entry_again v (entries.Call child) h = rw (number_again child [] h) refl
entry_again v (entries.Resume parent) h = rw (number_again parent [] h) refl
entry_again v entries.Sync h = refl
entry_again v entries.End h = refl
entry_again v (entries.Read cell value source) h = rw (number_again cell (signed_decimal value ∷ decimal source ∷ []) h.0, value_again value (decimal source ∷ []) h.1, number_again source [] h.2) refl
entry_again v (entries.Write cell value) h = rw (number_again cell (signed_decimal value ∷ []) h.0, value_again value [] h.1) refl
entry_again v (entries.Create r) h = rw (← append-nil (reducer_words r), reducer_again v r [] h) refl
entry_again v (entries.Update r value) h = rw (reducer_value_again v r value h.0 h.1) refl
entry_again v (entries.Set r value) h = rw (reducer_value_again v r value h.0 h.1) refl
entry_again v (entries.Value r value) h = rw (reducer_value_again v r value h.0 h.1) refl
entry_again v (entries.Print value) h = rw (value_again value [] h) refl

same_number : (n k : ℕ) → n ≡ k → eqb n k ≡ true
same_number n k e = eq-eqb n k e

pub words_again : (form : Form) (x : Line) → IsAt form x → words_line form (line_words x) ≡ Some x
unfolding frame_line strand_line result_line end_line
words_again (forms.Frame k) (lines.Frame n f) h =
    rw (number_again n (decimal f.parent ∷ decimal f.ordinal ∷ []) h.0, number_again f.parent (decimal f.ordinal ∷ []) h.2.0, number_again f.ordinal [] h.2.1, same_number n k h.1) refl
words_again (forms.Strand k) (lines.Strand n s) h =
    rw (number_again n (decimal s.frame ∷ decimal s.hebrew ∷ decimal s.class ∷ []) h.0, number_again s.frame (decimal s.hebrew ∷ decimal s.class ∷ []) h.2.0, number_again s.hebrew (decimal s.class ∷ []) h.2.1, number_again s.class [] h.2.2, same_number n k h.1) refl
words_again (forms.Event v) (lines.Event e) h = entry_again v e h
words_again forms.Result (lines.Result z) h = rw (value_again z [] h) refl
words_again forms.End lines.End h = refl
words_again _ _ h = absurd h
