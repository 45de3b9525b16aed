-- The replies of `serve_explained`.
--
-- - `refused`: the command line isn't valid;
-- - `asked_for`: the answer to an order is the answer to its words;
-- - `starved`, `starved_or_settled`: out of memory, and no read failed; `unshown`: there is no memory to show a reply;
-- - `other`, `yes`: whether an order is explained without `--explain`;
-- - `silence`: nothing follows; `unfailed`: a failure doesn't tell all; `any_more`: whatever the words asked for;
-- - `unasked`: words with a usage error have no order;
-- - `of_kept`: a call of `keep` changes nothing that is stated of the files;
-- - `answered`, `complained`: an answer to an order, or a failure, is shown as `serve` shows it, and a text follows;
-- - `silent`: a reply that no text follows.
use Rattle.std.proofs.Common.{◌≡◌, ℕ, Bool, true, false, Option, None, [], List, refl, sym, ap, subst, ◌∙◌, inl, inr}
use Rattle.cilk_report.specs.Explained.{Follows, IsReadAgain, Served, ServesExplained, ServesThenExplains, Settling}
use Rattle.cilk_report.specs.Silence.{TellsAll}
use Rattle.std.proofs.lemmas.Bool.{true≢false}
use Rattle.cilk_messages.specs.Asked.{explains_itself}
use Rattle.std.specs.Io.KnownBytes.{Appends}
use Rattle.cilk_commands.proofs.Replying.{fails, keeps, no_memory, still_silent}
use Rattle.cilk_commands.specs.Files.{Failures}
use Rattle.cilk_commands.specs.Replies.{NoMemory, Reply, Text, failure_view, out_text, status_of}
use Rattle.cilk_commands.specs.Serving.{Answers, IsOrNoMemory, Serves, Shows, ShowsError, Surroundings, WordsFail, world}
use Rattle.cilk_messages.specs.Words.{IsWordsFault, Requested, order_in}
use Rattle.cilk_messages.specs.declared.words.WordsFault.{WordsFault}
use Rattle.cilk_messages.specs.declared.words.WordsFault.TheVariants as faults
use Rattle.cilk_commands.specs.declared.reply.Failure.{Failure}
use Rattle.cilk_commands.specs.declared.reply.Failure.TheVariants as failures

pub refused : (words : List Text) (w : Surroundings) (f : Failure) (status : ℕ) (told : Bool) (o e e' : Option Text)
    → order_in words ≡ None → w.failed' ≡ w.failed → WordsFail (failure_view f)
    → (r : Reply) × IsOrNoMemory (failure_view f) r × (status ≡ status_of r) × ShowsError r told e e'
    → Serves words w status told o o e e'
refused words w f status told o e e' order none h shown =
    fails words w f status told o e e' (subst (λ (a : Option Requested). Answers w a (failure_view f)) (sym order) (none, h)) shown

pub starved : (words : List Text) (w : Surroundings) (status : ℕ) (told : Bool) (o e e' : Option Text) → w.failed' ≡ w.failed
    → (r : Reply) × IsOrNoMemory (failure_view failures.Memory) r × (status ≡ status_of r) × ShowsError r told e e'
    → Serves words w status told o o e e'
starved words w status told o e e' none shown = fails words w failures.Memory status told o e e' (no_memory w (order_in words) none) shown

either_way : (wanted r : Reply) → IsOrNoMemory NoMemory r → IsOrNoMemory wanted r
either_way wanted r (inl e) = inr e
either_way wanted r (inr e) = inr e

pub unshown : (words : List Text) (w : Surroundings) (wanted : Reply) (status : ℕ) (told : Bool) (o e e' : Option Text)
    → Answers w (order_in words) wanted
    → (r : Reply) × IsOrNoMemory (failure_view failures.Memory) r × (status ≡ status_of r) × ShowsError r told e e'
    → Serves words w status told o o e e'
unshown words w wanted status told o e e' h shown =
    let out : Appends o o (out_text shown.0) = subst (λ (t : Text). Appends o o t) (sym (still_silent failures.Memory shown.0 shown.1)) (keeps o) in
    (wanted, h, shown.0, either_way wanted shown.0 shown.1, inl (shown.2, out, shown.3))

pub silence : (status : ℕ) (e : Option Text) → Follows status e e
silence status e = (([], true, keeps e), λ _. refl)

pub silent : (words : List Text) (more : Bool) (files : Text → Option Text) (input : Option Text) (failed failed' : Failures) (status : ℕ) (told : Bool)
    (o o' e e' : Option Text) → Serves words (world files input failed failed') status told o o' e e'
    → ServesThenExplains words more files input failed failed' status o o' e e'
silent words more files input failed failed' status told o o' e e' served =
    (e', told, failed', served, λ _. refl, silence status e', λ _ _. refl)

-- a failure doesn't tell all
pub unfailed : (f : Failure) → TellsAll (failure_view f) → ⊥
unfailed (failures.Words text) t = t
unfailed (failures.Unreadable name) t = t
unfailed (failures.Program number place) t = t
unfailed (failures.Input number place) t = t
unfailed (failures.Run number at) t = t
unfailed (failures.Strand number name) t = t
unfailed (failures.Unmade skip) t = t
unfailed (failures.Script at) t = t
unfailed (failures.Trace number at) t = t
unfailed (failures.Changed name) t = t
unfailed failures.Memory t = t

-- whatever the words asked for
pub any_more : (words : List Text) (more : Bool) (files : Text → Option Text) (input : Option Text) (failed failed' : Failures) (status : ℕ)
    (o o' e e' : Option Text) → ServesThenExplains words more files input failed failed' status o o' e e'
    → ServesThenExplains words true files input failed failed' status o o' e e'
any_more words more files input failed failed' status o o' e e' h = (h.0, h.1, h.2, h.3, h.4, h.5, λ _ none. absurd (true≢false none))

module _ (words : List Text) (files : Text → Option Text) (input : Option Text) (failed failed' : Failures) (status : ℕ) (told : Bool)
    (o e e' : Option Text) (none : failed' ≡ failed) (shown : (r : Reply) × IsOrNoMemory (failure_view failures.Memory) r × (status ≡ status_of r) × ShowsError r told e e') where
  either : (b : Bool) → explains_itself (order_in words) ≡ b → ServesExplained words files input failed failed' status o o e e'
  either true is = Settling is (silent words false files input failed failed' status told o o e e' (starved words (world files input failed failed') status told o e e' none shown))
  either false is = Served told is (starved words (world files input failed failed') status told o e e' none shown)

  pub starved_or_settled : ServesExplained words files input failed failed' status o o e e'
  starved_or_settled = either (explains_itself (order_in words)) refl

abbrev pub IsUsage : WordsFault → Type 0
IsUsage (faults.Usage text) = Unit {0}
IsUsage faults.Memory = ⊥

-- an order that isn't explained without `--explain`
pub other : (words : List Text) (asked : Option Requested) (b : Bool) → order_in words ≡ asked → b ≡ explains_itself asked → b ≡ false
    → explains_itself (order_in words) ≡ false
other words asked b order is held = ap explains_itself order ∙ sym is ∙ held

-- an order that is
pub yes : (words : List Text) (asked : Option Requested) (b : Bool) → order_in words ≡ asked → b ≡ explains_itself asked → b ≡ true
    → explains_itself (order_in words) ≡ true
yes words asked b order is held = ap explains_itself order ∙ sym is ∙ held

-- words with a usage error have no order
pub unasked : (words : List Text) (e : WordsFault) → IsUsage e → IsWordsFault words e → order_in words ≡ None
unasked words (faults.Usage text) u h = h
unasked words faults.Memory u h = absurd u

pub of_kept : (P : (Text → Option Text) → Failures → Type 0) (files files' : Text → Option Text) (failed failed' : Failures) → failed' ≡ failed
    → files' ≡ files → P files' failed' → P files failed
of_kept P files files' failed failed' unfailed same h =
    subst (λ (fs : Text → Option Text). P fs failed) same (subst (λ (f : Failures). P files' f) unfailed h)

-- the answer to an order is the answer to its words
pub asked_for : (words : List Text) (w : Surroundings) (asked : Option Requested) (r : Reply) → order_in words ≡ asked → Answers w asked r → Answers w (order_in words) r
asked_for words w asked r order h = subst (λ (a : Option Requested). Answers w a r) (sym order) h

module _ (words : List Text) (files : Text → Option Text) (input : Option Text) (failed reached failed' : Failures) (asked : Option Requested)
    (order : order_in words ≡ asked) where
  since : (wanted : Reply) → ((IsReadAgain asked wanted → ⊥) → failed' ≡ reached) → (IsReadAgain (order_in words) wanted → ⊥) → failed' ≡ reached
  since wanted rest not = rest (λ yes. not (subst (λ (a : Option Requested). IsReadAgain a wanted) (sym order) yes))

  pub answered : (more : Bool) (wanted : Reply) (status status' : ℕ) (told : Bool) (o o' e e' e'' : Option Text)
      → Answers (world files input failed reached) asked wanted → (r : Reply) × IsOrNoMemory wanted r × Shows r status told o o' e e'
      → status' ≡ status → ((IsReadAgain asked wanted → ⊥) → failed' ≡ reached) → Follows status' e' e''
      → (TellsAll wanted → more ≡ false → e'' ≡ e') → ServesThenExplains words more files input failed failed' status' o o' e e''
  answered more wanted status status' told o o' e e' e'' h shown same rest follows quiet =
      let w = world files input failed reached in
      subst (λ (s : ℕ). ServesThenExplains words more files input failed failed' s o o' e e'') (sym same) (
        e',
        told,
        reached,
        (wanted, asked_for words w asked wanted order h, shown.0, shown.1, shown.2),
        since wanted rest,
        subst (λ (s : ℕ). Follows s e' e'') same follows,
        quiet,
      )

  pub complained : (more : Bool) (f : Failure) (status status' : ℕ) (told : Bool) (o e e' e'' : Option Text)
      → Answers (world files input failed reached) asked (failure_view f)
      → (r : Reply) × IsOrNoMemory (failure_view f) r × (status ≡ status_of r) × ShowsError r told e e'
      → status' ≡ status → ((IsReadAgain asked (failure_view f) → ⊥) → failed' ≡ reached) → Follows status' e' e''
      → ServesThenExplains words more files input failed failed' status' o o e e''
  complained more f status status' told o e e' e'' h shown same rest follows =
      let w = world files input failed reached in
      subst (λ (s : ℕ). ServesThenExplains words more files input failed failed' s o o e e'') (sym same) (
        e',
        told,
        reached,
        (
          failure_view f,
          asked_for words w asked (failure_view f) order h,
          shown.0,
          shown.1,
          inl (shown.2, subst (λ (t : Text). Appends o o t) (sym (still_silent f shown.0 shown.1)) (keeps o), shown.3),
        ),
        since (failure_view f) rest,
        subst (λ (s : ℕ). Follows s e' e'') same follows,
        λ tells _. absurd (unfailed f tells),
      )
