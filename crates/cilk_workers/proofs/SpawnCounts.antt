-- The spawns among the first events of a run: one event more.
use Rattle.std.proofs.Common.{◌≡◌, ◌∙◌, ◌<◌, ℕ, ◌+◌, ◌-◌, Bool, true, false, List, length, take, slice_get, slice_index_or, Some, sym, ap, arith}
use Rattle.std.specs.List.{count_by}
use Rattle.std.proofs.lemmas.Option.{slice_get-get_or}
use Rattle.std.proofs.lemmas.List.Sums.{count_by_more_no, count_by_more_yes}
use Rattle.cilk_types.specs.declared.event.Event.{Event}
use Rattle.cilk_types.specs.declared.event.Event.TheVariants.{Sync}
use Rattle.cilk_tree.specs.Word.{is_spawn}

abbrev pub spawns : List Event → ℕ
spawns es = count_by (λ e. is_spawn (Some e)) es

there : (es : List Event) (i : ℕ) → i < length es → is_spawn (slice_get es (i + 1 - 1)) ≡ is_spawn (Some (slice_index_or es i Sync))
there es i less = let e : i + 1 - 1 ≡ i = omega arith in rw e (ap is_spawn (slice_get-get_or es i Sync less))

pub one_more : (es : List Event) (i : ℕ) (told : Bool) → i < length es → told ≡ is_spawn (slice_get es (i + 1 - 1)) → told ≡ true → spawns (take (i + 1) es) ≡ spawns (take i es) + 1
one_more es i told less same one = count_by_more_yes (λ e. is_spawn (Some e)) es i Sync less (sym (there es i less) ∙ sym same ∙ one)

pub no_more : (es : List Event) (i : ℕ) (told : Bool) → i < length es → told ≡ is_spawn (slice_get es (i + 1 - 1)) → told ≡ false → spawns (take (i + 1) es) ≡ spawns (take i es)
no_more es i told less same none = count_by_more_no (λ e. is_spawn (Some e)) es i Sync less (sym (there es i less) ∙ sym same ∙ none)
