-- One more deed that is no sync and no end, and a block whose pieces stay.
--
-- - `plain_lasts`, `stolen_plain`, `joined_plain`, `end_plain`: one more deed;
-- - `stolen_sync`, `end_sync`: one more deed that is a sync;
-- - `lays_same`: pieces that are there stay;
-- - `get_low`, `length_more`: lists.
use Rattle.std.proofs.Common.{◌≡◌, ◌<◌, ◌+◌, inl, inr, ℕ, zero, suc, nat_eq, Bool, true, false, cond, List, [], ◌∷◌, ◌++◌, length, slice_get, Option, Some, None, refl, sym, ap₂, ◌∙◌, subst, arith}
use Rattle.cilk_types.specs.declared.invocation.Invocation.TheVariants.{Call, Spawn}
use Rattle.cilk_monoid.specs.Values.{ViewValue}
use Rattle.cilk_monoid.specs.declared.kind.MonoidKind.{MonoidKind}
use Rattle.cilk_determinacy.specs.Cuts.{joined_at, spawn_bit, sync_bit}
use Rattle.cilk_determinacy.specs.Machine.{HasEnd}
use Rattle.cilk_determinacy.specs.Runs.{Event, Reads, Writes, Syncs, Ends, Passes, Deed, Does, Invokes}
use Rattle.cilk_join.specs.Rows.{Wait}
use Rattle.cilk_determinacy.specs.FrameEnvMachine.{is_end}
use Rattle.cilk_determinacy.specs.Reducers.{View, views_of}
use Rattle.cilk_determinacy.specs.FrameEnvs.{FrameEnv}
use Rattle.cilk_scheduler.specs.Blocks.{stolen_in, IsRun, Lays}
use Rattle.cilk_scheduler.specs.Touching.{IsPlain}

pub get_low : {A : Type 0} (xs : List A) (j : ℕ) (a : A) → slice_get xs j ≡ Some a → j < length xs
get_low [] j a h = let no : None ≡ Some a = h in let z : ⊥ = cc in absurd z
get_low (x ∷ xs) zero a h = omega arith
get_low (x ∷ xs) (suc j) a h = let low = get_low xs j a h in omega (arith, low)

pub length_more : {A : Type 0} (xs : List A) (x : A) → length (xs ++ x ∷ []) ≡ length xs + 1
length_more [] x = refl
length_more (y ∷ xs) x = let h = length_more xs x in omega (arith, h)

pub plain_lasts : (e : Event) → IsPlain e → is_end (Does e) ≡ false
plain_lasts (Reads c v) h = refl
plain_lasts (Writes c v) h = refl
plain_lasts Syncs h = absurd h
plain_lasts (Ends v gone) h = absurd h
plain_lasts (Passes m) h = refl

pub stolen_plain : (loose : ℕ → Bool) (k : ℕ) (ks : List ℕ) (ds : List (Deed FrameEnv)) (e : Event) → IsPlain e → stolen_in loose k ks (ds ++ Does e ∷ []) ≡ stolen_in loose k ks ds
stolen_plain loose k ks [] (Reads c v) h = refl
stolen_plain loose k ks [] (Writes c v) h = refl
stolen_plain loose k ks [] Syncs h = absurd h
stolen_plain loose k ks [] (Ends v gone) h = refl
stolen_plain loose k ks [] (Passes m) h = refl
stolen_plain loose k ks (Does (Reads c v) ∷ ds) e h = stolen_plain loose k ks ds e h
stolen_plain loose k ks (Does (Writes c v) ∷ ds) e h = stolen_plain loose k ks ds e h
stolen_plain loose k ks (Does Syncs ∷ ds) e h = stolen_plain loose k [] ds e h
stolen_plain loose k ks (Does (Ends v gone) ∷ ds) e h = stolen_plain loose k ks ds e h
stolen_plain loose k ks (Does (Passes m) ∷ ds) e h = stolen_plain loose k ks ds e h
stolen_plain loose k ks (Invokes Call w ∷ ds) e h = stolen_plain loose (suc k) ks ds e h
stolen_plain loose k ks (Invokes Spawn w ∷ ds) e h = stolen_plain loose (suc k) (cond (loose k) (ks ++ k ∷ []) ks) ds e h

sync_plain : (ds : List (Deed FrameEnv)) (e : Event) → IsPlain e → sync_bit (ds ++ Does e ∷ []) ≡ sync_bit ds
sync_plain [] (Reads c v) h = refl
sync_plain [] (Writes c v) h = refl
sync_plain [] Syncs h = absurd h
sync_plain [] (Ends v gone) h = refl
sync_plain [] (Passes m) h = refl
sync_plain (Does (Reads c v) ∷ ds) e h = sync_plain ds e h
sync_plain (Does (Writes c v) ∷ ds) e h = sync_plain ds e h
sync_plain (Does Syncs ∷ ds) e h = refl
sync_plain (Does (Ends v gone) ∷ ds) e h = sync_plain ds e h
sync_plain (Does (Passes m) ∷ ds) e h = sync_plain ds e h
sync_plain (Invokes b w ∷ ds) e h = sync_plain ds e h

pub joined_plain : (z q : ℕ) (ds : List (Deed FrameEnv)) (e : Event) → IsPlain e → joined_at z q (ds ++ Does e ∷ []) ≡ joined_at z q ds
joined_plain z q [] e h = refl
joined_plain z q (Does x ∷ ds) e h = joined_plain z q ds e h
joined_plain z q (Invokes b w ∷ ds) e h = ap₂ (λ n m. cond (nat_eq z q) (spawn_bit b n) m) (sync_plain ds e h) (joined_plain (suc z) q ds e h)

pub end_plain : (ds : List (Deed FrameEnv)) (e : Event) → IsPlain e → HasEnd (ds ++ Does e ∷ []) → HasEnd ds
end_plain [] (Reads c v) h g = g
end_plain [] (Writes c v) h g = g
end_plain [] Syncs h g = absurd h
end_plain [] (Ends v gone) h g = absurd h
end_plain [] (Passes m) h g = g
end_plain (Does (Reads c v) ∷ ds) e h g = end_plain ds e h g
end_plain (Does (Writes c v) ∷ ds) e h g = end_plain ds e h g
end_plain (Does Syncs ∷ ds) e h g = end_plain ds e h g
end_plain (Does (Ends v gone) ∷ ds) e h g = g
end_plain (Does (Passes m) ∷ ds) e h g = end_plain ds e h g
end_plain (Invokes b w ∷ ds) e h g = end_plain ds e h g

pub stolen_sync : (loose : ℕ → Bool) (k : ℕ) (ks : List ℕ) (ds : List (Deed FrameEnv)) → stolen_in loose k ks (ds ++ Does Syncs ∷ []) ≡ []
stolen_sync loose k ks [] = refl
stolen_sync loose k ks (Does (Reads c v) ∷ ds) = stolen_sync loose k ks ds
stolen_sync loose k ks (Does (Writes c v) ∷ ds) = stolen_sync loose k ks ds
stolen_sync loose k ks (Does Syncs ∷ ds) = stolen_sync loose k [] ds
stolen_sync loose k ks (Does (Ends v gone) ∷ ds) = stolen_sync loose k ks ds
stolen_sync loose k ks (Does (Passes m) ∷ ds) = stolen_sync loose k ks ds
stolen_sync loose k ks (Invokes Call w ∷ ds) = stolen_sync loose (suc k) ks ds
stolen_sync loose k ks (Invokes Spawn w ∷ ds) = stolen_sync loose (suc k) (cond (loose k) (ks ++ k ∷ []) ks) ds

pub end_sync : (ds : List (Deed FrameEnv)) → HasEnd (ds ++ Does Syncs ∷ []) → HasEnd ds
end_sync [] g = g
end_sync (Does (Reads c v) ∷ ds) g = end_sync ds g
end_sync (Does (Writes c v) ∷ ds) g = end_sync ds g
end_sync (Does Syncs ∷ ds) g = end_sync ds g
end_sync (Does (Ends v gone) ∷ ds) g = g
end_sync (Does (Passes m) ∷ ds) g = end_sync ds g
end_sync (Invokes b w ∷ ds) g = end_sync ds g

module _ (kind : MonoidKind) (kid kid' : ℕ → View) (there there' : ℕ → Bool) (own own' : View) (same : (q : ℕ) → there' q ≡ there q) (kids : (q : ℕ) → there q ≡ true → kid' q ≡ kid q) (owns : own' ≡ own) where
  pub lays_same : (acc : View) (ks : List ℕ) (run : Option ViewValue) (waits : List (Wait ViewValue)) → Lays kind kid there own acc ks run waits → Lays kind kid' there' own' acc ks run waits
  lays_same acc [] run waits h = (subst (λ o. IsRun kind ((views_of kind).combine acc o) run) (sym owns) h.0, h.1)
  lays_same acc (k ∷ ks) run waits h = by (λ a r w g. lays_same a ks r w g) h
    where
      by : ((a : View) (r : Option ViewValue) (w : List (Wait ViewValue)) → Lays kind kid there own a ks r w → Lays kind kid' there' own' a ks r w) → Lays kind kid there own acc (k ∷ ks) run waits → Lays kind kid' there' own' acc (k ∷ ks) run waits
      by next (inl g) = inl (same k ∙ g.0, subst (λ v. Lays kind kid' there' own' ((views_of kind).combine acc v) ks run waits) (sym (kids k g.0)) (next ((views_of kind).combine acc (kid k)) run waits g.1))
      by next (inr g) = inr (same k ∙ g.0, g.1, g.2, g.3, g.4, next ((views_of kind).unit) g.1 g.2 g.5)
