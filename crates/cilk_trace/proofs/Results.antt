-- What holds of a result or an option, by its variant: `if_ok` follows one fact by another; `on_ok` likewise; `on_some` and `if_none` take a fact out.
use Rattle.std.proofs.Common.{◌≡◌, Option, Some, None, Result, Ok, Err}
use Rattle.std.specs.Prelude.{IfOk, IfNone, OnOk, OnSome}

pub if_ok : {A E : Type 0} {P Q : A → Type 0} (r : Result A E) → IfOk r P → ((v : A) → P v → Q v) → IfOk r Q
if_ok (Ok v) h f = f v h
if_ok (Err e) h f = tt

pub on_some : {A P : Type 0} (o : Option A) (x : A) → o ≡ Some x → OnSome o P → P
on_some (Some y) x e h = h
on_some None x e h = absurd (cc e)

pub if_none : {A P : Type 0} (o : Option A) → o ≡ None → IfNone o P → P
if_none None e h = h
if_none (Some y) e h = absurd (cc e)

pub on_ok : {A E P Q : Type 0} (r : Result A E) → OnOk r P → (P → Q) → OnOk r Q
on_ok (Ok v) h f = f h
on_ok (Err e) h f = tt
