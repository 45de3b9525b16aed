use Rattle.std.proofs.Common.{◌≡◌, ◌≤◌, ℕ, List, length, reverse, slice_get, Option, Some, None, MatchOption, Bor, sym, ap, ◌∙◌, subst}
use Rattle.std.proofs.lemmas.List.{length-reverse}
use Rattle.std.proofs.lemmas.Option.{slice_get-get_or}
use Rattle.std.specs.Slice.{IsItemAt}
use Rattle.cilk_types.specs.Stacks.{from_bottom}
use Rattle.cilk_types.proofs.Stacks.{from_items}
use Rattle.cilk_types.proofs.stack.Stack.at.Goals as goal

found : {T : Type 0} (items list stack : List T) (n : ℕ) (o : Option (Bor T)) → reverse items ≡ stack → list ≡ items → IsItemAt list n o → MatchOption o (length stack ≤ n) (λ frame. from_bottom stack n ≡ Some frame.now)
found items list stack n None e v h = subst (λ l. l ≤ n) (ap length v ∙ sym (length-reverse items) ∙ ap length e) h.3
found items list stack n (Some x) e v h =
    from_items items stack n (sym e) ∙ ap (λ l. slice_get l n) (sym v) ∙ slice_get-get_or list n x.now h.3.0 ∙ ap Some (sym h.1)

pub returns : goal.returns
returns g c = found c.self.inside.items.items c.as_slice.result.now c.args.self.now c.args.place c.get.result c.self.view_is c.as_slice.ensures.value c.get.ensures.lookup
