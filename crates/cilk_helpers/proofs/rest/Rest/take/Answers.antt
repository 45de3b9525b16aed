use Rattle.std.proofs.Common.{◌≡◌, ℕ, ◌≤◌, ◌∷◌, ◌++◌, [], List, sym, ap, ◌∙◌, subst, reverse, arith}
use Rattle.cilk_program.specs.declared.ask.Ask.{Ask}
use Rattle.cilk_program.specs.Ticks.{IsWithin}
use Rattle.std.proofs.lemmas.List.{reverse-append}
use Rattle.cilk_helpers.specs.Asked.{NoteView}
use Rattle.cilk_helpers.specs.Retold.{held}
use Rattle.cilk_helpers.proofs.rest.Rest.take.Goals as goal

pub returns : goal.returns
returns c =
    let n = c.in-Some.note in
    let old = c.args.self.now in
    let rest = c.pop.new.self in
    let items : old.notes.items ≡ rest.items ++ n ∷ [] = c.in-Some.ensures.items in
    let parts = c.into_parts-told.ensures in
    let own = parts.left in
    let before = c.if-own-self.false in
    let less : n.left ≤ old.left = subst (λ (l : ℕ). l ≤ old.left) own before in
    let within = c.if-spent-left.false in (
      n,
      reverse rest.items,
      ap (λ (l : List NoteView). held old.left l) (ap reverse items ∙ reverse-append rest.items (n ∷ [])),
      ap (λ (l : ℕ). held l (reverse rest.items)) own,
      sym parts.told ∙ c.same.ensures.0 c.if-not-same.false,
      sym parts.asks,
      record { less = less; spent = omega (arith, own, before, within); within = subst (λ (k : Ask). IsWithin k) parts.asks (c.goes_on.ensures c.if-not-goes_on.false) },
    )
