-- Each iteration multiplies the first two values that are left.
use Rattle.std.proofs.Common.{◌≡◌, map, List, [], ◌∷◌, ◌++◌, reverse, sym, ap, ◌∙◌, arith}
use Rattle.std.proofs.lemmas.List.{reverse-append, reverse-reverse}
use Rattle.std.proofs.lemmas.Grind.{common_steps}
use Rattle.cilk_monoid.specs.Products.{product}
use Rattle.cilk_monoid.proofs.ProductLaws.{product-combine, product-grouped, members_of}
use Rattle.cilk_monoid.proofs.fold.fold_pieces.Goals as goal

-- the last item of a list is the first item of its reverse
reversed_last : {X : Type 0} (xs ys : List X) (x : X) → ys ≡ xs ++ x ∷ [] → reverse ys ≡ x ∷ reverse xs
reversed_last xs ys x e = ap reverse e ∙ reverse-append xs (x ∷ [])

pub loop-piece-init : goal.loop-piece-init
loop-piece-init g c =
    let m = g.M.Monoid in
    let back : reverse c.reverse.new.self.items ≡ c.args.pieces.items = ap reverse c.reverse.ensures.items ∙ reverse-reverse c.args.pieces.items in
    let first = sym (reversed_last c.pop.new.self.items c.reverse.new.self.items c.in-Some.product c.in-Some.ensures.items) ∙ back in
    record {
      same_product = ap (λ xs. product m.structure (map m.value xs)) first;
      room = omega (arith, c.in-Some.ensures.len, c.reverse.new.self.ok);
    }

pub loop-piece-preserved : goal.loop-piece-preserved
loop-piece-preserved g c =
    let m = g.M.Monoid in
    let laws = g.met.M.Monoid in
    let left = c.pop-in-loop-piece.new.self.items in
    let next = reversed_last left c.loop-piece.pieces.items c.in-Some-pop.piece c.in-Some-pop.ensures.items in
    let rest = map m.value (reverse left) in
    let multiplied = product-combine m.structure m.IsMember laws.lawful (m.value c.loop-piece.product) (m.value c.in-Some-pop.piece) rest (laws.members c.loop-piece.product) (laws.members c.in-Some-pop.piece) (members_of m.structure m.IsMember laws.lawful m.value laws.members (reverse left)) in
    record {
      same_product =
          ap (λ v. product m.structure (v ∷ rest)) c.in-Ok.ensures.ok ∙ multiplied
          ∙ ap (λ xs. product m.structure (m.value c.loop-piece.product ∷ map m.value xs)) (sym next)
          ∙ c.loop-piece.invariant.same_product;
      room = omega arith;
    }

pub returns-in_default-clause-grouping : goal.returns-in_default-clause-grouping
returns-in_default-clause-grouping g c grouping same =
    let m = g.M.Monoid in
    let laws = g.met.M.Monoid in
    let p : m.value c.unit.result ≡ product m.structure (map m.value c.args.pieces.items) = grind (arith, common_steps) in
    product-grouped m.structure m.IsMember laws.lawful (m.value c.unit.result) (map m.value c.args.pieces.items) grouping p (members_of m.structure m.IsMember laws.lawful m.value laws.members c.args.pieces.items) same

pub returns-clause-grouping : goal.returns-clause-grouping
returns-clause-grouping g c grouping same =
    let m = g.M.Monoid in
    let laws = g.met.M.Monoid in
    let p : m.value c.loop-piece.product ≡ product m.structure (map m.value c.args.pieces.items) = grind (arith, common_steps) in
    product-grouped m.structure m.IsMember laws.lawful (m.value c.loop-piece.product) (map m.value c.args.pieces.items) grouping p (members_of m.structure m.IsMember laws.lawful m.value laws.members c.args.pieces.items) same
