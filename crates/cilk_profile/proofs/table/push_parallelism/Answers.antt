use Rattle.std.proofs.Common.{◌≡◌, ℕ, List, [], ◌∷◌, ◌++◌, ap, append_assoc, ◌∙◌}
use Rattle.cilk_profile.specs.Table.{decimal_point, hundredths}
use Rattle.cilk_profile.proofs.table.push_parallelism.Goals as goal

-- a text that grew by four pieces
grown : (t x y z w a b d e : List ℕ) → a ≡ t ++ x → b ≡ a ++ y → d ≡ b ++ z → e ≡ d ++ w → e ≡ t ++ ((x ++ (y ++ z)) ++ w)
grown t x y z w a b d e p q r s =
    s ∙ ap (λ u. u ++ w) (r ∙ ap (λ u. u ++ z) (q ∙ ap (λ u. u ++ y) p) ∙ append_assoc (t ++ x) y z ∙ append_assoc t x (y ++ z))
    ∙ append_assoc t (x ++ (y ++ z)) w

pub returns : goal.returns
returns c =
    grown c.args.text.now.items c.args.name.now (c.args.mark ∷ []) (decimal_point (hundredths c.args.work c.args.span)) (10 ∷ []) _ _ _ _
    c.in_ok-extend_from_slice.ensures.items c.in_ok-push.ensures.items (c.in_ok-push_point.ensures ∙ ap (λ n. c.push.new.self.items ++ decimal_point n) c.hundredths.ensures) c.in_ok-push-2.ensures.items
