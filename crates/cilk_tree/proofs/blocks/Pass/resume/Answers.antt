use Rattle.std.proofs.Common.{◌≡◌, ◌-◌, ◌<◌, ℕ, List, Some, length, get_or, set, sym, ap, ◌∙◌, arith, refl}
use Rattle.std.proofs.lemmas.Option.{slice_get_read, slice_get-get_or}
use Rattle.cilk_tree.specs.Word.{resume, word_step}
use Rattle.cilk_tree.proofs.Placing.{met_plain, met_resume, resume_within}
use Rattle.cilk_tree.proofs.blocks.Pass.resume.Goals as goal

get_or_same : (l : List ℕ) (i x d : ℕ) → i < length l → x ≡ get_or l i x → x ≡ get_or l i d
get_or_same l i x d less is = let two : Some x ≡ Some (get_or l i d) = sym (slice_get_read l (length l) i x refl less is) ∙ slice_get-get_or l i d less in cc two

pub index-block-requires : goal.index-block-requires
index-block-requires c =
    let within = (resume_within c.args.plan.now c.laws.ensures.order c.args.at c.in-Some.spawn ((c.requires.spawned c.in-Some.spawn).0 c.in-Some.is)).0 in
    let places = c.requires.met.resumed.places in
    let long = c.args.self.now.resumptions.ok.0 in
    omega (arith, within, places, long)

pub put-requires : goal.put-requires
put-requires c =
    let within = (resume_within c.args.plan.now c.laws.ensures.order c.args.at c.in-Some.spawn ((c.requires.spawned c.in-Some.spawn).0 c.in-Some.is)).0 in
    let places = c.requires.met.resumed.places in
    omega (arith, within, places)

pub returns-in-Some : goal.returns-in-Some
returns-in-Some c =
    let at = c.requires.within in
    let j : ℕ = c.in-Some.spawn in
    let is : word_step c.args.plan.now c.args.at ≡ resume j = (c.requires.spawned j).0 c.in-Some.is in
    let within = (resume_within c.args.plan.now c.laws.ensures.order c.args.at j is).0 in
    let places = c.requires.met.resumed.places in
    let read : c.index-block.result.now ≡ get_or c.args.self.now.resumptions.items j 0 =
    get_or_same c.args.self.now.resumptions.items j c.index-block.result.now 0 (omega (arith, within, places)) c.index-block.ensures in
    met_resume c.args.plan.now c.laws.ensures.order (c.args.at - 1) c.args.at (omega (arith, at)) at.1 c.args.self.now.syncs.items c.args.self.now.firsts.items c.args.self.now.blocks.items _
    c.args.self.now.resumptions.items _ c.args.self.now.pending.items j c.requires.met is
    (c.put-in-Some.ensures ∙ ap (set c.args.self.now.blocks.items c.args.at) read) c.put.ensures

pub returns-in_default : goal.returns-in_default
returns-in_default c =
    let at = c.requires.within in
    met_plain c.args.plan.now c.laws.ensures.order (c.args.at - 1) c.args.at (omega (arith, at)) at.1 _ _ _ _ _ c.requires.met c.requires.plain.0 c.requires.plain.1
    (λ k is. c.in_default.not-Some k ((c.requires.spawned k).1 is))
