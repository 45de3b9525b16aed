use Rattle.std.proofs.Common.{◌≡◌, ◌<◌, ◌++◌, ◌∷◌, [], MatchOption, length, sym, ap, ap₂, ◌∙◌, subst, arith}
use Rattle.cilk_scheduler.specs.Numbered.{AreNamed}
use Rattle.cilk_scheduler.specs.declared.choice.Stop.TheVariants as stops
use Rattle.cilk_scheduler.specs.declared.choice.Strand.{Strand}
use Rattle.cilk_schedule.proofs.machine.Machine.name.Goals as goal

pub returns-clause-name : goal.returns-clause-name
returns-clause-name c = λ fault strand names k is frame named low.
    let b = c.args.self.now.scheduler in
    let q : stops.At c.in-At.fault c.in-At.strand ≡ stops.At fault strand = sym c.in-At.is ∙ is in
    let same : c.in-At.strand ≡ strand = cc in
    let first = ap (λ (z : Strand). z.frame) same in
    let e = c.saturating_sub-frame.ensures in
    let place_is : c.saturating_sub-frame.result ≡ k = omega (arith, e, first, frame) in
    let frame_states = subst (λ l. AreNamed l names) (sym c.as_slice.ensures.value) named in
    let within = subst (λ l. c.saturating_sub-frame.result < length l) (sym c.as_slice.ensures.value) (subst (λ n. n < length b.frames.items) (sym place_is) low) in
    c.in_ok-push.ensures.items ∙ ap₂ (λ l n. l ++ n ∷ []) (c.in_ok-name.ensures names frame_states within ∙ ap names place_is) (ap (λ (z : Strand). z.number) same)

pub returns-clause-strand : goal.returns-clause-strand
returns-clause-strand c = λ p fault strand is h.
    let x = h.is_stopped in
    let t = x.tells in
    subst (λ o. MatchOption o (c.push.new.self.items ≡ []) (λ z. c.push.new.self.items ≡ z.frame ++ z.strand ∷ [])) (sym x.stopped) (returns-clause-name c fault strand h.name x.place is x.frame t.named x.here)
