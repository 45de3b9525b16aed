use Rattle.std.proofs.Common.{◌≡◌, true, false, slice_get, Some, None, sym, ap, ◌∙◌, subst}
use Rattle.cilk_scheduler.specs.Workers.{IsLocated, is_idle, offers}
use Rattle.cilk_schedule.proofs.Workers.{same_at}
use Rattle.cilk_schedule.proofs.thieves.find.Goals as goal

pub returns-in_default-clause-can : goal.returns-in_default-clause-can
returns-in_default-clause-can c = λ k h.
    let ws = c.args.scheduler.now.workers.items in
    let l = subst (λ l. IsLocated l c.args.place c.in_ok-victim.victim c.in_ok-victim.index) (c.as_slice-2.ensures.value ∙ sym c.as_slice-3.ensures.value) c.in_ok-victim.ensures in
    let told : slice_get (offers ws) c.args.place ≡ c.offered_at.result = ap (λ l. slice_get (offers l) c.args.place) (sym c.as_slice-3.ensures.value) ∙ sym (c.offered_at.ensures c.args.place l) in
    let no : None ≡ Some k = sym c.in_default.is ∙ sym told ∙ h.offered in
    cc

pub returns-then-not-may_steal-clause-can : goal.returns-then-not-may_steal-clause-can
returns-then-not-may_steal-clause-can c = λ k h.
    let ws = c.args.scheduler.now.workers.items in
    let l = subst (λ l. IsLocated l c.args.place c.in_ok-victim.victim c.in_ok-victim.index) (c.as_slice-2.ensures.value ∙ sym c.as_slice-3.ensures.value) c.in_ok-victim.ensures in
    let told : slice_get (offers ws) c.args.place ≡ c.offered_at.result = ap (λ l. slice_get (offers l) c.args.place) (sym c.as_slice-3.ensures.value) ∙ sym (c.offered_at.ensures c.args.place l) in
    let same : c.in-Some.frame ≡ k = same_at (offers ws) c.args.place c.in-Some.frame k (told ∙ c.in-Some.is) h.offered in
    let here : slice_get c.as_slice-4.result.now c.in-Some.frame ≡ Some h.frame_state = subst (λ l. slice_get l c.in-Some.frame ≡ Some h.frame_state) (sym c.as_slice-4.ensures.value) (subst (λ n. slice_get c.args.scheduler.now.frames.items n ≡ Some h.frame_state) (sym same) h.sits) in
    let yes : c.may_steal.result ≡ true = c.may_steal.ensures.no h.frame_state here h.opens in
    let no : true ≡ false = sym yes ∙ c.if-not-may_steal.true in
    cc

pub returns-clause-can : goal.returns-clause-can
returns-clause-can c =
    let ws = c.args.scheduler.now.workers.items in
    let l = subst (λ l. IsLocated l c.args.place c.in_ok-victim.victim c.in_ok-victim.index) (c.as_slice-2.ensures.value ∙ sym c.as_slice-3.ensures.value) c.in_ok-victim.ensures in
    let told : slice_get (offers ws) c.args.place ≡ c.offered_at.result = ap (λ l. slice_get (offers l) c.args.place) (sym c.as_slice-3.ensures.value) ∙ sym (c.offered_at.ensures c.args.place l) in
    let y = c.may_steal.ensures.yes c.if-not-may_steal.false in
    record {
      idle = ap (λ l. is_idle l c.args.worker) (sym c.as_slice.ensures.value) ∙ sym c.is_idle.ensures ∙ c.if-not-is_idle.false;
      few = c.if-place-scheduler.false;
      offered = told ∙ c.in-Some.is;
      frame_state = y.0;
      sits = subst (λ l. slice_get l c.in-Some.frame ≡ Some y.0) c.as_slice-4.ensures.value y.1;
      opens = y.2;
    }

pub returns-clause-stands : goal.returns-clause-stands
returns-clause-stands c =
    let ws = c.args.scheduler.now.workers.items in
    let l = subst (λ l. IsLocated l c.args.place c.in_ok-victim.victim c.in_ok-victim.index) (c.as_slice-2.ensures.value ∙ sym c.as_slice-3.ensures.value) c.in_ok-victim.ensures in
    let told : slice_get (offers ws) c.args.place ≡ c.offered_at.result = ap (λ l. slice_get (offers l) c.args.place) (sym c.as_slice-3.ensures.value) ∙ sym (c.offered_at.ensures c.args.place l) in
    let here : IsLocated ws c.args.place c.in_ok-victim.victim c.in_ok-victim.index = subst (λ l. IsLocated l c.args.place c.in_ok-victim.victim c.in_ok-victim.index) c.as_slice-2.ensures.value c.in_ok-victim.ensures in
    (here, same_at (offers ws) c.args.place here.1 c.in-Some.frame here.4 (told ∙ c.in-Some.is))
