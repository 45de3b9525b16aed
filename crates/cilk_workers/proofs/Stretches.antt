-- One event of a stretch.
--
-- - `due`: it is the next event of a worker with this piece;
-- - `silent`: a `begin`, a `resume` or a `sync` is silent and no spawn;
-- - `one_more`: the piece has one event more.
use Rattle.std.proofs.Common.{◌≡◌, ◌⊎◌, inl, inr, ◌<◌, ℕ, length, Some, refl, sym, ap, ◌∙◌, subst}
use Rattle.cilk_program.specs.declared.ask.Ask.{Ask}
use Rattle.cilk_replay.specs.Chains.{standing}
use Rattle.cilk_replay.specs.Making.{IsWanted}
use Rattle.cilk_shared.specs.Pieces.{PieceValue, grown}
use Rattle.cilk_shared.specs.Values.{YardValue}
use Rattle.cilk_tree.specs.Kinds.{kind_of_event}
use Rattle.cilk_tree.specs.Runs.{IsAsked}
use Rattle.cilk_tree.specs.Word.{event}
use Rattle.cilk_tree.specs.declared.kind.Kind.{Kind}
use Rattle.cilk_tree.specs.declared.kind.Kind.TheVariants as kinds
use Rattle.cilk_workers.specs.Bursts.{Leads, Reaches, passes}
use Rattle.cilk_workers.specs.Rows.{IsGood, yard_of}
use Rattle.cilk_workers.specs.Shared.{SharedValue, event_order_in}
use Rattle.cilk_workers.specs.Turns.{HasMore, IsDue, IsSilent}
use Rattle.cilk_workers.specs.declared.work.Work.{Work}
use Rattle.cilk_workers.proofs.Bursts.{IsNoSpawn, other_kind}
use Rattle.cilk_workers.proofs.Due.{grown_good}

-- a worker with this piece
abbrev pub work_of : SharedValue → PieceValue → Work
work_of y p = record { piece = p; chain = standing y.replay p.upto }

pub due : (y : SharedValue) (p : PieceValue) (j k : Kind) (a : Ask) → (let u = y.replay in u.yard ≡ yard_of y.run) → j ≡ k → IsGood y.run p → IsWanted y.replay p.upto j a → IsDue y (work_of y p) k × HasMore y (work_of y p)
due y p j k a same is good wanted =
    let next = wanted.next in (
      record {
        works = record { good = good; stands = refl };
        asked = subst (λ (z : YardValue). IsAsked z.event_order p.upto) same wanted.asked;
        kind_is = subst (λ (z : YardValue). kind_of_event (event z.event_order p.upto) ≡ Some k) same (next.is ∙ ap (λ (z : Kind). Some z) is);
      },
      subst (λ (z : YardValue). p.upto < length (let s = z.event_order in s.events)) same next.more,
    )

pub silent : (k : Kind) → ((x : ℕ) × (k ≡ kinds.Begin x)) ⊎ ((x : ℕ) × (k ≡ kinds.Resume x)) ⊎ (k ≡ kinds.Sync) → IsSilent k × IsNoSpawn k
silent k (inl (x, q)) = subst (λ (z : Kind). IsSilent z × IsNoSpawn z) (sym q) (tt, tt)
silent k (inr (inl (x, q))) = subst (λ (z : Kind). IsSilent z × IsNoSpawn z) (sym q) (tt, tt)
silent k (inr (inr q)) = subst (λ (z : Kind). IsSilent z × IsNoSpawn z) (sym q) (tt, tt)

pub one_more : (y : SharedValue) (p q : PieceValue) (k : Kind) → kind_of_event (event (event_order_in y) p.upto) ≡ Some k → IsNoSpawn k → q ≡ grown p → (first : PieceValue) → Reaches y first p → Reaches y first q
one_more y p q k is other grew first r =
    let g = grown_good y p q r.good grew in
    record {
      good = g.0;
      grows = λ a ts us led. subst (λ (n : ℕ). Leads (event_order_in y) a ts n us) (sym g.2) (passes p.upto us (r.grows a ts us led) (other_kind (event_order_in y) p.upto k is other));
    }
