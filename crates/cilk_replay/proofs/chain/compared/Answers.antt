use Rattle.std.proofs.Common.{◌≡◌, ◌⊎◌, inl, inr, ℕ, rules, refl, sym, ap, ap₂, ◌∙◌, subst}
use denote.Enum.Bare.{differs_true, differs_false}
use Rattle.cilk_types.specs.declared.event.Instance.{Instance}
use Rattle.cilk_tree.specs.declared.kind.Kind.{Kind}
use Rattle.cilk_tree.specs.declared.kind.Kind.TheVariants as kinds
use Rattle.cilk_replay.specs.contracts.sort.Sort.{the_type}
use Rattle.cilk_replay.specs.declared.sight.Sight.{Sight}
use Rattle.cilk_replay.specs.Reducing.{reducer_asked}
use Rattle.cilk_replay.specs.Sights.{cell_asked, layouts_of}
use Rattle.cilk_replay.specs.Sorts.{NamesNothing, sort_of}
use Rattle.cilk_replay.proofs.Along as along
use Rattle.cilk_replay.proofs.Matching.{IsOfCell, IsOfChild, IsOfReducer}
use Rattle.cilk_replay.proofs.chain.compared.Goals as goal

pub returns-then-ne : goal.returns-then-ne
returns-then-ne c = λ at l below seen S is.
    along.differs_there c.args.replay.now c.args.replay.now refl at c.args.asked.now l below S c.args.kind is
    (λ q. differs_true the_type c.asked_sort.result c.kind_sort.result (sym c.ne.ensures ∙ c.if-ne.true) (c.asked_sort.ensures ∙ q ∙ sym c.kind_sort.ensures))

of_cell : (k : Kind) (cell : ℕ) → (k ≡ kinds.Read cell) ⊎ (k ≡ kinds.Write cell) → IsOfCell cell k
of_cell k cell (inl q) = subst (IsOfCell cell) (sym q) refl
of_cell k cell (inr q) = subst (IsOfCell cell) (sym q) refl

pub returns-in-Read : goal.returns-in-Read
returns-in-Read c = λ at l below seen S is.
    along.matches_cell c.args.replay.now c.args.replay.now refl at c.args.asked.now l below S c.args.kind is c.in-Read.cell (of_cell c.args.kind c.in-Read.cell c.in-Read.is)
    (sym c.asked_sort.ensures ∙ differs_false the_type (search rules) c.asked_sort.result c.kind_sort.result (sym c.ne.ensures ∙ c.if-ne.false) ∙ c.kind_sort.ensures)
    c.cell_asked.result c.cell_matches.result
    (c.cell_asked.ensures ∙ ap₂ (λ (n : ℕ) (s : Sight). cell_asked n s c.args.asked.now) c.globals.ensures (sym seen))
    c.cell_matches.ensures

of_child : (k : Kind) (f : ℕ) → (k ≡ kinds.Spawn f) ⊎ (k ≡ kinds.Call f) → IsOfChild f k
of_child k f (inl q) = subst (IsOfChild f) (sym q) refl
of_child k f (inr q) = subst (IsOfChild f) (sym q) refl

pub returns-in-Spawn : goal.returns-in-Spawn
returns-in-Spawn c = λ at l below seen S is.
    along.matches_child c.args.replay.now c.args.replay.now refl at c.args.asked.now l below S c.args.kind is c.in-Spawn.child (of_child c.args.kind c.in-Spawn.child c.in-Spawn.is)
    (sym c.asked_sort.ensures ∙ differs_false the_type (search rules) c.asked_sort.result c.kind_sort.result (sym c.ne.ensures ∙ c.if-ne.false) ∙ c.kind_sort.ensures)
    c.body.result c.body.ensures c.body_asked.result c.body_matches.result c.body_asked.ensures c.body_matches.ensures

of_reducer : (k : Kind) (i : Instance) → (k ≡ kinds.Create i) ⊎ (k ≡ kinds.Update i) ⊎ (k ≡ kinds.Set i) ⊎ (k ≡ kinds.Value i) → IsOfReducer i k
of_reducer k i (inl q) = subst (IsOfReducer i) (sym q) refl
of_reducer k i (inr (inl q)) = subst (IsOfReducer i) (sym q) refl
of_reducer k i (inr (inr (inl q))) = subst (IsOfReducer i) (sym q) refl
of_reducer k i (inr (inr (inr q))) = subst (IsOfReducer i) (sym q) refl

pub returns-in-Create : goal.returns-in-Create
returns-in-Create c = λ at l below seen S is.
    along.matches_reducer c.args.replay.now c.args.replay.now refl at c.args.asked.now l below S c.args.kind is c.in-Create.instance (of_reducer c.args.kind c.in-Create.instance c.in-Create.is)
    (sym c.asked_sort.ensures ∙ differs_false the_type (search rules) c.asked_sort.result c.kind_sort.result (sym c.ne.ensures ∙ c.if-ne.false) ∙ c.kind_sort.ensures)
    c.reducer_asked.result c.reducer_matches.result
    (c.reducer_asked.ensures ∙ ap (λ (t : Sight). reducer_asked (layouts_of t) t.given.items c.args.asked.now) (sym seen)) c.reducer_matches.ensures

nothing : (k j : Kind) → k ≡ j → NamesNothing (sort_of j) → NamesNothing (sort_of k)
nothing k j q h = subst (λ (z : Kind). NamesNothing (sort_of z)) (sym q) h

names_nothing : (k : Kind) → ((x : ℕ) × (k ≡ kinds.Begin x)) ⊎ ((x : ℕ) × (k ≡ kinds.Resume x)) ⊎ (k ≡ kinds.Sync) ⊎ (k ≡ kinds.End) ⊎ (k ≡ kinds.Print) → NamesNothing (sort_of k)
names_nothing k (inl (x, q)) = nothing k (kinds.Begin x) q tt
names_nothing k (inr (inl (x, q))) = nothing k (kinds.Resume x) q tt
names_nothing k (inr (inr (inl q))) = nothing k kinds.Sync q tt
names_nothing k (inr (inr (inr (inl q)))) = nothing k kinds.End q tt
names_nothing k (inr (inr (inr (inr q)))) = nothing k kinds.Print q tt

pub returns-in-Begin : goal.returns-in-Begin
returns-in-Begin c = λ at l below seen S is.
    let alike = differs_false the_type (search rules) c.asked_sort.result c.kind_sort.result (sym c.ne.ensures ∙ c.if-ne.false) ∙ c.kind_sort.ensures in
    along.asked_there c.args.replay.now c.args.replay.now refl at c.args.asked.now l below S c.args.kind is (sym c.asked_sort.ensures ∙ alike)
    (subst NamesNothing (sym alike ∙ c.asked_sort.ensures) (names_nothing c.args.kind c.in-Begin.is))
