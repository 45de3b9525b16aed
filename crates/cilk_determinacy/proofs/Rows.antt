-- Worked programs, by computation.
use Rattle.std.proofs.Common.{refl, arith, inl, inr, ◌+◌, ◌≤◌, List, [], ℕ, ℤ, ⊎_elim, ◌≡◌, Bool, false, true, nat_eq, eqb-true}
use Rattle.std.specs.Prelude.{◌&&◌}
use Rattle.std.proofs.Math.IntN.{+ℤ_idl, +ℤ_idr, +ℤ_assoc}
use Rattle.std.proofs.lemmas.Bool.{and_parts, false≢true}
use Rattle.cilk_types.specs.declared.event.Event.{Event}
use Rattle.cilk_tree.specs.Tree.{tree}
use Rattle.cilk_tree.specs.Races.{IsRace}
use Rattle.cilk_peers.specs.RaceFree.{IsRaceFree}
use Rattle.cilk_determinacy.specs.Runs.{Instance, Run}
use Rattle.cilk_monoid.specs.Laws.{IsLawful}
use Rattle.cilk_determinacy.specs.Monoids.{IsValue}
use Rattle.cilk_determinacy.specs.Tested.{is_free_but, none}
use Rattle.cilk_determinacy.specs.Traces.{shape_of}
use Rattle.cilk_determinacy.specs.MachineTheorem.{HasNoRaces, follows}
use Rattle.cilk_determinacy.proofs.Decided.{beside_true, tests_tell}
use Rattle.cilk_determinacy.proofs.MachineTheorem.{race_free_determinate, follows_determined}
use Rattle.cilk_determinacy.specs.Costs.{Total, TickTotal, EventTotal, FrameTotal, CellTotal, weight}
use Rattle.cilk_determinacy.specs.WorkedRuns.{cell_number, instance_number, Lists, costs, early_read, early_read_events, both_read, both_read_events, two_writes, two_writes_events, early_value, early_value_events, EarlyReadRaces, TwoReadsDoNotRace, TwoWritesRace, BothReadRuns, BothReadIsDeterminate, EarlyValueRaces, reducer, sum, asked, opening}

early_read_lists : Lists early_read early_read_events
early_read_lists = ((1, refl), (refl, (refl, ((2, refl), ((2, refl), (refl, (refl, (refl, ((1, refl), (refl, (refl, (refl, (refl, (refl, (refl, tt)))))))))))))))

two_writes_lists : Lists two_writes two_writes_events
two_writes_lists = ((1, refl), ((2, refl), ((2, refl), (refl, (refl, (refl, ((1, refl), ((3, refl), ((3, refl), (refl, (refl, (refl, ((1, refl), (refl, (refl, (refl, (refl, tt)))))))))))))))))

both_read_lists : Lists both_read both_read_events
both_read_lists = ((1, refl), (refl, (refl, ((2, refl), ((2, refl), (refl, (refl, (refl, (refl, ((1, refl), ((3, refl), ((3, refl), (refl, (refl, (refl, (refl, ((1, refl), (refl, (refl, (refl, (refl, (refl, tt))))))))))))))))))))))

early_value_lists : Lists early_value early_value_events
early_value_lists = ((1, refl), (refl, (refl, ((2, refl), ((2, refl), (refl, (refl, (refl, ((1, refl), (refl, (refl, (refl, (refl, (refl, (refl, tt)))))))))))))))

-- this pair alone
abbrev is_pair : ℕ → ℕ → ℕ → ℕ → Bool
is_pair p q p' q' = nat_eq p' p && nat_eq q' q

only_pair : (t : Run ℕ) (es : List Event) (p q : ℕ) → is_free_but (is_pair p q) (tree (shape_of t)) es ≡ true → (p' q' : ℕ) → IsRace (tree (shape_of t)) es p' q' → (p' ≡ p) × (q' ≡ q)
only_pair t es p q h p' q' r =
    let both = and_parts (nat_eq p' p) (nat_eq q' q) (tests_tell.races (tree (shape_of t)) es (is_pair p q) h p' q' r) in
    (eqb-true p' p both.0, eqb-true q' q both.1)

pub early_read_races : EarlyReadRaces
early_read_races = (
  refl,
  record {
    lists = early_read_lists;
    race = record {
      first = omega arith;
      earlier = omega arith;
      cell = 1;
      clash = inl (refl, refl);
      parallel = inl (inr (inr (inr (inl ((omega arith, omega arith), (omega arith, omega arith))))));
    };
    only = only_pair early_read early_read_events 7 10 refl;
  },
)

both_read_is_free : IsRaceFree both_read_events
both_read_is_free = tests_tell.free (shape_of both_read) both_read_events refl refl refl

pub two_reads_do_not_race : TwoReadsDoNotRace
two_reads_do_not_race = (both_read_lists, λ p q r. false≢true (tests_tell.races (tree (shape_of both_read)) both_read_events none refl p q r))

pub two_writes_race : TwoWritesRace
two_writes_race = record {
  lists = two_writes_lists;
  race = record {
    first = omega arith;
    earlier = omega arith;
    cell = 0;
    clash = inl (refl, refl);
    parallel = inl (inr (inr (inr (inl ((omega arith, omega arith), (omega arith, omega arith))))));
  };
  only = only_pair two_writes two_writes_events 4 10 refl;
}

-- the limits are those that it just keeps
fits : (total : Total) → costs.used total + weight costs total 0 [] both_read ≤ costs.limit total
fits TickTotal = omega arith
fits EventTotal = omega arith
fits FrameTotal = omega arith
fits CellTotal = omega arith

pub both_read_runs : BothReadRuns
both_read_runs =
    record {
      behaves = (refl, (refl, (refl, (refl, (refl, (refl, (refl, (refl, (refl, (λ a q. absurd (cc))))))), (refl, (refl, (refl, (refl, (refl, (refl, (refl, (λ a q. absurd (cc))))))), (refl, (refl, (refl, (refl, (refl, (refl, (λ a q. absurd (cc))))))))))))));
      closed = (tt, refl, (tt, refl, refl));
      framed = (refl, (refl, refl));
      serial = (tt, (tt, (tt, ((tt, (refl, (tt, (tt, (tt, tt))))), (tt, ((tt, (refl, (tt, (tt, (tt, tt))))), (tt, (tt, (refl, (refl, (tt, (tt, tt))))))))))));
      views = (tt, (tt, (tt, ((tt, (tt, (tt, (tt, (tt, tt))))), (tt, ((tt, (tt, (tt, (tt, (tt, tt))))), (tt, (tt, (tt, (tt, (tt, (tt, tt))))))))))));
      created = λ i. inl ((λ z. absurd z), ((λ z. absurd z), ((λ z. absurd z), (((λ z. absurd z), ((λ z. absurd z), ((λ z. absurd z), ((λ z. absurd z), ((λ z. absurd z), tt))))), ((λ z. absurd z), (((λ z. absurd z), ((λ z. absurd z), ((λ z. absurd z), ((λ z. absurd z), ((λ z. absurd z), tt))))), ((λ z. absurd z), ((λ z. absurd z), ((λ z. absurd z), ((λ z. absurd z), ((λ z. absurd z), ((λ z. absurd z), tt))))))))))));
      retired = λ i. ((λ z. absurd z), ((λ z. absurd z), ((λ z. absurd z), (((λ z. absurd z), ((λ z. absurd z), ((λ z. absurd z), ((λ z. absurd z), ((λ z. absurd (cc)), tt))))), ((λ z. absurd z), (((λ z. absurd z), ((λ z. absurd z), ((λ z. absurd z), ((λ z. absurd z), ((λ z. absurd (cc)), tt))))), ((λ z. absurd z), ((λ z. absurd z), ((λ z. absurd z), ((λ z. absurd z), ((λ z. absurd z), ((λ z. absurd (cc)), tt))))))))))));
      within = fits;
    }

both_read_has_no_races : HasNoRaces both_read
both_read_has_no_races = record { cell = cell_number; instance = instance_number; events = both_read_events; written = both_read_lists; free = both_read_is_free }

sum_is_lawful : (i : Instance) → IsLawful (sum i) IsValue
sum_is_lawful i = record { unit_member = tt; single_member = λ x w. tt; combine_member = λ a b h g. tt; left_neutral = λ v h. +ℤ_idl v; right_neutral = λ v h. +ℤ_idr v; associative = λ a b c x y z. +ℤ_assoc a b c }

pub both_read_is_determinate : BothReadIsDeterminate
both_read_is_determinate = (both_read_has_no_races, race_free_determinate ℕ ℤ sum (follows asked) costs sum_is_lawful (follows_determined asked) 0 both_read opening both_read_runs both_read_has_no_races)

pub early_value_races : EarlyValueRaces
early_value_races = (
  early_value_lists,
  record {
    first = omega arith;
    earlier = omega arith;
    instance = instance_number reducer;
    one = refl;
    other = refl;
    differ = λ same. false≢true (beside_true (tree (shape_of early_value)) 1 1 2 ((same 2).1 (inl (inr (inr (inr (inr ((omega arith, omega arith), (omega arith, omega arith)))))))));
  },
)
