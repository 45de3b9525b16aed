-- Chains and tasks as contracts see them.
use Rattle.std.specs.Prelude.{ℕ, refl}
use Rattle.std.specs.Coded.{Coded, code_by, coded×, coded_ℕ}
use Rattle.cilk_replay.specs.Replays.{ReplayValue, replay_code}

-- a frame and its callers continue at a position of a replay
pub record ChainValue : Type 0 where
  pub of : ReplayValue
  pub at : ℕ

abbrev pub chain_code : Coded ChainValue
chain_code = code_by (ReplayValue × ℕ) (coded× replay_code coded_ℕ) (λ c. (c.of, c.at)) (λ t. record { of = t.0; at = t.1 }) (λ c. refl)

abbrev pub standing : ReplayValue → ℕ → ChainValue
standing c p = record { of = c; at = p }

-- the continuation after the spawn at `ticket`, which continues at position `at`
pub record TaskValue : Type 0 where
  pub of : ReplayValue
  pub ticket : ℕ
  pub at : ℕ

abbrev pub task_code : Coded TaskValue
task_code =
    code_by (ReplayValue × (ℕ × ℕ)) (coded× replay_code (coded× coded_ℕ coded_ℕ)) (λ t. (t.of, (t.ticket, t.at)))
    (λ t. record { of = t.0; ticket = t.1.0; at = t.1.1 }) (λ t. refl)

abbrev pub task_of : ℕ → ChainValue → TaskValue
task_of k c = record { of = c.of; ticket = k; at = c.at }
