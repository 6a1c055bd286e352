-- What was noted last of a transaction is its last record, as long as it isn't over.
use Rattle.std.specs.Prelude.{◌≡◌, ℕ, ◌+◌, List, [], ◌∷◌, ◌++◌, length, false}
use Rattle.wal_record.specs.Chains.{last, finishes}
use Rattle.wal_record.specs.declared.record.Record.{Record}
use Rattle.log_index.specs.Table.{noted_step}

pub record NotedLaw (log : List Record) (r : Record) (t : ℕ) : Type 0 where
  pub kept : finishes t r ≡ false → (n : ℕ) → n ≡ last log t → noted_step (length log + 1) t n r ≡ last (log ++ r ∷ []) t
