-- What a command of a life enters: its own entries in their order, and what may stand beside them.
use Rattle.std.specs.Prelude.{◌≡◌, ◌⊎◌, ℕ, List, [], ◌∷◌, ◌++◌, None}
use Rattle.std.specs.List.{All}
use Rattle.store_model.specs.declared.reply.Outcome.{Outcome}
use Rattle.store_model.specs.declared.reply.Outcome.TheVariants as outcomes
use Rattle.store_model.specs.declared.reply.Reply.{Reply}
use Rattle.store_model.specs.declared.request.Request.{Request}
use Rattle.wal_record.specs.Chains.{tx_of}
use Rattle.wal_record.specs.History.{last_begun}
use Rattle.wal_record.specs.Legal.{IsToldAs}
use Rattle.wal_record.specs.Locks.{Held}
use Rattle.wal_record.specs.declared.record.Record.{Record}
use Rattle.wal_record.specs.declared.record.Record.TheVariants as kinds
use Rattle.wal_record.specs.declared.entry.Entry.{Entry}
use Rattle.wal_record.specs.declared.entry.Entry.TheVariants.{Rec, Lock, Refused, Said, Declined, Acked, Repaired, Began}

-- ---- own entries among others

-- the own entries in their order, the last one last, and before and between them others of which P holds
abbrev pub Among : (Entry → Type 0) → List Entry → List Entry → Type 0
Among P [] es = es ≡ []
Among P (own ∷ more) es = (before : List Entry) × All P before × (rest : List Entry) × (es ≡ before ++ own ∷ rest) × Among P more rest

-- the same; and others alone, where there is no own entry
abbrev pub Amid : (Entry → Type 0) → List Entry → List Entry → Type 0
Amid P [] es = All P es
Amid P (own ∷ more) es = Among P (own ∷ more) es

-- ---- own entries

-- the transaction begins in a session that has begun none in this life
abbrev pub Begins : List Entry → ℕ → ℕ → List Entry → Type 0
Begins h session tx own = (last_begun h session ≡ None) × (own ≡ Began session tx ∷ [])

-- the answer, behind the record of the write where the request writes
abbrev pub Tells : ℕ → ℕ → Request → Reply → List Entry → Type 0
Tells session tx request reply own =
    (own ≡ Said session tx request reply ∷ [])
    ⊎ ((lsn : ℕ) × (r : Record) × IsToldAs r request reply × (tx_of r ≡ tx) × (own ≡ Rec lsn r ∷ Said session tx request reply ∷ []))

-- a request of a session's transaction, which asks for this lock, has this outcome
abbrev pub Answers : ℕ → ℕ → Request → Held → Outcome → List Entry → Type 0
Answers session tx request lock (outcomes.Replied reply) own = Tells session tx request reply own
Answers session tx request lock (outcomes.Conflict holder range) own = own ≡ Refused tx lock.range lock.mode holder ∷ []
Answers session tx request lock (outcomes.Full pages pending) own = own ≡ Declined session tx request (outcomes.Full pages pending) ∷ []
Answers session tx request lock outcomes.OpRefused own = own ≡ Declined session tx request outcomes.OpRefused ∷ []

abbrev pub commit_record : ℕ → ℕ → Record
commit_record tx prev = kinds.Commit (record { tx = tx; prev = prev })

abbrev pub Commits : ℕ → ℕ → List Entry → Type 0
Commits session tx own = (lsn : ℕ) × (prev : ℕ) × (own ≡ Rec lsn (commit_record tx prev) ∷ Acked session tx ∷ [])

-- An undo of the transaction. Before its End there is another one only where no log is known with which the life may have
-- begun.
abbrev pub TakesBack : Type 0 → ℕ → Entry → Type 0
TakesBack untold tx (Rec lsn (kinds.Undo u)) = u.tx ≡ tx
TakesBack untold tx (Rec lsn (kinds.End e)) = (e.tx ≡ tx) × untold
TakesBack untold tx e = ⊥

abbrev pub end_record : ℕ → ℕ → Record
end_record tx prev = kinds.End (record { tx = tx; prev = prev })

-- its writes are undone, and it ends
pub record Aborts (untold : Type 0) (tx : ℕ) (own : List Entry) : Type 0 where
  pub undos : List Entry
  pub each : All (TakesBack untold tx) undos
  pub lsn : ℕ
  pub prev : ℕ
  pub is : own ≡ undos ++ Rec lsn (end_record tx prev) ∷ []

-- ---- entries beside them

-- what keeps the tree up, and what the upkeep of pages enters
abbrev pub IsUpkeep : Entry → Type 0
IsUpkeep (Rec lsn (kinds.Split s)) = Unit {0}
IsUpkeep (Rec lsn (kinds.Grow g)) = Unit {0}
IsUpkeep (Rec lsn (kinds.Adopt a)) = Unit {0}
IsUpkeep (Rec lsn (kinds.Purge p)) = Unit {0}
IsUpkeep (Rec lsn (kinds.Written w)) = Unit {0}
IsUpkeep (Rec lsn (kinds.Restored r)) = Unit {0}
IsUpkeep (Repaired page) = Unit {0}
IsUpkeep e = ⊥

-- beside a request: its lock, the undos and the End of transactions that were in the way of the lock, upkeep
abbrev pub IsBesideRequest : (ℕ → Type 0) → ℕ → Held → Entry → Type 0
IsBesideRequest in_way tx lock (Lock t range mode) = (t ≡ tx) × (range ≡ lock.range) × (mode ≡ lock.mode)
IsBesideRequest in_way tx lock (Rec lsn (kinds.Undo u)) = in_way u.tx
IsBesideRequest in_way tx lock (Rec lsn (kinds.End e)) = in_way e.tx
IsBesideRequest in_way tx lock e = IsUpkeep e
