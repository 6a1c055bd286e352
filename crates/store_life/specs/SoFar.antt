-- A life so far.
use Rattle.std.specs.Prelude.{◌≡◌, ◌<◌, ◌≤◌, ℕ, List, [], ◌∷◌, ◌++◌, length, map, Result, Ok, Err}
use Rattle.std.specs.List.{All}
use Rattle.store_model.specs.declared.fault.Fault.{Fault}
use Rattle.store_model.specs.declared.limits.TheConstants.{MOST_ACTIVE}
use Rattle.wal_record.specs.declared.record.Record.{Record}
use Rattle.wal_record.specs.declared.entry.Entry.{Entry}
use Rattle.page_ops.specs.Names.{LedgerName}
use Rattle.page_ops.specs.Seeing.{Account}
use Rattle.command_laws.specs.Alone.{IsAlone}
use Rattle.command_laws.specs.Commands.{Begins}
use Rattle.command_laws.specs.Names.{Active, AreNamed, without}
use Rattle.store_life.specs.declared.life.Named.{Named}
use Rattle.store_life.specs.declared.life.StoreLife.{StoreLife}

-- what a name stands for
abbrev pub active_by : {N : Type 0} → Named N → Active
active_by named = record { name = named.name; session = named.session.claim.session; tx = named.session.claim.tx }

-- the active transactions, in the order of their beginning
abbrev pub actives : {N : Type 0} → List (Named N) → List Active
actives items = map active_by items

abbrev pub HasTransaction : {N : Type 0} → Named N → Type 0
HasTransaction named = 0 < named.session.claim.tx

-- Nobody else enters anything, the pass has seen the whole history, and it is sound. Each active session has a transaction,
-- and no more are active than may be.
pub record Runs {N : Type 0} (opens : List Record → Type 0) (ledger : LedgerName) (account : Account) (life : StoreLife N) : Type 0 where
  pub alone : IsAlone opens ledger account life.pass.log
  pub begun : All HasTransaction life.named.items
  pub few : length life.named.items ≤ MOST_ACTIVE

-- Each transaction of the history that is live has a name.
abbrev pub HasNames : {N : Type 0} → StoreLife N → Type 0
HasNames life = AreNamed life.pass.log (actives life.named.items)

-- the transaction has begun by this name, or all is as before
abbrev pub BeginsAs : {N : Type 0} → List ℕ → Result ℕ Fault → StoreLife N → StoreLife N → Type 0
BeginsAs name (Ok tx) old new =
    (session : ℕ) × (own : List Entry) × Begins old.pass.log session tx own × (new.pass.log ≡ old.pass.log ++ own)
    × (actives new.named.items ≡ actives old.named.items ++ record { name = name; session = session; tx = tx } ∷ [])
BeginsAs name (Err fault) old new = (new.pass.log ≡ old.pass.log) × (actives new.named.items ≡ actives old.named.items)

-- a name whose transaction is over isn't active
abbrev pub left_by : {T : Type 0} → Result T Fault → List Active → List ℕ → List Active
left_by (Ok x) active name = without active name
left_by (Err fault) active name = active
