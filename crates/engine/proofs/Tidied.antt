-- What the descent of a write enters.
use Rattle.std.proofs.Common.{◌≡◌, true, List, [], refl}
use Rattle.std.specs.List.{list_all}
use Rattle.wal_record.specs.declared.record.Record.{Record}
use Rattle.wal_record.specs.declared.record.Record.TheVariants as kinds
use Rattle.wal_record.specs.declared.entry.Entry.{Entry}
use Rattle.wal_record.specs.declared.entry.Entry.TheVariants as entries
use Rattle.page_ops.specs.Desks.{KeepsFaults}
use Rattle.page_ops.specs.Names.{LedgerName}
use Rattle.page_ops.specs.Seeing.{Upholds}
use Rattle.page_ops.proofs.Gaining.{gains_of_upheld}
use Rattle.adoption.specs.Descents.{keeps_up}
use Rattle.rollback.specs.Rolls.{Standing, known_by}
use Rattle.engine.specs.Beside.{is_beside}
use Rattle.engine.proofs.Beside.{all_by}
use Rattle.engine.proofs.Serving.{Upkept}

tidy : (e : Entry) → keeps_up e ≡ true → is_beside [] e ≡ true
tidy (entries.Rec lsn (kinds.Undo u)) h = absurd (cc h)
tidy (entries.Rec lsn (kinds.End e)) h = absurd (cc h)
tidy (entries.Rec lsn (kinds.Split s)) h = refl
tidy (entries.Rec lsn (kinds.Grow g)) h = refl
tidy (entries.Rec lsn (kinds.Adopt a)) h = refl
tidy (entries.Rec lsn (kinds.Purge g)) h = refl
tidy _ h = h

pub kept_tidy : (es : List Entry) → list_all keeps_up es ≡ true → list_all (is_beside []) es ≡ true
kept_tidy es h = all_by keeps_up (is_beside []) tidy es h

pub upkept_kept : (opens : List Record → Type 0) (ledger sessions : LedgerName) (x y : Standing) → Upholds opens ledger sessions keeps_up (known_by x) (known_by y) → KeepsFaults x.desk.faults y.desk.faults → Upkept opens ledger sessions x y
upkept_kept opens ledger sessions x y u kept = record { own = u.own; gains = gains_of_upheld keeps_up opens ledger sessions (known_by x) (known_by y) u; kinds = kept_tidy u.own u.kinds; faults = kept }
