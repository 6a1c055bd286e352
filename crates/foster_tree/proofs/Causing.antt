-- The cause of a refusal, behind calls that met no end.
use Rattle.std.proofs.Common.{List, refl, ◌∙◌}
use Rattle.std.specs.Prelude.{Result, Ok, Err, OnErr, OnOk, IfErr, Bool}
use Rattle.store_model.specs.declared.fault.Fault.{Fault}
use Rattle.wal_record.specs.declared.record.Record.{Record}
use Rattle.wal_record.specs.declared.entry.Entry.{Entry}
use Rattle.page_ops.specs.Names.{LedgerName}
use Rattle.page_ops.specs.Causes.{MeetsNoEnd, FailsToBring}
use Rattle.page_ops.specs.Desks.{Desk, Faults}
use Rattle.page_ops.specs.Seeing.{Account, Known}
use Rattle.page_ops.specs.Gains.{Goes}
use Rattle.page_ops.proofs.Composing.{bring_then}
use Rattle.foster_tree.specs.Nows.{KeepsDesk}

pub none_met : (a : Account) → MeetsNoEnd a a
none_met a = record { ended = refl; amount = refl }

pub none_then : (a b c : Account) → MeetsNoEnd a b → MeetsNoEnd b c → MeetsNoEnd a c
none_then a b c x y = record { ended = y.ended ∙ x.ended; amount = y.amount ∙ x.amount }

-- of a call behind others
pub refused_then : (opens : List Record → Type 0) (log_faults made : LedgerName) (kind : Entry → Bool) (first old : Known) (new : Account) (h : List Entry) (desk desk' : Desk) (now : Faults) (f : Fault) → Goes kind first old → MeetsNoEnd first.account old.account
    → KeepsDesk desk desk' → FailsToBring opens log_faults made desk'.faults now old.account new h f → FailsToBring opens log_faults made desk.faults now first.account new h f
refused_then opens log_faults made kind first old new h desk desk' now f goes none keeps why = bring_then opens log_faults made first.account old.account new h none goes.keeps desk.faults desk'.faults now f keeps.faults why

pub on_err : {T : Type 0} → (r : Result T Fault) (P : Type 0) → P → OnErr r P
on_err (Ok x) P p = tt
on_err (Err f) P p = p

-- of a call whose answer is handed on
pub refused_all : {T : Type 0} (opens : List Record → Type 0) (log_faults made : LedgerName) (kind : Entry → Bool) (first old : Known) (new : Account) (h : List Entry) (desk desk' : Desk) (now : Faults) (r : Result T Fault) → Goes kind first old → MeetsNoEnd first.account old.account
    → KeepsDesk desk desk' → IfErr r (FailsToBring opens log_faults made desk'.faults now old.account new h) → IfErr r (FailsToBring opens log_faults made desk.faults now first.account new h)
refused_all opens log_faults made kind first old new h desk desk' now (Ok x) goes none keeps why = tt
refused_all opens log_faults made kind first old new h desk desk' now (Err f) goes none keeps why = refused_then opens log_faults made kind first old new h desk desk' now f goes none keeps why

pub open_all : {T : Type 0} (a b c : Account) (r : Result T Fault) → MeetsNoEnd a b → OnOk r (MeetsNoEnd b c) → OnOk r (MeetsNoEnd a c)
open_all a b c (Ok x) none then = none_then a b c none then
open_all a b c (Err f) none then = tt
