use Rattle.std.proofs.Common.{sym, ap, subst, ℕ}
use Rattle.media.specs.Cause.{Rose}
use Rattle.media.specs.Fused.{Fused}
use Rattle.life_commands.specs.LogDisk.{IsWhole, seen}
use Rattle.life_commands.specs.declared.status.Status.{Status}
use Rattle.life_commands.specs.declared.status.Status.TheVariants as statuses
use Rattle.life_commands.specs.Stores.{stores}
use Rattle.store_log.specs.Shows.{Shows}
use Rattle.runner.specs.Clause.{HandsBack}
use Rattle.runner.proofs.Fused.{asked_fused, begun_fused, ended_fused, handed_back}
use Rattle.runner.proofs.Blamed.{as_blamed, as_status, asked_blamed, begun_blamed, blamed_rose, by_blamed, told_rose}
use Rattle.runner.proofs.Runs.{not_called, not_generated, no_buffer, ran_whole}
use Rattle.runner.proofs.run.run_words.Goals as goal

pub returns-in-Memory-clause-headline : goal.returns-in-Memory-clause-headline
returns-in-Memory-clause-headline g c = λ v start keeps known. no_buffer (IsWhole v) start _ _ _ (handed_back g.L.Disk g.D.PageDevice g.V.Vault v start c.args.devices.log c.args.devices.pages c.args.devices.vault keeps known)

pub returns-in-Usage-clause-headline : goal.returns-in-Usage-clause-headline
returns-in-Usage-clause-headline g c = λ v start keeps known. not_called (IsWhole v) start _ _ _ (handed_back g.L.Disk g.D.PageDevice g.V.Vault v start c.args.devices.log c.args.devices.pages c.args.devices.vault keeps known)

pub returns-in-Generate-clause-headline : goal.returns-in-Generate-clause-headline
returns-in-Generate-clause-headline g c = λ v start keeps known. not_generated (IsWhole v) start _ _ _ (handed_back g.L.Disk g.D.PageDevice g.V.Vault v start c.args.devices.log c.args.devices.pages c.args.devices.vault keeps known)

pub returns-in-Err-new-clause-headline : goal.returns-in-Err-new-clause-headline
returns-in-Err-new-clause-headline g c = λ v start keeps known. no_buffer (IsWhole v) start _ _ _ (handed_back g.L.Disk g.D.PageDevice g.V.Vault v start c.args.devices.log c.args.devices.pages c.args.devices.vault keeps known)

pub returns-clause-headline : goal.returns-clause-headline
returns-clause-headline g c = λ v start keeps known.
    let back = HandsBack g.L.Disk.tells (seen g.L.Disk v) (stores g.D.PageDevice g.V.Vault) c.into_inner.result (c.into_inner-2.result, c.into_inner-vault.result) in
    let inside = ended_fused g.L.Disk g.D.PageDevice g.V.Vault v c.run-status.result.1 c.run-status.result.2 c.run-status.result.3 c.into_inner.result c.into_inner-2.result c.into_inner-vault.result c.into_inner.ensures c.into_inner-2.ensures c.into_inner-vault.ensures
    (c.run-status.ensures.headline v start (begun_fused g.L.Disk g.D.PageDevice g.V.Vault v c.new-4.result c.new-3.result c.new-2.result c.args.devices.log c.args.devices.pages c.args.devices.vault c.new-4.ensures c.new-3.ensures c.new-2.ensures start keeps known)) in
    ran_whole (IsWhole v) start _ (g.S.Source.left c.args.source.now) (g.S.Source.left c.run-status.new.source) (g.K.Sink.told c.args.sink.now) (g.K.Sink.told c.run-status.new.sink) c.in-Ok-new.input c.run-status.new.input c.blamed.result c.in-Ok-new.ensures
    (as_blamed (IsWhole v) start back c.faults-before.result c.faults-now.result c.run-status.result.0 c.blamed.result c.blamed.ensures inside)

pub returns-clause-complete : goal.returns-clause-complete
returns-clause-complete g c = λ call t p o last keeps these source sink own vaulted.
    let asked = asked_fused g.L.Disk g.D.PageDevice g.V.Vault c.new-4.result c.new-3.result c.new-2.result c.args.devices.log c.args.devices.pages c.args.devices.vault c.new-4.ensures c.new-3.ensures c.new-2.ensures c.run-status.ensures.headline t p o last keeps these c.run-status.ensures.called
    (λ is. source (c.run-status.ensures.cause.source is))
    (λ is. sink (c.run-status.ensures.cause.sink is))
    (λ is. own (subst (λ (n : ℕ). Rose (g.L.Disk.faults c.args.devices.log) n) (ap (λ (d : g.row.L.Denot). g.L.Disk.faults d) (sym c.into_inner.ensures)) (subst (λ (f : Fused g.row.L.Denot). Rose (g.L.Disk.faults f.inner) (g.L.Disk.faults c.run-status.result.1.inner)) c.new-4.ensures (c.run-status.ensures.cause.log is)))) in
    asked_blamed c.faults-before.result c.faults-now.result c.run-status.result.0 c.blamed.result c.blamed.ensures (λ rose. vaulted (told_rose (g.V.Vault.faults c.args.devices.vault) (g.V.Vault.faults c.into_inner-vault.result) c.faults-before.result c.faults-now.result c.faults-before.ensures c.faults-now.ensures rose)) asked

pub returns-clause-untouched : goal.returns-clause-untouched
returns-clause-untouched g c = λ is. absurd (begun_blamed c.faults-before.result c.faults-now.result c.run-status.result.0 c.blamed.result c.blamed.ensures c.run-status.ensures.called is)

pub returns-clause-source : goal.returns-clause-source
returns-clause-source g c = λ e. c.run-status.ensures.cause.source (as_status c.faults-before.result c.faults-now.result c.run-status.result.0 c.blamed.result statuses.SourceFault c.blamed.ensures e (λ m. absurd cc))

pub returns-clause-sink : goal.returns-clause-sink
returns-clause-sink g c = λ e. c.run-status.ensures.cause.sink (as_status c.faults-before.result c.faults-now.result c.run-status.result.0 c.blamed.result statuses.SinkFault c.blamed.ensures e (λ m. absurd cc))

pub returns-clause-log : goal.returns-clause-log
returns-clause-log g c = λ e.
    let is = as_status c.faults-before.result c.faults-now.result c.run-status.result.0 c.blamed.result statuses.LogFault c.blamed.ensures e (λ m. absurd cc) in
    subst (λ (n : ℕ). Rose (g.L.Disk.faults c.args.devices.log) n) (ap (λ (d : g.row.L.Denot). g.L.Disk.faults d) (sym c.into_inner.ensures))
    (subst (λ (f : Fused g.row.L.Denot). Rose (g.L.Disk.faults f.inner) (g.L.Disk.faults c.run-status.result.1.inner)) c.new-4.ensures (c.run-status.ensures.cause.log is))

pub returns-clause-vault : goal.returns-clause-vault
returns-clause-vault g c = λ e. told_rose (g.V.Vault.faults c.args.devices.vault) (g.V.Vault.faults c.into_inner-vault.result) c.faults-before.result c.faults-now.result c.faults-before.ensures c.faults-now.ensures (blamed_rose c.faults-before.result c.faults-now.result c.run-status.result.0 c.blamed.result c.blamed.ensures e)

pub returns-clause-shows : goal.returns-clause-shows
returns-clause-shows g c = by_blamed (λ (z : Status). Shows g.L.Disk c.into_inner.result z) c.faults-before.result c.faults-now.result c.run-status.result.0 c.blamed.result c.blamed.ensures tt
    (subst (λ (d : g.row.L.Denot). Shows g.L.Disk d c.run-status.result.0) (sym c.into_inner.ensures) c.run-status.ensures.shows)
