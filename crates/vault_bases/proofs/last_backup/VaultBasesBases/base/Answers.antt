use Rattle.std.proofs.Common.{sym}
use Rattle.std.proofs.lemmas.Result.{err_from_is_err_and}
use Rattle.segment_restore.proofs.Chains.{looks, open_then, upheld_both}
use Rattle.segment_restore.proofs.Segments.{enter_fails, open_met}
use Rattle.vault_bases.proofs.Failing.{brings, no_cause, own_cause}
use Rattle.vault_bases.proofs.LastBackups.{held_listed, is_base, none_listed, untold_lsn, was_last, younger_listed}
use Rattle.vault_bases.proofs.last_backup.VaultBasesBases.base.Goals as goal

pub returns-in_err-listed-clause-entered : goal.returns-in_err-listed-clause-entered
returns-in_err-listed-clause-entered g c = looks _ _ _ _ _ _ _ _ _ c.listed.ensures.seen

pub returns-in_err-listed-clause-refused : goal.returns-in_err-listed-clause-refused
returns-in_err-listed-clause-refused g c =
    let p = err_from_is_err_and c.from_residual.result c.from_residual.ensures.1 in
    rw (p.1, p.2) (enter_fails _ _ _ _ _ _ _ _ c.in_err-listed.ensures.refused c.in_err-listed.ensures.ends)

pub returns-in_err-listed-clause-cause : goal.returns-in_err-listed-clause-cause
returns-in_err-listed-clause-cause g c =
    let p = err_from_is_err_and c.from_residual.result c.from_residual.ensures.1 in
    rw (p.1, p.2) (no_cause _ _ _ c.in_err-listed.ensures.refused)

-- without a backup

pub returns-then-backup-eq0-clause-entered : goal.returns-then-backup-eq0-clause-entered
returns-then-backup-eq0-clause-entered g c = looks _ _ _ _ _ _ _ _ _ c.listed.ensures.seen

pub returns-then-backup-eq0-clause-none : goal.returns-then-backup-eq0-clause-none
returns-then-backup-eq0-clause-none g c = none_listed g.N.Life.opens c.listed.new.pass.log c.args.page c.in_ok-listed.listed c.in_ok-listed.ensures.listed c.args.head c.if-backup-eq0.true

pub returns-then-head-lsn-clause-entered : goal.returns-then-head-lsn-clause-entered
returns-then-head-lsn-clause-entered g c = looks _ _ _ _ _ _ _ _ _ c.listed.ensures.seen

pub returns-then-head-lsn-clause-none : goal.returns-then-head-lsn-clause-none
returns-then-head-lsn-clause-none g c = younger_listed g.N.Life.opens c.listed.new.pass.log c.args.page c.in_ok-listed.listed c.in_ok-listed.ensures.listed c.args.head c.if-head-lsn.true

-- the backup is read

pub find_copy-requires : goal.find_copy-requires
find_copy-requires g c =
    record { held = held_listed g.N.Life.opens c.listed.new.pass.log c.args.page c.in_ok-listed.listed c.in_ok-listed.ensures.listed c.listed.ensures.seen.now.consistent c.if-backup-eq0.false }

pub returns-in_err-copy-clause-entered : goal.returns-in_err-copy-clause-entered
returns-in_err-copy-clause-entered g c = upheld_both _ _ _ _ _ _ _ _ _ (looks _ _ _ _ _ _ _ _ _ c.listed.ensures.seen) c.find_copy.ensures.entered

pub returns-in_err-copy-clause-refused : goal.returns-in_err-copy-clause-refused
returns-in_err-copy-clause-refused g c =
    let p = err_from_is_err_and c.from_residual-in_err-copy.result c.from_residual-in_err-copy.ensures.1 in
    rw (p.1, p.2) (brings _ _ _ _ _ _ _ _ _ _ _ (open_then _ _ _ (open_met (g.J.Entering.account c.args.journal.now) (g.J.Entering.account c.listed.new.self) c.in_ok-listed.ensures.ends) c.find_copy.ensures.open) c.in_err-copy.ensures.refused)

pub returns-in_err-copy-clause-cause : goal.returns-in_err-copy-clause-cause
returns-in_err-copy-clause-cause g c =
    let p = err_from_is_err_and c.from_residual-in_err-copy.result c.from_residual-in_err-copy.ensures.1 in
    rw (p.1, p.2) (own_cause _ _ _ _ _ _ c.in_err-copy.ensures.refused)

pub returns-then-copy-lsn-clause-entered : goal.returns-then-copy-lsn-clause-entered
returns-then-copy-lsn-clause-entered g c = upheld_both _ _ _ _ _ _ _ _ _ (looks _ _ _ _ _ _ _ _ _ c.listed.ensures.seen) c.find_copy.ensures.entered

pub returns-then-copy-lsn-clause-refused : goal.returns-then-copy-lsn-clause-refused
returns-then-copy-lsn-clause-refused g c = (
  open_then _ _ _ (open_met (g.J.Entering.account c.args.journal.now) (g.J.Entering.account c.listed.new.self) c.in_ok-listed.ensures.ends) c.find_copy.ensures.open,
  untold_lsn g.N.Life.opens c.listed.new.pass.log c.args.page c.in_ok-listed.listed c.in_ok-listed.ensures.listed c.listed.ensures.seen.now.consistent c.if-backup-eq0.false c.in_ok-copy.copy.sealed c.in_ok-copy.ensures.copy.copy c.if-copy-lsn.true,
)

pub returns-clause-entered : goal.returns-clause-entered
returns-clause-entered g c = upheld_both _ _ _ _ _ _ _ _ _ (looks _ _ _ _ _ _ _ _ _ c.listed.ensures.seen) c.find_copy.ensures.entered

pub returns-clause-open : goal.returns-clause-open
returns-clause-open g c = open_then _ _ _ (open_met (g.J.Entering.account c.args.journal.now) (g.J.Entering.account c.listed.new.self) c.in_ok-listed.ensures.ends) c.find_copy.ensures.open

pub returns-clause-base : goal.returns-clause-base
returns-clause-base g c =
    let v = c.find_copy.ensures.entered in
    record {
      image = is_base g.N.Life.opens c.listed.new.pass.log c.args.page c.in_ok-listed.listed c.in_ok-listed.ensures.listed c.listed.ensures.seen.now.consistent c.if-backup-eq0.false c.in_ok-copy.copy.sealed c.in_ok-copy.ensures.copy.copy c.find_copy.new.pass.log c.args.head (v.gained, sym v.is)
          c.if-copy-lsn.false c.if-head-lsn.false;
      bytes = c.in_ok-copy.ensures.copy.bytes;
    }

pub returns-clause-last : goal.returns-clause-last
returns-clause-last g c =
    let v = c.find_copy.ensures.entered in
    was_last g.N.Life.opens c.listed.new.pass.log c.args.page c.in_ok-listed.listed c.in_ok-listed.ensures.listed c.listed.ensures.seen.now.consistent c.if-backup-eq0.false c.in_ok-copy.copy.sealed c.in_ok-copy.ensures.copy.copy c.args.pass.now.log c.find_copy.new.pass.log c.listed.ensures.seen.now.begins (v.gained, sym v.is)
