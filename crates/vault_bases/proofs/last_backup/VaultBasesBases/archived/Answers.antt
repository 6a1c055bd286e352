use Rattle.std.proofs.Common.{sym, ◌∙◌}
use Rattle.std.proofs.lemmas.Result.{err_from_is_err_and}
use Rattle.vault_bases.proofs.Failing.{brings, own_cause, result_brings, result_cause}
use Rattle.vault_bases.proofs.StandingRuns.{run_fails, run_found}
use Rattle.vault_bases.proofs.last_backup.VaultBasesBases.archived.Goals as goal

pub returns-in_err-bytes-clause-refused : goal.returns-in_err-bytes-clause-refused
returns-in_err-bytes-clause-refused g c =
    let p = err_from_is_err_and c.from_residual.result c.from_residual.ensures.1 in
    rw (p.1, p.2) (brings _ _ _ _ _ _ _ _ _ _ _ c.read_whole.ensures.open c.in_err-bytes.ensures.refused)

pub returns-in_err-bytes-clause-cause : goal.returns-in_err-bytes-clause-cause
returns-in_err-bytes-clause-cause g c =
    let p = err_from_is_err_and c.from_residual.result c.from_residual.ensures.1 in
    rw (p.1, p.2) (own_cause _ _ _ _ _ _ c.in_err-bytes.ensures.refused)

pub returns-clause-found : goal.returns-clause-found
returns-clause-found g c =
    let u = c.read_whole.ensures.entered in
    run_found g.N.Life.opens c.args.pass.now.log c.read_whole.new.pass.log c.args.page c.args.lsn c.args.run (u.gained, sym u.is) u.consistent c.requires.run c.requires.named c.run_name.result c.run_name.ensures
    c.deref.result.now (λ opening bytes stands names. let e = c.in_ok-bytes.ensures.bytes opening bytes stands names in (c.deref.ensures.value ∙ e.0, e.1)) c.record_in.result c.record_in.ensures.found c.record_in.ensures.spelled

pub returns-clause-refused : goal.returns-clause-refused
returns-clause-refused g c =
    let u = c.read_whole.ensures.entered in
    result_brings g.N.Life.opens g.N.Life.log_faults g.N.Life.made _ _ 0 0 _ _ _ c.record_in.result c.read_whole.ensures.open
    (run_fails g.N.Life.opens c.args.pass.now.log c.read_whole.new.pass.log c.args.page c.args.lsn c.args.run (u.gained, sym u.is) u.consistent c.requires.run c.requires.named c.run_name.result c.run_name.ensures
    c.deref.result.now (λ opening bytes stands names. let e = c.in_ok-bytes.ensures.bytes opening bytes stands names in (c.deref.ensures.value ∙ e.0, e.1)) c.record_in.result c.record_in.ensures.found _ _ 0 0 c.record_in.ensures.refused)

pub returns-clause-cause : goal.returns-clause-cause
returns-clause-cause g c =
    let u = c.read_whole.ensures.entered in
    result_cause g.N.Life.opens 0 0 _ _ c.record_in.result
    (run_fails g.N.Life.opens c.args.pass.now.log c.read_whole.new.pass.log c.args.page c.args.lsn c.args.run (u.gained, sym u.is) u.consistent c.requires.run c.requires.named c.run_name.result c.run_name.ensures
    c.deref.result.now (λ opening bytes stands names. let e = c.in_ok-bytes.ensures.bytes opening bytes stands names in (c.deref.ensures.value ∙ e.0, e.1)) c.record_in.result c.record_in.ensures.found 0 0 _ _ c.record_in.ensures.refused)
