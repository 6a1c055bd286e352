use Rattle.std.proofs.lemmas.Result.{err_from_is_err_and}
use Rattle.foster_tree.proofs.Causing.{none_then}
use Rattle.foster_tree.proofs.Desks.{desk_same}
use Rattle.page_ops.specs.Claims.{no_claims}
use Rattle.page_ops.specs.Seeing.{Account, known}
use Rattle.page_ops.proofs.Gaining.{keeps_then}
use Rattle.backups.proofs.Adding.{all_made, backed_up, begun, desk_still, fails_then, nothing_begun, of_entry}
use Rattle.backups.proofs.Turning.{begins_at}
use Rattle.backups.proofs.backing_up.backup.Goals as goal

pub returns-in_err-backup-clause-entered : goal.returns-in_err-backup-clause-entered
returns-in_err-backup-clause-entered g c =
    let p = err_from_is_err_and c.from_residual.result c.from_residual.ensures.1 in
    let behind : Account = g.J.Entering.account c.next_backup.new.journal in
    rw p.1
    (nothing_begun g.N.Life.opens g.N.Life.entries g.N.Life.session_entries (g.J.Entering.account c.args.journal.now) (g.J.Entering.account c.last_named-since.new.journal) behind behind c.args.pass.now c.last_named-since.new.pass c.next_backup.new.pass c.next_backup.new.pass
    c.last_named-since.ensures.seen c.next_backup.ensures.seen)

pub returns-in_err-backup-clause-refused : goal.returns-in_err-backup-clause-refused
returns-in_err-backup-clause-refused g c =
    let p = err_from_is_err_and c.from_residual.result c.from_residual.ensures.1 in
    let own = (g.P.Pages.desk c.args.pages.now).faults in
    let here = (g.P.Pages.desk c.last_named-since.new.self).faults in
    let a : Account = g.J.Entering.account c.args.journal.now in
    let b : Account = g.J.Entering.account c.last_named-since.new.journal in
    let d : Account = g.J.Entering.account c.next_backup.new.journal in
    rw (p.1, p.2)
    (fails_then g.N.Life.opens g.N.Life.log_faults g.N.Life.made own here here a b d c.next_backup.new.pass.log _ c.last_named-since.ensures.calm.end c.last_named-since.ensures.seen.keeps (desk_still _ _ _ (desk_same _) c.last_named-since.ensures.desk).faults
    (of_entry g.N.Life.opens g.N.Life.log_faults g.N.Life.made here b d c.next_backup.new.pass.log _ c.in_err-backup.ensures.refused c.in_err-backup.ensures.ends))

pub back_up_all-requires-clause-made : goal.back_up_all-requires-clause-made
back_up_all-requires-clause-made g c = all_made g.N.Life.opens c.pages-most.new.pass.log c.pages-most.result c.pages-most.ensures.seen.now.consistent c.pages-most.ensures.count

pub back_up_all-requires-clause-next : goal.back_up_all-requires-clause-next
back_up_all-requires-clause-next g c =
    let second = c.next_backup.ensures.seen.now in
    begins_at g.N.Life.opens c.last_named-since.result c.in_ok-backup.backup c.last_named-since.new.pass.log c.next_backup.new.pass.log c.pages-most.new.pass.log c.last_named-since.ensures.place second.begins c.pages-most.ensures.seen.now.begins second.consistent c.in_ok-backup.ensures.next

pub returns-in_err-back_up_all-clause-entered : goal.returns-in_err-back_up_all-clause-entered
returns-in_err-back_up_all-clause-entered g c =
    let p = err_from_is_err_and c.from_residual-in_err-back_up_all.result c.from_residual-in_err-back_up_all.ensures.1 in
    rw p.1
    (begun g.N.Life.opens g.N.Life.entries g.N.Life.session_entries (g.J.Entering.account c.args.journal.now) (g.J.Entering.account c.last_named-since.new.journal) (g.J.Entering.account c.next_backup.new.journal) (g.J.Entering.account c.pages-most.new.self)
    c.args.pass.now c.last_named-since.new.pass c.next_backup.new.pass c.pages-most.new.pass c.last_named-since.ensures.seen c.next_backup.ensures.seen c.pages-most.ensures.seen
    c.in_ok-backup.backup (known (g.J.Entering.account c.back_up_all.new.journal) c.back_up_all.new.pass no_claims) c.in_ok-backup.ensures.next c.in_err-back_up_all.ensures.entered)

pub returns-in_err-back_up_all-clause-refused : goal.returns-in_err-back_up_all-clause-refused
returns-in_err-back_up_all-clause-refused g c =
    let p = err_from_is_err_and c.from_residual-in_err-back_up_all.result c.from_residual-in_err-back_up_all.ensures.1 in
    let own = (g.P.Pages.desk c.args.pages.now).faults in
    let here = (g.P.Pages.desk c.last_named-since.new.self).faults in
    let a : Account = g.J.Entering.account c.args.journal.now in
    let b : Account = g.J.Entering.account c.last_named-since.new.journal in
    let d : Account = g.J.Entering.account c.next_backup.new.journal in
    let e : Account = g.J.Entering.account c.pages-most.new.self in
    rw (p.1, p.2)
    (fails_then g.N.Life.opens g.N.Life.log_faults g.N.Life.made own here (g.P.Pages.desk c.back_up_all.new.pages).faults a e (g.J.Entering.account c.back_up_all.new.journal) c.back_up_all.new.pass.log _
    (none_then a b e c.last_named-since.ensures.calm.end (none_then b d e c.in_ok-backup.ensures.open c.pages-most.ensures.calm.end))
    (keeps_then a b e c.last_named-since.ensures.seen.keeps (keeps_then b d e c.next_backup.ensures.seen.keeps c.pages-most.ensures.seen.keeps))
    (desk_still _ _ _ (desk_same _) c.last_named-since.ensures.desk).faults c.in_err-back_up_all.ensures.refused)

pub returns-clause-entered : goal.returns-clause-entered
returns-clause-entered g c =
    backed_up g.N.Life.opens g.N.Life.entries g.N.Life.session_entries (g.J.Entering.account c.args.journal.now) (g.J.Entering.account c.last_named-since.new.journal) (g.J.Entering.account c.next_backup.new.journal) (g.J.Entering.account c.pages-most.new.self)
    c.args.pass.now c.last_named-since.new.pass c.next_backup.new.pass c.pages-most.new.pass c.last_named-since.ensures.seen c.next_backup.ensures.seen c.pages-most.ensures.seen
    c.in_ok-backup.backup c.pages-most.result (known (g.J.Entering.account c.back_up_all.new.journal) c.back_up_all.new.pass no_claims) c.in_ok-backup.ensures.next c.pages-most.ensures.count c.in_ok-back_up_all.ensures.entered
