use Rattle.std.proofs.Common.{◌≡◌, ap, refl, sym, subst, ◌∙◌, arith}
use Rattle.std.specs.Prelude.{IfOk}
use Rattle.std.proofs.lemmas.Bool.Decides.{nat_tests}
use Rattle.std.proofs.lemmas.Result.{err_from_is_err_and}
use Rattle.front.proofs.Keeping.{prefix_trans}
use Rattle.foster_tree.proofs.Causing.{none_then}
use Rattle.foster_tree.proofs.Desks.{desk_then}
use Rattle.page_ops.proofs.Gaining.{keeps_then}
use Rattle.wal_record.specs.Books.{maintenance_book}
use Rattle.wal_record.specs.History.{life_log}
use Rattle.wal_record.specs.Rules.{HasSpelling}
use Rattle.wal_record.specs.declared.record.BackupDone.{BackupDone}
use Rattle.claim_laws.specs.Suiting.{Suits}
use Rattle.page_ops.specs.Claims.{no_claims}
use Rattle.page_ops.specs.Seeing.{known}
use Rattle.backup_set.specs.Backup.{object_bytes}
use Rattle.named_objects.specs.Drafts.{NamesOne, WasNamed}
use Rattle.named_objects.specs.Named.{Tells, record_of}
use Rattle.named_objects.specs.declared.naming.Naming.{Naming}
use Rattle.backups.proofs.Adding.{desk_still, refused_behind, refused_early, refused_first, segment_or}
use Rattle.backups.proofs.Suiting.{spelled, suits, tells}
use Rattle.backups.proofs.Turning.{goes_on, next_or}
use Rattle.backups.proofs.backing_up.back_up_segment.Goals as goal

pub returns-in_err-copies-clause-entered : goal.returns-in_err-copies-clause-entered
returns-in_err-copies-clause-entered g c =
    let p = err_from_is_err_and c.from_residual.result c.from_residual.ensures.1 in
    rw p.1 (refused_first g.N.Life.opens g.N.Life.entries g.N.Life.session_entries c.args.backup (g.J.Entering.account c.args.journal.now) (g.J.Entering.account c.copy_segment.new.journal) c.args.pass.now c.copy_segment.new.pass c.copy_segment.ensures.goes c.in_err-copies.ensures.settled)

pub returns-then-last_named-since-clause-entered : goal.returns-then-last_named-since-clause-entered
returns-then-last_named-since-clause-entered g c =
    let now = g.J.Entering.account c.last_named.new.journal in
    refused_early g.N.Life.opens g.N.Life.entries g.N.Life.session_entries c.args.backup c.args.segment c.args.most (g.J.Entering.account c.args.journal.now) (g.J.Entering.account c.copy_segment.new.journal) now now
    c.args.pass.now c.copy_segment.new.pass c.last_named.new.pass c.last_named.new.pass c.copy_segment.ensures.goes c.last_named.ensures.seen

pub returns-in_err-bytes-clause-entered : goal.returns-in_err-bytes-clause-entered
returns-in_err-bytes-clause-entered g c =
    let p = err_from_is_err_and c.from_residual-in_err-bytes.result c.from_residual-in_err-bytes.ensures.1 in
    let now = g.J.Entering.account c.last_named.new.journal in
    rw p.1
    (refused_early g.N.Life.opens g.N.Life.entries g.N.Life.session_entries c.args.backup c.args.segment c.args.most (g.J.Entering.account c.args.journal.now) (g.J.Entering.account c.copy_segment.new.journal) now now
    c.args.pass.now c.copy_segment.new.pass c.last_named.new.pass c.last_named.new.pass c.copy_segment.ensures.goes c.last_named.ensures.seen)

pub name_object-requires-clause-spelled : goal.name_object-requires-clause-spelled
name_object-requires-clause-spelled g c =
    subst (λ (n : Naming). HasSpelling (record_of n)) (sym c.into_naming-naming.ensures)
    (spelled g.N.Life.opens c.args.pass.now.log c.copy_segment.new.pass.log c.args.backup c.args.segment c.args.most c.in_ok-copies.copies c.requires.number c.ranges.segment.fits c.requires.some c.in_ok-copies.ensures.drawn)

pub name_object-requires-clause-suits : goal.name_object-requires-clause-suits
name_object-requires-clause-suits g c = λ opening stands.
    let seen = c.last_named.ensures.seen.now in
    let begins = prefix_trans _ _ _ c.copy_segment.ensures.begins seen.begins in
    let at : maintenance_book c.last_named.new.pass.log ≡ c.args.since = sym c.last_named.ensures.place ∙ grind (arith, nat_tests, c.if-last_named-since.false) in
    subst (λ (n : Naming). Suits opening c.last_named.new.pass.log (record_of n)) (sym c.into_naming-naming.ensures)
    (suits g.N.Life.opens c.args.pass.now.log c.copy_segment.new.pass.log c.args.backup c.args.segment c.args.most c.in_ok-copies.copies c.requires.number c.ranges.segment.fits c.requires.some c.in_ok-copies.ensures.drawn
    c.last_named.new.pass.log seen.begins opening stands (seen.consistent.some opening stands)
    (goes_on g.N.Life.opens c.args.since c.args.backup c.args.segment c.args.pass.now.log c.last_named.new.pass.log c.requires.next begins at opening stands (seen.consistent.legal opening stands)))

pub name_object-requires-clause-tells : goal.name_object-requires-clause-tells
name_object-requires-clause-tells g c = λ opening stands.
    let seen = c.last_named.ensures.seen.now in
    subst (λ (n : Naming). Tells (life_log opening c.last_named.new.pass.log) n c.deref.result.now) (sym c.into_naming-naming.ensures)
    (tells g.N.Life.opens c.args.pass.now.log c.copy_segment.new.pass.log c.args.backup c.args.segment c.args.most c.in_ok-copies.copies c.requires.number c.ranges.segment.fits c.requires.some c.in_ok-copies.ensures.drawn
    c.last_named.new.pass.log seen.begins opening stands c.deref.result.now
    (c.deref.ensures.value ∙ c.in_ok-bytes.ensures ∙ ap (object_bytes c.args.backup c.args.segment) c.images.ensures))

pub returns-clause-entered : goal.returns-clause-entered
returns-clause-entered g c =
    let now = g.J.Entering.account c.last_named.new.journal in
    let behind = g.J.Entering.account c.name_object.new.journal in
    segment_or g.N.Life.opens g.N.Life.entries g.N.Life.session_entries c.args.backup c.args.segment c.args.most (g.J.Entering.account c.args.journal.now) (g.J.Entering.account c.copy_segment.new.journal) now behind
    c.args.pass.now c.copy_segment.new.pass c.last_named.new.pass c.name_object.new.pass c.copy_segment.ensures.goes c.last_named.ensures.seen c.in_ok-copies.copies c.in_ok-copies.ensures.drawn c.name_object.ensures.sessions c.name_object.result
    (subst (λ (n : Naming). NamesOne g.N.Life.opens g.N.Life.entries g.N.Life.session_entries n c.name_object.result (known now c.last_named.new.pass no_claims) (known behind c.name_object.new.pass no_claims)) c.into_naming-naming.ensures c.name_object.ensures.entered)
    c.name_object.ensures.durable

pub returns-clause-next : goal.returns-clause-next
returns-clause-next g c =
    let now = g.J.Entering.account c.last_named.new.journal in
    let behind = g.J.Entering.account c.name_object.new.journal in
    let b : BackupDone = record { backup = c.args.backup; segment = c.args.segment; pages = c.in_ok-copies.copies.told } in
    next_or g.N.Life.opens g.N.Life.entries g.N.Life.session_entries c.args.since c.args.backup c.args.segment b c.args.pass.now.log c.last_named.new.pass.log (known now c.last_named.new.pass no_claims) (known behind c.name_object.new.pass no_claims) c.name_object.result refl refl c.requires.next
    (prefix_trans _ _ _ c.copy_segment.ensures.begins c.last_named.ensures.seen.now.begins)
    (subst (λ (n : Naming). NamesOne g.N.Life.opens g.N.Life.entries g.N.Life.session_entries n c.name_object.result (known now c.last_named.new.pass no_claims) (known behind c.name_object.new.pass no_claims)) c.into_naming-naming.ensures c.name_object.ensures.entered)
    (subst (λ (n : Naming). IfOk c.name_object.result (λ lsn. WasNamed c.args.since lsn n c.last_named.new.pass.log c.name_object.new.pass.log)) c.into_naming-naming.ensures c.name_object.ensures.named)

pub returns-clause-desk : goal.returns-clause-desk
returns-clause-desk g c = desk_then _ _ _ (desk_still _ _ _ c.copy_segment.ensures.desk c.last_named.ensures.desk) c.name_object.ensures.desk

pub returns-clause-refused : goal.returns-clause-refused
returns-clause-refused g c =
    refused_behind g.N.Life.opens g.N.Life.log_faults g.N.Life.made c.name_object.result (g.P.Pages.desk c.args.pages.now).faults (g.P.Pages.desk c.last_named.new.self).faults (g.P.Pages.desk c.name_object.new.self).faults
    (g.J.Entering.account c.args.journal.now) (g.J.Entering.account c.last_named.new.journal) (g.J.Entering.account c.name_object.new.journal) c.name_object.new.pass.log
    (none_then _ _ _ c.in_ok-copies.ensures.open c.last_named.ensures.calm.end)
    (keeps_then _ _ _ c.copy_segment.ensures.goes.keeps c.last_named.ensures.seen.keeps)
    (desk_still _ _ _ c.copy_segment.ensures.desk c.last_named.ensures.desk).faults
    c.name_object.ensures.refused
