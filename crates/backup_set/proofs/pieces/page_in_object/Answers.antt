use Rattle.std.proofs.Common.{ℕ, ◌^◌, ◌<◌, sym, subst, arith}
use Rattle.wal_record.specs.Upkeep.{segment_of}
use Rattle.backup_set.specs.Backup.{IsBackup}
use Rattle.backup_set.proofs.Answering.{bad_told, gives_copy}
use Rattle.backup_set.proofs.pieces.page_in_object.Goals as goal

pub returns-clause-found : goal.returns-clause-found
returns-clause-found c copies is copy among named =
    let small : segment_of c.args.page < 2 ^ 32 = omega (arith, c.ranges.page.fits) in
    let here : c.segment_of.result < 2 ^ 32 = omega (arith, small, c.segment_of.ensures) in
    let one = subst (λ (s : ℕ). IsBackup c.args.backup s copies c.args.bytes.now) (sym c.segment_of.ensures) is in
    gives_copy (Unit {0}) c.args.backup c.segment_of.result c.args.page 0 0 c.args.bytes.now c.search.result tt c.ranges.backup.fits here c.ranges.page.fits c.search.ensures.held (bad_told c.args.backup c.segment_of.result c.args.page c.args.bytes.now c.search.result c.search.ensures.refused) copies one copy among named
