use Rattle.std.proofs.Common.{ℕ, ◌^◌, ◌<◌, sym, ap, subst, arith}
use Rattle.media.specs.Objects.{bytes_of}
use Rattle.wal_record.specs.Upkeep.{segment_of}
use Rattle.backup_set.specs.Answers.{HasImage}
use Rattle.backup_set.specs.Backup.{IsBackup, backup_name}
use Rattle.backup_set.proofs.Answering.{gives_copy}
use Rattle.backup_set.proofs.Walking.{found_is}
use Rattle.backup_set.proofs.reading.read_page.Goals as goal

pub returns-in-Some-clause-found : goal.returns-in-Some-clause-found
returns-in-Some-clause-found g c tells copies is copy among named =
    let small : segment_of c.args.page < 2 ^ 32 = omega (arith, c.ranges.page.fits) in
    let has = subst (λ (s : ℕ). HasImage c.args.backup s c.args.page (bytes_of (g.V.Vault.told c.args.vault.now (backup_name c.args.backup s))) c.in-Some.sealed) c.segment_of.ensures (rw c.in-Some.is at (c.in_ok-sealed.ensures.held tells)) in
    found_is c.args.backup (segment_of c.args.page) c.ranges.backup.fits small copies _ is c.args.page c.in-Some.sealed copy c.ranges.page.fits has among named

pub returns-in-None-clause-found : goal.returns-in-None-clause-found
returns-in-None-clause-found g c tells copies is copy among named =
    let small : segment_of c.args.page < 2 ^ 32 = omega (arith, c.ranges.page.fits) in
    let here : c.segment_of.result < 2 ^ 32 = omega (arith, small, c.segment_of.ensures) in
    let one = subst (λ (s : ℕ). IsBackup c.args.backup s copies (bytes_of (g.V.Vault.told c.args.vault.now (backup_name c.args.backup s)))) (sym c.segment_of.ensures) is in
    let there = sym (ap bytes_of (c.in_ok-sealed.ensures.same tells (backup_name c.args.backup c.segment_of.result))) in
    let two = subst (IsBackup c.args.backup c.segment_of.result copies) there one in
    gives_copy g.V.Vault.tells c.args.backup c.segment_of.result c.args.page _ _ _ c.in_whole.result tells c.ranges.backup.fits here c.ranges.page.fits (c.in_whole.ensures.held tells) c.in_whole.ensures.refused copies two copy among named
