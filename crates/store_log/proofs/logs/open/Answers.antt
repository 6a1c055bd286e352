use Rattle.std.proofs.Common.{refl, sym, ap, subst, ◌∙◌}
use Rattle.life_commands.specs.Bytes.{StaysKnown}
use Rattle.life_commands.specs.LogDisk.{View, Keeps, seen}
use Rattle.life_commands.proofs.Lives.{tells_of}
use Rattle.store_log.specs.Beginnings.{Beginning}
use Rattle.store_log.specs.Openings.{Makes, IsBegun}
use Rattle.store_log.proofs.Known.{allows_open, known_read, known_same}
use Rattle.store_log.proofs.Openings.{is_begun, read_keeps, read_kind, read_shows, why_not}
use Rattle.store_log.proofs.logs.open.Goals as goal

pub returns-in-Ok-count_found-clause-begun : goal.returns-in-Ok-count_found-clause-begun
returns-in-Ok-count_found-clause-begun g c = subst (λ (b : Beginning g.row.L.Denot). (v : View g.L.Disk.tells) → Makes (seen g.L.Disk v) c.args.disk (IsBegun g.L.Disk.tells (seen g.L.Disk v) b)) (sym c.new.ensures)
    (λ v t last k. is_begun c.one_log.ensures g.L.Disk.tells (seen g.L.Disk v) c.args.disk last k (record { log = c.in-Ok.log.log; listing = c.in-Ok.log.listing }) (c.in-Ok.ensures.read (tells_of v t)) (c.in-Ok.ensures.begins (tells_of v t)))

pub returns-in-Ok-count_found-clause-allows : goal.returns-in-Ok-count_found-clause-allows
returns-in-Ok-count_found-clause-allows g c = allows_open g.L.Disk.tells g.L.Disk c.args.disk c.never_bad.ensures (λ t. let r = c.in-Ok.ensures.read t in (r.0, r.1))

pub returns-in-Ok-count_found-clause-known : goal.returns-in-Ok-count_found-clause-known
returns-in-Ok-count_found-clause-known g c = subst (λ (b : Beginning g.row.L.Denot). StaysKnown g.L.Disk.tells g.L.Disk c.args.disk b.log.log.device) (sym c.new.ensures)
    (known_read g.L.Disk.tells g.L.Disk c.args.disk c.in-Ok.log.log.log.device c.never_bad.ensures c.in-Ok.log.log.log refl c.in-Ok.ensures.read)

pub returns-in-Err-count_found-clause-not : goal.returns-in-Err-count_found-clause-not
returns-in-Err-count_found-clause-not g c =
    let device = c.into_device.ensures ∙ ap (λ (b : Beginning g.row.L.Denot). b.log.log.device) c.new-in-Err-count_found.ensures in
    λ v. (tt, λ t last k. subst (Keeps (seen g.L.Disk v) last) (sym device) (read_keeps c.one_log.ensures g.L.Disk.tells (seen g.L.Disk v) c.args.disk last k c.in-Ok.log.log.log (c.in-Ok.ensures.read (tells_of v t))))

pub returns-in-Err-count_found-clause-known : goal.returns-in-Err-count_found-clause-known
returns-in-Err-count_found-clause-known g c =
    let device = c.into_device.ensures ∙ ap (λ (b : Beginning g.row.L.Denot). b.log.log.device) c.new-in-Err-count_found.ensures in
    known_read g.L.Disk.tells g.L.Disk c.args.disk c.into_device.result c.never_bad.ensures c.in-Ok.log.log.log (sym device) c.in-Ok.ensures.read

pub returns-in-Err-clause-not : goal.returns-in-Err-clause-not
returns-in-Err-clause-not g c = λ v. (
  read_kind c.in-Err.refused.why c.not_read.result c.not_read.ensures,
  λ t last k.
      why_not c.one_log.ensures g.L.Disk.tells (seen g.L.Disk v) c.args.disk last k c.in-Err.refused.disk c.in-Err.refused.why c.not_read.result c.not_read.ensures (c.in-Err.ensures.refused (tells_of v t)) (c.in-Err.ensures.bytes (tells_of v t)),
)

pub returns-in-Err-clause-shows : goal.returns-in-Err-clause-shows
returns-in-Err-clause-shows g c = read_shows g.L.Disk c.in-Err.refused.disk c.in-Err.refused.why c.not_read.result c.not_read.ensures c.in-Err.ensures.shows

pub returns-in-Err-clause-known : goal.returns-in-Err-clause-known
returns-in-Err-clause-known g c = known_same g.L.Disk.tells g.L.Disk c.args.disk c.in-Err.refused.disk c.never_bad.ensures c.in-Err.ensures.bytes
