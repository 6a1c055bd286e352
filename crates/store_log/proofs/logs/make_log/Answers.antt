use Rattle.std.proofs.Common.{rules, sym, subst, arith}
use Rattle.life_commands.specs.Bytes.{StaysKnown}
use Rattle.life_commands.specs.LogDisk.{seen}
use Rattle.life_commands.specs.declared.status.Status.TheVariants as statuses
use Rattle.life_commands.proofs.Lives.{crashed, tells_of}
use Rattle.store_log.specs.Shows.{Shows}
use Rattle.store_log.specs.Openings.{Makes, IsMade, IsNotMade}
use Rattle.store_log.proofs.Known.{known_by, known_unless}
use Rattle.store_log.proofs.Openings.{made_refused, already_made, allows_format, format_made, format_cut}
use Rattle.store_log.proofs.logs.make_log.Goals as goal

pub returns-in-Err-clause-not : goal.returns-in-Err-clause-not
returns-in-Err-clause-not g c = λ v.
    let more = crashed g.L.Disk c.args.disk c.in-Err.refused.disk _ c.in-Err.ensures.any_moment (λ t k le m. g.met.L.Disk.counts_now c.in-Err.refused.disk t k le m) in
    (made_refused c.never_bad.ensures (seen g.L.Disk v) c.args.disk c.in-Err.refused.disk (λ t. c.in-Err.ensures.same (tells_of v t)) more c.args.limit c.in-Err.refused.fault c.not_made.result c.not_made.ensures (λ t. c.in-Err.ensures.bad (tells_of v t))).0

pub returns-in-Err-clause-shows : goal.returns-in-Err-clause-shows
returns-in-Err-clause-shows g c =
    let more = crashed g.L.Disk c.args.disk c.in-Err.refused.disk _ c.in-Err.ensures.any_moment (λ t k le m. g.met.L.Disk.counts_now c.in-Err.refused.disk t k le m) in
    (made_refused c.never_bad.ensures g.L.Disk c.args.disk c.in-Err.refused.disk c.in-Err.ensures.same more c.args.limit c.in-Err.refused.fault c.not_made.result c.not_made.ensures c.in-Err.ensures.bad).1

pub returns-in-Err-clause-known : goal.returns-in-Err-clause-known
returns-in-Err-clause-known g c =
    known_by g.L.Disk.tells g.L.Disk c.args.disk c.in-Err.refused.disk c.in-Err.ensures.same (crashed g.L.Disk c.args.disk c.in-Err.refused.disk _ c.in-Err.ensures.any_moment (λ t k le m. g.met.L.Disk.counts_now c.in-Err.refused.disk t k le m))

pub returns-then-count-ne0-clause-not : goal.returns-then-count-ne0-clause-not
returns-then-count-ne0-clause-not g c = λ v.
    let more = crashed g.L.Disk c.args.disk c.in-Ok.log.device _ c.in-Ok.ensures.any_moment (λ t k le m. g.met.L.Disk.counts_now c.in-Ok.log.device t k le m) in
    subst (λ (d : g.row.L.Denot). IsNotMade (seen g.L.Disk v) c.args.limit c.args.disk d statuses.AlreadyFormatted) (sym c.into_device.ensures)
    (already_made (seen g.L.Disk v) c.args.disk c.in-Ok.log (λ t. c.in-Ok.ensures.blocks (tells_of v t)) (λ t. c.in-Ok.ensures.same (tells_of v t)) c.one_log.ensures more c.args.limit c.in-Ok.ensures.fresh.0 (λ e. omega (arith, c.if-count-ne0.true, c.blocks-count.ensures.value, e))).0

pub returns-then-count-ne0-clause-shows : goal.returns-then-count-ne0-clause-shows
returns-then-count-ne0-clause-shows g c =
    let more = crashed g.L.Disk c.args.disk c.in-Ok.log.device _ c.in-Ok.ensures.any_moment (λ t k le m. g.met.L.Disk.counts_now c.in-Ok.log.device t k le m) in
    subst (λ (d : g.row.L.Denot). Shows g.L.Disk d statuses.AlreadyFormatted) (sym c.into_device.ensures)
    (already_made g.L.Disk c.args.disk c.in-Ok.log c.in-Ok.ensures.blocks c.in-Ok.ensures.same c.one_log.ensures more c.args.limit c.in-Ok.ensures.fresh.0 (λ e. omega (arith, c.if-count-ne0.true, c.blocks-count.ensures.value, e))).1

pub returns-then-count-ne0-clause-known : goal.returns-then-count-ne0-clause-known
returns-then-count-ne0-clause-known g c = subst (StaysKnown g.L.Disk.tells g.L.Disk c.args.disk) (sym c.into_device.ensures)
    (known_by g.L.Disk.tells g.L.Disk c.args.disk c.in-Ok.log.device c.in-Ok.ensures.same (crashed g.L.Disk c.args.disk c.in-Ok.log.device _ c.in-Ok.ensures.any_moment (λ t k le m. g.met.L.Disk.counts_now c.in-Ok.log.device t k le m)))

pub returns-in-Ok-enter_format-clause-made : goal.returns-in-Ok-enter_format-clause-made
returns-in-Ok-enter_format-clause-made g c = λ v.
    let more = crashed g.L.Disk c.args.disk c.in-Ok.log.device _ c.in-Ok.ensures.any_moment (λ t k le m. g.met.L.Disk.counts_now c.in-Ok.log.device t k le m) in
    subst (λ (d : g.row.L.Denot). Makes (seen g.L.Disk v) c.args.disk (IsMade (seen g.L.Disk v) c.args.limit d)) (sym c.into_device-in-Ok-enter_format.ensures)
    (format_made (seen g.L.Disk v) c.args.disk c.in-Ok.log (λ t. c.in-Ok.ensures.blocks (tells_of v t)) (λ t. c.in-Ok.ensures.same (tells_of v t)) c.one_log.ensures more c.start-log.result.log (λ t bs rs d r. c.start-log.ensures.records (tells_of v t) 0 bs rs d r) (omega (arith, c.if-count-ne0.false, c.blocks-count.ensures.value)) c.args.limit c.requires c.enter_format.new.log.log.device (λ t stands. c.in-Ok-enter_format.ensures.made (tells_of v t) stands))

pub returns-in-Ok-enter_format-clause-known : goal.returns-in-Ok-enter_format-clause-known
returns-in-Ok-enter_format-clause-known g c = allows_format g.L.Disk c.args.disk c.in-Ok.log c.in-Ok.ensures.blocks c.in-Ok.ensures.same c.never_bad.ensures (omega (arith, c.if-count-ne0.false, c.blocks-count.ensures.value))

pub returns-in-Err-enter_format-clause-not : goal.returns-in-Err-enter_format-clause-not
returns-in-Err-enter_format-clause-not g c = λ v.
    let more = crashed g.L.Disk c.args.disk c.in-Ok.log.device _ c.in-Ok.ensures.any_moment (λ t k le m. g.met.L.Disk.counts_now c.in-Ok.log.device t k le m) in
    subst (λ (d : g.row.L.Denot). IsNotMade (seen g.L.Disk v) c.args.limit c.args.disk d c.in-Err-enter_format.status) (sym c.into_device-in-Err-enter_format.ensures)
    (format_cut (seen g.L.Disk v) c.args.disk c.in-Ok.log (λ t. c.in-Ok.ensures.blocks (tells_of v t)) (λ t. c.in-Ok.ensures.same (tells_of v t)) c.one_log.ensures more c.start-log.result.log (λ t bs rs d r. c.start-log.ensures.records (tells_of v t) 0 bs rs d r) (omega (arith, c.if-count-ne0.false, c.blocks-count.ensures.value)) c.args.limit c.requires c.enter_format.new.log.log.device c.in-Err-enter_format.status c.in-Err-enter_format.ensures.kind (λ e t stands. c.in-Err-enter_format.ensures.cut e (tells_of v t) stands) (search rules))

pub returns-in-Err-enter_format-clause-known : goal.returns-in-Err-enter_format-clause-known
returns-in-Err-enter_format-clause-known g c = known_unless g.L.Disk.tells g.L.Disk c.args.disk c.into_device-in-Err-enter_format.result
    (allows_format g.L.Disk c.args.disk c.in-Ok.log c.in-Ok.ensures.blocks c.in-Ok.ensures.same c.never_bad.ensures (omega (arith, c.if-count-ne0.false, c.blocks-count.ensures.value)))
