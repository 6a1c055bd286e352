use Rattle.std.proofs.Common.{[], sym, subst, arith}
use Rattle.script.specs.declared.command.Command.TheVariants as commands
use Rattle.life_commands.specs.Bytes.{Known}
use Rattle.life_commands.specs.LogDisk.{Form, seen}
use Rattle.life_commands.specs.Refusals.{RefusesAt}
use Rattle.life_commands.specs.Turns.{bytes_after}
use Rattle.life_commands.specs.declared.status.Status.TheVariants as statuses
use Rattle.store_log.specs.Beginnings.{Beginning}
use Rattle.runner.specs.Machine.{Begun, no_opening}
use Rattle.runner.proofs.Without.{did_open, opened_leaves, open_kind, open_refused, refused_cause}
use Rattle.runner.proofs.outside.opens.Goals as goal

pub returns-in-Ok-open-clause-turns : goal.returns-in-Ok-open-clause-turns
returns-in-Ok-open-clause-turns g c = λ v s line h. subst (λ (d : g.row.L.Denot). RefusesAt (seen g.L.Disk v) 0 d no_opening [] s commands.Open line statuses.Memory × Known g.L.Disk.tells (seen g.L.Disk v) (bytes_after s.life s.bytes) d) (sym c.into_device.ensures)
    (opened_leaves g.L.Disk.tells (seen g.L.Disk v) (Begun g.L.Disk.tells (seen g.L.Disk v)) c.args.disk s h c.in-Ok-open.life line (c.in-Ok-open.ensures.begun v) c.in-Ok-open.ensures.known)

pub returns-in-Ok-open_line-clause-turns : goal.returns-in-Ok-open_line-clause-turns
returns-in-Ok-open_line-clause-turns g c = λ v s line h. did_open g.L.Disk v c.args.disk s h c.in-Ok-open.ensures.allows c.in-Ok-open.life c.in-Ok-open.found.commits c.in-Ok-open.found.losers c.in-Ok-open_line.lines.items _ (c.in-Ok-open.ensures.begun v) c.in-Ok-open.ensures.figures c.in-Ok-open.ensures.fuse c.in-Ok-open_line.ensures

pub returns-clause-turns : goal.returns-clause-turns
returns-clause-turns g c = λ v s line h. open_refused g.L.Disk.tells (seen g.L.Disk v) (Begun g.L.Disk.tells (seen g.L.Disk v)) c.args.disk s h c.in-Err-open.not.disk line _ c.in-Err-open.not.status c.in-Ok.failed.items c.refuse.result (omega (arith, c.refused-refused.ensures, c.if-refused-ge-MOST_REFUSED.false)) c.refuse.ensures (c.in-Err-open.ensures.not v) c.in-Err-open.ensures.fuse c.in-Ok.ensures c.in-Err-open.ensures.known

pub returns-clause-cause : goal.returns-clause-cause
returns-clause-cause g c = refused_cause g.L.Disk (λ (b : Beginning g.row.L.Denot). b.log.log.device) c.args.disk c.in-Err-open.not.disk _ c.in-Err-open.not.status c.in-Ok.failed.items c.refuse.result (omega (arith, c.refused-refused.ensures, c.if-refused-ge-MOST_REFUSED.false)) (omega (arith, c.if-refused-ge-MOST_REFUSED.false)) c.refuse.ensures c.in-Err-open.ensures.fuse
    (open_kind (seen g.L.Disk Form) c.args.disk c.in-Err-open.not.disk c.in-Err-open.not.status (c.in-Err-open.ensures.not Form)) c.in-Err-open.ensures.shows
