use Rattle.std.proofs.Common.{sym, ap, subst, ◌∙◌, arith, ℕ}
use Rattle.wal_record.specs.Rules.{is_limit}
use Rattle.life_commands.specs.LogDisk.{Form, seen}
use Rattle.store_log.specs.Beginnings.{Beginning}
use Rattle.runner.specs.Machine.{Begun}
use Rattle.store_log.specs.Openings.{Makes, IsMade, IsNotMade}
use Rattle.runner.proofs.Without.{did_format, format_refused, made_kind, refused_cause}
use Rattle.runner.proofs.outside.format.Goals as goal

pub returns-in-Ok-make_log-clause-turns : goal.returns-in-Ok-make_log-clause-turns
returns-in-Ok-make_log-clause-turns g c = λ v s h. did_format g.L.Disk.tells (seen g.L.Disk v) (Begun g.L.Disk.tells (seen g.L.Disk v)) c.args.disk s h c.args.limit (ap is_limit (sym c.unwrap_or-room.ensures) ∙ sym c.is_room.ensures ∙ c.if-not-is_room.false) c.in-Ok-make_log.disk c.in-Ok.lines.0.items _
    (subst (λ (n : ℕ). Makes (seen g.L.Disk v) c.args.disk (IsMade (seen g.L.Disk v) n c.in-Ok-make_log.disk)) c.unwrap_or-room.ensures (c.in-Ok-make_log.ensures.made v)) c.in-Ok-make_log.ensures.known c.in-Ok-make_log.ensures.fuse c.in-Ok.ensures.lines.0

pub returns-in-Err-make_log-clause-turns : goal.returns-in-Err-make_log-clause-turns
returns-in-Err-make_log-clause-turns g c = λ v s h. format_refused g.L.Disk.tells (seen g.L.Disk v) (Begun g.L.Disk.tells (seen g.L.Disk v)) c.args.disk s h c.args.limit (ap is_limit (sym c.unwrap_or-room.ensures) ∙ sym c.is_room.ensures ∙ c.if-not-is_room.false) c.in-Err-make_log.not.disk c.args.line _ c.in-Err-make_log.not.status c.in-Ok.lines.1.items c.refuse.result (omega (arith, c.refused-refused.ensures, c.if-refused-ge-MOST_REFUSED.false)) c.refuse.ensures
    (subst (λ (n : ℕ). IsNotMade (seen g.L.Disk v) n c.args.disk c.in-Err-make_log.not.disk c.in-Err-make_log.not.status) c.unwrap_or-room.ensures (c.in-Err-make_log.ensures.not v)) c.in-Err-make_log.ensures.fuse c.in-Ok.ensures.lines.1 c.in-Err-make_log.ensures.known

pub returns-in-Err-make_log-clause-cause : goal.returns-in-Err-make_log-clause-cause
returns-in-Err-make_log-clause-cause g c = refused_cause g.L.Disk (λ (b : Beginning g.row.L.Denot). b.log.log.device) c.args.disk c.in-Err-make_log.not.disk _ c.in-Err-make_log.not.status c.in-Ok.lines.1.items c.refuse.result (omega (arith, c.refused-refused.ensures, c.if-refused-ge-MOST_REFUSED.false)) (omega (arith, c.if-refused-ge-MOST_REFUSED.false)) c.refuse.ensures c.in-Err-make_log.ensures.fuse
    (made_kind (seen g.L.Disk Form) _ c.args.disk c.in-Err-make_log.not.disk c.in-Err-make_log.not.status (c.in-Err-make_log.ensures.not Form)) c.in-Err-make_log.ensures.shows
