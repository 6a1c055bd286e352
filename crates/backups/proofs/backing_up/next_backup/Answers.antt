use Rattle.backups.proofs.Turning.{next_is}
use Rattle.backups.proofs.backing_up.next_backup.Goals as goal

pub returns-clause-next : goal.returns-clause-next
returns-clause-next g c = next_is g.N.Life.opens c.survey.new.pass.log _ c.in_ok-survey.ensures.survey.analysis
