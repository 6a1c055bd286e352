use Rattle.listed_log.proofs.Adding.{added_one}
use Rattle.listed_log.proofs.Leaving.{waits_more}
use Rattle.listed_log.proofs.listed_log.ListedLog.commit.Goals as goal

pub returns-clause-more : goal.returns-clause-more
returns-clause-more g c goes rs k lawful few =
    added_one _ _ _ goes rs _ _ c.append_commit-lsn.result _ _ _ k lawful c.append_commit-lsn.ensures.lsn
    (λ place. c.note.ensures.more rs k.listing lawful place few) c.note.ensures.noted c.append_commit-lsn.ensures.added.0 c.append_commit-lsn.ensures.records

pub returns-clause-groups : goal.returns-clause-groups
returns-clause-groups g c goes rs k tells runs w room =
    let held = k.records tells runs in
    waits_more g.L.Disk.told g.L.Disk.may_leave c.args.self.now.log c.append_commit-lsn.new.self rs _ held w room c.append_commit-lsn.ensures.added.0 (λ before stable waiting h. c.append_commit-lsn.ensures.records tells before stable waiting h) c.append_commit-lsn.ensures.whole
