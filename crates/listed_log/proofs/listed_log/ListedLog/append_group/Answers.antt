use Rattle.listed_log.proofs.Adding.{readied, added}
use Rattle.listed_log.proofs.Leaving.{waits_more}
use Rattle.listed_log.proofs.listed_log.ListedLog.append_group.Goals as goal

pub returns-clause-more : goal.returns-clause-more
returns-clause-more g c goes rs k lawful few =
    let ready = c.prepare_all.ensures in
    let one = readied _ _ _ goes rs _ _ _ k (ready.same rs) ready.noted in
    added _ _ _ goes rs _ c.args.recs.now c.in_ok-lsn.lsn _ _ _ one lawful c.in_ok-lsn.ensures.first
    (λ place. c.note_all.ensures.more rs one.listing lawful place few) (λ place. c.note_all.ensures.noted goes rs place few one.noted) c.in_ok-lsn.ensures.added.0 c.in_ok-lsn.ensures.records

pub returns-clause-groups : goal.returns-clause-groups
returns-clause-groups g c goes rs k tells runs w room =
    let held = k.records tells runs in
    waits_more g.L.Disk.told g.L.Disk.may_leave c.args.self.now.log c.append_group.new.self rs c.args.recs.now held w room c.in_ok-lsn.ensures.added.0 (λ before stable waiting h. c.in_ok-lsn.ensures.records tells before stable waiting h) c.in_ok-lsn.ensures.whole
