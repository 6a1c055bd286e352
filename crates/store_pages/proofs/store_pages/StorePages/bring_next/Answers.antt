use Rattle.std.proofs.Common.{◌<◌, arith}
use Rattle.segment_restore.specs.Faults.{of_vault}
use Rattle.store_life.specs.SoFar.{actives}
use Rattle.store_life.proofs.Stepped.{upkeep_named}
use Rattle.rollback.proofs.Composing.{faults_self}
use Rattle.page_ops.proofs.Composing.{bring_then, done_meets_none}
use Rattle.store_pages.proofs.Redone.{made_upto}
use Rattle.store_pages.proofs.Restored.{restored_upkeep}
use Rattle.store_pages.proofs.store_pages.StorePages.bring_next.Goals as goal
use Rattle.store_pages.proofs.store_pages.StorePages.bring_next.Goals.{in-Some, in-None}

pub bring-requires-clause-made : goal.bring-requires-clause-made
bring-requires-clause-made g c =
    let all = c.if-page-pages.false in
    let some : 0 < c.in-Some-next.page = elim c.match-work-2.branch [
      | in-Some w ↦ (let e = w.saturating_add.ensures in let is = w.next-is in let page = c.in-Some-next.is in grind (arith, e, is, page))
      | in-None w ↦ (let e = w.next_redo-next.ensures in let is = w.next-is in let page = c.in-Some-next.is in grind (arith, e, is, page))
    ] in
    made_upto g.N.Life.opens c.pages.new.pass.log c.pages.ensures.seen.now.consistent c.in-Some-next.page c.pages.result some (omega (arith, all)) c.pages.ensures.count

pub returns-in-Ok-bring-clause-upkeep : goal.returns-in-Ok-bring-clause-upkeep
returns-in-Ok-bring-clause-upkeep g c = restored_upkeep g.N.Life.opens g.N.Life.entries g.N.Life.session_entries (g.J.Entering.account c.args.journal.now) (g.J.Entering.account c.work.new.self) (g.J.Entering.account c.pages.new.self) (g.J.Entering.account c.bring.new.journal) c.args.life.now.pass c.work.new.pass c.pages.new.pass c.bring.new.pass c.requires.runs.alone c.work.ensures.seen c.pages.ensures.seen c.bring.ensures.entered

pub returns-in-Ok-bring-clause-named : goal.returns-in-Ok-bring-clause-named
returns-in-Ok-bring-clause-named g c = λ named. upkeep_named c.args.life.now.pass.log c.bring.new.pass.log (actives c.args.life.now.named.items) (restored_upkeep g.N.Life.opens g.N.Life.entries g.N.Life.session_entries (g.J.Entering.account c.args.journal.now) (g.J.Entering.account c.work.new.self) (g.J.Entering.account c.pages.new.self) (g.J.Entering.account c.bring.new.journal) c.args.life.now.pass c.work.new.pass c.pages.new.pass c.bring.new.pass c.requires.runs.alone c.work.ensures.seen c.pages.ensures.seen c.bring.ensures.entered) named

pub returns-in-Err-bring-clause-upkeep : goal.returns-in-Err-bring-clause-upkeep
returns-in-Err-bring-clause-upkeep g c = restored_upkeep g.N.Life.opens g.N.Life.entries g.N.Life.session_entries (g.J.Entering.account c.args.journal.now) (g.J.Entering.account c.work.new.self) (g.J.Entering.account c.pages.new.self) (g.J.Entering.account c.bring.new.journal) c.args.life.now.pass c.work.new.pass c.pages.new.pass c.bring.new.pass c.requires.runs.alone c.work.ensures.seen c.pages.ensures.seen c.bring.ensures.entered

pub returns-in-Err-bring-clause-named : goal.returns-in-Err-bring-clause-named
returns-in-Err-bring-clause-named g c = λ named. upkeep_named c.args.life.now.pass.log c.bring.new.pass.log (actives c.args.life.now.named.items) (restored_upkeep g.N.Life.opens g.N.Life.entries g.N.Life.session_entries (g.J.Entering.account c.args.journal.now) (g.J.Entering.account c.work.new.self) (g.J.Entering.account c.pages.new.self) (g.J.Entering.account c.bring.new.journal) c.args.life.now.pass c.work.new.pass c.pages.new.pass c.bring.new.pass c.requires.runs.alone c.work.ensures.seen c.pages.ensures.seen c.bring.ensures.entered) named

pub returns-in-Err-bring-clause-refused : goal.returns-in-Err-bring-clause-refused
returns-in-Err-bring-clause-refused g c =
    let before = of_vault c.args.self.now.pool.supply.bases.faults in
    let now = of_vault c.bring.new.self.supply.bases.faults in
    let none = done_meets_none g.N.Life.opens g.N.Life.log_faults g.N.Life.made (g.J.Entering.account c.args.journal.now) (g.J.Entering.account c.work.new.self) c.work.new.pass.log c.in-Ok.work c.in-Ok.ensures.ends in
    bring_then g.N.Life.opens g.N.Life.log_faults g.N.Life.made (g.J.Entering.account c.args.journal.now) (g.J.Entering.account c.work.new.self) (g.J.Entering.account c.bring.new.journal) c.bring.new.pass.log none c.work.ensures.seen.keeps before before now c.in-Err-bring.fault (faults_self before)
    (bring_then g.N.Life.opens g.N.Life.log_faults g.N.Life.made (g.J.Entering.account c.work.new.self) (g.J.Entering.account c.pages.new.self) (g.J.Entering.account c.bring.new.journal) c.bring.new.pass.log c.pages.ensures.calm.end c.pages.ensures.seen.keeps before before now c.in-Err-bring.fault (faults_self before) c.in-Err-bring.ensures.refused)
