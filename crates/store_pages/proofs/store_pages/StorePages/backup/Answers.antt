use Rattle.store_life.specs.SoFar.{actives}
use Rattle.store_pages.proofs.Backed.{backed_alone, backed_durable, backed_keeps, backed_up, backup_named}
use Rattle.store_pages.proofs.store_pages.StorePages.backup.Goals as goal

pub returns-clause-runs : goal.returns-clause-runs
returns-clause-runs g c = record {
  alone = backed_alone g.N.Life.opens g.N.Life.entries g.N.Life.session_entries _ _ c.args.life.now.pass c.backup.new.pass c.requires.runs.alone c.backup.result c.backup.ensures.entered;
  begun = c.requires.runs.begun;
  few = c.requires.runs.few;
}

pub returns-clause-backs_up : goal.returns-clause-backs_up
returns-clause-backs_up g c = backed_up g.N.Life.opens g.N.Life.entries g.N.Life.session_entries _ _ c.args.life.now.pass c.backup.new.pass c.requires.runs.alone c.backup.result c.backup.ensures.entered

pub returns-clause-named : goal.returns-clause-named
returns-clause-named g c = λ named. backup_named g.N.Life.opens c.backup.result c.args.life.now.pass.log c.backup.new.pass.log c.backup.new.pass.durable (actives c.args.life.now.named.items)
    (backed_up g.N.Life.opens g.N.Life.entries g.N.Life.session_entries _ _ c.args.life.now.pass c.backup.new.pass c.requires.runs.alone c.backup.result c.backup.ensures.entered) named

pub returns-clause-durable : goal.returns-clause-durable
returns-clause-durable g c = backed_durable g.N.Life.opens g.N.Life.entries g.N.Life.session_entries _ _ c.args.life.now.pass c.backup.new.pass c.requires.runs.alone c.backup.result c.backup.ensures.entered

pub returns-clause-keeps : goal.returns-clause-keeps
returns-clause-keeps g c = backed_keeps g.N.Life.opens g.N.Life.entries g.N.Life.session_entries _ _ c.args.life.now.pass c.backup.new.pass c.requires.runs.alone c.backup.result c.backup.ensures.entered
