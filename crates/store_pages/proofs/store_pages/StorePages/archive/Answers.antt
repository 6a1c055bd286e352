use Rattle.store_life.specs.SoFar.{actives}
use Rattle.store_pages.proofs.Backed.{archive_alone, archive_durable, archive_keeps, archived, archive_named}
use Rattle.store_pages.proofs.store_pages.StorePages.archive.Goals as goal

pub returns-clause-runs : goal.returns-clause-runs
returns-clause-runs g c = record {
  alone = archive_alone g.N.Life.opens g.N.Life.entries g.N.Life.session_entries _ _ c.args.life.now.pass c.archive-made.new.pass c.requires.runs.alone c.archive-made.result c.archive-made.ensures.entered;
  begun = c.requires.runs.begun;
  few = c.requires.runs.few;
}

pub returns-clause-archives : goal.returns-clause-archives
returns-clause-archives g c = archived g.N.Life.opens g.N.Life.entries g.N.Life.session_entries _ _ c.args.life.now.pass c.archive-made.new.pass c.requires.runs.alone c.archive-made.result c.archive-made.ensures.entered

pub returns-clause-named : goal.returns-clause-named
returns-clause-named g c = λ named. archive_named g.N.Life.opens c.archive-made.result c.args.life.now.pass.log c.archive-made.new.pass.log c.archive-made.new.pass.durable (actives c.args.life.now.named.items)
    (archived g.N.Life.opens g.N.Life.entries g.N.Life.session_entries _ _ c.args.life.now.pass c.archive-made.new.pass c.requires.runs.alone c.archive-made.result c.archive-made.ensures.entered) named

pub returns-clause-durable : goal.returns-clause-durable
returns-clause-durable g c = archive_durable g.N.Life.opens g.N.Life.entries g.N.Life.session_entries _ _ c.args.life.now.pass c.archive-made.new.pass c.requires.runs.alone c.archive-made.result c.archive-made.ensures.entered

pub returns-clause-keeps : goal.returns-clause-keeps
returns-clause-keeps g c = archive_keeps g.N.Life.opens g.N.Life.entries g.N.Life.session_entries _ _ c.args.life.now.pass c.archive-made.new.pass c.requires.runs.alone c.archive-made.result c.archive-made.ensures.entered

pub returns-in-Err-VaultFault-clause-archives : goal.returns-in-Err-VaultFault-clause-archives
returns-in-Err-VaultFault-clause-archives g c = archived g.N.Life.opens g.N.Life.entries g.N.Life.session_entries _ _ c.args.life.now.pass c.archive-made.new.pass c.requires.runs.alone c.archive-made.result c.archive-made.ensures.entered

pub returns-in-Err-VaultFault-clause-named : goal.returns-in-Err-VaultFault-clause-named
returns-in-Err-VaultFault-clause-named g c = λ named. archive_named g.N.Life.opens c.archive-made.result c.args.life.now.pass.log c.archive-made.new.pass.log c.archive-made.new.pass.durable (actives c.args.life.now.named.items)
    (archived g.N.Life.opens g.N.Life.entries g.N.Life.session_entries _ _ c.args.life.now.pass c.archive-made.new.pass c.requires.runs.alone c.archive-made.result c.archive-made.ensures.entered) named

pub returns-2-clause-archives : goal.returns-2-clause-archives
returns-2-clause-archives g c = archived g.N.Life.opens g.N.Life.entries g.N.Life.session_entries _ _ c.args.life.now.pass c.archive-made.new.pass c.requires.runs.alone c.archive-made.result c.archive-made.ensures.entered

pub returns-2-clause-named : goal.returns-2-clause-named
returns-2-clause-named g c = λ named. archive_named g.N.Life.opens c.archive-made.result c.args.life.now.pass.log c.archive-made.new.pass.log c.archive-made.new.pass.durable (actives c.args.life.now.named.items)
    (archived g.N.Life.opens g.N.Life.entries g.N.Life.session_entries _ _ c.args.life.now.pass c.archive-made.new.pass c.requires.runs.alone c.archive-made.result c.archive-made.ensures.entered) named
