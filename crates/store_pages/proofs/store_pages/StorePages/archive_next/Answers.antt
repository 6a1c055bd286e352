use Rattle.store_life.specs.SoFar.{actives}
use Rattle.store_pages.proofs.Backed.{next_alone, next_archived, next_durable, next_keeps, next_named}
use Rattle.store_pages.proofs.store_pages.StorePages.archive_next.Goals as goal

pub returns-clause-runs : goal.returns-clause-runs
returns-clause-runs g c = record {
  alone = next_alone g.N.Life.opens g.N.Life.entries g.N.Life.session_entries _ _ c.args.life.now.pass c.archive_next-next.new.pass c.requires.runs.alone c.archive_next-next.result c.archive_next-next.ensures.entered;
  begun = c.requires.runs.begun;
  few = c.requires.runs.few;
}

pub returns-clause-archives : goal.returns-clause-archives
returns-clause-archives g c = next_archived g.N.Life.opens g.N.Life.entries g.N.Life.session_entries _ _ c.args.life.now.pass c.archive_next-next.new.pass c.requires.runs.alone c.archive_next-next.result c.archive_next-next.ensures.entered

pub returns-clause-named : goal.returns-clause-named
returns-clause-named g c = λ named. next_named g.N.Life.opens c.archive_next-next.result c.args.life.now.pass.log c.archive_next-next.new.pass.log c.args.life.now.pass.durable c.archive_next-next.new.pass.durable (actives c.args.life.now.named.items)
    (next_archived g.N.Life.opens g.N.Life.entries g.N.Life.session_entries _ _ c.args.life.now.pass c.archive_next-next.new.pass c.requires.runs.alone c.archive_next-next.result c.archive_next-next.ensures.entered) named

pub returns-clause-durable : goal.returns-clause-durable
returns-clause-durable g c = next_durable g.N.Life.opens g.N.Life.entries g.N.Life.session_entries _ _ c.args.life.now.pass c.archive_next-next.new.pass c.requires.runs.alone c.archive_next-next.result c.archive_next-next.ensures.entered

pub returns-clause-keeps : goal.returns-clause-keeps
returns-clause-keeps g c = next_keeps g.N.Life.opens g.N.Life.entries g.N.Life.session_entries _ _ c.args.life.now.pass c.archive_next-next.new.pass c.requires.runs.alone c.archive_next-next.result c.archive_next-next.ensures.entered

pub returns-in-Err-VaultFault-clause-archives : goal.returns-in-Err-VaultFault-clause-archives
returns-in-Err-VaultFault-clause-archives g c = next_archived g.N.Life.opens g.N.Life.entries g.N.Life.session_entries _ _ c.args.life.now.pass c.archive_next-next.new.pass c.requires.runs.alone c.archive_next-next.result c.archive_next-next.ensures.entered

pub returns-in-Err-VaultFault-clause-named : goal.returns-in-Err-VaultFault-clause-named
returns-in-Err-VaultFault-clause-named g c = λ named. next_named g.N.Life.opens c.archive_next-next.result c.args.life.now.pass.log c.archive_next-next.new.pass.log c.args.life.now.pass.durable c.archive_next-next.new.pass.durable (actives c.args.life.now.named.items)
    (next_archived g.N.Life.opens g.N.Life.entries g.N.Life.session_entries _ _ c.args.life.now.pass c.archive_next-next.new.pass c.requires.runs.alone c.archive_next-next.result c.archive_next-next.ensures.entered) named

pub returns-2-clause-archives : goal.returns-2-clause-archives
returns-2-clause-archives g c = next_archived g.N.Life.opens g.N.Life.entries g.N.Life.session_entries _ _ c.args.life.now.pass c.archive_next-next.new.pass c.requires.runs.alone c.archive_next-next.result c.archive_next-next.ensures.entered

pub returns-2-clause-named : goal.returns-2-clause-named
returns-2-clause-named g c = λ named. next_named g.N.Life.opens c.archive_next-next.result c.args.life.now.pass.log c.archive_next-next.new.pass.log c.args.life.now.pass.durable c.archive_next-next.new.pass.durable (actives c.args.life.now.named.items)
    (next_archived g.N.Life.opens g.N.Life.entries g.N.Life.session_entries _ _ c.args.life.now.pass c.archive_next-next.new.pass c.requires.runs.alone c.archive_next-next.result c.archive_next-next.ensures.entered) named
