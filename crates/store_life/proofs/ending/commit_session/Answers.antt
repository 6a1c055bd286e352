use Rattle.std.proofs.Common.{◌≡◌, subst, sym}
use Rattle.std.specs.Prelude.{◌<◌, OnErr}
use Rattle.engine.specs.Sittings.{Sitting}
use Rattle.books.specs.Rights.{SessionClaim}
use Rattle.front.specs.Seen.{PassSeen}
use Rattle.wal_record.specs.declared.entry.Entry.{Entry}
use Rattle.page_ops.specs.Causes.{Ends}
use Rattle.store_life.proofs.Committed.{commit_alone_for, commits_for, durable_for, keeps_for, stays_for}
use Rattle.store_life.proofs.ending.commit_session.Goals as goal

pub returns-clause-alone : goal.returns-clause-alone
returns-clause-alone g c =
    commit_alone_for g.N.Life.opens g.N.Life.entries g.N.Life.session_entries (g.J.Entering.account c.args.journal.now) (g.J.Entering.account c.commit-committed.new.journal) c.args.session.now.claim c.meet.new.self c.commit-committed.new.session c.meet.ensures.claim c.args.pass.now.log c.requires.alone c.meet.ensures.other c.seen.result c.seen.ensures.seen c.requires.active c.commit-committed.result c.commit-committed.ensures.entered

pub returns-clause-commits : goal.returns-clause-commits
returns-clause-commits g c =
    commits_for g.N.Life.opens g.N.Life.entries g.N.Life.session_entries (g.J.Entering.account c.args.journal.now) (g.J.Entering.account c.commit-committed.new.journal) c.args.session.now.claim c.meet.new.self c.commit-committed.new.session c.meet.ensures.claim c.args.pass.now.log c.requires.alone c.meet.ensures.other c.seen.result c.seen.ensures.seen c.requires.active c.commit-committed.result c.commit-committed.ensures.entered

pub returns-clause-durable : goal.returns-clause-durable
returns-clause-durable g c =
    durable_for g.N.Life.opens g.N.Life.entries g.N.Life.session_entries (g.J.Entering.account c.args.journal.now) (g.J.Entering.account c.commit-committed.new.journal) c.args.session.now.claim c.meet.new.self c.commit-committed.new.session c.meet.ensures.claim c.args.pass.now.log c.requires.alone c.meet.ensures.other c.seen.result c.seen.ensures.seen c.requires.active c.commit-committed.result c.commit-committed.ensures.entered c.args.pass.now.durable c.meet.ensures.durable.1

pub returns-clause-stays : goal.returns-clause-stays
returns-clause-stays g c =
    subst (λ (s : Sitting). OnErr c.commit-committed.result (s.claim.tx ≡ c.args.session.now.claim.tx)) (sym c.seen.ensures.same)
    (stays_for g.N.Life.opens g.N.Life.entries g.N.Life.session_entries (g.J.Entering.account c.args.journal.now) (g.J.Entering.account c.commit-committed.new.journal) c.args.session.now.claim c.meet.new.self c.commit-committed.new.session c.meet.ensures.claim c.args.pass.now.log c.requires.alone c.meet.ensures.other c.seen.result c.seen.ensures.seen c.requires.active c.commit-committed.result c.commit-committed.ensures.entered c.commit-committed.ensures.holder)

pub returns-clause-refused : goal.returns-clause-refused
returns-clause-refused g c = c.commit-committed.ensures.refused (subst (λ (s : SessionClaim). 0 < s.tx) (sym c.meet.ensures.claim) c.requires.active)

pub returns-clause-ends : goal.returns-clause-ends
returns-clause-ends g c =
    subst (λ (p : PassSeen Entry). Ends g.N.Life.opens g.N.Life.log_faults g.N.Life.made (g.J.Entering.account c.args.journal.now) (g.J.Entering.account c.commit-committed.new.journal) p.log c.commit-committed.result) (sym c.seen.ensures.seen) (c.commit-committed.ensures.ends (subst (λ (s : SessionClaim). 0 < s.tx) (sym c.meet.ensures.claim) c.requires.active))

pub returns-clause-keeps : goal.returns-clause-keeps
returns-clause-keeps g c =
    keeps_for g.N.Life.opens g.N.Life.entries g.N.Life.session_entries (g.J.Entering.account c.args.journal.now) (g.J.Entering.account c.commit-committed.new.journal) c.args.session.now.claim c.meet.new.self c.commit-committed.new.session c.meet.ensures.claim c.args.pass.now.log c.requires.alone c.meet.ensures.other c.seen.result c.seen.ensures.seen c.requires.active c.commit-committed.result c.commit-committed.ensures.entered
