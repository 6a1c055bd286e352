use Rattle.std.proofs.Common.{ap, subst, sym}
use Rattle.front.specs.Seen.{PassSeen}
use Rattle.wal_record.specs.declared.entry.Entry.{Entry}
use Rattle.engine.specs.Sittings.{Sitting}
use Rattle.command_laws.specs.Alone.{IsAlone}
use Rattle.page_ops.specs.Causes.{Ends}
use Rattle.page_ops.specs.Outcomes.{IsCrowd}
use Rattle.std.specs.Prelude.{IfErr}
use Rattle.store_life.specs.Turns.{HasBegun}
use Rattle.store_life.proofs.Began.{begun_alone, begun_now}
use Rattle.store_life.proofs.beginning.begin_in.Goals as goal

pub returns-clause-alone : goal.returns-clause-alone
returns-clause-alone g c =
    subst (λ (p : PassSeen Entry). IsAlone g.N.Life.opens g.N.Life.entries (g.J.Entering.account c.begin-begun.new.journal) p.log) (sym c.seen.ensures.seen)
    (begun_alone g.N.Life.opens g.N.Life.entries g.N.Life.session_entries (g.J.Entering.account c.args.journal.now) (g.J.Entering.account c.begin-begun.new.journal) c.args.session.now c.begin-begun.new.session c.args.pass.now.log c.requires.alone (ap (λ (p : PassSeen Entry). p.log) c.requires.seen) c.requires.none c.requires.agrees c.begin-begun.result c.begin-begun.ensures.entered)

pub returns-clause-begun : goal.returns-clause-begun
returns-clause-begun g c =
    subst (λ (s : Sitting). HasBegun c.begin-begun.result s.claim c.args.pass.now.log c.seen.result.log) (sym c.seen.ensures.same)
    (subst (λ (p : PassSeen Entry). HasBegun c.begin-begun.result c.begin-begun.new.session.claim c.args.pass.now.log p.log) (sym c.seen.ensures.seen)
    (begun_now g.N.Life.opens g.N.Life.entries g.N.Life.session_entries (g.J.Entering.account c.args.journal.now) (g.J.Entering.account c.begin-begun.new.journal) c.args.session.now c.begin-begun.new.session c.args.pass.now.log c.requires.alone (ap (λ (p : PassSeen Entry). p.log) c.requires.seen) c.requires.none c.requires.agrees c.begin-begun.result c.begin-begun.ensures.entered c.begin-begun.ensures.number c.begin-begun.ensures.right))

pub returns-clause-ends : goal.returns-clause-ends
returns-clause-ends g c =
    subst (λ (p : PassSeen Entry). Ends g.N.Life.opens g.N.Life.log_faults g.N.Life.made (g.J.Entering.account c.args.journal.now) (g.J.Entering.account c.begin-begun.new.journal) p.log c.begin-begun.result) (sym c.seen.ensures.seen) c.begin-begun.ensures.ends

pub returns-clause-crowd : goal.returns-clause-crowd
returns-clause-crowd g c = subst (λ (p : PassSeen Entry). IfErr c.begin-begun.result (IsCrowd p.log)) (sym c.seen.ensures.seen) c.begin-begun.ensures.crowd

pub returns-clause-keeps : goal.returns-clause-keeps
returns-clause-keeps g c = c.begin-begun.ensures.entered.keeps
