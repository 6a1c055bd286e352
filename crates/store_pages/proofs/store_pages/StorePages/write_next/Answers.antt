use Rattle.std.proofs.Common.{Bool, List, ap, sym, ◌∙◌}
use Rattle.restart.specs.Plans.{awaits}
use Rattle.store_life.specs.SoFar.{actives}
use Rattle.store_pages.proofs.Written.{others_lacking, upto_named, writes_one}
use Rattle.store_pages.proofs.store_pages.StorePages.write_next.Goals as goal

pub returns-in-Ok-clause-one : goal.returns-in-Ok-clause-one
returns-in-Ok-clause-one g c = others_lacking c.args.self.now.pool.frames c.write_out.new.self.frames c.in-Some.page c.in-Ok.ensures.stored

pub returns-in-Ok-clause-awaits : goal.returns-in-Ok-clause-awaits
returns-in-Ok-clause-awaits g c = λ page is. ap (λ (p : List Bool). awaits p page) (sym c.write_out.ensures.others.3) ∙ is

pub returns-in-Ok-clause-writes : goal.returns-in-Ok-clause-writes
returns-in-Ok-clause-writes g c = writes_one g.N.Life.opens g.N.Life.entries g.N.Life.session_entries (g.J.Entering.account c.args.journal.now) (g.J.Entering.account c.write_out.new.journal) c.args.life.now.pass c.write_out.new.pass c.in-Some.page c.args.self.now.pool.frames c.write_out.new.self.frames c.write_out.result c.requires.runs.alone c.write_out.ensures.writes

pub returns-in-Ok-clause-named : goal.returns-in-Ok-clause-named
returns-in-Ok-clause-named g c = λ named. upto_named 1 c.args.life.now.pass.log c.write_out.new.pass.log (actives c.args.life.now.named.items) (writes_one g.N.Life.opens g.N.Life.entries g.N.Life.session_entries (g.J.Entering.account c.args.journal.now) (g.J.Entering.account c.write_out.new.journal) c.args.life.now.pass c.write_out.new.pass c.in-Some.page c.args.self.now.pool.frames c.write_out.new.self.frames c.write_out.result c.requires.runs.alone c.write_out.ensures.writes) named

pub returns-in-Err-clause-awaits : goal.returns-in-Err-clause-awaits
returns-in-Err-clause-awaits g c = λ page is. ap (λ (p : List Bool). awaits p page) (sym c.write_out.ensures.others.3) ∙ is

pub returns-in-Err-clause-writes : goal.returns-in-Err-clause-writes
returns-in-Err-clause-writes g c = writes_one g.N.Life.opens g.N.Life.entries g.N.Life.session_entries (g.J.Entering.account c.args.journal.now) (g.J.Entering.account c.write_out.new.journal) c.args.life.now.pass c.write_out.new.pass c.in-Some.page c.args.self.now.pool.frames c.write_out.new.self.frames c.write_out.result c.requires.runs.alone c.write_out.ensures.writes

pub returns-in-Err-clause-named : goal.returns-in-Err-clause-named
returns-in-Err-clause-named g c = λ named. upto_named 1 c.args.life.now.pass.log c.write_out.new.pass.log (actives c.args.life.now.named.items) (writes_one g.N.Life.opens g.N.Life.entries g.N.Life.session_entries (g.J.Entering.account c.args.journal.now) (g.J.Entering.account c.write_out.new.journal) c.args.life.now.pass c.write_out.new.pass c.in-Some.page c.args.self.now.pool.frames c.write_out.new.self.frames c.write_out.result c.requires.runs.alone c.write_out.ensures.writes) named
