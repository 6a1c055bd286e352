use Rattle.std.proofs.Common.{List, ◌++◌, ◌∷◌, [], Err, ap, arith, refl, ◌∙◌}
use Rattle.std.proofs.lemmas.Bool.Decides.{nat_tests}
use Rattle.page_ops.proofs.Gaining.{keeps_self}
use Rattle.store_life.proofs.Naming.{pushed_named, uncrowded}
use Rattle.store_life.specs.declared.life.Named.{Named}
use Rattle.store_life.proofs.life.StoreLife.begin.Goals as goal

pub returns-in-Err-begin_session-clause-room : goal.returns-in-Err-begin_session-clause-room
returns-in-Err-begin_session-clause-room g c = λ named few opening opens is.
    uncrowded opening c.args.self.now.pass.log c.begin_session.new.pass.log c.args.self.now.named.items c.in-Err-begin_session.fault (c.requires.runs.alone.consistent.legal opening opens) named few c.in-Err-begin_session.ensures.begun
    (c.in-Err-begin_session.ensures.crowd (let n = c.len.ensures in let same = c.reserve.ensures.len in grind (arith, nat_tests))) (Err c.in-Err-begin_session.fault) refl is

pub returns-clause-named : goal.returns-clause-named
returns-clause-named g c = λ named.
    let last : Named _ = record { name = c.args.name; session = c.in-Ok-begin_session.session } in
    let begun = c.in-Ok-begin_session.ensures.begun in
    pushed_named c.args.self.now.pass.log c.begin_session.new.pass.log c.args.self.now.named.items c.push.new.self.items last begun.1 begun.2 begun.3
    (c.in-Ok-push.ensures.items ∙ ap (λ (xs : List _). xs ++ last ∷ []) c.reserve.ensures.items) named

pub returns-in-Err-clause-keeps : goal.returns-in-Err-clause-keeps
returns-in-Err-clause-keeps g c = keeps_self (g.J.Entering.account c.args.journal.now)
