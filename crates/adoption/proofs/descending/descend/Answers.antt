use Rattle.std.proofs.lemmas.Result.{err_from_is_err_and}
use Rattle.adoption.specs.Descents.{Fails, GoesOn, LeavesTidy, keeps_up, known_by, standing}
use Rattle.adoption.proofs.ByFound.{if_fails, if_found, on_done}
use Rattle.adoption.proofs.Composing.{fails_then, fails_upheld, on_then, on_upheld}
use Rattle.adoption.proofs.TidyDescents.{leaves_behind}
use Rattle.adoption.proofs.descending.descend.Goals as goal

pub returns-in_err-renew-clause-fails : goal.returns-in_err-renew-clause-fails
returns-in_err-renew-clause-fails g c =
    let p = err_from_is_err_and c.from_residual.result c.from_residual.ensures.1 in
    rw (p.1, p.2) (fails_upheld g.N.Life.opens g.N.Life.entries g.N.Life.session_entries g.N.Life.log_faults g.N.Life.made (standing (g.P.Pages.desk c.args.pages.now) (g.J.Entering.account c.args.journal.now) c.args.pass.now) (standing (g.P.Pages.desk c.renew.new.self) (g.J.Entering.account c.renew.new.journal) c.renew.new.pass) _ c.renew.ensures.entered c.in_err-renew.ensures.refused c.renew.ensures.faults c.renew.ensures.out.0)

pub returns-then-not-is_within-clause-goes : goal.returns-then-not-is_within-clause-goes
returns-then-not-is_within-clause-goes g c = on_upheld g.N.Life.opens g.N.Life.entries g.N.Life.session_entries (standing (g.P.Pages.desk c.args.pages.now) (g.J.Entering.account c.args.journal.now) c.args.pass.now) (standing (g.P.Pages.desk c.renew.new.self) (g.J.Entering.account c.renew.new.journal) c.renew.new.pass) c.renew.ensures.entered c.in_ok-renew.ensures.open c.renew.ensures.faults

pub returns-clause-tidy : goal.returns-clause-tidy
returns-clause-tidy g c =
    if_found (λ held. LeavesTidy g.N.Life.opens g.N.Life.entries (known_by (standing (g.P.Pages.desk c.begin.new.pages) (g.J.Entering.account c.begin.new.journal) c.begin.new.pass)) c.go_down.new.pass.log c.args.key.now) (λ held. LeavesTidy g.N.Life.opens g.N.Life.entries (known_by (standing (g.P.Pages.desk c.args.pages.now) (g.J.Entering.account c.args.journal.now) c.args.pass.now)) c.go_down.new.pass.log c.args.key.now) c.go_down.result
    (λ held leaves. leaves_behind g.N.Life.opens g.N.Life.entries keeps_up (known_by (standing (g.P.Pages.desk c.args.pages.now) (g.J.Entering.account c.args.journal.now) c.args.pass.now)) (known_by (standing (g.P.Pages.desk c.begin.new.pages) (g.J.Entering.account c.begin.new.journal) c.begin.new.pass)) c.go_down.new.pass.log c.args.key.now c.in_ok-root.ensures.goes.goes leaves) c.go_down.ensures.tidy

pub returns-clause-goes : goal.returns-clause-goes
returns-clause-goes g c = on_done (GoesOn (standing (g.P.Pages.desk c.begin.new.pages) (g.J.Entering.account c.begin.new.journal) c.begin.new.pass) (standing (g.P.Pages.desk c.go_down.new.pages) (g.J.Entering.account c.go_down.new.journal) c.go_down.new.pass)) (GoesOn (standing (g.P.Pages.desk c.args.pages.now) (g.J.Entering.account c.args.journal.now) c.args.pass.now) (standing (g.P.Pages.desk c.go_down.new.pages) (g.J.Entering.account c.go_down.new.journal) c.go_down.new.pass)) c.go_down.result (λ on. on_then (standing (g.P.Pages.desk c.args.pages.now) (g.J.Entering.account c.args.journal.now) c.args.pass.now) (standing (g.P.Pages.desk c.begin.new.pages) (g.J.Entering.account c.begin.new.journal) c.begin.new.pass) (standing (g.P.Pages.desk c.go_down.new.pages) (g.J.Entering.account c.go_down.new.journal) c.go_down.new.pass) c.in_ok-root.ensures.goes on) c.go_down.ensures.goes

pub returns-clause-fails : goal.returns-clause-fails
returns-clause-fails g c =
    if_fails (Fails g.N.Life.opens g.N.Life.entries g.N.Life.session_entries g.N.Life.log_faults g.N.Life.made (standing (g.P.Pages.desk c.begin.new.pages) (g.J.Entering.account c.begin.new.journal) c.begin.new.pass) (standing (g.P.Pages.desk c.go_down.new.pages) (g.J.Entering.account c.go_down.new.journal) c.go_down.new.pass)) (Fails g.N.Life.opens g.N.Life.entries g.N.Life.session_entries g.N.Life.log_faults g.N.Life.made (standing (g.P.Pages.desk c.args.pages.now) (g.J.Entering.account c.args.journal.now) c.args.pass.now) (standing (g.P.Pages.desk c.go_down.new.pages) (g.J.Entering.account c.go_down.new.journal) c.go_down.new.pass)) c.go_down.result (λ fault why. fails_then g.N.Life.opens g.N.Life.entries g.N.Life.session_entries g.N.Life.log_faults g.N.Life.made (standing (g.P.Pages.desk c.args.pages.now) (g.J.Entering.account c.args.journal.now) c.args.pass.now) (standing (g.P.Pages.desk c.begin.new.pages) (g.J.Entering.account c.begin.new.journal) c.begin.new.pass) (standing (g.P.Pages.desk c.go_down.new.pages) (g.J.Entering.account c.go_down.new.journal) c.go_down.new.pass) fault c.in_ok-root.ensures.goes why) c.go_down.ensures.fails
