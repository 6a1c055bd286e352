use Rattle.std.proofs.Common.{refl, rules, subst, ◌≡◌, Some, Ok, Err}
use Rattle.command_laws.specs.Names.{Active, active_of}
use Rattle.engine.specs.Requests.{IsRefusal}
use Rattle.store_life.specs.Turns.{Asks, IsTold}
use Rattle.store_model.specs.declared.request.Request.{Request}
use Rattle.script.specs.declared.command.Command.TheVariants as commands
use Rattle.life_commands.proofs.Ends.{lacks_memory}
use Rattle.life_commands.proofs.Faults.{by_memory, if_err, if_ok, refused_more}
use Rattle.life_commands.proofs.Requests.{ask_declined, ask_ends, ask_lacks, ask_replies, ask_vault_lacks, ask_vaulted}
use Rattle.life_commands.proofs.asking.ask_open.Goals as goal

pub returns-then-before-ge-MOST_REFUSED-clause-err : goal.returns-then-before-ge-MOST_REFUSED-clause-err
returns-then-before-ge-MOST_REFUSED-clause-err g c = λ line. lacks_memory g.L.Disk g.N.Life.opens c.args.life.now c.args.life.now refl (commands.Ask c.args.name.now c.args.request.now) line

pub returns-in_err-failed-clause-err : goal.returns-in_err-failed-clause-err
returns-in_err-failed-clause-err g c = by_memory c.from_residual.result _ c.from_residual.ensures.1 (λ line. lacks_memory g.L.Disk g.N.Life.opens c.args.life.now c.args.life.now refl (commands.Ask c.args.name.now c.args.request.now) line)

pub returns-in_err-asked-clause-err : goal.returns-in_err-asked-clause-err
returns-in_err-asked-clause-err g c = by_memory c.from_residual-in_err-asked.result _ c.from_residual-in_err-asked.ensures.1 (λ line. lacks_memory g.L.Disk g.N.Life.opens c.args.life.now c.args.life.now refl (commands.Ask c.args.name.now c.args.request.now) line)

pub returns-in_err-request_lines-in-Ok-clause-err : goal.returns-in_err-request_lines-in-Ok-clause-err
returns-in_err-request_lines-in-Ok-clause-err g c =
    let x = c.args.life.now in
    let y = c.ask-answered.new.self in
    let asks = subst (λ (r : Request). (a : Active) → active_of x.active c.args.name.now ≡ Some a → Asks g.N.Life.opens a.session a.tx r (Ok c.in-Ok.answer) x.history y.history) c.in_ok-asked.ensures c.in-Ok.ensures.asks in
    let told = subst (λ (r : Request). (a : Active) → active_of x.active c.args.name.now ≡ Some a → IsTold g.N.Life.opens a.session a.tx r y.history c.in-Ok.answer) c.in_ok-asked.ensures c.in-Ok.ensures.told in
    by_memory c.from_residual-in_err-request_lines-in-Ok.result _ c.from_residual-in_err-request_lines-in-Ok.ensures.1
    (λ line. ask_lacks g.L.Disk g.N.Life.opens x y c.args.name.now c.requires.goes c.in-Ok.ensures.names c.look.ensures.right c.args.request.now c.requires.active c.in-Ok.answer asks told line)

pub returns-in_ok-request_lines-in-Ok-clause-ok : goal.returns-in_ok-request_lines-in-Ok-clause-ok
returns-in_ok-request_lines-in-Ok-clause-ok g c =
    let x = c.args.life.now in
    let y = c.ask-answered.new.self in
    let asks = subst (λ (r : Request). (a : Active) → active_of x.active c.args.name.now ≡ Some a → Asks g.N.Life.opens a.session a.tx r (Ok c.in-Ok.answer) x.history y.history) c.in_ok-asked.ensures c.in-Ok.ensures.asks in
    let told = subst (λ (r : Request). (a : Active) → active_of x.active c.args.name.now ≡ Some a → IsTold g.N.Life.opens a.session a.tx r y.history c.in-Ok.answer) c.in_ok-asked.ensures c.in-Ok.ensures.told in
    λ v s same h. ask_replies g.L.Disk g.N.Life.opens x y c.args.name.now c.requires.goes c.in-Ok.ensures.names c.look.ensures.right c.args.request.now c.requires.active c.in-Ok.answer asks told c.in-Ok.ensures.goes
    c.in_ok-request_lines-in-Ok.field-0.items c.in_ok-request_lines-in-Ok.ensures v s h

pub returns-in_ok-request_failed-in-Err-clause-ok : goal.returns-in_ok-request_failed-in-Err-clause-ok
returns-in_ok-request_failed-in-Err-clause-ok g c =
    let x = c.args.life.now in
    let y = c.ask-answered.new.self in
    let asks = subst (λ (r : Request). (a : Active) → active_of x.active c.args.name.now ≡ Some a → Asks g.N.Life.opens a.session a.tx r (Err c.in-Err.fault) x.history y.history) c.in_ok-asked.ensures c.in-Err.ensures.asks in
    let is = c.is_refused.ensures.0 c.if-is_refused.true in
    ask_vaulted g.L.Disk g.N.Life.opens x y c.args.name.now c.requires.goes c.in-Err.ensures.names c.look.ensures.right c.args.request.now c.requires.active
    c.in-Err.fault is.0 asks _ _ (IsRefusal c.in_ok-asked.asked) c.in-Err.ensures.refused c.args.armed is.1 c.in_ok-request_failed-in-Err.field-0.items c.in_ok-request_failed-in-Err.ensures

pub returns-in_err-request_failed-in-Err-clause-err : goal.returns-in_err-request_failed-in-Err-clause-err
returns-in_err-request_failed-in-Err-clause-err g c =
    let x = c.args.life.now in
    let y = c.ask-answered.new.self in
    let asks = subst (λ (r : Request). (a : Active) → active_of x.active c.args.name.now ≡ Some a → Asks g.N.Life.opens a.session a.tx r (Err c.in-Err.fault) x.history y.history) c.in_ok-asked.ensures c.in-Err.ensures.asks in
    let is = c.is_refused.ensures.0 c.if-is_refused.true in
    by_memory c.from_residual-in_err-request_failed-in-Err.result _ c.from_residual-in_err-request_failed-in-Err.ensures.1
    (ask_vault_lacks g.L.Disk g.N.Life.opens x y c.args.name.now c.requires.goes c.in-Err.ensures.names c.look.ensures.right c.args.request.now c.requires.active c.in-Err.fault is.0 asks)

pub returns-in-Err-2-clause-ok : goal.returns-in-Err-2-clause-ok
returns-in-Err-2-clause-ok g c =
    let x = c.args.life.now in
    let y = c.ask-answered.new.self in
    let asks = subst (λ (r : Request). (a : Active) → active_of x.active c.args.name.now ≡ Some a → Asks g.N.Life.opens a.session a.tx r (Err c.in-Err.fault) x.history y.history) c.in_ok-asked.ensures c.in-Err.ensures.asks in
    let more = refused_more x.calls.refused c.refused-before.result y.calls.refused c.refused-before.ensures (search rules) in
    if_ok c.refuse.result _ _ (λ out line v s same h. ask_declined g.L.Disk g.N.Life.opens x y c.args.name.now c.requires.goes c.in-Err.ensures.names c.look.ensures.right c.args.request.now c.requires.active
    _ _ (IsRefusal c.in_ok-asked.asked) c.in_ok-failed.failed.items c.in_ok-failed.ensures c.refused-before.result y.calls.refused more c.in-Err.fault asks c.in-Err.ensures.refused out.items line v s h) c.refuse.ensures.ok

pub returns-in-Err-2-clause-err : goal.returns-in-Err-2-clause-err
returns-in-Err-2-clause-err g c =
    let x = c.args.life.now in
    let y = c.ask-answered.new.self in
    let asks = subst (λ (r : Request). (a : Active) → active_of x.active c.args.name.now ≡ Some a → Asks g.N.Life.opens a.session a.tx r (Err c.in-Err.fault) x.history y.history) c.in_ok-asked.ensures c.in-Err.ensures.asks in
    let more = refused_more x.calls.refused c.refused-before.result y.calls.refused c.refused-before.ensures (search rules) in
    if_err c.refuse.result _ _ (λ status says line. ask_ends g.L.Disk g.N.Life.opens x y c.args.name.now c.requires.goes c.in-Err.ensures.names c.look.ensures.right c.args.request.now c.requires.active
    _ _ (IsRefusal c.in_ok-asked.asked) c.in_ok-failed.failed.items c.in_ok-failed.ensures c.refused-before.result y.calls.refused more c.in-Err.fault asks c.in-Err.ensures.refused status says line) c.refuse.ensures.err
