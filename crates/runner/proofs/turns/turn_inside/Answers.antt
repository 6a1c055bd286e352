use Rattle.std.proofs.Common.{◌∙◌, ℕ, Option, refl, sym, subst}
use Rattle.script.specs.declared.command.Command.{Command}
use Rattle.script.specs.declared.command.Command.TheVariants as commands
use Rattle.life_commands.specs.Turns.{stage}
use Rattle.life_commands.specs.LogDisk.{IsWhole, seen}
use Rattle.life_commands.specs.Living.{Within}
use Rattle.life_commands.specs.Stores.{stores}
use Rattle.life_commands.proofs.Lives.{known_in}
use Rattle.runner.specs.Clause.{AtRest, TakesText}
use Rattle.runner.specs.Vault.{WithVault}
use Rattle.runner.proofs.Fuses.{adds_armed}
use Rattle.life_commands.specs.Refusals.{RefusesAt}
use Rattle.runner.proofs.Insides.{closed_in, cut_inside, rests_in, right_in, still_inside, turned_inside}
use Rattle.std.specs.Global.{Vec}
use Rattle.runner.proofs.Runs.{took, texts, no_line, no_command, at_end, refused, went, fell, stops, closes, lacks_memory, all_written}
use Rattle.runner.proofs.turns.turn_inside.Goals as goal

pub returns-in-Err-clause-turns : goal.returns-in-Err-clause-turns
returns-in-Err-clause-turns g c = λ v start left told turns b kept disk beside d.
    no_line g.L.Disk.tells (seen g.L.Disk v) (stores g.D.PageDevice g.V.Vault) c.next_text.new.input _ b c.next_text.ensures.most kept disk beside (rests_in g.L.Disk g.D.PageDevice g.V.Vault v c.requires.told b.holds.here kept disk beside d) c.in-Err.status _ _ c.in-Err.ensures.none c.in-Err.ensures.cause

pub returns-in-Ok-None-clause-turns : goal.returns-in-Ok-None-clause-turns
returns-in-Ok-None-clause-turns g c = λ v start left told turns b kept disk beside d.
    at_end g.L.Disk.tells (seen g.L.Disk v) (stores g.D.PageDevice g.V.Vault) c.next_text.new.input _ b c.next_text.ensures.most kept disk beside (rests_in g.L.Disk g.D.PageDevice g.V.Vault v c.requires.told b.holds.here kept disk beside d)
    (subst (λ (o : Option (Vec ℕ × ℕ)). TakesText c.args.input.now c.next_text.new.input (g.S.Source.left c.args.source.now) (g.S.Source.left c.next_text.new.source) (texts o)) c.in-Ok-None.field-0-is c.in-Ok-None.ensures.text)

pub returns-in-Err-command_in-clause-turns : goal.returns-in-Err-command_in-clause-turns
returns-in-Err-command_in-clause-turns g c = λ v start left told turns b kept disk beside d.
    no_command g.L.Disk.tells (seen g.L.Disk v) (stores g.D.PageDevice g.V.Vault) c.next_text.new.input _ b c.next_text.ensures.most kept disk beside (rests_in g.L.Disk g.D.PageDevice g.V.Vault v c.requires.told b.holds.here kept disk beside d)
    _ c.in-Ok-Some.next _ c.command_of-read.result c.in-Err-command_in.status c.in-Ok-Some.field-0-is c.in-Ok-Some.ensures.text c.deref.ensures.value c.command_of-read.ensures c.in-Err-command_in.ensures.none

pub returns-in-Ok-stop_line-clause-turns : goal.returns-in-Ok-stop_line-clause-turns
returns-in-Ok-stop_line-clause-turns g c = λ v start left told turns b kept disk beside d.
    let t = took c.args.input.now c.next_text.new.input (g.S.Source.left c.args.source.now) (g.S.Source.left c.next_text.new.source) _ c.in-Ok-Some.next _ c.command_of-read.result c.in-Ok.command.now c.in-Ok-Some.field-0-is c.in-Ok-Some.ensures.text c.deref.ensures.value c.command_of-read.ensures c.in-Ok.ensures.some in
    stops g.L.Disk.tells (seen g.L.Disk v) (stores g.D.PageDevice g.V.Vault) c.next_text.new.input _ b c.next_text.ensures.most c.in-Ok.command.now t.line kept disk beside (rests_in g.L.Disk g.D.PageDevice g.V.Vault v c.requires.told b.holds.here kept disk beside d) c.in-Stop.keep c.in-Ok-stop_line.lines.items c.in-Stop.is c.in-Ok-stop_line.ensures

pub returns-in-Stop-clause-turns : goal.returns-in-Stop-clause-turns
returns-in-Stop-clause-turns g c = λ v start left told turns b kept disk beside d.
    let t = took c.args.input.now c.next_text.new.input (g.S.Source.left c.args.source.now) (g.S.Source.left c.next_text.new.source) _ c.in-Ok-Some.next _ c.command_of-read.result c.in-Ok.command.now c.in-Ok-Some.field-0-is c.in-Ok-Some.ensures.text c.deref.ensures.value c.command_of-read.ensures c.in-Ok.ensures.some in
    lacks_memory g.L.Disk.tells (seen g.L.Disk v) (stores g.D.PageDevice g.V.Vault) c.next_text.new.input _ b c.next_text.ensures.most c.in-Ok.command.now t.line kept disk beside (rests_in g.L.Disk g.D.PageDevice g.V.Vault v c.requires.told b.holds.here kept disk beside d)

pub returns-in-Ok-close-clause-turns : goal.returns-in-Ok-close-clause-turns
returns-in-Ok-close-clause-turns g c = λ v start left told turns b kept disk beside d.
    let t = took c.args.input.now c.next_text.new.input (g.S.Source.left c.args.source.now) (g.S.Source.left c.next_text.new.source) _ c.in-Ok-Some.next _ c.command_of-read.result c.in-Ok.command.now c.in-Ok-Some.field-0-is c.in-Ok-Some.ensures.text c.deref.ensures.value c.command_of-read.ensures c.in-Ok.ensures.some in
    closes g.L.Disk.tells (seen g.L.Disk v) (stores g.D.PageDevice g.V.Vault) c.next_text.new.input _ b c.next_text.ensures.most c.in-Ok.command.now t.line disk beside c.args.armed.now c.in-Ok-close.lines.items c.in-Close.is
    (adds_armed (IsWhole v) (AtRest g.L.Disk.tells (seen g.L.Disk v) (stores g.D.PageDevice g.V.Vault) disk beside) (stage start turns) commands.Close c.in-Ok-close.lines.items c.args.armed.now c.args.armed.now b.holds.vault refl (closed_in g.L.Disk g.D.PageDevice g.V.Vault v c.requires.told b.holds.here kept disk beside d c.in-Ok-close.lines.items (c.in-Ok-close.ensures.ok v (stage start turns) b.holds.here kept disk beside d.durable d.log d.stores)))

pub returns-in-Close-clause-turns : goal.returns-in-Close-clause-turns
returns-in-Close-clause-turns g c = λ v start left told turns b kept disk beside d.
    let t = took c.args.input.now c.next_text.new.input (g.S.Source.left c.args.source.now) (g.S.Source.left c.next_text.new.source) _ c.in-Ok-Some.next _ c.command_of-read.result c.in-Ok.command.now c.in-Ok-Some.field-0-is c.in-Ok-Some.ensures.text c.deref.ensures.value c.command_of-read.ensures c.in-Ok.ensures.some in
    let s = stage start turns in
    let here = b.holds.here in
    refused g.L.Disk.tells (seen g.L.Disk v) (stores g.D.PageDevice g.V.Vault) c.next_text.new.input _ b c.next_text.ensures.most c.in-Ok.command.now t.line kept disk beside g.N.Life.opens c.close.new.life.history
    (still_inside g.L.Disk g.D.PageDevice g.V.Vault v c.requires.told here kept disk beside d)
    (cut_inside g.L.Disk g.D.PageDevice g.V.Vault v c.requires.told here kept disk beside d c.in-Ok.command.now)
    (turned_inside g.L.Disk g.D.PageDevice g.V.Vault v c.requires.told here kept disk beside d)
    (right_in (seen g.L.Disk v) here) here.goes c.in-Ok-Some.next.1 c.in-Err-close.status t.number t.built
    (subst (λ (x : Command). RefusesAt (seen g.L.Disk v) kept disk g.N.Life.opens c.close.new.life.history s x c.in-Ok-Some.next.1 c.in-Err-close.status) (sym c.in-Close.is) (c.in-Err-close.ensures.err v s here kept disk d.log))
    (known_in (seen g.L.Disk v) g.L.Disk.tells g.N.Life.opens c.args.life.now s here disk)

pub returns-in-Ok-write_all-clause-turns : goal.returns-in-Ok-write_all-clause-turns
returns-in-Ok-write_all-clause-turns g c = λ v start left told turns b.
    let t = took c.args.input.now c.next_text.new.input (g.S.Source.left c.args.source.now) (g.S.Source.left c.next_text.new.source) _ c.in-Ok-Some.next _ c.command_of-read.result c.in-Ok.command.now c.in-Ok-Some.field-0-is c.in-Ok-Some.ensures.text c.deref.ensures.value c.command_of-read.ensures c.in-Ok.ensures.some in
    let w = c.in-Ok-write_all.ensures.bytes in
    went g.L.Disk.tells (seen g.L.Disk v) (stores g.D.PageDevice g.V.Vault) c.next_text.new.input _ b c.next_text.ensures.most c.in-Ok.command.now t.line (WithVault c.armed_after.result (Within (seen g.L.Disk v) g.N.Life.opens c.step.new.life)) c.in-Ok-step.lines.items
    (adds_armed (IsWhole v) (Within (seen g.L.Disk v) g.N.Life.opens c.step.new.life) (stage start turns) c.in-Ok.command.now c.in-Ok-step.lines.items c.args.armed.now c.armed_after.result b.holds.vault c.armed_after.ensures
    (c.in-Ok-step.ensures.ok v (stage start turns) b.holds.vault b.holds.here)) _ (all_written _ _ c.in-Ok-step.lines.items w.0 w.1 (sym c.deref-in-Ok-step.ensures.value ∙ w.2) w.4 w.3)

pub returns-in-Ok-step-clause-turns : goal.returns-in-Ok-step-clause-turns
returns-in-Ok-step-clause-turns g c = λ v start left told turns b kept disk beside d.
    let t = took c.args.input.now c.next_text.new.input (g.S.Source.left c.args.source.now) (g.S.Source.left c.next_text.new.source) _ c.in-Ok-Some.next _ c.command_of-read.result c.in-Ok.command.now c.in-Ok-Some.field-0-is c.in-Ok-Some.ensures.text c.deref.ensures.value c.command_of-read.ensures c.in-Ok.ensures.some in
    let w = c.in-Err-write_all.ensures.bytes in
    fell g.L.Disk.tells (seen g.L.Disk v) (stores g.D.PageDevice g.V.Vault) c.next_text.new.input _ b c.next_text.ensures.most c.in-Ok.command.now t.line kept disk beside (Within (seen g.L.Disk v) g.N.Life.opens c.step.new.life) (λ s h. rests_in g.L.Disk g.D.PageDevice g.V.Vault v c.requires.told h kept disk beside d) c.in-Ok-step.lines.items w.0 w.1
    (c.in-Ok-step.ensures.ok v (stage start turns) b.holds.vault b.holds.here) (sym c.deref-in-Ok-step.ensures.value ∙ w.2) _ w.3

pub returns-clause-turns : goal.returns-clause-turns
returns-clause-turns g c = λ v start left told turns b kept disk beside d.
    let t = took c.args.input.now c.next_text.new.input (g.S.Source.left c.args.source.now) (g.S.Source.left c.next_text.new.source) _ c.in-Ok-Some.next _ c.command_of-read.result c.in-Ok.command.now c.in-Ok-Some.field-0-is c.in-Ok-Some.ensures.text c.deref.ensures.value c.command_of-read.ensures c.in-Ok.ensures.some in
    let s = stage start turns in
    let here = b.holds.here in
    refused g.L.Disk.tells (seen g.L.Disk v) (stores g.D.PageDevice g.V.Vault) c.next_text.new.input _ b c.next_text.ensures.most c.in-Ok.command.now t.line kept disk beside g.N.Life.opens c.step.new.life.history
    (still_inside g.L.Disk g.D.PageDevice g.V.Vault v c.requires.told here kept disk beside d)
    (cut_inside g.L.Disk g.D.PageDevice g.V.Vault v c.requires.told here kept disk beside d c.in-Ok.command.now)
    (turned_inside g.L.Disk g.D.PageDevice g.V.Vault v c.requires.told here kept disk beside d)
    (right_in (seen g.L.Disk v) here) here.goes c.in-Ok-Some.next.1 c.in-Err-step.status t.number t.built (c.in-Err-step.ensures.err v s here kept disk d.log)
    (known_in (seen g.L.Disk v) g.L.Disk.tells g.N.Life.opens c.args.life.now s here disk)
