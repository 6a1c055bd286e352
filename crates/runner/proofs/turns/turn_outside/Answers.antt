use Rattle.std.proofs.Common.{◌≡◌, ◌∙◌, ℕ, [], Option, None, Some, sym, subst}
use Rattle.life_commands.specs.Living.{Out}
use Rattle.life_commands.specs.LogDisk.{IsWhole, seen}
use Rattle.life_commands.specs.Stores.{stores}
use Rattle.life_commands.specs.Turns.{Life, stage}
use Rattle.life_commands.specs.declared.status.Status.TheVariants as statuses
use Rattle.runner.specs.Causes.{disk_at}
use Rattle.runner.specs.Clause.{HandsBack, Headline, TakesText}
use Rattle.runner.specs.Devices.{Stored}
use Rattle.runner.specs.Vault.{WithVault}
use Rattle.runner.proofs.Fuses.{adds_armed}
use Rattle.store_log.specs.Beginnings.{Beginning}
use Rattle.runner.specs.Machine.{Begun, IsAt, no_opening}
use Rattle.runner.proofs.Stores.{adds_stores, cut_outside, first_stores, no_more, still_stores, stores_after}
use Rattle.runner.proofs.Places.{rests_at, rests_out, safe_out}
use Rattle.std.specs.Global.{Vec}
use Rattle.runner.proofs.Runs.{took, texts, no_line, no_command, at_end, refused, went, fell, all_written}
use Rattle.runner.proofs.turns.turn_outside.Goals as goal

pub returns-in-Err-clause-turns : goal.returns-in-Err-clause-turns
returns-in-Err-clause-turns g c = λ v start left told turns b.
    no_line g.L.Disk.tells (seen g.L.Disk v) (stores g.D.PageDevice g.V.Vault) c.next_text.new.input _ b c.next_text.ensures.most 0 c.args.disk (c.args.pages.now, c.args.vault.now) (rests_out g.L.Disk.tells (seen g.L.Disk v) (stores g.D.PageDevice g.V.Vault) (c.args.pages.now, c.args.vault.now) c.args.disk (stage start turns) b.holds.here) c.in-Err.status _ _ c.in-Err.ensures.none c.in-Err.ensures.cause

pub returns-in-Ok-None-clause-turns : goal.returns-in-Ok-None-clause-turns
returns-in-Ok-None-clause-turns g c = λ v start left told turns b.
    at_end g.L.Disk.tells (seen g.L.Disk v) (stores g.D.PageDevice g.V.Vault) c.next_text.new.input _ b c.next_text.ensures.most 0 c.args.disk (c.args.pages.now, c.args.vault.now) (rests_out g.L.Disk.tells (seen g.L.Disk v) (stores g.D.PageDevice g.V.Vault) (c.args.pages.now, c.args.vault.now) c.args.disk (stage start turns) b.holds.here)
    (subst (λ (o : Option (Vec ℕ × ℕ)). TakesText c.args.input.now c.next_text.new.input (g.S.Source.left c.args.source.now) (g.S.Source.left c.next_text.new.source) (texts o)) c.in-Ok-None.field-0-is c.in-Ok-None.ensures.text)

pub returns-in-Err-command_in-clause-turns : goal.returns-in-Err-command_in-clause-turns
returns-in-Err-command_in-clause-turns g c = λ v start left told turns b.
    no_command g.L.Disk.tells (seen g.L.Disk v) (stores g.D.PageDevice g.V.Vault) c.next_text.new.input _ b c.next_text.ensures.most 0 c.args.disk (c.args.pages.now, c.args.vault.now) (rests_out g.L.Disk.tells (seen g.L.Disk v) (stores g.D.PageDevice g.V.Vault) (c.args.pages.now, c.args.vault.now) c.args.disk (stage start turns) b.holds.here)
    _ c.in-Ok-Some.next _ c.command_of-read.result c.in-Err-command_in.status c.in-Ok-Some.field-0-is c.in-Ok-Some.ensures.text c.deref.ensures.value c.command_of-read.ensures c.in-Err-command_in.ensures.none

pub returns-in-Ok-write_all-clause-turns : goal.returns-in-Ok-write_all-clause-turns
returns-in-Ok-write_all-clause-turns g c = λ v start left told turns b.
    let t = took c.args.input.now c.next_text.new.input (g.S.Source.left c.args.source.now) (g.S.Source.left c.next_text.new.source) _ c.in-Ok-Some.next _ c.command_of-read.result c.in-Ok.command.now c.in-Ok-Some.field-0-is c.in-Ok-Some.ensures.text c.deref.ensures.value c.command_of-read.ensures c.in-Ok.ensures.some in
    let w = c.in-Ok-write_all.ensures.bytes in
    let L = seen g.L.Disk v in
    let here = b.holds.here in
    let B = stores g.D.PageDevice g.V.Vault in
    let H = IsAt g.L.Disk.tells L (Begun g.L.Disk.tells L) c.in-Goes.at in
    let new : g.row.D.Denot × g.row.V.Denot = (c.step.new.pages, c.cycle.new.vault) in
    let fewer = stores_after g.D.PageDevice g.V.Vault c.in-Ok.command.now c.args.pages.now c.step.new.pages c.args.vault.now c.cycle.new.vault c.in-Goes.ensures.images c.cycle.ensures in
    let added = adds_stores B (c.args.pages.now, c.args.vault.now) new (first_stores g.D.PageDevice g.V.Vault (c.args.pages.now, c.args.vault.now)) fewer (IsWhole v) here.told (Out g.L.Disk.tells L c.args.disk) H (stage start turns) c.in-Ok.command.now c.in-Goes.lines.items here.here.life here (c.in-Goes.ensures.turns v (stage start turns) here.here) in
    went g.L.Disk.tells L B c.next_text.new.input _ b c.next_text.ensures.most c.in-Ok.command.now t.line (WithVault c.armed_after.result (Stored (IsWhole v) B new H)) c.in-Goes.lines.items
    (adds_armed (IsWhole v) (Stored (IsWhole v) B new H) (stage start turns) c.in-Ok.command.now c.in-Goes.lines.items c.args.armed.now c.armed_after.result b.holds.vault c.armed_after.ensures added) _ (all_written _ _ c.in-Goes.lines.items w.0 w.1 (sym c.deref-in-Goes.ensures.value ∙ w.2) w.4 w.3)

pub returns-in-Goes-clause-turns : goal.returns-in-Goes-clause-turns
returns-in-Goes-clause-turns g c = λ v start left told turns b.
    let t = took c.args.input.now c.next_text.new.input (g.S.Source.left c.args.source.now) (g.S.Source.left c.next_text.new.source) _ c.in-Ok-Some.next _ c.command_of-read.result c.in-Ok.command.now c.in-Ok-Some.field-0-is c.in-Ok-Some.ensures.text c.deref.ensures.value c.command_of-read.ensures c.in-Ok.ensures.some in
    let w = c.in-Err-write_all.ensures.bytes in
    let L = seen g.L.Disk v in
    let here = b.holds.here in
    let B = stores g.D.PageDevice g.V.Vault in
    let H = IsAt g.L.Disk.tells L (Begun g.L.Disk.tells L) c.in-Goes.at in
    let device = λ (o : Beginning g.row.L.Denot). o.log.log.device in
    let new : g.row.D.Denot × g.row.V.Denot = (c.step.new.pages, c.cycle.new.vault) in
    let fewer = stores_after g.D.PageDevice g.V.Vault c.in-Ok.command.now c.args.pages.now c.step.new.pages c.args.vault.now c.cycle.new.vault c.in-Goes.ensures.images c.cycle.ensures in
    let added = adds_stores B (c.args.pages.now, c.args.vault.now) new (first_stores g.D.PageDevice g.V.Vault (c.args.pages.now, c.args.vault.now)) fewer (IsWhole v) here.told (Out g.L.Disk.tells L c.args.disk) H (stage start turns) c.in-Ok.command.now c.in-Goes.lines.items here.here.life here (c.in-Goes.ensures.turns v (stage start turns) here.here) in
    subst (λ (d : g.row.L.Denot). Headline (IsWhole v) start (HandsBack g.L.Disk.tells L B d new) left c.next_text.new.input.pending (g.S.Source.left c.next_text.new.source) told (g.K.Sink.told c.write_all.new.sink) statuses.SinkFault) (sym c.disk_opened.ensures)
    (fell g.L.Disk.tells L B c.next_text.new.input _ b c.next_text.ensures.most c.in-Ok.command.now t.line 0 (disk_at device c.in-Goes.at) new (Stored (IsWhole v) B new H)
    (λ s h. rests_at g.L.Disk.tells L B new c.in-Goes.at s h) c.in-Goes.lines.items w.0 w.1 added (sym c.deref-in-Goes.ensures.value ∙ w.2) _ w.3)

pub returns-clause-turns : goal.returns-clause-turns
returns-clause-turns g c = λ v start left told turns b.
    let t = took c.args.input.now c.next_text.new.input (g.S.Source.left c.args.source.now) (g.S.Source.left c.next_text.new.source) _ c.in-Ok-Some.next _ c.command_of-read.result c.in-Ok.command.now c.in-Ok-Some.field-0-is c.in-Ok-Some.ensures.text c.deref.ensures.value c.command_of-read.ensures c.in-Ok.ensures.some in
    let s = stage start turns in
    let L = seen g.L.Disk v in
    let here = b.holds.here in
    let out = here.here in
    let safe = safe_out L g.L.Disk.tells 0 c.args.disk s out in
    let why = c.in-Ends.ensures.turns v s out in
    let H = Out g.L.Disk.tells L c.args.disk in
    let B = stores g.D.PageDevice g.V.Vault in
    let old : g.row.D.Denot × g.row.V.Denot = (c.args.pages.now, c.args.vault.now) in
    let new : g.row.D.Denot × g.row.V.Denot = (c.step.new.pages, c.args.vault.now) in
    let fewer = no_more g.D.PageDevice g.V.Vault c.args.pages.now c.step.new.pages c.args.vault.now c.in-Ends.ensures.images in
    let first = first_stores g.D.PageDevice g.V.Vault old in
    refused g.L.Disk.tells L B c.next_text.new.input _ b c.next_text.ensures.most c.in-Ok.command.now t.line 0 c.in-Ends.disk new no_opening []
    (λ left. still_stores B old new first fewer (IsWhole v) here.told H s 0 out.life here)
    (λ es fits left. cut_outside B old new first fewer (IsWhole v) here.told H s c.in-Ok.command.now 0 out.life here es fits)
    (λ l u m is there left. let none : ◌≡◌ {A = Option Life} None (Some l) = sym out.life ∙ is in absurd cc)
    safe.right safe.goes c.in-Ok-Some.next.1 c.in-Ends.status t.number t.built why.0 why.1
