use Rattle.std.proofs.Common.{◌∙◌, ◌∷◌, ◌++◌, [], false, refl, sym}
use Rattle.script.specs.declared.command.Command.TheVariants as commands
use Rattle.life_commands.specs.LogDisk.{IsWhole, seen}
use Rattle.life_commands.specs.Stores.{stores}
use Rattle.life_commands.specs.Turns.{stage}
use Rattle.life_commands.proofs.Lives.{tells_of}
use Rattle.runner.specs.Clause.{AtRest}
use Rattle.runner.specs.Vault.{WithVault}
use Rattle.runner.proofs.Fuses.{adds_armed}
use Rattle.store_log.proofs.Known.{known_behind}
use Rattle.runner.proofs.Places.{rests_out}
use Rattle.runner.proofs.Stores.{stores_after}
use Rattle.runner.proofs.Without.{did_rest}
use Rattle.runner.proofs.Runs.{asked_line, went, fell, all_written}
use Rattle.runner.proofs.living.stop_life.Goals as goal

pub returns-in-Ok-clause-turns : goal.returns-in-Ok-clause-turns
returns-in-Ok-clause-turns g c = λ v start kept left0 told0 reader turns left told st.
    let w = c.in-Ok.ensures.bytes in
    let s = stage start turns in
    let a = st.1 in
    let L = seen g.L.Disk v in
    let rests = a.before.holds in
    let B = stores g.D.PageDevice g.V.Vault in
    let fewer = stores_after g.D.PageDevice g.V.Vault (commands.Stop c.args.keep) c.args.pages c.fuse.new.self c.args.vault c.cycle_vault.new.vault (λ t. (c.fuse.ensures.same t).images) c.cycle_vault.ensures in
    let rest = did_rest g.L.Disk.tells L kept c.args.disk c.cycled-disk.result s rests.safe (known_behind g.L.Disk.tells g.L.Disk c.args.disk c.cycled-disk.result c.cycled-disk.ensures.left c.cycled-disk.ensures.durable) c.args.keep c.args.lines.items (λ t. c.cycled-disk.ensures.left (tells_of v t)) (λ t. c.cycled-disk.ensures.durable (tells_of v t)) c.cycled-disk.ensures.fuse st.0 B (c.args.pages, c.args.vault) (c.fuse.new.self, c.cycle_vault.new.vault) fewer told rests.stores in
    let armed = adds_armed (IsWhole v) (AtRest g.L.Disk.tells L B c.cycled-disk.result (c.fuse.new.self, c.cycle_vault.new.vault)) s (commands.Stop c.args.keep) c.args.lines.items s.armed.vault false refl refl rest in
    let t = went g.L.Disk.tells L B reader left a.before a.most (commands.Stop c.args.keep) (asked_line a) (WithVault false (AtRest g.L.Disk.tells L B c.cycled-disk.result (c.fuse.new.self, c.cycle_vault.new.vault))) c.args.lines.items armed _ (all_written _ _ c.args.lines.items w.0 w.1 (sym c.deref.ensures.value ∙ w.2) w.4 w.3) in
    (turns ++ t.0 ∷ [], t.1)

pub returns-clause-turns : goal.returns-clause-turns
returns-clause-turns g c = λ v start kept left0 told0 reader turns left told st.
    let w = c.in-Err.ensures.bytes in
    let s = stage start turns in
    let a = st.1 in
    let L = seen g.L.Disk v in
    let rests = a.before.holds in
    let B = stores g.D.PageDevice g.V.Vault in
    let fewer = stores_after g.D.PageDevice g.V.Vault (commands.Stop c.args.keep) c.args.pages c.fuse.new.self c.args.vault c.cycle_vault.new.vault (λ t. (c.fuse.ensures.same t).images) c.cycle_vault.ensures in
    let rest = did_rest g.L.Disk.tells L kept c.args.disk c.cycled-disk.result s rests.safe (known_behind g.L.Disk.tells g.L.Disk c.args.disk c.cycled-disk.result c.cycled-disk.ensures.left c.cycled-disk.ensures.durable) c.args.keep c.args.lines.items (λ t. c.cycled-disk.ensures.left (tells_of v t)) (λ t. c.cycled-disk.ensures.durable (tells_of v t)) c.cycled-disk.ensures.fuse st.0 B (c.args.pages, c.args.vault) (c.fuse.new.self, c.cycle_vault.new.vault) fewer told rests.stores in
    fell g.L.Disk.tells L B reader left a.before a.most (commands.Stop c.args.keep) (asked_line a) 0 c.cycled-disk.result (c.fuse.new.self, c.cycle_vault.new.vault) (AtRest g.L.Disk.tells L B c.cycled-disk.result (c.fuse.new.self, c.cycle_vault.new.vault))
    (λ s h. rests_out g.L.Disk.tells L B (c.fuse.new.self, c.cycle_vault.new.vault) c.cycled-disk.result s h) c.args.lines.items w.0 w.1 rest (sym c.deref.ensures.value ∙ w.2) _ w.3
