use Rattle.std.proofs.Common.{◌∙◌, ◌∷◌, ◌++◌, [], sym}
use Rattle.script.specs.declared.command.Command.TheVariants as commands
use Rattle.life_commands.specs.LogDisk.{seen}
use Rattle.life_commands.specs.Stores.{stores}
use Rattle.runner.specs.Clause.{AtRest}
use Rattle.runner.specs.Vault.{WithVault}
use Rattle.runner.proofs.Places.{rests_out}
use Rattle.runner.proofs.Runs.{asked_line, went, fell, all_written}
use Rattle.runner.proofs.living.end_life.Goals as goal

pub returns-in-Ok-clause-turns : goal.returns-in-Ok-clause-turns
returns-in-Ok-clause-turns g c = λ v start armed left0 told0 reader turns left closing.
    let w = c.in-Ok.ensures.bytes in
    let a = closing.1 in
    let L = seen g.L.Disk v in
    let B = stores g.D.PageDevice g.V.Vault in
    let t = went g.L.Disk.tells L B reader left a.before a.most commands.Close (asked_line a) (WithVault armed (AtRest g.L.Disk.tells L B c.args.disk (c.args.pages, c.args.vault))) c.args.lines.items closing.0 _ (all_written _ _ c.args.lines.items w.0 w.1 (sym c.deref.ensures.value ∙ w.2) w.4 w.3) in
    (turns ++ t.0 ∷ [], t.1)

pub returns-clause-turns : goal.returns-clause-turns
returns-clause-turns g c = λ v start armed left0 told0 reader turns left closing.
    let w = c.in-Err.ensures.bytes in
    let a = closing.1 in
    let L = seen g.L.Disk v in
    let B = stores g.D.PageDevice g.V.Vault in
    fell g.L.Disk.tells L B reader left a.before a.most commands.Close (asked_line a) 0 c.args.disk (c.args.pages, c.args.vault) (WithVault armed (AtRest g.L.Disk.tells L B c.args.disk (c.args.pages, c.args.vault)))
    (λ s h. rests_out g.L.Disk.tells L B (c.args.pages, c.args.vault) c.args.disk s h.here) c.args.lines.items w.0 w.1 closing.0 (sym c.deref.ensures.value ∙ w.2) _ w.3
