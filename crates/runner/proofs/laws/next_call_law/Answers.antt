use Rattle.life_commands.specs.Stores.{stores}
use Rattle.life_commands.specs.Turns.{stage}
use Rattle.runner.proofs.NextCalls.{hands_on}
use Rattle.runner.proofs.laws.next_call_law.Goals as goal

pub returns : goal.returns
returns g c = λ start disk device vault left0 pending left told0 told status call t.
    let back = call.back in
    hands_on g.L.Disk (stores g.D.PageDevice g.V.Vault) (stage start call.turns) back.kept disk (device, vault) (back.leaves t) (back.stores t)
