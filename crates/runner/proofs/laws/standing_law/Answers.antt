use Rattle.life_commands.specs.Stores.{stores}
use Rattle.runner.proofs.Fused.{stands_at}
use Rattle.runner.proofs.Stores.{found_of}
use Rattle.runner.proofs.laws.standing_law.Goals as goal

pub returns : goal.returns
returns g c = λ disk device vault log stands all. (stands_at g.L.Disk disk log stands, found_of ((stores g.D.PageDevice g.V.Vault).are_of (device, vault)) log all)
