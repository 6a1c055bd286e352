use Rattle.std.proofs.Common.{Option, ap, sym, ◌∙◌}
use Rattle.std.specs.Prelude.{is_some}
use Rattle.command_laws.specs.Names.{Active}
use Rattle.command_laws.proofs.Names.{known, unknown}
use Rattle.store_life.specs.SoFar.{active_by}
use Rattle.store_life.proofs.life.StoreLife.is_active.Goals as goal

pub returns-in-Some : goal.returns-in-Some
returns-in-Some g c = sym (known active_by c.args.name.now c.args.self.now.named.items _ (sym c.place.ensures ∙ c.in-Some.is))

pub returns-in-None : goal.returns-in-None
returns-in-None g c = sym (ap (λ (o : Option Active). is_some o) (unknown active_by c.args.name.now c.args.self.now.named.items (sym c.place.ensures ∙ c.in-None.is)))
