use Rattle.std.proofs.Common.{ap, arith, sym, ◌∙◌}
use Rattle.own_life.specs.State.{LifeState, name_by}
use Rattle.own_life.proofs.Numbered.{found, unknown, within}
use Rattle.own_life.proofs.life.OwnLife.name_of.Goals as goal

pub index-named-requires : goal.index-named-requires
index-named-requires g c =
    let low = within c.args.tx c.self.inside.life.named.items c.in-Some.place (sym c.place_of.ensures ∙ c.in-Some.is) in
    let fits = c.self.inside.life.named.ok in
    omega (arith, low, fits)

pub returns-in-Some : goal.returns-in-Some
returns-in-Some g c =
    sym (found c.args.tx c.self.inside.life.named.items c.in-Some.place c.index-named.result.now (sym c.place_of.ensures ∙ c.in-Some.is) c.index-named.ensures) ∙ ap (λ (s : LifeState). name_by c.args.tx s.active) c.self.view_is

pub returns-in-None : goal.returns-in-None
returns-in-None g c = sym (unknown c.args.tx c.self.inside.life.named.items (sym c.place_of.ensures ∙ c.in-None.is)) ∙ ap (λ (s : LifeState). name_by c.args.tx s.active) c.self.view_is
