use Rattle.std.proofs.Common.{◌≡◌, ◌-◌, suc, refl, arith}
use Rattle.page_index.proofs.Places.{kept-rehomed}
use Rattle.page_index.proofs.index.PageIndex.give_right.Goals as goal

pub invariant_of-self : goal.invariant_of-self
invariant_of-self g c =
    let is : c.args.right.page ≡ suc (c.page.result - 1) = omega (arith, c.requires.page, c.page.ensures) in
    kept-rehomed _ _ _ _ is c.self.invariant refl
