use Rattle.std.proofs.Common.{ℕ, Option, subst, sym}
use Rattle.page_judge.specs.Images.{AreImagesOf, IsChange, IsChanged, state_in}
use Rattle.page_judge.proofs.Making.{changed_of}
use Rattle.page_judge.proofs.images.PageImages.changed.Goals as goal

pub returns : goal.returns
unfolding AreImagesOf
returns g c = λ log k. subst (IsChanged log c.args.entered.now) (sym c.both.ensures)
    (changed_of log c.args.entered.now (state_in c.args.self.now.places) k c.in_ok-first.first c.in_ok-second.second
    (subst (λ (p : Option ℕ). IsChange (state_in c.args.self.now.places) c.args.entered.now p c.in_ok-first.first) c.first_page.ensures c.in_ok-first.ensures)
    (subst (λ (p : Option ℕ). IsChange (state_in c.args.self.now.places) c.args.entered.now p c.in_ok-second.second) c.second_page.ensures c.in_ok-second.ensures))
