use Rattle.std.proofs.Common.{◌≡◌, ◌<◌, length, Option, None, sym, ◌∙◌, subst}
use Rattle.std.specs.Prelude.{IfSome}
use Rattle.page_index.specs.Index.{Index, limit_of}
use Rattle.books.specs.Rights.{PageClaim}
use Rattle.page_index.proofs.Places.{kept-rehomed, for_page-within}
use Rattle.page_index.proofs.index.PageIndex.take_right.Goals as goal

pub invariant_of-self : goal.invariant_of-self
invariant_of-self g c = rw c.take.ensures.after (kept-rehomed _ _ _ None c.in-Some.ensures.inside.0 c.self.invariant tt)

pub returns-in-Some-clause-page : goal.returns-in-Some-clause-page
returns-in-Some-clause-page g c =
    let at = c.in-Some.ensures.inside in
    let inside : c.in-Some.place < length c.self.inside.homes.items = subst (λ (index : Index). c.in-Some.place < limit_of index) (sym c.self.view_is) at.1 in
    let home = c.take.ensures.value ∙ c.index_mut.ensures.value ∙ for_page-within None _ c.self.inside.homes.items c.args.page c.in-Some.place at.0 inside in
    subst (λ (o : Option PageClaim). IfSome o (λ right. right.page ≡ c.args.page)) (sym home) (c.self.invariant.homes c.args.page)
