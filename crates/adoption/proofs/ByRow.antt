-- A way that leads by a row to a page with a foster child.
use Rattle.std.proofs.Common.{◌≡◌, ℕ, true, List, sym, subst, ◌∙◌}
use Rattle.std.specs.Prelude.{is_some}
use Rattle.wal_record.specs.declared.page.PageState.{PageState}
use Rattle.foster_tree.specs.Ways.{IsToChild, IsWay, LeadsTo}
use Rattle.foster_tree.specs.declared.way.Way.{Way}
use Rattle.foster_tree.specs.declared.way.Way.TheVariants as ways
use Rattle.adoption.specs.Adoptions.{Leads}
use Rattle.adoption.specs.Descents.{IfByRow, may_adopt}

pub child_of_way : (key : List ℕ) (s t : PageState) (way : Way) (child page : ℕ) → IsWay key s way → LeadsTo way child → page ≡ child → may_adopt way t ≡ true → IsToChild key s page
child_of_way key s t ways.Here child page is leads same may = absurd leads
child_of_way key s t (ways.Child slot c) child page is leads same may = subst (IsToChild key s) (leads ∙ sym same) is.0
child_of_way key s t (ways.Foster c) child page is leads same may = absurd cc

pub row_of_way : (s t : PageState) (way : Way) (child page : ℕ) → IfByRow way s t → LeadsTo way child → page ≡ child → may_adopt way t ≡ true → Leads s page t
row_of_way s t ways.Here child page row leads same may = absurd leads
row_of_way s t (ways.Child slot c) child page row leads same may = subst (λ (p : ℕ). Leads s p t) (leads ∙ sym same) row
row_of_way s t (ways.Foster c) child page row leads same may = absurd cc

pub foster_of_way : (t : PageState) (way : Way) → may_adopt way t ≡ true → is_some t.foster ≡ true
foster_of_way t ways.Here may = absurd cc
foster_of_way t (ways.Child slot c) may = may
foster_of_way t (ways.Foster c) may = absurd cc
