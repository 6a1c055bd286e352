-- The slot of a parent that was held against the child.
use Rattle.std.proofs.Common.{◌≡◌, ℕ, List, Some, sym, ap, ◌∙◌}
use Rattle.std.specs.Option.{option_map}
use Rattle.wal_record.specs.Tree.{Pointer, fence_of}
use Rattle.wal_record.specs.declared.page.PageState.{PageState}
use Rattle.tree_laws.proofs.Counts.{inside_some}
use Rattle.foster_laws.specs.Descents.{CoversAt}
use Rattle.fence_check.specs.Breaches.{fence_in}
use Rattle.foster_tree.specs.Ways.{IsToChild}
use Rattle.adoption.specs.Adoptions.{Leads}

pub leads_by : (s t : PageState) (key : List ℕ) (i child : ℕ) → CoversAt s key i → fence_in s i ≡ Some (fence_of t) → IsToChild key s child → Leads s child t
leads_by s t key i child at agrees way =
    let fence : at.pointer.fence ≡ fence_of t = inside_some at.pointer.fence (fence_of t) (sym (ap (option_map (λ (x : Pointer). x.fence)) at.slot) ∙ agrees) in
    let to : at.pointer.child ≡ child = inside_some at.pointer.child child (sym at.child ∙ way.row) in
    record { slot = i; pointer = at.slot ∙ (λ j. Some (record { child = to j; fence = fence j })) }
