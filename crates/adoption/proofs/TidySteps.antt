-- What each step of the descent says of the path behind it.
use Rattle.std.proofs.Common.{◌≡◌, ℕ, ◌+◌, ◌<◌, Bool, true, false, cond, List, [], ◌∷◌, length, Option, Some, None, refl, sym, ap, ◌∙◌}
use Rattle.std.specs.Prelude.{is_some}
use Rattle.std.specs.Option.{option_map}
use Rattle.store_model.specs.Range.{is_below}
use Rattle.wal_record.specs.State.{branch_rows, child_at, free_bytes, has_within, or_child, put_branch_row}
use Rattle.wal_record.specs.Images.{image, IsLeafOf}
use Rattle.wal_record.specs.declared.page.PageState.{PageState}
use Rattle.wal_record.specs.declared.page.BranchRow.{BranchRow}
use Rattle.wal_record.specs.declared.page.Foster.{Foster}
use Rattle.wal_record.specs.declared.record.Record.{Record}
use Rattle.tree_laws.proofs.Counts.{inside_some}
use Rattle.tree_laws.proofs.Keys.{in_parts}
use Rattle.tree_laws.proofs.Start.{missing}
use Rattle.log_laws.proofs.Locked.{below_trans}
use Rattle.foster_laws.specs.Paths.{TidyTo}
use Rattle.foster_laws.specs.Tidy.{IsFull, IsTidy}
use Rattle.foster_laws.proofs.PathSteps.{path_begins_law, path_goes_on_law, path_ends_law}
use Rattle.foster_tree.specs.Ways.{IsWay, LeadsTo, IsToChild}
use Rattle.foster_tree.specs.declared.way.Way.{Way}
use Rattle.foster_tree.specs.declared.way.Way.TheVariants as ways
use Rattle.adoption.specs.Adoptions.{with_row_for, without_child}
use Rattle.adoption.specs.Descents.{may_adopt}

none_there : (o : Option Foster) → is_some o ≡ false → o ≡ None
none_there None e = refl
none_there (Some f) e = absurd cc

pub foster_is : (o : Option Foster) (page : ℕ) → option_map (λ (f : Foster). f.child) o ≡ Some page → (f : Foster) × (o ≡ Some f) × (f.child ≡ page)
foster_is None page e = absurd (missing page e)
foster_is (Some f) page e = (f, refl, inside_some f.child page e)

-- ---- where the page that is led to keeps what it has

-- to a child without a foster child, or along a foster pointer
pub goes_on : (log : List Record) (key : List ℕ) (p q : ℕ) (s t : PageState) (way : Way) → IsWay key s way → LeadsTo way q → may_adopt way t ≡ false → image log p ≡ Some s → TidyTo log key p → image log q ≡ Some t → TidyTo log key q
goes_on log key p q s t ways.Here is leads stays here tidy there = absurd leads
goes_on log key p q s t (ways.Child slot child) is leads stays here tidy there =
    (path_goes_on_law log key p q s t).single tidy here is.0.own (is.0.row ∙ ap (λ (n : ℕ). Some n) leads) there (none_there t.foster stays)
goes_on log key p q s t (ways.Foster child) is leads stays here tidy there =
    let f = foster_is s.foster child is.foster in
    (path_goes_on_law log key p q s t).foster tidy here is.out f.0 f.1 (f.2 ∙ leads)

-- to a child whose foster child stays
pub goes_on_crowded : (log : List Record) (key : List ℕ) (p q : ℕ) (s t : PageState) (f : Foster) → IsToChild key s q → image log p ≡ Some s → TidyTo log key p → image log q ≡ Some t → t.foster ≡ Some f → IsFull log → free_bytes s < 5 + length f.key → TidyTo log key q
goes_on_crowded log key p q s t f is here tidy there foster full crowds = (path_goes_on_law log key p q s t).crowded tidy here is.own is.row there f foster full crowds

-- ---- behind an adoption

-- a key below the new row's is led as before
pub led_as_before : (key : List ℕ) (r : BranchRow) (rows : List BranchRow) → is_below (Some key) r.low ≡ true → child_at key (put_branch_row r rows) ≡ child_at key rows
led_as_before key r [] h = ap (λ (b : Bool). cond b None (or_child None r.child)) h
led_as_before key r (row ∷ rows) h = by (is_below r.low row.low) refl (led_as_before key r rows h)
  where
    by : (b : Bool) → is_below r.low row.low ≡ b → child_at key (put_branch_row r rows) ≡ child_at key rows → child_at key (cond b (r ∷ row ∷ rows) (row ∷ put_branch_row r rows)) ≡ child_at key (row ∷ rows)
    by true e rest =
        ap (λ (b : Bool). cond b None (or_child (child_at key (row ∷ rows)) r.child)) h
        ∙ sym (ap (λ (b : Bool). cond b None (or_child (child_at key rows) row.child)) (below_trans (Some key) r.low row.low h e))
    by false e rest = ap (λ (o : Option ℕ). cond (is_below (Some key) row.low) None (or_child o row.child)) rest

-- to the page that gave its foster child up, where it still has the key
pub goes_on_adopted : (log : List Record) (key : List ℕ) (p q : ℕ) (s t : PageState) (f : Foster) → IsToChild key s q → has_within (without_child f t) key ≡ true → image log p ≡ Some (with_row_for f s) → TidyTo log key p → image log q ≡ Some (without_child f t) → TidyTo log key q
goes_on_adopted log key p q s t f is within here tidy there =
    let below : is_below (Some key) (Some f.key) ≡ true = (in_parts (record { low = t.low; high = Some f.key }) key within).1 in
    (path_goes_on_law log key p q (with_row_for f s) (without_child f t)).single tidy here is.own (led_as_before key (record { low = Some f.key; child = f.child }) (branch_rows s.rows) below ∙ is.row) there refl

-- ---- at both ends

pub begins_single : (log : List Record) (key : List ℕ) (s : PageState) → image log 1 ≡ Some s → is_some s.foster ≡ false → TidyTo log key 1
begins_single log key s here none = (path_begins_law log key s).single here (none_there s.foster none)

pub begins_highest : (log : List Record) (key : List ℕ) (s : PageState) → image log 1 ≡ Some s → s.level ≡ 255 → TidyTo log key 1
begins_highest log key s here level = (path_begins_law log key s).highest here level

pub begins_full : (log : List Record) (key : List ℕ) (s : PageState) → IsFull log → TidyTo log key 1
begins_full log key s full = (path_begins_law log key s).full full

pub ends_tidy : (log : List Record) (key : List ℕ) (p : ℕ) (s : PageState) → TidyTo log key p → image log p ≡ Some s → IsLeafOf key s → IsTidy log key
ends_tidy log key p s tidy here leaf = (path_ends_law log key p s).tidy tidy here leaf
