-- The path behind a descent, from page to page.
use Rattle.std.proofs.Common.{◌≡◌, ℕ, Bool, false, List, Some, sym, ap, subst, ◌∙◌}
use Rattle.std.specs.Prelude.{is_some}
use Rattle.wal_record.specs.History.{life_log}
use Rattle.wal_record.specs.Images.{image, IsLeafOf}
use Rattle.wal_record.specs.declared.record.Record.{Record}
use Rattle.wal_record.specs.declared.entry.Entry.{Entry}
use Rattle.foster_laws.specs.Paths.{TidyTo}
use Rattle.page_ops.specs.Gains.{Goes}
use Rattle.page_ops.specs.Hands.{Hand}
use Rattle.page_ops.specs.Names.{LedgerName}
use Rattle.page_ops.specs.Seeing.{Known, Upholds, is_upkeep}
use Rattle.page_ops.proofs.Gaining.{goes_of, goes_then}
use Rattle.foster_tree.specs.Nows.{IsNow}
use Rattle.foster_tree.specs.Ways.{IsWay, LeadsTo}
use Rattle.foster_tree.specs.declared.way.Way.{Way}
use Rattle.adoption.specs.Descents.{IsAlone, BeginsTidy, LeadsTidy, LeavesTidy, StaysTidy, keeps_up, may_adopt}
use Rattle.adoption.proofs.Alone.{alone_then, same_images, tidy_looked}
use Rattle.adoption.proofs.Composing.{goes_up}
use Rattle.adoption.proofs.TidySteps.{begins_highest, begins_single, ends_tidy, goes_on}

module _ (opens : List Record → Type 0) (ledger : LedgerName) where
  -- a root that doesn't grow
  pub single_begins : (log : List Entry) (x : Hand) → is_some x.state.foster ≡ false → BeginsTidy opens log x
  single_begins log x none opening stands key here = begins_single (life_log opening log) key x.state here none

  pub highest_begins : (log : List Entry) (x : Hand) → x.state.level ≡ 255 → BeginsTidy opens log x
  highest_begins log x level opening stands key here = begins_highest (life_log opening log) key x.state here level

  pub begins_leads : (old : Known) (log : List Entry) (key : List ℕ) (x : Hand) → BeginsTidy opens log x → x.page ≡ 1 → LeadsTidy opens ledger old log key x
  begins_leads old log key x begins page only opening stands here =
      subst (λ (p : ℕ). TidyTo (life_log opening log) key p) (sym page) (begins opening stands key (ap (image (life_log opening log)) (sym page) ∙ here))

  -- to the page that the way leads to, where nothing is to be adopted
  pub plain_step : (old : Known) (key : List ℕ) (x y : Hand) (way : Way) (child : ℕ) → IsNow opens old.log x → IsWay key x.state way → LeadsTo way child → y.page ≡ child → may_adopt way y.state ≡ false → StaysTidy opens ledger old old.log key x.page y
  plain_step old key x y way child now is leads page stays only opening stands tidy there =
      goes_on (life_log opening old.log) key x.page y.page x.state y.state way is (subst (λ (p : ℕ). LeadsTo way p) (sym page) leads) stays (now.image opening stands) tidy there

  -- behind calls that were made before
  pub leaves_behind : (kind : Entry → Bool) (first k : Known) (log : List Entry) (key : List ℕ) → Goes kind first k → LeavesTidy opens ledger k log key → LeavesTidy opens ledger first log key
  leaves_behind kind first k log key goes leaves only = leaves (alone_then ledger kind first k only goes)

  module _ (sessions : LedgerName) (first k k' : Known) (key : List ℕ) (x : Hand) (goes : Goes keeps_up first k) (u : Upholds opens ledger sessions is_upkeep k k') (leads : LeadsTidy opens ledger first k.log key x) (now : IsNow opens k'.log x) where
    seen_tidy : IsAlone ledger first → (opening : List Record) → opens opening → TidyTo (life_log opening k'.log) key x.page
    seen_tidy only opening stands =
        let here : image (life_log opening k.log) x.page ≡ Some x.state = sym (same_images opens ledger sessions keeps_up first k k' only goes u opening x.page) ∙ now.image opening stands in
        tidy_looked opens ledger sessions keeps_up first k k' only goes u opening key x.page x.state here (leads only opening stands here)

    pub goes_seen : Goes keeps_up first k'
    goes_seen = goes_then keeps_up first k k' goes (goes_up k k' (goes_of is_upkeep opens ledger sessions k k' u))

    -- from the page that was seen to the next one
    pub next_leads : (log : List Entry) (y : Hand) → StaysTidy opens ledger k' log key x.page y → LeadsTidy opens ledger first log key y
    next_leads log y stays only opening stands there = stays (alone_then ledger keeps_up first k' only goes_seen) opening stands (seen_tidy only opening stands) there

    -- at the leaf
    pub leaf_leaves : IsLeafOf key x.state → LeavesTidy opens ledger first k'.log key
    leaf_leaves leaf only opening stands = ends_tidy (life_log opening k'.log) key x.page x.state (seen_tidy only opening stands) (now.image opening stands) leaf
