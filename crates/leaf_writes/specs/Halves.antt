-- The halves of a leaf that is split for a change of one of its rows.
use Rattle.std.specs.Prelude.{ℕ, List, Option, Result, Ok, false, if◌then◌else◌, IsTrue}
use Rattle.std.specs.Option.{option_map}
use Rattle.front.specs.Seen.{PassSeen}
use Rattle.store_model.specs.declared.fault.Fault.{Fault}
use Rattle.wal_record.specs.State.{is_child}
use Rattle.wal_record.specs.Images.{with_value}
use Rattle.wal_record.specs.declared.page.Foster.{Foster}
use Rattle.wal_record.specs.declared.page.PageState.{PageState}
use Rattle.wal_record.specs.declared.record.Record.{Record}
use Rattle.wal_record.specs.declared.entry.Entry.{Entry}
use Rattle.foster_laws.specs.Splits.{upper_half}
use Rattle.page_halves.specs.Parts.{lower_with}
use Rattle.page_ops.specs.Desks.{Desk}
use Rattle.page_ops.specs.Groups.{AreFilled}
use Rattle.page_ops.specs.Hands.{Hand}
use Rattle.page_ops.specs.Names.{LedgerName}
use Rattle.page_ops.specs.Outcomes.{EntersGroup, OnEntered}
use Rattle.page_ops.specs.Seeing.{Known}
use Rattle.page_ops.specs.declared.group.Group.{Group}
use Rattle.page_ops.specs.declared.outcome.Entered.{Entered}
use Rattle.page_ops.specs.declared.outcome.Entered.TheVariants.{At}
use Rattle.smo.specs.Settled.{IsSettled}
use Rattle.leaf_writes.specs.Changes.{goes_low}

-- the halves, where the key gets the new value in its own one
abbrev pub lower_written : ℕ → List ℕ → Option (List ℕ) → PageState → PageState
lower_written child key new s = if goes_low key s then with_value key new (lower_with child s) else lower_with child s

abbrev pub upper_written : List ℕ → Option (List ℕ) → PageState → PageState
upper_written key new s = if goes_low key s then upper_half s else with_value key new (upper_half s)

-- a page whose foster child has another number
abbrev pub numbered : ℕ → PageState → PageState
numbered child s = record s { foster = option_map (λ (f : Foster). record f { child = child }) s.foster }

-- a reserved frame is used up where the leaf was split
abbrev pub desk_behind : Desk → Result Entered Fault → Desk
desk_behind d (Ok (At pos)) = record d { reserves = false }
desk_behind d _ = d

-- The group was handed in, and the history and the rights are as the answer says. Where it was entered, the new page is
-- no root, and the leaf in hand is the lower half.
pub record SplitsLeaf (opens : List Record → Type 0) (ledger sessions : LedgerName) (g : Group) (key : List ℕ) (value : Option (List ℕ))
    (seen : PassSeen Entry) (leaf leaf_now : Hand) (result : Result Entered Fault) (old new : Known) : Type 0 where
  pub now : Group
  pub enters : EntersGroup opens ledger sessions g now result old new
  pub child : ℕ
  pub filled : OnEntered result (AreFilled child g.recs now.recs)
  pub number : OnEntered result (IsTrue (is_child child))
  pub settled : OnEntered result (IsSettled (lower_written child key value leaf.state) seen leaf leaf_now)
