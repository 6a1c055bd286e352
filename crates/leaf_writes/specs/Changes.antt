-- The records and the groups by which the row of a key changes.
use Rattle.std.specs.Prelude.{ℕ, List, [], ◌∷◌, Option, Some, None, Result, Ok, Bool, true, false, if◌then◌else◌, IsTrue}
use Rattle.books.specs.Rights.{SessionClaim}
use Rattle.store_model.specs.Range.{is_below}
use Rattle.store_model.specs.declared.fault.Fault.{Fault}
use Rattle.store_model.specs.declared.request.Request.{Request}
use Rattle.store_model.specs.declared.request.Request.TheVariants as requests
use Rattle.store_model.specs.declared.reply.Reply.TheVariants as replies
use Rattle.wal_record.specs.Legal.{split_key}
use Rattle.wal_record.specs.Rules.{is_maybe_value, is_u8}
use Rattle.wal_record.specs.State.{is_key, is_text}
use Rattle.wal_record.specs.declared.page.PageState.{PageState}
use Rattle.wal_record.specs.declared.record.Record.{Record}
use Rattle.wal_record.specs.declared.record.Record.TheVariants as kinds
use Rattle.page_ops.specs.declared.group.Said.{Said}
use Rattle.page_ops.specs.declared.group.Group.{Group}
use Rattle.page_ops.specs.declared.outcome.Entered.{Entered}
use Rattle.page_ops.specs.declared.outcome.Entered.TheVariants.{At}
use Rattle.smo.specs.Splits.{split_by}
use Rattle.leaf_writes.specs.declared.change.Change.{Change}
use Rattle.leaf_writes.specs.declared.change.How.{How}
use Rattle.leaf_writes.specs.declared.change.How.TheVariants as hows

-- the record on this page, with what the journal fills in left open
abbrev pub record_by : How → ℕ → ℕ → List ℕ → Option (List ℕ) → Record
record_by (hows.Write old) tx page key new = kinds.Write (record { tx = tx; prev = 0; page = page; page_prev = 0; key = key; old = old; new = new })
record_by (hows.Apply old operator argument) tx page key new = kinds.Apply (record { tx = tx; prev = 0; page = page; page_prev = 0; key = key; operator = operator; argument = argument; old = old })
record_by (hows.Undo undo_next) tx page key new = kinds.Undo (record { tx = tx; prev = 0; page = page; page_prev = 0; key = key; restores = new; undo_next = undo_next })

-- a put of the new value, or a del where there is none
abbrev pub request_of : List ℕ → Option (List ℕ) → Request
request_of key None = requests.Del key
request_of key (Some value) = requests.Put key value

-- its answer, for a session; an undo has none
abbrev pub said_by : How → List ℕ → Option (List ℕ) → Option SessionClaim → Option Said
said_by (hows.Write old) key new (Some s) = Some (record { session = s.session; tx = s.tx; request = request_of key new; reply = replies.Was old })
said_by (hows.Apply old operator argument) key new (Some s) = Some (record { session = s.session; tx = s.tx; request = requests.Apply operator key argument; reply = replies.Was old })
said_by _ key new s = None

-- a write asks for room
abbrev pub is_told : How → Bool
is_told (hows.Undo undo_next) = false
is_told how = true

abbrev pub group_by : How → ℕ → List ℕ → Option (List ℕ) → Option SessionClaim → ℕ → Group
group_by how tx key new owner page = record { recs = record_by how tx page key new ∷ []; said = said_by how key new owner; room = is_told how; lsn = 0 }

-- the key is one of the lower half's
abbrev pub goes_low : List ℕ → PageState → Bool
goes_low key s = is_below (Some key) (split_key s.rows)

-- the page that the key's half is then
abbrev pub half_of : ℕ → ℕ → List ℕ → PageState → ℕ
half_of page child key s = if goes_low key s then page else child

-- the split, and the record on the key's half; the new page goes by the number 0
abbrev pub split_group_by : How → ℕ → List ℕ → Option (List ℕ) → Option SessionClaim → ℕ → PageState → Group
split_group_by how tx key new owner page s =
    record { recs = split_by page s 0 0 ∷ record_by how tx (half_of page 0 key s) key new ∷ []; said = said_by how key new owner; room = is_told how; lsn = 0 }

-- of a change
abbrev pub change_group : Change → Option SessionClaim → ℕ → Group
change_group c owner page = group_by c.how c.tx c.key c.new owner page

abbrev pub split_change_group : Change → Option SessionClaim → ℕ → PageState → Group
split_change_group c owner page s = split_group_by c.how c.tx c.key c.new owner page s

-- where the group isn't entered
abbrev pub UnlessEntered : Result Entered Fault → Type 0 → Type 0
UnlessEntered (Ok (At pos)) fact = Unit {0}
UnlessEntered _ fact = fact

-- the key, the values and the argument have the lengths that are allowed
abbrev pub AreSpelledBy : How → Type 0
AreSpelledBy (hows.Write old) = IsTrue (is_maybe_value old)
AreSpelledBy (hows.Apply old operator argument) = IsTrue (is_maybe_value old) × IsTrue (is_u8 operator) × IsTrue (is_text argument)
AreSpelledBy (hows.Undo undo_next) = Unit {0}

pub record IsSpelledChange (how : How) (named : List ℕ) (value : Option (List ℕ)) : Type 0 where
  pub key : IsTrue (is_key named)
  pub new : IsTrue (is_maybe_value value)
  pub rest : AreSpelledBy how
