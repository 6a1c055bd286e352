-- The group of a put, and the asking of the journal to enter it.
use Rattle.std.specs.Prelude.{ℕ, List, [], ◌∷◌, Option, Some, None, Result, true}
use Rattle.books.specs.Rights.{SessionClaim}
use Rattle.store_model.specs.declared.fault.Fault.{Fault}
use Rattle.store_model.specs.declared.request.Request.TheVariants as requests
use Rattle.store_model.specs.declared.reply.Reply.TheVariants as replies
use Rattle.wal_record.specs.declared.record.Write.{Write}
use Rattle.wal_record.specs.declared.record.Record.TheVariants as kinds
use Rattle.wal_record.specs.declared.record.Record.{Record}
use Rattle.page_ops.specs.Claims.{Claims}
use Rattle.page_ops.specs.Hands.{Hand}
use Rattle.page_ops.specs.Names.{LedgerName}
use Rattle.page_ops.specs.Outcomes.{EntersGroup}
use Rattle.page_ops.specs.Seeing.{Known}
use Rattle.page_ops.specs.declared.group.Group.{Group}
use Rattle.page_ops.specs.declared.outcome.Entered.{Entered}

-- its record, with what the journal fills in left open
abbrev pub put_write : ℕ → ℕ → List ℕ → Option (List ℕ) → List ℕ → Write
put_write tx page key old value = record { tx = tx; prev = 0; page = page; page_prev = 0; key = key; old = old; new = Some value }

abbrev pub put_group : ℕ → ℕ → ℕ → List ℕ → Option (List ℕ) → List ℕ → Group
put_group session tx page key old value = record {
  recs = kinds.Write (put_write tx page key old value) ∷ [];
  said = Some (record { session = session; tx = tx; request = requests.Put key value; reply = replies.Was old });
  room = true;
  lsn = 0;
}

-- the same, of a session by its right and of a leaf in hand
abbrev pub put_of : SessionClaim → Hand → List ℕ → Option (List ℕ) → List ℕ → Group
put_of s leaf key old value = put_group s.session s.tx leaf.page key old value

-- the right to the leaf in hand, and that to the session
abbrev pub claims_of : Hand → SessionClaim → Claims
claims_of leaf s = record { a = leaf.right; b = None; c = None; s = Some s; m = None }

-- the group was asked for, and the history is as its answer says
pub record EntersPut (opens : List Record → Type 0) (entries sessions : LedgerName) (asked : Group) (result : Result Entered Fault) (old new : Known) : Type 0 where
  pub now : Group
  pub enters : EntersGroup opens entries sessions asked now result old new
