-- The groups that tests ask for, with what the journal fills in left open.
use Rattle.std.specs.Prelude.{ℕ, List, [], ◌∷◌, Option, Some, None, true}
use Rattle.store_model.specs.declared.request.Request.{Request}
use Rattle.store_model.specs.declared.request.Request.TheVariants as requests
use Rattle.store_model.specs.declared.reply.Reply.TheVariants as replies
use Rattle.wal_record.specs.declared.record.Apply.{Apply}
use Rattle.wal_record.specs.declared.record.Record.{Record}
use Rattle.wal_record.specs.declared.record.Undo.{Undo}
use Rattle.wal_record.specs.declared.record.Write.{Write}
use Rattle.wal_record.specs.declared.record.Record.TheVariants as kinds
use Rattle.page_ops.specs.declared.group.Group.{Group}

-- the write of a key that has this value, and has that one then
abbrev pub write_of : ℕ → ℕ → List ℕ → Option (List ℕ) → Option (List ℕ) → Write
write_of tx page key old new = record { tx = tx; prev = 0; page = page; page_prev = 0; key = key; old = old; new = new }

-- a put of the value, or a del where there is none
abbrev pub request_of : List ℕ → Option (List ℕ) → Request
request_of key (Some value) = requests.Put key value
request_of key None = requests.Del key

-- the write with its answer, for which there has to be room
abbrev pub write_group : ℕ → ℕ → ℕ → List ℕ → Option (List ℕ) → Option (List ℕ) → Group
write_group session tx page key old new = record {
  recs = kinds.Write (write_of tx page key old new) ∷ [];
  said = Some (record { session = session; tx = tx; request = request_of key new; reply = replies.Was old });
  room = true;
  lsn = 0;
}

-- an operator on a key that has this value
abbrev pub apply_of : ℕ → ℕ → List ℕ → Option (List ℕ) → ℕ → List ℕ → Apply
apply_of tx page key old operator argument =
    record { tx = tx; prev = 0; page = page; page_prev = 0; key = key; operator = operator; argument = argument; old = old }

-- the operator with its answer, for which there has to be room
abbrev pub apply_group : ℕ → ℕ → ℕ → List ℕ → Option (List ℕ) → ℕ → List ℕ → Group
apply_group session tx page key old operator argument = record {
  recs = kinds.Apply (apply_of tx page key old operator argument) ∷ [];
  said = Some (record { session = session; tx = tx; request = requests.Apply operator key argument; reply = replies.Was old });
  room = true;
  lsn = 0;
}

-- a write, or an operator's, taken back
abbrev pub undo_of : Record → Option Undo
undo_of (kinds.Write w) = Some (record { tx = w.tx; prev = 0; page = w.page; page_prev = 0; key = w.key; restores = w.old; undo_next = w.prev })
undo_of (kinds.Apply a) = Some (record { tx = a.tx; prev = 0; page = a.page; page_prev = 0; key = a.key; restores = a.old; undo_next = a.prev })
undo_of _ = None
