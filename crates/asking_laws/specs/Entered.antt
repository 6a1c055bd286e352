-- What the conditions of entering give the journal: its own numbers are the ones with which the group is legal, and the
-- life is at rest behind it.
use Rattle.std.specs.Prelude.{◌≡◌, ℕ, suc, List, [], ◌∷◌, ◌++◌, length, Option, is_some, true, IsTrue, IsSome}
use Rattle.std.specs.List.{list_all}
use Rattle.wal_record.specs.Chains.{head, pages, last}
use Rattle.wal_record.specs.Checkpoints.{checkpoint_of}
use Rattle.wal_record.specs.Sound.{AreLawful}
use Rattle.wal_record.specs.History.{life_log}
use Rattle.wal_record.specs.declared.record.Record.{Record}
use Rattle.wal_record.specs.declared.record.Record.TheVariants as kinds
use Rattle.wal_record.specs.declared.entry.Entry.{Entry}
use Rattle.claim_laws.specs.Entering.{IsAtRest}
use Rattle.page_ops.specs.declared.group.Group.{Group}
use Rattle.page_ops.specs.Groups.{made_by, place_of, group_entries, is_grouped, told_by}
use Rattle.page_ops.specs.Asking.{MayFollow}

-- the record as the journal fills it in behind this log, where the new page has this number
abbrev pub fill : List Record → Option ℕ → ℕ → Record → Record
fill log made new (kinds.Write w) = kinds.Write (record w { prev = last log w.tx; page = place_of made new w.page; page_prev = head log (place_of made new w.page) })
fill log made new (kinds.Apply a) = kinds.Apply (record a { prev = last log a.tx; page = place_of made new a.page; page_prev = head log (place_of made new a.page) })
fill log made new (kinds.Undo u) = kinds.Undo (record u { prev = last log u.tx; page = place_of made new u.page; page_prev = head log (place_of made new u.page) })
fill log made new (kinds.End e) = kinds.End (record e { prev = last log e.tx })
fill log made new (kinds.Split s) = kinds.Split (record s { page_prev = head log s.page; child = new })
fill log made new (kinds.Adopt a) = kinds.Adopt (record a { parent_prev = head log a.parent; fosterer_prev = head log a.fosterer })
fill log made new (kinds.Grow g) = kinds.Grow (record g { page_prev = head log 1; child = new })
fill log made new (kinds.Purge g) = kinds.Purge (record g { page_prev = head log g.page })
fill log made new (kinds.Checkpoint c) = kinds.Checkpoint (checkpoint_of log)
fill log made new (kinds.Lost l) = kinds.Lost (record l { pages = pages log })
fill log made new r = r

-- the records of a group, one behind the other
abbrev pub fill_all : List Record → Option ℕ → ℕ → List Record → List Record
fill_all log made new [] = []
fill_all log made new (r ∷ rs) = fill log made new r ∷ fill_all (log ++ fill log made new r ∷ []) made new rs

pub record EnteredLaw (opening : List Record) (h : List Entry) (g : Group) : Type 0 where
  -- what a group is filled in with is what the journal fills in
  pub determined : (m : MayFollow opening h g) → m.recs ≡ fill_all (life_log opening h) (made_by g.recs) m.new g.recs
  -- and its new page is the next one
  pub new : IsTrue (list_all is_grouped g.recs) → (m : MayFollow opening h g) → IsSome (made_by g.recs) → m.new ≡ suc (pages (life_log opening h))
  -- with the group behind it the life is at rest
  pub rest : AreLawful opening → IsAtRest opening h → told_by (is_some g.said) g.recs ≡ true → (m : MayFollow opening h g)
      → IsAtRest opening (h ++ group_entries (suc (length (life_log opening h))) m.recs g.said)
