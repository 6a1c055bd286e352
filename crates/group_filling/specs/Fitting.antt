-- The form of a group that can be entered.
use Rattle.std.specs.Prelude.{◌≡◌, List, Option, None, IsSome, IfSome, IsTrue, true}
use Rattle.std.specs.List.{list_all, list_any}
use Rattle.books.specs.Rights.{PageClaim}
use Rattle.life_history.specs.Groups.{IsOwn, is_covered, is_still}
use Rattle.page_ops.specs.Claims.{Claims}
use Rattle.page_ops.specs.Groups.{Each, needs_maintenance}
use Rattle.wal_record.specs.Chains.{link_of, names}
use Rattle.wal_record.specs.Rules.{is_lsn_or_none, is_page, is_u32}
use Rattle.wal_record.specs.State.{is_child}
use Rattle.wal_record.specs.declared.entry.Entry.{Entry}
use Rattle.wal_record.specs.declared.record.Record.{Record}
use Rattle.wal_record.specs.declared.record.Record.TheVariants as kinds

-- No transaction ends by it, the rights to all that it names are there, and the new right is to a page that it makes. A loser,
-- which no session began, needs none.
pub record IsFit (h : List Entry) (x : Claims) (made : Option PageClaim) (recs : List Record) : Type 0 where
  pub still : IsTrue (list_all is_still recs)
  pub own : Each (λ r. IsOwn h x.s (link_of r)) recs
  pub covered : IsTrue (list_all (is_covered x made) recs)
  pub maintained : list_any needs_maintenance recs ≡ true → IsSome x.m
  pub place : IsSome made → x.c ≡ None
  pub named : IfSome made (λ p. list_any (names p.page) recs ≡ true)

-- the fields that are filled in are in their ranges
abbrev pub AreInRange : Record → Type 0
AreInRange (kinds.Write w) = IsTrue (is_lsn_or_none w.prev) × IsTrue (is_page w.page) × IsTrue (is_lsn_or_none w.page_prev)
AreInRange (kinds.Apply a) = IsTrue (is_lsn_or_none a.prev) × IsTrue (is_page a.page) × IsTrue (is_lsn_or_none a.page_prev)
AreInRange (kinds.Undo u) = IsTrue (is_lsn_or_none u.prev) × IsTrue (is_page u.page) × IsTrue (is_lsn_or_none u.page_prev)
AreInRange (kinds.End e) = IsTrue (is_lsn_or_none e.prev)
AreInRange (kinds.Split s) = IsTrue (is_lsn_or_none s.page_prev) × IsTrue (is_child s.child)
AreInRange (kinds.Adopt a) = IsTrue (is_lsn_or_none a.parent_prev) × IsTrue (is_lsn_or_none a.fosterer_prev)
AreInRange (kinds.Grow g) = IsTrue (is_lsn_or_none g.page_prev) × IsTrue (is_child g.child)
AreInRange (kinds.Purge g) = IsTrue (is_lsn_or_none g.page_prev)
AreInRange (kinds.Checkpoint c) = ⊥
AreInRange (kinds.Lost l) = IsTrue (is_u32 l.pages)
AreInRange r = Unit {0}
