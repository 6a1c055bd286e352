-- What a group may ask of the journal, at whatever moment it comes: that it can be filled in to be legal there, that a
-- page is in hand whose answer is told, that there is room, and that nobody came first.
use Rattle.std.specs.Prelude.{◌≡◌, ◌⊎◌, ℕ, suc, ◌+◌, ◌^◌, ◌≤◌, ◌<◌, List, [], ◌∷◌, ◌++◌, length, Option, Some, None, Bool, true, false, ◌==◌, if◌then◌else◌, IsTrue}
use Rattle.std.specs.List.{list_any}
use mathlib.Core.List.{IsPrefix}
use Rattle.books.specs.Rights.{PageClaim}
use Rattle.store_model.specs.Along.{along}
use Rattle.store_model.specs.Range.{Interval, is_below, IsBelow}
use Rattle.store_model.specs.declared.request.Request.{Request}
use Rattle.store_model.specs.declared.request.Request.TheVariants as requests
use Rattle.store_model.specs.declared.reply.Outcome.TheVariants as outcomes
use Rattle.wal_record.specs.State.{leaf_rows, own_end}
use Rattle.wal_record.specs.Chains.{pages, finishes}
use Rattle.wal_record.specs.OpenWrites.{open_writes, pending, is_loser}
use Rattle.wal_record.specs.Upkeep.{unrestored}
use Rattle.wal_record.specs.Checkpoints.{limit_of}
use Rattle.wal_record.specs.Images.{image, OnPage, IsLeafOf}
use Rattle.wal_record.specs.Sound.{UndoRule, used}
use Rattle.wal_record.specs.History.{life_log}
use Rattle.wal_record.specs.Legal.{IsLegal, MayDecline, split_leaf}
use Rattle.wal_record.specs.declared.page.PageState.{PageState}
use Rattle.wal_record.specs.declared.page.Rows.TheVariants.{Leaf}
use Rattle.wal_record.specs.declared.record.Record.{Record}
use Rattle.wal_record.specs.declared.record.Record.TheVariants as kinds
use Rattle.wal_record.specs.declared.entry.Entry.{Entry}
use Rattle.wal_record.specs.declared.entry.Entry.TheVariants as entries
use Rattle.page_ops.specs.declared.group.Said.{Said}
use Rattle.page_ops.specs.declared.group.Group.{Group}
use Rattle.page_ops.specs.Groups.{Each, AreFilled, group_entries}

-- ---- nobody came first

-- The undo takes back the loser's last open write; the loser has no End; the segment is unrestored. Of a transaction
-- that is no loser of the opening log nothing is asked here.
abbrev pub IsTimely : List Record → List Entry → Record → Type 0
IsTimely opening h (kinds.Undo u) = is_loser opening u.tx ≡ true → UndoRule (open_writes (life_log opening h) u.tx) u
IsTimely opening h (kinds.End e) = is_loser opening e.tx ≡ true → list_any (finishes e.tx) (life_log opening h) ≡ false
IsTimely opening h (kinds.Restored r) = IsTrue (list_any (λ s. s == r.segment) (unrestored (life_log opening h)))
IsTimely opening h _ = Unit {0}

-- each record of the group was so after some beginning of this history
abbrev pub WasTimely : List Record → List Entry → Record → Type 0
WasTimely opening h r = (before : List Entry) × IsPrefix before h × IsTimely opening before r

-- the entry is one that may come before the record: an Undo or End of the same transaction, a Restored of the segment
abbrev pub forestalls : Record → Entry → Bool
forestalls (kinds.Undo u) (entries.Rec lsn (kinds.Undo x)) = x.tx == u.tx
forestalls (kinds.Undo u) (entries.Rec lsn (kinds.End x)) = x.tx == u.tx
forestalls (kinds.End e) (entries.Rec lsn (kinds.Undo x)) = x.tx == e.tx
forestalls (kinds.End e) (entries.Rec lsn (kinds.End x)) = x.tx == e.tx
forestalls (kinds.Restored r) (entries.Rec lsn (kinds.Restored x)) = x.segment == r.segment
forestalls _ _ = false

-- where the last such entry stands, counted from 1; 0 for none
unfoldable pub last_place : (Entry → Bool) → List Entry → ℕ
last_place is h = along (λ before n e. if is e then suc (length before) else n) 0 h

-- the record comes late, and the entry that came first stands here
pub record IsForestalled (opening : List Record) (h : List Entry) (pos : ℕ) (r : Record) : Type 0 where
  pub late : IsTimely opening h r → ⊥
  pub first : pos ≡ last_place (forestalls r) h

-- another one can come before the record
abbrev pub can_be_late : Record → Bool
can_be_late (kinds.Undo u) = true
can_be_late (kinds.End e) = true
can_be_late (kinds.Restored r) = true
can_be_late _ = false

abbrev pub IsLate : List Record → List Entry → ℕ → List Record → Type 0
IsLate opening h pos [] = ⊥
IsLate opening h pos (r ∷ rs) = IsForestalled opening h pos r ⊎ IsLate opening h pos rs

-- ---- room

-- what a group needs beside the pages and pending writes that there are: a write and a page, or a page, and in either
-- case a page more for an undo
abbrev pub needed : Option Said → ℕ
needed None = 3
needed (Some s) = 2

-- where the group asks for room, there is
abbrev pub HasRoomFor : List Record → List Entry → Group → Type 0
HasRoomFor opening h g = g.room ≡ true → used (life_log opening h) + needed g.said ≤ limit_of (life_log opening h)

-- it asks for room, and there is none
abbrev pub LacksRoomFor : List Record → List Entry → Group → Type 0
LacksRoomFor opening h g = (g.room ≡ true) × (limit_of (life_log opening h) < used (life_log opening h) + needed g.said)

-- ---- the leaf in hand

-- the leaf has the range's last part: it begins inside the range, and its own part ends at the range's end or above
pub record EndsRange (range : Interval) (s : PageState) : Type 0 where
  pub leaf : s.rows ≡ Leaf (leaf_rows s.rows)
  pub begins : IsBelow s.low range.high
  pub ends : is_below (own_end s) range.high ≡ false

-- the leaf from which the request is answered: that of its key, or the last one of its range
abbrev pub AnswersFrom : PageState → Request → Type 0
AnswersFrom s (requests.Get key) = IsLeafOf key s
AnswersFrom s (requests.Put key value) = IsLeafOf key s
AnswersFrom s (requests.Del key) = IsLeafOf key s
AnswersFrom s (requests.Scan range) = EndsRange range s
AnswersFrom s (requests.Apply operator key argument) = IsLeafOf key s

abbrev pub IsRightOfLeaf : List Record → List Entry → Request → Option PageClaim → Type 0
IsRightOfLeaf opening h request None = ⊥
IsRightOfLeaf opening h request (Some p) = OnPage (λ s. AnswersFrom s request) (image (life_log opening h) p.page)

-- an answer without a record is told from a leaf in hand
abbrev pub HasLeaf : List Record → List Entry → List Record → Option Said → Option PageClaim → Type 0
HasLeaf opening h [] (Some said) a = IsRightOfLeaf opening h said.request a
HasLeaf opening h _ _ a = Unit {0}

-- ---- the whole

-- there are LSNs for three records more
abbrev pub HasNumbers : List Record → List Entry → Type 0
HasNumbers opening h = length (life_log opening h) + 3 < 2 ^ 63

-- the group can be filled in so that the history goes on legally, and leaves no leaf split without the write that it was
-- split for
pub record MayFollow (opening : List Record) (h : List Entry) (g : Group) : Type 0 where
  pub new : ℕ
  pub recs : List Record
  pub filled : AreFilled new g.recs recs
  pub legal : IsLegal opening (h ++ group_entries (suc (length (life_log opening h))) recs g.said)
  pub whole : split_leaf opening (h ++ group_entries (suc (length (life_log opening h))) recs g.said) ≡ None

-- the request of a group may be declined for want of room
abbrev pub MayBeDeclined : List Record → List Entry → Option Said → Type 0
MayBeDeclined opening h None = Unit {0}
MayBeDeclined opening h (Some s) = let log = life_log opening h in MayDecline opening h s.session s.tx s.request (outcomes.Full (pages log) (pending log))

-- what the group asks at the moment at which it comes
pub record IsAskable (opening : List Record) (h : List Entry) (a : Option PageClaim) (g : Group) : Type 0 where
  pub leaf : HasLeaf opening h g.recs g.said a
  pub follows : Each (IsTimely opening h) g.recs → HasRoomFor opening h g → HasNumbers opening h → MayFollow opening h g
  pub declines : LacksRoomFor opening h g → MayBeDeclined opening h g.said
