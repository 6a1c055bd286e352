-- Legal histories: which entry may stand after which, by the log and the locks before it.
use Rattle.std.specs.Prelude.{◌≡◌, ◌≢◌, ◌⊎◌, ◌<◌, ◌+◌, ℕ, suc, max, List, length, slice_get, Option, Some, None, is_some, true, false, IsTrue}
use Rattle.std.specs.List.{list_any}
use Rattle.std.specs.Option.{option_map, option_map_or}
use Rattle.std.specs.FinMap as finite
use Rattle.store_model.specs.Along.{along, AllAlong}
use Rattle.store_model.specs.Range.{Interval, point}
use Rattle.store_model.specs.Contents.{Contents, pairs_in}
use Rattle.store_model.specs.Operator.{meaning}
use Rattle.store_model.specs.declared.request.Request.{Request}
use Rattle.store_model.specs.declared.request.Request.TheVariants as requests
use Rattle.store_model.specs.declared.reply.Reply.{Reply}
use Rattle.store_model.specs.declared.reply.Reply.TheVariants as replies
use Rattle.store_model.specs.declared.reply.Outcome.{Outcome}
use Rattle.store_model.specs.declared.reply.Outcome.TheVariants as outcomes
use Rattle.store_model.specs.declared.range.Mode.{Mode}
use Rattle.store_model.specs.declared.limits.TheConstants.{MOST_ACTIVE}
use Rattle.wal_record.specs.State.{has_own, row_sizes, split_point, fits, free_bytes}
use Rattle.wal_record.specs.Chains.{pages, tx_of, greatest}
use Rattle.wal_record.specs.OpenWrites.{pending, is_loser}
use Rattle.wal_record.specs.Contents.{current}
use Rattle.wal_record.specs.Images.{image, with_value, OnPage}
use Rattle.wal_record.specs.Upkeep.{written_lsn}
use Rattle.wal_record.specs.Checkpoints.{limit_of}
use Rattle.wal_record.specs.Sound.{IsLawful}
use Rattle.wal_record.specs.History.{life_log, Live, Committed, phase, is_owner, greatest_begun, live_count, last_begun, IsFree}
use Rattle.wal_record.specs.Locks.{Held, locks, conflict, covers, covers_write, blocks}
use Rattle.wal_record.specs.declared.page.PageState.{PageState}
use Rattle.wal_record.specs.declared.page.LeafRow.{LeafRow}
use Rattle.wal_record.specs.declared.page.BranchRow.{BranchRow}
use Rattle.wal_record.specs.declared.page.Rows.{Rows}
use Rattle.wal_record.specs.declared.page.Rows.TheVariants.{Leaf, Branch}
use Rattle.wal_record.specs.declared.record.Split.{Split}
use Rattle.wal_record.specs.declared.record.Record.{Record}
use Rattle.wal_record.specs.declared.record.Record.TheVariants as kinds
use Rattle.wal_record.specs.declared.entry.Entry.{Entry}
use Rattle.wal_record.specs.declared.entry.Entry.TheVariants.{Rec, Lock, Refused, Said, Declined, Acked, Repaired, Began}

-- ---- what the last entry asks of the next one

abbrev pub untold_step : Entry → Option Record
untold_step (Rec lsn (kinds.Write w)) = Some (kinds.Write w)
untold_step (Rec lsn (kinds.Apply a)) = Some (kinds.Apply a)
untold_step _ = None

-- the last entry, where it is a write that its transaction wasn't told of yet
unfoldable pub untold : List Entry → Option Record
untold h = along (λ before d e. untold_step e) None h

abbrev pub leaf_only : Rows → PageState → Option PageState
leaf_only (Leaf rows) s = Some s
leaf_only (Branch rows) s = None

abbrev pub if_leaf : Option PageState → Option PageState
if_leaf None = None
if_leaf (Some s) = leaf_only s.rows s

abbrev pub split_step : List Record → Entry → Option PageState
split_step before (Rec lsn (kinds.Split x)) = if_leaf (image before x.page)
split_step before _ = None

-- the leaf that the last entry split, as it was before, where that entry is a split of a leaf
unfoldable pub split_leaf : List Record → List Entry → Option PageState
split_leaf opening h = along (λ before s e. split_step (life_log opening before) e) None h

-- the value doesn't fit into the leaf whose own part has the key
pub record Overflows (s : PageState) (key : List ℕ) (value : Option (List ℕ)) : Type 0 where
  pub own : IsTrue (has_own s key)
  pub full : fits (with_value key value s) ≡ false

abbrev pub NeedsSplit : PageState → Record → Type 0
NeedsSplit s (kinds.Write w) = Overflows s w.key w.new
NeedsSplit s (kinds.Apply a) = Overflows s a.key (meaning a.operator a.old a.argument)
NeedsSplit s (kinds.Undo u) = Overflows s u.key u.restores
NeedsSplit s _ = ⊥

-- after the split of a leaf comes a write that didn't fit into it
abbrev pub FollowsSplit : Option PageState → Entry → Type 0
FollowsSplit None e = Unit {0}
FollowsSplit (Some s) (Rec lsn r) = NeedsSplit s r
FollowsSplit (Some s) _ = ⊥

-- ---- splits

-- the first key of the upper part
abbrev pub split_key : Rows → Option (List ℕ)
split_key (Leaf rows) = option_map (λ (row : LeafRow). row.key) (slice_get rows (split_point (row_sizes (Leaf rows))))
split_key (Branch rows) = option_map_or (λ (row : BranchRow). row.low) (slice_get rows (split_point (row_sizes (Branch rows)))) None

-- a leaf is split only without tombstones, a branch only where the longest row may not fit
abbrev pub IsCrowded : Rows → PageState → Type 0
IsCrowded (Leaf rows) s = list_any (λ (row : LeafRow). row.tombstone) rows ≡ false
IsCrowded (Branch rows) s = free_bytes s < 69

pub record MaySplit (x : Split) (s : PageState) : Type 0 where
  pub at : x.child_state.low ≡ split_key s.rows
  pub crowded : IsCrowded s.rows s

-- ---- records

-- live, or a loser of the opening log
abbrev pub MayUndo : List Record → List Entry → ℕ → Type 0
MayUndo opening h tx = (phase h tx ≡ Live) ⊎ (is_loser opening tx ≡ true)

-- a live transaction writes under an exclusive lock, and commits; a live one or a loser undoes and
-- ends; pages are split where they have to be
abbrev pub RecordRule : List Record → List Entry → Record → Type 0
RecordRule opening h (kinds.Write w) = (phase h w.tx ≡ Live) × IsTrue (list_any (covers_write w.key) (locks opening h w.tx))
RecordRule opening h (kinds.Apply a) = (phase h a.tx ≡ Live) × IsTrue (list_any (covers_write a.key) (locks opening h a.tx))
RecordRule opening h (kinds.Commit c) = phase h c.tx ≡ Live
RecordRule opening h (kinds.Undo u) = MayUndo opening h u.tx
RecordRule opening h (kinds.End e) = MayUndo opening h e.tx
RecordRule opening h (kinds.Split x) = OnPage (MaySplit x) (image (life_log opening h) x.page)
RecordRule opening h _ = Unit {0}

-- ---- replies

-- the write is told as this request with this reply
abbrev pub IsToldAs : Record → Request → Reply → Type 0
IsToldAs (kinds.Write w) (requests.Put key value) reply = (w.key ≡ key) × (w.new ≡ Some value) × (reply ≡ replies.Was w.old)
IsToldAs (kinds.Write w) (requests.Del key) reply = (w.key ≡ key) × (w.new ≡ None) × (reply ≡ replies.Was w.old)
IsToldAs (kinds.Apply a) (requests.Apply operator key argument) reply = (a.operator ≡ operator) × (a.key ≡ key) × (a.argument ≡ argument) × (reply ≡ replies.Was a.old)
IsToldAs _ request reply = ⊥

-- directly after a write only that is told, to its transaction; else what the current contents say
-- where the transaction has locked them
abbrev pub ReplyRule : Option Record → Contents → List Held → ℕ → Request → Reply → Type 0
ReplyRule (Some r) m ls tx request reply = (tx_of r ≡ tx) × IsToldAs r request reply
ReplyRule None m ls tx (requests.Get key) reply = IsTrue (list_any (covers (point key)) ls) × (reply ≡ replies.Found (finite.get m key))
ReplyRule None m ls tx (requests.Scan range) reply = IsTrue (list_any (covers range) ls) × (reply ≡ replies.Pairs (pairs_in range m))
ReplyRule None m ls tx (requests.Del key) reply = IsTrue (list_any (covers_write key) ls) × (finite.get m key ≡ None) × (reply ≡ replies.Was None)
ReplyRule None m ls tx _ reply = ⊥

-- ---- refusals

-- the request would enter a write
abbrev pub Writes : Contents → Request → Type 0
Writes m (requests.Put key value) = Unit {0}
Writes m (requests.Del key) = IsTrue (is_some (finite.get m key))
Writes m (requests.Apply operator key argument) = IsTrue (is_some (meaning operator (finite.get m key) argument))
Writes m _ = ⊥

abbrev pub written_key : Request → Option (List ℕ)
written_key (requests.Put key value) = Some key
written_key (requests.Del key) = Some key
written_key (requests.Apply operator key argument) = Some key
written_key _ = None

abbrev pub IsLocked : List Held → Option (List ℕ) → Type 0
IsLocked ls None = ⊥
IsLocked ls (Some key) = IsTrue (list_any (covers_write key) ls)

abbrev pub HasNoMeaning : Contents → Request → Type 0
HasNoMeaning m (requests.Apply operator key argument) = meaning operator (finite.get m key) argument ≡ None
HasNoMeaning m _ = ⊥

-- there is no room for a write and a page, or the operator gives no value
abbrev pub WhyRule : List Record → Request → Outcome → Type 0
WhyRule log request (outcomes.Full pages_then pending_then) = (pages_then ≡ pages log) × (pending_then ≡ pending log) × (limit_of log < pages log + pending log + 2) × Writes (current log) request
WhyRule log request outcomes.OpRefused = HasNoMeaning (current log) request
WhyRule log request _ = ⊥

-- ---- entries

abbrev pub held : Interval → Mode → Held
held range mode = record { range = range; mode = mode }

-- the next number, at most 64 live transactions, and a session that has none
pub record MayBegin (opening : List Record) (h : List Entry) (session : ℕ) (tx : ℕ) : Type 0 where
  pub told : untold h ≡ None
  pub number : tx ≡ suc (max (greatest opening) (greatest_begun h))
  pub room : live_count h < MOST_ACTIVE
  pub free : IsFree h (last_begun h session)

-- no other transaction holds a conflicting lock
pub record MayLock (opening : List Record) (h : List Entry) (tx : ℕ) (lock : Held) : Type 0 where
  pub told : untold h ≡ None
  pub live : phase h tx ≡ Live
  pub free : (other : ℕ) → other ≢ tx → list_any (conflict lock) (locks opening h other) ≡ false

-- the least other live transaction that holds a conflicting lock
pub record MayRefuse (opening : List Record) (h : List Entry) (tx : ℕ) (lock : Held) (holder : ℕ) : Type 0 where
  pub told : untold h ≡ None
  pub live : phase h tx ≡ Live
  pub other : holder ≢ tx
  pub holds : IsTrue (blocks opening h lock holder)
  pub least : (other : ℕ) → other ≢ tx → other < holder → blocks opening h lock other ≡ false

-- a lawful record, at the end of the log
pub record MayEnter (opening : List Record) (h : List Entry) (lsn : ℕ) (r : Record) : Type 0 where
  pub told : untold h ≡ None
  pub place : lsn ≡ length (life_log opening h) + 1
  pub lawful : IsLawful (life_log opening h) r
  pub rule : RecordRule opening h r

pub record MaySay (opening : List Record) (h : List Entry) (session : ℕ) (tx : ℕ) (request : Request) (reply : Reply) : Type 0 where
  pub owner : IsTrue (is_owner h session tx)
  pub answer : ReplyRule (untold h) (current (life_log opening h)) (locks opening h tx) tx request reply

pub record MayDecline (opening : List Record) (h : List Entry) (session : ℕ) (tx : ℕ) (request : Request) (why : Outcome) : Type 0 where
  pub told : untold h ≡ None
  pub owner : IsTrue (is_owner h session tx)
  pub live : phase h tx ≡ Live
  pub locked : IsLocked (locks opening h tx) (written_key request)
  pub cause : WhyRule (life_log opening h) request why

-- a commit is acknowledged once
pub record MayAcknowledge (h : List Entry) (session : ℕ) (tx : ℕ) : Type 0 where
  pub told : untold h ≡ None
  pub owner : IsTrue (is_owner h session tx)
  pub committed : phase h tx ≡ Committed

-- a page is repaired only where an image of it was written
pub record MayRepair (opening : List Record) (h : List Entry) (page : ℕ) : Type 0 where
  pub told : untold h ≡ None
  pub image : 0 < written_lsn (life_log opening h) page

abbrev pub EntryRule : List Record → List Entry → Entry → Type 0
EntryRule opening h (Began session tx) = MayBegin opening h session tx
EntryRule opening h (Lock tx range mode) = MayLock opening h tx (held range mode)
EntryRule opening h (Refused tx range mode holder) = MayRefuse opening h tx (held range mode) holder
EntryRule opening h (Rec lsn r) = MayEnter opening h lsn r
EntryRule opening h (Said session tx request reply) = MaySay opening h session tx request reply
EntryRule opening h (Declined session tx request why) = MayDecline opening h session tx request why
EntryRule opening h (Acked session tx) = MayAcknowledge h session tx
EntryRule opening h (Repaired page) = MayRepair opening h page

-- the entry is allowed after these
pub record IsAllowed (opening : List Record) (h : List Entry) (e : Entry) : Type 0 where
  pub split : FollowsSplit (split_leaf opening h) e
  pub rule : EntryRule opening h e

-- each entry is allowed after those before it
abbrev pub IsLegal : List Record → List Entry → Type 0
IsLegal opening h = AllAlong (IsAllowed opening) h
