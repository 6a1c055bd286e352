-- What the answers of a journal's calls say of the history.
use Rattle.std.specs.Prelude.{◌≡◌, ◌≢◌, ◌⊎◌, ℕ, suc, ◌+◌, ◌<◌, ◌≤◌, List, [], ◌∷◌, ◌++◌, length, filter, Option, Some, None, Bool, true, false, not, ◌==◌, IsTrue, Result, Ok, Err, IsSome}
use Rattle.std.specs.List.{list_any, All}
use Rattle.std.specs.Option.{option_map}
use Rattle.books.specs.Rights.{PageClaim, SessionClaim, MaintClaim}
use Rattle.front.specs.Seen.{PassSeen}
use Rattle.store_model.specs.Range.{Interval, is_below}
use Rattle.store_model.specs.declared.fault.Fault.{Fault}
use Rattle.store_model.specs.declared.fault.Fault.TheVariants as faults
use Rattle.store_model.specs.declared.range.Mode.{Mode}
use Rattle.store_model.specs.declared.reply.Outcome.TheVariants as outcomes
use Rattle.store_model.specs.declared.request.Request.{Request}
use Rattle.wal_record.specs.Rules.{HasSpelling, is_number}
use Rattle.wal_record.specs.State.{is_child}
use Rattle.wal_record.specs.Chains.{pages, finishes, record_with}
use Rattle.wal_record.specs.OpenWrites.{pending, is_loser, losers}
use Rattle.wal_record.specs.Upkeep.{lost_pages, segment_of, unrestored, standing_runs, archived}
use Rattle.wal_record.specs.Checkpoints.{commits, limit_of, page_head, analysis_of}
use Rattle.wal_record.specs.History.{log_of, life_log, live_count}
use Rattle.wal_record.specs.Locks.{Held, locks, conflict, blocks}
use Rattle.wal_record.specs.declared.analysis.Run.{Run}
use Rattle.wal_record.specs.declared.record.Record.{Record}
use Rattle.wal_record.specs.declared.record.Record.TheVariants as kinds
use Rattle.wal_record.specs.declared.entry.Entry.{Entry}
use Rattle.wal_record.specs.declared.entry.Entry.TheVariants as entries
use Rattle.page_ops.specs.declared.group.Said.{Said}
use Rattle.page_ops.specs.declared.group.Group.{Group}
use Rattle.page_ops.specs.declared.outcome.Entered.{Entered}
use Rattle.page_ops.specs.declared.outcome.Entered.TheVariants as entered
use Rattle.page_ops.specs.declared.outcome.Grant.{Grant}
use Rattle.page_ops.specs.declared.outcome.Grant.TheVariants as grants
use Rattle.page_ops.specs.declared.outcome.Found.{Found}
use Rattle.page_ops.specs.declared.outcome.Found.TheVariants as founds
use Rattle.page_ops.specs.declared.outcome.Committed.{Committed}
use Rattle.page_ops.specs.declared.outcome.Survey.{Survey}
use Rattle.page_ops.specs.declared.outcome.Listed.{Listed}
use Rattle.page_ops.specs.declared.outcome.Work.{Work}
use Rattle.page_ops.specs.Names.{LedgerName}
use Rattle.page_ops.specs.Causes.{IsOpen}
use Rattle.page_ops.specs.Claims.{Claims}
use Rattle.page_ops.specs.Groups.{AreFilled, made_by, group_entries, declined_entries}
use Rattle.page_ops.specs.Asking.{HasRoomFor, LacksRoomFor, can_be_late, IsLate}
use Rattle.page_ops.specs.Seeing.{Known, Enters}

-- ---- groups

-- the entries of a group, by its answer
abbrev pub answered : ℕ → List Record → Option Said → Result Entered Fault → List Entry
answered lsn recs said (Ok (entered.At pos)) = group_entries lsn recs said
answered lsn recs said (Ok other) = []
answered lsn recs said (Err (faults.Full pages_then pending_then at)) = declined_entries said (outcomes.Full pages_then pending_then)
answered lsn recs said (Err fault) = []

-- the group was entered
abbrev pub OnEntered : Result Entered Fault → Type 0 → Type 0
OnEntered (Ok (entered.At pos)) fact = fact
OnEntered _ fact = Unit {0}

abbrev pub page_of : Option PageClaim → Option ℕ
page_of right = option_map (λ (p : PageClaim). p.page) right

-- each right is to what it was to before
pub record SameHolders (old new : Claims) : Type 0 where
  pub a : page_of new.a ≡ page_of old.a
  pub b : page_of new.b ≡ page_of old.b
  pub s : option_map (λ (s : SessionClaim). s.session) new.s ≡ option_map (λ (s : SessionClaim). s.session) old.s
  pub m : option_map (λ (m : MaintClaim). m.number) new.m ≡ option_map (λ (m : MaintClaim). m.number) old.m

-- the place of the right to a new page, which has this number
abbrev pub new_place : Option ℕ → ℕ → Option ℕ → Option ℕ
new_place None new old = old
new_place (Some child) new old = Some new

-- Where the group isn't entered the rights are as before. Where its request is declined, the right to its session is to
-- the same session.
abbrev pub KeepsRights : Result Entered Fault → Claims → Claims → Type 0
KeepsRights (Ok (entered.At pos)) old new = Unit {0}
KeepsRights (Ok other) old new = new ≡ old
KeepsRights (Err (faults.Full pages_then pending_then at)) old new = (new ≡ record old { s = new.s }) × SameHolders old new
KeepsRights (Err fault) old new = new ≡ old

-- where the group isn't entered, it is as it was
abbrev pub KeepsGroup : Result Entered Fault → Group → Group → Type 0
KeepsGroup (Ok (entered.At pos)) asked now = Unit {0}
KeepsGroup _ asked now = now ≡ asked

-- the group is filled in, the right to the page that it makes is there, and that page has the number of one that isn't
-- the root
pub record IsFilledIn (asked now : Group) (old new : Claims) : Type 0 where
  pub child : ℕ
  pub recs : AreFilled child asked.recs now.recs
  pub holders : SameHolders old new
  pub made : page_of new.c ≡ new_place (made_by asked.recs) child (page_of old.c)
  pub numbered : IsSome (made_by asked.recs) → IsTrue (is_child child)

-- its records have the LSNs from the group's on, and at the moment at which they came there was the room that was
-- asked for
pub record EntersGroup (opens : List Record → Type 0) (entries sessions : LedgerName) (asked now : Group) (result : Result Entered Fault) (old new : Known) : Type 0 where
  pub enters : Enters opens entries sessions old (answered now.lsn now.recs asked.said result) new
  pub room : OnEntered result ((opening : List Record) → opens opening → HasRoomFor opening enters.moment asked)

-- what the answer says of the history that has then been seen
abbrev pub IsAnswer : (List Record → Type 0) → List Entry → Group → Entered → Type 0
IsAnswer opens h asked (entered.At pos) = pos ≡ length h
IsAnswer opens h asked entered.NoRoom = (asked.said ≡ None) × (asked.room ≡ true) × ((opening : List Record) → opens opening → LacksRoomFor opening h asked)
IsAnswer opens h asked (entered.Late pos) = IsTrue (list_any can_be_late asked.recs) × ((opening : List Record) → opens opening → IsLate opening h pos asked.recs)

-- there is no room for the write: so many pages and pending writes there are
abbrev pub IsFull : (List Record → Type 0) → List Entry → Group → Fault → Type 0
IsFull opens h asked (faults.Full pages_then pending_then at) =
    (asked.room ≡ true) × IsSome asked.said × (at ≡ length h)
    × ((opening : List Record) → opens opening → (pages_then ≡ pages (life_log opening h)) × (pending_then ≡ pending (life_log opening h)) × (limit_of (life_log opening h) < pages_then + pending_then + 2))
IsFull opens h asked fault = Unit {0}

-- ---- transactions

abbrev pub begun : ℕ → Result ℕ Fault → List Entry
begun session (Ok tx) = entries.Began session tx ∷ []
begun session (Err fault) = []

-- 64 transactions are live
abbrev pub IsCrowd : List Entry → Fault → Type 0
IsCrowd h faults.TooManyActive = live_count h ≡ 64
IsCrowd h fault = Unit {0}

abbrev pub locked : ℕ → Interval → Mode → Result Grant Fault → List Entry
locked tx range mode (Ok (grants.Held pos)) = entries.Lock tx range mode ∷ []
locked tx range mode (Ok (grants.Loser t)) = []
locked tx range mode (Err (faults.Conflict holder other at)) = entries.Refused tx range mode holder ∷ []
locked tx range mode (Err fault) = []

-- no other live transaction has a conflicting lock, and this is the least loser that has one
pub record IsLeastLoser (opening : List Record) (h : List Entry) (tx : ℕ) (lock : Held) (t : ℕ) : Type 0 where
  pub free : (other : ℕ) → other ≢ tx → blocks opening h lock other ≡ false
  pub loser : is_loser opening t ≡ true
  pub holds : IsTrue (list_any (conflict lock) (locks opening h t))
  pub least : (other : ℕ) → other ≢ tx → other < t → list_any (conflict lock) (locks opening h other) ≡ false

-- the first range begins no later, and where both begin together it ends no later
abbrev pub IsFirst : Interval → Interval → Type 0
IsFirst a b = (is_below b.low a.low ≡ false) × (b.low ≡ a.low → is_below b.high a.high ≡ false)

-- of these locks one has this range and conflicts, and each other that conflicts comes after it
pub record IsFirstConflict (ls : List Held) (lock : Held) (range : Interval) : Type 0 where
  pub one : Held
  pub front : List Held
  pub back : List Held
  pub among : ls ≡ front ++ one ∷ back
  pub conflicts : conflict lock one ≡ true
  pub same : one.range ≡ range
  pub first : All (λ l. conflict lock l ≡ true → IsFirst range l.range) ls

abbrev pub IsGrant : (List Record → Type 0) → List Entry → ℕ → Held → Grant → Type 0
IsGrant opens h tx lock (grants.Held pos) = pos ≡ length h
IsGrant opens h tx lock (grants.Loser t) = IsTrue (is_number t) × ((opening : List Record) → opens opening → IsLeastLoser opening h tx lock t)

-- the lock is refused, and the holder's first conflicting range is this one
abbrev pub IsConflict : (List Record → Type 0) → List Entry → Held → Fault → Type 0
IsConflict opens h lock (faults.Conflict holder range at) = (at ≡ length h) × ((opening : List Record) → opens opening → IsFirstConflict (locks opening h holder) lock range)
IsConflict opens h lock fault = Unit {0}

abbrev pub refused : ℕ → ℕ → Request → Result ℕ Fault → List Entry
refused session tx request (Ok pos) = entries.Declined session tx request outcomes.OpRefused ∷ []
refused session tx request (Err fault) = []

abbrev pub repairs : {T : Type 0} → ℕ → Result (Option T) Fault → List Entry
repairs page (Ok (Some pos)) = entries.Repaired page ∷ []
repairs page (Ok None) = []
repairs page (Err fault) = []

-- ---- commits

-- a Commit, and then its acknowledgement, perhaps with others' entries between; the pass has then seen that the log is
-- durable up to the Commit
pub record Commits (opens : List Record → Type 0) (ledger sessions : LedgerName) (s : SessionClaim) (answer : Committed) (old new : Known) : Type 0 where
  pub lsn : ℕ
  pub prev : ℕ
  -- what is known as the Commit is there
  pub between : Known
  pub commit : Enters opens ledger sessions old (entries.Rec lsn (kinds.Commit (record { tx = s.tx; prev = prev })) ∷ []) between
  pub acked : Enters opens ledger sessions between (entries.Acked s.session s.tx ∷ []) new
  pub pos : answer.pos ≡ length new.log
  pub number : (opening : List Record) → opens opening → answer.number ≡ commits (life_log opening between.log)
  pub durable : lsn ≤ new.durable

-- Where the log disk failed, at this call or as another thread wrote the Commit, at most the Commit was entered, and
-- only where nothing was known of an end.
pub record MayCommit (opens : List Record → Type 0) (ledger sessions : LedgerName) (s : SessionClaim) (old new : Known) : Type 0 where
  pub lsn : ℕ
  pub prev : ℕ
  pub may : Enters opens ledger sessions old [] new ⊎ (IsOpen old.account × Enters opens ledger sessions old (entries.Rec lsn (kinds.Commit (record { tx = s.tx; prev = prev })) ∷ []) new)

abbrev pub CommitsOr : (List Record → Type 0) → LedgerName → LedgerName → SessionClaim → Result Committed Fault → Known → Known → Type 0
CommitsOr opens ledger sessions s (Ok answer) old new = Commits opens ledger sessions s answer old new
CommitsOr opens ledger sessions s (Err faults.LogFault) old new = MayCommit opens ledger sessions s old new
CommitsOr opens ledger sessions s (Err (faults.Ended at)) old new = MayCommit opens ledger sessions s old new
CommitsOr opens ledger sessions s (Err fault) old new = Enters opens ledger sessions old [] new

-- ---- the log

-- the run stands and has the LSN in its range
pub record IsRunOf (log : List Record) (lsn : ℕ) (run : Run) : Type 0 where
  pub front : List Run
  pub back : List Run
  pub stands : standing_runs log ≡ front ++ run ∷ back
  pub from : run.first ≤ lsn
  pub upto : lsn ≤ run.last

abbrev pub is_undo : Record → Bool
is_undo (kinds.Undo u) = true
is_undo _ = false

abbrev pub is_repaired : Entry → Bool
is_repaired (entries.Repaired page) = true
is_repaired _ = false

-- the losers of the opening log that have no end yet
abbrev pub losers_left : List Record → List Entry → List ℕ
losers_left opening h = filter (λ t. not (list_any (finishes t) (log_of h))) (losers opening)

-- what a journal tells of the history that a pass has seen, and of the durable number that it has seen
pub record IsSurvey (opens : List Record → Type 0) (seen : PassSeen Entry) (x : Survey) : Type 0 where
  pub analysis : (opening : List Record) → opens opening → x.analysis ≡ analysis_of (life_log opening seen.log)
  pub losers : (opening : List Record) → opens opening → x.losers ≡ losers_left opening seen.log
  pub undone : x.undone ≡ length (filter is_undo (log_of seen.log))
  pub repaired : x.repaired ≡ length (filter is_repaired seen.log)
  pub last : (opening : List Record) → opens opening → x.last ≡ length (life_log opening seen.log)
  pub kept : x.first_kept ≤ suc x.durable
  pub durable : x.durable ≡ seen.durable
  pub most : x.durable ≤ x.last

abbrev pub first_of : List ℕ → Option ℕ
first_of [] = None
first_of (x ∷ xs) = Some x

-- the page's entry in the page recovery index, whether its segment is unrestored, and how many pages the last loss told
pub record IsListed (opens : List Record → Type 0) (h : List Entry) (page : ℕ) (x : Listed) : Type 0 where
  pub ends : (opening : List Record) → opens opening → x.ends ≡ page_head (life_log opening h) page
  pub unrestored : (opening : List Record) → opens opening → x.unrestored ≡ list_any (λ s. s == segment_of page) (unrestored (life_log opening h))
  pub lost : (opening : List Record) → opens opening → x.lost ≡ lost_pages (life_log opening h)

-- The least loser that has no end yet, the least segment that is unrestored, how many runs stand, and the last LSN that
-- they have; up to which LSN the log is durable, as the pass has seen.
pub record IsWork (opens : List Record → Type 0) (seen : PassSeen Entry) (x : Work) : Type 0 where
  pub loser : (opening : List Record) → opens opening → x.loser ≡ first_of (losers_left opening seen.log)
  pub segment : (opening : List Record) → opens opening → x.segment ≡ first_of (unrestored (life_log opening seen.log))
  pub runs : (opening : List Record) → opens opening → x.runs ≡ length (standing_runs (life_log opening seen.log))
  pub archived : (opening : List Record) → opens opening → x.archived ≡ archived (standing_runs (life_log opening seen.log))
  pub durable : x.durable ≡ seen.durable
  pub most : (opening : List Record) → opens opening → x.durable ≤ length (life_log opening seen.log)

-- the log has the record with this LSN, or this run has it
abbrev pub IsFound : (List Record → Type 0) → List Entry → ℕ → Found → Type 0
IsFound opens h lsn (founds.Record r) = HasSpelling r × ((opening : List Record) → opens opening → record_with (life_log opening h) lsn ≡ Some r)
IsFound opens h lsn (founds.Run run) = (opening : List Record) → opens opening → IsRunOf (life_log opening h) lsn run
