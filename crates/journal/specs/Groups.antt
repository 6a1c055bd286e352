-- A group as it is entered.
use Rattle.std.specs.Prelude.{◌≡◌, ℕ, suc, ◌+◌, ◌≤◌, ◌^◌, length, List, [], ◌∷◌, ◌++◌, Option, Some, None, IsSome, IsTrue}
use Rattle.books.specs.Rights.{PageClaim, SessionClaim}
use Rattle.life_history.specs.Groups.{counted_group, new_or}
use Rattle.life_history.specs.Kept.{counted_more}
use Rattle.page_ops.specs.Claims.{Claims}
use Rattle.page_ops.specs.Groups.{AreFilled, group_entries, made_by}
use Rattle.page_ops.specs.Outcomes.{SameHolders, new_place, page_of}
use Rattle.page_ops.specs.Seeing.{Account, IsConsistent, of_sessions}
use Rattle.page_ops.specs.declared.group.Group.{Group}
use Rattle.page_ops.specs.declared.group.Said.{Said}
use Rattle.wal_record.specs.Chains.{pages}
use Rattle.wal_record.specs.History.{life_log}
use Rattle.wal_record.specs.Sound.{AreLawful}
use Rattle.wal_record.specs.State.{is_child}
use Rattle.wal_record.specs.declared.record.End.{End}
use Rattle.wal_record.specs.declared.record.Record.{Record}
use Rattle.wal_record.specs.declared.record.Record.TheVariants as kinds
use Rattle.wal_record.specs.declared.entry.Entry.{Entry}
use Rattle.wal_record.specs.declared.entry.Entry.TheVariants as entries

-- the LSN of the next record
abbrev pub IsNext : (List Record → Type 0) → List Entry → ℕ → Type 0
IsNext opens h lsn = (opening : List Record) → opens opening → (lsn ≡ length (life_log opening h) + 1) × (lsn ≤ 2 ^ 62)

-- the right is to the page that comes next, and no record names it yet
pub record IsNextPage (opens : List Record → Type 0) (h : List Entry) (p : PageClaim) : Type 0 where
  pub none : p.lsn ≡ 0
  pub child : IsTrue (is_child p.page)
  pub next : (opening : List Record) → opens opening → p.page ≡ suc (pages (life_log opening h))

-- the history may go on by this group: it is consistent then, and the log lawful
pub record GroupFollows (opens : List Record → Type 0) (h : List Entry) (lsn : ℕ) (recs : List Record) (said : Option Said) : Type 0 where
  pub consistent : IsConsistent opens (h ++ group_entries lsn recs said)
  pub lawful : (opening : List Record) → opens opening → AreLawful (life_log opening h ++ recs)

-- these records and this answer were entered, and so many of their entries belong to sessions; each right is to what it was
-- to before, and the one to a new page has come into its place
pub record EntersFilled (recs : List Record) (said : Option Said) (made : Option PageClaim) (x x' : Claims) (a a' : Account) (h h' : List Entry) (lsn : ℕ) : Type 0 where
  pub own : ℕ
  pub history : h' ≡ h ++ group_entries lsn recs said
  pub counted : a' ≡ counted_group a (length (group_entries lsn recs said)) own
  pub belongs : of_sessions h' ≡ of_sessions h + own
  pub holders : SameHolders x x'
  pub place : page_of x'.c ≡ page_of (new_or made x.c)

-- the session's transaction has ended by this record; its right has one entry more, and no transaction
pub record EndsSession (end : End) (s s' : SessionClaim) (a a' : Account) (h h' : List Entry) (lsn : ℕ) : Type 0 where
  pub history : h' ≡ h ++ entries.Rec lsn (kinds.End end) ∷ []
  pub right : s' ≡ record { session = s.session; entries = s.entries + 1; tx = 0 }
  pub counted : a' ≡ counted_more a 1
  pub belongs : of_sessions h' ≡ of_sessions h + 1

-- a loser has ended by this record, which is no session's
pub record EndsLoser (end : End) (a a' : Account) (h h' : List Entry) (lsn : ℕ) : Type 0 where
  pub history : h' ≡ h ++ entries.Rec lsn (kinds.End end) ∷ []
  pub counted : a' ≡ counted_group a 1 0
  pub belongs : of_sessions h' ≡ of_sessions h

-- the right to a new page is there exactly where the group makes one, and is to that page
abbrev pub IsNewRight : Option ℕ → ℕ → Option PageClaim → Type 0
IsNewRight None child made = made ≡ None
IsNewRight (Some n) child made = page_of made ≡ Some child

-- the group was filled in and entered, and so many of its entries belong to sessions
pub record EntersNow (asked now : Group) (x x' : Claims) (a a' : Account) (h h' : List Entry) : Type 0 where
  pub child : ℕ
  pub own : ℕ
  pub filled : AreFilled child asked.recs now.recs
  pub is : now ≡ record asked { recs = now.recs; lsn = now.lsn }
  pub history : h' ≡ h ++ group_entries now.lsn now.recs asked.said
  pub counted : a' ≡ counted_group a (length (group_entries now.lsn now.recs asked.said)) own
  pub belongs : of_sessions h' ≡ of_sessions h + own
  pub holders : SameHolders x x'
  pub made : page_of x'.c ≡ new_place (made_by asked.recs) child (page_of x.c)
  pub numbered : IsSome (made_by asked.recs) → IsTrue (is_child child)

-- the records are a Checkpoint alone
abbrev pub IsCheckpointAlone : List Record → Type 0
IsCheckpointAlone (kinds.Checkpoint c ∷ []) = Unit {0}
IsCheckpointAlone _ = ⊥
