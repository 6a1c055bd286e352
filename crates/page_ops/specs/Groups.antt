-- Groups of entries: which of their fields the journal fills in, which groups there are, and which rights they need.
use Rattle.std.specs.Prelude.{◌≡◌, ℕ, suc, ◌≤◌, List, [], ◌∷◌, ◌++◌, length, Option, Some, None, is_some, Bool, true, false, not, ◌&&◌, ◌||◌, ◌==◌, if◌then◌else◌, IsTrue, IfSome, IsSome}
use Rattle.std.specs.List.{list_any, list_all}
use Rattle.std.specs.Option.{option_map_or}
use Rattle.books.specs.Rights.{PageClaim, SessionClaim}
use Rattle.wal_record.specs.Rules.{HasSpelling}
use Rattle.wal_record.specs.Chains.{PageLink, page_links, Link, link_of}
use Rattle.wal_record.specs.History.{Live, phase}
use Rattle.wal_record.specs.Legal.{IsLegal}
use Rattle.wal_record.specs.Sound.{AreLawful}
use Rattle.wal_record.specs.declared.record.Checkpoint.{Checkpoint}
use Rattle.wal_record.specs.declared.record.Record.{Record}
use Rattle.wal_record.specs.declared.record.Record.TheVariants as kinds
use Rattle.wal_record.specs.declared.entry.Entry.{Entry}
use Rattle.wal_record.specs.declared.entry.Entry.TheVariants as entries
use Rattle.store_model.specs.declared.reply.Outcome.{Outcome}
use Rattle.page_ops.specs.declared.group.Said.{Said}
use Rattle.page_ops.specs.declared.group.Group.{Group}
use Rattle.page_ops.specs.Claims.{Claims}
use Rattle.wal_record.specs.Checkpoints.{is_checkpoint}

-- it holds of each item
abbrev pub Each : {A : Type 0} → (A → Type 0) → List A → Type 0
Each P [] = Unit {0}
Each P (x ∷ xs) = P x × Each P xs

-- ---- what the journal fills in

-- the LSNs of the records before a record, of its transaction and of its pages; the number of a new page; what a
-- checkpoint lists; how many pages a loss tells
pub record Numbers : Type 0 where
  pub prev : ℕ
  pub page_prev : ℕ
  pub other_prev : ℕ
  pub child : ℕ
  pub checkpoint : Checkpoint
  pub pages : ℕ

-- the number by which the new page goes in the group, if a record makes one
abbrev pub child_of : Record → Option ℕ
child_of (kinds.Split s) = Some s.child
child_of (kinds.Grow g) = Some g.child
child_of _ = None

abbrev pub or_else : Option ℕ → Option ℕ → Option ℕ
or_else None b = b
or_else (Some a) b = Some a

abbrev pub made_by : List Record → Option ℕ
made_by [] = None
made_by (r ∷ rs) = or_else (child_of r) (made_by rs)

-- the number in the log for one in the group
abbrev pub place_of : Option ℕ → ℕ → ℕ → ℕ
place_of made new page = if option_map_or (λ child. child == page) made false then new else page

-- the record with these numbers
abbrev pub filled : Option ℕ → Numbers → Record → Record
filled made n (kinds.Write w) = kinds.Write (record w { prev = n.prev; page = place_of made n.child w.page; page_prev = n.page_prev })
filled made n (kinds.Apply a) = kinds.Apply (record a { prev = n.prev; page = place_of made n.child a.page; page_prev = n.page_prev })
filled made n (kinds.Undo u) = kinds.Undo (record u { prev = n.prev; page = place_of made n.child u.page; page_prev = n.page_prev })
filled made n (kinds.End e) = kinds.End (record e { prev = n.prev })
filled made n (kinds.Split s) = kinds.Split (record s { page_prev = n.page_prev; child = n.child })
filled made n (kinds.Adopt a) = kinds.Adopt (record a { parent_prev = n.page_prev; fosterer_prev = n.other_prev })
filled made n (kinds.Grow g) = kinds.Grow (record g { page_prev = n.page_prev; child = n.child })
filled made n (kinds.Purge g) = kinds.Purge (record g { page_prev = n.page_prev })
filled made n (kinds.Checkpoint c) = kinds.Checkpoint n.checkpoint
filled made n (kinds.Lost l) = kinds.Lost (record l { pages = n.pages })
filled made n r = r

abbrev pub AreFilledFrom : Option ℕ → ℕ → List Record → List Record → Type 0
AreFilledFrom made new [] [] = Unit {0}
AreFilledFrom made new (r ∷ rs) (x ∷ xs) = ((n : Numbers) × (n.child ≡ new) × (x ≡ filled made n r)) × AreFilledFrom made new rs xs
AreFilledFrom made new _ _ = ⊥

-- a checkpoint of an empty log
abbrev pub no_checkpoint : Checkpoint
no_checkpoint = record { next_tx = 1; commits = 0; limit = 0; pages = []; transactions = []; lost = 0; unrestored = []; runs = []; next_backup = 1; next_run = 1 }

abbrev pub least_numbers : Numbers
least_numbers = record { prev = 0; page_prev = 0; other_prev = 0; child = 2; checkpoint = no_checkpoint; pages = 0 }

-- the fields that the journal doesn't fill in keep their rules
abbrev pub IsSpelled : Option ℕ → Record → Type 0
IsSpelled made r = HasSpelling (filled made least_numbers r)

-- the records of a group, filled in; `new` is the number of the page that they make, if they make one
abbrev pub AreFilled : ℕ → List Record → List Record → Type 0
AreFilled new asked now = AreFilledFrom (made_by asked) new asked now

-- ---- the entries of a group

-- records from an LSN on
abbrev pub record_entries : ℕ → List Record → List Entry
record_entries lsn [] = []
record_entries lsn (r ∷ rs) = entries.Rec lsn r ∷ record_entries (suc lsn) rs

abbrev pub said_entries : Option Said → List Entry
said_entries None = []
said_entries (Some s) = entries.Said s.session s.tx s.request s.reply ∷ []

abbrev pub group_entries : ℕ → List Record → Option Said → List Entry
group_entries lsn recs said = record_entries lsn recs ++ said_entries said

-- the request of a group, declined
abbrev pub declined_entries : Option Said → Outcome → List Entry
declined_entries None why = []
declined_entries (Some s) why = entries.Declined s.session s.tx s.request why ∷ []

-- ---- groups

abbrev pub is_write : Record → Bool
is_write (kinds.Write w) = true
is_write (kinds.Apply a) = true
is_write _ = false

-- a Format stands in no group, and a Commit has a call of its own
abbrev pub is_grouped : Record → Bool
is_grouped (kinds.Format f) = false
is_grouped (kinds.Commit c) = false
is_grouped _ = true

-- the last record, and it alone, is a write where an answer follows the records
abbrev pub told_by : Bool → List Record → Bool
told_by said [] = said
told_by said (r ∷ []) = if is_write r then said else not said
told_by said (r ∷ rs) = not (is_write r) && told_by said rs

pub record IsGroup (g : Group) : Type 0 where
  pub few : length g.recs ≤ 3
  pub kinds : IsTrue (list_all is_grouped g.recs)
  pub spelled : Each (IsSpelled (made_by g.recs)) g.recs
  -- an answer alone, or records with the answer of their write behind it
  pub told : IsTrue (told_by (is_some g.said) g.recs)
  pub alone : list_any is_checkpoint g.recs ≡ true → length g.recs ≡ 1

-- ---- the rights that a group needs

abbrev pub is_to : ℕ → Option PageClaim → Bool
is_to page right = option_map_or (λ (r : PageClaim). r.page == page) right false

-- 0, the number of no page, stands for the page that the group makes
abbrev pub is_made_page : Option ℕ → ℕ → Bool
is_made_page made page = option_map_or (λ child. (child == 0) && (child == page)) made false

-- the right to a page that a record names is there, but for the page that the group makes
abbrev pub has_right : Option ℕ → Claims → PageLink → Bool
has_right made x l = is_to l.page x.a || is_to l.page x.b || is_made_page made l.page

abbrev pub has_rights : Option ℕ → Claims → Record → Bool
has_rights made x r = list_all (has_right made x) (page_links r)

-- The right to the session whose transaction a record names, where that is live. It is asked under a log with which the
-- life may have begun, for nothing else tells a loser from a live transaction.
abbrev pub HasOwner : (List Record → Type 0) → List Entry → Claims → Option Link → Type 0
HasOwner opens h x None = Unit {0}
HasOwner opens h x (Some l) = (opening : List Record) → opens opening → AreLawful opening → IsLegal opening h → phase h l.tx ≡ Live → IsSome x.s × IfSome x.s (λ (s : SessionClaim). s.tx ≡ l.tx)

abbrev pub needs_maintenance : Record → Bool
needs_maintenance (kinds.BackupDone b) = true
needs_maintenance (kinds.RunDone d) = true
needs_maintenance _ = false

abbrev pub HasSpeaker : Option SessionClaim → Option Said → Type 0
HasSpeaker s None = Unit {0}
HasSpeaker None (Some said) = ⊥
HasSpeaker (Some s) (Some said) = (said.session ≡ s.session) × (said.tx ≡ s.tx)

-- after this history, these are the rights that the group needs
pub record HasRights (opens : List Record → Type 0) (h : List Entry) (x : Claims) (g : Group) : Type 0 where
  pub pages : IsTrue (list_all (has_rights (made_by g.recs) x) g.recs)
  -- the place of the right to the page that the group makes is free
  pub new : IsSome (made_by g.recs) → x.c ≡ None
  pub owners : Each (λ r. HasOwner opens h x (link_of r)) g.recs
  pub speaker : HasSpeaker x.s g.said
  pub maintenance : list_any needs_maintenance g.recs ≡ true → IsSome x.m
