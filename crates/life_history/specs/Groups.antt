-- What the entries of a group make of the books: of those of its pages, of its session, and of maintenance.
use Rattle.std.specs.Prelude.{◌≡◌, ℕ, suc, ◌+◌, ◌==◌, List, [], ◌∷◌, length, Option, Some, None, Bool, true, false, not, ◌&&◌, ◌||◌, if◌then◌else◌}
use Rattle.std.specs.List.{list_all}
use Rattle.std.specs.Option.{option_map}
use Rattle.books.specs.Booking.{entry_of, replaced}
use Rattle.books.specs.Rights.{PageClaim, page_entry, SessionClaim, session_entry, MaintClaim, maint_entry}
use Rattle.books.specs.declared.entry.BookEntry.{BookEntry}
use Rattle.wal_record.specs.Chains.{names, Link, link_of}
use Rattle.wal_record.specs.declared.entry.Entry.{Entry}
use Rattle.wal_record.specs.declared.record.Record.{Record}
use Rattle.wal_record.specs.declared.record.Record.TheVariants as kinds
use Rattle.page_ops.specs.Claims.{Claims}
use Rattle.page_ops.specs.Groups.{is_to, needs_maintenance, said_entries}
use Rattle.page_ops.specs.Seeing.{Account, is_begun_link}
use Rattle.page_ops.specs.declared.group.Said.{Said}

-- ---- what its records move

-- the head of a page behind records from this LSN on, where it was this before
abbrev pub head_behind : ℕ → ℕ → ℕ → List Record → ℕ
head_behind p before lsn [] = before
head_behind p before lsn (r ∷ rs) = head_behind p (if names p r then lsn else before) (suc lsn) rs

-- the book of maintenance behind them
abbrev pub maintenance_behind : ℕ → ℕ → List Record → ℕ
maintenance_behind before lsn [] = before
maintenance_behind before lsn (r ∷ rs) = maintenance_behind (if needs_maintenance r then lsn else before) (suc lsn) rs

-- no transaction ends by the record
abbrev pub is_still : Record → Bool
is_still (kinds.Commit c) = false
is_still (kinds.End e) = false
is_still r = true

-- the record names the transaction of the right's session
abbrev pub is_by : Option SessionClaim → Option Link → Bool
is_by s None = false
is_by None (Some l) = false
is_by (Some s) (Some l) = not (s.tx == 0) && l.tx == s.tx

-- how many of these records do
abbrev pub linked : Option SessionClaim → List Record → ℕ
linked s [] = 0
linked s (r ∷ rs) = if is_by s (link_of r) then suc (linked s rs) else linked s rs

-- How many entries of the group belong to its session. The records of a loser, which no session began, belong to none.
abbrev pub own_entries : Option SessionClaim → List Record → Option Said → ℕ
own_entries s recs said = linked s recs + length (said_entries said)

-- ---- the rights that it needs

-- where the record names a transaction that a session began, that is the one of the right's session
abbrev pub IsOwn : List Entry → Option SessionClaim → Option Link → Type 0
IsOwn h s link = is_begun_link h link ≡ true → is_by s link ≡ true

-- the pages that a record names
abbrev pub named_pages : Record → List ℕ
named_pages (kinds.Format f) = 1 ∷ []
named_pages (kinds.Write w) = w.page ∷ []
named_pages (kinds.Apply a) = a.page ∷ []
named_pages (kinds.Undo u) = u.page ∷ []
named_pages (kinds.Split s) = s.page ∷ s.child ∷ []
named_pages (kinds.Adopt a) = a.parent ∷ a.fosterer ∷ []
named_pages (kinds.Grow g) = 1 ∷ g.child ∷ []
named_pages (kinds.Purge g) = g.page ∷ []
named_pages r = []

-- one of the rights is to the page, or the new one is
abbrev pub has_page : Claims → Option PageClaim → ℕ → Bool
has_page x new page = is_to page x.a || is_to page x.b || is_to page new

-- each page that the record names has its right
abbrev pub is_covered : Claims → Option PageClaim → Record → Bool
is_covered x new r = list_all (has_page x new) (named_pages r)

-- ---- the rights behind it

abbrev pub raised_page : ℕ → List Record → PageClaim → PageClaim
raised_page lsn recs p = record { page = p.page; lsn = head_behind p.page p.lsn lsn recs }

abbrev pub raised_maintenance : ℕ → List Record → MaintClaim → MaintClaim
raised_maintenance lsn recs m = record { number = m.number; lsn = maintenance_behind m.lsn lsn recs }

abbrev pub raised_session : ℕ → SessionClaim → SessionClaim
raised_session own s = record { session = s.session; entries = s.entries + own; tx = s.tx }

-- the right to the new page, if there is one, comes into its place
abbrev pub new_or : Option PageClaim → Option PageClaim → Option PageClaim
new_or None old = old
new_or (Some p) old = Some p

abbrev pub raised : Claims → Option PageClaim → ℕ → List Record → Option Said → Claims
raised x new lsn recs said = record {
  a = option_map (raised_page lsn recs) x.a;
  b = option_map (raised_page lsn recs) x.b;
  c = new_or (option_map (raised_page lsn recs) new) (option_map (raised_page lsn recs) x.c);
  s = option_map (raised_session (own_entries x.s recs said)) x.s;
  m = option_map (raised_maintenance lsn recs) x.m;
}

-- so many entries more, so many of them of sessions
abbrev pub counted_group : Account → ℕ → ℕ → Account
counted_group a n own = record a { entries = record { parts = a.entries.parts; amount = a.entries.amount + n }; session_entries = record { parts = a.session_entries.parts; amount = a.session_entries.amount + own } }

-- ---- the books

-- the book had the right's entry as the right had it, and both were raised
abbrev pub IsPageSet : ℕ → List Record → Option PageClaim → List BookEntry → List BookEntry → Type 0
IsPageSet lsn recs None b b' = b' ≡ b
IsPageSet lsn recs (Some p) b b' = (entry_of p.page b ≡ Some (page_entry p)) × (b' ≡ replaced (page_entry (raised_page lsn recs p)) b)

abbrev pub IsMaintenanceSet : ℕ → List Record → Option MaintClaim → List BookEntry → List BookEntry → Type 0
IsMaintenanceSet lsn recs None b b' = b' ≡ b
IsMaintenanceSet lsn recs (Some m) b b' = (entry_of m.number b ≡ Some (maint_entry m)) × (b' ≡ replaced (maint_entry (raised_maintenance lsn recs m)) b)

abbrev pub IsSessionSet : ℕ → Option SessionClaim → List BookEntry → List BookEntry → Type 0
IsSessionSet own None b b' = b' ≡ b
IsSessionSet own (Some s) b b' = (entry_of s.session b ≡ Some (session_entry s)) × (b' ≡ replaced (session_entry (raised_session own s)) b)

-- all rights to pages, one behind the other, and the one to the new page
pub record ArePagesSet (lsn : ℕ) (recs : List Record) (x : Claims) (made : Option PageClaim) (was now : List BookEntry) : Type 0 where
  pub b1 : List BookEntry
  pub b2 : List BookEntry
  pub b3 : List BookEntry
  pub first : IsPageSet lsn recs x.a was b1
  pub second : IsPageSet lsn recs x.b b1 b2
  pub third : IsPageSet lsn recs x.c b2 b3
  pub new : IsPageSet lsn recs made b3 now
