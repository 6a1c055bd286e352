-- The adoption of a foster child: when it is done, what it makes of both pages, and what it enters.
use Rattle.std.specs.Prelude.{◌≡◌, ℕ, ◌+◌, ◌<◌, ◌≤◌, List, [], ◌∷◌, length, Option, Some, None, Result, Ok, Err, false}
use Rattle.store_model.specs.declared.fault.Fault.{Fault}
use Rattle.wal_record.specs.State.{free_bytes}
use Rattle.wal_record.specs.Tree.{fence_of}
use Rattle.wal_record.specs.Images.{with_child, without_foster}
use Rattle.wal_record.specs.declared.page.PageState.{PageState}
use Rattle.wal_record.specs.declared.page.Foster.{Foster}
use Rattle.wal_record.specs.declared.record.Adopt.{Adopt}
use Rattle.wal_record.specs.declared.record.Record.{Record}
use Rattle.wal_record.specs.declared.record.Record.TheVariants as kinds
use Rattle.wal_record.specs.declared.entry.Entry.{Entry}
use Rattle.wal_record.specs.declared.entry.Entry.TheVariants as entries
use Rattle.tree_laws.specs.Descent.{slot_pointer}
use Rattle.page_ops.specs.Claims.{Claims}
use Rattle.page_ops.specs.Hands.{Hand}
use Rattle.page_ops.specs.Names.{LedgerName}
use Rattle.page_ops.specs.Seeing.{Known, Enters}
use Rattle.page_ops.specs.declared.group.Group.{Group}
use Rattle.adoption.specs.declared.outcome.Adoption.{Adoption}
use Rattle.adoption.specs.declared.outcome.Adoption.TheVariants as adoptions

-- ---- pages

-- a row of the page leads to this one: its slot promises the level and the fence keys that it has
pub record Leads (s : PageState) (page : ℕ) (t : PageState) : Type 0 where
  pub slot : ℕ
  pub pointer : slot_pointer s slot ≡ Some (record { child = page; fence = fence_of t })

-- the record, by the LSNs of the records of both pages before it
abbrev pub adopt_of : ℕ → ℕ → ℕ → ℕ → Foster → Adopt
adopt_of parent prev fosterer prev' f = record { parent = parent; parent_prev = prev; fosterer = fosterer; fosterer_prev = prev'; child = f.child; key = f.key }

-- the parent with a row for the foster child, and the foster parent without it
abbrev pub with_row_for : Foster → PageState → PageState
with_row_for f s = with_child (adopt_of 0 0 0 0 f) s

abbrev pub without_child : Foster → PageState → PageState
without_child f t = without_foster (adopt_of 0 0 0 0 f) t

-- how many bytes the row has
abbrev pub row_bytes : Foster → ℕ
row_bytes f = 5 + length f.key

-- ---- answers

-- there is a foster child, and the parent has room for its row
pub record HasRoomFor (s t : PageState) : Type 0 where
  pub foster : Foster
  pub is : t.foster ≡ Some foster
  pub room : row_bytes foster ≤ free_bytes s

-- there is one, and the parent has none
pub record LacksRoomFor (s t : PageState) (free needed : ℕ) : Type 0 where
  pub foster : Foster
  pub is : t.foster ≡ Some foster
  pub free_is : free ≡ free_bytes s
  pub needed_is : needed ≡ row_bytes foster
  pub less : free < needed

-- of a parent and the child to which its row leads
abbrev pub IsAnswerOf : PageState → PageState → Adoption → Type 0
IsAnswerOf s t adoptions.Adopted = HasRoomFor s t
IsAnswerOf s t adoptions.NothingToAdopt = t.foster ≡ None
IsAnswerOf s t (adoptions.NoRoom free needed) = LacksRoomFor s t free needed

-- the child was adopted
abbrev pub OnAdopted : Result Adoption Fault → Type 0 → Type 0
OnAdopted (Ok adoptions.Adopted) fact = fact
OnAdopted _ fact = Unit {0}

-- it wasn't
abbrev pub UnlessAdopted : Result Adoption Fault → Type 0 → Type 0
UnlessAdopted (Ok adoptions.Adopted) fact = Unit {0}
UnlessAdopted _ fact = fact

-- the journal was asked
abbrev pub OnAsked : Result Adoption Fault → Type 0 → Type 0
OnAsked (Ok adoptions.NothingToAdopt) fact = Unit {0}
OnAsked (Ok (adoptions.NoRoom free needed)) fact = Unit {0}
OnAsked _ fact = fact

-- ---- entries

-- the rights to both pages
abbrev pub claims_of_both : Hand → Hand → Claims
claims_of_both parent fosterer = record { a = parent.right; b = fosterer.right; c = None; s = None; m = None }

-- the group, with what the journal fills in as the holder of both pages knows it
abbrev pub adoption_group : Hand → Hand → Foster → Group
adoption_group parent fosterer f = record { recs = kinds.Adopt (adopt_of parent.page parent.lsn fosterer.page fosterer.lsn f) ∷ []; said = None; room = false; lsn = 0 }

-- the adoption is entered, or nothing is
abbrev pub adopted_entries : {T : Type 0} → ℕ → Adopt → Result T Fault → List Entry
adopted_entries lsn a (Ok done) = entries.Rec lsn (kinds.Adopt a) ∷ []
adopted_entries lsn a (Err fault) = []

pub record EntersAdoption {T : Type 0} (opens : List Record → Type 0) (ledger sessions : LedgerName) (parent fosterer : ℕ) (f : Foster) (result : Result T Fault) (old new : Known) : Type 0 where
  pub lsn : ℕ
  pub prev : ℕ
  pub prev' : ℕ
  pub enters : Enters opens ledger sessions old (adopted_entries lsn (adopt_of parent prev fosterer prev' f) result) new

-- where the journal wasn't asked, nothing is known beyond what was known before
abbrev pub EntersByAnswer : (List Record → Type 0) → LedgerName → LedgerName → ℕ → ℕ → Option Foster → Result Adoption Fault → Known → Known → Type 0
EntersByAnswer opens ledger sessions parent fosterer foster (Ok adoptions.NothingToAdopt) old new = new ≡ old
EntersByAnswer opens ledger sessions parent fosterer foster (Ok (adoptions.NoRoom free needed)) old new = new ≡ old
EntersByAnswer opens ledger sessions parent fosterer None result old new = ⊥
EntersByAnswer opens ledger sessions parent fosterer (Some f) result old new = EntersAdoption opens ledger sessions parent fosterer f result old new
