-- What a page is rebuilt from, and what it then is.
use Rattle.std.specs.Prelude.{◌≡◌, ℕ, ◌≤◌, List, [], ◌∷◌, Option, Some, None, Bool, true, false, IsTrue}
use Rattle.wal_record.specs.State.{KeepsState}
use Rattle.wal_record.specs.Chains.{names_at}
use Rattle.wal_record.specs.Rules.{HasSpelling}
use Rattle.wal_record.specs.Sound.{AreLawful}
use Rattle.wal_record.specs.declared.page.PageState.{PageState}
use Rattle.wal_record.specs.declared.record.Record.{Record}
use Rattle.page_image.specs.declared.sealed.Sealed.{Sealed}
use Rattle.page_repair.specs.Chains.{IsImageAt}
use Rattle.chain_laws.specs.Walks.{redone, AreApplicable}

-- the LSN and the state of the base, 0 and none where there is none
abbrev pub base_lsn : Option Sealed → ℕ
base_lsn None = 0
base_lsn (Some x) = x.lsn

abbrev pub base_state : Option Sealed → Option PageState
base_state None = None
base_state (Some x) = Some x.state

-- each log by which the chain answers is lawful, and its record at the head names the page
pub record IsChainOf (answers : List Record → Type 0) (page head : ℕ) : Type 0 where
  pub lawful : (log : List Record) → answers log → AreLawful log
  pub named : (log : List Record) → answers log → IsTrue (names_at log head page)

-- the base is an image of the page, no younger than the head
pub record IsBaseOf (answers : List Record → Type 0) (page head : ℕ) (x : Sealed) : Type 0 where
  pub keeps : KeepsState x.state
  pub before : x.lsn ≤ head
  pub image : (log : List Record) → answers log → IsImageAt log page x

-- the page at the head
pub record IsPageOf (answers : List Record → Type 0) (page head : ℕ) (x : Sealed) : Type 0 where
  pub keeps : KeepsState x.state
  pub lsn : x.lsn ≡ head
  pub image : (log : List Record) → answers log → IsImageAt log page x

abbrev pub AreSpelled : List Record → Type 0
AreSpelled [] = Unit {0}
AreSpelled (r ∷ rs) = HasSpelling r × AreSpelled rs

-- true where all of these records were redone, one after the other; false only where one couldn't be
abbrev pub Replayed : ℕ → List Record → Option PageState → Option PageState → Bool → Type 0
Replayed page rs old new true = new ≡ redone page old rs
Replayed page rs old new false = AreApplicable page old rs → ⊥
