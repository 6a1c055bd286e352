-- Which logs a calm life can open, and what it opens them with.
use Rattle.std.specs.Prelude.{◌≡◌, ℕ, suc, List, [], length, Some, None, false, IsTrue}
use Rattle.std.specs.List.{list_any}
use Rattle.std.specs.FinMap as finite
use Rattle.wal_record.specs.State.{live}
use Rattle.wal_record.specs.Chains.{head, greatest}
use Rattle.wal_record.specs.OpenWrites.{open_writes, has_items}
use Rattle.wal_record.specs.Contents.{committed_contents}
use Rattle.wal_record.specs.Images.{image}
use Rattle.wal_record.specs.Checkpoints.{commits}
use Rattle.wal_record.specs.Sound.{AreLawful}
use Rattle.wal_record.specs.declared.page.LeafRow.{LeafRow}
use Rattle.wal_record.specs.declared.record.Record.{Record}
use Rattle.life_laws.specs.Calm.{only_leaf, splits_page, Calm}

-- a store's log without losers, in which no page was split
pub record IsOpenable (log : List Record) : Type 0 where
  pub lawful : AreLawful log
  pub some : IsTrue (has_items log)
  pub settled : (t : ℕ) → open_writes log t ≡ []
  pub whole : list_any splits_page log ≡ false

-- what the records of the log say of page 1, of numbers and of commits is what a calm life begins with
abbrev pub OpensWith : List Record → List LeafRow → Type 0
OpensWith log rows = Calm log [] rows (head log 1) None (suc (greatest log)) (commits log) (length log)

-- page 1 is a leaf with all keys, a calm life may begin with it, and its rows have the committed contents
pub record IsOpened (log : List Record) : Type 0 where
  pub rows : List LeafRow
  pub leaf : image log 1 ≡ Some (only_leaf rows)
  pub calm : OpensWith log rows
  pub contents : (key : List ℕ) → live rows key ≡ finite.get (committed_contents log) key

abbrev pub OpeningLaw : List Record → Type 0
OpeningLaw log = IsOpenable log → IsOpened log
