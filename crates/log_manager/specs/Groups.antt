-- Groups of records, each whole in one block.
use Rattle.std.specs.Prelude.{◌≡◌, ◌≤◌, ℕ, List, [], ◌∷◌, ◌++◌, length, take, flat_map}
use Rattle.log_blocks.specs.Batch.{records_in}
use Rattle.log_blocks.specs.Log.{Block}
use Rattle.wal_record.specs.declared.record.Record.{Record}

-- the records of groups, one group behind the other
abbrev pub records_of : List (List Record) → List Record
records_of groups = flat_map (λ g. g) groups

-- the records that these blocks count are those of some groups, each block's some whole ones
abbrev pub HoldGroups : List Block → List (List Record) → Type 0
HoldGroups [] groups = groups ≡ []
HoldGroups (b ∷ bs) groups = (own : List (List Record)) × (more : List (List Record)) × (groups ≡ own ++ more) × (b.count ≡ length (records_of own)) × HoldGroups bs more

-- the first n records are those of some whole blocks
pub record EndsBlock (bs : List Block) (n : ℕ) : Type 0 where
  pub blocks : ℕ
  pub records : n ≡ records_in (take blocks bs)

-- the first n records are those of some whole groups
pub record EndsGroup (groups : List (List Record)) (n : ℕ) : Type 0 where
  pub whole : ℕ
  pub within : whole ≤ length groups
  pub records : take n (records_of groups) ≡ records_of (take whole groups)

-- where a block ends, a group ends
abbrev pub EndsTogether : Type 0
EndsTogether = (bs : List Block) (groups : List (List Record)) (n : ℕ) → HoldGroups bs groups → EndsBlock bs n → EndsGroup groups n
