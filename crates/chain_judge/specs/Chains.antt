-- Where the transactions of a log stand, as it is kept.
use Rattle.std.specs.Prelude.{◌≡◌, ◌<◌, ℕ, List, [], ◌∷◌, Option, Some, None, is_some, unwrap_or, Bool, false, IsTrue, vec_len, vec_capacity}
use Rattle.std.specs.List.{list_any}
use Rattle.std.specs.Option.{option_map_or}
use Rattle.std.specs.Ordering.{nat_cmp}
use Rattle.std.specs.BTreeMap.{BTreeMap, get}
use Rattle.wal_record.specs.State.{same_key}
use Rattle.wal_record.specs.Chains.{finishes, last}
use Rattle.wal_record.specs.OpenWrites.{open_writes}
use Rattle.wal_record.specs.declared.record.Undo.{Undo}
use Rattle.wal_record.specs.declared.record.Record.{Record}
use Rattle.wal_record.specs.declared.record.Record.TheVariants as kinds
use Rattle.chain_judge.specs.declared.chain.Chain.{Chain}
use Rattle.chain_judge.specs.declared.chain.OpenChange.{OpenChange}
use Rattle.chain_judge.specs.declared.chains.Chains.{Chains}

-- ---- what the maps have

abbrev pub last_in : BTreeMap ℕ Chain → ℕ → ℕ
last_in m t = option_map_or (λ (c : Chain). c.last) (get nat_cmp m t) 0

abbrev pub writes_in : BTreeMap ℕ Chain → ℕ → List OpenChange
writes_in m t = option_map_or (λ (c : Chain). c.writes.items) (get nat_cmp m t) []

abbrev pub is_in : BTreeMap ℕ Bool → ℕ → Bool
is_in m t = unwrap_or (get nat_cmp m t) false

-- ---- open writes

-- what is kept of the record
abbrev pub IsChange : OpenChange → Record → Type 0
IsChange x (kinds.Write w) = (x.key ≡ w.key) × (x.old ≡ w.old) × (x.prev ≡ w.prev)
IsChange x (kinds.Apply a) = (x.key ≡ a.key) × (x.old ≡ a.old) × (x.prev ≡ a.prev)
IsChange x _ = ⊥

-- what is kept of these records, one by one
abbrev pub AreChanges : List OpenChange → List Record → Type 0
AreChanges [] [] = Unit {0}
AreChanges [] (r ∷ rs) = ⊥
AreChanges (x ∷ xs) [] = ⊥
AreChanges (x ∷ xs) (r ∷ rs) = IsChange x r × AreChanges xs rs

abbrev pub is_at_key : List ℕ → OpenChange → Bool
is_at_key key x = same_key key x.key

-- the undo takes back this change
abbrev pub TakesLast : Undo → Option OpenChange → Type 0
TakesLast u None = ⊥
TakesLast u (Some x) = (u.key ≡ x.key) × (u.restores ≡ x.old) × (u.undo_next ≡ x.prev)

-- ---- what they are of a log

-- the last record of each transaction that isn't over, who is over, and the open writes of each
pub record AreKept (log : List Record) (lasts : ℕ → ℕ) (overs : ℕ → Bool) (writes : ℕ → List OpenChange) : Type 0 where
  pub last : (t : ℕ) → list_any (finishes t) log ≡ false → lasts t ≡ last log t
  pub over : (t : ℕ) → overs t ≡ list_any (finishes t) log
  pub opened : (t : ℕ) → AreChanges (writes t) (open_writes log t)

unfoldable pub AreChainsOf : List Record → Chains → Type 0
AreChainsOf log x = AreKept log (last_in x.running) (is_in x.over) (writes_in x.running)

-- ---- what is ready for a record, so that noting it takes no memory

abbrev pub IsRoomy : Option Chain → Type 0
IsRoomy None = ⊥
IsRoomy (Some c) = vec_len c.writes < vec_capacity c.writes

-- the transaction is there, with room for one more open write
abbrev pub HasRoom : BTreeMap ℕ Chain → ℕ → Type 0
HasRoom m t = IsRoomy (get nat_cmp m t)

abbrev pub IsReady : Record → Chains → Type 0
IsReady (kinds.Write w) x = HasRoom x.running w.tx
IsReady (kinds.Apply a) x = HasRoom x.running a.tx
IsReady (kinds.Undo u) x = HasRoom x.running u.tx
IsReady (kinds.Commit c) x = IsTrue (is_some (get nat_cmp x.over c.tx))
IsReady (kinds.End e) x = IsTrue (is_some (get nat_cmp x.over e.tx))
IsReady _ x = Unit {0}
