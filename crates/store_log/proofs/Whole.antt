-- Of a log that keeps its first record, all is on the disk.
use Rattle.std.proofs.Common.{◌≡◌, ℕ, ◌≤◌, suc, List, [], ◌∷◌, refl, sym, subst, arith}
use Rattle.std.specs.Prelude.{zero, Some}
use Rattle.std.specs.List.{All}
use Rattle.std.proofs.lemmas.List.Elements.{All-nil, All-cons}
use Rattle.log_blocks.specs.Log.{Block, first_lsn}
use Rattle.log_manager.specs.Records.{AreRecordsOf, StandsForRecords}
use Rattle.wal_record.specs.Chains.{record_with}
use Rattle.wal_record.specs.OpenWrites.{open_writes, open_list}
use Rattle.wal_record.specs.declared.record.OpenWrite.{OpenWrite}
use Rattle.wal_record.specs.declared.record.Record.{Record}
use Rattle.log_laws.specs.Places.{AllPlaced}
use Rattle.log_laws.proofs.Places.{places}
use Rattle.log_manager.specs.Devices.{IsEnough, HoldEnd}
use Rattle.media.specs.Kept.{Kept}
use Rattle.wal_record.specs.Sound.{IsSound}
use Rattle.life_commands.specs.LogDisk.{StandsOn}

has_lsn : (log : List Record) (n : ℕ) (r : Record) → record_with log n ≡ Some r → 1 ≤ n
has_lsn log zero r e = absurd cc
has_lsn log (suc n) r e = omega arith

all_numbered : (log : List Record) (ws : List OpenWrite) (rs : List Record) → AllPlaced log ws rs → All (λ (w : OpenWrite). 1 ≤ w.lsn) ws
all_numbered log [] [] p = All-nil (λ (w : OpenWrite). 1 ≤ w.lsn)
all_numbered log (w ∷ ws) (r ∷ rs) p = All-cons (λ (w : OpenWrite). 1 ≤ w.lsn) w ws (has_lsn log w.lsn r p.0) (all_numbered log ws rs p.2)
all_numbered log _ _ p = absurd p

-- all records are enough for an opening
enough_whole : (log : List Record) → IsEnough log 1
enough_whole log = record {
  checkpoint = omega arith;
  losers = λ t. all_numbered log (open_list log t) (open_writes log t) (places log t).placed;
  runs = omega arith;
}

hold_whole : (log : List Record) (bs : List Block) → AreRecordsOf 0 bs log → first_lsn bs ≡ 1 → HoldEnd log bs
hold_whole log bs a one = record { dropped = []; kept = log; is = refl; records = a; first = one; enough = subst (IsEnough log) (sym one) (enough_whole log) }

-- ---- what the kept bytes stand for

pub stands_on : (log : List Record) (k : Kept) → IsSound log → (s : StandsForRecords 0 log k) → first_lsn s.bs ≡ 1 → StandsOn log k
stands_on log k sound s one = record { sound = sound; bs = s.bs; stands = s.stands; records = hold_whole log s.bs s.records one }
