-- What holds where no life is open, and in a life that has just begun.
use Rattle.std.proofs.Common.{◌≡◌, ℕ, true, List, [], Option, refl, sym, ap, subst, append-nil, arith}
use Rattle.std.specs.List.{All, list_any}
use Rattle.media.specs.declared.disk.Disk.{Ghosts}
use Rattle.log_manager.specs.Devices.{DevicesStandFor}
use Rattle.wal_record.specs.Left.{IsLeft, acknowledges}
use Rattle.wal_record.specs.History.{log_of}
use Rattle.wal_record.specs.Sound.{IsSound}
use Rattle.wal_record.specs.declared.record.Record.{Record}
use Rattle.wal_record.specs.declared.entry.Entry.{Entry}
use Rattle.runner.specs.declared.at.At.{At}
use Rattle.runner.specs.declared.at.At.TheVariants.{Outside, Inside}
use Rattle.life_commands.specs.Bytes.{Known}
use Rattle.life_commands.specs.LogDisk.{Keeps}
use Rattle.life_commands.specs.Stores.{AreOf, Stores}
use Rattle.life_commands.specs.Living.{Out, Safe}
use Rattle.runner.specs.Devices.{AreOfAt, Rests, Stored}
use Rattle.store_log.specs.Beginnings.{Beginning}
use Rattle.runner.specs.Machine.{Begun, IsAt}
use Rattle.life_commands.specs.Turns.{Life, Stage, LeftBy, IsLeftBy, IsRightLife, lives_of, last_after, bytes_after}
use Rattle.life_commands.proofs.Lives.{keeps_only, right_more}
use Rattle.runner.specs.Causes.{disk_at}
use Rattle.runner.proofs.Stores.{begun_of}
use Rattle.runner.proofs.Rights.{right_life}

module _ {D : Type 0} (L : Ghosts D) where
  pub safe_out : (T : Type 0) (kept : ℕ) (disk : D) (s : Stage) → Out T L disk s → Safe T L kept disk s
  safe_out T kept disk s h = record {
    right = λ t. subst (λ (x : Option Life). All IsRightLife (lives_of x s.past)) (sym h.life) (h.past t);
    leaves = λ t. subst (λ (x : Option Life). Keeps L (last_after x s.last kept) disk) (sym h.life) (h.keeps t);
    bytes = subst (λ (x : Option Life). Known T L (bytes_after x s.bytes) disk) (sym h.life) h.bytes;
    goes = h.goes;
    fuse = h.fused.fuse;
  }

  -- a life that has just begun, as its log disk stands
  begun_keeps : (l : Life) (disk : D) → ◌≡◌ {A = List Entry} l.history [] → DevicesStandFor L.told L.may_leave disk l.opening → Keeps L (LeftBy l 0) disk
  begun_keeps l disk none d =
      let left : IsLeft l.opening l.history [] = record {
        lost = [];
        whole = ap log_of none;
        sound = subst IsSound (sym (append-nil l.opening)) d.sound;
        acknowledged = λ t acked. absurd (let e : list_any (acknowledges t) [] ≡ true = subst (λ (h : List Entry). list_any (acknowledges t) h ≡ true) none acked in cc);
      } in
      let here : IsLeftBy l 0 l.opening = ([], left, sym (append-nil l.opening), omega arith) in
      keeps_only L (LeftBy l 0) disk (l.opening, here, record { sound = d.sound; bs = d.log_disk.bs; stands = d.log_disk.stands; records = d.log_disk.records }) d.log_disk.only

  -- nothing has happened in it, so it is right
  pub begun_right : (opening : List Record) → IsSound opening → IsRightLife (record { opening = opening; history = [] })
  begun_right opening sound = right_life opening sound

  pub safe_begun : (T : Type 0) (b : Beginning D) (s : Stage) → Begun T L b s → Safe T L 0 b.log.log.device s
  safe_begun T b s h = record {
    right = λ t. subst (λ (o : Option Life). All IsRightLife (lives_of o s.past)) (sym h.life) (right_more L s.past (record { opening = h.opening; history = [] }) (h.past t) (begun_right h.opening (h.begins t).may.sound));
    leaves = λ t. subst (λ (o : Option Life). Keeps L (last_after o s.last 0) b.log.log.device) (sym h.life) (begun_keeps (record { opening = h.opening; history = [] }) b.log.log.device refl (h.begins t).stands);
    bytes = subst (λ (o : Option Life). Known T L (bytes_after o s.bytes) b.log.log.device) (sym h.life) tt;
    goes = h.goes;
    fuse = h.fused.fuse;
  }

module _ {D S : Type 0} (T : Type 0) (L : Ghosts D) (B : Stores S) (beside : S) where
  pub rests_out : (disk : D) (s : Stage) → Stored L.tells B beside (Out T L disk) s → Rests T L B 0 disk beside s
  rests_out disk s h = record {
    safe = safe_out L T 0 disk s h.here;
    stores = λ t. subst (λ (o : Option Life). AreOf (B.are_of beside) (last_after o s.last 0)) (sym h.here.life) (subst (λ (o : Option Life). AreOfAt (B.are_of beside) o s.last) h.here.life (h.stores t));
  }

  pub rests_begun : (b : Beginning D) (s : Stage) → Stored L.tells B beside (Begun T L b) s → Rests T L B 0 b.log.log.device beside s
  rests_begun b s h =
      let l : Life = record { opening = h.here.opening; history = [] } in
      record {
        safe = safe_begun L T b s h.here;
        stores = λ t. subst (λ (o : Option Life). AreOf (B.are_of beside) (last_after o s.last 0)) (sym h.here.life)
            (begun_of (B.are_of beside) l refl (subst (λ (o : Option Life). AreOfAt (B.are_of beside) o s.last) h.here.life (h.stores t)));
      }

  pub rests_at : (at : At D (Beginning D)) (s : Stage) → Stored L.tells B beside (IsAt T L (Begun T L) at) s → Rests T L B 0 (disk_at (λ b. b.log.log.device) at) beside s
  rests_at (Outside disk) s h = rests_out disk s (record { here = h.here; told = h.told; stores = h.stores })
  rests_at (Inside b) s h = rests_begun b s (record { here = h.here; told = h.told; stores = h.stores })
