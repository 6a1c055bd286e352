-- What one call leaves, as the next one finds it.
use Rattle.std.proofs.Common.{◌≡◌, ℕ, List, Option, refl, sym, ap, subst, ◌∙◌, ◌⊎◌, ⊎_elim, inl, inr}
use Rattle.std.specs.List.{list_any}
use Rattle.media.specs.declared.disk.Disk.{Ghosts}
use Rattle.wal_record.specs.Left.{is_commit_of}
use Rattle.wal_record.specs.declared.record.Record.{Record}
use Rattle.life_commands.specs.Stores.{AreOf, Stores}
use Rattle.life_commands.specs.LogDisk.{Keeps}
use Rattle.runner.specs.NextCall.{HandsOn, HasAcknowledged}
use Rattle.life_commands.specs.Turns.{Last, Unsynced, LeftBy, Life, Stage, IsLeftBy, MayFind, MayBeLeft, last_after}
use Rattle.life_commands.proofs.Lives.{holds_map}

-- what a stop may leave of a life has what it has acknowledged
has_acknowledged : (l : Life) (kept : ℕ) (log : List Record) → IsLeftBy l kept log → HasAcknowledged l log
has_acknowledged l kept log (own, left, is, most) t acked = ap (λ (rs : List Record). list_any (is_commit_of t) rs) is ∙ left.acknowledged t acked

left_by : (l : Life) (kept : ℕ) (last : Last) (log next : List Record) → last ≡ LeftBy l kept → MayFind last log → (next ≡ log) ⊎ MayBeLeft last next → IsLeftBy l kept next
left_by l kept last log next is found (inl same) = subst (λ (x : Last). MayFind x next) is (subst (MayFind last) (sym same) found)
left_by l kept last log next is found (inr left) = subst (λ (x : Last). MayBeLeft x next) is left

-- the log that was found, or one that may be left
handed_on : (of : List Record → Type 0) (last : Last) (log : List Record) → MayFind last log → AreOf of last → AreOf of (Unsynced log last)
handed_on of last log found h = record {
  found = λ rs same. subst of (sym same) (h.found log found);
  left = λ rs. ⊎_elim (λ same. subst of (sym same) (h.found log found)) (λ left. h.left rs left);
}

pub hands_on : {D S : Type 0} (L : Ghosts D) (B : Stores S) (s : Stage) (kept : ℕ) (disk : D) (beside : S) → Keeps L (last_after s.life s.last kept) disk → AreOf (B.are_of beside) (last_after s.life s.last kept) → HandsOn L B s disk beside
hands_on L B s kept disk beside k these =
    let last = last_after s.life s.last kept in
    let log = k.now.0 in
    record {
      kept = kept;
      log = log;
      found = k.now.1;
      stands = k.now.2;
      keeps = record { now = (log, refl, k.now.2); crash = λ c may. holds_map (MayBeLeft last) (MayBeLeft (Unsynced log last)) c (λ rs h. inr h) (k.crash c may) };
      stores = handed_on (B.are_of beside) last log k.now.1 these;
      acknowledged = λ l e next may. has_acknowledged l kept next (left_by l kept last log next (ap (λ (o : Option Life). last_after o s.last kept) e) k.now.1 may);
    }
