-- Images that earlier lives wrote, as a pass that has seen nothing of the life knows them; and what a stop leaves of images.
use Rattle.std.proofs.Common.{◌≡◌, ℕ, ◌≤◌, List, [], length, sym, ap, ◌∙◌, subst, arith, append-nil}
use mathlib.Core.List.{IsPrefix}
use Rattle.front.specs.Seen.{PassSeen}
use Rattle.page_repair.specs.Images.{AreWritten, IsImage}
use Rattle.page_repair.proofs.Staying.{all_later}
use Rattle.wal_record.specs.History.{life_log}
use Rattle.wal_record.specs.declared.entry.Entry.{Entry}
use Rattle.wal_record.specs.declared.record.Record.{Record}
use Rattle.plain_store.specs.Opens.{AreEarlier}

more_durable : (log : List Record) (m n page : ℕ) (bytes : List ℕ) → m ≤ n → IsImage log m page bytes → IsImage log n page bytes
more_durable log m n page bytes le i = record { sealed = i.sealed; durable_upto = let low = i.durable_upto in omega (arith, low, le) }

pub earlier_written : {P : Type 0} (opens : List Record → Type 0) (told : P → ℕ → List ℕ → Type 0) (device : P) (pass : PassSeen Entry) → AreEarlier opens told device → pass.log ≡ [] → ((opening : List Record) → opens opening → length opening ≤ pass.durable)
    → AreWritten opens told pass device
earlier_written opens told device pass images seen durable page bytes has opening stands =
    subst (λ (l : List Record). IsImage l pass.durable page bytes) (sym (ap (life_log opening) seen ∙ append-nil opening)) (more_durable opening (length opening) pass.durable page bytes (durable opening stands) (images opening stands page bytes has))

-- what images are made of, as one knows it who has seen the whole history
pub written_left : {P : Type 0} (opens : List Record → Type 0) (told : P → ℕ → List ℕ → Type 0) (device : P) (p q : PassSeen Entry) (h : List Entry) → IsPrefix p.log q.log → p.durable ≤ q.durable → q.log ≡ h
    → AreWritten opens told p device → AreWritten opens told (record { log = h; durable = q.durable }) device
written_left opens told device p q h begins later whole written =
    subst (λ (l : List Entry). AreWritten opens told (record { log = l; durable = q.durable }) device) whole (all_later opens told p q device begins later written)
