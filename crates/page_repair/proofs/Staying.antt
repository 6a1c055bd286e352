-- An image that was made of the log stays one of each longer log.
use Rattle.std.proofs.Common.{◌≡◌, ℕ, ◌≤◌, List, ◌++◌, sym, ap, ◌∙◌, subst, arith, length-append}
use Rattle.std.specs.Prelude.{take}
use Rattle.std.proofs.lemmas.List.{take-append-le}
use mathlib.Core.List.{IsPrefix}
use Rattle.front.specs.Seen.{PassSeen}
use Rattle.page_image.specs.Image.{image_bytes}
use Rattle.page_ops.proofs.Staying.{longer_log}
use Rattle.wal_record.specs.Chains.{head}
use Rattle.wal_record.specs.History.{life_log, log_of}
use Rattle.wal_record.specs.Images.{image}
use Rattle.wal_record.specs.declared.record.Record.{Record}
use Rattle.wal_record.specs.declared.entry.Entry.{Entry}
use Rattle.page_repair.specs.Images.{IsImage, IsWritten, AreWritten}

more_sealed : (log more : List Record) (durable durable' page : ℕ) (bytes : List ℕ) → durable ≤ durable' → IsImage log durable page bytes → IsImage (log ++ more) durable' page bytes
more_sealed log more durable durable' page bytes later x =
    let s = x.sealed in
    let same : take s.upto (log ++ more) ≡ take s.upto log = take-append-le s.upto log more s.within in
    record {
      sealed = record {
        upto = s.upto;
        within = let w = s.within in omega (arith, w, length-append log more);
        state = s.state;
        image = ap (λ (l : List Record). image l page) same ∙ s.image;
        sealed = s.sealed ∙ ap (λ (l : List Record). image_bytes page (head l page) s.state) (sym same);
      };
      durable_upto = let d = x.durable_upto in omega (arith, d, later);
    }

pub written_later : (opens : List Record → Type 0) (p q : PassSeen Entry) (page : ℕ) (bytes : List ℕ) → IsPrefix p.log q.log → p.durable ≤ q.durable → IsWritten opens p page bytes → IsWritten opens q page bytes
written_later opens p q page bytes begins later w opening stands =
    let is : life_log opening q.log ≡ life_log opening p.log ++ log_of begins.0 = ap (life_log opening) (sym begins.1) ∙ longer_log opening p.log begins.0 in
    subst (λ (l : List Record). IsImage l q.durable page bytes) (sym is) (more_sealed (life_log opening p.log) (log_of begins.0) p.durable q.durable page bytes later (w opening stands))

pub all_later : {D : Type 0} (opens : List Record → Type 0) (told : D → ℕ → List ℕ → Type 0) (p q : PassSeen Entry) (device : D) → IsPrefix p.log q.log → p.durable ≤ q.durable → AreWritten opens told p device → AreWritten opens told q device
all_later opens told p q device begins later all page bytes there = written_later opens p q page bytes begins later (all page bytes there)
