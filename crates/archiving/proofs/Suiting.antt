-- The record of a run suits, and its object has the records of its range.
use Rattle.std.proofs.Common.{◌≡◌, ◌≢◌, ℕ, ◌+◌, ◌^◌, ◌<◌, ◌≤◌, true, List, [], ◌∷◌, ◌++◌, length, refl, sym, ap, ◌∙◌, arith}
use Rattle.std.specs.Prelude.{not}
use Rattle.std.proofs.lemmas.Bool.Decides.{nat_tests}
use mathlib.Core.List.{IsPrefix}
use Rattle.wal_record.specs.History.{life_log, log_of}
use Rattle.wal_record.specs.OpenWrites.{has_items}
use Rattle.wal_record.specs.Rules.{HasSpelling, is_number}
use Rattle.wal_record.specs.Sound.{AreLawful}
use Rattle.wal_record.specs.declared.record.Record.{Record}
use Rattle.wal_record.specs.declared.record.RunDone.{RunDone}
use Rattle.wal_record.specs.declared.entry.Entry.{Entry}
use Rattle.claim_laws.specs.Suiting.{Suits}
use Rattle.log_archive.specs.Items.{chunks_of, numbered, part}
use Rattle.log_archive.specs.Run.{run_bytes}
use Rattle.log_archive.specs.Shelves.{Gathered, Gathering, HasItems}
use Rattle.log_archive.specs.declared.item.Numbered.{Numbered}
use Rattle.page_ops.proofs.Staying.{longer_log}
use Rattle.named_objects.specs.Named.{Tells, record_of}
use Rattle.named_objects.specs.declared.naming.Naming.TheVariants as namings
use Rattle.named_objects.proofs.Drafting.{part_later}
use Rattle.archiving.specs.Going.{ComesNext, IsLifeLog}
use Rattle.archiving.specs.declared.waiting.Waiting.{Waiting}
use Rattle.archiving.proofs.Standing.{rule}

some_items : (log : List Record) → log ≢ [] → has_items log ≡ true
some_items [] some = absurd (some refl)
some_items (r ∷ rs) some = refl

is_a_number : (n : ℕ) → 1 ≤ n → n < 2 ^ 63 → is_number n ≡ true
is_a_number n one small = grind (arith, nat_tests)

module _ (run first last : ℕ) where
  abbrev pub done : RunDone
  done = record { run = run; first = first; last = last }

  pub spelled : 1 ≤ run → run < 2 ^ 63 → 1 ≤ first → first ≤ last → last < 2 ^ 63 → HasSpelling (record_of (namings.Run done))
  spelled one small begins order ends = record { run = is_a_number run one small; first = is_a_number first begins (omega (arith, order, ends)); last = is_a_number last (omega (arith, begins, order)) ends }

-- at a moment at which this run comes next
pub suits : (opening : List Record) (h : List Entry) (w : Waiting) (last : ℕ) → HasSpelling (record_of (namings.Run (done w.run w.first last))) → AreLawful (life_log opening h) → life_log opening h ≢ [] → ComesNext (life_log opening h) w → w.first ≤ last
    → last ≤ length (life_log opening h) → w.stood < 1024 → Suits opening h (record_of (namings.Run (done w.run w.first last)))
suits opening h w last fields lawful some next order ends room = record {
  lawful = record {
    first = sym (ap not (some_items (life_log opening h) some));
    fields = fields;
    chain = tt;
    heads = tt;
    applicable = λ p n. absurd (cc n);
    place = tt;
    value = tt;
    upkeep = rule (life_log opening h) lawful w next last order ends room;
  };
  rule = tt;
}

-- the bytes of the items that were gathered, at a later moment
pub tells : (opens : List Record → Type 0) (h now : List Entry) (run first last : ℕ) (g : Gathering) (bytes : List ℕ) → Gathered (IsLifeLog opens h) first (last + 1) g → 1 ≤ first → first ≤ last → ((opening : List Record) → opens opening → last ≤ length (life_log opening h)) → IsPrefix h now
    → ((items : List Numbered) → HasItems g items → bytes ≡ run_bytes run first last (chunks_of items)) → (opening : List Record) → opens opening → Tells (life_log opening now) (namings.Run (done run first last)) bytes
tells opens h now run first last g bytes x one order there begins spelled opening stands =
    let told : x.records ≡ part first (last + 1) (life_log opening h) = x.told (life_log opening h) (opening, stands, refl) in
    let longer : life_log opening now ≡ life_log opening h ++ log_of begins.0 = ap (life_log opening) (sym begins.1) ∙ longer_log opening h begins.0 in
    let same : part first (last + 1) (life_log opening now) ≡ part first (last + 1) (life_log opening h) = ap (part first (last + 1)) longer ∙ part_later (life_log opening h) (log_of begins.0) first last one order (there opening stands) in
    spelled (numbered first x.records) x.items ∙ ap (λ (rs : List Record). run_bytes run first last (chunks_of (numbered first rs))) (told ∙ sym same)
