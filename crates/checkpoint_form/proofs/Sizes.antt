-- A modest Checkpoint that keeps its rules isn't long.
use Rattle.std.proofs.lemmas.Bool.Decides.{nat_tests}
use Rattle.std.proofs.Common.{◌≡◌, ℕ, ◌++◌, ◌<◌, ◌≤◌, ◌^◌, true, List, [], ◌∷◌, length, arith}
use Rattle.std.specs.Prelude.{IsTrue}
use Rattle.store_model.specs.Along.{AllAlong, AllFrom}
use Rattle.store_model.proofs.Bools.{both_true}
use Rattle.listing_laws.proofs.Sizes as sizes
use Rattle.listing_laws.proofs.Rising.{Each}
use Rattle.wal_record.specs.Rules.{KeepsCheckpoint, KeepsUnfinished, is_next, is_u16, is_u32, open_write_fits}
use Rattle.wal_record.specs.Spelling.{spelling}
use Rattle.wal_record.specs.Checkpoints.{checkpoint_of}
use Rattle.wal_record.specs.Sound.{AreLawful}
use Rattle.wal_record.specs.State.{is_key}
use Rattle.wal_record.specs.declared.record.Record.{Record}
use Rattle.wal_record.specs.declared.record.Checkpoint.{Checkpoint}
use Rattle.wal_record.specs.declared.record.OpenWrite.{OpenWrite}
use Rattle.wal_record.specs.declared.record.Unfinished.{Unfinished}
use Rattle.wal_record.specs.declared.record.Record.TheVariants as kinds
use Rattle.checkpoint_form.specs.Modest.{IsModest, KeepsLists}

-- the keys of open writes
keys_from : (before ws : List OpenWrite) → AllFrom (λ before w. IsTrue (open_write_fits before w)) before ws → Each sizes.HasKey ws
keys_from before [] h = tt
keys_from before (w ∷ ws) h = ((both_true _ (is_key w.key) h.0).1, keys_from (before ++ w ∷ []) ws h.1)

keys_in : (ws : List OpenWrite) → AllAlong (λ before w. IsTrue (open_write_fits before w)) ws → Each sizes.HasKey ws
unfolding AllAlong
keys_in ws h = keys_from [] ws h

each_from : (before us : List Unfinished) → AllFrom KeepsUnfinished before us → Each sizes.HaveKeys us
each_from before [] h = tt
each_from before (u ∷ us) h = (keys_in u.writes h.0.writes, each_from (before ++ u ∷ []) us h.1)

each_in : (us : List Unfinished) → AllAlong KeepsUnfinished us → Each sizes.HaveKeys us
unfolding AllAlong
each_in us h = each_from [] us h

pub short : (c : Checkpoint) → IsModest c → KeepsLists c → length (spelling (kinds.Checkpoint c)) ≤ 2 ^ 21
short c m k = sizes.modest_size c (record { room = m.room; few = m.few; keys = each_in c.transactions k.transactions; unrestored = m.unrestored; runs = m.runs })

few32 : (n : ℕ) → n ≤ 16385 → is_u32 n ≡ true
few32 n h = grind (arith, nat_tests)

few16 : (n : ℕ) → n ≤ 1024 → is_u16 n ≡ true
few16 n h = grind (arith, nat_tests)

pub kept : (c : Checkpoint) → IsModest c → IsTrue (is_next c.next_tx) × IsTrue (is_next c.next_backup) × IsTrue (is_next c.next_run) → KeepsLists c → c.commits < 2 ^ 64 → c.limit < 2 ^ 32 → c.lost < 2 ^ 32 → KeepsCheckpoint c
kept c m n k commits limit lost =
    let room = m.room in
    let few = m.few in
    let unrestored = m.unrestored in
    record {
      next_tx = n.0;
      commits = grind (arith, nat_tests);
      limit = grind (arith, nat_tests);
      pages_count = few32 (length c.pages) (omega (arith, room));
      pages = k.pages;
      transactions_count = few32 (length c.transactions) (omega (arith, room, few));
      transactions = k.transactions;
      lost = grind (arith, nat_tests);
      unrestored_count = few32 (length c.unrestored) (omega (arith, unrestored));
      unrestored = k.unrestored;
      runs_count = few16 (length c.runs) m.runs;
      runs = k.runs;
      next_backup = n.1;
      next_run = n.2;
    }

pub lawful_modest : (log : List Record) → AreLawful log → IsModest (checkpoint_of log)
lawful_modest log lawful = let m = sizes.modest log lawful in record { room = m.room; few = m.few; unrestored = m.unrestored; runs = m.runs }
