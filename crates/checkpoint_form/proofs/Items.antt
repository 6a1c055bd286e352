-- Items that may stand behind others.
use Rattle.std.proofs.Common.{◌≡◌, ℕ, ◌<◌, ◌≤◌, ◌^◌, List, true, sym, subst, arith}
use Rattle.std.specs.Prelude.{IsTrue, nat_le, ◌&&◌}
use Rattle.std.proofs.lemmas.Bool.Decides.{nat_tests}
use Rattle.store_model.proofs.Bools.{both_true, and_true}
use Rattle.store_model.specs.declared.limits.TheConstants.{HIGHEST}
use Rattle.wal_record.specs.Rules.{KeepsUnfinished, is_number, is_u32, rises_above, open_write_fits, run_fits, segment_fits}
use Rattle.wal_record.specs.State.{is_key}
use Rattle.wal_record.specs.declared.analysis.Run.{Run}
use Rattle.wal_record.specs.declared.record.OpenWrite.{OpenWrite}
use Rattle.wal_record.specs.declared.record.Unfinished.{Unfinished}
use Rattle.checkpoint_form.specs.Modest.{KeepsOthers}
use Rattle.checkpoint_form.proofs.Along.{top, above, rises, risen, rises_from, risen_from}

number_of : (last n : ℕ) → last < n → n ≤ HIGHEST → is_number n ≡ true
number_of last n lt le = grind (arith, nat_tests)

bounds_of : (n : ℕ) → is_number n ≡ true → (1 ≤ n) × (n ≤ HIGHEST)
bounds_of n h = let b = both_true (nat_le 1 n) (nat_le n HIGHEST) h in (grind (arith, nat_tests), grind (arith, nat_tests))

module _ {A : Type 0} (number : A → ℕ) (before : List A) (last n : ℕ) (is : last ≡ top number before) where
  place : last < n → n ≤ HIGHEST → (is_number n && rises_above number before n) ≡ true
  place lt le = and_true (is_number n) (rises_above number before n) (number_of last n lt le) (rises number before n (subst (λ (k : ℕ). k < n) is lt))

  placed : (is_number n && rises_above number before n) ≡ true → (last < n) × (n ≤ HIGHEST)
  placed h =
      let b = both_true (is_number n) (rises_above number before n) h in
      let o = bounds_of n b.0 in
      (subst (λ (k : ℕ). k < n) (sym is) (risen number before n o.0 b.1), o.1)

pub write_fits : (before : List OpenWrite) (w : OpenWrite) (last : ℕ) → last ≡ top (λ (x : OpenWrite). x.lsn) before → last < w.lsn → w.lsn ≤ HIGHEST → IsTrue (is_key w.key) → IsTrue (open_write_fits before w)
write_fits before w last is lt le key = and_true _ (is_key w.key) (place (λ (x : OpenWrite). x.lsn) before last w.lsn is lt le) key

pub write_above : (before : List OpenWrite) (w : OpenWrite) (last : ℕ) → last ≡ top (λ (x : OpenWrite). x.lsn) before → IsTrue (open_write_fits before w) → (last < w.lsn) × (w.lsn ≤ HIGHEST)
write_above before w last is h = placed (λ (x : OpenWrite). x.lsn) before last w.lsn is (both_true _ (is_key w.key) h).0

pub transaction_fits : (before : List Unfinished) (u : Unfinished) (last : ℕ) → last ≡ top (λ (x : Unfinished). x.tx) before → last < u.tx → KeepsOthers u → KeepsUnfinished before u
transaction_fits before u last is lt k = record { tx = place (λ (x : Unfinished). x.tx) before last u.tx is lt k.tx; last = k.last; undo_next = k.undo_next; count = k.count; writes = k.writes }

pub transaction_above : (before : List Unfinished) (u : Unfinished) (last : ℕ) → last ≡ top (λ (x : Unfinished). x.tx) before → KeepsUnfinished before u → (last < u.tx) × KeepsOthers u
transaction_above before u last is k =
    let b = placed (λ (x : Unfinished). x.tx) before last u.tx is k.tx in
    (b.0, record { tx = b.1; last = k.last; undo_next = k.undo_next; count = k.count; writes = k.writes })

pub run_goes_on : (before : List Run) (x : Run) (last : ℕ) → last ≡ top (λ (x : Run). x.first) before → last < x.first → x.first ≤ HIGHEST → IsTrue (is_number x.run) → IsTrue (is_number x.last) → IsTrue (run_fits before x)
run_goes_on before x last is lt le run end = and_true _ (is_number x.last) (and_true (is_number x.run) _ run (place (λ (x : Run). x.first) before last x.first is lt le)) end

pub run_above : (before : List Run) (x : Run) (last : ℕ) → last ≡ top (λ (x : Run). x.first) before → IsTrue (run_fits before x) → (last < x.first) × (x.first ≤ HIGHEST) × IsTrue (is_number x.run) × IsTrue (is_number x.last)
run_above before x last is h =
    let outer = both_true _ (is_number x.last) h in
    let inner = both_true (is_number x.run) _ outer.0 in
    let p = placed (λ (x : Run). x.first) before last x.first is inner.1 in
    (p.0, p.1, inner.0, outer.1)

pub segment_goes_on : (before : List ℕ) (s least : ℕ) → least ≡ above before → s < 2 ^ 32 → least ≤ s → IsTrue (segment_fits before s)
segment_goes_on before s least is word le = and_true (is_u32 s) _ (grind (arith, nat_tests)) (rises_from before s (subst (λ (k : ℕ). k ≤ s) is le))

pub segment_above : (before : List ℕ) (s least : ℕ) → least ≡ above before → IsTrue (segment_fits before s) → least ≤ s
segment_above before s least is h = subst (λ (k : ℕ). k ≤ s) (sym is) (risen_from before s (both_true (is_u32 s) _ h).1)
