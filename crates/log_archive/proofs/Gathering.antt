-- Records that are gathered one by one.
use Rattle.std.proofs.Common.{◌≡◌, ℕ, zero, suc, ◌+◌, ◌-◌, ◌^◌, ◌<◌, ◌≤◌, List, [], ◌∷◌, ◌++◌, length, take, drop, Option, Some, None, refl, sym, ap, subst, ◌∙◌, arith}
use Rattle.std.specs.Prelude.{Result, Ok, Err, OnOk, IfSome, IsTrue, slice_get}
use Rattle.std.proofs.lemmas.Bool.Decides.{nat_tests}
use Rattle.std.proofs.lemmas.List.{length-append}
use Rattle.std.proofs.lemmas.List.Elements.{All-push}
use Rattle.wal_record.specs.Chains.{record_with}
use Rattle.wal_record.specs.Rules.{HasSpelling, is_number}
use Rattle.wal_record.specs.declared.record.Record.{Record}
use Rattle.log_archive.specs.Items.{numbered, part}
use Rattle.log_archive.specs.Shelves.{Gathered, Gathering, HasItems}
use Rattle.log_archive.specs.declared.item.Numbered.{Numbered}
use Rattle.log_archive.proofs.Sizes.{no_size}
use Rattle.media.specs.Objects.{Stored}
use Rattle.store_model.specs.declared.fault.Fault.{Fault}
use Rattle.store_model.specs.declared.object.ObjectName.{ObjectName}
use Rattle.vault_objects.specs.Stored.{Stores}
use Rattle.log_archive.specs.Answers.{SpellsRun, StoresRun}
use Rattle.log_archive.specs.Run.{run_name}

pub nothing_gathered : (answers : List Record → Type 0) (first : ℕ) → Gathered answers first first (record { size = 0; shelves = [] })
nothing_gathered answers first = record {
  records = [];
  count = omega arith;
  spelled = λ k d lt. absurd (omega arith);
  told = λ log known. let none : first - first ≡ 0 = omega arith in sym (ap (λ (n : ℕ). take n (drop (first - 1) log)) none);
  items = record { size = sym no_size; holds = record { each = λ p. refl; few = omega arith } };
}

numbered_more : (first : ℕ) (rs : List Record) (r : Record) → numbered first (rs ++ r ∷ []) ≡ numbered first rs ++ record { lsn = first + length rs; rec = r } ∷ []
numbered_more first [] r = let e : first ≡ first + 0 = omega arith in ap (λ (n : ℕ). record { lsn = n; rec = r } ∷ []) e
numbered_more first (q ∷ rs) r =
    let e : suc first + length rs ≡ first + suc (length rs) = omega arith in
    ap (λ (l : List Numbered). record { lsn = first; rec = q } ∷ l) (numbered_more (suc first) rs r ∙ ap (λ (n : ℕ). numbered (suc first) rs ++ record { lsn = n; rec = r } ∷ []) e)

taken : (xs : List Record) (a k n : ℕ) (r : Record) → n ≡ a + k → slice_get xs n ≡ Some r → take (suc k) (drop a xs) ≡ take k (drop a xs) ++ r ∷ []
taken [] a k n r is e = absurd cc
taken (x ∷ xs) zero zero zero r is e = let same : x ≡ r = cc in ap (λ (y : Record). y ∷ []) same
taken (x ∷ xs) zero zero (suc n) r is e = absurd (omega arith)
taken (x ∷ xs) zero (suc k) zero r is e = absurd (omega arith)
taken (x ∷ xs) zero (suc k) (suc n) r is e = ap (λ (l : List Record). x ∷ l) (taken xs zero k n r (omega arith) e)
taken (x ∷ xs) (suc a) k zero r is e = absurd (omega arith)
taken (x ∷ xs) (suc a) k (suc n) r is e = taken xs a k n r (omega arith) e

pub part_more : (first lsn : ℕ) (rs : List Record) (r : Record) (log : List Record) → first + length rs ≡ lsn → 1 ≤ first → rs ≡ part first lsn log → record_with log lsn ≡ Some r → rs ++ r ∷ [] ≡ part first (lsn + 1) log
part_more first lsn rs r log count one told found =
    let place : lsn ≡ suc ((first - 1) + length rs) = omega (arith, count, one) in
    let at : slice_get log ((first - 1) + length rs) ≡ Some r = ap (record_with log) (sym place) ∙ found in
    let n : (lsn + 1) - first ≡ suc (length rs) = omega (arith, count) in
    let m : lsn - first ≡ length rs = omega (arith, count) in
    ap (λ (l : List Record). l ++ r ∷ []) (told ∙ ap (λ (k : ℕ). take k (drop (first - 1) log)) m) ∙ sym (taken log (first - 1) (length rs) ((first - 1) + length rs) r refl at) ∙ ap (λ (k : ℕ). take k (drop (first - 1) log)) (sym n)

pub items_more : (first lsn : ℕ) (rs : List Record) (r : Record) → first + length rs ≡ lsn → numbered first rs ++ record { lsn = lsn; rec = r } ∷ [] ≡ numbered first (rs ++ r ∷ [])
items_more first lsn rs r count = ap (λ (k : ℕ). numbered first rs ++ record { lsn = k; rec = r } ∷ []) (sym count) ∙ sym (numbered_more first rs r)

pub gathered_more : (answers : List Record → Type 0) (first lsn : ℕ) (old new : Gathering) (r : Record) → (g : Gathered answers first lsn old) → HasSpelling r → ((log : List Record) → answers log → record_with log lsn ≡ Some r) → 1 ≤ first
    → HasItems new (numbered first g.records ++ record { lsn = lsn; rec = r } ∷ []) → Gathered answers first (lsn + 1) new
gathered_more answers first lsn old new r g spelled found one more =
    let count = g.count in
    record {
      records = g.records ++ r ∷ [];
      count = omega (arith, count, length-append g.records (r ∷ []));
      spelled = All-push HasSpelling g.records r g.spelled spelled;
      told = λ log known. part_more first lsn g.records r log g.count one (g.told log known) (found log known);
      items = subst (HasItems new) (items_more first lsn g.records r g.count) more;
    }

pub number_from_one : (n : ℕ) → IsTrue (is_number n) → 1 ≤ n
number_from_one n h = grind (arith, nat_tests)

-- where the end was known before a call that went well, it can't have been
pub ends_still : (start before after : Option ℕ) → IfSome start (λ at. before ≡ Some at) → IfSome before (λ at. (after ≡ Some at) × ⊥) → IfSome start (λ at. after ≡ Some at)
ends_still None before after one two = tt
ends_still (Some at) before after one two = absurd (subst (λ (o : Option ℕ). IfSome o (λ n. (after ≡ Some n) × ⊥)) one two).1

-- ---- the bytes of a run, put

pub stores_run : {T : Type 0} (answers : List Record → Type 0) (run first last : ℕ) (bytes : List ℕ) (old new : ObjectName → Stored) (result : Result T Fault) → SpellsRun answers run first last bytes → OnOk result (Stores (run_name run) bytes old new) → OnOk result (StoresRun answers run first last old new)
stores_run answers run first last bytes old new (Ok x) s there = record {
  records = s.records;
  count = s.count;
  spelled = s.spelled;
  told = s.told;
  stored = subst (λ (b : List ℕ). Stores (run_name run) b old new) s.is there;
  short = subst (λ (b : List ℕ). length b < 2 ^ 32) s.is s.short;
}
stores_run answers run first last bytes old new (Err f) s there = tt
