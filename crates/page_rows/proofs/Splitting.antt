-- The least number that passes a test, found by trying one after the other.
use Rattle.std.proofs.Common.{◌≡◌, ℕ, zero, suc, ◌*◌, ◌<◌, ◌≤◌, Bool, true, false, leb, List, take, map, length, refl, sym, ap, ◌∙◌, arith}
use Rattle.std.specs.List.{sum, sum_by}
use Rattle.std.proofs.lemmas.Bool.Decides.{nat_tests}
use Rattle.std.proofs.lemmas.List.{take-map, length-map}
use Rattle.std.proofs.lemmas.List.Sums.{sum-map}
use Rattle.wal_record.specs.State.{least, split_point}

pub least_at : (passes : ℕ → Bool) (bound i : ℕ) → i < bound → ((k : ℕ) → k < i → passes k ≡ false) → passes i ≡ true → least passes bound ≡ i
least_at passes zero i lt none here = absurd (omega arith)
least_at passes (suc bound) zero lt none here = rw here refl
least_at passes (suc bound) (suc i) lt none here = rw (none 0 (omega arith)) (ap suc (least_at (λ n. passes (suc n)) bound i (omega arith) (λ k h. none (suc k) (omega arith)) here))

pub least_past : (passes : ℕ → Bool) (bound : ℕ) → ((k : ℕ) → k < bound → passes k ≡ false) → least passes bound ≡ bound
least_past passes zero none = refl
least_past passes (suc bound) none = rw (none 0 (omega arith)) (ap suc (least_past (λ n. passes (suc n)) bound (λ k h. none (suc k) (omega arith))))

le_is_true : (m n : ℕ) → m ≤ n → leb m n ≡ true
le_is_true m n h = grind (arith, nat_tests)

module _ {A : Type 0} (size : A → ℕ) (rows : List A) where
  -- the first m rows have at least half of all bytes
  abbrev pub has_half : ℕ → Bool
  has_half m = leb (sum_by size rows) (2 * sum_by size (take m rows))

  abbrev pub half_test : ℕ → Bool
  half_test m = leb (sum (map size rows)) (2 * sum (take m (map size rows)))

  same_test : (m : ℕ) → half_test m ≡ has_half m
  same_test m =
      let all : sum (map size rows) ≡ sum_by size rows = sum-map size rows in
      let some : sum (take m (map size rows)) ≡ sum_by size (take m rows) = ap sum (take-map size m rows) ∙ sum-map size (take m rows) in
      (λ i. leb (all i) (2 * some i))

  -- none of the numbers below i passes
  abbrev pub NoneBelow : ℕ → Type 0
  NoneBelow i = (k : ℕ) → k < i → has_half k ≡ false

  pub half_is : (i all kept : ℕ) → all ≡ sum_by size rows → kept ≡ sum_by size (take i rows) → all ≤ 2 * kept → has_half i ≡ true
  half_is i all kept a k le = le_is_true (sum_by size rows) (2 * sum_by size (take i rows)) (omega (arith, a, k, le))

  pub split_here : (i : ℕ) → i < length rows → NoneBelow i → has_half i ≡ true → i ≡ split_point (map size rows)
  split_here i lt none here = sym (least_at half_test (length (map size rows)) i (omega (arith, length-map rows size)) (λ k h. same_test k ∙ none k h) (same_test i ∙ here))

  pub split_past : (n : ℕ) → n ≡ length rows → NoneBelow n → n ≡ split_point (map size rows)
  split_past n e none =
      let len : length (map size rows) ≡ n = length-map rows size ∙ sym e in
      sym len ∙ sym (least_past half_test (length (map size rows)) (λ k h. same_test k ∙ none k (omega (arith, len))))
