-- Texts are ordered as the numbers of their first bytes, and where these are the same as what is behind.
use Rattle.std.proofs.Common.{◌≡◌, ◌≤◌, ◌<◌, ◌⊎◌, ◌+◌, ◌*◌, ◌^◌, ℕ, zero, suc, inl, inr, List, [], ◌∷◌, ◌++◌, length, drop, append-nil, refl, sym, ap, ◌∙◌, arith}
use Rattle.std.specs.List.{slice_index, slice_range}
use Rattle.std.specs.declared.cmp.Ordering.{Ordering}
use Rattle.std.specs.declared.cmp.Ordering.TheVariants.{Less, Equal, Greater}
use Rattle.std.specs.Ordering.{nat_cmp, ordering_then, MatchOrdering}
use Rattle.std.specs.Cmp.Lexicographic.{slice_cmp}
use Rattle.std.proofs.lemmas.Cmp.{ranked}
use Rattle.std.proofs.Math.Nat.{mul-le-mul_right}
use Rattle.std.proofs.Math.Seq.{drop-length}
use Rattle.std.proofs.lemmas.List.Folds.{drop_split}
use Rattle.std.proofs.lemmas.Nat.{mul-add-lt}
use Rattle.text_order.specs.Words.{word}

abbrev pub AreBytes : List ℕ → Type 0
AreBytes xs = (i : ℕ) → slice_index xs i < 256

-- ---- the order of numbers

is_less : (a b : ℕ) → a < b → nat_cmp a b ≡ Less
is_less a b l = by (nat_cmp a b) (ranked a b (nat_cmp a b) refl)
  where
    by : (o : Ordering) → MatchOrdering o (a < b) (a ≡ b) (b < a) → o ≡ Less
    by Less m = refl
    by Equal m = absurd (omega (arith, l, m))
    by Greater m = absurd (omega (arith, l, m))

is_greater : (a b : ℕ) → b < a → nat_cmp a b ≡ Greater
is_greater a b l = by (nat_cmp a b) (ranked a b (nat_cmp a b) refl)
  where
    by : (o : Ordering) → MatchOrdering o (a < b) (a ≡ b) (b < a) → o ≡ Greater
    by Less m = absurd (omega (arith, l, m))
    by Equal m = absurd (omega (arith, l, m))
    by Greater m = refl

pub is_equal : (a : ℕ) → nat_cmp a a ≡ Equal
is_equal a = by (nat_cmp a a) (ranked a a (nat_cmp a a) refl)
  where
    by : (o : Ordering) → MatchOrdering o (a < a) (a ≡ a) (a < a) → o ≡ Equal
    by Less m = absurd (omega (arith, m))
    by Equal m = refl
    by Greater m = absurd (omega (arith, m))

shifted : (p m n : ℕ) → nat_cmp (p + m) (p + n) ≡ nat_cmp m n
shifted p m n = by (nat_cmp m n) refl (ranked m n (nat_cmp m n) refl)
  where
    by : (o : Ordering) → o ≡ nat_cmp m n → MatchOrdering o (m < n) (m ≡ n) (n < m) → nat_cmp (p + m) (p + n) ≡ nat_cmp m n
    by Less e l = is_less (p + m) (p + n) (omega (arith, l)) ∙ e
    by Equal e same = ap (λ (k : ℕ). nat_cmp (p + m) (p + k)) (sym same) ∙ is_equal (p + m) ∙ e
    by Greater e l = is_greater (p + m) (p + n) (omega (arith, l)) ∙ e

shifted_one : (m n : ℕ) → nat_cmp (suc m) (suc n) ≡ nat_cmp m n
shifted_one m n = by (nat_cmp m n) refl (ranked m n (nat_cmp m n) refl)
  where
    by : (o : Ordering) → o ≡ nat_cmp m n → MatchOrdering o (m < n) (m ≡ n) (n < m) → nat_cmp (suc m) (suc n) ≡ nat_cmp m n
    by Less e l = is_less (suc m) (suc n) (omega (arith, l)) ∙ e
    by Equal e same = ap (λ (k : ℕ). nat_cmp (suc m) (suc k)) (sym same) ∙ is_equal (suc m) ∙ e
    by Greater e l = is_greater (suc m) (suc n) (omega (arith, l)) ∙ e

-- a greater first byte outweighs the rest
outweighs : (w x y m n : ℕ) → x < y → m < w → x * w + m < y * w + n
outweighs w x y m n l h = let p = mul-le-mul_right {m = suc x} {n = y} w (omega (arith, l)) in omega (arith, p, h)

step : (w x y m n : ℕ) → m < w → n < w → nat_cmp (x * w + m) (y * w + n) ≡ ordering_then (nat_cmp x y) (nat_cmp m n)
step w x y m n h k = by (nat_cmp x y) (ranked x y (nat_cmp x y) refl)
  where
    by : (o : Ordering) → MatchOrdering o (x < y) (x ≡ y) (y < x) → nat_cmp (x * w + m) (y * w + n) ≡ ordering_then o (nat_cmp m n)
    by Less l = is_less _ _ (outweighs w x y m n l h)
    by Equal same = ap (λ (z : ℕ). nat_cmp (x * w + m) (z * w + n)) (sym same) ∙ shifted (x * w) m n
    by Greater l = is_greater _ _ (outweighs w y x n m l k)

pub same_number : (x y : ℕ) → nat_cmp x y ≡ Equal → x ≡ y
same_number x y e = by (nat_cmp x y) e (ranked x y (nat_cmp x y) refl)
  where
    by : (o : Ordering) → o ≡ Equal → MatchOrdering o (x < y) (x ≡ y) (y < x) → x ≡ y
    by Less f m = absurd cc
    by Equal f m = m
    by Greater f m = absurd cc

then_assoc : (a b c : Ordering) → ordering_then a (ordering_then b c) ≡ ordering_then (ordering_then a b) c
then_assoc Less b c = refl
then_assoc Equal b c = refl
then_assoc Greater b c = refl

-- ---- words

word_small : (n : ℕ) (xs : List ℕ) → AreBytes xs → word n xs < 256 ^ n
word_small zero xs s = omega arith
word_small (suc n) [] s = let p = word_small n [] s in let e : 256 ^ suc n ≡ 256 ^ n * 256 = grind arith in omega (arith, p, e)
word_small (suc n) (x ∷ xs) s = let p = mul-add-lt x (256 ^ n) (word n xs) 256 (s 0) (word_small n xs (λ i. s (suc i))) in let e : 256 ^ suc n ≡ 256 ^ n * 256 = grind arith in omega (arith, p, e)

-- what is left of a text behind its first n bytes
pub rest_is : (n : ℕ) (xs : List ℕ) → n ≤ length xs → slice_range xs n (length xs) ≡ drop n xs
rest_is n xs h = sym (drop_split xs n (length xs) h ∙ ap (λ (t : List ℕ). slice_range xs n (length xs) ++ t) (drop-length xs) ∙ append-nil (slice_range xs n (length xs)))

-- what decides where the first n bytes make the same number
abbrev behind : ℕ → List ℕ → List ℕ → Ordering
behind zero xs ys = slice_cmp nat_cmp xs ys
behind (suc n) [] ys = nat_cmp 0 (length ys)
behind (suc n) (x ∷ xs) [] = Greater
behind (suc n) (x ∷ xs) (y ∷ ys) = behind n xs ys

no_byte : (k n : ℕ) → ordering_then (nat_cmp 0 k) (nat_cmp 0 (suc n)) ≡ Less
no_byte k n = by (nat_cmp 0 k) (ranked 0 k (nat_cmp 0 k) refl)
  where
    by : (o : Ordering) → MatchOrdering o (0 < k) (0 ≡ k) (k < 0) → ordering_then o (nat_cmp 0 (suc n)) ≡ Less
    by Less l = refl
    by Equal e = is_less 0 (suc n) (omega arith)
    by Greater l = absurd (omega (arith, l))

more_bytes : (k : ℕ) → ordering_then (nat_cmp k 0) Greater ≡ Greater
more_bytes k = by (nat_cmp k 0) (ranked k 0 (nat_cmp k 0) refl)
  where
    by : (o : Ordering) → MatchOrdering o (k < 0) (k ≡ 0) (0 < k) → ordering_then o Greater ≡ Greater
    by Less l = absurd (omega (arith, l))
    by Equal e = refl
    by Greater l = refl

by_word : (n : ℕ) (xs ys : List ℕ) → AreBytes xs → AreBytes ys → ordering_then (nat_cmp (word n xs) (word n ys)) (behind n xs ys) ≡ slice_cmp nat_cmp xs ys
by_word zero xs ys s t = refl
by_word (suc n) [] [] s t = refl
by_word (suc n) [] (y ∷ ys) s t = no_byte (word (suc n) (y ∷ ys)) (length ys)
by_word (suc n) (x ∷ xs) [] s t = more_bytes (word (suc n) (x ∷ xs))
by_word (suc n) (x ∷ xs) (y ∷ ys) s t =
    ap (λ (o : Ordering). ordering_then o (behind n xs ys)) (step (256 ^ n) x y (word n xs) (word n ys) (word_small n xs (λ i. s (suc i))) (word_small n ys (λ i. t (suc i))))
    ∙ sym (then_assoc (nat_cmp x y) (nat_cmp (word n xs) (word n ys)) (behind n xs ys))
    ∙ ap (ordering_then (nat_cmp x y)) (by_word n xs ys (λ i. s (suc i)) (λ i. t (suc i)))

behind_long : (n : ℕ) (xs ys : List ℕ) → n ≤ length xs → n ≤ length ys → behind n xs ys ≡ slice_cmp nat_cmp (drop n xs) (drop n ys)
behind_long zero xs ys h k = refl
behind_long (suc n) [] ys h k = absurd (omega (arith, h))
behind_long (suc n) (x ∷ xs) [] h k = absurd (omega (arith, k))
behind_long (suc n) (x ∷ xs) (y ∷ ys) h k = behind_long n xs ys (omega (arith, h)) (omega (arith, k))

behind_short : (n : ℕ) (xs ys : List ℕ) → (length xs < n) ⊎ (length ys < n) → behind n xs ys ≡ nat_cmp (length xs) (length ys)
behind_short zero xs ys (inl h) = absurd (omega (arith, h))
behind_short zero xs ys (inr h) = absurd (omega (arith, h))
behind_short (suc n) [] ys h = refl
behind_short (suc n) (x ∷ xs) [] h = sym (is_greater (suc (length xs)) 0 (omega arith))
behind_short (suc n) (x ∷ xs) (y ∷ ys) (inl h) = behind_short n xs ys (inl (omega (arith, h))) ∙ sym (shifted_one (length xs) (length ys))
behind_short (suc n) (x ∷ xs) (y ∷ ys) (inr h) = behind_short n xs ys (inr (omega (arith, h))) ∙ sym (shifted_one (length xs) (length ys))

decided : (o p : Ordering) → (o ≡ Equal → ⊥) → ordering_then o p ≡ o
decided Less p n = refl
decided Equal p n = absurd (n refl)
decided Greater p n = refl

-- where the first words differ, their order is that of the texts
pub by_words : (a b : List ℕ) → AreBytes a → AreBytes b → (nat_cmp (word 8 a) (word 8 b) ≡ Equal → ⊥) → nat_cmp (word 8 a) (word 8 b) ≡ slice_cmp nat_cmp a b
by_words a b s t n = sym (decided (nat_cmp (word 8 a) (word 8 b)) (behind 8 a b) n) ∙ by_word 8 a b s t

tied : (a b : List ℕ) → AreBytes a → AreBytes b → nat_cmp (word 8 a) (word 8 b) ≡ Equal → behind 8 a b ≡ slice_cmp nat_cmp a b
tied a b s t e = ap (λ (o : Ordering). ordering_then o (behind 8 a b)) (sym e) ∙ by_word 8 a b s t

-- where the first words are the same, what is behind decides, or the lengths where nothing is
pub goes_on : (a b : List ℕ) → AreBytes a → AreBytes b → nat_cmp (word 8 a) (word 8 b) ≡ Equal → 8 ≤ length a → 8 ≤ length b → slice_cmp nat_cmp (drop 8 a) (drop 8 b) ≡ slice_cmp nat_cmp a b
goes_on a b s t e h k = sym (behind_long 8 a b h k) ∙ tied a b s t e

pub ends : (a b : List ℕ) → AreBytes a → AreBytes b → nat_cmp (word 8 a) (word 8 b) ≡ Equal → (length a < 8) ⊎ (length b < 8) → nat_cmp (length a) (length b) ≡ slice_cmp nat_cmp a b
ends a b s t e h = sym (behind_short 8 a b h) ∙ tied a b s t e
