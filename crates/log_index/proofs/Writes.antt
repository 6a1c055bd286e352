-- The open writes of a loser, one after the other.
use Rattle.std.proofs.Common.{◌≡◌, ℕ, zero, suc, ◌<◌, List, [], ◌∷◌, ◌++◌, length, take, get_or, refl, sym, ap, arith}
use Rattle.std.specs.Prelude.{min}
use Rattle.wal_record.specs.declared.record.OpenWrite.{OpenWrite}
use Rattle.listing_laws.specs.Summary.{writes_of}

pub write_next : (ns : List ℕ) (ks : List (List ℕ)) (i n d : ℕ) (k : List ℕ) → i < length ns → i < length ks → n ≡ get_or ns i d → k ≡ get_or ks i k
    → take (suc i) (writes_of ns ks) ≡ take i (writes_of ns ks) ++ record { lsn = n; key = k } ∷ []
write_next [] ks i n d k a b e f = absurd (omega (arith, a))
write_next (m ∷ ns) [] i n d k a b e f = absurd (omega (arith, b))
write_next (m ∷ ns) (l ∷ ks) zero n d k a b e f = λ j. record { lsn = sym e j; key = sym f j } ∷ []
write_next (m ∷ ns) (l ∷ ks) (suc i) n d k a b e f = ap (λ (ws : List OpenWrite). record { lsn = m; key = l } ∷ ws) (write_next ns ks i n d k (omega (arith, a)) (omega (arith, b)) e f)

pub all_writes : (ns : List ℕ) (ks : List (List ℕ)) (n : ℕ) → n ≡ min (length ns) (length ks) → take n (writes_of ns ks) ≡ writes_of ns ks
all_writes [] ks zero h = refl
all_writes [] ks (suc n) h = refl
all_writes (m ∷ ns) [] zero h = refl
all_writes (m ∷ ns) [] (suc n) h = refl
all_writes (m ∷ ns) (k ∷ ks) zero h = absurd (omega (arith, h))
all_writes (m ∷ ns) (k ∷ ks) (suc n) h = ap (λ (ws : List OpenWrite). record { lsn = m; key = k } ∷ ws) (all_writes ns ks n (omega (arith, h)))
