-- What unsynced writes may leave, and what could be left before.
use Rattle.std.specs.Prelude.{◌≡◌, ◌⊎◌, ℕ, List, [], ◌∷◌, ◌++◌, length, drop}
use Rattle.std.proofs.Common.{inl, inr}
use Rattle.media.specs.Kept.{Kept, Torn}

-- a range that was written
pub record Piece : Type 0 where
  pub at : ℕ
  pub size : ℕ

-- each piece may be torn, one after the other
abbrev pub Reach : List Piece → Kept → Kept → Type 0
Reach [] k c = c ≡ k
Reach (w ∷ ws) k c = (d : Kept) × Torn w.at w.size k d × Reach ws d c

-- a time between two syncs
pub record Span : Type 0 where
  pub start : ℕ
  pub base : List ℕ
  pub writes : List Piece

abbrev pub left_in : Span → Kept → Type 0
left_in s c = Reach s.writes (record { start = s.start; bytes = s.base }) c

abbrev pub HadBeen : List Span → Kept → Type 0
HadBeen [] c = ⊥
HadBeen (s ∷ ss) c = left_in s c ⊎ HadBeen ss c

-- what contracts see of a disk in memory
pub record MemSeen : Type 0 where
  pub start : ℕ
  pub base : List ℕ
  pub now : List ℕ
  pub writes : List Piece
  pub past : List Span
  pub faults : ℕ

abbrev pub kept_now : MemSeen → Kept
kept_now m = record { start = m.start; bytes = m.now }

abbrev pub leaves : MemSeen → Kept → Type 0
leaves m c = Reach m.writes (record { start = m.start; bytes = m.base }) c

abbrev pub left_at : MemSeen → ℕ → Kept → Type 0
left_at m t c = leaves m c ⊎ HadBeen (drop t m.past) c

none_left : (past : List Span) (c : Kept) → HadBeen (drop (length past) past) c → ⊥
none_left [] c had = had
none_left (s ∷ past) c had = none_left past c had

pub only_leaves : (m : MemSeen) (c : Kept) → left_at m (length m.past) c → leaves m c
only_leaves m c (inl now) = now
only_leaves m c (inr had) = absurd (none_left m.past c had)

-- the time that ends
abbrev pub span_of : MemSeen → Span
span_of m = record { start = m.start; base = m.base; writes = m.writes }

-- Nothing was unsynced, and nothing changes; or a time ends, and this is kept.
abbrev pub Settles : MemSeen → MemSeen → Kept → Type 0
Settles old new k = ((new ≡ old) × (old.writes ≡ []) × (old.base ≡ old.now) × (k ≡ kept_now old))
    ⊎ (new ≡ record { start = k.start; base = k.bytes; now = k.bytes; writes = []; past = old.past ++ span_of old ∷ []; faults = old.faults })
