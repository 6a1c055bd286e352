-- The law of scans leaf by leaf: the pairs of a range from a key on are those of the key's leaf, and behind them those
-- from the end of its own part on.
use Rattle.std.specs.Prelude.{◌≡◌, ◌≢◌, ℕ, List, [], ◌∷◌, ◌++◌, map, Option, Some, false, IsTrue}
use Rattle.store_model.specs.Range.{has_key, is_below, IsBelow}
use Rattle.store_model.specs.Contents.{Contents, pair_of, pairs_in}
use Rattle.wal_record.specs.State.{has_own, own_end, leaf_rows, text_of}
use Rattle.wal_record.specs.Contents.{current}
use Rattle.wal_record.specs.Images.{image}
use Rattle.wal_record.specs.Sound.{AreLawful}
use Rattle.wal_record.specs.declared.page.PageState.{PageState}
use Rattle.wal_record.specs.declared.page.Rows.TheVariants.{Leaf}
use Rattle.wal_record.specs.declared.record.Record.{Record}
use Rattle.store_model.specs.declared.pair.Pair.{Pair}
use Rattle.tree_laws.specs.Scan.{live_entries}

-- the pairs of a leaf's live rows from a key on, up to a bound
abbrev pub leaf_pairs : List ℕ → Option (List ℕ) → PageState → List Pair
leaf_pairs key high s = map pair_of (live_entries (has_key (record { low = Some key; high = high })) (leaf_rows s.rows))

-- the leaf ends before the range does
pub record GoesOn (m : Contents) (s : PageState) (key : List ℕ) (high : Option (List ℕ)) : Type 0 where
  pub next : List ℕ
  pub ends : own_end s ≡ Some next
  pub above : IsBelow (Some key) (Some next)
  pub inside : IsBelow (Some next) high
  pub pairs : pairs_in (record { low = Some key; high = high }) m ≡ leaf_pairs key (Some next) s ++ pairs_in (record { low = Some next; high = high }) m

pub record LeafStep (m : Contents) (s : PageState) (key : List ℕ) : Type 0 where
  -- up to a bound inside the own part, or at its end
  pub part : (high : Option (List ℕ)) → is_below (own_end s) high ≡ false → pairs_in (record { low = Some key; high = high }) m ≡ leaf_pairs key high s
  -- beyond it
  pub more : (high : Option (List ℕ)) → IsBelow (own_end s) high → GoesOn m s key high

-- of the leaf whose own part has the key
pub record LeafStepLaw (log : List Record) : Type 0 where
  pub step : AreLawful log → log ≢ [] → (p : ℕ) (s : PageState) → image log p ≡ Some s → s.rows ≡ Leaf (leaf_rows s.rows) → (key : List ℕ) → IsTrue (has_own s key) → LeafStep (current log) s key

-- ---- leaves one behind the other

-- a leaf whose own part has the key
pub record IsInChain (img : ℕ → Option PageState) (key : List ℕ) (s : PageState) : Type 0 where
  pub page : ℕ
  pub image : img page ≡ Some s
  pub leaf : s.rows ≡ Leaf (leaf_rows s.rows)
  pub own : IsTrue (has_own s key)

-- from the leaf of a key on, each leaf's own part ends where that of the next one begins to be read, up to the end of a range
abbrev pub IsChain : (ℕ → Option PageState) → List ℕ → Option (List ℕ) → List PageState → Type 0
IsChain img key high [] = ⊥
IsChain img key high (s ∷ []) = IsInChain img key s × (is_below (own_end s) high ≡ false)
IsChain img key high (s ∷ t ∷ ss) = IsInChain img key s × ((next : List ℕ) × (own_end s ≡ Some next) × IsBelow (Some next) high × IsChain img next high (t ∷ ss))

abbrev pub chain_pairs : List ℕ → Option (List ℕ) → List PageState → List Pair
chain_pairs key high [] = []
chain_pairs key high (s ∷ []) = leaf_pairs key high s
chain_pairs key high (s ∷ t ∷ ss) = leaf_pairs key (own_end s) s ++ chain_pairs (text_of (own_end s)) high (t ∷ ss)

-- their pairs, one leaf after the other, are those of the range
pub record ChainLaw (log : List Record) : Type 0 where
  pub pairs : AreLawful log → log ≢ [] → (key : List ℕ) (high : Option (List ℕ)) (leaves : List PageState) → IsChain (image log) key high leaves
      → pairs_in (record { low = Some key; high = high }) (current log) ≡ chain_pairs key high leaves
