-- The current contents as they are kept.
use Rattle.std.specs.Prelude.{◌≡◌, ℕ, List, [], ◌∷◌, Option, if◌then◌else◌}
use Rattle.std.specs.Ordering.{nat_cmp}
use Rattle.std.specs.Cmp.Lexicographic.{slice_cmp}
use Rattle.std.specs.FinMap as finite
use Rattle.std.specs.BTreeMap.{BTreeMap, get}
use Rattle.store_model.specs.Range.{Interval, has_key}
use Rattle.store_model.specs.Contents.{Contents, pair_of}
use Rattle.store_model.specs.declared.pair.Pair.{Pair}
use Rattle.reply_judge.specs.declared.contents.CurrentContents.{CurrentContents}

-- what the map has at a key
abbrev pub value_in : BTreeMap (List ℕ) (List ℕ) → List ℕ → Option (List ℕ)
value_in pairs key = get (slice_cmp nat_cmp) pairs key

-- at each key the map has the value of these contents
unfoldable pub HasValues : Contents → BTreeMap (List ℕ) (List ℕ) → Type 0
HasValues m pairs = (key : List ℕ) → value_in pairs key ≡ finite.get m key

-- the pair of a key, where the range has the key
abbrev pub own_pairs : Interval → List ℕ → List ℕ → List Pair
own_pairs r key value = if has_key r key then pair_of (key, value) ∷ [] else []

unfoldable pub IsContentsOf : Contents → CurrentContents → Type 0
IsContentsOf m c = HasValues m c.pairs
