-- The law of scans leaf by leaf.
use Rattle.std.proofs.Common.{◌≡◌, ◌≢◌, ℕ, Bool, true, false, List, [], ◌∷◌, ◌++◌, Option, Some, refl, sym, ap, ◌∙◌}
use Rattle.store_model.specs.Range.{is_below}
use Rattle.store_model.specs.Contents.{pairs_in}
use Rattle.store_model.specs.declared.pair.Pair.{Pair}
use Rattle.store_model.proofs.Bools.{not_both}
use Rattle.store_model.proofs.Ranges.{between, not_beneath}
use Rattle.wal_record.specs.State.{has_own, own_end, own_part, leaf_rows, text_of}
use Rattle.wal_record.specs.Contents.{current}
use Rattle.wal_record.specs.Images.{image}
use Rattle.wal_record.specs.Sound.{AreLawful}
use Rattle.wal_record.specs.declared.page.PageState.{PageState}
use Rattle.wal_record.specs.declared.page.Rows.TheVariants.{Leaf}
use Rattle.wal_record.specs.declared.record.Record.{Record}
use Rattle.tree_laws.specs.Scan.{LeafScan}
use Rattle.tree_laws.proofs.Keys.{in_parts, in_from}
use Rattle.tree_laws.proofs.BranchLaws.{low_some}
use Rattle.tree_laws.proofs.ScanLaws.{leaf_scan}
use Rattle.tree_laws.proofs.NeighbourRanges.{neighbours_law}
use Rattle.tree_laws.proofs.Whole.{tree}
use Rattle.foster_laws.specs.Scans.{leaf_pairs, GoesOn, LeafStep, LeafStepLaw, IsInChain, IsChain, chain_pairs, ChainLaw}
use Rattle.foster_laws.proofs.CutRows.{one_way, not_itself}

-- what is below a bound is below one that isn't below that
up_to : (k : List ℕ) (end high : Option (List ℕ)) → is_below (Some k) high ≡ true → is_below end high ≡ false → is_below (Some k) end ≡ true
up_to k end high h n = by (is_below (Some k) end) refl
  where
    by : (b : Bool) → is_below (Some k) end ≡ b → b ≡ true
    by true e = refl
    by false e = absurd (not_both (is_below end high) (between end high k e h) n)

module _ (log : List Record) (lawful : AreLawful log) (some : log ≢ []) (p : ℕ) (s : PageState) (there : image log p ≡ Some s) (leaf : s.rows ≡ Leaf (leaf_rows s.rows)) (key : List ℕ) (own : has_own s key ≡ true) where
  scan : LeafScan (image log) (current log)
  scan = leaf_scan _ _ _ (tree log lawful some)

  inside : (is_below (Some key) s.low ≡ false) × (is_below (Some key) (own_end s) ≡ true)
  inside = in_parts (own_part s) key own

  -- a key from this one on isn't below the low fence
  low_behind : (k : List ℕ) → is_below (Some k) (Some key) ≡ false → is_below (Some k) s.low ≡ false
  low_behind k h = not_beneath k (Some key) s.low h inside.0

  part : (high : Option (List ℕ)) → is_below (own_end s) high ≡ false → pairs_in (record { low = Some key; high = high }) (current log) ≡ leaf_pairs key high s
  part high ends = scan.pairs p s there leaf (record { low = Some key; high = high }) (λ k h.
      let i = in_parts (record { low = Some key; high = high }) k h in
      in_from (own_part s) k (low_behind k i.0) (up_to k (own_end s) high i.1 ends))

  more : (high : Option (List ℕ)) → is_below (own_end s) high ≡ true → GoesOn (current log) s key high
  more high goes =
      let is : own_end s ≡ Some (text_of (own_end s)) = low_some (own_end s) high goes in
      let above : is_below (Some key) (Some (text_of (own_end s))) ≡ true = ap (is_below (Some key)) (sym is) ∙ inside.1 in
      let within : is_below (Some (text_of (own_end s))) high ≡ true = ap (λ (b : Option (List ℕ)). is_below b high) (sym is) ∙ goes in
      let here = part (Some (text_of (own_end s))) (ap (λ (b : Option (List ℕ)). is_below b (Some (text_of (own_end s)))) is ∙ not_itself (Some (text_of (own_end s)))) in
      record {
        next = text_of (own_end s);
        ends = is;
        above = above;
        inside = within;
        pairs = sym ((neighbours_law (Some key) (Some (text_of (own_end s))) high (current log)).joined (one_way (Some key) (Some (text_of (own_end s))) above) (one_way (Some (text_of (own_end s))) high within))
            ∙ ap (λ (ps : List Pair). ps ++ pairs_in (record { low = Some (text_of (own_end s)); high = high }) (current log)) here;
      }

pub leaf_step_law : (log : List Record) → LeafStepLaw log
leaf_step_law log = record {
  step = λ lawful some p s there leaf key own. record { part = part log lawful some p s there leaf key own; more = more log lawful some p s there leaf key own };
}

-- ---- leaves one behind the other

module _ (log : List Record) (lawful : AreLawful log) (some : log ≢ []) where
  of_leaf : (key : List ℕ) (s : PageState) → IsInChain (image log) key s → LeafStep (current log) s key
  of_leaf key s c = (leaf_step_law log).step lawful some c.page s c.image c.leaf key c.own

  chain : (key : List ℕ) (high : Option (List ℕ)) (leaves : List PageState) → IsChain (image log) key high leaves → pairs_in (record { low = Some key; high = high }) (current log) ≡ chain_pairs key high leaves
  chain key high [] c = absurd c
  chain key high (s ∷ []) c = (of_leaf key s c.0).part high c.1
  chain key high (s ∷ t ∷ ss) c =
      let next = c.1.0 in
      let is : own_end s ≡ Some next = c.1.1 in
      let g = (of_leaf key s c.0).more high (ap (λ (b : Option (List ℕ)). is_below b high) is ∙ c.1.2) in
      let same : g.next ≡ next = ap text_of (sym g.ends ∙ is) in
      let rest = chain next high (t ∷ ss) c.1.3 in
      g.pairs
      ∙ ap (λ (k : List ℕ). leaf_pairs key (Some k) s ++ pairs_in (record { low = Some k; high = high }) (current log)) same
      ∙ ap (λ (ps : List Pair). leaf_pairs key (Some next) s ++ ps) rest
      ∙ ap (λ (b : Option (List ℕ)). leaf_pairs key b s ++ chain_pairs (text_of b) high (t ∷ ss)) (sym is)

pub chain_law : (log : List Record) → ChainLaw log
chain_law log = record { pairs = λ lawful some key high leaves c. chain log lawful some key high leaves c }
