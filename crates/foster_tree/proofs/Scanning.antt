-- What a scan has collected, from moment to moment and from leaf to leaf.
use Rattle.std.proofs.Common.{◌≡◌, ℕ, Bool, true, false, cond, List, [], ◌++◌, length, Option, Some, None, refl, sym, ap, subst, ◌∙◌, arith, append_assoc, append-nil, length-append}
use Rattle.std.specs.Prelude.{map, not}
use Rattle.std.proofs.lemmas.List.{nil_from_length}
use mathlib.Core.List.{IsPrefix}
use Rattle.store_model.specs.Range.{Interval, is_below, has_key, includes}
use Rattle.store_model.specs.Contents.{Contents, pair_of, pairs_in}
use Rattle.store_model.specs.declared.pair.Pair.{Pair}
use Rattle.store_model.proofs.Bools.{and_true, not_both, false_unless}
use Rattle.store_model.proofs.Ranges.{between}
use Rattle.wal_record.specs.State.{leaf_rows, own_end, own_part, text_of}
use Rattle.wal_record.specs.Books.{session_entries}
use Rattle.wal_record.specs.Contents.{current}
use Rattle.wal_record.specs.History.{life_log, log_of}
use Rattle.wal_record.specs.Images.{IsLeafOf}
use Rattle.wal_record.specs.Sound.{IsLawful, AreLawful}
use Rattle.wal_record.specs.Legal.{IsLegal}
use Rattle.wal_record.specs.declared.page.PageState.{PageState}
use Rattle.wal_record.specs.declared.record.Record.{Record}
use Rattle.wal_record.specs.declared.entry.Entry.{Entry}
use Rattle.wal_record.proofs.Along.{AllAlong_less}
use Rattle.log_laws.proofs.Locked.{below_trans}
use Rattle.claim_laws.proofs.Going.{legal_before}
use Rattle.claim_laws.proofs.Sessions.{session_law}
use Rattle.claim_laws.proofs.Stable.{stable}
use Rattle.claim_laws.proofs.Upkeep.{books_law}
use Rattle.tree_laws.specs.Scan.{live_entries}
use Rattle.tree_laws.proofs.BranchLaws.{low_some}
use Rattle.tree_laws.proofs.NeighbourRanges.{neighbours_law}
use Rattle.tree_laws.proofs.Keys.{in_parts}
use Rattle.foster_laws.proofs.Scanning.{leaf_step_law}
use Rattle.foster_laws.proofs.CutRows.{not_itself, one_way}
use Rattle.page_ops.specs.Asking.{EndsRange}
use Rattle.page_ops.specs.Hands.{Hand}
use Rattle.page_ops.specs.Seeing.{IsConsistent}
use Rattle.foster_tree.specs.Nows.{IsNow}
use Rattle.foster_tree.specs.Scans.{Collects, part_end}

abbrev pub from_to : Option (List ℕ) → Option (List ℕ) → Interval
from_to low high = record { low = low; high = high }

-- ---- ranges

none_before : (xs ys : List Pair) → xs ++ ys ≡ ys → xs ≡ []
none_before xs ys e = let n : length (xs ++ ys) ≡ length ys = ap length e in nil_from_length xs (omega (arith, n, length-append xs ys))

-- a range that ends where it begins has no pair
no_pairs : (low : Option (List ℕ)) (m : Contents) → pairs_in (from_to low low) m ≡ []
no_pairs low m = none_before (pairs_in (from_to low low) m) (pairs_in (from_to low None) m) ((neighbours_law low low None m).joined (not_itself low) refl)

-- a beginning of a range lies in it
beginning_in : (range : Interval) (mid : Option (List ℕ)) → is_below range.high mid ≡ false → includes range (from_to range.low mid) ≡ true
beginning_in range mid h = and_true (not (is_below range.low range.low)) (not (is_below range.high mid)) (ap not (not_itself range.low)) (ap not h)

-- ---- where a leaf's part ends

part_ends : (s : PageState) (high : Option (List ℕ)) → is_below (own_end s) (part_end s high) ≡ false
part_ends s high = by (is_below (own_end s) high) refl
  where
    by : (b : Bool) → is_below (own_end s) high ≡ b → is_below (own_end s) (cond b (own_end s) high) ≡ false
    by true e = not_itself (own_end s)
    by false e = e

part_above : (s : PageState) (high : Option (List ℕ)) (key : List ℕ) → is_below (Some key) (own_end s) ≡ true → is_below (Some key) high ≡ true → is_below (Some key) (part_end s high) ≡ true
part_above s high key own under = by (is_below (own_end s) high)
  where
    by : (b : Bool) → is_below (Some key) (cond b (own_end s) high) ≡ true
    by true = own
    by false = under

part_within : (s : PageState) (high : Option (List ℕ)) → is_below high (part_end s high) ≡ false
part_within s high = by (is_below (own_end s) high) refl
  where
    by : (b : Bool) → is_below (own_end s) high ≡ b → is_below high (cond b (own_end s) high) ≡ false
    by true e = one_way (own_end s) high e
    by false e = not_itself high

-- where it doesn't end before the range does, it ends with it
part_last : (s : PageState) (high : Option (List ℕ)) → is_below (part_end s high) high ≡ false → (part_end s high ≡ high) × (is_below (own_end s) high ≡ false)
part_last s high = by (is_below (own_end s) high) refl
  where
    by : (b : Bool) → is_below (own_end s) high ≡ b → is_below (cond b (own_end s) high) high ≡ false → (cond b (own_end s) high ≡ high) × (is_below (own_end s) high ≡ false)
    by true e last = absurd (not_both (is_below (own_end s) high) e last)
    by false e last = (refl, e)

-- ---- what was collected

module _ (opens : List Record → Type 0) (seen : List Entry) (range : Interval) (before : List Pair) where
  -- at first nothing
  pub begun : (h : List Entry) → Collects opens seen h range (from_to range.low range.low) before before
  begun h opening session tx stands keeps = sym (ap (λ ps. before ++ ps) (no_pairs range.low (current (life_log opening h))) ∙ append-nil before)

  stays_behind : (a b : List Entry) (part : Interval) (after : List Pair) → IsConsistent opens ((seen ++ a) ++ b) → includes range part ≡ true
      → Collects opens seen (seen ++ a) range part before after → Collects opens seen ((seen ++ a) ++ b) range part before after
  stays_behind a b part after consistent inside collected opening session tx stands keeps =
      let legal = consistent.legal opening stands in
      let lawful : AreLawful opening = AllAlong_less IsLawful opening (log_of ((seen ++ a) ++ b)) (consistent.sound opening stands).lawful in
      let assoc : (seen ++ a) ++ b ≡ seen ++ (a ++ b) = append_assoc seen a b in
      let first = (books_law opening seen a).session session in
      let then = (books_law opening (seen ++ a) b).session session in
      let whole = keeps.quiet in
      let quiet : session_entries (seen ++ a) session ≡ session_entries seen session = omega (arith, first, then, whole) in
      let legal_a = legal_before opening (seen ++ a) b legal in
      let legal_ab = subst (IsLegal opening) assoc legal in
      let rests_a = (session_law opening seen a session).rests legal_a quiet tx keeps.owner in
      let rests_ab = (session_law opening seen (a ++ b) session).rests legal_ab (ap (λ (x : List Entry). session_entries x session) (sym assoc) ∙ whole) tx keeps.owner in
      let same_a = (stable opening seen a tx).part lawful legal_a rests_a range part keeps.locked inside in
      let same_ab = (stable opening seen (a ++ b) tx).part lawful legal_ab rests_ab range part keeps.locked inside in
      collected opening session tx stands (record { owner = keeps.owner; locked = keeps.locked; quiet = quiet })
      ∙ ap (λ ps. before ++ ps) (same_a ∙ sym same_ab ∙ ap (λ (x : List Entry). pairs_in part (current (life_log opening x))) (sym assoc))

  -- and it stays so while the history goes on
  pub stays : (h h' : List Entry) (mid : Option (List ℕ)) (after : List Pair) → IsPrefix seen h → IsPrefix h h' → IsConsistent opens h' → is_below range.high mid ≡ false
      → Collects opens seen h range (from_to range.low mid) before after → Collects opens seen h' range (from_to range.low mid) before after
  stays h h' mid after s t consistent inside collected =
      let longer : (seen ++ s.0) ++ t.0 ≡ h' = ap (λ (x : List Entry). x ++ t.0) s.1 ∙ t.1 in
      let part = from_to range.low mid in
      subst (λ (x : List Entry). Collects opens seen x range part before after) longer
      (stays_behind s.0 t.0 part after (subst (IsConsistent opens) (sym longer) consistent) (beginning_in range mid inside) (subst (λ (x : List Entry). Collects opens seen x range part before after) (sym s.1) collected))

  -- the pairs of a leaf more
  module _ (h : List Entry) (leaf : Hand) (from : Option (List ℕ)) (now : IsNow opens h leaf) (at : IsLeafOf (text_of from) leaf.state) (consistent : IsConsistent opens h)
      (low : is_below from range.low ≡ false) (high : is_below from range.high ≡ true) where
    is_text : from ≡ Some (text_of from)
    is_text = low_some from range.high high

    pub end_above : is_below from (part_end leaf.state range.high) ≡ true
    end_above =
        ap (λ (b : Option (List ℕ)). is_below b (part_end leaf.state range.high)) is_text
        ∙ part_above leaf.state range.high (text_of from) (in_parts (own_part leaf.state) (text_of from) at.own).1 (ap (λ (b : Option (List ℕ)). is_below b range.high) (sym is_text) ∙ high)

    leaf_pairs_are : (opening : List Record) → opens opening
        → pairs_in (from_to from (part_end leaf.state range.high)) (current (life_log opening h)) ≡ map pair_of (live_entries (has_key (from_to from (part_end leaf.state range.high))) (leaf_rows leaf.state.rows))
    leaf_pairs_are opening stands =
        let log = life_log opening h in
        let step = (leaf_step_law log).step (consistent.sound opening stands).lawful (consistent.some opening stands) leaf.page leaf.state (now.image opening stands) at.leaf (text_of from) at.own in
        subst (λ (b : Option (List ℕ)). pairs_in (from_to b (part_end leaf.state range.high)) (current log) ≡ map pair_of (live_entries (has_key (from_to b (part_end leaf.state range.high))) (leaf_rows leaf.state.rows)))
        (sym is_text) (step.part (part_end leaf.state range.high) (part_ends leaf.state range.high))

    pub gathered : (found after : List Pair) → Collects opens seen h range (from_to range.low from) before found
        → after ≡ found ++ map pair_of (live_entries (has_key (from_to from (part_end leaf.state range.high))) (leaf_rows leaf.state.rows))
        → Collects opens seen h range (from_to range.low (part_end leaf.state range.high)) before after
    gathered found after collected is opening session tx stands keeps =
        let m = current (life_log opening h) in
        let first = pairs_in (from_to range.low from) m in
        let then = pairs_in (from_to from (part_end leaf.state range.high)) m in
        is
        ∙ ap (λ ps. found ++ ps) (sym (leaf_pairs_are opening stands))
        ∙ ap (λ ps. ps ++ then) (collected opening session tx stands keeps)
        ∙ append_assoc before first then
        ∙ ap (λ ps. before ++ ps) ((neighbours_law range.low from (part_end leaf.state range.high) m).joined low (one_way from (part_end leaf.state range.high) end_above))

    -- the leaf behind which the range doesn't go on
    pub ends : is_below (part_end leaf.state range.high) range.high ≡ false → EndsRange range leaf.state
    ends last =
        let under : is_below (Some (text_of from)) range.high ≡ true = ap (λ (b : Option (List ℕ)). is_below b range.high) (sym is_text) ∙ high in
        record {
          leaf = at.leaf;
          begins = between leaf.state.low range.high (text_of from) (in_parts (own_part leaf.state) (text_of from) at.own).0 under;
          ends = (part_last leaf.state range.high last).1;
        }

    pub whole : (after : List Pair) → is_below (part_end leaf.state range.high) range.high ≡ false → Collects opens seen h range (from_to range.low (part_end leaf.state range.high)) before after → Collects opens seen h range range before after
    whole after last collected = subst (λ (b : Option (List ℕ)). Collects opens seen h range (from_to range.low b) before after) (part_last leaf.state range.high last).0 collected

  -- behind a leaf the scan goes on in the range
  pub goes_on : (s : PageState) (from : Option (List ℕ)) → is_below from range.low ≡ false → is_below from (part_end s range.high) ≡ true → is_below (part_end s range.high) range.low ≡ false
  goes_on s from low up = false_unless (is_below (part_end s range.high) range.low) (λ g. not_both (is_below from range.low) (below_trans from (part_end s range.high) range.low up g) low)

  -- ---- a turn of the loop

  pub at_first : (h : List Entry) (from : Option (List ℕ)) → from ≡ range.low → Collects opens seen h range (from_to range.low from) before before
  at_first h from is = subst (λ (b : Option (List ℕ)). Collects opens seen h range (from_to range.low b) before before) (sym is) (begun h)

  module _ (h h' : List Entry) (leaf inside : Hand) (from end high : Option (List ℕ)) (text : List ℕ) (low_in : is_below from range.low ≡ false) (high_in : is_below from range.high ≡ true)
      (text_is : text ≡ text_of from) (at : IsLeafOf text leaf.state) (view : inside ≡ leaf) (high_is : high ≡ range.high) (end_is : end ≡ part_end inside.state high)
      (now : IsNow opens h' leaf) (consistent : IsConsistent opens h') where
    ends_at : end ≡ part_end leaf.state range.high
    ends_at = end_is ∙ (λ i. part_end ((view i).state) (high_is i))

    leaf_at : IsLeafOf (text_of from) leaf.state
    leaf_at = subst (λ (k : List ℕ). IsLeafOf k leaf.state) text_is at

    pub turned : (found after : List Pair) → IsPrefix seen h → IsPrefix h h' → Collects opens seen h range (from_to range.low from) before found
        → after ≡ found ++ map pair_of (live_entries (has_key (from_to from end)) (leaf_rows inside.state.rows)) → Collects opens seen h' range (from_to range.low end) before after
    turned found after s t collected is =
        let here = stays h h' from found s t consistent (one_way from range.high high_in) collected in
        let more : after ≡ found ++ map pair_of (live_entries (has_key (from_to from (part_end leaf.state range.high))) (leaf_rows leaf.state.rows)) =
        is ∙ (λ i. found ++ map pair_of (live_entries (has_key (from_to from (ends_at i))) (leaf_rows ((view i).state.rows)))) in
        subst (λ (b : Option (List ℕ)). Collects opens seen h' range (from_to range.low b) before after) (sym ends_at) (gathered h' leaf from now leaf_at consistent low_in high_in found after here more)

    pub turned_low : is_below end range.low ≡ false
    turned_low = ap (λ (b : Option (List ℕ)). is_below b range.low) ends_at ∙ goes_on leaf.state from low_in (end_above h' leaf from now leaf_at consistent low_in high_in)

    is_last : is_below end range.high ≡ false → is_below (part_end leaf.state range.high) range.high ≡ false
    is_last last = ap (λ (b : Option (List ℕ)). is_below b range.high) (sym ends_at) ∙ last

    pub turned_last : is_below end range.high ≡ false → EndsRange range leaf.state
    turned_last last = ends h' leaf from now leaf_at consistent low_in high_in (is_last last)

    pub turned_whole : (after : List Pair) → is_below end range.high ≡ false → Collects opens seen h' range (from_to range.low end) before after → Collects opens seen h' range range before after
    turned_whole after last collected =
        whole h' leaf from now leaf_at consistent low_in high_in after (is_last last) (subst (λ (b : Option (List ℕ)). Collects opens seen h' range (from_to range.low b) before after) ends_at collected)
