-- The halves of a page that is split at its split point.
use Rattle.std.proofs.Common.{◌≡◌, ℕ, ◌+◌, ◌*◌, ◌<◌, ◌≤◌, Bool, true, false, cond, List, Option, Some, None, refl, sym, ap, ◌∙◌, arith}
use Rattle.std.specs.Prelude.{not, ◌&&◌, ◌||◌}
use Rattle.std.proofs.lemmas.Bool.{and_parts, and_from}
use Rattle.store_model.specs.Range.{is_below}
use Rattle.wal_record.specs.State.{KeepsState, own_end, own_part, end_by, leaf_rows, live, rows_size, state_size, page_room, foster_fits, is_child, is_text, text_of}
use Rattle.wal_record.specs.Images.{lower_half, lower_rows, upper_rows}
use Rattle.wal_record.specs.Legal.{IsCrowded}
use Rattle.wal_record.specs.declared.page.PageState.{PageState}
use Rattle.wal_record.specs.declared.page.Foster.{Foster}
use Rattle.wal_record.specs.declared.page.Rows.{Rows}
use Rattle.wal_record.specs.declared.page.Rows.TheVariants.{Leaf, Branch}
use Rattle.wal_record.specs.declared.record.Split.{Split}
use Rattle.log_laws.proofs.Locked.{below_trans}
use Rattle.tree_laws.proofs.BranchLaws.{low_under, lower_keeps}
use Rattle.tree_laws.proofs.RowLaws.{live_kept}
use Rattle.foster_laws.specs.Splits.{upper_half, Halves}
use Rattle.foster_laws.proofs.Parts.{Parts}
use Rattle.foster_laws.proofs.Sizes.{frame_size, frame_bound}

-- ---- bounds

-- what is below the end of the own part is below the high fence
pub below_high : (k low high : Option (List ℕ)) (foster : Option Foster) → foster_fits low high foster ≡ true → is_below k (end_by foster high) ≡ true → is_below k high ≡ true
below_high k low high None f h = h
below_high k low high (Some x) f h = below_trans k (Some x.key) high h (and_parts (is_below low (Some x.key)) _ (and_parts _ (is_text x.key && is_child x.child) f).0).1

-- the foster key stays between the fences where the low one rises below the end of the own part
pub foster_stays : (k low high : Option (List ℕ)) (foster : Option Foster) → foster_fits low high foster ≡ true → is_below k (end_by foster high) ≡ true → foster_fits k high foster ≡ true
foster_stays k low high None f h = refl
foster_stays k low high (Some x) f h =
    let p = and_parts (is_below low (Some x.key) && is_below (Some x.key) high) (is_text x.key && is_child x.child) f in
    and_from _ _ (and_from _ _ h (and_parts (is_below low (Some x.key)) (is_below (Some x.key) high) p.0).1) p.1

-- ---- keys

in_one : (a b e : Bool) → (a ≡ true → b ≡ true) → (b ≡ true → e ≡ true) → (not a && e) ≡ ((not a && b) || (not b && e))
in_one true true e f g = refl
in_one true false e f g = absurd (let x = f refl in cc)
in_one false true e f g = g refl
in_one false false e f g = refl

not_in_both : (a b e : Bool) → ((not a && b) && (not b && e)) ≡ false
not_in_both true b e = refl
not_in_both false true e = refl
not_in_both false false e = refl

-- ---- live values

pub values_lower : (at : Option (List ℕ)) (rows : Rows) (key : List ℕ) → is_below (Some key) at ≡ true → live (leaf_rows (lower_rows at rows)) key ≡ live (leaf_rows rows) key
values_lower at (Leaf rows) key h = live_kept (λ k. is_below (Some k) at) rows key ∙ ap (λ (b : Bool). cond b (live rows key) None) h
values_lower at (Branch rows) key h = refl

pub values_upper : (at : Option (List ℕ)) (rows : Rows) (key : List ℕ) → is_below (Some key) at ≡ false → live (leaf_rows (upper_rows at rows)) key ≡ live (leaf_rows rows) key
values_upper at (Leaf rows) key h = live_kept (λ k. not (is_below (Some k) at)) rows key ∙ ap (λ (b : Bool). cond (not b) (live rows key) None) h
values_upper at (Branch rows) key h = refl

-- ---- the halves

module _ (c : ℕ) (s : PageState) (keeps : KeepsState s) (parts : Parts c s.level (own_end s) s.rows) (page prev child : ℕ) (number : is_child child ≡ true) (small : c ≤ 324) where
  abbrev pub part_split : Split
  part_split = record { page = page; page_prev = prev; child = child; child_state = record { level = s.level; low = Some parts.key; high = s.high; foster = s.foster; rows = upper_rows (Some parts.key) s.rows } }

  abbrev low : PageState
  low = lower_half part_split s

  abbrev up : PageState
  up = part_split.child_state

  rows_most : rows_size s.rows ≤ 4047
  rows_most = let k : state_size s ≤ page_room = keeps.size in omega (arith, k)

  low_above : is_below s.low (Some parts.key) ≡ true
  low_above = low_under s.level (own_part s) (Some parts.key) s.rows keeps.rows parts.stays

  key_below : is_below (Some parts.key) s.high ≡ true
  key_below = below_high (Some parts.key) s.low s.high s.foster keeps.foster parts.ends

  low_foster : foster_fits low.low low.high low.foster ≡ true
  low_foster = and_from _ _ (and_from _ _ low_above key_below) (and_from _ _ parts.text number)

  up_foster : foster_fits up.low up.high up.foster ≡ true
  up_foster = foster_stays (Some parts.key) s.low s.high s.foster keeps.foster parts.ends

  up_texts : (is_text (text_of up.low) && is_text (text_of up.high)) ≡ true
  up_texts = and_from _ _ parts.text (and_parts (is_text (text_of s.low)) (is_text (text_of s.high)) keeps.texts).1

  pub low_size : state_size low ≤ 2560
  low_size =
      let f : frame_size low ≤ 204 = frame_bound low keeps.texts low_foster in
      let r = rows_most in
      let l : 2 * rows_size (lower_rows (Some parts.key) s.rows) < rows_size s.rows + 2 * c = parts.low_size in
      omega (arith, f, r, l, small)

  pub up_size : state_size up ≤ 2560
  up_size =
      let f : frame_size up ≤ 204 = frame_bound up up_texts up_foster in
      let r = rows_most in
      let l : 2 * rows_size (upper_rows (Some parts.key) s.rows) ≤ rows_size s.rows = parts.up_size in
      omega (arith, f, r, l)

  low_keeps : KeepsState low
  low_keeps = record {
    level = keeps.level;
    fences = keeps.fences;
    texts = keeps.texts;
    foster = low_foster;
    rows = lower_keeps s.level (own_part s) (Some parts.key) s.rows keeps.rows parts.stays;
    size = let l = low_size in omega (arith, l);
  }

  up_keeps : KeepsState up
  up_keeps = record {
    level = keeps.level;
    fences = key_below;
    texts = up_texts;
    foster = up_foster;
    rows = parts.upper;
    size = let l = up_size in omega (arith, l);
  }

  pub part_halves : IsCrowded s.rows s → Halves part_split s
  part_halves crowded = record {
    some = parts.some;
    less = parts.less;
    can = record { level = refl; high = refl; foster = refl; upper = refl; goes = parts.goes; stays = parts.stays };
    may = record { at = sym parts.at; crowded = crowded };
    lower = low_keeps;
    upper = up_keeps;
    whole = λ key. in_one (is_below (Some key) s.low) (is_below (Some key) (Some parts.key)) (is_below (Some key) (own_end s))
        (λ h. below_trans (Some key) s.low (Some parts.key) h low_above) (λ h. below_trans (Some key) (Some parts.key) (own_end s) h parts.ends);
    apart = λ key. not_in_both (is_below (Some key) s.low) (is_below (Some key) (Some parts.key)) (is_below (Some key) (own_end s));
  }

  pub is_part : (x : Split) → x.page ≡ page → x.page_prev ≡ prev → x.child ≡ child → x.child_state ≡ upper_half s → x ≡ part_split
  is_part x a b d e =
      let f : upper_half s ≡ up = λ i. record { level = s.level; low = parts.at i; high = s.high; foster = s.foster; rows = upper_rows (parts.at i) s.rows } in
      λ i. record { page = a i; page_prev = b i; child = d i; child_state = (e ∙ f) i }
