-- A calm life as an opening begins it on a log that it found: no transaction has open writes, and no page was split.
use Rattle.std.proofs.Common.{◌≡◌, ◌≢◌, ℕ, ◌+◌, ◌≤◌, suc, Bool, true, false, cond, eqb, List, [], ◌∷◌, ◌++◌, length, Option, Some, None, refl, sym, ap, subst, ◌∙◌, arith, length-append}
use Rattle.std.specs.Prelude.{◌||◌, not, zero}
use Rattle.std.specs.List.{list_any}
use Rattle.std.specs.FinMap.{get}
use Rattle.std.specs.Option.{option_map}
use Rattle.std.proofs.lemmas.Bool.{eqb-true}
use Rattle.std.proofs.lemmas.List.{append-nil}
use Rattle.std.proofs.lemmas.List.Folds.{list_any-append}
use Rattle.store_model.specs.Along.{along}
use Rattle.store_model.specs.Operator.{meaning}
use Rattle.store_model.proofs.Bools.{or_left}
use Rattle.wal_record.specs.Chains.{names, head, pages, greatest}
use Rattle.wal_record.specs.OpenWrites.{open_writes, sum_to, pending, has_items}
use Rattle.wal_record.specs.Contents.{committed_contents}
use Rattle.wal_record.specs.Images.{applied, image, first_page, purged, with_value, OnPage, CanApply, CanTakeChild, IsApplicable}
use Rattle.wal_record.specs.Checkpoints.{commits}
use Rattle.wal_record.specs.Sound.{is_format, IsLawful, AreLawful}
use Rattle.wal_record.specs.declared.page.PageState.{PageState}
use Rattle.wal_record.specs.declared.page.LeafRow.{LeafRow}
use Rattle.wal_record.specs.declared.record.Adopt.{Adopt}
use Rattle.wal_record.specs.declared.record.Grow.{Grow}
use Rattle.wal_record.specs.declared.record.Record.{Record}
use Rattle.wal_record.specs.declared.record.Record.TheVariants as kinds
use Rattle.wal_record.proofs.Along.{by_pushes}
use Rattle.wal_record.proofs.Pushes.{lawful_front, head_push, pages_push, image_push}
use Rattle.log_laws.proofs.Central.{eqb_self, eqb_differ, differ}
use Rattle.life_laws.specs.Calm.{only_leaf, splits_page, CalmLog, Calm}
use Rattle.life_laws.specs.Opening.{OpeningLaw}
use Rattle.life_laws.proofs.CalmLog.{not_nothing}
use Rattle.life_laws.proofs.CalmLives.{calm_rows}
use Rattle.life_laws.proofs.Leaving.{either_false, has_room}
use Rattle.life_laws.proofs.Reopening.{unnamed, history_reopened}
use Rattle.life_laws.proofs.Start.{nothing_told, nothing_legal}

-- ---- one page

-- page 1 is a leaf with all keys, and there is no other page
pub record IsOneLeaf (image : ℕ → Option PageState) : Type 0 where
  pub rows : List LeafRow
  pub leaf : image 1 ≡ Some (only_leaf rows)
  pub others : (p : ℕ) → p ≢ 1 → image p ≡ None

pub record HasOnePage (log : List Record) : Type 0 where
  pub one : IsOneLeaf (image log)
  pub count : pages log ≡ 1

-- who has an image is page 1
pub is_first : (image : ℕ → Option PageState) → IsOneLeaf image → (P : PageState → Type 0) (p : ℕ) → OnPage P (image p) → p ≡ 1
is_first image o P p (s, is, holds) = by (eqb p 1) refl
  where
    by : (b : Bool) → eqb p 1 ≡ b → p ≡ 1
    by true e = eqb-true p 1 e
    by false e = absurd (let n = o.others p (differ p 1 e) in let x : None ≡ Some s = sym n ∙ is in cc)

-- and it is the leaf
on_leaf : (image : ℕ → Option PageState) → (o : IsOneLeaf image) → (P : PageState → Type 0) → OnPage P (image 1) → P (only_leaf o.rows)
on_leaf image o P (s, is, holds) = let e : only_leaf o.rows ≡ s = let x : Some (only_leaf o.rows) ≡ Some s = sym o.leaf ∙ is in cc in subst P (sym e) holds

-- a record that changes the rows of page 1 alone
changed : (log : List Record) (r : Record) (q : ℕ) → HasOnePage log → ((p : ℕ) → names p r ≡ eqb p q) → q ≡ 1 → (rows : List LeafRow) → applied r 1 (image log 1) ≡ Some (only_leaf rows) → pages (log ++ r ∷ []) ≡ 1 → HasOnePage (log ++ r ∷ [])
changed log r q h named is rows after count =
    let at : (p : ℕ) → names p r ≡ eqb p 1 = λ p. named p ∙ ap (eqb p) is in
    record {
      one = record {
        rows = rows;
        leaf = image_push log r 1 ∙ ap (λ (b : Bool). cond b (applied r 1 (image log 1)) (image log 1)) (at 1) ∙ after;
        others = λ p n. image_push log r p ∙ ap (λ (b : Bool). cond b (applied r p (image log p)) (image log p)) (at p ∙ eqb_differ p 1 n) ∙ h.one.others p n;
      };
      count = count;
    }

-- a record that names no page
kept : (log : List Record) (r : Record) → HasOnePage log → ((p : ℕ) → names p r ≡ false) → pages (log ++ r ∷ []) ≡ 1 → HasOnePage (log ++ r ∷ [])
kept log r h named count =
    let same : (p : ℕ) → image (log ++ r ∷ []) p ≡ image log p = λ p. image_push log r p ∙ ap (λ (b : Bool). cond b (applied r p (image log p)) (image log p)) (named p) in
    record { one = record { rows = h.one.rows; leaf = same 1 ∙ h.one.leaf; others = λ p n. same p ∙ h.one.others p n }; count = count }

-- a change of the leaf's rows
rows_changed : (log : List Record) (o : IsOneLeaf (image log)) (change : PageState → PageState) (rows : List LeafRow) → change (only_leaf o.rows) ≡ only_leaf rows → option_map change (image log 1) ≡ Some (only_leaf rows)
rows_changed log o change rows e = ap (option_map change) o.leaf ∙ ap Some e

-- no page is a branch, and none has a foster child: so none is adopted
pub nothing_adopted : (image : ℕ → Option PageState) → IsOneLeaf image → (a : Adopt) → IsApplicable (kinds.Adopt a) a.parent (image a.parent) → ⊥
unfolding CanApply
nothing_adopted image o a applicable =
    let can = applicable.can.0 refl in
    let is = is_first image o _ a.parent can in
    let branch = (on_leaf image o _ (subst (λ (p : ℕ). OnPage (CanTakeChild a) (image p)) is can)).branch in
    absurd cc

nothing_grown : (image : ℕ → Option PageState) → IsOneLeaf image → (g : Grow) → IsApplicable (kinds.Grow g) 1 (image 1) → ⊥
unfolding CanApply
nothing_grown image o g applicable = let foster = (on_leaf image o _ (applicable.can.0 refl)).foster in absurd cc

module _ (log : List Record) (h : HasOnePage log) where
  -- a lawful record that is no Format leaves the one page
  one_more : (r : Record) → is_format r ≡ false → splits_page r ≡ false → IsLawful log r → HasOnePage (log ++ r ∷ [])
  unfolding applied CanApply
  one_more (kinds.Format f) e w l = absurd cc
  one_more (kinds.Write x) e w l = changed log (kinds.Write x) x.page h (λ p. refl) (is_first (image log) h.one _ x.page (l.applicable x.page (eqb_self x.page)).can) _ (rows_changed log h.one (with_value x.key x.new) _ refl) (pages_push log (kinds.Write x) ∙ h.count)
  one_more (kinds.Apply x) e w l = changed log (kinds.Apply x) x.page h (λ p. refl) (is_first (image log) h.one _ x.page (l.applicable x.page (eqb_self x.page)).can.0) _ (rows_changed log h.one (with_value x.key (meaning x.operator x.old x.argument)) _ refl) (pages_push log (kinds.Apply x) ∙ h.count)
  one_more (kinds.Undo x) e w l = changed log (kinds.Undo x) x.page h (λ p. refl) (is_first (image log) h.one _ x.page (l.applicable x.page (eqb_self x.page)).can) _ (rows_changed log h.one (with_value x.key x.restores) _ refl) (pages_push log (kinds.Undo x) ∙ h.count)
  one_more (kinds.Split x) e w l = absurd cc
  one_more (kinds.Adopt x) e w l = absurd (nothing_adopted (image log) h.one x (l.applicable x.parent (or_left (eqb x.parent x.parent) (eqb x.parent x.fosterer) (eqb_self x.parent))))
  one_more (kinds.Grow x) e w l = absurd (nothing_grown (image log) h.one x (l.applicable 1 refl))
  one_more (kinds.Purge x) e w l = changed log (kinds.Purge x) x.page h (λ p. refl) (is_first (image log) h.one _ x.page (l.applicable x.page (eqb_self x.page)).can) _ (rows_changed log h.one purged _ refl) (pages_push log (kinds.Purge x) ∙ h.count)
  one_more (kinds.Commit x) e w l = kept log (kinds.Commit x) h (λ p. refl) (pages_push log (kinds.Commit x) ∙ h.count)
  one_more (kinds.End x) e w l = kept log (kinds.End x) h (λ p. refl) (pages_push log (kinds.End x) ∙ h.count)
  one_more (kinds.Written x) e w l = kept log (kinds.Written x) h (λ p. refl) (pages_push log (kinds.Written x) ∙ h.count)
  one_more (kinds.Checkpoint x) e w l = kept log (kinds.Checkpoint x) h (λ p. refl) (pages_push log (kinds.Checkpoint x) ∙ h.count)
  one_more (kinds.BackupDone x) e w l = kept log (kinds.BackupDone x) h (λ p. refl) (pages_push log (kinds.BackupDone x) ∙ h.count)
  one_more (kinds.RunDone x) e w l = kept log (kinds.RunDone x) h (λ p. refl) (pages_push log (kinds.RunDone x) ∙ h.count)
  one_more (kinds.Lost x) e w l = kept log (kinds.Lost x) h (λ p. refl) (pages_push log (kinds.Lost x) ∙ h.count)
  one_more (kinds.Restored x) e w l = kept log (kinds.Restored x) h (λ p. refl) (pages_push log (kinds.Restored x) ∙ h.count)

-- the first record makes it
first_page_made : (r : Record) → is_format r ≡ true → HasOnePage (r ∷ [])
unfolding image along applied pages
first_page_made (kinds.Format f) e = record { one = record { rows = []; leaf = refl; others = λ p n. ap (λ (b : Bool). cond b (Some first_page) None) (eqb_differ p 1 n) }; count = refl }
first_page_made _ e = absurd cc

pub one_page : (log : List Record) → AreLawful log → list_any splits_page log ≡ false → has_items log ≡ true → HasOnePage log
one_page = by_pushes (λ (log : List Record). AreLawful log → list_any splits_page log ≡ false → has_items log ≡ true → HasOnePage log) (λ _ _ e. absurd cc) (λ log r before lawful whole some.
    let parts = lawful_front log r lawful in
    let splits = either_false (list_any splits_page log) (splits_page r || false) (sym (list_any-append splits_page log (r ∷ [])) ∙ whole) in
    more log r (before parts.0 splits.0) parts.1 (either_false (splits_page r) false splits.1).0 (has_items log) refl)
  where
    more : (log : List Record) (r : Record) → (has_items log ≡ true → HasOnePage log) → IsLawful log r → splits_page r ≡ false → (b : Bool) → has_items log ≡ b → HasOnePage (log ++ r ∷ [])
    more log r h l w true e = one_more log (h e) r (l.first ∙ ap not e) w l
    more [] r h l w false e = first_page_made r l.first
    more (x ∷ xs) r h l w false e = absurd cc

-- page 1 of such a log is a leaf with all keys
pub leaf_found : (log : List Record) → AreLawful log → list_any splits_page log ≡ false → has_items log ≡ true → (rows : List LeafRow) × (image log 1 ≡ Some (only_leaf rows))
leaf_found log lawful whole some = let one = (one_page log lawful whole some).one in (one.rows, one.leaf)

-- ---- the life

no_head : (p : ℕ) → head [] p ≤ 0
unfolding head along
no_head p = omega arith

-- a page head is an LSN of the log
pub head_below : (p : ℕ) (log : List Record) → head log p ≤ length log
head_below p = by_pushes (λ (log : List Record). head log p ≤ length log) (no_head p) (λ log r before.
    by (names p r) log r before (head_push log r p) (length-append log (r ∷ [])))
  where
    by : (b : Bool) (log : List Record) (r : Record) → head log p ≤ length log → head (log ++ r ∷ []) p ≡ cond b (length log + 1) (head log p) → length (log ++ r ∷ []) ≡ length log + 1 → head (log ++ r ∷ []) p ≤ length (log ++ r ∷ [])
    by true log r l e f = omega (arith, e, f)
    by false log r l e f = omega (arith, l, e, f)

none_together : (f : ℕ → ℕ) (n : ℕ) → ((t : ℕ) → f t ≡ 0) → sum_to f n ≡ 0
none_together f zero none = none 0
none_together f (suc n) none = let a = none_together f n none in let b = none (suc n) in omega (arith, a, b)

none_pending : (log : List Record) → ((t : ℕ) → open_writes log t ≡ []) → pending log ≡ 0
unfolding pending
none_pending log settled = none_together (λ t. length (open_writes log t)) (greatest log) (λ t. ap length (settled t))

module _ (log : List Record) (lawful : AreLawful log) (some : has_items log ≡ true) (settled : (t : ℕ) → open_writes log t ≡ []) (whole : list_any splits_page log ≡ false) where
  log_opened : (rows : List LeafRow) → image log 1 ≡ Some (only_leaf rows) → CalmLog log rows (head log 1) None (suc (greatest log)) (commits log) (length log)
  log_opened rows leaf =
      record {
        some = some;
        size = refl;
        leaf = leaf;
        page_head = refl;
        below = head_below 1 log;
        one_page = (one_page log lawful whole some).count;
        whole = whole;
        closed = λ t a. settled t;
        unfinished = none_pending log settled;
        room = let room = has_room log lawful whole (not_nothing log some) in let count = (one_page log lawful whole some).count in omega (arith, room, count);
        opened = tt;
        fresh = λ t l. unnamed t log (omega (arith, l));
        commits_are = refl;
      }

  -- its first state, from what the records of the log say
  pub calm_opened : (rows : List LeafRow) → image log 1 ≡ Some (only_leaf rows) → Calm log [] rows (head log 1) None (suc (greatest log)) (commits log) (length log)
  calm_opened rows leaf =
      record {
        found = some;
        begins = lawful;
        settled = settled;
        legal = nothing_legal log;
        told = nothing_told;
        log = subst (λ (l : List Record). CalmLog l rows (head log 1) None (suc (greatest log)) (commits log) (length log)) (sym (append-nil log)) (log_opened rows leaf);
        history = history_reopened log;
      }

pub opening : (log : List Record) → OpeningLaw log
opening log o =
    let (rows, leaf) = leaf_found log o.lawful o.whole o.some in
    let calm = calm_opened log o.lawful o.some o.settled o.whole rows leaf in
    let found = calm_rows log [] rows (head log 1) None (suc (greatest log)) (commits log) (length log) calm in
    record { rows = rows; leaf = leaf; calm = calm; contents = λ key. found.committed refl key ∙ ap (λ (l : List Record). get (committed_contents l) key) (append-nil log) }
