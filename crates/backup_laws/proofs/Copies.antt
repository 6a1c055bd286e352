-- The copies that a backup record of a lawful log tells of.
use Rattle.std.proofs.Common.{◌≡◌, ℕ, suc, Bool, true, false, cond, eqb, List, [], ◌∷◌, ◌++◌, length, Option, Some, None, inl, inr, refl, sym, ap, subst, ◌∙◌, arith}
use Rattle.std.specs.Prelude.{find, ◌==◌, ◌&&◌, ◌<◌, nat_lt, take, slice_get, IsTrue}
use Rattle.std.proofs.lemmas.List.{length-append}
use Rattle.std.specs.List.{list_all}
use Rattle.std.specs.Option.{option_map_or}
use Rattle.std.proofs.lemmas.Bool.{eqb-true}
use Rattle.std.proofs.lemmas.Bool.Decides.{nat_tests}
use Rattle.store_model.specs.Along.{AllFrom}
use Rattle.store_model.specs.Lists.{last_of}
use Rattle.store_model.proofs.Bools.{both_true}
use Rattle.wal_record.specs.Chains.{head, names, names_at}
use Rattle.wal_record.specs.Images.{image}
use Rattle.wal_record.specs.Rules.{is_number, is_page, page_lsn_fits, rises_above}
use Rattle.wal_record.specs.Sound.{AreLawful, are_images}
use Rattle.wal_record.specs.State.{KeepsState}
use Rattle.wal_record.specs.Upkeep.{segment_of}
use Rattle.wal_record.specs.declared.page.PageState.{PageState}
use Rattle.wal_record.specs.declared.record.PageLsn.{PageLsn}
use Rattle.wal_record.specs.declared.record.Record.{Record}
use Rattle.tree_laws.proofs.Whole.{tree}
use Rattle.chain_laws.proofs.Named.{at_place, head_here, item_last, lawful_taken, no_image}
use Rattle.chain_laws.proofs.Previous.{unimaged}
use Rattle.page_repair.specs.Chains.{IsImageAt}
use Rattle.backup_set.specs.Backup.{AreCopies, IsAmong}
use Rattle.backup_set.specs.declared.copy.PageCopy.{PageCopy}
use Rattle.named_objects.specs.Named.{AreCopiesOf}

-- ---- an image where a record names the page

logged_keeps : (log : List Record) (p : ℕ) (s : PageState) → AreLawful log → image log p ≡ Some s → KeepsState s
logged_keeps [] p s lawful is = absurd (cc (sym (no_image p) ∙ is))
logged_keeps (r ∷ rs) p s lawful is = (tree (r ∷ rs) lawful (λ e. cc e)).keeps p s is

record IsImaged (log : List Record) (p lsn : ℕ) : Type 0 where
  state : PageState
  is : image (take lsn log) p ≡ Some state
  keeps : KeepsState state

imaged : (log : List Record) (p lsn : ℕ) → AreLawful log → names_at log lsn p ≡ true → IsImaged log p lsn
imaged log p lsn lawful named = by (image (take lsn log) p) refl
  where
    place : (n : ℕ) × (r : Record) × (lsn ≡ suc n) × (slice_get log n ≡ Some r) × (names p r ≡ true)
    place = at_place log lsn p named

    here : head (take lsn log) p ≡ lsn
    here = ap (λ (n : ℕ). head (take n log) p) place.2 ∙ head_here log place.0 p place.1 place.3 place.4 ∙ sym place.2

    by : (o : Option PageState) → image (take lsn log) p ≡ o → IsImaged log p lsn
    by None e = absurd (let zero = unimaged p (take lsn log) (lawful_taken log lsn lawful) e in let some = here in let one = place.2 in omega arith)
    by (Some s) e = record { state = s; is = e; keeps = logged_keeps (take lsn log) p s (lawful_taken log lsn lawful) e }

-- ---- all copies that are told

-- the page of the last of these, 0 for none
abbrev above_of : List PageLsn → ℕ
above_of front = option_map_or (λ (x : PageLsn). x.page) (last_of front) 0

above_more : (front : List PageLsn) (x : PageLsn) → above_of (front ++ x ∷ []) ≡ x.page
above_more front x = ap (λ (o : Option PageLsn). option_map_or (λ (y : PageLsn). y.page) o 0) (last_here front x)
  where
    last_here : (front : List PageLsn) (x : PageLsn) → last_of (front ++ x ∷ []) ≡ Some x
    last_here front x = ap (slice_get (front ++ x ∷ [])) (omega (arith, length-append front (x ∷ []))) ∙ item_last front x

rises : (front : List PageLsn) (page : ℕ) → is_page page ≡ true → rises_above (λ (x : PageLsn). x.page) front page ≡ true → above_of front < page
rises front page one up = by (last_of front) refl up
  where
    by : (o : Option PageLsn) → last_of front ≡ o → option_map_or (λ (x : PageLsn). nat_lt x.page page) o true ≡ true → above_of front < page
    by None e up = let zero : above_of front ≡ 0 = ap (λ (o : Option PageLsn). option_map_or (λ (y : PageLsn). y.page) o 0) e in grind (arith, nat_tests)
    by (Some x) e up = let last : above_of front ≡ x.page = ap (λ (o : Option PageLsn). option_map_or (λ (y : PageLsn). y.page) o 0) e in grind (arith, nat_tests)

pub record Copied (log : List Record) (segment above : ℕ) (told : List PageLsn) : Type 0 where
  pub copies : List PageCopy
  pub are : AreCopiesOf log told copies
  pub fit : AreCopies segment above copies
  pub count : length copies ≡ length told

pub copied : (log : List Record) (segment : ℕ) → AreLawful log → (told front : List PageLsn) → AllFrom (λ before p. IsTrue (page_lsn_fits before p)) front told → are_images log told ≡ true
    → list_all (λ (x : PageLsn). segment_of x.page == segment) told ≡ true → Copied log segment (above_of front) told
copied log segment lawful [] front fits images inside = record { copies = []; are = tt; fit = tt; count = refl }
copied log segment lawful (x ∷ xs) front fits images inside =
    let one = both_true (names_at log x.lsn x.page) (are_images log xs) images in
    let here = both_true (segment_of x.page == segment) (list_all (λ (y : PageLsn). segment_of y.page == segment) xs) inside in
    let fields = both_true (is_page x.page && rises_above (λ (y : PageLsn). y.page) front x.page) (is_number x.lsn) fits.0 in
    let number = both_true (is_page x.page) (rises_above (λ (y : PageLsn). y.page) front x.page) fields.0 in
    let found = imaged log x.page x.lsn lawful one.0 in
    let copy : PageCopy = record { page = x.page; sealed = record { state = found.state; lsn = x.lsn } } in
    let rest = copied log segment lawful xs (front ++ x ∷ []) fits.1 one.1 here.1 in
    record {
      copies = copy ∷ rest.copies;
      are = (record { page = refl; lsn = refl; image = found.is }, rest.are);
      fit = (record { page = number.0; in_segment = eqb-true (segment_of x.page) segment here.0; rises = rises front x.page number.0 number.1; state = found.keeps; lsn = fields.1 }, subst (λ (a : ℕ). AreCopies segment a rest.copies) (above_more front x) rest.fit);
      count = ap suc rest.count;
    }

-- ---- the copy of one page

pub record CopyOf (log : List Record) (p lsn : ℕ) (copies : List PageCopy) : Type 0 where
  pub copy : PageCopy
  pub among : IsAmong copy copies
  pub page : copy.page ≡ p
  pub at : copy.sealed.lsn ≡ lsn
  pub image : IsImageAt log p copy.sealed
  pub named : names_at log copy.sealed.lsn p ≡ true

same_told : (a b : PageLsn) → ◌≡◌ {A = Option PageLsn} (Some a) (Some b) → a ≡ b
same_told a b e = cc

pub copy_of : (log : List Record) (p : ℕ) (told : List PageLsn) (copies : List PageCopy) (x : PageLsn) → AreCopiesOf log told copies → are_images log told ≡ true → find (λ (y : PageLsn). y.page == p) told ≡ Some x → CopyOf log p x.lsn copies
copy_of log p [] [] x are images e = absurd cc
copy_of log p [] (c ∷ cs) x are images e = absurd are
copy_of log p (t ∷ ts) [] x are images e = absurd are
copy_of log p (t ∷ ts) (c ∷ cs) x are images e = by (copy_of log p ts cs x are.1 (both_true (names_at log t.lsn t.page) (are_images log ts) images).1) (eqb t.page p) refl e
  where
    here : names_at log t.lsn t.page ≡ true
    here = (both_true (names_at log t.lsn t.page) (are_images log ts) images).0

    by : (find (λ (y : PageLsn). y.page == p) ts ≡ Some x → CopyOf log p x.lsn cs) → (b : Bool) → eqb t.page p ≡ b → cond b (Some t) (find (λ (y : PageLsn). y.page == p) ts) ≡ Some x → CopyOf log p x.lsn (c ∷ cs)
    by rest true is e =
        let same = same_told t x e in
        let own = eqb-true t.page p is in
        record {
          copy = c;
          among = inl refl;
          page = are.0.page ∙ own;
          at = are.0.lsn ∙ ap (λ (y : PageLsn). y.lsn) same;
          image = subst (λ (q : ℕ). IsImageAt log q c.sealed) own are.0.image;
          named = ap (λ (n : ℕ). names_at log n p) are.0.lsn ∙ ap (names_at log t.lsn) (sym own) ∙ here;
        }
    by rest false is e = let r = rest e in record { copy = r.copy; among = inr r.among; page = r.page; at = r.at; image = r.image; named = r.named }
