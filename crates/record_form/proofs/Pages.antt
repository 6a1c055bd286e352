-- Pages of a backup that may stand behind others.
use Rattle.std.proofs.Common.{◌≡◌, ℕ, ◌<◌, ◌≤◌, List, true, sym, subst, arith}
use Rattle.std.specs.Prelude.{IsTrue, nat_le}
use Rattle.std.proofs.lemmas.Bool.Decides.{nat_tests}
use Rattle.store_model.proofs.Bools.{both_true, and_true}
use Rattle.store_model.specs.declared.limits.TheConstants.{MOST_PAGES}
use Rattle.wal_record.specs.Rules.{is_number, is_page, page_lsn_fits}
use Rattle.wal_record.specs.declared.record.PageLsn.{PageLsn}
use Rattle.record_form.proofs.Along.{top, rises, risen}

page_of : (last n : ℕ) → last < n → n ≤ MOST_PAGES → is_page n ≡ true
page_of last n lt le = grind (arith, nat_tests)

bounds_of : (n : ℕ) → is_page n ≡ true → (1 ≤ n) × (n ≤ MOST_PAGES)
bounds_of n h = let b = both_true (nat_le 1 n) (nat_le n MOST_PAGES) h in (grind (arith, nat_tests), grind (arith, nat_tests))

pub page_goes_on : (before : List PageLsn) (x : PageLsn) (last : ℕ) → last ≡ top (λ (x : PageLsn). x.page) before → last < x.page → x.page ≤ MOST_PAGES → IsTrue (is_number x.lsn) → IsTrue (page_lsn_fits before x)
page_goes_on before x last is lt le lsn =
    and_true _ (is_number x.lsn)
    (and_true (is_page x.page) _ (page_of last x.page lt le) (rises (λ (x : PageLsn). x.page) before x.page (subst (λ (k : ℕ). k < x.page) is lt)))
    lsn

pub page_above : (before : List PageLsn) (x : PageLsn) (last : ℕ) → last ≡ top (λ (x : PageLsn). x.page) before → IsTrue (page_lsn_fits before x) → (last < x.page) × (x.page ≤ MOST_PAGES) × IsTrue (is_number x.lsn)
page_above before x last is h =
    let outer = both_true _ (is_number x.lsn) h in
    let inner = both_true (is_page x.page) _ outer.0 in
    let o = bounds_of x.page inner.0 in
    (subst (λ (k : ℕ). k < x.page) (sym is) (risen (λ (x : PageLsn). x.page) before x.page o.0 inner.1), o.1, outer.1)
