-- What the map has after a change.
use Rattle.std.proofs.Common.{◌≡◌, ℕ, cond, List, [], Option, Bool, Result, Ok, Err, sym, ap, ◌∙◌}
use Rattle.std.specs.Ordering.{nat_cmp}
use Rattle.std.specs.Cmp.Lexicographic.{slice_cmp, nat_list_cmp_total}
use Rattle.std.specs.FinMap as finite
use Rattle.std.specs.FinMap.{get-empty}
use Rattle.std.specs.Map.{lookup}
use Rattle.std.specs.Result.{OnErr}
use Rattle.std.specs.BTreeMap.{BTreeMap, is_at}
use Rattle.std.proofs.lemmas.Cmp.{eq_by_cmp_equiv}
use Rattle.store_model.specs.Contents.{Contents, set_to}
use Rattle.wal_record.specs.State.{same_key}
use Rattle.log_laws.proofs.Central.{get-set_to}
use Rattle.reply_judge.specs.Contents.{HasValues, value_in}

abbrev Pairs : Type 0
Pairs = BTreeMap (List ℕ) (List ℕ)

pub has_none : (pairs : Pairs) → pairs.entries ≡ [] → HasValues finite.empty pairs
unfolding HasValues
has_none pairs none q = ap (lookup (is_at (slice_cmp nat_cmp q))) none ∙ sym (get-empty (slice_cmp nat_cmp) q)

module _ (m : Contents) (old new : Pairs) (k : HasValues m old) where
  pub has_set : (key : List ℕ) (w : Option (List ℕ)) → ((q : List ℕ) → value_in new q ≡ cond (is_at (slice_cmp nat_cmp key) q) w (value_in old q)) → HasValues (set_to m key w) new
  unfolding HasValues
  has_set key w put q =
      put q
      ∙ ap (λ (c : Bool). cond c w (value_in old q)) ((eq_by_cmp_equiv nat_list_cmp_total).symm key q)
      ∙ ap (cond (same_key q key) w) (k q)
      ∙ sym (get-set_to m key w q)

  pub has_same : new.entries ≡ old.entries → HasValues m new
  unfolding HasValues
  has_same same q = ap (lookup (is_at (slice_cmp nat_cmp q))) same ∙ k q

pub on_err : {T E P : Type 0} (r : Result T E) → P → OnErr r P
on_err (Ok x) p = tt
on_err (Err e) p = p
