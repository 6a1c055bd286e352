-- A page that agrees with the one before has the key between its fences.
use Rattle.std.proofs.Common.{◌≡◌, ℕ, Bool, true, false, List, Option, Some, None, refl, sym, ap, ◌∙◌}
use Rattle.std.specs.Prelude.{◌&&◌, not}
use Rattle.std.specs.Option.{option_map}
use Rattle.store_model.specs.Range.{is_below, has_key}
use Rattle.wal_record.specs.State.{has_own, has_within, end_by}
use Rattle.wal_record.specs.Tree.{Fence, Pointer, fence_of, foster_pointers}
use Rattle.wal_record.specs.declared.page.PageState.{PageState}
use Rattle.wal_record.specs.declared.page.Foster.{Foster}
use Rattle.tree_laws.proofs.Counts.{inside_some}
use Rattle.tree_laws.proofs.Keys.{in_parts, in_from}
use Rattle.tree_laws.proofs.Start.{missing}
use Rattle.foster_laws.specs.Descents.{CoversAt}
use Rattle.fence_check.specs.Breaches.{fence_in, foster_fence}
use Rattle.std.specs.Prelude.{slice_get}

pub step_within : (s t : PageState) (key : List ℕ) (i : ℕ) → CoversAt s key i → fence_in s i ≡ Some (fence_of t) → has_within t key ≡ true
step_within s t key i at agrees =
    let e : at.pointer.fence ≡ fence_of t = inside_some _ _ (sym (ap (option_map (λ (x : Pointer). x.fence)) at.slot) ∙ agrees) in
    ap (λ (f : Fence). has_key (record { low = f.low; high = f.high }) key) (sym e) ∙ at.within

behind : (a b : Bool) → a ≡ false → (not a && b) ≡ false → b ≡ false
behind true b x y = absurd cc
behind false b x y = y

pub foster_within : (s t : PageState) (key : List ℕ) → has_within s key ≡ true → has_own s key ≡ false → foster_fence s ≡ Some (fence_of t) → has_within t key ≡ true
foster_within s t key inside out agrees = by s.foster refl
  where
    by : (o : Option Foster) → s.foster ≡ o → has_within t key ≡ true
    by None e = absurd (missing (fence_of t) (sym (ap (λ (o : Option Foster). option_map (λ (x : Pointer). x.fence) (slice_get (foster_pointers s.level s.high o) 0)) e) ∙ agrees))
    by (Some f) e =
        let fence : Fence = record { level = s.level; low = Some f.key; high = s.high } in
        let same : fence ≡ fence_of t = inside_some _ _ (sym (ap (λ (o : Option Foster). option_map (λ (x : Pointer). x.fence) (slice_get (foster_pointers s.level s.high o) 0)) e) ∙ agrees) in
        let i = in_parts (record { low = s.low; high = s.high }) key inside in
        let o : has_key (record { low = s.low; high = Some f.key }) key ≡ false = ap (λ (x : Option (List ℕ)). has_key (record { low = s.low; high = x }) key) (sym (ap (λ (x : Option Foster). end_by x s.high) e)) ∙ out in
        ap (λ (x : Fence). has_key (record { low = x.low; high = x.high }) key) (sym same)
        ∙ in_from (record { low = Some f.key; high = s.high }) key (behind (is_below (Some key) s.low) (is_below (Some key) (Some f.key)) i.0 o) i.1
