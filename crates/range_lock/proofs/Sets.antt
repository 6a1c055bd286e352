-- An ordered set of point locks, seen as what is among its keys.
use Rattle.std.proofs.Common.{◌≡◌, ℕ, ◌<◌, ◌≤◌, length, Bool, true, false, cond, List, [], ◌∷◌, ◌++◌, refl, sym, ap, subst, ◌∙◌, Result, Ok, Err, inl, inr, arith}
use Rattle.std.specs.Prelude.{◌⊎◌, ◌↔◌, not, OnOk, OnErr}
use Rattle.std.specs.BTreeMap.{is_at}
use Rattle.std.specs.BTreeSet as sorted
use Rattle.std.specs.BTreeSet.{BTreeSet}
use Rattle.store_model.proofs.Bools.{not_both, false_unless}
use Rattle.range_lock.specs.Lock.{IsAmong}
use Rattle.range_lock.specs.Among.{Adds, Removes}
use Rattle.range_lock.specs.Point.{PointLock, HasLength, HaveLength, IsKey, point_cmp}
use Rattle.range_lock.proofs.Members.{exact_point, is_equal, point_among, among_point}

abbrev pub lock_of : List ℕ → ℕ → PointLock
lock_of key tx = record { key = key; tx = tx }

pub none_left : {A : Type 0} (xs ys : List A) → xs ++ ys ≡ [] → length xs ≡ 0
none_left [] ys e = refl
none_left (x ∷ xs) ys e = absurd cc

under : (b : Bool) (k q : PointLock) (o : Bool) → is_at (point_cmp k) q ≡ b → cond b true o ≡ true → (q ≡ k) ⊎ (o ≡ true)
under true k q o at h = inl (sym (exact_point k q (is_equal (point_cmp k q) at)))
under false k q o at h = inr h

keeps : (b : Bool) (o : Bool) → o ≡ true → cond b true o ≡ true
keeps true o h = refl
keeps false o h = h

pub inserted : (s n : BTreeSet PointLock) (k : PointLock) → sorted.Updates point_cmp s n k true → Adds s.keys n.keys k
inserted s n k up q = (
  λ h. elim (under (is_at (point_cmp k) q) k q (sorted.contains point_cmp s q) refl (sym (up.0 q) ∙ among_point q n.keys h)) [ inl e ↦ inl e | inr m ↦ inr (point_among q s.keys m) ],
  λ g. elim g [ inl e ↦ subst (λ (p : PointLock). IsAmong p n.keys) (sym e) (point_among k n.keys up.1) | inr m ↦ point_among q n.keys (up.0 q ∙ keeps (is_at (point_cmp k) q) _ (among_point q s.keys m)) ],
)

stays : (b o : Bool) → cond b false o ≡ true → o ≡ true
stays true o h = absurd cc
stays false o h = h

pub removed : (s n : BTreeSet PointLock) (k : PointLock) → sorted.UpdatesBy point_cmp (point_cmp k) s n false → Removes s.keys n.keys k
removed s n k up q = (
  λ h. let has = among_point q n.keys h in (
    λ e. not_both (sorted.contains point_cmp n k) (subst (λ (p : PointLock). sorted.contains point_cmp n p ≡ true) e has) up.1,
    point_among q s.keys (stays (is_at (point_cmp k) q) _ (sym (up.0 q) ∙ has)),
  ),
  λ g. point_among q n.keys (up.2 q (false_unless _ (λ at. g.0 (sym (exact_point k q (is_equal (point_cmp k q) at))))) ∙ among_point q s.keys g.1),
)

-- nothing is removed where it was none of them
pub removed_none : (ps : List PointLock) (k : PointLock) → (IsAmong k ps → ⊥) → Removes ps ps k
removed_none ps k none q = (λ h. (λ e. none (subst (λ (p : PointLock). IsAmong p ps) e h), h), λ g. g.1)

-- ---- the lengths of keys

pub longer_keys : (ps : List PointLock) → HaveLength 25 64 ps → HaveLength 1 64 ps
longer_keys ps h p m = let l = h p m in record { least_fits = omega (arith, l.least_fits); fits = l.fits }

-- a lock of a set fits an entry that its keys fit
pub no_room : (most : ℕ) (k : PointLock) (ps : List PointLock) → HaveLength 1 most ps → most ≤ 64 → IsAmong k ps → (IsKey k.key × (length k.key ≤ most) → ⊥) → ⊥
no_room most k ps h room m none =
    let l = h k m in
    none (record { least_fits = l.least_fits; fits = omega (arith, l.fits, room) }, l.fits)

-- a lock that is in a set of other lengths
pub not_longer : (k : PointLock) (ps : List PointLock) → HaveLength 25 64 ps → length k.key ≤ 24 → IsAmong k ps → ⊥
not_longer k ps h short m = omega (arith, (h k m).least_fits, short)

pub not_shorter : (k : PointLock) (ps : List PointLock) → HaveLength 1 24 ps → 24 < length k.key → IsAmong k ps → ⊥
not_shorter k ps h long m = omega (arith, (h k m).fits, long)

not_false : (b : Bool) → not b ≡ false → b ≡ true
not_false true e = refl
not_false false e = absurd cc

-- the insertion told whether it is new
pub told_new : (s : BTreeSet PointLock) (k : PointLock) (added : Bool) → added ≡ not (sorted.contains point_cmp s k) → (added ≡ false) ↔ IsAmong k s.keys
told_new s k added told = (λ e. point_among k s.keys (not_false _ (sym told ∙ e)), λ h. told ∙ ap not (among_point k s.keys h))

pub adds_fitting : (least most : ℕ) (old new : List PointLock) (k : PointLock) → HasLength least most k.key → Adds old new k → HaveLength least most old → HaveLength least most new
adds_fitting least most old new k fits put h p m = elim ((put p).0 m) [ inl e ↦ subst (λ (q : PointLock). HasLength least most q.key) (sym e) fits | inr g ↦ h p g ]

pub put_fitting : {R E : Type 0} (r : Result R E) (least most : ℕ) (old new : List PointLock) (k : PointLock) → HasLength least most k.key → OnOk r (Adds old new k) → OnErr r (new ≡ old) → HaveLength least most old → HaveLength least most new
put_fitting (Ok a) least most old new k fits ok err h = adds_fitting least most old new k fits ok h
put_fitting (Err e) least most old new k fits ok err h = subst (HaveLength least most) (sym err) h

pub removes_fitting : (least most : ℕ) (old new : List PointLock) (k : PointLock) → Removes old new k → HaveLength least most old → HaveLength least most new
removes_fitting least most old new k out h p m = h p ((out p).0 m).1
