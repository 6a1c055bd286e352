-- What a device's pass and a caller's pass tell each other.
use Rattle.std.proofs.Common.{◌≡◌, ℕ, ◌≤◌, Bool, true, false, List, refl, sym, subst, arith, inl, inr}
use Rattle.std.specs.Prelude.{◌⊎◌, ◌≢◌, max, Option, Some, None, Result, Ok, Err, OnOk}
use Rattle.std.specs.Str.{bytes_eq}
use Rattle.std.proofs.Math.Nat.{le-max_left, le-max_right}
use Rattle.std.proofs.lemmas.Bool.Decides.{not_from_Decides}
use Rattle.std.proofs.lemmas.Slice.Eq.{bytes_eq-Decides}
use mathlib.Core.List.{IsPrefix}
use Rattle.front.specs.Seen.{PassSeen}
use Rattle.media.specs.Images.{FailsVerification, Adds}
use Rattle.wal_record.specs.declared.record.Record.{Record}
use Rattle.wal_record.specs.declared.entry.Entry.{Entry}
use Rattle.page_repair.specs.Images.{IsWritten, AreWritten}
use Rattle.page_repair.proofs.Staying.{written_later}

-- whether two texts are the same can be told
apart_or : {Q : Type 0} (a b : List ℕ) → (a ≡ b → Q) → (a ≢ b) ⊎ Q
apart_or {Q} a b by = told (bytes_eq a b) refl
  where
    told : (r : Bool) → bytes_eq a b ≡ r → (a ≢ b) ⊎ Q
    told true is = inr (by ((bytes_eq-Decides a b).0 is))
    told false is = inl (not_from_Decides (bytes_eq a b) (bytes_eq-Decides a b) is)

-- an image that is read is one of the log, as the pass that met the device's has then seen it
pub read_image : {D T E : Type 0} (opens : List Record → Type 0) (tells : Type 0) (told : D → ℕ → List ℕ → Type 0) (p known old q : PassSeen Entry) (device : D) (page : ℕ) (bytes : List ℕ) (result : Result T E)
    → ((opening : List Record) → opens opening → tells) → (tells → AreWritten opens told p device) → known ≡ p → IsPrefix known.log q.log → q.durable ≡ max old.durable known.durable
    → (tells → OnOk result (told device page bytes ⊎ FailsVerification bytes)) → OnOk result (FailsVerification bytes ⊎ IsWritten opens q page bytes)
read_image opens tells told p known old q device page bytes (Err e) knows all same begins most gives = tt
read_image opens tells told p known old q device page bytes (Ok x) knows all same begins most gives =
    let begins : IsPrefix p.log q.log = subst (λ (k : PassSeen Entry). IsPrefix k.log q.log) same begins in
    let later : p.durable ≤ q.durable = subst (λ (k : PassSeen Entry). k.durable ≤ q.durable) same (let l = le-max_right old.durable known.durable in omega (arith, l, most)) in
    apart_or _ _ (λ good opening stands. elim (gives (knows opening stands)) [
      | inl there ↦ written_later opens p q page bytes begins later (all (knows opening stands) page bytes there) opening stands
      | inr bad ↦ absurd (bad good)
    ])

-- the images after a write are those of the log, as the device's pass that met the writer's has then seen it
pub write_kept : {D : Type 0} (opens : List Record → Type 0) (tells : Type 0) (told : D → ℕ → List ℕ → Type 0) (newest : D → ℕ → Option (List ℕ)) (p known a q : PassSeen Entry) (old new : D) (page : ℕ) (bytes : List ℕ)
    → ((opening : List Record) → opens opening → tells) → (tells → AreWritten opens told p old) → known ≡ a → IsWritten opens a page bytes → IsPrefix p.log q.log → IsPrefix known.log q.log → q.durable ≡ max p.durable known.durable
    → (tells → Adds told newest page bytes old new) → ((opening : List Record) → opens opening → tells) × (tells → AreWritten opens told q new)
write_kept opens tells told newest p known a q old new page bytes knows all same w begins met most adds = (
  knows,
  λ t page' bytes' there.
      let mine : IsPrefix a.log q.log = subst (λ (k : PassSeen Entry). IsPrefix k.log q.log) same met in
      let later : a.durable ≤ q.durable = subst (λ (k : PassSeen Entry). k.durable ≤ q.durable) same (let l = le-max_right p.durable known.durable in omega (arith, l, most)) in
      let own : p.durable ≤ q.durable = let l = le-max_left p.durable known.durable in omega (arith, l, most) in
      elim ((adds t).images page' bytes' there) [
        | inl before ↦ written_later opens p q page' bytes' begins own (all t page' bytes' before)
        | inr is ↦ subst (λ (z : ℕ × List ℕ). IsWritten opens q z.0 z.1) (λ i. (sym is.0 i, sym is.1 i)) (written_later opens a q page bytes mine later w)
      ],
)

-- on an empty device no image is the newest
pub none_newest : {D T E : Type 0} (tells : Type 0) (told : D → ℕ → List ℕ → Type 0) (newest : D → ℕ → Option (List ℕ)) (device : D) (result : Result T E)
    → ((p : ℕ) (image : List ℕ) → newest device p ≡ Some image → told device p image)
    → (tells → OnOk result ((p : ℕ) (image : List ℕ) → told device p image → ⊥)) → tells → OnOk result ((p : ℕ) → newest device p ≡ None)
none_newest tells told newest device (Err e) is_told empty t = tt
none_newest tells told newest device (Ok x) is_told empty t = λ p. by p (newest device p) refl
  where
    by : (p : ℕ) (found : Option (List ℕ)) → newest device p ≡ found → newest device p ≡ None
    by p None is = is
    by p (Some image) is = absurd (empty t p image (is_told p image is))
