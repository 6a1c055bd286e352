-- Images in a backup object: what is read of one, and that no two copies have one image.
use Rattle.std.proofs.Common.{◌≡◌, inl, inr, ℕ, ◌+◌, ◌-◌, ◌^◌, ◌<◌, ◌≤◌, true, List, [], ◌++◌, length, take, drop, Result, Ok, Err, refl, sym, ap, ◌∙◌, append_assoc, arith}
use Rattle.std.specs.Prelude.{IsTrue, replicate}
use Rattle.std.specs.Int.{w8, w32, w64, from_be_bytes}
use Rattle.std.proofs.lemmas.Bool.{and_parts}
use Rattle.std.proofs.lemmas.Bool.Decides.{nat_tests}
use Rattle.std.proofs.lemmas.List.{drop_at, length-drop}
use Rattle.store_model.proofs.Bools.{and_true}
use Rattle.sha2.specs.Sha256.{sha256}
use Rattle.sha2.proofs.Facts256.{length-sha256}
use Rattle.wal_record.specs.Rules.{is_number, is_page}
use Rattle.wal_record.specs.State.{KeepsState}
use Rattle.wal_record.specs.Spelling.{number_bytes, state_bytes}
use Rattle.wal_record.specs.Reading.{Read, ◌>>=◌, number_at}
use Rattle.wal_record.specs.Upkeep.{segment_of}
use Rattle.state_codec.proofs.Fields.{bind_ok, ok_is, within_bind, number_field, wide8}
use Rattle.state_codec.proofs.FieldKinds.{lt_true, lt_is_true}
use Rattle.page_image.specs.Image.{head_bytes, body_bytes}
use Rattle.page_image.specs.Reading.{is_format, number_in, sealed_at}
use Rattle.page_image.specs.declared.sealed.Sealed.{Sealed}
use Rattle.page_image.proofs.Reading.{image_is}
use Rattle.backup_set.specs.Backup.{IsCopy, copy_bytes}
use Rattle.backup_set.specs.Reading.{is_next_page, next_at, copy_at, IsNoImage}
use Rattle.backup_set.specs.declared.copy.PageCopy.{PageCopy}
use Rattle.vault_objects.proofs.Numbers.{FitsIn, eq_is, is_eq, number_ok, number_within, number32}
use Rattle.backup_set.proofs.Sizes.{length-image}

pub page_below : (n : ℕ) → IsTrue (is_page n) → n < 2 ^ 32
page_below n h = grind (arith, nat_tests)

-- ---- the number of the next page

pub next_ok : (segment above : ℕ) (body : List ℕ) (x : ℕ × List ℕ) → next_at segment above body ≡ Ok x → (is_next_page segment above x.0 ≡ true) × (x.0 ≡ number_in body)
unfolding next_at number_in
next_ok segment above body x e =
    let b = bind_ok (number_at w8 is_format body) (λ (f : ℕ × List ℕ). number_at w32 (is_next_page segment above) f.1) x e in
    let one = number_ok w8 is_format body b.0 b.1 in
    let two = number_ok w32 (is_next_page segment above) b.0.1 x b.2 in
    (two.0, ap (λ (y : ℕ × List ℕ). y.0) two.1 ∙ ap (λ (y : ℕ × List ℕ). from_be_bytes w32 (take 4 y.1)) one.1)

pub next_within : (segment above : ℕ) (body : List ℕ) (left : ℕ) → next_at segment above body ≡ Err left → left ≤ length body
unfolding next_at
next_within segment above body left e =
    within_bind (number_at w8 is_format body) (λ (f : ℕ × List ℕ). number_at w32 (is_next_page segment above) f.1) left (length body) e (λ d h. number_within w8 is_format body d h) (λ f h g.
    let one = number_ok w8 is_format body f h in
    let shorter : length f.1 ≤ length body = omega (arith, ap (λ (y : ℕ × List ℕ). length y.1) one.1, length-drop 1 body) in
    let le = number_within w32 (is_next_page segment above) f.1 left g in
    omega arith)

pub page_parts : (segment above n : ℕ) → is_next_page segment above n ≡ true → IsTrue (is_page n) × (segment_of n ≡ segment) × (above < n)
page_parts segment above n h =
    let p = and_parts _ _ h in
    let q = and_parts _ _ p.0 in
    (q.0, eq_is _ _ q.1, lt_true _ _ p.1)

page_again : (segment above n : ℕ) → IsTrue (is_page n) → segment_of n ≡ segment → above < n → is_next_page segment above n ≡ true
page_again segment above n p s a = and_true _ _ (and_true _ _ p (is_eq _ _ s)) (lt_is_true _ _ a)

pub copy_next : (segment above : ℕ) (body : List ℕ) (x : ℕ × List ℕ) → next_at segment above body ≡ Ok x → copy_at segment above body ≡ sealed_at x.0 body
unfolding copy_at
copy_next segment above body x e = ap (λ (r : Read ℕ). r >>= λ (number : ℕ × List ℕ). sealed_at number.0 body) e

pub copy_none : (segment above : ℕ) (body : List ℕ) (left : ℕ) → next_at segment above body ≡ Err left → copy_at segment above body ≡ Err left
unfolding copy_at
copy_none segment above body left e = ap (λ (r : Read ℕ). r >>= λ (number : ℕ × List ℕ). sealed_at number.0 body) e

laid : (page lsn : ℕ) (state zeros : List ℕ) → (head_bytes page lsn ++ state) ++ zeros ≡ number_bytes w8 1 ++ (number_bytes w32 page ++ (number_bytes w64 lsn ++ (state ++ zeros)))
laid page lsn state zeros = simp append_assoc

-- ---- copies

module _ (segment above : ℕ) (c : PageCopy) (fits : IsCopy segment above c) where
  body : List ℕ
  body = body_bytes c.page c.sealed.lsn c.sealed.state

  next_again : (rest : List ℕ) × (next_at segment above (body_bytes c.page c.sealed.lsn c.sealed.state) ≡ Ok (c.page, rest))
  unfolding next_at body_bytes
  next_again =
      let zeros : List ℕ = replicate (4064 - length (head_bytes c.page c.sealed.lsn ++ state_bytes c.sealed.state)) 0 in
      let r2 : List ℕ = number_bytes w64 c.sealed.lsn ++ (state_bytes c.sealed.state ++ zeros) in
      let r1 : List ℕ = number_bytes w32 c.page ++ r2 in
      let format = number_field w8 (2 ^ 8) wide8 is_format (FitsIn (2 ^ 8) is_format) (λ n lt h. (h, lt)) (λ n h. h) in (
        r2,
        ap (λ (t : List ℕ). number_at w8 is_format t >>= λ (f : ℕ × List ℕ). number_at w32 (is_next_page segment above) f.1) (laid c.page c.sealed.lsn (state_bytes c.sealed.state) zeros)
            ∙ ap (λ (r : Read ℕ). r >>= λ (f : ℕ × List ℕ). number_at w32 (is_next_page segment above) f.1) (format.again 1 r1 (refl, omega arith))
            ∙ (number32 (is_next_page segment above)).again c.page r2 (page_again segment above c.page fits.page fits.in_segment fits.rises, page_below c.page fits.page),
      )

  behind : drop 32 (copy_bytes c) ≡ body_bytes c.page c.sealed.lsn c.sealed.state
  behind = drop_at (sha256 (body_bytes c.page c.sealed.lsn c.sealed.state)) (body_bytes c.page c.sealed.lsn c.sealed.state) 32 (length-sha256 _)

  pub no_flaw : (at : ℕ) → IsNoImage segment above (copy_bytes c) at → ⊥
  no_flaw at (inl wrong) = wrong.1 (image_is c.page (page_below c.page fits.page) (copy_bytes c) c.sealed fits.state fits.lsn refl).verifies
  no_flaw at (inr broken) =
      let is = image_is c.page (page_below c.page fits.page) (copy_bytes c) c.sealed fits.state fits.lsn refl in
      let next = next_again in
      let read : copy_at segment above (drop 32 (copy_bytes c)) ≡ Ok c.sealed =
      ap (copy_at segment above) behind ∙ copy_next segment above (body_bytes c.page c.sealed.lsn c.sealed.state) (c.page, next.0) next.1 ∙ ap (sealed_at c.page) (sym behind) ∙ is.reads in
      let both : ◌≡◌ {A = Result Sealed ℕ} (Ok c.sealed) (Err broken.1.0) = sym read ∙ broken.1.1 in
      absurd cc

pub copy_same : (c d : PageCopy) → c.page < 2 ^ 32 → d.page < 2 ^ 32 → KeepsState c.sealed.state → IsTrue (is_number c.sealed.lsn) → KeepsState d.sealed.state → IsTrue (is_number d.sealed.lsn) → copy_bytes c ≡ copy_bytes d → c ≡ d
copy_same c d pc pd kc nc kd nd e =
    let a = image_is c.page pc (copy_bytes c) c.sealed kc nc refl in
    let b = image_is d.page pd (copy_bytes c) d.sealed kd nd e in
    let page : c.page ≡ d.page = sym a.number ∙ b.number in
    let sealed : c.sealed ≡ d.sealed = ok_is c.sealed d.sealed (sym a.reads ∙ ap (λ (p : ℕ). sealed_at p (drop 32 (copy_bytes c))) page ∙ b.reads) in
    λ i. record { page = page i; sealed = sealed i }

pub length-copy : (segment above : ℕ) (c : PageCopy) → IsCopy segment above c → length (copy_bytes c) ≡ 4096
length-copy segment above c fits = length-image c.page c.sealed.lsn c.sealed.state fits.state
