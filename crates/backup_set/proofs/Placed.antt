-- An image that stands in its place is found there.
use Rattle.std.proofs.Common.{◌≡◌, ◌≢◌, ℕ, ◌<◌, ◌≤◌, List, [], length, take, Result, Ok, Err, refl, sym, ap, ◌∙◌, arith}
use Rattle.std.specs.Prelude.{IsTrue}
use Rattle.std.proofs.lemmas.List.{length-take}
use Rattle.wal_record.specs.Rules.{is_number}
use Rattle.wal_record.specs.State.{KeepsState}
use Rattle.wal_record.specs.Upkeep.{segment_of}
use Rattle.state_codec.proofs.Fields.{ok_is}
use Rattle.page_image.specs.Image.{image_bytes}
use Rattle.page_image.specs.Reading.{GivesOr}
use Rattle.page_image.specs.declared.sealed.Sealed.{Sealed}
use Rattle.page_image.specs.declared.fault.PageFault.{PageFault}
use Rattle.page_image.specs.declared.fault.PageFault.TheVariants.{Digest, Number, Format, Memory}
use Rattle.store_model.specs.declared.fault.Fault.{Fault}
use Rattle.store_model.specs.declared.fault.Fault.TheVariants as faults
use Rattle.backup_set.specs.Answers.{FailsToFind, IsBadHead, StandsInPlace, place_of}
use Rattle.backup_set.specs.Reading.{head_at}
use Rattle.backup_set.proofs.Sizes.{length-image}

module _ (backup page : ℕ) (head image : List ℕ) (x : Sealed) (stands : StandsInPlace backup page head image x) where
  no_error : (left : ℕ) → head_at backup (segment_of page) (take 20 head) ≡ Err left → ⊥
  no_error left e = let both : ◌≡◌ {A = Result (ℕ × List ℕ) ℕ} (Ok (stands.count, [])) (Err left) = sym stands.counts ∙ e in absurd cc

  pub no_bad_head : (segment : ℕ) (f : Fault) → segment ≡ segment_of page → f ≢ faults.Memory → FailsToFind (IsBadHead backup segment head) f → ⊥
  no_bad_head segment faults.Memory is other bad = other refl
  no_bad_head segment (faults.VaultBad object byte) is other bad = no_error bad.cause.0 (ap (λ (s : ℕ). head_at backup s (take 20 head)) (sym is) ∙ bad.cause.1)
  no_bad_head segment _ is other bad = absurd bad

  pub counted_there : (segment count place : ℕ) → segment ≡ segment_of page → head_at backup segment (take 20 head) ≡ Ok (count, []) → place ≡ place_of page → count ≤ place → ⊥
  counted_there segment count place is counts at few =
      let same = ok_is (stands.count, []) (count, []) (sym stands.counts ∙ ap (λ (s : ℕ). head_at backup s (take 20 head)) (sym is) ∙ counts) in
      let e : stands.count ≡ count = ap (λ (p : ℕ × List ℕ). p.0) same in
      let c = stands.counted in
      omega (arith, e, c, at, few)

  pub long_enough : length image < 4096 → ⊥
  long_enough short = let e = ap length stands.here ∙ length-image page x.lsn x.state stands.state in let t = length-take 4096 image in omega (arith, e, t, short)

  pub opened : (front : List ℕ) (r : Result Sealed PageFault) → front ≡ take 4096 image → ((y : Sealed) → KeepsState y.state → IsTrue (is_number y.lsn) → front ≡ image_bytes page y.lsn y.state → GivesOr y r) → GivesOr x r
  opened front r is only = only x stands.state stands.lsn (is ∙ stands.here)

pub no_fault : (x : Sealed) (f : PageFault) → f ≢ Memory → GivesOr x (Err f) → ⊥
no_fault x Memory other h = other refl
no_fault x Digest other h = h
no_fault x Number other h = h
no_fault x (Format byte) other h = h
