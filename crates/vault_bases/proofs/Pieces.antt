-- Pieces of objects, and the copy in its place.
use Rattle.std.proofs.Common.{◌≡◌, ℕ, ◌+◌, ◌-◌, ◌*◌, ◌^◌, ◌<◌, List, ◌++◌, length, take, drop, Option, Some, None, sym, ap, subst, ◌∙◌, arith}
use Rattle.std.specs.Prelude.{◌≤◌, IfSome, MatchOption, min}
use Rattle.std.proofs.lemmas.List.{length-drop, length-take, take_at, take_min}
use mathlib.Core.List.{IsPrefix}
use Rattle.front.proofs.Keeping.{prefix_trans}
use Rattle.store_model.specs.declared.object.ObjectName.{ObjectName}
use Rattle.wal_record.specs.History.{life_log}
use Rattle.wal_record.specs.State.{KeepsState}
use Rattle.wal_record.specs.Upkeep.{segment_of}
use Rattle.wal_record.specs.declared.record.Record.{Record}
use Rattle.wal_record.specs.declared.entry.Entry.{Entry}
use Rattle.page_image.specs.declared.sealed.Sealed.{Sealed}
use Rattle.backup_set.specs.Answers.{HasImage, place_of}
use Rattle.backup_set.specs.Backup.{backup_name}
use Rattle.backup_set.proofs.Walking.{found_is}
use Rattle.named_objects.specs.Named.{IsNamedPiece, Names}
use Rattle.vault_bases.specs.Named.{IsCopyIn, OfNamed}
use Rattle.vault_bases.proofs.Keeping.{names_later}

piece_is : (old new bytes : List ℕ) (from n : ℕ) → n ≡ min (length old) (length bytes - from) → new ≡ take n (drop from bytes) ++ drop n old → take n new ≡ take (length old) (drop from bytes)
piece_is old new bytes from n count is =
    let rest : List ℕ = drop from bytes in
    let long : length rest ≡ length bytes - from = length-drop from bytes in
    let most : n ≡ min (length old) (length rest) = count ∙ ap (min (length old)) (sym long) in
    let front : length (take n rest) ≡ n = let t = length-take n rest in omega (arith, t, most) in
    ap (take n) is ∙ take_at (take n rest) (drop n old) n front ∙ ap (λ (k : ℕ). take k rest) most ∙ take_min (length old) rest

-- what a get gives is the object's bytes from an offset on
pub piece_of : (opens : List Record → Type 0) (h : List Entry) (name : ObjectName) (from n : ℕ) (old new : List ℕ) → IsNamedPiece opens h name from old new n → OfNamed opens h name (λ bytes. take n new ≡ take (length old) (drop from bytes))
piece_of opens h name from n old new is opening bytes stands named = let e = is opening bytes stands named in piece_is old new bytes from n e.0 e.1

-- a vector that was filled with it and cut
pub bytes_read : (got held new bytes old : List ℕ) (from n most : ℕ) → got ≡ take n held → held ≡ new → take n new ≡ take (length old) (drop from bytes) → length old ≡ most → got ≡ take most (drop from bytes)
bytes_read got held new bytes old from n most cut same piece long = cut ∙ ap (take n) same ∙ piece ∙ ap (λ (k : ℕ). take k (drop from bytes)) long

pub segment_below : (p : ℕ) → p < 2 ^ 32 → segment_of p < 2 ^ 32
segment_below p low = omega (arith, low)

-- the image that is found in its place is the copy's
module _ (opens : List Record → Type 0) (h first second : List Entry) (begins : IsPrefix h first) (goes : IsPrefix first second) (p backup : ℕ) (low : p < 2 ^ 32) (small : backup < 2 ^ 64) (name : ObjectName) (named : name ≡ backup_name backup (segment_of p)) (place : ℕ) (at : place ≡ 20 + 4096 * place_of p)
    (head image : List ℕ) (head_read : OfNamed opens first name (λ bytes. head ≡ take 20 bytes)) (image_read : OfNamed opens second name (λ bytes. image ≡ take 4096 (drop place bytes))) where
  pub copy_in_place : (found : Option Sealed) → ((bytes : List ℕ) → head ≡ take 20 bytes → image ≡ take 4096 (drop (20 + 4096 * place_of p) bytes) → IfSome found (HasImage backup (segment_of p) p bytes)) → IfSome found (λ x. KeepsState x.state)
      → IfSome found (IsCopyIn opens h p backup)
  copy_in_place None held rules = tt
  copy_in_place (Some x) held rules = record {
    keeps = rules;
    is = λ opening c stands n.
        let there : Names (life_log opening h) name n.bytes = subst (λ (o : ObjectName). Names (life_log opening h) o n.bytes) (sym named) n.names in
        let one = head_read opening n.bytes stands (names_later opening h first name n.bytes begins there) in
        let two = image_read opening n.bytes stands (names_later opening h second name n.bytes (prefix_trans h first second begins goes) there) ∙ ap (λ (k : ℕ). take 4096 (drop k n.bytes)) at in
        found_is backup (segment_of p) small (segment_below p low) n.copies n.bytes n.are p x c low (held n.bytes one two) n.among n.page;
  }

-- the first bytes, where they aren't cut
pub first_bytes : (o : Option (List ℕ)) (read held : List ℕ) (y : List ℕ) → MatchOption o (length read < 4096) (λ image. (4096 ≤ length read) × (image ≡ take 4096 read)) → read ≡ held → take 4096 held ≡ y → IfSome o (λ bytes. bytes ≡ y)
first_bytes None read held y m is here = tt
first_bytes (Some x) read held y m is here = m.1 ∙ ap (take 4096) is ∙ here
