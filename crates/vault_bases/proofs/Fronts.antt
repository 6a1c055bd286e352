-- An object that is read chunk by chunk.
use Rattle.std.proofs.Common.{◌≡◌, ℕ, ◌+◌, ◌*◌, ◌^◌, ◌<◌, ◌≤◌, List, ◌++◌, length, take, drop, sym, ap, subst, ◌∙◌, arith}
use Rattle.std.proofs.lemmas.List.{length-append, length-take}
use Rattle.vault_objects.proofs.Chunks.{IsFront, is_all, one_more}

-- the object's first bytes, of so many chunks at most
abbrev pub HasFront : List ℕ → ℕ → List ℕ → Type 0
HasFront items chunks bytes = IsFront items bytes × (length items ≤ 65536 * chunks)

module _ (bytes items chunk all : List ℕ) (from chunks : ℕ) (place : from ≡ length items) (is : all ≡ items ++ chunk) (front : HasFront items chunks bytes) (read : chunk ≡ take 65536 (drop from bytes)) where
  next : chunk ≡ take 65536 (drop (length items) bytes)
  next = read ∙ ap (λ (k : ℕ). take 65536 (drop k bytes)) place

  size : length all ≤ 65536 * (chunks + 1)
  size =
      let e = ap length next in
      let most = length-take 65536 (drop (length items) bytes) in
      let long = ap length is in
      let sum = length-append items chunk in
      let low = front.1 in
      omega (arith, e, most, long, sum, low)

  pub front_more : HasFront all (chunks + 1) bytes
  front_more = (subst (λ (l : List ℕ). IsFront l bytes) (sym is) (one_more items bytes chunk 65536 front.0 next), size)

  pub whole_read : length chunk < 65536 → chunks < 2048 → (all ≡ bytes) × (length bytes < 2 ^ 28)
  whole_read short few =
      let whole : all ≡ bytes = is ∙ is_all items bytes chunk 65536 front.0 next short in
      let long = ap length whole in
      let most = size in
      (whole, omega (arith, long, most, few))
