-- A page that is written in two pieces: what follows the digest, and the digest.
use Rattle.std.proofs.Common.{◌≡◌, ℕ, ◌+◌, ◌-◌, List, ◌++◌, length, take, drop, ap, ◌∙◌, append_assoc, arith}
use Rattle.std.specs.Prelude.{replicate}
use Rattle.std.proofs.lemmas.List.{drop-replicate, take-replicate, drop_at, length-replicate}
use Rattle.sha2.specs.Sha256.{sha256}
use Rattle.page_image.specs.Image.{digest_of, padded, sealed_body}

pub sealed_is : (body digest one two : List ℕ) (n : ℕ) → n ≡ 4096 → one ≡ take 32 (replicate n 0) ++ body ++ drop (32 + length body) (replicate n 0) → digest ≡ digest_of one
    → two ≡ digest ++ drop (0 + length digest) one → length digest ≡ 32 → two ≡ sealed_body (padded body)
sealed_is body digest one two n is a d b len =
    let front : length (take 32 (replicate n 0)) ≡ 32 = ap length (take-replicate 32 n 0 (omega arith)) ∙ length-replicate {A = ℕ} 32 0 in
    let left : n - (32 + length body) ≡ 4064 - length body = omega arith in
    let rest : drop (32 + length body) (replicate n 0) ≡ replicate (4064 - length body) 0 = drop-replicate (32 + length body) n 0 ∙ ap (λ (k : ℕ). let xs : List ℕ = replicate k 0 in xs) left in
    let behind : drop 32 one ≡ padded body =
    ap (drop 32) (a ∙ append_assoc (take 32 (replicate n 0)) body (drop (32 + length body) (replicate n 0)))
    ∙ drop_at (take 32 (replicate n 0)) (body ++ drop (32 + length body) (replicate n 0)) 32 front ∙ ap (λ (t : List ℕ). body ++ t) rest in
    let after : 0 + length digest ≡ 32 = omega (arith, len) in
    b ∙ ap (λ (k : ℕ). digest ++ drop k one) after ∙ ap (λ (t : List ℕ). digest ++ t) behind ∙ ap (λ (t : List ℕ). t ++ padded body) (d ∙ ap sha256 behind)
