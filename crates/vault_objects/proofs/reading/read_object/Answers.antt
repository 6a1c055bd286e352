use Rattle.std.proofs.Common.{◌≡◌, ◌++◌, ◌+◌, ℕ, List, length, take, drop, ap, sym, subst, ◌∙◌, arith}
use Rattle.std.proofs.lemmas.List.{length-append}
use Rattle.media.proofs.Blaming.{then_more}
use Rattle.media.specs.Objects.{Stored, bytes_of}
use Rattle.vault_objects.proofs.Chunks.{IsFront, one_more, is_all}
use Rattle.vault_objects.proofs.reading.read_object.Goals as goal

pub returns-then-len-lt-CHUNK-clause-bytes : goal.returns-then-len-lt-CHUNK-clause-bytes
returns-then-len-lt-CHUNK-clause-bytes g c tells =
    let items : List ℕ = c.loop.bytes.items in
    let long : c.len.result ≡ length items = omega arith in
    let e = c.in_ok-chunk.ensures.bytes tells
    ∙ ap (λ (k : ℕ). take 65536 (drop k (bytes_of (g.V.Vault.told c.loop.vault c.args.name)))) long
    ∙ ap (λ (o : Stored). take 65536 (drop (length items) (bytes_of o))) (c.loop.invariant.same tells c.args.name) in
    c.in_ok-extend_from_slice.ensures.items ∙ ap (λ (l : List ℕ). items ++ l) c.deref.ensures.value
    ∙ is_all items _ c.in_ok-chunk.chunk.items 65536 (c.loop.invariant.front tells) e (omega (arith, c.if-len-lt-CHUNK.true, c.len-in-loop.ensures))

pub loop-preserved : goal.loop-preserved
loop-preserved g c =
    let items : List ℕ = c.loop.bytes.items in
    let long : c.len.result ≡ length items = omega arith in
    let new : c.extend_from_slice.new.self.items ≡ items ++ c.in_ok-chunk.chunk.items = c.in_ok-extend_from_slice.ensures.items ∙ ap (λ (l : List ℕ). items ++ l) c.deref.ensures.value in
    record {
      same = λ tells name. c.in_ok-chunk.ensures.same tells name ∙ c.loop.invariant.same tells name;
      later = omega (arith, c.in_ok-chunk.ensures.later, c.loop.invariant.later);
      blames = then_more g.V.Vault.passes g.V.Vault.refused g.V.Vault.own c.args.vault.now c.loop.vault c.read_bytes.new.vault ⊥ ⊥ c.loop.invariant.blames (λ none. none) c.in_ok-chunk.ensures.fuse;
      front = λ tells.
          let e = c.in_ok-chunk.ensures.bytes tells
          ∙ ap (λ (k : ℕ). take 65536 (drop k (bytes_of (g.V.Vault.told c.loop.vault c.args.name)))) long
          ∙ ap (λ (o : Stored). take 65536 (drop (length items) (bytes_of o))) (c.loop.invariant.same tells c.args.name) in
          subst (λ (l : List ℕ). IsFront l (bytes_of (g.V.Vault.told c.args.vault.now c.args.name))) (sym new) (one_more items _ c.in_ok-chunk.chunk.items 65536 (c.loop.invariant.front tells) e);
      size = omega (arith, ap length new, length-append items c.in_ok-chunk.chunk.items, c.in_ok-chunk.ensures.within, c.loop.invariant.size);
    }
