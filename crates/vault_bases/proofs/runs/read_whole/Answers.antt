use Rattle.std.proofs.Common.{◌≡◌, ℕ, List, ◌++◌, length, refl, sym, ap, ◌∙◌, arith}
use Rattle.std.proofs.lemmas.Result.{err_from_is_err_and}
use Rattle.front.proofs.Keeping.{prefix_trans}
use Rattle.segment_restore.proofs.Chains.{looks, open_then, upheld_both}
use Rattle.vault_bases.proofs.Failing.{gives_later}
use Rattle.vault_bases.proofs.Fronts.{front_more, whole_read}
use Rattle.vault_bases.proofs.Keeping.{names_later}
use Rattle.vault_bases.proofs.runs.read_whole.Goals as goal

pub loop-init : goal.loop-init
loop-init g c = record {
  front = λ opening bytes stands named. rw (c.new-bytes.ensures.items) (refl, omega arith);
  entered = looks _ _ _ _ _ _ _ _ _ c.see.ensures.seen;
  open_still = c.see.ensures.calm.end;
  faults = omega arith;
  vault = omega arith;
}

pub loop-preserved : goal.loop-preserved
loop-preserved g c =
    let u = c.loop.invariant.entered in
    let v = c.read_named.ensures.entered in
    let items : List ℕ = c.loop.bytes.items in
    let place : c.len-from.result ≡ length items = omega arith in
    let new : c.extend_from_slice.new.self.items ≡ items ++ c.in_ok-chunk.chunk.items = c.in_ok-extend_from_slice.ensures.items ∙ ap (λ (l : List ℕ). items ++ l) c.deref.ensures.value in
    record {
      front = λ opening bytes stands named.
          front_more bytes items c.in_ok-chunk.chunk.items c.extend_from_slice.new.self.items c.len-from.result c.loop.counter place new (c.loop.invariant.front opening bytes stands named)
          (c.in_ok-chunk.ensures.bytes opening bytes stands (names_later opening c.args.pass.now.log c.read_named.new.pass.log c.args.name bytes (prefix_trans _ _ _ (u.gained, sym u.is) (v.gained, sym v.is)) named));
      entered = upheld_both _ _ _ _ _ _ _ _ _ c.loop.invariant.entered c.read_named.ensures.entered;
      open_still = open_then _ _ _ c.loop.invariant.open_still c.read_named.ensures.open;
      faults = let i = c.loop.invariant.faults in let j = c.read_named.ensures.faults in omega (arith, i, j);
      vault = let i = c.loop.invariant.vault in let j = c.read_named.ensures.vault in omega (arith, i, j);
    }

pub returns-in_err-chunk-clause-entered : goal.returns-in_err-chunk-clause-entered
returns-in_err-chunk-clause-entered g c = upheld_both _ _ _ _ _ _ _ _ _ c.loop.invariant.entered c.read_named.ensures.entered

pub returns-in_err-chunk-clause-open : goal.returns-in_err-chunk-clause-open
returns-in_err-chunk-clause-open g c = open_then _ _ _ c.loop.invariant.open_still c.read_named.ensures.open

pub returns-in_err-chunk-clause-refused : goal.returns-in_err-chunk-clause-refused
returns-in_err-chunk-clause-refused g c =
    let p = err_from_is_err_and c.from_residual.result c.from_residual.ensures.1 in
    rw (p.1, p.2) (gives_later _ _ _ _ _ _ _ _ c.loop.invariant.faults c.loop.invariant.vault c.in_err-chunk.ensures.refused)

pub returns-in_err-extend_from_slice-clause-entered : goal.returns-in_err-extend_from_slice-clause-entered
returns-in_err-extend_from_slice-clause-entered g c = upheld_both _ _ _ _ _ _ _ _ _ c.loop.invariant.entered c.read_named.ensures.entered

pub returns-in_err-extend_from_slice-clause-open : goal.returns-in_err-extend_from_slice-clause-open
returns-in_err-extend_from_slice-clause-open g c = open_then _ _ _ c.loop.invariant.open_still c.read_named.ensures.open

pub returns-then-len-lt-CHUNK-clause-entered : goal.returns-then-len-lt-CHUNK-clause-entered
returns-then-len-lt-CHUNK-clause-entered g c = upheld_both _ _ _ _ _ _ _ _ _ c.loop.invariant.entered c.read_named.ensures.entered

pub returns-then-len-lt-CHUNK-clause-open : goal.returns-then-len-lt-CHUNK-clause-open
returns-then-len-lt-CHUNK-clause-open g c = open_then _ _ _ c.loop.invariant.open_still c.read_named.ensures.open

pub returns-then-len-lt-CHUNK-clause-bytes : goal.returns-then-len-lt-CHUNK-clause-bytes
returns-then-len-lt-CHUNK-clause-bytes g c opening bytes stands named =
    let u = c.loop.invariant.entered in
    let v = c.read_named.ensures.entered in
    let items : List ℕ = c.loop.bytes.items in
    let place : c.len-from.result ≡ length items = omega arith in
    let new : c.extend_from_slice.new.self.items ≡ items ++ c.in_ok-chunk.chunk.items = c.in_ok-extend_from_slice.ensures.items ∙ ap (λ (l : List ℕ). items ++ l) c.deref.ensures.value in
    whole_read bytes items c.in_ok-chunk.chunk.items c.extend_from_slice.new.self.items c.len-from.result c.loop.counter place new (c.loop.invariant.front opening bytes stands named)
    (c.in_ok-chunk.ensures.bytes opening bytes stands (names_later opening c.args.pass.now.log c.read_named.new.pass.log c.args.name bytes (prefix_trans _ _ _ (u.gained, sym u.is) (v.gained, sym v.is)) named))
    (omega (arith, c.if-len-lt-CHUNK.true, c.len.ensures)) c.loop-test.true
