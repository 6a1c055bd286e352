use Rattle.std.proofs.Common.{◌≡◌, ℕ, suc, ◌+◌, arith, refl, sym, ap, subst, ◌∙◌, List, [], ◌∷◌, ◌++◌, take, get_or}
use Rattle.wal_record.specs.declared.record.OpenWrite.{OpenWrite}
use Rattle.listing_laws.specs.Summary.{writes_of}
use Rattle.log_index.proofs.Writes.{write_next, all_writes}
use Rattle.log_index.proofs.rebuilding.writes_of.Goals as goal

pub loop-i-preserved : goal.loop-i-preserved
loop-i-preserved c =
    let count = c.min-count.ensures in
    let below = c.loop-i-test.true in
    let key : c.copied.result ≡ get_or c.args.keys.now c.loop-i.i c.copied.result = subst (λ (k : List ℕ). k ≡ get_or c.args.keys.now c.loop-i.i k) (sym c.copied.ensures) c.index-keys-i.is in
    let next : suc c.loop-i.i ≡ c.loop-i.i + 1 = omega arith in
    c.in_ok-push.ensures.items
    ∙ ap (λ (ws : List OpenWrite). ws ++ record { lsn = get_or c.args.lsns.now c.loop-i.i 0; key = c.copied.result } ∷ []) c.loop-i.invariant
    ∙ sym (write_next c.args.lsns.now c.args.keys.now c.loop-i.i (get_or c.args.lsns.now c.loop-i.i 0) 0 c.copied.result (omega (arith, count, below)) (omega (arith, count, below)) refl key)
    ∙ ap (λ (n : ℕ). take n (writes_of c.args.lsns.now c.args.keys.now)) next

pub returns : goal.returns
returns c =
    let count = c.min-count.ensures in
    let end = c.loop-i-test.false in
    let most = c.loop-i.auto.i-end in
    c.loop-i.invariant ∙ all_writes c.args.lsns.now c.args.keys.now c.loop-i.i (omega (arith, count, end, most))
