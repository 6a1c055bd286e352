use Rattle.std.proofs.Common.{◌≡◌, ℕ, suc, ◌+◌, List, ◌++◌, length, sym, ap, ◌∙◌, append_assoc, arith}
use Rattle.std.specs.Prelude.{flat_map}
use Rattle.std.proofs.lemmas.List.{append-nil, length-append}
use Rattle.log_archive.specs.Items.{Chunk, chunk, chunks_upto}
use Rattle.log_archive.specs.Run.{chunks_bytes, directory, entry_bytes}
use Rattle.log_archive.proofs.Filled.{bytes_more, entries_more, shelf_is, upto_none}
use Rattle.log_archive.proofs.object.put_directory.Goals as goal

pub loop-i-init : goal.loop-i-init
loop-i-init c = record {
  entries = λ f holds. sym (ap (λ (l : List Chunk). c.args.out.now.items ++ flat_map entry_bytes (directory c.args.at l)) (upto_none f) ∙ append-nil c.args.out.now.items);
  next = λ f holds. let e = ap (λ (l : List Chunk). length (chunks_bytes l)) (upto_none f) in omega (arith, e);
}

pub loop-i-preserved : goal.loop-i-preserved
loop-i-preserved c = record {
  entries = λ f holds.
      let i = c.loop-i.i in
      let s = c.index-shelves-i.result in
      let old : List ℕ = c.args.out.now.items in
      let is = shelf_is c.args.shelves.now f holds i s c.loop-i-test.true c.index-shelves-i.is in
      let n : c.loop-i.i + 1 ≡ suc c.loop-i.i = omega arith in
      c.in_ok-offset.ensures.entry (f (suc i)) is
      ∙ ap (λ (k : ℕ). c.loop-i.out.items ++ flat_map entry_bytes (directory c.loop-i.offset (chunk k (f (suc i))))) n
      ∙ ap (λ (l : List ℕ). l ++ flat_map entry_bytes (directory c.loop-i.offset (chunk (suc i) (f (suc i))))) (c.loop-i.invariant.entries f holds)
      ∙ append_assoc old (flat_map entry_bytes (directory c.args.at (chunks_upto f i))) (flat_map entry_bytes (directory c.loop-i.offset (chunk (suc i) (f (suc i)))))
      ∙ ap (λ (l : List ℕ). old ++ l) (sym (entries_more f c.args.at i c.loop-i.offset (c.loop-i.invariant.next f holds)));
  next = λ f holds.
      let more = bytes_more c.args.shelves.now f holds c.loop-i.i c.index-shelves-i.result c.loop-i-test.true c.index-shelves-i.is in
      let e = ap length more ∙ length-append (chunks_bytes (chunks_upto f c.loop-i.i)) c.index-shelves-i.result.bytes in
      let h = c.loop-i.invariant.next f holds in
      omega (arith, e, h, c.in_ok-offset.ensures.next);
}

pub returns : goal.returns
returns c = λ f holds.
    let n : c.loop-i.i ≡ length c.args.shelves.now = omega arith in
    c.loop-i.invariant.entries f holds ∙ ap (λ (k : ℕ). c.args.out.now.items ++ flat_map entry_bytes (directory c.args.at (chunks_upto f k))) n
