use Rattle.std.proofs.Common.{◌≡◌, ℕ, List, ◌++◌, length, sym, ap, ◌∙◌, append_assoc, arith}
use Rattle.std.proofs.lemmas.List.{append-nil}
use Rattle.log_archive.specs.Items.{Chunk, chunks_upto}
use Rattle.log_archive.specs.Run.{chunks_bytes}
use Rattle.log_archive.proofs.Filled.{bytes_more, upto_none}
use Rattle.log_archive.proofs.object.put_items.Goals as goal

pub loop-shelf-init : goal.loop-shelf-init
loop-shelf-init c = λ f holds. sym (ap (λ (l : List Chunk). c.args.out.now.items ++ chunks_bytes l) (upto_none f) ∙ append-nil c.args.out.now.items)

pub loop-shelf-preserved : goal.loop-shelf-preserved
loop-shelf-preserved c = λ f holds.
    c.in_ok-extend_from_slice.ensures.items ∙ ap (λ (l : List ℕ). c.loop-shelf.out.items ++ l) c.as_bytes.ensures ∙ ap (λ (l : List ℕ). l ++ c.shelf-item.result.bytes) (c.loop-shelf.invariant f holds)
    ∙ append_assoc c.args.out.now.items (chunks_bytes (chunks_upto f c.loop-shelf.shelf-index)) c.shelf-item.result.bytes
    ∙ ap (λ (l : List ℕ). c.args.out.now.items ++ l) (sym (bytes_more c.args.shelves.now f holds c.loop-shelf.shelf-index c.shelf-item.result c.loop-shelf-test.true c.shelf-item.is))

pub returns : goal.returns
returns c = λ f holds.
    let n : c.loop-shelf.shelf-index ≡ length c.args.shelves.now = omega arith in
    c.loop-shelf.invariant f holds ∙ ap (λ (k : ℕ). c.args.out.now.items ++ chunks_bytes (chunks_upto f k)) n
