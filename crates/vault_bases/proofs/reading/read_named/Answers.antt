use Rattle.std.proofs.Common.{◌≡◌, length, ap, ◌∙◌}
use Rattle.std.proofs.lemmas.List.{with_items_is}
use Rattle.segment_restore.proofs.Chains.{looks}
use Rattle.vault_bases.proofs.Pieces.{bytes_read}
use Rattle.vault_bases.proofs.reading.read_named.Goals as goal

pub returns-in_default-clause-entered : goal.returns-in_default-clause-entered
returns-in_default-clause-entered g c = looks _ _ _ _ _ _ _ _ _ c.see.ensures.seen

pub returns-in_err-count-clause-entered : goal.returns-in_err-count-clause-entered
returns-in_err-count-clause-entered g c = looks _ _ _ _ _ _ _ _ _ c.read_piece.ensures.seen

pub returns-clause-entered : goal.returns-clause-entered
returns-clause-entered g c = looks _ _ _ _ _ _ _ _ _ c.read_piece.ensures.seen

pub returns-clause-bytes : goal.returns-clause-bytes
returns-clause-bytes g c opening bytes stands named =
    let same : length c.read_piece.new.buf ≡ c.in-Ok.bytes.len = c.read_piece.ensures.size ∙ c.as_mut_slice.ensures.len in
    let long : length c.as_mut_slice.result.now ≡ c.args.most = ap length c.as_mut_slice.ensures.value ∙ c.in-Ok.ensures in
    bytes_read _ _ c.read_piece.new.buf bytes c.as_mut_slice.result.now c.args.from c.in_ok-count.count c.args.most c.truncate.ensures.items (with_items_is c.in-Ok.bytes c.read_piece.new.buf same) (c.in_ok-count.ensures.piece opening bytes stands named) long
