use Rattle.std.proofs.Common.{◌-◌, ◌++◌, ℕ, List, length, take, drop, min, sym, ap, ◌∙◌}
use Rattle.media_mem.specs.Streams.{Streamed}
use Rattle.media_mem.proofs.Copying.{moved, at_end}
use Rattle.media_mem.proofs.source.MemSourceSource.read.Goals as goal

pub returns-clause-bytes : goal.returns-clause-bytes
returns-clause-bytes c =
    let at = c.self.inside.at in
    let n = c.copy_out-n.result in
    let all = c.deref.ensures.value in
    let count = c.copy_out-n.ensures.count ∙ ap (λ (l : List ℕ). min (length c.args.buf.now) (length l - at)) all in
    let bytes = c.copy_out-n.ensures.bytes ∙ ap (λ (l : List ℕ). take n (drop at l) ++ drop n c.args.buf.now) all in
    (sym (ap (λ (s : Streamed). s.bytes) c.self.view_is) ∙ moved _ _ _ at n count bytes, at_end _ c.args.buf.now _ at n count bytes)
