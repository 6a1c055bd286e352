use Rattle.std.proofs.Common.{◌≡◌, ◌++◌, ◌+◌, List, ap, sym, subst, ◌∙◌, arith, length}
use Rattle.log_blocks.specs.Batch.{IsChecked, numbered, records_in}
use Rattle.log_blocks.specs.Log.{Block, blocks}
use Rattle.log_blocks.specs.LogState.{LogState, IsWhole, log_end}
use Rattle.log_blocks.proofs.Whole.{blocks_room, length-numbered, whole_more}
use Rattle.log_blocks.proofs.log.BlockLog.append_batch.Goals as goal

pub join_numbered-next-requires-clause-few : goal.join_numbered-next-requires-clause-few
join_numbered-next-requires-clause-few g c =
    let w = c.self.invariant.whole in
    omega (
      arith,
      w.end_is,
      w.fits,
      blocks_room c.take_blocks-more.result,
      c.requires.bytes,
      ap (λ (l : List Block). length (blocks l)) c.take_blocks-more.ensures.blocks,
      ap (λ (l : List Block). length l) c.new-numbered.ensures,
    )

pub append-requires : goal.append-requires
append-requires g c =
    let w = c.self.invariant.whole in
    let more = c.take_blocks-more.result in
    let next = c.self.inside.next in
    let j = c.join_numbered-next.ensures in
    let all = j.pending ∙ ap (λ (l : List Block). l ++ numbered next more) c.new-numbered.ensures in
    let end = w.end_is ∙ ap (λ (s : LogState _). log_end s) c.self.view_is in
    omega (
      arith,
      w.end_is,
      end,
      blocks_room c.self.inside.pending,
      blocks_room (numbered next more),
      length-numbered next more,
      c.requires.bytes,
      ap (λ (l : List Block). length (blocks l)) c.take_blocks-more.ensures.blocks,
      ap (λ (l : List Block). length l) all,
    )

pub invariant_of-self : goal.invariant_of-self
invariant_of-self g c =
    let w = c.self.invariant.whole in
    let j = c.join_numbered-next.ensures in
    let more = c.take_blocks-more.result in
    let same = c.take_blocks-more.ensures.blocks in
    let next = ap (λ (s : LogState _). s.next) c.self.view_is in
    let end = w.end_is ∙ ap (λ (s : LogState _). log_end s) c.self.view_is in
    let checked = subst (λ n. IsChecked n more) (sym next) (subst (IsChecked c.args.self.now.next) (sym same) c.requires.checked) in
    let found = c.self.inside.places.items ++ c.self.inside.recent in
    let all : c.append.new.self ≡ c.self.inside.pending ++ numbered c.self.inside.next more =
    c.append.ensures.all ∙ ap (λ (l : List Block). c.self.inside.pending ++ l) (j.pending ∙ ap (λ (l : List Block). l ++ numbered c.self.inside.next more) c.new-numbered.ensures) in
    record {
      whole = subst (λ (p : List Block). IsWhole found p c.self.inside.gate c.join_numbered-next.result.0 c.join_numbered-next.result.1) (sym all)
          (subst (λ n. IsWhole found (c.self.inside.pending ++ numbered c.self.inside.next more) c.self.inside.gate n c.join_numbered-next.result.1) (sym j.next)
          (subst (λ n. IsWhole found (c.self.inside.pending ++ numbered c.self.inside.next more) c.self.inside.gate (c.self.inside.next + records_in more) n) (sym j.end)
          (whole_more found c.self.inside.pending more c.self.inside.gate c.self.inside.next c.self.inside.end w c.take_blocks-more.ensures.sized checked
          (omega (arith, c.requires.records, next, ap records_in same))
          (omega (arith, c.requires.bytes, end, ap (λ (l : List Block). length (blocks l)) same)))));
      live = c.self.invariant.live;
    }
