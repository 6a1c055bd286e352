use Rattle.std.proofs.Common.{◌≡◌, ◌++◌, ◌∷◌, []}
use Rattle.range_lock.specs.Cut.{cut_into}
use Rattle.range_lock.proofs.Cuts.{cut_more}
use Rattle.range_lock.proofs.key_list.KeyList.push.Goals as goal

pub returns-in-Ok-clause-ok : goal.returns-in-Ok-clause-ok
returns-in-Ok-clause-ok c =
    let lengths = c.self.inside.lengths.items in
    let texts = c.self.inside.texts.items in
    let more : cut_into c.push.new.self.items c.extend_from_slice.new.self.items ≡ cut_into lengths texts ++ c.args.text.now ∷ [] =
    rw (c.in-Ok.ensures.items, c.in_ok-extend_from_slice.ensures.items, c.make_room.ensures.same) (cut_more lengths texts c.args.text.now c.self.invariant) in
    rw (← c.self.view_is) more
