use Rattle.std.proofs.Common.{◌+◌, ◌*◌, arith}
use Rattle.log_archive.proofs.Filled.{object_is}
use Rattle.log_archive.proofs.object.object_of.Goals as goal

pub returns-clause-spelled : goal.returns-clause-spelled
returns-clause-spelled c = λ f holds.
    object_is c.args.shelves.now f holds c.args.run c.args.first c.args.last c.pages_in-pages.result (32 + 16 * c.from.result) c.new-bytes.result.items c.put_head.new.out.items c.put_directory.new.out.items c.put_items.new.out.items
    (c.pages_in-pages.ensures.counted f holds) (omega (arith, c.from.ensures)) c.new-bytes.ensures.items c.in_ok-put_head.ensures (c.in_ok-put_directory.ensures f holds) (c.in_ok-put_items.ensures f holds)
