use Rattle.std.proofs.Common.{◌++◌, sym, ap, subst, ◌∙◌}
use Rattle.front.specs.Seen.{PassSeen}
use Rattle.wal_record.specs.declared.entry.Entry.{Entry}
use Rattle.page_ops.specs.Claims.{Claims}
use Rattle.page_repair.specs.Supplies.{IsHead}
use Rattle.buffer_pool.proofs.Serving.{hand_of, head_named}
use Rattle.buffer_pool.proofs.rebuilding.in_hand.Goals as goal

pub rebuilt-requires-clause-head : goal.rebuilt-requires-clause-head
rebuilt-requires-clause-head g c =
    subst (λ (s : PassSeen Entry). IsHead g.N.Life.opens s.log c.args.page c.args.lsn) (sym c.copy-seen.ensures.same)
    (head_named g.N.Life.opens (record { page = c.args.page; lsn = c.args.lsn }) c.requires.range c.args.pass.now.log c.requires.consistent c.requires.agrees)

pub invariant_of-result : goal.invariant_of-result
invariant_of-result g c =
    let u = c.rebuilt.ensures.entered in
    hand_of g.N.Life.opens (record { page = c.args.page; lsn = c.args.lsn }) c.requires.range c.args.pass.now.log c.requires.consistent c.requires.agrees c.rebuilt.new.pass.log c.in-Ok.sealed
    (u.gained, ap (λ (s : PassSeen Entry). s.log ++ u.gained) (sym c.copy-seen.ensures.same) ∙ sym u.is) c.in-Ok.ensures.page c.copy-seen.result _ _ (ap (λ (s : PassSeen Entry). s.log) c.copy-seen.ensures.copy)
    (sym c.in-Some.is ∙ c.take.ensures.value ∙ ap (λ (x : Claims). x.a) (c.rights.view_is ∙ c.requires.right))
