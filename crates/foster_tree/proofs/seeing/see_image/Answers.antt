use Rattle.std.proofs.Common.{arith, subst}
use mathlib.Core.List.{IsPrefix}
use Rattle.front.specs.Seen.{PassSeen}
use Rattle.front.proofs.Keeping.{prefix_trans}
use Rattle.wal_record.specs.declared.entry.Entry.{Entry}
use Rattle.page_ops.specs.Hands.{Hand}
use Rattle.page_ops.proofs.Staying.{image_later}
use Rattle.foster_tree.specs.Nows.{IsNow}
use Rattle.page_ops.proofs.Gaining.{goes_met, upheld, upheld_then}
use Rattle.foster_tree.proofs.seeing.see_image.Goals as goal

pub returns-clause-now : goal.returns-clause-now
returns-clause-now g c =
    let met = subst (λ (p : PassSeen Entry). IsPrefix p.log c.meet.new.self.log) c.copy-seen.ensures.copy c.meet.ensures.other in
    let begins = prefix_trans _ _ _ met c.see_page.ensures.seen.now.begins in
    subst (λ (x : Hand). IsNow g.N.Life.opens c.see_page.new.pass.log x) c.held.view_is
    (record { begins = begins; agrees = c.see_page.ensures.agrees; image = image_later _ _ _ c.held.invariant begins c.see_page.ensures.agrees })

pub returns-clause-entered : goal.returns-clause-entered
returns-clause-entered g c =
    upheld_then _ _ _ _ _ _ _ (goes_met _ _ _ _ _ c.meet.ensures.this (let d = c.meet.ensures.durable in omega (arith, d))) (upheld _ _ _ _ _ _ _ _ c.see_page.ensures.seen)
