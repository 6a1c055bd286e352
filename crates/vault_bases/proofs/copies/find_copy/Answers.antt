use Rattle.std.proofs.Common.{sym}
use Rattle.std.proofs.lemmas.Result.{IfOk-weaker}
use Rattle.segment_restore.proofs.Chains.{open_then, upheld_both}
use Rattle.vault_bases.proofs.Failing.{result_later}
use Rattle.vault_bases.proofs.Keeping.{copy_before, held_later}
use Rattle.vault_bases.proofs.copies.find_copy.Goals as goal

pub in_whole-requires : goal.in_whole-requires
in_whole-requires g c =
    let u = c.in_place.ensures.entered in
    record { held = held_later g.N.Life.opens c.args.pass.now.log c.in_place.new.pass.log c.args.page c.args.backup (u.gained, sym u.is) c.requires.held }

pub returns-in-None-clause-copy : goal.returns-in-None-clause-copy
returns-in-None-clause-copy g c =
    let u = c.in_place.ensures.entered in
    IfOk-weaker c.in_whole.result _ _ (λ b found. record { copy = copy_before g.N.Life.opens c.args.pass.now.log c.in_place.new.pass.log c.args.page c.args.backup (u.gained, sym u.is) b.sealed found.copy; bytes = found.bytes }) c.in_whole.ensures.copy

pub returns-in-None-clause-entered : goal.returns-in-None-clause-entered
returns-in-None-clause-entered g c = upheld_both _ _ _ _ _ _ _ _ _ c.in_place.ensures.entered c.in_whole.ensures.entered

pub returns-in-None-clause-open : goal.returns-in-None-clause-open
returns-in-None-clause-open g c = open_then _ _ _ c.in_place.ensures.open c.in_whole.ensures.open

pub returns-in-None-clause-refused : goal.returns-in-None-clause-refused
returns-in-None-clause-refused g c = result_later _ _ _ _ _ _ _ c.in_whole.result c.in_place.ensures.faults c.in_place.ensures.vault c.in_whole.ensures.refused
