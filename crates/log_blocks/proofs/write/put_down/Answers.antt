use Rattle.std.proofs.Common.{subst, length}
use Rattle.media.specs.Kept.{Kept, Torn}
use Rattle.log_blocks.proofs.Gates.{torn_not}
use Rattle.log_blocks.proofs.Moments.{started, goes_on}
use Rattle.log_blocks.proofs.write.put_down.Goals as goal

pub returns-in_err-sync-clause-any_moment : goal.returns-in_err-sync-clause-any_moment
returns-in_err-sync-clause-any_moment g c tells only =
    let k = g.D.Disk.told c.args.device.now in
    let n = length c.args.bytes.now in
    let P : Kept → Type 0 = Torn c.args.at n k in
    let after : (f : Kept) → g.D.Disk.may_leave c.write_at.new.self f → P f = λ f left. let from = c.write_at.ensures.crash f left in subst (λ d. Torn c.args.at n d f) (only from.0 from.1) from.2 in
    let begun = started g.D.Disk.moment g.D.Disk.left_since c.args.device.now P (λ f left. torn_not c.args.at n k f (only f (g.met.D.Disk.only_now c.args.device.now f left))) in
    let wrote = goes_on g.D.Disk.moment g.D.Disk.left_since g.D.Disk.may_leave c.args.device.now c.args.device.now c.write_at.new.self P begun c.write_at.ensures.time after in
    goes_on g.D.Disk.moment g.D.Disk.left_since g.D.Disk.may_leave c.args.device.now c.write_at.new.self c.sync.new.self P wrote c.sync.ensures.time (λ f left. after f (c.sync.ensures.crash f left))

pub returns-clause-any_moment : goal.returns-clause-any_moment
returns-clause-any_moment g c tells only =
    let k = g.D.Disk.told c.args.device.now in
    let n = length c.args.bytes.now in
    let P : Kept → Type 0 = Torn c.args.at n k in
    let after : (f : Kept) → g.D.Disk.may_leave c.write_at.new.self f → P f = λ f left. let from = c.write_at.ensures.crash f left in subst (λ d. Torn c.args.at n d f) (only from.0 from.1) from.2 in
    let begun = started g.D.Disk.moment g.D.Disk.left_since c.args.device.now P (λ f left. torn_not c.args.at n k f (only f (g.met.D.Disk.only_now c.args.device.now f left))) in
    let wrote = goes_on g.D.Disk.moment g.D.Disk.left_since g.D.Disk.may_leave c.args.device.now c.args.device.now c.write_at.new.self P begun c.write_at.ensures.time after in
    goes_on g.D.Disk.moment g.D.Disk.left_since g.D.Disk.may_leave c.args.device.now c.write_at.new.self c.sync.new.self P wrote c.sync.ensures.time (λ f left. after f (c.sync.ensures.crash f left))
