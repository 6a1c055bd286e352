use Rattle.std.proofs.Common.{◌≡◌, ◌≤◌, length, sym, subst, ◌∙◌, arith}
use Rattle.log_blocks.specs.Log.{StandsFor}
use Rattle.log_blocks.proofs.Moments.{weaker, started, goes_on}
use Rattle.log_blocks.proofs.FirstGate.{torn_first}
use Rattle.log_blocks.proofs.flush.make_gate.Goals as goal

pub returns-then-len-start-le1-clause-any_moment : goal.returns-then-len-start-le1-clause-any_moment
returns-then-len-start-le1-clause-any_moment g c tells only bs s =
    let e = g.met.D.Disk.extent c.args.device.now tells in
    let short : length (g.D.Disk.told c.args.device.now).bytes ≤ 1 = omega (arith, e.0, e.1, c.if-len-start-le1.true, c.len.ensures.value, c.start.ensures) in
    let place : c.args.gate ≡ (g.D.Disk.told c.args.device.now).start = c.requires.at_start (omega (arith, c.if-len-start-le1.true, c.len.ensures.value, c.start.ensures)) ∙ sym e.0 in
    weaker g.D.Disk.moment g.D.Disk.left_since _ _ _ _ (c.put_down.ensures.any_moment tells only) (λ f torn. torn_first bs (g.D.Disk.told c.args.device.now) f c.args.gate place short s torn)

pub returns-then-is_first-clause-any_moment : goal.returns-then-is_first-clause-any_moment
returns-then-is_first-clause-any_moment g c tells only bs s =
    goes_on g.D.Disk.moment g.D.Disk.left_since g.D.Disk.may_leave _ _ _ (StandsFor bs)
    (started g.D.Disk.moment g.D.Disk.left_since c.args.device.now (StandsFor bs) (λ f left. subst (StandsFor bs) (sym (only f (g.met.D.Disk.only_now c.args.device.now f left))) s))
    c.sync.ensures.time (λ f left. subst (StandsFor bs) (sym (only f (c.sync.ensures.crash f left))) s)

pub returns-then-len-start-le1-clause-left : goal.returns-then-len-start-le1-clause-left
returns-then-len-start-le1-clause-left g c tells bs s =
    let e = g.met.D.Disk.extent c.args.device.now tells in
    let short : length (g.D.Disk.told c.args.device.now).bytes ≤ 1 = omega (arith, e.0, e.1, c.if-len-start-le1.true, c.len.ensures.value, c.start.ensures) in
    let place : c.args.gate ≡ (g.D.Disk.told c.args.device.now).start = c.requires.at_start (omega (arith, c.if-len-start-le1.true, c.len.ensures.value, c.start.ensures)) ∙ sym e.0 in
    torn_first bs (g.D.Disk.told c.args.device.now) _ c.args.gate place short s (c.put_down.ensures.torn tells)

pub returns-then-is_first-clause-left : goal.returns-then-is_first-clause-left
returns-then-is_first-clause-left g c tells bs s = subst (StandsFor bs) (sym (c.sync.ensures.told tells)) s
