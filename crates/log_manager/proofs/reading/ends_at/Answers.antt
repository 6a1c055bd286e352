use Rattle.std.proofs.Common.{◌-◌, inr, arith, drop, length, length-drop, refl}
use Rattle.log_manager.proofs.reading.ends_at.Goals as goal

pub returns-then-at-payload-clause-surplus : goal.returns-then-at-payload-clause-surplus
returns-then-at-payload-clause-surplus c rs spelled is =
    let size = length-drop c.args.at c.args.payload.now in (
      refl,
      record {
        front = rs;
        rest = drop c.args.at c.args.payload.now;
        left = length c.args.payload.now - c.args.at;
        goes_on = record { spelled = spelled; bytes = is; place = omega (arith, c.requires.within) };
        breaks = inr (refl, omega (arith, size), omega (arith, c.if-at-payload.true));
      },
    )
