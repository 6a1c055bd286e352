use Rattle.std.proofs.Common.{◌≡◌, true, false, sym, ◌∙◌}
use Rattle.record_judge.proofs.Rooms.{room_exact}
use Rattle.record_judge.proofs.judge.RecordJudge.keeps_room.Goals as goal

pub returns-then-gives_back : goal.returns-then-gives_back
returns-then-gives_back c = λ log k. room_exact log c.args.entered.now c.fits.result ((c.gives_back.ensures log k).0 c.if-gives_back.true) (c.fits.ensures log k)

pub returns-else-gives_back : goal.returns-else-gives_back
returns-else-gives_back c = λ log k. (λ t. absurd (cc t), λ rule. (let both : true ≡ false = sym ((c.gives_back.ensures log k).1 rule.next) ∙ c.if-gives_back.false in absurd (cc both)))
