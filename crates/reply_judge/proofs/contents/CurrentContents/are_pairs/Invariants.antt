use Rattle.std.proofs.Common.{◌≡◌}
use Rattle.std.specs.Prelude.{◌↔◌}
use Rattle.reply_judge.proofs.Scanning.{expected}
use Rattle.reply_judge.proofs.contents.CurrentContents.are_pairs.Given as goal

abbrev pub invariant-loop-key : goal.invariant-loop-key
invariant-loop-key l = (l.left ≡ expected l.range l.key-iterator) ↔ (l.pairs ≡ expected l.range l.self.pairs.entries)
