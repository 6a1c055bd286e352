use Rattle.std.proofs.Common.{◌/◌, ◌%◌, eqb, get_or, ap}
use Rattle.std.proofs.lemmas.Nat.Bits.{shr_and_one}
use Rattle.restart.proofs.flags.flag.Goals as goal

pub returns : goal.returns
returns c = ap (λ v. eqb v 1) (shr_and_one (get_or c.args.words.now (c.args.n / 64) 0) (c.args.n % 64))
