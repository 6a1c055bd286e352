use Rattle.std.proofs.Common.{◌%◌, arith, w64}
use Rattle.std.proofs.lemmas.Nat.Bits.{bit_at_clear_same, bit_at_clear_other}
use Rattle.restart.proofs.Bits.{flag_same, flag_other}
use Rattle.restart.proofs.flags.clear_flag.Goals as goal

pub returns-clause-clear : goal.returns-clause-clear
returns-clause-clear c = flag_same _ c.args.n _ 0 (let r = c.requires in omega (arith, r)) (bit_at_clear_same w64 _ (c.args.n % 64) (omega arith))

pub returns-clause-others : goal.returns-clause-others
returns-clause-others c = flag_other _ c.args.n _ (let r = c.requires in omega (arith, r)) (λ i small apart. bit_at_clear_other w64 _ (c.args.n % 64) (omega arith) i small apart)
