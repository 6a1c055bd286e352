-- 0 is a number.
use Rattle.std.proofs.Common.{refl, sym, lit<}
use Rattle.std.specs.Fmt.{decimal}
use Rattle.store_model.proofs.Numerals.{number_of-decimal}
use Rattle.operators.proofs.functions.number_or_zero.Goals as goal

pub returns-in-None : goal.returns-in-None
returns-in-None c = sym (rw c.in-None.is (number_of-decimal (decimal 0) 0 (lit< tt) refl))
