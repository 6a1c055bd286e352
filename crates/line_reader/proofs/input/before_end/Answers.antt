use Rattle.std.proofs.Common.{List, ℕ, true, sym, subst}
use Rattle.line_reader.specs.Lines.{IsFront}
use Rattle.line_reader.proofs.Reading.{no_end, an_end}
use Rattle.line_reader.proofs.input.before_end.Goals as goal

pub returns-in-None : goal.returns-in-None
returns-in-None c = no_end c.args.bytes.now c.in-None.ensures

pub returns-in-Some : goal.returns-in-Some
returns-in-Some c = subst (λ (front : List ℕ). IsFront c.args.bytes.now front true) (sym c.split_at.ensures.front) (an_end c.args.bytes.now c.in-Some.i c.in-Some.ensures)
