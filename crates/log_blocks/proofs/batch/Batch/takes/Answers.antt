use Rattle.std.proofs.Common.{ap, sym, ◌∙◌, ◌++◌}
use Rattle.std.specs.Prelude.{Option}
use Rattle.log_blocks.specs.Batch.{Batched, Filling, joins, in_open, block_in}
use Rattle.log_blocks.proofs.Ready.{joins_last}
use Rattle.log_blocks.proofs.batch.Batch.takes.Goals as goal

pub returns-in-Some : goal.returns-in-Some
returns-in-Some c =
    c.has_room.ensures ∙ sym (joins_last c.self.inside.closed (block_in c.in-Some.last) c.args.count c.args.size)
    ∙ ap (λ (o : Option Filling). joins (c.self.inside.closed ++ in_open o) c.args.count c.args.size) (sym c.in-Some.is)
    ∙ ap (λ (b : Batched). joins b.blocks c.args.count c.args.size) c.self.view_is
