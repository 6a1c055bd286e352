use Rattle.std.proofs.Common.{sym, ◌∙◌, arith}
use Rattle.log_archive.proofs.Judging.{judged_ok}
use Rattle.log_archive.proofs.items.judged.Goals as goal

pub returns-else-not-names-clause-read : goal.returns-else-not-names-clause-read
returns-else-not-names-clause-read c =
    let x = c.in-Ok.ensures.exact in
    judged_ok c.args.page c.args.lsn c.args.size c.args.left c.args.bytes.now c.in-Ok.rec c.in-Ok.length c.split_at.result.1.now x.0 (λ i. omega (arith, c.type_inv.bytes i)) x.1 x.2 c.if-length-size.false (sym c.names.ensures ∙ c.if-not-names.false) c.split_at.ensures.back
