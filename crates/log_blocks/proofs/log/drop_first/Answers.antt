use Rattle.std.proofs.Common.{◌≡◌, ◌+◌, ◌-◌, ◌++◌, ap, sym, ◌∙◌, arith, length, drop}
use Rattle.std.proofs.Math.Seq.{drop-append-add}
use Rattle.log_blocks.proofs.log.drop_first.Goals as goal

pub returns-in-Ok : goal.returns-in-Ok
returns-in-Ok c =
    let items = c.args.places.now.items in
    let recent = c.args.recent.now in
    let n = c.args.n in
    let after : length items + (n - length items) ≡ n = omega (arith, c.if-n-settled.false, c.len-settled.ensures, c.args.places.now.ok.0) in
    (λ i. c.clear.ensures.items i ++ (c.in-Ok.ensures.tail ∙ ap (λ m. drop (n - m) recent) (c.len-settled.ensures ∙ c.args.places.now.ok.0)) i)
    ∙ sym (drop-append-add items recent (n - length items)) ∙ ap (λ m. drop m (items ++ recent)) after
