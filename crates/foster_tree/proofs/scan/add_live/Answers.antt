use Rattle.std.proofs.Common.{◌≡◌, ◌++◌, ◌∷◌, [], List, sym, subst}
use mathlib.Core.List.{IsPrefix}
use Rattle.store_model.specs.declared.pair.Pair.{Pair}
use Rattle.foster_tree.proofs.Gathering.{gathered_more, gathered_same, prefix_push}
use Rattle.foster_tree.proofs.scan.add_live.Goals as goal
use Rattle.foster_tree.proofs.scan.add_live.Goals.{then-not-row+in_ok-add_pair, else-not-row}

pub loop-row-preserved : goal.loop-row-preserved
loop-row-preserved c =
    elim c.if-not-row.branch [
      | then-not-row+in_ok-add_pair w ↦
          let pair : Pair = record { key = c.row-item.result.key; value = c.row-item.result.value } in
          let more : w.add_pair.new.out.items ≡ c.loop-row.out.items ++ pair ∷ [] = w.in_ok-add_pair.ensures.done in
          rw w.out-is (
            gathered_more c.args.out.now.items c.loop-row.out.items c.args.rows.now c.loop-row.row-index c.row-item.result c.loop-row-test.true c.row-item.is c.loop-row.invariant.0 w.add_pair.new.out.items
                w.if-not-row.true more,
            subst (λ (l : List Pair). IsPrefix c.args.out.now.items l) (sym more) (prefix_push c.args.out.now.items c.loop-row.out.items pair c.loop-row.invariant.1),
          )
      | else-not-row w ↦
          rw w.out-is (
            gathered_same c.args.out.now.items c.loop-row.out.items c.args.rows.now c.loop-row.row-index c.row-item.result c.loop-row-test.true c.row-item.is c.loop-row.invariant.0
                w.if-not-row.false,
            c.loop-row.invariant.1,
          )
    ]
