use Rattle.std.proofs.Common.{◌≡◌, ℕ, List, Option, false, ap, sym, ◌∙◌, arith}
use Rattle.std.proofs.lemmas.Result.{err_from_is_err_and}
use Rattle.front.proofs.Keeping.{prefix_self, prefix_trans}
use Rattle.store_model.specs.Range.{is_below}
use Rattle.foster_laws.proofs.CutRows.{not_itself}
use Rattle.page_ops.specs.Desks.{Desk}
use Rattle.page_ops.proofs.Gaining.{goes_self, goes_of, goes_then, upheld_then}
use Rattle.foster_tree.proofs.Causing.{none_met, none_then, refused_then}
use Rattle.foster_tree.proofs.Desks.{desk_same, desk_then, desk_out}
use Rattle.foster_tree.proofs.Made.{made_since}
use Rattle.foster_tree.proofs.Scanning.{at_first, turned, turned_low, turned_last, turned_whole}
use Rattle.foster_tree.proofs.scan.collect.Goals as goal

pub loop-init : goal.loop-init
loop-init g c =
    let range = c.args.range.now in
    let is : c.copied_bound-from.result ≡ range.low = c.copied_bound-from.ensures ∙ c.low.ensures.value in (
      tt,
      tt,
      c.requires.none,
      c.requires.made,
      desk_same _,
      prefix_self _,
      goes_self _ _ _ _,
      none_met _,
      ap (λ (b : Option (List ℕ)). is_below b range.low) is ∙ not_itself range.low,
      ap (λ (b : Option (List ℕ)). is_below b range.high) is ∙ c.low.ensures.below,
      at_first g.N.Life.opens c.args.pass.now.log range c.args.out.now.items c.args.pass.now.log c.copied_bound-from.result is,
      prefix_self c.args.out.now.items,
    )

pub returns-in_err-leaf-clause-entered : goal.returns-in_err-leaf-clause-entered
returns-in_err-leaf-clause-entered g c = upheld_then _ _ _ _ _ _ _ c.loop.invariant.6 c.find_leaf.ensures.entered

pub returns-in_err-leaf-clause-refused : goal.returns-in_err-leaf-clause-refused
returns-in_err-leaf-clause-refused g c =
    let p = err_from_is_err_and c.from_residual.result c.from_residual.ensures.1 in
    rw (p.1, p.2) (refused_then _ _ _ _ _ _ _ _ (g.P.Pages.desk c.args.pages.now) (g.P.Pages.desk c.loop.pages) _ _ c.loop.invariant.6 c.loop.invariant.7 c.loop.invariant.4 c.in_err-leaf.ensures.refused)

pub returns-in-Err-clause-entered : goal.returns-in-Err-clause-entered
returns-in-Err-clause-entered g c = upheld_then _ _ _ _ _ _ _ c.loop.invariant.6 c.find_leaf.ensures.entered

pub returns-then-not-is_below-clause-entered : goal.returns-then-not-is_below-clause-entered
returns-then-not-is_below-clause-entered g c = upheld_then _ _ _ _ _ _ _ c.loop.invariant.6 c.find_leaf.ensures.entered

pub returns-then-not-is_below-clause-last : goal.returns-then-not-is_below-clause-last
returns-then-not-is_below-clause-last g c =
    let last : is_below c.end_of_part-end.result c.args.range.now.high ≡ false = sym (c.is_below.ensures ∙ ap (is_below c.end_of_part-end.result) c.high-in-loop.ensures) ∙ c.if-not-is_below.true in
    turned_last g.N.Life.opens c.args.pass.now.log c.args.range.now c.args.out.now.items c.loop.pass.log c.find_leaf.new.pass.log c.in_ok-leaf.leaf _ c.loop.from c.end_of_part-end.result c.high.result.now c.text.result.now
    c.loop.invariant.8 c.loop.invariant.9 c.text.ensures.value c.in_ok-leaf.ensures.leaf c.leaf.view_is c.high.ensures c.end_of_part-end.ensures c.in_ok-leaf.ensures.now c.find_leaf.ensures.entered.consistent last

pub returns-then-not-is_below-clause-pairs : goal.returns-then-not-is_below-clause-pairs
returns-then-not-is_below-clause-pairs g c =
    let last : is_below c.end_of_part-end.result c.args.range.now.high ≡ false = sym (c.is_below.ensures ∙ ap (is_below c.end_of_part-end.result) c.high-in-loop.ensures) ∙ c.if-not-is_below.true in
    turned_whole g.N.Life.opens c.args.pass.now.log c.args.range.now c.args.out.now.items c.loop.pass.log c.find_leaf.new.pass.log c.in_ok-leaf.leaf _ c.loop.from c.end_of_part-end.result c.high.result.now c.text.result.now
    c.loop.invariant.8 c.loop.invariant.9 c.text.ensures.value c.in_ok-leaf.ensures.leaf c.leaf.view_is c.high.ensures c.end_of_part-end.ensures c.in_ok-leaf.ensures.now c.find_leaf.ensures.entered.consistent c.gather.new.out.items last
    (turned g.N.Life.opens c.args.pass.now.log c.args.range.now c.args.out.now.items c.loop.pass.log c.find_leaf.new.pass.log c.in_ok-leaf.leaf _ c.loop.from c.end_of_part-end.result c.high.result.now c.text.result.now
    c.loop.invariant.8 c.loop.invariant.9 c.text.ensures.value c.in_ok-leaf.ensures.leaf c.leaf.view_is c.high.ensures c.end_of_part-end.ensures c.in_ok-leaf.ensures.now c.find_leaf.ensures.entered.consistent c.loop.out.items c.gather.new.out.items
    c.loop.invariant.5 c.find_leaf.ensures.begins c.loop.invariant.10 c.in_default.ensures.done)

pub loop-preserved : goal.loop-preserved
loop-preserved g c =
    let begins = c.find_leaf.ensures.begins in
    let took = c.in_ok-leaf.ensures.taken in
    let put = ap (λ (d : Desk). d.out) c.put_back-in-loop.ensures.out in (
      tt,
      tt,
      omega (arith, took, put),
      made_since _ _ _ _ begins c.loop.invariant.3,
      desk_then _ _ _ c.loop.invariant.4 (desk_then _ _ _ c.find_leaf.ensures.desk (desk_out _ _ _ c.put_back-in-loop.ensures.out)),
      prefix_trans _ _ _ c.loop.invariant.5 begins,
      goes_then _ _ _ _ c.loop.invariant.6 (goes_of _ _ _ _ _ _ c.find_leaf.ensures.entered),
      none_then _ _ _ c.loop.invariant.7 c.in_ok-leaf.ensures.open,
      turned_low g.N.Life.opens c.args.pass.now.log c.args.range.now c.args.out.now.items c.loop.pass.log c.find_leaf.new.pass.log c.in_ok-leaf.leaf _ c.loop.from c.end_of_part-end.result c.high.result.now c.text.result.now
          c.loop.invariant.8 c.loop.invariant.9 c.text.ensures.value c.in_ok-leaf.ensures.leaf c.leaf.view_is c.high.ensures c.end_of_part-end.ensures c.in_ok-leaf.ensures.now c.find_leaf.ensures.entered.consistent,
      sym (c.is_below.ensures ∙ ap (is_below c.end_of_part-end.result) c.high-in-loop.ensures) ∙ c.if-not-is_below.false,
      turned g.N.Life.opens c.args.pass.now.log c.args.range.now c.args.out.now.items c.loop.pass.log c.find_leaf.new.pass.log c.in_ok-leaf.leaf _ c.loop.from c.end_of_part-end.result c.high.result.now c.text.result.now
          c.loop.invariant.8 c.loop.invariant.9 c.text.ensures.value c.in_ok-leaf.ensures.leaf c.leaf.view_is c.high.ensures c.end_of_part-end.ensures c.in_ok-leaf.ensures.now c.find_leaf.ensures.entered.consistent c.loop.out.items c.gather.new.out.items
          c.loop.invariant.5 begins c.loop.invariant.10 c.in_default.ensures.done,
      prefix_trans _ _ _ c.loop.invariant.11 c.in_default.ensures.more,
    )
