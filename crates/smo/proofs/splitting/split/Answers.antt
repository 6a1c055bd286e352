use Rattle.std.proofs.Common.{◌≡◌, Ok, refl, ◌∙◌}
use Rattle.page_ops.specs.declared.outcome.Entered.TheVariants.{At}
use Rattle.smo.proofs.SplitBranch.{part_goes, part_stays, may_split, upper_settled, lower_settled, split_entered}
use Rattle.smo.proofs.splitting.split.Goals as goal

pub upper_half-upper-requires-clause-goes : goal.upper_half-upper-requires-clause-goes
upper_half-upper-requires-clause-goes g c = part_goes c.args.branch.now _ c.branch.view_is c.branch.invariant.keeps c.requires.branch c.requires.crowded

pub ask-entered-requires : goal.ask-entered-requires
ask-entered-requires g c =
    may_split g.N.Life.opens g.N.Life.entries g.N.Life.session_entries c.args.branch.now _ c.branch.view_is c.branch.invariant c.args.pass.now c.args.pass.now c.requires.begins c.requires.branch c.requires.crowded _ _ c.upper_half-upper.ensures c.group_of-made.ensures.is
    c.group_of-made.ensures.made _ _ _ c.take.ensures.value (c.rights.view_is ∙ c.none-rights.ensures) refl c.none-rights.result

pub keep_lower-requires-clause-stays : goal.keep_lower-requires-clause-stays
keep_lower-requires-clause-stays g c = part_stays c.args.branch.now _ c.branch.view_is c.branch.invariant.keeps c.requires.branch c.requires.crowded

pub keep_lower-requires-clause-goes : goal.keep_lower-requires-clause-goes
keep_lower-requires-clause-goes g c = part_goes c.args.branch.now _ c.branch.view_is c.branch.invariant.keeps c.requires.branch c.requires.crowded

pub put_made-requires-clause-made : goal.put_made-requires-clause-made
put_made-requires-clause-made g c =
    let result_is : c.ask-entered.result ≡ Ok (At c.in-At.field-0) = c.in_ok-entered.was ∙ (λ i. Ok (c.in-At.is i)) in
    upper_settled _ _ _ c.args.branch.now _ c.branch.view_is c.branch.invariant _ _ c.requires.begins c.requires.branch c.requires.crowded _ _ c.upper_half-upper.ensures c.group_of-made.ensures.is c.group_of-made.ensures.made
    _ _ _ c.take.ensures.value (c.rights.view_is ∙ c.none-rights.ensures) refl _ _ result_is _ _ _ _ c.ask-entered.ensures.asked c.ask-entered.ensures.holders c.rights-2.view_is c.rights-2.invariant _ _ _ _ c.take-back.ensures.value c.in-Some.is
    c.take-new.ensures.value c.in-Some-new.is _ _ c.in-Ok.is (c.copy-2.ensures.copy ∙ c.copy.ensures.same)

pub invariant_of-branch-2 : goal.invariant_of-branch-2
invariant_of-branch-2 g c =
    let result_is : c.ask-entered.result ≡ Ok (At c.in-At.field-0) = c.in_ok-entered.was ∙ (λ i. Ok (c.in-At.is i)) in
    lower_settled _ _ _ c.args.branch.now _ c.branch.view_is c.branch.invariant _ _ c.requires.begins c.requires.branch c.requires.crowded _ _ c.upper_half-upper.ensures c.group_of-made.ensures.is c.group_of-made.ensures.made
    _ _ _ c.take.ensures.value (c.rights.view_is ∙ c.none-rights.ensures) refl _ _ result_is _ _ _ _ c.ask-entered.ensures.asked c.ask-entered.ensures.holders c.rights-2.view_is c.rights-2.invariant _ _ _ _ c.take-back.ensures.value c.in-Some.is
    c.take-new.ensures.value c.in-Some-new.is _ _ _ _ c.lsn-branch-inside.ensures c.page-child.ensures c.keep_lower.ensures c.copy.ensures.copy

pub returns-clause-entered : goal.returns-clause-entered
returns-clause-entered g c =
    let result_is : c.ask-entered.result ≡ Ok (At c.in-At.field-0) = c.in_ok-entered.was ∙ (λ i. Ok (c.in-At.is i)) in
    split_entered _ _ _ c.args.branch.now _ c.branch.view_is c.branch.invariant _ _ c.requires.begins c.requires.branch c.requires.crowded _ _ c.upper_half-upper.ensures c.group_of-made.ensures.is c.group_of-made.ensures.made
    _ _ _ c.take.ensures.value (c.rights.view_is ∙ c.none-rights.ensures) refl _ _ result_is _ _ _ _ c.ask-entered.ensures.asked c.ask-entered.ensures.holders c.rights-2.view_is c.rights-2.invariant _ _ _ _ c.take-back.ensures.value c.in-Some.is
    c.take-new.ensures.value c.in-Some-new.is _ _ c.page-child.ensures (c.copy-2.ensures.same ∙ c.copy.ensures.same)
