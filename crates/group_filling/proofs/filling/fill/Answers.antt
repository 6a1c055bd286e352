use Rattle.std.proofs.Common.{◌∙◌, sym, ap, get_or}
use Rattle.group_filling.specs.Fields.{no_fields}
use Rattle.group_filling.proofs.Chaining.{fill_one, fill_two, joins_filled}
use Rattle.page_ops.specs.Groups.{made_by}
use Rattle.group_filling.proofs.filling.fill.Goals as goal

pub returns-then-count-eq1-clause-back : goal.returns-then-count-eq1-clause-back
returns-then-count-eq1-clause-back c =
    let put = c.set_at-before.ensures in
    (fill_one c.args.made c.args.child c.args.recs.now c.set_at-before.new.recs c.fields_for-first.result c.set_at-before.result no_fields c.index-as_slice-0.result (sym c.len-count.ensures.value ∙ c.if-count-eq1.true) c.requires.made c.requires.plain put.old put.set (c.index-as_slice-0.is ∙ ap (λ l. get_or l 0 c.index-as_slice-0.result) c.as_slice.ensures) c.fields_for-first.ensures.placed).0

pub returns-then-count-eq1-clause-filled : goal.returns-then-count-eq1-clause-filled
returns-then-count-eq1-clause-filled c =
    let put = c.set_at-before.ensures in
    (fill_one c.args.made c.args.child c.args.recs.now c.set_at-before.new.recs c.fields_for-first.result c.set_at-before.result no_fields c.index-as_slice-0.result (sym c.len-count.ensures.value ∙ c.if-count-eq1.true) c.requires.made c.requires.plain put.old put.set (c.index-as_slice-0.is ∙ ap (λ l. get_or l 0 c.index-as_slice-0.result) c.as_slice.ensures) c.fields_for-first.ensures.placed).1

pub returns-then-count-eq1-clause-told : goal.returns-then-count-eq1-clause-told
returns-then-count-eq1-clause-told c goes log known at few runs =
    let put = c.set_at-before.ensures in
    (fill_one c.args.made c.args.child c.args.recs.now c.set_at-before.new.recs c.fields_for-first.result c.set_at-before.result no_fields c.index-as_slice-0.result (sym c.len-count.ensures.value ∙ c.if-count-eq1.true) c.requires.made c.requires.plain put.old put.set (c.index-as_slice-0.is ∙ ap (λ l. get_or l 0 c.index-as_slice-0.result) c.as_slice.ensures) c.fields_for-first.ensures.placed).2 goes log runs
    (λ one. c.fields_for-first.ensures.chained goes log known at few one tt)

pub returns-clause-back : goal.returns-clause-back
returns-clause-back c =
    let put = c.set_at-before.ensures in
    let put2 = c.set_at-before-2.ensures in
    (fill_two c.args.made c.args.child c.args.recs.now c.set_at-before.new.recs c.set_at-before-2.new.recs c.from_ref-front.result.now c.fields_for-first.result c.set_at-before.result c.fields_for-second.result c.set_at-before-2.result c.index-as_slice-0.result c.index-both-0.result c.index-both-1.result c.requires.joins (λ none. c.if-count-eq0.false (c.len-count.ensures.value ∙ none)) (λ one. c.if-count-eq1.false (c.len-count.ensures.value ∙ one)) c.requires.made c.requires.plain
    put.old put.set put2.old put2.set (c.index-as_slice-0.is ∙ ap (λ l. get_or l 0 c.index-as_slice-0.result) c.as_slice.ensures) (c.index-both-0.is ∙ ap (λ l. get_or l 0 c.index-both-0.result) c.as_slice-both.ensures) (c.index-both-1.is ∙ ap (λ l. get_or l 1 c.index-both-1.result) c.as_slice-both.ensures) c.from_ref-front.ensures.value c.fields_for-first.ensures.placed c.fields_for-second.ensures.placed).0

pub returns-clause-filled : goal.returns-clause-filled
returns-clause-filled c =
    let put = c.set_at-before.ensures in
    let put2 = c.set_at-before-2.ensures in
    (fill_two c.args.made c.args.child c.args.recs.now c.set_at-before.new.recs c.set_at-before-2.new.recs c.from_ref-front.result.now c.fields_for-first.result c.set_at-before.result c.fields_for-second.result c.set_at-before-2.result c.index-as_slice-0.result c.index-both-0.result c.index-both-1.result c.requires.joins (λ none. c.if-count-eq0.false (c.len-count.ensures.value ∙ none)) (λ one. c.if-count-eq1.false (c.len-count.ensures.value ∙ one)) c.requires.made c.requires.plain
    put.old put.set put2.old put2.set (c.index-as_slice-0.is ∙ ap (λ l. get_or l 0 c.index-as_slice-0.result) c.as_slice.ensures) (c.index-both-0.is ∙ ap (λ l. get_or l 0 c.index-both-0.result) c.as_slice-both.ensures) (c.index-both-1.is ∙ ap (λ l. get_or l 1 c.index-both-1.result) c.as_slice-both.ensures) c.from_ref-front.ensures.value c.fields_for-first.ensures.placed c.fields_for-second.ensures.placed).1

pub returns-clause-joins : goal.returns-clause-joins
returns-clause-joins c = joins_filled (made_by c.args.recs.now) c.args.child c.args.recs.now c.set_at-before-2.new.recs (returns-clause-filled c) c.requires.joins

pub returns-clause-told : goal.returns-clause-told
returns-clause-told c goes log known at few runs =
    let put = c.set_at-before.ensures in
    let put2 = c.set_at-before-2.ensures in
    (fill_two c.args.made c.args.child c.args.recs.now c.set_at-before.new.recs c.set_at-before-2.new.recs c.from_ref-front.result.now c.fields_for-first.result c.set_at-before.result c.fields_for-second.result c.set_at-before-2.result c.index-as_slice-0.result c.index-both-0.result c.index-both-1.result c.requires.joins (λ none. c.if-count-eq0.false (c.len-count.ensures.value ∙ none)) (λ one. c.if-count-eq1.false (c.len-count.ensures.value ∙ one)) c.requires.made c.requires.plain
    put.old put.set put2.old put2.set (c.index-as_slice-0.is ∙ ap (λ l. get_or l 0 c.index-as_slice-0.result) c.as_slice.ensures) (c.index-both-0.is ∙ ap (λ l. get_or l 0 c.index-both-0.result) c.as_slice-both.ensures) (c.index-both-1.is ∙ ap (λ l. get_or l 1 c.index-both-1.result) c.as_slice-both.ensures) c.from_ref-front.ensures.value c.fields_for-first.ensures.placed c.fields_for-second.ensures.placed).2 goes log runs
    (λ one. c.fields_for-first.ensures.chained goes log known at few one tt) (λ two joins. c.fields_for-second.ensures.chained goes log known at few two joins)
