use Rattle.std.proofs.Common.{subst, sym}
use Rattle.std.proofs.lemmas.Result.{on_ok_weaker}
use Rattle.store_model.specs.Contents.{set_to}
use Rattle.reply_judge.specs.Contents.{HasValues, IsContentsOf}
use Rattle.reply_judge.proofs.contents.CurrentContents.set.Goals as goal

pub returns-in-Some-clause-ok : goal.returns-in-Some-clause-ok
unfolding IsContentsOf
returns-in-Some-clause-ok c = λ m k. on_ok_weaker c.put.result (λ h. subst (λ v. HasValues (set_to m c.args.key.now v) c.put.new.pairs) (sym c.in-Some.is) h) (c.put.ensures.ok m k)

pub returns-in-Some-clause-err : goal.returns-in-Some-clause-err
unfolding IsContentsOf
returns-in-Some-clause-err c = λ m k. c.put.ensures.err m k

pub returns-in-None-clause-ok : goal.returns-in-None-clause-ok
unfolding IsContentsOf
returns-in-None-clause-ok c = λ m k. subst (λ v. HasValues (set_to m c.args.key.now v) c.take.new.pairs) (sym c.in-None.is) (c.take.ensures m k)
