use Rattle.std.proofs.Common.{◌≡◌, List, ℕ, Option, Some, ap, subst, sym, ◌∙◌}
use Rattle.std.specs.Option.{option_map_or}
use Rattle.std.specs.FinMap as finite
use Rattle.std.proofs.lemmas.Result.{on_ok_weaker}
use Rattle.store_model.specs.Operator.{meaning}
use Rattle.reply_judge.specs.Contents.{HasValues, IsContentsOf}
use Rattle.reply_judge.proofs.contents.CurrentContents.apply.Goals as goal

pub returns-in-Some-clause-ok : goal.returns-in-Some-clause-ok
unfolding IsContentsOf
returns-in-Some-clause-ok g c = λ m k.
    let is : meaning c.args.apply.now.operator (finite.get m c.args.apply.now.key) c.args.apply.now.argument ≡ Some c.in-Some.made =
    ap (λ (o : Option (List ℕ)). meaning c.args.apply.now.operator o c.args.apply.now.argument) (sym (c.get.ensures m k)) ∙ sym c.made_by.ensures ∙ c.in-Some.is in
    on_ok_weaker c.put.result (λ h. subst (λ (o : Option (List ℕ)). HasValues (option_map_or (λ v. finite.insert m c.args.apply.now.key v) o m) c.put.new.pairs) (sym is) h) (c.put.ensures.ok m k)

pub returns-in-Some-clause-err : goal.returns-in-Some-clause-err
unfolding IsContentsOf
returns-in-Some-clause-err g c = λ m k. c.put.ensures.err m k
