use Rattle.std.proofs.Common.{◌≡◌, false, subst, sym}
use Rattle.std.specs.Prelude.{◌↔◌, IsTrue}
use Rattle.reply_judge.specs.Contents.{IsContentsOf}
use Rattle.reply_judge.proofs.Scanning.{ends, expected, fails, scan_is}
use Rattle.reply_judge.proofs.contents.CurrentContents.are_pairs.Goals as goal

pub returns-in-None-left_behind : goal.returns-in-None-left_behind
unfolding IsContentsOf
returns-in-None-left_behind c = λ m k. subst (λ ps. IsTrue false ↔ (c.args.pairs.now ≡ ps)) (sym (scan_is c.args.range.now m c.args.self.now.pairs k c.len-pairs.ensures.ordered))
    (fails (c.args.pairs.now ≡ expected c.args.range.now c.args.self.now.pairs.entries) c.args.range.now c.in-Some.key.now c.in-Some.value.now c.loop-key.left.now _ _ c.in-Some.ensures.steps c.loop-key.invariant c.in-None-left_behind.ensures.none)

pub returns : goal.returns
unfolding IsContentsOf
returns c = λ m k. subst (λ ps. IsTrue c.is_empty.result ↔ (c.args.pairs.now ≡ ps)) (sym (scan_is c.args.range.now m c.args.self.now.pairs k c.len-pairs.ensures.ordered))
    (ends (c.args.pairs.now ≡ expected c.args.range.now c.args.self.now.pairs.entries) c.args.range.now c.loop-key.left.now _ c.is_empty.result c.in-None.ensures.steps.0 c.is_empty.ensures c.loop-key.invariant)
