use Rattle.std.proofs.Common.{ℕ, ◌≡◌, length, take, ap, ◌∙◌, ◌-◌, arith}
use Rattle.page_judge.specs.Names.{AreNamesOf}
use Rattle.page_judge.proofs.Naming.{kept_front, kept_more, kept_still}
use Rattle.page_judge.proofs.names.PageNames.note.Goals as goal

pub returns-clause-ok : goal.returns-clause-ok
unfolding AreNamesOf
returns-clause-ok c = λ log k is.
    let kept = c.forget.ensures ∙ ap (λ (n : ℕ). take n c.args.self.now.named.items) (let e : c.args.lsn - 1 ≡ length log = omega (arith, is) in e) ∙ k in
    kept_more log c.forget.new.named.items kept c.args.entered.now (record { first = c.first_page.result; second = c.second_page.result }) c.push.new.self.items
    (λ i. record { first = c.first_page.ensures i; second = c.second_page.ensures i }) c.in_ok-push.ensures.items

pub returns-clause-same : goal.returns-clause-same
unfolding AreNamesOf
returns-clause-same c = λ log k is.
    let kept = c.forget.ensures ∙ ap (λ (n : ℕ). take n c.args.self.now.named.items) (let e : c.args.lsn - 1 ≡ length log = omega (arith, is) in e) ∙ k in
    kept_front log c.forget.new.named.items kept _ c.push.new.self.items c.in_ok-push.ensures.items

pub returns-in_err-push-clause-same : goal.returns-in_err-push-clause-same
unfolding AreNamesOf
returns-in_err-push-clause-same c = λ log k is.
    let kept = c.forget.ensures ∙ ap (λ (n : ℕ). take n c.args.self.now.named.items) (let e : c.args.lsn - 1 ≡ length log = omega (arith, is) in e) ∙ k in
    kept_still log c.push.new.self.items (c.in_err-push.ensures.items ∙ kept)
