use Rattle.std.proofs.Common.{◌≡◌, ◌++◌, ◌∷◌, [], take, refl, sym, ap, subst, ◌∙◌, inl, inr, true}
use Rattle.std.proofs.lemmas.List.{take_more, take_all}
use Rattle.store_model.proofs.Bools.{not_both}
use Rattle.range_lock.specs.Lock.{IsAmong, covers}
use Rattle.range_lock.specs.Tables.{lock_on_range}
use Rattle.range_lock.specs.declared.entry.RangeLock.{RangeLock}
use Rattle.range_lock.proofs.Members.{among_at, among_either}
use Rattle.range_lock.proofs.wider.is_covered.Goals as goal

pub loop-lock-init : goal.loop-lock-init
loop-lock-init c g = g.1

pub loop-lock-preserved : goal.loop-lock-preserved
loop-lock-preserved c g =
    let item = c.lock-item.result in
    let more = take_more c.args.held.now c.loop-lock.lock-index item c.loop-lock-test.true ∙ ap (λ (r : RangeLock). take c.loop-lock.lock-index c.args.held.now ++ r ∷ []) (sym c.lock-item.is) in
    elim (among_either g.0 (take c.loop-lock.lock-index c.args.held.now) (item ∷ []) (subst (IsAmong g.0) more g.1)) [
      | inl m ↦ c.loop-lock.invariant (g.0, m, g.2)
      | inr m ↦ elim m [
        | inl e ↦ not_both (covers (lock_on_range 0 item) c.args.range.now c.args.mode) (subst (λ (r : RangeLock). covers (lock_on_range 0 r) c.args.range.now c.args.mode ≡ true) e g.2) (sym c.covers_one.ensures ∙ c.if-covers_one.false)
        | inr n ↦ n
      ]
    ]

pub returns-then-covers_one : goal.returns-then-covers_one
returns-then-covers_one c =
    (λ e. (c.lock-item.result, among_at c.args.held.now c.loop-lock.lock-index c.lock-item.result c.loop-lock-test.true c.lock-item.is, sym c.covers_one.ensures ∙ c.if-covers_one.true), λ g. refl)

pub returns : goal.returns
returns c = (λ e. absurd cc, λ g. absurd (c.loop-lock.invariant (g.0, subst (IsAmong g.0) (sym (take_all c.loop-lock.lock-index c.args.held.now c.loop-lock-test.false)) g.1, g.2)))
