use Rattle.std.proofs.Common.{◌⊎◌, inl, ◌++◌, ◌<◌, List, ap, sym, subst, ◌∙◌, arith, length, get_or, drop, refl}
use Rattle.media.specs.Crash.{LeavesOnly}
use Rattle.log_blocks.specs.declared.header.Place.{Place}
use Rattle.log_blocks.specs.Log.{StandsFor}
use Rattle.log_blocks.specs.LogState.{LogState, IsDurable, IsWhole, lsn_behind}
use Rattle.log_blocks.specs.Opening.{DropLeaves, IsChain}
use Rattle.log_blocks.proofs.Durable.{in_disk, drop_left, durable_drop, dropped}
use Rattle.log_blocks.proofs.Progressing.{length-places}
use Rattle.log_blocks.proofs.Moments.{started, goes_on}
use Rattle.log_blocks.proofs.Walking.{next_above}
use Rattle.log_blocks.proofs.Whole.{chain_at, chain_drop, whole_drop}
use Rattle.log_blocks.proofs.log.BlockLog.drop_front.Goals as goal

pub discard-requires-clause-not_before : goal.discard-requires-clause-not_before
discard-requires-clause-not_before g c =
    let live = c.self.invariant.live (ap (λ (s : LogState _). s.ended) c.self.view_is ∙ c.in_ok-live.ensures.live) in
    let found = c.self.inside.places.items ++ c.self.inside.recent in
    let view = c.self.view_is in
    let lt : c.args.n < length found = omega (arith, c.requires, ap (λ (s : LogState _). length s.places) view) in
    let is = c.place-upto.ensures ∙ sym (ap (λ (s : LogState _). get_or s.places c.args.n c.place-upto.result) view) in
    let at = chain_at _ found c.self.inside.gate c.args.n c.place-upto.result live.chain lt is in
    omega (arith, at.0)

pub discard-requires-clause-not_past : goal.discard-requires-clause-not_past
discard-requires-clause-not_past g c =
    let live = c.self.invariant.live (ap (λ (s : LogState _). s.ended) c.self.view_is ∙ c.in_ok-live.ensures.live) in
    let found = c.self.inside.places.items ++ c.self.inside.recent in
    let view = c.self.view_is in
    let lt : c.args.n < length found = omega (arith, c.requires, ap (λ (s : LogState _). length s.places) view) in
    let is = c.place-upto.ensures ∙ sym (ap (λ (s : LogState _). get_or s.places c.args.n c.place-upto.result) view) in
    let at = chain_at _ found c.self.inside.gate c.args.n c.place-upto.result live.chain lt is in
    let inside = in_disk _ _ c.self.inside.gate c.place-upto.result.at live.short live.within (omega (arith, at.0)) (omega (arith, at.1)) in
    omega (arith, at.1, inside)

pub invariant_of-self : goal.invariant_of-self
invariant_of-self g c =
    let live = c.self.invariant.live (ap (λ (s : LogState _). s.ended) c.self.view_is ∙ c.in_ok-live.ensures.live) in
    let found = c.self.inside.places.items ++ c.self.inside.recent in
    let view = c.self.view_is in
    let lt : c.args.n < length found = omega (arith, c.requires, ap (λ (s : LogState _). length s.places) view) in
    let is = c.place-upto.ensures ∙ sym (ap (λ (s : LogState _). get_or s.places c.args.n c.place-upto.result) view) in
    let at = chain_at _ found c.self.inside.gate c.args.n c.place-upto.result live.chain lt is in
    let inside = in_disk _ _ c.self.inside.gate c.place-upto.result.at live.short live.within (omega (arith, at.0)) (omega (arith, at.1)) in
    let start = c.in-Ok.ensures.start in
    let len = c.in-Ok.ensures.len in
    let gone = c.drop_first.ensures in
    record {
      whole = subst (λ (l : List Place). IsWhole l c.self.inside.pending c.self.inside.gate c.self.inside.next c.self.inside.end) (sym gone)
          (whole_drop found c.self.inside.pending c.self.inside.gate c.self.inside.next c.self.inside.end c.args.n c.place-upto.result c.self.invariant.whole lt is);
      live = λ none. record {
        chain = subst (λ (l : List Place). IsChain (g.L.Disk.start c.discard.new.self) l c.self.inside.gate) (sym gone) (subst (λ m. IsChain m (drop c.args.n found) c.self.inside.gate) (sym start) (chain_drop _ found c.self.inside.gate c.args.n c.place-upto.result live.chain lt is));
        short = λ few. absurd (omega (arith, few, start, len, at.1, inside));
        within = λ many. omega (arith, len, inside);
      };
    }

pub lsn_before-requires : goal.lsn_before-requires
lsn_before-requires g c = let w = c.self.invariant.whole in omega (arith, w.next_is, next_above (lsn_behind (c.self.inside.places.items ++ c.self.inside.recent)) c.self.inside.pending)

pub returns-in-Ok-clause-durable : goal.returns-in-Ok-clause-durable
returns-in-Ok-clause-durable g c tells bs =
    let view = c.self.view_is in
    let found = c.self.inside.places.items ++ c.self.inside.recent in
    let lt : c.args.n < length found = omega (arith, c.requires, ap (λ (s : LogState _). length s.places) view) in
    let is = c.place-upto.ensures ∙ sym (ap (λ (s : LogState _). get_or s.places c.args.n c.place-upto.result) view) in
    subst (λ (s : LogState _). IsDurable g.L.Disk.told g.L.Disk.may_leave s bs
    → IsDurable g.L.Disk.told g.L.Disk.may_leave (record { device = c.discard.new.self; places = c.drop_first.new.places.items ++ c.drop_first.new.recent; pending = c.self.inside.pending; gate = c.self.inside.gate; next = c.self.inside.next; ended = c.self.inside.ended }) (drop c.args.n bs)) view
    (λ d. durable_drop g.L.Disk.told g.L.Disk.may_leave _ _ bs c.args.n c.place-upto.result d lt is (c.in-Ok.ensures.gone tells) c.in-Ok.ensures.crash c.drop_first.ensures refl)

pub returns-in-Ok-clause-any_moment : goal.returns-in-Ok-clause-any_moment
returns-in-Ok-clause-any_moment g c tells bs =
    let view = c.self.view_is in
    let found = c.self.inside.places.items ++ c.self.inside.recent in
    let lt : c.args.n < length found = omega (arith, c.requires, ap (λ (s : LogState _). length s.places) view) in
    let is = c.place-upto.ensures ∙ sym (ap (λ (s : LogState _). get_or s.places c.args.n c.place-upto.result) view) in
    subst (λ (s : LogState _). IsDurable g.L.Disk.told g.L.Disk.may_leave s bs → LeavesOnly g.L.Disk.moment g.L.Disk.left_since s.device c.discard.new.self (λ k. StandsFor bs k ⊎ StandsFor (drop c.args.n bs) k)) view
    (λ d. goes_on g.L.Disk.moment g.L.Disk.left_since g.L.Disk.may_leave _ _ _ (λ k. StandsFor bs k ⊎ StandsFor (drop c.args.n bs) k)
    (started g.L.Disk.moment g.L.Disk.left_since c.self.inside.device _ (λ k left. inl (subst (StandsFor bs) (sym (d.only k (g.met.L.Disk.only_now c.self.inside.device k left))) d.stands)))
    c.discard.ensures.time
    (λ k left. dropped bs _ k c.args.n c.place-upto.result d.stands (omega (arith, lt, ap length d.places_are, length-places (g.L.Disk.told c.self.inside.device).start bs)) (is ∙ ap (λ (l : List Place). get_or l c.args.n c.place-upto.result) d.places_are)
    (g.L.Disk.may_leave c.self.inside.device) d.only (c.discard.ensures.crash_either k left)))

pub returns-in-Err-clause-any_moment : goal.returns-in-Err-clause-any_moment
returns-in-Err-clause-any_moment g c tells bs =
    let view = c.self.view_is in
    let found = c.self.inside.places.items ++ c.self.inside.recent in
    let lt : c.args.n < length found = omega (arith, c.requires, ap (λ (s : LogState _). length s.places) view) in
    let is = c.place-upto.ensures ∙ sym (ap (λ (s : LogState _). get_or s.places c.args.n c.place-upto.result) view) in
    subst (λ (s : LogState _). IsDurable g.L.Disk.told g.L.Disk.may_leave s bs → LeavesOnly g.L.Disk.moment g.L.Disk.left_since s.device c.discard.new.self (λ k. StandsFor bs k ⊎ StandsFor (drop c.args.n bs) k)) view
    (λ d. goes_on g.L.Disk.moment g.L.Disk.left_since g.L.Disk.may_leave _ _ _ (λ k. StandsFor bs k ⊎ StandsFor (drop c.args.n bs) k)
    (started g.L.Disk.moment g.L.Disk.left_since c.self.inside.device _ (λ k left. inl (subst (StandsFor bs) (sym (d.only k (g.met.L.Disk.only_now c.self.inside.device k left))) d.stands)))
    c.discard.ensures.time
    (λ k left. dropped bs _ k c.args.n c.place-upto.result d.stands (omega (arith, lt, ap length d.places_are, length-places (g.L.Disk.told c.self.inside.device).start bs)) (is ∙ ap (λ (l : List Place). get_or l c.args.n c.place-upto.result) d.places_are)
    (g.L.Disk.may_leave c.self.inside.device) d.only (c.discard.ensures.crash_either k left)))

pub returns-in-Ok-clause-left : goal.returns-in-Ok-clause-left
returns-in-Ok-clause-left g c tells bs =
    let view = c.self.view_is in
    let found = c.self.inside.places.items ++ c.self.inside.recent in
    let lt : c.args.n < length found = omega (arith, c.requires, ap (λ (s : LogState _). length s.places) view) in
    let is = c.place-upto.ensures ∙ sym (ap (λ (s : LogState _). get_or s.places c.args.n c.place-upto.result) view) in
    subst (λ (s : LogState _). IsDurable g.L.Disk.told g.L.Disk.may_leave s bs → DropLeaves g.L.Disk.told g.L.Disk.may_leave bs c.args.n c.discard.new.self) view
    (λ d. drop_left g.L.Disk.told g.L.Disk.may_leave c.self.inside.device c.discard.new.self bs c.args.n c.place-upto.result d.stands d.only
    (omega (arith, lt, ap length d.places_are, length-places (g.L.Disk.told c.self.inside.device).start bs)) (is ∙ ap (λ (l : List Place). get_or l c.args.n c.place-upto.result) d.places_are)
    (c.discard.ensures.told tells) c.discard.ensures.crash_either)

pub returns-in-Err-clause-left : goal.returns-in-Err-clause-left
returns-in-Err-clause-left g c tells bs =
    let view = c.self.view_is in
    let found = c.self.inside.places.items ++ c.self.inside.recent in
    let lt : c.args.n < length found = omega (arith, c.requires, ap (λ (s : LogState _). length s.places) view) in
    let is = c.place-upto.ensures ∙ sym (ap (λ (s : LogState _). get_or s.places c.args.n c.place-upto.result) view) in
    subst (λ (s : LogState _). IsDurable g.L.Disk.told g.L.Disk.may_leave s bs → DropLeaves g.L.Disk.told g.L.Disk.may_leave bs c.args.n c.discard.new.self) view
    (λ d. drop_left g.L.Disk.told g.L.Disk.may_leave c.self.inside.device c.discard.new.self bs c.args.n c.place-upto.result d.stands d.only
    (omega (arith, lt, ap length d.places_are, length-places (g.L.Disk.told c.self.inside.device).start bs)) (is ∙ ap (λ (l : List Place). get_or l c.args.n c.place-upto.result) d.places_are)
    (c.discard.ensures.told tells) c.discard.ensures.crash_either)
