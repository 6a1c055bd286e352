-- A fault's cause is the same for whoever has watched the counts for longer.
use Rattle.std.proofs.Common.{◌≡◌, ◌≤◌, ℕ, ap, arith, sym, subst}
use Rattle.std.specs.Prelude.{◌≢◌}
use Rattle.media.specs.Cause.{Rose}
use Rattle.media.specs.declared.disk.Disk.{Ghosts}
use Rattle.page_ops.specs.Seeing.{Calls}
use Rattle.journal.specs.State.{calls_of}
use Rattle.store_log.specs.Shows.{Shows}
use Rattle.runner.specs.Causes.{IsOfALife, LivedCause, RunCause}
use Rattle.runner.specs.declared.living.Lived.{Lived}
use Rattle.runner.specs.declared.living.Lived.TheVariants as ways
use Rattle.life_commands.specs.declared.status.Status.{Status}
use Rattle.life_commands.specs.declared.status.Status.TheVariants as statuses

rose_since : (a b c : ℕ) → a ≤ b → Rose b c → Rose a c
rose_since a b c h r = omega (arith, h, r)

run_cause_since : (s0 s1 s2 k0 k1 k2 l0 l1 l2 : ℕ) (status : Status) → s0 ≤ s1 → k0 ≤ k1 → l0 ≤ l1 → RunCause s1 s2 k1 k2 l1 l2 status → RunCause s0 s2 k0 k2 l0 l2 status
run_cause_since s0 s1 s2 k0 k1 k2 l0 l1 l2 status s k l cause = record {
  source = λ e. rose_since s0 s1 s2 s (cause.source e);
  sink = λ e. rose_since k0 k1 k2 k (cause.sink e);
  log = λ e. rose_since l0 l1 l2 l (cause.log e);
}

pub lived_since : {D E F : Type 0} (L : Ghosts D) (l0 l1 s0 s1 k0 k1 k2 : ℕ) (r : Lived D E F) → l0 ≤ l1 → s0 ≤ s1 → k0 ≤ k1 → LivedCause L l1 s1 s1 k1 k2 r → LivedCause L l0 s0 s1 k0 k2 r
lived_since L l0 l1 s0 s1 k0 k1 k2 (ways.Over left device vault) own source sink h = omega (arith, own, h)
lived_since L l0 l1 s0 s1 k0 k1 k2 (ways.Ends status left device vault) own source sink h =
    (omega (arith, own, h.0), run_cause_since s0 s1 s1 k0 k1 k2 l0 l1 (L.own left) status source sink own h.1, h.2, h.3, h.4)

-- no device failed
pub memory_cause : (s0 s1 k0 k1 l0 l1 : ℕ) → RunCause s0 s1 k0 k1 l0 l1 statuses.Memory
memory_cause s0 s1 k0 k1 l0 l1 = record { source = λ e. absurd cc; sink = λ e. absurd cc; log = λ e. absurd cc }

-- a status that a life gives shows nothing of the disk
life_shows : {D : Type 0} (L : Ghosts D) (disk : D) (status : Status) → IsOfALife status → Shows L disk status × (status ≢ statuses.Usage) × (status ≢ statuses.NoGenerator)
life_shows L disk statuses.Usage k = absurd k
life_shows L disk statuses.NoGenerator k = absurd k
life_shows L disk statuses.AlreadyFormatted k = absurd k
life_shows L disk statuses.NotFormatted k = absurd k
life_shows L disk (statuses.LogBad block byte) k = absurd k
life_shows L disk _ k = (tt, (λ e. absurd cc), (λ e. absurd cc))

-- the run ends in a life, which has handed out its disk
pub life_ended : {D E F : Type 0} (L : Ghosts D) (disk : D) (device : E) (vault : F) (calls : Calls) (status : Status) (s0 s1 s2 k0 k1 k2 l0 l1 : ℕ) → calls_of L.passes L.refused L.own disk ≡ calls → s0 ≤ s1 → k0 ≤ k1 → l0 ≤ l1 → l1 ≤ calls.own → RunCause s1 s2 k1 k2 l1 calls.own status → IsOfALife status
    → LivedCause L l0 s0 s2 k0 k2 (ways.Ends status disk device vault)
life_ended L disk device vault calls status s0 s1 s2 k0 k1 k2 l0 l1 is s k l own cause of =
    let own_is : L.own disk ≡ calls.own = ap (λ (c : Calls). c.own) is in
    let shows = life_shows L disk status of in
    (omega (arith, own_is, l, own), subst (λ (n : ℕ). RunCause s0 s2 k0 k2 l0 n status) (sym own_is) (run_cause_since s0 s1 s2 k0 k1 k2 l0 l1 calls.own status s k l cause), shows.0, shows.1, shows.2)
