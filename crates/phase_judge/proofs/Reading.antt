-- What the phases that are kept tell of a history.
use Rattle.std.proofs.Common.{◌≡◌, ℕ, suc, ◌<◌, List, Option, Some, None, Bool, true, false, refl, sym, ap, subst, ◌∙◌, ◌≤◌, arith}
use Rattle.std.specs.Prelude.{◌↔◌, IsTrue, max}
use Rattle.wal_record.specs.History.{greatest_begun, live_count, Phase, Live, Committed, phase, is_live, is_over, is_owner, last_begun, IsFree}
use Rattle.wal_record.specs.Chains.{greatest}
use Rattle.wal_record.specs.Legal.{MayBegin, untold}
use Rattle.wal_record.specs.declared.record.Record.{Record}
use Rattle.wal_record.specs.declared.entry.Entry.{Entry}
use Rattle.phase_judge.specs.Phases.{ArePhasesOf, is_committed, phase_in, is_owner_in, last_in}
use Rattle.phase_judge.specs.declared.phases.Phases.{Phases}

pub live_exact : (b : Bool) (q : Phase) → b ≡ is_live q → IsTrue b ↔ (q ≡ Live)
live_exact b q e = (λ is. live q (sym e ∙ is), λ is. e ∙ ap is_live is)
  where
    live : (x : Phase) → is_live x ≡ true → x ≡ Live
    live Live is = refl
    live _ is = absurd (cc is)

pub committed_exact : (b : Bool) (q : Phase) → b ≡ is_committed q → IsTrue b ↔ (q ≡ Committed)
committed_exact b q e = (λ is. committed q (sym e ∙ is), λ is. e ∙ ap is_committed is)
  where
    committed : (x : Phase) → is_committed x ≡ true → x ≡ Committed
    committed Committed is = refl
    committed _ is = absurd (cc is)

module _ (opening : List Record) (h : List Entry) (p : Phases) (k : ArePhasesOf opening h p) where
  pub stage_is : (t : ℕ) → phase_in p.transactions t ≡ phase h t
  unfolding ArePhasesOf
  stage_is t = k.stands t

  pub owner_is : (s t : ℕ) → is_owner_in p.transactions s t ≡ is_owner h s t
  unfolding ArePhasesOf
  owner_is s t = k.owner s t

  pub last_is : (s : ℕ) → last_in p.sessions s ≡ last_begun h s
  unfolding ArePhasesOf
  last_is s = k.last s

-- ---- whether a session may begin a transaction

pub free_some : (h : List Entry) (last : Option ℕ) (t : ℕ) (b : Bool) → last ≡ Some t → b ≡ is_over (phase h t) → IsTrue b ↔ IsFree h last
free_some h last t b e is = (λ y. subst (IsFree h) (sym e) (sym is ∙ y), λ y. is ∙ subst (IsFree h) e y)

pub free_none : (h : List Entry) (last : Option ℕ) → last ≡ None → IsTrue true ↔ IsFree h last
free_none h last e = (λ y. subst (IsFree h) (sym e) tt, λ y. refl)

module _ (opening : List Record) (h : List Entry) (p : Phases) (k : ArePhasesOf opening h p) (told : untold h ≡ None) (session tx : ℕ) where
  number_is : p.greatest ≡ max (greatest opening) (greatest_begun h)
  unfolding ArePhasesOf
  number_is = k.highest

  live_is : p.live ≡ live_count h
  unfolding ArePhasesOf
  live_is = k.counted

  pub begin_exact : (b : Bool) → tx ≡ suc p.greatest → p.live < 64 → IsTrue b ↔ IsFree h (last_begun h session) → IsTrue b ↔ MayBegin opening h session tx
  begin_exact b next room free = (
    λ is. record { told = told; number = next ∙ ap suc number_is; room = let same = live_is in omega (arith, room, same); free = free.0 is },
    λ m. free.1 m.free,
  )

  pub not_next : (b : Bool) → b ≡ false → (tx ≡ suc p.greatest → ⊥) → IsTrue b ↔ MayBegin opening h session tx
  not_next b is_false other = (λ is. (let both : true ≡ false = sym is ∙ is_false in absurd (cc both)), λ m. absurd (other (m.number ∙ ap suc (sym number_is))))

  pub no_room : (b : Bool) → b ≡ false → 64 ≤ p.live → IsTrue b ↔ MayBegin opening h session tx
  no_room b is_false full = (λ is. (let both : true ≡ false = sym is ∙ is_false in absurd (cc both)), λ m. let room = m.room in let same = live_is in absurd (omega (arith, room, same, full)))
