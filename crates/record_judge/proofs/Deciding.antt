-- Rules that make a record lawful.
use Rattle.std.proofs.Common.{◌≡◌, ℕ, eqb, ◌<◌, ◌≤◌, List, length, Option, Some, None, Bool, true, false, refl, sym, ap, arith, Result, Ok, Err}
use Rattle.std.specs.Prelude.{IsTrue, IfOk, IfSome, not, nat_le}
use Rattle.std.proofs.lemmas.Bool.Decides.{nat_tests}
use Rattle.wal_record.specs.Checkpoints.{checkpoint_of, is_checkpoint, limit_of}
use Rattle.wal_record.specs.Rules.{HasSpelling, KeepsCheckpoint}
use Rattle.wal_record.specs.Sound.{IsLawful, PlaceRule, used}
use Rattle.store_model.proofs.Bools.{or_left}
use Rattle.wal_record.specs.Images.{CanApply, CanTakeChild, OnPage, image}
use Rattle.wal_record.specs.declared.record.Adopt.{Adopt}
use Rattle.wal_record.specs.declared.record.Checkpoint.{Checkpoint}
use Rattle.wal_record.specs.declared.record.Record.{Record}
use Rattle.wal_record.specs.declared.record.Record.TheVariants as kinds
use Rattle.log_laws.proofs.Central.{eqb_self}
use Rattle.page_judge.specs.Images.{AreApplicable}
use Rattle.page_judge.specs.declared.changed.Changed.{Changed}
use Rattle.record_judge.specs.Judging.{IsPlaced, IsVerdict}
use Rattle.record_judge.specs.Rules.{KeepsRules}
use Rattle.record_judge.proofs.Beginning.{has_some, some_there}
use Rattle.record_judge.proofs.Rooms.{limit_more, used_behind}

module _ (log : List Record) (r : Record) where
  lawful_by : HasSpelling r → KeepsRules log r → AreApplicable log r → PlaceRule log r → IsLawful log r
  lawful_by fields k applicable place =
      record { first = k.first; fields = fields; chain = k.chain; heads = k.heads; applicable = applicable; place = place; value = k.value; room = k.room; upkeep = k.upkeep }

  pub rules_of : IsLawful log r → KeepsRules log r
  rules_of k = record { first = k.first; chain = k.chain; heads = k.heads; value = k.value; room = k.room; upkeep = k.upkeep }

  pub verdict_by : (found : Option Changed) → HasSpelling r → KeepsRules log r → IsPlaced log r found → IsVerdict log r found
  verdict_by None fields k placed = λ lawful. placed lawful.applicable lawful.place
  verdict_by (Some x) fields k placed = (lawful_by fields k placed.0 placed.1, placed.2)

-- ---- Checkpoints

module _ (log : List Record) (c : Checkpoint) where
  pub checkpoint_lawful : KeepsCheckpoint c → 0 < length log → used log ≤ limit_of log → c ≡ checkpoint_of log → IsLawful log (kinds.Checkpoint c)
  checkpoint_lawful keeps some room is = record {
    first = sym (ap not (has_some log some));
    fields = keeps;
    chain = tt;
    heads = tt;
    applicable = λ p named. absurd (cc named);
    place = tt;
    value = tt;
    room = record {
      most = let u = used_behind log (kinds.Checkpoint c) in let l = limit_more log (kinds.Checkpoint c) some in omega (arith, u, l, room);
      next = λ over. absurd (omega (arith, over, room));
    };
    upkeep = is;
  }

  flip : (b : Bool) → false ≡ not b → b ≡ true
  flip true e = refl
  flip false e = absurd (cc e)

  within : (n l : ℕ) → (l < n → IsTrue false) → n ≤ l
  within n l next = by (nat_le n l) refl
    where
      by : (b : Bool) → nat_le n l ≡ b → n ≤ l
      by true is = grind (arith, nat_tests, is)
      by false is = (let over : l < n = grind (arith, nat_tests, is) in absurd (cc (next over)))

  pub checkpoint_rules : IsLawful log (kinds.Checkpoint c) → (0 < length log) × (used log ≤ limit_of log) × (c ≡ checkpoint_of log)
  checkpoint_rules k = (some_there log (flip _ k.first), within (used log) (limit_of log) k.room.next, k.upkeep)

-- ---- answers

pub ok_all : {T E : Type 0} (r : Result T E) (P : T → Type 0) → ((x : T) → P x) → IfOk r P
ok_all (Ok x) P f = f x
ok_all (Err e) P f = tt

pub some_all : {T : Type 0} (o : Option T) (P : T → Type 0) → ((x : T) → P x) → IfSome o P
some_all None P f = tt
some_all (Some x) P f = f x

pub not_checkpoint : (r : Record) → ((c : Checkpoint) → r ≡ kinds.Checkpoint c → ⊥) → is_checkpoint r ≡ false
not_checkpoint (kinds.Checkpoint c) other = absurd (other c refl)
not_checkpoint r other = refl

-- the parent of an adoption that is applicable can take the child
pub adopt_can : (log : List Record) (a : Adopt) → AreApplicable log (kinds.Adopt a) → OnPage (CanTakeChild a) (image log a.parent)
unfolding CanApply
adopt_can log a all = (all a.parent (or_left (eqb a.parent a.parent) (eqb a.parent a.fosterer) (eqb_self a.parent))).can.0 refl
