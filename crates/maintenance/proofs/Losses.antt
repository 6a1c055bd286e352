-- A loss of the data device told.
use Rattle.std.proofs.Common.{◌≡◌, ◌≢◌, ℕ, ◌≤◌, List, [], ◌∷◌, ◌++◌, refl, sym, ap, subst, append-nil, arith}
use Rattle.std.proofs.lemmas.Bool.Decides.{nat_tests}
use Rattle.std.specs.Prelude.{true, not}
use Rattle.front.proofs.Keeping.{prefix_self}
use Rattle.wal_record.specs.Chains.{pages}
use Rattle.wal_record.specs.History.{life_log, log_of}
use Rattle.wal_record.specs.OpenWrites.{has_items}
use Rattle.wal_record.specs.Rules.{is_u32}
use Rattle.wal_record.specs.Sound.{IsLawful}
use Rattle.wal_record.specs.declared.record.Lost.{Lost}
use Rattle.wal_record.specs.declared.record.Record.{Record}
use Rattle.wal_record.specs.declared.record.Record.TheVariants as kinds
use Rattle.wal_record.specs.declared.entry.Entry.{Entry}
use Rattle.wal_record.proofs.Along.{AllAlong_less}
use Rattle.claim_laws.specs.Entering.{IsAtRest}
use Rattle.claim_laws.specs.Suiting.{Suits}
use Rattle.claim_laws.proofs.Filling.{pages_law}
use Rattle.asking_laws.proofs.Asks.{asks_law}
use Rattle.page_ops.specs.Asking.{IsAskable, WasTimely}
use Rattle.page_ops.specs.Claims.{Claims}
use Rattle.page_ops.specs.Groups.{AreFilled, Each, HasRights, IsGroup}
use Rattle.page_ops.specs.Seeing.{IsMoment}
use Rattle.page_ops.specs.declared.group.Group.{Group}
use Rattle.maintenance.specs.Losses.{loss_group}
use Rattle.maintenance.proofs.Marks.{StaysOfKind, alone}

some_items : {A : Type 0} (xs : List A) → xs ≢ [] → has_items xs ≡ true
some_items [] some = absurd (some refl)
some_items (x ∷ xs) some = refl

-- whatever it says of the pages, the journal fills in how many there are
refilled : (count new : ℕ) (xs : List Record) → AreFilled new (kinds.Lost (record { pages = count }) ∷ []) xs → AreFilled new (kinds.Lost (record { pages = 0 }) ∷ []) xs
refilled count new [] f = absurd f
refilled count new (x ∷ []) f = f
refilled count new (x ∷ y ∷ ys) f = absurd f.1

module _ (g : Group) (is : g ≡ loss_group) where
  pub is_group : IsGroup g
  is_group = subst IsGroup (sym is) (record { few = omega arith; kinds = refl; spelled = (record { pages = refl }, tt); told = refl; alone = λ a. refl })

  pub has_rights : (opens : List Record → Type 0) (h : List Entry) (x : Claims) → HasRights opens h x g
  has_rights opens h x = subst (HasRights opens h x) (sym is) (record { pages = refl; new = λ s. absurd (cc s); owners = (tt, tt); speaker = tt; maintenance = λ needs. absurd (cc needs) })

  pub is_askable : (opens : List Record → Type 0) (seen : List Entry) (x : Claims) (opening : List Record) (h : List Entry) → opens opening → IsMoment opens seen x h → IsAskable opening h x.a g
  is_askable opens seen x opening h stands moment =
      let consistent = moment.consistent in
      let sound = consistent.sound opening stands in
      let rest : IsAtRest opening h = record { legal = consistent.legal opening stands; sound = sound; told = consistent.told; split = consistent.split opening stands } in
      let most : pages (life_log opening h) ≤ 16384 = (pages_law (life_log opening h)).most sound in
      let suits : Suits opening h (kinds.Lost (record { pages = pages (life_log opening h) })) = record {
        lawful = record {
          first = sym (ap not (some_items (life_log opening h) (consistent.some opening stands)));
          fields = record { pages = u32_is (pages (life_log opening h)) most };
          chain = tt;
          heads = tt;
          applicable = λ p n. absurd (cc n);
          place = tt;
          value = tt;
          upkeep = refl;
        };
        rule = tt;
      } in
      let asked : IsAskable opening (h ++ []) x.a (alone (kinds.Lost (record { pages = pages (life_log opening h) }))) = (asks_law opening h []).lost (AllAlong_less IsLawful opening (log_of h) sound.lawful) (subst (IsAtRest opening) (sym (append-nil h)) rest) x.a (record { pages = pages (life_log opening h) }) (subst (λ (l : List Entry). Suits opening l (kinds.Lost (record { pages = pages (life_log opening h) }))) refl suits) in
      subst (λ (z : Group). IsAskable opening h x.a z) (sym is)
      (subst (λ (l : List Entry). IsAskable opening l x.a loss_group) (append-nil h) (record {
        leaf = asked.leaf;
        follows = λ timely room numbers.
            let f = asked.follows (tt, tt) (λ no. absurd (cc no)) numbers in
            record { new = f.new; recs = f.recs; filled = refilled (pages (life_log opening h)) f.new f.recs f.filled; legal = f.legal; whole = f.whole };
        declines = asked.declines;
      }))
    where
      u32_is : (n : ℕ) → n ≤ 16384 → is_u32 n ≡ true
      u32_is n l = grind (arith, nat_tests)

  pub is_timely : (opening : List Record) (seen : List Entry) → Each (WasTimely opening seen) g.recs
  is_timely opening seen = subst (λ (z : Group). Each (WasTimely opening seen) z.recs) (sym is) ((seen, prefix_self seen, tt), tt)

pub filled : StaysOfKind Lost kinds.Lost (kinds.Lost (record { pages = 0 }))
filled new [] f = absurd f
filled new (x ∷ []) f = (record { pages = f.0.0.pages }, ap (λ (y : Record). y ∷ []) f.0.2)
filled new (x ∷ y ∷ ys) f = absurd f.1
