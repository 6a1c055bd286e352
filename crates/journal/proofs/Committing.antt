-- A commit: of a live transaction it is legal, and the life is at rest behind it.
use Rattle.std.proofs.Common.{◌≡◌, ◌≢◌, ℕ, eqb, cond, ◌+◌, ◌≤◌, ◌<◌, ◌^◌, List, [], ◌∷◌, ◌++◌, length, Bool, true, false, not, refl, sym, ap, ◌∙◌, subst, arith}
use Rattle.std.specs.Prelude.{filter, ◌&&◌, ◌||◌}
use Rattle.std.proofs.lemmas.Bool.{eqb-true}
use Rattle.std.specs.List.{list_any}
use Rattle.std.proofs.lemmas.List.Folds.{list_any-append}
use Rattle.books.specs.Rights.{SessionClaim}
use Rattle.wal_record.specs.Chains.{finishes, last}
use Rattle.wal_record.specs.History.{log_of, life_log, Phase, Live, phase, is_live, live_count, Beginning, beginnings, is_owner}
use Rattle.wal_record.specs.OpenWrites.{has_items}
use Rattle.wal_record.specs.Rules.{HasSpelling}
use Rattle.wal_record.specs.Sound.{AreLawful}
use Rattle.wal_record.specs.declared.record.Record.{Record}
use Rattle.wal_record.specs.declared.record.Record.TheVariants as kinds
use Rattle.wal_record.specs.declared.entry.Entry.{Entry}
use Rattle.wal_record.proofs.Pushes.{log_more, untold_push}
use Rattle.log_laws.proofs.Phases.{live_law}
use Rattle.log_laws.proofs.Serial.{owner_new}
use Rattle.life_laws.proofs.CalmLog.{lsn_is, number_is}
use Rattle.life_laws.proofs.Reopening.{unnamed}
use Rattle.claim_laws.specs.Entering.{IsAtRest}
use Rattle.claim_laws.specs.Suiting.{Suits}
use Rattle.claim_laws.proofs.Entering.{groups_law}
use Rattle.claim_laws.proofs.Sessions.{session_law}
use Rattle.asking_laws.proofs.Moments.{opened_lawful, at_rest}
use Rattle.page_ops.specs.Claims.{SessionAgrees}
use Rattle.page_ops.specs.Seeing.{IsConsistent}
use Rattle.life_history.specs.Kept.{commit_entry}
use Rattle.life_history.proofs.Keeping.{not_empty}
use Rattle.log_index.specs.GoingOn.{may_go_on}
use Rattle.journal.proofs.GoingOn.{live_goes_on}

some_items : {A : Type 0} (xs : List A) → xs ≢ [] → has_items xs ≡ true
some_items [] some = absurd (some refl)
some_items (x ∷ xs) some = refl

or_none : (a b : Bool) → a ≡ false → b ≡ false → (a || b) ≡ false
or_none false b p q = q
or_none true b p q = absurd (cc p)

abbrev commit_of : ℕ → ℕ → Record
commit_of tx prev = kinds.Commit (record { tx = tx; prev = prev })

pub commit_spelled : (tx prev : ℕ) → 0 < tx → tx ≤ 2 ^ 62 → prev < 2 ^ 63 → HasSpelling (commit_of tx prev)
commit_spelled tx prev some small low = record { tx = number_is tx some (omega (arith, small)); prev = lsn_is prev low }

-- a session's transaction is its own
pub its_own : (h : List Entry) (s : SessionClaim) → SessionAgrees h s → 0 < s.tx → is_owner h s.session s.tx ≡ true
its_own h s agrees some = (session_law [] h [] s.session).owner s.tx (λ none. absurd (omega (arith, some, none))) (sym agrees.tx)

module _ (opens : List Record → Type 0) (h : List Entry) (c : IsConsistent opens h) (s : SessionClaim) (agrees : SessionAgrees h s) (some : 0 < s.tx) (live : phase h s.tx ≡ Live) where
  pub goes_on : (opening : List Record) → opens opening → may_go_on opening s.tx ≡ true
  goes_on opening stands = live_goes_on opening h (opened_lawful opens opening stands h c) (c.legal opening stands) s.tx live

  -- it isn't over
  pub unfinished : (opening : List Record) → opens opening → list_any (finishes s.tx) (life_log opening h) ≡ false
  unfinished opening stands =
      let above = owner_new opening h (c.legal opening stands) s.session s.tx (its_own h s agrees some) in
      list_any-append (finishes s.tx) opening (log_of h)
      ∙ or_none _ _ (unnamed s.tx opening above).unfinished ((live_law opening h).live (opened_lawful opens opening stands h c) (c.legal opening stands) s.tx live).1

  module _ (lsn prev : ℕ) (spelled : HasSpelling (commit_of s.tx prev)) (chain : (opening : List Record) → opens opening → prev ≡ last (life_log opening h) s.tx) (place : (opening : List Record) → opens opening → lsn ≡ length (life_log opening h) + 1) where
    suits : (opening : List Record) → opens opening → Suits opening h (commit_of s.tx prev)
    suits opening stands = record {
      lawful = record {
        first = ap not (sym (some_items (life_log opening h) (c.some opening stands)));
        fields = spelled;
        chain = (chain opening stands, unfinished opening stands);
        heads = tt;
        applicable = λ p named. absurd (cc named);
        place = tt;
        value = tt;
        upkeep = tt;
      };
      rule = live;
    }

    rests : (opening : List Record) (stands : opens opening) → IsAtRest opening (h ++ commit_entry lsn s.tx prev ∷ [])
    rests opening stands =
        let room = (c.sound opening stands).room (c.some opening stands) in
        subst (λ (n : ℕ). IsAtRest opening (h ++ commit_entry n s.tx prev ∷ [])) (sym (place opening stands))
        ((groups_law opening h).alone (opened_lawful opens opening stands h c) (at_rest opens opening stands h c) (commit_of s.tx prev) (suits opening stands) (omega (arith, room)) refl refl)

    pub commit_lawful : (opening : List Record) → opens opening → AreLawful (life_log opening h ++ commit_of s.tx prev ∷ [])
    commit_lawful opening stands = subst AreLawful (log_more opening h lsn (commit_of s.tx prev)) (rests opening stands).sound.lawful

    pub commit_consistent : IsConsistent opens (h ++ commit_entry lsn s.tx prev ∷ [])
    commit_consistent = record {
      legal = λ opening stands. (rests opening stands).legal;
      sound = λ opening stands. (rests opening stands).sound;
      some = λ opening stands is. not_empty (life_log opening h) (commit_of s.tx prev) (sym (log_more opening h lsn (commit_of s.tx prev)) ∙ is);
      told = untold_push h (commit_entry lsn s.tx prev);
      split = λ opening stands. (rests opening stands).split;
    }

-- ---- a live transaction is counted

counted_in : (phases : ℕ → Phase) (session t : ℕ) (bs : List Beginning) → list_any (λ (b : Beginning). eqb b.session session && eqb b.tx t) bs ≡ true → is_live (phases t) ≡ true → 1 ≤ length (filter (λ (b : Beginning). is_live (phases b.tx)) bs)
counted_in phases session t [] own live = absurd (cc own)
counted_in phases session t (b ∷ bs) own live = by (eqb b.session session) (eqb b.tx t) refl own (λ o. counted_in phases session t bs o live)
  where
    rest : List Beginning
    rest = filter (λ (x : Beginning). is_live (phases x.tx)) bs

    longer : (c : Bool) → 1 ≤ length rest → 1 ≤ length (cond c (b ∷ rest) rest)
    longer true some = omega arith
    longer false some = some

    by : (p q : Bool) → eqb b.tx t ≡ q → ((p && q) || list_any (λ (x : Beginning). eqb x.session session && eqb x.tx t) bs) ≡ true
        → (list_any (λ (x : Beginning). eqb x.session session && eqb x.tx t) bs ≡ true → 1 ≤ length rest) → 1 ≤ length (cond (is_live (phases b.tx)) (b ∷ rest) rest)
    by true true e o more =
        let here : is_live (phases b.tx) ≡ true = ap (λ x. is_live (phases x)) (eqb-true b.tx t e) ∙ live in
        subst (λ (c : Bool). 1 ≤ length (cond c (b ∷ rest) rest)) (sym here) (omega arith)
    by true false e o more = longer (is_live (phases b.tx)) (more o)
    by false q e o more = longer (is_live (phases b.tx)) (more o)

pub one_live : (h : List Entry) (s : SessionClaim) → SessionAgrees h s → 0 < s.tx → phase h s.tx ≡ Live → 1 ≤ live_count h
one_live h s agrees some live = counted_in (phase h) s.session s.tx (beginnings h) (its_own h s agrees some) (ap is_live live)
