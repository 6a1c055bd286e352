-- Whether a record may be entered.
use Rattle.std.proofs.Common.{◌≡◌, ℕ, eqb, cond, List, [], ◌∷◌, Option, Some, None, Bool, true, false, refl, sym, ap, subst, ◌∙◌}
use Rattle.std.specs.Prelude.{◌↔◌, ◌||◌, is_some, unwrap_or, IsTrue}
use Rattle.std.specs.List.{find, list_any}
use Rattle.std.proofs.lemmas.Bool.{eqb-true}
use Rattle.wal_record.specs.History.{Live, life_log, phase}
use Rattle.wal_record.specs.Legal.{EntryRule, FollowsSplit, IsAllowed, IsLegal, NeedsSplit, if_leaf, leaf_only, split_leaf, split_step}
use Rattle.wal_record.specs.Locks.{covers_write, locks, taken_locks}
use Rattle.wal_record.specs.OpenWrites.{is_loser, losers}
use Rattle.wal_record.specs.Sound.{AreLawful, IsLawful}
use Rattle.wal_record.specs.declared.analysis.Loser.{Loser}
use Rattle.wal_record.specs.Images.{image}
use Rattle.wal_record.specs.State.{leaf_rows}
use Rattle.wal_record.specs.declared.page.PageState.{PageState}
use Rattle.wal_record.specs.declared.page.Rows.{Rows}
use Rattle.wal_record.specs.declared.page.Rows.TheVariants.{Leaf, Branch}
use Rattle.wal_record.specs.declared.record.Record.TheVariants as kinds
use Rattle.wal_record.proofs.Along.{by_pushes}
use Rattle.wal_record.proofs.Pushes.{split_leaf_push}
use Rattle.store_model.specs.Along.{along}
use Rattle.page_judge.specs.Splitting.{IsLeafState}
use Rattle.page_judge.specs.declared.changed.Changed.{Changed}
use Rattle.record_judge.specs.Judging.{IsVerdict}
use Rattle.wal_record.specs.declared.entry.Entry.{Entry}
use Rattle.wal_record.specs.declared.entry.Entry.TheVariants.{Rec}
use Rattle.wal_record.specs.declared.record.Record.{Record}
use Rattle.wal_record.specs.declared.record.Split.{Split}
use Rattle.log_laws.proofs.Central.{eqb_self}
use Rattle.judge_laws.proofs.Owners.{own}
use Rattle.loser_laws.proofs.Least.{least}
use Rattle.store_model.proofs.Bools.{false_unless, not_both}
use Rattle.history_core.specs.Judging.{IsVerdictOn, MayComeNext, is_among, is_record, is_split, txs_of}

among_txs : (t : ℕ) (xs : List Loser) → list_any (is_among t) xs ≡ list_any (λ n. eqb n t) (txs_of xs)
among_txs t [] = refl
among_txs t (x ∷ xs) = ap (λ (b : Bool). eqb x.tx t || b) (among_txs t xs)

any_found : (p : ℕ → Bool) (xs : List ℕ) → list_any p xs ≡ is_some (find p xs)
any_found p [] = refl
any_found p (x ∷ xs) = by (p x) (any_found p xs)
  where
    by : (b : Bool) → list_any p xs ≡ is_some (find p xs) → (b || list_any p xs) ≡ is_some (cond b (Some x) (find p xs))
    by true more = refl
    by false more = more

pub was_exact : (opening : List Record) → AreLawful opening → (t : ℕ) (xs : List Loser) → txs_of xs ≡ losers opening → list_any (is_among t) xs ≡ is_loser opening t
was_exact opening sound t xs same =
    among_txs t xs ∙ ap (list_any (λ n. eqb n t)) same ∙ any_found (λ n. eqb n t) (losers opening) ∙ by (find (λ n. eqb n t) (losers opening)) refl
  where
    by : (o : Option ℕ) → find (λ n. eqb n t) (losers opening) ≡ o → is_some o ≡ is_loser opening t
    by None none = sym (false_unless (is_loser opening t) (λ is. not_both (eqb t t) (eqb_self t) ((least opening (λ n. eqb n t)).none sound none t is)))
    by (Some u) some =
        let found = (least opening (λ n. eqb n t)).some u some in
        sym (ap (is_loser opening) (sym (eqb-true u t found.1)) ∙ found.0)

pub write_exact : (opening : List Record) (h : List Entry) → AreLawful opening → IsLegal opening h → (tx : ℕ) (key : List ℕ) → phase h tx ≡ Live → (b : Bool) → b ≡ list_any (covers_write key) (taken_locks h tx)
    → IsTrue b ↔ ((phase h tx ≡ Live) × IsTrue (list_any (covers_write key) (locks opening h tx)))
write_exact opening h sound legal tx key live b is =
    let same = ap (list_any (covers_write key)) ((own opening h).live sound legal tx live) in
    (λ t. (live, same ∙ sym is ∙ t), λ p. is ∙ sym same ∙ p.1)

-- ---- records of every kind

pub allowed_by : (opening : List Record) (h : List Entry) (lsn : ℕ) (r : Record) → MayComeNext opening h lsn r → IsLawful (life_log opening h) r → IsAllowed opening h (Rec lsn r)
allowed_by opening h lsn r m lawful = record { split = m.split; rule = record { told = m.told; place = m.place; lawful = lawful; rule = m.rule } }

pub next_of : (opening : List Record) (h : List Entry) (lsn : ℕ) (r : Record) → IsAllowed opening h (Rec lsn r) → MayComeNext opening h lsn r
next_of opening h lsn r ok = record { told = ok.rule.told; place = ok.rule.place; split = ok.split; rule = ok.rule.rule }

-- the leaf that was split last is one
leaf_is : (rows : Rows) (s : PageState) (t : PageState) → rows ≡ s.rows → leaf_only rows s ≡ Some t → IsLeafState t
leaf_is (Leaf rows) s t same e = (let is : s ≡ t = some_is s t e in subst IsLeafState is (sym same ∙ ap (λ (r : Rows). Leaf (leaf_rows r)) same))
  where
    some_is : (a b : PageState) → Some a ≡ Some b → a ≡ b
    some_is a b e = ap (λ (o : Option PageState). unwrap_or o a) e
leaf_is (Branch rows) s t same e = absurd (cc e)

if_leaf_is : (o : Option PageState) (t : PageState) → if_leaf o ≡ Some t → IsLeafState t
if_leaf_is None t e = absurd (cc e)
if_leaf_is (Some s) t e = leaf_is s.rows s t refl e

step_leaf : (log : List Record) (e : Entry) (t : PageState) → split_step log e ≡ Some t → IsLeafState t
step_leaf log (Rec lsn (kinds.Split x)) t is = if_leaf_is (image log x.page) t is
step_leaf log e t is = absurd (cc is)

no_split_yet : (opening : List Record) (t : PageState) → split_leaf opening [] ≡ Some t → IsLeafState t
unfolding split_leaf along
no_split_yet opening t is = absurd (cc is)

pub split_is_leaf : (opening : List Record) (h : List Entry) (t : PageState) → split_leaf opening h ≡ Some t → IsLeafState t
split_is_leaf opening h t = by_pushes (λ (es : List Entry). split_leaf opening es ≡ Some t → IsLeafState t) (no_split_yet opening t) (λ es e before is. step_leaf (life_log opening es) e t (sym (split_leaf_push opening es e) ∙ is)) h

pub follows_some : (opening : List Record) (h : List Entry) (lsn : ℕ) (r : Record) (s : PageState) (b : Bool) → Some s ≡ split_leaf opening h → (IsLeafState s → IsTrue b ↔ NeedsSplit s r) → IsTrue b ↔ FollowsSplit (split_leaf opening h) (Rec lsn r)
follows_some opening h lsn r s b is e = subst (λ (o : Option PageState). IsTrue b ↔ FollowsSplit o (Rec lsn r)) is (e (split_is_leaf opening h s (sym is)))

pub follows_none : (opening : List Record) (h : List Entry) (lsn : ℕ) (r : Record) → None ≡ split_leaf opening h → IsTrue true ↔ FollowsSplit (split_leaf opening h) (Rec lsn r)
follows_none opening h lsn r is = subst (λ (o : Option PageState). IsTrue true ↔ FollowsSplit o (Rec lsn r)) is (λ t. tt, λ u. refl)

-- ---- entries that are no records

follows_not : (s : PageState) (e : Entry) → is_record e ≡ false → FollowsSplit (Some s) e → ⊥
follows_not s (Rec lsn r) other f = absurd (cc other)
follows_not s e other f = f

pub quiet_exact : (opening : List Record) (h : List Entry) (e : Entry) → split_leaf opening h ≡ None → EntryRule opening h e ↔ IsAllowed opening h e
quiet_exact opening h e none = (λ rule. record { split = subst (λ (o : Option PageState). FollowsSplit o e) (sym none) tt; rule = rule }, λ ok. ok.rule)

pub quiet_not : (opening : List Record) (h : List Entry) (e : Entry) → is_record e ≡ false → (split_leaf opening h ≡ None → ⊥) → IsAllowed opening h e → ⊥
quiet_not opening h e other some ok = by (split_leaf opening h) refl ok.split
  where
    by : (o : Option PageState) → split_leaf opening h ≡ o → FollowsSplit o e → ⊥
    by None is f = some is
    by (Some s) is f = follows_not s e other f

-- ---- verdicts

pub verdict_on : (opening : List Record) (h : List Entry) (lsn : ℕ) (r : Record) (found : Option Changed) → MayComeNext opening h lsn r → IsVerdict (life_log opening h) r found → IsVerdictOn opening h lsn r found
verdict_on opening h lsn r None m v = λ ok. v ok.rule.lawful
verdict_on opening h lsn r (Some x) m v = (allowed_by opening h lsn r m v.0, v.1)

pub not_split : (r : Record) → ((x : Split) → r ≡ kinds.Split x → ⊥) → is_split r ≡ false
not_split (kinds.Split x) other = absurd (other x refl)
not_split r other = refl

pub not_record : (e : Entry) → ((lsn : ℕ) (r : Record) → e ≡ Rec lsn r → ⊥) → is_record e ≡ false
not_record (Rec lsn r) other = absurd (other lsn r refl)
not_record e other = refl
