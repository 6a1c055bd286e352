-- Beginnings of logs and histories.
use Rattle.std.proofs.Common.{◌≡◌, ℕ, Bool, true, false, cond, eqb, List, [], ◌∷◌, ◌++◌, None, Some, refl, sym, ap, subst, ◌∙◌, arith, append_assoc, inl, inr}
use Rattle.std.specs.Prelude.{◌≤◌, ◌+◌, length, Contains}
use Rattle.std.proofs.lemmas.List.{append-nil, length-append}
use Rattle.std.proofs.lemmas.List.Elements.{filter-append, Contains-append_left, Contains-append_right, Contains-append_cases}
use Rattle.store_model.specs.Along.{along}
use Rattle.wal_record.specs.Chains.{names, head, Link, is_link_of, link_of}
use Rattle.wal_record.specs.OpenWrites.{open_writes, open_step, without_last}
use Rattle.wal_record.specs.Contents.{after, current, committed_contents, committed_step}
use Rattle.wal_record.specs.Sound.{IsLawful}
use Rattle.wal_record.specs.Legal.{IsAllowed}
use Rattle.wal_record.specs.declared.record.Record.{Record}
use Rattle.wal_record.specs.declared.record.Record.TheVariants as kinds
use Rattle.wal_record.specs.declared.entry.Entry.{Entry}
use Rattle.wal_record.proofs.Along.{AllAlong_less, by_pushes}
use Rattle.wal_record.proofs.Pushes.{current_push, head_push, open_push, committed_push}
use Rattle.log_laws.specs.Beginnings.{records_of, is_commit, BeginningLaw, BeginningOfHistoryLaw, OwnWritesLaw, CommitsLaw, StructureLaw}

-- ---- page heads

no_heads : (p : ℕ) → head [] p ≡ 0
unfolding head along
no_heads p = refl

head_step : (n h : ℕ) (b : Bool) → h ≤ n → (cond b (n + 1) h ≤ n + 1) × (h ≤ cond b (n + 1) h)
head_step n h true e = (omega arith, omega (arith, e))
head_step n h false e = (omega (arith, e), omega arith)

head_in : (p : ℕ) (log : List Record) → head log p ≤ length log
head_in p = by_pushes (λ (log : List Record). head log p ≤ length log) (let e = no_heads p in omega (arith, e)) (λ log r before.
    let step = (head_step (length log) (head log p) (names p r) before).0 in
    let n : length (log ++ r ∷ []) ≡ length log + 1 = length-append log (r ∷ []) in
    let e = head_push log r p in
    omega (arith, step, n, e))

heads_rise : (log : List Record) (p : ℕ) (rest : List Record) → head log p ≤ head (log ++ rest) p
heads_rise log p = by_pushes (λ (rest : List Record). head log p ≤ head (log ++ rest) p)
    (let e : head (log ++ []) p ≡ head log p = ap (λ (l : List Record). head l p) (append-nil log) in omega (arith, e))
    (λ rest r before.
    let step = (head_step (length (log ++ rest)) (head (log ++ rest) p) (names p r) (head_in p (log ++ rest))).1 in
    let e : head (log ++ (rest ++ r ∷ [])) p ≡ cond (names p r) (length (log ++ rest) + 1) (head (log ++ rest) p) =
    ap (λ (l : List Record). head l p) (sym (append_assoc log rest (r ∷ []))) ∙ head_push (log ++ rest) r p in
    omega (arith, step, e, before))

pub beginning : (log rest : List Record) → BeginningLaw log rest
beginning log rest = record {
  lawful = AllAlong_less IsLawful log rest;
  sound = λ sound room. record { lawful = AllAlong_less IsLawful log rest sound.lawful; room = room };
  heads = λ p. heads_rise log p rest;
}

pub history_beginning : (opening : List Record) (h rest : List Entry) → BeginningOfHistoryLaw opening h rest
history_beginning opening h rest = record { legal = AllAlong_less (IsAllowed opening) h rest }

pub commits_only : (log : List Record) (r : Record) → CommitsLaw log r
commits_only log r = record { same = λ e. committed_push log r ∙ none r e }
  where
    none : (r : Record) → is_commit r ≡ false → committed_step log (committed_contents log) r ≡ committed_contents log
    none (kinds.Commit c) e = absurd cc
    none r e = refl

-- ---- whose open writes they are

front : (ws : List Record) → (rest : List Record) × (ws ≡ without_last ws ++ rest)
front [] = ([], refl)
front (x ∷ []) = (x ∷ [], refl)
front (x ∷ y ∷ ys) = let f = front (y ∷ ys) in (f.0, ap (λ (zs : List Record). x ∷ zs) f.1)

-- every member of the first list is one of the second
abbrev AreAmong : List Record → List Record → Type 0
AreAmong ws rs = (w : Record) → Contains ws w → Contains rs w

none_among : (rs : List Record) → AreAmong [] rs
none_among rs w c = let k = c.1 in absurd (omega (arith, k))

module _ (ws rs : List Record) (among : AreAmong ws rs) where
  item_among : (r : Record) (b : Bool) → AreAmong (cond b (ws ++ r ∷ []) ws) (rs ++ cond b (r ∷ []) [])
  item_among r false w c = Contains-append_left rs [] w (among w c)
  item_among r true w c = elim (Contains-append_cases ws (r ∷ []) w c) [ inl d ↦ Contains-append_left rs (r ∷ []) w (among w d) | inr d ↦ Contains-append_right rs (r ∷ []) w d ]

  fewer_among : (more : List Record) (b : Bool) → AreAmong (cond b (without_last ws) ws) (rs ++ more)
  fewer_among more false w c = Contains-append_left rs more w (among w c)
  fewer_among more true w c =
      let f = front ws in
      Contains-append_left rs more w (among w (subst (λ (xs : List Record). Contains xs w) (sym f.1) (Contains-append_left (without_last ws) f.0 w c)))

  gone_among : (more : List Record) (b : Bool) → AreAmong (cond b [] ws) (rs ++ more)
  gone_among more false w c = Contains-append_left rs more w (among w c)
  gone_among more true w c = none_among (rs ++ more) w c

  step_among : (t : ℕ) (r : Record) → AreAmong (open_step t r ws r) (rs ++ records_of t (r ∷ []))
  step_among t (kinds.Write x) = item_among (kinds.Write x) (eqb x.tx t)
  step_among t (kinds.Apply x) = item_among (kinds.Apply x) (eqb x.tx t)
  step_among t (kinds.Undo u) = fewer_among _ (eqb u.tx t)
  step_among t (kinds.Commit c) = gone_among _ (eqb c.tx t)
  step_among t (kinds.End e) = gone_among _ (eqb e.tx t)
  step_among t r = λ w c. Contains-append_left rs _ w (among w c)

nothing_open : (t : ℕ) → open_writes [] t ≡ []
unfolding open_writes along
nothing_open t = refl

among_records : (t : ℕ) (log : List Record) → AreAmong (open_writes log t) (records_of t log)
among_records t = by_pushes (λ (log : List Record). AreAmong (open_writes log t) (records_of t log))
    (λ w c. none_among [] w (subst (λ (ws : List Record). Contains ws w) (nothing_open t) c))
    (λ log r before w c.
    subst (λ (rs : List Record). Contains rs w) (sym (filter-append (λ x. is_link_of t (link_of x)) log (r ∷ [])))
    (step_among (open_writes log t) (records_of t log) before t r w (subst (λ (ws : List Record). Contains ws w) (open_push log r t) c)))

pub own_writes : (log : List Record) (t : ℕ) → OwnWritesLaw log t
own_writes log t = record { among = among_records t log }

-- ---- records of no transaction

pub structure : (log : List Record) (r : Record) → StructureLaw log r
structure log r = record { current = λ e. current_push log r ∙ same r e; committed = λ e. committed_push log r ∙ kept r e; open_writes = λ e t. open_push log r t ∙ still r e t }
  where
    is_none : (l : Link) → Some l ≡ None → ⊥
    is_none l e = cc

    same : (r : Record) → link_of r ≡ None → after (current log) r ≡ current log
    same (kinds.Write w) e = absurd (is_none _ e)
    same (kinds.Apply a) e = absurd (is_none _ e)
    same (kinds.Undo u) e = absurd (is_none _ e)
    same r e = refl

    kept : (r : Record) → link_of r ≡ None → committed_step log (committed_contents log) r ≡ committed_contents log
    kept (kinds.Commit c) e = absurd (is_none _ e)
    kept r e = refl

    still : (r : Record) → link_of r ≡ None → (t : ℕ) → open_step t r (open_writes log t) r ≡ open_writes log t
    still (kinds.Write w) e t = absurd (is_none _ e)
    still (kinds.Apply a) e t = absurd (is_none _ e)
    still (kinds.Undo u) e t = absurd (is_none _ e)
    still (kinds.Commit c) e t = absurd (is_none _ e)
    still (kinds.End x) e t = absurd (is_none _ e)
    still r e t = refl
