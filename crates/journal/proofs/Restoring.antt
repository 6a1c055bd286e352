-- Where a segment was restored last, as entries come.
use Rattle.std.proofs.Common.{◌≡◌, ℕ, zero, suc, cond, eqb, ◌+◌, ◌<◌, ◌≤◌, List, [], ◌∷◌, ◌++◌, length, take, Option, Some, None, Bool, true, false, refl, sym, ap, ◌∙◌, subst, arith, append_assoc, append-nil, length-append, slice_index_or}
use Rattle.std.specs.Prelude.{IfNone, IfSome, Result, Ok, Err, is_some}
use Rattle.std.specs.Option.{option_map_or}
use Rattle.std.specs.Ordering.{nat_cmp}
use Rattle.std.specs.BTreeMap.{get, is_at}
use Rattle.std.specs.Map.{lookup}
use Rattle.page_ops.specs.Outcomes.{begun}
use Rattle.store_model.specs.declared.fault.Fault.{Fault}
use Rattle.page_ops.specs.Asking.{last_place}
use Rattle.page_ops.specs.Groups.{Each, group_entries, record_entries, said_entries}
use Rattle.page_ops.specs.declared.group.Said.{Said}
use Rattle.wal_record.specs.declared.record.Record.{Record}
use Rattle.wal_record.specs.declared.record.Record.TheVariants as kinds
use Rattle.wal_record.specs.declared.entry.Entry.{Entry}
use Rattle.wal_record.specs.declared.entry.Entry.TheVariants as entries
use Rattle.store_model.specs.Along.{along}
use Rattle.loser_laws.proofs.Tables.{place_push}
use Rattle.journal.specs.Restored.{AreRestored, HasRoomAt, HasRoomIn, Places, place_in, restored_in, restores}

-- the entry restores no segment
abbrev pub RestoresNone : Entry → Type 0
RestoresNone e = (s : ℕ) → restores s e ≡ false

pub restored_entry : (h h' : List Entry) (x : Places) (e : Entry) → AreRestored h x → h' ≡ h ++ e ∷ [] → RestoresNone e → AreRestored h' x
restored_entry h h' x e k now none s = k s ∙ sym (ap (last_place (restores s)) now ∙ place_push (restores s) h e ∙ ap (λ (b : Bool). cond b (suc (length h)) (last_place (restores s) h)) (none s))

pub restored_same : (h h' : List Entry) (x : Places) → AreRestored h x → h' ≡ h → AreRestored h' x
restored_same h h' x k now = subst (λ (l : List Entry). AreRestored l x) (sym now) k

restores_is : (s lsn : ℕ) (q : Record) → restores s (entries.Rec lsn q) ≡ option_map_or (λ (n : ℕ). eqb n s) (restored_in q) false
restores_is s lsn (kinds.Restored r) = refl
restores_is s lsn _ = refl

rec_push : (h : List Entry) (s lsn : ℕ) (q : Record) → last_place (restores s) (h ++ entries.Rec lsn q ∷ []) ≡ cond (option_map_or (λ (n : ℕ). eqb n s) (restored_in q) false) (suc (length h)) (last_place (restores s) h)
rec_push h s lsn q = place_push (restores s) h (entries.Rec lsn q) ∙ ap (λ (b : Bool). cond b (suc (length h)) (last_place (restores s) h)) (restores_is s lsn q)

-- a record that restores this segment
pub restored_here : (h : List Entry) (x x' : Places) (lsn place segment : ℕ) (q : Record) → AreRestored h x → place ≡ suc (length h) → Some segment ≡ restored_in q → ((s : ℕ) → place_in x' s ≡ cond (eqb segment s) place (place_in x s)) → AreRestored (h ++ entries.Rec lsn q ∷ []) x'
restored_here h x x' lsn place segment q k at is set s =
    set s ∙ (λ i. cond (eqb segment s) (at i) (k s i)) ∙ sym (rec_push h s lsn q ∙ ap (λ (o : Option ℕ). cond (option_map_or (λ (n : ℕ). eqb n s) o false) (suc (length h)) (last_place (restores s) h)) (sym is))

-- one that restores none
pub restored_not : (h : List Entry) (x : Places) (lsn : ℕ) (q : Record) → AreRestored h x → None ≡ restored_in q → AreRestored (h ++ entries.Rec lsn q ∷ []) x
restored_not h x lsn q k is s = k s ∙ sym (rec_push h s lsn q ∙ ap (λ (o : Option ℕ). cond (option_map_or (λ (n : ℕ). eqb n s) o false) (suc (length h)) (last_place (restores s) h)) (sym is))

pub room_kept : (x x' : Places) → ((s : ℕ) → is_some (get nat_cmp x s) ≡ true → is_some (get nat_cmp x' s) ≡ true) → (r : Record) → HasRoomIn x r → HasRoomIn x' r
room_kept x x' kept r room = by (restored_in r) room
  where
    by : (o : Option ℕ) → HasRoomAt x o → HasRoomAt x' o
    by None room = tt
    by (Some s) room = kept s room

said_restores : (h : List Entry) (x : Places) (said : Option Said) → AreRestored h x → AreRestored (h ++ said_entries said) x
said_restores h x None k = subst (λ (l : List Entry). AreRestored l x) (sym (append-nil h)) k
said_restores h x (Some a) k = restored_entry h (h ++ entries.Said a.session a.tx a.request a.reply ∷ []) x (entries.Said a.session a.tx a.request a.reply) k refl (λ s. refl)

-- ---- groups

record_counts : (lsn i : ℕ) (rs : List Record) → i ≤ length rs → length (record_entries lsn (take i rs)) ≡ i
record_counts lsn zero [] le = refl
record_counts lsn (suc i) [] le = absurd (omega (arith, le))
record_counts lsn zero (r ∷ rs) le = refl
record_counts lsn (suc i) (r ∷ rs) le = ap (λ (n : ℕ). suc n) (record_counts (suc lsn) i rs (omega (arith, le)))

records_more : (lsn i : ℕ) (rs : List Record) (d : Record) → i < length rs → record_entries lsn (take (suc i) rs) ≡ record_entries lsn (take i rs) ++ entries.Rec (lsn + i) (slice_index_or rs i d) ∷ []
records_more lsn i [] d lt = absurd (omega (arith, lt))
records_more lsn zero (r ∷ []) d lt = ap (λ (n : ℕ). entries.Rec n r ∷ []) (plus_zero lsn)
  where
    plus_zero : (n : ℕ) → n ≡ n + 0
    plus_zero n = omega arith
records_more lsn zero (r ∷ q ∷ rs) d lt = ap (λ (n : ℕ). entries.Rec n r ∷ []) (plus_zero lsn)
  where
    plus_zero : (n : ℕ) → n ≡ n + 0
    plus_zero n = omega arith
records_more lsn (suc i) (r ∷ rs) d lt =
    ap (λ (es : List Entry). entries.Rec lsn r ∷ es) (records_more (suc lsn) i rs d (omega (arith, lt)) ∙ ap (λ (n : ℕ). record_entries (suc lsn) (take i rs) ++ entries.Rec n (slice_index_or rs i d) ∷ []) (plus_suc lsn i))
  where
    plus_suc : (n m : ℕ) → suc n + m ≡ n + suc m
    plus_suc n m = omega arith

pub none_noted : (h : List Entry) (x : Places) (lsn : ℕ) (rs : List Record) → AreRestored h x → AreRestored (h ++ record_entries lsn (take 0 rs)) x
none_noted h x lsn [] k = restored_same h (h ++ []) x k (append-nil h)
none_noted h x lsn (r ∷ rs) k = restored_same h (h ++ []) x k (append-nil h)

pub one_noted : (h : List Entry) (x x' : Places) (lsn place i m : ℕ) (rs : List Record) (d : Record) → AreRestored (h ++ record_entries lsn (take i rs)) x → place ≡ suc (length h + i) → i < length rs → m ≡ suc i
    → ((g : List Entry) (n : ℕ) → AreRestored g x → place ≡ suc (length g) → AreRestored (g ++ entries.Rec n (slice_index_or rs i d) ∷ []) x') → AreRestored (h ++ record_entries lsn (take m rs)) x'
one_noted h x x' lsn place i m rs d k at lt next more =
    let g = h ++ record_entries lsn (take i rs) in
    let long : length g ≡ length h + i = length-append h (record_entries lsn (take i rs)) ∙ ap (λ (n : ℕ). length h + n) (record_counts lsn i rs (omega (arith, lt))) in
    restored_same (g ++ entries.Rec (lsn + i) (slice_index_or rs i d) ∷ []) (h ++ record_entries lsn (take m rs)) x' (more g (lsn + i) k (at ∙ ap (λ (n : ℕ). suc n) (sym long)))
    (ap (λ (k : ℕ). h ++ record_entries lsn (take k rs)) next ∙ ap (λ (es : List Entry). h ++ es) (records_more lsn i rs d lt) ∙ sym (append_assoc h (record_entries lsn (take i rs)) (entries.Rec (lsn + i) (slice_index_or rs i d) ∷ [])))

pub taken_all : {A : Type 0} (i : ℕ) (rs : List A) → length rs ≤ i → take i rs ≡ rs
taken_all zero [] le = refl
taken_all (suc i) [] le = refl
taken_all zero (r ∷ rs) le = absurd (omega (arith, le))
taken_all (suc i) (r ∷ rs) le = ap (λ (l : List _). r ∷ l) (taken_all i rs (omega (arith, le)))

pub all_noted : (h : List Entry) (x : Places) (lsn i : ℕ) (rs : List Record) (said : Option Said) → AreRestored (h ++ record_entries lsn (take i rs)) x → length rs ≤ i → AreRestored (h ++ group_entries lsn rs said) x
all_noted h x lsn i rs said k le =
    restored_same ((h ++ record_entries lsn rs) ++ said_entries said) (h ++ group_entries lsn rs said) x
    (said_restores (h ++ record_entries lsn rs) x said (subst (λ (l : List Record). AreRestored (h ++ record_entries lsn l) x) (taken_all i rs le) k))
    (sym (append_assoc h (record_entries lsn rs) (said_entries said)))

pub each_more : {A : Type 0} (P : A → Type 0) (i : ℕ) (xs : List A) (d : A) → Each P (take i xs) → i < length xs → P (slice_index_or xs i d) → Each P (take (suc i) xs)
each_more P i [] d before lt one = absurd (omega (arith, lt))
each_more P zero (x ∷ []) d before lt one = (one, tt)
each_more P zero (x ∷ y ∷ xs) d before lt one = (one, tt)
each_more P (suc i) (x ∷ xs) d before lt one = (before.0, each_more P i xs d before.1 (omega (arith, lt)) one)

pub each_all : {A : Type 0} (P : A → Type 0) (i : ℕ) (xs : List A) → Each P (take i xs) → length xs ≤ i → Each P xs
each_all P i [] before le = tt
each_all P zero (x ∷ xs) before le = absurd (omega (arith, le))
each_all P (suc i) (x ∷ xs) before le = (before.0, each_all P i xs before.1 (omega (arith, le)))

pub each_none : {A : Type 0} (P : A → Type 0) (xs : List A) → Each P (take 0 xs)
each_none P [] = tt
each_none P (x ∷ xs) = tt

pub each_at : {A : Type 0} (P : A → Type 0) (i : ℕ) (xs : List A) (d : A) → i < length xs → Each P xs → P (slice_index_or xs i d)
each_at P i [] d lt e = absurd (omega (arith, lt))
each_at P zero (x ∷ xs) d lt e = e.0
each_at P (suc i) (x ∷ xs) d lt e = each_at P i xs d (omega (arith, lt)) e.1

pub each_kept : {A : Type 0} (P Q : A → Type 0) (xs : List A) → ((x : A) → P x → Q x) → Each P xs → Each Q xs
each_kept P Q [] f e = tt
each_kept P Q (x ∷ xs) f e = (f x e.0, each_kept P Q xs f e.1)

pub room_more : (x x' : Places) (i m : ℕ) (rs : List Record) (d : Record) → Each (HasRoomIn x) (take i rs) → ((r : Record) → HasRoomIn x r → HasRoomIn x' r) → m ≡ suc i → i < length rs → HasRoomIn x' (slice_index_or rs i d) → Each (HasRoomIn x') (take m rs)
room_more x x' i m rs d before kept next lt one =
    subst (λ (k : ℕ). Each (HasRoomIn x') (take k rs)) (sym next) (each_more (HasRoomIn x') i rs d (each_kept (HasRoomIn x) (HasRoomIn x') (take i rs) kept before) lt one)

-- ---- where nothing is restored

pub restored_kept : (h : List Entry) (x x' : Places) → AreRestored h x → ((s : ℕ) → place_in x' s ≡ place_in x s) → AreRestored h x'
restored_kept h x x' k same s = same s ∙ k s

pub restored_begun : (h h' : List Entry) (x : Places) (session : ℕ) (result : Result ℕ Fault) → AreRestored h x → h' ≡ h ++ begun session result → AreRestored h' x
restored_begun h h' x session (Ok tx) k now = restored_entry h h' x (entries.Began session tx) k now (λ s. refl)
restored_begun h h' x session (Err fault) k now = restored_same h h' x k (now ∙ append-nil h)

no_place : (is : Entry → Bool) → last_place is [] ≡ 0
unfolding last_place along
no_place is = refl

pub restored_nothing : (h : List Entry) (x : Places) → h ≡ [] → x.entries ≡ [] → AreRestored h x
restored_nothing h x none empty s = ap (λ (es : List (ℕ × ℕ)). option_map_or (λ (n : ℕ). n) (lookup (is_at (nat_cmp s)) es) 0) empty ∙ sym (ap (last_place (restores s)) none ∙ no_place (restores s))

-- ---- answers that say more

pub none_map : {A : Type 0} (o : Option A) (P Q : Type 0) → (P → Q) → IfNone o P → IfNone o Q
none_map None P Q f p = f p
none_map (Some x) P Q f p = tt

pub some_map : {A : Type 0} (o : Option A) (P Q : A → Type 0) → ((x : A) → P x → Q x) → IfSome o P → IfSome o Q
some_map None P Q f p = tt
some_map (Some x) P Q f p = f x p
