-- Steps that have their replies.
use Rattle.std.proofs.Common.{◌≡◌, ℕ, Bool, true, false, cond, List, [], ◌∷◌, ◌++◌, Option, Some, None, refl, sym, ap, subst, ◌∙◌}
use Rattle.std.specs.Prelude.{option_and_then, fold, is_some, ◌||◌}
use Rattle.std.specs.Option.{option_map, option_map_or}
use Rattle.std.specs.FinMap.{get, insert, remove, same_map, get-remove}
use Rattle.std.specs.Cmp.Lexicographic.{nat_list_cmp_total}
use Rattle.std.proofs.lemmas.List.Sums.{fold-append}
use Rattle.std.proofs.lemmas.Map.Lookups.{exact_bytes}
use Rattle.store_model.proofs.Scans.{pairs_in_same}
use Rattle.store_model.specs.Range.{Interval, has_key}
use Rattle.store_model.specs.Contents.{Contents, set_to, pairs_in}
use Rattle.store_model.specs.Operator.{meaning}
use Rattle.store_model.specs.Answer.{Answer}
use Rattle.store_model.specs.declared.request.Request.{Request}
use Rattle.store_model.specs.declared.request.Request.TheVariants as requests
use Rattle.store_model.specs.declared.reply.Reply.{Reply}
use Rattle.store_model.specs.declared.reply.Reply.TheVariants as replies
use Rattle.wal_record.specs.declared.record.Record.{Record}
use Rattle.wal_record.specs.declared.record.Record.TheVariants as kinds
use Rattle.wal_record.specs.declared.record.Write.{Write}
use Rattle.wal_record.specs.declared.record.Apply.{Apply}
use Rattle.wal_record.specs.Contents.{after, given}
use Rattle.wal_record.specs.OpenWrites.{key_of, old_of}
use Rattle.wal_record.specs.State.{same_key}
use Rattle.wal_record.specs.Steps.{Step, Asked, Back, Finished}
use Rattle.wal_record.specs.Serial.{Change, change_at, changed, Runs, Serial, Played, play, Result, serial, said, all_said}
use Rattle.wal_record.specs.Legal.{IsToldAs}
use Rattle.log_laws.proofs.Central.{get-set_to, get-fold, value_after, equal_key, only, IsChange}

-- ---- changes

abbrev pub change_of : Record → Change
change_of r = record { key = key_of r; value = old_of r }

abbrev pub stack_step : List Change → Record → List Change
stack_step cs r = change_of r ∷ cs

-- the changes of these writes, the last one first
abbrev pub stack : List Record → List Change
stack ws = fold stack_step [] ws

pub stack_push : (ws : List Record) (r : Record) → stack (ws ++ r ∷ []) ≡ change_of r ∷ stack ws
stack_push ws r = fold-append stack_step [] ws (r ∷ [])

-- ---- runs after runs

pub Runs_then : (m : Contents) (cs : List Change) (ss : List Step) (n : Contents) (ds : List Change) (ts : List Step) (p : Contents) (es : List Change) → Runs m cs ss n ds → Runs n ds ts p es → Runs m cs (ss ++ ts) p es
Runs_then m cs [] n ds ts p es h g = subst (λ (x : Contents). Runs x cs ts p es) (sym h.0) (subst (λ (x : List Change). Runs n x ts p es) (sym h.1) g)
Runs_then m cs (Asked request reply ∷ ss) n ds ts p es h g = (h.0, h.1, h.2, Runs_then h.0.after (changed m request cs) ss n ds ts p es h.3 g)
Runs_then m [] (Back ∷ ss) n ds ts p es h g = absurd h
Runs_then m (c ∷ cs) (Back ∷ ss) n ds ts p es h g = Runs_then (set_to m c.key c.value) cs ss n ds ts p es h g

pub Serial_then : (m : Contents) (ts : List Finished) (n : Contents) (t : Finished) (k : Contents) (left : List Change) → Serial m ts n → Runs n [] t.steps k left → Serial m (ts ++ t ∷ []) k
Serial_then m [] n t k left h g = (k, left, subst (λ (x : Contents). Runs x [] t.steps k left) (sym h) g, refl)
Serial_then m (s ∷ ts) n t k left h g = (h.0, h.1, h.2, Serial_then h.0 ts n t k left h.3 g)

-- ---- a write's step

abbrev pub write_request : List ℕ → Option (List ℕ) → Request
write_request key None = requests.Del key
write_request key (Some v) = requests.Put key v

abbrev pub told_step : Record → Step
told_step (kinds.Write w) = Asked (write_request w.key w.new) (replies.Was w.old)
told_step (kinds.Apply a) = Asked (requests.Apply a.operator a.key a.argument) (replies.Was a.old)
told_step _ = Back

pub write_answer : (m : Contents) (cs : List Change) (w : Write) → (is_some w.old || is_some w.new) ≡ true → w.old ≡ get m w.key → Runs m cs (told_step (kinds.Write w) ∷ []) (after m (kinds.Write w)) (change_of (kinds.Write w) ∷ cs)
write_answer m cs w some e = by w.new some
  where
    here : ◌≡◌ {A = List Change} (change_at m w.key ∷ cs) (change_of (kinds.Write w) ∷ cs)
    here = λ i. record { key = w.key; value = sym e i } ∷ cs

    by : (new : Option (List ℕ)) → (is_some w.old || is_some new) ≡ true → Runs m cs (Asked (write_request w.key new) (replies.Was w.old) ∷ []) (set_to m w.key new) (change_of (kinds.Write w) ∷ cs)
    by None s = (
      record { after = remove m w.key; reply = replies.Was (get m w.key) },
      refl,
      ap replies.Was (sym e),
      (refl, ap (λ (b : Bool). cond b (change_at m w.key ∷ cs) cs) (ap is_some (sym e) ∙ only (is_some w.old) s) ∙ here),
    )
    by (Some v) s = (record { after = insert m w.key v; reply = replies.Was (get m w.key) }, refl, ap replies.Was (sym e), (refl, here))

pub apply_answer : (m : Contents) (cs : List Change) (a : Apply) → is_some (meaning a.operator a.old a.argument) ≡ true → a.old ≡ get m a.key → Runs m cs (told_step (kinds.Apply a) ∷ []) (after m (kinds.Apply a)) (change_of (kinds.Apply a) ∷ cs)
apply_answer m cs a some e = by (meaning a.operator (get m a.key) a.argument) (subst (λ (v : Option (List ℕ)). is_some (meaning a.operator v a.argument) ≡ true) e some)
  where
    here : ◌≡◌ {A = List Change} (change_at m a.key ∷ cs) (change_of (kinds.Apply a) ∷ cs)
    here = λ i. record { key = a.key; value = sym e i } ∷ cs

    by : (x : Option (List ℕ)) → is_some x ≡ true
        → (b : Answer) × (option_map (λ w. record { after = insert m a.key w; reply = replies.Was (get m a.key) }) x ≡ Some b) × (b.reply ≡ replies.Was a.old)
        × Runs b.after (change_at m a.key ∷ cs) [] (option_map_or (λ v. insert m a.key v) x m) (change_of (kinds.Apply a) ∷ cs)
    by None s = absurd cc
    by (Some v) s = (record { after = insert m a.key v; reply = replies.Was (get m a.key) }, refl, ap replies.Was (sym e), (refl, here))

-- what is told of a write is its step
pub told_is : (r : Record) (request : Request) (reply : Reply) → IsToldAs r request reply → ◌≡◌ {A = Step} (told_step r) (Asked request reply)
told_is (kinds.Write w) (requests.Put key value) reply h = λ i. Asked ((ap (λ (k : List ℕ). write_request k w.new) h.0 ∙ ap (write_request key) h.1) i) (sym h.2 i)
told_is (kinds.Write w) (requests.Del key) reply h = λ i. Asked ((ap (λ (k : List ℕ). write_request k w.new) h.0 ∙ ap (write_request key) h.1) i) (sym h.2 i)
told_is (kinds.Apply a) (requests.Apply operator key argument) reply h = λ i. Asked (requests.Apply (h.0 i) (h.1 i) (h.2 i)) (sym h.3 i)
told_is _ _ reply h = absurd h

-- ---- reads

abbrev pub Agree : (List ℕ → Type 0) → Contents → Contents → Type 0
Agree P x m = (key : List ℕ) → P key → get x key ≡ get m key

pub get_answer : (x m : Contents) (cs : List Change) (key : List ℕ) → get x key ≡ get m key → Runs x cs (Asked (requests.Get key) (replies.Found (get m key)) ∷ []) x cs
get_answer x m cs key e = (record { after = x; reply = replies.Found (get x key) }, refl, ap replies.Found e, (refl, refl))

pub scan_answer : (x m : Contents) (cs : List Change) (r : Interval) → ((key : List ℕ) → has_key r key ≡ true → get x key ≡ get m key) → Runs x cs (Asked (requests.Scan r) (replies.Pairs (pairs_in r m)) ∷ []) x cs
scan_answer x m cs r e = (record { after = x; reply = replies.Pairs (pairs_in r x) }, refl, ap replies.Pairs (pairs_in_same r x m e), (refl, refl))

-- a key without a value is removed in vain
removed : (x : Contents) (key : List ℕ) → get x key ≡ None → remove x key ≡ x
removed x key e = same_map nat_list_cmp_total exact_bytes (remove x key) x (λ q. get-remove nat_list_cmp_total x key q ∙ by q (same_key q key) refl)
  where
    by : (q : List ℕ) (b : Bool) → same_key q key ≡ b → cond b None (get x q) ≡ get x q
    by q true g = sym (ap (get x) (equal_key q key g) ∙ e)
    by q false g = refl

pub del_answer : (x : Contents) (cs : List Change) (key : List ℕ) → get x key ≡ None → Runs x cs (Asked (requests.Del key) (replies.Was None) ∷ []) x cs
del_answer x cs key e = (
  record { after = remove x key; reply = replies.Was (get x key) },
  refl,
  ap replies.Was e,
  (removed x key e, ap (λ (v : Option (List ℕ)). cond (is_some v) (change_at x key ∷ cs) cs) e),
)

-- ---- a write taken back

-- the contents are as before the last write
pub restored : (n : Contents) (front : List Record) (w : Record) → IsChange w → old_of w ≡ get (fold after n front) (key_of w) → set_to (fold after n (front ++ w ∷ [])) (key_of w) (old_of w) ≡ fold after n front
restored n front w change e = same_map nat_list_cmp_total exact_bytes _ _ (λ q.
    get-set_to (fold after n (front ++ w ∷ [])) (key_of w) (old_of w) q
    ∙ ap (cond (same_key q (key_of w)) (old_of w)) (get-fold q (front ++ w ∷ []) n ∙ fold-append (value_after q) (get n q) front (w ∷ []) ∙ ap (λ (v : Option (List ℕ)). value_after q v w) (sym (get-fold q front n)))
    ∙ by q (same_key q (key_of w)) refl)
  where
    by : (q : List ℕ) (b : Bool) → same_key q (key_of w) ≡ b → cond b (old_of w) (value_after q (get (fold after n front) q) w) ≡ get (fold after n front) q
    by q true g = e ∙ ap (get (fold after n front)) (sym (equal_key q (key_of w) g))
    by q false g = ap (λ (b : Bool). cond b (given (get (fold after n front) q) w) (get (fold after n front) q)) (change q ∙ g)

pub back_answer : (n : Contents) (front : List Record) (w : Record) → IsChange w → old_of w ≡ get (fold after n front) (key_of w)
    → Runs (fold after n (front ++ w ∷ [])) (stack (front ++ w ∷ [])) (Back ∷ []) (fold after n front) (stack front)
back_answer n front w change e = subst (λ (cs : List Change). Runs (fold after n (front ++ w ∷ [])) cs (Back ∷ []) (fold after n front) (stack front)) (sym (stack_push front w)) (restored n front w change e, refl)

-- ---- the function

pub played : (m : Contents) (cs : List Change) (ss : List Step) (n : Contents) (ds : List Change) → Runs m cs ss n ds → play m cs ss ≡ Some (record { replies = said ss; contents = n; changes = ds })
played m cs [] n ds h = λ i. Some (record { replies = []; contents = h.0 i; changes = h.1 i })
played m cs (Asked request reply ∷ ss) n ds h =
    ap (option_and_then (λ (a : Answer). option_map (λ (p : Played). record { replies = a.reply ∷ p.replies; contents = p.contents; changes = p.changes }) (play a.after (changed m request cs) ss))) h.1
    ∙ ap (option_map (λ (p : Played). record { replies = h.0.reply ∷ p.replies; contents = p.contents; changes = p.changes })) (played h.0.after (changed m request cs) ss n ds h.3)
    ∙ ap (λ (r : Reply). Some (record { replies = r ∷ said ss; contents = n; changes = ds })) h.2
played m [] (Back ∷ ss) n ds h = absurd h
played m (c ∷ cs) (Back ∷ ss) n ds h = played (set_to m c.key c.value) cs ss n ds h

pub serial_is : (m : Contents) (ts : List Finished) (n : Contents) → Serial m ts n → serial m ts ≡ Some (record { replies = all_said ts; contents = n })
serial_is m [] n h = ap (λ (x : Contents). Some (record { replies = []; contents = x })) h
serial_is m (t ∷ ts) n h =
    ap (option_and_then (λ (p : Played). option_map (λ (r : Result). record { replies = p.replies ++ r.replies; contents = r.contents }) (serial p.contents ts))) (played m [] t.steps h.0 h.1 h.2)
    ∙ ap (option_map (λ (r : Result). record { replies = said t.steps ++ r.replies; contents = r.contents })) (serial_is h.0 ts n h.3)
