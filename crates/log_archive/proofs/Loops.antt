-- The loops that read items, one step on, at a fault, and at their end.
use Rattle.std.proofs.Common.{◌≡◌, ◌≢◌, ℕ, suc, ◌+◌, ◌-◌, ◌*◌, ◌<◌, ◌≤◌, Bool, true, false, cond, eqb, List, [], ◌∷◌, ◌++◌, length, get_or, drop, Result, Ok, Err, sym, ap, subst, ◌∙◌, arith}
use Rattle.std.specs.Prelude.{if◌then◌else◌, nat_le}
use Rattle.std.specs.List.{All}
use Rattle.std.proofs.lemmas.Bool.Decides.{nat_tests}
use Rattle.std.proofs.lemmas.List.{drop_more, drop_all, get_or_default}
use Rattle.std.proofs.lemmas.List.Elements.{All-push}
use Rattle.vault_objects.proofs.Numbers.{is_eq}
use Rattle.wal_record.specs.Reading.{Read, ◌>>=◌}
use Rattle.state_codec.specs.Gives.{Fails}
use Rattle.state_codec.specs.declared.fault.FieldFault.{FieldFault}
use Rattle.state_codec.specs.declared.fault.FieldFault.TheVariants.{Memory, Bad}
use Rattle.log_archive.specs.Reading.{behind_items, chunk_at, chunks_at, collected, item_at}
use Rattle.log_archive.specs.Run.{IsSpelled}
use Rattle.log_archive.specs.declared.directory.Entry.{Entry}
use Rattle.log_archive.specs.declared.directory.Head.{Head}
use Rattle.log_archive.specs.declared.item.Numbered.{Numbered}

next_is : (i count : ℕ) → i < count → count - i ≡ suc (count - (i + 1))
next_is i count lt = omega arith

pub not_eq : (m n : ℕ) → m ≢ n → eqb m n ≡ false
not_eq m n h = grind (arith, nat_tests)

module _ (page last count i above : ℕ) (bytes : List ℕ) where
  pub behind_goes_on : (x : Numbered) (rest : List ℕ) (total : Result (List ℕ) ℕ) → i < count → item_at page last above bytes ≡ Ok (x, rest)
      → behind_items page last (count - i) above bytes ≡ total → behind_items page last (count - (i + 1)) x.lsn rest ≡ total
  unfolding behind_items
  behind_goes_on x rest total lt is so_far =
      let one : behind_items page last (suc (count - (i + 1))) above bytes ≡ behind_items page last (count - (i + 1)) x.lsn rest =
      ap (λ (r : Read Numbered). r >>= λ (y : Numbered × List ℕ). behind_items page last (count - (i + 1)) y.0.lsn y.1) is in
      sym one ∙ sym (ap (λ (n : ℕ). behind_items page last n above bytes) (next_is i count lt)) ∙ so_far

  pub behind_fails : (e : FieldFault) (total : Result (List ℕ) ℕ) → i < count → Fails e (item_at page last above bytes) → behind_items page last (count - i) above bytes ≡ total → Fails e total
  unfolding behind_items
  behind_fails Memory total lt is so_far = tt
  behind_fails (Bad left) total lt is so_far =
      let one : behind_items page last (suc (count - (i + 1))) above bytes ≡ Err left =
      ap (λ (r : Read Numbered). r >>= λ (y : Numbered × List ℕ). behind_items page last (count - (i + 1)) y.0.lsn y.1) is in
      sym so_far ∙ ap (λ (n : ℕ). behind_items page last n above bytes) (next_is i count lt) ∙ one

  pub behind_is_done : (total : Result (List ℕ) ℕ) → count ≤ i → behind_items page last (count - i) above bytes ≡ total → total ≡ Ok bytes
  unfolding behind_items
  behind_is_done total le so_far = let k : count - i ≡ 0 = omega arith in sym so_far ∙ ap (λ (n : ℕ). behind_items page last n above bytes) k

  module _ (from : ℕ) (found : List Numbered) where
    more : Numbered → List Numbered
    more x = if nat_le from x.lsn then found ++ x ∷ [] else found

    pub collect_goes_on : (x : Numbered) (rest : List ℕ) (now : List Numbered) (total : Result (List Numbered) ℕ) → i < count → item_at page last above bytes ≡ Ok (x, rest) → now ≡ (if nat_le from x.lsn then found ++ x ∷ [] else found)
        → collected page last from (count - i) above found bytes ≡ total → collected page last from (count - (i + 1)) x.lsn now rest ≡ total
    unfolding collected
    collect_goes_on x rest now total lt is e so_far =
        let one : collected page last from (suc (count - (i + 1))) above found bytes ≡ collected page last from (count - (i + 1)) x.lsn (if nat_le from x.lsn then found ++ x ∷ [] else found) rest =
        ap (λ (r : Read Numbered). r >>= λ (y : Numbered × List ℕ). collected page last from (count - (i + 1)) y.0.lsn (if nat_le from y.0.lsn then found ++ y.0 ∷ [] else found) y.1) is in
        ap (λ (f : List Numbered). collected page last from (count - (i + 1)) x.lsn f rest) e ∙ sym one ∙ sym (ap (λ (n : ℕ). collected page last from n above found bytes) (next_is i count lt)) ∙ so_far

    pub collect_fails : (e : FieldFault) (total : Result (List Numbered) ℕ) → i < count → Fails e (item_at page last above bytes) → collected page last from (count - i) above found bytes ≡ total → Fails e total
    unfolding collected
    collect_fails Memory total lt is so_far = tt
    collect_fails (Bad left) total lt is so_far =
        let one : collected page last from (suc (count - (i + 1))) above found bytes ≡ Err left =
        ap (λ (r : Read Numbered). r >>= λ (y : Numbered × List ℕ). collected page last from (count - (i + 1)) y.0.lsn (if nat_le from y.0.lsn then found ++ y.0 ∷ [] else found) y.1) is in
        sym so_far ∙ ap (λ (n : ℕ). collected page last from n above found bytes) (next_is i count lt) ∙ one

    pub collect_is_done : (total : Result (List Numbered) ℕ) → count ≤ i → collected page last from (count - i) above found bytes ≡ total → total ≡ Ok found
    unfolding collected
    collect_is_done total le so_far = let k : count - i ≡ 0 = omega arith in sym so_far ∙ ap (λ (n : ℕ). collected page last from n above found bytes) k

-- an item more that has a spelling
pub kept_spelled : (from : ℕ) (old now : List Numbered) (x : Numbered) → now ≡ (if nat_le from x.lsn then old ++ x ∷ [] else old) → IsSpelled x → All IsSpelled old → All IsSpelled now
kept_spelled from old now x is spelled all = subst (All IsSpelled) (sym is) (by (nat_le from x.lsn))
  where
    by : (b : Bool) → All IsSpelled (if b then old ++ x ∷ [] else old)
    by true = All-push IsSpelled old x all spelled
    by false = all

-- ---- the items of all pages

module _ (size : ℕ) (head : Head) (i : ℕ) (es : List Entry) (bytes : List ℕ) where
  at_entry : (e : Entry) → i < length es → e ≡ get_or es i e → chunks_at size head i (drop i es) bytes ≡ chunks_at size head i (e ∷ drop (i + 1) es) bytes
  at_entry e lt is = ap (λ (l : List Entry). chunks_at size head i l bytes) (drop_more es i e lt ∙ ap (λ (x : Entry). x ∷ drop (i + 1) es) (sym is))

  pub chunks_go_on : (e : Entry) (rest : List ℕ) (total : Result ℕ ℕ) → i < length es → e ≡ get_or es i e → chunk_at size head i e bytes ≡ Ok rest
      → chunks_at size head i (drop i es) bytes ≡ total → chunks_at size head (i + 1) (drop (i + 1) es) rest ≡ total
  unfolding chunks_at
  chunks_go_on e rest total lt is read so_far =
      let step : chunks_at size head i (e ∷ drop (i + 1) es) bytes ≡ chunks_at size head (suc i) (drop (i + 1) es) rest =
      ap (λ (r : Result (List ℕ) ℕ). r >>= λ (t : List ℕ). chunks_at size head (suc i) (drop (i + 1) es) t) read in
      let n : i + 1 ≡ suc i = omega arith in
      ap (λ (k : ℕ). chunks_at size head k (drop (i + 1) es) rest) n ∙ sym step ∙ sym (at_entry e lt is) ∙ so_far

  pub chunks_fail : (f : FieldFault) (e : Entry) (total : Result ℕ ℕ) → i < length es → e ≡ get_or es i e → Fails f (chunk_at size head i e bytes)
      → chunks_at size head i (drop i es) bytes ≡ total → Fails f total
  unfolding chunks_at
  chunks_fail Memory e total lt is read so_far = tt
  chunks_fail (Bad left) e total lt is read so_far =
      let step : chunks_at size head i (e ∷ drop (i + 1) es) bytes ≡ Err left =
      ap (λ (r : Result (List ℕ) ℕ). r >>= λ (t : List ℕ). chunks_at size head (suc i) (drop (i + 1) es) t) read in
      sym so_far ∙ at_entry e lt is ∙ step

  all_read : (total : Result ℕ ℕ) → length es ≤ i → chunks_at size head i (drop i es) bytes ≡ total → total ≡ cond (eqb (length bytes) 0) (Ok 0) (Err (length bytes))
  unfolding chunks_at
  all_read total le so_far = sym so_far ∙ ap (λ (l : List Entry). chunks_at size head i l bytes) (drop_all i es le)

  pub chunks_end : (total : Result ℕ ℕ) → length es ≤ i → length bytes ≡ 0 → chunks_at size head i (drop i es) bytes ≡ total → total ≡ Ok 0
  chunks_end total le none so_far = all_read total le so_far ∙ ap (λ (b : Bool). cond b (Ok 0) (Err (length bytes))) (is_eq (length bytes) 0 none)

  pub chunks_surplus : (total : Result ℕ ℕ) → length es ≤ i → length bytes ≢ 0 → chunks_at size head i (drop i es) bytes ≡ total → total ≡ Err (length bytes)
  chunks_surplus total le some so_far = all_read total le so_far ∙ ap (λ (b : Bool). cond b (Ok 0) (Err (length bytes))) (not_eq (length bytes) 0 some)

pub at_itself : (es : List Entry) (i : ℕ) → i < length es → get_or es i (record { page = 0; count = 0; offset = 0 }) ≡ get_or es i (get_or es i (record { page = 0; count = 0; offset = 0 }))
at_itself es i lt = get_or_default es i _ _ lt

-- ---- the place of one page's items

module _ (size : ℕ) (head : Head) (place : ℕ) (e : Entry) (bytes : List ℕ) where
  pub chunk_fits : e.offset + length bytes ≡ size → chunk_at size head place e bytes ≡ behind_items e.page head.last e.count (head.first - 1) bytes
  unfolding chunk_at
  chunk_fits fits = ap (λ (b : Bool). cond b (behind_items e.page head.last e.count (head.first - 1) bytes) (Err (size - (32 + 16 * place + 8)))) (is_eq (e.offset + length bytes) size fits)

  pub chunk_misplaced : e.offset + length bytes ≢ size → chunk_at size head place e bytes ≡ Err (size - (32 + 16 * place + 8))
  unfolding chunk_at
  chunk_misplaced off = ap (λ (b : Bool). cond b (behind_items e.page head.last e.count (head.first - 1) bytes) (Err (size - (32 + 16 * place + 8)))) (not_eq (e.offset + length bytes) size off)
