-- Groups of records that join blocks.
use Rattle.std.proofs.Common.{◌≡◌, ℕ, zero, suc, ◌+◌, Bool, true, false, List, [], ◌∷◌, ◌++◌, length, take, refl, sym, ◌∙◌, ap, subst, arith, append_assoc, append-nil, length-append}
use Rattle.std.specs.Prelude.{if◌then◌else◌}
use Rattle.std.proofs.lemmas.Grind.{flat_map-append}
use Rattle.log_blocks.specs.Batch.{begun, joined, joins, numbered, records_in, with_group}
use Rattle.log_blocks.specs.Log.{Block}
use Rattle.wal_record.specs.declared.record.Record.{Record}
use Rattle.log_manager.specs.Groups.{EndsBlock, EndsGroup, HoldGroups, records_of}

records_of-append : (xs ys : List (List Record)) → records_of (xs ++ ys) ≡ records_of xs ++ records_of ys
records_of-append xs ys = flat_map-append (λ (g : List Record). g) xs ys

records_of-push : (xs : List (List Record)) (g : List Record) → length (records_of (xs ++ g ∷ [])) ≡ length (records_of xs) + length g
records_of-push xs g = omega (arith, ap length (records_of-append xs (g ∷ [])), length-append (records_of xs) (records_of (g ∷ [])), ap length (append-nil g))

-- a group joins the last block
in_joined : (n : ℕ) (bs : List Block) (groups : List (List Record)) (g : List Record) (k : ℕ) (bytes : List ℕ) → joins bs (length g) (length bytes) ≡ true → HoldGroups (numbered n bs) groups
    → HoldGroups (numbered n (joined bs (length g) k bytes)) (groups ++ g ∷ [])
in_joined n [] groups g k bytes j h = absurd cc
in_joined n (b ∷ []) groups g k bytes j (own, more, is, count, none) = (
  own ++ g ∷ [],
  [],
  ap (λ (l : List (List Record)). l ++ g ∷ []) (is ∙ ap (λ (l : List (List Record)). own ++ l) none ∙ append-nil own) ∙ sym (append-nil (own ++ g ∷ [])),
  omega (arith, count, records_of-push own g),
  refl,
)
in_joined n (b ∷ d ∷ bs) groups g k bytes j (own, more, is, count, rest) = (
  own,
  more ++ g ∷ [],
  ap (λ (l : List (List Record)). l ++ g ∷ []) is ∙ append_assoc own more (g ∷ []),
  count,
  in_joined (n + b.count) (d ∷ bs) more g k bytes j rest,
)

-- or begins one
in_begun : (n : ℕ) (bs : List Block) (groups : List (List Record)) (g : List Record) (k : ℕ) (bytes : List ℕ) → HoldGroups (numbered n bs) groups
    → HoldGroups (numbered n (bs ++ begun (length g) k bytes ∷ [])) (groups ++ g ∷ [])
in_begun n [] groups g k bytes none = (g ∷ [], [], ap (λ (l : List (List Record)). l ++ g ∷ []) none, ap length (sym (append-nil g)), refl)
in_begun n (b ∷ bs) groups g k bytes (own, more, is, count, rest) = (
  own,
  more ++ g ∷ [],
  ap (λ (l : List (List Record)). l ++ g ∷ []) is ∙ append_assoc own more (g ∷ []),
  count,
  in_begun (n + b.count) bs more g k bytes rest,
)

in_group : (n : ℕ) (bs : List Block) (groups : List (List Record)) (g : List Record) (k : ℕ) (bytes : List ℕ) → HoldGroups (numbered n bs) groups
    → HoldGroups (numbered n (with_group bs (length g) k bytes)) (groups ++ g ∷ [])
in_group n bs groups g k bytes h = by (joins bs (length g) (length bytes)) refl
  where
    by : (b : Bool) → joins bs (length g) (length bytes) ≡ b → HoldGroups (numbered n (if b then joined bs (length g) k bytes else bs ++ begun (length g) k bytes ∷ [])) (groups ++ g ∷ [])
    by true e = in_joined n bs groups g k bytes e h
    by false e = in_begun n bs groups g k bytes h

-- one group more, behind blocks that have joined the log
pub group_more : (xs : List Block) (n : ℕ) (bs : List Block) (groups : List (List Record)) (g : List Record) (k : ℕ) (bytes : List ℕ) → HoldGroups (xs ++ numbered n bs) groups
    → HoldGroups (xs ++ numbered n (with_group bs (length g) k bytes)) (groups ++ g ∷ [])
group_more [] n bs groups g k bytes h = in_group n bs groups g k bytes h
group_more (x ∷ xs) n bs groups g k bytes (own, more, is, count, rest) = (
  own,
  more ++ g ∷ [],
  ap (λ (l : List (List Record)). l ++ g ∷ []) is ∙ append_assoc own more (g ∷ []),
  count,
  group_more xs n bs more g k bytes rest,
)

-- ---- where a block ends, a group ends

take_front : (xs ys : List Record) (n : ℕ) → take (length xs + n) (xs ++ ys) ≡ xs ++ take n ys
take_front [] ys n = let e : 0 + n ≡ n = omega arith in ap (λ m. take m ys) e
take_front (x ∷ xs) ys n = let e : suc (length xs) + n ≡ suc (length xs + n) = omega arith in ap (λ m. take m (x ∷ (xs ++ ys))) e ∙ ap (λ (l : List Record). x ∷ l) (take_front xs ys n)

take_groups : (own more : List (List Record)) (n : ℕ) → take (length own + n) (own ++ more) ≡ own ++ take n more
take_groups [] more n = let e : 0 + n ≡ n = omega arith in ap (λ m. take m more) e
take_groups (x ∷ own) more n =
    let e : suc (length own) + n ≡ suc (length own + n) = omega arith in
    ap (λ m. take m (x ∷ (own ++ more))) e ∙ ap (λ (l : List (List Record)). x ∷ l) (take_groups own more n)

ends_at_block : (m : ℕ) (bs : List Block) (groups : List (List Record)) → HoldGroups bs groups → EndsGroup groups (records_in (take m bs))
ends_at_block zero bs groups h = record { whole = 0; within = omega arith; records = refl }
ends_at_block (suc m) [] groups h = record { whole = 0; within = omega arith; records = refl }
ends_at_block (suc m) (b ∷ bs) groups (own, more, is, count, rest) =
    let e = ends_at_block m bs more rest in
    let n = records_in (take m bs) in
    let size : b.count + n ≡ length (records_of own) + n = ap (λ k. k + n) count in
    record {
      whole = length own + e.whole;
      within = let small = e.within in omega (arith, small, ap length is, length-append own more);
      records = ap (λ (l : List (List Record)). take (b.count + n) (records_of l)) is ∙ ap (λ k. take k (records_of (own ++ more))) size
          ∙ ap (take (length (records_of own) + n)) (records_of-append own more) ∙ take_front (records_of own) (records_of more) n
          ∙ ap (λ (l : List Record). records_of own ++ l) e.records ∙ sym (records_of-append own (take e.whole more))
          ∙ ap records_of (sym (take_groups own more e.whole) ∙ ap (take (length own + e.whole)) (sym is));
    }

pub ends_together : (bs : List Block) (groups : List (List Record)) (n : ℕ) → HoldGroups bs groups → EndsBlock bs n → EndsGroup groups n
ends_together bs groups n h e = subst (EndsGroup groups) (sym e.records) (ends_at_block e.blocks bs groups h)
