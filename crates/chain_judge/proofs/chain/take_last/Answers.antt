use Rattle.std.proofs.Common.{◌≡◌, ℕ, ◌-◌, List, [], ◌∷◌, ◌++◌, Option, Some, None, take, refl, sym, ap, ◌∙◌, rules, vec_len}
use Rattle.std.specs.Option.{option_to_list}
use Rattle.wal_record.specs.OpenWrites.{without_last}
use Rattle.chain_judge.specs.declared.chain.OpenChange.{OpenChange}
use Rattle.chain_judge.proofs.chain.take_last.Goals as goal

popped : (xs ys : List OpenChange) (n : ℕ) (o : Option OpenChange) → xs ≡ ys ++ option_to_list o → (o ≡ None → n ≡ 0) → ys ≡ take (n - 1) xs → ys ≡ without_last xs
popped xs ys n None e z rest =
    let zero : n ≡ 0 = z refl in
    let none : ys ≡ [] = rest ∙ ap (λ (k : ℕ). take (k - 1) xs) zero in
    let all : xs ≡ [] = e ∙ ap (λ (l : List OpenChange). l ++ []) none in
    none ∙ sym (ap without_last all)
popped xs ys n (Some w) e z rest = sym (ap without_last e ∙ front ys w)
  where
    front : (ys : List OpenChange) (w : OpenChange) → without_last (ys ++ w ∷ []) ≡ ys
    front [] w = refl
    front (y ∷ []) w = refl
    front (y ∷ v ∷ ys) w = ap (λ (l : List OpenChange). y ∷ l) (front (v ∷ ys) w)

pub returns : goal.returns
returns c = popped c.args.writes.now.items c.pop.new.self.items (vec_len c.args.writes.now) c.pop.result c.pop.ensures.items (search rules) c.pop.ensures.rest
