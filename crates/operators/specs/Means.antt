-- What a closure has to answer to be an operator.
use Rattle.std.specs.Prelude.{◌≡◌, ℕ, List, Option}
use Rattle.std.specs.Borrow.{Bor}
use Rattle.store_model.specs.Operator.{meaning}

-- the meaning, as one word to those who only hand it on
unfoldable pub made_by : ℕ → Option (List ℕ) → List ℕ → Option (List ℕ)
made_by id old argument = meaning id old argument

-- each answer to an old value and an argument is what the operator of that number makes of them
abbrev pub AnswersMeaning : ℕ → (Bor (Option (List ℕ)) → Bor (List ℕ) → Option (List ℕ) → Type 0) → Type 0
AnswersMeaning id answers = (old : Bor (Option (List ℕ))) (argument : Bor (List ℕ)) (new : Option (List ℕ)) → answers old argument new → new ≡ made_by id old.now argument.now
