-- Calls one behind the other, of which the last may have faulted.
use Rattle.std.proofs.Common.{◌≡◌, ◌≢◌, ◌⊎◌, inl, inr, refl, ℕ, zero, suc, ap, arith, sym, ◌∙◌}
use Rattle.std.proofs.lemmas.Option.{none-some}
use Rattle.std.specs.Prelude.{Option, None, Some, Result, Ok, Err, OnErr}
use Rattle.media.specs.Counted.{Blames, Counted, Fails}
use Rattle.media.specs.Fused.{burnt}

abbrev left_in : Option ℕ → ℕ
left_in None = 0
left_in (Some n) = n

-- a fuse is blown or not
blown_or_not : (left : Option ℕ) → (left ≡ Some 0) ⊎ (left ≢ Some 0)
blown_or_not None = inr (λ is. none-some 0 is)
blown_or_not (Some zero) = inl refl
blown_or_not (Some (suc n)) = inr (λ is. let more : suc n ≡ 0 = ap left_in is in omega (arith, more))

on_failed : {T E P : Type 0} (result : Result T E) → OnErr result P → Fails result → P
on_failed (Ok x) p fails = absurd fails
on_failed (Err e) p fails = p

module _ {D : Type 0} (passes : D → Option ℕ) (refused own : D → ℕ) where
  -- before the first call
  pub no_call : (d : D) (F : Type 0) → (F → ⊥) → Blames passes refused own d d F
  no_call d F never = record {
    unarmed = λ none. (none, refl);
    refused_later = omega arith;
    own_later = omega arith;
    cause = λ f. absurd (never f);
    quiet = λ _. refl;
  }

  -- one call
  pub one_call : {T E : Type 0} (old new : D) (result : Result T E) → Counted passes refused own old new result → Blames passes refused own old new (Fails result)
  one_call old new result c = elim (blown_or_not (passes old)) [
    | inl blown ↦ let is = c.blown blown in record {
      unarmed = λ none. absurd (none-some 0 (sym none ∙ blown));
      refused_later = omega (arith, is.2);
      own_later = c.later;
      cause = λ _. inr (omega (arith, is.2));
      quiet = λ ok. absurd (ok is.0);
    }
    | inr open_yet ↦ let is = c.passed open_yet in record {
      unarmed = λ none. (is.0 ∙ ap burnt none, is.1);
      refused_later = omega (arith, is.1);
      own_later = c.later;
      cause = λ fails. inl (on_failed result is.2 fails);
      quiet = λ _. is.1;
    }
  ]

  -- calls that didn't fault, and then others
  pub then_more : (old mid new : D) (F G : Type 0) → Blames passes refused own old mid F → (F → ⊥) → Blames passes refused own mid new G → Blames passes refused own old new G
  then_more old mid new F G a never b = record {
    unarmed = λ none. let one = a.unarmed none in let two = b.unarmed one.0 in (two.0, two.1 ∙ one.1);
    refused_later = omega (arith, a.refused_later, b.refused_later);
    own_later = omega (arith, a.own_later, b.own_later);
    cause = λ g. elim (b.cause g) [
      | inl rose ↦ inl (omega (arith, rose, a.own_later))
      | inr rose ↦ inr (omega (arith, rose, a.refused_later))
    ];
    quiet = λ ok. b.quiet ok ∙ a.quiet never;
  }

  -- a fault of calls by another name
  pub renamed : (old new : D) (F G : Type 0) → Blames passes refused own old new F → (F → G) → (G → F) → Blames passes refused own old new G
  renamed old new F G b to from = record {
    unarmed = b.unarmed;
    refused_later = b.refused_later;
    own_later = b.own_later;
    cause = λ g. b.cause (from g);
    quiet = λ ok. b.quiet (λ f. ok (to f));
  }
