-- What is known of the times of a disk that have ended.
use Rattle.std.specs.Prelude.{ℕ, List, refl}
use Rattle.std.specs.Coded.{Coded, code_by, coded×, coded_ℕ, coded_list}
use Rattle.media_mem.specs.Reach.{Piece, Span}

-- the times, oldest first, and what was synced last
pub record PastSeen : Type 0 where
  pub spans : List Span
  pub base : List ℕ

-- how the logic stores them
abbrev pub piece_code : Coded Piece
piece_code = code_by (ℕ × ℕ) (coded× coded_ℕ coded_ℕ) (λ p. (p.at, p.size)) (λ q. record { at = q.0; size = q.1 }) (λ _. refl)

abbrev pub span_code : Coded Span
span_code = code_by (ℕ × (List ℕ × List Piece)) (coded× coded_ℕ (coded× (coded_list coded_ℕ) (coded_list piece_code)))
    (λ s. (s.start, (s.base, s.writes))) (λ q. record { start = q.0; base = q.1.0; writes = q.1.1 }) (λ _. refl)

abbrev pub past_code : Coded PastSeen
past_code = code_by (List Span × List ℕ) (coded× (coded_list span_code) (coded_list coded_ℕ)) (λ p. (p.spans, p.base)) (λ q. record { spans = q.0; base = q.1 }) (λ _. refl)
