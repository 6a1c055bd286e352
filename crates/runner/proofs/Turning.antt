-- One turn more.
use Rattle.std.proofs.Common.{◌≡◌, ℕ, List, [], ◌∷◌, ◌++◌, Some, refl, sym, ap, subst, ◌∙◌, append_assoc}
use Rattle.std.specs.Prelude.{map}
use Rattle.std.proofs.lemmas.List.Sums.{fold-append}
use Rattle.wal_record.proofs.Along.{along_push, AllAlong_back}
use Rattle.script.specs.declared.command.Command.{Command}
use Rattle.script.specs.Line.{reads}
use Rattle.line_reader.specs.Lines.{IsLine}
use Rattle.life_commands.specs.Rows.{Fits, FitsAt, fits_after}
use Rattle.life_commands.specs.Turns.{Start, Turn, stage, stage_step, begin_stage}
use Rattle.life_commands.specs.Text.{lines, text}
use Rattle.runner.specs.Clause.{Script, command_of}

pub stage_push : (start : Start) (turns : List Turn) (t : Turn) → stage start (turns ++ t ∷ []) ≡ stage_step (stage start turns) t
unfolding stage
stage_push start turns t = fold-append stage_step (begin_stage start) turns (t ∷ [])

pub text_push : (start : Start) (turns : List Turn) (t : Turn) → text start (turns ++ t ∷ []) ≡ text start turns ++ lines (stage start turns) t
unfolding text
text_push start turns t = along_push _ _ turns t

pub fits_push : (tells : Type 0) (start : Start) (turns : List Turn) (t : Turn) → Fits tells start turns → FitsAt tells (stage start turns) t → Fits tells start (turns ++ t ∷ [])
unfolding Fits
fits_push tells start turns t h p = AllAlong_back (fits_after tells start) turns t h p

script_more : (bytes line : List ℕ) (cs : List Command) (c : Command) → Script bytes cs → IsLine line → reads line ≡ Some c → Script (bytes ++ line ++ 10 ∷ []) (cs ++ c ∷ [])
script_more bytes line [] c h is e = (line, [], ap (λ (b : List ℕ). b ++ line ++ 10 ∷ []) h, is, e, refl)
script_more bytes line (d ∷ cs) c (first, rest, whole, one, said, more) is e =
    (first, rest ++ line ++ 10 ∷ [], ap (λ (b : List ℕ). b ++ line ++ 10 ∷ []) whole ∙ ap (λ (b : List ℕ). b ++ 10 ∷ []) (append_assoc first (10 ∷ rest) line) ∙ append_assoc first (10 ∷ rest ++ line) (10 ∷ []), one, said, script_more rest line cs c more is e)

map_push : (turns : List Turn) (t : Turn) → map command_of (turns ++ t ∷ []) ≡ map command_of turns ++ t.command ∷ []
map_push [] t = refl
map_push (u ∷ turns) t = ap (λ (cs : List Command). u.command ∷ cs) (map_push turns t)

pub script_push : (bytes line : List ℕ) (turns : List Turn) (t : Turn) → Script bytes (map command_of turns) → IsLine line → reads line ≡ Some t.command → Script (bytes ++ (line ++ 10 ∷ [])) (map command_of (turns ++ t ∷ []))
script_push bytes line turns t h is e =
    subst (Script (bytes ++ (line ++ 10 ∷ []))) (sym (map_push turns t))
    (subst (λ (x : List ℕ). Script x (map command_of turns ++ t.command ∷ [])) (append_assoc bytes line (10 ∷ [])) (script_more bytes line (map command_of turns) t.command h is e))
