-- The questions of a script of questions.
use Rattle.std.proofs.Common.{◌≡◌, ℕ, List, [], ◌∷◌, map, ap, refl}
use Rattle.pgm_script.specs.declared.script.ScriptLine.TheVariants.{Find}
use Rattle.program.specs.Inputs.{questions_in}

-- the questions of the lines that each ask one of them
pub questions_in-finds : (questions : List ℕ) → questions_in (map Find questions) ≡ questions
questions_in-finds [] = refl
questions_in-finds (question ∷ questions) = ap (λ (q : List ℕ). question ∷ q) (questions_in-finds questions)
