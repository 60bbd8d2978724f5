use Rattle.std.proofs.Common.{ℕ, take, ap, ◌∙◌}
use Rattle.pgm_script.proofs.LineLemmas.{numbers-range}
use Rattle.pgm_script.proofs.line.read_words.Goals as goal

pub script_line-requires-clause-range : goal.script_line-requires-clause-range
script_line-requires-clause-range c = numbers-range _ _ _ c.in_ok-numbers.numbers
    (ap (λ (n : ℕ). take n c.most.result) c.count.ensures.count ∙ c.most.ensures) c.in_ok-numbers.ensures
