use Rattle.std.proofs.Common.{◌≡◌, length, take, drop}
use Rattle.pgm_script.specs.Words.{words_of}
use Rattle.pgm_script.specs.Scripts.{numbers_of}
use Rattle.pgm_script.proofs.LineLemmas.{behind}
use Rattle.pgm_script.proofs.words.numbers.Given as goal

abbrev pub invariant-loop-i : goal.invariant-loop-i
invariant-loop-i l = record {
  read : numbers_of l.most (words_of l.line)
      ≡ behind (take l.i l.numbers) (numbers_of (drop l.i l.most) (words_of l.rest));
  len : length l.numbers ≡ 8;
}
