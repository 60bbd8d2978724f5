use Rattle.std.proofs.Common.{◌-◌, take, drop, length, ◌∷◌, List, ℕ, ap, sym, ◌∙◌, arith}
use Rattle.std.proofs.lemmas.List.{take_rest, length-take}
use Rattle.pgm_script.specs.Words.{words_of}
use Rattle.pgm_script.proofs.WordLemmas.{no-word-in, some-word-in}
use Rattle.pgm_script.proofs.words.cut_word.Goals as goal

pub returns-clause-none : goal.returns-clause-none
returns-clause-none c none =
    let line = c.args.line.now in
    let b = c.blank_len.result in
    let rest = take (length line - b) (drop b line) in
    let len = c.word_len-len.result in
    no-word-in line rest b len
    (take_rest line b) c.blank_len.ensures.within c.blank_len.ensures.before c.blank_len.ensures.found
    (omega (arith, none, length-take len rest, c.word_len-len.ensures.within)) c.word_len-len.ensures.found

pub returns-clause-some : goal.returns-clause-some
returns-clause-some c some =
    let line = c.args.line.now in
    let b = c.blank_len.result in
    let rest = take (length line - b) (drop b line) in
    let len = c.word_len-len.result in
    some-word-in line rest b len (take_rest line b) c.blank_len.ensures.within c.blank_len.ensures.before
    (omega (arith, some, length-take len rest))
    c.word_len-len.ensures.within c.word_len-len.ensures.before c.word_len-len.ensures.found
    ∙ ap (λ (w : List ℕ). take len rest ∷ words_of w) (sym (take_rest rest len))
