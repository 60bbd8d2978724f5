use Rattle.std.proofs.Common.{◌≡◌, ◌-◌, ◌<◌, take, drop, length, List, ℕ, true, false, sym, subst, arith}
use Rattle.std.proofs.lemmas.Bool.Decides.{nat_tests}
use Rattle.std.proofs.lemmas.List.{take_rest, length-take, length-drop}
use Rattle.pgm_script.specs.Words.{goes_on}
use Rattle.pgm_script.specs.Cuts.{ReadsDigits, BeginsWithNumber}
use Rattle.pgm_script.proofs.WordLemmas.{blank-line}
use Rattle.pgm_script.proofs.CutLemmas.{behind-begins, behind-other, behind-number, great-word}
use Rattle.pgm_script.proofs.CutLemmas.{other-word, number-word, on-there, off-there}
use Rattle.pgm_script.proofs.words.cut_number.Goals as goal

pub returns-then-is_empty : goal.returns-then-is_empty
returns-then-is_empty c =
    let line = c.args.line.now in
    let b = c.blank_len.result in
    let rest = take (length line - b) (drop b line) in
    let same : rest ≡ drop b line = take_rest line b in
    let blank = c.blank_len.ensures in
    let none : length rest ≡ 0 = grind (arith, nat_tests) in
    blank-line line b blank.within
    (omega (arith, none, length-take (length line - b) (drop b line), length-drop b line)) blank.before

pub returns-in_default : goal.returns-in_default
returns-in_default c =
    let line = c.args.line.now in
    let b = c.blank_len.result in
    let rest = take (length line - b) (drop b line) in
    let same : rest ≡ drop b line = take_rest line b in
    let blank = c.blank_len.ensures in
    let some : 0 < length rest = grind (arith, nat_tests) in
    let begins = behind-begins line rest b same blank.within blank.found some in
    let great = c.in_default.ensures.none in
    behind-other c.args.most line rest b same blank.within blank.before
    (great-word c.args.most rest great.len great.value some begins great.read great.within
    (omega (arith, great.great, c.ranges.most.fits)))

pub returns-then-value-most : goal.returns-then-value-most
returns-then-value-most c =
    let line = c.args.line.now in
    let b = c.blank_len.result in
    let rest = take (length line - b) (drop b line) in
    let same : rest ≡ drop b line = take_rest line b in
    let blank = c.blank_len.ensures in
    let some : 0 < length rest = grind (arith, nat_tests) in
    let begins = behind-begins line rest b same blank.within blank.found some in
    let read : ReadsDigits rest c.in-Some.len c.in-Some.value = c.in-Some.ensures.some in
    behind-other c.args.most line rest b same blank.within blank.before
    (great-word c.args.most rest c.in-Some.len c.in-Some.value some begins read.read read.within c.if-value-most.true)

pub returns-then-not-is_divided : goal.returns-then-not-is_divided
returns-then-not-is_divided c =
    let line = c.args.line.now in
    let b = c.blank_len.result in
    let rest = take (length line - b) (drop b line) in
    let same : rest ≡ drop b line = take_rest line b in
    let blank = c.blank_len.ensures in
    let some : 0 < length rest = grind (arith, nat_tests) in
    let begins = behind-begins line rest b same blank.within blank.found some in
    let read : ReadsDigits rest c.in-Some.len c.in-Some.value = c.in-Some.ensures.some in
    let after = take (length rest - c.in-Some.len) (drop c.in-Some.len rest) in
    let on : goes_on after ≡ true = grind (arith, nat_tests) in
    let there = on-there rest after c.in-Some.len (take_rest rest c.in-Some.len) on in
    behind-other c.args.most line rest b same blank.within blank.before
    (other-word c.args.most rest c.in-Some.len c.in-Some.value some begins read there.0 there.1)

pub returns : goal.returns
returns c =
    let line = c.args.line.now in
    let b = c.blank_len.result in
    let rest = take (length line - b) (drop b line) in
    let same : rest ≡ drop b line = take_rest line b in
    let blank = c.blank_len.ensures in
    let some : 0 < length rest = grind (arith, nat_tests) in
    let begins = behind-begins line rest b same blank.within blank.found some in
    let read : ReadsDigits rest c.in-Some.len c.in-Some.value = c.in-Some.ensures.some in
    let after = take (length rest - c.in-Some.len) (drop c.in-Some.len rest) in
    let off : goes_on after ≡ false = grind (arith, nat_tests) in
    let P : List ℕ → Type 0 = λ w. BeginsWithNumber c.args.most line c.in-Some.value w in
    subst P (sym (take_rest rest c.in-Some.len))
    (behind-number c.args.most line rest (drop c.in-Some.len rest) b c.in-Some.value same blank.within blank.before
    (number-word c.args.most rest c.in-Some.len c.in-Some.value some begins read
    (off-there rest after c.in-Some.len (take_rest rest c.in-Some.len) off) c.if-value-most.false))
