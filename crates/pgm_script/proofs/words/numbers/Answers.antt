use Rattle.std.proofs.Common.{◌≡◌, ◌+◌, ◌++◌, ◌∷◌, [], Ok, ℕ, List, length}
use Rattle.std.proofs.Common.{take, drop, get_or, set, suc, sym, ap, ◌∙◌, arith}
use Rattle.std.proofs.Math.Seq.{take-suc-set}
use Rattle.std.proofs.Math.ListN.{length-set}
use Rattle.pgm_script.specs.Cuts.{BeginsWithNumber}
use Rattle.pgm_script.specs.Words.{words_of}
use Rattle.pgm_script.specs.Scripts.{numbers_of}
use Rattle.pgm_script.proofs.WordLemmas.{has-word, blank-line}
use Rattle.pgm_script.proofs.LineLemmas.{behind, read-more, read-extra, read-all}
use Rattle.pgm_script.proofs.words.numbers.Goals as goal

pub loop-i-preserved : goal.loop-i-preserved
loop-i-preserved c =
    let i = c.loop-i.i in
    let x = c.in_ok-number.number in
    let most = c.args.most.now in
    let cut :
    BeginsWithNumber (get_or most i 0) c.loop-i.rest.now x c.in_ok-number.after.now = c.in_ok-number.ensures in
    let others = words_of c.in_ok-number.after.now in
    let taken : take (i + 1) (set c.loop-i.numbers i x) ≡ take i c.loop-i.numbers ++ x ∷ [] =
    ap (λ (n : ℕ). take n (set c.loop-i.numbers i x)) (let e : i + 1 ≡ suc i = omega arith in e)
    ∙ take-suc-set c.loop-i.numbers i x (omega (arith, c.loop-i.invariant.len)) in
    record {
      read = read-more most _ i _ _ _ others x c.loop-i.invariant.read (omega arith) cut.words cut.is
          ∙ ap (λ (w : List ℕ). behind w (numbers_of (drop (i + 1) most) others)) (sym taken);
      len = length-set c.loop-i.numbers i x ∙ c.loop-i.invariant.len;
    }

pub returns-then-blank_len-rest : goal.returns-then-blank_len-rest
returns-then-blank_len-rest c =
    let rest = c.loop-i.rest.now in
    let has = has-word rest c.blank_len.result c.if-blank_len-rest.true c.blank_len.ensures.before
    (c.blank_len.ensures.found c.if-blank_len-rest.true) in
    read-extra c.args.most.now _ c.loop-i.i _ _ has.word has.others c.loop-i.invariant.read (omega arith) has.words

pub returns : goal.returns
returns c =
    let rest = c.loop-i.rest.now in
    let all : c.loop-i.i ≡ length c.args.most.now = omega arith in
    read-all c.args.most.now _ c.loop-i.i _ _ c.loop-i.invariant.read (omega arith)
    (blank-line rest c.blank_len.result c.blank_len.ensures.within c.if-blank_len-rest.false c.blank_len.ensures.before)
    ∙ ap (λ (n : ℕ). Ok (take n c.loop-i.numbers)) all
