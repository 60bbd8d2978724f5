-- Bytes that are added one after the other.
use Rattle.std.proofs.Common.{◌≡◌, ℕ, List, [], ◌∷◌, ◌++◌, ap, ◌∙◌, append_assoc}
use Rattle.index_file.specs.declared.saved.SavedRun.{SavedRun}
use Rattle.index_file.specs.declared.saved.SavedCut.TheVariants.{Under}
use Rattle.index_file.specs.Spelling.{magic, number, cut_bytes, pair_bytes, run_bytes, head_bytes}

-- three pieces behind the first bytes
three_pieces : (old a b c w1 w2 w3 : List ℕ) → w1 ≡ old ++ a → w2 ≡ w1 ++ b → w3 ≡ w2 ++ c → w3 ≡ old ++ (a ++ (b ++ c))
three_pieces old a b c w1 w2 w3 one two last =
    last ∙ ap (λ (w : List ℕ). w ++ c) (two ∙ ap (λ (w : List ℕ). w ++ b) one)
    ∙ append_assoc (old ++ a) b c ∙ append_assoc old a (b ++ c)

pub cut-added : (old w1 w2 w3 : List ℕ) (p q : ℕ) →
    w1 ≡ old ++ 2 ∷ [] → w2 ≡ w1 ++ number p → w3 ≡ w2 ++ number q → w3 ≡ old ++ cut_bytes (Under p q)
unfolding cut_bytes
cut-added old w1 w2 w3 p q one two last = three_pieces old (2 ∷ []) (number p) (number q) w1 w2 w3 one two last

pub run-added : (old w1 w2 w3 w4 : List ℕ) (run : SavedRun) →
    w1 ≡ old ++ number run.start → w2 ≡ w1 ++ number run.a → w3 ≡ w2 ++ number run.b → w4 ≡ w3 ++ cut_bytes run.cut →
    w4 ≡ old ++ run_bytes run
unfolding run_bytes pair_bytes
run-added old w1 w2 w3 w4 run one two last cut =
    cut ∙ ap (λ (w : List ℕ). w ++ cut_bytes run.cut)
    (three_pieces old (number run.start) (number run.a) (number run.b) w1 w2 w3 one two last)
    ∙ append_assoc old (number run.start ++ (number run.a ++ number run.b)) (cut_bytes run.cut)

pub head-added : (w0 w1 w2 w3 w4 : List ℕ) (eps eps_rec levels : ℕ) →
    w0 ≡ [] → w1 ≡ w0 ++ magic → w2 ≡ w1 ++ number eps → w3 ≡ w2 ++ number eps_rec → w4 ≡ w3 ++ number levels →
    w4 ≡ head_bytes eps eps_rec levels
unfolding head_bytes
head-added w0 w1 w2 w3 w4 eps eps_rec levels none first one two last =
    three_pieces w1 (number eps) (number eps_rec) (number levels) w2 w3 w4 one two last
    ∙ ap (λ (w : List ℕ). w ++ (number eps ++ (number eps_rec ++ number levels)))
    (first ∙ ap (λ (w : List ℕ). w ++ magic) none)
