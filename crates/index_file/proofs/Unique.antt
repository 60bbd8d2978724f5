-- A spelling is that of one index: its pieces can be told apart from what follows them.
--
-- Main result: `IsSpelling-unique`.
use Rattle.std.proofs.Common.{◌≡◌, ℕ, suc, ◌^◌, ◌<◌, List, [], ◌∷◌, ◌++◌, length, take}
use Rattle.std.proofs.Common.{drop, get_or, refl, sym, ap, ◌∙◌, append_assoc, arith, All}
use Rattle.std.specs.List.{flat_map}
use Rattle.std.proofs.lemmas.List.{append-nil}
use Rattle.std.proofs.Math.Seq.{take-append_seam, drop-append_seam}
use Rattle.index_file.specs.declared.saved.SavedRun.{SavedRun}
use Rattle.index_file.specs.declared.saved.SavedCut.{SavedCut}
use Rattle.index_file.specs.declared.saved.SavedCut.TheVariants.{Last, Over, Under}
use Rattle.index_file.specs.Spelling.{SavedIndex, number, magic, cut_bytes, pair_bytes, run_bytes, level_bytes}
use Rattle.index_file.specs.Spelling.{head_bytes, index_bytes, CutFits, RunFits, LevelFits, IsSpelling}
use Rattle.index_file.proofs.Numbers.{length-number, number-injective}

-- two pieces of one length, with what follows each
same-left : (a b x y : List ℕ) → length a ≡ length b → a ++ x ≡ b ++ y → a ≡ b
same-left a b x y long same =
    sym (take-append_seam a x) ∙ ap (take (length a)) same ∙ ap (λ (n : ℕ). take n (b ++ y)) long ∙ take-append_seam b y

same-right : (a b x y : List ℕ) → length a ≡ length b → a ++ x ≡ b ++ y → x ≡ y
same-right a b x y long same =
    sym (drop-append_seam a x) ∙ ap (drop (length a)) same ∙ ap (λ (n : ℕ). drop n (b ++ y)) long ∙ drop-append_seam b y

pub number-apart : (a b : ℕ) (x y : List ℕ) →
    a < 2 ^ 32 → b < 2 ^ 32 → number a ++ x ≡ number b ++ y → (a ≡ b) × (x ≡ y)
number-apart a b x y small small' same =
    let long : length (number a) ≡ length (number b) = length-number a ∙ sym (length-number b) in (
      number-injective a b small small' (same-left (number a) (number b) x y long same),
      same-right (number a) (number b) x y long same,
    )

-- the first byte tells the side
sides_differ : (b c : ℕ) (x y : List ℕ) → b < c → b ∷ x ≡ c ∷ y → ⊥
sides_differ b c x y less same = let first : b ≡ c = ap (λ (w : List ℕ). get_or w 0 0) same in omega arith

pub cut-apart : (c d : SavedCut) (x y : List ℕ) →
    CutFits c → CutFits d → cut_bytes c ++ x ≡ cut_bytes d ++ y → (c ≡ d) × (x ≡ y)
unfolding cut_bytes
cut-apart Last Last x y fits fits' same = (refl, ap (drop 1) same)
cut-apart Last Over x y fits fits' same = absurd (sides_differ 0 1 x y (omega arith) same)
cut-apart Last (Under p q) x y fits fits' same =
    absurd (sides_differ 0 2 x ((number p ++ number q) ++ y) (omega arith) same)
cut-apart Over Last x y fits fits' same = absurd (sides_differ 0 1 y x (omega arith) (sym same))
cut-apart Over Over x y fits fits' same = (refl, ap (drop 1) same)
cut-apart Over (Under p q) x y fits fits' same =
    absurd (sides_differ 1 2 x ((number p ++ number q) ++ y) (omega arith) same)
cut-apart (Under p q) Last x y fits fits' same =
    absurd (sides_differ 0 2 y ((number p ++ number q) ++ x) (omega arith) (sym same))
cut-apart (Under p q) Over x y fits fits' same =
    absurd (sides_differ 1 2 y ((number p ++ number q) ++ x) (omega arith) (sym same))
cut-apart (Under p q) (Under p' q') x y fits fits' same =
    let tails : number p ++ (number q ++ x) ≡ number p' ++ (number q' ++ y) = sym (append_assoc (number p) (number q) x)
    ∙ ap (drop 1) same ∙ append_assoc (number p') (number q') y in
    let first = number-apart p p' (number q ++ x) (number q' ++ y) fits.0 fits'.0 tails in
    let second = number-apart q q' x y fits.1 fits'.1 first.1 in
    (ap (λ (n : ℕ). Under n q) first.0 ∙ ap (λ (n : ℕ). Under p' n) second.0, second.1)

-- the pieces of a run, with what follows it
pub run-pieces : (run : SavedRun) (x : List ℕ) →
    run_bytes run ++ x ≡ number run.start ++ (number run.a ++ (number run.b ++ (cut_bytes run.cut ++ x)))
unfolding run_bytes pair_bytes
run-pieces run x =
    append_assoc (number run.start ++ (number run.a ++ number run.b)) (cut_bytes run.cut) x
    ∙ append_assoc (number run.start) (number run.a ++ number run.b) (cut_bytes run.cut ++ x)
    ∙ ap (λ (w : List ℕ). number run.start ++ w) (append_assoc (number run.a) (number run.b) (cut_bytes run.cut ++ x))

run_with : ℕ → ℕ → ℕ → SavedCut → SavedRun
run_with start a b cut = record { start = start; a = a; b = b; cut = cut }

same_run : (r s : SavedRun) → r.start ≡ s.start → r.a ≡ s.a → r.b ≡ s.b → r.cut ≡ s.cut → r ≡ s
unfolding run_with
same_run r s start a b cut =
    ap (λ (n : ℕ). run_with n r.a r.b r.cut) start ∙ ap (λ (n : ℕ). run_with s.start n r.b r.cut) a
    ∙ ap (λ (n : ℕ). run_with s.start s.a n r.cut) b ∙ ap (λ (c : SavedCut). run_with s.start s.a s.b c) cut

pub run-apart : (r s : SavedRun) (x y : List ℕ) →
    RunFits r → RunFits s → run_bytes r ++ x ≡ run_bytes s ++ y → (r ≡ s) × (x ≡ y)
run-apart r s x y fits fits' same =
    let one = number-apart r.start s.start _ _ fits.start fits'.start (sym (run-pieces r x) ∙ same ∙ run-pieces s y) in
    let two = number-apart r.a s.a _ _ fits.a fits'.a one.1 in
    let three = number-apart r.b s.b _ _ fits.b fits'.b two.1 in
    let four = cut-apart r.cut s.cut x y fits.cut fits'.cut three.1 in
    (same_run r s one.0 two.0 three.0 four.0, four.1)

-- lists of pieces that can be told apart, as many in both
module _ {T : Type 0} (f : T → List ℕ)
    (P : T → Type 0) (apart : (r s : T) (x y : List ℕ) → P r → P s → f r ++ x ≡ f s ++ y → (r ≡ s) × (x ≡ y)) where
  pub list-apart : (rs ss : List T) (x y : List ℕ) →
      length rs ≡ length ss → All P rs → All P ss → flat_map f rs ++ x ≡ flat_map f ss ++ y → (rs ≡ ss) × (x ≡ y)
  list-apart [] [] x y long fits fits' same = (refl, same)
  list-apart [] (s ∷ ss) x y long fits fits' same = absurd (omega arith)
  list-apart (r ∷ rs) [] x y long fits fits' same = absurd (omega arith)
  list-apart (r ∷ rs) (s ∷ ss) x y long fits fits' same =
      let first = apart r s (flat_map f rs ++ x) (flat_map f ss ++ y) (fits 0 r (omega arith)) (fits' 0 s (omega arith))
      (sym (append_assoc (f r) (flat_map f rs) x) ∙ same ∙ append_assoc (f s) (flat_map f ss) y) in
      let more = list-apart rs ss x y (omega arith)
      (λ k d less. fits (suc k) d (omega arith)) (λ k d less. fits' (suc k) d (omega arith)) first.1 in
      (ap (λ (h : T). h ∷ rs) first.0 ∙ ap (λ (t : List T). s ∷ t) more.0, more.1)

pub level-pieces : (runs : List SavedRun) (x : List ℕ) →
    level_bytes runs ++ x ≡ number (length runs) ++ (flat_map run_bytes runs ++ x)
unfolding level_bytes
level-pieces runs x = append_assoc (number (length runs)) (flat_map run_bytes runs) x

pub level-apart : (r s : List SavedRun) (x y : List ℕ) →
    LevelFits r → LevelFits s → level_bytes r ++ x ≡ level_bytes s ++ y → (r ≡ s) × (x ≡ y)
level-apart r s x y fits fits' same =
    let count =
    number-apart (length r) (length s) _ _ fits.few fits'.few (sym (level-pieces r x) ∙ same ∙ level-pieces s y) in
    list-apart run_bytes RunFits run-apart r s x y count.0 fits.each fits'.each count.1

index-pieces : (index : SavedIndex) → index_bytes index ≡ magic
    ++ (number index.eps
    ++ (number index.eps_rec ++ (number (length index.levels) ++ (flat_map level_bytes index.levels ++ []))))
unfolding index_bytes head_bytes
index-pieces index =
    let levels = flat_map level_bytes index.levels in
    let count = number (length index.levels) in
    ap (λ (w : List ℕ). (magic ++ (number index.eps ++ (number index.eps_rec ++ count))) ++ w) (sym (append-nil levels))
    ∙ append_assoc magic (number index.eps ++ (number index.eps_rec ++ count)) (levels ++ [])
    ∙ ap (λ (w : List ℕ). magic ++ w) (append_assoc (number index.eps) (number index.eps_rec ++ count) (levels ++ []))
    ∙ ap (λ (w : List ℕ). magic ++ (number index.eps ++ w)) (append_assoc (number index.eps_rec) count (levels ++ []))

index_with : ℕ → ℕ → List (List SavedRun) → SavedIndex
index_with eps eps_rec levels = record { eps = eps; eps_rec = eps_rec; levels = levels }

same_index : (i j : SavedIndex) → i.eps ≡ j.eps → i.eps_rec ≡ j.eps_rec → i.levels ≡ j.levels → i ≡ j
unfolding index_with
same_index i j eps eps_rec levels =
    ap (λ (n : ℕ). index_with n i.eps_rec i.levels) eps ∙ ap (λ (n : ℕ). index_with j.eps n i.levels) eps_rec
    ∙ ap (λ (w : List (List SavedRun)). index_with j.eps j.eps_rec w) levels

pub IsSpelling-unique : (bytes : List ℕ) (i j : SavedIndex) → IsSpelling i bytes → IsSpelling j bytes → i ≡ j
IsSpelling-unique bytes i j one two =
    let b = one.bounded in
    let d = two.bounded in
    let same = sym (index-pieces i) ∙ sym one.written ∙ two.written ∙ index-pieces j in
    let rest = same-right magic magic _ _ refl same in
    let first = number-apart i.eps j.eps _ _ (omega (arith, b.small)) (omega (arith, d.small)) rest in
    let second =
    number-apart i.eps_rec j.eps_rec _ _ (omega (arith, b.small_rec)) (omega (arith, d.small_rec)) first.1 in
    let count = number-apart (length i.levels) (length j.levels) _ _ b.few d.few second.1 in
    let levels = list-apart level_bytes LevelFits level-apart i.levels j.levels [] [] count.0 b.each d.each count.1 in
    same_index i j first.0 second.0 levels.0
