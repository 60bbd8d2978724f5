-- Bytes have one reading at most.
--
-- Main result: `ReadsAs-unique`. A spelling, a front of one, one
-- with more behind it, and one up to a byte that is no side differ
-- at the first place where their pieces do; a wrong byte of
-- PGMINDEX, or a bound that is too great, stands in none of them.
use Rattle.std.proofs.Common.{◌≡◌, ℕ, zero, suc, ◌+◌, ◌^◌, ◌<◌, ◌≤◌, List, [], ◌∷◌, ◌++◌, length, take, drop, get_or}
use Rattle.std.proofs.Common.{refl, sym, ap, ◌∙◌, append_assoc, length-append, inl, inr, arith, All, Result, Ok, Err}
use Rattle.std.specs.List.{flat_map}
use Rattle.std.proofs.lemmas.Bool.{cases_order}
use Rattle.std.proofs.lemmas.List.{append-nil, get_or_append_left}
use Rattle.std.proofs.Math.Seq.{drop-append_seam}
use Rattle.index_file.specs.declared.saved.SavedRun.{SavedRun}
use Rattle.index_file.specs.declared.saved.SavedCut.{SavedCut}
use Rattle.index_file.specs.declared.saved.SavedCut.TheVariants.{Last, Over, Under}
use Rattle.index_file.specs.declared.fault.IndexFault.{IndexFault}
use Rattle.index_file.specs.declared.fault.IndexFault.TheVariants.{ReadFault, Short, Magic, Epsilon}
use Rattle.index_file.specs.declared.fault.IndexFault.TheVariants.{Side, Trailing, NoMemory}
use Rattle.index_file.specs.Spelling.{SavedIndex, number, magic, cut_bytes, pair_bytes, run_bytes}
use Rattle.index_file.specs.Spelling.{level_bytes, head_bytes, index_bytes, RunFits, LevelFits, IsSpelling}
use Rattle.index_file.specs.Stops.{IsBeforeCut, IsBeforeLevelCut, IsSide}
use Rattle.index_file.specs.Faults.{IsShort, IsMagic, IsEpsilon, IsBeforeIndexCut, IsTrailing, FailsAs, ReadsAs}
use Rattle.index_file.proofs.Numbers.{length-number}
use Rattle.index_file.proofs.Unique.{number-apart, run-apart, level-apart, list-apart}
use Rattle.index_file.proofs.Unique.{run-pieces, level-pieces, IsSpelling-unique}

-- the first byte of a cut is at most 2
cut-first : (cut : SavedCut) (x y : List ℕ) (byte : ℕ) → cut_bytes cut ++ x ≡ byte ∷ y → byte ≤ 2
unfolding cut_bytes
cut-first Last x y byte same = let first : 0 ≡ byte = ap (λ (w : List ℕ). get_or w 0 0) same in omega arith
cut-first Over x y byte same = let first : 1 ≡ byte = ap (λ (w : List ℕ). get_or w 0 0) same in omega arith
cut-first (Under p q) x y byte same = let first : 2 ≡ byte = ap (λ (w : List ℕ). get_or w 0 0) same in omega arith

pair-pieces : (start a b : ℕ) (x : List ℕ) → pair_bytes start a b ++ x ≡ number start ++ (number a ++ (number b ++ x))
unfolding pair_bytes
pair-pieces start a b x = append_assoc (number start) (number a ++ number b) x
    ∙ ap (λ (w : List ℕ). number start ++ w) (append_assoc (number a) (number b) x)

-- where a whole run stands, a cut byte is a side
run-whole : (run : SavedRun) (last x y : List ℕ) (byte : ℕ) →
    RunFits run → IsBeforeCut last → run_bytes run ++ x ≡ last ++ byte ∷ y → byte ≤ 2
run-whole run last x y byte fits before same =
    let e = sym (run-pieces run x)
    ∙ same ∙ ap (λ (w : List ℕ). w ++ byte ∷ y) before.6 ∙ pair-pieces before.0 before.1 before.2 (byte ∷ y) in
    let one = number-apart run.start before.0 (number run.a ++ (number run.b ++ (cut_bytes run.cut ++ x)))
    (number before.1 ++ (number before.2 ++ byte ∷ y)) fits.start before.3 e in
    let two = number-apart run.a before.1
    (number run.b ++ (cut_bytes run.cut ++ x)) (number before.2 ++ byte ∷ y) fits.a before.4 one.1 in
    let three = number-apart run.b before.2 (cut_bytes run.cut ++ x) (byte ∷ y) fits.b before.5 two.1 in
    cut-first run.cut x y byte three.1

-- what stands before two cut bytes is one
run-both : (last last' x y : List ℕ) (b c : ℕ) →
    IsBeforeCut last → IsBeforeCut last' → last ++ b ∷ x ≡ last' ++ c ∷ y → last ≡ last'
run-both last last' x y b c before before' same =
    let e = sym (pair-pieces before.0 before.1 before.2 (b ∷ x)) ∙ ap (λ (w : List ℕ). w ++ b ∷ x) (sym before.6)
    ∙ same ∙ ap (λ (w : List ℕ). w ++ c ∷ y) before'.6 ∙ pair-pieces before'.0 before'.1 before'.2 (c ∷ y) in
    let one = number-apart before.0 before'.0 (number before.1 ++ (number before.2 ++ b ∷ x))
    (number before'.1 ++ (number before'.2 ++ c ∷ y)) before.3 before'.3 e in
    let two = number-apart before.1 before'.1
    (number before.2 ++ b ∷ x) (number before'.2 ++ c ∷ y) before.4 before'.4 one.1 in
    let three = number-apart before.2 before'.2 (b ∷ x) (c ∷ y) before.5 before'.5 two.1 in
    before.6
    ∙ ap (λ (n : ℕ). pair_bytes n before.1 before.2) one.0 ∙ ap (λ (n : ℕ). pair_bytes before'.0 n before.2) two.0
    ∙ ap (λ (n : ℕ). pair_bytes before'.0 before'.1 n) three.0 ∙ sym before'.6

-- the same of lists
module _ {T : Type 0} (f : T → List ℕ)
    (P : T → Type 0) (apart : (r s : T) (x y : List ℕ) → P r → P s → f r ++ x ≡ f s ++ y → (r ≡ s) × (x ≡ y))
    (Q : List ℕ → Type 0)
    (whole : (r : T) (last x y : List ℕ) (byte : ℕ) → P r → Q last → f r ++ x ≡ last ++ byte ∷ y → byte ≤ 2)
    (both : (last last' x y : List ℕ) (b c : ℕ) →
    Q last → Q last' → 2 < b → 2 < c → last ++ b ∷ x ≡ last' ++ c ∷ y → last ≡ last') where
  behind : (s : T) (ss : List T) (last z : List ℕ) →
      (flat_map f (s ∷ ss) ++ last) ++ z ≡ f s ++ ((flat_map f ss ++ last) ++ z)
  behind s ss last z = ap (λ (w : List ℕ). w ++ z) (append_assoc (f s) (flat_map f ss) last)
      ∙ append_assoc (f s) (flat_map f ss ++ last) z

  pub list-whole : (rs ss : List T) (last x y : List ℕ) (byte : ℕ) →
      length ss < length rs → All P rs → All P ss → Q last →
      flat_map f rs ++ x ≡ (flat_map f ss ++ last) ++ byte ∷ y → byte ≤ 2
  list-whole [] ss last x y byte less fits fits' before same = absurd (omega arith)
  list-whole (r ∷ rs) [] last x y byte less fits fits' before same =
      whole r last (flat_map f rs ++ x) y byte
      (fits 0 r (omega arith)) before (sym (append_assoc (f r) (flat_map f rs) x) ∙ same)
  list-whole (r ∷ rs) (s ∷ ss) last x y byte less fits fits' before same =
      let first = apart r s
      (flat_map f rs ++ x) ((flat_map f ss ++ last) ++ byte ∷ y) (fits 0 r (omega arith)) (fits' 0 s (omega arith))
      (sym (append_assoc (f r) (flat_map f rs) x) ∙ same ∙ behind s ss last (byte ∷ y)) in
      list-whole rs ss last x y byte (omega arith)
      (λ k d inside. fits (suc k) d (omega arith)) (λ k d inside. fits' (suc k) d (omega arith)) before first.1

  pub list-both : (ss ts : List T) (last last' x y : List ℕ) (b c : ℕ) →
      All P ss → All P ts → Q last → Q last' → 2 < b → 2 < c →
      (flat_map f ss ++ last) ++ b ∷ x ≡ (flat_map f ts ++ last') ++ c ∷ y →
      flat_map f ss ++ last ≡ flat_map f ts ++ last'
  list-both [] [] last last' x y b c fits fits' before before' high high' same =
      both last last' x y b c before before' high high' same
  list-both [] (t ∷ ts) last last' x y b c fits fits' before before' high high' same =
      let low = whole t last ((flat_map f ts ++ last') ++ c ∷ y) x b
      (fits' 0 t (omega arith)) before (sym (behind t ts last' (c ∷ y)) ∙ sym same) in absurd (omega arith)
  list-both (s ∷ ss) [] last last' x y b c fits fits' before before' high high' same =
      let low = whole s last' ((flat_map f ss ++ last) ++ b ∷ x) y c
      (fits 0 s (omega arith)) before' (sym (behind s ss last (b ∷ x)) ∙ same) in absurd (omega arith)
  list-both (s ∷ ss) (t ∷ ts) last last' x y b c fits fits' before before' high high' same =
      let first = apart s t ((flat_map f ss ++ last) ++ b ∷ x)
      ((flat_map f ts ++ last') ++ c ∷ y) (fits 0 s (omega arith)) (fits' 0 t (omega arith))
      (sym (behind s ss last (b ∷ x)) ∙ same ∙ behind t ts last' (c ∷ y)) in
      let more = list-both ss ts last last' x y b c (λ k d inside. fits (suc k) d (omega arith))
      (λ k d inside. fits' (suc k) d (omega arith)) before before' high high' first.1 in
      append_assoc (f s) (flat_map f ss) last ∙ ap (λ (t : T). f t ++ (flat_map f ss ++ last)) first.0
      ∙ ap (λ (w : List ℕ). f t ++ w) more ∙ sym (append_assoc (f t) (flat_map f ts) last')

run-both-high : (last last' x y : List ℕ) (b c : ℕ) →
    IsBeforeCut last → IsBeforeCut last' → 2 < b → 2 < c → last ++ b ∷ x ≡ last' ++ c ∷ y → last ≡ last'
run-both-high last last' x y b c before before' high high' same = run-both last last' x y b c before before' same

-- and of a level
level-whole : (level : List SavedRun) (last x y : List ℕ) (byte : ℕ) →
    LevelFits level → IsBeforeLevelCut last → level_bytes level ++ x ≡ last ++ byte ∷ y → byte ≤ 2
level-whole level last x y byte fits before same =
    let inner = before.3 in
    let count =
    number-apart (length level) before.0 (flat_map run_bytes level ++ x) (before.1 ++ byte ∷ y) fits.few before.2
    (sym (level-pieces level x)
    ∙ same ∙ ap (λ (w : List ℕ). w ++ byte ∷ y) before.4 ∙ append_assoc (number before.0) before.1 (byte ∷ y)) in
    list-whole run_bytes RunFits run-apart IsBeforeCut run-whole run-both-high level inner.0 inner.1 x y byte
    (omega (arith, inner.2, count.0)) fits.each inner.3 inner.4
    (count.1 ∙ ap (λ (w : List ℕ). w ++ byte ∷ y) inner.5)

level-both : (last last' x y : List ℕ) (b c : ℕ) →
    IsBeforeLevelCut last → IsBeforeLevelCut last' → 2 < b → 2 < c → last ++ b ∷ x ≡ last' ++ c ∷ y → last ≡ last'
level-both last last' x y b c before before' high high' same =
    let inner = before.3 in
    let inner' = before'.3 in
    let count = number-apart before.0 before'.0 (before.1 ++ b ∷ x) (before'.1 ++ c ∷ y) before.2 before'.2
    (sym (append_assoc (number before.0) before.1 (b ∷ x)) ∙ ap (λ (w : List ℕ). w ++ b ∷ x) (sym before.4)
    ∙ same ∙ ap (λ (w : List ℕ). w ++ c ∷ y) before'.4 ∙ append_assoc (number before'.0) before'.1 (c ∷ y)) in
    let rest = list-both run_bytes RunFits run-apart IsBeforeCut
    run-whole run-both-high inner.0 inner'.0 inner.1 inner'.1 x y b c inner.3 inner'.3 inner.4 inner'.4 high high'
    (ap (λ (w : List ℕ). w ++ b ∷ x) (sym inner.5) ∙ count.1 ∙ ap (λ (w : List ℕ). w ++ c ∷ y) inner'.5) in
    before.4 ∙ ap (λ (n : ℕ). number n ++ before.1) count.0
    ∙ ap (λ (w : List ℕ). number before'.0 ++ w) (inner.5 ∙ rest ∙ sym inner'.5) ∙ sym before'.4

-- the pieces of a head, with what follows it
pub head-pieces : (eps eps_rec count : ℕ) (x : List ℕ) →
    head_bytes eps eps_rec count ++ x ≡ magic ++ (number eps ++ (number eps_rec ++ (number count ++ x)))
unfolding head_bytes
head-pieces eps eps_rec count x =
    append_assoc magic (number eps ++ (number eps_rec ++ number count)) x
    ∙ ap (λ (w : List ℕ). magic ++ w) (append_assoc (number eps) (number eps_rec ++ number count) x)
    ∙ ap (λ (w : List ℕ). magic ++ (number eps ++ w)) (append_assoc (number eps_rec) (number count) x)

drop-magic : (x y : List ℕ) → magic ++ x ≡ magic ++ y → x ≡ y
drop-magic x y same = ap (drop 8) same

-- bytes, with more, that begin with a head whose bounds are right as far as they are whole in the bytes
record Begins (bytes : List ℕ) : Type 0 where
  eps : ℕ
  eps_rec : ℕ
  count : ℕ
  more : List ℕ
  left : List ℕ
  fits : eps < 2 ^ 32
  fits_rec : eps_rec < 2 ^ 32
  few : count < 2 ^ 32
  small : 12 ≤ length bytes → eps ≤ 1048576
  small_rec : 16 ≤ length bytes → eps_rec ≤ 1048576
  stand : bytes ++ more ≡ head_bytes eps eps_rec count ++ left

index-head : (index : SavedIndex) →
    index_bytes index ≡ head_bytes index.eps index.eps_rec (length index.levels) ++ flat_map level_bytes index.levels
unfolding index_bytes
index-head index = refl

begins-index : (bytes : List ℕ) (index : SavedIndex) → IsSpelling index bytes → Begins bytes
begins-index bytes index spelled = record {
  eps = index.eps;
  eps_rec = index.eps_rec;
  count = length index.levels;
  more = [];
  left = flat_map level_bytes index.levels;
  fits = omega (arith, spelled.bounded.small);
  fits_rec = omega (arith, spelled.bounded.small_rec);
  few = spelled.bounded.few;
  small = λ _. spelled.bounded.small;
  small_rec = λ _. spelled.bounded.small_rec;
  stand = append-nil bytes ∙ spelled.written ∙ index-head index;
}

begins-short : (bytes : List ℕ) (got : ℕ) → IsShort bytes got → Begins bytes
begins-short bytes got short =
    let form = short.front.whole in
    record {
      eps = form.eps;
      eps_rec = form.eps_rec;
      count = form.count;
      more = short.front.rest;
      left = form.levels;
      fits = form.fits;
      fits_rec = form.fits_rec;
      few = form.few;
      small = λ whole. form.small (omega (arith, whole, short.all));
      small_rec = λ whole. form.small_rec (omega (arith, whole, short.all));
      stand = form.stand;
    }

begins-side : (bytes : List ℕ) (at byte : ℕ) → IsSide IsBeforeIndexCut 0 bytes at byte → Begins bytes
begins-side bytes at byte side =
    let before = side.before_cut in
    record {
      eps = before.0;
      eps_rec = before.1;
      count = before.2;
      more = [];
      left = before.3 ++ byte ∷ side.behind;
      fits = omega (arith, before.4);
      fits_rec = omega (arith, before.5);
      few = before.6;
      small = λ _. before.4;
      small_rec = λ _. before.5;
      stand = append-nil bytes ∙ side.stand ∙ ap (λ (w : List ℕ). w ++ byte ∷ side.behind) before.8
          ∙ append_assoc (head_bytes before.0 before.1 before.2) before.3 (byte ∷ side.behind);
    }

begins-trailing : (bytes : List ℕ) (byte : ℕ) → IsTrailing bytes byte → Begins bytes
begins-trailing bytes byte trailing =
    let index = trailing.index in
    record {
      eps = index.eps;
      eps_rec = index.eps_rec;
      count = length index.levels;
      more = [];
      left = flat_map level_bytes index.levels ++ byte ∷ trailing.behind;
      fits = omega (arith, trailing.bounded.small);
      fits_rec = omega (arith, trailing.bounded.small_rec);
      few = trailing.bounded.few;
      small = λ _. trailing.bounded.small;
      small_rec = λ _. trailing.bounded.small_rec;
      stand = append-nil bytes ∙ trailing.stand ∙ ap (λ (w : List ℕ). w ++ byte ∷ trailing.behind) (index-head index)
          ∙ append_assoc (head_bytes index.eps index.eps_rec (length index.levels))
          (flat_map level_bytes index.levels) (byte ∷ trailing.behind);
    }

-- bytes, with more, that are a head, its levels, and `x` behind them
record Ends (bytes more x : List ℕ) : Type 0 where
  eps : ℕ
  eps_rec : ℕ
  count : ℕ
  levels : List (List SavedRun)
  fits : eps < 2 ^ 32
  fits_rec : eps_rec < 2 ^ 32
  few : count < 2 ^ 32
  long : length levels ≡ count
  each : All LevelFits levels
  stand : bytes ++ more ≡ head_bytes eps eps_rec count ++ (flat_map level_bytes levels ++ x)

ends-index : (bytes : List ℕ) (index : SavedIndex) → IsSpelling index bytes → Ends bytes [] []
ends-index bytes index spelled = record {
  eps = index.eps;
  eps_rec = index.eps_rec;
  count = length index.levels;
  levels = index.levels;
  fits = omega (arith, spelled.bounded.small);
  fits_rec = omega (arith, spelled.bounded.small_rec);
  few = spelled.bounded.few;
  long = refl;
  each = spelled.bounded.each;
  stand = append-nil bytes ∙ spelled.written ∙ index-head index
      ∙ ap (λ (w : List ℕ). head_bytes index.eps index.eps_rec (length index.levels) ++ w)
      (sym (append-nil (flat_map level_bytes index.levels)));
}

ends-short : (bytes : List ℕ) (got : ℕ) (short : IsShort bytes got) → Ends bytes short.front.rest []
ends-short bytes got short =
    let form = short.front.whole in
    record {
      eps = form.eps;
      eps_rec = form.eps_rec;
      count = form.count;
      levels = form.are.0;
      fits = form.fits;
      fits_rec = form.fits_rec;
      few = form.few;
      long = form.are.1;
      each = form.are.2;
      stand = form.stand ∙ ap (λ (w : List ℕ). head_bytes form.eps form.eps_rec form.count ++ w)
          (form.are.3 ∙ sym (append-nil (flat_map level_bytes form.are.0)));
    }

ends-trailing : (bytes : List ℕ) (byte : ℕ) (trailing : IsTrailing bytes byte) → Ends bytes [] (byte ∷ trailing.behind)
ends-trailing bytes byte trailing =
    let index = trailing.index in
    record {
      eps = index.eps;
      eps_rec = index.eps_rec;
      count = length index.levels;
      levels = index.levels;
      fits = omega (arith, trailing.bounded.small);
      fits_rec = omega (arith, trailing.bounded.small_rec);
      few = trailing.bounded.few;
      long = refl;
      each = trailing.bounded.each;
      stand = append-nil bytes ∙ trailing.stand ∙ ap (λ (w : List ℕ). w ++ byte ∷ trailing.behind) (index-head index)
          ∙ append_assoc (head_bytes index.eps index.eps_rec (length index.levels))
          (flat_map level_bytes index.levels) (byte ∷ trailing.behind);
    }

-- where the bytes are all that stands in one, they go on to what is behind the levels of the other
ends-apart : (bytes x more y : List ℕ) → Ends bytes [] x → Ends bytes more y → x ++ more ≡ y
ends-apart bytes x more y one two =
    let L = flat_map level_bytes one.levels in
    let M = flat_map level_bytes two.levels in
    let whole : head_bytes one.eps one.eps_rec one.count
    ++ (L ++ (x ++ more)) ≡ head_bytes two.eps two.eps_rec two.count ++ (M ++ y) =
    ap (λ (w : List ℕ). head_bytes one.eps one.eps_rec one.count ++ w) (sym (append_assoc L x more))
    ∙ sym (append_assoc (head_bytes one.eps one.eps_rec one.count) (L ++ x) more)
    ∙ ap (λ (w : List ℕ). w ++ more) (sym one.stand ∙ append-nil bytes) ∙ two.stand in
    let tails = drop-magic _ _
    (sym (head-pieces one.eps one.eps_rec one.count (L ++ (x ++ more)))
    ∙ whole ∙ head-pieces two.eps two.eps_rec two.count (M ++ y)) in
    let first = number-apart one.eps two.eps (number one.eps_rec ++ (number one.count ++ (L ++ (x ++ more))))
    (number two.eps_rec ++ (number two.count ++ (M ++ y))) one.fits two.fits tails in
    let second = number-apart one.eps_rec two.eps_rec
    (number one.count ++ (L ++ (x ++ more))) (number two.count ++ (M ++ y)) one.fits_rec two.fits_rec first.1 in
    let third = number-apart one.count two.count (L ++ (x ++ more)) (M ++ y) one.few two.few second.1 in
    (list-apart level_bytes LevelFits level-apart one.levels two.levels
    (x ++ more) y (one.long ∙ third.0 ∙ sym two.long) one.each two.each third.1).1

-- a byte that is no side stands in no levels
side-ends : (bytes more x : List ℕ) (at byte : ℕ) → IsSide IsBeforeIndexCut 0 bytes at byte → Ends bytes more x → ⊥
side-ends bytes more x at byte side ends =
    let before = side.before_cut in
    let L = flat_map level_bytes ends.levels in
    let inner = before.7 in
    let whole : head_bytes ends.eps ends.eps_rec ends.count
    ++ (L ++ x) ≡ head_bytes before.0 before.1 before.2 ++ (before.3 ++ byte ∷ (side.behind ++ more)) =
    sym ends.stand ∙ ap (λ (w : List ℕ). w ++ more) (side.stand ∙ ap (λ (w : List ℕ). w ++ byte ∷ side.behind) before.8)
    ∙ append_assoc (head_bytes before.0 before.1 before.2 ++ before.3) (byte ∷ side.behind) more
    ∙ append_assoc (head_bytes before.0 before.1 before.2) before.3 (byte ∷ (side.behind ++ more)) in
    let tails = drop-magic _ _
    (sym (head-pieces ends.eps ends.eps_rec ends.count (L ++ x))
    ∙ whole ∙ head-pieces before.0 before.1 before.2 (before.3 ++ byte ∷ (side.behind ++ more))) in
    let first = number-apart ends.eps before.0 (number ends.eps_rec ++ (number ends.count ++ (L ++ x)))
    (number before.1 ++ (number before.2 ++ (before.3 ++ byte ∷ (side.behind ++ more)))) ends.fits
    (omega (arith, before.4)) tails in
    let second = number-apart ends.eps_rec before.1
    (number ends.count ++ (L ++ x)) (number before.2 ++ (before.3 ++ byte ∷ (side.behind ++ more))) ends.fits_rec
    (omega (arith, before.5)) first.1 in
    let third = number-apart ends.count before.2
    (L ++ x) (before.3 ++ byte ∷ (side.behind ++ more)) ends.few before.6 second.1 in
    let low = list-whole level_bytes LevelFits level-apart IsBeforeLevelCut level-whole level-both ends.levels inner.0
    inner.1 x (side.behind ++ more) byte (omega (arith, inner.2, ends.long, third.0)) ends.each inner.3 inner.4
    (third.1 ∙ ap (λ (w : List ℕ). w ++ byte ∷ (side.behind ++ more)) inner.5) in
    omega (arith, low, side.no_side)

-- and it is one
side-side : (bytes : List ℕ) (at at' byte byte' : ℕ) →
    IsSide IsBeforeIndexCut 0 bytes at byte → IsSide IsBeforeIndexCut 0 bytes at' byte' → (at ≡ at') × (byte ≡ byte')
side-side bytes at at' byte byte' side side' =
    let before = side.before_cut in
    let before' = side'.before_cut in
    let inner = before.7 in
    let inner' = before'.7 in
    let whole : head_bytes before.0 before.1 before.2 ++ (before.3 ++ byte ∷ side.behind)
    ≡ head_bytes before'.0 before'.1 before'.2 ++ (before'.3 ++ byte' ∷ side'.behind) =
    sym (append_assoc (head_bytes before.0 before.1 before.2) before.3 (byte ∷ side.behind))
    ∙ ap (λ (w : List ℕ). w ++ byte ∷ side.behind) (sym before.8) ∙ sym side.stand ∙ side'.stand
    ∙ ap (λ (w : List ℕ). w ++ byte' ∷ side'.behind) before'.8
    ∙ append_assoc (head_bytes before'.0 before'.1 before'.2) before'.3 (byte' ∷ side'.behind) in
    let tails = drop-magic _ _
    (sym (head-pieces before.0 before.1 before.2 (before.3 ++ byte ∷ side.behind))
    ∙ whole ∙ head-pieces before'.0 before'.1 before'.2 (before'.3 ++ byte' ∷ side'.behind)) in
    let first =
    number-apart before.0 before'.0 (number before.1 ++ (number before.2 ++ (before.3 ++ byte ∷ side.behind)))
    (number before'.1 ++ (number before'.2 ++ (before'.3 ++ byte' ∷ side'.behind)))
    (omega (arith, before.4)) (omega (arith, before'.4)) tails in
    let second = number-apart before.1 before'.1
    (number before.2 ++ (before.3 ++ byte ∷ side.behind)) (number before'.2 ++ (before'.3 ++ byte' ∷ side'.behind))
    (omega (arith, before.5)) (omega (arith, before'.5)) first.1 in
    let third = number-apart before.2 before'.2
    (before.3 ++ byte ∷ side.behind) (before'.3 ++ byte' ∷ side'.behind) before.6 before'.6 second.1 in
    let rest =
    list-both level_bytes LevelFits level-apart IsBeforeLevelCut level-whole level-both inner.0 inner'.0 inner.1
    inner'.1 side.behind side'.behind byte byte' inner.3 inner'.3 inner.4 inner'.4 side.no_side side'.no_side
    (ap (λ (w : List ℕ). w ++ byte ∷ side.behind) (sym inner.5)
    ∙ third.1 ∙ ap (λ (w : List ℕ). w ++ byte' ∷ side'.behind) inner'.5) in
    let same : side.front ≡ side'.front =
    before.8 ∙ ap (λ (n : ℕ). head_bytes n before.1 before.2 ++ before.3) first.0
    ∙ ap (λ (n : ℕ). head_bytes before'.0 n before.2 ++ before.3) second.0
    ∙ ap (λ (n : ℕ). head_bytes before'.0 before'.1 n ++ before.3) third.0
    ∙ ap (λ (w : List ℕ). head_bytes before'.0 before'.1 before'.2 ++ w) (inner.5 ∙ rest ∙ sym inner'.5)
    ∙ sym before'.8 in
    let long : length side.front ≡ length side'.front = ap length same in
    let last : byte ∷ side.behind ≡ byte' ∷ side'.behind =
    sym (drop-append_seam side.front (byte ∷ side.behind))
    ∙ ap (drop (length side.front)) (sym side.stand ∙ side'.stand)
    ∙ ap (λ (n : ℕ). drop n (side'.front ++ byte' ∷ side'.behind)) long
    ∙ drop-append_seam side'.front (byte' ∷ side'.behind) in
    (omega (arith, side.place, side'.place, long), ap (λ (w : List ℕ). get_or w 0 0) last)

-- a bound that is too great stands in no head
epsilon-begins : (bytes : List ℕ) (value : ℕ) → IsEpsilon bytes value → Begins bytes → ⊥
epsilon-begins bytes value epsilon begins =
    elim epsilon.stands [
      | inl stand ↦
          let tails = drop-magic _ _
          (sym (append_assoc magic (number value ++ epsilon.behind) begins.more)
          ∙ ap (λ (w : List ℕ). w ++ begins.more) (sym stand)
          ∙ begins.stand ∙ head-pieces begins.eps begins.eps_rec begins.count begins.left) in
          let first = number-apart value begins.eps (epsilon.behind ++ begins.more)
          (number begins.eps_rec ++ (number begins.count ++ begins.left)) epsilon.fits begins.fits
          (sym (append_assoc (number value) epsilon.behind begins.more) ∙ tails) in
          let long : length bytes ≡ 8 + (4 + length epsilon.behind) = ap length stand
          ∙ length-append magic (number value ++ epsilon.behind) ∙ ap (λ (n : ℕ). 8 + n)
          (length-append (number value) epsilon.behind
          ∙ ap (λ (n : ℕ). n + length epsilon.behind) (length-number value)) in
          omega (arith, first.0, epsilon.great, begins.small (omega (arith, long)))
      | inr later ↦
          let eps = later.0 in
          let stand = later.2 in
          let tails = drop-magic _ _
          (sym (append_assoc magic (number eps ++ (number value ++ epsilon.behind)) begins.more)
          ∙ ap (λ (w : List ℕ). w ++ begins.more) (sym stand)
          ∙ begins.stand ∙ head-pieces begins.eps begins.eps_rec begins.count begins.left) in
          let first = number-apart eps begins.eps ((number value ++ epsilon.behind) ++ begins.more)
          (number begins.eps_rec ++ (number begins.count ++ begins.left)) (omega (arith, later.1)) begins.fits
          (sym (append_assoc (number eps) (number value ++ epsilon.behind) begins.more) ∙ tails) in
          let second =
          number-apart value begins.eps_rec (epsilon.behind ++ begins.more) (number begins.count ++ begins.left)
          epsilon.fits begins.fits_rec (sym (append_assoc (number value) epsilon.behind begins.more) ∙ first.1) in
          let long : length bytes ≡ 8 + (4 + (4 + length epsilon.behind)) = ap length stand
          ∙ length-append magic (number eps ++ (number value ++ epsilon.behind))
          ∙ ap (λ (n : ℕ). 8 + n)
          (length-append (number eps) (number value ++ epsilon.behind)
          ∙ ap (λ (n : ℕ). n + length (number value ++ epsilon.behind)) (length-number eps)
          ∙ ap (λ (n : ℕ). 4 + n)
          (length-append (number value) epsilon.behind
          ∙ ap (λ (n : ℕ). n + length epsilon.behind) (length-number value))) in
          omega (arith, second.0, epsilon.great, begins.small_rec (omega (arith, long)))
    ]

epsilon-epsilon : (bytes : List ℕ) (v w : ℕ) → IsEpsilon bytes v → IsEpsilon bytes w → v ≡ w
epsilon-epsilon bytes v w one two =
    elim one.stands [
      | inl s ↦ elim two.stands [
        | inl t ↦ (number-apart v w one.behind two.behind one.fits two.fits (drop-magic _ _ (sym s ∙ t))).0
        | inr t ↦ let first = number-apart v t.0 one.behind (number w ++ two.behind) one.fits
            (omega (arith, t.1)) (drop-magic _ _ (sym s ∙ t.2)) in absurd (omega (arith, first.0, one.great, t.1))
      ]
      | inr s ↦ elim two.stands [
        | inl t ↦ let first = number-apart s.0 w (number v ++ one.behind) two.behind (omega (arith, s.1)) two.fits
            (drop-magic _ _ (sym s.2 ∙ t)) in absurd (omega (arith, first.0, two.great, s.1))
        | inr t ↦
            let first = number-apart s.0 t.0 (number v ++ one.behind)
            (number w ++ two.behind) (omega (arith, s.1)) (omega (arith, t.1)) (drop-magic _ _ (sym s.2 ∙ t.2)) in
            (number-apart v w one.behind two.behind one.fits two.fits first.1).0
      ]
    ]

-- nor does a wrong byte in PGMINDEX
magic-stands : (bytes more z : List ℕ) (at : ℕ) → IsMagic bytes at → bytes ++ more ≡ magic ++ z → ⊥
magic-stands bytes more z at wrong stand =
    wrong.differs (sym (get_or_append_left bytes more 0 at wrong.there)
    ∙ ap (λ (w : List ℕ). get_or w at 0) stand ∙ get_or_append_left magic z 0 at wrong.within)

magic-begins : (bytes : List ℕ) (at : ℕ) → IsMagic bytes at → Begins bytes → ⊥
magic-begins bytes at wrong begins =
    magic-stands bytes begins.more
    (number begins.eps ++ (number begins.eps_rec ++ (number begins.count ++ begins.left))) at wrong
    (begins.stand ∙ head-pieces begins.eps begins.eps_rec begins.count begins.left)

magic-epsilon : (bytes : List ℕ) (at value : ℕ) → IsMagic bytes at → IsEpsilon bytes value → ⊥
magic-epsilon bytes at value wrong epsilon =
    elim epsilon.stands [
      | inl stand ↦ magic-stands bytes [] (number value ++ epsilon.behind) at wrong (append-nil bytes ∙ stand)
      | inr later ↦ magic-stands bytes []
          (number later.0 ++ (number value ++ epsilon.behind)) at wrong (append-nil bytes ∙ later.2)
    ]

get-take : (n : ℕ) (xs : List ℕ) (k : ℕ) → k < n → n ≤ length xs → get_or (take n xs) k 0 ≡ get_or xs k 0
get-take zero xs k less long = absurd (omega arith)
get-take (suc n) [] k less long = absurd (omega arith)
get-take (suc n) (x ∷ xs) zero less long = refl
get-take (suc n) (x ∷ xs) (suc k) less long = get-take n xs k (omega arith) (omega arith)

magic-before : (bytes : List ℕ) (at at' : ℕ) → IsMagic bytes at → IsMagic bytes at' → at < at' → ⊥
magic-before bytes at at' one two less =
    one.differs (sym (get-take at' bytes at less (omega (arith, two.there)))
    ∙ ap (λ (w : List ℕ). get_or w at 0) two.before ∙ get-take at' magic at less (omega (arith, two.within)))

magic-magic : (bytes : List ℕ) (at at' : ℕ) → IsMagic bytes at → IsMagic bytes at' → at ≡ at'
magic-magic bytes at at' one two =
    elim (cases_order at at') [
      | inl same ↦ same
      | inr (inl less) ↦ absurd (magic-before bytes at at' one two less)
      | inr (inr more) ↦ absurd (magic-before bytes at' at two one more)
    ]

-- the four kinds of readings that stand behind a right head
short-index : (bytes : List ℕ) (got : ℕ) (index : SavedIndex) → IsShort bytes got → IsSpelling index bytes → ⊥
short-index bytes got index short spelled =
    let none : [] ++ short.front.rest
    ≡ [] = ends-apart bytes [] short.front.rest [] (ends-index bytes index spelled) (ends-short bytes got short) in
    omega (arith, short.front.more, ap length none)

short-trailing : (bytes : List ℕ) (got byte : ℕ) → IsShort bytes got → IsTrailing bytes byte → ⊥
short-trailing bytes got byte short trailing =
    let none : (byte ∷ trailing.behind) ++ short.front.rest ≡ [] = ends-apart bytes
    (byte ∷ trailing.behind) short.front.rest [] (ends-trailing bytes byte trailing) (ends-short bytes got short) in
    omega (arith, ap length none)

trailing-index : (bytes : List ℕ) (byte : ℕ) (index : SavedIndex) → IsTrailing bytes byte → IsSpelling index bytes → ⊥
trailing-index bytes byte index trailing spelled =
    let none : [] ++ [] ≡ byte ∷ trailing.behind = ends-apart bytes [] []
    (byte ∷ trailing.behind) (ends-index bytes index spelled) (ends-trailing bytes byte trailing) in
    omega (arith, ap length none)

trailing-trailing : (bytes : List ℕ) (b c : ℕ) → IsTrailing bytes b → IsTrailing bytes c → b ≡ c
trailing-trailing bytes b c one two =
    let same : (b ∷ one.behind) ++ [] ≡ c ∷ two.behind =
    ends-apart bytes (b ∷ one.behind) [] (c ∷ two.behind) (ends-trailing bytes b one) (ends-trailing bytes c two) in
    ap (λ (w : List ℕ). get_or w 0 0) same

pub FailsAs-no_index : (bytes : List ℕ) (index : SavedIndex) (fault : IndexFault) →
    IsSpelling index bytes → FailsAs bytes fault → ⊥
FailsAs-no_index bytes index ReadFault spelled fails = fails
FailsAs-no_index bytes index (Short got) spelled fails = short-index bytes got index fails spelled
FailsAs-no_index bytes index (Magic at) spelled fails = magic-begins bytes at fails (begins-index bytes index spelled)
FailsAs-no_index bytes index (Epsilon value) spelled fails =
    epsilon-begins bytes value fails (begins-index bytes index spelled)
FailsAs-no_index bytes index (Side at byte) spelled fails =
    side-ends bytes [] [] at byte fails (ends-index bytes index spelled)
FailsAs-no_index bytes index (Trailing byte) spelled fails = trailing-index bytes byte index fails spelled
FailsAs-no_index bytes index NoMemory spelled fails = fails

-- each fault, against all others
short-fault : (bytes : List ℕ) (got : ℕ) (fault : IndexFault) →
    IsShort bytes got → FailsAs bytes fault → Short got ≡ fault
short-fault bytes got ReadFault one two = absurd two
short-fault bytes got (Short got') one two = ap Short (one.all ∙ sym two.all)
short-fault bytes got (Magic at) one two = absurd (magic-begins bytes at two (begins-short bytes got one))
short-fault bytes got (Epsilon value) one two = absurd (epsilon-begins bytes value two (begins-short bytes got one))
short-fault bytes got (Side at byte) one two =
    absurd (side-ends bytes one.front.rest [] at byte two (ends-short bytes got one))
short-fault bytes got (Trailing byte) one two = absurd (short-trailing bytes got byte one two)
short-fault bytes got NoMemory one two = absurd two

magic-fault : (bytes : List ℕ) (at : ℕ) (fault : IndexFault) → IsMagic bytes at → FailsAs bytes fault → Magic at ≡ fault
magic-fault bytes at ReadFault one two = absurd two
magic-fault bytes at (Short got) one two = absurd (magic-begins bytes at one (begins-short bytes got two))
magic-fault bytes at (Magic at') one two = ap Magic (magic-magic bytes at at' one two)
magic-fault bytes at (Epsilon value) one two = absurd (magic-epsilon bytes at value one two)
magic-fault bytes at (Side at' byte) one two = absurd (magic-begins bytes at one (begins-side bytes at' byte two))
magic-fault bytes at (Trailing byte) one two = absurd (magic-begins bytes at one (begins-trailing bytes byte two))
magic-fault bytes at NoMemory one two = absurd two

epsilon-fault : (bytes : List ℕ) (value : ℕ) (fault : IndexFault) →
    IsEpsilon bytes value → FailsAs bytes fault → Epsilon value ≡ fault
epsilon-fault bytes value ReadFault one two = absurd two
epsilon-fault bytes value (Short got) one two = absurd (epsilon-begins bytes value one (begins-short bytes got two))
epsilon-fault bytes value (Magic at) one two = absurd (magic-epsilon bytes at value two one)
epsilon-fault bytes value (Epsilon value') one two = ap Epsilon (epsilon-epsilon bytes value value' one two)
epsilon-fault bytes value (Side at byte) one two =
    absurd (epsilon-begins bytes value one (begins-side bytes at byte two))
epsilon-fault bytes value (Trailing byte) one two =
    absurd (epsilon-begins bytes value one (begins-trailing bytes byte two))
epsilon-fault bytes value NoMemory one two = absurd two

side-fault : (bytes : List ℕ) (at byte : ℕ) (fault : IndexFault) →
    IsSide IsBeforeIndexCut 0 bytes at byte → FailsAs bytes fault → Side at byte ≡ fault
side-fault bytes at byte ReadFault one two = absurd two
side-fault bytes at byte (Short got) one two =
    absurd (side-ends bytes two.front.rest [] at byte one (ends-short bytes got two))
side-fault bytes at byte (Magic at') one two = absurd (magic-begins bytes at' two (begins-side bytes at byte one))
side-fault bytes at byte (Epsilon value) one two =
    absurd (epsilon-begins bytes value two (begins-side bytes at byte one))
side-fault bytes at byte (Side at' byte') one two =
    let same = side-side bytes at at' byte byte' one two in
    ap (λ (n : ℕ). Side n byte) same.0 ∙ ap (λ (n : ℕ). Side at' n) same.1
side-fault bytes at byte (Trailing byte') one two =
    absurd (side-ends bytes [] (byte' ∷ two.behind) at byte one (ends-trailing bytes byte' two))
side-fault bytes at byte NoMemory one two = absurd two

trailing-fault : (bytes : List ℕ) (byte : ℕ) (fault : IndexFault) →
    IsTrailing bytes byte → FailsAs bytes fault → Trailing byte ≡ fault
trailing-fault bytes byte ReadFault one two = absurd two
trailing-fault bytes byte (Short got) one two = absurd (short-trailing bytes got byte two one)
trailing-fault bytes byte (Magic at) one two = absurd (magic-begins bytes at two (begins-trailing bytes byte one))
trailing-fault bytes byte (Epsilon value) one two =
    absurd (epsilon-begins bytes value two (begins-trailing bytes byte one))
trailing-fault bytes byte (Side at byte') one two =
    absurd (side-ends bytes [] (byte ∷ one.behind) at byte' two (ends-trailing bytes byte one))
trailing-fault bytes byte (Trailing byte') one two = ap Trailing (trailing-trailing bytes byte byte' one two)
trailing-fault bytes byte NoMemory one two = absurd two

pub FailsAs-unique : (bytes : List ℕ) (one two : IndexFault) → FailsAs bytes one → FailsAs bytes two → one ≡ two
FailsAs-unique bytes ReadFault two fails fails' = absurd fails
FailsAs-unique bytes (Short got) two fails fails' = short-fault bytes got two fails fails'
FailsAs-unique bytes (Magic at) two fails fails' = magic-fault bytes at two fails fails'
FailsAs-unique bytes (Epsilon value) two fails fails' = epsilon-fault bytes value two fails fails'
FailsAs-unique bytes (Side at byte) two fails fails' = side-fault bytes at byte two fails fails'
FailsAs-unique bytes (Trailing byte) two fails fails' = trailing-fault bytes byte two fails fails'
FailsAs-unique bytes NoMemory two fails fails' = absurd fails

pub ReadsAs-unique : (bytes : List ℕ) (one two : Result SavedIndex IndexFault) →
    ReadsAs bytes one → ReadsAs bytes two → one ≡ two
ReadsAs-unique bytes (Ok i) (Ok j) reads reads' = ap Ok (IsSpelling-unique bytes i j reads reads')
ReadsAs-unique bytes (Ok i) (Err fault) reads reads' = absurd (FailsAs-no_index bytes i fault reads reads')
ReadsAs-unique bytes (Err fault) (Ok j) reads reads' = absurd (FailsAs-no_index bytes j fault reads' reads)
ReadsAs-unique bytes (Err one) (Err two) reads reads' = ap Err (FailsAs-unique bytes one two reads reads')
