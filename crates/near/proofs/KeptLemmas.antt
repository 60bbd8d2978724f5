-- What is kept of some pairs after others, in whatever stretches they come.
use Rattle.std.proofs.Common.{◌≡◌, ℕ, ◌+◌, ◌-◌, ◌<◌, ◌≤◌, List, [], ◌∷◌, ◌++◌, length, get_or, set}
use Rattle.std.proofs.Common.{take, drop, All, append_assoc, refl, sym, ap, ◌∙◌, subst, arith}
use Rattle.std.specs.List.{slice_range}
use Rattle.std.specs.List.Sorted.{IsNonDecreasing, IsPermutation}
use Rattle.std.proofs.lemmas.List.{get_or-drop, get_or-take, get_or_default, length-drop}
use Rattle.std.proofs.lemmas.List.{length-map, length-take, map-append, take-append-drop, take_more}
use Rattle.std.proofs.lemmas.List.Elements.{All-append, All-cons, All-drop, All-map, All-nil, All-tail, All-weaker}
use Rattle.std.proofs.lemmas.List.Folds.{drop_split}
use Rattle.std.proofs.lemmas.List.Sorted.{All-permutation, IsPermutation-append_comm, IsPermutation-append_left}
use Rattle.std.proofs.lemmas.List.Sorted.{IsPermutation-append_right, IsPermutation-middle, IsPermutation-refl}
use Rattle.std.proofs.lemmas.List.Sorted.{IsPermutation-sym, IsPermutation-to_front, IsPermutation-trans}
use Rattle.near.specs.Around.{distance}
use Rattle.near.specs.Kept.{AreFirst, AreKept, IsHeapFrom, rank}
use Rattle.near.specs.Nearest.{pairs_of}
use Rattle.near.proofs.HeapLemmas.{heap_front, rank_at}
use Rattle.near.proofs.Ranks.{rank_monotone}

abbrev Pairs : Type 0
Pairs = List (ℕ × ℕ)

-- nothing more
pub kept_none : (old : Pairs) → 0 < length old → IsHeapFrom 0 old → AreKept old [] old
kept_none old some heap = record {
  first = record {
    others = [];
    same = IsPermutation-refl (old ++ []);
    worst = rank_at old 0;
    below = heap_front old heap;
    above = All-nil (λ (pair : ℕ × ℕ). rank_at old 0 ≤ rank pair);
  };
  falls = λ bound all. all 0 (0, 0) some;
}

-- more, none of which stands before all that were kept
pub kept_but : (old more new extra : Pairs) (bound : ℕ) →
    AreKept old more new → All (λ pair. rank pair ≤ bound) old → All (λ pair. bound ≤ rank pair) extra
    → AreKept old (more ++ extra) new
kept_but old more new extra bound kept within beyond =
    let others = kept.first.others in
    let worst = kept.first.worst in
    record {
      first = record {
        others = others ++ extra;
        same = subst (λ (from : Pairs). IsPermutation from (new ++ (others ++ extra))) (append_assoc old more extra)
            (subst (IsPermutation ((old ++ more) ++ extra)) (append_assoc new others extra)
            (IsPermutation-append_left extra (old ++ more) (new ++ others) kept.first.same));
        worst = worst;
        below = kept.first.below;
        above = All-append (λ (pair : ℕ × ℕ). worst ≤ rank pair) others extra kept.first.above
            (All-weaker (λ (pair : ℕ × ℕ). bound ≤ rank pair) (λ (pair : ℕ × ℕ). worst ≤ rank pair)
            (λ pair far. omega (arith, kept.falls bound within)) extra beyond);
      };
      falls = kept.falls;
    }

-- some, and then some more
pub kept_then : (old more mid more' new : Pairs) →
    AreKept old more mid → AreKept mid more' new → AreKept old (more ++ more') new
kept_then old more mid more' new one two =
    let others = one.first.others in
    let others' = two.first.others in
    let worst = two.first.worst in
    let started : IsPermutation ((old ++ more) ++ more') ((mid ++ others) ++ more') =
    IsPermutation-append_left more' (old ++ more) (mid ++ others) one.first.same in
    let behind : IsPermutation ((mid ++ others) ++ more') ((mid ++ more') ++ others) =
    subst (λ (from : Pairs). IsPermutation from ((mid ++ more') ++ others)) (sym (append_assoc mid others more'))
    (subst (IsPermutation (mid ++ (others ++ more'))) (sym (append_assoc mid more' others))
    (IsPermutation-append_right mid (others ++ more') (more' ++ others) (IsPermutation-append_comm others more'))) in
    let ended : IsPermutation ((mid ++ more') ++ others) ((new ++ others') ++ others) =
    IsPermutation-append_left others (mid ++ more') (new ++ others') two.first.same in
    record {
      first = record {
        others = others' ++ others;
        same = subst (λ (from : Pairs). IsPermutation from (new ++ (others' ++ others))) (append_assoc old more more')
            (subst (IsPermutation ((old ++ more) ++ more')) (append_assoc new others' others)
            (IsPermutation-trans
            ((old ++ more) ++ more') ((mid ++ others) ++ more') ((new ++ others') ++ others) started
            (IsPermutation-trans
            ((mid ++ others) ++ more') ((mid ++ more') ++ others) ((new ++ others') ++ others) behind ended)));
        worst = worst;
        below = two.first.below;
        above = All-append (λ (pair : ℕ × ℕ). worst ≤ rank pair) others' others two.first.above
            (All-weaker (λ (pair : ℕ × ℕ). one.first.worst ≤ rank pair) (λ (pair : ℕ × ℕ). worst ≤ rank pair)
            (λ pair far. omega (arith, two.falls one.first.worst one.first.below)) others one.first.above);
      };
      falls = λ bound all. omega (arith, one.falls bound all, two.falls one.first.worst one.first.below);
    }

-- in another order
pub kept_permuted : (old more more' new : Pairs) →
    IsPermutation more more' → AreKept old more new → AreKept old more' new
kept_permuted old more more' new moved kept =
    let back = IsPermutation-append_right old more' more (IsPermutation-sym more more' moved) in
    record {
      first = record {
        others = kept.first.others;
        same = IsPermutation-trans (old ++ more') (old ++ more) (new ++ kept.first.others) back kept.first.same;
        worst = kept.first.worst;
        below = kept.first.below;
        above = kept.first.above;
      };
      falls = kept.falls;
    }

-- none that stands before the one in front
pub kept_no_more : (old extra : Pairs) →
    0 < length old → IsHeapFrom 0 old → All (λ pair. rank_at old 0 ≤ rank pair) extra → AreKept old extra old
kept_no_more old extra some heap behind =
    kept_but old [] old extra (rank_at old 0) (kept_none old some heap) (heap_front old heap) behind

pub kept_not : (old : Pairs) (pair : ℕ × ℕ) →
    0 < length old → IsHeapFrom 0 old → rank_at old 0 ≤ rank pair → AreKept old (pair ∷ []) old
kept_not old pair some heap behind =
    kept_no_more old (pair ∷ []) some heap
    (All-cons (λ (p : ℕ × ℕ). rank_at old 0 ≤ rank p) pair [] behind (All-nil (λ (p : ℕ × ℕ). rank_at old 0 ≤ rank p)))

-- one that does takes its place
pub kept_instead : (old new : Pairs) (pair : ℕ × ℕ) →
    0 < length old → IsHeapFrom 0 old → rank pair < rank_at old 0 → IsPermutation (set old 0 pair) new
    → AreKept old (pair ∷ []) new
kept_instead [] new pair some heap before same = absurd (omega arith)
kept_instead (front ∷ rest) new pair some heap before same =
    let within = heap_front (front ∷ rest) heap in
    let InFront = λ (p : ℕ × ℕ). rank p ≤ rank front in
    let forth : IsPermutation ((front ∷ rest) ++ pair ∷ []) (pair ∷ front ∷ rest) =
    IsPermutation-to_front (front ∷ rest) pair in
    let across :
    IsPermutation (pair ∷ front ∷ rest) (front ∷ pair ∷ rest) = IsPermutation-middle (pair ∷ []) front rest in
    let back : IsPermutation (front ∷ pair ∷ rest) ((pair ∷ rest) ++ front ∷ []) =
    IsPermutation-sym
    ((pair ∷ rest) ++ front ∷ []) (front ∷ pair ∷ rest) (IsPermutation-to_front (pair ∷ rest) front) in
    let settled : IsPermutation ((pair ∷ rest) ++ front ∷ []) (new ++ front ∷ []) =
    IsPermutation-append_left (front ∷ []) (pair ∷ rest) new same in
    record {
      first = record {
        others = front ∷ [];
        same = IsPermutation-trans ((front ∷ rest) ++ pair ∷ []) (pair ∷ front ∷ rest) (new ++ front ∷ []) forth
            (IsPermutation-trans (pair ∷ front ∷ rest) (front ∷ pair ∷ rest) (new ++ front ∷ []) across
            (IsPermutation-trans (front ∷ pair ∷ rest) ((pair ∷ rest) ++ front ∷ []) (new ++ front ∷ []) back settled));
        worst = rank front;
        below = All-permutation InFront
            (pair ∷ rest) new same (All-cons InFront pair rest (omega arith) (All-tail InFront front rest within));
        above = All-cons
            (λ (p : ℕ × ℕ). rank front ≤ rank p) front [] (omega arith) (All-nil (λ (p : ℕ × ℕ). rank front ≤ rank p));
      };
      falls = λ bound all. all 0 (0, 0) some;
    }

-- what is kept reaches no further than what was
pub kept_within : (old more new : Pairs) (bound : ℕ) →
    AreKept old more new → All (λ pair. rank pair ≤ bound) old → All (λ pair. rank pair ≤ bound) new
kept_within old more new bound kept within =
    All-weaker (λ (pair : ℕ × ℕ). rank pair ≤ kept.first.worst)
    (λ (pair : ℕ × ℕ). rank pair ≤ bound) (λ pair near. omega (arith, kept.falls bound within)) new kept.first.below

-- ---- the pairs of codes

module _ (d : ℕ) (centre : List ℕ) where
  abbrev pairs : List ℕ → Pairs
  pairs = pairs_of d centre

  -- one more code
  pub kept_one_more : (codes : List ℕ) (i z : ℕ) (old mid new : Pairs) →
      i < length codes → z ≡ get_or codes i 0 → AreKept old (pairs (take i codes)) mid
      → AreKept mid ((distance d centre z, z) ∷ []) new → AreKept old (pairs (take (i + 1) codes)) new
  kept_one_more codes i z old mid new within is one two =
      let last = ap (λ (w : ℕ). (distance d centre w, w) ∷ []) is in
      let whole : pairs (take i codes) ++ (distance d centre z, z) ∷ [] ≡ pairs (take (i + 1) codes) =
      ap (λ (end : Pairs). pairs (take i codes) ++ end) last
      ∙ sym (map-append (λ (w : ℕ). (distance d centre w, w)) (take i codes) (get_or codes i 0 ∷ []))
      ∙ sym (ap pairs (take_more codes i 0 within)) in
      subst (λ (more : Pairs). AreKept old more new) whole
      (kept_then old (pairs (take i codes)) mid ((distance d centre z, z) ∷ []) new one two)

  -- both parts of codes
  both_parts : (codes : List ℕ) (n : ℕ) → pairs (take n codes) ++ pairs (drop n codes) ≡ pairs codes
  both_parts codes n = sym (map-append (λ (w : ℕ). (distance d centre w, w)) (take n codes) (drop n codes))
      ∙ ap pairs (take-append-drop n codes)

  pub kept_left_first : (codes left right : List ℕ) (n : ℕ) (old mid new : Pairs) →
      left ≡ take n codes → right ≡ drop n codes → AreKept old (pairs left) mid
      → AreKept mid (pairs right) new → AreKept old (pairs codes) new
  kept_left_first codes left right n old mid new is_left is_right one two =
      let whole : pairs left ++ pairs right ≡ pairs codes =
      ap (λ (part : List ℕ). pairs part ++ pairs right) is_left
      ∙ ap (λ (part : List ℕ). pairs (take n codes) ++ pairs part) is_right ∙ both_parts codes n in
      subst (λ (more : Pairs). AreKept old more new) whole (kept_then old (pairs left) mid (pairs right) new one two)

  pub kept_right_first : (codes left right : List ℕ) (n : ℕ) (old mid new : Pairs) →
      left ≡ take n codes → right ≡ drop n codes → AreKept old (pairs right) mid
      → AreKept mid (pairs left) new → AreKept old (pairs codes) new
  kept_right_first codes left right n old mid new is_left is_right one two =
      let whole : pairs left ++ pairs right ≡ pairs codes =
      ap (λ (part : List ℕ). pairs part ++ pairs right) is_left
      ∙ ap (λ (part : List ℕ). pairs (take n codes) ++ pairs part) is_right ∙ both_parts codes n in
      subst (λ (more : Pairs). AreKept old more new) whole
      (kept_permuted old (pairs right ++ pairs left)
      (pairs left ++ pairs right) new (IsPermutation-append_comm (pairs right) (pairs left))
      (kept_then old (pairs right) mid (pairs left) new one two))

  -- codes none of which is nearer, nor less, than such that the one in front stands before
  pub kept_no_further : (codes : List ℕ) (away : ℕ) (old : Pairs) →
      0 < length old → IsHeapFrom 0 old → IsNonDecreasing codes
      → All (λ z. away ≤ distance d centre z) codes →
      rank_at old 0 ≤ rank (away, get_or codes 0 0) → AreKept old (pairs codes) old
  kept_no_further codes away old some heap order far behind =
      kept_no_more old (pairs codes) some heap
      (All-map (λ (pair : ℕ × ℕ). rank_at old 0 ≤ rank pair) (λ (z : ℕ). (distance d centre z, z)) codes
      (λ k e within.
      let less : get_or codes 0 0 ≤ get_or codes k e =
      omega (arith, order 0 k e (omega arith) within, get_or_default codes 0 0 e (omega arith)) in
      omega (
        arith,
        rank_monotone
            (away, get_or codes 0 0) (distance d centre (get_or codes k e), get_or codes k e) (far k e within) less,
      )))

  pub kept_empty : (codes : List ℕ) (old : Pairs) →
      0 < length old → IsHeapFrom 0 old → length codes ≡ 0 → AreKept old (pairs codes) old
  kept_empty codes old some heap none =
      kept_no_more old (pairs codes) some heap
      (λ k e within. absurd (omega (arith, length-map {B = ℕ × ℕ} codes (λ (z : ℕ). (distance d centre z, z)))))

  -- equal codes, from one on that isn't kept
  pub kept_no_equal : (codes : List ℕ) (i z : ℕ) (old mid : Pairs) →
      All (λ w. w ≡ z) codes → 0 < length mid → IsHeapFrom 0 mid
      → rank_at mid 0 ≤ rank (distance d centre z, z) →
      AreKept old (pairs (take i codes)) mid → AreKept old (pairs codes) mid
  kept_no_equal codes i z old mid equal some heap behind so_far =
      let rest = kept_no_more mid (pairs (drop i codes)) some heap
      (All-map (λ (pair : ℕ × ℕ). rank_at mid 0 ≤ rank pair) (λ (w : ℕ). (distance d centre w, w)) (drop i codes)
      (λ k e within. subst (λ (w : ℕ). rank_at mid 0 ≤ rank (distance d centre w, w))
      (sym (All-drop (λ w. w ≡ z) i codes equal k e within)) behind)) in
      kept_left_first codes (take i codes) (drop i codes) i old mid mid refl refl so_far rest

  -- what is kept of some codes, and others before and behind them that the nearest of those don't reach
  pub first_of_all : (codes window : List ℕ) (from to : ℕ) (start new : Pairs) →
      window ≡ slice_range codes from to → from ≤ to
      → IsPermutation (pairs window) start →
      AreKept start (pairs (take from codes) ++ pairs (drop to codes)) new → AreFirst (pairs codes) new
  first_of_all codes window from to start new is order same kept =
      let before = pairs (take from codes) in
      let inner = pairs window in
      let behind = pairs (drop to codes) in
      let rest : window ++ drop to codes ≡ drop from codes = ap (λ (part : List ℕ). part ++ drop to codes) is
      ∙ sym (drop_split codes from to order) in
      let whole : pairs codes ≡ before ++ (inner ++ behind) =
      sym (both_parts codes from)
      ∙ ap (λ (part : Pairs). before ++ part)
      (sym (ap pairs rest) ∙ map-append (λ (w : ℕ). (distance d centre w, w)) window (drop to codes)) in
      let out : IsPermutation (before ++ (inner ++ behind)) (inner ++ (before ++ behind)) =
      subst (λ (from : Pairs). IsPermutation from (inner ++ (before ++ behind))) (append_assoc before inner behind)
      (subst (IsPermutation ((before ++ inner) ++ behind)) (append_assoc inner before behind)
      (IsPermutation-append_left behind
      (before ++ inner) (inner ++ before) (IsPermutation-append_comm before inner))) in
      let moved : IsPermutation (inner ++ (before ++ behind)) (start ++ (before ++ behind)) =
      IsPermutation-append_left (before ++ behind) inner start same in
      record {
        others = kept.first.others;
        same = subst (λ (from : Pairs). IsPermutation from (new ++ kept.first.others)) (sym whole)
            (IsPermutation-trans
            (before ++ (inner ++ behind)) (inner ++ (before ++ behind)) (new ++ kept.first.others) out
            (IsPermutation-trans (inner ++ (before ++ behind))
            (start ++ (before ++ behind)) (new ++ kept.first.others) moved kept.first.same));
        worst = kept.first.worst;
        below = kept.first.below;
        above = kept.first.above;
      }

  -- of some codes those behind a place, where those before it don't stand before what was kept
  pub kept_end : (codes end : List ℕ) (n bound : ℕ) (old new : Pairs) →
      end ≡ drop n codes → AreKept old (pairs end) new → All (λ pair. rank pair ≤ bound) old
      → All (λ z. bound ≤ rank (distance d centre z, z)) (take n codes) → AreKept old (pairs codes) new
  kept_end codes end n bound old new is kept within beyond =
      let beyond' =
      All-map (λ (pair : ℕ × ℕ). bound ≤ rank pair) (λ (z : ℕ). (distance d centre z, z)) (take n codes) beyond in
      let kept' = subst (λ (part : List ℕ). AreKept old (pairs part) new) is kept in
      let more = kept_but old (pairs (drop n codes)) new (pairs (take n codes)) bound kept' within beyond' in
      subst (λ (more : Pairs). AreKept old more new) (both_parts codes n)
      (kept_permuted old
      (pairs (drop n codes) ++ pairs (take n codes)) (pairs (take n codes) ++ pairs (drop n codes)) new
      (IsPermutation-append_comm (pairs (drop n codes)) (pairs (take n codes))) more)

  -- and of some those before a place
  pub kept_begin : (codes begin : List ℕ) (n bound : ℕ) (old new : Pairs) →
      begin ≡ take n codes → AreKept old (pairs begin) new → All (λ pair. rank pair ≤ bound) old
      → All (λ z. bound ≤ rank (distance d centre z, z)) (drop n codes) → AreKept old (pairs codes) new
  kept_begin codes begin n bound old new is kept within beyond =
      let beyond' =
      All-map (λ (pair : ℕ × ℕ). bound ≤ rank pair) (λ (z : ℕ). (distance d centre z, z)) (drop n codes) beyond in
      let kept' = subst (λ (part : List ℕ). AreKept old (pairs part) new) is kept in
      let more = kept_but old (pairs (take n codes)) new (pairs (drop n codes)) bound kept' within beyond' in
      subst (λ (more : Pairs). AreKept old more new) (both_parts codes n) more

  -- of codes those between two places were kept first, and then those around that the last of them doesn't leave out
  pub first_of_parts : (codes : List ℕ) (from to first last : ℕ) (old start mid new : Pairs) →
      from ≤ to → to ≤ length codes
      → old ≡ pairs (slice_range codes from to) →
      IsPermutation old start → IsHeapFrom 0 start → first ≤ from → to ≤ last
      → ((k : ℕ) → k < first → rank_at start 0 ≤ rank (distance d centre (get_or codes k 0), get_or codes k 0))
      → ((k : ℕ) →
      last ≤ k → k < length codes → rank_at start 0 ≤ rank (distance d centre (get_or codes k 0), get_or codes k 0))
      → AreKept start (pairs (drop first (take from codes))) mid →
      AreKept mid (pairs (take (last - to) (drop to codes))) new → AreFirst (pairs codes) new
  first_of_parts codes from to first last old start mid new order inside is same heap low high before behind one two =
      let bound = rank_at start 0 in
      let Beyond = λ (z : ℕ). bound ≤ rank (distance d centre z, z) in
      let begin : All Beyond (take first (take from codes)) = λ k e within.
      let near : k < first = omega (arith, length-take first (take from codes)) in
      let here = get_or-take first (take from codes) k e near
      ∙ get_or-take from codes k e (omega arith) ∙ get_or_default codes k e 0 (omega arith) in
      subst Beyond (sym here) (before k near) in
      let end : All Beyond (drop (last - to) (drop to codes)) = λ k e within.
      let place : to + (last - to + k) ≡ last + k = omega arith in
      let there :
      last + k < length codes = omega (arith, length-drop (last - to) (drop to codes), length-drop to codes) in
      let here = get_or-drop (last - to) (drop to codes) k e
      ∙ get_or-drop to codes (last - to + k) e ∙ ap (λ (n : ℕ). get_or codes n e) place
      ∙ get_or_default codes (last + k) e 0 there in
      subst Beyond (sym here) (behind (last + k) (omega arith) there) in
      let front = heap_front start heap in
      let left = kept_end (take from codes) (drop first (take from codes)) first bound start mid refl one front begin in
      let right = kept_begin (drop to codes) (take (last - to) (drop to codes)) (last - to) bound mid new refl two
      (kept_within start (pairs (drop first (take from codes))) mid bound one front) end in
      first_of_all codes (slice_range codes from to) from to start new refl order
      (subst (λ (list : Pairs). IsPermutation list start) is same)
      (kept_then start (pairs (take from codes)) mid (pairs (drop to codes)) new left right)
