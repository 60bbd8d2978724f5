-- What is kept of some places after others, in whatever stretches they come.
use Rattle.std.proofs.Common.{ℕ, ◌<◌, ◌≤◌, List, [], ◌∷◌, ◌++◌, length, set, All, append_assoc, sym, subst, arith}
use Rattle.std.specs.List.Sorted.{IsPermutation}
use Rattle.std.proofs.lemmas.List.Elements.{All-append, All-cons, All-nil, All-tail, All-weaker}
use Rattle.std.proofs.lemmas.List.Sorted.{All-permutation, IsPermutation-append_comm, IsPermutation-append_left}
use Rattle.std.proofs.lemmas.List.Sorted.{IsPermutation-append_right, IsPermutation-middle, IsPermutation-refl}
use Rattle.std.proofs.lemmas.List.Sorted.{IsPermutation-sym, IsPermutation-to_front, IsPermutation-trans}
use Rattle.neighbours.specs.declared.neighbour.Neighbour.{Neighbour}
use Rattle.neighbours.specs.Chosen.{AreStillKept, IsHeap}
use Rattle.neighbours.specs.Neighbours.{neighbour_at, rank_of}
use Rattle.neighbours.proofs.HeapLemmas.{heap_front, rank_at}

abbrev pub Places : Type 0
Places = List Neighbour

abbrev pub UpTo : ℕ → Places → Type 0
UpTo bound = All (λ (one : Neighbour). rank_of one ≤ bound)

abbrev pub From : ℕ → Places → Type 0
From bound = All (λ (one : Neighbour). bound ≤ rank_of one)

-- under a condition from which the other follows
pub kept_if : (P Q : Type 0) (old more new : Places) →
    (Q → P) → AreStillKept P old more new → AreStillKept Q old more new
kept_if P Q old more new then kept = record {
  chosen = record {
    others = kept.chosen.others;
    same = kept.chosen.same;
    worst = kept.chosen.worst;
    below = kept.chosen.below;
    above = λ q. kept.chosen.above (then q);
  };
  falls = kept.falls;
}

module _ (P : Type 0) where
  -- nothing more
  pub kept_none : (old : Places) → 0 < length old → IsHeap 0 old → AreStillKept P old [] old
  kept_none old some heap = record {
    chosen = record {
      others = [];
      same = IsPermutation-refl (old ++ []);
      worst = rank_at old 0;
      below = heap_front old heap;
      above = λ _. All-nil (λ (one : Neighbour). rank_at old 0 ≤ rank_of one);
    };
    falls = λ bound all. all 0 (neighbour_at 0 0) some;
  }

  -- more, none of which stands before all that were kept
  pub kept_but : (old more new extra : Places) (bound : ℕ) →
      AreStillKept P old more new → UpTo bound old → (P → From bound extra) → AreStillKept P old (more ++ extra) new
  kept_but old more new extra bound kept within beyond =
      let others = kept.chosen.others in
      let worst = kept.chosen.worst in
      record {
        chosen = record {
          others = others ++ extra;
          same = subst (λ (from : Places). IsPermutation from (new ++ (others ++ extra))) (append_assoc old more extra)
              (subst (IsPermutation ((old ++ more) ++ extra)) (append_assoc new others extra)
              (IsPermutation-append_left extra (old ++ more) (new ++ others) kept.chosen.same));
          worst = worst;
          below = kept.chosen.below;
          above = λ p. All-append (λ (one : Neighbour). worst ≤ rank_of one) others extra (kept.chosen.above p)
              (All-weaker (λ (one : Neighbour). bound ≤ rank_of one) (λ (one : Neighbour). worst ≤ rank_of one)
              (λ one far. omega (arith, kept.falls bound within)) extra (beyond p));
        };
        falls = kept.falls;
      }

  -- some, and then some more
  pub kept_then : (old more mid more' new : Places) →
      AreStillKept P old more mid → AreStillKept P mid more' new → AreStillKept P old (more ++ more') new
  kept_then old more mid more' new one two =
      let others = one.chosen.others in
      let others' = two.chosen.others in
      let worst = two.chosen.worst in
      let started : IsPermutation ((old ++ more) ++ more') ((mid ++ others) ++ more') =
      IsPermutation-append_left more' (old ++ more) (mid ++ others) one.chosen.same in
      let behind : IsPermutation ((mid ++ others) ++ more') ((mid ++ more') ++ others) =
      subst (λ (from : Places). IsPermutation from ((mid ++ more') ++ others)) (sym (append_assoc mid others more'))
      (subst (IsPermutation (mid ++ (others ++ more'))) (sym (append_assoc mid more' others))
      (IsPermutation-append_right mid (others ++ more') (more' ++ others) (IsPermutation-append_comm others more'))) in
      let ended : IsPermutation ((mid ++ more') ++ others) ((new ++ others') ++ others) =
      IsPermutation-append_left others (mid ++ more') (new ++ others') two.chosen.same in
      record {
        chosen = record {
          others = others' ++ others;
          same =
              subst (λ (from : Places). IsPermutation from (new ++ (others' ++ others))) (append_assoc old more more')
              (subst (IsPermutation ((old ++ more) ++ more')) (append_assoc new others' others)
              (IsPermutation-trans
              ((old ++ more) ++ more') ((mid ++ others) ++ more') ((new ++ others') ++ others) started
              (IsPermutation-trans
              ((mid ++ others) ++ more') ((mid ++ more') ++ others) ((new ++ others') ++ others) behind ended)));
          worst = worst;
          below = two.chosen.below;
          above = λ p. All-append (λ (x : Neighbour). worst ≤ rank_of x) others' others (two.chosen.above p)
              (All-weaker (λ (x : Neighbour). one.chosen.worst ≤ rank_of x) (λ (x : Neighbour). worst ≤ rank_of x)
              (λ x far. omega (arith, two.falls one.chosen.worst one.chosen.below)) others (one.chosen.above p));
        };
        falls = λ bound all. omega (arith, one.falls bound all, two.falls one.chosen.worst one.chosen.below);
      }

  -- in another order
  pub kept_permuted : (old more more' new : Places) →
      IsPermutation more more' → AreStillKept P old more new → AreStillKept P old more' new
  kept_permuted old more more' new moved kept =
      let back = IsPermutation-append_right old more' more (IsPermutation-sym more more' moved) in
      record {
        chosen = record {
          others = kept.chosen.others;
          same = IsPermutation-trans (old ++ more') (old ++ more) (new ++ kept.chosen.others) back kept.chosen.same;
          worst = kept.chosen.worst;
          below = kept.chosen.below;
          above = kept.chosen.above;
        };
        falls = kept.falls;
      }

  -- none that stands before the one in front
  pub kept_no_more : (old extra : Places) →
      0 < length old → IsHeap 0 old → (P → From (rank_at old 0) extra) → AreStillKept P old extra old
  kept_no_more old extra some heap behind =
      kept_but old [] old extra (rank_at old 0) (kept_none old some heap) (heap_front old heap) behind

  pub kept_not : (old : Places) (one : Neighbour) →
      0 < length old → IsHeap 0 old → rank_at old 0 ≤ rank_of one → AreStillKept P old (one ∷ []) old
  kept_not old one some heap behind = kept_no_more old (one ∷ []) some heap
      (λ _. All-cons (λ (x : Neighbour). rank_at old 0 ≤ rank_of x) one [] behind
      (All-nil (λ (x : Neighbour). rank_at old 0 ≤ rank_of x)))

  -- one that does takes its place
  pub kept_instead : (old new : Places) (one : Neighbour) → 0 < length old → IsHeap 0 old
      → rank_of one < rank_at old 0 → IsPermutation (set old 0 one) new → AreStillKept P old (one ∷ []) new
  kept_instead [] new one some heap before same = absurd (omega arith)
  kept_instead (front ∷ rest) new one some heap before same =
      let within = heap_front (front ∷ rest) heap in
      let InFront = λ (x : Neighbour). rank_of x ≤ rank_of front in
      let forth : IsPermutation ((front ∷ rest) ++ one ∷ []) (one ∷ front ∷ rest) =
      IsPermutation-to_front (front ∷ rest) one in
      let across :
      IsPermutation (one ∷ front ∷ rest) (front ∷ one ∷ rest) = IsPermutation-middle (one ∷ []) front rest in
      let back : IsPermutation (front ∷ one ∷ rest) ((one ∷ rest) ++ front ∷ []) =
      IsPermutation-sym
      ((one ∷ rest) ++ front ∷ []) (front ∷ one ∷ rest) (IsPermutation-to_front (one ∷ rest) front) in
      let settled : IsPermutation ((one ∷ rest) ++ front ∷ []) (new ++ front ∷ []) =
      IsPermutation-append_left (front ∷ []) (one ∷ rest) new same in
      record {
        chosen = record {
          others = front ∷ [];
          same = IsPermutation-trans ((front ∷ rest) ++ one ∷ []) (one ∷ front ∷ rest) (new ++ front ∷ []) forth
              (IsPermutation-trans (one ∷ front ∷ rest) (front ∷ one ∷ rest) (new ++ front ∷ []) across
              (IsPermutation-trans (front ∷ one ∷ rest) ((one ∷ rest) ++ front ∷ []) (new ++ front ∷ []) back settled));
          worst = rank_of front;
          below = All-permutation InFront
              (one ∷ rest) new same (All-cons InFront one rest (omega arith) (All-tail InFront front rest within));
          above = λ _. All-cons (λ (x : Neighbour). rank_of front ≤ rank_of x) front [] (omega arith)
              (All-nil (λ (x : Neighbour). rank_of front ≤ rank_of x));
        };
        falls = λ bound all. all 0 front some;
      }

  -- what is kept reaches no further than what was
  pub kept_within : (old more new : Places) (bound : ℕ) →
      AreStillKept P old more new → UpTo bound old → UpTo bound new
  kept_within old more new bound kept within =
      All-weaker (λ (one : Neighbour). rank_of one ≤ kept.chosen.worst)
      (λ (one : Neighbour). rank_of one ≤ bound) (λ one near. omega (arith, kept.falls bound within)) new
      kept.chosen.below
