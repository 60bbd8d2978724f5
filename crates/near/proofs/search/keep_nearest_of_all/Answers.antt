-- The codes before the first place and behind the last have nothing to add.
use Rattle.std.proofs.Common.{◌≡◌, ◌-◌, ℕ, List, length, take, drop, ap, subst, arith}
use Rattle.std.proofs.lemmas.List.{length-drop, take_all}
use Rattle.near.specs.Kept.{AreKept}
use Rattle.near.specs.Nearest.{pairs_of}
use Rattle.near.proofs.KeptLemmas.{first_of_parts}
use Rattle.near.proofs.search.keep_nearest_of_all.Goals as goal

-- what was kept of a part of the codes, as they are read
as_read : (d d' : ℕ) (centre codes codes' : List ℕ) (part part' : List ℕ → List ℕ) (old new : List (ℕ × ℕ)) →
    d' ≡ d → codes' ≡ codes → part' codes ≡ part codes
    → AreKept old (pairs_of d' centre (part' codes')) new → AreKept old (pairs_of d centre (part codes)) new
as_read d d' centre codes codes' part part' old new same same' is kept =
    subst (λ (list : List ℕ). AreKept old (pairs_of d centre list) new) is
    (subst (λ (n : ℕ). AreKept old (pairs_of n centre (part' codes)) new) same
    (subst (λ (list : List ℕ). AreKept old (pairs_of d' centre (part' list)) new) same' kept))

tail_is : (xs : List ℕ) (n : ℕ) → take (length xs - n) (drop n xs) ≡ drop n xs
tail_is xs n = take_all (length xs - n) (drop n xs) (omega (arith, length-drop n xs))

pub returns : goal.returns
returns c =
    let d = c.args.boxes.now.dims in
    let centre = c.args.centre.now in
    let codes = c.args.boxes.now.codes in
    let from = c.args.from in
    let to = c.args.to in
    let first = c.min.result in
    let last = c.max.result in
    let start = c.make_heap.new.pairs in
    let mid = c.keep_nearest.new.kept in
    let new = c.keep_nearest-2.new.kept in
    let one = as_read d c.dims-d.result centre codes c.codes-codes.result.now (λ list. drop first (take from list))
    (λ list. take (length (take from list) - first) (drop first (take from list)))
    start mid c.dims-d.ensures.dims c.codes-codes.ensures.codes (tail_is (take from codes) first)
    c.keep_nearest.ensures.kept in
    let two = as_read d c.dims-d.result centre codes c.codes-codes.result.now (λ list. take (last - to) (drop to list))
    (λ list. take (last - to) (take (length list - to) (drop to list)))
    mid new c.dims-d.ensures.dims c.codes-codes.ensures.codes (ap (take (last - to)) (tail_is codes to))
    c.keep_nearest-2.ensures.kept in
    record {
      first = first_of_parts d centre codes from to first last c.args.kept.now start mid new
          (omega arith) c.requires.within c.requires.kept c.make_heap.ensures.same
          c.make_heap.ensures.heap (omega (arith, c.min.ensures)) (omega (arith, c.max.ensures))
          (λ k less. c.places_within-first.ensures.before k (omega (arith, c.min.ensures)))
          (λ k more within. c.places_within-first.ensures.behind k (omega (arith, c.max.ensures)) within) one two;
    }
