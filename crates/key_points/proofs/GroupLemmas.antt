-- Groups of equal keys: what the lists gain by one more.
--
-- Main result: `HoldsUpTo-more`. The keys before a group are less
-- than its key and those behind greater, so the group's key has
-- the lower bound where the group begins, and the next number where it ends; and a group adds one distinct key.
use Rattle.std.proofs.Common.{◌≡◌, ◌≢◌, ◌⊎◌, inl, inr, ℕ, zero, suc, ◌+◌, ◌-◌, ◌<◌, ◌≤◌}
use Rattle.std.proofs.Common.{List, [], ◌∷◌, ◌++◌, length, take, map, slice_index, refl, sym}
use Rattle.std.proofs.Common.{ap, ◌∙◌, subst, arith, add-one, true, false, eqb, ltb, ◌&&◌}
use Rattle.std.proofs.lemmas.Bool.{cases_lt, lt-ltb, le-ltb}
use Rattle.std.proofs.lemmas.Bool.Decides.{nat_tests}
use Rattle.std.proofs.lemmas.List.{take_more, map-append, append-nil}
use Rattle.std.proofs.lemmas.Grind.{flat_map-append}
use Rattle.std.specs.List.{flat_map}
use Rattle.std.specs.List.Sorted.{IsNonDecreasing}
use Rattle.window_search.specs.Searches.{lb}
use Rattle.window_search.proofs.CallerLemmas.{lb-is, IsLowerBound-lb}
use Rattle.key_points.specs.KeyPoints.{distinct_of, with_closing, times, is_closed}
use Rattle.key_points.specs.Groups.{IsGroupStart, IsGroupEnd, HoldsUpTo}
use Rattle.key_points.proofs.DistinctLemmas.{distinct_of-same, distinct_of-new, times-lb}

-- the three tests of a closing point
all_pass : (t key s : ℕ) →
    1 < t → key < 18446744073709551615 → s ≡ 0 → (ltb 1 t && (ltb key 18446744073709551615 && eqb s 0)) ≡ true
all_pass t key s many low none = grind (arith, nat_tests)

pub first_fails : (t key s : ℕ) → t ≤ 1 → (ltb 1 t && (ltb key 18446744073709551615 && eqb s 0)) ≡ false
first_fails t key s few = grind (arith, nat_tests)

second_fails : (t key s : ℕ) →
    18446744073709551615 ≤ key → (ltb 1 t && (ltb key 18446744073709551615 && eqb s 0)) ≡ false
second_fails t key s high = grind (arith, nat_tests)

third_fails : (t key s : ℕ) → 0 < s → (ltb 1 t && (ltb key 18446744073709551615 && eqb s 0)) ≡ false
third_fails t key s some = grind (arith, nat_tests)

module _ (keys : List ℕ)
    (at end : ℕ) (order : IsNonDecreasing keys) (start : IsGroupStart keys at) (group : IsGroupEnd keys at end) where
  pub lb-start : lb keys (slice_index keys at) ≡ at
  lb-start = lb-is keys (slice_index keys at) at (omega (arith, start.inside)) start.before
      (λ k low inside. order at k 0 low inside)

  pub lb-end : lb keys (slice_index keys at + 1) ≡ end
  lb-end = lb-is keys
      (slice_index keys at + 1) end group.within before (λ k low inside. omega (arith, group.behind k low inside))
    where
      before : (k : ℕ) → k < end → slice_index keys k < slice_index keys at + 1
      before k less = elim (cases_lt k at) [
        | inl low ↦ omega (arith, start.before k low)
        | inr high ↦ omega (arith, group.same k high less)
      ]

  pub times-group : times keys (slice_index keys at) ≡ end - at
  times-group = omega (arith, times-lb keys (slice_index keys at), lb-start, lb-end, group.some)

  -- the next number is no key
  pub times-none : (end ≡ length keys)
      ⊎ (slice_index keys at + 1 < slice_index keys end) → times keys (slice_index keys at + 1) ≡ 0
  times-none none =
      let same : lb keys (slice_index keys at + 1 + 1) ≡ end = lb-is keys (slice_index keys at + 1 + 1) end group.within
      (λ k less.
      omega (arith, (IsLowerBound-lb keys (slice_index keys at + 1) order).before k (omega (arith, lb-end, less))))
      (λ k low inside. elim none [
        | inl all ↦ absurd (omega arith)
        | inr above ↦ omega (arith, order end k 0 low inside, above)
      ]) in
      omega (arith, times-lb keys (slice_index keys at + 1), lb-end, same)

  -- the next number is a key
  pub times-some : end < length keys →
      slice_index keys end ≤ slice_index keys at + 1 → 0 < times keys (slice_index keys at + 1)
  times-some inside next =
      let above = IsLowerBound-lb keys (slice_index keys at + 1 + 1) order in
      let more :
      end < lb keys (slice_index keys at + 1 + 1) = elim (cases_lt end (lb keys (slice_index keys at + 1 + 1))) [
        | inl less ↦ less
        | inr rest ↦ absurd (omega (arith, above.from end rest inside, next))
      ] in
      omega (arith, times-lb keys (slice_index keys at + 1), lb-end, more)

  pub is_closed-alone : end - at ≡ 1 → is_closed keys (slice_index keys at) ≡ false
  is_closed-alone one =
      first_fails (times keys (slice_index keys at)) (slice_index keys at) _ (omega (arith, times-group, one))

  pub is_closed-greatest : slice_index keys at ≡ 18446744073709551615 → is_closed keys (slice_index keys at) ≡ false
  is_closed-greatest greatest =
      second_fails (times keys (slice_index keys at)) (slice_index keys at) _ (omega (arith, greatest))

  pub is_closed-above : 1 < end - at → slice_index keys at < 18446744073709551615 →
      (end ≡ length keys) ⊎ (slice_index keys at + 1 < slice_index keys end) →
      is_closed keys (slice_index keys at) ≡ true
  is_closed-above many low none = all_pass (times keys (slice_index keys at))
      (slice_index keys at) _ (omega (arith, times-group, many)) low (times-none none)

  pub is_closed-next : end < length keys →
      slice_index keys end ≤ slice_index keys at + 1 → is_closed keys (slice_index keys at) ≡ false
  is_closed-next inside next =
      third_fails (times keys (slice_index keys at)) (slice_index keys at) _ (times-some inside next)

  -- by the test of the next key
  pub is_closed-tested : 1 < end - at → slice_index keys at < 18446744073709551615 → end < length keys →
      ltb (slice_index keys at + 1) (slice_index keys end) ≡ is_closed keys (slice_index keys at)
  is_closed-tested many low inside = elim (cases_lt (slice_index keys at + 1) (slice_index keys end)) [
    | inl less ↦ lt-ltb _ _ less ∙ sym (is_closed-above many low (inr less))
    | inr rest ↦ le-ltb _ _ rest ∙ sym (is_closed-next inside rest)
  ]

  -- the first key of a group is another than the one before it
  distinct_of-first : (before : ℕ) → before ≡ at →
      distinct_of (take (before + 1) keys) ≡ distinct_of (take before keys) ++ slice_index keys before ∷ []
  distinct_of-first zero is = rw (take_more keys 0 0 (omega (arith, start.inside))) refl
  distinct_of-first (suc m) is =
      let here : take (suc m) keys ≡ take m keys ++ slice_index keys m
      ∷ [] = ap (λ (k : ℕ). take k keys) (sym (add-one m)) ∙ take_more keys m 0 (omega (arith, start.inside)) in
      let more : take (suc m + 1) keys ≡ take (suc m) keys
      ++ slice_index keys (suc m) ∷ [] = take_more keys (suc m) 0 (omega (arith, start.inside)) in
      let less : slice_index keys m < slice_index keys at = start.before m (omega arith) in
      let differ :
      slice_index keys m ≢ slice_index keys (suc m) = λ same. omega (arith, less, same, ap (slice_index keys) is) in
      ap distinct_of (more ∙ ap (λ (l : List ℕ). l ++ slice_index keys (suc m) ∷ []) here)
      ∙ distinct_of-new (take m keys) (slice_index keys m) (slice_index keys (suc m)) differ
      ∙ ap (λ (l : List ℕ). distinct_of l ++ slice_index keys (suc m) ∷ []) (sym here)

  -- of n + 1 keys of the group
  distinct_of-part : (n : ℕ) → at + (n + 1) ≤ end →
      distinct_of (take (at + (n + 1)) keys) ≡ distinct_of (take at keys) ++ slice_index keys at ∷ []
  distinct_of-part zero within = ap (λ (k : ℕ). distinct_of (take k keys)) (omega arith) ∙ distinct_of-first at refl
  distinct_of-part (suc n) within =
      let place = at + n in
      let key = slice_index keys at in
      let here : take (at + (n + 1)) keys ≡ take place keys ++ key ∷ [] =
      ap (λ (k : ℕ). take k keys) (omega arith) ∙ take_more keys place 0 (omega (arith, within, group.within))
      ∙ ap (λ (k : ℕ). take place keys ++ k ∷ []) (group.same place (omega arith) (omega (arith, within))) in
      let more : take (at + (suc n + 1)) keys ≡ take (at + (n + 1)) keys ++ key ∷ [] =
      ap (λ (k : ℕ). take k keys) (omega arith) ∙ take_more keys (at + (n + 1)) 0 (omega (arith, within, group.within))
      ∙ ap (λ (k : ℕ). take (at + (n + 1)) keys ++ k ∷ [])
      (group.same (at + (n + 1)) (omega arith) (omega (arith, within))) in
      ap distinct_of (more ∙ ap (λ (l : List ℕ). l ++ key ∷ []) here) ∙ distinct_of-same (take place keys) key
      ∙ ap distinct_of (sym here) ∙ distinct_of-part n (omega (arith, within))

  pub distinct_of-group : distinct_of (take end keys) ≡ distinct_of (take at keys) ++ slice_index keys at ∷ []
  distinct_of-group =
      subst (λ (n : ℕ). distinct_of (take n keys) ≡ distinct_of (take at keys) ++ slice_index keys at ∷ [])
      (omega (arith, group.some)) (distinct_of-part (end - at - 1) (omega (arith, group.some)))

  -- the group's points: the key where it begins, and where it is closed the next number where it ends
  pub points-alone : is_closed keys (slice_index keys at) ≡ false →
      with_closing keys (slice_index keys at) ≡ slice_index keys at ∷ []
  points-alone open_ended = rw open_ended refl

  pub points-closed : is_closed keys (slice_index keys at) ≡ true →
      with_closing keys (slice_index keys at) ≡ slice_index keys at ∷ (slice_index keys at + 1) ∷ []
  points-closed closed = rw closed refl

  pub xs-more : (points : List ℕ) → with_closing keys (slice_index keys at) ≡ points →
      flat_map (with_closing keys) (distinct_of (take end keys))
      ≡ flat_map (with_closing keys) (distinct_of (take at keys)) ++ points
  xs-more points is =
      ap (flat_map (with_closing keys)) distinct_of-group
      ∙ flat_map-append (with_closing keys) (distinct_of (take at keys)) (slice_index keys at ∷ [])
      ∙ ap (λ (l : List ℕ). flat_map (with_closing keys) (distinct_of (take at keys)) ++ l)
      (append-nil (with_closing keys (slice_index keys at)) ∙ is)

  pub HoldsUpTo-more : (xs ys points : List ℕ) →
      HoldsUpTo keys at xs ys → with_closing keys (slice_index keys at) ≡ points →
      HoldsUpTo keys end (xs ++ points) (ys ++ map (lb keys) points)
  HoldsUpTo-more xs ys points so_far is = record {
    inside = group.within;
    xs_are = ap (λ (l : List ℕ). l ++ points) so_far.xs_are ∙ sym (xs-more points is);
    ys_are = ap (λ (l : List ℕ). l ++ map (lb keys) points) so_far.ys_are ∙ sym (map-append (lb keys) xs points);
  }

  pub HoldsUpTo-alone : (xs ys : List ℕ) → HoldsUpTo keys at xs ys → is_closed keys (slice_index keys at) ≡ false →
      HoldsUpTo keys end (xs ++ slice_index keys at ∷ []) (ys ++ at ∷ [])
  HoldsUpTo-alone xs ys so_far open_ended =
      subst (λ (place : ℕ). HoldsUpTo keys end (xs ++ slice_index keys at ∷ []) (ys ++ place ∷ []))
      lb-start (HoldsUpTo-more xs ys (slice_index keys at ∷ []) so_far (points-alone open_ended))

  pub HoldsUpTo-closed : (xs ys : List ℕ) → HoldsUpTo keys at xs ys → is_closed keys (slice_index keys at) ≡ true →
      HoldsUpTo keys end (xs ++ slice_index keys at ∷ (slice_index keys at + 1) ∷ []) (ys ++ at ∷ end ∷ [])
  HoldsUpTo-closed xs ys so_far closed =
      subst (λ (place : ℕ).
      HoldsUpTo keys end (xs ++ slice_index keys at ∷ (slice_index keys at + 1) ∷ []) (ys ++ place ∷ end ∷ []))
      lb-start
      (subst (λ (place : ℕ). HoldsUpTo keys end (xs ++ slice_index keys at ∷ (slice_index keys at + 1) ∷ [])
      (ys ++ lb keys (slice_index keys at) ∷ place ∷ []))
      lb-end
      (HoldsUpTo-more xs ys (slice_index keys at ∷ (slice_index keys at + 1) ∷ []) so_far (points-closed closed)))
