-- The first best pair of a run, as a scan finds it that pairs each place with all those before it.
--
-- Main result: `IsFirstBestPair-some`: whatever order says
-- which pair is better, each run of two places or more has one.
use Rattle.std.proofs.Common.{◌≡◌, ◌⊎◌, ℕ, zero, suc, ◌+◌, ◌<◌, ◌≤◌, inl, inr, refl, subst, arith}
use Rattle.std.proofs.lemmas.Bool.{cases_lt, cases_eq}
use Rattle.exact_cross.specs.Steep.{IsPair, ComesFirst}

-- (c, d) is among the pairs of the places s..r, and the pairs of a place below j and r
pub record IsScanned (s r j c d : ℕ) : Type 0 where
  pub from_start : s ≤ c
  pub rises : c < d
  pub to_end : d ≤ r
  pub so_far : d ≡ r → c < j

-- of the pairs inside, (a, b) is as good as each, and the first of those that are as good as it
pub record IsFirstBestPair (Best : ℕ → ℕ → ℕ → ℕ → Type 0) (Inside : ℕ → ℕ → Type 0) (a b : ℕ) : Type 0 where
  pub inside : Inside a b
  pub best : (c d : ℕ) → Inside c d → Best a b c d
  pub first : (c d : ℕ) → Inside c d → Best c d a b → ComesFirst a b c d

-- an order of the pairs of the places below n: it chains, of any two one
-- is as good as the other, and whether a pair is as good can be told
pub record OrdersPairs (Best : ℕ → ℕ → ℕ → ℕ → Type 0) (n : ℕ) : Type 0 where
  pub chain : (a b c d e f : ℕ) → c < d → d < n → Best a b c d → Best c d e f → Best a b e f
  pub total : (a b c d : ℕ) → Best a b c d ⊎ Best c d a b
  pub decided : (a b c d : ℕ) → Best a b c d ⊎ (Best a b c d → ⊥)

-- the pair (c, d) is (j, r) or was scanned before
newest_or_before : (s r j c d : ℕ) → IsScanned s r (j + 1) c d → ((c ≡ j) × (d ≡ r)) ⊎ IsScanned s r j c d
newest_or_before s r j c d scanned =
    elim (cases_eq d r) [
      | inl last ↦ elim (cases_eq c j) [
        | inl new ↦ inl (new, last)
        | inr old ↦
            inr (record {
              from_start = scanned.from_start;
              rises = scanned.rises;
              to_end = scanned.to_end;
              so_far = λ e. omega arith;
            })
      ]
      | inr below ↦
          inr (record {
            from_start = scanned.from_start;
            rises = scanned.rises;
            to_end = scanned.to_end;
            so_far = λ e. absurd (below e);
          })
    ]

-- a pair that isn't better is left, and the one at hand was first
IsFirstBestPair-keeps : (Best : ℕ → ℕ → ℕ → ℕ → Type 0) (s r j a b : ℕ) →
    IsFirstBestPair Best (IsScanned s r j) a b → Best a b j r →
    IsFirstBestPair Best (IsScanned s r (j + 1)) a b
IsFirstBestPair-keeps Best s r j a b so_far holds =
    let inside = so_far.inside in
    record {
      inside =
          record {
            from_start = inside.from_start;
            rises = inside.rises;
            to_end = inside.to_end;
            so_far = λ e. omega (arith, inside.so_far e);
          };
      best = λ c d scanned. elim (newest_or_before s r j c d scanned) [
        | inl new ↦ rw (new.0, new.1) holds
        | inr old ↦ so_far.best c d old
      ];
      first = λ c d scanned ties. elim (newest_or_before s r j c d scanned) [
        | inl new ↦ rw (new.0, new.1) (earlier inside)
        | inr old ↦ so_far.first c d old ties
      ];
    }
  where
    earlier : IsScanned s r j a b → ComesFirst a b j r
    earlier inside = elim (cases_eq b r)
        [ inl last ↦ inr (last, omega (arith, inside.so_far last)) | inr below ↦ inl (omega (arith, inside.to_end)) ]

-- a better pair takes its place
IsFirstBestPair-takes : (Best : ℕ → ℕ → ℕ → ℕ → Type 0) (n s r j a b : ℕ) → OrdersPairs Best n → r < n → s ≤ j → j < r →
    IsFirstBestPair Best (IsScanned s r j) a b → (Best a b j r → ⊥) → IsFirstBestPair Best (IsScanned s r (j + 1)) j r
IsFirstBestPair-takes Best n s r j a b order within from below so_far strictly =
    let inside = so_far.inside in
    let better : Best j r a b = elim (order.total j r a b) [ inl best ↦ best | inr less ↦ absurd (strictly less) ] in
    let same : Best j r j r = elim (order.total j r j r) [ inl best ↦ best | inr best ↦ best ] in
    record {
      inside = record { from_start = from; rises = below; to_end = omega arith; so_far = λ e. omega arith };
      best = λ c d scanned. elim (newest_or_before s r j c d scanned) [
        | inl new ↦ rw (new.0, new.1) same
        | inr old ↦ order.chain j r a b c d inside.rises (omega (arith, inside.to_end)) better (so_far.best c d old)
      ];
      first = λ c d scanned ties. elim (newest_or_before s r j c d scanned) [
        | inl new ↦ rw (new.0, new.1) (inr (refl, omega arith))
        | inr old ↦
            absurd (strictly (order.chain a b c d j r old.rises (omega (arith, old.to_end)) (so_far.best c d old) ties))
      ];
    }

-- before the scan these are the pairs of s..r, and after it those of s..r + 1
IsFirstBestPair-start : (Best : ℕ → ℕ → ℕ → ℕ → Type 0) (s r a b : ℕ) →
    IsFirstBestPair Best (IsPair s r) a b → IsFirstBestPair Best (IsScanned s r s) a b
IsFirstBestPair-start Best s r a b whole =
    let inside = whole.inside in
    record {
      inside =
          record {
            from_start = inside.from_start;
            rises = inside.rises;
            to_end = omega (arith, inside.to_end);
            so_far = λ e. omega (arith, inside.to_end);
          };
      best = λ c d scanned. whole.best c d (before c d scanned);
      first = λ c d scanned ties. whole.first c d (before c d scanned) ties;
    }
  where
    before : (c d : ℕ) → IsScanned s r s c d → IsPair s r c d
    before c d scanned = record { from_start = scanned.from_start; rises = scanned.rises; to_end = strict c d scanned }
      where
        strict : (c d : ℕ) → IsScanned s r s c d → d < r
        strict c d scanned = elim (cases_lt d r) [
          | inl less ↦ less
          | inr more ↦
              absurd (omega (arith, scanned.so_far (omega (arith, scanned.to_end)), scanned.from_start))
        ]

IsFirstBestPair-end : (Best : ℕ → ℕ → ℕ → ℕ → Type 0) (s r a b : ℕ) →
    IsFirstBestPair Best (IsScanned s r r) a b → IsFirstBestPair Best (IsPair s (r + 1)) a b
IsFirstBestPair-end Best s r a b whole =
    let inside = whole.inside in
    record {
      inside = record { from_start = inside.from_start; rises = inside.rises; to_end = omega (arith, inside.to_end) };
      best = λ c d pair. whole.best c d (after c d pair);
      first = λ c d pair ties. whole.first c d (after c d pair) ties;
    }
  where
    after : (c d : ℕ) → IsPair s (r + 1) c d → IsScanned s r r c d
    after c d pair =
        record {
          from_start = pair.from_start;
          rises = pair.rises;
          to_end = omega (arith, pair.to_end);
          so_far = λ e. omega (arith, pair.rises);
        }

-- ---- each run has one

-- the pairs of a run, and those of the places below j with the place after it
scan : (Best : ℕ → ℕ → ℕ → ℕ → Type 0) (n s r a b : ℕ) →
    OrdersPairs Best n → r < n → IsFirstBestPair Best (IsPair s r) a b →
    (gap j : ℕ) → j ≡ s + gap → j ≤ r → (c : ℕ) × (d : ℕ) × IsFirstBestPair Best (IsScanned s r j) c d
scan Best n s r a b order inside whole zero j here within =
    let start : s ≡ j = omega arith in
    subst (λ (k : ℕ). (c : ℕ) × (d : ℕ) × IsFirstBestPair Best (IsScanned s r k) c d) start
    (a, b, IsFirstBestPair-start Best s r a b whole)
scan Best n s r a b order inside whole (suc gap) j here within =
    let low = s + gap in
    let next : low + 1 ≡ j = omega arith in
    let so_far = scan Best n s r a b order inside whole gap low refl (omega arith) in
    let c = so_far.0 in
    let d = so_far.1 in
    subst (λ (k : ℕ). (c : ℕ) × (d : ℕ) × IsFirstBestPair Best (IsScanned s r k) c d) next
    (elim (order.decided c d low r) [
      | inl best ↦ (c, d, IsFirstBestPair-keeps Best s r low c d so_far.2 best)
      | inr less ↦
          (low, r, IsFirstBestPair-takes Best n s r low c d order inside (omega arith) (omega arith) so_far.2 less)
    ])

-- two places have one pair
pub IsFirstBestPair-two_places : (Best : ℕ → ℕ → ℕ → ℕ → Type 0) (s : ℕ) →
    Best s (s + 1) s (s + 1) → IsFirstBestPair Best (IsPair s (s + 2)) s (s + 1)
IsFirstBestPair-two_places Best s same = record {
  inside = record { from_start = omega arith; rises = omega arith; to_end = omega arith };
  best = λ c d pair. rw (lower c d pair, upper c d pair) same;
  first = λ c d pair ties. rw (lower c d pair, upper c d pair) (inr (refl, omega arith));
}
  where
    lower : (c d : ℕ) → IsPair s (s + 2) c d → c ≡ s
    lower c d pair = omega (arith, pair.from_start, pair.rises, pair.to_end)

    upper : (c d : ℕ) → IsPair s (s + 2) c d → d ≡ s + 1
    upper c d pair = omega (arith, pair.from_start, pair.rises, pair.to_end)

-- and so on, place by place
pub IsFirstBestPair-some : (Best : ℕ → ℕ → ℕ → ℕ → Type 0) (n s : ℕ) →
    OrdersPairs Best n → (gap e : ℕ) → e ≡ s + (gap + 2) → e ≤ n →
    (a : ℕ) × (b : ℕ) × IsFirstBestPair Best (IsPair s e) a b
IsFirstBestPair-some Best n s order zero e here within =
    let start : s + 2 ≡ e = omega arith in
    let same :
    Best s (s + 1) s (s + 1) = elim (order.total s (s + 1) s (s + 1)) [ inl best ↦ best | inr best ↦ best ] in
    subst (λ (k : ℕ). (a : ℕ) × (b : ℕ) × IsFirstBestPair Best (IsPair s k) a b) start
    (s, s + 1, IsFirstBestPair-two_places Best s same)
IsFirstBestPair-some Best n s order (suc gap) e here within =
    let r = s + (gap + 2) in
    let next : r + 1 ≡ e = omega arith in
    let shorter = IsFirstBestPair-some Best n s order gap r refl (omega arith) in
    let scanned = scan Best n s r shorter.0 shorter.1 order (omega arith) shorter.2 (gap + 2) r refl (omega arith) in
    subst (λ (k : ℕ). (a : ℕ) × (b : ℕ) × IsFirstBestPair Best (IsPair s k) a b) next
    (scanned.0, scanned.1, IsFirstBestPair-end Best s r scanned.0 scanned.1 scanned.2)
