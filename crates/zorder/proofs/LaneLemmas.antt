-- Vectors, lane by lane.
use Rattle.std.proofs.Common.{◌≡◌, ℕ, ◌+◌, ◌*◌, ◌/◌, ◌%◌, ◌^◌, ◌<◌, true, List, length}
use Rattle.std.proofs.Common.{get_or, replicate, refl, sym, ap, ◌∙◌, arith, eqb, eqb-true}
use Rattle.std.proofs.lemmas.List.{get_or-map, length-map}
use Rattle.std.proofs.lemmas.Simd.{get_or-zip2, get_or-replicate, length-replicate, length-zip2, get_or_narrower}
use lib.Lanes.{zip2, Each1, pick_l, digits_l, number_l}
use Rattle.zorder.specs.Columns.{HasLanes, byte_of}
use Rattle.zorder.proofs.BitLemmas.{all_below, all_below-true}

module _ {n : ℕ} (f : ℕ → ℕ → ℕ) (xs ys : List ℕ) (p : length xs ≡ n) (q : length ys ≡ n) where
  pub long : length (zip2 f xs ys) ≡ n
  long = length-zip2 f xs ys (p ∙ sym q) ∙ p

  pub lane : (l : ℕ) → l < n → get_or (zip2 f xs ys) l 0 ≡ f (get_or xs l 0) (get_or ys l 0)
  lane l h = get_or-zip2 f xs ys l 0 0 0 (omega arith) (omega arith)

pub lane_with : {n : ℕ} (f : ℕ → ℕ → ℕ) (xs : List ℕ) (y : ℕ) →
    length xs ≡ n → (l : ℕ) → l < n → get_or (zip2 f xs (replicate n y)) l 0 ≡ f (get_or xs l 0) y
lane_with {n} f xs y p l h =
    lane f xs _ p (length-replicate n y) l h ∙ ap (f (get_or xs l 0)) (get_or-replicate n l y 0 h)

-- bytes of four codes, taken by a table of their places
pub picked_bytes : (codes ks : List ℕ) (place : ℕ → ℕ) → Each1 (λ z. z < 2 ^ 64) codes → length ks ≡ 16
    → all_below 16 (λ l. eqb (get_or ks l 0) (place l)) ≡ true → ((l : ℕ) → l < 16 → place l < 32)
    → HasLanes (pick_l 0 (digits_l 256 32 (number_l (2 ^ 64) codes)) ks) (λ l. byte_of codes (place l))
picked_bytes codes ks place fits many table within = record {
  len = length-map ks _ ∙ many;
  lanes = λ l h.
      let there : get_or ks l 0
      ≡ place l = eqb-true _ _ (all_below-true 16 (λ l. eqb (get_or ks l 0) (place l)) table l h) in
      let parts : 8 * (place l / 8) + place l % 8 ≡ place l = omega arith in
      get_or-map (λ k. get_or (digits_l 256 32 (number_l (2 ^ 64) codes)) k 0) ks l 0 0 (omega (arith, many))
      ∙ ap (λ k. get_or (digits_l 256 32 (number_l (2 ^ 64) codes)) k 0) (there ∙ sym parts)
      ∙ get_or_narrower
      (2 ^ 64) 8 256 32 codes (place l / 8) (place l % 8) refl fits (omega arith) (omega (arith, within l h));
}
