-- The numbers at the front of bytes: there is one list of each length.
use Rattle.std.proofs.Common.{◌≡◌, ℕ, suc, ◌+◌, ◌*◌, ◌^◌, ◌<◌, ◌≤◌, List, [], ◌∷◌, ◌++◌, length}
use Rattle.std.proofs.Common.{refl, sym, ap, ◌∙◌, append_assoc, length-append, arith, All, mul-suc}
use Rattle.std.specs.List.{flat_map}
use Rattle.std.proofs.lemmas.List.{append_cancel_left}
use Rattle.std.proofs.lemmas.List.Elements.{All-tail}
use Rattle.byteorder.specs.Endian.{little_bytes, little_number}
use Rattle.byteorder.specs.Numbers.{little_number-reads_back, length-bytes_low_first}

-- ys goes on after xs, and so do the bytes that are left
pub record Longer (width : ℕ) (xs ys left over : List ℕ) : Type 0 where
  pub more : List ℕ
  pub longer : ys ≡ xs ++ more
  pub left_is : left ≡ flat_map (little_bytes width) more ++ over

one_more : (width n a b : ℕ) → a ≡ width → b ≡ width * n → a + b ≡ width * suc n
one_more width n a b p q = rw (mul-suc) (omega arith)

pub length-numbers : (width : ℕ) (xs : List ℕ) → length (flat_map (little_bytes width) xs) ≡ width * length xs
length-numbers width [] = omega arith
length-numbers width (x ∷ xs) =
    let ih = length-numbers width xs in
    let one = length-bytes_low_first 0 width x in
    length-append (little_bytes width x) (flat_map (little_bytes width) xs) ∙ one_more width (length xs) _ _ one ih

-- of two lists of numbers at the front of the same bytes the longer goes on after the other
pub same_front : (width : ℕ) (xs ys left over : List ℕ) →
    All (λ x. x < 256 ^ width) xs → All (λ y. y < 256 ^ width) ys → length xs ≤ length ys →
    flat_map (little_bytes width) xs ++ left ≡ flat_map (little_bytes width) ys ++ over → Longer width xs ys left over
same_front width [] ys left over _ _ _ e = record { more = ys; longer = refl; left_is = e }
same_front width (x ∷ xs) [] left over _ _ short _ = absurd (omega arith)
same_front width (x ∷ xs) (y ∷ ys) left over small small' short e =
    let F : List ℕ → List ℕ = flat_map (little_bytes width) in
    let apart : little_bytes width x ++ (F xs ++ left) ≡ little_bytes width y ++ (F ys ++ over) =
    sym (append_assoc (little_bytes width x) (F xs) left) ∙ e ∙ append_assoc (little_bytes width y) (F ys) over in
    let same : x ≡ y =
    sym (little_number-reads_back width x (F xs ++ left) (small 0 0 (omega arith)))
    ∙ ap (little_number width) apart
    ∙ little_number-reads_back width y (F ys ++ over) (small' 0 0 (omega arith)) in
    let rest : F xs ++ left ≡ F ys ++ over =
    append_cancel_left
    (little_bytes width y) _ _ (ap (λ (z : ℕ). little_bytes width z ++ (F xs ++ left)) (sym same) ∙ apart) in
    let ih = same_front width xs ys left over
    (All-tail (λ x. x < 256 ^ width) x xs small) (All-tail (λ y. y < 256 ^ width) y ys small') (omega arith) rest in
    record {
      more = ih.more;
      longer = ap (λ (w : List ℕ). y ∷ w) ih.longer ∙ ap (λ (z : ℕ). z ∷ (xs ++ ih.more)) (sym same);
      left_is = ih.left_is;
    }
