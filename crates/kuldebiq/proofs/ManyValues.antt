-- The values at many keys, block after block.
use Rattle.std.proofs.Common.{◌≡◌, ◌+◌, ◌-◌, ◌≤◌, ℕ, List, ◌++◌, length, map, take, drop, sym, ap, ◌∙◌, arith}
use Rattle.std.proofs.Common.{length-drop}
use Rattle.std.proofs.lemmas.List.{length-map, length-take, map-append}
use Rattle.std.proofs.lemmas.Slice.{take-put_mid}
use Rattle.std.proofs.Math.Seq.{take-add}
use borrow.Rule.Slice.PartMut.{put_mid}

-- what is said of one more block of keys is written
pub said-more : (said : ℕ → ℕ) (keys room block : List ℕ) (from end : ℕ) →
    from ≤ end → end ≤ length keys → length room ≡ length keys →
    take from room ≡ map said (take from keys) → block ≡ map said (take (end - from) (drop from keys))
    → take end (put_mid from (end - from) room block) ≡ map said (take end keys)
said-more said keys room block from end up inside same before is =
    let part = take (end - from) (drop from keys) in
    let long : length block ≡ end - from = omega (
      arith,
      ap (λ (l : List ℕ). length l) is,
      length-map {B = ℕ} part said,
      length-take (end - from) (drop from keys),
      length-drop from keys,
    ) in
    let size : from + (end - from) ≡ end = omega arith in
    take-put_mid from (end - from) room block end (omega arith) (omega arith)
    ∙ ap (λ l. l ++ block) before
    ∙ ap (λ l. map said (take from keys) ++ l) is
    ∙ sym (map-append said (take from keys) part)
    ∙ ap (map said) (sym (take-add from (end - from) keys))
    ∙ ap (λ n. map said (take n keys)) size
