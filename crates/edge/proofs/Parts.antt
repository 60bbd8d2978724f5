-- One more read into the part of a buffer that isn't filled.
use Rattle.std.proofs.Common.{◌≡◌, ℕ, zero, suc, ◌+◌, ◌<◌, ◌≤◌, List, [], ◌++◌, length, take}
use Rattle.std.proofs.Common.{drop, refl, sym, ap, ◌∙◌, subst, Option, Some, None, arith}
use Rattle.std.specs.Option.{IfSome, IsSomeAnd}
use Rattle.std.proofs.lemmas.List.{take-append-drop, take-append-le, append-nil}
use Rattle.std.proofs.lemmas.List.{nil_from_length, take_at, length-take-le, drop_at}
use Rattle.std.proofs.Math.Seq.{take-add}
use Rattle.std.proofs.lemmas.Slice.{take-put_mid_below}
use borrow.Rule.Slice.PartMut.{put_mid}
use Rattle.edge.specs.Shelf.{ReadsNext}
use Rattle.edge.specs.Reading.{HasRead, Fills}
use Rattle.edge.proofs.CallerLemmas.{HasRead-append}

pub HasRead-next : (before after : Option (List ℕ)) (room n : ℕ) (buf : List ℕ) →
    ReadsNext before room n buf after → HasRead before (take n buf) after
HasRead-next None after room n buf _ = tt
HasRead-next (Some bytes) after room n buf next =
    let P : Option (List ℕ) → Type 0 = λ rest. IsSomeAnd rest (λ left. bytes ≡ take n buf ++ left) in
    let split : bytes ≡ take n buf ++ drop n bytes = sym (take-append-drop n bytes)
    ∙ ap (λ (w : List ℕ). w ++ drop n bytes) (sym next.read) in
    subst P (sym next.left) split

-- what the front holds after a write of the part behind it
take-put_mid_part : (filled n k : ℕ) (buf part : List ℕ) → filled ≤ length buf → n ≤ length part →
    take (filled + n) (put_mid filled k buf part) ≡ take filled buf ++ take n part
take-put_mid_part filled n k buf part a b =
    let front : length (take filled buf) ≡ filled = length-take-le filled buf a in
    let past : drop filled (take filled buf ++ (part ++ drop k (drop filled buf))) ≡ part
    ++ drop k (drop filled buf) = drop_at (take filled buf) (part ++ drop k (drop filled buf)) filled front in
    let whole = put_mid filled k buf part in
    take-add filled n whole
    ∙ ap (λ (w : List ℕ). w ++ take n (drop filled whole))
    (take_at (take filled buf) (part ++ drop k (drop filled buf)) filled front)
    ∙ ap (λ (w : List ℕ). take filled buf ++ take n w) past
    ∙ ap (λ (w : List ℕ). take filled buf ++ w) (take-append-le n part (drop k (drop filled buf)) b)

pub fill-more : (first before after : Option (List ℕ)) (filled n room k : ℕ) (buf part : List ℕ) →
    filled ≤ length buf → n ≤ length part →
    HasRead first (take filled buf) before → ReadsNext before room n part after →
    HasRead first (take (filled + n) (put_mid filled k buf part)) after
fill-more first before after filled n room k buf part a b so_far next =
    rw (take-put_mid_part filled n k buf part a b)
    (HasRead-append first before after
    (take filled buf) (take n part) so_far (HasRead-next before after room n part next))

nothing-there : (m n : ℕ) → n ≡ 0 → (0 < m → 0 < n) → m ≡ 0
nothing-there zero n none some = refl
nothing-there (suc m) n none some = absurd (omega (arith, some (omega arith)))

-- a read of nothing, where there was room
nothing-left : (first before after : Option (List ℕ)) (room n : ℕ) (front part : List ℕ) → 0 < room → n ≡ 0 →
    HasRead first front before → ReadsNext before room n part after → IfSome first (λ bytes. bytes ≡ front)
nothing-left None before after room n front part _ _ _ _ = tt
nothing-left (Some x) None after room n front part _ _ h _ = absurd h
nothing-left (Some x) (Some y) after room n front part wide none h next =
    let empty : y ≡ [] = nil_from_length y (nothing-there (length y) n none (λ some. next.goes_on wide some)) in
    h ∙ ap (λ (w : List ℕ). front ++ w) empty ∙ append-nil front

pub fill-ends : (first before after : Option (List ℕ)) (filled n room k : ℕ) (buf part : List ℕ) →
    filled ≤ length buf → 0 < room → n ≡ 0 →
    HasRead first (take filled buf) before → ReadsNext before room n part after →
    Fills first filled (put_mid filled k buf part) after
fill-ends first before after filled n room k buf part a wide none so_far next =
    let same : take filled (put_mid filled k buf part)
    ≡ take filled buf = take-put_mid_below filled k buf part filled (omega arith) a in
    let none_read : HasRead before [] after = let P : ℕ → Type 0 = λ n. HasRead before (take n part) after in
    subst P none (HasRead-next before after room n part next) in
    record {
      read = rw same (let P : List ℕ → Type 0 = λ w. HasRead first w after in subst P
          (append-nil (take filled buf)) (HasRead-append first before after (take filled buf) [] so_far none_read));
      ended = λ _. rw same (nothing-left first before after room n (take filled buf) part wide none so_far next);
    }
