-- A part of a list goes on to a whole list, by items like it.
use Rattle.std.proofs.Common.{◌≡◌, ℕ, zero, suc, ◌-◌, ◌<◌, List, [], ◌∷◌, ◌++◌}
use Rattle.std.proofs.Common.{length, refl, sym, ap, ◌∙◌, length-append, arith, All}
use Rattle.std.specs.List.{flat_map}
use Rattle.std.proofs.lemmas.List.{append-nil}
use Rattle.std.proofs.lemmas.Grind.{flat_map-append}
use Rattle.std.proofs.lemmas.List.Elements.{All-nil, All-cons, All-append}

module _ {T : Type 0} (f : T → List ℕ) (P : T → Type 0) where
  -- an item n times
  pub many : T → ℕ → List T
  many item zero = []
  many item (suc n) = item ∷ many item n

  pub length-many : (item : T) (n : ℕ) → length (many item n) ≡ n
  unfolding many
  length-many item zero = refl
  length-many item (suc n) = ap suc (length-many item n)

  pub All-many : (item : T) (n : ℕ) → P item → All P (many item n)
  unfolding many
  All-many item zero holds = All-nil P
  All-many item (suc n) holds = All-cons P item (many item n) holds (All-many item n holds)

  -- the bytes of a list that has n items, all P
  abbrev pub IsList : ℕ → List ℕ → Type 0
  IsList n bytes = (items : List T) × (length items ≡ n) × All P items × (bytes ≡ flat_map f items)

  -- behind the items so far and the bytes of one more
  pub list-goes : (done : List T) (n : ℕ) (item : T) (bytes : List ℕ) →
      All P done → P item → length done < n → bytes ≡ f item →
      (tail : List ℕ) × IsList n (flat_map f done ++ (bytes ++ tail))
  list-goes done n item bytes fit fits less is =
      let more = many item (n - length done - 1) in
      let whole : flat_map f done ++ (bytes ++ flat_map f more) ≡ flat_map f (done ++ item ∷ more) =
      ap (λ (w : List ℕ). flat_map f done ++ (w ++ flat_map f more)) is
      ∙ sym (flat_map-append f done (item ∷ more)) in (
        flat_map f more,
        (
          done ++ item ∷ more,
          omega (arith, length-append done (item ∷ more), length-many item (n - length done - 1)),
          All-append P done (item ∷ more) fit (All-cons P item more fits (All-many item (n - length done - 1) fits)),
          whole,
        ),
      )

  pub list-push : (done : List T) (item : T) → flat_map f done ++ f item ≡ flat_map f (done ++ item ∷ [])
  list-push done item =
      ap (λ (w : List ℕ). flat_map f done ++ w) (sym (append-nil (f item))) ∙ sym (flat_map-append f done (item ∷ []))
