-- The numbers of bytes, added to a list one after the other.
use Rattle.std.proofs.Common.{◌≡◌, ℕ, ◌+◌, ◌-◌, ◌*◌, ◌^◌, ◌<◌, ◌≤◌, List, [], ◌∷◌, ◌++◌, length, take, drop}
use Rattle.std.proofs.Common.{get_or, sym, ap, ◌∙◌, subst, append_assoc, mul-add, mul-one, arith, All, ⊎_elim}
use Rattle.std.specs.List.{flat_map}
use Rattle.std.proofs.lemmas.Bool.{cases_lt}
use Rattle.std.proofs.lemmas.List.{append-nil, take-append-drop, length-drop, nil_from_length}
use Rattle.std.proofs.lemmas.List.Concat.{flat_map-append}
use Rattle.std.proofs.lemmas.List.Elements.{All-push}
use Rattle.byteorder.specs.Endian.{little_bytes}
use Rattle.sosd_reader.specs.NumberFiles.{Kind, number_width, Follows, Fails, AllFollow}
use Rattle.sosd_reader.specs.NumberFiles.Kind.{of_keys}
use Rattle.sosd_reader.specs.Reading.{GoesOn, FailsNext}
use Rattle.sosd_reader.proofs.KindLemmas.{follow-push, last-before}
use Rattle.std.proofs.Math.Seq.{take-add}

-- the first i numbers were added, and each may follow
pub record IsUnderWay (kind : Kind) (front bytes : List ℕ) (i : ℕ) (list : List ℕ) : Type 0 where
  pub numbers : List ℕ
  pub added : list ≡ front ++ numbers
  pub stand : take (number_width kind * i) bytes ≡ flat_map (little_bytes (number_width kind)) numbers
  pub each_fits : All (λ number. number < 256 ^ number_width kind) numbers
  pub all_follow : AllFollow kind list

-- the number at this place
stand-more : (width i : ℕ) (bytes numbers : List ℕ) (key : ℕ) →
    little_bytes width key ≡ take width (drop (width * i) bytes) →
    take (width * i) bytes ≡ flat_map (little_bytes width) numbers →
    take (width * (i + 1)) bytes ≡ flat_map (little_bytes width) (numbers ++ key ∷ [])
stand-more width i bytes numbers key is stand =
    let e : width * (i + 1) ≡ width * i + width = mul-add width i 1 ∙ ap (λ (n : ℕ). width * i + n) (mul-one width) in
    ap (λ (n : ℕ). take n bytes) e
    ∙ take-add (width * i) width bytes
    ∙ ap (λ (w : List ℕ). w ++ take width (drop (width * i) bytes)) stand
    ∙ ap (λ (w : List ℕ). flat_map (little_bytes width) numbers ++ w)
    (sym is ∙ sym (append-nil (little_bytes width key)))
    ∙ sym (flat_map-append (little_bytes width) numbers (key ∷ []))

pub under_way_none : (kind : Kind) (front bytes : List ℕ) → AllFollow kind front → IsUnderWay kind front bytes 0 front
under_way_none kind front bytes follow = record {
  numbers = [];
  added = sym (append-nil front);
  stand = let nothing : number_width kind * 0 ≡ 0 = omega arith in ap (λ (n : ℕ). take n bytes) nothing;
  each_fits = λ k d below. absurd (omega arith);
  all_follow = follow;
}

pub under_way_push : (kind : Kind) (front bytes : List ℕ) (i : ℕ) (list : List ℕ) (number : ℕ) →
    IsUnderWay kind front bytes i list →
    number < 256 ^ number_width kind →
    little_bytes (number_width kind) number ≡ take (number_width kind) (drop (number_width kind * i) bytes) →
    Follows kind (get_or (list ++ number ∷ []) (length list - 1) 0) number →
    IsUnderWay kind front bytes (i + 1) (list ++ number ∷ [])
under_way_push kind front bytes i list number so_far small is follows = record {
  numbers = so_far.numbers ++ number ∷ [];
  added = ap (λ (w : List ℕ). w ++ number ∷ []) so_far.added ∙ append_assoc front so_far.numbers (number ∷ []);
  stand = stand-more (number_width kind) i bytes so_far.numbers number is so_far.stand;
  each_fits = All-push (λ each. each < 256 ^ number_width kind) so_far.numbers number so_far.each_fits small;
  all_follow = follow-push kind list number so_far.all_follow follows;
}

pub under_way_fails : (kind : Kind) (n : ℕ) (front bytes : List ℕ) (i : ℕ) (list : List ℕ) (at before number : ℕ) →
    IsUnderWay kind front bytes i list →
    i < n → length list ≡ length front + i → at ≡ length list → number < 256 ^ number_width kind →
    little_bytes (number_width kind) number ≡ take (number_width kind) (drop (number_width kind * i) bytes) →
    before ≡ get_or (list ++ number ∷ []) (length list - 1) 0 →
    Fails kind before number → FailsNext kind n front bytes at before number
under_way_fails kind n front bytes i list at before number so_far within len place small is last fails =
    let width = number_width kind in
    let numbers = so_far.numbers in
    let same = so_far.added in
    record {
      numbers = numbers;
      over = drop (width * (i + 1)) bytes;
      stand = sym (take-append-drop (width * (i + 1)) bytes) ∙ ap
          (λ (w : List ℕ). w ++ drop (width * (i + 1)) bytes) (stand-more width i bytes numbers number is so_far.stand);
      each_fits = All-push (λ each. each < 256 ^ width) numbers number so_far.each_fits small;
      all_follow = subst (AllFollow kind) same so_far.all_follow;
      place = place ∙ ap length same;
      before_is = last ∙ ap (λ (k : ℕ). get_or (list ++ number ∷ []) (k - 1) 0) (sym place)
          ∙ ap (λ (w : List ℕ). get_or (w ++ number ∷ []) (at - 1) 0) same;
      fails = fails;
      within = omega arith;
    }

pub under_way_end : (kind : Kind) (front bytes : List ℕ) (i : ℕ) (list : List ℕ) → IsUnderWay kind front bytes i list →
    0 < number_width kind →
    length bytes < number_width kind * i + number_width kind → GoesOn (number_width kind) front bytes list
under_way_end kind front bytes i list so_far some end = record {
  numbers = so_far.numbers;
  over = drop (number_width kind * i) bytes;
  added = so_far.added;
  stand = sym (take-append-drop (number_width kind * i) bytes)
      ∙ ap (λ (w : List ℕ). w ++ drop (number_width kind * i) bytes) so_far.stand;
  each_fits = so_far.each_fits;
  whole = omega (arith, length-drop (number_width kind * i) bytes);
}

-- a key that isn't below the last one, or 0 where there is none, follows; and where it is below, there is one
pub key-follows : (width : ℕ) (list : List ℕ) (last key : ℕ) → last ≡ get_or list (length list - 1) 0 → last ≤ key →
    Follows (of_keys width) (get_or (list ++ key ∷ []) (length list - 1) 0) key
key-follows width list last key is up =
    ⊎_elim
    (λ some. omega (arith, last-before list key some))
    (λ none. let empty : list ≡ [] = nil_from_length list (omega arith) in
    subst (λ (w : List ℕ). get_or (w ++ key ∷ []) (length w - 1) 0 ≤ key) (sym empty) (omega arith))
    (cases_lt 0 (length list))

pub key-falls : (list : List ℕ) (last key : ℕ) → last ≡ get_or list (length list - 1) 0 → key < last →
    last ≡ get_or (list ++ key ∷ []) (length list - 1) 0
key-falls list last key is down =
    ⊎_elim
    (λ some. omega (arith, last-before list key some))
    (λ none. let empty : list ≡ [] = nil_from_length list (omega arith) in
    let P : List ℕ → Type 0 = λ w. last ≡ get_or w (length w - 1) 0 in
    let nothing : last ≡ get_or [] 0 0 = subst P empty is in absurd (omega arith))
    (cases_lt 0 (length list))
