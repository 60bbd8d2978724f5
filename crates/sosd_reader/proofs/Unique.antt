-- The bytes have one reading.
use Rattle.std.proofs.Common.{◌≡◌, ℕ, ◌+◌, ◌-◌, ◌*◌, ◌<◌, ◌≤◌, List, [], ◌++◌, length, sym}
use Rattle.std.proofs.Common.{ap, ◌∙◌, subst, Result, Ok, Err, length-append, arith, ⊎_elim}
use Rattle.std.specs.List.{flat_map}
use Rattle.std.proofs.lemmas.Bool.{cases_lt}
use Rattle.std.proofs.lemmas.List.{append-nil, append_cancel_left, nil_from_length}
use Rattle.byteorder.specs.Endian.{little_bytes}
use Rattle.sosd_reader.specs.declared.fault.KeyFault.{KeyFault}
use Rattle.sosd_reader.specs.declared.fault.KeyFault.TheVariants.{ReadFault, TooMany, Short}
use Rattle.sosd_reader.specs.declared.fault.KeyFault.TheVariants.{Unsorted, Trailing, Wide, NoMemory}
use Rattle.sosd_reader.specs.NumberFiles.{Kind, number_width, numbers_each, Follows, IsFileOf}
use Rattle.sosd_reader.specs.NumberFiles.Kind.{of_keys}
use Rattle.sosd_reader.specs.FileFaults.{numbers_said, number_in, NoneFails, HasCount, IsTooMany}
use Rattle.sosd_reader.specs.FileFaults.{IsFirstFailing, IsShort, IsTrailing, ReadsAsFile}
use Rattle.sosd_reader.specs.KeyFileFaults.{ReadsAs}
use Rattle.sosd_reader.proofs.KindLemmas.{follows-clash, not-both}
use Rattle.sosd_reader.proofs.Fronts.{same_front}
use Rattle.sosd_reader.proofs.Beginning.{count-is, length-is, has-count, none-fails, file-begins}

module _ (kind : Kind) (bytes : List ℕ) where
  -- a file has its count, its numbers, which follow, and nothing more
  record IsFile : Type 0 where
    counted : HasCount bytes
    ends : length bytes ≡ 8 + number_width kind * numbers_said kind bytes
    follow : NoneFails kind bytes (numbers_said kind bytes)

  -- as many numbers as the count says
  pub said-is : (numbers : List ℕ) → IsFileOf kind numbers bytes → numbers_said kind bytes ≡ length numbers
  said-is numbers file =
      ap (λ (n : ℕ). numbers_each kind * n)
      (count-is (number_width kind) file.count numbers [] bytes (file-begins kind numbers bytes file))
      ∙ sym file.are.whole

  is-file : (numbers : List ℕ) → IsFileOf kind numbers bytes → IsFile
  is-file numbers file =
      let begins = file-begins kind numbers bytes file in
      let said = said-is numbers file in
      let long = length-is (number_width kind) file.count numbers [] bytes begins in
      let same : number_width kind * numbers_said kind bytes
      ≡ number_width kind * length numbers = ap (λ (n : ℕ). number_width kind * n) said in
      record {
        counted = has-count (number_width kind) file.count numbers [] bytes begins;
        ends = omega (arith, long, same);
        follow = none-fails kind file.count numbers [] bytes
            (numbers_said kind bytes) begins file.are.all_follow (λ j below whole. omega (arith, said));
      }

  -- of two lists with the same file each is the other
  same-numbers : (xs ys : List ℕ) → IsFileOf kind xs bytes → IsFileOf kind ys bytes → xs ≡ ys
  same-numbers xs ys first second =
      let F : List ℕ → List ℕ = flat_map (little_bytes (number_width kind)) in
      let one = file-begins kind xs bytes first in
      let two = file-begins kind ys bytes second in
      let count : first.count ≡ second.count = sym (count-is (number_width kind) first.count xs [] bytes one)
      ∙ count-is (number_width kind) second.count ys [] bytes two in
      let long : length xs ≡ length ys = sym (said-is xs first) ∙ said-is ys second in
      let after : F xs ++ [] ≡ F ys ++ [] =
      append_cancel_left (little_bytes 8 second.count) (F xs ++ [])
      (F ys ++ []) (ap (λ (n : ℕ). little_bytes 8 n ++ (F xs ++ [])) (sym count) ∙ sym one.written ∙ two.written) in
      let longer = same_front
      (number_width kind) xs ys [] [] first.are.each_fits second.are.each_fits (omega (arith, long)) after in
      let none : longer.more ≡ [] =
      nil_from_length longer.more (omega (arith, ap length longer.longer, length-append xs longer.more, long)) in
      sym (longer.longer ∙ ap (λ (w : List ℕ). xs ++ w) none ∙ append-nil xs)

  many-clash : (count : ℕ) → IsTooMany bytes count → HasCount bytes → ⊥
  many-clash count many counted = omega (arith, many.said, many.many, counted.few)

  many-short : (count got : ℕ) → IsTooMany bytes count → IsShort kind bytes got → ⊥
  many-short count got many short =
      ⊎_elim (λ less. omega (arith, less, short.all, many.whole)) (λ later. many-clash count many later.0) short.ends

  long-short : (got : ℕ) →
      HasCount bytes → 8 + number_width kind * numbers_said kind bytes ≤ length bytes → IsShort kind bytes got → ⊥
  long-short got counted long short =
      ⊎_elim (λ less. omega (arith, less, short.all, counted.whole))
      (λ later. omega (arith, later.1, short.all, long)) short.ends

  -- a number that fails is none that may follow
  failing-clash : (at before number n : ℕ) →
      IsFirstFailing kind bytes at before number → at < n → NoneFails kind bytes n → ⊥
  failing-clash at before number n failing within follow =
      let follows = follow at within failing.whole in
      follows-clash kind before number
      (subst (λ (v : ℕ). Follows kind v number) (sym failing.before_is)
      (subst (λ (v : ℕ). Follows kind (number_in kind bytes (at - 1)) v) (sym failing.number_is) follows))
      failing.fails

  failing-short : (at before number got : ℕ) → IsFirstFailing kind bytes at before number → IsShort kind bytes got → ⊥
  failing-short at before number got failing short =
      ⊎_elim
      (λ less. omega (arith, less, short.all, failing.counted.whole))
      (λ later. failing-clash at before number (numbers_said kind bytes) failing failing.within later.2)
      short.ends

  failing-trailing : (at before number byte : ℕ) →
      IsFirstFailing kind bytes at before number → IsTrailing kind bytes byte → ⊥
  failing-trailing at before number byte failing trailing =
      failing-clash at before number (numbers_said kind bytes) failing failing.within trailing.none_fails

  failing-file : (at before number : ℕ) (numbers : List ℕ) →
      IsFirstFailing kind bytes at before number → IsFileOf kind numbers bytes → ⊥
  failing-file at before number numbers failing file =
      failing-clash at before number (numbers_said kind bytes) failing failing.within (is-file numbers file).follow

  -- the first number that fails is one
  same-place : (at before number at' before' number' : ℕ) →
      IsFirstFailing kind bytes at before number → IsFirstFailing kind bytes at' before' number' → at ≡ at'
  same-place at before number at' before' number' one two =
      ⊎_elim
      (λ less. absurd (failing-clash at before number at' one less two.first))
      (λ more. ⊎_elim (λ less. absurd (failing-clash at' before' number' at two less one.first))
      (λ equal. omega arith) (cases_lt at' at))
      (cases_lt at at')

  from-file : (numbers : List ℕ) (b : Result (List ℕ) KeyFault) →
      IsFileOf kind numbers bytes → ReadsAsFile kind bytes b → Ok numbers ≡ b
  from-file numbers (Ok ys) one two = ap Ok (same-numbers numbers ys one two)
  from-file numbers (Err (TooMany count)) one two = absurd (many-clash count two (is-file numbers one).counted)
  from-file numbers (Err (Short got)) one two =
      let file = is-file numbers one in absurd (long-short got file.counted (omega (arith, file.ends)) two)
  from-file numbers (Err (Unsorted at before key)) one two = absurd (failing-file at before key numbers two.1 one)
  from-file numbers (Err (Wide at value)) one two = absurd (failing-file at _ value numbers two.1 one)
  from-file numbers (Err (Trailing byte)) one two = absurd (omega (arith, two.more, (is-file numbers one).ends))
  from-file numbers (Err ReadFault) one two = absurd two
  from-file numbers (Err NoMemory) one two = absurd two

  from-many : (count : ℕ) (b : Result (List ℕ) KeyFault) →
      IsTooMany bytes count → ReadsAsFile kind bytes b → Err (TooMany count) ≡ b
  from-many count (Ok ys) one two = absurd (many-clash count one (is-file ys two).counted)
  from-many count (Err (TooMany count')) one two = let e : count ≡ count' = one.said ∙ sym two.said in cc
  from-many count (Err (Short got)) one two = absurd (many-short count got one two)
  from-many count (Err (Unsorted at before key)) one two = absurd (many-clash count one two.1.counted)
  from-many count (Err (Wide at value)) one two = absurd (many-clash count one two.1.counted)
  from-many count (Err (Trailing byte)) one two = absurd (many-clash count one two.counted)
  from-many count (Err ReadFault) one two = absurd two
  from-many count (Err NoMemory) one two = absurd two

  from-short : (got : ℕ) (b : Result (List ℕ) KeyFault) →
      IsShort kind bytes got → ReadsAsFile kind bytes b → Err (Short got) ≡ b
  from-short got (Ok ys) one two =
      let file = is-file ys two in absurd (long-short got file.counted (omega (arith, file.ends)) one)
  from-short got (Err (TooMany count)) one two = absurd (many-short count got two one)
  from-short got (Err (Short got')) one two = let e : got ≡ got' = one.all ∙ sym two.all in cc
  from-short got (Err (Unsorted at before key)) one two = absurd (failing-short at before key got two.1 one)
  from-short got (Err (Wide at value)) one two = absurd (failing-short at _ value got two.1 one)
  from-short got (Err (Trailing byte)) one two = absurd (long-short got two.counted (omega (arith, two.more)) one)
  from-short got (Err ReadFault) one two = absurd two
  from-short got (Err NoMemory) one two = absurd two

  from-unsorted : (at before key : ℕ) (b : Result (List ℕ) KeyFault) →
      ReadsAsFile kind bytes (Err (Unsorted at before key)) → ReadsAsFile kind bytes b →
      Err (Unsorted at before key) ≡ b
  from-unsorted at before key (Ok ys) one two = absurd (failing-file at before key ys one.1 two)
  from-unsorted at before key (Err (TooMany count)) one two = absurd (many-clash count two one.1.counted)
  from-unsorted at before key (Err (Short got)) one two = absurd (failing-short at before key got one.1 two)
  from-unsorted at before key (Err (Unsorted at' before' key')) one two =
      let place : at ≡ at' = same-place at before key at' before' key' one.1 two.1 in
      let above : before ≡ before' = one.1.before_is
      ∙ ap (λ (n : ℕ). number_in kind bytes (n - 1)) place ∙ sym two.1.before_is in
      let same : key ≡ key' = one.1.number_is ∙ ap (number_in kind bytes) place ∙ sym two.1.number_is in
      cc
  from-unsorted at before key (Err (Wide at' value)) one two = absurd (not-both kind one.0 two.0)
  from-unsorted at before key (Err (Trailing byte)) one two = absurd (failing-trailing at before key byte one.1 two)
  from-unsorted at before key (Err ReadFault) one two = absurd two
  from-unsorted at before key (Err NoMemory) one two = absurd two

  from-wide : (at value : ℕ) (b : Result (List ℕ) KeyFault) →
      ReadsAsFile kind bytes (Err (Wide at value)) → ReadsAsFile kind bytes b → Err (Wide at value) ≡ b
  from-wide at value (Ok ys) one two = absurd (failing-file at _ value ys one.1 two)
  from-wide at value (Err (TooMany count)) one two = absurd (many-clash count two one.1.counted)
  from-wide at value (Err (Short got)) one two = absurd (failing-short at _ value got one.1 two)
  from-wide at value (Err (Unsorted at' before key)) one two = absurd (not-both kind two.0 one.0)
  from-wide at value (Err (Wide at' value')) one two =
      let place : at ≡ at' = same-place at _ value at' _ value' one.1 two.1 in
      let same : value ≡ value' = one.1.number_is ∙ ap (number_in kind bytes) place ∙ sym two.1.number_is in
      cc
  from-wide at value (Err (Trailing byte)) one two = absurd (failing-trailing at _ value byte one.1 two)
  from-wide at value (Err ReadFault) one two = absurd two
  from-wide at value (Err NoMemory) one two = absurd two

  from-trailing : (byte : ℕ) (b : Result (List ℕ) KeyFault) →
      IsTrailing kind bytes byte → ReadsAsFile kind bytes b → Err (Trailing byte) ≡ b
  from-trailing byte (Ok ys) one two = absurd (omega (arith, one.more, (is-file ys two).ends))
  from-trailing byte (Err (TooMany count)) one two = absurd (many-clash count two one.counted)
  from-trailing byte (Err (Short got)) one two = absurd (long-short got one.counted (omega (arith, one.more)) two)
  from-trailing byte (Err (Unsorted at before key)) one two = absurd (failing-trailing at before key byte two.1 one)
  from-trailing byte (Err (Wide at value)) one two = absurd (failing-trailing at _ value byte two.1 one)
  from-trailing byte (Err (Trailing byte')) one two = let e : byte ≡ byte' = one.byte_is ∙ sym two.byte_is in cc
  from-trailing byte (Err ReadFault) one two = absurd two
  from-trailing byte (Err NoMemory) one two = absurd two

  pub one-file-reading : (a b : Result (List ℕ) KeyFault) → ReadsAsFile kind bytes a → ReadsAsFile kind bytes b → a ≡ b
  one-file-reading (Ok xs) b one two = from-file xs b one two
  one-file-reading (Err (TooMany count)) b one two = from-many count b one two
  one-file-reading (Err (Short got)) b one two = from-short got b one two
  one-file-reading (Err (Unsorted at before key)) b one two = from-unsorted at before key b one two
  one-file-reading (Err (Wide at value)) b one two = from-wide at value b one two
  one-file-reading (Err (Trailing byte)) b one two = from-trailing byte b one two
  one-file-reading (Err ReadFault) b one two = absurd one
  one-file-reading (Err NoMemory) b one two = absurd one

-- the same of a key file
pub one-reading : (width : ℕ) (bytes : List ℕ) (a b : Result (List ℕ) KeyFault) →
    ReadsAs width bytes a → ReadsAs width bytes b → a ≡ b
one-reading width bytes a b one two = one-file-reading (of_keys width) bytes a b one two
