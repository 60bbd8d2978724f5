-- A file that begins with a count and numbers, by the words of a reading.
use Rattle.std.proofs.Common.{◌≡◌, ℕ, zero, suc, ◌+◌, ◌-◌, ◌*◌, ◌^◌, ◌<◌, ◌≤◌, List, [], ◌∷◌, ◌++◌}
use Rattle.std.proofs.Common.{length, drop, get_or, sym, ap, ◌∙◌, subst, append_assoc, length-append}
use Rattle.std.proofs.Common.{arith, All, mul-le-mul_left, mul-add, mul-one, mul-suc, ⊎_elim}
use Rattle.std.specs.List.{flat_map}
use Rattle.std.proofs.Math.Seq.{drop-append-add}
use Rattle.std.proofs.lemmas.Bool.{cases_lt}
use Rattle.std.proofs.lemmas.List.{append-nil}
use Rattle.std.proofs.lemmas.List.Elements.{All-tail}
use Rattle.byteorder.specs.Endian.{little_bytes, little_number}
use Rattle.byteorder.specs.Numbers.{little_number-reads_back, length-bytes_low_first}
use Rattle.sosd_reader.specs.NumberFiles.{Kind, number_width, AllFollow, IsFileOf}
use Rattle.sosd_reader.specs.FileFaults.{count_in, number_in, IsWhole, NoneFails, HasCount}
use Rattle.sosd_reader.proofs.KindLemmas.{follows-same}
use Rattle.sosd_reader.proofs.Fronts.{length-numbers}

-- the count, numbers, and what is over
pub record BeginsWith (width count : ℕ) (numbers over bytes : List ℕ) : Type 0 where
  pub written : bytes ≡ little_bytes 8 count ++ (flat_map (little_bytes width) numbers ++ over)
  pub few : count < 2 ^ 32
  pub each_fits : All (λ number. number < 256 ^ width) numbers

pub count-is : (width count : ℕ) (numbers over bytes : List ℕ) →
    BeginsWith width count numbers over bytes → count_in bytes ≡ count
count-is width count numbers over bytes begins =
    ap (little_number 8) begins.written
    ∙ little_number-reads_back 8 count (flat_map (little_bytes width) numbers ++ over) (omega (arith, begins.few))

pub length-is : (width count : ℕ) (numbers over bytes : List ℕ) →
    BeginsWith width count numbers over bytes → length bytes ≡ 8 + (width * length numbers + length over)
length-is width count numbers over bytes begins =
    let F = flat_map (little_bytes width) numbers in
    let all = ap length begins.written in
    let split = length-append (little_bytes 8 count) (F ++ over) in
    let rest = length-append F over in
    omega (arith, all, split, rest, length-bytes_low_first 0 8 count, length-numbers width numbers)

pub has-count : (width count : ℕ) (numbers over bytes : List ℕ) →
    BeginsWith width count numbers over bytes → HasCount bytes
has-count width count numbers over bytes begins =
    let said = count-is width count numbers over bytes begins in
    record {
      whole = omega (arith, length-is width count numbers over bytes begins);
      few = subst (λ (n : ℕ). n < 2 ^ 32) (sym said) begins.few;
    }

-- past the bytes of one number
drop-number : (width j x : ℕ) (rest : List ℕ) →
    drop (width * suc j) (little_bytes width x ++ rest) ≡ drop (width * j) rest
drop-number width j x rest =
    let place : width * suc j ≡ length (little_bytes width x) + width * j = mul-suc width j
    ∙ omega (arith, length-bytes_low_first 0 width x) in
    ap (λ (n : ℕ). drop n (little_bytes width x ++ rest)) place
    ∙ drop-append-add (little_bytes width x) rest (width * j)

number-at : (width : ℕ) (numbers over : List ℕ) (j : ℕ) →
    All (λ number. number < 256 ^ width) numbers → j < length numbers →
    little_number width (drop (width * j) (flat_map (little_bytes width) numbers ++ over)) ≡ get_or numbers j 0
number-at width [] over j fits there = absurd (omega arith)
number-at width (x ∷ xs) over zero fits there =
    let place : width * 0 ≡ 0 = omega arith in
    let F = flat_map (little_bytes width) xs in
    ap (λ (n : ℕ). little_number width (drop n ((little_bytes width x ++ F) ++ over))) place
    ∙ ap (little_number width) (append_assoc (little_bytes width x) F over)
    ∙ little_number-reads_back width x (F ++ over) (fits 0 0 (omega arith))
number-at width (x ∷ xs) over (suc j) fits there =
    let F = flat_map (little_bytes width) xs in
    ap (λ (w : List ℕ). little_number width (drop (width * suc j) w)) (append_assoc (little_bytes width x) F over)
    ∙ ap (little_number width) (drop-number width j x (F ++ over))
    ∙ number-at width xs over j (All-tail (λ number. number < 256 ^ width) x xs fits) (omega arith)

pub number-in : (kind : Kind) (count : ℕ) (numbers over bytes : List ℕ) (j : ℕ) →
    BeginsWith (number_width kind) count numbers over bytes → j < length numbers →
    number_in kind bytes j ≡ get_or numbers j 0
number-in kind count numbers over bytes j begins there =
    let width = number_width kind in
    let R = flat_map (little_bytes width) numbers ++ over in
    let place : 8 + width * j
    ≡ length (little_bytes 8 count) + width * j = omega (arith, length-bytes_low_first 0 8 count) in
    ap (λ (w : List ℕ). little_number width (drop (8 + width * j) w)) begins.written
    ∙ ap (λ (n : ℕ). little_number width (drop n (little_bytes 8 count ++ R))) place
    ∙ ap (little_number width) (drop-append-add (little_bytes 8 count) R (width * j))
    ∙ number-at width numbers over j begins.each_fits there

-- where all numbers below n that are whole are among these, they follow as these do
pub none-fails : (kind : Kind) (count : ℕ) (numbers over bytes : List ℕ) (n : ℕ) →
    BeginsWith (number_width kind) count numbers over bytes → AllFollow kind numbers →
    ((j : ℕ) → j < n → IsWhole kind bytes j → j < length numbers) → NoneFails kind bytes n
none-fails kind count numbers over bytes n begins follow among = λ j below whole.
    let there = among j below whole in
    follows-same kind _ _ _ _
    (number-in kind count numbers over bytes (j - 1) begins (omega arith))
    (number-in kind count numbers over bytes j begins there)
    (follow j there)

-- where less than a number is over, each number that is whole is among these
pub whole-among : (kind : Kind) (count : ℕ) (numbers over bytes : List ℕ) (j : ℕ) →
    BeginsWith (number_width kind) count numbers over bytes → length over < number_width kind →
    IsWhole kind bytes j → j < length numbers
whole-among kind count numbers over bytes j begins short whole =
    let width = number_width kind in
    let all = length-is width count numbers over bytes begins in
    let n = length numbers in
    ⊎_elim (λ less. less)
    (λ more. let up : n + 1 ≤ j + 1 = omega arith in let big = mul-le-mul_left width up in
    let one = mul-add width n 1 in let unit = mul-one width in absurd (omega arith))
    (cases_lt j n)

-- a file is its count and its numbers
pub file-begins : (kind : Kind) (numbers bytes : List ℕ) →
    (file : IsFileOf kind numbers bytes) → BeginsWith (number_width kind) file.count numbers [] bytes
file-begins kind numbers bytes file = record {
  written = file.written ∙ ap (λ (w : List ℕ). little_bytes 8 file.count ++ w)
      (sym (append-nil (flat_map (little_bytes (number_width kind)) numbers)));
  few = file.are.few;
  each_fits = file.are.each_fits;
}
