-- How far a file is read: what each of the three steps takes adds up to the reach of its bytes.
use Rattle.std.proofs.Common.{◌≡◌, ℕ, ◌+◌, ◌*◌, ◌^◌, ◌<◌, ◌≤◌, Bool, true, false, if◌then◌else◌, List}
use Rattle.std.proofs.Common.{◌++◌, length, ltb, sym, ap, ◌∙◌, Option, Some, None, arith, length-append}
use Rattle.std.specs.List.{flat_map}
use Rattle.std.specs.Option.{IfSome}
use Rattle.std.proofs.lemmas.Bool.Decides.{nat_tests}
use Rattle.byteorder.specs.Endian.{little_bytes}
use Rattle.byteorder.specs.Numbers.{little_number-reads_back, length-bytes_low_first}
use Rattle.edge.specs.Shelf.{TakesAtMost}
use Rattle.sosd_reader.specs.declared.fault.KeyFault.{KeyFault}
use Rattle.sosd_reader.specs.NumberFiles.{Kind, number_width, numbers_each}
use Rattle.sosd_reader.specs.FileFaults.{count_in, numbers_said, reach_of}
use Rattle.edge.specs.Reading.{HasRead}
use Rattle.sosd_reader.specs.Reading.{IsWithinReach}
use Rattle.sosd_reader.proofs.Fronts.{length-numbers}
use Rattle.edge.proofs.CallerLemmas.{takes-read}

chosen-least : (b : Bool) (n : ℕ) → 8 ≤ (if b then 8 + n + 1 else 8)
chosen-least true n = omega arith
chosen-least false n = omega arith

-- the count is in reach, whatever it says
pub count-in_reach : (kind : Kind) (before : Option (List ℕ)) (taken : List ℕ) (fault : KeyFault) →
    length taken ≤ 8 → IsWithinReach kind before taken fault
count-in_reach kind None taken fault few = tt
count-in_reach kind (Some x) taken fault few =
    omega (arith, few, chosen-least (ltb (count_in x) (2 ^ 32)) (number_width kind * numbers_said kind x))

-- of a file with a count that it may have the count, the numbers and one byte are in reach
reach-is : (kind : Kind) (count total : ℕ) (bytes left : List ℕ) →
    count < 2 ^ 32 → total ≡ numbers_each kind * count → bytes ≡ little_bytes 8 count ++ left →
    reach_of kind bytes ≡ 8 + number_width kind * total + 1
reach-is kind count total bytes left few all is =
    let said : count_in bytes ≡ count = ap count_in is ∙ little_number-reads_back 8 count left (omega arith) in
    let few_said : ltb (count_in bytes) (2 ^ 32) ≡ true = rw said (grind (arith, nat_tests)) in
    ap (λ (b : Bool). if b then 8 + number_width kind * numbers_said kind bytes + 1 else 8) few_said
    ∙ ap (λ (n : ℕ). 8 + number_width kind * n + 1) (ap (λ (n : ℕ). numbers_each kind * n) said ∙ sym all)

pub numbers-in_reach : (kind : Kind)
    (count total : ℕ) (first before : Option (List ℕ)) (taken : List ℕ) (fault : KeyFault) → count < 2 ^ 32 →
    total ≡ numbers_each kind * count →
    HasRead first (little_bytes 8 count) before → length taken ≤ number_width kind * total →
    IsWithinReach kind first (little_bytes 8 count ++ taken) fault
numbers-in_reach kind count total None before taken fault few all read most = tt
numbers-in_reach kind count total (Some x) None taken fault few all read most = absurd read
numbers-in_reach kind count total (Some x) (Some y) taken fault few all read most =
    omega (
      arith,
      reach-is kind count total x y few all read,
      most,
      length-append (little_bytes 8 count) taken,
      length-bytes_low_first 0 8 count,
    )

-- and so are the numbers and a byte behind them
pub file-in_reach : (kind : Kind) (count : ℕ) (numbers : List ℕ) (first before : Option (List ℕ)) (piece : List ℕ) →
    count < 2 ^ 32 →
    length numbers ≡ numbers_each kind * count → length piece ≤ 1 → HasRead first (little_bytes 8 count) before →
    IfSome first (λ bytes. length
    ((little_bytes 8 count ++ flat_map (little_bytes (number_width kind)) numbers) ++ piece) ≤ reach_of kind bytes)
file-in_reach kind count numbers None before piece few len one read = tt
file-in_reach kind count numbers (Some x) None piece few len one read = absurd read
file-in_reach kind count numbers (Some x) (Some y) piece few len one read =
    let C = little_bytes 8 count in
    let F = flat_map (little_bytes (number_width kind)) numbers in
    let far = reach-is kind count (length numbers) x y few len read in
    omega (
      arith,
      far,
      length-append (C ++ F) piece,
      length-append C F,
      length-numbers (number_width kind) numbers,
      length-bytes_low_first 0 8 count,
    )

pub takes-reach : (kind : Kind) (first after : Option (List ℕ)) (piece : List ℕ) →
    IfSome first (λ bytes. length piece ≤ reach_of kind bytes) → HasRead first piece after →
    IfSome first (λ bytes. TakesAtMost (reach_of kind bytes) first after)
takes-reach kind None after piece few read = tt
takes-reach kind (Some x) after piece few read = takes-read (Some x) after piece (reach_of kind x) few read
