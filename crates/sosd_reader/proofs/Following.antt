-- The fault of a step is the fault of the whole file.
use Rattle.std.proofs.Common.{◌≡◌, ℕ, ◌+◌, ◌-◌, ◌*◌, ◌^◌, ◌<◌, ◌≤◌, List, [], ◌∷◌, ◌++◌, length}
use Rattle.std.proofs.Common.{get_or, refl, sym, ap, ◌∙◌, subst, append_assoc, length-append}
use Rattle.std.proofs.Common.{arith, All, Option, Some, None, Err, mul-add, mul-le-mul_left, inr}
use Rattle.std.specs.List.{flat_map}
use Rattle.std.specs.Option.{IfSome}
use Rattle.std.proofs.lemmas.List.{append-nil, get_or_append_left, get_or_push, get_or-append-add}
use Rattle.std.proofs.lemmas.List.Concat.{flat_map-append}
use Rattle.std.proofs.lemmas.List.Elements.{All-append}
use Rattle.byteorder.specs.Endian.{little_bytes}
use Rattle.byteorder.specs.Numbers.{length-bytes_low_first}
use Rattle.sosd_reader.specs.declared.fault.KeyFault.{KeyFault}
use Rattle.sosd_reader.specs.declared.fault.KeyFault.TheVariants.{ReadFault, TooMany, Short}
use Rattle.sosd_reader.specs.declared.fault.KeyFault.TheVariants.{Unsorted, Trailing, Wide, NoMemory}
use Rattle.edge.specs.Readers.{Origin, ReadFails, ReadsPiece}
use Rattle.edge.specs.Readers.Origin.{of_bytes}
use Rattle.edge.specs.Unread.{AreAtMost}
use Rattle.edge.specs.declared.shelf.Shelf.{Ghosts}
use Rattle.edge.proofs.ReaderLemmas.{fails-in}
use Rattle.sosd_reader.specs.NumberFiles.{Kind, IsOfKeys, IsOfPoints, number_width}
use Rattle.sosd_reader.specs.NumberFiles.{numbers_each, AllFollow, AreNumbersOf, IsFileOf}
use Rattle.sosd_reader.specs.NumberFiles.Kind.{of_keys, of_points}
use Rattle.sosd_reader.specs.FileFaults.{numbers_said, IsFirstFailing, IsShort, IsTrailing, ReadsAsFile}
use Rattle.edge.specs.Reading.{HasRead}
use Rattle.sosd_reader.specs.Reading.{FailsNext, EndsEarly, StopsAs, of_keys_only, of_points_only, origin_of}
use Rattle.sosd_reader.proofs.Fronts.{length-numbers}
use Rattle.sosd_reader.proofs.Beginning.{BeginsWith, count-is, length-is, has-count, number-in, none-fails, whole-among}

-- a number that fails does so whatever follows, among no more numbers than there was room for
fails-later : (kind : Kind) (k n : ℕ) (front piece left : List ℕ) (at before number : ℕ) → k ≤ n →
    FailsNext kind k front piece at before number → FailsNext kind n front (piece ++ left) at before number
fails-later kind k n front piece left at before number few fails = record {
  numbers = fails.numbers;
  over = fails.over ++ left;
  stand = ap (λ (w : List ℕ). w ++ left) fails.stand
      ∙ append_assoc (flat_map (little_bytes (number_width kind)) (fails.numbers ++ number ∷ [])) fails.over left;
  each_fits = fails.each_fits;
  all_follow = fails.all_follow;
  place = fails.place;
  before_is = fails.before_is;
  fails = fails.fails;
  within = omega (arith, fails.within);
}

-- the whole numbers of a piece have the fault that they have at its front
pub piece-stops : (kind : Kind) (k n : ℕ) (front piece left : List ℕ) (fault : KeyFault) →
    k ≤ n → number_width kind * k ≤ length piece →
    StopsAs kind k front piece fault → StopsAs kind n front (piece ++ left) fault
piece-stops kind k n front piece left (Unsorted at before key) few room stops =
    (stops.0, fails-later kind k n front piece left at before key few stops.1)
piece-stops kind k n front piece left (Wide at value) few room stops =
    (stops.0, (stops.1.0, fails-later kind k n front piece left at stops.1.0 value few stops.1.1))
piece-stops kind k n front piece left (Short got) few room stops = absurd (omega (arith, stops.ends))
piece-stops kind k n front piece left ReadFault few room stops = absurd stops
piece-stops kind k n front piece left (TooMany count) few room stops = absurd stops
piece-stops kind k n front piece left (Trailing byte) few room stops = absurd stops
piece-stops kind k n front piece left NoMemory few room stops = absurd stops

pub chunk-stops : (kind : Kind) (k n : ℕ) (front piece : List ℕ) (before after : Option (List ℕ)) (fault : KeyFault) →
    HasRead before piece after → k ≤ n → number_width kind * k ≤ length piece →
    StopsAs kind k front piece fault → IfSome before (λ bytes. StopsAs kind n front bytes fault)
chunk-stops kind k n front piece None after fault _ _ _ _ = tt
chunk-stops kind k n front piece (Some x) None fault read _ _ _ = absurd read
chunk-stops kind k n front piece (Some x) (Some y) fault read few room stops =
    let P : List ℕ → Type 0 = λ w. StopsAs kind n front w fault in
    subst P (sym read) (piece-stops kind k n front piece y fault few room stops)

-- the bytes have such a fault
keys-origin : (kind : Kind) → IsOfKeys kind → of_keys_only kind ≡ of_bytes
keys-origin (of_keys width) is = refl
keys-origin (of_points d) is = absurd is

points-origin : (kind : Kind) → IsOfPoints kind → of_points_only kind ≡ of_bytes
points-origin (of_keys width) is = absurd is
points-origin (of_points d) is = refl

stops-origin : (kind : Kind) (n : ℕ) (front bytes : List ℕ) (fault : KeyFault) →
    StopsAs kind n front bytes fault → origin_of kind fault ≡ of_bytes
stops-origin kind n front bytes (Unsorted at before key) stops = keys-origin kind stops.0
stops-origin kind n front bytes (Wide at value) stops = points-origin kind stops.0
stops-origin kind n front bytes (Short got) stops = refl
stops-origin kind n front bytes fault stops = absurd stops

-- the fault of a piece that was read
pub piece-fails : {S : Type 0}
    (shelf : Ghosts S) (kind : Kind) (k n most : ℕ) (front piece : List ℕ) (old new : S) (fault : KeyFault) →
    ReadsPiece shelf piece old new →
    k ≤ n → number_width kind * k ≤ length piece → length piece ≤ most → StopsAs kind k front piece fault →
    ReadFails shelf
    (origin_of kind fault) (λ bytes. StopsAs kind n front bytes fault) (λ taken. AreAtMost most taken fault) old new
piece-fails shelf kind k n most front piece old new fault read few room long stops =
    let Fails : Origin → Type 0 = λ o.
    ReadFails shelf o (λ bytes. StopsAs kind n front bytes fault) (λ taken. AreAtMost most taken fault) old new in
    subst Fails (sym (stops-origin kind k front piece fault stops))
    (fails-in shelf _ _ piece old new read (chunk-stops kind k n front piece _ _ fault read.read few room stops) long)

-- the numbers of a list in front, and those after it
joined : (width : ℕ) (front numbers over left : List ℕ) → left ≡ flat_map (little_bytes width) numbers ++ over →
    flat_map (little_bytes width) front ++ left ≡ flat_map (little_bytes width) (front ++ numbers) ++ over
joined width front numbers over left stand =
    let F : List ℕ → List ℕ = flat_map (little_bytes width) in
    ap (λ (w : List ℕ). F front ++ w) stand ∙ sym (append_assoc (F front) (F numbers) over)
    ∙ ap (λ (w : List ℕ). w ++ over) (sym (flat_map-append (little_bytes width) front numbers))

fails-after : (kind : Kind) (m n : ℕ) (front left : List ℕ) (at before number : ℕ) →
    All (λ each. each < 256 ^ number_width kind) front → length front + m ≤ n →
    FailsNext kind m front left at before number →
    FailsNext kind n [] (flat_map (little_bytes (number_width kind)) front ++ left) at before number
fails-after kind m n front left at before number fits room fails =
    let width = number_width kind in
    let same : front ++ (fails.numbers ++ number ∷ [])
    ≡ (front ++ fails.numbers) ++ number ∷ [] = sym (append_assoc front fails.numbers (number ∷ [])) in
    let stand : flat_map (little_bytes width) front ++ left
    ≡ flat_map (little_bytes width) ((front ++ fails.numbers) ++ number ∷ []) ++ fails.over =
    joined width front (fails.numbers ++ number ∷ []) fails.over left fails.stand
    ∙ ap (λ (w : List ℕ). flat_map (little_bytes width) w ++ fails.over) same in
    record {
      numbers = front ++ fails.numbers;
      over = fails.over;
      stand = stand;
      each_fits = subst (λ (w : List ℕ). All (λ each. each < 256 ^ width) w) same
          (All-append (λ each. each < 256 ^ width) front (fails.numbers ++ number ∷ []) fits fails.each_fits);
      all_follow = fails.all_follow;
      place = fails.place;
      before_is = fails.before_is;
      fails = fails.fails;
      within = omega (arith, fails.within);
    }

ends-after : (kind : Kind) (m n : ℕ) (front left : List ℕ) (got : ℕ) →
    All (λ number. number < 256 ^ number_width kind) front → length front + m ≤ n →
    EndsEarly kind m front left got →
    EndsEarly kind n [] (flat_map (little_bytes (number_width kind)) front ++ left) got
ends-after kind m n front left got fits room early =
    let width = number_width kind in
    let goes = early.goes_on in
    let long = length-append (flat_map (little_bytes width) front) left in
    let numbers = length-numbers width front in
    let most = mul-le-mul_left width room in
    let split = mul-add width (length front) m in
    record {
      list = early.list;
      goes_on = record {
        numbers = early.list;
        over = goes.over;
        added = refl;
        stand = joined width front goes.numbers goes.over left goes.stand
            ∙ ap (λ (w : List ℕ). flat_map (little_bytes width) w ++ goes.over) (sym goes.added);
        each_fits = subst (λ (w : List ℕ). All (λ number. number < 256 ^ width) w)
            (sym goes.added) (All-append (λ number. number < 256 ^ width) front goes.numbers fits goes.each_fits);
        whole = goes.whole;
      };
      all_follow = early.all_follow;
      ends = omega (arith, long, numbers, most, split, early.ends);
      all = omega (arith, long, numbers, early.all);
    }

-- a fault after numbers that were read, of more numbers than these
pub stops-after : (kind : Kind) (m n : ℕ) (front left : List ℕ) (fault : KeyFault) →
    All (λ number. number < 256 ^ number_width kind) front → length front + m ≤ n →
    StopsAs kind m front left fault →
    StopsAs kind n [] (flat_map (little_bytes (number_width kind)) front ++ left) fault
stops-after kind m n front left (Unsorted at before key) fits room stops =
    (stops.0, fails-after kind m n front left at before key fits room stops.1)
stops-after kind m n front left (Wide at value) fits room stops =
    (stops.0, (stops.1.0, fails-after kind m n front left at stops.1.0 value fits room stops.1.1))
stops-after kind m n front left (Short got) fits room stops = ends-after kind m n front left got fits room stops
stops-after kind m n front left ReadFault fits room stops = absurd stops
stops-after kind m n front left (TooMany count) fits room stops = absurd stops
stops-after kind m n front left (Trailing byte) fits room stops = absurd stops
stops-after kind m n front left NoMemory fits room stops = absurd stops

-- the first elements of a list fit as the list's do
All-front : (P : ℕ → Type 0) (xs ys : List ℕ) → All P (xs ++ ys) → All P xs
All-front P xs ys all =
    λ k d below. subst P (get_or_append_left xs ys d k below) (all k d (omega (arith, length-append xs ys)))

-- the fault of the numbers, after their count
failing-file : (kind : Kind) (count total : ℕ) (left : List ℕ) (at before number : ℕ) →
    count < 2 ^ 32 → total ≡ numbers_each kind * count →
    FailsNext kind total [] left at before number → IsFirstFailing kind (little_bytes 8 count ++ left) at before number
failing-file kind count total left at before number few all fails =
    let width = number_width kind in
    let numbers = fails.numbers in
    let list = numbers ++ number ∷ [] in
    let bytes = little_bytes 8 count ++ left in
    let F : List ℕ → List ℕ = flat_map (little_bytes width) in
    let begins : BeginsWith width count list fails.over bytes =
    record {
      written = ap (λ (w : List ℕ). little_bytes 8 count ++ w) fails.stand;
      few = few;
      each_fits = fails.each_fits;
    } in
    let shorter : BeginsWith width count numbers (F (number ∷ []) ++ fails.over) bytes = record {
      written = begins.written ∙ ap (λ (w : List ℕ). little_bytes 8 count ++ w)
          (ap (λ (w : List ℕ). w ++ fails.over) (flat_map-append (little_bytes width) numbers (number ∷ []))
          ∙ append_assoc (F numbers) (F (number ∷ [])) fails.over);
      few = few;
      each_fits = All-front (λ each. each < 256 ^ width) numbers (number ∷ []) fails.each_fits;
    } in
    let more : length list ≡ at + 1 = length-append numbers (number ∷ []) ∙ omega (arith, fails.place) in
    let long = length-is width count list fails.over bytes begins in
    let room : width * length list ≡ width * (at + 1) = ap (λ (n : ℕ). width * n) more in
    let said : numbers_said kind bytes
    ≡ total = ap (λ (n : ℕ). numbers_each kind * n) (count-is width count list fails.over bytes begins) ∙ sym all in
    record {
      counted = has-count width count list fails.over bytes begins;
      within = omega (arith, said, fails.within);
      whole = omega (arith, long, room);
      before_is = fails.before_is ∙ sym (number-in kind count list fails.over bytes (at - 1) begins (omega arith));
      number_is = sym (get_or_push numbers number 0 at (sym fails.place))
          ∙ sym (number-in kind count list fails.over bytes at begins (omega arith));
      fails = fails.fails;
      first = none-fails kind count numbers (F (number ∷ []) ++ fails.over) bytes at shorter fails.all_follow
          (λ j below whole. omega (arith, fails.place));
    }

short-file : (kind : Kind) (count total : ℕ) (left : List ℕ) (got : ℕ) →
    count < 2 ^ 32 → total ≡ numbers_each kind * count →
    EndsEarly kind total [] left got → IsShort kind (little_bytes 8 count ++ left) got
short-file kind count total left got few all early =
    let width = number_width kind in
    let goes = early.goes_on in
    let bytes = little_bytes 8 count ++ left in
    let begins : BeginsWith width count goes.numbers goes.over bytes =
    record {
      written = ap (λ (w : List ℕ). little_bytes 8 count ++ w) goes.stand;
      few = few;
      each_fits = goes.each_fits;
    } in
    let long = length-append (little_bytes 8 count) left in
    let said : numbers_said kind bytes ≡ total =
    ap (λ (n : ℕ). numbers_each kind * n) (count-is width count goes.numbers goes.over bytes begins) ∙ sym all in
    let same : width * numbers_said kind bytes ≡ width * total = ap (λ (n : ℕ). width * n) said in
    let nothing : width * 0 ≡ 0 = omega arith in
    record {
      all = omega (arith, long, early.all, nothing, length-bytes_low_first 0 8 count);
      ends = inr (
        has-count width count goes.numbers goes.over bytes begins,
        omega (arith, same, early.ends, early.all, long, nothing),
        none-fails kind count goes.numbers goes.over bytes
            (numbers_said kind bytes) begins (subst (AllFollow kind) goes.added early.all_follow)
            (λ j below whole. whole-among kind count goes.numbers goes.over bytes j begins goes.whole whole),
      );
    }

pub numbers-stop : (kind : Kind) (count total : ℕ) (left : List ℕ) (fault : KeyFault) →
    count < 2 ^ 32 → total ≡ numbers_each kind * count →
    StopsAs kind total [] left fault → ReadsAsFile kind (little_bytes 8 count ++ left) (Err fault)
numbers-stop kind count total left (Unsorted at before key) few all stops =
    (stops.0, failing-file kind count total left at before key few all stops.1)
numbers-stop kind count total left (Wide at value) few all stops =
    let failing = failing-file kind count total left at stops.1.0 value few all stops.1.1 in
    let P : ℕ → Type 0 = λ before. IsFirstFailing kind (little_bytes 8 count ++ left) at before value in
    (stops.0, subst P failing.before_is failing)
numbers-stop kind count total left (Short got) few all stops = short-file kind count total left got few all stops
numbers-stop kind count total left ReadFault few all stops = absurd stops
numbers-stop kind count total left (TooMany many) few all stops = absurd stops
numbers-stop kind count total left (Trailing byte) few all stops = absurd stops
numbers-stop kind count total left NoMemory few all stops = absurd stops

-- a byte after the numbers
trailing-file : (kind : Kind) (count : ℕ) (numbers left : List ℕ) (byte : ℕ) → AreNumbersOf kind count numbers →
    IsTrailing kind
    (little_bytes 8 count ++ (flat_map (little_bytes (number_width kind)) numbers ++ (byte ∷ left))) byte
trailing-file kind count numbers left byte fit =
    let width = number_width kind in
    let F = flat_map (little_bytes width) numbers in
    let C = little_bytes 8 count in
    let bytes = C ++ (F ++ (byte ∷ left)) in
    let begins : BeginsWith width count numbers (byte ∷ left) bytes =
    record { written = refl; few = fit.few; each_fits = fit.each_fits } in
    let said : numbers_said kind bytes ≡ length numbers = ap
    (λ (n : ℕ). numbers_each kind * n) (count-is width count numbers (byte ∷ left) bytes begins) ∙ sym fit.whole in
    let long = length-is width count numbers (byte ∷ left) bytes begins in
    let same : width * numbers_said kind bytes ≡ width * length numbers = ap (λ (n : ℕ). width * n) said in
    let place : 8 + width * numbers_said kind bytes ≡ length C + (length F + 0) =
    omega (arith, same, length-numbers width numbers, length-bytes_low_first 0 8 count) in
    record {
      counted = has-count width count numbers (byte ∷ left) bytes begins;
      more = omega (arith, same, long);
      byte_is =
          sym (ap (λ (n : ℕ). get_or bytes n 0) place
          ∙ get_or-append-add C (F ++ (byte ∷ left)) (length F + 0) 0 ∙ get_or-append-add F (byte ∷ left) 0 0);
      none_fails = none-fails kind count numbers
          (byte ∷ left) bytes (numbers_said kind bytes) begins fit.all_follow (λ j below whole. omega (arith, said));
    }

pub reads-trailing : (kind : Kind) (byte count : ℕ) (numbers : List ℕ) (first second third fourth : Option (List ℕ)) →
    AreNumbersOf kind count numbers →
    HasRead first (little_bytes 8 count) second →
    HasRead second (flat_map (little_bytes (number_width kind)) numbers) third → HasRead third (byte ∷ []) fourth →
    IfSome first (λ bytes. IsTrailing kind bytes byte)
reads-trailing kind byte count numbers None second third fourth _ _ _ _ = tt
reads-trailing kind byte count numbers (Some x) None third fourth _ read _ _ = absurd read
reads-trailing kind byte count numbers (Some x) (Some y) None fourth _ _ read _ = absurd read
reads-trailing kind byte count numbers (Some x) (Some y) (Some z) None _ _ _ read = absurd read
reads-trailing kind byte count numbers (Some x) (Some y) (Some z) (Some w) fit counted read after =
    let P : List ℕ → Type 0 = λ bytes. IsTrailing kind bytes byte in
    let F = flat_map (little_bytes (number_width kind)) numbers in
    let whole : x ≡ little_bytes 8 count ++ (F ++ (byte ∷ w)) = counted
    ∙ ap (λ (v : List ℕ). little_bytes 8 count ++ v) (read ∙ ap (λ (v : List ℕ). F ++ v) after) in
    subst P (sym whole) (trailing-file kind count numbers w byte fit)

-- the count, the numbers of a list and nothing more are its file
pub file-read : (kind : Kind) (count : ℕ) (numbers : List ℕ) (first second third : Option (List ℕ)) →
    AreNumbersOf kind count numbers →
    HasRead first (little_bytes 8 count) second →
    HasRead second (flat_map (little_bytes (number_width kind)) numbers) third →
    IfSome third (λ bytes. bytes ≡ []) →
    IfSome first (IsFileOf kind numbers)
file-read kind count numbers None second third _ _ _ _ = tt
file-read kind count numbers (Some x) None third _ read _ _ = absurd read
file-read kind count numbers (Some x) (Some y) None _ _ read _ = absurd read
file-read kind count numbers (Some x) (Some y) (Some z) fit counted read end =
    let F = flat_map (little_bytes (number_width kind)) numbers in
    record {
      count = count;
      are = fit;
      written = counted
          ∙ ap (λ (w : List ℕ). little_bytes 8 count ++ w) (read ∙ ap (λ (w : List ℕ). F ++ w) end ∙ append-nil F);
    }
