-- A run by its bytes: thirteen, and eight more where it says under.
use Rattle.std.proofs.Common.{◌≡◌, ℕ, ◌+◌, ◌<◌, ◌≤◌, List, [], ◌∷◌, ◌++◌, length, take, drop, get_or, refl}
use Rattle.std.proofs.Common.{sym, ap, ◌∙◌, subst, append_assoc, length-append, arith, Option, Some, None}
use Rattle.std.specs.Option.{IfSome}
use Rattle.std.proofs.lemmas.List.{take-append-drop, take-append-le, length-take-le, length-drop, append-nil}
use Rattle.std.proofs.Math.Seq.{drop-cons}
use Rattle.edge.specs.Reading.{HasRead}
use Rattle.edge.specs.Readers.{ReadFails}
use Rattle.edge.specs.declared.shelf.Shelf.{Ghosts}
use Rattle.edge.proofs.ReaderLemmas.{fails-behind, no_piece-read}
use Rattle.index_file.specs.declared.saved.SavedRun.{SavedRun}
use Rattle.index_file.specs.declared.saved.SavedCut.{SavedCut}
use Rattle.index_file.specs.declared.saved.SavedCut.TheVariants.{Last, Over, Under}
use Rattle.index_file.specs.declared.fault.IndexFault.{IndexFault}
use Rattle.index_file.specs.declared.fault.IndexFault.TheVariants.{ReadFault, Short, Magic, Epsilon}
use Rattle.index_file.specs.declared.fault.IndexFault.TheVariants.{Side, Trailing, NoMemory}
use Rattle.index_file.specs.Spelling.{number, cut_bytes, pair_bytes, run_bytes}
use Rattle.index_file.specs.Stops.{IsNumber, FollowsInCut, IsRun, IsBeforeCut, IsNoCut}
use Rattle.index_file.specs.Stops.{IsFront, EndsIn, StopsIn, TakesIn, origin_of}
use Rattle.index_file.proofs.Numbers.{length-number, number-in, take-split}

-- the bytes end before the buffer is full
pub ends-of : (told : Option (List ℕ)) (offset got : ℕ) (buf : List ℕ) →
    got < length buf → IfSome told (λ bytes. bytes ≡ take got buf) →
    IfSome told (λ bytes. EndsIn buf offset bytes (Short (offset + got)))
ends-of None offset got buf short ended = tt
ends-of (Some bytes) offset got buf short ended = (got, short, ended, refl)

-- each front of the buffer goes on to a whole
abbrev pub Fronts : (List ℕ → Type 0) → List ℕ → Type 0
Fronts Whole buf = (n : ℕ) → n < length buf → (rest : List ℕ) × (0 < length rest) × Whole (take n buf ++ rest)

stops-ended : (Whole Before : List ℕ → Type 0) (offset : ℕ) (buf bytes : List ℕ) (fault : IndexFault) →
    Fronts Whole buf → EndsIn buf offset bytes fault → StopsIn Whole Before offset bytes fault
stops-ended Whole Before offset buf bytes (Short got) fronts ends =
    let on = fronts ends.0 ends.1 in
    let front : IsFront Whole bytes =
    record { rest = on.0; more = on.1; whole = subst (λ (w : List ℕ). Whole (w ++ on.0)) (sym ends.2) on.2 } in
    (front, omega (arith, ends.3, ap length ends.2, length-take-le ends.0 buf (omega (arith, ends.1))))
stops-ended Whole Before offset buf bytes (Side at byte) fronts ends = absurd ends
stops-ended Whole Before offset buf bytes ReadFault fronts ends = ends
stops-ended Whole Before offset buf bytes (Magic at) fronts ends = ends
stops-ended Whole Before offset buf bytes (Epsilon value) fronts ends = ends
stops-ended Whole Before offset buf bytes (Trailing byte) fronts ends = ends
stops-ended Whole Before offset buf bytes NoMemory fronts ends = ends

-- a call that takes no memory
takes-kept : (Kept : List ℕ → Type 0) (offset : ℕ) (taken : List ℕ) (fault : IndexFault) →
    TakesIn IsNoCut offset taken fault → TakesIn Kept offset taken fault
takes-kept Kept offset taken NoMemory takes = absurd takes.1
takes-kept Kept offset taken fault takes = takes

pub ends-early : {S : Type 0} (shelf : Ghosts S) (Whole Before Kept : List ℕ → Type 0)
    (offset : ℕ) (buf : List ℕ) (old new : S) (fault : IndexFault) → Fronts Whole buf →
    ReadFails shelf (origin_of fault)
    (λ bytes. EndsIn buf offset bytes fault) (λ taken. TakesIn IsNoCut offset taken fault) old new →
    ReadFails shelf (origin_of fault)
    (λ bytes. StopsIn Whole Before offset bytes fault) (λ taken. TakesIn Kept offset taken fault) old new
ends-early shelf Whole Before Kept offset buf old new fault fronts =
    fails-behind shelf (origin_of fault) _ _ _ _ [] old old new (no_piece-read shelf old)
    (λ bytes. stops-ended Whole Before offset buf bytes fault fronts) (λ taken. takes-kept Kept offset taken fault)

-- the buffer itself is a whole
pub fronts-of_buffer : (Whole : List ℕ → Type 0) (buf : List ℕ) → Whole buf → Fronts Whole buf
fronts-of_buffer Whole buf whole =
    λ n short. (drop n buf, omega (arith, length-drop n buf), subst Whole (sym (take-append-drop n buf)) whole)

pub all-of : (xs : List ℕ) (n : ℕ) → length xs ≡ n → take n xs ≡ xs
all-of xs n long = sym (append-nil (take n xs))
    ∙ ap (λ (w : List ℕ). take n xs ++ w) (sym (none (drop n xs) (omega (arith, length-drop n xs))))
    ∙ take-append-drop n xs
  where
    none : (ys : List ℕ) → length ys ≡ 0 → ys ≡ []
    none [] e = refl
    none (y ∷ ys) e = absurd (omega arith)

-- a whole buffer of four bytes is a number
pub number-of_buffer : (buf : List ℕ) → length buf ≡ 4 → ((k : ℕ) → get_or buf k 0 < 256) → IsNumber buf
number-of_buffer buf long small = subst IsNumber (all-of buf 4 long) (number-in buf 0 (omega arith) small)

-- eight bytes are two places
pub places-of_buffer : (buf : List ℕ) (p q : ℕ) →
    length buf ≡ 8 → number p ≡ take 4 buf → number q ≡ take 4 (drop 4 buf) → number p ++ number q ≡ buf
places-of_buffer buf p q long low high =
    ap (λ (w : List ℕ). w ++ number q) low ∙ ap (λ (w : List ℕ). take 4 buf ++ w) high
    ∙ sym (take-split 4 4 buf (omega arith) (omega arith)) ∙ all-of buf 8 long

pub cut-under : (p q : ℕ) (buf : List ℕ) → number p ++ number q ≡ buf → 2 ∷ buf ≡ cut_bytes (Under p q)
unfolding cut_bytes
cut-under p q buf same = ap (λ (w : List ℕ). 2 ∷ w) (sym same)

pub cut-last : 0 ∷ [] ≡ cut_bytes Last
unfolding cut_bytes
cut-last = refl

pub cut-over : 1 ∷ [] ≡ cut_bytes Over
unfolding cut_bytes
cut-over = refl

pub follows-under : (buf : List ℕ) → length buf ≡ 8 → ((k : ℕ) → get_or buf k 0 < 256) → FollowsInCut 2 buf
follows-under buf long small =
    let low = number-in buf 0 (omega arith) small in
    let high = number-in buf 4 (omega arith) small in (
      Under low.0 high.0,
      (low.1, high.1),
      cut-under low.0 high.0 buf (places-of_buffer buf low.0 high.0 long (sym low.2) (sym high.2)),
    )

-- twelve bytes are what stands before a cut byte
pub pair-of : (buf : List ℕ) (start a b : ℕ) →
    12 ≤ length buf → number start ≡ take 4 buf → number a ≡ take 4 (drop 4 buf) → number b ≡ take 4 (drop 8 buf) →
    pair_bytes start a b ≡ take 12 buf
unfolding pair_bytes
pair-of buf start a b long one two three =
    let tail : number a ++ number b ≡ take 8 (drop 4 buf) =
    ap (λ (w : List ℕ). w ++ number b) two
    ∙ ap (λ (w : List ℕ). take 4 (drop 4 buf) ++ w) (three ∙ ap (take 4) (sym (drop-drop buf))) ∙
    sym (take-split 4 4 (drop 4 buf) (omega (arith, length-drop 4 buf)) (omega (arith, length-drop 4 buf))) in
    ap (λ (w : List ℕ). w ++ (number a ++ number b)) one
    ∙ ap (λ (w : List ℕ). take 4 buf ++ w) tail ∙ sym (take-split 4 8 buf (omega arith) (omega arith))
  where
    drop-drop : (xs : List ℕ) → drop 4 (drop 4 xs) ≡ drop 8 xs
    drop-drop [] = refl
    drop-drop (x ∷ []) = refl
    drop-drop (x ∷ y ∷ []) = refl
    drop-drop (x ∷ y ∷ z ∷ []) = refl
    drop-drop (x ∷ y ∷ z ∷ w ∷ xs) = refl

pub before-cut-of : (buf : List ℕ) → 12 ≤ length buf → ((k : ℕ) → get_or buf k 0 < 256) → IsBeforeCut (take 12 buf)
before-cut-of buf long small =
    let one = number-in buf 0 (omega arith) small in
    let two = number-in buf 4 (omega arith) small in
    let three = number-in buf 8 (omega arith) small in (
      one.0,
      two.0,
      three.0,
      one.1,
      two.1,
      three.1,
      sym (pair-of buf one.0 two.0 three.0 long (sym one.2) (sym two.2) (sym three.2)),
    )

-- the thirteenth byte stands behind them
pub thirteen-of : (buf : List ℕ) → length buf ≡ 13 → buf ≡ take 12 buf ++ get_or buf 12 0 ∷ []
thirteen-of buf long =
    let last : drop 12 buf ≡ get_or buf 12 0 ∷ [] = drop-cons buf 12 0 (omega arith)
    ∙ ap (λ (w : List ℕ). get_or buf 12 0 ∷ w) (none (drop 13 buf) (omega (arith, length-drop 13 buf))) in
    sym (take-append-drop 12 buf) ∙ ap (λ (w : List ℕ). take 12 buf ++ w) last
  where
    none : (ys : List ℕ) → length ys ≡ 0 → ys ≡ []
    none [] e = refl
    none (y ∷ ys) e = absurd (omega arith)

run-of : (start a b : ℕ) (cut : SavedCut) →
    pair_bytes start a b ++ cut_bytes cut ≡ run_bytes (record { start = start; a = a; b = b; cut = cut })
unfolding run_bytes
run-of start a b cut = refl

-- fewer than thirteen bytes go on to a run
pub run-fronts : (buf : List ℕ) → length buf ≡ 13 → ((k : ℕ) → get_or buf k 0 < 256) → Fronts IsRun buf
run-fronts buf long small = λ n short.
    let pair = before-cut-of buf (omega arith) small in
    let run : SavedRun = record { start = pair.0; a = pair.1; b = pair.2; cut = Last } in
    let rest = drop n (take 12 buf) ++ 0 ∷ [] in
    let front : take n buf ++ rest ≡ run_bytes run =
    ap (λ (w : List ℕ). w ++ rest) (take-front n buf long (omega arith))
    ∙ sym (append_assoc (take n (take 12 buf)) (drop n (take 12 buf)) (0 ∷ [])) ∙
    ap (λ (w : List ℕ). w ++ 0 ∷ []) (take-append-drop n (take 12 buf) ∙ pair.6)
    ∙ ap (λ (w : List ℕ). pair_bytes pair.0 pair.1 pair.2 ++ w) cut-last ∙ run-of pair.0 pair.1 pair.2 Last in (
      rest,
      omega (arith, length-append (drop n (take 12 buf)) (0 ∷ [])),
      (run, record { start = pair.3; a = pair.4; b = pair.5; cut = tt }, front),
    )
  where
    take-front : (n : ℕ) (buf : List ℕ) → length buf ≡ 13 → n ≤ 12 → take n buf ≡ take n (take 12 buf)
    take-front n buf long less =
        ap (take n) (sym (take-append-drop 12 buf))
        ∙ take-append-le n (take 12 buf) (drop 12 buf) (omega (arith, length-take-le 12 buf (omega arith)))

-- the thirteenth byte is no side
pub run-side : (told after : Option (List ℕ)) (offset at : ℕ) (buf : List ℕ) →
    length buf ≡ 13 → ((k : ℕ) → get_or buf k 0 < 256) → HasRead told buf after →
    at ≡ offset + 12 →
    2 < get_or buf 12 0 → IfSome told (λ bytes. StopsIn IsRun IsBeforeCut offset bytes (Side at (get_or buf 12 0)))
run-side None after offset at buf long small read place high = tt
run-side (Some bytes) None offset at buf long small read place high = absurd read
run-side (Some bytes) (Some left) offset at buf long small read place high =
    let stand : bytes ≡ take 12 buf ++ get_or buf 12 0 ∷ left =
    read ∙ ap (λ (w : List ℕ). w ++ left) (thirteen-of buf long)
    ∙ append_assoc (take 12 buf) (get_or buf 12 0 ∷ []) left in
    record {
      front = take 12 buf;
      behind = left;
      stand = stand;
      before_cut = before-cut-of buf (omega arith) small;
      place = omega (arith, length-take-le 12 buf (omega arith));
      no_side = high;
    }

-- a run is its pair, and its cut
pub run-read : (buf rest : List ℕ) (start a b : ℕ) (cut : SavedCut) →
    length buf ≡ 13 → pair_bytes start a b ≡ take 12 buf →
    get_or buf 12 0 ∷ rest ≡ cut_bytes cut → buf ++ rest ≡ run_bytes (record { start = start; a = a; b = b; cut = cut })
run-read buf rest start a b cut long pair tail =
    ap (λ (w : List ℕ). w ++ rest) (thirteen-of buf long) ∙ append_assoc (take 12 buf) (get_or buf 12 0 ∷ []) rest ∙
    ap (λ (w : List ℕ). w ++ (get_or buf 12 0 ∷ rest)) (sym pair)
    ∙ ap (λ (w : List ℕ). pair_bytes start a b ++ w) tail ∙ run-of start a b cut

pub length-pair : (start a b : ℕ) → length (pair_bytes start a b) ≡ 12
unfolding pair_bytes
length-pair start a b =
    omega (
      arith,
      length-append (number start) (number a ++ number b),
      length-append (number a) (number b),
      length-number start,
      length-number a,
      length-number b,
    )

pub length-run : (start a b : ℕ) (cut : SavedCut) →
    length (run_bytes (record { start = start; a = a; b = b; cut = cut })) ≡ 12 + length (cut_bytes cut)
length-run start a b cut =
    sym (ap length (run-of start a b cut)) ∙ length-append (pair_bytes start a b) (cut_bytes cut)
    ∙ ap (λ (n : ℕ). n + length (cut_bytes cut)) (length-pair start a b)

pub length-under : (p q : ℕ) → length (cut_bytes (Under p q)) ≡ 9
unfolding cut_bytes
length-under p q = omega (arith, length-append (number p) (number q), length-number p, length-number q)

-- the rest of a cut behind the thirteen bytes of its run
pub run-goes : (buf : List ℕ) →
    length buf ≡ 13 → ((k : ℕ) → get_or buf k 0 < 256) → (bytes : List ℕ) → FollowsInCut (get_or buf 12 0) bytes →
    (tail : List ℕ) × IsRun (buf ++ (bytes ++ tail))
run-goes buf long small bytes follows =
    let pair = before-cut-of buf (omega arith) small in
    let cut = follows.0 in
    let whole : buf ++ (bytes ++ []) ≡ run_bytes (record { start = pair.0; a = pair.1; b = pair.2; cut = cut }) =
    ap (λ (w : List ℕ). buf ++ w) (append-nil bytes) ∙ ap (λ (w : List ℕ). w ++ bytes) (thirteen-of buf long)
    ∙ append_assoc (take 12 buf) (get_or buf 12 0 ∷ []) bytes ∙
    ap (λ (w : List ℕ). w ++ (get_or buf 12 0 ∷ bytes)) pair.6
    ∙ ap (λ (w : List ℕ). pair_bytes pair.0 pair.1 pair.2 ++ w) follows.2 ∙ run-of pair.0 pair.1 pair.2 cut in (
      [],
      (
        record { start = pair.0; a = pair.1; b = pair.2; cut = cut },
        record { start = pair.3; a = pair.4; b = pair.5; cut = follows.1 },
        whole,
      ),
    )

-- a byte of at most 2 that is neither 0 nor 1
pub follows-two : (byte : ℕ) (buf : List ℕ) →
    byte ≡ 2 → length buf ≡ 8 → ((k : ℕ) → get_or buf k 0 < 256) → FollowsInCut byte buf
follows-two byte buf two long small = subst (λ (b : ℕ). FollowsInCut b buf) (sym two) (follows-under buf long small)

pub cut-read : (byte p q : ℕ) (buf : List ℕ) → byte ≡ 2 →
    length buf ≡ 8 → number p ≡ take 4 buf → number q ≡ take 4 (drop 4 buf) → byte ∷ buf ≡ cut_bytes (Under p q)
cut-read byte p q buf two long low high =
    ap (λ (b : ℕ). b ∷ buf) two ∙ cut-under p q buf (places-of_buffer buf p q long low high)
