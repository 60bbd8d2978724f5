-- The faults of the head, and of what stands behind it, are those of the file.
--
-- Main result: `head-fails`. Where the bytes behind a front of the
-- head stop in a part that goes on to an index, the file stops, and
-- those that were taken are taken of the file.
use Rattle.std.proofs.Common.{◌≡◌, ◌≢◌, ℕ, zero, suc, ◌+◌, ◌^◌, ◌<◌, ◌≤◌, List, [], ◌∷◌, ◌++◌}
use Rattle.std.proofs.Common.{length, take, drop, get_or, refl, sym, ap, ◌∙◌, subst}
use Rattle.std.proofs.Common.{append_assoc, length-append, arith, Option, Some, None, inl, inr}
use Rattle.std.specs.List.{flat_map}
use Rattle.std.specs.Option.{IfSome}
use Rattle.std.proofs.lemmas.List.{append-nil, take-append-drop, length-take-le, length-drop}
use Rattle.std.proofs.lemmas.List.Elements.{All-nil}
use Rattle.edge.specs.Reading.{HasRead}
use Rattle.edge.specs.Readers.{ReadFails, ReadsPiece}
use Rattle.edge.specs.declared.shelf.Shelf.{Ghosts}
use Rattle.edge.proofs.ReaderLemmas.{fails-behind}
use Rattle.index_file.specs.declared.saved.SavedRun.{SavedRun}
use Rattle.index_file.specs.declared.fault.IndexFault.{IndexFault}
use Rattle.index_file.specs.declared.fault.IndexFault.TheVariants.{ReadFault, Short, Magic, Epsilon}
use Rattle.index_file.specs.declared.fault.IndexFault.TheVariants.{Side, Trailing, NoMemory}
use Rattle.index_file.specs.Spelling.{SavedIndex, number, magic, level_bytes, head_bytes}
use Rattle.index_file.specs.Spelling.{index_bytes, LevelFits, IsBounded, IsSpelling}
use Rattle.index_file.specs.Stops.{IsNumber, IsNoCut, AreLevels, AreBeforeLevelCut}
use Rattle.index_file.specs.Stops.{IsFront, StopsIn, TakesIn, origin_of}
use Rattle.index_file.specs.Faults.{IsFormUpTo, IsMagic, IsBeforeIndexCut, FailsAs, IsIndex, IsTaken}
use Rattle.index_file.proofs.Numbers.{length-number}
use Rattle.index_file.proofs.Lists.{many, length-many, All-many}
use Rattle.index_file.proofs.Stopping.{GoesOn, Stands, front-moves, goes-behind}

-- the bytes that a part goes on by, where it was told how many bytes there are
abbrev pub Continues : (List ℕ → Type 0) → ℕ → List ℕ → Type 0
Continues Part offset piece =
    (b : List ℕ) (got : ℕ) → got ≡ offset + length b →
    IsFront Part b → (bytes : List ℕ) → Part bytes → (tail : List ℕ) × IsFormUpTo got (piece ++ (bytes ++ tail))

module _ (Part Before : List ℕ → Type 0) (offset : ℕ) (piece : List ℕ) (here : offset ≡ length piece)
    (goes : Continues Part offset piece) (stands : Stands Before IsBeforeIndexCut piece) where
  part-fails : (bytes : List ℕ) (fault : IndexFault) →
      StopsIn Part Before offset bytes fault → FailsAs (piece ++ bytes) fault
  part-fails bytes (Short got) stops = record {
    all = omega (arith, stops.1, here, length-append piece bytes);
    front =
        front-moves Part Before (IsFormUpTo got) IsBeforeIndexCut piece bytes (goes bytes got stops.1 stops.0) stops.0;
  }
  part-fails bytes (Side at byte) side = record {
    front = piece ++ side.front;
    behind = side.behind;
    stand = ap (λ (w : List ℕ). piece ++ w) side.stand ∙ sym (append_assoc piece side.front (byte ∷ side.behind));
    before_cut = stands side.front side.before_cut;
    place = omega (arith, side.place, here, length-append piece side.front);
    no_side = side.no_side;
  }
  part-fails bytes ReadFault stops = stops
  part-fails bytes (Magic at) stops = absurd stops
  part-fails bytes (Epsilon value) stops = absurd stops
  part-fails bytes (Trailing byte) stops = absurd stops
  part-fails bytes NoMemory stops = stops

-- fewer than four bytes are the front of a number's
short-number : (b : List ℕ) → IsFront IsNumber b → length b < 4
short-number b front =
    let whole : length (b ++ front.rest) ≡ 4 = ap length front.whole.2 ∙ length-number front.whole.0 in
    omega (arith, whole, front.more, length-append b front.rest)

no_levels : AreLevels 0 []
no_levels = ([], refl, All-nil LevelFits, refl)

eps-stand : (eps : ℕ) → magic ++ (number eps ++ (number 0 ++ number 0)) ≡ head_bytes eps 0 0 ++ []
unfolding head_bytes
eps-stand eps = sym (append-nil (magic ++ (number eps ++ (number 0 ++ number 0))))

pub eps-goes : Continues IsNumber 8 magic
eps-goes b got there front bytes of =
    let short = short-number b front in (
      number 0 ++ number 0,
      record {
        eps = of.0;
        eps_rec = 0;
        count = 0;
        levels = [];
        fits = of.1;
        fits_rec = omega arith;
        few = omega arith;
        small = λ more. absurd (omega (arith, short, there, more));
        small_rec = λ more. absurd (omega (arith, short, there, more));
        are = no_levels;
        stand = ap (λ (w : List ℕ). magic ++ (w ++ (number 0 ++ number 0))) of.2 ∙ eps-stand of.0;
      },
    )

rec-stand : (eps eps_rec : ℕ) → (magic ++ number eps) ++ (number eps_rec ++ number 0) ≡ head_bytes eps eps_rec 0 ++ []
unfolding head_bytes
rec-stand eps eps_rec = append_assoc magic (number eps) (number eps_rec ++ number 0)
    ∙ sym (append-nil (magic ++ (number eps ++ (number eps_rec ++ number 0))))

pub rec-goes : (eps : ℕ) → eps ≤ 1048576 → Continues IsNumber 12 (magic ++ number eps)
rec-goes eps small b got there front bytes of =
    let short = short-number b front in (
      number 0,
      record {
        eps = eps;
        eps_rec = of.0;
        count = 0;
        levels = [];
        fits = omega arith;
        fits_rec = of.1;
        few = omega arith;
        small = λ more. small;
        small_rec = λ more. absurd (omega (arith, short, there, more));
        are = no_levels;
        stand = ap (λ (w : List ℕ). (magic ++ number eps) ++ (w ++ number 0)) of.2 ∙ rec-stand eps of.0;
      },
    )

count-stand : (eps eps_rec count : ℕ) (levels : List ℕ) →
    ((magic ++ number eps) ++ number eps_rec) ++ (number count ++ levels) ≡ head_bytes eps eps_rec count ++ levels
unfolding head_bytes
count-stand eps eps_rec count levels =
    append_assoc (magic ++ number eps) (number eps_rec) (number count ++ levels)
    ∙ append_assoc magic (number eps) (number eps_rec ++ (number count ++ levels))
    ∙ ap (λ (w : List ℕ). magic ++ (number eps ++ w)) (sym (append_assoc (number eps_rec) (number count) levels))
    ∙ ap (λ (w : List ℕ). magic ++ w) (sym (append_assoc (number eps) (number eps_rec ++ number count) levels))
    ∙ sym (append_assoc magic (number eps ++ (number eps_rec ++ number count)) levels)

pub count-goes : (eps eps_rec : ℕ) →
    eps ≤ 1048576 → eps_rec ≤ 1048576 → Continues IsNumber 16 ((magic ++ number eps) ++ number eps_rec)
count-goes eps eps_rec small small_rec b got there front bytes of =
    let empty : List SavedRun = [] in
    let levels = many level_bytes LevelFits empty of.0 in
    let fit : LevelFits empty = record { few = omega arith; each = All-nil _ } in (
      flat_map level_bytes levels,
      record {
        eps = eps;
        eps_rec = eps_rec;
        count = of.0;
        levels = flat_map level_bytes levels;
        fits = omega arith;
        fits_rec = omega arith;
        few = of.1;
        small = λ more. small;
        small_rec = λ more. small_rec;
        are =
            (levels, length-many level_bytes LevelFits empty of.0, All-many level_bytes LevelFits empty of.0 fit, refl);
        stand =
            ap (λ (w : List ℕ). ((magic ++ number eps) ++ number eps_rec) ++ (w ++ flat_map level_bytes levels)) of.2
            ∙ count-stand eps eps_rec of.0 (flat_map level_bytes levels);
      },
    )

pub levels-go : (eps eps_rec count : ℕ) →
    eps ≤ 1048576 → eps_rec ≤ 1048576 → count < 2 ^ 32 → Continues (AreLevels count) 20 (head_bytes eps eps_rec count)
levels-go eps eps_rec count small small_rec few b got there front bytes of = (
  [],
  record {
    eps = eps;
    eps_rec = eps_rec;
    count = count;
    levels = bytes;
    fits = omega arith;
    fits_rec = omega arith;
    few = few;
    small = λ more. small;
    small_rec = λ more. small_rec;
    are = of;
    stand = ap (λ (w : List ℕ). head_bytes eps eps_rec count ++ w) (append-nil bytes);
  },
)

pub levels-stand : (eps eps_rec count : ℕ) → eps ≤ 1048576 → eps_rec ≤ 1048576 →
    count < 2 ^ 32 → Stands (AreBeforeLevelCut count) IsBeforeIndexCut (head_bytes eps eps_rec count)
levels-stand eps eps_rec count small small_rec few front before =
    (eps, eps_rec, count, front, small, small_rec, few, before, refl)

-- no byte of a number is a cut byte
pub none-stands : (piece : List ℕ) → Stands IsNoCut IsBeforeIndexCut piece
none-stands piece front none = absurd none

pub head-of : (eps eps_rec count : ℕ) →
    ((magic ++ number eps) ++ number eps_rec) ++ number count ≡ head_bytes eps eps_rec count
head-of eps eps_rec count =
    ap (λ (w : List ℕ). ((magic ++ number eps) ++ number eps_rec) ++ w) (sym (append-nil (number count)))
    ∙ count-stand eps eps_rec count [] ∙ append-nil (head_bytes eps eps_rec count)

pub length-head : (eps eps_rec count : ℕ) → length (head_bytes eps eps_rec count) ≡ 20
length-head eps eps_rec count =
    sym (ap length (head-of eps eps_rec count)) ∙ omega (
      arith,
      length-append ((magic ++ number eps) ++ number eps_rec) (number count),
      length-append (magic ++ number eps) (number eps_rec),
      length-append magic (number eps),
      length-number eps,
      length-number eps_rec,
      length-number count,
    )

-- a bound that is too great
pub eps-fails : (told after : Option (List ℕ)) (value : ℕ) → 1048576 < value →
    value < 2 ^ 32 → HasRead told (magic ++ number value) after → IfSome told (λ bytes. FailsAs bytes (Epsilon value))
eps-fails None after value great fits read = tt
eps-fails (Some x) None value great fits read = absurd read
eps-fails (Some x) (Some y) value great fits read =
    record { behind = y; great = great; fits = fits; stands = inl (read ∙ append_assoc magic (number value) y) }

pub rec-fails : (told after : Option (List ℕ)) (eps value : ℕ) →
    eps ≤ 1048576 → 1048576 < value → value < 2 ^ 32 → HasRead told ((magic ++ number eps) ++ number value) after →
    IfSome told (λ bytes. FailsAs bytes (Epsilon value))
rec-fails None after eps value small great fits read = tt
rec-fails (Some x) None eps value small great fits read = absurd read
rec-fails (Some x) (Some y) eps value small great fits read =
    record {
      behind = y;
      great = great;
      fits = fits;
      stands =
          inr (
            eps,
            small,
            read ∙ append_assoc (magic ++ number eps) (number value) y
                ∙ append_assoc magic (number eps) (number value ++ y),
          );
    }

-- lists that agree have the same front
same-front : (n : ℕ) (xs ys : List ℕ) →
    n ≤ length xs → n ≤ length ys → ((k : ℕ) → k < n → get_or xs k 0 ≡ get_or ys k 0) → take n xs ≡ take n ys
same-front zero xs ys long long' agree = refl
same-front (suc n) [] ys long long' agree = absurd (omega arith)
same-front (suc n) (x ∷ xs) [] long long' agree = absurd (omega arith)
same-front (suc n) (x ∷ xs) (y ∷ ys) long long' agree =
    ap (λ (h : ℕ). h ∷ take n xs) (agree 0 (omega arith)) ∙ ap
    (λ (w : List ℕ). y ∷ w) (same-front n xs ys (omega arith) (omega arith) (λ k less. agree (suc k) (omega arith)))

front-get : (n : ℕ) (xs ys : List ℕ) (k : ℕ) → k < n → n ≤ length xs → get_or (take n xs ++ ys) k 0 ≡ get_or xs k 0
front-get zero xs ys k less long = absurd (omega arith)
front-get (suc n) [] ys k less long = absurd (omega arith)
front-get (suc n) (x ∷ xs) ys zero less long = refl
front-get (suc n) (x ∷ xs) ys (suc k) less long = front-get n xs ys k (omega arith) (omega arith)

-- the bytes end within PGMINDEX
pub magic-short : (told : Option (List ℕ)) (got : ℕ) (buf : List ℕ) →
    length buf ≡ 8 → got < 8 → ((k : ℕ) → k < got → get_or buf k 0 ≡ get_or magic k 0) →
    IfSome told (λ bytes. bytes ≡ take got buf) → IfSome told (λ bytes. FailsAs bytes (Short got))
magic-short None got buf long short agree ended = tt
magic-short (Some bytes) got buf long short agree ended =
    let front : bytes ≡ take got magic = ended ∙ same-front got buf magic (omega arith) (omega arith) agree in
    let rest = drop got magic ++ (number 0 ++ (number 0 ++ number 0)) in
    let form : IsFormUpTo got (bytes ++ rest) = record {
      eps = 0;
      eps_rec = 0;
      count = 0;
      levels = [];
      fits = omega arith;
      fits_rec = omega arith;
      few = omega arith;
      small = λ more. omega arith;
      small_rec = λ more. omega arith;
      are = no_levels;
      stand = ap (λ (w : List ℕ). w ++ rest) front
          ∙ sym (append_assoc (take got magic) (drop got magic) (number 0 ++ (number 0 ++ number 0)))
          ∙ ap (λ (w : List ℕ). w ++ (number 0 ++ (number 0 ++ number 0))) (take-append-drop got magic) ∙ eps-stand 0;
    } in
    record {
      all = sym (ap length ended ∙ length-take-le got buf (omega arith));
      front =
          record {
            rest = rest;
            more =
                omega
                (arith, length-append (drop got magic) (number 0 ++ (number 0 ++ number 0)), length-drop got magic);
            whole = form;
          };
    }

-- a byte isn't that of PGMINDEX
pub magic-fails : (told after : Option (List ℕ)) (at got : ℕ) (buf : List ℕ) →
    length buf ≡ 8 → got ≤ 8 → at < got → ((k : ℕ) → k < at → get_or buf k 0 ≡ get_or magic k 0) →
    get_or buf at 0 ≢ get_or magic at 0 →
    HasRead told (take got buf) after → IfSome told (λ bytes. FailsAs bytes (Magic at))
magic-fails None after at got buf long within inside agree differs read = tt
magic-fails (Some x) None at got buf long within inside agree differs read = absurd read
magic-fails (Some x) (Some y) at got buf long within inside agree differs read =
    let P : List ℕ → Type 0 = λ w. FailsAs w (Magic at) in
    let bytes = take got buf ++ y in
    let longer :
    got ≤ length bytes = omega (arith, length-append (take got buf) y, length-take-le got buf (omega arith)) in
    let here : (k : ℕ) → k < got → get_or bytes k 0
    ≡ get_or buf k 0 = λ k less. front-get got buf y k less (omega arith) in
    let fails : IsMagic bytes at = record {
      within = omega arith;
      there = omega (arith, longer);
      before = same-front at bytes magic
          (omega (arith, longer)) (omega arith) (λ k less. here k (omega arith) ∙ agree k less);
      differs = λ same. differs (sym (here at inside) ∙ same);
    } in
    subst P (sym read) fails

pub magic-read : (got : ℕ) (buf : List ℕ) →
    length buf ≡ 8 → got ≡ 8 → ((k : ℕ) → k < got → get_or buf k 0 ≡ get_or magic k 0) → take got buf ≡ magic
magic-read got buf long all agree =
    same-front got buf magic (omega arith) (omega arith) agree ∙ ap (λ (n : ℕ). take n magic) all

-- a byte behind the index, and none
pub index-of : (index : SavedIndex) (count : ℕ) → length index.levels ≡ count →
    head_bytes index.eps index.eps_rec count ++ flat_map level_bytes index.levels ≡ index_bytes index
unfolding index_bytes
index-of index count long =
    ap (λ (n : ℕ). head_bytes index.eps index.eps_rec n ++ flat_map level_bytes index.levels) (sym long)

pub trailing-fails : (told after : Option (List ℕ)) (index : SavedIndex) (count byte : ℕ) →
    IsBounded index.eps index.eps_rec index.levels → length index.levels ≡ count →
    HasRead told ((head_bytes index.eps index.eps_rec count ++ flat_map level_bytes index.levels) ++ byte ∷ []) after →
    IfSome told (λ bytes. FailsAs bytes (Trailing byte))
trailing-fails None after index count byte bounded long read = tt
trailing-fails (Some x) None index count byte bounded long read = absurd read
trailing-fails (Some x) (Some y) index count byte bounded long read =
    record {
      index = index;
      behind = y;
      bounded = bounded;
      stand = read
          ∙ append_assoc (head_bytes index.eps index.eps_rec count ++ flat_map level_bytes index.levels) (byte ∷ []) y
          ∙ ap (λ (w : List ℕ). w ++ byte ∷ y) (index-of index count long);
    }

pub index-read : (told after : Option (List ℕ)) (index : SavedIndex) (count : ℕ) →
    IsBounded index.eps index.eps_rec index.levels → length index.levels ≡ count →
    HasRead told (head_bytes index.eps index.eps_rec count ++ flat_map level_bytes index.levels) after →
    IfSome after (λ bytes. bytes ≡ []) → IfSome told (IsSpelling index)
index-read None after index count bounded long read ended = tt
index-read (Some x) None index count bounded long read ended = absurd read
index-read (Some x) (Some y) index count bounded long read ended =
    let front = head_bytes index.eps index.eps_rec count ++ flat_map level_bytes index.levels in
    record {
      bounded = bounded;
      written = read ∙ ap (λ (w : List ℕ). front ++ w) ended ∙ append-nil front ∙ index-of index count long;
    }

-- the bytes that a part of the file takes behind a piece, which its wholes go on to an index
taken-in : (Part : List ℕ → Type 0) (offset : ℕ) (piece taken : List ℕ) (fault : IndexFault) →
    offset ≡ length piece → GoesOn Part IsIndex piece → TakesIn Part offset taken fault →
    IsTaken (piece ++ taken) fault
taken-in Part offset piece taken (Short got) here goes takes = omega (arith, takes, here, length-append piece taken)
taken-in Part offset piece taken (Side at byte) here goes takes = omega (arith, takes, here, length-append piece taken)
taken-in Part offset piece taken NoMemory here goes takes =
    let on = goes-behind Part IsIndex piece taken takes.0 goes takes.1 in (takes.0 ++ on.0, on.1)
taken-in Part offset piece taken ReadFault here goes takes = takes
taken-in Part offset piece taken (Magic at) here goes takes = absurd takes
taken-in Part offset piece taken (Epsilon value) here goes takes = absurd takes
taken-in Part offset piece taken (Trailing byte) here goes takes = absurd takes

-- a fault behind a front of the head; `Kept` is what the taken bytes go on to where memory ran out
pub head-fails : {S : Type 0} (shelf : Ghosts S) (Part Before Kept : List ℕ → Type 0)
    (offset : ℕ) (piece : List ℕ) (first old new : S) (fault : IndexFault) → offset ≡ length piece →
    ReadsPiece shelf piece first old →
    Continues Part offset piece → Stands Before IsBeforeIndexCut piece → GoesOn Kept IsIndex piece →
    ReadFails shelf (origin_of fault)
    (λ bytes. StopsIn Part Before offset bytes fault) (λ taken. TakesIn Kept offset taken fault) old new →
    ReadFails shelf (origin_of fault) (λ bytes. FailsAs bytes fault) (λ taken. IsTaken taken fault) first new
head-fails shelf Part Before Kept offset piece first old new fault here so_far goes stands kept =
    fails-behind shelf (origin_of fault) _ _ _ _ piece first old new so_far
    (λ bytes. part-fails Part Before offset piece here goes stands bytes fault)
    (λ taken. taken-in Kept offset piece taken fault here kept)

-- levels behind their head are an index
pub levels-index : (eps eps_rec count : ℕ) →
    eps ≤ 1048576 → eps_rec ≤ 1048576 → count < 2 ^ 32 → GoesOn (AreLevels count) IsIndex (head_bytes eps eps_rec count)
levels-index eps eps_rec count small small_rec few bytes are =
    let index : SavedIndex = record { eps = eps; eps_rec = eps_rec; levels = are.0 } in
    let bounded : IsBounded eps eps_rec are.0 =
    record { small = small; small_rec = small_rec; few = omega (arith, are.1, few); each = are.2 } in (
      [],
      (
        index,
        record {
          bounded = bounded;
          written = ap (λ (w : List ℕ). head_bytes eps eps_rec count ++ w) (append-nil bytes ∙ are.3)
              ∙ index-of index count are.1;
        },
      ),
    )
