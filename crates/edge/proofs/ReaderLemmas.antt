-- What a reader answers behind what was read before it.
--
-- Main results: `pieces-read`, a piece and the one behind it; `fails-behind`, the fault of a call behind a piece; and
-- `passed-on`, a fault that `?` passed on.
use Rattle.std.proofs.Common.{◌≡◌, ℕ, List, [], ◌++◌, take, refl, sym, subst, ◌∙◌, Option, Some, None, Result, Ok, Err}
use Rattle.std.specs.Prelude.{IsErrAnd}
use Rattle.std.specs.Option.{option_to_list}
use Rattle.edge.specs.declared.shelf.Shelf.{Ghosts}
use Rattle.edge.specs.Reading.{HasRead, Fills, GivesByte}
use Rattle.edge.specs.Readers.{Origin, HasCauseOf, IsOfBytes, Leaves, ReadFails, ReadsOn, ReadsPiece, Reads}
use Rattle.edge.specs.Readers.Origin.{of_shelf, of_memory, of_bytes, of_none}
use Rattle.edge.proofs.CallerLemmas.{HasRead-append, emptied-after}

pub nothing-read : (told : Option (List ℕ)) → HasRead told [] told
nothing-read None = tt
nothing-read (Some bytes) = refl

-- Says of the bytes behind a piece, and Says' of all
abbrev pub Behind : List ℕ → (List ℕ → Type 0) → (List ℕ → Type 0) → Type 0
Behind piece Says Says' = (bytes : List ℕ) → Says bytes → Says' (piece ++ bytes)

told-behind : (piece : List ℕ) (Says Says' : List ℕ → Type 0) (first before : Option (List ℕ))
    (origin : Origin) → HasRead first piece before → Behind piece Says Says' →
    IsOfBytes origin Says before → IsOfBytes origin Says' first
told-behind piece Says Says' first before of_shelf read says told = tt
told-behind piece Says Says' first before of_memory read says told = tt
told-behind piece Says Says' first before of_none read says told = told
told-behind piece Says Says' None before of_bytes read says told = tt
told-behind piece Says Says' (Some x) None of_bytes read says told = absurd read
told-behind piece Says Says' (Some x) (Some y) of_bytes read says told = subst Says' (sym read) (says y told)

left-behind : (piece : List ℕ) (Takes Takes' : List ℕ → Type 0) (first before after : Option (List ℕ))
    (origin : Origin) → HasRead first piece before → Behind piece Takes Takes' →
    Leaves origin Takes before after → Leaves origin Takes' first after
left-behind piece Takes Takes' first before after of_shelf read takes left =
    emptied-after first before after piece read left
left-behind piece Takes Takes' first before after of_memory read takes left =
    (piece ++ left.0, HasRead-append first before after piece left.0 read left.1, takes left.0 left.2)
left-behind piece Takes Takes' first before after of_bytes read takes left =
    (piece ++ left.0, HasRead-append first before after piece left.0 read left.1, takes left.0 left.2)
left-behind piece Takes Takes' first before after of_none read takes left = left

module _ {S : Type 0} (shelf : Ghosts S) where
  pub pieces-read : (first middle last : S) (p q : List ℕ) → ReadsPiece shelf p first middle →
      ReadsPiece shelf q middle last → ReadsPiece shelf (p ++ q) first last
  pieces-read first middle last p q one two = record {
    files = two.files ∙ one.files;
    quiet = two.quiet ∙ one.quiet;
    read = HasRead-append (shelf.rest first) (shelf.rest middle) (shelf.rest last) p q one.read two.read;
  }

  -- the same piece by another name
  pub same-piece : (old new : S) (p q : List ℕ) → p ≡ q → ReadsPiece shelf p old new → ReadsPiece shelf q old new
  same-piece old new p q same read = let P : List ℕ → Type 0 = λ w. ReadsPiece shelf w old new in subst P same read

  -- what a buffer and what one byte gives
  pub filled-piece : (old new : S) (n : ℕ) (buf : List ℕ) →
      ReadsOn shelf (λ before after. Fills before n buf after) old new →
      ReadsPiece shelf (take n buf) old new
  filled-piece old new n buf fills = record { files = fills.files; quiet = fills.quiet; read = fills.read.read }

  pub byte-piece : (old new : S) (byte other : Option ℕ) → byte ≡ other → ReadsOn shelf (GivesByte byte) old new →
      ReadsPiece shelf (option_to_list other) old new
  byte-piece old new byte other same gives =
      let P : Option ℕ → Type 0 = λ b. HasRead (shelf.rest old) (option_to_list b) (shelf.rest new) in
      record { files = gives.files; quiet = gives.quiet; read = subst P same gives.read.next }

  pub no_piece-read : (s : S) → ReadsPiece shelf [] s s
  no_piece-read s = record { files = refl; quiet = refl; read = nothing-read (shelf.rest s) }

  -- a fault behind a piece
  pub fails-behind : (origin : Origin) (Says Takes Says' Takes' : List ℕ → Type 0)
      (piece : List ℕ) (first old new : S) →
      ReadsPiece shelf piece first old → Behind piece Says Says' → Behind piece Takes Takes' →
      ReadFails shelf origin Says Takes old new → ReadFails shelf origin Says' Takes' first new
  fails-behind origin Says Takes Says' Takes' piece first old new so_far says takes fails = record {
    files = fails.files ∙ so_far.files;
    cause = subst (λ (n : ℕ). HasCauseOf origin n (shelf.faults new)) so_far.quiet fails.cause;
    fault = told-behind piece Says Says' (shelf.rest first) (shelf.rest old) origin so_far.read says fails.fault;
    left = left-behind piece Takes Takes'
        (shelf.rest first) (shelf.rest old) (shelf.rest new) origin so_far.read takes fails.left;
  }

  -- a fault found in bytes that were read, and one of memory behind them
  pub fails-in : (Says Takes : List ℕ → Type 0) (piece : List ℕ) (old new : S) → ReadsPiece shelf piece old new →
      IsOfBytes of_bytes Says (shelf.rest old) → Takes piece → ReadFails shelf of_bytes Says Takes old new
  fails-in Says Takes piece old new read says takes = record {
    files = read.files;
    cause = read.quiet;
    fault = says;
    left = (piece, read.read, takes);
  }

  pub no_memory-behind : (Says Takes : List ℕ → Type 0) (piece : List ℕ) (old new : S) →
      ReadsPiece shelf piece old new →
      Takes piece → ReadFails shelf of_memory Says Takes old new
  no_memory-behind Says Takes piece old new read takes = record {
    files = read.files;
    cause = read.quiet;
    fault = tt;
    left = (piece, read.read, takes);
  }

  -- the fault that `?` passed on
  module _ {T E : Type 0} (origin : E → Origin) (Gives : T → Option (List ℕ) → Option (List ℕ) → Type 0)
      (Says Takes : List ℕ → E → Type 0) (old new : S) where
    pub passed-on : (result : Result T E) (fault : E) → IsErrAnd result (λ passed. passed ≡ fault) →
        ReadFails shelf (origin fault) (λ bytes. Says bytes fault) (λ taken. Takes taken fault) old new →
        Reads shelf origin Gives Says Takes old result new
    passed-on (Ok value) fault is fails = absurd is
    passed-on (Err passed) fault is fails =
        let Fails : E → Type 0 =
        λ e. ReadFails shelf (origin e) (λ bytes. Says bytes e) (λ taken. Takes taken e) old new in
        subst Fails (sym is) fails
