-- A text is all the bytes of its file, and has one reading.
use Rattle.std.proofs.Common.{◌≡◌, ◌⊎◌, ℕ, ◌+◌, ◌≤◌, List, length, refl, sym, ap, ◌∙◌}
use Rattle.std.proofs.Common.{inl, inr, arith, Option, Some, None, Result, Ok, Err}
use Rattle.std.specs.Option.{IfSome}
use Rattle.edge.specs.Reading.{GivesAll}
use Rattle.edge.specs.Readers.{HasCauseOf, IsOfBytes, ReadFails, ReadsOn}
use Rattle.edge.specs.Risen.{StaysQuiet}
use Rattle.edge.specs.Unread.{AreTooMany, AreAtMost}
use Rattle.edge.specs.Unread as unread
use Rattle.edge.specs.declared.shelf.Shelf.{Ghosts}
use Rattle.edge.specs.declared.unread.Unread.{Unread}
use Rattle.edge.specs.declared.unread.Unread.TheVariants as why
use Rattle.edge.proofs.CallerLemmas.{takes-read}
use Rattle.pgm_script.specs.declared.fault.ScriptFault.{ScriptFault}
use Rattle.pgm_script.specs.declared.fault.ScriptFault.TheVariants.{At, ReadFault, TooLong, NoMemory}
use Rattle.pgm_script.specs.Texts.{IsTextOf, GivesText, origin_of, fault_of}

whole-text : (limit : ℕ) (text : List ℕ) (before : Option (List ℕ)) →
    length text ≤ limit → IfSome before (λ bytes. bytes ≡ text) →
    IfSome before (λ bytes. IsTextOf limit bytes (Ok text))
whole-text limit text None few ended = tt
whole-text limit text (Some bytes) few ended = (sym ended, omega (arith, few, ap length ended))

module _ {S : Type 0} (shelf : Ghosts S) (limit : ℕ) (old new : S) where
  -- what was read whole is a text
  pub text-read : (text : List ℕ) →
      length text ≤ limit → ReadsOn shelf (GivesAll text) old new → ReadsOn shelf (GivesText limit text) old new
  text-read text few reads = record {
    files = reads.files;
    quiet = reads.quiet;
    read = record {
      text_is = whole-text limit text (shelf.rest old) few reads.read.ended;
      taken = takes-read (shelf.rest old) (shelf.rest new) text (limit + 1) (omega arith) reads.read.read;
    };
  }

  -- and a fault of the file is that of the text
  pub text-fails : (fault : Unread) →
      ReadFails shelf (unread.origin_of fault)
      (λ bytes. AreTooMany limit bytes fault) (λ taken. AreAtMost (limit + 1) taken fault) old new →
      ReadFails shelf (origin_of (fault_of fault)) (λ bytes. IsTextOf limit bytes (Err (fault_of fault)))
      (λ taken. AreAtMost (limit + 1) taken (fault_of fault)) old new
  text-fails why.ReadFault fails = fails
  text-fails (why.TooLong got) fails = fails
  text-fails why.NoMemory fails = fails

one-reading : (limit : ℕ) (bytes : List ℕ) (one two : Result (List ℕ) ScriptFault) →
    IsTextOf limit bytes one → IsTextOf limit bytes two → one ≡ two
one-reading limit bytes (Ok text) (Ok other) is same = ap Ok (is.0 ∙ sym same.0)
one-reading limit bytes (Ok text) (Err (TooLong got)) is same = absurd (omega (arith, is.1, same.1))
one-reading limit bytes (Ok text) (Err fault) is same = absurd same
one-reading limit bytes (Err (TooLong got)) (Ok text) is same = absurd (omega (arith, is.1, same.1))
one-reading limit bytes (Err (TooLong got)) (Err (TooLong other)) is same =
    ap (λ (n : ℕ). Err (TooLong n)) (is.0 ∙ sym same.0)
one-reading limit bytes (Err (TooLong got)) (Err fault) is same = absurd same
one-reading limit bytes (Err fault) two is same = absurd is

-- what a reader answers wherever no fault was counted follows from what each of its answers says
pub text-wherever : (limit : ℕ) (told : Option (List ℕ)) (text : List ℕ) (before after : ℕ) →
    IfSome told (λ bytes. IsTextOf limit bytes (Ok text)) →
    IfSome told (λ bytes. (reading : Result (List ℕ) ScriptFault) →
    IsTextOf limit bytes reading → StaysQuiet before after → reading ≡ Ok text)
text-wherever limit None text before after read = tt
text-wherever limit (Some bytes) text before after read =
    λ reading is quiet. one-reading limit bytes reading (Ok text) is read

pub fault-wherever : (limit : ℕ) (told : Option (List ℕ)) (fault : ScriptFault) (before after : ℕ) →
    IsOfBytes (origin_of fault) (λ bytes. IsTextOf limit bytes (Err fault)) told →
    HasCauseOf (origin_of fault) before after →
    IfSome told
    (λ bytes. (reading : Result (List ℕ) ScriptFault) → IsTextOf limit bytes reading → StaysQuiet before after →
    (fault ≡ NoMemory) ⊎ (reading ≡ Err fault))
fault-wherever limit None fault before after fails cause = tt
fault-wherever limit (Some bytes) ReadFault before after fails cause = λ reading is quiet. absurd (quiet cause.1)
fault-wherever limit (Some bytes) NoMemory before after fails cause = λ reading is quiet. inl refl
fault-wherever limit (Some bytes) (At line why) before after fails cause = absurd cause
fault-wherever limit (Some bytes) (TooLong got) before after fails cause =
    λ reading is quiet. inr (one-reading limit bytes reading (Err (TooLong got)) is fails)
