-- What the getters of `clap` give, by the rows.
use Rattle.std.proofs.Common.{◌≡◌, ◌⊎◌, inl, inr, ℕ, ◌<◌, ◌≤◌, Bool, true, false, List, []}
use Rattle.std.proofs.Common.{Option, Some, None, Result, Ok, refl, sym, ap, subst, ◌∙◌, arith}
use Rattle.std.specs.Prelude.{option_map, unwrap_or, codes}
use Rattle.std.specs.Borrow.{Bor}
use Rattle.std.specs.Option.{option_map_or}
use Rattle.std.specs.Str.{bytes_eq}
use Rattle.std.specs.Str.Parse.{ParsesUnsigned, digits_value, without_leading_plus}
use Rattle.clap.specs.Matches.{ReadsOne, first_value, one_text}
use Rattle.clap.specs.Walk.{Text, first_of, one_of, rows_of}
use Rattle.clap.specs.declared.parser.matches.Found.{Found}
use Rattle.clap.proofs.CallerReads.{signed_reads}
use Rattle.clap.proofs.WalkLemmas.{first_value-rows, one_text-rows}
use Rattle.command_line.specs.Requests.{name_in, number_in, is_given}
use Rattle.command_line.specs.Passed.{IsNumberIn, IsFlag}

-- the text of a name, and no text where none is given
pub name_read : (f : Found) (id : Text) (o : Option (Bor Text)) (d : Bor Text) →
    option_map (λ s. s.now) o ≡ first_value f id → d.now ≡ [] →
    (unwrap_or o d).now ≡ name_in id (rows_of f)
name_read f id o d is none = go o (is ∙ first_value-rows f id)
  where
    go : (o : Option (Bor Text)) →
        option_map (λ s. s.now) o ≡ first_of id (rows_of f) → (unwrap_or o d).now ≡ name_in id (rows_of f)
    go None same = none ∙ ap (λ (t : Option Text). unwrap_or t (codes "")) same
    go (Some s) same = ap (λ (t : Option Text). unwrap_or t (codes "")) same

-- a flag
pub flag_read : (f : Found) (id : Text) (given : Bool) →
    (one_text f id ≡ None → given ≡ false) → (one_text f id ≡ Some (codes "true") → given ≡ true) →
    (one_text f id ≡ Some (codes "false") → given ≡ false) → IsFlag id (rows_of f) → given ≡ is_given id (rows_of f)
flag_read f id given none set_true other flag = go (one_of id (rows_of f)) refl
  where
    is_rows : one_text f id ≡ one_of id (rows_of f)
    is_rows = one_text-rows f id

    either : (t : Text) →
        one_of id (rows_of f) ≡ Some t → (t ≡ codes "true") ⊎ (t ≡ codes "false") → given ≡ bytes_eq t (codes "true")
    either t is (inl true_word) =
        set_true (is_rows ∙ is ∙ ap Some true_word) ∙ sym (ap (λ (u : Text). bytes_eq u (codes "true")) true_word)
    either t is (inr false_word) =
        other (is_rows ∙ is ∙ ap Some false_word) ∙ sym (ap (λ (u : Text). bytes_eq u (codes "true")) false_word)

    go : (o : Option Text) → one_of id (rows_of f) ≡ o → given ≡ option_map_or (λ t. bytes_eq t (codes "true")) o false
    go None is = none (is_rows ∙ is)
    go (Some t) is = either t is (flag t is)

-- a number in its range, as it is parsed
module _ {E : Type 0} (G : List ℕ → Result ℕ E → Type 0)
    (only : (text : List ℕ) (r : Result ℕ E) → G text r → ParsesUnsigned 32 10 text r) where
  pub number_read : (f : Found) (id : Text) (default : ℕ) (r : Option ℕ) (least most : ℕ) →
      most < 4294967296 → IsNumberIn least most id (rows_of f) →
      (one_text f id ≡ None → r ≡ None) → ((t : List ℕ) → one_text f id ≡ Some t → ReadsOne G t r) →
      (unwrap_or r default ≡ number_in id default (rows_of f))
      × (least ≤ default → default ≤ most → (least ≤ unwrap_or r default) × (unwrap_or r default ≤ most))
  number_read f id default r least most small number none value = go (one_of id (rows_of f)) refl
    where
      is_rows : one_text f id ≡ one_of id (rows_of f)
      is_rows = one_text-rows f id

      read : (t : Text) (n : ℕ) →
          r ≡ Some n → ReadsOne G t r → unwrap_or r default ≡ digits_value 10 (without_leading_plus t)
      read t n is reads =
          let parsed = only t (Ok n) (subst (ReadsOne G t) is reads) in
          ap (λ (o : Option ℕ). unwrap_or o default) is ∙ parsed.1

      go : (o : Option Text) → one_of id (rows_of f) ≡ o →
          (unwrap_or r default ≡ option_map_or (λ t. digits_value 10 (without_leading_plus t)) o default)
          × (least ≤ default → default ≤ most → (least ≤ unwrap_or r default) × (unwrap_or r default ≤ most))
      go None is =
          let nothing : unwrap_or r default
          ≡ default = ap (λ (o : Option ℕ). unwrap_or o default) (none (is_rows ∙ is)) in
          (nothing, λ low high. (omega (arith, nothing, low), omega (arith, nothing, high)))
      go (Some t) is =
          let passed = number t is in
          let reads = value t (is_rows ∙ is) in
          let got = signed_reads E G 32 least most passed.0 r
          (subst (λ (u : List ℕ). ReadsOne G u r) passed.1 reads) only small passed.2 in (
            read t got.0 got.1 reads,
            λ low high. subst (λ (o : Option ℕ). (least ≤ unwrap_or o default) × (unwrap_or o default ≤ most))
                (sym got.1) (got.2, got.3),
          )
