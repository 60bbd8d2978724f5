-- Whether bytes are UTF-8.
use Rattle.std.proofs.Common.{◌≡◌, List, ℕ, Bool, true, false, Result, Ok, Err, MatchResult, is_ok, refl, sym}
use Rattle.std.specs.Str.{is_utf8, IsUtf8}
use Rattle.std.proofs.lemmas.Str.{IsUtf8-from_is_utf8, is_utf8-from_IsUtf8}

not-text : (b : Bool) → (b ≡ true → ⊥) → false ≡ b
not-text true never = absurd (never refl)
not-text false never = refl

pub utf8-answer : {T E : Type 0} (line : List ℕ) (result : Result T E) (P : T → Type 0) (Q : E → Type 0) →
    MatchResult result (λ s. P s × IsUtf8 line) (λ e. (IsUtf8 line → ⊥) × Q e) → is_ok result ≡ is_utf8 line
utf8-answer {T} {E} line (Ok s) P Q cases = sym (is_utf8-from_IsUtf8 line cases.1)
utf8-answer {T} {E} line (Err e) P Q cases = not-text (is_utf8 line) (λ is. cases.0 (IsUtf8-from_is_utf8 line is))
