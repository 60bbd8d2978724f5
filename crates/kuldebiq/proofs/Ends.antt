-- A pair that is taken out of a map, as an answer.
use Rattle.std.proofs.Common.{◌≡◌, ◌⊎◌, ℕ, ◌+◌, ◌<◌, ◌≤◌, List, [], ◌∷◌, ◌++◌, length, Option, Some, None, IsSome}
use Rattle.std.proofs.Common.{Result, Ok, Err, IfOk, OnErr, All, false, true}
use Rattle.std.proofs.Common.{sym, ap, subst, ◌∙◌, refl, inl, inr, arith}
use Rattle.log_levels.specs.declared.update.Update.{Update}
use Rattle.log_levels.specs.declared.update.Update.TheVariants.{Del}
use Rattle.log_levels.specs.declared.fault.MapFault.{MapFault}
use Rattle.log_levels.specs.declared.fault.MapFault.TheVariants.{Full, NoMemory}
use Rattle.log_levels.specs.Accepted.{IsPlain, taking}
use Rattle.log_levels.specs.Maps.{map_after}
use Rattle.log_levels.specs.Refusals.{AreApplied}
use Rattle.log_levels.specs.Shapes.{Held, StandsFor, capacity_of}
use Rattle.log_levels.proofs.RefusalLemmas.{plain-one}
use Rattle.kuldebiq.specs.declared.answer.Answer.{Answer}
use Rattle.kuldebiq.specs.declared.map_calls.Pair.{Pair}
use Rattle.kuldebiq.specs.Answers.{gives, refuses, IsDone}
use Rattle.kuldebiq.specs.Changes.{TakesOut, HasAdded, fault_as}
use Rattle.kuldebiq.specs.Pairs.{IsTaken}

plain-taking : (found : Option (ℕ × ℕ)) → All IsPlain (taking found)
plain-taking None = λ k d inside. absurd (omega arith)
plain-taking (Some pair) = plain-one (Del pair.0) tt

one-taking : (found : Option (ℕ × ℕ)) → IsSome found → length (taking found) ≡ 1
one-taking None some = let wrong : false ≡ true = some in cc
one-taking (Some pair) some = refl

pub takes-out : (there : List (ℕ × ℕ) → Option (ℕ × ℕ)) (old new : Held)
    (taken : Result (Option (ℕ × ℕ)) MapFault) (pair : Pair) (answer : Answer) →
    IfOk taken (λ found. (updates : List Update) → StandsFor old updates → found ≡ there (map_after updates))
    → ((updates : List Update) → StandsFor old updates → there (map_after updates) ≡ None → taken ≡ Ok None) →
    ((updates : List Update) → StandsFor old updates → AreApplied old new (taking (there (map_after updates))) taken)
    → IsTaken taken pair answer → TakesOut there old (Some new) pair answer
takes-out there old new (Ok None) pair answer found none applied is = record {
  done = λ done. let refused = ap (λ (a : Answer). a.status) is in absurd (omega (arith, done, refused));
  written =
      λ updates stands done. let refused = ap (λ (a : Answer). a.status) is in absurd (omega (arith, done, refused));
  absent = λ updates stands empty. is;
  full = λ updates stands some many. let wrong : false ≡ true = subst IsSome (sym (found updates stands)) some in cc;
  room = λ updates stands some few. let wrong : false ≡ true = subst IsSome (sym (found updates stands)) some in cc;
}
takes-out there old new (Ok (Some (key, value))) pair answer found none applied (is, is_key, is_value) = record {
  done = λ done before stands.
      let one : taking (there (map_after before)) ≡ Del pair.key ∷ [] =
      ap taking (sym (found before stands)) ∙ ap (λ k. Del k ∷ []) (sym is_key) in
      subst (λ updates. StandsFor new (before ++ updates)) one ((applied before stands).applied before stands);
  written = λ updates stands done. (
    is,
    sym (found updates stands) ∙ sym (ap (λ k. Some (k, value)) is_key) ∙ sym (ap (λ v. Some (pair.key, v)) is_value),
  );
  absent = λ updates stands empty. let wrong : Some (key, value) ≡ None = found updates stands ∙ empty in cc;
  full = λ updates stands some many.
      let wrong : Ok (Some (key, value)) ≡ Err (Full old.accepted) =
      (applied updates stands).refused.full_first (plain-taking (there (map_after updates)))
      (omega (arith, one-taking (there (map_after updates)) some, many)) in cc;
  room = λ updates stands some few. inl (ap (λ (a : Answer). a.status) is);
}
takes-out there old new (Err (Full count)) pair answer found none applied is = record {
  done = λ done. let refused = ap (λ (a : Answer). a.status) is in absurd (omega (arith, done, refused));
  written =
      λ updates stands done. let refused = ap (λ (a : Answer). a.status) is in absurd (omega (arith, done, refused));
  absent = λ updates stands empty. let wrong : Err (Full count) ≡ Ok None = none updates stands empty in cc;
  full = λ updates stands some many.
      is ∙ ap (refuses 11) ((applied updates stands).refused.full_only count refl).0;
  room = λ updates stands some few. absurd
      (omega (
        arith,
        few,
        one-taking (there (map_after updates)) some,
        (applied updates stands).refused.plain_only (plain-taking (there (map_after updates))) count refl,
      ));
}
takes-out there old new (Err NoMemory) pair answer found none applied is = record {
  done = λ done. let refused = ap (λ (a : Answer). a.status) is in absurd (omega (arith, done, refused));
  written =
      λ updates stands done. let refused = ap (λ (a : Answer). a.status) is in absurd (omega (arith, done, refused));
  absent = λ updates stands empty. let wrong : Err NoMemory ≡ Ok None = none updates stands empty in cc;
  full = λ updates stands some many.
      let wrong : Err NoMemory ≡ Err (Full old.accepted) =
      (applied updates stands).refused.full_first (plain-taking (there (map_after updates)))
      (omega (arith, one-taking (there (map_after updates)) some, many)) in cc;
  room = λ updates stands some few. inr is;
}

pub stays : (old new : Held) (taken : Result (Option (ℕ × ℕ)) MapFault) (pair : Pair) (answer : Answer) →
    IfOk taken (λ found. found ≡ None → new ≡ old) → OnErr taken (new ≡ old) →
    IsTaken taken pair answer → (answer.status ≡ 0 → ⊥) → new ≡ old
stays old new (Ok None) pair answer none err is refused = none refl
stays old new (Ok (Some found)) pair answer none err (is, is_key, is_value) refused =
    absurd (refused (ap (λ (a : Answer). a.status) is))
stays old new (Err fault) pair answer none err is refused = err
