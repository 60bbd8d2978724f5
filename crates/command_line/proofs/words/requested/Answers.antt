use Rattle.std.proofs.Common.{◌≡◌, ◌∙◌, ap, map, sym, subst, inl, inr, true, false}
use Rattle.std.specs.Prelude.{option_and_then, option_map, ok_or, IfOk, List, Option, None, Some, Result}
use Rattle.std.specs.String.{string_bytes}
use Rattle.clap.specs.Words.{Text, App, HasKind, Kinds, fault_of, is_simple, is_simple_and_free, subcommand_of}
use Rattle.command_line.specs.declared.request.Request as declared
use Rattle.command_line.specs.Requests.{asked_of}
use Rattle.command_line.specs.Commands.{request_for}
use Rattle.command_line.specs.Words.{AreTaken, AskFor, request_of}
use Rattle.command_line.proofs.TakenWords.{is_free_application, is_simple_application, never_refused}
use Rattle.command_line.proofs.words.requested.Goals as goal

-- the words ask for what was found
asks_for : {E : Type 0} (words : List Text) (found : Option declared.Request) (r : Result declared.Request E) (e : E) →
    AreTaken words →
    option_map asked_of found ≡ request_of words →
    r ≡ ok_or found e → IfOk r (λ request. AskFor words (asked_of request))
asks_for words None r e taken is same =
    subst (λ (q : Result declared.Request _). IfOk q (λ request. AskFor words (asked_of request))) (sym same) tt
asks_for words (Some request) r e taken is same =
    subst (λ (q : Result declared.Request _). IfOk q (λ request. AskFor words (asked_of request)))
    (sym same) (record { taken = taken; asks = sym is })

pub returns-in-Ok-clause-asks : goal.returns-in-Ok-clause-asks
returns-in-Ok-clause-asks c =
    let words = map string_bytes c.args.words.now in
    let same = c.in_ok-program.ensures in
    let free = ap is_simple_and_free same ∙ is_free_application in
    let taken : AreTaken words = sym (ap (λ (a : App). fault_of a words) same) ∙ c.in-Ok.ensures.kinds free in
    let rows = (c.in-Ok.ensures.matches (ap is_simple same ∙ is_simple_application)).1
    ∙ ap (λ (a : App). subcommand_of a words) same in
    asks_for words c.named_request.result c.ok_or.result _ taken
    (c.named_request.ensures ∙ ap (option_and_then (λ p. request_for p.0 p.1)) rows) c.ok_or.ensures.value

-- what was found is a request, since the words are taken
pub returns-in-Ok-clause-usage : goal.returns-in-Ok-clause-usage
returns-in-Ok-clause-usage c usage taken =
    let words = map string_bytes c.args.words.now in
    let same = c.in_ok-program.ensures in
    let rows = (c.in-Ok.ensures.matches (ap is_simple same ∙ is_simple_application)).1
    ∙ ap (λ (a : App). subcommand_of a words) same in
    never_refused words c.named_request.result _ taken
    (c.named_request.ensures ∙ ap (option_and_then (λ p. request_for p.0 p.1)) rows)
    (sym c.ok_or.ensures.value ∙ usage)

-- the words are taken where there are matches
pub named_request-requires : goal.named_request-requires
named_request-requires c =
    let words = map string_bytes c.args.words.now in
    let same = c.in_ok-program.ensures in
    let free = ap is_simple_and_free same ∙ is_free_application in (
      words,
      sym (ap (λ (a : App). fault_of a words) same) ∙ c.in-Ok.ensures.kinds free,
      (c.in-Ok.ensures.matches (ap is_simple same ∙ is_simple_application)).1
          ∙ ap (λ (a : App). subcommand_of a words) same,
    )

-- an error that is no want of memory is a fault of the words
pub returns-clause-usage : goal.returns-clause-usage
returns-clause-usage c usage taken =
    let words = map string_bytes c.args.words.now in
    let same = c.in_ok-program.ensures in
    let free = ap is_simple_and_free same ∙ is_free_application in
    let none = ap (λ (a : App). fault_of a words) same ∙ taken in
    elim (subst (λ (k : Kinds). HasKind k c.in-Err.error) none (c.in-Err.ensures.kinds free)) [
      | inl memory ↦
          let is = c.kind.ensures ∙ memory in
          let bad : true ≡ false = sym (rw is at c.eq.ensures) ∙ c.if-eq.false in
          cc
      | inr among ↦ absurd among
    ]
