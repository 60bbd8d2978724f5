-- Updates that are no sweeps.
use Rattle.std.proofs.Common.{◌≡◌, true, List}
use Rattle.std.specs.Prelude.{All}
use Rattle.std.proofs.lemmas.Bool.{false≢true}
use Rattle.std.proofs.lemmas.List.Elements.{All-weaker}
use Rattle.log_levels.specs.declared.update.Update.{Update}
use Rattle.log_levels.specs.declared.update.Update.TheVariants.{Put, Del, Sweep}
use Rattle.log_levels.specs.Accepted.{IsPlain}
use Rattle.map_commands.specs.PlainUpdates.{is_plain}

plain : (update : Update) → is_plain update ≡ true → IsPlain update
plain (Put key value) is = tt
plain (Del key) is = tt
plain (Sweep low high) is = absurd (false≢true is)

pub all_plain : (updates : List Update) → All (λ update. is_plain update ≡ true) updates → All IsPlain updates
all_plain updates each = All-weaker (λ update. is_plain update ≡ true) IsPlain plain updates each
