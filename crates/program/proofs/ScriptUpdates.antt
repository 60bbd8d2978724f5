-- The updates of a script without sweeps.
use Rattle.std.proofs.Common.{◌≡◌, List, [], ◌∷◌, true, refl}
use Rattle.std.specs.Prelude.{All}
use Rattle.std.proofs.lemmas.List.Elements.{All-cons, All-head, All-nil, All-tail}
use Rattle.log_levels.specs.declared.update.Update.{Update}
use Rattle.map_commands.specs.PlainUpdates.{is_plain}
use Rattle.pgm_script.specs.declared.script.ScriptKind.{ScriptKind}
use Rattle.pgm_script.specs.declared.script.ScriptLine.{ScriptLine}
use Rattle.pgm_script.specs.Scripts.{IsLineOf}
use Rattle.program.specs.Inputs.{updates_in}

-- no sweep
abbrev IsNoSweep : Update → Type 0
IsNoSweep update = is_plain update ≡ true

plain_more : (line : ScriptLine) (lines : List ScriptLine) →
    IsLineOf ScriptKind.Mix line → All IsNoSweep (updates_in lines) → All IsNoSweep (updates_in (line ∷ lines))
plain_more (ScriptLine.Put key value) lines is plain =
    All-cons IsNoSweep (Update.Put key value) (updates_in lines) refl plain
plain_more (ScriptLine.Del key) lines is plain = All-cons IsNoSweep (Update.Del key) (updates_in lines) refl plain
plain_more (ScriptLine.Sweep low high) lines is plain = absurd is
plain_more line lines is plain = plain

pub plain_updates : (lines : List ScriptLine) →
    All (IsLineOf ScriptKind.Mix) lines → All (λ update. is_plain update ≡ true) (updates_in lines)
plain_updates [] each = All-nil IsNoSweep
plain_updates (line ∷ lines) each =
    plain_more line lines (All-head (IsLineOf ScriptKind.Mix) line lines each)
    (plain_updates lines (All-tail (IsLineOf ScriptKind.Mix) line lines each))
