-- No line of such a script is a sweep, so there are as many entries as updates.
use Rattle.std.proofs.Common.{◌≡◌, List, true, sym, subst, arith}
use Rattle.std.specs.Prelude.{All}
use Rattle.log_levels.specs.declared.update.Update.{Update}
use Rattle.map_replay.proofs.MixLemmas.{plain_entries}
use Rattle.pgm_script.specs.declared.script.ScriptKind.{ScriptKind}
use Rattle.pgm_script.specs.declared.script.ScriptLine.{ScriptLine}
use Rattle.pgm_script.specs.Scripts.{IsLineOf}
use Rattle.map_commands.specs.PlainUpdates.{is_plain}
use Rattle.map_commands.proofs.PlainLemmas.{all_plain}
use Rattle.program.specs.Inputs.{updates_in}
use Rattle.program.proofs.ScriptUpdates.{plain_updates}
use Rattle.program.proofs.history.mixing_in.Goals as goal

plain : (updates : List Update) (lines : List ScriptLine) →
    updates ≡ updates_in lines → All (IsLineOf ScriptKind.Mix) lines → All (λ update. is_plain update ≡ true) updates
plain updates lines is each = subst (All (λ update. is_plain update ≡ true)) (sym is) (plain_updates lines each)

pub invariant_of-result : goal.invariant_of-result
invariant_of-result c =
    let updates = c.in_ok-updates.updates.items in
    let entries =
    plain_entries updates (all_plain updates (plain updates c.args.lines.now c.in_ok-updates.ensures c.requires)) in
    record {
      fits = omega (arith, entries, c.if-room-count.false, c.capacity_with-room.ensures, c.in_ok-updates.updates.ok.0);
      after = λ held others is. absurd (cc is);
    }

pub invariant_of-result-2 : goal.invariant_of-result-2
invariant_of-result-2 c =
    record { plain = plain c.in_ok-updates.updates.items c.args.lines.now c.in_ok-updates.ensures c.requires }
