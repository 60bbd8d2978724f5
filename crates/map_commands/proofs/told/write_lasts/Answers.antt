use Rattle.std.proofs.Common.{◌≡◌, ◌≤◌, [], ◌∷◌, ◌∙◌, ap, length, map, arith, ℕ}
use Rattle.std.specs.List.{range_with_len}
use Rattle.std.proofs.lemmas.List.{drop_all}
use Rattle.std.proofs.lemmas.List.FromFn.{length-range_with_len}
use Rattle.std.proofs.lemmas.List.Elements.{All-get_or}
use Rattle.written.proofs.LoopLemmas.{written_none, written_more, written_all, broken_there}
use Rattle.map_replay.specs.declared.reading.Reading.{Reading}
use Rattle.map_commands.specs.Replay.{last_line}
use Rattle.map_commands.proofs.MapLineLemmas.{last_begins}
use Rattle.written.proofs.WritingLemmas.{broken}
use Rattle.map_commands.proofs.told.write_lasts.Goals as goal

pub loop-i-init : goal.loop-i-init
loop-i-init g c = written_none

pub loop-i-preserved : goal.loop-i-preserved
loop-i-preserved g c =
    let updates = c.args.updates.now in
    let readings = c.args.readings.now in
    let i = c.loop-i.i in
    let piece = c.as_bytes.result.now in
    let last_is = All-get_or (λ (r : Reading). r.last ≡ length updates) readings i _ (omega arith) c.requires in
    written_more c.loop-i.invariant c.in_ok-hand_over.ensures
    (last_begins (length updates) (length readings) i piece (omega arith)
    (c.as_bytes.ensures ∙ (c.fill_last.ensures ∙ ap (λ (n : ℕ). last_line n i) last_is)))

pub returns-in_err-hand_over : goal.returns-in_err-hand_over
returns-in_err-hand_over g c =
    let updates = c.args.updates.now in
    let readings = c.args.readings.now in
    let i = c.loop-i.i in
    let piece = c.as_bytes.result.now in
    let last_is = All-get_or (λ (r : Reading). r.last ≡ length updates) readings i _ (omega arith) c.requires in
    broken _ c.from_residual.result c.from_residual.ensures.1
    (broken_there _ c.loop-i.invariant c.in_err-hand_over.ensures
    (last_begins (length updates) (length readings) i piece (omega arith)
    (c.as_bytes.ensures ∙ (c.fill_last.ensures ∙ ap (λ (n : ℕ). last_line n i) last_is))))

pub returns : goal.returns
returns g c =
    let all = range_with_len 0 (length c.args.readings.now) in
    let past : length all ≤ c.loop-i.i = omega (arith, length-range_with_len 0 (length c.args.readings.now)) in
    written_all c.loop-i.invariant
    (ap (map (last_line (length c.args.updates.now))) (drop_all c.loop-i.i all past))
