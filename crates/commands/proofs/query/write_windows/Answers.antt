use Rattle.std.proofs.Common.{◌≡◌, ◌+◌, ◌<◌, [], ◌∷◌, ◌++◌, ◌∙◌, ap, sym, drop}
use Rattle.std.proofs.Common.{drop-cons, add-one, get_or, length, arith, ℕ, List}
use Rattle.std.proofs.lemmas.List.{drop_all}
use Rattle.written.proofs.LoopLemmas.{written_none, written_more, written_all, broken_there}
use Rattle.levels.specs.declared.windows.LevelWindow.{LevelWindow}
use Rattle.commands.specs.Texts.Query.{window_line, window_lines}
use Rattle.written.proofs.WritingLemmas.{broken}
use Rattle.commands.proofs.query.write_windows.Goals as goal

-- what a read past the end would give
abbrev no_window : LevelWindow
no_window = record { level = 0; low = 0; high = 0 }

-- what is left begins with the piece of this window
begins : (windows : List LevelWindow) (i : ℕ) (d : LevelWindow) (piece : List ℕ) → i < length windows →
    piece ≡ window_line (get_or windows i d).level (get_or windows i d).low (get_or windows i d).high →
    window_lines (drop i windows) ≡ (piece ∷ []) ++ window_lines (drop (i + 1) windows)
begins windows i d piece there is =
    ap window_lines
    (drop-cons windows i d there ∙ ap (λ (n : ℕ). get_or windows i d ∷ drop n windows) (sym (add-one i)))
    ∙ ap (λ (line : List ℕ). line ∷ window_lines (drop (i + 1) windows)) (sym is)

pub loop-i-init : goal.loop-i-init
loop-i-init g c = written_none

pub loop-i-preserved : goal.loop-i-preserved
loop-i-preserved g c =
    let piece = c.as_bytes.result.now in
    written_more c.loop-i.invariant c.in_ok-hand_over.ensures
    (begins c.args.windows.now c.loop-i.i no_window piece
    (omega arith) (c.as_bytes.ensures ∙ c.fill_window_line.ensures))

pub returns-in_err-hand_over : goal.returns-in_err-hand_over
returns-in_err-hand_over g c =
    let piece = c.as_bytes.result.now in
    broken _ c.from_residual.result c.from_residual.ensures.1
    (broken_there _ c.loop-i.invariant c.in_err-hand_over.ensures
    (begins c.args.windows.now c.loop-i.i no_window piece
    (omega arith) (c.as_bytes.ensures ∙ c.fill_window_line.ensures)))

pub returns : goal.returns
returns g c =
    written_all c.loop-i.invariant
    (ap window_lines (drop_all c.loop-i.i c.args.windows.now (omega arith)))
