-- Each line of a script is one that its kind can have.
use Rattle.std.proofs.Common.{◌≡◌, ℕ, ◌+◌, ◌-◌, ◌^◌, ◌<◌, ◌≤◌, Bool, true, false, cond, if◌then◌else◌}
use Rattle.std.proofs.Common.{List, [], ◌∷◌, length, take, drop, get_or, replicate, refl, subst, arith}
use Rattle.std.proofs.Common.{All, Option, Some, None, Result, Ok, Err, lit<, eqb, length-drop, ◌∙◌, codes}
use Rattle.std.specs.List.{find, cons_option}
use Rattle.std.specs.Str.{is_utf8, bytes_eq}
use Rattle.std.specs.Str.Lines.{strip_carriage_return}
use Rattle.std.proofs.lemmas.List.{get_or_append_left, get_or-take, get_or-drop}
use Rattle.std.proofs.lemmas.List.{get_or-replicate, length-take-le, length-replicate}
use Rattle.std.proofs.lemmas.List.Elements.{All-cons}
use Rattle.zorder.specs.Codes.{IsDimension, IsInRange, coordinate_bits}
use Rattle.zorder.specs.Regions.{IsRegion}
use Rattle.pgm_script.specs.declared.script.ScriptKind.{ScriptKind}
use Rattle.pgm_script.specs.declared.script.ScriptLine.{ScriptLine}
use Rattle.pgm_script.specs.declared.fault.Why.{Why}
use Rattle.pgm_script.specs.declared.fault.Why.TheVariants.{NotUtf8}
use Rattle.pgm_script.specs.Words.{words_of}
use Rattle.pgm_script.specs.Commands.{Command, commands_of, corner, region_of, find_command}
use Rattle.pgm_script.specs.Commands.{box_command, near_command, greatest, put_command, del_command}
use Rattle.pgm_script.specs.Commands.{get_command, next_command, count_command, sweep_command}
use Rattle.pgm_script.specs.Scripts.{IsKind, IsLineOf, numbers_of, made, command_reading}
use Rattle.pgm_script.specs.Scripts.{words_reading, line_reading, script_line, script_of}
use Rattle.pgm_script.proofs.LineLemmas.{numbers-most, numbers-count}
use Rattle.pgm_script.proofs.VerbLemmas.{near-coordinate, near-count, of-dimension}

-- whatever numbers a command reads make a line of the kind
abbrev MakesLines : ScriptKind → Command → Type 0
MakesLines asked command = (words : List (List ℕ)) (numbers : List ℕ) →
    numbers_of command.most words ≡ Ok numbers → IsLineOf asked (command.line numbers)

some-bits : (d : ℕ) → IsDimension d → 0 < 2 ^ coordinate_bits d
some-bits = of-dimension (λ d. 0 < 2 ^ coordinate_bits d) (lit< tt) (lit< tt) (lit< tt)

corner-range : (d : ℕ) (numbers : List ℕ) → IsDimension d → d ≤ length numbers →
    ((c : ℕ) → c < d → get_or numbers c 0 ≤ 2 ^ coordinate_bits d - 1) → IsInRange d (corner d numbers)
corner-range d numbers dimension long few = λ c below.
    let front =
    get_or_append_left (take d numbers) (replicate (4 - d) 0) 0 c (omega (arith, length-take-le d numbers long)) in
    let same = get_or-take d numbers c 0 below in
    omega (arith, few c below, some-bits d dimension)

box-makes : (d : ℕ) (words : List (List ℕ)) (numbers : List ℕ) →
    IsDimension d → numbers_of (box_command d).most words ≡ Ok numbers → IsRegion (region_of d numbers)
box-makes d words numbers dimension is =
    let most : List ℕ = (box_command d).most in
    let all = numbers-most most words numbers is in
    let long : length numbers ≡ d + d = numbers-count most words numbers is ∙ length-replicate (d + d) (greatest d) in
    let each : (c : ℕ) → c < d + d → get_or numbers c 0 ≤ greatest d =
    λ c below. omega (
      arith,
      all c (omega (arith, length-replicate (d + d) (greatest d))),
      get_or-replicate (d + d) c (greatest d) 0 below,
    ) in
    record {
      dimension = dimension;
      low = corner-range d numbers dimension (omega arith) (λ c below. each c (omega arith));
      high = corner-range d (drop d numbers) dimension (omega (arith, length-drop d numbers))
          (λ c below. let same = get_or-drop d numbers c 0 in omega (arith, each (d + c) (omega arith)));
    }

near-makes : (d : ℕ) (words : List (List ℕ)) (numbers : List ℕ) →
    IsDimension d → numbers_of (near_command d).most words ≡ Ok numbers → IsInRange d (corner d numbers)
near-makes d words numbers dimension is =
    let all = numbers-most (near_command d).most words numbers is in
    let long = numbers-count (near_command d).most words numbers is in
    corner-range d numbers dimension (omega (arith, near-count d)) (λ c below. near-coordinate d numbers c all below)

-- the first command of a list, or one of the others
found : (asked : ScriptKind) (command : Command) (b : Bool) (other : Option Command) →
    MakesLines asked command → ((c : Command) → other ≡ Some c → MakesLines asked c) →
    (c : Command) → cond b (Some command) other ≡ Some c → MakesLines asked c
found asked command true other here rest c is = let same : command ≡ c = cc in subst (MakesLines asked) same here
found asked command false other here rest c is = rest c is

nothing-found : (asked : ScriptKind) (c : Command) → None ≡ Some c → MakesLines asked c
nothing-found asked c is = cc

commands-make : (asked : ScriptKind) (word : List ℕ) → IsKind asked →
    (c : Command) → find (λ command. bytes_eq word command.word) (commands_of asked) ≡ Some c → MakesLines asked c
commands-make ScriptKind.Find word is =
    found ScriptKind.Find find_command
    (bytes_eq word (codes "find")) None (λ words numbers read. tt) (nothing-found ScriptKind.Find)
commands-make (ScriptKind.Region d) word is =
    found (ScriptKind.Region d) (box_command d) (bytes_eq word (codes "box")) None
    (λ words numbers read. (refl, box-makes d words numbers is read)) (nothing-found (ScriptKind.Region d))
commands-make (ScriptKind.Near d) word is =
    found (ScriptKind.Near d) (near_command d) (bytes_eq word (codes "near")) None
    (λ words numbers read. near-makes d words numbers is read) (nothing-found (ScriptKind.Near d))
commands-make ScriptKind.Replay word is =
    found ScriptKind.Replay put_command (bytes_eq word (codes "put")) _ (λ words numbers read. tt)
    (found ScriptKind.Replay del_command (bytes_eq word (codes "del")) _ (λ words numbers read. tt)
    (found ScriptKind.Replay get_command (bytes_eq word (codes "get")) _ (λ words numbers read. tt)
    (found ScriptKind.Replay next_command (bytes_eq word (codes "next")) _ (λ words numbers read. tt)
    (found ScriptKind.Replay count_command (bytes_eq word (codes "count")) _ (λ words numbers read. tt)
    (found ScriptKind.Replay sweep_command
    (bytes_eq word (codes "sweep")) None (λ words numbers read. tt) (nothing-found ScriptKind.Replay))))))
commands-make ScriptKind.Mix word is =
    found ScriptKind.Mix put_command (bytes_eq word (codes "put")) _ (λ words numbers read. tt)
    (found ScriptKind.Mix del_command (bytes_eq word (codes "del")) _ (λ words numbers read. tt)
    (found ScriptKind.Mix get_command (bytes_eq word (codes "get")) _ (λ words numbers read. tt)
    (found ScriptKind.Mix next_command (bytes_eq word (codes "next")) _ (λ words numbers read. tt)
    (found ScriptKind.Mix count_command
    (bytes_eq word (codes "count")) None (λ words numbers read. tt) (nothing-found ScriptKind.Mix)))))

made-line : (asked : ScriptKind) (command : Command) (r : Result (List ℕ) Why) (line : ScriptLine) →
    ((numbers : List ℕ) → r ≡ Ok numbers → IsLineOf asked (command.line numbers)) →
    made command r ≡ Ok (Some line) → IsLineOf asked line
made-line asked command (Ok numbers) line makes is =
    let same : command.line numbers ≡ line = cc in subst (IsLineOf asked) same (makes numbers refl)
made-line asked command (Err why) line makes is = cc

command-line : (asked : ScriptKind) (o : Option Command) (words : List (List ℕ)) (line : ScriptLine) →
    ((c : Command) → o ≡ Some c → MakesLines asked c) →
    command_reading o words ≡ Ok (Some line) → IsLineOf asked line
command-line asked None words line makes is = cc
command-line asked (Some c) words line makes is =
    made-line asked c (numbers_of c.most words) line (makes c refl words) is

unless-comment : (b : Bool) (r : Result (Option ScriptLine) Why) (line : ScriptLine) →
    (if b then Ok None else r) ≡ Ok (Some line) → r ≡ Ok (Some line)
unless-comment true r line is = cc
unless-comment false r line is = is

where-text : (b : Bool) (r : Result (Option ScriptLine) Why) (why : Why) (line : ScriptLine) →
    (if b then r else Err why) ≡ Ok (Some line) → r ≡ Ok (Some line)
where-text true r why line is = is
where-text false r why line is = cc

words-line : (asked : ScriptKind) (words : List (List ℕ)) (line : ScriptLine) →
    IsKind asked → words_reading asked words ≡ Ok (Some line) → IsLineOf asked line
words-line asked [] line good is = cc
words-line asked (word ∷ words) line good is =
    let command = find (λ command. bytes_eq word command.word) (commands_of asked) in
    command-line asked command words line (commands-make asked word good)
    (unless-comment (eqb (get_or word 0 0) 35) (command_reading command words) line is)

pub line-of-kind : (asked : ScriptKind) (bytes : List ℕ) (line : ScriptLine) →
    IsKind asked → line_reading asked bytes ≡ Ok (Some line) → IsLineOf asked line
line-of-kind asked bytes line good is =
    let words = words_of (strip_carriage_return bytes) in
    words-line asked words line good (where-text (is_utf8 bytes) (words_reading asked words) NotUtf8 line is)

kind-cons : (asked : ScriptKind) (r : Result (Option ScriptLine) Why) (lines : List ScriptLine) →
    ((line : ScriptLine) → r ≡ Ok (Some line) → IsLineOf asked line) → All (IsLineOf asked) lines →
    All (IsLineOf asked) (cons_option (script_line r) lines)
kind-cons asked (Ok None) lines here rest = rest
kind-cons asked (Ok (Some line)) lines here rest = All-cons (IsLineOf asked) line lines (here line refl) rest
kind-cons asked (Err why) lines here rest = rest

pub script-of-kind : (asked : ScriptKind) (lines : List (List ℕ)) →
    IsKind asked → All (IsLineOf asked) (script_of asked lines)
script-of-kind asked [] good = λ k d below. absurd (omega arith)
script-of-kind asked (line ∷ lines) good =
    kind-cons asked (line_reading asked line)
    (script_of asked lines) (λ made read. line-of-kind asked line made good read) (script-of-kind asked lines good)
