-- A text is read line by line: what is said of the lines so far, and what the lines so far and the rest are.
use Rattle.std.proofs.Common.{◌≡◌, ◌⊎◌, ℕ, zero, suc, ◌+◌, ◌<◌, List, [], ◌∷◌, ◌++◌, length}
use Rattle.std.proofs.Common.{get_or, refl, sym, ap, ◌∙◌, subst, append_assoc, length-append}
use Rattle.std.proofs.Common.{arith, Option, Some, None, Result, Ok, Err, IsOk, inl, inr, ⊎_elim}
use Rattle.std.specs.List.{cons_option}
use Rattle.std.proofs.lemmas.Bool.{cases_lt, false≢true}
use Rattle.std.proofs.lemmas.List.{append-nil, get_or_append_left, get_or-append-add, nil_from_length}
use Rattle.std.proofs.lemmas.List.Elements.{All-append, All-cons, filter_map-append}
use Rattle.pgm_script.specs.declared.script.ScriptKind.{ScriptKind}
use Rattle.pgm_script.specs.declared.script.ScriptLine.{ScriptLine}
use Rattle.pgm_script.specs.declared.fault.ScriptFault.{ScriptFault}
use Rattle.pgm_script.specs.declared.fault.ScriptFault.TheVariants.{At, ReadFault, TooLong, NoMemory}
use Rattle.pgm_script.specs.declared.fault.Why.{Why}
use Rattle.pgm_script.specs.Words.{lines_of}
use Rattle.pgm_script.specs.Scripts.{line_reading, script_line, script_of, AreGood}
use Rattle.pgm_script.specs.Scripts.{IsFirstFault, ReadsAs, HasOneReading}

good-one : (asked : ScriptKind) (line : List ℕ) → IsOk (line_reading asked line) → AreGood asked (line ∷ [])
good-one asked line good zero d below = good
good-one asked line good (suc k) d below = absurd (omega arith)

-- the lines so far are good, and give the lines of the script so far
pub record IsUnderWay (asked : ScriptKind) (text rest : List ℕ) (lines : List ScriptLine) (number : ℕ) : Type 0 where
  pub before : List (List ℕ)
  pub parts : lines_of text ≡ before ++ lines_of rest
  pub good : AreGood asked before
  pub made : lines ≡ script_of asked before
  pub place : number ≡ length before

ok-is : (r : Result (Option ScriptLine) Why) (line : Option ScriptLine) → r ≡ Ok line → IsOk r
ok-is r line is = let P : Result (Option ScriptLine) Why → Type 0 = λ r. IsOk r in subst P (sym is) refl

more : (asked : ScriptKind) (text rest after line : List ℕ)
    (lines lines' : List ScriptLine) (number : ℕ) (made : Option ScriptLine) → IsUnderWay asked text rest lines number →
    lines_of rest ≡ line ∷ lines_of after → line_reading asked line ≡ Ok made →
    lines' ≡ lines ++ cons_option made [] → IsUnderWay asked text after lines' (number + 1)
more asked text rest after line lines lines' number made so_far cut reading is = record {
  before = so_far.before ++ line ∷ [];
  parts = so_far.parts ∙ ap (λ (w : List (List ℕ)). so_far.before ++ w) cut
      ∙ sym (append_assoc so_far.before (line ∷ []) (lines_of after));
  good = All-append (λ line. IsOk (line_reading asked line)) so_far.before
      (line ∷ []) so_far.good (good-one asked line (ok-is _ made reading));
  made = is ∙ ap (λ (w : List ScriptLine). w ++ cons_option made []) so_far.made
      ∙ ap (λ (r : Result (Option ScriptLine) Why). script_of asked so_far.before ++ cons_option (script_line r) [])
      (sym reading)
      ∙ sym (filter_map-append (λ line. script_line (line_reading asked line)) so_far.before (line ∷ []));
  place = omega (arith, so_far.place, length-append so_far.before (line ∷ []));
}

pub under-way-skip : (asked : ScriptKind) (text rest after line : List ℕ) (lines : List ScriptLine) (number : ℕ) →
    IsUnderWay asked text rest lines number →
    lines_of rest ≡ line ∷ lines_of after →
    line_reading asked line ≡ Ok None → IsUnderWay asked text after lines (number + 1)
under-way-skip asked text rest after line lines number so_far cut reading =
    more asked text rest after line lines lines number None so_far cut reading (sym (append-nil lines))

pub under-way-push : (asked : ScriptKind) (text rest after line : List ℕ)
    (lines lines' : List ScriptLine) (number : ℕ) (made : ScriptLine) → IsUnderWay asked text rest lines number →
    lines_of rest ≡ line ∷ lines_of after → line_reading asked line ≡ Ok (Some made) →
    lines' ≡ lines ++ made ∷ [] → IsUnderWay asked text after lines' (number + 1)
under-way-push asked text rest after line lines lines' number made so_far cut reading is =
    more asked text rest after line lines lines' number (Some made) so_far cut reading is

pub under-way-fault : (asked : ScriptKind) (text rest after line : List ℕ)
    (lines : List ScriptLine) (number at : ℕ) (why : Why) → IsUnderWay asked text rest lines number →
    lines_of rest ≡ line ∷ lines_of after →
    line_reading asked line ≡ Err why → at ≡ number + 1 → IsFirstFault asked text at why
under-way-fault asked text rest after line lines number at why so_far cut reading is = record {
  before = so_far.before;
  line = line;
  after = lines_of after;
  lines = so_far.parts ∙ ap (λ (w : List (List ℕ)). so_far.before ++ w) cut;
  good = so_far.good;
  place = omega (arith, is, so_far.place);
  wrong = reading;
}

pub under-way-end : (asked : ScriptKind) (text rest : List ℕ) (lines : List ScriptLine) (number : ℕ) →
    IsUnderWay asked text rest lines number → length rest ≡ 0 → ReadsAs asked text (Ok lines)
under-way-end asked text rest lines number so_far none =
    let all : lines_of text ≡ so_far.before = so_far.parts
    ∙ ap (λ (w : List ℕ). so_far.before ++ lines_of w) (nil_from_length rest none) ∙ append-nil so_far.before in
    (subst (AreGood asked) (sym all) so_far.good, so_far.made ∙ ap (script_of asked) (sym all))

not-ok : (r : Result (Option ScriptLine) Why) (why : Why) → r ≡ Err why → IsOk r → ⊥
not-ok r why is good = let P : Result (Option ScriptLine) Why → Type 0 = λ r. IsOk r in
    let none = subst P is good in absurd (false≢true none)

-- a line that is good isn't the first fault
good-clash : (asked : ScriptKind) (lines before : List (List ℕ)) (line : List ℕ) (after good : List (List ℕ))
    (others : List (List ℕ)) (why : Why) → lines ≡ before ++ line ∷ after → lines ≡ good ++ others →
    AreGood asked good → length before < length good → line_reading asked line ≡ Err why → ⊥
good-clash asked lines before line after good others why one two all below wrong =
    let here : get_or good (length before) [] ≡ line =
    sym (get_or_append_left good others [] (length before) below)
    ∙ ap (λ (w : List (List ℕ)). get_or w (length before) []) (sym two ∙ one)
    ∙ ap (λ (n : ℕ). get_or (before ++ line ∷ after) n [])
    (let e : length before ≡ length before + 0 = omega arith in e) ∙ get_or-append-add before (line ∷ after) 0 [] in
    not-ok (line_reading asked line) why wrong
    (subst (λ (l : List ℕ). IsOk (line_reading asked l)) here (all (length before) [] below))

same-line : (lines before before' : List (List ℕ)) (line line' : List ℕ) (after after' : List (List ℕ)) →
    lines ≡ before ++ line ∷ after → lines ≡ before' ++ line' ∷ after' → length before ≡ length before' → line ≡ line'
same-line lines before before' line line' after after' one two same =
    sym (get_or-append-add before (line ∷ after) 0 [])
    ∙ ap (λ (w : List (List ℕ)). get_or w (length before + 0) []) (sym one ∙ two)
    ∙ ap (λ (n : ℕ). get_or (before' ++ line' ∷ after') (n + 0) []) same
    ∙ get_or-append-add before' (line' ∷ after') 0 []

first-fault-is : (asked : ScriptKind) (text : List ℕ) (at at' : ℕ) (why why' : Why) →
    IsFirstFault asked text at why → IsFirstFault asked text at' why' → (at ≡ at') × (why ≡ why')
first-fault-is asked text at at' why why' one two =
    ⊎_elim
    (λ less. absurd (good-clash asked (lines_of text) one.before one.line one.after two.before
    (two.line ∷ two.after) why one.lines two.lines two.good less one.wrong))
    (λ rest. ⊎_elim
    (λ less. absurd (good-clash asked (lines_of text) two.before two.line two.after one.before
    (one.line ∷ one.after) why' two.lines one.lines one.good less two.wrong))
    (λ more.
    let same : length one.before ≡ length two.before = omega arith in
    let line = same-line
    (lines_of text) one.before two.before one.line two.line one.after two.after one.lines two.lines same in
    let wrong : Err why ≡ Err why' = sym one.wrong ∙ ap (line_reading asked) line ∙ two.wrong in
    let place : at ≡ at' = omega (arith, one.place, two.place) in
    (place, cc))
    (cases_lt (length two.before) (length one.before)))
    (cases_lt (length one.before) (length two.before))

good-fault : (asked : ScriptKind) (text : List ℕ) (at : ℕ) (why : Why) →
    AreGood asked (lines_of text) → IsFirstFault asked text at why → ⊥
good-fault asked text at why all fault =
    good-clash asked (lines_of text) fault.before fault.line fault.after
    (lines_of text) [] why fault.lines (sym (append-nil (lines_of text))) all
    (omega (arith, ap length fault.lines, length-append fault.before (fault.line ∷ fault.after))) fault.wrong

pub one-reading : (asked : ScriptKind) (text : List ℕ) (a b : Result (List ScriptLine) ScriptFault) →
    ReadsAs asked text a → ReadsAs asked text b → a ≡ b
one-reading asked text (Ok xs) (Ok ys) one two = ap Ok (one.1 ∙ sym two.1)
one-reading asked text (Ok xs) (Err (At line why)) one two = absurd (good-fault asked text line why one.0 two)
one-reading asked text (Ok xs) (Err ReadFault) one two = absurd two
one-reading asked text (Ok xs) (Err (TooLong got)) one two = absurd two
one-reading asked text (Ok xs) (Err NoMemory) one two = absurd two
one-reading asked text (Err (At line why)) (Ok ys) one two = absurd (good-fault asked text line why two.0 one)
one-reading asked text (Err (At line why)) (Err (At line' why')) one two =
    let same = first-fault-is asked text line line' why why' one two in let p = same.0 in let q = same.1 in cc
one-reading asked text (Err (At line why)) (Err ReadFault) one two = absurd two
one-reading asked text (Err (At line why)) (Err (TooLong got)) one two = absurd two
one-reading asked text (Err (At line why)) (Err NoMemory) one two = absurd two
one-reading asked text (Err ReadFault) b one two = absurd one
one-reading asked text (Err (TooLong got)) b one two = absurd one
one-reading asked text (Err NoMemory) b one two = absurd one

record FirstWrong (asked : ScriptKind) (lines : List (List ℕ)) : Type 0 where
  before : List (List ℕ)
  line : List ℕ
  after : List (List ℕ)
  why : Why
  parts : lines ≡ before ++ line ∷ after
  good : AreGood asked before
  wrong : line_reading asked line ≡ Err why

ok-or-wrong : (r : Result (Option ScriptLine) Why) → IsOk r ⊎ ((why : Why) × (r ≡ Err why))
ok-or-wrong (Ok line) = inl refl
ok-or-wrong (Err why) = inr (why, refl)

search-wrong : (asked : ScriptKind) (lines : List (List ℕ)) → AreGood asked lines ⊎ FirstWrong asked lines
search-wrong asked [] = inl (λ k d below. absurd (omega arith))
search-wrong asked (line ∷ lines) =
    ⊎_elim
    (λ here. ⊎_elim
    (λ rest. inl (All-cons (λ line. IsOk (line_reading asked line)) line lines here rest))
    (λ first. inr (record {
      before = line ∷ first.before;
      line = first.line;
      after = first.after;
      why = first.why;
      parts = ap (λ (w : List (List ℕ)). line ∷ w) first.parts;
      good = All-cons (λ line. IsOk (line_reading asked line)) line first.before here first.good;
      wrong = first.wrong;
    }))
    (search-wrong asked lines))
    (λ wrong. inr (record {
      before = [];
      line = line;
      after = lines;
      why = wrong.0;
      parts = refl;
      good = λ k d below. absurd (omega arith);
      wrong = wrong.1;
    }))
    (ok-or-wrong (line_reading asked line))

some-reading : (asked : ScriptKind) (text : List ℕ) →
    (reading : Result (List ScriptLine) ScriptFault) × ReadsAs asked text reading
some-reading asked text =
    ⊎_elim
    (λ good. (Ok (script_of asked (lines_of text)), (good, refl)))
    (λ first. (
      Err (At (length first.before + 1) first.why),
      record {
        before = first.before;
        line = first.line;
        after = first.after;
        lines = first.parts;
        good = first.good;
        place = refl;
        wrong = first.wrong;
      },
    ))
    (search-wrong asked (lines_of text))

pub has-one-reading : (asked : ScriptKind) (text : List ℕ) → HasOneReading asked text
has-one-reading asked text =
    let some = some-reading asked text in
    record { reading = some.0; is_one = some.1; only = λ other reads. one-reading asked text other some.0 reads some.1 }
