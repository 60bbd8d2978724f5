-- Each value that a parse keeps has passed the parser of a rule with its id.
--
-- Main result: where a leaf's level has no fault, its rows are
-- passed (`level_passed`). The walk over the words is followed
-- step by step: a value comes into the rows only by a use of a rule, and a use that its parser refuses is a fault.
use Rattle.std.proofs.Common.{◌≡◌, ◌⊎◌, inl, inr, ℕ, zero, suc, Bool, true, false, cond, ◌&&◌, ◌||◌, List, [], ◌∷◌}
use Rattle.std.proofs.Common.{◌++◌, length, drop, Option, Some, None, is_some, refl, sym, ap, subst, ◌∙◌, arith}
use Rattle.std.specs.Prelude.{⊤, find, fold, slice_get, encode_utf8}
use Rattle.std.specs.List.{list_all}
use Rattle.std.proofs.lemmas.Bool.{eqb-true}
use Rattle.std.specs.Option.{option_map_or}
use Rattle.std.specs.Str.{bytes_eq, chars}
use Rattle.clap.specs.Lexer.{long_of, short_of}
use Rattle.clap.specs.Facts.{parser_of_value, unwrap_or_range}
use Rattle.clap.specs.ValueTests.{accepts}
use Rattle.clap.specs.Kinds.{Kinds, or_else, range_kinds}
use Rattle.clap.specs.Values.{refused_kind}
use Rattle.clap.specs.Walk.{Text, Rule, Row, Held, Names, Outcome, Step, Waiting, Walk, reading_by, action_of}
use Rattle.clap.specs.Walk.{has_row, without, with_values, at_row, more_values, used, used_as, values_or_missing}
use Rattle.clap.specs.Walk.{arg_by_id, arg_by_long, arg_by_short, arg_by_index, settled, settled_rows, used_by_id}
use Rattle.clap.specs.Walk.{reacted, option_met, flag_met, long_met, short_met, bundle_met, bundle_step, bundle}
use Rattle.clap.specs.Walk.{attached_value, takes_values, takes_several, most_values, after_flag, plain_word}
use Rattle.clap.specs.Walk.{option_word, short_or_plain, long_or_other, subcommand_or_other, subcommand_met}
use Rattle.clap.specs.Walk.{word_met, is_pending, positional_held, to_positional, after_step, walked, walked_from}
use Rattle.clap.specs.Walk.{walk, walk_from, nothing_held, with_default, default_rows, rows_after, pushed, is_empty}
use Rattle.clap.specs.Takes.{values_pass}
use Rattle.clap.specs.Simple.{Shape}
use Rattle.clap.specs.Faults.{values_fault, repeat_fault, set_fault, action_fault, use_fault, settle_fault, react_fault}
use Rattle.clap.specs.Faults.{option_fault, long_fault, short_fault, bundle_step_fault, flags_fault, bundle_fault}
use Rattle.clap.specs.Faults.{flag_word_fault, other_fault, word_fault, positional_fault, stray_fault, step_fault}
use Rattle.clap.specs.Faults.{turn_fault, walk_fault, default_fault, given_default_fault, defaults_fault, level_fault}
use Rattle.clap.specs.declared.builder.action.ArgAction.{ArgAction}
use Rattle.clap.specs.declared.builder.action.ArgAction.TheVariants as act
use Rattle.clap.specs.declared.error.kind.ErrorKind.TheVariants as kind
use Rattle.clap.specs.declared.parser.matches.ValueSource.{ValueSource}
use Rattle.clap.specs.declared.parser.matches.ValueSource.TheVariants.{CommandLine, DefaultValue}
use Rattle.command_line.specs.Passed.{SomeRule, IsRowOf, ArePassed}

-- ---- lists of kinds, and of rules

pub quiet : (a b : Kinds) → or_else a b ≡ [] → (a ≡ []) × (b ≡ [])
quiet [] b h = (refl, h)
quiet (k ∷ ks) b h = cc

-- a rule of the list
abbrev pub IsIn : List Rule → Rule → Type 0
IsIn rules a = SomeRule rules (λ b. b ≡ a)

pub some_rule : (rules : List Rule) (P : Rule → Type 0) (a : Rule) → IsIn rules a → P a → SomeRule rules P
some_rule [] P a there p = there
some_rule (b ∷ rest) P a (inl is) p = inl (subst P (sym is) p)
some_rule (b ∷ rest) P a (inr there) p = inr (some_rule rest P a there p)

found : (q : Rule → Bool) (rules : List Rule) (a : Rule) → find q rules ≡ Some a → IsIn rules a
found q [] a h = cc
found q (b ∷ rest) a h = go (q b) h (found q rest a)
  where
    go : (t : Bool) →
        cond t (Some b) (find q rest) ≡ Some a → (find q rest ≡ Some a → IsIn rest a) → SomeRule (b ∷ rest) (λ c. c ≡ a)
    go true h later = let is : b ≡ a = cc in inl is
    go false h later = inr (later h)

-- ---- rows

passed_more : (rules : List Rule) (rows : List Row) (r : Row) →
    ArePassed rules rows → SomeRule rules (IsRowOf r) → ArePassed rules (rows ++ r ∷ [])
passed_more rules [] r passed p = (p, tt)
passed_more rules (x ∷ rows) r passed p = (passed.0, passed_more rules rows r passed.1 p)

no_row : (id : Text) (change : Row → List Row) (missing rows : List Row) →
    has_row id rows ≡ false → at_row id change missing rows ≡ rows ++ missing
no_row id change missing [] none = refl
no_row id change missing (r ∷ rows) none = go (bytes_eq r.id id) none (no_row id change missing rows)
  where
    go : (t : Bool) →
        (t || has_row id rows) ≡ false → (has_row id rows ≡ false → at_row id change missing rows ≡ rows ++ missing) →
        cond t (change r ++ rows) (r ∷ at_row id change missing rows) ≡ r ∷ (rows ++ missing)
    go true h later = cc
    go false h later = ap (λ (rs : List Row). r ∷ rs) (later h)

nil_behind : (rows : List Row) → rows ++ [] ≡ rows
nil_behind [] = refl
nil_behind (r ∷ rows) = ap (λ (rs : List Row). r ∷ rs) (nil_behind rows)

-- a value that is new comes behind the others
new_values : (rules : List Rule) (a : Rule) (source : ValueSource) (values : List Text) (rows : List Row) →
    IsIn rules a → has_row a.id rows ≡ false →
    values_pass a values ≡ true →
    ArePassed rules rows → ArePassed rules (with_values a.id (reading_by a) source values rows)
new_values rules a source values rows there none pass passed =
    subst (ArePassed rules) (sym (no_row a.id (more_values source values) _ rows none))
    (passed_more rules rows _ passed
    (some_rule rules (IsRowOf _) a there (record { id = refl; reading = refl; pass = pass })))

new_used : (rules : List Rule) (a : Rule) (source : ValueSource) (values : List Text) (rows : List Row) →
    IsIn rules a → has_row a.id rows ≡ false →
    values_pass a values ≡ true →
    ArePassed rules rows → ArePassed rules (with_values a.id (reading_by a) source values (without a.id rows))
new_used rules a source values rows there none pass passed =
    subst (λ (rs : List Row). ArePassed rules (with_values a.id (reading_by a) source values rs))
    (sym (no_row a.id (λ _. []) [] rows none ∙ nil_behind rows))
    (new_values rules a source values rows there none pass passed)

-- ---- one use of a rule

accepted : (a : Rule) (vs : List Text) → values_fault a vs ≡ [] → values_pass a vs ≡ true
accepted a [] h = refl
accepted a (v ∷ vs) h = go (accepts a.ignore_case (parser_of_value a.parser) v) h (accepted a vs)
  where
    go : (t : Bool) → or_else (cond t [] (refused_kind (parser_of_value a.parser) ∷ [])) (values_fault a vs) ≡ [] →
        (values_fault a vs ≡ [] → values_pass a vs ≡ true) → (t && values_pass a vs) ≡ true
    go true h later = later h
    go false h later = cc

not_there : (id : Text) (rows : List Row) → repeat_fault false id rows ≡ [] → has_row id rows ≡ false
not_there id rows h = go (has_row id rows) h
  where
    go : (t : Bool) → cond (t && true) (kind.ArgumentConflict ∷ []) [] ≡ [] → t ≡ false
    go true h = cc
    go false h = refl

-- the rule's action sets its values, once
abbrev pub sets : ArgAction → Bool
sets act.Append = false
sets act.Count = false
sets _ = true

abbrev pub all_set : List Rule → Bool
all_set rules = list_all (λ a. sets (action_of a)) rules

sets_one : (rules : List Rule) (a : Rule) → IsIn rules a → all_set rules ≡ true → sets (action_of a) ≡ true
sets_one [] a there all = absurd there
sets_one (b ∷ rest) a there all = go (sets (action_of b)) refl all there (sets_one rest a)
  where
    go : (t : Bool) → sets (action_of b) ≡ t → (t && all_set rest) ≡ true → ((b ≡ a) ⊎ SomeRule rest (λ c. c ≡ a)) →
        (IsIn rest a → all_set rest ≡ true → sets (action_of a) ≡ true) → sets (action_of a) ≡ true
    go true is all (inl same) later = subst (λ (c : Rule). sets (action_of c) ≡ true) same is
    go true is all (inr there) later = later there all
    go false is all there later = cc

-- the use of a rule of the list whose action sets
module _ (rules : List Rule) (all : all_set rules ≡ true) where
  set_passed : (a : Rule) (values : List Text) (rows : List Row) →
      IsIn rules a → set_fault false a values rows ≡ [] → ArePassed rules rows →
      ArePassed rules (with_values a.id (reading_by a) CommandLine values (without a.id rows))
  set_passed a values rows there clean passed =
      let both = quiet (repeat_fault false a.id rows) (values_fault a values) clean in
      new_used rules a CommandLine values rows there (not_there a.id rows both.0) (accepted a values both.1) passed

  acted : (x : ArgAction) (a : Rule) (values : List Text) (rows : List Row) →
      IsIn rules a → sets x ≡ true → action_fault x false a values rows ≡ [] →
      ArePassed rules rows → ArePassed rules (used_as x a.id (reading_by a) values rows)
  acted act.Set a values rows there set clean passed = set_passed a values rows there clean passed
  acted act.SetTrue a values rows there set clean passed = set_passed a values rows there clean passed
  acted act.SetFalse a values rows there set clean passed = set_passed a values rows there clean passed
  acted act.Append a values rows there set clean passed = cc
  acted act.Count a values rows there set clean passed = cc
  acted act.Help a values rows there set clean passed = passed
  acted act.HelpShort a values rows there set clean passed = passed
  acted act.HelpLong a values rows there set clean passed = passed
  acted act.Version a values rows there set clean passed = passed

  used_passed : (a : Rule) (values : List Text) (rows : List Row) →
      IsIn rules a → use_fault false a values rows ≡ [] → ArePassed rules rows →
      ArePassed rules (used a values rows)
  used_passed a values rows there clean passed =
      acted (action_of a) a (values_or_missing a values) rows there (sets_one rules a there all)
      (quiet (range_kinds (unwrap_or_range a.range).start_inclusive (most_values a) (length values))
      (action_fault (action_of a) false a (values_or_missing a values) rows) clean).1 passed

  -- ---- what is held

  by_id : (found_rule : Option Rule) (id : Text) (values : List Text) (rows : List Row) →
      arg_by_id rules id ≡ found_rule →
      option_map_or (λ a. use_fault false a values rows) found_rule [] ≡ [] →
      ArePassed rules rows → ArePassed rules (used_by_id found_rule values rows)
  by_id None id values rows is clean passed = passed
  by_id (Some a) id values rows is clean passed =
      used_passed a values rows (found (λ b. bytes_eq b.id id) rules a is) clean passed

  settled_passed : (pending : Option (Text × List Text)) (rows : List Row) →
      option_map_or (λ p. option_map_or (λ a. use_fault false a p.1 rows) (arg_by_id rules p.0) []) pending [] ≡ [] →
      ArePassed rules rows →
      ArePassed rules (settled_rows rules pending rows)
  settled_passed None rows clean passed = passed
  settled_passed (Some p) rows clean passed = by_id (arg_by_id rules p.0) p.0 p.1 rows refl clean passed

  abbrev IsGood : Held → Type 0
  IsGood h = ArePassed rules h.rows

  settles : (h : Held) → settle_fault rules false h ≡ [] → IsGood h → IsGood (settled rules h)
  settles h clean good = settled_passed h.pending h.rows clean good

  reacts : (a : Rule) (values : List Text) (h : Held) →
      IsIn rules a → react_fault rules false a values h ≡ [] → IsGood h → IsGood (reacted rules a values h)
  reacts a values h there clean good =
      let both = quiet (settle_fault rules false h) (use_fault false a values (settled rules h).rows) clean in
      used_passed a values (settled rules h).rows there both.1 (settles h both.0 good)

  option_good : (a : Rule) (v : Option Text) (h : Held) →
      IsIn rules a → option_fault rules false a v h ≡ [] → IsGood h → IsGood (option_met rules a v h).0
  option_good a None h there clean good = settles h clean good
  option_good a (Some v) h there clean good = reacts a (v ∷ []) h there clean good

  flag_good : (a : Rule) (v : Option Text) (h : Held) → IsIn rules a →
      cond (is_some v) (kind.TooManyValues ∷ []) (react_fault rules false a [] h) ≡ [] →
      IsGood h → IsGood (flag_met rules a v h).0
  flag_good a None h there clean good = reacts a [] h there clean good
  flag_good a (Some v) h there clean good = good

  long_good : (found_rule : Option Rule) (name : Text) (v : Option Text) (h : Held) →
      arg_by_long rules name ≡ found_rule →
      long_fault rules false found_rule v h ≡ [] → IsGood h → IsGood (long_met rules found_rule v h).0
  long_good None name v h is clean good = good
  long_good (Some a) name v h is clean good = go (takes_values a) clean
    where
      there : IsIn rules a
      there = found _ rules a is

      go : (t : Bool) → cond t (option_fault rules false a v h)
          (cond (is_some v) (kind.TooManyValues ∷ []) (react_fault rules false a [] h)) ≡ [] →
          IsGood (cond t (option_met rules a v h) (flag_met rules a v h)).0
      go true clean = option_good a v h there clean good
      go false clean = flag_good a v h there clean good

  short_good : (found_rule : Option Rule)
      (x : ℕ) (rest : Text) (h : Held) (next : Held → Held × Outcome) (next_fault : Held → Kinds) →
      arg_by_short rules x ≡ found_rule → ((k : Held) → next_fault k ≡ [] → IsGood k → IsGood (next k).0) →
      short_fault rules false found_rule rest h next_fault ≡ [] →
      IsGood h → IsGood (short_met rules found_rule rest h next).0
  short_good None x rest h next next_fault is goes clean good = good
  short_good (Some a) x rest h next next_fault is goes clean good = go (takes_values a) clean
    where
      there : IsIn rules a
      there = found _ rules a is

      go : (t : Bool) → cond t (option_fault rules false a (attached_value rest) h)
          (or_else (react_fault rules false a [] h) (next_fault (reacted rules a [] h))) ≡ [] →
          IsGood (cond t (option_met rules a (attached_value rest) h) (next (reacted rules a [] h))).0
      go true clean = option_good a (attached_value rest) h there clean good
      go false clean =
          let both = quiet (react_fault rules false a [] h) (next_fault (reacted rules a [] h)) clean in
          goes (reacted rules a [] h) both.1 (reacts a [] h there both.0 good)

  step_good : (c : Option ℕ)
      (flags : Text) (skip : ℕ) (so_far : Outcome) (h : Held) (next : Text → ℕ → Outcome → Held → Held × Outcome)
      (next_fault : Text → ℕ → Held → Kinds) →
      ((rest : Text) (n : ℕ) (o : Outcome) (k : Held) →
      next_fault rest n k ≡ [] → IsGood k → IsGood (next rest n o k).0) →
      bundle_step_fault rules false c flags skip h next_fault ≡ [] →
      IsGood h → IsGood (bundle_step rules c flags skip so_far h next).0
  step_good None flags skip so_far h next next_fault goes clean good = good
  step_good (Some x) flags zero so_far h next next_fault goes clean good =
      let rest = drop (length (encode_utf8 x)) flags in
      short_good (arg_by_short rules x) x rest h
      (next rest 0 Outcome.done) (next_fault rest 0) refl (goes rest 0 Outcome.done) clean good
  step_good (Some x) flags (suc skip) so_far h next next_fault goes clean good =
      goes (drop (length (encode_utf8 x)) flags) skip so_far h clean good

  bundle_good : (k : ℕ) (flags : Text) (skip : ℕ) (so_far : Outcome) (h : Held) →
      flags_fault rules false k flags skip h ≡ [] → IsGood h →
      IsGood (bundle_met rules k flags skip so_far h).0
  unfolding bundle_met flags_fault
  bundle_good zero flags skip so_far h clean good = good
  bundle_good (suc k) flags skip so_far h clean good =
      step_good (slice_get (chars flags) 0) flags skip so_far h (bundle_met rules k) (flags_fault rules false k)
      (λ rest n o j. bundle_good k rest n o j) clean good

  -- ---- a word

  plain_same : (waiting : Waiting) (word : Text) (h : Held) → (plain_word rules waiting word h).0.rows ≡ h.rows
  plain_same (Waiting.option id) word h = go (arg_by_id rules id)
    where
      go : (o : Option Rule) → (option_word o id word h).0.rows ≡ h.rows
      go None = refl
      go (Some a) = refl
  plain_same Waiting.idle word h = refl
  plain_same Waiting.positional word h = refl

  flag_same : (waiting : Waiting) (word : Text) (h : Held) (o : Outcome) →
      (after_flag rules waiting word h o).0.rows ≡ h.rows
  flag_same waiting word h Outcome.done = refl
  flag_same waiting word h (Outcome.waits id) = refl
  flag_same waiting word h Outcome.plain = plain_same waiting word h
  flag_same waiting word h Outcome.refused = plain_same waiting word h

  same_good : (h k : Held) → k.rows ≡ h.rows → IsGood h → IsGood k
  same_good h k same good = subst (ArePassed rules) (sym same) good

  flag_word_good : (long : Option (Text × Option Text)) (waiting : Waiting) (word : Text) (h : Held) →
      flag_word_fault rules false long word h ≡ [] → IsGood h →
      IsGood (long_or_other rules waiting word long h).0
  flag_word_good (Some p) waiting word h clean good =
      let met = long_met rules (arg_by_long rules p.0) p.1 h in
      same_good met.0 (after_flag rules waiting word met.0 met.1).0
      (flag_same waiting word met.0 met.1) (long_good (arg_by_long rules p.0) p.0 p.1 h refl clean good)
  flag_word_good None waiting word h clean good = go (short_of word) clean
    where
      same : (k : Held) (o : Outcome) → IsGood k → IsGood (after_flag rules waiting word k o).0
      same k o good = same_good k (after_flag rules waiting word k o).0 (flag_same waiting word k o) good

      go : (flags : Option Text) → option_map_or (λ flags. bundle_fault rules false flags h) flags [] ≡ [] →
          IsGood (short_or_plain rules waiting word flags h).0
      go None clean = same_good h (plain_word rules waiting word h).0 (plain_same waiting word h) good
      go (Some flags) clean =
          let met = bundle rules flags h in
          same met.0 met.1 (bundle_good (length flags) flags h.skip Outcome.plain (record h { skip = 0 }) clean good)

-- each rule of a list is in it
abbrev pub AreAllIn : List Rule → List Rule → Type 0
AreAllIn rules [] = ⊤
AreAllIn rules (a ∷ rest) = IsIn rules a × AreAllIn rules rest

in_more : (b : Rule) (rules rest : List Rule) → AreAllIn rules rest → AreAllIn (b ∷ rules) rest
in_more b rules [] there = tt
in_more b rules (a ∷ rest) there = (inr there.0, in_more b rules rest there.1)

pub all_in : (rules : List Rule) → AreAllIn rules rules
all_in [] = tt
all_in (a ∷ rest) = (inl refl, in_more a rest rest (all_in rest))

-- ---- the walk, of a command whose arguments don't replace one another's values
module _ (s : Shape) (names : Names) (once : s.args_override_self ≡ false) (all : all_set s.rules ≡ true) where
  abbrev Good : Held → Type 0
  Good h = ArePassed s.rules h.rows

  other_good : (name : Option Text) (waiting : Waiting) (position : ℕ) (word : Text) (h : Held) →
      other_fault s name word h ≡ [] → Good h →
      Good (subcommand_or_other s.rules name waiting position word h).0
  other_good (Some name) waiting position word h clean good = good
  other_good None waiting position word h clean good = go (bytes_eq word (45 ∷ 45 ∷ [])) clean
    where
      go : (t : Bool) → cond t [] (flag_word_fault s.rules s.args_override_self (long_of word) word h) ≡ [] →
          Good (cond t (h, Step.trailing position) (long_or_other s.rules waiting word (long_of word) h)).0
      go true clean = good
      go false clean = flag_word_good s.rules all (long_of word) waiting word h
          (subst (λ (again : Bool). flag_word_fault s.rules again (long_of word) word h ≡ []) once clean) good

  word_good : (is_trailing : Bool) (waiting : Waiting) (position : ℕ) (word : Text) (h : Held) →
      word_fault s names is_trailing waiting word h ≡ [] → Good h →
      Good (word_met s.rules names is_trailing waiting position word h).0
  word_good true waiting position word h clean good = good
  word_good false waiting position word h clean good =
      other_good (subcommand_met names waiting word) waiting position word h clean good

  positional_good : (a : Rule) (word : Text) (h : Held) →
      positional_fault s.rules s.args_override_self a h ≡ [] → Good h →
      Good (positional_held s.rules a word h)
  positional_good a word h clean good = go (is_pending a h.pending && takes_several a) clean
    where
      go : (t : Bool) → cond t [] (settle_fault s.rules s.args_override_self h) ≡ [] →
          Good (pushed a.id word (cond t h (settled s.rules h)))
      go true clean = good
      go false clean =
          settles s.rules all h (subst (λ (again : Bool). settle_fault s.rules again h ≡ []) once clean) good

  to_good : (found_rule : Option Rule) (word : Text) (w : Walk) (h : Held) →
      option_map_or (λ a. positional_fault s.rules s.args_override_self a h) found_rule (stray_fault s) ≡ [] → Good h →
      Good (to_positional s.rules found_rule word w h).held
  to_good None word w h clean good = good
  to_good (Some a) word w h clean good = positional_good a word h clean good

  after_good : (word : Text) (w : Walk) (h : Held) (step : Step) →
      step_fault s w.position h step ≡ [] → Good h → Good (after_step s.rules word w h step).held
  after_good word w h (Step.next waiting) clean good = good
  after_good word w h (Step.trailing position) clean good = good
  after_good word w h (Step.subcommand name) clean good = good
  after_good word w h Step.value clean good = to_good (arg_by_index s.rules w.position) word w h clean good

  turn_good : (w : Walk) (stopped : Option (Text × List Text)) (word : Text) →
      cond (is_some stopped) [] (or_else (word_fault s names w.is_trailing w.waiting word w.held)
      (step_fault s w.position (word_met s.rules names w.is_trailing w.waiting w.position word w.held).0
      (word_met s.rules names w.is_trailing w.waiting w.position word w.held).1)) ≡ [] →
      Good w.held → Good (walked_from s.rules names stopped w word).held
  turn_good w (Some p) word clean good = good
  turn_good w None word clean good =
      let met = word_met s.rules names w.is_trailing w.waiting w.position word w.held in
      let both =
      quiet (word_fault s names w.is_trailing w.waiting word w.held) (step_fault s w.position met.0 met.1) clean in
      after_good word w met.0 met.1 both.1 (word_good w.is_trailing w.waiting w.position word w.held both.0 good)

  walk_good : (w : Walk) (words : List Text) →
      walk_fault s names w words ≡ [] → Good w.held → Good (fold (walked s.rules names) w words).held
  unfolding walk_fault walked
  walk_good w [] clean good = good
  walk_good w (word ∷ words) clean good =
      let both = quiet (turn_fault s names w word) (walk_fault s names (walked s.rules names w word) words) clean in
      walk_good (walked s.rules names w word) words both.1 (turn_good w w.stopped word both.0 good)

  -- ---- defaults

  given_good : (a : Rule) (values : List Text) (rows : List Row) →
      IsIn s.rules a → has_row a.id rows ≡ false → values_fault a values ≡ [] →
      ArePassed s.rules rows → ArePassed s.rules (default_rows a.id (reading_by a) values rows)
  given_good a [] rows there none clean passed = passed
  given_good a (v ∷ vs) rows there none clean passed =
      new_values s.rules a DefaultValue (v ∷ vs) rows there none (accepted a (v ∷ vs) clean) passed

  no_values_pass : (a : Rule) (values : List Text) → is_empty values ≡ true → values_fault a values ≡ []
  no_values_pass a [] h = refl
  no_values_pass a (v ∷ vs) h = absurd (omega (arith, eqb-true (length (v ∷ vs)) 0 h))

  default_good : (rows : List Row) (a : Rule) →
      IsIn s.rules a → default_fault rows a ≡ [] → ArePassed s.rules rows → ArePassed s.rules (with_default rows a)
  default_good rows a there clean passed = go (has_row a.id rows) refl clean
    where
      given : (t : Bool) →
          is_empty a.defaults ≡ t → cond t [] (given_default_fault a a.defaults) ≡ [] → values_fault a a.defaults ≡ []
      given true empty clean = no_values_pass a a.defaults empty
      given false empty clean = (quiet _ (values_fault a a.defaults) clean).1

      go : (t : Bool) →
          has_row a.id rows ≡ t → cond (t || is_empty a.defaults) [] (given_default_fault a a.defaults) ≡ [] →
          ArePassed s.rules (cond t rows (default_rows a.id (reading_by a) a.defaults rows))
      go true has clean = passed
      go false none clean = given_good a a.defaults rows there none (given (is_empty a.defaults) refl clean) passed

  defaults_good : (rules : List Rule) (rows : List Row) →
      AreAllIn s.rules rules → defaults_fault rows rules ≡ [] → ArePassed s.rules rows →
      ArePassed s.rules (fold with_default rows rules)
  unfolding defaults_fault
  defaults_good [] rows there clean passed = passed
  defaults_good (a ∷ rules) rows there clean passed =
      let both = quiet (default_fault rows a) (defaults_fault (with_default rows a) rules) clean in
      defaults_good rules (with_default rows a) there.1 both.1 (default_good rows a there.0 both.0 passed)

  -- a level that has no fault keeps what passed
  pub level_good : (words : List Text) (has_subcommand : Bool) (below : Kinds) →
      level_fault s names nothing_held words has_subcommand below ≡ [] →
      ArePassed s.rules (rows_after s.rules names words)
  level_good words has_subcommand below clean =
      let end = (walk s.rules names nothing_held words).held in
      let first = quiet (walk_fault s names (walk_from nothing_held) words) _ clean in
      let second = quiet below _ first.1 in
      let third = quiet (settle_fault s.rules s.args_override_self end) _ second.1 in
      let fourth = quiet (defaults_fault (settled s.rules end).rows s.rules) _ third.1 in
      let good : Good end = walk_good (walk_from nothing_held) words first.0 tt in
      defaults_good s.rules (settled s.rules end).rows (all_in s.rules) fourth.0
      (settles s.rules all end (subst (λ (again : Bool). settle_fault s.rules again end ≡ []) once third.0) good)
