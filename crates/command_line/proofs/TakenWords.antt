-- Words that `clap` takes name a command, whose options hold what their parsers let through.
--
-- Main results: what was entered is a command of the definition,
-- with rows that passed (`command_met`), which tells what the
-- options of a name hold (`options_of`), and is a request (`words_ask`).
use Rattle.std.proofs.Common.{◌≡◌, ◌⊎◌, inl, inr, rules, Bool, true, false, not, cond, ◌&&◌, List}
use Rattle.std.proofs.Common.{[], ◌∷◌, Option, Some, None, is_some, refl, sym, ap, ap₂, subst, ◌∙◌}
use Rattle.std.specs.Prelude.{find, map, codes, option_map, option_and_then, ok_or, Err, IsSome}
use Rattle.std.specs.List.{list_all, list_any}
use Rattle.std.specs.Option.{option_map_or}
use Rattle.std.specs.Str.{bytes_eq}
use Rattle.std.proofs.lemmas.Slice.Eq.{bytes_eq-Decides}
use Rattle.clap.proofs.WalkLemmas.{both}
use Rattle.clap.proofs.OnLiterals.{clap_on_literals}
use Rattle.clap.specs.Walk.{Text, Rule, Row, Held, answers_to, finished, nothing_held, settled, walk, walk_from}
use Rattle.clap.specs.Kinds.{check_kinds}
use Rattle.clap.specs.Simple.{App, Shape, argument_words, built, entered, label_of}
use Rattle.clap.specs.Simple.{names_of, rows_at, subcommand_of, is_simple}
use Rattle.clap.specs.Faults.{built_fault, check_fault, defaults_fault, entered_fault}
use Rattle.clap.specs.Faults.{is_simple_and_free, level_fault, settle_fault, walk_fault}
use Rattle.clap.specs.Facts.{explicit_source}
use Rattle.clap.specs.Takes.{is_given}
use Rattle.std.specs.Box.{box_value}
use Rattle.std.specs.Prelude.{Box}
use Rattle.clap.specs.Matches.{found_of, subcommand_name_of}
use Rattle.clap.specs.Simple.{subcommand_rows, subcommand_rows_of}
use Rattle.clap.specs.Walk.{rows_of}
use Rattle.clap.specs.declared.parser.matches.ArgMatches.{ArgMatches}
use Rattle.clap.specs.declared.parser.matches.ArgMatches.TheViews.{out-ArgMatches, out-SubCommand}
use Rattle.clap.specs.declared.parser.matches.SubCommand.{SubCommand}
use Rattle.exact_cross.specs.declared.TheConstants.{MAX_EPSILON}
use Rattle.options.specs.declared.drawing.TheConstants.{MAX_DRAWN, MAX_SEED}
use Rattle.options.specs.declared.index.TheConstants.{MAX_BITS, MAX_PIECES, MAX_WORKERS}
use Rattle.options.specs.declared.map.TheConstants.{MAX_LEVELS, MAX_READERS, MAX_SENDERS}
use Rattle.command_line.specs.declared.request.TheConstants.{MAX_BATCH}
use Rattle.command_line.specs.Commands.{Command, application, commands, request_for}
use Rattle.command_line.specs.declared.request.Request as declared
use Rattle.command_line.specs.Requests.{Request, asked_of}
use Rattle.command_line.specs.Words.{AreTaken, AskFor, request_of}
use Rattle.command_line.specs.Passed.{ArePassed, AreDrillOptions, AreHintOptions, AreIndexOptions}
use Rattle.command_line.specs.Passed.{AreQueryOptions, AreReplayOptions, IsDimensionOption}
use Rattle.command_line.specs.Passed.{IsNarrowOption, IsPiecesOption, IsSendersOption}
use Rattle.command_line.proofs.PassedRows.{all_set, level_good, quiet}
use Rattle.command_line.proofs.OptionReads.{number_reads, flag_reads, takes_numbers, takes_flag}

-- some command of the list does
abbrev pub SomeShape : List Shape → (Shape → Type 0) → Type 0
SomeShape [] P = ⊥
SomeShape (s ∷ rest) P = P s ⊎ SomeShape rest P

-- the arguments of the command set their values, once
abbrev pub sets_once : Shape → Bool
sets_once s = not s.args_override_self && all_set s.rules

-- what was entered is this command
pub record IsOfCommand (p : Text × List Row) (s : Shape) : Type 0 where
  pub name : p.0 ≡ s.name
  pub passed : ArePassed s.rules p.1

module _ (p : Text × List Row) (words : List Text) where
  shape_entered : (s : Shape) →
      sets_once s ≡ true → level_fault s [] nothing_held words false [] ≡ [] → rows_at s words ≡ p → IsOfCommand p s
  shape_entered s once clean is =
      let parts = both (not s.args_override_self) (all_set s.rules) once in
      let here : IsOfCommand (rows_at s words) s =
      record {
        name = refl;
        passed = level_good s [] (is_not s.args_override_self parts.0) parts.1 words false [] clean;
      } in
      subst (λ (q : Text × List Row). IsOfCommand q s) is here
    where
      is_not : (t : Bool) → not t ≡ true → t ≡ false
      is_not true h = cc
      is_not false h = refl

  -- the command that answers to the name
  abbrev Chosen : Text → List Shape → Option Shape
  Chosen name subs = find (λ s. answers_to name (label_of s)) subs

  abbrev IsClean : Option Shape → Type 0
  IsClean o = option_map_or (λ s. level_fault s [] nothing_held words false []) o [] ≡ []

  abbrev Gives : Option Shape → Type 0
  Gives o = option_map (λ s. rows_at s words) o ≡ Some p

  find_entered : (name : Text) (subs : List Shape) →
      list_all sets_once subs ≡ true → IsClean (Chosen name subs) → Gives (Chosen name subs) →
      SomeShape subs (IsOfCommand p)
  find_entered name [] once clean is = cc
  find_entered name (s ∷ rest) once clean is =
      let parts = both (sets_once s) (list_all sets_once rest) once in
      go (answers_to name (label_of s)) parts.0 clean is (find_entered name rest parts.1)
    where
      go : (t : Bool) → sets_once s ≡ true →
          IsClean (cond t (Some s) (Chosen name rest)) → Gives (cond t (Some s) (Chosen name rest)) →
          (IsClean (Chosen name rest) → Gives (Chosen name rest) → SomeShape rest (IsOfCommand p)) →
          SomeShape (s ∷ rest) (IsOfCommand p)
      go true one clean is later = let same : rows_at s words ≡ p = cc in inl (shape_entered s one clean same)
      go false one clean is later = inr (later clean is)

-- of a built command
module _ (a : App) (once : list_all sets_once a.subs ≡ true)
    (required : a.top.subcommand_required ≡ true) (negates : a.top.arg_required_else_help ≡ false) where
  entered_one : (stop : Option (Text × List Text)) (p : Text × List Row) →
      entered_fault a stop ≡ [] → entered a stop ≡ Some p → SomeShape a.subs (IsOfCommand p)
  entered_one None p clean is = cc
  entered_one (Some q) p clean is = find_entered p q.1 q.0 a.subs once clean is

  -- where no command is entered, one is missing
  none_entered : (rows : List Row) (o : Option (Text × List Row)) →
      check_fault a.top rows (is_some o) ≡ [] → o ≡ None → ⊥
  none_entered rows None clean is =
      missing a.top.arg_required_else_help a.top.subcommand_required negates required clean
    where
      missing : (help wanted : Bool) → help ≡ false → wanted ≡ true →
          check_kinds (help && not (list_any (λ r. explicit_source r.source) rows)) wanted
          (not (a.top.subcommand_negates_reqs && false)
          && list_any (λ r. r.required && not (is_given r.id rows)) a.top.rules)
          ≡ [] → ⊥
      missing false true h w bad = cc
      missing true wanted h w bad = cc
      missing false false h w bad = cc
  none_entered rows (Some p) clean is = cc

  abbrev Stop : List Text → Option (Text × List Text)
  Stop words = (walk a.top.rules (names_of a) nothing_held words).stopped

  abbrev Ended : List Text → Held
  Ended words = (walk a.top.rules (names_of a) nothing_held words).held

  fault_parts : (words : List Text) → built_fault a nothing_held words ≡ [] →
      (entered_fault a (Stop words) ≡ [])
      × (check_fault a.top (finished a.top.rules (Ended words)) (is_some (entered a (Stop words))) ≡ [])
  fault_parts words clean =
      let first = quiet (walk_fault a.top (names_of a) (walk_from nothing_held) words) _ clean in
      let second = quiet (entered_fault a (Stop words)) _ first.1 in
      let third = quiet (settle_fault a.top.rules a.top.args_override_self (Ended words)) _ second.1 in
      let fourth = quiet (defaults_fault (settled a.top.rules (Ended words)).rows a.top.rules) _ third.1 in
      (second.0, fourth.1)

-- ---- the commands of the definition

-- a command of the definition
abbrev pub IsCommand : Text × List Row → Type 0
IsCommand p = SomeShape (built application).subs (IsOfCommand p)

-- a command's name is that of no other
abbrev differs : Text → List Shape → Bool
differs name subs = list_all (λ s. not (bytes_eq s.name name)) subs

abbrev are_apart : List Shape → Bool
are_apart [] = true
are_apart (s ∷ rest) = differs s.name rest && are_apart rest

-- the rules of the command of a name
abbrev rules_in : Text → List Shape → List Rule
rules_in name subs = option_map_or (λ s. s.rules) (find (λ s. bytes_eq s.name name) subs) []

none_named : (name : Text) (subs : List Shape) (p : Text × List Row) →
    p.0 ≡ name → differs name subs ≡ true → SomeShape subs (IsOfCommand p) → ⊥
none_named name [] p is apart some = some
none_named name (s ∷ rest) p is apart (inl here) =
    let same : bytes_eq s.name name ≡ true = (bytes_eq-Decides s.name name).1 (sym here.name ∙ is) in
    let other = both (not (bytes_eq s.name name)) (differs name rest) apart in
    absurd (cc (other.0, same))
none_named name (s ∷ rest) p is apart (inr later) =
    none_named name rest p is (both (not (bytes_eq s.name name)) (differs name rest) apart).1 later

passed_in : (name : Text) (subs : List Shape) (p : Text × List Row) →
    p.0 ≡ name → are_apart subs ≡ true → SomeShape subs (IsOfCommand p) → ArePassed (rules_in name subs) p.1
passed_in name [] p is apart some = absurd some
passed_in name (s ∷ rest) p is apart some =
    let parts = both (differs s.name rest) (are_apart rest) apart in
    go (bytes_eq s.name name) refl parts.0 (passed_in name rest p is parts.1) some
  where
    go : (t : Bool) → bytes_eq s.name name ≡ t →
        differs s.name rest ≡ true → (SomeShape rest (IsOfCommand p) → ArePassed (rules_in name rest) p.1) →
        SomeShape (s ∷ rest) (IsOfCommand p) →
        ArePassed (option_map_or (λ s. s.rules) (cond t (Some s) (find (λ s. bytes_eq s.name name) rest)) []) p.1
    go true same apart others (inl here) = here.passed
    go true same apart others (inr later) =
        absurd (none_named s.name rest p (is ∙ sym ((bytes_eq-Decides s.name name).0 same)) apart later)
    go false other apart others (inl here) =
        let same : bytes_eq s.name name ≡ true = (bytes_eq-Decides s.name name).1 (sym here.name ∙ is) in
        absurd (cc (other, same))
    go false other apart others (inr later) = others later

-- the rules of the command of a name, with what they leave out
abbrev pub rules_of : Text → List Rule
rules_of name = rules_in name (built application).subs

all_apart : are_apart (built application).subs ≡ true
unfolding clap_on_literals
all_apart = refl

-- what holds of the rows that pass the rules of the command of this name
abbrev pub Holds : Text → (List Row → Type 0) → Type 0
Holds name P = (rows : List Row) → ArePassed (rules_of name) rows → P rows

index_options : (rules : List Rule) (rows : List Row) →
    (list_all (takes_numbers 0 MAX_EPSILON (codes "eps")) rules ≡ true) →
    (list_all (takes_numbers 0 MAX_EPSILON (codes "rec")) rules ≡ true) →
    (list_all (takes_numbers 1 MAX_WORKERS (codes "workers")) rules ≡ true) →
    (list_all (takes_flag (codes "narrow")) rules ≡ true) →
    ArePassed rules rows → AreIndexOptions rows
index_options rules rows eps eps_rec workers narrow passed = record {
  eps = number_reads rules 0 MAX_EPSILON (codes "eps") rows eps passed;
  eps_rec = number_reads rules 0 MAX_EPSILON (codes "rec") rows eps_rec passed;
  workers = number_reads rules 1 MAX_WORKERS (codes "workers") rows workers passed;
  narrow = flag_reads rules (codes "narrow") rows narrow passed;
}

-- of rules that let these numbers through
replay_options : (rules : List Rule) (rows : List Row) →
    (list_all (takes_numbers 1 MAX_LEVELS (codes "levels")) rules ≡ true) →
    (list_all (takes_numbers 1 MAX_BATCH (codes "batch")) rules ≡ true) →
    (list_all (takes_numbers 0 MAX_READERS (codes "readers")) rules ≡ true) →
    (list_all (takes_numbers 1 MAX_WORKERS (codes "workers")) rules ≡ true) →
    ArePassed rules rows → AreReplayOptions rows
replay_options rules rows levels batch readers workers passed = record {
  levels = number_reads rules 1 MAX_LEVELS (codes "levels") rows levels passed;
  batch = number_reads rules 1 MAX_BATCH (codes "batch") rows batch passed;
  readers = number_reads rules 0 MAX_READERS (codes "readers") rows readers passed;
  workers = number_reads rules 1 MAX_WORKERS (codes "workers") rows workers passed;
}

pub build_options : Holds (codes "build") AreIndexOptions
unfolding clap_on_literals
build_options rows passed = index_options (rules_of (codes "build")) rows refl refl refl refl passed

pub explain_options : Holds (codes "explain") AreIndexOptions
unfolding clap_on_literals
explain_options rows passed = index_options (rules_of (codes "explain")) rows refl refl refl refl passed

pub save_options : Holds (codes "save") AreIndexOptions
unfolding clap_on_literals
save_options rows passed = index_options (rules_of (codes "save")) rows refl refl refl refl passed

pub query_options : Holds (codes "query") (λ rows. AreIndexOptions rows × AreQueryOptions rows)
unfolding clap_on_literals
query_options rows passed = (
  index_options (rules_of (codes "query")) rows refl refl refl refl passed,
  record {
    windows = flag_reads (rules_of (codes "query")) (codes "windows") rows refl passed;
    buckets = number_reads (rules_of (codes "query")) 0 MAX_BITS (codes "buckets") rows refl passed;
  },
)

pub relax_options : Holds (codes "relax") (λ rows. AreIndexOptions rows × IsPiecesOption rows)
unfolding clap_on_literals
relax_options rows passed = (
  index_options (rules_of (codes "relax")) rows refl refl refl refl passed,
  number_reads (rules_of (codes "relax")) 1 MAX_PIECES (codes "pieces") rows refl passed,
)

pub box_options : Holds (codes "box") IsDimensionOption
unfolding clap_on_literals
box_options rows passed = number_reads (rules_of (codes "box")) 2 4 (codes "dims") rows refl passed

pub near_options : Holds (codes "near") IsDimensionOption
unfolding clap_on_literals
near_options rows passed = number_reads (rules_of (codes "near")) 2 4 (codes "dims") rows refl passed

pub replaying_options : Holds (codes "replay") AreReplayOptions
unfolding clap_on_literals
replaying_options rows passed = replay_options (rules_of (codes "replay")) rows refl refl refl refl passed

pub mix_options : Holds (codes "mix") (λ rows. AreReplayOptions rows × IsSendersOption rows)
unfolding clap_on_literals
mix_options rows passed = (
  replay_options (rules_of (codes "mix")) rows refl refl refl refl passed,
  number_reads (rules_of (codes "mix")) 1 MAX_SENDERS (codes "senders") rows refl passed,
)

pub hint_options : Holds (codes "hints") AreHintOptions
unfolding clap_on_literals
hint_options rows passed = record {
  eps = number_reads (rules_of (codes "hints")) 0 MAX_EPSILON (codes "eps") rows refl passed;
  narrow = flag_reads (rules_of (codes "hints")) (codes "narrow") rows refl passed;
}

pub find_options : Holds (codes "find") IsNarrowOption
unfolding clap_on_literals
find_options rows passed = flag_reads (rules_of (codes "find")) (codes "narrow") rows refl passed

pub drill_options : Holds (codes "drill") AreDrillOptions
unfolding clap_on_literals
drill_options rows passed = record {
  number = number_reads (rules_of (codes "drill")) 1 MAX_DRAWN (codes "N") rows refl passed;
  seed = number_reads (rules_of (codes "drill")) 0 MAX_SEED (codes "SEED") rows refl passed;
  eps = number_reads (rules_of (codes "drill")) 0 MAX_EPSILON (codes "eps") rows refl passed;
  eps_rec = number_reads (rules_of (codes "drill")) 0 MAX_EPSILON (codes "rec") rows refl passed;
  workers = number_reads (rules_of (codes "drill")) 1 MAX_WORKERS (codes "workers") rows refl passed;
}

pub check_options : Holds (codes "check") IsNarrowOption
unfolding clap_on_literals
check_options rows passed = flag_reads (rules_of (codes "check")) (codes "narrow") rows refl passed

once_all : list_all sets_once (built application).subs ≡ true
unfolding clap_on_literals
once_all = refl

pub command_met : (words : List Text) (p : Text × List Row) →
    AreTaken words → subcommand_of application words ≡ Some p → IsCommand p
command_met words p taken is =
    let parts = fault_parts (built application) once_all refl refl (argument_words application words) taken in
    (entered_one (built application) once_all refl refl
    (Stop (built application) once_all refl refl (argument_words application words)) p parts.0 is)

-- some name of the list is that of the command
abbrev IsAmong : Text → List Text → Type 0
IsAmong name [] = ⊥
IsAmong name (n ∷ rest) = (name ≡ n) ⊎ IsAmong name rest

named_among : (subs : List Shape) (p : Text × List Row) →
    SomeShape subs (IsOfCommand p) → IsAmong p.0 (map (λ s. s.name) subs)
named_among [] p some = some
named_among (s ∷ rest) p (inl here) = inl here.name
named_among (s ∷ rest) p (inr later) = inr (named_among rest p later)

found_among : (name : Text) (rows : List Command) →
    IsAmong name (map (λ c. c.name) rows) → (c : Command) × (find (λ c. bytes_eq name c.name) rows ≡ Some c)
found_among name [] some = absurd some
found_among name (c ∷ rest) some = go (bytes_eq name c.name) refl (found_among name rest) some
  where
    go : (t : Bool) → bytes_eq name c.name ≡ t →
        (IsAmong name (map (λ c. c.name) rest) →
        (found : Command) × (find (λ c. bytes_eq name c.name) rest ≡ Some found)) →
        IsAmong name (map (λ c. c.name) (c ∷ rest)) →
        (found : Command) × (cond t (Some c) (find (λ c. bytes_eq name c.name) rest) ≡ Some found)
    go true same others _ = (c, refl)
    go false other others (inl is) =
        let same : bytes_eq name c.name ≡ true = (bytes_eq-Decides name c.name).1 is in absurd (cc (other, same))
    go false other others (inr later) = others later

same_names : map (λ s. s.name) (built application).subs ≡ map (λ c. c.name) commands
unfolding clap_on_literals
same_names = refl

asks : (p : Text × List Row) → IsCommand p → (request : Request) × (request_for p.0 p.1 ≡ Some request)
asks p is =
    let among = subst (IsAmong p.0) same_names (named_among (built application).subs p is) in
    let found = found_among p.0 commands among in
    (_, ap (option_map (λ c. c.asks p.1)) found.1)

pub words_ask : (words : List Text) → AreTaken words → (request : Request) × AskFor words request
words_ask words taken = go (subcommand_of application words) refl
  where
    go : (o : Option (Text × List Row)) →
        subcommand_of application words ≡ o → (request : Request) × AskFor words request
    go None none =
        let parts = fault_parts (built application) once_all refl refl (argument_words application words) taken in
        let a = built application in
        let rows = finished a.top.rules (Ended a once_all refl refl (argument_words application words)) in
        absurd (none_entered a once_all refl refl rows (subcommand_of application words) parts.1 none)
    go (Some p) some =
        let request = asks p (command_met words p taken some) in
        (request.0, record { taken = taken; asks = ap (option_and_then (λ q. request_for q.0 q.1)) some ∙ request.1 })

-- ---- what the program's function for it is handed

-- the command and its rows, as the getter tells them
both_told : {Z : Type 0} (o : Option (Box SubCommand Z)) (name : Text) (rows : List Row) →
    Some name ≡ option_map (λ b. (out-SubCommand (box_value b)).name.now) o →
    Some rows ≡ option_map (λ p. p.1) (subcommand_rows o) →
    subcommand_rows o ≡ Some (name, rows)
both_told None name rows named found = cc
both_told (Some b) name rows named found =
    let same_name : name ≡ (out-SubCommand (box_value b)).name.now = cc in
    let same_rows : rows ≡ rows_of (found_of (out-SubCommand (box_value b)).matches) = cc in
    ap₂ (λ (n : Text) (r : List Row). Some (n, r)) (sym same_name) (sym same_rows)

pub met_rows : (m : ArgMatches) (name : Text) (rows : List Row) →
    Some name ≡ subcommand_name_of m → Some rows ≡ option_map (λ p. p.1) (subcommand_rows_of m) →
    subcommand_rows_of m ≡ Some (name, rows)
met_rows m name rows named found = both_told (out-ArgMatches m).subcommand name rows named found

-- what the options of the command of a name hold, by the name that was asked for
pub options_of : {P : List Row → Type 0} (p : Text × List Row) (asked : Text) →
    Holds asked P → IsCommand p → bytes_eq p.0 asked ≡ true → P p.1
options_of p asked holds is same =
    holds p.1 (passed_in asked (built application).subs p ((bytes_eq-Decides p.0 asked).0 same) all_apart is)

-- words that are taken are never refused for their command
pub never_refused : {E : Type 0} (words : List Text) (found : Option declared.Request) (e : E) →
    AreTaken words → option_map asked_of found ≡ request_of words →
    ok_or found e ≡ Err e → ⊥
never_refused words None e taken is refused =
    let request = words_ask words taken in
    let none : None ≡ Some request.0 = is ∙ request.1.asks in
    cc
never_refused words (Some request) e taken is refused = cc

pub is_simple_application : is_simple application ≡ true
unfolding clap_on_literals
is_simple_application = refl

pub is_free_application : is_simple_and_free application ≡ true
unfolding clap_on_literals
is_free_application = refl

pub some_request : (words : List Text) → AreTaken words → IsSome (request_of words)
some_request words taken =
    let request = words_ask words taken in subst (λ (o : Option Request). IsSome o) (sym request.1.asks) (search rules)
