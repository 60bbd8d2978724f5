-- What a getter reads of rows that passed: a number of its range, or a flag.
use Rattle.std.proofs.Common.{◌≡◌, ◌⊎◌, inl, inr, ℕ, Bool, true, false, not, cond, ◌&&◌, ◌||◌}
use Rattle.std.proofs.Common.{◌==◌, List, [], ◌∷◌, Option, Some, None, refl, sym, ap, subst, ◌∙◌}
use Rattle.std.specs.Prelude.{find, slice_get, pos, codes, option_map, option_and_then}
use Rattle.std.specs.List.{list_all}
use Rattle.std.specs.Str.{bytes_eq}
use Rattle.std.proofs.lemmas.Bool.{eqb-true}
use Rattle.std.proofs.lemmas.Slice.Eq.{bytes_eq-Decides}
use Rattle.clap.specs.Lexer.{without_minus}
use Rattle.clap.specs.Facts.{parser_of_value}
use Rattle.clap.specs.Values.{Accepts, IsSignedIn, read_as, reading_of}
use Rattle.clap.specs.Walk.{Text, Rule, Row, one_of, row_text, reading_by}
use Rattle.clap.specs.Takes.{values_pass, value_passes}
use Rattle.clap.specs.declared.builder.value_parser.Reading.{Reading}
use Rattle.clap.specs.declared.builder.value_parser.ValueParser.{ValueParser}
use Rattle.clap.specs.declared.builder.value_parser.ValueParser.TheVariants as parser
use Rattle.clap.proofs.ValueTestLemmas.{accepts-Accepts}
use Rattle.clap.proofs.WalkLemmas.{both}
use Rattle.command_line.specs.Passed.{SomeRule, IsRowOf, ArePassed, IsNumberIn, IsFlag}

-- a fact of each rule meets one of some rule
pub some_gives : (rules : List Rule) (P : Rule → Type 0) (q : Rule → Bool) (C : Type 0) →
    list_all q rules ≡ true → SomeRule rules P →
    ((a : Rule) → P a → q a ≡ true → C) → C
some_gives [] P q C all there gives = absurd there
some_gives (a ∷ rest) P q C all (inl here) gives = gives a here (both (q a) (list_all q rest) all).0
some_gives (a ∷ rest) P q C all (inr there) gives =
    some_gives rest P q C (both (q a) (list_all q rest) all).1 there gives

-- the row of an id is some rule's
row_found : (rules : List Rule) (id : Text) (rows : List Row) (r : Row) →
    ArePassed rules rows → find (λ x. bytes_eq x.id id) rows ≡ Some r →
    (r.id ≡ id) × SomeRule rules (IsRowOf r)
row_found rules id [] r passed is = cc
row_found rules id (x ∷ rows) r passed is = go (bytes_eq x.id id) refl is (row_found rules id rows r passed.1)
  where
    go : (t : Bool) → bytes_eq x.id id ≡ t → cond t (Some x) (find (λ y. bytes_eq y.id id) rows) ≡ Some r →
        (find (λ y. bytes_eq y.id id) rows ≡ Some r → (r.id ≡ id) × SomeRule rules (IsRowOf r)) →
        (r.id ≡ id) × SomeRule rules (IsRowOf r)
    go true same is later =
        let one : x ≡ r = cc in
        subst (λ (y : Row). (y.id ≡ id) × SomeRule rules (IsRowOf y)) one ((bytes_eq-Decides x.id id).0 same, passed.0)
    go false other is later = later is

-- the text that a getter reads is that of a value which passed
pub record IsRead (id text : Text) (a : Rule) : Type 0 where
  pub id_is : bytes_eq a.id id ≡ true
  pub value : Text
  pub text_is : text ≡ read_as (reading_by a) value
  pub passes : value_passes a value ≡ true

first_read : (id text : Text) (how : Reading) (values : List Text) (a : Rule) →
    how ≡ reading_by a → bytes_eq a.id id ≡ true → values_pass a values ≡ true →
    option_map (read_as how) (slice_get values 0) ≡ Some text → IsRead id text a
first_read id text how [] a reading same pass is = cc
first_read id text how (v ∷ vs) a reading same pass is = record {
  id_is = same;
  value = v;
  text_is = (let read : read_as how v ≡ text = cc in sym read ∙ ap (λ (r : Reading). read_as r v) reading);
  passes = (both (value_passes a v) (values_pass a vs) pass).0;
}

row_read : (rules : List Rule) (id text : Text) (r : Row) →
    r.id ≡ id → SomeRule rules (IsRowOf r) → row_text r ≡ Some text → SomeRule rules (IsRead id text)
row_read [] id text r is there reads = there
row_read (a ∷ rest) id text r is (inl here) reads =
    inl (first_read id text r.reading r.values a here.reading
    ((bytes_eq-Decides a.id id).1 (sym here.id ∙ is)) here.pass reads)
row_read (a ∷ rest) id text r is (inr there) reads = inr (row_read rest id text r is there reads)

pub reads : (rules : List Rule) (id text : Text) (rows : List Row) →
    ArePassed rules rows → one_of id rows ≡ Some text → SomeRule rules (IsRead id text)
reads rules id text rows passed is = go (find (λ x. bytes_eq x.id id) rows) refl is
  where
    go : (o : Option Row) →
        find (λ x. bytes_eq x.id id) rows ≡ o → option_and_then row_text o ≡ Some text → SomeRule rules (IsRead id text)
    go None none is = cc
    go (Some r) some is =
        let row = row_found rules id rows r passed some in
        row_read rules id text r row.0 row.1 is

-- ---- numbers

-- each rule of the id takes numbers of this range
abbrev pub is_range : (low high : ℕ) → Option ValueParser → Bool
is_range low high (Some (parser.Signed (pos l) (pos h))) = (l == low) && (h == high)
is_range low high _ = false

abbrev pub takes_numbers : (low high : ℕ) → Text → Rule → Bool
takes_numbers low high id a = not (bytes_eq a.id id) || is_range low high a.parser

range_is : (low high : ℕ) (p : Option ValueParser) →
    is_range low high p ≡ true → p ≡ Some (parser.Signed (pos low) (pos high))
range_is low high (Some (parser.Signed (pos l) (pos h))) is =
    let parts = both (l == low) (h == high) is in
    let low_is : l ≡ low = eqb-true l low parts.0 in
    let high_is : h ≡ high = eqb-true h high parts.1 in
    ap (λ (n : ℕ). Some (parser.Signed (pos n) (pos h))) low_is
    ∙ ap (λ (n : ℕ). Some (parser.Signed (pos low) (pos n))) high_is
range_is low high _ is = cc

number_of : (low high : ℕ) (id text : Text) (a : Rule) → IsRead id text a → takes_numbers low high id a ≡ true →
    (written : Text) × (text ≡ without_minus written) × IsSignedIn (pos low) (pos high) written
number_of low high id text a read takes =
    let ranged : is_range low high a.parser ≡ true = ranged_by (bytes_eq a.id id) read.id_is takes in
    let is = range_is low high a.parser ranged in
    let how : reading_by a ≡ reading_of (parser.Signed (pos low) (pos high)) =
    ap (λ (p : Option ValueParser). reading_of (parser_of_value p)) is in
    let accepted = accepts-Accepts a.ignore_case (parser_of_value a.parser) read.value read.passes in (
      read.value,
      read.text_is ∙ ap (λ (r : Reading). read_as r read.value) how,
      subst (λ (p : Option ValueParser). Accepts a.ignore_case (parser_of_value p) read.value) is accepted,
    )
  where
    ranged_by : (t : Bool) → t ≡ true → (not t || is_range low high a.parser) ≡ true → is_range low high a.parser ≡ true
    ranged_by true same takes = takes
    ranged_by false other takes = cc

pub number_reads : (rules : List Rule) (low high : ℕ) (id : Text) (rows : List Row) →
    list_all (takes_numbers low high id) rules ≡ true → ArePassed rules rows →
    IsNumberIn low high id rows
number_reads rules low high id rows all passed text is =
    some_gives rules (IsRead id text)
    (takes_numbers low high id) _ all (reads rules id text rows passed is) (number_of low high id text)

-- ---- flags

abbrev pub is_switch : Option ValueParser → Bool
is_switch (Some parser.Bool) = true
is_switch _ = false

abbrev pub takes_flag : Text → Rule → Bool
takes_flag id a = not (bytes_eq a.id id) || is_switch a.parser

switch_is : (p : Option ValueParser) → is_switch p ≡ true → p ≡ Some parser.Bool
switch_is (Some parser.Bool) is = refl
switch_is _ is = cc

flag_of : (id text : Text) (a : Rule) →
    IsRead id text a → takes_flag id a ≡ true → (text ≡ codes "true") ⊎ (text ≡ codes "false")
flag_of id text a read takes =
    let is = switch_is a.parser (switched_by (bytes_eq a.id id) read.id_is takes) in
    let how : reading_by a
    ≡ reading_of parser.Bool = ap (λ (p : Option ValueParser). reading_of (parser_of_value p)) is in
    let text_is : text ≡ read.value = read.text_is ∙ ap (λ (r : Reading). read_as r read.value) how in
    let accepted : Accepts a.ignore_case parser.Bool read.value =
    subst (λ (p : Option ValueParser). Accepts a.ignore_case (parser_of_value p) read.value) is
    (accepts-Accepts a.ignore_case (parser_of_value a.parser) read.value read.passes) in
    subst (λ (t : Text). (t ≡ codes "true") ⊎ (t ≡ codes "false"))
    (sym text_is) (either (bytes_eq read.value (codes "true")) refl accepted)
  where
    switched_by : (t : Bool) → t ≡ true → (not t || is_switch a.parser) ≡ true → is_switch a.parser ≡ true
    switched_by true same takes = takes
    switched_by false other takes = cc

    either : (t : Bool) → bytes_eq read.value (codes "true") ≡ t → (t || bytes_eq read.value (codes "false")) ≡ true →
        (read.value ≡ codes "true") ⊎ (read.value ≡ codes "false")
    either true same is = inl ((bytes_eq-Decides read.value (codes "true")).0 same)
    either false other is = inr ((bytes_eq-Decides read.value (codes "false")).0 is)

pub flag_reads : (rules : List Rule) (id : Text) (rows : List Row) →
    list_all (takes_flag id) rules ≡ true → ArePassed rules rows → IsFlag id rows
flag_reads rules id rows all passed text is =
    some_gives rules (IsRead id text) (takes_flag id) _ all (reads rules id text rows passed is) (flag_of id text)
