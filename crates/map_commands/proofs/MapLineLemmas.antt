-- The lines of `replay`, one after the other, and what they stand for.
use Rattle.std.proofs.Common.{◌≡◌, ◌<◌, ◌+◌, ◌++◌, ◌∷◌, [], ℕ, List, length, get_or, take, drop}
use Rattle.std.proofs.Common.{drop-cons, add-one, zero, suc, map, ap, sym, refl, ◌∙◌, subst, arith}
use Rattle.std.specs.Prelude.{All}
use Rattle.std.specs.List.{range_with_len}
use Rattle.std.proofs.lemmas.List.FromFn.{length-range_with_len, get_or-range_with_len}
use Rattle.std.proofs.lemmas.List.Elements.{All-head, All-tail, All-weaker}
use Rattle.log_levels.specs.declared.update.Update.{Update}
use Rattle.log_levels.specs.Maps.{map_after}
use Rattle.map_replay.specs.declared.question.Question.{Question}
use Rattle.map_replay.specs.declared.reading.Sighting.{Sighting}
use Rattle.map_replay.specs.declared.reading.Reading.{Reading}
use Rattle.map_replay.specs.Questions.{answer_of}
use Rattle.map_replay.specs.Readings.{AreAnswers, AreCut, IsPublished, IsWholeMixedReading}
use Rattle.map_replay.specs.Readings.{IsWholeReading, IsWholeReadingOf}
use Rattle.map_replay.proofs.BatchLemmas.{ends_within}
use Rattle.written.specs.InTurn.{TellsEach}
use Rattle.map_replay.specs.Mixes.{IsMix}
use Rattle.map_commands.specs.Mix.{IsAmong, IsMixedText, from_line}
use Rattle.map_commands.specs.Replay.{IsReadOf, IsReplayed, closing_lines, last_line}
use Rattle.map_commands.specs.Replay.{reader_line, reader_lines, updates_line}
use Rattle.map_commands.specs.MapLines.{IsTold, all_lines, read_lines, told_lines}

-- as many answers as questions, and the answer at a place
pub answers_count : (updates : List Update) (questions : List Question) (sightings : List Sighting) →
    AreAnswers updates questions sightings →
    length sightings ≡ length questions
answers_count updates [] [] are = refl
answers_count updates [] (s ∷ sightings) are = absurd are
answers_count updates (q ∷ questions) [] are = absurd are
answers_count updates (q ∷ questions) (s ∷ sightings) are = ap suc (answers_count updates questions sightings are.1)

pub answer_at : (updates : List Update) (questions : List Question)
    (sightings : List Sighting) (i : ℕ) (d : Question) (e : Sighting) → i < length questions →
    AreAnswers updates questions sightings →
    (get_or sightings i e).answer
    ≡ answer_of (map_after (take (get_or sightings i e).length updates)) (get_or questions i d)
answer_at updates [] sightings i d e there are = absurd (omega (arith, there))
answer_at updates (q ∷ questions) [] i d e there are = absurd are
answer_at updates (q ∷ questions) (s ∷ sightings) zero d e there are = are.0
answer_at updates (q ∷ questions) (s ∷ sightings) (suc i) d e there are =
    answer_at updates questions sightings i d e (omega (arith, there)) are.1

-- what is left of a reader's lines begins with the one of this question
pub reading_begins : (updates : List Update)
    (reader : ℕ) (questions : List Question) (sightings : List Sighting) (i : ℕ) (d : Question) (e : Sighting)
    (piece : List ℕ) → i < length questions →
    i < length sightings → piece ≡ reader_line updates reader (get_or questions i d) (get_or sightings i e).length →
    reader_lines updates reader (drop i questions) (drop i sightings)
    ≡ (piece ∷ []) ++ reader_lines updates reader (drop (i + 1) questions) (drop (i + 1) sightings)
reading_begins updates reader questions sightings i d e piece there seen is =
    let qs = drop-cons questions i d there
    ∙ ap (λ (n : ℕ). get_or questions i d ∷ drop n questions) (sym (add-one i)) in
    let ss = drop-cons sightings i e seen ∙ ap (λ (n : ℕ). get_or sightings i e ∷ drop n sightings) (sym (add-one i)) in
    ap (λ (q : List Question). reader_lines updates reader q (drop i sightings)) qs
    ∙ (ap (λ (s : List Sighting). reader_lines updates reader (get_or questions i d ∷ drop (i + 1) questions) s) ss
    ∙ ap (λ (line : List ℕ). line ∷ reader_lines updates reader (drop (i + 1) questions) (drop (i + 1) sightings))
    (sym is))

-- what is left of all readers' lines begins with those of this reader
pub read_begins : (updates : List Update) (questions : List Question) (readings : List Reading) (i : ℕ) (d : Reading) →
    i < length readings →
    read_lines updates questions i (drop i readings)
    ≡ reader_lines updates i questions (get_or readings i d).sightings.items
    ++ read_lines updates questions (i + 1) (drop (i + 1) readings)
read_begins updates questions readings i d there =
    ap (λ (r : List Reading). read_lines updates questions i r)
    (drop-cons readings i d there ∙ ap (λ (n : ℕ). get_or readings i d ∷ drop n readings) (sym (add-one i)))

-- what is left of the last lines begins with that of this reader
pub last_begins : (count n i : ℕ) (piece : List ℕ) → i < n → piece ≡ last_line count i →
    map (last_line count) (drop i (range_with_len 0 n)) ≡ (piece ∷ [])
    ++ map (last_line count) (drop (i + 1) (range_with_len 0 n))
last_begins count n i piece there is =
    let within : i < length (range_with_len 0 n) = omega (arith, length-range_with_len 0 n, there) in
    let here : get_or (range_with_len 0 n) i 0 ≡ i = omega (arith, get_or-range_with_len 0 n i 0 there) in
    ap (map (last_line count)) (drop-cons (range_with_len 0 n) i 0 within
    ∙ ap (λ (k : ℕ). get_or (range_with_len 0 n) i 0 ∷ drop k (range_with_len 0 n)) (sym (add-one i)))
    ∙ (ap (λ (k : ℕ). last_line count k ∷ map (last_line count) (drop (i + 1) (range_with_len 0 n))) here
    ∙ ap (λ (line : List ℕ). line ∷ map (last_line count) (drop (i + 1) (range_with_len 0 n))) (sym is))

-- the lines are those of the text
module _ (IsLength : ℕ → Type 0) (updates : List Update) (questions : List Question) where
  all_read : (from : ℕ) (readings : List Reading) → All (IsWholeReadingOf IsLength updates questions) readings →
      TellsEach (IsReadOf IsLength updates questions)
      (range_with_len from (length readings)) (read_lines updates questions from readings)
  all_read from [] each = refl
  all_read from (reading ∷ readings) each =
      let whole : IsWholeReadingOf IsLength updates questions reading =
      All-head (IsWholeReadingOf IsLength updates questions) reading readings each in (
        reader_lines updates from questions reading.sightings.items,
        read_lines updates questions (from + 1) readings,
        (reading.sightings.items, whole.beside, refl),
        all_read (from + 1) readings (All-tail (IsWholeReadingOf IsLength updates questions) reading readings each),
        refl,
      )

  -- those of so many readers
  of_readers : (readings : List Reading) (readers : ℕ) →
      length readings ≡ readers → All (IsWholeReadingOf IsLength updates questions) readings →
      TellsEach
      (IsReadOf IsLength updates questions) (range_with_len 0 readers) (read_lines updates questions 0 readings)
  of_readers readings readers count each =
      subst (λ (n : ℕ). TellsEach
      (IsReadOf IsLength updates questions) (range_with_len 0 n) (read_lines updates questions 0 readings))
      count (all_read 0 readings each)

pub is_replayed : (updates : List Update)
    (questions : List Question) (batch : ℕ) (readings : List Reading) (readers : ℕ) → length readings ≡ readers →
    All (IsWholeReading updates batch questions) readings →
    IsReplayed updates questions batch readers (all_lines [] updates questions readings)
is_replayed updates questions batch readings readers count each = record {
  read = read_lines updates questions 0 readings;
  each = of_readers (IsPublished batch (length updates)) updates questions readings readers count each;
  lines =
      ap (λ (n : ℕ). updates_line (length updates)
      ∷ (read_lines updates questions 0 readings ++ closing_lines updates questions n)) count;
}

-- what a reader may see of fewer numbers of updates it may see of more
whole_weaker : {Was Is : ℕ → Type 0} →
    ((n : ℕ) → Was n → Is n) → (updates : List Update) (questions : List Question) (reading : Reading) →
    IsWholeReadingOf Was updates questions reading → IsWholeReadingOf Is updates questions reading
whole_weaker {Was} {Is} weaker updates questions reading whole = record {
  beside = record {
    answers = whole.beside.answers;
    knew = All-weaker (λ (s : Sighting). Was s.known)
        (λ (s : Sighting). Is s.known) (λ s was. weaker s.known was) reading.sightings.items whole.beside.knew;
    published = All-weaker (λ (s : Sighting). Was s.length)
        (λ (s : Sighting). Is s.length) (λ s was. weaker s.length was) reading.sightings.items whole.beside.published;
    never_forgets = whole.beside.never_forgets;
  };
  last = whole.last;
}

-- and those of a mix
pub is_mixed_text : (updates : List Update) (questions : List Question)
    (senders : ℕ) (numbers : List ℕ) (mixed : List Update) (readings : List Reading) (readers : ℕ) →
    (batches : List (List Update)) (most : ℕ) → AreCut most mixed batches →
    IsMix senders updates numbers mixed →
    length readings ≡ readers → All (IsWholeMixedReading batches mixed questions) readings →
    IsMixedText updates questions readers senders (all_lines numbers mixed questions readings)
is_mixed_text updates questions senders numbers mixed readings readers batches most cut order count each = record {
  numbers = numbers;
  mixed = mixed;
  order = order;
  read = read_lines mixed questions 0 readings;
  each = of_readers (IsAmong (length mixed)) mixed questions readings readers count
      (All-weaker
      (IsWholeMixedReading batches mixed questions) (IsWholeReadingOf (IsAmong (length mixed)) mixed questions)
      (whole_weaker (λ n ends. ends_within most mixed batches n cut ends) mixed questions) readings each);
  lines = ap (λ (n : ℕ). updates_line n ∷ (map from_line numbers ++ told_lines mixed questions readings)) order.count
      ∙ ap (λ (n : ℕ). updates_line (length updates) ∷
      (map from_line numbers ++ (read_lines mixed questions 0 readings ++ closing_lines mixed questions n))) count;
}

-- the text of the same updates and questions
pub same_lines : (readings : List Reading) {xs ys : List Update} {ps qs : List Question} → xs ≡ ys → ps ≡ qs →
    all_lines [] xs ps readings ≡ all_lines [] ys qs readings
same_lines readings {xs} {ys} {ps} {qs} updates questions =
    ap (λ (u : List Update). all_lines [] u ps readings) updates
    ∙ ap (λ (q : List Question). all_lines [] ys q readings) questions

-- a reader's text is of what it was answered and saw last
pub whole_told : {IsLength : ℕ → Type 0} (updates : List Update) (questions : List Question) (reading : Reading) →
    IsWholeReadingOf IsLength updates questions reading → IsTold updates questions reading
whole_told updates questions reading whole = record { answers = whole.beside.answers; last = whole.last }
