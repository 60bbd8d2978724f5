-- The text of `replay`.
use Rattle.std.specs.Prelude.{◌≡◌, ℕ, List, [], ◌∷◌, ◌++◌, length, take, map, codes, decimal, Option, None, Some}
use Rattle.std.specs.List.{range_with_len}
use Rattle.log_levels.specs.declared.update.Update.{Update}
use Rattle.log_levels.specs.Maps.{map_after, value_at, next_from, count_between, live_in}
use Rattle.map_replay.specs.declared.question.Question.{Question}
use Rattle.map_replay.specs.declared.question.Question.TheVariants.{Get, Next, Count}
use Rattle.map_replay.specs.declared.reading.Sighting.{Sighting}
use Rattle.map_replay.specs.Readings.{IsPublished, IsReadingOf}
use Rattle.written.specs.TextLines.{text_line}
use Rattle.written.specs.InTurn.{TellsEach}

-- `get K V`, or `get K none`
abbrev pub get_words : ℕ → Option ℕ → List (List ℕ)
get_words key None = codes "get" ∷ decimal key ∷ codes "none" ∷ []
get_words key (Some value) = codes "get" ∷ decimal key ∷ decimal value ∷ []

-- `next Q KEY V`, or `next Q none`
abbrev pub next_words : ℕ → Option (ℕ × ℕ) → List (List ℕ)
next_words from None = codes "next" ∷ decimal from ∷ codes "none" ∷ []
next_words from (Some (key, value)) = codes "next" ∷ decimal from ∷ decimal key ∷ decimal value ∷ []

-- `count A B N`
abbrev pub count_words : (low high count : ℕ) → List (List ℕ)
count_words low high count = codes "count" ∷ decimal low ∷ decimal high ∷ decimal count ∷ []

-- what a map answers to a question
abbrev pub answer_words : List (ℕ × ℕ) → Question → List (List ℕ)
answer_words pairs (Get key) = get_words key (value_at pairs key)
answer_words pairs (Next from) = next_words from (next_from pairs from)
answer_words pairs (Count low high) = count_words low high (count_between pairs low high)

-- `updates N`
abbrev pub updates_line : ℕ → List ℕ
updates_line count = text_line (codes "updates" ∷ decimal count ∷ [])

-- `reader R K ANSWER`: the answer of the map after the first K updates
abbrev pub reader_line : List Update → (reader : ℕ) → Question → (length : ℕ) → List ℕ
reader_line updates reader question length =
    text_line
    (codes "reader" ∷ decimal reader ∷ decimal length ∷ answer_words (map_after (take length updates)) question)

-- for each question in turn
abbrev pub reader_lines : List Update → ℕ → List Question → List Sighting → List (List ℕ)
reader_lines updates reader (question ∷ questions) (sighting ∷ sightings) =
    reader_line updates reader question sighting.length ∷ reader_lines updates reader questions sightings
reader_lines updates reader questions sightings = []

-- the lines of reader R, where such are the numbers of updates that it may
-- see: each answer is after so many, and after no fewer than the one before
abbrev pub IsReadOf : (IsLength : ℕ → Type 0) → List Update → List Question → (reader : ℕ) → List (List ℕ) → Type 0
IsReadOf IsLength updates questions reader pieces =
    (sightings : List Sighting)
    × IsReadingOf IsLength updates questions sightings × (pieces ≡ reader_lines updates reader questions sightings)

-- after published updates
abbrev pub IsRead : List Update → List Question → (batch reader : ℕ) → List (List ℕ) → Type 0
IsRead updates questions batch = IsReadOf (IsPublished batch (length updates)) updates questions

-- `reader R last K`
abbrev pub last_line : (count reader : ℕ) → List ℕ
last_line count reader = text_line (codes "reader" ∷ decimal reader ∷ codes "last" ∷ decimal count ∷ [])

-- `end ANSWER`
abbrev pub end_line : List (ℕ × ℕ) → Question → List ℕ
end_line pairs question = text_line (codes "end" ∷ answer_words pairs question)

-- `live N`
abbrev pub live_line : List (ℕ × ℕ) → List ℕ
live_line pairs = text_line (codes "live" ∷ decimal (live_in pairs) ∷ [])

-- the answers of a map, and how many keys it has
abbrev pub end_lines : List (ℕ × ℕ) → List Question → List (List ℕ)
end_lines pairs questions = map (end_line pairs) questions ++ live_line pairs ∷ []

-- what comes behind what the readers were answered: that each saw all updates, and what the map after them answers
abbrev pub closing_lines : List Update → List Question → (readers : ℕ) → List (List ℕ)
closing_lines updates questions readers =
    map (last_line (length updates)) (range_with_len 0 readers) ++ end_lines (map_after updates) questions

-- how many updates there are, what each reader was answered beside them, and what the map after all of them answers
pub record IsReplayed (updates : List Update) (questions : List Question) (batch readers : ℕ) (pieces : List (List ℕ)) :
    Type 0 where
  pub read : List (List ℕ)
  pub each : TellsEach (IsRead updates questions batch) (range_with_len 0 readers) read
  pub lines : pieces ≡ updates_line (length updates) ∷ (read ++ closing_lines updates questions readers)
