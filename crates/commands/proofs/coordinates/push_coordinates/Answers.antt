use Rattle.std.proofs.Common.{◌≡◌, ◌∙◌, ◌+◌, ◌++◌, ◌∷◌, [], ap, sym, refl, ℕ, List, arith, append_assoc}
use Rattle.std.specs.Prelude.{decimal, get_or}
use Rattle.std.specs.List.{join_with_byte}
use Rattle.std.proofs.lemmas.List.{append-nil}
use Rattle.std.proofs.lemmas.List.FromFn.{map-range_with_len_more}
use Rattle.zorder.specs.Codes.{coordinate}
use Rattle.commands.specs.Texts.Coordinates.{coordinate_words}
use Rattle.commands.proofs.coordinates.push_coordinates.Goals as goal

-- a word more
join_more : (x : List ℕ) (xs : List (List ℕ)) (w : List ℕ) →
    join_with_byte 32 (x ∷ (xs ++ w ∷ [])) ≡ join_with_byte 32 (x ∷ xs) ++ 32 ∷ w
join_more x [] w = refl
join_more x (y ∷ ys) w =
    ap (λ (rest : List ℕ). x ++ 32 ∷ rest) (join_more y ys w)
    ∙ sym (append_assoc x (32 ∷ join_with_byte 32 (y ∷ ys)) (32 ∷ w))

words_more : (first : List ℕ) (words : List (List ℕ)) (d code n : ℕ) →
    join_with_byte 32 (first ∷ (words ++ coordinate_words d code (n + 1)))
    ≡ join_with_byte 32 (first ∷ (words ++ coordinate_words d code n)) ++ 32 ∷ decimal (coordinate d n code)
words_more first words d code n =
    let told = λ (c : ℕ). decimal (coordinate d c code) in
    ap (λ (ws : List (List ℕ)). join_with_byte 32 (first ∷ ws))
    (ap (λ (ws : List (List ℕ)). words ++ ws) (map-range_with_len_more told 0 n n (omega arith))
    ∙ sym (append_assoc words (coordinate_words d code n) (told n ∷ [])))
    ∙ join_more first (words ++ coordinate_words d code n) (told n)

pub loop-c-init : goal.loop-c-init
loop-c-init c = (
  λ first words is. is
      ∙ ap (λ (ws : List (List ℕ)). join_with_byte 32 (first ∷ ws)) (sym (append-nil words)),
  omega arith,
)

pub push_number-requires : goal.push_number-requires
push_number-requires c = omega (arith, c.loop-c.invariant.1, c.requires.dimension.1, c.requires.room)

pub loop-c-preserved : goal.loop-c-preserved
loop-c-preserved c = (
  λ first words is.
      let so_far = join_with_byte 32 (first ∷ (words ++ coordinate_words c.args.d c.args.code c.loop-c.c)) in
      c.push_number.ensures.text
      ∙ ap (λ (line : List ℕ). line ++ 32 ∷ decimal (get_or c.decode-coordinates.result c.loop-c.c 0))
      (c.loop-c.invariant.0 first words is)
      ∙ ap (λ (value : ℕ). so_far ++ 32 ∷ decimal value)
      (c.decode-coordinates.ensures.coordinates c.loop-c.c c.loop-c-test.true)
      ∙ sym (words_more first words c.args.d c.args.code c.loop-c.c),
  omega (arith, c.push_number.ensures.room, c.loop-c.invariant.1),
)

pub returns-clause-text : goal.returns-clause-text
returns-clause-text c = λ first words is.
    c.loop-c.invariant.0 first words is
    ∙ ap (λ (n : ℕ). join_with_byte 32 (first ∷ (words ++ coordinate_words c.args.d c.args.code n))) (omega arith)

pub returns-clause-room : goal.returns-clause-room
returns-clause-room c = omega (arith, c.loop-c.invariant.1)
