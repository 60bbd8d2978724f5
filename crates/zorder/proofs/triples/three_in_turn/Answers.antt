-- Lane by lane, a mask for each of the three.
use Rattle.std.proofs.Common.{◌≡◌, ℕ, ◌^◌, ◌<◌, List, length, get_or, replicate}
use Rattle.std.proofs.Common.{refl, sym, ap, subst, ◌∙◌, bit_and, bit_or}
use Rattle.std.specs.Int.{bit_at}
use lib.Lanes.{zip2}
use Rattle.zorder.proofs.LaneLemmas.{long, lane, lane_with}
use Rattle.zorder.proofs.TripleLemmas.{in_turn, in_turn-lt, in_turn_first, in_turn_second, in_turn_third}
use Rattle.zorder.proofs.triples.three_in_turn.Goals as goal

abbrev under : ℕ → List ℕ → List ℕ
under mask xs = zip2 bit_and xs (replicate 4 mask)

module _ (a b c : List ℕ) (long_a : length a ≡ 4) (long_b : length b ≡ 4) (long_c : length c ≡ 4) where
  long_under : (mask : ℕ) (xs : List ℕ) → length xs ≡ 4 → length (under mask xs) ≡ 4
  long_under mask xs p = long bit_and xs (replicate 4 mask) p refl

  two : length (zip2 bit_or (under 0x07070707 a) (under 0x38383838 b)) ≡ 4
  two = long bit_or
      (under 0x07070707 a) (under 0x38383838 b) (long_under 0x07070707 a long_a) (long_under 0x38383838 b long_b)

  three : length (zip2 bit_or (zip2 bit_or (under 0x07070707 a) (under 0x38383838 b)) (under 0xc0c0c0c0 c)) ≡ 4
  three = long bit_or
      (zip2 bit_or (under 0x07070707 a) (under 0x38383838 b)) (under 0xc0c0c0c0 c) two (long_under 0xc0c0c0c0 c long_c)

  lanes : (i : ℕ) →
      i < 4 → get_or (zip2 bit_or (zip2 bit_or (under 0x07070707 a) (under 0x38383838 b)) (under 0xc0c0c0c0 c)) i 0
      ≡ in_turn (get_or a i 0) (get_or b i 0) (get_or c i 0)
  lanes i h =
      lane bit_or (zip2 bit_or (under 0x07070707 a) (under 0x38383838 b))
      (under 0xc0c0c0c0 c) two (long_under 0xc0c0c0c0 c long_c) i h
      ∙ ap (bit_or (get_or (zip2 bit_or (under 0x07070707 a) (under 0x38383838 b)) i 0))
      (lane_with bit_and c 0xc0c0c0c0 long_c i h)
      ∙ ap (λ n. bit_or n (bit_and (get_or c i 0) 0xc0c0c0c0))
      (lane bit_or (under 0x07070707 a)
      (under 0x38383838 b) (long_under 0x07070707 a long_a) (long_under 0x38383838 b long_b) i h
      ∙ ap (bit_or (get_or (under 0x07070707 a) i 0)) (lane_with bit_and b 0x38383838 long_b i h)
      ∙ ap (λ n. bit_or n (bit_and (get_or b i 0) 0x38383838)) (lane_with bit_and a 0x07070707 long_a i h))

pub returns-clause-long : goal.returns-clause-long
returns-clause-long c = three c.args.a c.args.b c.args.c c.fits-a.0 c.fits-b.0 c.fits-c.0

pub returns-clause-first : goal.returns-clause-first
returns-clause-first c i j among within below =
    ap (λ n. bit_at n j) (lanes c.args.a c.args.b c.args.c c.fits-a.0 c.fits-b.0 c.fits-c.0 i among)
    ∙ in_turn_first (get_or c.args.a i 0) (get_or c.args.b i 0) (get_or c.args.c i 0) j within below

pub returns-clause-second : goal.returns-clause-second
returns-clause-second c i j among within from below =
    ap (λ n. bit_at n j) (lanes c.args.a c.args.b c.args.c c.fits-a.0 c.fits-b.0 c.fits-c.0 i among)
    ∙ in_turn_second (get_or c.args.a i 0) (get_or c.args.b i 0) (get_or c.args.c i 0) j within from below

pub returns-clause-third : goal.returns-clause-third
returns-clause-third c i j among within from =
    ap (λ n. bit_at n j) (lanes c.args.a c.args.b c.args.c c.fits-a.0 c.fits-b.0 c.fits-c.0 i among)
    ∙ in_turn_third (get_or c.args.a i 0) (get_or c.args.b i 0) (get_or c.args.c i 0) j within from

pub returns-clause-range : goal.returns-clause-range
returns-clause-range c i among =
    subst (λ n. n < 2 ^ 32) (sym (lanes c.args.a c.args.b c.args.c c.fits-a.0 c.fits-b.0 c.fits-c.0 i among))
    (in_turn-lt (get_or c.args.a i 0) (get_or c.args.b i 0) (get_or c.args.c i 0))
