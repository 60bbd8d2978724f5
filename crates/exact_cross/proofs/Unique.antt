-- Two segmentations of the same points are equal: their starts are, since the greedy
-- ones are one list, and so are the pairs, the lines and the cuts of each run.
use Rattle.std.proofs.Common.{◌≡◌, ℕ, ◌+◌, ◌<◌, ◌≤◌, ◌∙◌, List, [], ◌∷◌, Option}
use Rattle.std.proofs.Common.{Some, inl, inr, refl, ap, subst, sym, arith}
use Rattle.std.proofs.lemmas.Bool.{cases_lt}
use Rattle.exact_cross.specs.declared.line.Line.{Line}
use Rattle.exact_cross.specs.declared.segment.Side.{Side}
use Rattle.exact_cross.specs.declared.segment.Side.TheVariants.{Over, Under}
use Rattle.exact_cross.specs.declared.segment.Witness.{Witness}
use Rattle.exact_cross.specs.declared.segment.Segment.{Segment}
use Rattle.exact_cross.specs.Points.{Points}
use Rattle.exact_cross.specs.Covers.{run_end, IsGreedy, IsLongest}
use Rattle.exact_cross.specs.Steep.{IsSteepOf, line_of_pair}
use Rattle.exact_cross.specs.Segments.{starts_of, EachRun, IsSteepSegment}
use Rattle.exact_cross.specs.Cuts.{CutsAt, IsCutOf, HasItsCut}
use Rattle.exact_cross.proofs.CallerLemmas.{IsSteepPair-unique, IsFlatPair-unique, IsGreedy-unique, CutsInto-rises}
use Rattle.exact_cross.specs.Segmentation.{IsSegmentation}

-- a run has one cut on one side
cuts_agree : (p : Points) (eps s e : ℕ) (side side' : Side) (a b a' b' : ℕ) →
    CutsAt p eps s e side a b → CutsAt p eps s e side' a' b' →
    (a ≡ a') × (b ≡ b') × (side ≡ side')
cuts_agree p eps s e Over Over a b a' b' one two =
    let same = IsSteepPair-unique p eps s e a b a' b' one.0 two.0 in (same.0, same.1, refl)
cuts_agree p eps s e Under Under a b a' b' one two =
    let same = IsFlatPair-unique p eps s e a b a' b' one.0 two.0 in (same.0, same.1, refl)
cuts_agree p eps s e Over Under a b a' b' one two = absurd (one.2 a' b' two.0 two.1)
cuts_agree p eps s e Under Over a b a' b' one two = absurd (two.2 a b one.0 one.1)

IsCutOf-unique : (p : Points) (eps s e : ℕ) (w w' : Witness) → IsCutOf p eps s e w → IsCutOf p eps s e w' → w ≡ w'
IsCutOf-unique p eps s e w w' one two =
    let same = cuts_agree p eps s e w.side w'.side w.p w.q w'.p w'.q one.side two.side in
    let pairs : w.p ≡ w'.p = same.0 in
    let uppers : w.q ≡ w'.q = same.1 in
    let sides : w.side ≡ w'.side = same.2 in
    let places : w.r ≡ w'.r = one.place ∙ sym two.place in
    let with_p : ℕ → Witness = λ n. record { p = n; q = w.q; r = w.r; side = w.side } in
    let with_q : ℕ → Witness = λ n. record { p = w'.p; q = n; r = w.r; side = w.side } in
    let with_r : ℕ → Witness = λ n. record { p = w'.p; q = w'.q; r = n; side = w.side } in
    let with_side : Side → Witness = λ side. record { p = w'.p; q = w'.q; r = w'.r; side = side } in
    ap with_p pairs ∙ (ap with_q uppers ∙ (ap with_r places ∙ ap with_side sides))

HasItsCut-unique : (p : Points) (eps to e : ℕ) (one two : Segment) →
    e ≤ to → one.start ≡ two.start → HasItsCut p eps to one e → HasItsCut p eps to two e → one.cut ≡ two.cut
HasItsCut-unique p eps to e one two within same cut_one cut_two = elim (cases_lt e to) [
  | inl before ↦
      let own = cut_one.other before in
      let other = cut_two.other before in
      own.1 ∙ ap (λ (w : Witness). Some w)
      (IsCutOf-unique p eps two.start e own.0 other.0 (subst (λ (s : ℕ). IsCutOf p eps s e own.0) same own.2) other.2)
      ∙ sym other.1
  | inr at_end ↦ cut_one.last (omega arith) ∙ sym (cut_two.last (omega arith))
]

-- a run has one pair and one line
IsSteepOf-unique : (p : Points) (eps s e a b c d : ℕ) →
    s < e → IsSteepOf p eps s e a b → IsSteepOf p eps s e c d → (a ≡ c) × (b ≡ d)
IsSteepOf-unique p eps s e a b c d some one two = elim (cases_lt (s + 1) e) [
  | inl more ↦ IsSteepPair-unique p eps s e a b c d (one.steep more) (two.steep more)
  | inr single ↦
      let first = one.alone (omega arith) in
      let second = two.alone (omega arith) in
      (first.0 ∙ sym second.0, first.1 ∙ sym second.1)
]

segment_unique : (p : Points) (eps to e : ℕ) (one two : Segment) → one.start < e → e ≤ to → one.start ≡ two.start →
    IsSteepSegment p eps one e →
    IsSteepSegment p eps two e → HasItsCut p eps to one e → HasItsCut p eps to two e → one ≡ two
segment_unique p eps to e one two some within starts steep_one steep_two cut_one cut_two =
    let pairs = IsSteepOf-unique p eps two.start e one.a one.b two.a two.b
    (omega arith) (subst (λ (s : ℕ). IsSteepOf p eps s e one.a one.b) starts steep_one.pair) steep_two.pair in
    let lowers : one.a ≡ two.a = pairs.0 in
    let uppers : one.b ≡ two.b = pairs.1 in
    let lines : one.line ≡ two.line = steep_one.line ∙ ap (λ (a : ℕ). line_of_pair p eps a one.b) lowers
    ∙ ap (λ (b : ℕ). line_of_pair p eps two.a b) uppers ∙ sym steep_two.line in
    let cuts : one.cut ≡ two.cut = HasItsCut-unique p eps to e one two within starts cut_one cut_two in
    let with_start : ℕ → Segment = λ n. record { start = n; a = one.a; b = one.b; line = one.line; cut = one.cut } in
    let with_a : ℕ → Segment = λ n. record { start = two.start; a = n; b = one.b; line = one.line; cut = one.cut } in
    let with_b : ℕ → Segment = λ n. record { start = two.start; a = two.a; b = n; line = one.line; cut = one.cut } in
    let with_line :
    Line → Segment = λ line. record { start = two.start; a = two.a; b = two.b; line = line; cut = one.cut } in
    let with_cut : Option Witness → Segment =
    λ cut. record { start = two.start; a = two.a; b = two.b; line = two.line; cut = cut } in
    ap with_start starts ∙ (ap with_a lowers ∙ (ap with_b uppers ∙ (ap with_line lines ∙ ap with_cut cuts)))

segments_unique : (p : Points) (eps from to : ℕ) (one two : List Segment) →
    IsGreedy p eps from to (starts_of one) → IsGreedy p eps from to (starts_of two) →
    EachRun (IsSteepSegment p eps) to one → EachRun (IsSteepSegment p eps) to two →
    EachRun (HasItsCut p eps to) to one → EachRun (HasItsCut p eps to) to two → one ≡ two
segments_unique p eps from to [] [] greedy_one greedy_two steep_one steep_two cuts_one cuts_two = refl
segments_unique p eps from to [] (segment ∷ later) greedy_one greedy_two steep_one steep_two cuts_one cuts_two =
    let same = IsGreedy-unique p eps to (starts_of []) (starts_of (segment ∷ later)) from greedy_one greedy_two in cc
segments_unique p eps from to (segment ∷ later) [] greedy_one greedy_two steep_one steep_two cuts_one cuts_two =
    let same = IsGreedy-unique p eps to (starts_of (segment ∷ later)) (starts_of []) from greedy_one greedy_two in cc
segments_unique p eps from to
    (segment ∷ later) (other ∷ others) greedy_one greedy_two steep_one steep_two cuts_one cuts_two =
    let e = run_end (starts_of later) to in
    let same = IsGreedy-unique p eps to
    (starts_of (segment ∷ later)) (starts_of (other ∷ others)) from greedy_one greedy_two in
    let tails : starts_of later ≡ starts_of others = cc in
    let ends : run_end (starts_of others) to ≡ e = ap (λ (starts : List ℕ). run_end starts to) (sym tails) in
    let starts : segment.start ≡ other.start = greedy_one.0 ∙ sym greedy_two.0 in
    let head = segment_unique p eps to e segment other (omega (arith, greedy_one.0, greedy_one.1))
    (CutsInto-rises (IsLongest p eps to) (starts_of later) e to greedy_one.3) starts
    steep_one.0 (subst (λ (n : ℕ). IsSteepSegment p eps other n) ends steep_two.0) cuts_one.0
    (subst (λ (n : ℕ). HasItsCut p eps to other n) ends cuts_two.0) in
    let rest = segments_unique p eps e to later others greedy_one.3
    (subst (λ (n : ℕ). IsGreedy p eps n to (starts_of others)) ends greedy_two.3)
    steep_one.1 steep_two.1 cuts_one.1 cuts_two.1 in
    cc

pub IsSegmentation-unique : (p : Points) (eps from to : ℕ) (one two : List Segment) →
    IsSegmentation p eps from to one → IsSegmentation p eps from to two → one ≡ two
IsSegmentation-unique p eps from to one two first second =
    segments_unique p eps from to one two first.greedy second.greedy first.steep second.steep first.cuts second.cuts
