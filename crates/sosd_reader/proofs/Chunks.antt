-- A chunk whose bytes are all there.
use Rattle.std.proofs.Common.{◌≡◌, ℕ, ◌+◌, ◌*◌, ◌^◌, ◌<◌, All, List, [], ◌++◌, length, sym, ap, ◌∙◌}
use Rattle.std.proofs.Common.{subst, length-append, arith, Option, mul-le-mul_left, mul-suc, ⊎_elim}
use Rattle.std.specs.List.{flat_map}
use Rattle.std.proofs.lemmas.Bool.{cases_lt}
use Rattle.std.proofs.lemmas.List.{append-nil, nil_from_length}
use Rattle.std.proofs.lemmas.List.Concat.{flat_map-append}
use Rattle.std.proofs.lemmas.List.Elements.{All-append}
use Rattle.byteorder.specs.Endian.{little_bytes}
use Rattle.edge.specs.Reading.{HasRead}
use Rattle.sosd_reader.specs.Reading.{GoesOn, ReadsNumbers}
use Rattle.edge.specs.Readers.{ReadsOn, ReadsPiece}
use Rattle.edge.specs.declared.shelf.Shelf.{Ghosts}
use Rattle.edge.proofs.ReaderLemmas.{pieces-read, same-piece}
use Rattle.sosd_reader.proofs.Fronts.{length-numbers}

-- what is over of whole numbers is less than one, so nothing
nothing-over : (width m k over : ℕ) → width * m ≡ width * k + over → over < width → over ≡ 0
nothing-over width m k over e short =
    ⊎_elim
    (λ less. let big = mul-le-mul_left width less in let step = mul-suc width k in absurd (omega arith))
    (λ more. let big = mul-le-mul_left width more in omega arith)
    (cases_lt k m)

pub whole-chunk : (width m : ℕ) (front piece keys : List ℕ) (before after : Option (List ℕ)) →
    GoesOn width front piece keys →
    HasRead before piece after → length piece ≡ width * m → ReadsNumbers width front keys before after
whole-chunk width m front piece keys before after goes read whole =
    let F = flat_map (little_bytes width) goes.numbers in
    let none : goes.over ≡ [] = nil_from_length goes.over
    (nothing-over width m (length goes.numbers) (length goes.over)
    (sym whole ∙ ap length goes.stand ∙ length-append F goes.over
    ∙ ap (λ (n : ℕ). n + length goes.over) (length-numbers width goes.numbers)) goes.whole) in
    let all : piece ≡ F = goes.stand ∙ ap (λ (w : List ℕ). F ++ w) none ∙ append-nil F in
    let P : List ℕ → Type 0 = λ w. HasRead before w after in
    record { numbers = goes.numbers; added = goes.added; each_fits = goes.each_fits; read = subst P all read }

-- the numbers that were read, and those that were read after them
pub reads-more : {S : Type 0} (shelf : Ghosts S) (width : ℕ) (front list : List ℕ) (first old new : S) →
    ReadsPiece shelf (flat_map (little_bytes width) front) first old →
    ReadsOn shelf (ReadsNumbers width front list) old new →
    ReadsPiece shelf (flat_map (little_bytes width) list) first new
reads-more shelf width front list first old new so_far reads =
    let F : List ℕ → List ℕ = flat_map (little_bytes width) in
    let numbers = reads.read.numbers in
    let same : F front ++ F numbers ≡ F list = sym (flat_map-append (little_bytes width) front numbers)
    ∙ ap F (sym reads.read.added) in
    same-piece shelf first new (F front ++ F numbers) (F list) same
    (pieces-read shelf first old new
    (F front) (F numbers) so_far (record { files = reads.files; quiet = reads.quiet; read = reads.read.read }))

pub fit-more : (width : ℕ) (front list : List ℕ) (before after : Option (List ℕ)) →
    ReadsNumbers width front list before after →
    All (λ number. number < 256 ^ width) front → All (λ number. number < 256 ^ width) list
fit-more width front list before after reads fits =
    subst (λ (w : List ℕ). All (λ number. number < 256 ^ width) w)
    (sym reads.added) (All-append (λ number. number < 256 ^ width) front reads.numbers fits reads.each_fits)
