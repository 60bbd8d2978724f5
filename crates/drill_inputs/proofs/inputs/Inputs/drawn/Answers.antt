-- What holds of the lists holds by their definitions.
use Rattle.std.proofs.Common.{◌≡◌, ◌*◌, ◌<◌, ◌^◌, length, ap, sym, ◌∙◌, subst, arith}
use Rattle.std.specs.List.{All}
use Rattle.std.specs.List.Sorted.{IsNonDecreasing}
use Rattle.zorder.specs.Points.{ArePoints}
use Rattle.log_levels.specs.Accepted.{IsPlain}
use Rattle.drill_inputs.specs.Draws.{state_after}
use Rattle.drill_inputs.specs.Inputs.{keys_of, finds_of, coordinates_of, updates_of}
use Rattle.drill_inputs.proofs.InputLemmas.{keys-never_fall, keys-small, coordinates-small}
use Rattle.drill_inputs.proofs.InputLemmas.{ArePoints-coordinates, updates-plain, length-keys}
use Rattle.drill_inputs.proofs.InputLemmas.{length-finds, length-coordinates, length-updates}
use Rattle.drill_inputs.proofs.inputs.Inputs.drawn.Goals as goal

keys-are : (c : goal.In_ok-updates) → c.in_ok-keys.keys.items ≡ keys_of c.args.drill.number c.args.drill.seed
keys-are c = c.in_ok-keys.ensures.keys ∙ ap (keys_of c.args.drill.number) c.new-generator.ensures

after_keys : (c : goal.In_ok-updates) → c.keys.new.generator ≡ state_after c.args.drill.seed c.args.drill.number
after_keys c = c.in_ok-keys.ensures.state ∙ ap (λ s. state_after s c.args.drill.number) c.new-generator.ensures

finds-are : (c : goal.In_ok-updates) → c.in_ok-finds.finds.items ≡ finds_of c.args.drill.number c.args.drill.seed
finds-are c = c.in_ok-finds.ensures.finds c.args.drill.seed (after_keys c)

after_finds : (c : goal.In_ok-updates) → c.finds.new.generator ≡ state_after c.args.drill.seed (2 * c.args.drill.number)
after_finds c = c.in_ok-finds.ensures.state c.args.drill.seed (after_keys c)

coordinates-are : (c : goal.In_ok-updates) →
    c.in_ok-coordinates.coordinates.items ≡ coordinates_of c.args.drill.number c.args.drill.seed
coordinates-are c = c.in_ok-coordinates.ensures.coordinates c.args.drill.seed (after_finds c)

updates-are : (c : goal.In_ok-updates) →
    c.in_ok-updates.updates.items ≡ updates_of c.args.drill.number c.args.drill.seed
updates-are c =
    c.in_ok-updates.ensures c.args.drill.seed (c.in_ok-coordinates.ensures.state c.args.drill.seed (after_finds c))

pub returns-clause-keys : goal.returns-clause-keys
returns-clause-keys c = keys-are c

pub returns-clause-finds : goal.returns-clause-finds
returns-clause-finds c = finds-are c

pub returns-clause-coordinates : goal.returns-clause-coordinates
returns-clause-coordinates c = coordinates-are c

pub returns-clause-updates : goal.returns-clause-updates
returns-clause-updates c = updates-are c

pub returns-clause-key_count : goal.returns-clause-key_count
returns-clause-key_count c =
    omega (arith, c.in_ok-keys.keys.ok.0, ap length (keys-are c), length-keys c.args.drill.number c.args.drill.seed)

pub returns-clause-never_falls : goal.returns-clause-never_falls
returns-clause-never_falls c =
    subst IsNonDecreasing (sym (keys-are c)) (keys-never_fall c.args.drill.number c.args.drill.seed)

pub returns-clause-small : goal.returns-clause-small
returns-clause-small c = subst
    (All (λ key. key < 2 ^ 24)) (sym (keys-are c)) (keys-small c.args.drill.number c.args.drill.seed c.args.drill.few)

pub returns-clause-find_count : goal.returns-clause-find_count
returns-clause-find_count c =
    omega (arith, c.in_ok-finds.finds.ok.0, ap length (finds-are c), length-finds c.args.drill.number c.args.drill.seed)

pub returns-clause-points : goal.returns-clause-points
returns-clause-points c = subst (ArePoints 2)
    (sym (coordinates-are c)) (ArePoints-coordinates c.args.drill.number c.args.drill.seed c.args.drill.few)

pub returns-clause-point_count : goal.returns-clause-point_count
returns-clause-point_count c =
    omega (
      arith,
      c.in_ok-coordinates.coordinates.ok.0,
      ap length (coordinates-are c),
      length-coordinates c.args.drill.number c.args.drill.seed,
    )

pub returns-clause-near : goal.returns-clause-near
returns-clause-near c = subst
    (All (λ value. value < 256)) (sym (coordinates-are c)) (coordinates-small c.args.drill.number c.args.drill.seed)

pub returns-clause-plain : goal.returns-clause-plain
returns-clause-plain c = subst (All IsPlain) (sym (updates-are c)) (updates-plain c.args.drill.number c.args.drill.seed)

pub returns-clause-update_count : goal.returns-clause-update_count
returns-clause-update_count c =
    omega (
      arith,
      c.in_ok-updates.updates.ok.0,
      ap length (updates-are c),
      length-updates c.args.drill.number c.args.drill.seed,
    )
