use Rattle.std.proofs.Common.{◌≡◌, ◌+◌, ◌<◌, List, length, slice_index, Some, None, IsSome, refl, subst, sym, ap, ◌∙◌}
use Rattle.tombstones.specs.declared.entry.Entry.{Entry}
use Rattle.tombstones.specs.Entries.{entry_at}
use Rattle.window_search.specs.Searches.{lb}
use Rattle.map_level.specs.Levels.{level_keys}
use Rattle.log_levels.specs.Shapes.{level_of, from_bit}
use Rattle.log_levels.specs.Kept.{AreHeads}
use Rattle.log_levels.proofs.HeadLemmas.{heads-none, heads-pushed, level-inside}
use Rattle.log_levels.proofs.log_map.LogMap.push_head.Goals as goal

pub returns-in-Some-key_at : goal.returns-in-Some-key_at
returns-in-Some-key_at c = λ rest lowest one are.
    let here : level_of c.args.self.now c.args.i ≡ Some c.in-Some.level.now = sym c.in-Some.ensures in
    subst (AreHeads c.args.self.now c.args.places.now (from_bit (c.args.i + 1) rest)) (sym c.push.ensures.items)
    (heads-pushed c.args.self.now
    c.args.places.now rest c.args.i c.in-Some-key_at.key c.args.heads.now.items lowest one are (record {
      inside = level-inside c.args.self.now c.args.i c.in-Some.level.now here;
      taken = subst IsSome (sym here) refl;
      stands = λ level level_is.
          let both : Some c.in-Some.level.now ≡ Some level = sym here ∙ level_is in
          let one : c.in-Some.level.now ≡ level = cc in
          subst (λ (list : List Entry). (slice_index c.args.places.now c.args.i < length list)
          × (slice_index (level_keys list) (slice_index c.args.places.now c.args.i) ≡ c.in-Some-key_at.key)) one
          c.in-Some-key_at.ensures.at;
    }) (λ from other level level_is at le below.
    let both : Some c.in-Some.level.now ≡ Some level = sym here ∙ level_is in
    let one : c.in-Some.level.now ≡ level = cc in
    ap (λ (list : List Entry). entry_at list other) (sym one)
    ∙ c.in-Some-key_at.ensures.least from other
    (at ∙ ap (λ (list : List Entry). lb (level_keys list) from) (sym one)) le below))

pub returns-in_default-key_at : goal.returns-in_default-key_at
returns-in_default-key_at c = λ rest lowest one are.
    let here : level_of c.args.self.now c.args.i ≡ Some c.in-Some.level.now = sym c.in-Some.ensures in
    heads-none c.args.self.now c.args.places.now rest c.args.i c.args.heads.now.items lowest are
    (λ from key level level_is at le.
    let both : Some c.in-Some.level.now ≡ Some level = sym here ∙ level_is in
    let one : c.in-Some.level.now ≡ level = cc in
    ap (λ (list : List Entry). entry_at list key) (sym one)
    ∙ c.in_default-key_at.ensures.least from key
    (at ∙ ap (λ (list : List Entry). lb (level_keys list) from) (sym one)) le tt)

pub returns-in_default : goal.returns-in_default
returns-in_default c = λ rest lowest one are.
    heads-none c.args.self.now c.args.places.now rest c.args.i c.args.heads.now.items lowest are
    (λ from key level level_is at le.
    let apart : None ≡ Some level = c.in_default.ensures ∙ level_is in cc)
